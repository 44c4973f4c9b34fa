-- Heads of a column.
use Rattle.std.specs.Prelude.{◌≡◌, cond, Bool, true, List, [], ◌∷◌, ◌++◌, Option, Some, None}
use Rattle.std.specs.List.{list_any}
use Rattle.sml_static.specs.Exhaustive.{Head, HeadLiteral, HeadKey, Another, is_same_head, can_stand}

-- whether a literal can stand in a shape: a character is below 256
abbrev pub stands : Head → Bool
stands (HeadLiteral l) = can_stand l
stands (HeadKey k n) = true
stands Another = true

-- heads with one more at their end, if none of them is alike to it
abbrev pub with_head : List Head → Option Head → List Head
with_head hs None = hs
with_head hs (Some h) = cond (list_any (is_same_head h) hs) hs (hs ++ h ∷ [])

-- the heads, and another where there are others
abbrev pub with_others : Bool → List Head → List Head
with_others b hs = cond b (hs ++ Another ∷ []) hs

-- a head, where there is one, can stand in a shape
abbrev pub OnHead : Option Head → Type 0
OnHead None = Unit {0}
OnHead (Some h) = stands h ≡ true
