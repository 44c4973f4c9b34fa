-- The order of labels, and rows of fields in that order.
use Rattle.std.specs.Prelude.{◌&&◌, Bool, true, false, nat_lt, List, [], ◌∷◌, map}
use Rattle.std.specs.Ordering.{nat_cmp, is_lt}
use Rattle.std.specs.Cmp.Lexicographic.{slice_cmp}
use Rattle.sml_static.specs.declared.ty.Label.{Label}
use Rattle.sml_static.specs.declared.ty.Label.TheVariants as label

-- whether the first label comes before the second: numbers by value, then words by bytes
abbrev pub is_before : Label → Label → Bool
is_before (label.Num m) (label.Num n) = nat_lt m n
is_before (label.Num m) (label.Word w) = true
is_before (label.Word v) (label.Num n) = false
is_before (label.Word v) (label.Word w) = is_lt (slice_cmp nat_cmp v w)

-- whether labels stand in their order after this one, each once
abbrev pub increases_after : Label → List Label → Bool
increases_after l [] = true
increases_after l (m ∷ ms) = is_before l m && increases_after m ms

-- whether labels stand in their order, each once
abbrev pub is_increasing : List Label → Bool
is_increasing [] = true
is_increasing (l ∷ ls) = increases_after l ls

-- the labels of a row of fields
abbrev pub labels : {A : Type 0} → List (Label × A) → List Label
labels = map (λ f. f.0)
