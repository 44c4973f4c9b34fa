-- Fixities: which identifiers are operators, how tight they bind and to which side.
use Rattle.std.specs.Prelude.{ℕ, List, [], ◌∷◌, Option, Some, None, nat_eq, codes, if◌then◌else◌}
use Rattle.std.specs.Cmp.Lexicographic.{pointwise}
use Rattle.indexmap.specs.IndexMap.{get}
use Rattle.sml_fix.specs.declared.fixities.Fixities.{Fixities}
use Rattle.sml_fix.specs.declared.fixities.Side.{Side}
use Rattle.sml_fix.specs.declared.fixities.Side.TheVariants.{Left, Right}

-- of each identifier its precedence and side, if it is an operator
abbrev pub Settings : Type 0
Settings = List ℕ → Option (ℕ × Side)

-- what an entry says of its identifier
abbrev pub status_in : Option (Option (ℕ × Side)) → Option (ℕ × Side)
status_in None = None
status_in (Some s) = s

-- what a value of the code says
abbrev pub settings : Fixities → Settings
settings f w = status_in (get (pointwise nat_eq) f.table w)

-- the identifiers that were ever set, each with what it is
abbrev pub entries : Fixities → List (List ℕ × Option (ℕ × Side))
entries f = f.table.entries

-- no identifier is an operator
abbrev pub none : Settings
none w = None

-- one identifier has this status, and the others what they had
abbrev pub assigned : Settings → List ℕ → Option (ℕ × Side) → Settings
assigned f v s w = if pointwise nat_eq v w then s else f w

-- each of these is such an operator
abbrev pub all_assigned : Settings → List (List ℕ) → ℕ × Side → Settings
all_assigned f [] s = f
all_assigned f (v ∷ vs) s = all_assigned (assigned f v (Some s)) vs s

-- the operators at the start
abbrev pub start : Settings
start =
    let f : Settings = all_assigned none (codes "*" ∷ codes "/" ∷ codes "div" ∷ codes "mod" ∷ []) (7, Left) in
    let g : Settings = all_assigned f (codes "+" ∷ codes "-" ∷ codes "^" ∷ []) (6, Left) in
    let h : Settings = all_assigned g (codes "::" ∷ codes "@" ∷ []) (5, Right) in
    let i : Settings = all_assigned h (codes "=" ∷ codes "<>" ∷ codes ">" ∷ codes ">=" ∷ codes "<" ∷ codes "<=" ∷ []) (4, Left) in
    let j : Settings = all_assigned i (codes ":=" ∷ codes "o" ∷ []) (3, Left) in
    all_assigned j (codes "before" ∷ []) (0, Left)
