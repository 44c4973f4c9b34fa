-- The meaning of units.
use Rattle.std.specs.Prelude.{◌≡◌, ◌⊎◌, ℕ, suc, ℤ, pos, negsuc, ◌+ℤ◌, ◌*ℤ◌, ◌≤ℤ◌, ◌<ℤ◌, List, [], ◌∷◌, Option}
use Rattle.beh.specs.Behaviour.{Behaviour}
use Rattle.mid_ast.specs.declared.item.MidUnit.{MidUnit}
use Rattle.runs.specs.Env.{Env, empty}
use Rattle.runs.specs.Items.{mean_items}
use Rattle.runs.specs.Meaning.{Done, Res, Wrong, mean}
use Rattle.runs.specs.Names.{Part}
use Rattle.runs.specs.Primitives.{St}
use Rattle.runs.specs.Scope.{Scope}
use Rattle.runs.specs.Seen.{behaviour}
use Rattle.runs.specs.Forms.{call}
use Rattle.runs.specs.Tree as run
use Rattle.mid_rules.specs.Basis.{basis_scope, basis_state, prim_value}
use Rattle.mid_rules.specs.Erased.{value_or_no_rule}
use Rattle.mid_rules.specs.Units.{placed_tree, units_tree}
use Rattle.mid_rules.specs.Untyped.{untyped_items}
use Rattle.mid_rules.specs.Core.{Items}

-- the evaluation of a row of items after the initial basis, where calls stand fewer than n deep in one another
abbrev pub evaluated : run.Items → ℕ → Res Scope
evaluated is n = mean_items n basis_scope is basis_state

-- the meaning of units, from left to right, before their homes are placed and after it
abbrev pub Meaning : List Items → ℕ → Behaviour
Meaning units n = behaviour (evaluated (units_tree units) n)

abbrev pub PlacedMeaning : List (Part × Items) → ℕ → Behaviour
PlacedMeaning units n = behaviour (evaluated (placed_tree units) n)

-- the same of declared units
abbrev pub plain_units : List MidUnit → List Items
plain_units [] = []
plain_units (u ∷ us) = untyped_items u.items ∷ plain_units us

abbrev pub plain_placed : List (Part × MidUnit) → List (Part × Items)
plain_placed [] = []
plain_placed (u ∷ us) = (u.0, untyped_items u.1.items) ∷ plain_placed us

abbrev pub Mid : List MidUnit → ℕ → Behaviour
Mid units = Meaning (plain_units units)

abbrev pub Placed : List (Part × MidUnit) → ℕ → Behaviour
Placed units = PlacedMeaning (plain_placed units)

-- a part is still where its evaluation ends without output, memory or exceptions: it makes its value in each state and
-- leaves the state as it was, or comes to a name that nothing has
abbrev pub IsStill : run.Exp → Type 0
IsStill e = (n : ℕ) (env : Env) (s : St) → ((v : run.Val) × (mean (suc n) env e s ≡ Done v s)) ⊎ (mean (suc n) env e s ≡ Wrong s)

-- the call of a row of primitives on a value; for = and <> with the type name of what is compared
abbrev pub called : ℕ → Option ℕ → run.Val → St → ℕ → Res run.Val
called row compared v s n = mean (suc (suc n)) empty (call (value_or_no_rule (prim_value row compared)) (run.Is v)) s

-- values of the basis
abbrev pub pair : run.Val → run.Val → run.Val
pair v w = run.Tup (run.Item v (run.Item w run.NoVals))

abbrev pub an_int : ℤ → run.Val
an_int i = run.Datum (run.Int i)

abbrev pub a_char : ℕ → run.Val
a_char c = run.Datum (run.Char c)

abbrev pub a_string : List ℕ → run.Val
a_string t = run.Datum (run.Str t)

-- the integers of the profile
abbrev pub IsInt : ℤ → Type 0
IsInt z = (negsuc 4611686018427387903 ≤ℤ z) × (z ≤ℤ pos 4611686018427387903)

-- a is q times b and m, where m has the sign of b and is smaller: so q is a divided by b, rounded down
abbrev pub RoundedDown : ℤ → ℤ → ℤ → ℤ → Type 0
RoundedDown a b q m = (q *ℤ b +ℤ m ≡ a) × (((pos 0 ≤ℤ m) × (m <ℤ b)) ⊎ ((b <ℤ m) × (m ≤ℤ pos 0)))
