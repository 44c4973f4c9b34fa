-- Sets of the type names of a row of datatypes, by their numbers.
use Rattle.std.specs.Prelude.{◌==◌, ◌<◌, ℕ, Bool, true, false, IsTrue, List, All, Option, Some, None}
use Rattle.std.specs.List.{list_all, list_any}
use Rattle.std.specs.Ordering.{nat_cmp}
use Rattle.std.specs.BTreeSet.{BTreeSet, contains, btree_set_len}
use Rattle.sml_static.specs.declared.mid.MidData.{MidData}
use Rattle.sml_static.specs.declared.ty.Ty.{Ty}
use Rattle.sml_static.specs.declared.ty.TyName.{TyName}
use Rattle.sml_static.specs.Equality.{IsConsistent}
use Rattle.eq_types.specs.Premises.{admits_by}

-- whether the number is that of a datatype of the row
abbrev pub is_bound : List MidData → ℕ → Bool
is_bound binds n = list_any (λ d. d.name.id == n) binds

-- whether it is in the set
abbrev pub in_set : BTreeSet ℕ → ℕ → Bool
in_set set n = contains nat_cmp set n

-- whether the argument of a constructor, where it has one, admits equality by these names
abbrev pub argument_by : (ℕ → Bool) → Option Ty → Bool
argument_by supposed None = true
argument_by supposed (Some t) = admits_by (λ i. true) supposed t

-- whether the arguments of all constructors do
abbrev pub data_by : (ℕ → Bool) → MidData → Bool
data_by supposed d = list_all (λ c. argument_by supposed c.1) d.cons

-- a datatype of the set has such constructors
abbrev pub Fits : BTreeSet ℕ → MidData → Type 0
Fits set d = IsTrue (in_set set d.name.id) → IsTrue (data_by (in_set set) d)

-- the set has names of the row alone, and each consistent set is part of it
pub record Holds (binds : List MidData) (set : BTreeSet ℕ) : Type 0 where
  pub bound : (n : ℕ) → IsTrue (in_set set n) → IsTrue (is_bound binds n)
  pub greatest : (other : List TyName) → IsConsistent binds other → (n : ℕ) → IsTrue (list_any (λ m. m.id == n) other) → IsTrue (in_set set n)

-- a name was struck out, or each datatype of the set fits
abbrev pub StrikeEnd : Bool → List MidData → BTreeSet ℕ → BTreeSet ℕ → Type 0
StrikeEnd true binds old new = btree_set_len new < btree_set_len old
StrikeEnd false binds old new = All (Fits new) binds
