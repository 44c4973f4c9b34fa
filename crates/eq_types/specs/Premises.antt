-- Which types admit equality, by what is supposed of their variables and type names.
use Rattle.std.specs.Prelude.{◌==◌, ◌&&◌, ◌||◌, ℕ, Bool, true, false, List}
use Rattle.std.specs.List.{list_all, list_any, slice_index_or}
use Rattle.std.specs.Ordering.{nat_cmp}
use Rattle.std.specs.BTreeSet.{contains}
use Rattle.tl_text.specs.Pairs.{seconds}
use Rattle.sml_static.specs.declared.ty.Ty.{Ty, fold-Ty}
use Rattle.sml_static.specs.declared.ty.Ty.TheOpen.{Ty-F}
use Rattle.sml_static.specs.declared.ty.VarKind.{VarKind}
use Rattle.sml_static.specs.declared.ty.VarKind.TheVariants as kind
use Rattle.sml_static.specs.Equality.{is_equal, ref_number}
use Rattle.eq_types.specs.declared.premises.Premises.{Premises}
use Rattle.eq_types.specs.declared.premises.Premises.TheVariants.{Given, Row}

-- the kind at a place, where a variable without a place is plain
abbrev pub kind_at : List VarKind → ℕ → VarKind
kind_at kinds i = slice_index_or kinds i kind.Plain

-- one level of `admits_by`
abbrev pub admits_by_step : (ℕ → Bool) → (ℕ → Bool) → Ty-F Bool → Bool
admits_by_step variable supposed (Ty-F.Free n) = false
admits_by_step variable supposed (Ty-F.Bound i) = variable i
admits_by_step variable supposed (Ty-F.Fields fields) = list_all (λ f. f) (seconds fields)
admits_by_step variable supposed (Ty-F.Arrow a b) = false
admits_by_step variable supposed (Ty-F.Con name args) =
    (name.id == ref_number) || ((name.equality || supposed name.id) && list_all (λ a. a) args)

-- whether a type admits equality, where the first test gives the variables that do, and the second the type names that do besides
abbrev pub admits_by : (ℕ → Bool) → (ℕ → Bool) → Ty → Bool
admits_by variable supposed = fold-Ty Bool (admits_by_step variable supposed)

-- the variables, and the type names, that the premises suppose to admit equality
abbrev pub kind_in : Premises → ℕ → Bool
kind_in (Given kinds names) i = is_equal (kind_at kinds.now i)
kind_in (Row set) i = true

abbrev pub supposes : Premises → ℕ → Bool
supposes (Given kinds names) n = list_any (λ m. m.id == n) names.now
supposes (Row set) n = contains nat_cmp set.now n
