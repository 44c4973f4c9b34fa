-- Where each text begins: bool and list, and the types of the predefined values.
use Rattle.std.specs.Prelude.{◌≡◌, ◌⊎◌, ℕ, zero, suc, List, [], ◌∷◌, Option, Some, None, Bool, true, if◌then◌else◌}
use Rattle.std.specs.Prelude.{codes}
use Rattle.run_types.specs.TypedItems.{ScopeTy}
use Rattle.run_types.specs.Types.{All, AnyTy, Bools, ConsT, Ctx, Given, Lists, Mono, NilT, Scheme, TArr, TChar, TExn, TInt, TRef, TString, TVar, Ty, Tys, World, bool_ty, join, list_ty, no_ctx, plain, start_world, unit_ty}
use Rattle.runs.specs.Forms.{var}
use Rattle.runs.specs.Names.{Name, Part, same, same_part}
use Rattle.runs.specs.Primitives.{cons_part, false_part, nil_part, true_part}

-- bool has true and false, list has [] and ::; other type names are as `more` says
abbrev pub with_basics : (ℕ → Bool → Part → Option Tys) → ℕ → Bool → Part → Option Tys
with_basics more zero true c = if same_part c true_part then Some NilT else (if same_part c false_part then Some NilT else None)
with_basics more (suc zero) true c = if same_part c nil_part then Some NilT else (if same_part c cons_part then Some (ConsT (TVar 0) (ConsT (list_ty (TVar 0)) NilT)) else None)
with_basics more d b c = more d b c

-- a world in which nothing was made yet
abbrev pub basic_world : (ℕ → Bool → Part → Option Tys) → List Given → World
basic_world more givens = start_world (with_basics more) givens

-- bool and list have their constructors, and no others
pub record Basic (w : World) : Type 0 where
  pub bools : Bools w
  pub lists : Lists w
  pub only_bools : (c : Part) (args : Tys) → w.datas 0 true c ≡ Some args → (args ≡ NilT) × ((c ≡ true_part) ⊎ (c ≡ false_part))
  pub only_lists : (c : Part) (args : Tys) → w.datas 1 true c ≡ Some args → ((c ≡ nil_part) × (args ≡ NilT)) ⊎ ((c ≡ cons_part) × (args ≡ ConsT (TVar 0) (ConsT (list_ty (TVar 0)) NilT)))

-- a name and its scheme
pub record SchemeRow : Type 0 where
  pub name : Name
  pub scheme : Option Scheme

abbrev pub schemes_of : List SchemeRow → Ctx
schemes_of [] = no_ctx
schemes_of (row ∷ rest) = join (same row.name) (λ y. row.scheme) (schemes_of rest)

abbrev pub row : Name → Scheme → SchemeRow
row x a = record { name = x; scheme = Some a }

-- it may have no step, so it has no type of its own
abbrev pub bare : Name → SchemeRow
bare x = record { name = x; scheme = None }

-- for all types of the variable 0
abbrev pub for_all : Ty → Scheme
for_all a = All 0 plain TVar (AnyTy ∷ []) a

-- the types of the predefined values, in the order of their table
abbrev pub predefined_types : List SchemeRow
predefined_types =
    row (var (codes "ref")) (for_all (TArr (TVar 0) (TRef (TVar 0))))
    ∷ row (var (codes "!")) (for_all (TArr (TRef (TVar 0)) (TVar 0)))
    ∷ row (var (codes "raise")) (for_all (TArr TExn (TVar 0)))
    ∷ row (var (codes "not")) (Mono (TArr bool_ty bool_ty))
    ∷ row (var (codes "print_string")) (Mono (TArr TString unit_ty))
    ∷ row (var (codes "string_of_int")) (Mono (TArr TInt TString))
    ∷ bare (codes "String" ∷ codes "length" ∷ [])
    ∷ bare (codes "String" ∷ codes "get" ∷ [])
    ∷ bare (codes "String" ∷ codes "sub" ∷ [])
    ∷ bare (codes "String" ∷ codes "make" ∷ [])
    ∷ row (codes "Char" ∷ codes "code" ∷ []) (Mono (TArr TChar TInt))
    ∷ bare (codes "Char" ∷ codes "chr" ∷ [])
    ∷ []

-- what a text reads where it begins
abbrev pub text_types : ScopeTy
text_types = record { env = schemes_of predefined_types; own = no_ctx }
