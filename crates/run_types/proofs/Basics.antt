-- Where each text begins, its state and its values are typed.
use Rattle.std.proofs.Common.{◌≡◌, ◌⊎◌, ℕ, inl, inr, List, [], ◌∷◌, Option, Some, None, Bool, true, false, if◌then◌else◌, slice_get, refl, sym, subst}
use Rattle.run_types.proofs.Taken.{some_tys}
use Rattle.run_types.specs.Basic.{Basic, SchemeRow, basic_world, for_all, predefined_types, schemes_of, text_types}
use Rattle.run_types.specs.Safe.{GivensOk}
use Rattle.run_types.specs.TypedItems.{scope_has}
use Rattle.run_types.specs.Types.{At, Bools, ConsT, Given, HasVal, Holds, Lists, Mono, NilT, PrimTy, Puts, Scheme, TArr, TChar, TExn, TInt, TRef, TString, TVar, Ty, Tys, UseAt, World, bool_ty, list_ty, no_ctx, sub, unit_ty, vars_by}
use Rattle.runs.proofs.Paths.{part_same}
use Rattle.runs.specs.Forms.{predefined_rows, text_scope, values_of}
use Rattle.runs.specs.Names.{Name, Part, same, same_part}
use Rattle.runs.specs.Primitives.{cons_part, false_part, nil_part, start, true_part}
use Rattle.runs.specs.Tree.{CharCode, Deref, NoVals, Not, Prim, Primitive, PrintString, Raise, Ref, StringOfInt, Val}

truth_case : (b c : Bool) (args : Tys) → (if b then Some NilT else (if c then Some NilT else None)) ≡ Some args → (args ≡ NilT) × (d : Bool) × ((if b then Some true else (if c then Some false else None)) ≡ Some d)
truth_case true c args h = (sym (some_tys NilT args h), true, refl)
truth_case false true args h = (sym (some_tys NilT args h), false, refl)
truth_case false false args h = absurd (cc h)

pub basic_holds : (more : ℕ → Bool → Part → Option Tys) (givens : List Given) → Holds (basic_world more givens) start
basic_holds more givens = record { cells = tt; exns = refl; bools = λ c args h. truth_case (same_part c true_part) (same_part c false_part) args h }

pub basic_bools : (more : ℕ → Bool → Part → Option Tys) (givens : List Given) → Bools (basic_world more givens)
basic_bools more givens = (refl, refl)

pub basic_lists : (more : ℕ → Bool → Part → Option Tys) (givens : List Given) → Lists (basic_world more givens)
basic_lists more givens = (refl, refl)

only_truths : (x y : Bool) (c : Part) (args : Tys) → same_part c true_part ≡ x → same_part c false_part ≡ y → (if x then Some NilT else (if y then Some NilT else None)) ≡ Some args → (args ≡ NilT) × ((c ≡ true_part) ⊎ (c ≡ false_part))
only_truths true y c args p q h = (sym (some_tys NilT args h), inl (part_same c true_part p))
only_truths false true c args p q h = (sym (some_tys NilT args h), inr (part_same c false_part q))
only_truths false false c args p q h = absurd (cc h)

abbrev cons_args : Tys
cons_args = ConsT (TVar 0) (ConsT (list_ty (TVar 0)) NilT)

only_conses : (x y : Bool) (c : Part) (args : Tys) → same_part c nil_part ≡ x → same_part c cons_part ≡ y → (if x then Some NilT else (if y then Some cons_args else None)) ≡ Some args → ((c ≡ nil_part) × (args ≡ NilT)) ⊎ ((c ≡ cons_part) × (args ≡ cons_args))
only_conses true y c args p q h = inl (part_same c nil_part p, sym (some_tys NilT args h))
only_conses false true c args p q h = inr (part_same c cons_part q, sym (some_tys cons_args args h))
only_conses false false c args p q h = absurd (cc h)

pub basic_is_basic : (more : ℕ → Bool → Part → Option Tys) (givens : List Given) → Basic (basic_world more givens)
basic_is_basic more givens =
    record {
      bools = (refl, refl);
      lists = (refl, refl);
      only_bools = λ c args h. only_truths (same_part c true_part) (same_part c false_part) c args refl refl h;
      only_lists = λ c args h. only_conses (same_part c nil_part) (same_part c cons_part) c args refl refl h;
    }

-- the values of a table have the schemes of another one, row by row
abbrev RowsHave : World → List SchemeRow → List (Name × Val) → Type 0
RowsHave w [] [] = Unit {0}
RowsHave w (r ∷ rs) (v ∷ vs) = (r.name ≡ v.0) × ((t : Ty) → UseAt r.scheme t → HasVal w v.1 t) × RowsHave w rs vs
RowsHave w _ _ = ⊥

row_case : (w : World) (b : Bool) (a g : Option Scheme) (o : Option Val) (v : Val) (t : Ty) → (UseAt a t → HasVal w v t) → (UseAt g t → At w None t o) → UseAt (if b then a else g) t → At w None t (if b then Some v else o)
row_case w true a g o v t f k u = f u
row_case w false a g o v t f k u = k u

rows_put : (w : World) (rs : List SchemeRow) (vs : List (Name × Val)) → RowsHave w rs vs → Puts w (schemes_of rs) no_ctx (values_of vs)
rows_put w [] [] h = λ x t u. u
rows_put w (r ∷ rs) (v ∷ vs) h = λ x t u.
    row_case w (same v.0 x) r.scheme (schemes_of rs x) (values_of vs x) v.1 t (h.1 t) (rows_put w rs vs h.2 x t)
    (subst (λ n. UseAt (if same n x then r.scheme else schemes_of rs x) t) h.0 u)
rows_put w [] (v ∷ vs) h = absurd h
rows_put w (r ∷ rs) [] h = absurd h

-- a function whose type has the variable 0
poly_has : (w : World) (p : Primitive) (a r : Ty) → ((us : Tys) → PrimTy w p NoVals (sub (vars_by 0 TVar us) a) (sub (vars_by 0 TVar us) r)) → (t : Ty) → UseAt (Some (for_all (TArr a r))) t → HasVal w (Prim p NoVals) t
poly_has w p a r f t u = subst (HasVal w (Prim p NoVals)) (sym u.2) (f u.0)

mono_has : (w : World) (p : Primitive) (a r : Ty) → PrimTy w p NoVals a r → (t : Ty) → UseAt (Some (Mono (TArr a r))) t → HasVal w (Prim p NoVals) t
mono_has w p a r h t u = subst (HasVal w (Prim p NoVals)) (sym u) h

pub text_has : (w : World) → Bools w → scope_has text_types w text_scope
text_has w b = (
  rows_put w predefined_types predefined_rows (
    refl,
    poly_has w Ref (TVar 0) (TRef (TVar 0)) (λ us. refl),
    (
      refl,
      poly_has w Deref (TRef (TVar 0)) (TVar 0) (λ us. refl),
      (
        refl,
        poly_has w Raise TExn (TVar 0) (λ us. refl),
        (
          refl,
          mono_has w Not bool_ty bool_ty (refl, refl, b),
          (
            refl,
            mono_has w PrintString TString unit_ty (refl, refl),
            (
              refl,
              mono_has w StringOfInt TInt TString (refl, refl),
              (
                refl,
                (λ t u. absurd u),
                (
                  refl,
                  (λ t u. absurd u),
                  (
                    refl,
                    (λ t u. absurd u),
                    (
                      refl,
                      (λ t u. absurd u),
                      (
                        refl,
                        mono_has w CharCode TChar TInt (refl, refl),
                        (refl, (λ t u. absurd u), tt),
                      ),
                    ),
                  ),
                ),
              ),
            ),
          ),
        ),
      ),
    ),
  ),
  λ x t u. u,
)

-- no function is given, so none goes wrong
none_there : (k : ℕ) (g : Given) → slice_get [] k ≡ Some g → ⊥
none_there k g q = cc q

pub no_givens_ok : GivensOk []
no_givens_ok = λ n w v x a r s wl g hx hm. absurd (none_there g.place (record { value = v; type = g.type }) (subst (λ l. slice_get l g.place ≡ Some (record { value = v; type = g.type })) wl g.there))
