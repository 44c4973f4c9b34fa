-- A given function: a quotient that asks first whether it may divide.
use Rattle.std.proofs.Common.{◌≡◌, ℕ, zero, suc, [], ◌∷◌, Option, Some, None, Bool, true, false, slice_get, refl, sym, ap, ◌∙◌, subst, subst₂, ℤ, pos, negsuc}
use Rattle.std.specs.Prelude.{codes, int_div}
use Rattle.run_types.proofs.Acts.{cod_of, dom_of, int_is, made_ok, two_of}
use Rattle.run_types.proofs.Taken.{datum_tup}
use Rattle.run_types.specs.Quotient.{quotient, quotient_given, quotient_rules}
use Rattle.run_types.specs.Safe.{GivensOk, Ok, val_has}
use Rattle.run_types.specs.Types.{ConsT, Given, HasVal, Holds, NilT, TArr, TInt, TTup, Ty, World, sub}
use Rattle.runs.specs.Env.{Env, empty, over, put}
use Rattle.runs.specs.Forms.{var}
use Rattle.runs.specs.Ints.{unless_zero, wrap}
use Rattle.runs.specs.Meaning.{Res, Wrong, ev_rules, mean, perform}
use Rattle.runs.specs.Patterns.{same_int}
use Rattle.runs.specs.Primitives.{St, act, gives, int_of, truth}
use Rattle.runs.specs.Tree.{Apply, Datum, Int, Item, NoVals, Tup, Val}

abbrev pairs : Ty
pairs = TTup (ConsT TInt (ConsT TInt NilT))

pair_is : (P : Val → Type 0) (w : World) → ((i j : ℤ) → P (Tup (Item (Datum (Int i)) (Item (Datum (Int j)) NoVals)))) → (v : Val) → HasVal w v pairs → P v
pair_is P w f (Tup vs) h = two_of w TInt TInt (λ us. P (Tup us)) (λ v x hv hx. int_is (λ y. P (Tup (Item y (Item x NoVals)))) w (λ i. int_is (λ y. P (Tup (Item (Datum (Int i)) (Item y NoVals)))) w (λ j. f i j) x hx) v hv) vs h
pair_is P w f (Datum n) h = absurd (datum_tup n (ConsT TInt (ConsT TInt NilT)) h)
pair_is P w f _ h = absurd h

-- where the divisor is not zero there is a quotient
not_zero : (j i : ℤ) → same_int j (pos 0) ≡ false → unless_zero j i ≡ Some i
not_zero (pos zero) i h = absurd (cc h)
not_zero (pos (suc n)) i h = refl
not_zero (negsuc n) i h = refl

abbrev arguments : ℤ → ℤ → Env
arguments i j = over (over (put (var (codes "a")) (Datum (Int i)) empty) (over (put (var (codes "b")) (Datum (Int j)) empty) empty)) empty

-- after the test
abbrev chosen : ℕ → ℤ → ℤ → St → Bool → Res Val
chosen k i j s b = ev_rules (mean k) (arguments i j) quotient_rules (Wrong s) (truth b) s

chosen_ok : (k : ℕ) (w : World) (i j : ℤ) (s : St) (b : Bool) → same_int j (pos 0) ≡ b → Holds w s → Ok (val_has TInt) w (chosen k i j s b)
chosen_ok k w i j s true q hm = made_ok (val_has TInt) w (Datum (Int (pos 0))) s refl hm
chosen_ok k w i j s false q hm = subst (λ o. Ok (val_has TInt) w (perform (mean k) (gives (int_of o) s) s)) (sym (not_zero j (wrap (int_div i j)) q)) (made_ok (val_has TInt) w (Datum (Int (wrap (int_div i j)))) s refl hm)

called : (n : ℕ) (w : World) (i j : ℤ) (s : St) → Holds w s → Ok (val_has TInt) w (perform (mean n) (act Apply (Item quotient (Item (Tup (Item (Datum (Int i)) (Item (Datum (Int j)) NoVals))) NoVals)) s) s)
called zero w i j s hm = tt
called (suc k) w i j s hm = chosen_ok k w i j s (same_int j (pos 0)) refl hm

abbrev given_or : Given → Option Given → Given
given_or d None = d
given_or d (Some g) = g

the_one : (k : ℕ) (g : Given) → slice_get (quotient_given ∷ []) k ≡ Some g → g ≡ quotient_given
the_one zero g q = ap (given_or quotient_given) (sym q)
the_one (suc k) g q = absurd (cc q)

pub quotient_ok : GivensOk (quotient_given ∷ [])
quotient_ok = λ n w v x a r s wl g hx hm.
    let same : record { value = v; type = g.type } ≡ quotient_given = the_one g.place (record { value = v; type = g.type }) (subst (λ l. slice_get l g.place ≡ Some (record { value = v; type = g.type })) wl g.there) in
    let shape : TArr a r ≡ TArr pairs TInt = g.instance_of ∙ ap (λ (y : Given). sub g.types y.type) same in
    subst₂ (λ y u. Ok (val_has u) w (perform (mean n) (act Apply (Item y (Item x NoVals)) s) s)) (sym (ap (λ (y : Given). y.value) same)) (sym (ap cod_of shape))
    (pair_is (λ y. Ok (val_has TInt) w (perform (mean n) (act Apply (Item quotient (Item y NoVals)) s) s)) w (λ i j. called n w i j s hm) x (subst (HasVal w x) (ap dom_of shape) hx))
