-- A name that does not fit is in no consistent set, and where all fit the set is the greatest.
use Rattle.std.proofs.Common.{◌≡◌, ◌==◌, ◌<◌, ◌+◌, ◌&&◌, ℕ, Bool, true, false, not, cond, IsTrue, List, [], ◌∷◌, length, get_or, Option, Some, None, refl, sym, subst, arith}
use Rattle.std.specs.List.{list_all, list_any, All}
use Rattle.std.specs.Ordering.{nat_cmp, is_eq, MatchOrdering}
use Rattle.std.specs.declared.cmp.Ordering.{Ordering}
use Rattle.std.specs.declared.cmp.Ordering.TheVariants.{Less, Equal, Greater}
use Rattle.std.specs.Cmp.{ranks}
use Rattle.std.proofs.lemmas.List.{get_or_read}
use Rattle.std.specs.BTreeMap.{is_at}
use Rattle.std.specs.BTreeSet.{BTreeSet, UpdatesBy, btree_set_len}
use Rattle.sml_static.specs.declared.mid.MidData.{MidData}
use Rattle.sml_static.specs.declared.ty.Ty.{Ty}
use Rattle.sml_static.specs.declared.ty.TyName.{TyName}
use Rattle.sml_static.specs.Equality.{IsEqualitySet, is_among, data_admits}
use Rattle.eq_types.specs.Rows.{is_bound, in_set, argument_by, data_by, Fits, Holds, StrikeEnd}
use Rattle.eq_types.proofs.Monotone.{widens, both, both_hold}

same_by : (o : Ordering) (x y : ℕ) → MatchOrdering o (x < y) (x ≡ y) (y < x) → is_eq o ≡ true → x ≡ y
same_by Less x y m e = absurd (cc)
same_by Equal x y m e = m
same_by Greater x y m e = absurd (cc)

same_number : (x y : ℕ) → is_at (nat_cmp x) y ≡ true → x ≡ y
same_number x y e = same_by (nat_cmp x y) x y (ranks x y) e

not_both : (a b : Bool) → (a && not b) ≡ false → IsTrue a → IsTrue b
not_both true true e h = refl
not_both true false e h = absurd (cc)
not_both false b e h = absurd (cc)

is_unfit_is : (a b : Bool) → (a && not b) ≡ true → IsTrue a × (IsTrue b → ⊥)
is_unfit_is true true e = absurd (cc)
is_unfit_is true false e = (refl, λ h. cc)
is_unfit_is false b e = absurd (cc)

argument_widens : (f g : ℕ → Bool) → ((n : ℕ) → IsTrue (f n) → IsTrue (g n)) → (a : Option Ty) → IsTrue (argument_by f a) → IsTrue (argument_by g a)
argument_widens f g w None p = p
argument_widens f g w (Some t) p = widens (λ i. true) f g w t p

constructors_widen : (f g : ℕ → Bool) → ((n : ℕ) → IsTrue (f n) → IsTrue (g n)) → (cs : List (List ℕ × Option Ty)) → IsTrue (list_all (λ c. argument_by f c.1) cs) → IsTrue (list_all (λ c. argument_by g c.1) cs)
constructors_widen f g w [] p = p
constructors_widen f g w (c ∷ cs) p =
    let q = both_hold (argument_by f c.1) (list_all (λ c. argument_by f c.1) cs) p in
    both (argument_by g c.1) (list_all (λ c. argument_by g c.1) cs) (argument_widens f g w c.1 q.0) (constructors_widen f g w cs q.1)

-- whether a number is that of one of the names
abbrev named : List TyName → ℕ → Bool
named names n = list_any (λ m. m.id == n) names

pub struck_out : (binds : List MidData) (old new : BTreeSet ℕ) (i : ℕ) (d : MidData) → Holds binds old → i < length binds → d ≡ get_or binds i d → (in_set old d.name.id && not (data_by (in_set old) d)) ≡ true
    → UpdatesBy nat_cmp (nat_cmp d.name.id) old new false → Holds binds new
struck_out binds old new i d h lt is unfit u =
    let at : ℕ → Bool = λ n. is_at (nat_cmp d.name.id) n in
    let bad = is_unfit_is (in_set old d.name.id) (data_by (in_set old) d) unfit in
    record {
      bound = λ n p. h.bound n (stays (at n) (in_set old n) (subst IsTrue (u.0 n) p));
      greatest = λ other c n p.
          subst IsTrue (sym (u.0 n))
          (goes (at n) (in_set old n)
          (λ e. let q : d.name.id ≡ n = same_number d.name.id n e in
          bad.1 (constructors_widen (named other) (in_set old) (h.greatest other c) d.cons
          (subst (λ (y : MidData). IsTrue (is_among other y.name) → IsTrue (data_admits other y)) (sym is) (c.admitted i d lt) (subst (λ k. IsTrue (named other k)) (sym q) p))))
          (h.greatest other c n p));
    }
  where
    stays : (a b : Bool) → IsTrue (cond a false b) → IsTrue b
    stays true b p = absurd (cc)
    stays false b p = p

    goes : (a b : Bool) → (a ≡ true → ⊥) → IsTrue b → IsTrue (cond a false b)
    goes true b n p = absurd (n refl)
    goes false b n p = p

pub fits_at : (binds : List MidData) (set : BTreeSet ℕ) (i : ℕ) (x d : MidData) → i < length binds → x ≡ get_or binds i x → (in_set set x.name.id && not (data_by (in_set set) x)) ≡ false → Fits set (get_or binds i d)
fits_at binds set i x d lt is e =
    subst (λ (y : MidData). Fits set y) (get_or_read binds i x lt is d) (not_both (in_set set x.name.id) (data_by (in_set set) x) e)

pub greatest_set : (binds : List MidData) (set : BTreeSet ℕ) (names : List TyName) → Holds binds set → All (Fits set) binds → ((n : ℕ) → named names n ≡ (in_set set n && is_bound binds n)) → IsEqualitySet binds names
greatest_set binds set names h fit e =
    let from : (n : ℕ) → IsTrue (named names n) → IsTrue (in_set set n) × IsTrue (is_bound binds n) = λ n p. both_hold (in_set set n) (is_bound binds n) (subst IsTrue (e n) p) in
    let to : (n : ℕ) → IsTrue (in_set set n) → IsTrue (named names n) = λ n p. subst IsTrue (sym (e n)) (both (in_set set n) (is_bound binds n) p (h.bound n p)) in
    record {
      consistent = record {
        bound = λ n p. (from n p).1;
        admitted = λ k d lt p. constructors_widen (in_set set) (named names) to (get_or binds k d).cons (fit k d lt (from (get_or binds k d).name.id p).0);
      };
      greatest = λ other c n p. to n (h.greatest other c n p);
    }

pub strike_end : (struck : Bool) (binds : List MidData) (old new : BTreeSet ℕ) → (struck ≡ true → btree_set_len new < btree_set_len old) → (struck ≡ false → All (Fits new) binds) → StrikeEnd struck binds old new
strike_end true binds old new smaller fit = smaller refl
strike_end false binds old new smaller fit = fit refl

-- a set is smaller without a number that was in it
pub one_less : (b : Bool) (old new : ℕ) → b ≡ true → new + cond b 1 0 ≡ old → new < old
one_less true old new e s = omega arith
one_less false old new e s = absurd (cc)

pub first_true : (a b : Bool) → (a && b) ≡ true → a ≡ true
first_true true b e = refl
first_true false b e = absurd (cc)
