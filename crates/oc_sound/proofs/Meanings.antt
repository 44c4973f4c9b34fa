-- What types stand for, at instances and other choices of types for their variables.
use Rattle.std.proofs.Common.{◌≡◌, ℕ, zero, suc, ◌+◌, ◌<◌, Option, Some, None, Bool, true, false, if◌then◌else◌, nat_eq, refl, sym, ap, ap₂, ◌∙◌, arith}
use Rattle.oc_typing.specs.Ty.{Ty, Tys, Bound, Var, Stamped, Arrow, Product, NoTypes, MoreTypes, AreClosed, IsClosed, inst, inst_all}
use Rattle.run_types.specs.Types as run
use Rattle.run_types.specs.Types.{ConsT, NilT, TArr, TChar, TData, TExn, TInt, TRef, TString, TTup, TVar, bool_ty, list_ty, nth, plain, real, real_all, unit_ty}
use Rattle.run_types.proofs.Instances.{nth_sub}
use Rattle.oc_sound.specs.Meant.{all_meant, meant, stamp_ty}
use Rattle.oc_sound.specs.Served.{AllHaveFirst, ArgHasFirst, HasFirst, NoneItself, NoneThemselves, arg_tys, row_of, written_tys}

mutual
  pub meant_inst : (f b : ℕ → run.Ty) (us : ℕ → Ty) (t : Ty) → meant f b (inst us t) ≡ meant f (λ i. meant f b (us i)) t
  meant_inst f b us (Bound i) = refl
  meant_inst f b us (Var i) = refl
  meant_inst f b us (Stamped s ts) = ap (stamp_ty s) (meant_insts f b us ts)
  meant_inst f b us (Arrow t u) = ap₂ (λ x y. TArr x y) (meant_inst f b us t) (meant_inst f b us u)
  meant_inst f b us (Product ts) = ap TTup (meant_insts f b us ts)

  meant_insts : (f b : ℕ → run.Ty) (us : ℕ → Ty) (ts : Tys) → all_meant f b (inst_all us ts) ≡ all_meant f (λ i. meant f b (us i)) ts
  meant_insts f b us NoTypes = refl
  meant_insts f b us (MoreTypes t ts) = ap₂ (λ x y. ConsT x y) (meant_inst f b us t) (meant_insts f b us ts)

real_if : (f : ℕ → run.Ty) (c : Bool) (t u v : run.Ty) → real plain f t ≡ t → real plain f u ≡ v → real plain f (if c then t else u) ≡ (if c then t else v)
real_if f true t u v p q = p
real_if f false t u v p q = q

real_at : (f : ℕ → run.Ty) (c : Bool) (t w u v : run.Ty) → real plain f t ≡ w → real plain f u ≡ v → real plain f (if c then t else u) ≡ (if c then w else v)
real_at f true t w u v p q = p
real_at f false t w u v p q = q

-- types put in for the variables of a declared type
real_stamp : (f : ℕ → run.Ty) (s : ℕ) (ts : run.Tys) → real plain f (stamp_ty s ts) ≡ stamp_ty s (real_all plain f ts)
real_stamp f s ts =
    let us = real_all plain f ts in
    real_at f (nat_eq s 0) TInt TInt _ _ refl
    (real_at f (nat_eq s 2) TChar TChar _ _ refl
    (real_at f (nat_eq s 3) TString TString _ _ refl
    (real_at f (nat_eq s 4) bool_ty bool_ty _ _ refl
    (real_at f (nat_eq s 5) TExn TExn _ _ refl
    (real_at f (nat_eq s 6) (list_ty (nth 0 ts)) (list_ty (nth 0 us)) _ _ (ap list_ty (nth_sub plain f 0 ts))
    (real_at f (nat_eq s 7) (TRef (nth 0 ts)) (TRef (nth 0 us)) _ _ (ap TRef (nth_sub plain f 0 ts))
    (real_at f (nat_eq s 10) unit_ty unit_ty (TData s true ts) (TData s true us) refl refl)))))))

mutual
  pub real_meant : (h f b : ℕ → run.Ty) (t : Ty) → real plain h (meant f b t) ≡ meant (λ i. real plain h (f i)) (λ i. real plain h (b i)) t
  real_meant h f b (Bound i) = refl
  real_meant h f b (Var i) = refl
  real_meant h f b (Stamped s ts) = real_stamp h s (all_meant f b ts) ∙ ap (stamp_ty s) (reals_meant h f b ts)
  real_meant h f b (Arrow t u) = ap₂ (λ x y. TArr x y) (real_meant h f b t) (real_meant h f b u)
  real_meant h f b (Product ts) = ap TTup (reals_meant h f b ts)

  reals_meant : (h f b : ℕ → run.Ty) (ts : Tys) → real_all plain h (all_meant f b ts) ≡ all_meant (λ i. real plain h (f i)) (λ i. real plain h (b i)) ts
  reals_meant h f b NoTypes = refl
  reals_meant h f b (MoreTypes t ts) = ap₂ (λ x y. ConsT x y) (real_meant h f b t) (reals_meant h f b ts)

-- ---- a bound on the variables of each kind

abbrev mutual
  pub own_bound : Ty → ℕ
  own_bound (Bound i) = 0
  own_bound (Var i) = suc i
  own_bound (Stamped s ts) = own_bounds ts
  own_bound (Arrow t u) = own_bound t + own_bound u
  own_bound (Product ts) = own_bounds ts

  pub own_bounds : Tys → ℕ
  own_bounds NoTypes = 0
  own_bounds (MoreTypes t ts) = own_bound t + own_bounds ts

abbrev mutual
  pub scheme_bound : Ty → ℕ
  scheme_bound (Bound i) = suc i
  scheme_bound (Var i) = 0
  scheme_bound (Stamped s ts) = scheme_bounds ts
  scheme_bound (Arrow t u) = scheme_bound t + scheme_bound u
  scheme_bound (Product ts) = scheme_bounds ts

  pub scheme_bounds : Tys → ℕ
  scheme_bounds NoTypes = 0
  scheme_bounds (MoreTypes t ts) = scheme_bound t + scheme_bounds ts

abbrev pub SameBelow : ℕ → (ℕ → run.Ty) → (ℕ → run.Ty) → Type 0
SameBelow n f h = (i : ℕ) → i < n → f i ≡ h i

left : (m n : ℕ) (f h : ℕ → run.Ty) → SameBelow (m + n) f h → SameBelow m f h
left m n f h s = λ i l. s i (omega (arith, l))

right : (m n : ℕ) (f h : ℕ → run.Ty) → SameBelow (m + n) f h → SameBelow n f h
right m n f h s = λ i l. s i (omega (arith, l))

here : (i : ℕ) (f h : ℕ → run.Ty) → SameBelow (suc i) f h → f i ≡ h i
here i f h s = s i (omega arith)

mutual
  pub meant_same : (f h b c : ℕ → run.Ty) (t : Ty) → SameBelow (own_bound t) f h → SameBelow (scheme_bound t) b c → meant f b t ≡ meant h c t
  meant_same f h b c (Bound i) p q = here i b c q
  meant_same f h b c (Var i) p q = here i f h p
  meant_same f h b c (Stamped s ts) p q = ap (stamp_ty s) (meants_same f h b c ts p q)
  meant_same f h b c (Arrow t u) p q =
      ap₂ (λ x y. TArr x y) (meant_same f h b c t (left (own_bound t) (own_bound u) f h p) (left (scheme_bound t) (scheme_bound u) b c q))
      (meant_same f h b c u (right (own_bound t) (own_bound u) f h p) (right (scheme_bound t) (scheme_bound u) b c q))
  meant_same f h b c (Product ts) p q = ap TTup (meants_same f h b c ts p q)

  meants_same : (f h b c : ℕ → run.Ty) (ts : Tys) → SameBelow (own_bounds ts) f h → SameBelow (scheme_bounds ts) b c → all_meant f b ts ≡ all_meant h c ts
  meants_same f h b c NoTypes p q = refl
  meants_same f h b c (MoreTypes t ts) p q =
      ap₂ (λ x y. ConsT x y) (meant_same f h b c t (left (own_bound t) (own_bounds ts) f h p) (left (scheme_bound t) (scheme_bounds ts) b c q))
      (meants_same f h b c ts (right (own_bound t) (own_bounds ts) f h p) (right (scheme_bound t) (scheme_bounds ts) b c q))

-- ---- types without variables of one kind

mutual
  pub meant_closed : (f b c : ℕ → run.Ty) (t : Ty) → IsClosed t → meant f b t ≡ meant f c t
  meant_closed f b c (Bound i) k = absurd k
  meant_closed f b c (Var i) k = refl
  meant_closed f b c (Stamped s ts) k = ap (stamp_ty s) (meants_closed f b c ts k)
  meant_closed f b c (Arrow t u) k = ap₂ (λ x y. TArr x y) (meant_closed f b c t k.0) (meant_closed f b c u k.1)
  meant_closed f b c (Product ts) k = ap TTup (meants_closed f b c ts k)

  meants_closed : (f b c : ℕ → run.Ty) (ts : Tys) → AreClosed ts → all_meant f b ts ≡ all_meant f c ts
  meants_closed f b c NoTypes k = refl
  meants_closed f b c (MoreTypes t ts) k = ap₂ (λ x y. ConsT x y) (meant_closed f b c t k.0) (meants_closed f b c ts k.1)

mutual
  pub meant_first : (n : ℕ) (f h b c : ℕ → run.Ty) → SameBelow n b c → (t : Ty) → HasFirst n t → meant f b t ≡ meant h c t
  meant_first n f h b c s (Bound i) k = s i k
  meant_first n f h b c s (Var i) k = absurd k
  meant_first n f h b c s (Stamped i ts) k = ap (stamp_ty i) (meants_first n f h b c s ts k)
  meant_first n f h b c s (Arrow t u) k = ap₂ (λ x y. TArr x y) (meant_first n f h b c s t k.0) (meant_first n f h b c s u k.1)
  meant_first n f h b c s (Product ts) k = ap TTup (meants_first n f h b c s ts k)

  meants_first : (n : ℕ) (f h b c : ℕ → run.Ty) → SameBelow n b c → (ts : Tys) → AllHaveFirst n ts → all_meant f b ts ≡ all_meant h c ts
  meants_first n f h b c s NoTypes k = refl
  meants_first n f h b c s (MoreTypes t ts) k = ap₂ (λ x y. ConsT x y) (meant_first n f h b c s t k.0) (meants_first n f h b c s ts k.1)

mutual
  pub first_none : (n : ℕ) (t : Ty) → HasFirst n t → NoneItself t
  first_none n (Bound i) k = tt
  first_none n (Var i) k = k
  first_none n (Stamped s ts) k = firsts_none n ts k
  first_none n (Arrow t u) k = (first_none n t k.0, first_none n u k.1)
  first_none n (Product ts) k = firsts_none n ts k

  firsts_none : (n : ℕ) (ts : Tys) → AllHaveFirst n ts → NoneThemselves ts
  firsts_none n NoTypes k = tt
  firsts_none n (MoreTypes t ts) k = (first_none n t k.0, firsts_none n ts k.1)

mutual
  pub inst_first : (n : ℕ) (us : ℕ → Ty) → ((i : ℕ) → HasFirst n (us i)) → (t : Ty) → NoneItself t → HasFirst n (inst us t)
  inst_first n us k (Bound i) h = k i
  inst_first n us k (Var i) h = absurd h
  inst_first n us k (Stamped s ts) h = insts_first n us k ts h
  inst_first n us k (Arrow t u) h = (inst_first n us k t h.0, inst_first n us k u h.1)
  inst_first n us k (Product ts) h = insts_first n us k ts h

  insts_first : (n : ℕ) (us : ℕ → Ty) → ((i : ℕ) → HasFirst n (us i)) → (ts : Tys) → NoneThemselves ts → AllHaveFirst n (inst_all us ts)
  insts_first n us k NoTypes h = tt
  insts_first n us k (MoreTypes t ts) h = (inst_first n us k t h.0, insts_first n us k ts h.1)

mutual
  pub inst_closed : (us : ℕ → Ty) → ((i : ℕ) → IsClosed (us i)) → (t : Ty) → IsClosed (inst us t)
  inst_closed us k (Bound i) = k i
  inst_closed us k (Var i) = tt
  inst_closed us k (Stamped s ts) = insts_closed us k ts
  inst_closed us k (Arrow t u) = (inst_closed us k t, inst_closed us k u)
  inst_closed us k (Product ts) = insts_closed us k ts

  insts_closed : (us : ℕ → Ty) → ((i : ℕ) → IsClosed (us i)) → (ts : Tys) → AreClosed (inst_all us ts)
  insts_closed us k NoTypes = tt
  insts_closed us k (MoreTypes t ts) = (inst_closed us k t, insts_closed us k ts)

-- ---- arguments of constructors

pub arg_first : (n : ℕ) (f h b c : ℕ → run.Ty) → SameBelow n b c → (a : Option Ty) → ArgHasFirst n a → arg_tys f b a ≡ arg_tys h c a
arg_first n f h b c s None k = refl
arg_first n f h b c s (Some t) k = ap (λ x. ConsT x NilT) (meant_first n f h b c s t k)

-- the written arguments at these types
pub arg_at : (us : run.Tys) (a : Option Ty) → run.inst_all us (written_tys a) ≡ arg_tys (λ i. nth i us) (λ i. nth i us) a
arg_at us None = refl
arg_at us (Some t) = ap (λ x. ConsT x NilT) (real_meant (λ i. nth i us) TVar TVar t)

nth_row : (n i j : ℕ) (b : ℕ → run.Ty) → j < n → nth j (row_of n i b) ≡ b (i + j)
nth_row zero i j b l = absurd (omega (arith, l))
nth_row (suc n) i zero b l = ap b (plus_zero i)
  where
    plus_zero : (m : ℕ) → m ≡ m + 0
    plus_zero m = omega arith
nth_row (suc n) i (suc j) b l = nth_row n (suc i) j b (omega (arith, l)) ∙ ap b (plus_suc i j)
  where
    plus_suc : (m k : ℕ) → suc m + k ≡ m + suc k
    plus_suc m k = omega arith

zero_plus : (j : ℕ) → 0 + j ≡ j
zero_plus j = omega arith

pub first_row : (n : ℕ) (b : ℕ → run.Ty) → SameBelow n b (λ i. nth i (row_of n 0 b))
first_row n b = λ i l. sym (nth_row n 0 i b l ∙ ap b (zero_plus i))
