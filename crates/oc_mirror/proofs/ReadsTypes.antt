-- The marks of a type are decoded to it.
use Rattle.std.proofs.Common.{◌≡◌, ℕ, zero, suc, ◌+◌, ◌≤◌, inl, inr, Bool, true, false, [], ◌∷◌, refl, sym, ap, subst, ◌∙◌, arith}
use Rattle.oc_ast.specs.Plain.{Long, PATy, PATys, NoATys, MoreATys, POTy, POTys, NoTys, MoreTys, TVar, TCon, TParen, TAt, TArrow, TTuple}
use Rattle.oc_mirror.proofs.Marks.{Mark, Marks, Low, Up, Closed, Dot, Arrow, Star}
use Rattle.oc_rules.specs.Allowed as allowed
use Rattle.oc_rules.specs.Allowed.{is_low, is_cap, is_type, all_tyvars}
use Rattle.oc_rules.proofs.Tests.{never}
use Rattle.oc_mirror.proofs.Marks.{m_more_path, m_path, m_part, m_more_args, m_type, m_factors}
use Rattle.oc_mirror.proofs.Decode.{p_long, p_post, p_base, p_bround, p_args, p_part, p_type, p_tafter, p_factors, behind}
use Rattle.oc_mirror.proofs.Names.{Path, undotted, more_path_done, path_done, path_undotted, type_path}

-- ---- how much fuel a type wants

abbrev mutual
  pub s_part : PATy → ℕ
  s_part (TVar v) = 3
  s_part (TCon ts q) = s_args ts + 6
  s_part (TParen t) = s_type t + 6

  pub s_args : POTys → ℕ
  s_args NoTys = 0
  s_args (MoreTys t ts) = s_type t + s_args ts + 3

  pub s_type : POTy → ℕ
  s_type (TAt t) = s_part t + 3
  s_type (TArrow t u) = s_part t + s_type u + 3
  s_type (TTuple t ts) = s_part t + s_factors ts + 3

  pub s_factors : PATys → ℕ
  s_factors NoATys = 1
  s_factors (MoreATys t ts) = s_part t + s_factors ts + 3

-- ---- what may follow

abbrev pub part_stop : Marks → Bool
part_stop (Low x ∷ s) = false
part_stop (Up x ∷ s) = false
part_stop (Dot ∷ s) = false
part_stop s = true

abbrev pub type_stop : Marks → Bool
type_stop (Low x ∷ s) = false
type_stop (Up x ∷ s) = false
type_stop (Dot ∷ s) = false
type_stop (Arrow ∷ s) = false
type_stop (Star ∷ s) = false
type_stop s = true

pub part_undotted : (r : Marks) → part_stop r ≡ true → undotted r ≡ true
part_undotted [] h = refl
part_undotted (Dot ∷ s) h = absurd (never h)
part_undotted (k ∷ s) h = refl

pub type_part : (r : Marks) → type_stop r ≡ true → part_stop r ≡ true
type_part [] h = refl
type_part (Low x ∷ s) h = absurd (never h)
type_part (Up x ∷ s) h = absurd (never h)
type_part (Dot ∷ s) h = absurd (never h)
type_part (k ∷ s) h = refl

post_stop : (j : ℕ) (t : PATy) (r : Marks) → part_stop r ≡ true → p_post j (t, r) ≡ (t, r)
post_stop zero t r h = refl
post_stop (suc j) t [] h = refl
post_stop (suc j) t (Low x ∷ s) h = absurd (never h)
post_stop (suc j) t (Up x ∷ s) h = absurd (never h)
post_stop (suc j) t (k ∷ s) h = refl

tafter_stop : (m : ℕ) (t : PATy) (r : Marks) → type_stop r ≡ true → p_tafter (suc m) (t, r) ≡ (TAt t, r)
tafter_stop m t [] h = refl
tafter_stop m t (Arrow ∷ s) h = absurd (never h)
tafter_stop m t (Star ∷ s) h = absurd (never h)
tafter_stop m t (k ∷ s) h = refl

factors_stop : (m : ℕ) (r : Marks) → type_stop r ≡ true → p_factors (suc m) r ≡ (NoATys, r)
factors_stop m [] h = refl
factors_stop m (Star ∷ s) h = absurd (never h)
factors_stop m (k ∷ s) h = refl

-- a path behind a type is one more name
post_path : (j : ℕ) (t : PATy) (q : Long) (r : Marks) → Path q → undotted r ≡ true → p_post (suc j) (t, m_path q r) ≡ p_post j (TCon (MoreTys (TAt t) NoTys) q, r)
post_path j t [] r h u = absurd h
post_path j t (n ∷ []) r (inr e) u = ap (λ (k : Mark). p_post (suc j) (t, k ∷ r)) e
post_path j t (n ∷ []) r (inl e) u = ap (λ (k : Mark). p_post (suc j) (t, k ∷ r)) e ∙ ap (λ (z : Long × Marks). p_post j (TCon (MoreTys (TAt t) NoTys) (n ∷ z.0), z.1)) (more_path_done n [] r (inl e) u)
post_path j t (n ∷ m ∷ q) r h u = ap (λ (k : Mark). p_post (suc j) (t, k ∷ m_more_path (m ∷ q) r)) h.0 ∙ ap (λ (z : Long × Marks). p_post j (TCon (MoreTys (TAt t) NoTys) (n ∷ z.0), z.1)) (more_path_done n (m ∷ q) r h u)

base_path : (j : ℕ) (q : Long) (r : Marks) → Path q → p_base (suc j) (m_path q r) ≡ (TCon NoTys (p_long (m_path q r)).0, (p_long (m_path q r)).1)
base_path j [] r h = absurd h
base_path j (n ∷ []) r (inl e) = subst (λ (k : Mark). p_base (suc j) (k ∷ r) ≡ (TCon NoTys (p_long (k ∷ r)).0, (p_long (k ∷ r)).1)) (sym e) refl
base_path j (n ∷ []) r (inr e) = subst (λ (k : Mark). p_base (suc j) (k ∷ r) ≡ (TCon NoTys (p_long (k ∷ r)).0, (p_long (k ∷ r)).1)) (sym e) refl
base_path j (n ∷ m ∷ q) r h = subst (λ (k : Mark). p_base (suc j) (k ∷ m_more_path (m ∷ q) r) ≡ (TCon NoTys (p_long (k ∷ m_more_path (m ∷ q) r)).0, (p_long (k ∷ m_more_path (m ∷ q) r)).1)) (sym h.0) refl

factors_part : (ts : PATys) (r : Marks) → type_stop r ≡ true → part_stop (m_factors ts r) ≡ true
factors_part NoATys r s = type_part r s
factors_part (MoreATys t ts) r s = refl

-- the fuel that is left behind a type
abbrev Left : ℕ → ℕ → PATy → Marks → Type 0
Left n k t r = (j : ℕ) × (k ≤ j) × (p_part n (m_part t r) ≡ p_post j (t, r))

one_name : (j : ℕ) (t : PATy) (q : Long) (r : Marks) (n k : ℕ) → suc k ≤ j → Path q → undotted r ≡ true → p_part n (m_part t (m_path q r)) ≡ p_post j (t, m_path q r) → Left n k (TCon (MoreTys (TAt t) NoTys) q) r
one_name zero t q r n k le p u e = absurd (omega (arith, le))
one_name (suc j) t q r n k le p u e = (j, omega (arith, le), e ∙ post_path j t q r p u)

mutual
  part_left : (t : PATy) → allowed.Part t → (n k : ℕ) → k + s_part t ≤ n → (r : Marks) → undotted r ≡ true → Left n k t r
  part_left (TVar v) h zero k le r u = absurd (omega (arith, le))
  part_left (TVar v) h (suc zero) k le r u = absurd (omega (arith, le))
  part_left (TVar v) h (suc (suc n)) k le r u = (suc n, omega (arith, le), refl)
  part_left (TCon NoTys q) h zero k le r u = absurd (omega (arith, le))
  part_left (TCon NoTys q) h (suc zero) k le r u = absurd (omega (arith, le))
  part_left (TCon NoTys q) h (suc (suc n)) k le r u =
      let p = type_path q h.1 in
      let e = path_done q r p u in
      (suc n, omega (arith, le), ap (p_post (suc n)) (base_path n q r p ∙ ap (λ (z : Long × Marks). (TCon NoTys z.0, z.1)) e))
  part_left (TCon (MoreTys (TAt t) NoTys) q) (h, g) n k le r u =
      let p = type_path q g in
      let inner = part_left t h n (suc k) (omega (arith, le)) (m_path q r) (path_undotted q r p) in
      one_name inner.0 t q r n k inner.1 p u inner.2
  part_left (TCon (MoreTys (TArrow t v) NoTys) q) h n k le r u = absurd h.0
  part_left (TCon (MoreTys (TTuple t ts) NoTys) q) h n k le r u = absurd h.0
  part_left (TCon (MoreTys t (MoreTys v us)) q) h zero k le r u = absurd (omega (arith, le))
  part_left (TCon (MoreTys t (MoreTys v us)) q) h (suc zero) k le r u = absurd (omega (arith, le))
  part_left (TCon (MoreTys t (MoreTys v us)) q) h (suc (suc zero)) k le r u = absurd (omega (arith, le))
  part_left (TCon (MoreTys t (MoreTys v us)) q) ((h, g), i) (suc (suc (suc n))) k le r u =
      let p = type_path q i in
      let a = type_done t h (suc n) (omega (arith, le)) (m_more_args (MoreTys v us) (Closed ∷ m_path q r)) refl in
      let b = args_done (MoreTys v us) g n (omega (arith, le)) (m_path q r) in
      let c = path_done q r p u in
      (suc (suc n), omega (arith, le), ap (p_post (suc (suc n))) (ap (p_bround (suc n)) a ∙ (ap (λ (z : POTys × Marks). (TCon (MoreTys t z.0) (p_long (behind z.1)).0, (p_long (behind z.1)).1)) b ∙ ap (λ (z : Long × Marks). (TCon (MoreTys t (MoreTys v us)) z.0, z.1)) c)))
  part_left (TParen t) h zero k le r u = absurd (omega (arith, le))
  part_left (TParen t) h (suc zero) k le r u = absurd (omega (arith, le))
  part_left (TParen t) h (suc (suc zero)) k le r u = absurd (omega (arith, le))
  part_left (TParen t) h (suc (suc (suc n))) k le r u = (suc (suc n), omega (arith, le), ap (λ (z : POTy × Marks). p_post (suc (suc n)) (p_bround (suc n) z)) (type_done t h (suc n) (omega (arith, le)) (Closed ∷ r) refl))

  args_done : (ts : POTys) → allowed.EachType ts → (n : ℕ) → s_args ts + 1 ≤ n → (r : Marks) → p_args n (m_more_args ts (Closed ∷ r)) ≡ (ts, Closed ∷ r)
  args_done NoTys h zero le r = absurd (omega (arith, le))
  args_done NoTys h (suc n) le r = refl
  args_done (MoreTys t ts) h zero le r = absurd (omega (arith, le))
  args_done (MoreTys t NoTys) (h, g) (suc n) le r =
      let a = type_done t h n (omega (arith, le)) (Closed ∷ r) refl in
      let b = args_done NoTys tt n (omega (arith, le)) r in
      ap (λ (z : POTy × Marks). (MoreTys z.0 (p_args n z.1).0, (p_args n z.1).1)) a ∙ ap (λ (z : POTys × Marks). (MoreTys t z.0, z.1)) b
  args_done (MoreTys t (MoreTys v us)) (h, g) (suc n) le r =
      let a = type_done t h n (omega (arith, le)) (m_more_args (MoreTys v us) (Closed ∷ r)) refl in
      let b = args_done (MoreTys v us) g n (omega (arith, le)) r in
      ap (λ (z : POTy × Marks). (MoreTys z.0 (p_args n z.1).0, (p_args n z.1).1)) a ∙ ap (λ (z : POTys × Marks). (MoreTys t z.0, z.1)) b

  pub type_done : (t : POTy) → allowed.TypeOf t → (n : ℕ) → s_type t ≤ n → (r : Marks) → type_stop r ≡ true → p_type n (m_type t r) ≡ (t, r)
  type_done (TAt t) h zero le r s = absurd (omega (arith, le))
  type_done (TAt t) h (suc zero) le r s = absurd (omega (arith, le))
  type_done (TAt t) h (suc (suc n)) le r s =
      let a = part_left t h (suc n) 0 (omega (arith, le)) r (part_undotted r (type_part r s)) in
      ap (p_tafter (suc n)) (a.2 ∙ post_stop a.0 t r (type_part r s)) ∙ tafter_stop n t r s
  type_done (TArrow t v) h zero le r s = absurd (omega (arith, le))
  type_done (TArrow t v) h (suc zero) le r s = absurd (omega (arith, le))
  type_done (TArrow t v) (h, g) (suc (suc n)) le r s =
      let a = part_left t h (suc n) 0 (omega (arith, le)) (Arrow ∷ m_type v r) refl in
      let b = type_done v g n (omega (arith, le)) r s in
      ap (p_tafter (suc n)) (a.2 ∙ post_stop a.0 t (Arrow ∷ m_type v r) refl) ∙ ap (λ (z : POTy × Marks). (TArrow t z.0, z.1)) b
  type_done (TTuple t NoATys) h n le r s = absurd h
  type_done (TTuple t (MoreATys v us)) h zero le r s = absurd (omega (arith, le))
  type_done (TTuple t (MoreATys v us)) h (suc zero) le r s = absurd (omega (arith, le))
  type_done (TTuple t (MoreATys v us)) (h, g) (suc (suc n)) le r s =
      let a = part_left t h (suc n) 0 (omega (arith, le)) (m_factors (MoreATys v us) r) refl in
      let b = factors_done (MoreATys v us) g n (omega (arith, le)) r s in
      ap (p_tafter (suc n)) (a.2 ∙ post_stop a.0 t (m_factors (MoreATys v us) r) refl) ∙ ap (λ (z : PATys × Marks). (TTuple t z.0, z.1)) b

  factors_done : (ts : PATys) → allowed.EachPart ts → (n : ℕ) → s_factors ts ≤ n → (r : Marks) → type_stop r ≡ true → p_factors n (m_factors ts r) ≡ (ts, r)
  factors_done NoATys h zero le r s = absurd (omega (arith, le))
  factors_done NoATys h (suc n) le r s = factors_stop n r s
  factors_done (MoreATys t ts) h zero le r s = absurd (omega (arith, le))
  factors_done (MoreATys t ts) (h, g) (suc n) le r s =
      let u = factors_part ts r s in
      let a = part_left t h n 0 (omega (arith, le)) (m_factors ts r) (part_undotted (m_factors ts r) u) in
      let b = factors_done ts g n (omega (arith, le)) r s in
      ap (λ (z : PATy × Marks). (MoreATys z.0 (p_factors n z.1).0, (p_factors n z.1).1)) (a.2 ∙ post_stop a.0 t (m_factors ts r) u) ∙ ap (λ (z : PATys × Marks). (MoreATys t z.0, z.1)) b

-- a type that no name follows
pub part_alone : (t : PATy) → allowed.Part t → (n : ℕ) → s_part t ≤ n → (r : Marks) → part_stop r ≡ true → p_part n (m_part t r) ≡ (t, r)
part_alone t h n le r s = let a = part_left t h n 0 (omega (arith, le)) r (part_undotted r s) in a.2 ∙ post_stop a.0 t r s
