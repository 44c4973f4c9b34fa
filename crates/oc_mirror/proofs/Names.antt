-- The marks of names and paths, and how they are decoded.
use Rattle.std.proofs.Common.{◌≡◌, ℕ, ◌⊎◌, inl, inr, Bool, true, false, not, ◌||◌, List, [], ◌∷◌, Option, Some, None, refl, sym, ap, subst, ◌∙◌, arith}
use Rattle.std.specs.Prelude.{codes, if◌then◌else◌, is_some}
use Rattle.tl_cases.specs.Rows.{value_at}
use Rattle.tl_cases.specs.Words.{oc_rows}
use Rattle.oc_ast.specs.Plain.{Bytes, Long}
use Rattle.oc_rules.specs.Bytes.{is_small, is_capital, is_part, every, heads, shaped, is_only}
use Rattle.oc_rules.specs.Allowed.{is_word, is_low, is_cap, ends_in, is_module, is_type, is_constructor}
use Rattle.oc_rules.proofs.Tests.{never, and_true, not_true, between_is, same_is}
use Rattle.oc_mirror.proofs.Marks.{Mark, Low, Up, Tv, Closed, Dot}
use Rattle.oc_mirror.proofs.Marks.{nm, of_name, m_more_path, m_path, m_tyvars, m_more_params, m_params}
use Rattle.oc_mirror.proofs.Decode.{p_more_path, p_long, p_tyvars, p_more_params, p_params, behind}

-- ---- names

none_is : (o : Option ℕ) → is_some o ≡ false → o ≡ None
none_is None e = refl
none_is (Some k) e = absurd cc

pub small_first : (n : Bytes) → shaped is_small is_part n ≡ true → heads is_small n ≡ true
small_first [] e = absurd cc
small_first (c ∷ s) e = (and_true (is_small c) (every is_part s) e).0

pub capital_first : (n : Bytes) → shaped is_capital is_part n ≡ true → heads is_small n ≡ false
capital_first [] e = absurd cc
capital_first (c ∷ s) e = go (is_small c) refl
  where
    go : (b : Bool) → is_small c ≡ b → b ≡ false
    go true y = let h = between_is 97 122 c y in let k = between_is 65 90 c (and_true (is_capital c) (every is_part s) e).0 in let a = h.0 in let d = k.1 in absurd (omega (arith, a, d))
    go false y = refl

pub low_mark : (n : Bytes) → is_low n ≡ true → nm n ≡ Low n
low_mark n e =
    let h = and_true (shaped is_small is_part n) (not (is_word n)) e in
    ap (λ (o : Option ℕ). of_name o n) (none_is (value_at n oc_rows) (not_true (is_word n) h.1)) ∙ ap (λ (b : Bool). if b then Low n else Up n) (small_first n h.0)

pub cap_mark : (n : Bytes) → is_cap n ≡ true → nm n ≡ Up n
cap_mark n e =
    let h = and_true (shaped is_capital is_part n) (not (is_word n)) e in
    ap (λ (o : Option ℕ). of_name o n) (none_is (value_at n oc_rows) (not_true (is_word n) h.1)) ∙ ap (λ (b : Bool). if b then Low n else Up n) (capital_first n h.0)

-- ---- paths

abbrev pub Either : Bytes → Type 0
Either n = (nm n ≡ Up n) ⊎ (nm n ≡ Low n)

-- names with a capital first, and last any name
abbrev pub Path : Long → Type 0
Path [] = ⊥
Path (n ∷ []) = Either n
Path (n ∷ m ∷ q) = (nm n ≡ Up n) × Path (m ∷ q)

abbrev pub undotted : List Mark → Bool
undotted (Dot ∷ s) = false
undotted s = true

stops_path : (r : List Mark) → undotted r ≡ true → p_more_path r ≡ ([], r)
stops_path [] h = refl
stops_path (Dot ∷ s) h = absurd (never h)
stops_path (k ∷ s) h = refl

pub either_of : (n : Bytes) (q : Long) → Path (n ∷ q) → Either n
either_of n [] h = h
either_of n (m ∷ q) h = inl h.0

abbrev with : Bytes → Long × List Mark → Long × List Mark
with x t = (x ∷ t.0, t.1)

one_more : (n : Bytes) (s : List Mark) → Either n → p_more_path (Dot ∷ nm n ∷ s) ≡ with n (p_more_path s)
one_more n s (inl e) = ap (λ (k : Mark). p_more_path (Dot ∷ k ∷ s)) e
one_more n s (inr e) = ap (λ (k : Mark). p_more_path (Dot ∷ k ∷ s)) e

pub more_path_done : (n : Bytes) (q : Long) (r : List Mark) → Path (n ∷ q) → undotted r ≡ true → p_more_path (m_more_path q r) ≡ (q, r)
more_path_done n [] r h u = stops_path r u
more_path_done n (m ∷ q) r h u = one_more m (m_more_path q r) (either_of m q h.1) ∙ ap (with m) (more_path_done m q r h.1 u)

pub path_done : (q : Long) (r : List Mark) → Path q → undotted r ≡ true → p_long (m_path q r) ≡ (q, r)
path_done [] r h u = absurd h
path_done (n ∷ []) r (inl e) u = ap (λ (k : Mark). p_long (k ∷ r)) e ∙ ap (with n) (stops_path r u)
path_done (n ∷ []) r (inr e) u = ap (λ (k : Mark). p_long (k ∷ r)) e
path_done (n ∷ m ∷ q) r h u = ap (λ (k : Mark). p_long (k ∷ m_more_path (m ∷ q) r)) h.0 ∙ ap (with n) (more_path_done n (m ∷ q) r h u)

-- what a path begins with
pub path_undotted : (q : Long) (r : List Mark) → Path q → undotted (m_path q r) ≡ true
path_undotted [] r h = absurd h
path_undotted (n ∷ q) r h = go (either_of n q h)
  where
    go : Either n → undotted (nm n ∷ m_more_path q r) ≡ true
    go (inl e) = ap (λ (k : Mark). undotted (k ∷ m_more_path q r)) e
    go (inr e) = ap (λ (k : Mark). undotted (k ∷ m_more_path q r)) e

pub ends_path : (last : Bytes → Bool) → ((n : Bytes) → last n ≡ true → Either n) → (q : Long) → ends_in last q ≡ true → Path q
ends_path last f [] e = absurd cc
ends_path last f (n ∷ []) e = f n e
ends_path last f (n ∷ m ∷ q) e = let h = and_true (is_cap n) (ends_in last (m ∷ q)) e in (cap_mark n h.0, ends_path last f (m ∷ q) h.1)

pub type_path : (q : Long) → is_type q ≡ true → Path q
type_path q e = ends_path is_low (λ n h. inr (low_mark n h)) q e

pub module_path : (q : Long) → is_module q ≡ true → Path q
module_path q e = ends_path is_cap (λ n h. inl (cap_mark n h)) q e

pub either : {A : Type 0} (a b : Bool) → (a || b) ≡ true → (a ≡ true → A) → (b ≡ true → A) → A
either true b e f g = f refl
either false b e f g = g e

only_path : (w : Bytes) (q : Long) → nm w ≡ Up w → is_only w q ≡ true → Path q
only_path w [] g e = absurd cc
only_path w (n ∷ []) g e = inl (subst (λ (z : Bytes). nm z ≡ Up z) (sym (same_is n w e)) g)
only_path w (n ∷ m ∷ q) g e = absurd cc

pub constructor_path : (q : Long) → is_constructor q ≡ true → Path q
constructor_path q e =
    either (ends_in is_cap q) (is_only (codes "true") q || is_only (codes "false") q) e (ends_path is_cap (λ n h. inl (cap_mark n h)) q)
    (λ k. either (is_only (codes "true") q) (is_only (codes "false") q) k (only_path (codes "true") q refl) (only_path (codes "false") q refl))

-- ---- type variables

abbrev pub untyvared : List Mark → Bool
untyvared (Tv v ∷ s) = false
untyvared s = true

stops_tyvars : (r : List Mark) → untyvared r ≡ true → p_tyvars r ≡ ([], r)
stops_tyvars [] h = refl
stops_tyvars (Tv v ∷ s) h = absurd (never h)
stops_tyvars (k ∷ s) h = refl

pub tyvars_done : (vs : List Bytes) (r : List Mark) → untyvared r ≡ true → p_tyvars (m_tyvars vs r) ≡ (vs, r)
tyvars_done [] r h = stops_tyvars r h
tyvars_done (v ∷ vs) r h = ap (with v) (tyvars_done vs r h)

more_params_done : (vs : List Bytes) (r : List Mark) → p_more_params (m_more_params vs (Closed ∷ r)) ≡ (vs, Closed ∷ r)
more_params_done [] r = refl
more_params_done (v ∷ vs) r = ap (with v) (more_params_done vs r)

pub params_done : (vs : List Bytes) (n : Bytes) (r : List Mark) → nm n ≡ Low n → p_params (m_params vs (nm n ∷ r)) ≡ (vs, nm n ∷ r)
params_done [] n r e = subst (λ (k : Mark). p_params (k ∷ r) ≡ ([], k ∷ r)) (sym e) refl
params_done (v ∷ []) n r e = refl
params_done (v ∷ u ∷ vs) n r e = ap (λ (t : List Bytes × List Mark). (v ∷ t.0, behind t.1)) (more_params_done (u ∷ vs) (nm n ∷ r))
