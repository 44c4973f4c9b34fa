-- Readers that take a token, and readers that may take none.
use Rattle.std.proofs.Common.{◌≡◌, ℕ, zero, suc, ◌+◌, ◌<◌, ◌≤◌, Bool, true, false, List, [], ◌∷◌, length, Option, Some, None, Ok, Err, refl, sym, ap, ◌∙◌, arith, inl, inr}
use Rattle.readers.specs.declared.code.Code.{Code}
use Rattle.readers.specs.declared.code.Code.TheVariants.{Depth, Grammar}
use Rattle.readers.specs.Infix.{ups}
use Rattle.readers.specs.Reader.{first, Answer, Reader, ◌>>=◌, head_is, both, bound, mapped, token_by, one, skip, close, seen, passed, roomy, only, else_by, shut, row_by, row, steps_by, steps, barred, guard}
use Rattle.readers.specs.Forms.{growth, grown, grown_once, grown_to, ended_as, maybe, nothing, any_tree, cons_of, seps, else_if, enclosed}
use Rattle.readers.proofs.Outcome.{ok_of, ok_is, chosen}
use Rattle.readers.proofs.Choice.{roomy_ok}
use Rattle.readers.proofs.Guard.{unless_ok}
use Rattle.readers.proofs.RowLoop.{Shortens}

-- what is left is no longer
abbrev pub Keeps : {K T : Type 0} → Reader K T → Type 0
Keeps {K} {T} p = (s : List K) (z : T × List K) → p s ≡ Ok z → length z.1 ≤ length s

pub kept : {K T : Type 0} (p : Reader K T) → Shortens p → Keeps p
kept p P s z e = let l = P s z e in omega arith

abbrev gave : {K T : Type 0} → T × List K → Answer K T
gave z = Ok z

-- the rest of what was given
rest_is : {K T : Type 0} (x : T) (s : List K) (z : T × List K) → gave (x, s) ≡ Ok z → length s ≡ length z.1
rest_is x s z e = ap (λ (y : _ × List _). length y.1) (ok_is (x, s) z e)

pub token_shorter : {K A : Type 0} (view : K → Option A) → Shortens (token_by view)
token_shorter view [] z e = absurd cc
token_shorter {K} {A} view (c ∷ s) z e = go (view c) e
  where
    go : (o : Option A) → seen o c s ≡ Ok z → length z.1 < length (c ∷ s)
    go None e = absurd cc
    go (Some a) e = let l = rest_is a s z e in omega arith

pub one_shorter : {K : Type 0} (test : K → Bool) → Shortens (one test)
one_shorter test [] z e = absurd cc
one_shorter {K} test (c ∷ s) z e = go (test c) e
  where
    go : (b : Bool) → passed b c s ≡ Ok z → length z.1 < length (c ∷ s)
    go false e = absurd cc
    go true e = let l = rest_is tt s z e in omega arith

pub mapped_shorter : {K S T : Type 0} (f : S → T) (p : Reader K S) → Shortens p → Shortens (mapped f p)
mapped_shorter f p P s z e =
    let a = ok_of (p s) (λ x. Ok (f x.0, x.1)) z e in
    let l = P s a.0 a.1 in
    let m = rest_is (f a.0.0) a.0.1 z a.2 in
    omega arith

pub both_shorter : {K S T : Type 0} (p : Reader K S) (q : Reader K T) → Shortens p → Keeps q → Shortens (both p q)
both_shorter p q P Q s z e =
    let a = ok_of (p s) (λ x. q x.1 >>= λ y. Ok ((x.0, y.0), y.1)) z e in
    let b = ok_of (q a.0.1) (λ y. Ok ((a.0.0, y.0), y.1)) z a.2 in
    let l = P s a.0 a.1 in
    let m = Q a.0.1 b.0 b.1 in
    let n = rest_is (a.0.0, b.0.0) b.0.1 z b.2 in
    omega arith

pub bound_shorter : {K S T : Type 0} (p : Reader K S) (q : S → Reader K T) → Shortens p → ((x : S) → Keeps (q x)) → Shortens (bound p q)
bound_shorter p q P Q s z e =
    let a = ok_of (p s) (λ x. q x.0 x.1 >>= λ y. Ok ((x.0, y.0), y.1)) z e in
    let b = ok_of (q a.0.0 a.0.1) (λ y. Ok ((a.0.0, y.0), y.1)) z a.2 in
    let l = P s a.0 a.1 in
    let m = Q a.0.0 a.0.1 b.0 b.1 in
    let n = rest_is (a.0.0, b.0.0) b.0.1 z b.2 in
    omega arith

pub skip_shorter : {K T : Type 0} (test : K → Bool) (p : Reader K T) → Keeps p → Shortens (skip test p)
skip_shorter test p P s z e =
    let a = ok_of (one test s) (λ x. p x.1) z e in
    let l = one_shorter test s a.0 a.1 in
    let m = P a.0.1 z a.2 in
    omega arith

pub close_shorter : {K T : Type 0} (p : Reader K T) (test : K → Bool) → Keeps p → Shortens (close p test)
close_shorter p test P s z e =
    let a = ok_of (p s) (λ x. one test x.1 >>= λ y. Ok (x.0, y.1)) z e in
    let b = ok_of (one test a.0.1) (λ y. Ok (a.0.0, y.1)) z a.2 in
    let l = P s a.0 a.1 in
    let m = one_shorter test a.0.1 b.0 b.1 in
    let n = rest_is a.0.0 b.0.1 z b.2 in
    omega arith

pub shut_shorter : {K T : Type 0} (test : K → Bool) → Shortens {K = K} {T = T} (shut test)
shut_shorter {K} {T} test s z e =
    elim (chosen (head_is test (first s)) (Err (Depth, s)) (Err (Grammar, s)) (Ok z) e) [
      | inl a ↦ absurd cc
      | inr a ↦ absurd cc
    ]

pub only_shorter : {K T : Type 0} (test : K → Bool) (low : ℕ) (p : Reader K T) (h : ℕ) → Shortens p → Shortens (only test low p h)
only_shorter test low p h P s z e =
    elim (chosen (head_is test (first s)) (roomy low p h s) (Err (Grammar, s)) (Ok z) e) [
      | inl a ↦ P s z (roomy_ok low h p s z a.1)
      | inr a ↦ absurd cc
    ]

pub else_by_shorter : {K T : Type 0} (test : K → Bool) (low : ℕ) (p q : Reader K T) (h : ℕ) → Shortens p → Shortens q → Shortens (else_by test low p q h)
else_by_shorter test low p q h P Q s z e =
    elim (chosen (head_is test (first s)) (roomy low p h s) (q s) (Ok z) e) [
      | inl a ↦ P s z (roomy_ok low h p s z a.1)
      | inr a ↦ Q s z a.1
    ]

pub else_if_shorter : {K T : Type 0} (test : K → Bool) (p q : Reader K T) → Shortens p → Shortens q → Shortens (else_if test p q)
else_if_shorter test p q P Q s z e =
    elim (chosen (head_is test (first s)) (p s) (q s) (Ok z) e) [
      | inl a ↦ P s z a.1
      | inr a ↦ Q s z a.1
    ]

row_keeps : {K T : Type 0} (test : K → Bool) (p : Reader K T) → Shortens p → (n : ℕ) (s : List K) (z : List T × List K) → row_by test p n s ≡ Ok z → length z.1 ≤ length s
unfolding row_by
row_keeps test p P zero s z e = let l = rest_is [] s z e in omega arith
row_keeps {K} {T} test p P (suc n) s z e =
    elim (chosen (head_is test (first s)) (p s >>= (λ x. row_by test p n x.1 >>= λ y. Ok (x.0 ∷ y.0, y.1))) (Ok ([], s)) (Ok z) e) [
      | inl a ↦ let b = ok_of (p s) (λ x. row_by test p n x.1 >>= λ y. Ok (x.0 ∷ y.0, y.1)) z a.1 in
          let c = ok_of (row_by test p n b.0.1) (λ y. Ok (b.0.0 ∷ y.0, y.1)) z b.2 in
          let l = P s b.0 b.1 in
          let m = row_keeps test p P n b.0.1 c.0 c.1 in
          let k = rest_is (b.0.0 ∷ c.0.0) c.0.1 z c.2 in
          omega arith
      | inr a ↦ let l = rest_is [] s z a.1 in omega arith
    ]

pub row_kept : {K T : Type 0} (test : K → Bool) (p : Reader K T) → Shortens p → Keeps (row test p)
row_kept test p P s z e = row_keeps test p P (length s) s z e

pub seps_shorter : {K T : Type 0} (sep : K → Bool) (p : Reader K T) → Shortens p → Shortens (seps sep p)
seps_shorter sep p P = mapped_shorter cons_of (both p (row sep (skip sep p))) (both_shorter p (row sep (skip sep p)) P (row_kept sep (skip sep p) (skip_shorter sep p (kept p P))))

pub steps_keeps : {K X U : Type 0} (test : K → Bool) (step : X → U → X) (q : X → Reader K U) → ((x : X) → Shortens (q x)) → (n : ℕ) (x : X) (s : List K) (z : List U × List K) → steps_by test step q n x s ≡ Ok z → length z.1 ≤ length s
unfolding steps_by
steps_keeps test step q Q zero x s z e = let l = rest_is [] s z e in omega arith
steps_keeps test step q Q (suc n) x s z e =
    elim (chosen (head_is test (first s)) (q x s >>= (λ y. steps_by test step q n (step x y.0) y.1 >>= λ t. Ok (y.0 ∷ t.0, t.1))) (Ok ([], s)) (Ok z) e) [
      | inl a ↦ let b = ok_of (q x s) (λ y. steps_by test step q n (step x y.0) y.1 >>= λ t. Ok (y.0 ∷ t.0, t.1)) z a.1 in
          let c = ok_of (steps_by test step q n (step x b.0.0) b.0.1) (λ t. Ok (b.0.0 ∷ t.0, t.1)) z b.2 in
          let l = Q x s b.0 b.1 in
          let m = steps_keeps test step q Q n (step x b.0.0) b.0.1 c.0 c.1 in
          let k = rest_is (b.0.0 ∷ c.0.0) c.0.1 z c.2 in
          omega arith
      | inr a ↦ let l = rest_is [] s z a.1 in omega arith
    ]

pub guard_shorter : {K T : Type 0} (bar : K → Option Code) (p : Reader K T) → Shortens p → Shortens (guard bar p)
guard_shorter bar p P s z e = P s z (unless_ok (barred bar (first s)) s (p s) z e).1

module _ {K E U : Type 0} (test : K → Bool) (tall : E → ℕ) (step : E → U → E) (base : Reader K E) (suffix : Reader K U) (h : ℕ) (P : Shortens base) (Q : Shortens suffix) where
  pub grown_shorter : Shortens (grown test any_tree tall step base suffix h)
  grown_shorter = mapped_shorter (grown_to step) (bound base (λ a. steps test step (λ x. guard (growth test (any_tree x) (tall x) h) suffix) a))
      (bound_shorter base (λ a. steps test step (λ x. guard (growth test (any_tree x) (tall x) h) suffix) a) P
      (λ a s z e. steps_keeps test step (λ x. guard (growth test (any_tree x) (tall x) h) suffix) (λ x. guard_shorter (growth test (any_tree x) (tall x) h) suffix Q) (length s) a s z e))

  maybe_kept : (x : E) → Keeps (maybe test 0 (guard (growth test (any_tree x) (tall x) h) suffix) h)
  maybe_kept x s z e =
      elim (chosen (head_is test (first s)) (roomy 0 (mapped (λ u. Some u) (guard (growth test (any_tree x) (tall x) h) suffix)) h s) (Ok (None, s)) (Ok z) e) [
        | inl a ↦ kept _ (mapped_shorter (λ u. Some u) (guard (growth test (any_tree x) (tall x) h) suffix) (guard_shorter (growth test (any_tree x) (tall x) h) suffix Q)) s z (roomy_ok 0 h (mapped (λ u. Some u) (guard (growth test (any_tree x) (tall x) h) suffix)) s z a.1)
        | inr a ↦ let l = rest_is None s z a.1 in omega arith
      ]

  pub once_shorter : Shortens (grown_once test any_tree tall step base suffix h)
  once_shorter = mapped_shorter (ended_as step) (bound base (λ x. maybe test 0 (guard (growth test (any_tree x) (tall x) h) suffix) h))
      (bound_shorter base (λ x. maybe test 0 (guard (growth test (any_tree x) (tall x) h) suffix) h) P maybe_kept)
