-- Where there are more candidates than heads, some candidate is none of the heads.
use Rattle.std.proofs.Common.{◌≡◌, suc, ◌<◌, ◌≤◌, List, [], ◌∷◌, length, Bool, true, false, ◌&&◌, ◌||◌, not, cond, refl, ap, subst, arith, inl, inr}
use Rattle.std.specs.List.{list_all, list_any}
use Rattle.std.proofs.lemmas.Bool.{and_parts, and_from, or_parts, or_from, cases_Bool, not-true, false_from_ne_true, cases_lt}
use Rattle.tl_text.specs.declared.lit.Lit.{Lit}
use Rattle.sml_static.specs.Shapes.{Key, is_same_key, is_same_literal}
use Rattle.sml_static.specs.Exhaustive.{Head, HeadLiteral, HeadKey, Another, is_same_head}
use Rattle.match_use.proofs.Equal.{same_key-true, same_key-refl, same_literal-true, same_literal-refl}

-- alike heads are alike to the same heads
pub same_head-trans : (a b c : Head) → is_same_head a b ≡ true → is_same_head a c ≡ true → is_same_head b c ≡ true
same_head-trans (HeadLiteral l) (HeadLiteral m) (HeadLiteral n) e f = subst (λ (x : Lit). is_same_literal x n ≡ true) (same_literal-true l m e) f
same_head-trans (HeadKey k x) (HeadKey j y) (HeadKey i z) e f = subst (λ (q : Key). is_same_key q i ≡ true) (same_key-true k j e) f
same_head-trans (HeadLiteral l) (HeadLiteral m) (HeadKey j y) e f = cc
same_head-trans (HeadLiteral l) (HeadLiteral m) Another e f = cc
same_head-trans (HeadLiteral l) (HeadKey j y) c e f = cc
same_head-trans (HeadLiteral l) Another c e f = cc
same_head-trans (HeadKey k x) (HeadLiteral l) c e f = cc
same_head-trans (HeadKey k x) (HeadKey j y) (HeadLiteral l) e f = cc
same_head-trans (HeadKey k x) (HeadKey j y) Another e f = cc
same_head-trans (HeadKey k x) Another c e f = cc
same_head-trans Another b c e f = cc

pub same_head-sym : (a b : Head) → is_same_head a b ≡ true → is_same_head b a ≡ true
same_head-sym (HeadLiteral l) (HeadLiteral m) e = subst (λ (x : Lit). is_same_literal x l ≡ true) (same_literal-true l m e) (same_literal-refl l)
same_head-sym (HeadKey k x) (HeadKey j y) e = subst (λ (q : Key). is_same_key q k ≡ true) (same_key-true k j e) (same_key-refl k)
same_head-sym (HeadLiteral l) (HeadKey j y) e = cc
same_head-sym (HeadLiteral l) Another e = cc
same_head-sym (HeadKey k x) (HeadLiteral l) e = cc
same_head-sym (HeadKey k x) Another e = cc
same_head-sym Another b e = cc

-- each two are unlike
abbrev pub are_unlike : List Head → Bool
are_unlike [] = true
are_unlike (c ∷ cs) = list_all (λ x. not (is_same_head c x)) cs && are_unlike cs

-- a head that passes each test that all of these pass
pub record IsOneOf (cs : List Head) (c : Head) : Type 0 where
  pub passes : (t : Head → Bool) → list_all t cs ≡ true → t c ≡ true

-- a candidate that is alike to none of the heads
pub record Free (cs hs : List Head) : Type 0 where
  pub head : Head
  pub among : IsOneOf cs head
  pub alike : list_any (is_same_head head) hs ≡ false

-- the heads without those alike to one
abbrev without : Head → List Head → List Head
without c [] = []
without c (h ∷ hs) = cond (is_same_head c h) (without c hs) (h ∷ without c hs)

without_fewer : (c : Head) (hs : List Head) → length (without c hs) ≤ length hs
without_fewer c [] = omega arith
without_fewer c (h ∷ hs) = by (is_same_head c h) (without_fewer c hs)
  where
    by : (b : Bool) → length (without c hs) ≤ length hs → length (cond b (without c hs) (h ∷ without c hs)) ≤ suc (length hs)
    by true i = omega arith
    by false i = omega arith

without_one : (c : Head) (hs : List Head) → list_any (is_same_head c) hs ≡ true → length (without c hs) < length hs
without_one c [] e = cc
without_one c (h ∷ hs) e = by (is_same_head c h) (without_fewer c hs) (without_one c hs) e
  where
    by : (b : Bool) → length (without c hs) ≤ length hs → (list_any (is_same_head c) hs ≡ true → length (without c hs) < length hs) → (b || list_any (is_same_head c) hs) ≡ true
        → length (cond b (without c hs) (h ∷ without c hs)) < suc (length hs)
    by true i k e = omega arith
    by false i k e = let j = k e in omega arith

-- what is unlike to c and to all heads that are unlike to c is unlike to all
contrary : {b : Bool} → b ≡ false → b ≡ true → ⊥
contrary x y = cc

unlike_all : (c d : Head) (hs : List Head) → is_same_head c d ≡ false → list_any (is_same_head d) (without c hs) ≡ false → list_any (is_same_head d) hs ≡ false
unlike_all c d [] n e = refl
unlike_all c d (h ∷ hs) n e = by (is_same_head c h) refl e (unlike_all c d hs n)
  where
    by : (b : Bool) → is_same_head c h ≡ b → list_any (is_same_head d) (cond b (without c hs) (h ∷ without c hs)) ≡ false
        → (list_any (is_same_head d) (without c hs) ≡ false → list_any (is_same_head d) hs ≡ false) → (is_same_head d h || list_any (is_same_head d) hs) ≡ false
    by true r e k = or_from (is_same_head d h) _ (false_from_ne_true (is_same_head d h) (λ s. contrary n (same_head-trans h c d (same_head-sym c h r) (same_head-sym d h s)))) (k e)
    by false r e k = let a = or_parts (is_same_head d h) (list_any (is_same_head d) (without c hs)) e in or_from (is_same_head d h) _ a.0 (k a.1)

pub free : (cs hs : List Head) → are_unlike cs ≡ true → length hs < length cs → Free cs hs
free [] hs u l = absurd (omega arith)
free (c ∷ cs) hs u l =
    let a = and_parts (list_all (λ x. not (is_same_head c x)) cs) (are_unlike cs) u in
    elim (cases_Bool (list_any (is_same_head c) hs)) [
      | inr f ↦ record { head = c; among = record { passes = λ t e. (and_parts (t c) (list_all t cs) e).0 }; alike = f }
      | inl s ↦
          let w = without_one c hs s in
          let r = free cs (without c hs) a.1 (omega arith) in
          record {
            head = r.head;
            among = record { passes = λ t e. r.among.passes t (and_parts (t c) (list_all t cs) e).1 };
            alike = unlike_all c r.head hs (not-true (is_same_head c r.head) (r.among.passes (λ x. not (is_same_head c x)) a.0)) r.alike;
          }
    ]

-- heads that are unlike and all candidates leave room for another candidate, where that one is none of them
pub room : (cs hs : List Head) (c : Head) → are_unlike hs ≡ true → list_all (λ h. list_any (is_same_head h) cs) hs ≡ true → list_any (is_same_head c) cs ≡ true
    → list_any (is_same_head c) hs ≡ false → length hs < length cs
room cs hs c u among own f = elim (cases_lt (length hs) (length cs)) [
  | inl l ↦ l
  | inr le ↦
      let n : list_all (λ x. not (is_same_head c x)) hs ≡ true = all_not hs f in
      let r = free (c ∷ hs) cs (and_from (list_all (λ x. not (is_same_head c x)) hs) (are_unlike hs) n u) (omega arith) in
      let one = r.among.passes (λ h. list_any (is_same_head h) cs) (and_from (list_any (is_same_head c) cs) _ own among) in
      absurd (contrary r.alike one)
]
  where
    all_not : (xs : List Head) → list_any (is_same_head c) xs ≡ false → list_all (λ x. not (is_same_head c x)) xs ≡ true
    all_not [] e = refl
    all_not (x ∷ xs) e = let a = or_parts (is_same_head c x) (list_any (is_same_head c) xs) e in and_from (not (is_same_head c x)) _ (ap not a.0) (all_not xs a.1)
