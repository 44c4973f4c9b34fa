-- The longest numeral at the front of a text.
use Rattle.std.proofs.Common.{◌≡◌, ℕ, zero, suc, ◌+◌, ◌<◌, ◌≤◌, ◌⊎◌, inl, inr, Bool, true, false, cond, not, ◌&&◌, ◌||◌, List, [], ◌∷◌, ◌++◌, length, take, drop, Option, Some, None, refl, sym, ap, subst, ◌∙◌, arith, ◌==◌, eqb, length-take-le, take-append-drop, zero-add}
use Rattle.std.specs.List.{prefix_len}
use Rattle.std.proofs.lemmas.Bool.Decides.{nat_tests}
use Rattle.std.proofs.lemmas.Bool.{eqb-true}
use Rattle.std.proofs.lemmas.List.Sums.{prefix_len-le-length}
use Rattle.sml_lex.specs.declared.step.Step.TheVariants.{Fail}
use Rattle.tl_text.specs.declared.code.Code.TheVariants.{RealLiteral}
use Rattle.sml_lex.specs.Bytes.{is_digit, is_hex, is_letter, first_is, all_are, some_are, number}
use Rattle.sml_lex.specs.Numbers.{Reading, Real, unsigned, digits_then, is_exponent, is_tail, is_fraction, is_real, behind_two, behind_three, int_reading, word_reading, has_exponent, goes_on, with_sign, NoWord}
use Rattle.sml_lex.specs.Steps.{reading, Begins, RunStep, longest, step_of}
use Rattle.sml_lex.proofs.Lists.{first_true, second_true, both_true}
use Rattle.sml_lex.proofs.Runs.{run_bound, run_passes, run_some, run_none, some_is, some_all, some_length, some_first, first_append, all_weaker, most_exists}

-- ---- a digit is nothing else

pub digit_no_letter : (c : ℕ) → is_digit c ≡ true → is_letter c ≡ false
digit_no_letter c e = grind (arith, nat_tests)

pub digit_no_prime : (c : ℕ) → is_digit c ≡ true → eqb c 39 ≡ false
digit_no_prime c e = grind (arith, nat_tests)

digit_no_sign : (c : ℕ) → is_digit c ≡ true → eqb c 126 ≡ false
digit_no_sign c e = grind (arith, nat_tests)

-- ---- what a numeral is, by the text behind its sign

abbrev pick : Bool → List ℕ → Option Reading
pick negative w =
    cond (some_are is_digit w) (Some (int_reading negative (number 10 w)))
    (cond (some_are is_hex (behind_two 48 120 w)) (Some (int_reading negative (number 16 (behind_two 48 120 w))))
    (cond (not negative && some_are is_digit (behind_two 48 119 w)) (Some (word_reading (number 10 (behind_two 48 119 w))))
    (cond (not negative && some_are is_hex (behind_three 48 119 120 w)) (Some (word_reading (number 16 (behind_three 48 119 120 w))))
    (cond (is_real w) (Some Real) None))))

picked : (negative : Bool) (d : ℕ) (g v : List ℕ) → is_digit d ≡ true → reading (with_sign negative (d ∷ g)) v ≡ pick negative (d ∷ g)
picked true d g v e = rw e refl
picked false d g v e = rw (digit_no_letter d e, digit_no_prime d e, digit_no_sign d e, e) refl

-- the form of a numeral
pub data Form (negative : Bool) (w : List ℕ) (x : Reading) : Type 0 where
  decimal : some_are is_digit w ≡ true → Form negative w x
  hexadecimal : some_are is_hex (behind_two 48 120 w) ≡ true → Form negative w x
  word : negative ≡ false → some_are is_digit (behind_two 48 119 w) ≡ true → Form negative w x
  hexword : negative ≡ false → some_are is_hex (behind_three 48 119 120 w) ≡ true → Form negative w x
  real : is_real w ≡ true → x ≡ Real → Form negative w x

not_first : (a b : Bool) → (not a && b) ≡ true → a ≡ false
not_first true b e = cc
not_first false b e = refl

not_second : (a b : Bool) → (not a && b) ≡ true → b ≡ true
not_second true b e = cc
not_second false b e = e

form : (negative : Bool) (w : List ℕ) (x : Reading) → pick negative w ≡ Some x → Form negative w x
form negative w x e = one (some_are is_digit w) refl
  where
    five : (b : Bool) → is_real w ≡ b → cond b (Some Real) None ≡ Some x → Form negative w x
    five true f g = real f cc
    five false f g = absurd cc

    four : (b : Bool) → (not negative && some_are is_hex (behind_three 48 119 120 w)) ≡ b → cond b (Some (word_reading (number 16 (behind_three 48 119 120 w)))) (cond (is_real w) (Some Real) None) ≡ Some x → Form negative w x
    four true f g = hexword (not_first _ _ f) (not_second _ _ f)
    four false f g = five (is_real w) refl g

    three : (b : Bool) → (not negative && some_are is_digit (behind_two 48 119 w)) ≡ b
        → cond b (Some (word_reading (number 10 (behind_two 48 119 w)))) (cond (not negative && some_are is_hex (behind_three 48 119 120 w)) (Some (word_reading (number 16 (behind_three 48 119 120 w)))) (cond (is_real w) (Some Real) None)) ≡ Some x → Form negative w x
    three true f g = word (not_first _ _ f) (not_second _ _ f)
    three false f g = four _ refl g

    two : (b : Bool) → some_are is_hex (behind_two 48 120 w) ≡ b → cond b (Some (int_reading negative (number 16 (behind_two 48 120 w))))
        (cond (not negative && some_are is_digit (behind_two 48 119 w)) (Some (word_reading (number 10 (behind_two 48 119 w)))) (cond (not negative && some_are is_hex (behind_three 48 119 120 w)) (Some (word_reading (number 16 (behind_three 48 119 120 w)))) (cond (is_real w) (Some Real) None))) ≡ Some x → Form negative w x
    two true f g = hexadecimal f
    two false f g = three _ refl g

    one : (b : Bool) → some_are is_digit w ≡ b → Form negative w x
    one true f = decimal f
    one false f = two _ refl (sym (ap (λ b. cond b (Some (int_reading negative (number 10 w)))
        (cond (some_are is_hex (behind_two 48 120 w)) (Some (int_reading negative (number 16 (behind_two 48 120 w))))
        (cond (not negative && some_are is_digit (behind_two 48 119 w)) (Some (word_reading (number 10 (behind_two 48 119 w)))) (cond (not negative && some_are is_hex (behind_three 48 119 120 w)) (Some (word_reading (number 16 (behind_three 48 119 120 w)))) (cond (is_real w) (Some Real) None))))) f) ∙ e)

-- a run that is something where digits stand behind the sign: the sign alone, or a numeral
pub data Candidate (negative : Bool) (t u v : List ℕ) (x : Reading) : Type 0 where
  short : length u ≤ length (with_sign negative []) → Candidate negative t u v x
  numeral : (w : List ℕ) → u ≡ with_sign negative w → t ≡ w ++ v → Form negative w x → Candidate negative t u v x

candidate_by : (negative : Bool) (d : ℕ) (t w v : List ℕ) (x : Reading) → is_digit d ≡ true → d ∷ t ≡ w ++ v → reading (with_sign negative w) v ≡ Some x → Candidate negative (d ∷ t) (with_sign negative w) v x
candidate_by true d t [] v x e whole r = short (omega arith)
candidate_by false d t [] v x e whole r = short (omega arith)
candidate_by negative d t (c ∷ w) v x e whole r =
    let same : d ≡ c = cc in
    let digit : is_digit c ≡ true = subst (λ b. is_digit b ≡ true) same e in
    numeral (c ∷ w) refl whole (form negative (c ∷ w) x (sym (picked negative c w v digit) ∙ r))

pub candidate : (negative : Bool) (t u v : List ℕ) (x : Reading) → first_is is_digit t ≡ true → Begins (with_sign negative t) u v x → Candidate negative t u v x
candidate negative [] u v x e b = cc
candidate true (d ∷ t) [] v x e b = short (omega arith)
candidate true (d ∷ t) (c ∷ u) v x e b =
    let same : 126 ≡ c = let whole = b.whole in cc in
    let tail : d ∷ t ≡ u ++ v = let whole = b.whole in cc in
    subst (λ k. Candidate true (d ∷ t) (k ∷ u) v x) same (candidate_by true d t u v x e tail (subst (λ k. reading (k ∷ u) v ≡ Some x) (sym same) b.reads))
candidate false (d ∷ t) u v x e b = candidate_by false d t u v x e b.whole b.reads

-- ---- how far each form reaches

behind_two_append : (a b : ℕ) (p : ℕ → Bool) (w v : List ℕ) → some_are p (behind_two a b w) ≡ true → behind_two a b (w ++ v) ≡ behind_two a b w ++ v
behind_two_append a b p [] v e = cc
behind_two_append a b p (c ∷ []) v e = cc
behind_two_append a b p (c ∷ d ∷ w) v e = by (eqb c a && eqb d b) refl
  where
    by : (t : Bool) → (eqb c a && eqb d b) ≡ t → cond (eqb c a && eqb d b) (w ++ v) [] ≡ cond (eqb c a && eqb d b) w [] ++ v
    by true f = rw f refl
    by false f = absurd (let no : some_are p (cond false w []) ≡ true = subst (λ t. some_are p (cond t w []) ≡ true) f e in cc)

behind_two_long : (a b : ℕ) (p : ℕ → Bool) (w : List ℕ) → some_are p (behind_two a b w) ≡ true → length w ≡ 2 + length (behind_two a b w)
behind_two_long a b p [] e = cc
behind_two_long a b p (c ∷ []) e = cc
behind_two_long a b p (c ∷ d ∷ w) e = by (eqb c a && eqb d b) refl
  where
    by : (t : Bool) → (eqb c a && eqb d b) ≡ t → suc (suc (length w)) ≡ 2 + length (cond (eqb c a && eqb d b) w [])
    by true f = rw f (omega arith)
    by false f = absurd (let no : some_are p (cond false w []) ≡ true = subst (λ t. some_are p (cond t w []) ≡ true) f e in cc)

behind_three_append : (a b c : ℕ) (p : ℕ → Bool) (w v : List ℕ) → some_are p (behind_three a b c w) ≡ true → behind_three a b c (w ++ v) ≡ behind_three a b c w ++ v
behind_three_append a b c p [] v e = cc
behind_three_append a b c p (d ∷ w) v e = by (eqb d a) refl
  where
    by : (t : Bool) → eqb d a ≡ t → cond (eqb d a) (behind_two b c (w ++ v)) [] ≡ cond (eqb d a) (behind_two b c w) [] ++ v
    by true f = rw f (behind_two_append b c p w v (subst (λ t. some_are p (cond t (behind_two b c w) []) ≡ true) f e))
    by false f = absurd (let no : some_are p (cond false (behind_two b c w) []) ≡ true = subst (λ t. some_are p (cond t (behind_two b c w) []) ≡ true) f e in cc)

behind_three_long : (a b c : ℕ) (p : ℕ → Bool) (w : List ℕ) → some_are p (behind_three a b c w) ≡ true → length w ≡ 3 + length (behind_three a b c w)
behind_three_long a b c p [] e = cc
behind_three_long a b c p (d ∷ w) e = by (eqb d a) refl
  where
    by : (t : Bool) → eqb d a ≡ t → suc (length w) ≡ 3 + length (cond (eqb d a) (behind_two b c w) [])
    by true f = rw f (omega (arith, behind_two_long b c p w (subst (λ t. some_are p (cond t (behind_two b c w) []) ≡ true) f e)))
    by false f = absurd (let no : some_are p (cond false (behind_two b c w) []) ≡ true = subst (λ t. some_are p (cond t (behind_two b c w) []) ≡ true) f e in cc)

module _ (t w v : List ℕ) (whole : t ≡ w ++ v) where
  decimal_reach : some_are is_digit w ≡ true → length w ≤ prefix_len is_digit t
  decimal_reach e = subst (λ l. length w ≤ prefix_len is_digit l) (sym whole) (run_bound is_digit w v (some_all is_digit w e))

  two_reach : (a b : ℕ) (p : ℕ → Bool) → some_are p (behind_two a b w) ≡ true → (length w ≤ 2 + prefix_len p (behind_two a b t)) × (0 < prefix_len p (behind_two a b t))
  two_reach a b p e =
      let run : length (behind_two a b w) ≤ prefix_len p (behind_two a b t) =
      subst (λ l. length (behind_two a b w) ≤ prefix_len p l) (sym (ap (behind_two a b) whole ∙ behind_two_append a b p w v e)) (run_bound p (behind_two a b w) v (some_all p _ e)) in
      let some : 0 < length (behind_two a b w) = some_length p _ e in
      let long : length w ≡ 2 + length (behind_two a b w) = behind_two_long a b p w e in
      (omega arith, omega arith)

  three_reach : (a b c : ℕ) (p : ℕ → Bool) → some_are p (behind_three a b c w) ≡ true → (length w ≤ 3 + prefix_len p (behind_three a b c t)) × (0 < prefix_len p (behind_three a b c t))
  three_reach a b c p e =
      let run : length (behind_three a b c w) ≤ prefix_len p (behind_three a b c t) =
      subst (λ l. length (behind_three a b c w) ≤ prefix_len p l) (sym (ap (behind_three a b c) whole ∙ behind_three_append a b c p w v e)) (run_bound p (behind_three a b c w) v (some_all p _ e)) in
      let some : 0 < length (behind_three a b c w) = some_length p _ e in
      let long : length w ≡ 3 + length (behind_three a b c w) = behind_three_long a b c p w e in
      (omega arith, omega arith)

-- ---- a real literal is what the code looks for

or_right : (a b : Bool) → b ≡ true → (a || b) ≡ true
or_right true b e = refl
or_right false b e = e

or_left : (a b : Bool) → a ≡ true → (a || b) ≡ true
or_left true b e = refl
or_left false b e = cc

or_comm : (a b : Bool) → (a || b) ≡ true → (b || a) ≡ true
or_comm true true e = refl
or_comm true false e = refl
or_comm false b e = or_left b false e

or_else : (a b : Bool) → (a || b) ≡ true → a ≡ false → b ≡ true
or_else true b e f = cc
or_else false b e f = e

mark_no_digit : (c : ℕ) → (c == 69 || c == 101) ≡ true → is_digit c ≡ false
mark_no_digit c e = grind (arith, nat_tests)

digits_first : (test : List ℕ → Bool) (w : List ℕ) → digits_then test w ≡ true → first_is is_digit w ≡ true
digits_first test [] e = e
digits_first test (c ∷ w) e = first_true _ _ e

exponent_goes : (w v : List ℕ) → some_are is_digit (unsigned w) ≡ true → has_exponent (w ++ v) ≡ true
exponent_goes [] v e = cc
exponent_goes (d ∷ w) v e = by (eqb d 126) refl
  where
    by : (t : Bool) → eqb d 126 ≡ t → cond (eqb d 126) (first_is is_digit (w ++ v)) (is_digit d) ≡ true
    by true f = rw f (first_append is_digit w v (some_first is_digit w (subst (λ t. some_are is_digit (cond t w (d ∷ w)) ≡ true) f e)))
    by false f = rw f (some_first is_digit (d ∷ w) (subst (λ t. some_are is_digit (cond t w (d ∷ w)) ≡ true) f e))

-- what follows the digits of a real goes on
abbrev behind_digits : List ℕ → Bool
behind_digits r = is_fraction r || is_exponent r

tail_goes : (w v : List ℕ) → behind_digits w ≡ true → (first_is is_digit (w ++ v) ≡ false) × (goes_on (w ++ v) ≡ true)
tail_goes [] v e = cc
tail_goes (c ∷ w) v e = by (eqb c 46) refl
  where
    by : (t : Bool) → eqb c 46 ≡ t → (is_digit c ≡ false) × (cond (eqb c 46) (first_is is_digit (w ++ v)) ((c == 69 || c == 101) && has_exponent (w ++ v)) ≡ true)
    by true f =
        let point : c ≡ 46 = eqb-true c 46 f in
        let here : behind_digits (46 ∷ w) ≡ true = subst (λ b. behind_digits (b ∷ w) ≡ true) point e in
        let digits : digits_then is_tail w ≡ true = or_else (is_exponent (46 ∷ w)) (digits_then is_tail w) (or_comm (digits_then is_tail w) (is_exponent (46 ∷ w)) here) refl in
        (subst (λ b. is_digit b ≡ false) (sym point) refl, rw f (first_append is_digit w v (digits_first is_tail w digits)))
    by false f =
        let all : ((c == 69 || c == 101) && some_are is_digit (unsigned w)) ≡ true = or_else (c == 46 && digits_then is_tail w) (is_exponent (c ∷ w)) e (ap (λ b. b && digits_then is_tail w) f) in
        let mark : (c == 69 || c == 101) ≡ true = first_true (c == 69 || c == 101) (some_are is_digit (unsigned w)) all in
        let digits : some_are is_digit (unsigned w) ≡ true = second_true (c == 69 || c == 101) (some_are is_digit (unsigned w)) all in
        (mark_no_digit c mark, rw f (both_true (c == 69 || c == 101) (has_exponent (w ++ v)) mark (exponent_goes w v digits)))

real_goes : (w v : List ℕ) → is_real w ≡ true → goes_on (drop (prefix_len is_digit (w ++ v)) (w ++ v)) ≡ true
real_goes [] v e = cc
real_goes (c ∷ w) v e = by (behind_digits w) refl (real_goes w v)
  where
    digit : is_digit c ≡ true
    digit = first_true (is_digit c) (behind_digits w || digits_then behind_digits w) e

    rest : (behind_digits w || digits_then behind_digits w) ≡ true
    rest = second_true (is_digit c) (behind_digits w || digits_then behind_digits w) e

    more : prefix_len is_digit (c ∷ (w ++ v)) ≡ suc (prefix_len is_digit (w ++ v))
    more = rw digit (omega arith)

    by : (t : Bool) → behind_digits w ≡ t → (is_real w ≡ true → goes_on (drop (prefix_len is_digit (w ++ v)) (w ++ v)) ≡ true) → goes_on (drop (prefix_len is_digit (c ∷ (w ++ v))) (c ∷ (w ++ v))) ≡ true
    by true f ih =
        let goes = tail_goes w v f in
        subst (λ n. goes_on (drop n (c ∷ (w ++ v))) ≡ true) (sym more)
        (subst (λ n. goes_on (drop n (w ++ v)) ≡ true) (sym (run_none is_digit (w ++ v) goes.0)) goes.1)
    by false f ih = subst (λ n. goes_on (drop n (c ∷ (w ++ v))) ≡ true) (sym more) (ih (or_else (behind_digits w) (digits_then behind_digits w) rest f))

-- a real literal at the front, longer than the digits
record RealFront (t : List ℕ) : Type 0 where
  front : List ℕ
  back : List ℕ
  whole : t ≡ front ++ back
  reads : is_real front ≡ true
  longer : prefix_len is_digit t < length front

record TailFront (t : List ℕ) : Type 0 where
  front : List ℕ
  back : List ℕ
  whole : t ≡ front ++ back
  reads : behind_digits front ≡ true
  some : 0 < length front

tail_front : (t : List ℕ) → goes_on t ≡ true → TailFront t
tail_front [] e = cc
tail_front (c ∷ t) e = by (eqb c 46) refl
  where
    point : (t : List ℕ) → eqb c 46 ≡ true → first_is is_digit t ≡ true → TailFront (c ∷ t)
    point [] f g = cc
    point (d ∷ t) f g = record { front = c ∷ d ∷ []; back = t; whole = refl; reads = or_left _ _ (both_true _ _ f (rw g refl)); some = omega arith }

    exponent : (t : List ℕ) → (c == 69 || c == 101) ≡ true → has_exponent t ≡ true → TailFront (c ∷ t)
    exponent [] f g = cc
    exponent (d ∷ t) f g = sign (eqb d 126) refl t g
      where
        sign : (b : Bool) → eqb d 126 ≡ b → (t : List ℕ) → has_exponent (d ∷ t) ≡ true → TailFront (c ∷ d ∷ t)
        sign true h [] k = absurd (let no : cond true false (is_digit d) ≡ true = subst (λ b. cond b false (is_digit d) ≡ true) h k in cc)
        sign true h (x ∷ t) k =
            let digit : is_digit x ≡ true = subst (λ b. cond b (is_digit x) (is_digit d) ≡ true) h k in
            record { front = c ∷ d ∷ x ∷ []; back = t; whole = refl; reads = or_right _ _ (both_true _ _ f (rw (h, digit) refl)); some = omega arith }
        sign false h t k =
            let digit : is_digit d ≡ true = subst (λ b. cond b (first_is is_digit t) (is_digit d) ≡ true) h k in
            record { front = c ∷ d ∷ []; back = t; whole = refl; reads = or_right _ _ (both_true _ _ f (rw (h, digit) refl)); some = omega arith }

    by : (b : Bool) → eqb c 46 ≡ b → TailFront (c ∷ t)
    by true f = point t f (subst (λ b. cond b (first_is is_digit t) ((c == 69 || c == 101) && has_exponent t) ≡ true) f e)
    by false f =
        let all : ((c == 69 || c == 101) && has_exponent t) ≡ true = subst (λ b. cond b (first_is is_digit t) ((c == 69 || c == 101) && has_exponent t) ≡ true) f e in
        exponent t (first_true _ _ all) (second_true _ _ all)

real_front : (t : List ℕ) → first_is is_digit t ≡ true → goes_on (drop (prefix_len is_digit t) t) ≡ true → RealFront t
real_front [] e g = cc
real_front (c ∷ t) e g = by (first_is is_digit t) refl (real_front t)
  where
    more : prefix_len is_digit (c ∷ t) ≡ suc (prefix_len is_digit t)
    more = rw e (omega arith)

    behind : goes_on (drop (prefix_len is_digit t) t) ≡ true
    behind = subst (λ n. goes_on (drop n (c ∷ t)) ≡ true) more g

    by : (b : Bool) → first_is is_digit t ≡ b → (first_is is_digit t ≡ true → goes_on (drop (prefix_len is_digit t) t) ≡ true → RealFront t) → RealFront (c ∷ t)
    by true f ih =
        let r = ih f behind in
        record { front = c ∷ r.front; back = r.back; whole = ap (λ l. c ∷ l) r.whole; reads = both_true _ _ e (or_right _ _ r.reads); longer = omega (arith, r.longer, more) }
    by false f ih =
        let none : prefix_len is_digit t ≡ 0 = run_none is_digit t f in
        let r = tail_front t (subst (λ n. goes_on (drop n t) ≡ true) none behind) in
        record { front = c ∷ r.front; back = r.back; whole = ap (λ l. c ∷ l) r.whole; reads = both_true _ _ e (or_left _ _ r.reads); longer = omega (arith, r.some, more, none) }

-- ---- the longest numeral

-- no form reaches past n
abbrev Reach : Bool → List ℕ → ℕ → Type 0
Reach negative t n = (w v : List ℕ) (y : Reading) → t ≡ w ++ v → Form negative w y → length w ≤ n

sign_length : (negative : Bool) (w : List ℕ) → length (with_sign negative w) ≡ length (with_sign negative []) + length w
sign_length true w = omega arith
sign_length false w = omega arith

sign_append : (negative : Bool) (w v : List ℕ) → with_sign negative (w ++ v) ≡ with_sign negative w ++ v
sign_append true w v = refl
sign_append false w v = refl

most_by : (negative : Bool) (t : List ℕ) (n : ℕ) → first_is is_digit t ≡ true → Reach negative t n → (u v : List ℕ) (y : Reading) → Begins (with_sign negative t) u v y → length u ≤ length (with_sign negative []) + n
most_by negative t n e reach u v y b = elim (candidate negative t u v y e b) [
  | short le ↦ omega arith
  | numeral w is whole f ↦ omega (arith, ap length is, sign_length negative w, reach w v y whole f)
]

numeral_step : (negative : Bool) (t : List ℕ) (n : ℕ) (x : Reading) → first_is is_digit t ≡ true → 0 < n → n ≤ length t → pick negative (take n t) ≡ Some x → Reach negative t n
    → RunStep (with_sign negative t) (step_of x (length (with_sign negative []) + n))
numeral_step negative [] n x e some le p reach = cc
numeral_step negative (d ∷ t) zero x e some le p reach = absurd (omega arith)
numeral_step negative (d ∷ t) (suc n) x e some le p reach =
    let size : length (d ∷ take n t) ≡ suc n = length-take-le (suc n) (d ∷ t) le in
    let long : length (with_sign negative (d ∷ take n t)) ≡ length (with_sign negative []) + suc n = sign_length negative (d ∷ take n t) ∙ ap (λ k. length (with_sign negative []) + k) size in
    longest (with_sign negative (d ∷ take n t)) (drop n t) x
    (record {
      begins = record {
        whole = ap (λ l. with_sign negative (d ∷ l)) (sym (take-append-drop n t)) ∙ sign_append negative (d ∷ take n t) (drop n t);
        reads = picked negative d (take n t) (drop n t) e ∙ p;
      };
      most = λ u v y b. subst (λ k. length u ≤ k) (sym long) (most_by negative (d ∷ t) (suc n) e reach u v y b);
    })
    (ap (step_of x) (sym long))

digit_hex : (c : ℕ) → is_digit c ≡ true → is_hex c ≡ true
digit_hex c e = or_left _ _ (or_left _ _ e)

-- the digits of a run are hexadecimal digits
pub digits_hex : (s : List ℕ) → all_are is_hex (take (prefix_len is_digit s) s) ≡ true
digits_hex s = all_weaker is_digit is_hex digit_hex (take (prefix_len is_digit s) s) (run_passes is_digit s)

-- a run that is not empty
run_is_some : (p : ℕ → Bool) (s : List ℕ) → 0 < prefix_len p s → some_are p (take (prefix_len p s) s) ≡ true
run_is_some p s lt = some_is p (take (prefix_len p s) s) (run_passes p s) (subst (λ n. 0 < n) (sym (length-take-le (prefix_len p s) s (prefix_len-le-length p s))) lt)

none_behind : (h : List ℕ) → prefix_len is_hex (behind_three 48 119 120 (48 ∷ 120 ∷ h)) ≡ 0
none_behind [] = refl
none_behind (c ∷ h) = refl

pub hexadecimal_step : (negative : Bool) (h : List ℕ) → 0 < prefix_len is_hex h
    → RunStep (with_sign negative (48 ∷ 120 ∷ h)) (step_of (int_reading negative (number 16 (take (prefix_len is_hex h) h))) (length (with_sign negative []) + suc (suc (prefix_len is_hex h))))
hexadecimal_step negative h lt = numeral_step negative t (suc (suc (prefix_len is_hex h))) (int_reading negative (number 16 (take (prefix_len is_hex h) h))) refl (omega arith) (omega (arith, prefix_len-le-length is_hex h))
    (rw (run_is_some is_hex h lt) refl) reach
  where
    t : List ℕ
    t = 48 ∷ 120 ∷ h

    reach : Reach negative (48 ∷ 120 ∷ h) (suc (suc (prefix_len is_hex h)))
    reach w v y whole (decimal d) = let r : length w ≤ 1 = decimal_reach (48 ∷ 120 ∷ h) w v whole d in omega arith
    reach w v y whole (hexadecimal d) = let r : length w ≤ 2 + prefix_len is_hex h = (two_reach (48 ∷ 120 ∷ h) w v whole 48 120 is_hex d).0 in omega arith
    reach w v y whole (word n d) = let r : 0 < 0 = (two_reach (48 ∷ 120 ∷ h) w v whole 48 119 is_digit d).1 in absurd (omega arith)
    reach w v y whole (hexword n d) = let r = (three_reach (48 ∷ 120 ∷ h) w v whole 48 119 120 is_hex d).1 in absurd (omega (arith, r, none_behind h))
    reach w v y whole (real d x) = let r : false ≡ true = subst (λ l. goes_on (drop (prefix_len is_digit l) l) ≡ true) (sym whole) (real_goes w v d) in absurd cc

pub hexword_step : (h : List ℕ) → 0 < prefix_len is_hex h
    → RunStep (48 ∷ 119 ∷ 120 ∷ h) (step_of (word_reading (number 16 (take (prefix_len is_hex h) h))) (suc (suc (suc (prefix_len is_hex h)))))
hexword_step h lt = subst (λ n. RunStep t (step_of (word_reading (number 16 (take (prefix_len is_hex h) h))) n)) (zero-add (suc (suc (suc (prefix_len is_hex h)))))
    (numeral_step false t (suc (suc (suc (prefix_len is_hex h)))) (word_reading (number 16 (take (prefix_len is_hex h) h))) refl (omega arith) (omega (arith, prefix_len-le-length is_hex h))
    (rw (run_is_some is_hex h lt) refl) reach)
  where
    t : List ℕ
    t = 48 ∷ 119 ∷ 120 ∷ h

    reach : Reach false (48 ∷ 119 ∷ 120 ∷ h) (suc (suc (suc (prefix_len is_hex h))))
    reach w v y whole (decimal d) = let r : length w ≤ 1 = decimal_reach (48 ∷ 119 ∷ 120 ∷ h) w v whole d in omega arith
    reach w v y whole (hexadecimal d) = let r : 0 < 0 = (two_reach (48 ∷ 119 ∷ 120 ∷ h) w v whole 48 120 is_hex d).1 in absurd (omega arith)
    reach w v y whole (word n d) = let r : 0 < 0 = (two_reach (48 ∷ 119 ∷ 120 ∷ h) w v whole 48 119 is_digit d).1 in absurd (omega arith)
    reach w v y whole (hexword n d) = let r : length w ≤ 3 + prefix_len is_hex h = (three_reach (48 ∷ 119 ∷ 120 ∷ h) w v whole 48 119 120 is_hex d).0 in omega arith
    reach w v y whole (real d x) = let r : false ≡ true = subst (λ l. goes_on (drop (prefix_len is_digit l) l) ≡ true) (sym whole) (real_goes w v d) in absurd cc

pub word_decimal_step : (h : List ℕ) → 0 < prefix_len is_digit h → prefix_len is_hex (behind_three 48 119 120 (48 ∷ 119 ∷ h)) ≡ 0
    → RunStep (48 ∷ 119 ∷ h) (step_of (word_reading (number 10 (take (prefix_len is_digit h) h))) (suc (suc (prefix_len is_digit h))))
word_decimal_step h lt none = subst (λ n. RunStep t (step_of (word_reading (number 10 (take (prefix_len is_digit h) h))) n)) (zero-add (suc (suc (prefix_len is_digit h))))
    (numeral_step false t (suc (suc (prefix_len is_digit h))) (word_reading (number 10 (take (prefix_len is_digit h) h))) refl (omega arith) (omega (arith, prefix_len-le-length is_digit h))
    (rw (run_is_some is_digit h lt) refl) reach)
  where
    t : List ℕ
    t = 48 ∷ 119 ∷ h

    reach : Reach false (48 ∷ 119 ∷ h) (suc (suc (prefix_len is_digit h)))
    reach w v y whole (decimal d) = let r : length w ≤ 1 = decimal_reach (48 ∷ 119 ∷ h) w v whole d in omega arith
    reach w v y whole (hexadecimal d) = let r : 0 < 0 = (two_reach (48 ∷ 119 ∷ h) w v whole 48 120 is_hex d).1 in absurd (omega arith)
    reach w v y whole (word n d) = let r : length w ≤ 2 + prefix_len is_digit h = (two_reach (48 ∷ 119 ∷ h) w v whole 48 119 is_digit d).0 in omega arith
    reach w v y whole (hexword n d) = let r = (three_reach (48 ∷ 119 ∷ h) w v whole 48 119 120 is_hex d).1 in absurd (omega (arith, r, none))
    reach w v y whole (real d x) = let r : false ≡ true = subst (λ l. goes_on (drop (prefix_len is_digit l) l) ≡ true) (sym whole) (real_goes w v d) in absurd cc

-- no word and no hexadecimal integer stands at the front
pub record Plain (negative : Bool) (t : List ℕ) : Type 0 where
  pub digit : first_is is_digit t ≡ true
  pub hexadecimal : prefix_len is_hex (behind_two 48 120 t) ≡ 0
  pub word : negative ≡ false → NoWord t

-- of the forms only digits and reals are left
plain_reach : (negative : Bool) (t w v : List ℕ) (y : Reading) → Plain negative t → t ≡ w ++ v → Form negative w y → (length w ≤ prefix_len is_digit t) ⊎ (y ≡ Real × goes_on (drop (prefix_len is_digit t) t) ≡ true)
plain_reach negative t w v y p whole (decimal d) = inl (decimal_reach t w v whole d)
plain_reach negative t w v y p whole (hexadecimal d) = let r = (two_reach t w v whole 48 120 is_hex d).1 in absurd (omega (arith, r, p.hexadecimal))
plain_reach negative t w v y p whole (word n d) = let r = (two_reach t w v whole 48 119 is_digit d).1 in absurd (omega (arith, r, (p.word n).decimal))
plain_reach negative t w v y p whole (hexword n d) = let r = (three_reach t w v whole 48 119 120 is_hex d).1 in absurd (omega (arith, r, (p.word n).hexadecimal))
plain_reach negative t w v y p whole (real d x) = inr (x, subst (λ l. goes_on (drop (prefix_len is_digit l) l) ≡ true) (sym whole) (real_goes w v d))

pub decimal_step : (negative : Bool) (t : List ℕ) → Plain negative t → goes_on (drop (prefix_len is_digit t) t) ≡ false
    → RunStep (with_sign negative t) (step_of (int_reading negative (number 10 (take (prefix_len is_digit t) t))) (length (with_sign negative []) + prefix_len is_digit t))
decimal_step negative t p none = numeral_step negative t (prefix_len is_digit t) _ p.digit (run_some is_digit t p.digit) (prefix_len-le-length is_digit t)
    (rw (run_is_some is_digit t (run_some is_digit t p.digit)) refl)
    (λ w v y whole f. elim (plain_reach negative t w v y p whole f) [ inl le ↦ le | inr r ↦ absurd (let e : false ≡ true = sym none ∙ r.1 in cc) ])

-- what a real literal reads as is something
real_picked : (negative : Bool) (w : List ℕ) → is_real w ≡ true → (x : Reading) × (pick negative w ≡ Some x)
real_picked negative w e = one (some_are is_digit w) (some_are is_hex (behind_two 48 120 w)) (not negative && some_are is_digit (behind_two 48 119 w)) (not negative && some_are is_hex (behind_three 48 119 120 w)) (is_real w) _ _ _ _ e
  where
    one : (a b c d f : Bool) (p q r s : Reading) → f ≡ true → (x : Reading) × (cond a (Some p) (cond b (Some q) (cond c (Some r) (cond d (Some s) (cond f (Some Real) None)))) ≡ Some x)
    one true b c d f p q r s g = (p, refl)
    one false true c d f p q r s g = (q, refl)
    one false false true d f p q r s g = (r, refl)
    one false false false true f p q r s g = (s, refl)
    one false false false false f p q r s g = (Real, ap (λ b. cond b (Some Real) None) g)

real_begins : (negative : Bool) (t : List ℕ) (r : RealFront t) → first_is is_digit t ≡ true → (x : Reading) × Begins (with_sign negative t) (with_sign negative r.front) r.back x
real_begins negative t r e = by r.front r.whole r.reads
  where
    by : (w : List ℕ) → t ≡ w ++ r.back → is_real w ≡ true → (x : Reading) × Begins (with_sign negative t) (with_sign negative w) r.back x
    by [] whole f = cc
    by (d ∷ w) whole f =
        let digit : is_digit d ≡ true = digits_first behind_digits (d ∷ w) f in
        let x = real_picked negative (d ∷ w) f in
        (x.0, record { whole = ap (with_sign negative) whole ∙ sign_append negative (d ∷ w) r.back; reads = picked negative d w r.back digit ∙ x.1 })

pub real_step : (negative : Bool) (t : List ℕ) → Plain negative t → goes_on (drop (prefix_len is_digit t) t) ≡ true → RunStep (with_sign negative t) (Fail 0 RealLiteral)
real_step negative t p goes =
    let front = real_front t p.digit goes in
    let begins = real_begins negative t front p.digit in
    let most = most_exists (with_sign negative t) (with_sign negative front.front) front.back begins.0 begins.1 in
    let least : length (with_sign negative front.front) ≤ length most.run = most.longest.most (with_sign negative front.front) front.back begins.0 begins.1 in
    longest most.run most.next most.reading most.longest (elim (candidate negative t most.run most.next most.reading p.digit most.longest.begins) [
      | short le ↦ absurd (omega (arith, least, le, sign_length negative front.front, front.longer))
      | numeral w is whole f ↦ elim (plain_reach negative t w most.next most.reading p whole f) [
        | inl le ↦ absurd (omega (arith, least, le, ap length is, sign_length negative w, sign_length negative front.front, front.longer))
        | inr r ↦ sym (ap (λ x. step_of x (length most.run)) r.0)
      ]
    ])
