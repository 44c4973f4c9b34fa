-- The longest numeral at the front, in the words of the code.
use Rattle.std.proofs.Common.{◌≡◌, ℕ, suc, ◌+◌, ◌<◌, Bool, true, false, cond, ◌&&◌, List, [], ◌∷◌, length, take, refl, sym, ap, subst, ◌∙◌, arith, eqb}
use Rattle.std.specs.List.{prefix_len}
use Rattle.std.proofs.lemmas.Bool.{eqb-true}
use Rattle.sml_lex.specs.Bytes.{is_digit, is_hex, number}
use Rattle.sml_lex.specs.Numbers.{behind_two, behind_three, int_reading, word_reading, with_sign}
use Rattle.sml_lex.specs.Steps.{RunStep, step_of}
use Rattle.sml_lex.proofs.Lists.{first_true, second_true}
use Rattle.sml_lex.proofs.Numbers.{hexadecimal_step, hexword_step, word_decimal_step}

two_is : (a b : ℕ) (p : ℕ → Bool) (t : List ℕ) → 0 < prefix_len p (behind_two a b t) → t ≡ a ∷ b ∷ behind_two a b t
two_is a b p [] lt = absurd (omega arith)
two_is a b p (c ∷ []) lt = absurd (omega arith)
two_is a b p (c ∷ d ∷ t) lt = by (eqb c a && eqb d b) refl
  where
    by : (x : Bool) → (eqb c a && eqb d b) ≡ x → c ∷ d ∷ t ≡ a ∷ b ∷ cond (eqb c a && eqb d b) t []
    by true e = rw (e, eqb-true c a (first_true _ _ e), eqb-true d b (second_true _ _ e)) refl
    by false e = absurd (let none : 0 < 0 = subst (λ x. 0 < prefix_len p (cond x t [])) e lt in omega arith)

three_is : (a b c : ℕ) (p : ℕ → Bool) (t : List ℕ) → 0 < prefix_len p (behind_three a b c t) → t ≡ a ∷ b ∷ c ∷ behind_three a b c t
three_is a b c p [] lt = absurd (omega arith)
three_is a b c p (d ∷ t) lt = by (eqb d a) refl
  where
    by : (x : Bool) → eqb d a ≡ x → d ∷ t ≡ a ∷ b ∷ c ∷ cond (eqb d a) (behind_two b c t) []
    by true e =
        let rest : t ≡ b ∷ c ∷ behind_two b c t = two_is b c p t (subst (λ x. 0 < prefix_len p (cond x (behind_two b c t) [])) e lt) in
        ap (λ x. x ∷ t) (eqb-true d a e) ∙ ap (λ l. a ∷ l) rest ∙ ap (λ x. a ∷ b ∷ c ∷ cond x (behind_two b c t) []) (sym e)
    by false e = absurd (let none : 0 < 0 = subst (λ x. 0 < prefix_len p (cond x (behind_two b c t) [])) e lt in omega arith)

pub hexword_front : (t : List ℕ) → 0 < prefix_len is_hex (behind_three 48 119 120 t)
    → RunStep t (step_of (word_reading (number 16 (take (prefix_len is_hex (behind_three 48 119 120 t)) (behind_three 48 119 120 t)))) (3 + prefix_len is_hex (behind_three 48 119 120 t)))
hexword_front t lt = by (behind_three 48 119 120 t) lt (three_is 48 119 120 is_hex t lt)
  where
    by : (h : List ℕ) → 0 < prefix_len is_hex h → t ≡ 48 ∷ 119 ∷ 120 ∷ h → RunStep t (step_of (word_reading (number 16 (take (prefix_len is_hex h) h))) (3 + prefix_len is_hex h))
    by h lt e =
        let three : suc (suc (suc (prefix_len is_hex h))) ≡ 3 + prefix_len is_hex h = omega arith in
        subst (λ l. RunStep l (step_of (word_reading (number 16 (take (prefix_len is_hex h) h))) (3 + prefix_len is_hex h))) (sym e)
        (subst (λ n. RunStep (48 ∷ 119 ∷ 120 ∷ h) (step_of (word_reading (number 16 (take (prefix_len is_hex h) h))) n)) three (hexword_step h lt))

pub word_decimal_front : (t : List ℕ) → 0 < prefix_len is_digit (behind_two 48 119 t) → prefix_len is_hex (behind_three 48 119 120 t) ≡ 0
    → RunStep t (step_of (word_reading (number 10 (take (prefix_len is_digit (behind_two 48 119 t)) (behind_two 48 119 t)))) (2 + prefix_len is_digit (behind_two 48 119 t)))
word_decimal_front t lt none = by (behind_two 48 119 t) lt (two_is 48 119 is_digit t lt)
  where
    by : (h : List ℕ) → 0 < prefix_len is_digit h → t ≡ 48 ∷ 119 ∷ h → RunStep t (step_of (word_reading (number 10 (take (prefix_len is_digit h) h))) (2 + prefix_len is_digit h))
    by h lt e =
        let two : suc (suc (prefix_len is_digit h)) ≡ 2 + prefix_len is_digit h = omega arith in
        let nothing : prefix_len is_hex (behind_three 48 119 120 (48 ∷ 119 ∷ h)) ≡ 0 = subst (λ l. prefix_len is_hex (behind_three 48 119 120 l) ≡ 0) e none in
        subst (λ l. RunStep l (step_of (word_reading (number 10 (take (prefix_len is_digit h) h))) (2 + prefix_len is_digit h))) (sym e)
        (subst (λ n. RunStep (48 ∷ 119 ∷ h) (step_of (word_reading (number 10 (take (prefix_len is_digit h) h))) n)) two (word_decimal_step h lt nothing))

pub hexadecimal_front : (negative : Bool) (t : List ℕ) → 0 < prefix_len is_hex (behind_two 48 120 t)
    → RunStep (with_sign negative t) (step_of (int_reading negative (number 16 (take (prefix_len is_hex (behind_two 48 120 t)) (behind_two 48 120 t)))) (length (with_sign negative []) + 2 + prefix_len is_hex (behind_two 48 120 t)))
hexadecimal_front negative t lt = by (behind_two 48 120 t) lt (two_is 48 120 is_hex t lt)
  where
    by : (h : List ℕ) → 0 < prefix_len is_hex h → t ≡ 48 ∷ 120 ∷ h → RunStep (with_sign negative t) (step_of (int_reading negative (number 16 (take (prefix_len is_hex h) h))) (length (with_sign negative []) + 2 + prefix_len is_hex h))
    by h lt e =
        let two : length (with_sign negative []) + suc (suc (prefix_len is_hex h)) ≡ length (with_sign negative []) + 2 + prefix_len is_hex h = omega arith in
        subst (λ l. RunStep (with_sign negative l) (step_of (int_reading negative (number 16 (take (prefix_len is_hex h) h))) (length (with_sign negative []) + 2 + prefix_len is_hex h))) (sym e)
        (subst (λ n. RunStep (with_sign negative (48 ∷ 120 ∷ h)) (step_of (int_reading negative (number 16 (take (prefix_len is_hex h) h))) n)) two (hexadecimal_step negative h lt))
