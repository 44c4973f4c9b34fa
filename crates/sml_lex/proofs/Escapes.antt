-- An escape by its code, read digit by digit.
use Rattle.std.proofs.Common.{◌≡◌, ℕ, ◌+◌, ◌*◌, ◌<◌, ◌≤◌, Bool, true, false, cond, ◌&&◌, List, ◌∷◌, length, drop, get_or, refl, ap, ◌∙◌, nat_le}
use Rattle.std.proofs.Math.ListN.{drop_of_length-le}
use Rattle.tl_text.specs.declared.code.Code.TheVariants.{BadEscape, OpenString}
use Rattle.sml_lex.specs.declared.literal.Item.TheVariants.{Fails}
use Rattle.sml_lex.specs.Bytes.{digit_value}
use Rattle.sml_lex.specs.Literals.{code_escape}
use Rattle.sml_lex.proofs.Lists.{drop_at}

module _ (test : ℕ → Bool) (long : ℕ) (ws s : List ℕ) (sum i : ℕ) where
  -- one more digit, tested
  turn : i < length ws → i < length s → code_escape test long (drop i ws) sum (drop i s)
      ≡ cond (test (get_or s i 0) && nat_le (sum + digit_value (get_or s i 0) * get_or ws i 0) 255)
      (code_escape test long (drop (i + 1) ws) (sum + digit_value (get_or s i 0) * get_or ws i 0) (drop (i + 1) s)) (Fails BadEscape)
  turn lt in_range = ap (λ l. code_escape test long l sum (drop i s)) (drop_at ws i lt) ∙ ap (λ l. code_escape test long (get_or ws i 0 ∷ drop (i + 1) ws) sum l) (drop_at s i in_range)

  pub code_open : i < length ws → length s ≤ i → code_escape test long (drop i ws) sum (drop i s) ≡ Fails OpenString
  code_open lt le = ap (λ l. code_escape test long l sum (drop i s)) (drop_at ws i lt) ∙ ap (λ l. code_escape test long (get_or ws i 0 ∷ drop (i + 1) ws) sum l) (drop_of_length-le s le)

  pub code_other : i < length ws → i < length s → test (get_or s i 0) ≡ false → code_escape test long (drop i ws) sum (drop i s) ≡ Fails BadEscape
  code_other lt in_range e = turn lt in_range ∙ ap (λ b. cond (b && nat_le (sum + digit_value (get_or s i 0) * get_or ws i 0) 255)
      (code_escape test long (drop (i + 1) ws) (sum + digit_value (get_or s i 0) * get_or ws i 0) (drop (i + 1) s)) (Fails BadEscape)) e

  pub code_past : i < length ws → i < length s → test (get_or s i 0) ≡ true → nat_le (sum + digit_value (get_or s i 0) * get_or ws i 0) 255 ≡ false
      → code_escape test long (drop i ws) sum (drop i s) ≡ Fails BadEscape
  code_past lt in_range e f = turn lt in_range ∙ rw (e, f) refl

  pub code_more : i < length ws → i < length s → test (get_or s i 0) ≡ true → nat_le (sum + digit_value (get_or s i 0) * get_or ws i 0) 255 ≡ true
      → code_escape test long (drop i ws) sum (drop i s) ≡ code_escape test long (drop (i + 1) ws) (sum + digit_value (get_or s i 0) * get_or ws i 0) (drop (i + 1) s)
  code_more lt in_range e f = turn lt in_range ∙ rw (e, f) refl
