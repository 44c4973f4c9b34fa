-- Alternatives that begin with a word, behind that word.
use Rattle.std.proofs.Common.{◌≡◌, ℕ, ◌≤◌, Bool, true, false, ltb, List, Ok, refl}
use Rattle.std.proofs.lemmas.Bool.{le-ltb}
use Rattle.tl_text.specs.declared.place.Place.{Place}
use Rattle.readers.specs.Reader.{first, head_is, Reader, mapped, both, token_by, one, skip, only, else_by}
use Rattle.readers.specs.Forms.{ended}
use Rattle.sml_lex.specs.declared.token.Token.{Token}
use Rattle.sml_grammar.specs.Tokens.{is, the}
use Rattle.sml_parse_bind.proofs.Steps.{behind_first, behind_ended}

module _ {S T : Type 0} (k low : ℕ) (f : Place × S → T) (q : Reader Token S) (h : ℕ) (s rest : List Token) (place : Place) (i : head_is (is k) (first s) ≡ true) (le : low ≤ h) (e : token_by (the k) s ≡ Ok (place, rest)) where
  none : ltb h low ≡ false
  none = le-ltb h low le

  pub only_node : only (is k) low (mapped f (both (token_by (the k)) q)) h s ≡ mapped (λ x. f (place, x)) q rest
  only_node = rw i (rw none (behind_first f (token_by (the k)) q s rest place e))

  pub else_node : (other : Reader Token T) → else_by (is k) low (mapped f (both (token_by (the k)) q)) other h s ≡ mapped (λ x. f (place, x)) q rest
  else_node other = rw i (rw none (behind_first f (token_by (the k)) q s rest place e))

  -- the same of what nothing of the test may follow
  pub only_closed : (test : Token → Bool) → only (is k) low (mapped f (ended test (both (token_by (the k)) q))) h s ≡ mapped (λ x. f (place, x)) (ended test q) rest
  only_closed test = rw i (rw none (behind_ended f test (token_by (the k)) q s rest place e))

  pub else_closed : (test : Token → Bool) (other : Reader Token T) → else_by (is k) low (mapped f (ended test (both (token_by (the k)) q))) other h s ≡ mapped (λ x. f (place, x)) (ended test q) rest
  else_closed test other = rw i (rw none (behind_ended f test (token_by (the k)) q s rest place e))

-- an alternative that the next token does not begin
pub else_skip : {T : Type 0} (test : Token → Bool) (low : ℕ) (p q : Reader Token T) (h : ℕ) (s : List Token) → head_is test (first s) ≡ false → else_by test low p q h s ≡ q s
else_skip test low p q h s i = rw i refl

-- one that it begins
pub else_in : {T : Type 0} (test : Token → Bool) (low : ℕ) (p q : Reader Token T) (h : ℕ) (s : List Token) → head_is test (first s) ≡ true → low ≤ h → else_by test low p q h s ≡ p s
else_in test low p q h s i le = let none : ltb h low ≡ false = le-ltb h low le in rw i (rw none refl)

-- behind a word
pub past : {T : Type 0} (test : Token → Bool) (p : Reader Token T) (s rest : List Token) → one test s ≡ Ok (tt, rest) → skip test p s ≡ p rest
past test p s rest e = rw e refl
