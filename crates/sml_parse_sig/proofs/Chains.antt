-- A signature and the types behind it, as a loop reads them.
use Rattle.std.proofs.Common.{◌≡◌, ℕ, Bool, true, false, List, Ok, refl, sym, ap, subst, ◌∙◌}
use Rattle.readers.specs.declared.fault.ReadError.{ReadError}
use Rattle.readers.specs.Given.{Fails}
use Rattle.readers.specs.Reader.{first, Answer, head_is, steps}
use Rattle.readers.proofs.StepLoop.{ended}
use Rattle.sml_lex.specs.declared.token.Token.{Token}
use Rattle.sml_grammar_sig.specs.ReadDescs.{real_bind_read}
use Rattle.sml_grammar_sig.specs.Sigs.{Sx, is_real}
use Rattle.sml_grammar_sig.specs.ReadSigs.{Suffix, below, goes_on, suffix_by, suffix_read, suffixed}
use Rattle.sml_parse_sig.proofs.Steps.{suffix_less}
use Rattle.sml_parse_sig.proofs.Tracked.{run_turn, run_end, run_fails}

abbrev kept : Answer Token Sx → Answer Token Sx
kept r = r

module _ (h : ℕ) where
  abbrev pub chain : Sx → List Token → Answer Token Sx
  chain x s = ended suffixed x (steps goes_on suffixed (suffix_read (real_bind_read h) h) x s)

  pub chain_turn : (x : Sx) (s : List Token) (z : Suffix × List Token) (all : Answer Token Sx) → all ≡ chain x s → head_is goes_on (first s) ≡ true → suffix_read (real_bind_read h) h x s ≡ Ok z → all ≡ chain (suffixed x z.0) z.1
  chain_turn x s z all inv i e = run_turn goes_on suffixed (suffix_read (real_bind_read h) h) (suffix_less h) kept (λ e. refl) x s z all inv i e

  pub chain_end : (x : Sx) (s : List Token) (all : Answer Token Sx) → all ≡ chain x s → head_is goes_on (first s) ≡ false → all ≡ Ok (x, s)
  chain_end x s all inv i = run_end goes_on suffixed (suffix_read (real_bind_read h) h) (suffix_less h) kept (λ e. refl) x s all inv i

  pub chain_fails : (f : ReadError Token) (x : Sx) (s : List Token) (all : Answer Token Sx) → all ≡ chain x s → head_is goes_on (first s) ≡ true → Fails f (suffix_read (real_bind_read h) h x s) → Fails f all
  chain_fails f x s all inv i e = run_fails goes_on suffixed (suffix_read (real_bind_read h) h) (suffix_less h) kept (λ e. refl) f x s all inv i e

  -- what the code asks is what the grammar asks
  asked : (x : Sx) (r : Bool) (n : ℕ) (s : List Token) → r ≡ is_real x → n ≡ below x → suffix_by r (real_bind_read h) n h s ≡ suffix_read (real_bind_read h) h x s
  asked x r n s i j = ap (λ (q : Bool). suffix_by q (real_bind_read h) n h s) i ∙ ap (λ (m : ℕ). suffix_by (is_real x) (real_bind_read h) m h s) j

  pub asked_gives : (x : Sx) (r : Bool) (n : ℕ) (s : List Token) (z : Suffix × List Token) → r ≡ is_real x → n ≡ below x → suffix_by r (real_bind_read h) n h s ≡ Ok z → suffix_read (real_bind_read h) h x s ≡ Ok z
  asked_gives x r n s z i j e = sym (asked x r n s i j) ∙ e

  pub asked_fails : (f : ReadError Token) (x : Sx) (r : Bool) (n : ℕ) (s : List Token) → r ≡ is_real x → n ≡ below x → Fails f (suffix_by r (real_bind_read h) n h s) → Fails f (suffix_read (real_bind_read h) h x s)
  asked_fails f x r n s i j e =
      let P : Answer Token Suffix → Type 0 = λ a. Fails f a in
      subst P (asked x r n s i j) e
