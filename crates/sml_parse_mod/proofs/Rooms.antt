-- Ascriptions one level lower, behind the test of the room.
use Rattle.std.proofs.Common.{◌≡◌, ℕ, suc, ◌-◌, ◌<◌, List, ap, arith}
use Rattle.sml_lex.specs.declared.token.Token.{Token}
use Rattle.sml_grammar_sig.specs.ReadSigs.{sig_read}
use Rattle.sml_grammar_mod.specs.ReadStrs.{ascribe_level, ascribe_read}

pub ascribe_is : (h : ℕ) (s : List Token) → 0 < h → ascribe_read h s ≡ ascribe_level (sig_read (h - 1)) (h - 1) s
ascribe_is h s lt = let same : h ≡ suc (h - 1) = omega arith in ap (λ (k : ℕ). ascribe_read k s) same
