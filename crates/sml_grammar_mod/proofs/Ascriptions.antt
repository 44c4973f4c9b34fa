-- Ascriptions are read exactly.
use Rattle.std.proofs.Common.{ℕ, Bool, refl, arith}
use Rattle.std.specs.Prelude.{Option}
use Rattle.readers.specs.Reader.{Reader}
use Rattle.readers.specs.Room.{Room}
use Rattle.readers.specs.Forms.{height_of}
use Rattle.readers.proofs.Bundle.{Known, Phrase}
use Rattle.readers.proofs.Combine.{phrase, node}
use Rattle.readers.proofs.Choose.{last}
use Rattle.readers.proofs.Levels.{Knot, Tower, all_of, lifted, lowest_sizes, lowest_readings, lowest_refusals}
use Rattle.sml_lex.specs.declared.token.Token.{Token}
use Rattle.sml_ast.specs.declared.sig.Ascribe.{Ascribe}
use Rattle.sml_ast.specs.declared.sig.Ascribe.TheVariants as ascribe
use Rattle.sml_grammar.specs.Words.{COLON, SEAL}
use Rattle.sml_grammar.specs.Tokens.{just, plain_fix}
use Rattle.sml_grammar.proofs.Sets.{is_just, pick_if}
use Rattle.sml_grammar.proofs.Shapes.{the_word}
use Rattle.sml_grammar_sig.specs.Sigs.{SigR, ends_with_where, where_place}
use Rattle.sml_grammar_sig.specs.ReadSigs.{sig_in}
use Rattle.sml_grammar_sig.proofs.Sigs.{SigP, real_stop}
use Rattle.sml_grammar_sig.proofs.Levels.{sig_exact}
use Rattle.sml_grammar_mod.specs.Strs.{Ax, AscribeD, AscribeR, ascribe_on, clear_of, opaque_of}
use Rattle.sml_grammar_mod.specs.ReadStrs.{begins_ascribe, ascribe_level, ascribe_read}

-- what stops the signature at its end
abbrev pub stop_in : Ascribe → Option Token → Bool
stop_in (ascribe.Clear p s) o = real_stop (ends_with_where (where_place s)) o
stop_in (ascribe.Opaque p s) o = real_stop (ends_with_where (where_place s)) o

abbrev pub ascribe_stop : Ax → Option Token → Bool
ascribe_stop x o = stop_in x.0 o

abbrev pub ascribe_in : Room → Reader Token Ax
ascribe_in r = ascribe_read r.height

abbrev pub AscribeP : Known → ℕ → Type 0
AscribeP s n = Phrase s n 0 AscribeR ascribe_in ascribe_stop height_of 2 0 begins_ascribe 2

ascribe_now : {s : Known} {n : ℕ} → SigP s n → Phrase s n 1 (λ k. AscribeD (SigR k)) (λ k. ascribe_level (sig_in k) k.height) ascribe_stop height_of 1 0 begins_ascribe 1
ascribe_now S = last (pick_if plain_fix (just COLON) (just SEAL) (is_just plain_fix COLON) (is_just plain_fix SEAL)
    (node clear_of height_of ascribe_stop (phrase (the_word COLON) S.part) (λ x. omega arith) (λ x o. refl))
    (node opaque_of height_of ascribe_stop (phrase (the_word SEAL) S.part) (λ x. omega arith) (λ x o. refl)) (omega arith) refl) (omega arith)

ascribe_knot : Knot AscribeR (λ k. AscribeD (SigR k)) ascribe_in (λ k. ascribe_level (sig_in k) k.height) begins_ascribe
unfolding ascribe_on
ascribe_knot = record { none = λ b t w d. d; out = λ h b t w d. d; into = λ h b t w d. d; empty = λ b v. refl; next = λ h b v. refl }

tower : Tower AscribeP
tower = record {
  sizes = lowest_sizes ascribe_knot;
  readings = λ f. lowest_readings ascribe_knot f;
  refusals = λ f. lowest_refusals ascribe_knot f;
  next = λ s n a. lifted ascribe_knot (ascribe_now (sig_exact s n));
}

pub ascribe_exact : (s : Known) (n : ℕ) → AscribeP s n
ascribe_exact = all_of AscribeP tower
