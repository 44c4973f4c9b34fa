-- Signatures and rows of specifications of all heights are read exactly.
use Rattle.std.proofs.Common.{◌≡◌, ℕ, Bool, true, false, None, refl, arith}
use Rattle.readers.specs.Language.{Both, Shows, As, Close}
use Rattle.readers.specs.Exact.{always}
use Rattle.readers.specs.Forms.{highest, height_of}
use Rattle.readers.proofs.Bundle.{Known, Phrase}
use Rattle.readers.proofs.Combine.{token, phrase, node, sized_phrase}
use Rattle.readers.proofs.Levels.{Knot, Tower, all_of, lifted, lowest_sizes, lowest_readings, lowest_refusals}
use Rattle.sml_grammar.specs.Words.{CLOSE_PAREN, COLON, END, OPEN_PAREN, SIG}
use Rattle.sml_grammar.specs.Tokens.{just, is, the, plain_fix, tokens_of, ident, alphas}
use Rattle.sml_grammar.specs.Types.{TyR}
use Rattle.sml_grammar.specs.ReadTypes.{ty_in}
use Rattle.sml_grammar.proofs.Sets.{is_just, pick_if}
use Rattle.sml_grammar.proofs.Shapes.{name_token, the_word}
use Rattle.sml_grammar.proofs.Types.{ty_exact}
use Rattle.sml_grammar_sig.specs.Descs.{ConsR}
use Rattle.sml_grammar_sig.specs.Sigs.{Sx, is_real, specs_of, sig_at, head_form, head_on, HeadR, SigR, SpecsR, EnclosedR}
use Rattle.sml_grammar_sig.specs.ReadSigs.{begins_spec, begins_sig, body_level, head_level, spec_level, specs_to, body_read, head_read, spec_read, body_in, head_in, spec_in, enclosed_in}
use Rattle.sml_grammar_sig.proofs.Descs.{cons_in, cons_exact, real_bind_exact}
use Rattle.sml_grammar_sig.proofs.Sigs.{real_stop, sig_stop, HeadP, SigP, sig_now}
use Rattle.sml_grammar_sig.proofs.Structures.{strs_in, strs_now}
use Rattle.sml_grammar_sig.proofs.Lean.{body_on, BodyR, BodyP, lean_in, lean_now}
use Rattle.sml_grammar_sig.proofs.Specs.{lean_form, spec_lean_on, SpecLeanR, SpecLeanP, spec_now}
use Rattle.sml_grammar_sig.proofs.Rows.{specs_now}

module _ {s : Known} {n : ℕ} (P : SpecLeanP s n) where
  body_now : Phrase s n 1 (λ k. As specs_of (Both (Shows (the SIG)) (Close (SpecsR k) (is END)))) (λ k. body_level (specs_to END (spec_in k) k.height)) always height_of 0 0 (is SIG) 0
  body_now = node specs_of height_of always (phrase (the_word SIG) (specs_now P END refl refl)) (λ x. omega arith) (λ x o. refl)

  head_now : Phrase s n 1 (λ k. head_form (SpecsR k)) (λ k. head_level (specs_to END (spec_in k) k.height)) always height_of 0 0 begins_sig 0
  head_now = pick_if plain_fix (just SIG) alphas (is_just plain_fix SIG) (λ c. refl) body_now
      (node sig_at height_of always (token (tokens_of alphas) ident name_token refl) (λ x. refl) (λ x o. refl)) (omega arith) refl

-- ---- all heights

body_knot : Knot BodyR (λ k. As specs_of (Both (Shows (the SIG)) (Close (SpecsR k) (is END)))) body_in (λ k. body_level (specs_to END (spec_in k) k.height)) (is SIG)
unfolding body_on body_read
body_knot = record { none = λ b t w d. d; out = λ h b t w d. d; into = λ h b t w d. d; empty = λ b v. refl; next = λ h b v. refl }

head_knot : Knot HeadR (λ k. head_form (SpecsR k)) head_in (λ k. head_level (specs_to END (spec_in k) k.height)) begins_sig
unfolding head_on head_read
head_knot = record { none = λ b t w d. d; out = λ h b t w d. d; into = λ h b t w d. d; empty = λ b v. refl; next = λ h b v. refl }

spec_knot : Knot SpecLeanR (λ k. lean_form (TyR k) (ConsR k) (SigR k)) spec_in (λ k. spec_level (ty_in k) (cons_in k) (lean_in k) (strs_in COLON k) k.height) begins_spec
unfolding spec_lean_on spec_read
spec_knot = record { none = λ b t w d. d; out = λ h b t w d. d; into = λ h b t w d. d; empty = λ b v. refl; next = λ h b v. refl }

abbrev All : Known → ℕ → Type 0
All s n = BodyP s n × HeadP s n × SpecLeanP s n

tower : Tower All
tower = record {
  sizes = (lowest_sizes body_knot, lowest_sizes head_knot, lowest_sizes spec_knot);
  readings = λ f. (lowest_readings body_knot (λ m. (f m).0), lowest_readings head_knot (λ m. (f m).1), lowest_readings spec_knot (λ m. (f m).2));
  refusals = λ f. (lowest_refusals body_knot (λ m. (f m).0), lowest_refusals head_knot (λ m. (f m).1), lowest_refusals spec_knot (λ m. (f m).2));
  next = λ s n a. (
    lifted body_knot (body_now a.2),
    lifted head_knot (head_now a.2),
    lifted spec_knot (spec_now (ty_exact s n) (cons_exact s n) (lean_now (real_bind_exact s n) a.1 a.0) (strs_now COLON (real_bind_exact s n) a.1)),
  );
}

-- signatures are read exactly
pub sig_exact : (s : Known) (n : ℕ) → SigP s n
sig_exact s n = sig_now (real_bind_exact s n) ((all_of All tower s n).1)

-- the same without `where`
pub head_exact : (s : Known) (n : ℕ) → HeadP s n
head_exact s n = (all_of All tower s n).1

-- specifications are read exactly, where an identifier behind `include` takes no room
pub spec_exact : (s : Known) (n : ℕ) → SpecLeanP s n
spec_exact s n = (all_of All tower s n).2

-- rows of specifications in parentheses are read exactly
pub enclosed_exact : (s : Known) (n : ℕ) → Phrase s n 0 EnclosedR enclosed_in always (λ x. highest height_of x.1) 0 0 (is OPEN_PAREN) 0
enclosed_exact s n = sized_phrase (λ x. highest height_of x.1) (phrase (the_word OPEN_PAREN) (specs_now ((all_of All tower s n).2) CLOSE_PAREN refl refl)) (λ x. omega arith)

-- at the end of the tokens nothing goes on
pub sig_ends : (t : Sx) → sig_stop t None ≡ true
sig_ends t = go (is_real t)
  where
    go : (r : Bool) → real_stop r None ≡ true
    go true = refl
    go false = refl
