-- What is said under some directives, under others that leave the same fixities.
use Rattle.std.proofs.Common.{◌≡◌, ℕ, false, List, ◌∷◌, refl, sym, ap, ◌∙◌, inl, inr}
use Rattle.tl_text.specs.declared.place.Place.{Place}
use Rattle.tl_text.specs.declared.code.Code.{Code}
use Rattle.readers.specs.Room.{at_height}
use Rattle.sml_lex.specs.declared.token.Token.{Token}
use Rattle.sml_ast.specs.declared.program.Program.{Program}
use Rattle.sml_fix.specs.Fixities.{Settings}
use Rattle.sml_grammar_exp.specs.Decs.{Changes, fixed}
use Rattle.sml_grammar_mod.specs.Programs.{left_by}
use Rattle.sml_grammar_fix.proofs.Modules.{derives_same, left_alike, refusal_same}
use Rattle.sml_parse_mod.specs.Promise as grammar
use Rattle.sml_parse_mod.specs.Promise.{Derives, IsProgram}
use Rattle.sml_front.specs.Sources.{IsSource, IsSourceUnder, Refusal, RefusedUnder}

module _ (cs ds : Changes) (e : fixed cs ≡ fixed ds) where
  derives_moves : (ts : List Token) (p : Program) (left : Settings) → Derives cs ts p left → Derives ds ts p left
  derives_moves ts p left d = record {
    height = d.height;
    changes = left_by ds (p, d.height);
    parses = (derives_same cs ds e (at_height 1000 false) (p, d.height) ts d.parses.0, refl);
    leaves = d.leaves ∙ (ap fixed d.parses.1 ∙ left_alike cs ds (p, d.height) e);
  }

  program_moves : (ts : List Token) (p : Program) (left : Settings) → IsProgram cs ts p left → IsProgram ds ts p left
  program_moves ts p left d = record { derives = derives_moves ts p left d.derives; supported = d.supported }

  no_program_moves : (ts : List Token) (place : Place) (code : Code) → grammar.Refusal cs ts place code → grammar.Refusal ds ts place code
  no_program_moves ts place code (inl r) =
      inl (record { cause = r.cause; next = r.next; rest = r.rest; refused = refusal_same cs ds e 1000 ts r.cause (r.next ∷ r.rest) r.refused; stands = r.stands; why = r.why })
  no_program_moves ts place code (inr r) = inr (record { program = r.program; left = r.left; derives = derives_moves ts r.program r.left r.derives; phrase = r.phrase })

  module _ (number : ℕ) (bytes : List ℕ) where
    source_moves : (p : Program) (left : Settings) → IsSource number cs bytes p left → IsSource number ds bytes p left
    source_moves p left s = record { tokens = s.tokens; lexes = s.lexes; parses = program_moves s.tokens p left s.parses; lawful = s.lawful }

    refusal_moves : (place : Place) (code : Code) → Refusal number cs bytes place code → Refusal number ds bytes place code
    refusal_moves place code (inl r) = inl r
    refusal_moves place code (inr (inl r)) = inr (inl (record { tokens = r.tokens; lexes = r.lexes; refused = no_program_moves r.tokens place code r.refused }))
    refusal_moves place code (inr (inr r)) =
        inr (inr (record { tokens = r.tokens; program = r.program; left = r.left; lexes = r.lexes; parses = program_moves r.tokens r.program r.left r.parses; breaks = r.breaks }))

-- so what is said under fixities may be said under any directives that leave them
module _ (number : ℕ) (cs : Changes) (bytes : List ℕ) (fix : Settings) (leaves : fixed cs ≡ fix) where
  pub source_under : (p : Program) (left : Settings) → IsSourceUnder number fix bytes p left → IsSource number cs bytes p left
  source_under p left s = source_moves s.before cs (s.leaves ∙ sym leaves) number bytes p left s.source

  pub refusal_under : (place : Place) (code : Code) → RefusedUnder number fix bytes place code → Refusal number cs bytes place code
  refusal_under place code r = refusal_moves r.0 cs (r.1 ∙ sym leaves) number bytes place code r.2
