use Rattle.std.proofs.Common.{◌≡◌, length}
use Rattle.readers.specs.Reader.{steps}
use Rattle.readers.specs.Forms.{at_least}
use Rattle.readers.proofs.StepLoop.{ended}
use Rattle.sml_fix.specs.Fixities.{settings}
use Rattle.sml_grammar.specs.Words.{COLON}
use Rattle.sml_grammar.specs.Tokens.{is}
use Rattle.sml_grammar.specs.Pats.{typed_of}
use Rattle.sml_scan.proofs.Grown.{next}
use Rattle.sml_parse_pat.specs.Levels as levels
use Rattle.sml_parse_pat.proofs.inside.Inside.typed.Given as goal

abbrev pub invariant-types : goal.invariant-types
invariant-types g l =
    levels.typed_level (settings l.self.fix.now) l.room l.tokens
    ≡ ended typed_of l.found (steps (is COLON) typed_of (next (is COLON) (at_least 2) typed_of (levels.annotation l.room) l.room) l.found l.rest)

abbrev pub decreases-types : goal.decreases-types
decreases-types g l = length l.rest
