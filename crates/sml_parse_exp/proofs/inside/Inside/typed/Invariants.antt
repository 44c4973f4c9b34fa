use Rattle.std.proofs.Common.{◌≡◌, length}
use Rattle.readers.specs.Reader.{steps}
use Rattle.readers.specs.Forms.{at_least}
use Rattle.readers.proofs.StepLoop.{ended}
use Rattle.sml_grammar.specs.Words.{COLON}
use Rattle.sml_grammar.specs.Tokens.{is}
use Rattle.sml_grammar_exp.specs.Exps.{typed_of}
use Rattle.sml_scan.proofs.Grown.{next}
use Rattle.sml_parse_exp.specs.Levels as levels
use Rattle.sml_parse_exp.specs.Trees as trees
use Rattle.sml_parse_exp.proofs.inside.Inside.typed.Given as goal

abbrev pub invariant-types : goal.invariant-types
invariant-types g l =
    (levels.typed l.fn.scope l.room l.tokens ≡ ended typed_of (trees.seen l.found) (steps (is COLON) typed_of (next (is COLON) (at_least 2) typed_of (levels.annotation l.room) l.room) (trees.seen l.found) l.rest))
    × (l.scope ≡ l.fn.scope)

abbrev pub decreases-types : goal.decreases-types
decreases-types g l = length l.rest
