use Rattle.std.proofs.Common.{◌≡◌, length}
use Rattle.readers.specs.Reader.{steps}
use Rattle.readers.specs.Forms.{at_least}
use Rattle.readers.proofs.StepLoop.{ended}
use Rattle.sml_grammar.specs.Words.{ANDALSO}
use Rattle.sml_grammar.specs.Tokens.{is}
use Rattle.sml_grammar_exp.specs.Exps.{is_near, and_of}
use Rattle.sml_parse_exp.proofs.Near.{next}
use Rattle.sml_parse_exp.specs.Levels as levels
use Rattle.sml_parse_exp.specs.Trees as trees
use Rattle.sml_parse_exp.proofs.inside.Inside.and_also.Given as goal

abbrev pub invariant-operands : goal.invariant-operands
invariant-operands g l =
    (levels.and_also l.fn.scope l.room l.tokens ≡ ended and_of (trees.seen l.found) (steps (is ANDALSO) and_of (next (is ANDALSO) is_near (at_least 2) and_of (levels.and_suffix l.fn.scope l.room) l.room) (trees.seen l.found) l.rest))
    × (l.scope ≡ l.fn.scope)

abbrev pub decreases-operands : goal.decreases-operands
decreases-operands g l = length l.rest
