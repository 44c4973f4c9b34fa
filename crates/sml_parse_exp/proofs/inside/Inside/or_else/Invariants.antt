use Rattle.std.proofs.Common.{◌≡◌, length}
use Rattle.readers.specs.Reader.{steps}
use Rattle.readers.specs.Forms.{at_least}
use Rattle.readers.proofs.StepLoop.{ended}
use Rattle.sml_grammar.specs.Words.{ORELSE}
use Rattle.sml_grammar.specs.Tokens.{is}
use Rattle.sml_grammar_exp.specs.Exps.{is_near, or_of}
use Rattle.sml_parse_exp.proofs.Near.{next}
use Rattle.sml_parse_exp.specs.Levels as levels
use Rattle.sml_parse_exp.specs.Trees as trees
use Rattle.sml_parse_exp.proofs.inside.Inside.or_else.Given as goal

abbrev pub invariant-operands : goal.invariant-operands
invariant-operands g l =
    (levels.or_else l.fn.scope l.room l.tokens ≡ ended or_of (trees.seen l.found) (steps (is ORELSE) or_of (next (is ORELSE) is_near (at_least 2) or_of (levels.or_suffix l.fn.scope l.room) l.room) (trees.seen l.found) l.rest))
    × (l.scope ≡ l.fn.scope)

abbrev pub decreases-operands : goal.decreases-operands
decreases-operands g l = length l.rest
