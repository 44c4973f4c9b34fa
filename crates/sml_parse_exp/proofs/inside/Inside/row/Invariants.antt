use Rattle.std.proofs.Common.{◌≡◌, length}
use Rattle.readers.specs.Reader.{first, head_is}
use Rattle.sml_grammar_exp.specs.Decs.{fixed}
use Rattle.sml_parse_exp.specs.Levels as levels
use Rattle.sml_parse_exp.specs.Trees as trees
use Rattle.sml_parse_exp.proofs.RowSteps.{row_rest}
use Rattle.sml_parse_exp.proofs.inside.Inside.row.Given as goal

abbrev pub invariant-operators : goal.invariant-operators
invariant-operators g l =
    (levels.row l.fn.scope l.room l.floor l.tokens ≡ row_rest l.fn.scope l.room l.floor (trees.seen l.found) l.rest)
    × (l.taken ≡ head_is (levels.taken (fixed l.scope) l.floor) (first l.rest))
    × (l.scope ≡ l.fn.scope)

abbrev pub decreases-operators : goal.decreases-operators
decreases-operators g l = length l.rest
