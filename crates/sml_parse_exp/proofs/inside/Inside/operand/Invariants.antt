use Rattle.std.proofs.Common.{◌≡◌, false, length}
use Rattle.sml_grammar_exp.specs.Decs.{fixed}
use Rattle.sml_grammar_exp.specs.ReadExps.{begins_at}
use Rattle.sml_grammar_exp.specs.ReadLevels.{at_exp_read}
use Rattle.sml_parse_exp.specs.Levels as levels
use Rattle.sml_parse_exp.proofs.Atoms.{reading}
use Rattle.sml_parse_exp.proofs.inside.Inside.operand.Given as goal

abbrev pub invariant-items : goal.invariant-items
invariant-items g l =
    (levels.operand l.fn.scope l.room l.tokens ≡ reading (begins_at (fixed l.fn.scope)) (at_exp_read l.room false l.fn.scope) l.place l.found l.height l.rest)
    × (l.scope ≡ l.fn.scope)

abbrev pub decreases-items : goal.decreases-items
decreases-items g l = length l.rest
