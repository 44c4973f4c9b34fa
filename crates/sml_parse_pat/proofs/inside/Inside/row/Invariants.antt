use Rattle.std.proofs.Common.{◌≡◌, length}
use Rattle.sml_fix.specs.Fixities.{settings}
use Rattle.sml_parse_pat.specs.Levels as levels
use Rattle.sml_parse_pat.proofs.RowSteps.{row_rest}
use Rattle.sml_parse_pat.proofs.inside.Inside.row.Given as goal

abbrev pub invariant-operators : goal.invariant-operators
invariant-operators g l = levels.row_level (settings l.self.fix.now) l.room l.floor l.tokens ≡ row_rest (settings l.self.fix.now) l.room l.floor l.found l.rest

abbrev pub decreases-operators : goal.decreases-operators
decreases-operators g l = length l.rest
