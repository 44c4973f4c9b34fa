use Rattle.std.proofs.Common.{◌≡◌, length}
use Rattle.readers.specs.Reader.{mapped}
use Rattle.sml_grammar_mod.specs.Programs.{left_by_tops}
use Rattle.sml_parse_mod.specs.Levels as levels
use Rattle.sml_parse_mod.specs.Trees as trees
use Rattle.sml_parse_mod.proofs.Tops.{to_come}
use Rattle.sml_parse_mod.proofs.program.items.Given as goal

abbrev pub invariant-items : goal.invariant-items
invariant-items l = (mapped trees.tops (levels.items l.fn.scope l.room) l.tokens ≡ to_come l.room l.found l.height (l.scope, trees.before l.before) l.rest) × (l.scope ≡ left_by_tops l.fn.scope l.found)

abbrev pub decreases-items : goal.decreases-items
decreases-items l = length l.rest
