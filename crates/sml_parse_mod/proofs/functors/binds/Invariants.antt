use Rattle.std.proofs.Common.{◌≡◌, length}
use Rattle.readers.specs.Reader.{mapped}
use Rattle.sml_grammar_exp.specs.Decs.{Changes}
use Rattle.sml_parse_mod.specs.Levels as levels
use Rattle.sml_parse_mod.specs.Trees as trees
use Rattle.sml_parse_mod.proofs.Loops.{row}
use Rattle.sml_parse_mod.proofs.Steps.{functor_less}
use Rattle.sml_parse_mod.proofs.functors.binds.Given as goal

abbrev pub invariant-turns : goal.invariant-turns
invariant-turns l =
    (mapped trees.funbinds (levels.functors l.fn.scope l.room) l.tokens ≡ row (λ (k : Changes). levels.functor k l.room) l.room trees.funbind_made (λ (k : Changes). functor_less k l.room) l.fn.scope l.row (trees.bind l.last) l.rest)
    × (l.scope ≡ l.fn.scope)

abbrev pub decreases-turns : goal.decreases-turns
decreases-turns l = length l.rest
