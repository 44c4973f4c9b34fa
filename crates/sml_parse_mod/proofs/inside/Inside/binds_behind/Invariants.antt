use Rattle.std.proofs.Common.{◌≡◌, length}
use Rattle.readers.specs.Reader.{mapped}
use Rattle.sml_grammar_exp.specs.Decs.{Changes}
use Rattle.sml_grammar_mod.specs.Strs.{strbind_of}
use Rattle.sml_parse_mod.specs.Levels as levels
use Rattle.sml_parse_mod.specs.Trees as trees
use Rattle.sml_parse_mod.proofs.Loops.{row}
use Rattle.sml_parse_mod.proofs.Steps.{binding_less}
use Rattle.sml_parse_mod.proofs.inside.Inside.binds_behind.Given as goal

abbrev pub invariant-turns : goal.invariant-turns
invariant-turns g l =
    (mapped trees.strbinds (levels.binds_behind l.fn.scope l.room (trees.bind l.fn.first)) l.tokens ≡ row (λ (k : Changes). levels.bind k l.room) l.room strbind_of (λ (k : Changes). binding_less k l.room) l.fn.scope l.row (trees.bind l.last) l.rest)
    × (l.scope ≡ l.fn.scope)

abbrev pub decreases-turns : goal.decreases-turns
decreases-turns g l = length l.rest
