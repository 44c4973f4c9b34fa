use Rattle.std.proofs.Common.{◌≡◌, false, length}
use Rattle.readers.specs.Reader.{mapped}
use Rattle.sml_grammar_exp.specs.ReadLevels.{rule_read}
use Rattle.sml_parse_exp.specs.Levels as levels
use Rattle.sml_parse_exp.specs.Trees as trees
use Rattle.sml_parse_exp.proofs.Rules.{Reading}
use Rattle.sml_parse_exp.proofs.inside.Inside.rules.Given as goal

abbrev pub invariant-rules : goal.invariant-rules
invariant-rules g l =
    Reading (rule_read l.room false l.fn.scope) l.tree (trees.ends_of l.ends) l.height l.rest (mapped trees.rules_of (levels.rules l.fn.scope l.room) l.tokens)
    × (l.scope ≡ l.fn.scope)

abbrev pub decreases-rules : goal.decreases-rules
decreases-rules g l = length l.rest
