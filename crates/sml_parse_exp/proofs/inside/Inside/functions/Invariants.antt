use Rattle.std.proofs.Common.{◌≡◌, length}
use Rattle.readers.specs.Reader.{mapped, skip, row}
use Rattle.readers.specs.Forms.{seps}
use Rattle.sml_grammar.specs.Words.{AND}
use Rattle.sml_grammar.specs.Tokens.{is}
use Rattle.sml_scan.specs.Rows.{summed}
use Rattle.sml_scan.proofs.Rows.{gathered}
use Rattle.sml_parse_exp.specs.Levels as levels
use Rattle.sml_parse_exp.specs.Trees as trees
use Rattle.sml_parse_exp.proofs.Parts.{part_tree, part_height}
use Rattle.sml_parse_exp.proofs.inside.Inside.functions.Given as goal

abbrev pub invariant-items : goal.invariant-items
invariant-items g l =
    (mapped (summed part_tree part_height) (seps (is AND) (mapped trees.clauses_of (levels.clauses l.fn.scope l.room))) l.tokens ≡ gathered part_tree part_height l.found l.height (row (is AND) (skip (is AND) (mapped trees.clauses_of (levels.clauses l.fn.scope l.room))) l.rest))
    × (l.scope ≡ l.fn.scope)

abbrev pub decreases-items : goal.decreases-items
decreases-items g l = length l.rest
