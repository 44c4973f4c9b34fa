use Rattle.std.proofs.Common.{◌≡◌, false, length}
use Rattle.readers.specs.Reader.{mapped, skip, row}
use Rattle.readers.specs.Forms.{height_of, seps}
use Rattle.sml_grammar.specs.Tokens.{is}
use Rattle.sml_scan.proofs.Rows.{gathered}
use Rattle.sml_parse_exp.specs.Levels as levels
use Rattle.sml_parse_exp.specs.Trees as trees
use Rattle.sml_parse_exp.proofs.inside.Inside.exps.Given as goal

abbrev pub invariant-items : goal.invariant-items
invariant-items g l =
    (mapped trees.exps_of (seps (is l.separator) (levels.exp l.fn.scope l.room)) l.tokens ≡ gathered trees.exp_tree height_of l.found l.height (row (is l.separator) (skip (is l.separator) (levels.exp l.fn.scope l.room)) l.rest))
    × (l.scope ≡ l.fn.scope)

abbrev pub decreases-items : goal.decreases-items
decreases-items g l = length l.rest
