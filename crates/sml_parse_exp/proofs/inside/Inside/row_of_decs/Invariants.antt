use Rattle.std.proofs.Common.{◌≡◌, false, ◌++◌, length}
use Rattle.readers.specs.Reader.{mapped, steps}
use Rattle.readers.specs.Forms.{height_of}
use Rattle.sml_scan.proofs.Rows.{gathered}
use Rattle.sml_grammar_exp.specs.Decs.{after}
use Rattle.sml_grammar_exp.specs.ReadDecs.{begins_dec, item_read}
use Rattle.sml_grammar_exp.specs.ReadLevels.{dec_read}
use Rattle.sml_parse_exp.specs.Levels as levels
use Rattle.sml_parse_exp.specs.Trees as trees
use Rattle.sml_parse_exp.proofs.inside.Inside.row_of_decs.Given as goal

abbrev pub invariant-items : goal.invariant-items
invariant-items g l =
    (mapped trees.decs_of (levels.row_of_decs l.fn.scope l.room) l.tokens ≡ gathered trees.dec_tree height_of l.found l.height (steps begins_dec after (λ c. item_read (dec_read l.room false c)) l.scope l.rest))
    × (l.scope ≡ l.fn.scope ++ trees.all_changes l.found)

abbrev pub decreases-items : goal.decreases-items
decreases-items g l = length l.rest
