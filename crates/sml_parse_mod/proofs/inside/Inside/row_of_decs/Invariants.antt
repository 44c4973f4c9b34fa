use Rattle.std.proofs.Common.{◌≡◌, false, ◌++◌, length}
use Rattle.readers.specs.Reader.{mapped, steps}
use Rattle.readers.specs.Forms.{height_of}
use Rattle.sml_scan.proofs.Rows.{gathered}
use Rattle.sml_grammar_mod.specs.Strs.{str_after}
use Rattle.sml_grammar_mod.specs.ReadStrs.{begins_strdec, str_item_read, strdec_read}
use Rattle.sml_parse_mod.specs.Levels as levels
use Rattle.sml_parse_mod.specs.Trees as trees
use Rattle.sml_parse_mod.proofs.inside.Inside.row_of_decs.Given as goal

abbrev pub invariant-items : goal.invariant-items
invariant-items g l =
    (mapped trees.strdecs (levels.row_of_decs l.fn.scope l.room) l.tokens ≡ gathered trees.strdec_tree height_of l.found l.height (steps begins_strdec str_after (λ c. str_item_read (strdec_read l.room false c)) l.scope l.rest))
    × (l.scope ≡ l.fn.scope ++ trees.all_changes l.found)

abbrev pub decreases-items : goal.decreases-items
decreases-items g l = length l.rest
