use Rattle.std.proofs.Common.{◌≡◌, false, length}
use Rattle.readers.specs.Reader.{mapped, row}
use Rattle.readers.specs.Forms.{height_of}
use Rattle.sml_fix.specs.Fixities.{settings}
use Rattle.sml_grammar.specs.ReadPats.{begins_at, at_read}
use Rattle.sml_scan.proofs.Rows.{gathered}
use Rattle.sml_parse_bind.specs.Rows as rows
use Rattle.sml_parse_bind.proofs.pats.more_pats.Given as goal

abbrev pub invariant-items : goal.invariant-items
invariant-items l =
    mapped rows.at_pats (row (begins_at (settings l.fix)) (at_read l.room false (settings l.fix))) l.tokens
    ≡ gathered rows.at_pat_tree height_of l.found l.height (row (begins_at (settings l.fix)) (at_read l.room false (settings l.fix)) l.rest)

abbrev pub decreases-items : goal.decreases-items
decreases-items l = length l.rest
