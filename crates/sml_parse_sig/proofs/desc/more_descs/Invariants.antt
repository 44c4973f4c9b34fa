use Rattle.std.proofs.Common.{◌≡◌, length}
use Rattle.readers.specs.Reader.{mapped, row, skip}
use Rattle.sml_scan.proofs.Rows.{gathered}
use Rattle.readers.specs.Forms.{height_of}
use Rattle.sml_grammar.specs.Tokens.{is}
use Rattle.sml_parse_sig.specs.Rows as rows
use Rattle.sml_grammar.specs.Words.{AND}
use Rattle.sml_grammar_sig.specs.ReadDescs.{cons_read, desc_read}
use Rattle.sml_parse_sig.proofs.desc.more_descs.Given as goal

abbrev pub invariant-items : goal.invariant-items
invariant-items l = mapped rows.descs (row (is AND) (skip (is AND) (desc_read (cons_read l.room)))) l.tokens ≡ gathered rows.desc_tree height_of l.found l.height (row (is AND) (skip (is AND) (desc_read (cons_read l.room))) l.rest)

abbrev pub decreases-items : goal.decreases-items
decreases-items l = length l.rest
