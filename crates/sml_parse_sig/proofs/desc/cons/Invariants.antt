use Rattle.std.proofs.Common.{◌≡◌, length}
use Rattle.readers.specs.Reader.{mapped, row, skip}
use Rattle.sml_scan.proofs.Rows.{gathered}
use Rattle.readers.specs.Forms.{height_of, seps}
use Rattle.sml_grammar.specs.ReadTypes.{ty_read}
use Rattle.sml_grammar.specs.Tokens.{is}
use Rattle.sml_parse_sig.specs.Rows as rows
use Rattle.sml_grammar_sig.specs.ReadDescs.{con_read}
use Rattle.sml_parse_sig.proofs.desc.cons.Given as goal

abbrev pub invariant-items : goal.invariant-items
invariant-items l = mapped rows.cons (seps (is l.separator) (con_read (ty_read l.room) l.room)) l.tokens ≡ gathered rows.con_tree height_of l.found l.height (row (is l.separator) (skip (is l.separator) (con_read (ty_read l.room) l.room)) l.rest)

abbrev pub decreases-items : goal.decreases-items
decreases-items l = length l.rest
