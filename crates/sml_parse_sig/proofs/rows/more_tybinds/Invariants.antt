use Rattle.std.proofs.Common.{◌≡◌, length}
use Rattle.readers.specs.Reader.{mapped, row, skip}
use Rattle.sml_scan.proofs.Rows.{gathered}
use Rattle.readers.specs.Forms.{height_of}
use Rattle.sml_grammar.specs.ReadTypes.{ty_read}
use Rattle.sml_grammar.specs.Tokens.{is}
use Rattle.sml_parse_sig.specs.Rows as rows
use Rattle.sml_grammar.specs.Words.{AND}
use Rattle.sml_grammar_exp.specs.ReadBinds.{tybind_read}
use Rattle.sml_parse_sig.proofs.rows.more_tybinds.Given as goal

abbrev pub invariant-items : goal.invariant-items
invariant-items l = mapped rows.tybinds (row (is AND) (skip (is AND) (tybind_read (ty_read l.room)))) l.tokens ≡ gathered rows.tybind_tree height_of l.found l.height (row (is AND) (skip (is AND) (tybind_read (ty_read l.room))) l.rest)

abbrev pub decreases-items : goal.decreases-items
decreases-items l = length l.rest
