use Rattle.std.proofs.Common.{◌≡◌, length}
use Rattle.readers.specs.Reader.{mapped, skip, row}
use Rattle.readers.specs.Forms.{height_of, seps}
use Rattle.sml_fix.specs.Fixities.{settings}
use Rattle.sml_grammar.specs.Words.{BAR}
use Rattle.sml_grammar.specs.Tokens.{is}
use Rattle.sml_grammar.specs.ReadTypes.{ty_read}
use Rattle.sml_grammar_exp.specs.ReadBinds.{con_read}
use Rattle.sml_scan.proofs.Rows.{gathered}
use Rattle.sml_parse_bind.specs.Rows as rows
use Rattle.sml_parse_bind.proofs.constructor.rows.Given as goal

abbrev pub invariant-items : goal.invariant-items
invariant-items l = mapped rows.cons (seps (is BAR) (con_read (settings l.fix) (ty_read l.room) l.room)) l.tokens ≡ gathered rows.con_tree height_of l.found l.height (row (is BAR) (skip (is BAR) (con_read (settings l.fix) (ty_read l.room) l.room)) l.rest)

abbrev pub decreases-items : goal.decreases-items
decreases-items l = length l.rest
