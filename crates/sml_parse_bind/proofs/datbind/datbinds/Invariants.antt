use Rattle.std.proofs.Common.{◌≡◌, length}
use Rattle.readers.specs.Reader.{mapped, skip, row}
use Rattle.readers.specs.Forms.{height_of, seps}
use Rattle.sml_fix.specs.Fixities.{settings}
use Rattle.sml_grammar.specs.Words.{AND}
use Rattle.sml_grammar.specs.Tokens.{is}
use Rattle.sml_grammar_exp.specs.ReadBinds.{cons_read, datbind_read}
use Rattle.sml_scan.proofs.Rows.{gathered}
use Rattle.sml_parse_bind.specs.Rows as rows
use Rattle.sml_parse_bind.proofs.datbind.datbinds.Given as goal

abbrev pub invariant-items : goal.invariant-items
invariant-items l = mapped rows.datbinds (seps (is AND) (datbind_read (cons_read l.room (settings l.fix)))) l.tokens ≡ gathered rows.datbind_tree height_of l.found l.height (row (is AND) (skip (is AND) (datbind_read (cons_read l.room (settings l.fix)))) l.rest)

abbrev pub decreases-items : goal.decreases-items
decreases-items l = length l.rest
