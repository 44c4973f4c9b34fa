use Rattle.std.proofs.Common.{◌≡◌, length}
use Rattle.readers.specs.Reader.{mapped, row, skip}
use Rattle.sml_scan.proofs.Rows.{gathered}
use Rattle.readers.specs.Forms.{seps}
use Rattle.sml_grammar.specs.ReadTypes.{ty_read}
use Rattle.sml_grammar.specs.Tokens.{is}
use Rattle.sml_parse_sig.specs.Rows as rows
use Rattle.sml_grammar.specs.Words.{AND}
use Rattle.sml_grammar_sig.specs.Sigs.{without_height, part_height}
use Rattle.sml_grammar_sig.specs.ReadSigs.{val_read}
use Rattle.sml_parse_sig.proofs.rows.vals.Given as goal

abbrev pub invariant-items : goal.invariant-items
invariant-items l = mapped rows.vals (seps (is AND) (val_read (ty_read l.room))) l.tokens ≡ gathered without_height part_height l.found l.height (row (is AND) (skip (is AND) (val_read (ty_read l.room))) l.rest)

abbrev pub decreases-items : goal.decreases-items
decreases-items l = length l.rest
