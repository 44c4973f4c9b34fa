use Rattle.std.proofs.Common.{◌≡◌, length}
use Rattle.readers.specs.Reader.{mapped, row, skip}
use Rattle.readers.specs.Forms.{seps}
use Rattle.sml_grammar.specs.Words.{COMMA}
use Rattle.sml_grammar.specs.Tokens.{is}
use Rattle.sml_grammar.specs.Types.{field_height}
use Rattle.sml_grammar.specs.ReadTypes.{field_read, ty_read}
use Rattle.sml_scan.proofs.Rows.{gathered}
use Rattle.sml_parse_ty.specs.Rows.{field_tree, fields}
use Rattle.sml_parse_ty.proofs.inside.Inside.fields.Given as goal

abbrev pub invariant-items : goal.invariant-items
invariant-items g l = mapped fields (seps (is COMMA) (field_read (ty_read l.room))) l.tokens ≡ gathered field_tree field_height l.found l.height (row (is COMMA) (skip (is COMMA) (field_read (ty_read l.room))) l.rest)

abbrev pub decreases-items : goal.decreases-items
decreases-items g l = length l.rest
