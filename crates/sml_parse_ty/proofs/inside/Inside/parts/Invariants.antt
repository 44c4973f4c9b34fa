use Rattle.std.proofs.Common.{◌≡◌, length}
use Rattle.readers.specs.Reader.{mapped, row, skip}
use Rattle.readers.specs.Forms.{height_of, seps}
use Rattle.sml_grammar.specs.Tokens.{is_times}
use Rattle.sml_grammar.specs.ReadTypes.{con_read}
use Rattle.sml_scan.proofs.Rows.{gathered}
use Rattle.sml_parse_ty.specs.Rows.{ty_tree, tys}
use Rattle.sml_parse_ty.proofs.inside.Inside.parts.Given as goal

abbrev pub invariant-items : goal.invariant-items
invariant-items g l = mapped tys (seps is_times (con_read l.room)) l.tokens ≡ gathered ty_tree height_of l.found l.height (row is_times (skip is_times (con_read l.room)) l.rest)

abbrev pub decreases-items : goal.decreases-items
decreases-items g l = length l.rest
