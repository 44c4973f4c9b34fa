use Rattle.std.proofs.Common.{◌≡◌, length}
use Rattle.readers.specs.Reader.{mapped}
use Rattle.sml_parse_sig.specs.Levels as levels
use Rattle.sml_parse_sig.specs.Rows as rows
use Rattle.sml_parse_sig.proofs.Items.{row}
use Rattle.sml_parse_sig.proofs.inside.Inside.specs_to.Given as goal

abbrev pub invariant-items : goal.invariant-items
invariant-items g l = mapped rows.specs (levels.specs_to l.word l.room) l.tokens ≡ row l.word l.room l.kept l.rest

abbrev pub decreases-items : goal.decreases-items
decreases-items g l = length l.rest
