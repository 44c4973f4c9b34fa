use Rattle.std.proofs.Common.{length}
use Rattle.readers.specs.Reader.{mapped}
use Rattle.readers.specs.Forms.{height_of, ready_read}
use Rattle.sml_fix.specs.Fixities.{settings}
use Rattle.sml_grammar.specs.Words.{COMMA}
use Rattle.sml_grammar.specs.Tokens.{is}
use Rattle.sml_grammar.specs.Pats.{goes_on}
use Rattle.sml_parse_pat.specs.Levels as levels
use Rattle.sml_parse_pat.specs.Rows.{fields, field_tree}
use Rattle.sml_parse_pat.proofs.Ready.{Reading}
use Rattle.sml_parse_pat.proofs.inside.Inside.fields.Given as goal

abbrev pub invariant-items : goal.invariant-items
invariant-items g l =
    Reading field_tree height_of (is COMMA) goes_on (levels.field (settings l.self.fix.now) l.room) l.found l.height l.more l.rest
    (mapped fields (ready_read (is COMMA) goes_on (levels.field (settings l.self.fix.now) l.room)) l.tokens)

abbrev pub decreases-items : goal.decreases-items
decreases-items g l = length l.rest
