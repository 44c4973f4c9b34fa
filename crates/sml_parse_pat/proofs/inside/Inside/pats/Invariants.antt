use Rattle.std.proofs.Common.{◌≡◌, length}
use Rattle.readers.specs.Reader.{mapped, row, skip}
use Rattle.readers.specs.Forms.{height_of, seps}
use Rattle.sml_fix.specs.Fixities.{settings}
use Rattle.sml_grammar.specs.Words.{COMMA}
use Rattle.sml_grammar.specs.Tokens.{is}
use Rattle.sml_scan.proofs.Rows.{gathered}
use Rattle.sml_parse_pat.specs.Levels as levels
use Rattle.sml_parse_pat.specs.Rows.{pats, pat_tree}
use Rattle.sml_parse_pat.proofs.inside.Inside.pats.Given as goal

abbrev pub invariant-items : goal.invariant-items
invariant-items g l =
    mapped pats (seps (is COMMA) (levels.pat (settings l.self.fix.now) l.room)) l.tokens
    ≡ gathered pat_tree height_of l.found l.height (row (is COMMA) (skip (is COMMA) (levels.pat (settings l.self.fix.now) l.room)) l.rest)

abbrev pub decreases-items : goal.decreases-items
decreases-items g l = length l.rest
