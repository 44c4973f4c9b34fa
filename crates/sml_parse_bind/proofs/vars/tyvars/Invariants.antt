use Rattle.std.proofs.Common.{◌≡◌, length}
use Rattle.readers.specs.Reader.{skip, token_by, row, with_front}
use Rattle.readers.specs.Forms.{seps}
use Rattle.sml_grammar.specs.Words.{COMMA}
use Rattle.sml_grammar.specs.Tokens.{is, tyvar}
use Rattle.sml_parse_bind.proofs.vars.tyvars.Given as goal

abbrev pub invariant-items : goal.invariant-items
invariant-items l = seps (is COMMA) (token_by tyvar) l.tokens ≡ with_front l.found (row (is COMMA) (skip (is COMMA) (token_by tyvar)) l.rest)

abbrev pub decreases-items : goal.decreases-items
decreases-items l = length l.rest
