use Rattle.std.proofs.Common.{◌≡◌, length}
use Rattle.readers.specs.Reader.{row, skip, token_by, with_front}
use Rattle.readers.specs.Forms.{seps}
use Rattle.sml_grammar.specs.Tokens.{is}
use Rattle.sml_grammar.specs.Words.{EQUALS}
use Rattle.sml_grammar.specs.Tokens.{long_strid}
use Rattle.sml_parse_sig.proofs.rows.equal_structures.Given as goal

abbrev pub invariant-items : goal.invariant-items
invariant-items l = seps (is EQUALS) (token_by long_strid) l.tokens ≡ with_front l.found (row (is EQUALS) (skip (is EQUALS) (token_by long_strid)) l.rest)

abbrev pub decreases-items : goal.decreases-items
decreases-items l = length l.rest
