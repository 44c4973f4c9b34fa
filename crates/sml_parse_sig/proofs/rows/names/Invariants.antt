use Rattle.std.proofs.Common.{◌≡◌, length}
use Rattle.readers.specs.Reader.{row, skip, with_front}
use Rattle.readers.specs.Forms.{seps}
use Rattle.sml_grammar.specs.Tokens.{is}
use Rattle.sml_grammar.specs.Words.{AND}
use Rattle.sml_grammar_sig.specs.ReadDescs.{named_read}
use Rattle.sml_parse_sig.proofs.rows.names.Given as goal

abbrev pub invariant-items : goal.invariant-items
invariant-items l = seps (is AND) named_read l.tokens ≡ with_front l.found (row (is AND) (skip (is AND) (named_read)) l.rest)

abbrev pub decreases-items : goal.decreases-items
decreases-items l = length l.rest
