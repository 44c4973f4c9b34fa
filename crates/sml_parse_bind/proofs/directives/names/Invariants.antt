use Rattle.std.proofs.Common.{◌≡◌, length}
use Rattle.readers.specs.Reader.{token_by, row, with_front}
use Rattle.sml_grammar.specs.Tokens.{tokens_of, names, any_vid}
use Rattle.sml_grammar_exp.specs.ReadClauses.{many_read}
use Rattle.sml_parse_bind.proofs.directives.names.Given as goal

abbrev pub invariant-items : goal.invariant-items
invariant-items l = many_read (tokens_of names) (token_by any_vid) l.tokens ≡ with_front l.found (row (tokens_of names) (token_by any_vid) l.rest)

abbrev pub decreases-items : goal.decreases-items
decreases-items l = length l.rest
