use Rattle.std.proofs.Common.{◌≡◌, length}
use Rattle.readers.specs.Reader.{token_by, row, with_front}
use Rattle.sml_grammar.specs.Tokens.{tokens_of, long_alphas, long_strid}
use Rattle.sml_grammar_exp.specs.ReadClauses.{many_read}
use Rattle.sml_parse_bind.proofs.directives.structures.Given as goal

abbrev pub invariant-items : goal.invariant-items
invariant-items l = many_read (tokens_of long_alphas) (token_by long_strid) l.tokens ≡ with_front l.found (row (tokens_of long_alphas) (token_by long_strid) l.rest)

abbrev pub decreases-items : goal.decreases-items
decreases-items l = length l.rest
