use Rattle.std.proofs.Common.{◌≡◌, length}
use Rattle.readers.specs.Reader.{token_by, row, with_front}
use Rattle.sml_grammar.specs.Tokens.{tokens_of, alphas, strid}
use Rattle.sml_grammar_exp.specs.ReadClauses.{many_read}
use Rattle.sml_parse_sig.proofs.name.strids.Given as goal

abbrev pub invariant-items : goal.invariant-items
invariant-items l = many_read (tokens_of alphas) (token_by strid) l.tokens ≡ with_front l.found (row (tokens_of alphas) (token_by strid) l.rest)

abbrev pub decreases-items : goal.decreases-items
decreases-items l = length l.rest
