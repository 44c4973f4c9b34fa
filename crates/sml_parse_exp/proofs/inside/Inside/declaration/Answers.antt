use Rattle.std.proofs.Common.{sym, ◌∙◌}
use Rattle.readers.specs.Reader.{token_by}
use Rattle.readers.specs.Forms.{ended}
use Rattle.sml_grammar.specs.Tokens.{tokens_of, long_alphas, long_strid}
use Rattle.sml_grammar_exp.specs.ReadClauses.{many_read}
use Rattle.sml_grammar_exp.specs.ReadDecs.{dec_goes}
use Rattle.sml_parse_exp.proofs.Changes.{opens_still}
use Rattle.sml_parse_exp.proofs.Hands.{opens_in, infix_in}
use Rattle.sml_parse_exp.proofs.inside.Inside.declaration.Goals as goal

pub returns-then-is_next-clause-gives : goal.returns-then-is_next-clause-gives
returns-then-is_next-clause-gives g c =
    rw (opens_in c.args.scope.now c.args.room c.args.tokens.now c.in_ok-place.rest.now c.in_ok-place.place (sym c.is_next.ensures ∙ c.if-is_next.true) c.in_ok-place.ensures) c.opens.ensures

pub returns-then-is_next-clause-moves : goal.returns-then-is_next-clause-moves
returns-then-is_next-clause-moves g c = opens_still c.in_ok-place.place c.in_ok-place.rest.now c.opens.result c.args.scope.now (ended (tokens_of dec_goes) (many_read (tokens_of long_alphas) (token_by long_strid))) c.opens.ensures

pub returns-then-is_next-2-clause-gives : goal.returns-then-is_next-2-clause-gives
returns-then-is_next-2-clause-gives g c =
    rw (infix_in c.args.scope.now c.args.room c.args.tokens.now c.in_ok-place-2.rest.now c.in_ok-place-2.place (sym c.is_next.ensures ∙ c.if-is_next.false) (sym c.is_next-2.ensures ∙ c.if-is_next-2.true) c.in_ok-place-2.ensures) c.infix.ensures.gives
