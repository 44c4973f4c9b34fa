use Rattle.std.proofs.Common.{sym, ◌∙◌, arith}
use Rattle.sml_parse_exp.proofs.Hands.{record_in}
use Rattle.sml_parse_exp.proofs.inside.Inside.atom.Goals as goal

pub returns-then-is_next-2-clause-gives : goal.returns-then-is_next-2-clause-gives
returns-then-is_next-2-clause-gives g c =
    rw (record_in c.args.scope.now c.args.room c.args.tokens.now c.in_ok-place-3.rest.now c.in_ok-place-3.place (sym c.is_constant.ensures ∙ c.if-is_constant.false) (sym c.is_next.ensures ∙ c.if-is_next.false) (sym c.is_next-2.ensures ∙ c.if-is_next-2.true) c.in_ok-place-3.ensures) c.record.ensures.gives
