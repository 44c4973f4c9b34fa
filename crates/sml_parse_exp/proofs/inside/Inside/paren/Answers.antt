use Rattle.std.proofs.Common.{sym, ap, ◌∙◌}
use Rattle.readers.specs.Reader.{first, head_is}
use Rattle.sml_fix.specs.Fixities.{Settings}
use Rattle.sml_grammar_exp.specs.ReadExps.{begins_exp}
use Rattle.sml_parse_exp.proofs.Hands.{parts_in}
use Rattle.sml_parse_exp.proofs.inside.Inside.paren.Goals as goal

pub returns-clause-gives : goal.returns-clause-gives
returns-clause-gives g c =
    rw (parts_in c.args.scope.now c.args.room c.args.place c.args.tokens.now (sym c.is_next.ensures ∙ c.if-is_next.false) (ap (λ (f : Settings). head_is (begins_exp f) (first c.args.tokens.now)) (sym c.fixities.ensures) ∙ (sym c.begins_exp.ensures ∙ c.if-not-begins_exp.false)) c.if-room-lt2.false) c.parts.ensures.gives
