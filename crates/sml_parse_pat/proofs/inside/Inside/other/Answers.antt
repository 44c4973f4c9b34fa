use Rattle.std.proofs.Common.{sym, ◌∙◌}
use Rattle.sml_fix.specs.Fixities.{settings}
use Rattle.sml_parse_pat.proofs.Parts.{record_in}
use Rattle.sml_parse_pat.proofs.inside.Inside.other.Goals as goal

pub returns-then-is_next-2 : goal.returns-then-is_next-2
returns-then-is_next-2 g c =
    rw (record_in (settings c.args.self.now.fix.now) c.args.room c.args.tokens.now c.in_ok-place-3.rest.now c.in_ok-place-3.place (sym c.is_next.ensures ∙ c.if-is_next.false) (sym c.is_constant.ensures ∙ c.if-is_constant.false)
    (sym c.is_next-2.ensures ∙ c.if-is_next-2.true) c.in_ok-place-3.ensures) c.record.ensures
