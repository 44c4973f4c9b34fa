use Rattle.std.proofs.Common.{sym, ◌∙◌}
use Rattle.sml_fix.specs.Fixities.{settings}
use Rattle.sml_parse_pat.proofs.Parts.{items_in}
use Rattle.sml_parse_pat.proofs.inside.Inside.bracketed.Goals as goal

pub returns-then-is_next : goal.returns-then-is_next
returns-then-is_next g c =
    rw (items_in (settings c.args.self.now.fix.now) c.args.room c.args.tokens.now c.in_ok-place.rest.now c.in_ok-place.place (sym c.is_next.ensures ∙ c.if-is_next.true) c.in_ok-place.ensures) c.items.ensures
