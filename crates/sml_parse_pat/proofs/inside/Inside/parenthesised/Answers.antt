use Rattle.std.proofs.Common.{sym, ◌∙◌}
use Rattle.sml_fix.specs.Fixities.{settings}
use Rattle.sml_parse_pat.proofs.Parts.{paren_in}
use Rattle.sml_parse_pat.proofs.inside.Inside.parenthesised.Goals as goal

pub returns : goal.returns
returns g c =
    rw (paren_in (settings c.args.self.now.fix.now) c.args.room c.args.tokens.now c.in_ok-place.rest.now c.in_ok-place.place (sym c.is_next.ensures ∙ c.if-not-is_next.false) c.in_ok-place.ensures) c.paren.ensures
