use Rattle.std.proofs.Common.{sym, ◌∙◌}
use Rattle.sml_fix.specs.Fixities.{settings}
use Rattle.sml_parse_pat.proofs.Parts.{vid_in}
use Rattle.sml_parse_pat.proofs.inside.Inside.vid_field.Goals as goal

pub returns : goal.returns
returns g c =
    rw (vid_in (settings c.args.self.now.fix.now) c.args.room c.in_ok-names.names c.args.tokens.now c.in_ok-names.rest.now (sym c.is_next.ensures ∙ c.if-is_next.false) c.in_ok-names.ensures) c.tail.ensures
