use Rattle.std.proofs.Common.{sym, ◌∙◌}
use Rattle.sml_fix.specs.Fixities.{settings}
use Rattle.sml_parse_pat.proofs.Parts.{parts_in}
use Rattle.sml_parse_pat.proofs.inside.Inside.paren.Goals as goal

pub returns : goal.returns
returns g c =
    rw (parts_in (settings c.args.self.now.fix.now) c.args.room c.args.place c.args.tokens.now (sym c.is_next.ensures ∙ c.if-is_next.false) (sym c.begins_at.ensures ∙ c.if-not-begins_at.false) c.if-room-lt2.false) c.parts.ensures
