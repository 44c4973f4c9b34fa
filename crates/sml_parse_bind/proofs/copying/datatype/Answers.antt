use Rattle.std.proofs.Common.{sym, ◌∙◌}
use Rattle.sml_fix.specs.Fixities.{settings}
use Rattle.sml_parse_bind.proofs.Hands.{data_under}
use Rattle.sml_parse_bind.proofs.copying.datatype.Goals as goal

pub returns : goal.returns
returns c =
    rw (data_under (settings c.args.fix.now) c.args.room c.args.place c.args.tokens.now (sym c.is_tycon.ensures ∙ c.if-is_tycon.false) (sym c.begins_vars.ensures ∙ c.if-not-begins_vars.false) c.if-room-lt1.false) c.under.ensures
