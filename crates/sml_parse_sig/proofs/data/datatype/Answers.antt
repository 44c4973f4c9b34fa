use Rattle.std.proofs.Common.{sym, ◌∙◌, arith}
use Rattle.sml_parse_sig.proofs.Hands.{data_named, data_under}
use Rattle.sml_parse_sig.proofs.data.datatype.Goals as goal

pub returns-then-is_tycon : goal.returns-then-is_tycon
returns-then-is_tycon c =
    rw (data_named c.args.room c.args.place c.in_ok-name.name c.args.tokens.now c.in_ok-name.rest.now c.in_ok-rest.rest.now (sym c.is_tycon.ensures ∙ c.if-is_tycon.true) c.in_ok-name.ensures c.in_ok-rest.ensures) c.right.ensures

pub returns : goal.returns
returns c =
    rw (data_under c.args.room c.args.place c.args.tokens.now (sym c.is_tycon.ensures ∙ c.if-is_tycon.false) (sym c.begins_vars.ensures ∙ c.if-not-begins_vars.false) (let le = c.if-room-lt1.false in omega arith)) c.under.ensures
