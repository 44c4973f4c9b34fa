use Rattle.std.proofs.Common.{sym, ◌∙◌, arith}
use Rattle.sml_parse_bind.proofs.Hands.{with_in}
use Rattle.sml_parse_bind.proofs.type_bind.withtype.Goals as goal

pub returns : goal.returns
returns c =
    rw (with_in c.args.room c.args.tokens.now c.in_ok-rest.rest.now (sym c.is_next.ensures ∙ c.if-not-is_next.false) (let le = c.if-room-lt1.false in omega arith) c.in_ok-rest.ensures) c.tybinds.ensures
