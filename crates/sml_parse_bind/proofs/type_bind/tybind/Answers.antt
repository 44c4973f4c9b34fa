use Rattle.sml_parse_bind.proofs.Hands.{tybind_is}
use Rattle.sml_parse_bind.proofs.type_bind.tybind.Goals as goal

pub returns : goal.returns
returns c = rw (tybind_is c.args.room c.args.tokens.now) c.parts.ensures
