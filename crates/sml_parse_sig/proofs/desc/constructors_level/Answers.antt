use Rattle.sml_parse_sig.proofs.Hands.{described_are}
use Rattle.sml_parse_sig.proofs.desc.constructors_level.Goals as goal

pub returns : goal.returns
returns c = rw (described_are c.args.room c.args.tokens.now) c.constructors_parts.ensures
