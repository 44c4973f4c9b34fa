use Rattle.sml_fix.specs.Fixities.{settings}
use Rattle.sml_parse_bind.proofs.Hands.{datbind_is}
use Rattle.sml_parse_bind.proofs.datbind.datbind.Goals as goal

pub returns : goal.returns
returns c = rw (datbind_is (settings c.args.fix.now) c.args.room c.args.tokens.now) c.parts.ensures
