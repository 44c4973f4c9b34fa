use Rattle.sml_fix.specs.Fixities.{settings}
use Rattle.sml_parse_bind.proofs.Heads.{plain_front}
use Rattle.sml_parse_bind.proofs.head.plain.Goals as goal

pub returns-in-Ok : goal.returns-in-Ok
returns-in-Ok c = rw (plain_front (settings c.args.fix.now) c.args.room c.args.tokens.now c.args.behind.now (c.in-Ok.found, c.in-Ok.rest.now) c.in-Ok.ensures) c.arguments.ensures
