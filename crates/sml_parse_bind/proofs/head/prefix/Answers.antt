use Rattle.sml_fix.specs.Fixities.{settings}
use Rattle.sml_parse_bind.proofs.Heads.{prefix_named}
use Rattle.sml_parse_bind.proofs.head.prefix.Goals as goal

pub returns : goal.returns
returns c = rw (prefix_named (settings c.args.fix.now) c.args.room c.in_ok-name.name c.args.tokens.now c.in_ok-name.rest.now c.in_ok-name.ensures) c.named.ensures
