use Rattle.built_items.proofs.Bytes.{each_fits}
use Rattle.built_items.proofs.literals.bytes_fit.Goals as goal

pub returns : goal.returns
returns c = each_fits c.args.bytes.now c.type_inv.bytes
