use Rattle.ty_unify.specs.declared.cell.Sort.TheVariants as sort
use Rattle.ty_unify.specs.Trees.{Field}
use Rattle.ty_unify.proofs.Building.{made_labelled}
use Rattle.ty_unify.proofs.store.Store.add_field.Goals as goal

pub returns : goal.returns
returns c =
    made_labelled c.args.self.now c.add_label.new.self c.add_pair.new.self c.in_ok-at.at c.in_ok-node.node c.args.ty c.args.rest c.args.label.now sort.Fields Field c.in_ok-at.ensures c.in_ok-node.ensures
