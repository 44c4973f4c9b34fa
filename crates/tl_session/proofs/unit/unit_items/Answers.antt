use Rattle.std.proofs.Common.{sym, subst}
use Rattle.built_items.specs.declared.item.SourceItem.{SourceItem}
use Rattle.tl_session.specs.LawfulItems.{LawfulTarget}
use Rattle.tl_session.proofs.BuiltItems.{lawful_at}
use Rattle.tl_session.proofs.unit.unit_items.Goals as goal

pub item_of-requires : goal.item_of-requires
item_of-requires c =
    let P : SourceItem → Type 0 = λ item. LawfulTarget item.target in
    subst P (sym c.item-item.is) (lawful_at c.args.items.now c.loop-item.item-index c.item-item.result c.loop-item-test.true c.requires).0
