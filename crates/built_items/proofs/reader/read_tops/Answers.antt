use Rattle.std.proofs.Common.{◌∙◌}
use Rattle.built_items.proofs.Rows.{after_item, after_directive}
use Rattle.built_items.proofs.reader.read_tops.Goals as goal
use Rattle.built_items.proofs.reader.read_tops.Goals.{in-Item+in_ok-push-in-Item, in-Directive}

pub loop-top-preserved : goal.loop-top-preserved
loop-top-preserved c =
    elim c.match-branch-2.branch [
      | in-Item+in_ok-push-in-Item w ↦ after_item c.loop-top.items c.args.tops.now c.loop-top.top-index c.top-item.result c.in_ok-item.field-0 _ c.loop-top-test.true c.top-item.is c.in_ok-item.ensures c.loop-top.invariant w.in-Item.item c.match-branch-2.items w.in-Item.is (w.items-is ∙ w.in_ok-push-in-Item.ensures.ok)
      | in-Directive w ↦ after_directive c.loop-top.items c.args.tops.now c.loop-top.top-index c.top-item.result c.in_ok-item.field-0 _ c.loop-top-test.true c.top-item.is c.in_ok-item.ensures c.loop-top.invariant c.match-branch-2.items w.in-Directive.is w.items-is
    ]
