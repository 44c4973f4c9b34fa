use Rattle.std.proofs.Common.{◌≤◌, ◌<◌, length, arith}
use Rattle.ty_unify.proofs.Marks.{tracked_cleared, tracked_past}
use Rattle.ty_unify.proofs.walk.clear.Goals as goal

pub loop-node-preserved-then-node-len : goal.loop-node-preserved-then-node-len
loop-node-preserved-then-node-len c =
    let k = c.loop-node.marks.ok.0 in
    let lt : c.in-Some.node < length c.loop-node.marks.items = omega arith in
    tracked_cleared _ c.loop-node.marks.items c.loop-node.seen.items c.pop.new.self.items c.in-Some.node c.in-Some.ensures.items lt c.loop-node.invariant

pub loop-node-preserved : goal.loop-node-preserved
loop-node-preserved c =
    let k = c.loop-node.marks.ok.0 in
    let le : length c.loop-node.marks.items ≤ c.in-Some.node = omega arith in
    tracked_past _ c.loop-node.marks.items c.loop-node.seen.items c.pop.new.self.items c.in-Some.node c.in-Some.ensures.items le c.loop-node.invariant
