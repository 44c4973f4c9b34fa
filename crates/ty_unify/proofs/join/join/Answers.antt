use Rattle.std.proofs.Common.{◌<◌, length, ap, ◌∙◌, arith}
use Rattle.ty_unify.specs.declared.cell.Cell.{Cell}
use Rattle.ty_unify.proofs.Sets.{read_is}
use Rattle.ty_unify.proofs.Joined.{join_open_high, join_open_low, join_same, stepped_at}
use Rattle.ty_unify.proofs.join.join.Goals as goal

pub returns-in-Open-clause-step : goal.returns-in-Open-clause-step
returns-in-Open-clause-step c =
    let r = c.requires in
    let at = read_is c.args.cells.now.items c.args.high c.index-second.result.now r.high c.index-second.ensures in
    stepped_at _ _ _ _ _ _ _ _ c.in_ok-link.ensures.cells c.in_ok-link.ensures.work
    (join_open_high c.args.labels.now c.args.cells.now.items c.args.work.now.items c.args.low c.args.high r.order r.labelled r.low r.high r.sorts r.tasks (ap (λ (x : Cell). x.shape) at ∙ c.in-Open.is))

pub returns-in-Open-shape : goal.returns-in-Open-shape
returns-in-Open-shape c =
    let r = c.requires in
    let lt = r.low.1 in
    let at = read_is c.args.cells.now.items c.args.low c.index-first.result.now lt c.index-first.ensures in
    record {
      step = stepped_at _ _ _ _ _ _ _ _ c.in_ok-take_over.ensures.cells c.in_ok-take_over.ensures.work
          (join_open_low c.args.labels.now c.args.cells.now.items c.args.work.now.items c.args.low c.args.high r.order r.labelled r.low r.high r.sorts r.roots.1 r.tasks (ap (λ (x : Cell). x.shape) at ∙ c.in-Open-shape.is));
      undone = c.in_ok-take_over.ensures.undone;
    }

pub returns : goal.returns
returns c =
    let r = c.requires in
    let lt = r.low.1 in
    let at_low = read_is c.args.cells.now.items c.args.low c.index-first.result.now lt c.index-first.ensures in
    let at_high = read_is c.args.cells.now.items c.args.high c.index-second.result.now r.high c.index-second.ensures in
    record {
      step = join_same _ c.args.labels.now c.args.cells.now.items _ c.args.work.now.items _ _ c.args.low c.args.high _ _ r.order r.labelled r.low r.high r.sorts r.roots.1 r.tasks
          at_low at_high c.if-not-branch.false c.in_ok-heads.ensures c.in_ok-link-2.ensures.cells c.in_ok-link-2.ensures.work;
      undone = c.in_ok-link-2.ensures.undone;
    }
