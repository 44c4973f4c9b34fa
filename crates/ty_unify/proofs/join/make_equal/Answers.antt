use Rattle.std.proofs.Common.{◌≡◌, ◌<◌, ◌^◌, ap, arith}
use Rattle.ty_unify.specs.declared.join.Task.TheVariants.{Equal}
use Rattle.ty_unify.proofs.Links.{one_rank}
use Rattle.ty_unify.proofs.Turns.{stepped_nothing, outcome_same, equal_same, equal_turned}
use Rattle.ty_unify.proofs.join.make_equal.Goals as goal

pub returns-then-comes_before-clause-step : goal.returns-then-comes_before-clause-step
returns-then-comes_before-clause-step c =
    let same = equal_same c.args.labels.now c.args.cells.now.items c.deref.result.now c.deref-2.result.now c.args.a c.args.b c.root-first.result c.root-second.result
    c.deref.ensures.value c.deref-2.ensures.value c.root-first.ensures.same c.root-second.ensures.same in
    outcome_same c.in_ok-went.went c.args.labels.now c.args.cells.now.items _ _ _ (Equal c.root-first.result c.root-second.result) (Equal c.args.a c.args.b) same c.in_ok-went.ensures.step

pub returns-then-comes_before-2-clause-step : goal.returns-then-comes_before-2-clause-step
returns-then-comes_before-2-clause-step c =
    let same = equal_same c.args.labels.now c.args.cells.now.items c.deref.result.now c.deref-2.result.now c.args.a c.args.b c.root-first.result c.root-second.result
    c.deref.ensures.value c.deref-2.ensures.value c.root-first.ensures.same c.root-second.ensures.same in
    let turned = equal_turned c.args.labels.now c.args.cells.now.items c.root-first.result c.root-second.result c.args.a c.args.b same in
    outcome_same c.in_ok-went-2.went c.args.labels.now c.args.cells.now.items _ _ _ (Equal c.root-second.result c.root-first.result) (Equal c.args.a c.args.b) turned c.in_ok-went-2.ensures.step

pub returns-clause-step : goal.returns-clause-step
returns-clause-step c =
    let r = c.requires in
    let same = equal_same c.args.labels.now c.args.cells.now.items c.deref.result.now c.deref-2.result.now c.args.a c.args.b c.root-first.result c.root-second.result
    c.deref.ensures.value c.deref-2.ensures.value c.root-first.ensures.same c.root-second.ensures.same in
    let small = c.args.cells.now.small in
    let vf = c.deref.ensures.len in
    let wf = c.root-first.ensures.within in
    let lf : c.root-first.result < 2 ^ 64 = omega arith in
    let vs = c.deref-2.ensures.len in
    let ws = c.root-second.ensures.within in
    let ls : c.root-second.result < 2 ^ 64 = omega arith in
    let e = one_rank c.root-first.result c.root-second.result lf ls c.if-comes_before.ensures c.if-comes_before-2.ensures in
    stepped_nothing c.args.labels.now c.args.cells.now.items c.args.work.now.items (Equal c.args.a c.args.b) r.order r.labelled r.tasks
    (λ A θ sh. (same A θ sh).0 (ap θ e))
