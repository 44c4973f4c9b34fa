use Rattle.std.proofs.Common.{◌∙◌}
use Rattle.ty_unify.specs.Steps.{Stepped}
use Rattle.ty_unify.proofs.Turns.{next_in, turned, clashed, outcome_true, outcome_false}
use Rattle.ty_unify.proofs.solve.solve.Goals as goal

pub step-requires-clause-nodes : goal.step-requires-clause-nodes
step-requires-clause-nodes c = (next_in _ _ _ _ _ _ _ _ c.in-Some.ensures.items c.loop-task.invariant.running).1

pub step-requires-clause-tasks : goal.step-requires-clause-tasks
step-requires-clause-tasks c = (next_in _ _ _ _ _ _ _ _ c.in-Some.ensures.items c.loop-task.invariant.running).0

pub returns-then-not-branch-clause-solved : goal.returns-then-not-branch-clause-solved
returns-then-not-branch-clause-solved c =
    clashed _ _ _ _ _ _ _ _ c.in-Some.ensures.items c.loop-task.invariant.running (outcome_false _ _ _ _ _ c.if-not-branch.true c.in_ok-step.ensures.step)

pub loop-task-preserved : goal.loop-task-preserved
loop-task-preserved c =
    let s = outcome_true _ _ _ _ (Stepped c.args.labels.now c.loop-task.cells.items c.step.new.cells.items c.pop.new.self.items c.step.new.work.items c.in-Some.task) c.if-not-branch.false c.in_ok-step.ensures.step in
    record {
      running = turned _ _ _ _ _ _ _ _ _ _ c.in-Some.ensures.items c.loop-task.invariant.running s;
      undone = c.in_ok-step.ensures.undone ∙ c.loop-task.invariant.undone;
    }
