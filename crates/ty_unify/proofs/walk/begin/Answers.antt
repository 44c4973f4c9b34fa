use Rattle.std.proofs.Common.{ℕ, List, length, sym, subst}
use Rattle.ty_unify.specs.declared.walk.Stage.TheVariants.{Busy}
use Rattle.ty_unify.specs.Walking.{Tracked}
use Rattle.std.specs.Prelude.{slice_set}
use Rattle.ty_unify.proofs.Marks.{tracked_begun}
use Rattle.ty_unify.proofs.walk.begin.Goals as goal

pub returns-clause-tracked : goal.returns-clause-tracked
returns-clause-tracked c =
    let marks = c.args.marks.now.items in
    subst (λ (l : List ℕ). Tracked (length marks) (slice_set marks c.args.node Busy) l) (sym c.in_ok-push-2.ensures.items) (tracked_begun (length marks) marks c.args.seen.now.items c.args.node Busy c.requires.tracked)
