use Rattle.std.proofs.Common.{ℕ, ◌<◌, [], length, Bool, subst, arith, below_more}
use Rattle.ty_unify.specs.Walking.{WalkEnds, IsDone, mark_at, node_at}
use Rattle.ty_unify.proofs.Walks.{walk_none, walk_on}
use Rattle.ty_unify.proofs.walk.walk_all.Goals as goal

pub loop-entry-init : goal.loop-entry-init
loop-entry-init c = record {
  tracked = c.requires.tracked;
  walk = walk_none c.args.cells.now c.args.marks.now.items c.requires.tracked.full c.requires.rested.fresh;
  done = λ k l. absurd (omega arith);
}

pub loop-entry-preserved : goal.loop-entry-preserved
loop-entry-preserved c =
    let i = c.loop-entry.invariant in
    let cells = c.args.cells.now in
    let log = c.args.log.now in
    let new = c.walk.new.marks.items in
    let e = subst (λ (b : Bool). WalkEnds b cells c.loop-entry.marks.items new c.walk.new.next (node_at log c.loop-entry.entry-index)) c.if-not-branch.false c.in_ok-walk.ensures.end in
    record {
      tracked = c.in_ok-walk.ensures.tracked;
      walk = walk_on cells c.loop-entry.marks.items new c.walk.new.next [] e.0;
      done = below_more (λ (k : ℕ). node_at log k < length cells → IsDone (mark_at new (node_at log k))) c.loop-entry.entry-index (λ k l h. let d = i.done k l h in (d.0, e.0.kept (node_at log k) d.0 d.1)) e.1;
    }
