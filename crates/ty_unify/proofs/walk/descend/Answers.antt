use Rattle.std.proofs.Common.{◌≡◌, ℕ, ◌<◌, List, [], ◌∷◌, ◌++◌, length, refl, sym, ap, ◌∙◌, subst, arith, length-append}
use Rattle.ty_unify.specs.declared.walk.Stage.{Stage}
use Rattle.ty_unify.specs.declared.walk.Stage.TheVariants.{New}
use Rattle.ty_unify.specs.Cells.{cell_at}
use Rattle.ty_unify.specs.Walking.{mark_at, new_left, part_in, Tracked}
use Rattle.ty_unify.proofs.Walks.{began, met_begun, met_kept, met_finished, marks_left, path_in, new_part, descended, led_back, gone_up, walk_at}
use Rattle.ty_unify.proofs.Marks.{tracked_finished}
use Rattle.ty_unify.proofs.walk.descend.Goals as goal

pub parts_at-requires-clause-node : goal.parts_at-requires-clause-node
parts_at-requires-clause-node c = path_in _ _ _ _ _ _ _ c.in-Some.ensures.items c.loop-node.invariant.walk

pub finish-requires-clause-node : goal.finish-requires-clause-node
finish-requires-clause-node c =
    let a : c.in-Some.node < length c.args.cells.now = path_in _ _ _ _ _ _ _ c.in-Some.ensures.items c.loop-node.invariant.walk in
    let b = c.loop-node.invariant.walk.same_length in omega arith

pub returns-in-Back : goal.returns-in-Back
returns-in-Back c = record {
  end = led_back _ _ _ _ _ _ _ c.requires.order c.in-Some.ensures.items c.loop-node.invariant.walk
      (ap (λ (l : List Stage). part_in l (cell_at c.args.cells.now c.in-Some.node).shape) (sym c.deref.ensures.value) ∙ sym c.in-Back.ensures);
  tracked = c.loop-node.invariant.tracked;
}

pub loop-node-init : goal.loop-node-init
loop-node-init c =
    let e = c.in_ok-begin.ensures in
    record {
      tracked = subst (λ (n : ℕ). Tracked n c.begin.new.marks.items c.begin.new.seen.items) c.requires.tracked.full e.tracked;
      walk = walk_at _ _ _ _ _ _ _ e.marks (e.path ∙ ap (λ (l : List ℕ). l ++ c.args.from ∷ []) c.new-path.ensures.items) (began _ _ _ c.args.from c.requires.walk c.requires.from c.requires.fresh);
      met = λ l. λ n. met_begun c.args.marks.now.items c.args.from c.requires.from (subst (λ (m : List Stage). mark_at m c.args.from ≡ New) e.marks n);
    }

pub loop-node-preserved-in-Continue-branch-3 : goal.loop-node-preserved-in-Continue-branch-3
loop-node-preserved-in-Continue-branch-3 c =
    let e = c.in_ok-begin-in-New.ensures in
    let p = ap (λ (l : List Stage). part_in l (cell_at c.args.cells.now c.in-Some.node).shape) (sym c.deref.ensures.value) ∙ sym c.in-New.ensures in
    let d = descended c.args.cells.now c.args.marks.now.items c.loop-node.marks.items c.loop-node.next c.in-Some.node c.in-New.part _ _ c.requires.order c.in-Some.ensures.items c.loop-node.invariant.walk p in
    record {
      tracked = subst (λ (n : ℕ). Tracked n c.begin-in-New.new.marks.items c.begin-in-New.new.seen.items) c.loop-node.invariant.tracked.full e.tracked;
      walk = walk_at _ _ _ _ _ _ _ e.marks (e.path ∙ ap (λ (l : List ℕ). l ++ c.in-New.part ∷ []) c.in_ok-push-in-New.ensures.items) d.1;
      met = λ l. λ n. met_kept c.loop-node.marks.items c.in-New.part c.args.from d.0 (c.loop-node.invariant.met l) (subst (λ (m : List Stage). mark_at m c.args.from ≡ New) e.marks n);
    }

pub loop-node-smaller-in-Continue-branch-3 : goal.loop-node-smaller-in-Continue-branch-3
loop-node-smaller-in-Continue-branch-3 c =
    let e = c.in_ok-begin-in-New.ensures in
    let p = ap (λ (l : List Stage). part_in l (cell_at c.args.cells.now c.in-Some.node).shape) (sym c.deref.ensures.value) ∙ sym c.in-New.ensures in
    let d = descended c.args.cells.now c.args.marks.now.items c.loop-node.marks.items c.loop-node.next c.in-Some.node c.in-New.part _ _ c.requires.order c.in-Some.ensures.items c.loop-node.invariant.walk p in
    let m = marks_left c.loop-node.marks.items c.in-New.part d.0 (new_part c.loop-node.marks.items (cell_at c.args.cells.now c.in-Some.node).shape c.in-New.part p) in
    let f = ap new_left e.marks in
    let g = ap (λ (l : List ℕ). length l) e.path in
    let h = ap (λ (l : List ℕ). length l) c.in_ok-push-in-New.ensures.items in
    let k = ap (λ (l : List ℕ). length l) c.in-Some.ensures.items in
    omega (arith, m, f, g, h, k, length-append {A = ℕ})

pub loop-node-preserved : goal.loop-node-preserved
loop-node-preserved c =
    let a : c.in-Some.node < length c.args.cells.now = path_in _ _ _ _ _ _ _ c.in-Some.ensures.items c.loop-node.invariant.walk in
    let b = c.loop-node.invariant.walk.same_length in
    let lt : c.in-Some.node < length c.loop-node.marks.items = omega arith in
    let p = ap (λ (l : List Stage). part_in l (cell_at c.args.cells.now c.in-Some.node).shape) (sym c.deref.ensures.value) ∙ sym c.in-Numbered.ensures in
    record {
      tracked = tracked_finished _ _ _ _ _ _ _ _ refl c.finish.ensures c.loop-node.invariant.tracked;
      walk = gone_up _ _ _ _ _ _ _ _ _ c.in-Some.ensures.items c.loop-node.invariant.walk p c.finish.ensures;
      met = λ l. met_finished _ _ _ _ _ _ _ c.finish.ensures lt (c.loop-node.invariant.met l);
    }
