use Rattle.std.proofs.Common.{◌≡◌, ◌∷◌, [], List, true, length, sym, ap, subst, ◌∙◌, arith}
use Rattle.match_use.specs.declared.walk.TheConstants.{SPLITS}
use Rattle.match_use.specs.Lines.{Line, lines_of}
use Rattle.match_use.specs.Progress.{pending, EachGood, Progress, Visited}
use Rattle.match_use.proofs.Visiting.{pending-push, progress-start, pushed_all}
use Rattle.match_use.proofs.walk.walked.Goals as goal

pub loop-rows-init : goal.loop-rows-init
loop-rows-init c =
    let root = lines_of c.args.first.items in
    let is : pending c.push.new.self.items ≡ lines_of c.args.first.items ∷ [] =
    ap pending c.in_ok-push.ensures.items ∙ pending-push c.new-todo.result.items c.args.first ∙ ap (λ x. lines_of c.args.first.items ∷ pending x) c.new-todo.ensures.items in
    record {
      progress = subst (λ (x : List (List Line)). Progress root x c.in_ok-all_of.field-0.items true 0) (sym is) (progress-start c.args.rules root c.in_ok-all_of.field-0.items c.requires.agree c.requires.below c.in_ok-all_of.ensures);
      within = omega arith;
      rules = pushed_all c.args.rules c.in_ok-all_of.field-0.items c.in_ok-all_of.ensures;
    }

pub visited-requires-clause-agree : goal.visited-requires-clause-agree
visited-requires-clause-agree c =
    let next : pending c.loop-rows.todo.items ≡ lines_of c.in-Some.rows.items ∷ pending c.pop.new.self.items = ap pending c.in-Some.ensures.items ∙ pending-push c.pop.new.self.items c.in-Some.rows in
    (subst (λ (x : List (List Line)). EachGood (length c.loop-rows.tally.reached.items) (lines_of c.args.first.items) x) next c.loop-rows.invariant.progress.good).0.agrees

pub visited-requires-clause-below : goal.visited-requires-clause-below
visited-requires-clause-below c =
    let next : pending c.loop-rows.todo.items ≡ lines_of c.in-Some.rows.items ∷ pending c.pop.new.self.items = ap pending c.in-Some.ensures.items ∙ pending-push c.pop.new.self.items c.in-Some.rows in
    (subst (λ (x : List (List Line)). EachGood (length c.loop-rows.tally.reached.items) (lines_of c.args.first.items) x) next c.loop-rows.invariant.progress.good).0.below

pub loop-rows-preserved : goal.loop-rows-preserved
loop-rows-preserved c =
    let v : Visited SPLITS (lines_of c.in-Some.rows.items) (pending c.pop.new.self.items) (pending c.visited.new.todo.items) c.loop-rows.tally.reached.items c.visited.new.tally.reached.items
    c.loop-rows.tally.exhaustive c.visited.new.tally.exhaustive c.loop-rows.tally.splits c.visited.new.tally.splits c.in_ok-visited.field-0 = c.in_ok-visited.ensures in
    let next : pending c.loop-rows.todo.items ≡ lines_of c.in-Some.rows.items ∷ pending c.pop.new.self.items = ap pending c.in-Some.ensures.items ∙ pending-push c.pop.new.self.items c.in-Some.rows in
    record {
      progress = v.kept c.if-not-branch.false (lines_of c.args.first.items)
          (subst (λ (x : List (List Line)). Progress (lines_of c.args.first.items) x c.loop-rows.tally.reached.items c.loop-rows.tally.exhaustive c.loop-rows.tally.splits) next c.loop-rows.invariant.progress);
      within = v.within c.if-not-branch.false;
      rules = v.same ∙ c.loop-rows.invariant.rules;
    }

pub loop-rows-smaller : goal.loop-rows-smaller
loop-rows-smaller c =
    let v : Visited SPLITS (lines_of c.in-Some.rows.items) (pending c.pop.new.self.items) (pending c.visited.new.todo.items) c.loop-rows.tally.reached.items c.visited.new.tally.reached.items
    c.loop-rows.tally.exhaustive c.visited.new.tally.exhaustive c.loop-rows.tally.splits c.visited.new.tally.splits c.in_ok-visited.field-0 = c.in_ok-visited.ensures in
    let next : pending c.loop-rows.todo.items ≡ lines_of c.in-Some.rows.items ∷ pending c.pop.new.self.items = ap pending c.in-Some.ensures.items ∙ pending-push c.pop.new.self.items c.in-Some.rows in
    let fewer = v.fewer c.if-not-branch.false in
    let one = ap length next in
    omega (arith, fewer, one)

pub returns-then-not-branch : goal.returns-then-not-branch
returns-then-not-branch c =
    let v : Visited SPLITS (lines_of c.in-Some.rows.items) (pending c.pop.new.self.items) (pending c.visited.new.todo.items) c.loop-rows.tally.reached.items c.visited.new.tally.reached.items
    c.loop-rows.tally.exhaustive c.visited.new.tally.exhaustive c.loop-rows.tally.splits c.visited.new.tally.splits c.in_ok-visited.field-0 = c.in_ok-visited.ensures in
    let next : pending c.loop-rows.todo.items ≡ lines_of c.in-Some.rows.items ∷ pending c.pop.new.self.items = ap pending c.in-Some.ensures.items ∙ pending-push c.pop.new.self.items c.in-Some.rows in
    v.over c.if-not-branch.true (lines_of c.args.first.items)
    (subst (λ (x : List (List Line)). Progress (lines_of c.args.first.items) x c.loop-rows.tally.reached.items c.loop-rows.tally.exhaustive c.loop-rows.tally.splits) next c.loop-rows.invariant.progress)
