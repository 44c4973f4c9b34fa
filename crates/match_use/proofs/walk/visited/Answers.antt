use Rattle.std.proofs.Common.{List, true, false, set, sym, ap, subst, ◌∙◌}
use Rattle.std.specs.List.{slice_get}
use Rattle.match_use.specs.declared.walk.TheConstants.{SPLITS}
use Rattle.match_use.specs.declared.row.Row.{Row}
use Rattle.match_use.specs.Lines.{lines_of}
use Rattle.match_use.specs.Progress.{pending, Visited, IsSplitting}
use Rattle.match_use.specs.Reduced.{IsReduced}
use Rattle.match_use.proofs.Visiting.{visited-reduced, visited-missed, visited-end, no_first_row, splitting, if_ok-map}
use Rattle.match_use.proofs.walk.visited.Goals as goal

pub returns-in-None : goal.returns-in-None
returns-in-None c =
    visited-reduced SPLITS (lines_of c.args.rows.items) (lines_of c.in_ok-rows.rows.items) (pending c.args.todo.now.items) (pending c.args.todo.now.items) c.args.tally.now.reached.items c.args.tally.now.reached.items
    c.args.tally.now.exhaustive false c.args.tally.now.splits c.args.tally.now.splits true c.in_ok-rows.ensures.same
    (visited-missed SPLITS (lines_of c.in_ok-rows.rows.items) (pending c.args.todo.now.items) c.args.tally.now.reached.items c.args.tally.now.exhaustive c.args.tally.now.splits
    (no_first_row c.in_ok-rows.rows.items (c.in-None.ensures.value ∙ ap (λ (x : List Row). slice_get x 0) c.deref.ensures.value)) c.requires.within)

pub returns-in-End : goal.returns-in-End
returns-in-End c =
    visited-reduced SPLITS (lines_of c.args.rows.items) (lines_of c.in_ok-rows.rows.items) (pending c.args.todo.now.items) (pending c.args.todo.now.items) c.args.tally.now.reached.items
    (set c.args.tally.now.reached.items c.in-Some.row.now.rule true) c.args.tally.now.exhaustive c.args.tally.now.exhaustive c.args.tally.now.splits c.args.tally.now.splits true c.in_ok-rows.ensures.same
    (visited-end SPLITS c.in_ok-rows.rows.items c.in-Some.row.now (pending c.args.todo.now.items) c.args.tally.now.reached.items c.args.tally.now.exhaustive c.args.tally.now.splits
    (c.in-Some.ensures.value ∙ ap (λ (x : List Row). slice_get x 0) c.deref.ensures.value) c.in-End.is c.requires.within)

pub split_up-requires-clause-splitting : goal.split_up-requires-clause-splitting
split_up-requires-clause-splitting c =
    subst (λ (x : List Row). IsSplitting (lines_of x)) (sym c.deref-in-More.ensures.value)
    (splitting c.in_ok-rows.rows.items c.in-Some.row.now c.in-More.field-0 c.in-More.field-1 (c.in-Some.ensures.value ∙ ap (λ (x : List Row). slice_get x 0) c.deref.ensures.value) c.in-More.is
    c.in_ok-rows.ensures.same.agrees c.in_ok-rows.ensures.ready)

pub returns : goal.returns
returns c =
    if_ok-map
    (λ go. Visited SPLITS (lines_of c.deref-in-More.result.now) (pending c.args.todo.now.items) (pending c.split_up.new.todo.items) c.args.tally.now.reached.items c.split_up.new.tally.reached.items
    c.args.tally.now.exhaustive c.split_up.new.tally.exhaustive c.args.tally.now.splits c.split_up.new.tally.splits go)
    (λ go. Visited SPLITS (lines_of c.args.rows.items) (pending c.args.todo.now.items) (pending c.split_up.new.todo.items) c.args.tally.now.reached.items c.split_up.new.tally.reached.items
    c.args.tally.now.exhaustive c.split_up.new.tally.exhaustive c.args.tally.now.splits c.split_up.new.tally.splits go)
    c.split_up.result
    (λ go v. visited-reduced SPLITS (lines_of c.args.rows.items) (lines_of c.deref-in-More.result.now) (pending c.args.todo.now.items) (pending c.split_up.new.todo.items) c.args.tally.now.reached.items
    c.split_up.new.tally.reached.items c.args.tally.now.exhaustive c.split_up.new.tally.exhaustive c.args.tally.now.splits c.split_up.new.tally.splits go
    (subst (λ (x : List Row). IsReduced (lines_of c.args.rows.items) (lines_of x)) (sym c.deref-in-More.ensures.value) c.in_ok-rows.ensures.same) v)
    c.split_up.ensures
