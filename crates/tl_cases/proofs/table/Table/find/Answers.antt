use Rattle.std.proofs.Common.{rules, of_calls, ap, sym, ◌∙◌}
use Rattle.std.proofs.lemmas.Fn.{always_returns_same}
use Rattle.tl_cases.specs.Rows.{value_at}
use Rattle.tl_cases.proofs.Find.{order, present, in_gap, rises}
use Rattle.tl_cases.proofs.table.Table.find.Goals as goal

pub returns-in-Ok : goal.returns-in-Ok
returns-in-Ok g c =
    let at = c.in-Ok.ensures.position (λ row. order row.key.now c.args.key.now) (always_returns_same _ _ _ (λ a r f' called. search (rules, of_calls))) in
    sym (ap (value_at c.args.key.now) (sym c.self.view_is) ∙ present c.self.inside.rows.now c.args.key.now c.self.invariant.1 c.in-Ok.i _ c.in-Ok.ensures.bound (at _))

pub returns-in-Err : goal.returns-in-Err
returns-in-Err g c =
    let gap = c.in-Err.ensures.position (λ row. order row.key.now c.args.key.now) (always_returns_same _ _ _ (λ a r f' called. search (rules, of_calls))) in
    sym (ap (value_at c.args.key.now) (sym c.self.view_is) ∙ in_gap c.self.inside.rows.now c.args.key.now _ (gap (rises c.self.inside.rows.now c.args.key.now c.self.invariant.1)))
