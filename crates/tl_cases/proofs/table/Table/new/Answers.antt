use Rattle.std.proofs.Common.{rules, of_calls, ◌≡◌, true, cond, Some, None, ap, sym}
use Rattle.std.proofs.lemmas.Fn.{always_returns_same}
use Rattle.tl_cases.specs.Rows.{pairs_of, is_increasing}
use Rattle.tl_cases.proofs.Increasing.{before, rise, fall}
use Rattle.tl_cases.proofs.table.Table.new.Goals as goal

increasing : (g : _) (c : goal.Then-is_sorted_by g) → is_increasing (pairs_of c.args.rows.now) ≡ true
increasing g c =
    let all = c.if-is_sorted_by.ensures.cases before (always_returns_same _ _ _ (λ a r f' called. search (rules, of_calls))) in
    rise c.args.rows.now (λ k d lt. sym (all k d lt))

pub invariant_of-result : goal.invariant_of-result
invariant_of-result g c = (c.requires, increasing g c)

pub returns-then-is_sorted_by : goal.returns-then-is_sorted_by
returns-then-is_sorted_by g c = ap (λ b. cond b (Some (pairs_of c.args.rows.now)) None) (sym (increasing g c))

pub returns-else-is_sorted_by : goal.returns-else-is_sorted_by
returns-else-is_sorted_by g c =
    let some = c.if-is_sorted_by.ensures.cases before (always_returns_same _ _ _ (λ a r f' called. search (rules, of_calls))) in
    ap (λ b. cond b (Some (pairs_of c.args.rows.now)) None) (sym (fall c.args.rows.now some.0 some.1 (λ d. sym (some.2 d))))
