use Rattle.std.proofs.Common.{◌<◌, ◌≤◌, ℕ, get_or, sym, ◌∙◌, subst, arith, below_more}
use Rattle.std.specs.BTreeSet.{BTreeSet, btree_set_len}
use Rattle.sml_static.specs.declared.mid.MidData.{MidData}
use Rattle.eq_types.specs.Rows.{Holds, Fits}
use Rattle.eq_types.proofs.Rows.{struck_out, fits_at, strike_end, one_less, first_true}
use Rattle.eq_types.proofs.row.strike.Goals as goal
use Rattle.eq_types.proofs.row.strike.Goals.{then-is_unfit, else-is_unfit}

pub loop-data-preserved : goal.loop-data-preserved
loop-data-preserved c =
    let binds = c.args.binds.now in
    let i = c.loop-data.invariant in
    let at = c.loop-data.data-index in
    let x = c.data-item.result in
    elim c.if-is_unfit.branch [
      | then-is_unfit w ↦
          (let here = sym c.is_unfit.ensures ∙ w.if-is_unfit.true in
          let less : btree_set_len w.remove.new.self < btree_set_len c.loop-data.set = one_less w.remove.result (btree_set_len c.loop-data.set) (btree_set_len w.remove.new.self) (w.remove.ensures.test ∙ first_true _ _ here) w.remove.ensures.len in
          let most = i.no_larger in
          record {
            holds = subst (λ (s : BTreeSet ℕ). Holds binds s) (sym w.set-is) (struck_out binds c.loop-data.set w.remove.new.self at x i.holds c.loop-data-test.true c.data-item.is here w.remove.ensures.updates);
            smaller = λ e. subst (λ (s : BTreeSet ℕ). btree_set_len s < btree_set_len c.args.set.now) (sym w.set-is) (omega arith);
            no_larger = subst (λ (s : BTreeSet ℕ). btree_set_len s ≤ btree_set_len c.args.set.now) (sym w.set-is) (omega arith);
            fit = λ e. absurd (let f = w.struck-is in cc);
          })
      | else-is_unfit w ↦
          (let here = sym c.is_unfit.ensures ∙ w.if-is_unfit.false in
          record {
            holds = subst (λ (s : BTreeSet ℕ). Holds binds s) (sym w.set-is) i.holds;
            smaller = λ e. subst (λ (s : BTreeSet ℕ). btree_set_len s < btree_set_len c.args.set.now) (sym w.set-is) (i.smaller (sym w.struck-is ∙ e));
            no_larger = subst (λ (s : BTreeSet ℕ). btree_set_len s ≤ btree_set_len c.args.set.now) (sym w.set-is) i.no_larger;
            fit = λ e k d lt. subst (λ (s : BTreeSet ℕ). Fits s (get_or binds k d)) (sym w.set-is)
                (below_more (λ (j : ℕ). (y : MidData) → Fits c.loop-data.set (get_or binds j y)) at (λ j l y. i.fit (sym w.struck-is ∙ e) j y l) (λ y. fits_at binds c.loop-data.set at x y c.loop-data-test.true c.data-item.is here) k lt d);
          })
    ]

pub returns-clause-end : goal.returns-clause-end
returns-clause-end c =
    let i = c.loop-data.invariant in
    let over = c.loop-data-test.false in
    strike_end c.loop-data.struck c.args.binds.now c.args.set.now c.loop-data.set i.smaller (λ e k d lt. i.fit e k d (omega arith))
