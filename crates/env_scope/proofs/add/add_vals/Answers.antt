use Rattle.std.proofs.Common.{◌<◌, length, ◌∙◌, arith}
use Rattle.env_arena.specs.Spelling.{spelled_str}
use Rattle.env_scope.specs.Index.{bound, val_of, tycon_of, str_of}
use Rattle.env_scope.proofs.Rows.{get_or_same, row_more}
use Rattle.env_scope.proofs.add.add_vals.Goals as goal

pub loop-val-preserved : goal.loop-val-preserved
loop-val-preserved c =
    let xs = c.args.vals.now in
    let i = c.loop-val.val-index in
    let lt : c.loop-val.val-index < length c.args.vals.now = omega arith in
    record {
      vals = λ n. row_more (λ v. v.name.now) n xs i _ (val_of (bound c.loop-val.tree n)) (val_of (bound c.in_ok-tree.tree n)) lt (get_or_same xs i _ _ lt) (c.in_ok-tree.ensures.vals n) ∙ c.loop-val.invariant.vals n;
      tycons = λ n. c.in_ok-tree.ensures.tycons n ∙ c.loop-val.invariant.tycons n;
      strs = λ n. c.in_ok-tree.ensures.strs n ∙ c.loop-val.invariant.strs n;
    }
