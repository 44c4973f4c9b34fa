use Rattle.std.proofs.Common.{◌<◌, length, ◌∙◌, arith}
use Rattle.env_arena.specs.Spelling.{spelled_str}
use Rattle.env_scope.specs.Index.{bound, val_of, tycon_of, str_of}
use Rattle.env_scope.proofs.Rows.{get_or_same, row_more}
use Rattle.env_scope.proofs.add.add_strs.Goals as goal

pub loop-str-preserved : goal.loop-str-preserved
loop-str-preserved c =
    let xs = c.args.strs.now in
    let i = c.loop-str.str-index in
    let lt : c.loop-str.str-index < length c.args.strs.now = omega arith in
    record {
      vals = λ n. c.in_ok-tree.ensures.vals n ∙ c.loop-str.invariant.vals n;
      tycons = λ n. c.in_ok-tree.ensures.tycons n ∙ c.loop-str.invariant.tycons n;
      strs = λ n. row_more (λ s. (spelled_str s).0) n xs i c.str-item.result (str_of (bound c.loop-str.tree n)) (str_of (bound c.in_ok-tree.tree n)) lt (c.str-item.is) (c.in_ok-tree.ensures.strs n) ∙ c.loop-str.invariant.strs n;
    }
