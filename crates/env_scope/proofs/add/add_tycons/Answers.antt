use Rattle.std.proofs.Common.{◌<◌, length, ◌∙◌, arith}
use Rattle.env_arena.specs.Spelling.{spelled_str}
use Rattle.env_scope.specs.Index.{bound, val_of, tycon_of, str_of}
use Rattle.env_scope.proofs.Rows.{get_or_same, row_more}
use Rattle.env_scope.proofs.add.add_tycons.Goals as goal

pub loop-tycon-preserved : goal.loop-tycon-preserved
loop-tycon-preserved c =
    let xs = c.args.tycons.now in
    let i = c.loop-tycon.tycon-index in
    let lt : c.loop-tycon.tycon-index < length c.args.tycons.now = omega arith in
    record {
      vals = λ n. c.in_ok-tree.ensures.vals n ∙ c.loop-tycon.invariant.vals n;
      tycons = λ n. row_more (λ t. t.name.now) n xs i _ (tycon_of (bound c.loop-tycon.tree n)) (tycon_of (bound c.in_ok-tree.tree n)) lt (get_or_same xs i _ _ lt) (c.in_ok-tree.ensures.tycons n) ∙ c.loop-tycon.invariant.tycons n;
      strs = λ n. c.in_ok-tree.ensures.strs n ∙ c.loop-tycon.invariant.strs n;
    }
