use Rattle.std.proofs.Common.{◌≡◌, List, ℕ, Some, None, cond, refl, sym, ap, ◌∙◌}
use Rattle.env_arena.specs.Spelling.{spelled_str}
use Rattle.env_arena.specs.declared.node.StrNode.{out-StrNode}
use Rattle.env_scope.specs.declared.tree.Binding.{Binding}
use Rattle.env_scope.specs.Index.{bound, val_of, tycon_of, str_of}
use Rattle.env_scope.proofs.Parts.{part_new, part_kept, str_word}
use Rattle.env_scope.proofs.add.add_val.Goals as goal

pub returns-clause-vals : goal.returns-clause-vals
returns-clause-vals c =
    let b : Binding = record { name = c.args.val.now.name; val = Some c.args.val; tycon = c.known-old.result.tycon; str = c.known-old.result.str } in
    λ n. ap val_of (c.in_ok-more.ensures n) ∙ part_new val_of c.args.val.now.name.now n b (bound c.args.tree n) c.args.val.now refl

pub returns-clause-tycons : goal.returns-clause-tycons
returns-clause-tycons c =
    let b : Binding = record { name = c.args.val.now.name; val = Some c.args.val; tycon = c.known-old.result.tycon; str = c.known-old.result.str } in
    λ n. ap tycon_of (c.in_ok-more.ensures n) ∙ part_kept tycon_of c.args.tree c.args.val.now.name.now n b c.known-old.ensures.tycon

pub returns-clause-strs : goal.returns-clause-strs
returns-clause-strs c =
    let b : Binding = record { name = c.args.val.now.name; val = Some c.args.val; tycon = c.known-old.result.tycon; str = c.known-old.result.str } in
    λ n. ap str_of (c.in_ok-more.ensures n) ∙ part_kept str_of c.args.tree c.args.val.now.name.now n b c.known-old.ensures.str
