use Rattle.std.proofs.Common.{◌≡◌, List, ℕ, Some, None, cond, refl, sym, ap, ◌∙◌}
use Rattle.env_arena.specs.Spelling.{spelled_str}
use Rattle.env_arena.specs.declared.node.StrNode.{out-StrNode}
use Rattle.env_scope.specs.declared.tree.Binding.{Binding}
use Rattle.env_scope.specs.Index.{bound, val_of, tycon_of, str_of}
use Rattle.env_scope.proofs.Parts.{part_new, part_kept, str_word}
use Rattle.env_scope.proofs.add.add_str.Goals as goal

pub returns-clause-vals : goal.returns-clause-vals
returns-clause-vals c =
    let b : Binding = record { name = (out-StrNode c.args.str.now).name; val = c.known-old.result.val; tycon = c.known-old.result.tycon; str = Some c.args.str } in
    λ n. ap val_of (c.in_ok-more.ensures n) ∙ part_kept val_of c.args.tree (out-StrNode c.args.str.now).name.now n b c.known-old.ensures.val

pub returns-clause-tycons : goal.returns-clause-tycons
returns-clause-tycons c =
    let b : Binding = record { name = (out-StrNode c.args.str.now).name; val = c.known-old.result.val; tycon = c.known-old.result.tycon; str = Some c.args.str } in
    λ n. ap tycon_of (c.in_ok-more.ensures n) ∙ part_kept tycon_of c.args.tree (out-StrNode c.args.str.now).name.now n b c.known-old.ensures.tycon

pub returns-clause-strs : goal.returns-clause-strs
returns-clause-strs c =
    let b : Binding = record { name = (out-StrNode c.args.str.now).name; val = c.known-old.result.val; tycon = c.known-old.result.tycon; str = Some c.args.str } in
    λ n. ap str_of (c.in_ok-more.ensures n) ∙ part_new str_of (out-StrNode c.args.str.now).name.now n b (bound c.args.tree n) c.args.str.now refl ∙ str_word c.args.str.now n (str_of (bound c.args.tree n))
