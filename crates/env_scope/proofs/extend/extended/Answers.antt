use Rattle.std.proofs.Common.{◌≡◌, ℕ, List, ap, ◌∙◌}
use Rattle.std.specs.Option.{option_or}
use Rattle.sml_static.specs.Lookups.{last_named}
use Rattle.sml_static.specs.declared.env.Env.{out-Env}
use Rattle.env_arena.specs.declared.node.EnvNode.{out-EnvNode}
use Rattle.env_arena.specs.Spelling.{spelled, spelled_val, spelled_tycon, spelled_str}
use Rattle.env_scope.specs.Index.{bound, val_of, tycon_of, str_of}
use Rattle.env_scope.proofs.Forks.{agrees_over, own_vals, own_tycons, own_strs}
use Rattle.env_scope.proofs.Rows.{row_over}
use Rattle.env_scope.proofs.extend.extended.Goals as goal

pub returns-clause-index : goal.returns-clause-index
returns-clause-index c =
    let first = spelled c.args.scope.now.env.now in
    let then = spelled c.args.then.now in
    let own = out-EnvNode c.in_ok-env.env.now in
    let old = c.args.scope.now.index in
    let new = c.in_ok-index-3.index in
    agrees_over new first then (spelled c.in_ok-env.env.now) c.in_ok-env.ensures.over
    (λ n. row_over (λ v. v.0) spelled_val n own.vals.now (out-Env first).vals (out-Env then).vals (val_of (bound old n)) (val_of (bound new n))
    (own_vals c.in_ok-env.env.now then c.in_ok-env.ensures.own) (c.requires.vals n)
    (c.in_ok-index-3.ensures.vals n ∙ c.in_ok-index-2.ensures.vals n ∙ c.in_ok-index.ensures.vals n))
    (λ n. row_over (λ t. t.0) spelled_tycon n own.tycons.now (out-Env first).tycons (out-Env then).tycons (tycon_of (bound old n)) (tycon_of (bound new n))
    (own_tycons c.in_ok-env.env.now then c.in_ok-env.ensures.own) (c.requires.tycons n)
    (c.in_ok-index-3.ensures.tycons n ∙ c.in_ok-index-2.ensures.tycons n ∙ ap (option_or (last_named (λ t. t.name.now) n own.tycons.now)) (c.in_ok-index.ensures.tycons n)))
    (λ n. row_over (λ s. s.0) spelled_str n own.strs.now (out-Env first).strs (out-Env then).strs (str_of (bound old n)) (str_of (bound new n))
    (own_strs c.in_ok-env.env.now then c.in_ok-env.ensures.own) (c.requires.strs n)
    (c.in_ok-index-3.ensures.strs n ∙ ap (option_or (last_named (λ s. (spelled_str s).0) n own.strs.now)) (c.in_ok-index-2.ensures.strs n ∙ c.in_ok-index.ensures.strs n)))
