-- A node with nothing under it, whose own rows are those of an environment.
use Rattle.std.proofs.Common.{◌≡◌, List, map, Option, Some, None, sym, ap, ◌∙◌, Bor}
use Rattle.sml_static.specs.declared.env.Env.{Env, out-Env, roll-Env, roll-out-Env}
use Rattle.env_arena.specs.declared.node.ValNode.{ValNode}
use Rattle.env_arena.specs.declared.node.TyNode.{TyNode}
use Rattle.env_arena.specs.declared.node.StrNode.{StrNode}
use Rattle.env_arena.specs.declared.node.EnvNode.{EnvNode, out-EnvNode, roll-EnvNode, out-roll-EnvNode}
use Rattle.env_arena.specs.declared.node.EnvNode.TheOpen.{EnvNode-F}
use Rattle.env_arena.specs.Over.{env_over}
use Rattle.env_arena.specs.Spelling.{spelled, spelled_val, spelled_tycon, spelled_str, own_rows}
use Rattle.env_arena.proofs.Levels.{own_env, over_level, spelled-level}

pub own_made : (under : Option (Bor EnvNode)) (vals : Bor (List ValNode)) (tycons : Bor (List TyNode)) (strs : Bor (List StrNode)) (e : Env) → map spelled_val vals.now ≡ (out-Env e).vals → map spelled_tycon tycons.now ≡ (out-Env e).tycons → map spelled_str strs.now ≡ (out-Env e).strs → own_rows (roll-EnvNode (record { under = under; vals = vals; tycons = tycons; strs = strs })) ≡ e
own_made under vals tycons strs e is_vals is_tycons is_strs =
    ap own_env (out-roll-EnvNode (record { under = under; vals = vals; tycons = tycons; strs = strs }))
    ∙ ap (λ vs. roll-Env (record { vals = vs; tycons = map spelled_tycon tycons.now; strs = map spelled_str strs.now })) is_vals
    ∙ ap (λ ts. roll-Env (record { vals = (out-Env e).vals; tycons = ts; strs = map spelled_str strs.now })) is_tycons
    ∙ ap (λ ss. roll-Env (record { vals = (out-Env e).vals; tycons = (out-Env e).tycons; strs = ss })) is_strs
    ∙ roll-out-Env e

-- the rows stay where another node is put under them
pub own_moved : (n : EnvNode) (under : Option (Bor EnvNode)) → own_rows (roll-EnvNode (record { under = under; vals = (out-EnvNode n).vals; tycons = (out-EnvNode n).tycons; strs = (out-EnvNode n).strs })) ≡ own_rows n
own_moved n under = ap own_env (out-roll-EnvNode (record { under = under; vals = (out-EnvNode n).vals; tycons = (out-EnvNode n).tycons; strs = (out-EnvNode n).strs }))

pub under_made : (u : Bor EnvNode) (vals : Bor (List ValNode)) (tycons : Bor (List TyNode)) (strs : Bor (List StrNode)) → (out-EnvNode (roll-EnvNode (record { under = Some u; vals = vals; tycons = tycons; strs = strs }))).under ≡ Some u
under_made u vals tycons strs = ap (λ (d : EnvNode-F EnvNode StrNode). d.under) (out-roll-EnvNode (record { under = Some u; vals = vals; tycons = tycons; strs = strs }))

-- a node over another stands for its own rows over what that stands for
pub spelled_over : (n : EnvNode) (u : Bor EnvNode) → (out-EnvNode n).under ≡ Some u → spelled n ≡ env_over (spelled u.now) (own_rows n)
spelled_over n u q = spelled-level n ∙ ap (λ o. over_level o (own_rows n)) q

-- and a node with nothing under it for its own rows
pub spelled_alone : (n : EnvNode) → (out-EnvNode n).under ≡ None → own_rows n ≡ spelled n
spelled_alone n q = sym (spelled-level n ∙ ap (λ o. over_level o (own_rows n)) q)
