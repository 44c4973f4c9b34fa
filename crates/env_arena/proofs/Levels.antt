-- What a node spells, from the node under it and its own rows.
use Rattle.std.proofs.Common.{◌≡◌, ℕ, List, map, Option, Some, None, refl, sym, ap, ◌∙◌, Bor}
use Rattle.std.specs.Option.{option_map, option_or}
use Rattle.sml_static.specs.declared.ty.TyFun.{TyFun}
use Rattle.sml_static.specs.declared.ty.Scheme.{Scheme}
use Rattle.sml_static.specs.declared.env.Status.{Status}
use Rattle.sml_static.specs.declared.env.Env.{Env, out-Env, roll-Env, out-roll-Env}
use Rattle.env_arena.specs.declared.node.ValNode.{ValNode}
use Rattle.env_arena.specs.declared.node.TyNode.{TyNode}
use Rattle.env_arena.specs.declared.node.StrNode.{StrNode, out-StrNode, fold_out-StrNode}
use Rattle.env_arena.specs.declared.node.EnvNode.{EnvNode, out-EnvNode, fold_out-EnvNode}
use Rattle.env_arena.specs.declared.node.EnvNode.TheFolds.{map-EnvNode}
use Rattle.env_arena.specs.declared.node.EnvNode.TheOpen.{EnvNode-F}
use Rattle.sml_static.specs.Lookups.{last_named}
use Rattle.env_arena.specs.Over.{over, env_over}
use Rattle.env_arena.proofs.Rows.{option_or-none, last_named-over, last_named-map}
use Rattle.env_arena.specs.Spelling.{spelled, spelled_val, spelled_tycon, spelled_str, env_step, str_step}

abbrev pub own_env : EnvNode-F EnvNode StrNode → Env
own_env d = roll-Env (record { vals = map spelled_val d.vals.now; tycons = map spelled_tycon d.tycons.now; strs = map spelled_str d.strs.now })

abbrev pub over_level : Option (Bor EnvNode) → Env → Env
over_level None own = own
over_level (Some u) own = env_over (spelled u.now) own

step-level : (under : Option (Bor EnvNode)) (vals : Bor (List ValNode)) (tycons : Bor (List TyNode)) (strs : Bor (List StrNode)) → env_step (map-EnvNode EnvNode StrNode _ _ spelled spelled_str (record { under = under; vals = vals; tycons = tycons; strs = strs })) ≡ over_level under (own_env (record { under = under; vals = vals; tycons = tycons; strs = strs }))
step-level None vals tycons strs = refl
step-level (Some u) vals tycons strs = refl

pub spelled-level : (e : EnvNode) → spelled e ≡ over_level (out-EnvNode e).under (own_env (out-EnvNode e))
spelled-level e =
    let d = out-EnvNode e in
    fold_out-EnvNode Env (List ℕ × Env) env_step str_step e ∙ step-level d.under d.vals d.tycons d.strs

pub spelled_str_out : (s : StrNode) → spelled_str s ≡ ((out-StrNode s).name.now, spelled (out-StrNode s).env.now)
spelled_str_out s = fold_out-StrNode Env (List ℕ × Env) env_step str_step s

-- what a row and those below it have under a name
row_level : {A B : Type 0} (name_of : B → List ℕ) (f : A → B) (name : List ℕ) (own : List A) (below : List B) → last_named name_of name (over name_of below (map f own)) ≡ option_or (option_map f (last_named (λ x. name_of (f x)) name own)) (last_named name_of name below)
row_level name_of f name own below =
    last_named-over name_of name below (map f own) ∙ ap (λ o. option_or o (last_named name_of name below)) (last_named-map name_of f name own)

lone_row : {A B : Type 0} (name_of : B → List ℕ) (f : A → B) (name : List ℕ) (own : List A) → last_named name_of name (map f own) ≡ option_or (option_map f (last_named (λ x. name_of (f x)) name own)) None
lone_row name_of f name own = last_named-map name_of f name own ∙ sym (option_or-none (option_map f (last_named (λ x. name_of (f x)) name own)))

-- what an environment binds to a name, class by class
abbrev pub val_in : List ℕ → Env → Option (List ℕ × Status × Scheme)
val_in name e = last_named (λ v. v.0) name (out-Env e).vals

abbrev pub tycon_in : List ℕ → Env → Option (List ℕ × TyFun × List (List ℕ × Scheme))
tycon_in name e = last_named (λ t. t.0) name (out-Env e).tycons

abbrev pub str_in : List ℕ → Env → Option (List ℕ × Env)
str_in name e = last_named (λ s. s.0) name (out-Env e).strs

-- what the node under another has
abbrev pub below : {A : Type 0} → (Env → Option A) → Option (Bor EnvNode) → Option A
below find None = None
below find (Some u) = find (spelled u.now)

val_at_level : (under : Option (Bor EnvNode)) (d : EnvNode-F EnvNode StrNode) (name : List ℕ) → val_in name (over_level under (own_env d)) ≡ option_or (option_map spelled_val (last_named (λ v. v.name.now) name d.vals.now)) (below (val_in name) under)
val_at_level None d name = simp out-roll-Env (lone_row (λ v. v.0) spelled_val name d.vals.now)
val_at_level (Some u) d name = simp out-roll-Env (row_level (λ v. v.0) spelled_val name d.vals.now (out-Env (spelled u.now)).vals)

tycon_at_level : (under : Option (Bor EnvNode)) (d : EnvNode-F EnvNode StrNode) (name : List ℕ) → tycon_in name (over_level under (own_env d)) ≡ option_or (option_map spelled_tycon (last_named (λ t. t.name.now) name d.tycons.now)) (below (tycon_in name) under)
tycon_at_level None d name = simp out-roll-Env (lone_row (λ t. t.0) spelled_tycon name d.tycons.now)
tycon_at_level (Some u) d name = simp out-roll-Env (row_level (λ t. t.0) spelled_tycon name d.tycons.now (out-Env (spelled u.now)).tycons)

str_at_level : (under : Option (Bor EnvNode)) (d : EnvNode-F EnvNode StrNode) (name : List ℕ) → str_in name (over_level under (own_env d)) ≡ option_or (option_map spelled_str (last_named (λ s. (spelled_str s).0) name d.strs.now)) (below (str_in name) under)
str_at_level None d name = simp out-roll-Env (lone_row (λ s. s.0) spelled_str name d.strs.now)
str_at_level (Some u) d name = simp out-roll-Env (row_level (λ s. s.0) spelled_str name d.strs.now (out-Env (spelled u.now)).strs)

pub val_level : (e : EnvNode) (name : List ℕ) → val_in name (spelled e) ≡ option_or (option_map spelled_val (last_named (λ v. v.name.now) name (out-EnvNode e).vals.now)) (below (val_in name) (out-EnvNode e).under)
val_level e name = ap (val_in name) (spelled-level e) ∙ val_at_level (out-EnvNode e).under (out-EnvNode e) name

pub tycon_level : (e : EnvNode) (name : List ℕ) → tycon_in name (spelled e) ≡ option_or (option_map spelled_tycon (last_named (λ t. t.name.now) name (out-EnvNode e).tycons.now)) (below (tycon_in name) (out-EnvNode e).under)
tycon_level e name = ap (tycon_in name) (spelled-level e) ∙ tycon_at_level (out-EnvNode e).under (out-EnvNode e) name

pub str_level : (e : EnvNode) (name : List ℕ) → str_in name (spelled e) ≡ option_or (option_map spelled_str (last_named (λ s. (spelled_str s).0) name (out-EnvNode e).strs.now)) (below (str_in name) (out-EnvNode e).under)
str_level e name = ap (str_in name) (spelled-level e) ∙ str_at_level (out-EnvNode e).under (out-EnvNode e) name
