-- What a node stands for.
use Rattle.std.specs.Prelude.{ℕ, ◌==◌, cond, List, map, Some, None}
use Rattle.sml_static.specs.declared.ty.Label.{Label}
use Rattle.sml_static.specs.declared.ty.Label.TheVariants as label
use Rattle.sml_static.specs.declared.ty.Ty.{Ty}
use Rattle.sml_static.specs.declared.ty.Ty.TheVariants as ty
use Rattle.sml_static.specs.declared.ty.TyFun.{TyFun}
use Rattle.sml_static.specs.declared.ty.Scheme.{Scheme}
use Rattle.sml_static.specs.declared.env.Status.{Status}
use Rattle.sml_static.specs.declared.env.Env.{Env, roll-Env}
use Rattle.env_arena.specs.declared.node.FieldNode.{FieldNode, fold-FieldNode}
use Rattle.env_arena.specs.declared.node.TypeNode.{TypeNode, fold-TypeNode}
use Rattle.env_arena.specs.declared.node.TypeNode.TheOpen.{TypeNode-F, FieldNode-F}
use Rattle.env_arena.specs.declared.node.ValNode.{ValNode}
use Rattle.env_arena.specs.declared.node.TyNode.{TyNode}
use Rattle.env_arena.specs.declared.node.StrNode.{StrNode, fold-StrNode}
use Rattle.env_arena.specs.declared.node.EnvNode.{EnvNode, fold-EnvNode, out-EnvNode}
use Rattle.env_arena.specs.declared.node.EnvNode.TheOpen.{EnvNode-F, StrNode-F}
use Rattle.env_arena.specs.Over.{env_over}

-- the label of a number and a word: the word where the number is 0
abbrev pub label_of : ℕ → List ℕ → Label
label_of num word = cond (num == 0) (label.Word word) (label.Num num)

-- one level of `spelled_ty`
abbrev pub field_step : FieldNode-F Ty (Label × Ty) → Label × Ty
field_step f = (label_of f.num f.word.now, f.ty.now)

abbrev pub type_step : TypeNode-F Ty (Label × Ty) → Ty
type_step (TypeNode-F.Bound n) = ty.Bound n
type_step (TypeNode-F.Fields fields) = ty.Fields fields.now
type_step (TypeNode-F.Arrow a b) = ty.Arrow a.now b.now
type_step (TypeNode-F.Con name args) = ty.Con name args.now

-- the type for which a node stands
abbrev pub spelled_ty : TypeNode → Ty
spelled_ty = fold-TypeNode Ty (Label × Ty) type_step field_step

abbrev pub spelled_field : FieldNode → Label × Ty
spelled_field = fold-FieldNode Ty (Label × Ty) type_step field_step

abbrev pub spelled_scheme : ValNode → Scheme
spelled_scheme v = record { vars = v.kinds.now; body = spelled_ty v.body.now }

-- a value, with its status and scheme
abbrev pub spelled_val : ValNode → List ℕ × Status × Scheme
spelled_val v = (v.name.now, v.status, spelled_scheme v)

-- a data constructor, with its scheme
abbrev pub spelled_con : ValNode → List ℕ × Scheme
spelled_con v = (v.name.now, spelled_scheme v)

abbrev pub spelled_function : TyNode → TyFun
spelled_function t = record { arity = t.arity; body = spelled_ty t.body.now }

-- a type constructor, with its type function and data constructors
abbrev pub spelled_tycon : TyNode → List ℕ × TyFun × List (List ℕ × Scheme)
spelled_tycon t = (t.name.now, spelled_function t, map spelled_con t.cons.now)

-- one level of `spelled`
abbrev pub str_step : StrNode-F Env (List ℕ × Env) → List ℕ × Env
str_step s = (s.name.now, s.env.now)

-- the node's own components
abbrev pub own_step : EnvNode-F Env (List ℕ × Env) → Env
own_step e = roll-Env (record { vals = map spelled_val e.vals.now; tycons = map spelled_tycon e.tycons.now; strs = e.strs.now })

abbrev pub env_step : EnvNode-F Env (List ℕ × Env) → Env
env_step e = elim e.under as (λ _. Env) [ None ↦ own_step e | Some u ↦ env_over u.now (own_step e) ]

-- the environment for which a node stands: the components of the one under it whose names the node
-- does not bind in their class, and then the node's own
abbrev pub spelled : EnvNode → Env
spelled = fold-EnvNode Env (List ℕ × Env) env_step str_step

abbrev pub spelled_str : StrNode → List ℕ × Env
spelled_str = fold-StrNode Env (List ℕ × Env) env_step str_step

-- the environment of a node's own components alone
abbrev pub own_rows : EnvNode → Env
own_rows e = roll-Env (record {
  vals = map spelled_val (out-EnvNode e).vals.now;
  tycons = map spelled_tycon (out-EnvNode e).tycons.now;
  strs = map spelled_str (out-EnvNode e).strs.now;
})
