-- Types and environments without parts that no node spells: types still to be found, and the label 0.
use Rattle.std.specs.Prelude.{◌==◌, ◌&&◌, ℕ, Bool, true, false, not, List}
use Rattle.std.specs.List.{list_all}
use Rattle.sml_static.specs.declared.ty.Label.{Label}
use Rattle.sml_static.specs.declared.ty.Label.TheVariants as label
use Rattle.sml_static.specs.declared.ty.Ty.{Ty, fold-Ty}
use Rattle.sml_static.specs.declared.ty.Ty.TheOpen.{Ty-F}
use Rattle.sml_static.specs.declared.ty.TyFun.{TyFun}
use Rattle.sml_static.specs.declared.ty.Scheme.{Scheme}
use Rattle.sml_static.specs.declared.env.Status.{Status}
use Rattle.sml_static.specs.declared.env.Env.{Env, fold-Env}
use Rattle.sml_static.specs.declared.env.Env.TheOpen.{Env-F}

-- whether a label is no `Num 0`
abbrev pub is_settled_label : Label → Bool
is_settled_label (label.Num n) = not (n == 0)
is_settled_label (label.Word w) = true

-- one level of `is_settled`
abbrev pub settled_step : Ty-F Bool → Bool
settled_step (Ty-F.Free n) = false
settled_step (Ty-F.Bound i) = true
settled_step (Ty-F.Fields fields) = list_all (λ f. is_settled_label f.0 && f.1) fields
settled_step (Ty-F.Arrow a b) = a && b
settled_step (Ty-F.Con name args) = list_all (λ a. a) args

-- whether a type has no `Free` and no label `Num 0`
abbrev pub is_settled : Ty → Bool
is_settled = fold-Ty Bool settled_step

-- whether a data constructor's scheme is so
abbrev pub is_settled_con : List ℕ × Scheme → Bool
is_settled_con c = is_settled c.1.body

-- whether a value's scheme is so
abbrev pub is_settled_val : List ℕ × Status × Scheme → Bool
is_settled_val v = is_settled v.2.body

-- whether a type constructor's function and data constructors are so
abbrev pub is_settled_tycon : List ℕ × TyFun × List (List ℕ × Scheme) → Bool
is_settled_tycon t = is_settled t.1.body && list_all is_settled_con t.2

-- one level of `is_settled_env`
abbrev pub settled_env_step : Env-F Bool → Bool
settled_env_step e = list_all is_settled_val e.vals && list_all is_settled_tycon e.tycons && list_all (λ s. s.1) e.strs

-- whether each type of an environment is so
abbrev pub is_settled_env : Env → Bool
is_settled_env = fold-Env Bool settled_env_step
