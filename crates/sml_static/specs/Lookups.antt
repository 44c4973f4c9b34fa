-- Look-ups in an environment, where the last binding of a name counts.
use Rattle.std.specs.Prelude.{ℕ, cond, List, [], ◌∷◌, Option, Some, None, option_and_then}
use Rattle.std.specs.Str.{bytes_eq}
use Rattle.sml_static.specs.declared.ty.TyFun.{TyFun}
use Rattle.sml_static.specs.declared.ty.Scheme.{Scheme}
use Rattle.sml_static.specs.declared.env.Status.{Status}
use Rattle.sml_static.specs.declared.env.Env.{Env, out-Env}

-- the last item of a row that has this name
abbrev pub last_named : {A : Type 0} → (A → List ℕ) → List ℕ → List A → Option A
last_named name_of name [] = None
last_named name_of name (x ∷ xs) =
    elim (last_named name_of name xs) [ Some y ↦ Some y | None ↦ cond (bytes_eq (name_of x) name) (Some x) None ]

-- what a look-up finds in the structure to which all but the last name of a long identifier lead
abbrev pub at_path : {A : Type 0} → (Env → List ℕ → Option A) → Env → List (List ℕ) → Option A
at_path find e [] = None
at_path find e (n ∷ []) = find e n
at_path find e (n ∷ (m ∷ ms)) = option_and_then (λ s. at_path find s.1 (m ∷ ms)) (last_named (λ s. s.0) n (out-Env e).strs)

-- the value, with its status and scheme, of a long identifier -- [Definition, section 4.3]
abbrev pub val_at : Env → List (List ℕ) → Option (List ℕ × Status × Scheme)
val_at = at_path (λ e name. last_named (λ v. v.0) name (out-Env e).vals)

-- the type constructor, with its type function and data constructors, of a long identifier
abbrev pub tycon_at : Env → List (List ℕ) → Option (List ℕ × TyFun × List (List ℕ × Scheme))
tycon_at = at_path (λ e name. last_named (λ t. t.0) name (out-Env e).tycons)

-- the structure of a long identifier
abbrev pub str_at : Env → List (List ℕ) → Option (List ℕ × Env)
str_at = at_path (λ e name. last_named (λ s. s.0) name (out-Env e).strs)
