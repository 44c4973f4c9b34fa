-- Rows of named items, one over another.
use Rattle.std.specs.Prelude.{ℕ, Bool, not, List, ◌++◌, filter}
use Rattle.std.specs.List.{list_any}
use Rattle.std.specs.Str.{bytes_eq}
use Rattle.sml_static.specs.declared.env.Env.{Env, roll-Env, out-Env}

-- whether a row has an item of that name
abbrev pub has_name : {A : Type 0} → (A → List ℕ) → List ℕ → List A → Bool
has_name name_of name row = list_any (λ x. bytes_eq (name_of x) name) row

-- the items of the first row whose names the second does not have, and then the second
abbrev pub over : {A : Type 0} → (A → List ℕ) → List A → List A → List A
over name_of first then = filter (λ x. not (has_name name_of (name_of x) then)) first ++ then

-- the second environment over the first, class by class -- [Definition, section 4.3, E + E']
abbrev pub env_over : Env → Env → Env
env_over first then = roll-Env (record {
  vals = over (λ v. v.0) (out-Env first).vals (out-Env then).vals;
  tycons = over (λ t. t.0) (out-Env first).tycons (out-Env then).tycons;
  strs = over (λ s. s.0) (out-Env first).strs (out-Env then).strs;
})
