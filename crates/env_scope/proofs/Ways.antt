-- A long identifier by its first name.
use Rattle.std.proofs.Common.{◌≡◌, ℕ, List, [], ◌∷◌, length, Option, Some, None, refl, arith, ◌≢◌}
use Rattle.std.specs.Option.{option_and_then}
use Rattle.sml_static.specs.declared.env.Env.{Env, out-Env}
use Rattle.sml_static.specs.Lookups.{last_named, at_path}

pub at_path_cons : {A : Type 0} (find : Env → List ℕ → Option A) (e : Env) (n : List ℕ) (ns : List (List ℕ)) → length ns ≢ 0 → at_path find e (n ∷ ns) ≡ option_and_then (λ s. at_path find s.1 ns) (last_named (λ s. s.0) n (out-Env e).strs)
at_path_cons find e n [] some = absurd (some refl)
at_path_cons find e n (m ∷ ms) some = refl
