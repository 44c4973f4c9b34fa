-- Where a long identifier leads.
use Rattle.std.specs.Prelude.{ℕ, List, [], ◌∷◌, Option, Some, None, option_and_then}
use Rattle.sml_static.specs.declared.env.Env.{Env, out-Env}
use Rattle.sml_static.specs.Lookups.{last_named}

-- the environment of the structure to which names lead, one inside another
abbrev pub env_along : Env → List (List ℕ) → Option Env
env_along e [] = Some e
env_along e (n ∷ ns) = option_and_then (λ s. env_along s.1 ns) (last_named (λ s. s.0) n (out-Env e).strs)

-- that of all names but the last, and the last
abbrev pub place_of : Env → List (List ℕ) → Option (Env × List ℕ)
place_of e [] = None
place_of e (n ∷ []) = Some (e, n)
place_of e (n ∷ (m ∷ ms)) = option_and_then (λ s. place_of s.1 (m ∷ ms)) (last_named (λ s. s.0) n (out-Env e).strs)
