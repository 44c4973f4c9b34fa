-- A long identifier, whose last name is sought where the others lead.
use Rattle.std.proofs.Common.{◌≡◌, ℕ, List, [], ◌∷◌, ◌++◌, Option, Some, None, refl}
use Rattle.std.specs.Option.{option_map, option_and_then}
use Rattle.sml_static.specs.declared.env.Env.{Env, out-Env}
use Rattle.sml_static.specs.Lookups.{last_named, at_path}
use Rattle.env_arena.specs.Paths.{env_along, place_of}

through : {A B C : Type 0} (f : A → Option B) (g : A → Option C) (h : C → Option B) (o : Option A) → ((x : A) → f x ≡ option_and_then h (g x)) → option_and_then f o ≡ option_and_then h (option_and_then g o)
through f g h None e = refl
through f g h (Some x) e = e x

pub at_path_place : {A : Type 0} (find : Env → List ℕ → Option A) (e : Env) (path : List (List ℕ)) → at_path find e path ≡ option_and_then (λ q. find q.0 q.1) (place_of e path)
at_path_place find e [] = refl
at_path_place find e (n ∷ []) = refl
at_path_place find e (n ∷ (m ∷ ms)) =
    through (λ (s : List ℕ × Env). at_path find s.1 (m ∷ ms)) (λ (s : List ℕ × Env). place_of s.1 (m ∷ ms)) (λ (q : Env × List ℕ). find q.0 q.1)
    (last_named (λ s. s.0) n (out-Env e).strs) (λ s. at_path_place find s.1 (m ∷ ms))

along_then : {A B C : Type 0} (f : A → Option B) (g : A → Option C) (h : C → B) (o : Option A) → ((x : A) → f x ≡ option_map h (g x)) → option_and_then f o ≡ option_map h (option_and_then g o)
along_then f g h None e = refl
along_then f g h (Some x) e = e x

pub place_of_push : (e : Env) (ns : List (List ℕ)) (n : List ℕ) → place_of e (ns ++ n ∷ []) ≡ option_map (λ (s : Env). (s, n)) (env_along e ns)
place_of_push e [] n = refl
place_of_push e (m ∷ []) n =
    along_then (λ (s : List ℕ × Env). place_of s.1 (n ∷ [])) (λ (s : List ℕ × Env). env_along s.1 []) (λ (s : Env). (s, n))
    (last_named (λ s. s.0) m (out-Env e).strs) (λ s. refl)
place_of_push e (m ∷ (k ∷ ks)) n =
    along_then (λ (s : List ℕ × Env). place_of s.1 (k ∷ (ks ++ n ∷ []))) (λ (s : List ℕ × Env). env_along s.1 (k ∷ ks)) (λ (s : Env). (s, n))
    (last_named (λ s. s.0) m (out-Env e).strs) (λ s. place_of_push s.1 (k ∷ ks) n)
