-- What is promised of an answer: for all the tokens, and for a front of them.
use Rattle.std.specs.Prelude.{◌≡◌, ℕ, false, List, [], ◌∷◌, ◌++◌, Some, Ok, Err}
use Rattle.readers.specs.declared.code.Code.{Code}
use Rattle.readers.specs.declared.code.Code.TheVariants.{Grammar}
use Rattle.readers.specs.Reader.{first, Answer}
use Rattle.readers.specs.Language.{Viable}
use Rattle.readers.specs.Room.{Room, at_height}
use Rattle.readers.specs.WholeText.{RefusedAt}

-- a tree of at most this height, without clashes, derives the tokens
abbrev pub Derives : {K T : Type 0} → (Room → T → List K → Type 0) → ℕ → List K → T → Type 0
Derives D h tokens t = D (at_height h false) t tokens

-- none derives the tokens, and the rest begins with the first with which none goes on; the code says why
abbrev pub Refusal : {K T : Type 0} → (Room → T → List K → Type 0) → ℕ → List K → Code → List K → Type 0
Refusal {K} {T} D h tokens code rest = ((u : T) → Derives D h tokens u → ⊥) × RefusedAt D h tokens code rest

-- the answer for all of the tokens is the one tree, or else such a refusal
abbrev pub Exactly : {K T : Type 0} → (Room → T → List K → Type 0) → ℕ → List K → Answer K T → Type 0
Exactly {K} {T} D h tokens (Ok (x, [])) = Derives D h tokens x × ((u : T) → Derives D h tokens u → u ≡ x)
Exactly D h tokens (Ok (x, c ∷ rest)) = Refusal D h tokens Grammar (c ∷ rest)
Exactly D h tokens (Err e) = Refusal D h tokens e.0 e.1

-- the tree derives the tokens before the rest, and nothing of any height goes on with the next one, also where operators may clash
pub record Longest {K T : Type 0} (D : Room → T → List K → Type 0) (h : ℕ) (tokens : List K) (tree : T) (rest : List K) : Type 0 where
  pub read : List K
  pub parts : tokens ≡ read ++ rest
  pub derives : Derives D h read tree
  pub longest : (k : Room) (c : K) → first rest ≡ Some c → Viable (D k) (read ++ c ∷ []) → ⊥

-- the answer for a front of the tokens is the longest phrase, or a refusal at the first token with which none goes on
abbrev pub Front : {K T : Type 0} → (Room → T → List K → Type 0) → ℕ → List K → Answer K T → Type 0
Front D h tokens (Ok x) = Longest D h tokens x.0 x.1
Front D h tokens (Err e) = RefusedAt D h tokens e.0 e.1
