-- What is promised of a whole text.
use Rattle.std.specs.Prelude.{◌≡◌, ℕ, true, false, List, [], ◌∷◌, ◌++◌, Some}
use Rattle.readers.specs.declared.code.Code.{Code}
use Rattle.readers.specs.declared.code.Code.TheVariants.{Grammar, Depth, FixityClash}
use Rattle.readers.specs.Reader.{first}
use Rattle.readers.specs.Language.{Viable}
use Rattle.readers.specs.Room.{Room, at_height}

-- these tokens and no more go on, and the code says whether higher trees would
pub record RefusedAt {K T : Type 0} (D : Room → T → List K → Type 0) (h : ℕ) (s : List K) (code : Code) (rest : List K) : Type 0 where
  pub read : List K
  pub parts : s ≡ read ++ rest
  -- some list that begins so has a tree
  pub viable : Viable (D (at_height h false)) read
  -- none that goes on with the next token has one
  pub least : (c : K) → first rest ≡ Some c → Viable (D (at_height h false)) (read ++ c ∷ []) → ⊥
  -- none of any height has one, also where neighbours may clash
  pub grammar : code ≡ Grammar → (k : Room) (c : K) → first rest ≡ Some c → Viable (D k) (read ++ c ∷ []) → ⊥
  -- a higher one has one
  pub depth : code ≡ Depth → (k : ℕ) × (c : K) × (first rest ≡ Some c) × Viable (D (at_height k false)) (read ++ c ∷ [])
  -- none of any height has one, and some has one where neighbours may clash
  pub clash : code ≡ FixityClash → (c : K) → first rest ≡ Some c → (k : ℕ) → Viable (D (at_height k false)) (read ++ c ∷ []) → ⊥
  pub clashing : code ≡ FixityClash → (k : ℕ) × (c : K) × (first rest ≡ Some c) × Viable (D (at_height k true)) (read ++ c ∷ [])
