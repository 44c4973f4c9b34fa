-- Comments, which nest. Quotes inside mean nothing.
use Rattle.std.specs.Prelude.{◌≡◌, ℕ, zero, suc, Bool, false, List, [], ◌∷◌, ◌++◌, length, ◌==◌, ◌&&◌, ◌||◌}
use Rattle.sml_lex.specs.Bytes.{first_is}

-- the byte and the next open a comment or close one
abbrev pub is_mark : ℕ → List ℕ → Bool
is_mark c s = (c == 40 && first_is (λ b. b == 42) s) || (c == 42 && first_is (λ b. b == 41) s)

-- the bytes from behind an opening mark to the end of its comment, with this many comments open inside it
pub data Inside : ℕ → List ℕ → Type 0 where
  ends : Inside zero (42 ∷ 41 ∷ [])
  opens : {d : ℕ} {w : List ℕ} → Inside (suc d) w → Inside d (40 ∷ 42 ∷ w)
  closes : {d : ℕ} {w : List ℕ} → Inside d w → Inside (suc d) (42 ∷ 41 ∷ w)
  other : {d : ℕ} {w : List ℕ} (c : ℕ) → is_mark c w ≡ false → Inside d w → Inside d (c ∷ w)

-- the bytes behind an opening mark begin with the rest of its comment, which has this length
pub record CommentEnds (s : List ℕ) (n : ℕ) : Type 0 where
  pub inside : List ℕ
  pub rest : List ℕ
  pub whole : s ≡ inside ++ rest
  pub nested : Inside 0 inside
  pub long : length inside ≡ n
