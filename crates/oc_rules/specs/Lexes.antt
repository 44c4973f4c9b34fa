-- Bytes as tokens with white space between.
use Rattle.std.specs.Prelude.{◌≡◌, ℕ, ◌≤◌, not, ◌||◌, List, [], ◌∷◌, ◌++◌, length, IsTrue}
use Rattle.oc_rules.specs.Bytes.{is_digit, is_part, is_white, every, heads, same}
use Rattle.oc_rules.specs.Token.{Token, IsToken}

-- no longer run at this place is a token
abbrev pub Longest : List ℕ → List ℕ → Type 0
Longest run rest = (t : Token) (other behind : List ℕ) → other ++ behind ≡ run ++ rest → IsToken t other → length other ≤ length run

-- digits and `_` are no token right before a letter, a digit, `_` or `'`
abbrev pub Ends : List ℕ → List ℕ → Type 0
Ends run rest = IsTrue (every is_digit run || same run (95 ∷ [])) → IsTrue (not (heads is_part rest))

-- the bytes are these tokens; white space may stand before, between and behind them
pub data Lexes : List ℕ → List Token → Type 0 where
  Done : (bytes : List ℕ) (ts : List Token) → bytes ≡ [] → ts ≡ [] → Lexes bytes ts
  Skips : (bytes : List ℕ) (ts : List Token) (c : ℕ) (rest : List ℕ) → bytes ≡ c ∷ rest → IsTrue (is_white c) → Lexes rest ts → Lexes bytes ts
  Takes : (bytes : List ℕ) (ts : List Token) (t : Token) (us : List Token) (run rest : List ℕ) → bytes ≡ run ++ rest → ts ≡ t ∷ us
      → IsToken t run → Longest run rest → Ends run rest → Lexes rest us → Lexes bytes ts
