-- Numbers by their digits.
use Rattle.std.proofs.Common.{◌≡◌, ℕ, ◌+◌, ◌*◌, ◌<◌, ◌≤◌, List, [], ◌∷◌, length, drop, get_or, ap, arith}
use Rattle.std.proofs.Math.Nat.{mul-le-mul_left}
use Rattle.sml_lex.specs.Bytes.{number_from, digit_value}
use Rattle.sml_lex.proofs.Lists.{drop_at}

no_less : (base x : ℕ) → 1 ≤ base → x ≤ x * base
no_less base x h = omega (arith, mul-le-mul_left x h)

-- further digits make a number no less
pub grows : (base x : ℕ) (s : List ℕ) → 1 ≤ base → x ≤ number_from base x s
grows base x [] h = omega arith
grows base x (c ∷ s) h = omega (arith, no_less base x h, grows base (x * base + digit_value c) s h)

-- one more digit
pub more : (base x : ℕ) (s : List ℕ) (i : ℕ) → i < length s → number_from base x (drop i s) ≡ number_from base (x * base + digit_value (get_or s i 0)) (drop (i + 1) s)
more base x s i lt = ap (number_from base x) (drop_at s i lt)
