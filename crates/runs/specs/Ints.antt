-- The integers of OCaml: from -2^62 to 2^62 - 1, modulo 2^63.
use Rattle.std.specs.Prelude.{ℕ, zero, ℤ, pos, negsuc, ◌+ℤ◌, ◌-ℤ◌, ◌*ℤ◌, ◌-◌, ◌/◌, ◌%◌, ◌^◌, Option, Some, None, nat_lt, nat_le, if◌then◌else◌, bit_and, bit_or, bit_xor, int_div, int_rem}
use Rattle.runs.specs.Tree.{Arithmetic, Plus, Minus, Times, Divide, Modulo, Land, Lor, Lxor, Lsl, Lsr}

-- the 63 bits of an integer, as a number
abbrev pub bits_of : ℤ → ℕ
bits_of (pos n) = n % 2 ^ 63
bits_of (negsuc n) = 2 ^ 63 - 1 - n % 2 ^ 63

-- the integer of 63 bits
abbrev pub of_bits : ℕ → ℤ
of_bits n = if nat_lt n (2 ^ 62) then pos n else negsuc (2 ^ 63 - 1 - n)

-- what is left of an integer in 63 bits
abbrev pub wrap : ℤ → ℤ
wrap i = of_bits (bits_of i)

abbrev pub unless_zero : ℤ → ℤ → Option ℤ
unless_zero (pos zero) i = None
unless_zero _ i = Some i

-- a shift by k, which is from 0 to 62
abbrev pub shifted_by : ℤ → (ℕ → ℤ) → Option ℤ
shifted_by (pos k) f = if nat_le k 62 then Some (f k) else None
shifted_by (negsuc k) f = None

-- what an operator makes of two integers; none for a division by zero, and for a shift by less than 0 or more than 62
abbrev pub arithmetic : Arithmetic → ℤ → ℤ → Option ℤ
arithmetic Plus a b = Some (wrap (a +ℤ b))
arithmetic Minus a b = Some (wrap (a -ℤ b))
arithmetic Times a b = Some (wrap (a *ℤ b))
arithmetic Divide a b = unless_zero b (wrap (int_div a b))
arithmetic Modulo a b = unless_zero b (wrap (int_rem a b))
arithmetic Land a b = Some (of_bits (bit_and (bits_of a) (bits_of b)))
arithmetic Lor a b = Some (of_bits (bit_or (bits_of a) (bits_of b)))
arithmetic Lxor a b = Some (of_bits (bit_xor (bits_of a) (bits_of b)))
arithmetic Lsl a b = shifted_by b (λ k. wrap (a *ℤ pos (2 ^ k)))
arithmetic Lsr a b = shifted_by b (λ k. of_bits (bits_of a / 2 ^ k))
