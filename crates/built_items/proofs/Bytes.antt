-- What a slice of bytes has.
use Rattle.std.proofs.Common.{◌≡◌, ℕ, true, List, [], ◌∷◌, get_or, Fits, w8, refl, rules, suc}
use Rattle.std.specs.Prelude.{nat_lt}
use Rattle.oc_rules.proofs.Tests.{and_of}
use Rattle.built_items.specs.Built.{are_bytes}

below : (c : ℕ) → Fits w8 c → nat_lt c 256 ≡ true
below c h = search rules

pub each_fits : (s : List ℕ) → ((i : ℕ) → Fits w8 (get_or s i 0)) → are_bytes s ≡ true
each_fits [] h = refl
each_fits (c ∷ s) h = and_of (nat_lt c 256) (are_bytes s) (below c (h 0)) (each_fits s (λ i. h (suc i)))
