-- What is read only behind a tree that leaves room for it.
use Rattle.std.proofs.Common.{◌≡◌, ℕ, ◌<◌, ◌≤◌, Bool, true, false, ltb, List, [], ◌∷◌, Err, refl}
use Rattle.std.proofs.lemmas.Bool.{le-ltb, lt-ltb}
use Rattle.readers.specs.declared.code.Code.TheVariants.{Depth, Grammar}
use Rattle.readers.specs.Reader.{first, Reader, head_is, guard}
use Rattle.readers.specs.Forms.{growth}

module _ {K T : Type 0} (test : K → Bool) (n h : ℕ) (p : Reader K T) where
  pub guard_low : (s : List K) → head_is test (first s) ≡ true → n ≤ h → guard (growth test true n h) p s ≡ p s
  guard_low [] i le = absurd cc
  guard_low (c ∷ s) i le = let f : ltb h n ≡ false = le-ltb h n le in rw i (rw f refl)

  pub guard_high : (s : List K) → head_is test (first s) ≡ true → h < n → guard (growth test true n h) p s ≡ Err (Depth, s)
  guard_high [] i lt = absurd cc
  guard_high (c ∷ s) i lt = let f : ltb h n ≡ true = lt-ltb h n lt in rw i (rw f refl)

  pub guard_off : (s : List K) → head_is test (first s) ≡ false → guard (growth test true n h) p s ≡ Err (Grammar, s)
  guard_off [] i = refl
  guard_off (c ∷ s) i = rw i refl
