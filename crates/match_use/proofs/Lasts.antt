-- The last part of a path by its place.
use Rattle.std.proofs.Common.{◌≡◌, ℕ, zero, suc, ◌+◌, List, [], ◌∷◌, length, Some, arith}
use Rattle.std.specs.List.{slice_get}
use Rattle.sml_static.specs.Shapes.{last_part}

pub last_part-got : (ns : List (List ℕ)) (i : ℕ) (x : List ℕ) → i + 1 ≡ length ns → slice_get ns i ≡ Some x → last_part ns ≡ x
last_part-got [] i x e g = cc
last_part-got (n ∷ []) zero x e g = cc
last_part-got (n ∷ []) (suc i) x e g = cc
last_part-got (n ∷ (m ∷ ms)) zero x e g = absurd (omega arith)
last_part-got (n ∷ (m ∷ ms)) (suc i) x e g = last_part-got (m ∷ ms) i x (omega arith) g
