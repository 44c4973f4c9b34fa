-- Appending in parts.
use Rattle.std.proofs.Common.{◌≡◌, ℕ, ◌+◌, List, [], ◌++◌, Option, Some, None, refl, take, drop, ap, subst, sym, append_assoc}
use Rattle.std.proofs.lemmas.List.{append-nil}
use Rattle.std.proofs.Math.Seq.{take-add}
use Rattle.src_io.specs.Written.{Appends}

-- nothing was written
pub Appends-nothing : (now : Option (List ℕ)) → Appends now now []
Appends-nothing None = refl
Appends-nothing (Some xs) = ap Some (sym (append-nil xs))

-- two writings are one of both
pub Appends-both : (before middle now : Option (List ℕ)) (xs ys : List ℕ)
    → Appends before middle xs → Appends middle now ys → Appends before now (xs ++ ys)
Appends-both None middle now xs ys e f = let P : Option (List ℕ) → Type 0 = λ m. Appends m now ys in subst P e f
Appends-both (Some a) middle now xs ys e f =
    let P : Option (List ℕ) → Type 0 = λ m. Appends m now ys in
    let g : now ≡ Some ((a ++ xs) ++ ys) = subst P e f in
    rw append_assoc at g

-- after a front, the front of what is left
pub Appends-further : (before middle now : Option (List ℕ)) (xs : List ℕ) (i n : ℕ)
    → Appends before middle (take i xs) → Appends middle now (take n (drop i xs)) → Appends before now (take (i + n) xs)
Appends-further before middle now xs i n e f =
    rw (take-add i n xs) (Appends-both before middle now (take i xs) (take n (drop i xs)) e f)
