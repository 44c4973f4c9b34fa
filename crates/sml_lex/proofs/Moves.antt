-- Places that move on byte by byte.
use Rattle.std.proofs.Common.{◌≡◌, ℕ, ◌+◌, ◌<◌, ◌≤◌, List, [], ◌∷◌, ◌++◌, length, drop, get_or, refl, ap}
use Rattle.std.proofs.Math.ListN.{drop_of_length-le}
use Rattle.tl_text.specs.declared.place.Place.{Place}
use Rattle.sml_lex.specs.Places.{moved, next_place}
use Rattle.sml_lex.proofs.Lists.{drop_at}

-- the place behind one more byte
pub moved_more : (p : Place) (s : List ℕ) (i : ℕ) → i < length s → moved p (drop i s) ≡ moved (next_place p (get_or s i 0)) (drop (i + 1) s)
unfolding moved
moved_more p s i lt = ap (moved p) (drop_at s i lt)

pub moved_end : (p : Place) (s : List ℕ) (i : ℕ) → length s ≤ i → moved p (drop i s) ≡ p
unfolding moved
moved_end p s i le = ap (moved p) (drop_of_length-le s le)

-- the place behind bytes and further bytes
pub moved_append : (p : Place) (s t : List ℕ) → moved p (s ++ t) ≡ moved (moved p s) t
unfolding moved
moved_append p [] t = refl
moved_append p (c ∷ s) t = moved_append (next_place p c) s t
