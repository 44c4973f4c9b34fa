-- Places of a source: lines end at a line feed and nothing else.
use Rattle.std.specs.Prelude.{ℕ, ◌+◌, List, [], ◌∷◌, ◌==◌, if◌then◌else◌}
use Rattle.tl_text.specs.declared.place.Place.{Place}

-- the place behind one more byte
abbrev pub next_place : Place → ℕ → Place
next_place p c = record { source = p.source; line = (if c == 10 then p.line + 1 else p.line); col = (if c == 10 then 1 else p.col + 1); byte = p.byte + 1 }

-- the place behind these bytes, which begin at the other
unfoldable pub moved : Place → List ℕ → Place
moved p [] = p
moved p (c ∷ s) = moved (next_place p c) s

-- the place behind these bytes, with which the source begins
abbrev pub place_behind : ℕ → List ℕ → Place
place_behind source before = moved (record { source = source; line = 1; col = 1; byte = 0 }) before
