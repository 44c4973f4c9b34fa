-- Breaches of what form alone forbids, and which of them stands first.
use Rattle.std.specs.Prelude.{◌≡◌, ⊤, Bool, false, if◌then◌else◌, nat_eq, nat_lt, List, [], ◌∷◌, ◌++◌, Option, Some, None}
use Rattle.std.specs.List.{Contains}
use Rattle.tl_text.specs.Codes.{number_of}
use Rattle.tl_text.specs.declared.code.Code.{Code}
use Rattle.tl_text.specs.declared.fault.Refusal.{Refusal}
use Rattle.tl_text.specs.declared.place.Place.{Place}

-- a breach of the rule of a code at a place
abbrev pub breach : Code → Place → Refusal
breach c p = record { place = p; code = c }

-- whether a breach stands before another; at one byte the lower number comes first
abbrev pub stands_before : Refusal → Refusal → Bool
stands_before a b =
    if nat_eq a.place.source b.place.source
    then (if nat_eq a.place.byte b.place.byte
    then nat_lt (number_of a.code) (number_of b.code)
    else nat_lt a.place.byte b.place.byte)
    else nat_lt a.place.source b.place.source

-- of a breach that was found, where one was, and another one, the one that stands first
abbrev pub earlier : Option Refusal → Refusal → Refusal
earlier None b = b
earlier (Some a) b = if stands_before b a then b else a

-- the breach that stands first among one that was found and a row of them
abbrev pub after : Option Refusal → List Refusal → Option Refusal
after found [] = found
after found (b ∷ bs) = after (Some (earlier found b)) bs

-- the breach that stands first
abbrev pub first : List Refusal → Option Refusal
first = after None

-- whether no breach of a row stands before another one
abbrev pub NoneBefore : Refusal → List Refusal → Type 0
NoneBefore b [] = ⊤
NoneBefore b (a ∷ as') = (stands_before a b ≡ false) × NoneBefore b as'

-- whether a breach is one of a row, and none of the row stands before it
abbrev pub IsFirst : Refusal → List Refusal → Type 0
IsFirst b bs = Contains bs b × NoneBefore b bs

-- rows one after another
abbrev pub joined : {T : Type 0} → List (List T) → List T
joined [] = []
joined (xs ∷ rest) = xs ++ joined rest
