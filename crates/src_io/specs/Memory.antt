-- Devices in memory: sources that are held, and text that is kept.
use Rattle.std.specs.Prelude.{◌≡◌, ℕ, ◌+◌, ◌≤◌, ◌<◌, List, [], ◌∷◌, ◌++◌, ◌-◌, length, Option, Some, None, slice_index_or, if◌then◌else◌}
use Rattle.std.specs.Str.{bytes_eq}
use Rattle.src_io.specs.Counted.{Counted, no_calls, after_call}
use Rattle.src_io.specs.Holding.{Holding}

-- names with their bytes
abbrev pub Pairs : Type 0
Pairs = List (List ℕ × List ℕ)

-- the bytes of the first pair with a name
abbrev pub first_named : Pairs → List ℕ → Option (List ℕ)
first_named [] name = None
first_named (pair ∷ rest) name = if bytes_eq pair.0 name then Some pair.1 else first_named rest name

pub record HeldSources : Type 0 where
  -- what is held
  pub pairs : Pairs
  -- the name that is open
  pub opened : Option (List ℕ)
  -- how many of its bytes were read
  pub place : ℕ
  -- how many bytes a read gives at most
  pub piece : ℕ
  pub calls : Counted

-- what such sources tell
abbrev pub holding_of : HeldSources → Holding
holding_of s = record { files = first_named s.pairs; opened = s.opened; place = s.place }

-- sources of which none is open yet
abbrev pub new_sources : Pairs → ℕ → List ℕ → HeldSources
new_sources held piece fails =
    record { pairs = held; opened = None; place = 0; piece = piece; calls = no_calls fails }

-- after a name was opened, at its first byte
abbrev pub opened_at : List ℕ → HeldSources → HeldSources
opened_at name s = record s { opened = Some name; place = 0; calls = after_call s.calls }

-- after a read of n bytes
abbrev pub read_on : ℕ → HeldSources → HeldSources
read_on n s = record s { place = s.place + n; calls = after_call s.calls }

-- the name of the pair at an index
abbrev pub name_at : Pairs → ℕ → List ℕ
name_at held at = (slice_index_or held at ([], [])).0

-- the bytes of the pair at an index
abbrev pub bytes_at : Pairs → ℕ → List ℕ
bytes_at held at = (slice_index_or held at ([], [])).1

-- the name at an index, if there is one
abbrev pub opened_name : Pairs → Option ℕ → Option (List ℕ)
opened_name held None = None
opened_name held (Some at) = Some (name_at held at)

-- The open pair is the first with its name, and the place is no farther than its end.
abbrev pub IsWithin : Pairs → Option ℕ → ℕ → Type 0
IsWithin held None place = Unit {0}
IsWithin held (Some at) place =
    (at < length held) × (first_named held (name_at held at) ≡ Some (bytes_at held at)) × (place ≤ length (bytes_at held at))

pub record KeptText : Type 0 where
  -- the bytes that were written
  pub text : List ℕ
  -- how many more there is room for
  pub room : ℕ
  -- how many bytes a write takes at most
  pub chunk : ℕ
  pub calls : Counted

-- text to which nothing was written, without room
abbrev pub new_text : ℕ → List ℕ → KeptText
new_text chunk fails = record { text = []; room = 0; chunk = chunk; calls = no_calls fails }

-- after a write that took n bytes
abbrev pub written_on : List ℕ → ℕ → KeptText → KeptText
written_on bytes n s = record s { text = s.text ++ bytes; room = s.room - n; calls = after_call s.calls }
