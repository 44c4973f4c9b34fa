-- What a device that hands out sources holds, where it tells: bytes under names, and the reading at hand.
use Rattle.std.specs.Prelude.{◌≡◌, ℕ, ◌+◌, ◌≤◌, ◌<◌, List, [], take, drop, length, Option, Some, None, IsSome}

pub record Holding : Type 0 where
  -- the bytes that are held under a name
  pub files : List ℕ → Option (List ℕ)
  -- the name that is open
  pub opened : Option (List ℕ)
  -- how many of its bytes were read
  pub place : ℕ

-- the bytes, or none
abbrev pub bytes_or_none : Option (List ℕ) → List ℕ
bytes_or_none None = []
bytes_or_none (Some bytes) = bytes

-- what is held under the open name
abbrev pub content_of : (List ℕ → Option (List ℕ)) → Option (List ℕ) → List ℕ
content_of files None = []
content_of files (Some name) = bytes_or_none (files name)

-- what is left to read
abbrev pub left : Holding → List ℕ
left h = drop h.place (content_of h.files h.opened)

-- The name is held, and is open now, at its first byte.
abbrev pub Opens : List ℕ → Option Holding → Option Holding → Type 0
Opens name None now = now ≡ None
Opens name (Some h) now = IsSome (h.files name) × (now ≡ Some (record h { opened = Some name; place = 0 }))

-- The name is not held.
abbrev pub Lacks : List ℕ → Option Holding → Type 0
Lacks name None = Unit {0}
Lacks name (Some h) = h.files name ≡ None

-- n bytes at the front of a buffer are the next ones, at least one where bytes are left and the buffer has room.
abbrev pub Reads : ℕ → List ℕ → Option Holding → Option Holding → Type 0
Reads n buffer None now = now ≡ None
Reads n buffer (Some h) now =
    (n ≤ length (left h))
    × (take n buffer ≡ take n (left h))
    × (0 < length buffer → 0 < length (left h) → 0 < n)
    × (now ≡ Some (record h { place = h.place + n }))
