-- What a whole reading of a name gives, and what a device keeps over it.
use Rattle.std.specs.Prelude.{◌≡◌, ℕ, ◌+◌, ◌≤◌, List, take, length, Option, Some, None}
use Rattle.src_io.specs.Holding.{Holding}
use Rattle.src_io.specs.declared.device.OpenEnd.{OpenEnd}
use Rattle.src_io.specs.declared.device.OpenEnd.TheVariants as opening
use Rattle.src_io.specs.declared.reading.ReadEnd.{ReadEnd}
use Rattle.src_io.specs.declared.reading.ReadEnd.TheVariants as reading

-- These are the bytes that are held under the name, one more than the limit at most.
abbrev pub IsRead : List ℕ → ℕ → Option Holding → List ℕ → Type 0
IsRead name limit None bytes = length bytes ≤ limit + 1
IsRead name limit (Some h) bytes = (held : List ℕ) × (h.files name ≡ Some held) × (bytes ≡ take (limit + 1) held)

-- The device holds what it held, and tells it where it told it.
abbrev pub SameFiles : Option Holding → Option Holding → Type 0
SameFiles None now = now ≡ None
SameFiles (Some h) now = (h2 : Holding) × (now ≡ Some h2) × (h2.files ≡ h.files)

-- a reading ends as its opening did
abbrev pub end_of_opening : OpenEnd → ReadEnd
end_of_opening opening.Missing = reading.Missing
end_of_opening opening.Failed = reading.Failed
