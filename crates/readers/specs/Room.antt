-- Rooms: how high a tree may be, and whether operators may clash.
use Rattle.std.specs.Prelude.{◌≡◌, ℕ, ◌≤◌, Bool, true}
use Rattle.readers.specs.declared.code.Code.{Code}
use Rattle.readers.specs.declared.code.Code.TheVariants.{Grammar, Depth, FixityClash}

-- how high a tree may be, and whether neighbours in an infix row may clash
pub record Room : Type 0 where
  pub height : ℕ
  pub clashes : Bool

-- a room of this height
abbrev pub at_height : ℕ → Bool → Room
at_height h b = record { height = h; clashes = b }

-- more room, in each part
abbrev pub Under : Room → Room → Type 0
Under h k = (h.height ≤ k.height) × (h.clashes ≡ true → k.clashes ≡ true)

-- more height alone
abbrev pub Higher : Room → Room → Type 0
Higher h k = (h.height ≤ k.height) × (k.clashes ≡ h.clashes)

-- the rooms at which the same code is answered
abbrev pub Alike : Code → Room → Room → Type 0
Alike Grammar h k = Under h k
Alike Depth h k = k ≡ h
Alike FixityClash h k = Higher h k

-- the rooms at which a refused token may go on
abbrev pub Eased : Code → Room → Room → Type 0
Eased Grammar h k = ⊥
Eased Depth h k = Higher h k
Eased FixityClash h k = Under h k
