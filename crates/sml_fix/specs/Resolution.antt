-- The one grouping of a row of parts, and where there is none.
use Rattle.std.specs.Prelude.{◌≡◌, ℕ, suc, ◌⊎◌, Bool, true, false, List, [], ◌∷◌, ◌++◌, Option, Some, None, Result, Ok, Err}
use Rattle.tl_text.specs.declared.place.Place.{Place}
use Rattle.tl_text.specs.declared.code.Code.{Code}
use Rattle.tl_text.specs.declared.code.Code.TheVariants.{Grammar, FixityClash}
use Rattle.tl_text.specs.declared.fault.Fault.{Fault}
use Rattle.tl_text.specs.declared.fault.Fault.TheVariants as fault
use Rattle.readers.specs.declared.floor.Fixity.{Fixity}
use Rattle.readers.specs.declared.code.Code.{Code as ReadCode}
use Rattle.readers.specs.declared.code.Code.TheVariants as read_code
use Rattle.readers.specs.declared.fault.ReadError.{ReadError}
use Rattle.readers.specs.declared.fault.ReadError.TheVariants as errors
use Rattle.readers.specs.Language.{Viable}
use Rattle.sml_fix.specs.declared.fixities.Side.{Side}
use Rattle.sml_fix.specs.declared.fixities.Side.TheVariants.{Left, Right}
use Rattle.sml_fix.specs.declared.row.Group.{Group}
use Rattle.sml_fix.specs.declared.row.Part.{Part}
use Rattle.sml_fix.specs.declared.row.Cell.{Cell}
use Rattle.sml_fix.specs.declared.row.Grown.{Grown}
use Rattle.sml_fix.specs.Fixities.{Settings}
use Rattle.sml_fix.specs.Grouping.{grouped_on}
use Rattle.sml_fix.specs.Reading.{is_atom}

-- whether it is the right side
abbrev pub is_right : Side → Bool
is_right Left = false
is_right Right = true

-- a precedence and a side
abbrev pub fixity_of : Option (ℕ × Side) → Option Fixity
fixity_of None = None
fixity_of (Some s) = Some (record { tight = s.0; right = is_right s.1 })

-- what an identifier is in a row, and what another atom is
abbrev pub status : Settings → Option (List ℕ) → Option Fixity
status f None = None
status f (Some v) = fixity_of (f v)

-- the parts with their places from this one on
abbrev pub cells_from : Settings → ℕ → List Part → List Cell
cells_from f n [] = []
cells_from f n (p ∷ ps) = record { number = n; op = status f p.vid; place = p.place } ∷ cells_from f (suc n) ps

abbrev pub cells : Settings → List Part → List Cell
cells f row = cells_from f 0 row

-- whether there is a last part, and it is an atom
abbrev pub ends_in_atom : List Cell → Bool
ends_in_atom [] = false
ends_in_atom (c ∷ []) = is_atom c
ends_in_atom (c ∷ d ∷ cs) = ends_in_atom (d ∷ cs)

-- the group is one of the row, where operators may clash or not
abbrev pub Grouping : Bool → Group → List Cell → Type 0
Grouping b g w = (x : Grown) × (x.group ≡ g) × (n : ℕ) × grouped_on n b x w

abbrev pub Groups : Settings → List Part → Group → Type 0
Groups f row g = Grouping false g (cells f row)

-- these parts and no more go on, and the code says whether they would if operators might clash
pub record Refused (f : Settings) (row : List Part) (place : Place) (code : Code) : Type 0 where
  pub read : List Cell
  pub next : Cell
  pub rest : List Cell
  pub parts : cells f row ≡ read ++ next ∷ rest
  pub stands : next.place ≡ place
  -- some row that begins so has a group
  pub viable : Viable (Grouping false) read
  -- none that goes on with the next part has one
  pub least : Viable (Grouping false) (read ++ next ∷ []) → ⊥
  -- also where operators may clash
  pub grammar : code ≡ Grammar → Viable (Grouping true) (read ++ next ∷ []) → ⊥
  -- one has, where operators may clash
  pub clash : code ≡ FixityClash → Viable (Grouping true) (read ++ next ∷ [])
  pub codes : (code ≡ Grammar) ⊎ (code ≡ FixityClash)

-- the answer is this group, unless memory ran out
abbrev pub GivesGroup : Result Group Fault → Group → Type 0
GivesGroup (Ok x) g = x ≡ g
GivesGroup (Err (fault.NoMemory e)) g = Unit {0}
GivesGroup (Err (fault.Refused r)) g = ⊥

-- a refusal is of such a place with such a code
abbrev pub RefusesAs : (Place → Code → Type 0) → Result Group Fault → Type 0
RefusesAs P (Ok x) = Unit {0}
RefusesAs P (Err (fault.NoMemory e)) = Unit {0}
RefusesAs P (Err (fault.Refused r)) = P r.place r.code

-- a refused part as a fault: a refusal for want of room, or at the end, is one of memory
abbrev pub fault_at : ReadCode → List Cell → Fault
fault_at read_code.Grammar (c ∷ rest) = fault.Refused (record { place = c.place; code = Grammar })
fault_at read_code.FixityClash (c ∷ rest) = fault.Refused (record { place = c.place; code = FixityClash })
fault_at read_code.Depth (c ∷ rest) = fault.NoMemory (record {})
fault_at code [] = fault.NoMemory (record {})

abbrev pub FaultOf : ReadError Cell → Fault → Type 0
FaultOf errors.NoMemory f = f ≡ fault.NoMemory (record {})
FaultOf (errors.Refused code rest) f = f ≡ fault_at code rest.now
