-- Which groups a row of atoms and operators has.
use Rattle.std.specs.Prelude.{ℕ, zero, suc, ◌+◌, Bool, List, length, max, Option, Some, None}
use Rattle.readers.specs.declared.floor.Fixity.{Fixity}
use Rattle.readers.specs.Language.{Joined, Shows, Row, As, Or}
use Rattle.readers.specs.Infix.{Left, AboveTop, floor_of}
use Rattle.sml_fix.specs.declared.row.Group.TheVariants as group
use Rattle.sml_fix.specs.declared.row.Operator.{Operator}
use Rattle.sml_fix.specs.declared.row.Cell.{Cell}
use Rattle.sml_fix.specs.declared.row.Grown.{Grown}

-- the place of an atom
abbrev pub when_atom : Option Fixity → ℕ → Option ℕ
when_atom None n = Some n
when_atom (Some f) n = None

abbrev pub atom : Cell → Option ℕ
atom c = when_atom c.op c.number

-- an operator
abbrev pub when_operator : Option Fixity → ℕ → Option Operator
when_operator None n = None
when_operator (Some f) n = Some (record { number = n; fixity = f })

abbrev pub operator : Cell → Option Operator
operator c = when_operator c.op c.number

-- how tight it binds, and whether to the right
abbrev pub tight : Operator → ℕ
tight v = v.fixity.tight

abbrev pub right : Operator → Bool
right v = v.fixity.right

-- the operator at the top
abbrev pub top : Grown → Option Operator
top x = x.top

-- the height, and at least that of atoms
abbrev pub tall : Grown → ℕ
tall x = max 1 x.height

-- atoms from a place to before another
abbrev pub span : ℕ → ℕ → Grown
span i end = record { group = group.Apply i end; top = None; height = 1 }

-- the first atom, and the others
abbrev pub apply_of : ℕ × List ℕ → Grown
apply_of x = span x.0 (suc x.0 + length x.1)

-- an operator between what it binds
abbrev pub infix_of : Grown → Operator → Grown → Grown
infix_of l v r = record { group = group.Op v.number l.group r.group; top = Some v; height = suc (max l.height r.height) }

abbrev pub infixed : Grown × (Operator × Grown) → Grown
infixed x = infix_of x.0 x.1.0 x.1.1

-- one atom or more
abbrev pub Atoms : ℕ × List ℕ → List Cell → Type 0
Atoms x = Joined (Shows atom x.0) (Row (Shows atom) x.1)

-- an operator between two rows: what stands on its left may stand there, and what stands on its right
abbrev pub Between : (Grown → List Cell → Type 0) → Bool → Grown × (Operator × Grown) → List Cell → Type 0
Between E b x w =
    Left tight right b x.0.top x.1.0 × AboveTop tight right b (floor_of tight right x.1.0) x.1.1.top
    × Joined (E x.0) (Joined (Shows operator x.1.0) (E x.1.1)) w

-- a group of at most this height is one of the row, where operators may clash or not
unfoldable pub grouped_on : ℕ → Bool → Grown → List Cell → Type 0
grouped_on zero b t w = ⊥
grouped_on (suc h) b t w = Or (As apply_of Atoms) (As infixed (Between (grouped_on h b) b)) t w
