-- What is read is exactly what the rules of grouping give.
use Rattle.std.proofs.Common.{◌≡◌, ℕ, zero, suc, Bool, true, false, not, ◌&&◌, List, ◌∷◌, Option, Some, None, refl}
use Rattle.readers.specs.declared.floor.Fixity.{Fixity}
use Rattle.readers.specs.declared.floor.Floor.{Floor}
use Rattle.readers.specs.Reader.{head_is, token_by}
use Rattle.readers.specs.Language.{Shows}
use Rattle.readers.specs.Room.{Room, at_height}
use Rattle.readers.specs.Exact.{Reads, always, row_stop}
use Rattle.readers.specs.Infix.{ground, seen_by, reaches}
use Rattle.readers.proofs.Mapped.{reads_stop}
use Rattle.readers.proofs.Token.{token_reads}
use Rattle.readers.proofs.Choice.{shut_sound}
use Rattle.readers.proofs.Row.{rows_reads, row_stop_alone}
use Rattle.readers.proofs.First.{shows_begins}
use Rattle.readers.proofs.Ground.{ground_any, ground_seen}
use Rattle.readers.proofs.InfixRow.{On, ends, infix_reads}
use Rattle.sml_fix.specs.declared.row.Cell.{Cell}
use Rattle.sml_fix.specs.declared.row.Grown.{Grown}
use Rattle.sml_fix.specs.declared.row.Operator.{Operator}
use Rattle.sml_fix.specs.Grouping.{when_atom, when_operator, atom, operator, tight, right, top, tall, apply_of, infix_of, Atoms, grouped_on}
use Rattle.sml_fix.specs.Reading.{is_none, is_atom, atoms_read, group_read}
use Rattle.sml_fix.proofs.Heights.{group_on, atoms_on, rows}

-- ---- what cannot follow

abbrev pub atoms_stop : Option Cell → Bool
atoms_stop o = not (head_is is_atom o)

pub operator_stops : (c : Cell) (v : Operator) → operator c ≡ Some v → atoms_stop (Some c) ≡ true
operator_stops c v e = go c.op e
  where
    go : (o : Option Fixity) → when_operator o c.number ≡ Some v → not (is_none o) ≡ true
    go None e = absurd cc
    go (Some f) e = refl

pub atom_is : (c : Cell) (n : ℕ) → atom c ≡ Some n → is_atom c ≡ true
atom_is c n e = go c.op e
  where
    go : (o : Option Fixity) → when_atom o c.number ≡ Some n → is_none o ≡ true
    go None e = refl
    go (Some f) e = absurd cc

abbrev pub row_ends : Floor → Option Cell → Bool
row_ends = ends tight right operator top tall apply_of infix_of atoms_on group_on rows atoms_stop operator_stops

abbrev pub OnFloor : Room → Floor → Grown → List Cell → Type 0
OnFloor = On tight right operator top tall apply_of infix_of atoms_on group_on rows

-- ---- reading

pub atoms_exact : Reads Atoms (λ x. atoms_stop) atoms_read
atoms_exact = reads_stop Atoms (λ x. row_stop is_atom always (x.0 ∷ x.1)) (λ x. atoms_stop) atoms_read (λ x o. row_stop_alone is_atom (x.0 ∷ x.1) o)
    (rows_reads is_atom always (Shows atom) (λ n w d. shows_begins atom is_atom atom_is n w d) (λ x o e. refl) (token_by atom) (token_reads atom))

pub group_exact : (h : ℕ) (b : Bool) (n : Floor) → Reads (OnFloor (at_height h b) n) (λ t. row_ends n) (group_read h b n)
unfolding grouped_on group_read
group_exact zero b n = shut_sound (OnFloor (at_height zero b) n) (λ t. row_ends n) is_atom (λ t w d. d.1)
group_exact (suc h) b n =
    infix_reads tight right operator top tall apply_of infix_of atoms_on group_on rows atoms_stop operator_stops (at_height h b) n atoms_read (λ m. group_read h b m) atoms_exact (λ m. group_exact h b m)

-- on the ground every row stands, and only the end stops it
pub ground_ends : (c : Cell) → row_ends ground (Some c) ≡ false
ground_ends c = go c.op
  where
    go : (o : Option Fixity) → (not (is_none o) && not (seen_by tight right operator top tall apply_of infix_of (reaches tight right ground) (when_operator o c.number))) ≡ false
    go None = refl
    go (Some f) = rw (ground_seen tight right operator top tall apply_of infix_of (when_operator (Some f) c.number)) refl

pub ground_reads : (h : ℕ) (b : Bool) → Reads (grouped_on h b) (λ t. row_ends ground) (group_read h b ground)
ground_reads h b = let P = group_exact h b ground in record {
  complete = λ t w r d st. P.complete t w r (ground_any tight right b (top t), d) st;
  sound = λ s z e. let f = P.sound s z e in record { read = f.read; derives = f.derives.1; parts = f.parts; stops = f.stops };
}
