-- Reading groups from the left.
use Rattle.std.specs.Prelude.{ℕ, zero, suc, ◌+◌, length, Bool, true, false, List, Option, Some, None, Ok}
use Rattle.readers.specs.declared.floor.Fixity.{Fixity}
use Rattle.readers.specs.declared.floor.Floor.{Floor}
use Rattle.readers.specs.Reader.{Answer, Reader, ◌>>=◌, both, token_by, shut, row}
use Rattle.readers.specs.Room.{at_height}
use Rattle.readers.specs.Infix.{infix_read, takes, wrap, suffix_read}
use Rattle.sml_fix.specs.declared.row.Cell.{Cell}
use Rattle.sml_fix.specs.declared.row.Grown.{Grown}
use Rattle.sml_fix.specs.declared.row.Operator.{Operator}
use Rattle.sml_fix.specs.Grouping.{span, atom, operator, tight, right, top, tall, apply_of, infix_of}

-- whether the part is an atom
abbrev pub is_none : Option Fixity → Bool
is_none None = true
is_none (Some f) = false

abbrev pub is_atom : Cell → Bool
is_atom c = is_none c.op

-- one atom or more
abbrev pub atoms_read : Reader Cell (ℕ × List ℕ)
atoms_read = both (token_by atom) (row is_atom (token_by atom))

-- a row that stands on a floor
unfoldable pub group_read : ℕ → Bool → Floor → Reader Cell Grown
group_read zero b n s = shut is_atom s
group_read (suc h) b n s = infix_read tight right operator top tall apply_of infix_of atoms_read (λ m. group_read h b m) (at_height h b) n s

-- whether an operator comes that may follow on this floor
abbrev pub taken : Floor → Cell → Bool
taken = takes tight right operator top tall apply_of infix_of

-- what was read, with one more operator and what stands on its right
abbrev pub joined : Grown → Operator × Grown → Grown
joined = wrap tight right operator top tall apply_of infix_of

-- an operator, and what stands on its right
abbrev pub suffix : ℕ → Floor → Grown → Reader Cell (Operator × Grown)
suffix h = suffix_read tight right operator top tall apply_of infix_of (λ m. group_read h false m) (at_height h false)

-- what is read of a span, where these atoms are still to come
abbrev pub spanned : ℕ → ℕ → Answer Cell (List ℕ) → Answer Cell Grown
spanned i end r = r >>= λ y. Ok (span i (end + length y.0), y.1)
