-- Where reading fails, the part is the first with which no group goes on, and the code is right.
use Rattle.std.proofs.Common.{◌≡◌, ℕ, zero, suc, ◌≤◌, Bool, true, false, List, [], ◌∷◌, Option, Some, None, Err, refl, arith, inl, inr}
use Rattle.readers.specs.declared.code.Code.{Code}
use Rattle.readers.specs.declared.code.Code.TheVariants.{Grammar}
use Rattle.readers.specs.declared.floor.Fixity.{Fixity}
use Rattle.readers.specs.declared.floor.Floor.{Floor}
use Rattle.readers.specs.Reader.{first, head_is, token_by, row, Reader}
use Rattle.readers.specs.Language.{Shows, Row, Viable}
use Rattle.readers.specs.Room.{Room, at_height}
use Rattle.readers.specs.Exact.{Refuses, always}
use Rattle.readers.specs.Infix.{ground, infix_read}
use Rattle.readers.proofs.Mapped.{more, raised_refuses}
use Rattle.readers.proofs.Pair.{both_refuses}
use Rattle.readers.proofs.Token.{token_reads, token_refuses}
use Rattle.readers.proofs.Choice.{shut_refuses}
use Rattle.readers.proofs.Row.{row_refuses}
use Rattle.readers.proofs.First.{shows_begins}
use Rattle.readers.proofs.InfixRow.{infix_refuses}
use Rattle.sml_fix.specs.declared.row.Cell.{Cell}
use Rattle.sml_fix.specs.declared.row.Grown.{Grown}
use Rattle.sml_fix.specs.Grouping.{atom, when_atom, operator, tight, right, top, tall, apply_of, infix_of, grouped_on}
use Rattle.sml_fix.specs.Reading.{is_none, is_atom, atoms_read, group_read}
use Rattle.sml_fix.proofs.Heights.{group_on, atoms_on, rows}
use Rattle.sml_fix.proofs.Exact.{atoms_stop, operator_stops, atom_is, OnFloor, atoms_exact, group_exact}

abbrev pub group_at : Floor → Room → Reader Cell Grown
group_at n k = group_read k.height k.clashes n

-- some row: an atom
abbrev pub one_atom : Cell
one_atom = record { number = 0; op = None; place = record { source = 0; line = 0; col = 0; byte = 0 } }

pub some_on : (h : ℕ) (b : Bool) → 1 ≤ h → grouped_on h b (apply_of (0, [])) (one_atom ∷ [])
unfolding grouped_on
some_on zero b le = absurd (omega (arith, le))
some_on (suc h) b le = inl ((0, []), refl, record { front = one_atom ∷ []; back = []; left = record { token = one_atom; shows = refl; whole = refl }; right = refl; whole = refl })

atoms_refuse : (h : Room) (s : List Cell) (e : Code × List Cell) → atoms_read s ≡ Err e → Refuses (λ k. atoms_on (more k)) (λ k. atoms_read) h s e
atoms_refuse h s e i =
    both_refuses (λ k. Shows atom) (λ k. Row (Shows atom)) always (λ k. token_by atom) (λ k. row is_atom (token_by atom)) (λ k. token_reads atom) (λ h k x w u d. d) (λ h k x w u d. d) h
    (record { tree = []; more = []; derives = refl }) (token_refuses atom h)
    (row_refuses is_atom always (λ k. Shows atom) (λ h n w d. shows_begins atom is_atom atom_is n w d) (λ h k x w u d. d) (λ k. token_by atom) (λ k. token_reads atom) h (token_refuses atom h)) s e i

atom_starts : (n : Floor) (c : Cell) → is_atom c ≡ true → (b : Bool) → (h : ℕ) × Viable (OnFloor (at_height h b) n) (c ∷ [])
unfolding grouped_on
atom_starts n c e b = (1, record { tree = apply_of (c.number, []); more = []; derives = (tt, inl ((c.number, []), refl, record { front = c ∷ []; back = []; left = record { token = c; shows = shown c.op e; whole = refl }; right = refl; whole = refl })) })
  where
    shown : (o : Option Fixity) → is_none o ≡ true → when_atom o c.number ≡ Some c.number
    shown None e = refl
    shown (Some f) e = absurd cc

no_atom : (n : Floor) (k : Room) (s : List Cell) → head_is is_atom (first s) ≡ false → group_read k.height k.clashes n s ≡ Err (Grammar, s)
unfolding group_read
no_atom n k s e = go k.height k.clashes s e
  where
    none : (c : Cell) (s : List Cell) (o : Option Fixity) → is_none o ≡ false → when_atom o c.number ≡ None
    none c s None e = absurd cc
    none c s (Some f) e = refl

    go : (h : ℕ) (b : Bool) (s : List Cell) → head_is is_atom (first s) ≡ false → group_read h b n s ≡ Err (Grammar, s)
    go zero b s e = rw e refl
    go (suc h) b [] e = refl
    go (suc h) b (c ∷ s) e = rw (none c s c.op e) refl

pub group_refuses : (h : ℕ) (b : Bool) (n : Floor) (s : List Cell) (e : Code × List Cell) → group_read h b n s ≡ Err e → Refuses (λ k. OnFloor k n) (group_at n) (at_height h b) s e
unfolding grouped_on group_read
group_refuses zero b n s e i = shut_refuses (λ k. OnFloor k n) (group_at n) is_atom (λ b s. refl) (atom_starts n) (no_atom n) b s e i
group_refuses (suc h) b n s e i =
    raised_refuses (λ k. OnFloor (more k) n) (λ k. OnFloor k n)
    (λ k. infix_read tight right operator top tall apply_of infix_of atoms_read (λ m. group_read k.height k.clashes m) k n)
    (group_at n) (λ k s. refl) (λ k t w d. d) (at_height h b) s e
    (infix_refuses tight right operator top tall apply_of infix_of atoms_on group_on rows atoms_stop operator_stops 1 (λ t. omega arith)
    (λ k le. (apply_of (0, []), one_atom ∷ [], refl, some_on k.height k.clashes le))
    (λ k. atoms_read) (λ k m. group_read k.height k.clashes m)
    (λ k. atoms_exact) (λ k m. group_exact k.height k.clashes m) (at_height h b)
    (atoms_refuse (at_height h b)) (λ m s e i. group_refuses h b m s e i) n s e i)

pub ground_refuses : (h : ℕ) (b : Bool) (s : List Cell) (e : Code × List Cell) → group_read h b ground s ≡ Err e → Refuses group_on (group_at ground) (at_height h b) s e
ground_refuses h b s e i = let g = group_refuses h b ground s e i in record {
  read = g.read;
  parts = g.parts;
  local = g.local;
  viable = elim g.viable [ inl z ↦ inl z | inr v ↦ inr (record { tree = v.tree; more = v.more; derives = v.derives.1 }) ];
  deep = λ dp. let d = g.deep dp in let v = d.viable in record { room = d.room; eased = d.eased; token = d.token; is = d.is; viable = record { tree = v.tree; more = v.more; derives = v.derives.1 } };
}
