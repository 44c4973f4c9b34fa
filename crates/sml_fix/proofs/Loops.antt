-- The readers as the code goes through them.
use Rattle.std.proofs.Common.{◌≡◌, ℕ, suc, ◌+◌, ◌-◌, ◌<◌, Bool, true, false, cond, List, [], ◌∷◌, length, Option, Some, None, Ok, Err, refl, sym, ap, subst, ◌∙◌, arith, inl, inr}
use Rattle.std.proofs.lemmas.List.{length-append}
use Rattle.std.specs.Option.{option_map}
use Rattle.readers.specs.declared.code.Code.{Code}
use Rattle.readers.specs.declared.code.Code.TheVariants.{Grammar, Depth}
use Rattle.readers.specs.declared.floor.Fixity.{Fixity}
use Rattle.readers.specs.declared.floor.Floor.{Floor}
use Rattle.readers.specs.declared.fault.ReadError.{ReadError}
use Rattle.readers.specs.declared.fault.ReadError.TheVariants as errors
use Rattle.readers.specs.Reader.{first, head_is, Answer, ◌>>=◌, mapped, token_by, row, steps, with_front, seen, barred, unless}
use Rattle.readers.specs.Language.{Shows}
use Rattle.readers.specs.Room.{at_height}
use Rattle.readers.specs.Exact.{always}
use Rattle.readers.specs.Given.{Fails}
use Rattle.readers.specs.Infix as rows_of
use Rattle.readers.proofs.Outcome.{ok_of, err_of, ok_is, not_both}
use Rattle.readers.proofs.Guard.{unless_ok}
use Rattle.readers.proofs.Token.{token_reads}
use Rattle.readers.proofs.First.{shows_begins}
use Rattle.readers.proofs.RowLoop.{Shortens, shortens, row_more, row_done, row_fails}
use Rattle.readers.proofs.StepLoop.{ended, infix_loop, state_turn, state_end, state_fails}
use Rattle.sml_fix.specs.declared.row.Cell.{Cell}
use Rattle.sml_fix.specs.declared.row.Grown.{Grown}
use Rattle.sml_fix.specs.declared.row.Operator.{Operator}
use Rattle.sml_fix.specs.Grouping.{atom, operator, tight, right, top, tall, span, apply_of, infix_of}
use Rattle.sml_fix.specs.Reading.{is_atom, atoms_read, group_read, taken, joined, suffix, spanned}
use Rattle.sml_fix.proofs.Exact.{atom_is, group_exact}

-- ---- atoms

atom_less : Shortens (token_by atom)
atom_less = shortens is_atom (Shows atom) always (token_by atom) (λ n w d. shows_begins atom is_atom atom_is n w d) (token_reads atom)

abbrev paired : ℕ × List ℕ → List Cell → Answer Cell (ℕ × List ℕ)
paired x s = Ok (x, s)

pub span_first : (s r : List Cell) (i : ℕ) → token_by atom s ≡ Ok (i, r) → mapped apply_of atoms_read s ≡ spanned i (suc i) (row is_atom (token_by atom) r)
span_first s r i e = rw e (go (row is_atom (token_by atom) r))
  where
    go : (q : Answer Cell (List ℕ)) → ((q >>= λ y. paired (i, y.0) y.1) >>= λ x. Ok (apply_of x.0, x.1)) ≡ spanned i (suc i) q
    go (Ok y) = refl
    go (Err e) = refl

-- one more atom, and the end
pub span_turn : (all : Answer Cell Grown) (i end a : ℕ) (s r : List Cell) → all ≡ spanned i end (row is_atom (token_by atom) s) → head_is is_atom (first s) ≡ true → token_by atom s ≡ Ok (a, r)
    → all ≡ spanned i (suc end) (row is_atom (token_by atom) r)
span_turn all i end a s r inv h e = inv ∙ (ap (spanned i end) (row_more is_atom (token_by atom) atom_less s (a, r) h e) ∙ go (row is_atom (token_by atom) r))
  where
    go : (q : Answer Cell (List ℕ)) → spanned i end (with_front (a ∷ []) q) ≡ spanned i (suc end) q
    go (Ok y) = let same : end + suc (length y.0) ≡ suc end + length y.0 = omega arith in ap (λ (n : ℕ). Ok (span i n, y.1)) same
    go (Err e) = refl

pub span_end : (all : Answer Cell Grown) (i end : ℕ) (s : List Cell) → all ≡ spanned i end (row is_atom (token_by atom) s) → head_is is_atom (first s) ≡ false → all ≡ Ok (span i end, s)
span_end all i end s inv h =
    let none : end + 0 ≡ end = omega arith in
    inv ∙ (ap (spanned i end) (row_done is_atom (token_by atom) atom_less s h) ∙ ap (λ (n : ℕ). Ok (span i n, s)) none)

pub span_fails : (f : ReadError Cell) (all : Answer Cell Grown) (i end : ℕ) (s : List Cell) → all ≡ spanned i end (row is_atom (token_by atom) s) → head_is is_atom (first s) ≡ true → Fails f (token_by atom s) → Fails f all
span_fails errors.NoMemory all i end s inv h e = tt
span_fails (errors.Refused code rest) all i end s inv h e = inv ∙ ap (spanned i end) (row_fails is_atom (token_by atom) atom_less s (code, rest.now) h e)

pub atoms_fail : (f : ReadError Cell) (s : List Cell) → Fails f (token_by atom s) → Fails f (mapped apply_of atoms_read s)
atoms_fail errors.NoMemory s e = tt
atoms_fail (errors.Refused code rest) s e = rw e refl

pub atom_length : (s r : List Cell) (a : ℕ) → token_by atom s ≡ Ok (a, r) → length r < length s
atom_length s r a e = atom_less s (a, r) e

-- ---- operators

suffix_parts : (h : ℕ) (n : Floor) (x : Grown) (s : List Cell) (z : (Operator × Grown) × List Cell) → suffix h n x s ≡ Ok z
    → (r : List Cell) × (token_by operator s ≡ Ok (z.0.0, r)) × (group_read h false (rows_of.floor_of tight right z.0.0) r ≡ Ok (z.0.1, z.1))
suffix_parts h n x s z e =
    let a = unless_ok _ s _ z e in
    let b = ok_of (token_by operator s) (λ y. group_read h false (rows_of.floor_of tight right y.0) y.1 >>= λ t. Ok ((y.0, t.0), t.1)) z a.1 in
    let c = ok_of (group_read h false (rows_of.floor_of tight right b.0.0) b.0.1) (λ t. Ok ((b.0.0, t.0), t.1)) z b.2 in
    let same : ((b.0.0, c.0.0), c.0.1) ≡ z = ok_is ((b.0.0, c.0.0), c.0.1) z c.2 in
    subst (λ (z : (Operator × Grown) × List Cell). (r : List Cell) × (token_by operator s ≡ Ok (z.0.0, r)) × (group_read h false (rows_of.floor_of tight right z.0.0) r ≡ Ok (z.0.1, z.1))) same (b.0.1, b.1, c.1)

suffix_less : (h : ℕ) (n : Floor) (x : Grown) → Shortens (suffix h n x)
suffix_less h n x s z e =
    let p = suffix_parts h n x s z e in
    let f = (token_reads operator).sound s (z.0.0, p.0) p.1 in
    let g = (group_exact h false (rows_of.floor_of tight right z.0.0)).sound p.0 (z.0.1, z.1) p.2 in
    let one : length f.read ≡ 1 = ap (λ (w : List Cell). length w) f.derives.whole in
    omega (arith, ap length f.parts, length-append f.read p.0, ap length g.parts, length-append g.read z.1, one)

-- what the operator's test says of its fixity alone
pub judge_same : (h : ℕ) (n : Floor) (x : Grown) (v : Operator) → rows_of.judge tight right (at_height h false) n x.top (tall x) v
    ≡ rows_of.judge (λ (f : Fixity). f.tight) (λ (f : Fixity). f.right) (at_height h false) n (option_map (λ (v : Operator). v.fixity) x.top) (tall x) v.fixity
judge_same h n x v = go x.top
  where
    go : (o : Option Operator) → rows_of.judge tight right (at_height h false) n o (tall x) v ≡ rows_of.judge (λ (f : Fixity). f.tight) (λ (f : Fixity). f.right) (at_height h false) n (option_map (λ (v : Operator). v.fixity) o) (tall x) v.fixity
    go None = refl
    go (Some u) = refl

-- the token of an operator
shows : (c : Cell) (s r : List Cell) (v : Operator) → token_by operator (c ∷ s) ≡ Ok (v, r) → operator c ≡ Some v
shows c s r v e = go (operator c) e
  where
    go : (o : Option Operator) → seen o c s ≡ Ok (v, r) → o ≡ Some v
    go None e = absurd cc
    go (Some u) e = let same = ok_is (u, s) (v, r) e in ap (λ (z : Operator × List Cell). Some z.0) same

bar_is : (h : ℕ) (n : Floor) (x : Grown) (s r : List Cell) (v : Operator) → token_by operator s ≡ Ok (v, r)
    → barred (rows_of.bar tight right operator top tall apply_of infix_of (at_height h false) n x) (first s) ≡ rows_of.judge tight right (at_height h false) n x.top (tall x) v
bar_is h n x [] r v e = absurd cc
bar_is h n x (c ∷ s) r v e = ap (rows_of.bars tight right operator top tall apply_of infix_of (at_height h false) n x) (shows c s r v e)

suffix_is : (h : ℕ) (n : Floor) (x : Grown) (s r : List Cell) (v : Operator) (o : Option Code) → token_by operator s ≡ Ok (v, r) → rows_of.judge tight right (at_height h false) n x.top (tall x) v ≡ o
    → suffix h n x s ≡ unless o s (group_read h false (rows_of.floor_of tight right v) r >>= λ t. Ok ((v, t.0), t.1))
suffix_is h n x s r v o e j = rw (bar_is h n x s r v e ∙ j) (rw e refl)

module _ (h : ℕ) (n : Floor) (all : Answer Cell Grown) (x : Grown) (s r : List Cell) (v : Operator) (inv : all ≡ ended joined x (steps (taken n) joined (suffix h n) x s)) (next : head_is (taken n) (first s) ≡ true) (e : token_by operator s ≡ Ok (v, r)) where
  -- one more operator
  pub row_turn : (t : Grown) (z : List Cell) → rows_of.judge tight right (at_height h false) n x.top (tall x) v ≡ None → group_read h false (rows_of.floor_of tight right v) r ≡ Ok (t, z)
      → all ≡ ended joined (infix_of x v t) (steps (taken n) joined (suffix h n) (infix_of x v t) z)
  row_turn t z j i = state_turn (taken n) joined (suffix h n) (suffix_less h n) x s ((v, t), z) all inv next (suffix_is h n x s r v None e j ∙ rw i refl)

  -- an operator that may not stand here
  pub row_barred : (code : Code) → rows_of.judge tight right (at_height h false) n x.top (tall x) v ≡ Some code → all ≡ Err (code, s)
  row_barred code j = state_fails (taken n) joined (suffix h n) (suffix_less h n) x s (code, s) all inv next (suffix_is h n x s r v (Some code) e j)

  -- no row on its right
  pub row_inner : (f : ReadError Cell) → rows_of.judge tight right (at_height h false) n x.top (tall x) v ≡ None → Fails f (group_read h false (rows_of.floor_of tight right v) r) → Fails f all
  row_inner errors.NoMemory j i = tt
  row_inner (errors.Refused code rest) j i = state_fails (taken n) joined (suffix h n) (suffix_less h n) x s (code, rest.now) all inv next (suffix_is h n x s r v None e j ∙ rw i refl)

  pub row_less : (t : Grown) (z : List Cell) → rows_of.judge tight right (at_height h false) n x.top (tall x) v ≡ None → group_read h false (rows_of.floor_of tight right v) r ≡ Ok (t, z) → length z < length s
  row_less t z j i = suffix_less h n x s ((v, t), z) (suffix_is h n x s r v None e j ∙ rw i refl)

-- the token that was to be an operator is none
pub no_operator : (f : ReadError Cell) (h : ℕ) (n : Floor) (all : Answer Cell Grown) (x : Grown) (s : List Cell) → all ≡ ended joined x (steps (taken n) joined (suffix h n) x s) → head_is (taken n) (first s) ≡ true
    → Fails f (token_by operator s) → Fails f all
no_operator errors.NoMemory h n all x s inv next e = tt
no_operator (errors.Refused code rest) h n all x [] inv next e = absurd cc
no_operator (errors.Refused code rest) h n all x (c ∷ s) inv next e = absurd (go (operator c) next e)
  where
    go : (o : Option Operator) → rows_of.seen_by tight right operator top tall apply_of infix_of (rows_of.reaches tight right n) o ≡ true → seen o c s ≡ Err (code, rest.now) → ⊥
    go None i e = absurd cc
    go (Some u) i e = absurd cc

pub row_end : (h : ℕ) (n : Floor) (all : Answer Cell Grown) (x : Grown) (s : List Cell) → all ≡ ended joined x (steps (taken n) joined (suffix h n) x s) → head_is (taken n) (first s) ≡ false → all ≡ Ok (x, s)
row_end h n all x s inv next = state_end (taken n) joined (suffix h n) (suffix_less h n) x s all inv next

-- ---- a row from its first atoms on

first_suc : (h : ℕ) (n : Floor) (s r : List Cell) (x : Grown) → mapped apply_of atoms_read s ≡ Ok (x, r) → group_read (suc h) false n s ≡ ended joined x (steps (taken n) joined (suffix h n) x r)
unfolding group_read
first_suc h n s r x e =
    let a = ok_of (atoms_read s) (λ y. Ok (apply_of y.0, y.1)) (x, r) e in
    let same = ok_is (apply_of a.0.0, a.0.1) (x, r) a.2 in
    infix_loop tight right operator top tall apply_of infix_of atoms_read (λ m. group_read h false m) (at_height h false) n s a.0.1 a.0.0 a.1
    ∙ ap (λ (z : Grown × List Cell). ended joined z.0 (steps (taken n) joined (suffix h n) z.0 z.1)) same

pub row_first : (h : ℕ) (n : Floor) (s r : List Cell) (x : Grown) → 0 < h → mapped apply_of atoms_read s ≡ Ok (x, r) → group_read h false n s ≡ ended joined x (steps (taken n) joined (suffix (h - 1) n) x r)
row_first h n s r x lt e =
    let same : h ≡ suc (h - 1) = omega arith in
    subst (λ (k : ℕ). group_read k false n s ≡ ended joined x (steps (taken n) joined (suffix (h - 1) n) x r)) (sym same) (first_suc (h - 1) n s r x e)

fails_suc : (h : ℕ) (n : Floor) (s : List Cell) (e : Code × List Cell) → mapped apply_of atoms_read s ≡ Err e → group_read (suc h) false n s ≡ Err e
unfolding group_read
fails_suc h n s e i =
    elim (err_of (atoms_read s) (λ y. Ok (apply_of y.0, y.1)) e i) [
      | inl a ↦ rw a refl
      | inr a ↦ not_both (apply_of a.0.0, a.0.1) e a.2
    ]

pub first_fails : (f : ReadError Cell) (h : ℕ) (n : Floor) (s : List Cell) → 0 < h → Fails f (mapped apply_of atoms_read s) → Fails f (group_read h false n s)
first_fails errors.NoMemory h n s lt e = tt
first_fails (errors.Refused code rest) h n s lt e =
    let same : h ≡ suc (h - 1) = omega arith in
    subst (λ (k : ℕ). group_read k false n s ≡ Err (code, rest.now)) (sym same) (fails_suc (h - 1) n s (code, rest.now) e)

abbrev the_err : Code → List Cell → Answer Cell Grown
the_err code s = Err (code, s)

-- no room at all
pub no_room : (h : ℕ) (n : Floor) (s : List Cell) (b : Bool) (code : Code) → h ≡ 0 → b ≡ head_is is_atom (first s) → code ≡ cond b Depth Grammar → group_read h false n s ≡ Err (code, s)
unfolding group_read
no_room h n s b code z e i = rw z (go b (head_is is_atom (first s)) e i)
  where
    go : (b d : Bool) → b ≡ d → code ≡ cond b Depth Grammar → cond d (the_err Depth s) (the_err Grammar s) ≡ the_err code s
    go true true e i = rw i refl
    go false false e i = rw i refl
    go true false e i = absurd cc
    go false true e i = absurd cc

-- the test of the code is that of the reader
pub judged_by : (h : ℕ) (n : Floor) (x : Grown) (v : Operator) (o : Option Fixity) (m : ℕ) (r : Option Code) → o ≡ option_map (λ (v : Operator). v.fixity) x.top → m ≡ tall x
    → r ≡ rows_of.judge (λ (f : Fixity). f.tight) (λ (f : Fixity). f.right) (at_height h false) n o m v.fixity → rows_of.judge tight right (at_height h false) n x.top (tall x) v ≡ r
judged_by h n x v o m r i j k =
    judge_same h n x v
    ∙ (ap (λ (o : Option Fixity). rows_of.judge (λ (f : Fixity). f.tight) (λ (f : Fixity). f.right) (at_height h false) n o (tall x) v.fixity) (sym i)
    ∙ (ap (λ (m : ℕ). rows_of.judge (λ (f : Fixity). f.tight) (λ (f : Fixity). f.right) (at_height h false) n o m v.fixity) (sym j) ∙ sym k))

-- on the floor that the code computed
pub on_floor : (h : ℕ) (v : Operator) (n : Floor) (r : List Cell) (z : Grown × List Cell) → n ≡ rows_of.floor_of tight right v → group_read h false n r ≡ Ok z → group_read h false (rows_of.floor_of tight right v) r ≡ Ok z
on_floor h v n r z e i = ap (λ (n : Floor). group_read h false n r) (sym e) ∙ i

pub fails_on_floor : (f : ReadError Cell) (h : ℕ) (v : Operator) (n : Floor) (r : List Cell) → n ≡ rows_of.floor_of tight right v → Fails f (group_read h false n r) → Fails f (group_read h false (rows_of.floor_of tight right v) r)
fails_on_floor f h v n r e i = subst (λ (n : Floor). Fails f (group_read h false n r)) e i
