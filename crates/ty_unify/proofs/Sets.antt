-- A fact of each cell, before and after one write.
use Rattle.std.proofs.Common.{◌≡◌, ℕ, ◌<◌, List, length, arith, sym, subst, inl, inr, get_or-set_same, get_or-set_other}
use Rattle.std.specs.Prelude.{slice_set, slice_index_or}
use Rattle.std.proofs.lemmas.Bool.{cases_eq}
use Rattle.std.proofs.lemmas.Grind.{common_steps}
use Rattle.ty_unify.specs.declared.cell.Cell.{Cell}
use Rattle.ty_unify.specs.Cells.{cell_at, open_cell}

pub each_set : (P : Cell → ℕ → Type 0) (cells : List Cell) (k : ℕ) (c : Cell) → k < length cells → ((i : ℕ) → (i ≡ k → ⊥) → P (cell_at cells i) i) → P c k → (i : ℕ) → P (cell_at (slice_set cells k c) i) i
each_set P cells k c lt rest here i =
    elim (cases_eq i k) [
      | inl e ↦ subst (λ j. P (cell_at (slice_set cells k c) j) j) (sym e) (subst (λ x. P x k) (sym (get_or-set_same cells k c open_cell lt)) here)
      | inr ne ↦ subst (λ x. P x i) (sym (get_or-set_other cells k i c open_cell ne)) (rest i ne)
    ]

pub each_kept : (P : Cell → ℕ → Type 0) (cells : List Cell) (k : ℕ) (c : Cell) → ((i : ℕ) → P (cell_at (slice_set cells k c) i) i) → (i : ℕ) → (i ≡ k → ⊥) → P (cell_at cells i) i
each_kept P cells k c all i ne = subst (λ x. P x i) (get_or-set_other cells k i c open_cell ne) (all i)

pub each_here : (P : Cell → ℕ → Type 0) (cells : List Cell) (k : ℕ) (c : Cell) → k < length cells → ((i : ℕ) → P (cell_at (slice_set cells k c) i) i) → P c k
each_here P cells k c lt all = subst (λ x. P x k) (get_or-set_same cells k c open_cell lt) (all k)

-- all but one, and that one
pub each_and : (P : Cell → ℕ → Type 0) (cells : List Cell) (k : ℕ) → ((i : ℕ) → (i ≡ k → ⊥) → P (cell_at cells i) i) → P (cell_at cells k) k → (i : ℕ) → P (cell_at cells i) i
each_and P cells k rest here i =
    elim (cases_eq i k) [ inl e ↦ subst (λ j. P (cell_at cells j) j) (sym e) here | inr ne ↦ rest i ne ]

-- what was read of a place is its cell
pub read_is : (cells : List Cell) (i : ℕ) (x : Cell) → i < length cells → x ≡ slice_index_or cells i x → cell_at cells i ≡ x
read_is cells i x lt e = grind (arith, common_steps)
