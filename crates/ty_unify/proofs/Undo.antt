-- A log of the cells that were written over.
use Rattle.std.proofs.Common.{◌≡◌, ℕ, List, [], ◌∷◌, ◌++◌, refl, ap, ◌∙◌}
use Rattle.std.specs.Prelude.{slice_set, slice_index_or}
use Rattle.std.proofs.lemmas.List.{set-get_or, set-set}
use Rattle.ty_unify.specs.declared.cell.Cell.{Cell}
use Rattle.ty_unify.specs.Cells.{undone}

pub undone_put : (log : List (ℕ × Cell)) (e : ℕ × Cell) (cells : List Cell) → undone (log ++ e ∷ []) cells ≡ undone log (slice_set cells e.0 e.1)
undone_put [] e cells = refl
undone_put (f ∷ log) e cells = ap (λ l. slice_set l f.0 f.1) (undone_put log e cells)

-- a write with its entry behind the log keeps what the log gives back
pub logged : (log : List (ℕ × Cell)) (i : ℕ) (c x : Cell) (cells : List Cell) → x ≡ slice_index_or cells i x → undone (log ++ (i, x) ∷ []) (slice_set cells i c) ≡ undone log cells
logged log i c x cells e =
    undone_put log (i, x) (slice_set cells i c)
    ∙ ap (λ l. undone log l) (set-set cells i c x ∙ ap (λ y. slice_set cells i y) e ∙ set-get_or cells i x)
