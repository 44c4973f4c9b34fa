-- Where all cells that were written are numbered, no node leads back to itself.
use Rattle.std.proofs.Common.{Bool, true, false, ◌≡◌, ℕ, ◌+◌, ◌<◌, suc, List, [], ◌∷◌, length, refl, sym, ap, ◌∙◌, subst, inl, inr, ◌⊎◌, arith, get_or-set_other}
use Rattle.std.proofs.Math.ListN.{get_or-eq_default}
use Rattle.std.proofs.lemmas.Bool.{cases_eq, cases_lt}
use Rattle.ty_unify.specs.declared.cell.Cell.{Cell}
use Rattle.ty_unify.specs.declared.cell.Shape.{Shape}
use Rattle.ty_unify.specs.declared.cell.Shape.TheVariants.{Open, Same, Const, Pair}
use Rattle.ty_unify.specs.declared.walk.Stage.{Stage}
use Rattle.ty_unify.specs.declared.walk.Stage.TheVariants.{New, Busy, Done}
use Rattle.ty_unify.specs.Cells.{cell_at, open_cell, undone}
use Rattle.ty_unify.specs.Walking.{Ranked, PartsBelow, mark_at, DoneBelow, PartsDone, Numbered, IsDone, Covered, CoverEnds, node_at}
use Rattle.sml_static.specs.declared.ty.Label.{Label}
use Rattle.ty_unify.specs.Steps.{Solved}
use Rattle.ty_unify.specs.Stores.{Sound, TriedEnd}
use Rattle.ty_unify.proofs.Turns.{shaped_of}

-- a cell is as before the writes of the log, or stands in it
logged_or : (log : List (ℕ × Cell)) (cells : List Cell) (i : ℕ) → (cell_at (undone log cells) i ≡ cell_at cells i) ⊎ ((k : ℕ) × (k < length log) × (node_at log k ≡ i))
logged_or [] cells i = inl refl
logged_or (e ∷ log) cells i =
    elim (cases_eq i e.0) [
      | inl d ↦ inr (0, omega arith, sym d)
      | inr ne ↦ elim (logged_or log cells i) [
        | inl q ↦ inl (get_or-set_other (undone log cells) e.0 i e.1 open_cell ne ∙ q)
        | inr q ↦ inr (suc q.0, (let l = q.1 in omega arith), q.2)
      ]
    ]

rank_by : Stage → ℕ → ℕ → ℕ
rank_by New old next = old + next
rank_by Busy old next = old + next
rank_by (Done r) old next = r

-- the rank of a node with this mark, where a part of it is numbered below, or has a smaller old rank
part_done : (m : Stage) (old next r : ℕ) → DoneBelow m r → rank_by m old next < r
unfolding rank_by
part_done New old next r d = absurd d
part_done Busy old next r d = absurd d
part_done (Done s) old next r d = d

part_old : (m : Stage) (old next top : ℕ) → ((r : ℕ) → m ≡ Done r → r < next) → old < top → rank_by m old next < top + next
unfolding rank_by
part_old New old next top b l = omega arith
part_old Busy old next top b l = omega arith
part_old (Done r) old next top b l = let c = b r refl in omega arith

new_below : (s : Shape) (marks : List Stage) (rank : ℕ → ℕ) (next top : ℕ) → PartsDone s marks top → (i : ℕ) → rank_by (mark_at marks i) (rank i) next ≡ top → PartsBelow s (λ j. rank_by (mark_at marks j) (rank j) next) i
new_below Open marks rank next top d i e = tt
new_below (Same j s) marks rank next top d i e = subst (λ t. rank_by (mark_at marks j) (rank j) next < t) (sym e) (part_done (mark_at marks j) (rank j) next top d)
new_below (Const t) marks rank next top d i e = tt
new_below (Pair t a b) marks rank next top d i e = (
  subst (λ t. rank_by (mark_at marks a) (rank a) next < t) (sym e) (part_done (mark_at marks a) (rank a) next top d.0),
  subst (λ t. rank_by (mark_at marks b) (rank b) next < t) (sym e) (part_done (mark_at marks b) (rank b) next top d.1),
)

old_below : (cells : List Cell) (s : Shape) (marks : List Stage) (rank : ℕ → ℕ) (next i : ℕ) → Numbered cells marks next → PartsBelow s rank i → rank_by (mark_at marks i) (rank i) next ≡ rank i + next
    → PartsBelow s (λ j. rank_by (mark_at marks j) (rank j) next) i
old_below cells Open marks rank next i n p e = tt
old_below cells (Same j s) marks rank next i n p e = subst (λ t. rank_by (mark_at marks j) (rank j) next < t) (sym e) (part_old (mark_at marks j) (rank j) next (rank i) (n.below j) p)
old_below cells (Const t) marks rank next i n p e = tt
old_below cells (Pair t a b) marks rank next i n p e = (
  subst (λ t. rank_by (mark_at marks a) (rank a) next < t) (sym e) (part_old (mark_at marks a) (rank a) next (rank i) (n.below a) p.0),
  subst (λ t. rank_by (mark_at marks b) (rank b) next < t) (sym e) (part_old (mark_at marks b) (rank b) next (rank i) (n.below b) p.1),
)

-- an unnumbered node is as before
below_by : (m : Stage) (cells old : List Cell) (marks : List Stage) (rank : ℕ → ℕ) (next i : ℕ) → mark_at marks i ≡ m → Numbered cells marks next
    → PartsBelow (cell_at old i).shape rank i → (IsDone m ⊎ (cell_at old i ≡ cell_at cells i)) → PartsBelow (cell_at cells i).shape (λ j. rank_by (mark_at marks j) (rank j) next) i
unfolding rank_by
below_by New cells old marks rank next i e n p (inl d) = absurd (let f = d.1 in cc)
below_by New cells old marks rank next i e n p (inr q) =
    old_below cells (cell_at cells i).shape marks rank next i n (subst (λ c. PartsBelow c.shape rank i) q p) (ap (λ m. rank_by m (rank i) next) e)
below_by Busy cells old marks rank next i e n p (inl d) = absurd (let f = d.1 in cc)
below_by Busy cells old marks rank next i e n p (inr q) =
    old_below cells (cell_at cells i).shape marks rank next i n (subst (λ c. PartsBelow c.shape rank i) q p) (ap (λ m. rank_by m (rank i) next) e)
below_by (Done r) cells old marks rank next i e n p h =
    new_below (cell_at cells i).shape marks rank next r (n.parts i r e) i (ap (λ m. rank_by m (rank i) next) e)

pub ranked_on : (cells old : List Cell) (log : List (ℕ × Cell)) → undone log cells ≡ old → length cells ≡ length old → Ranked old → Covered cells log → Ranked cells
ranked_on cells old log u l r c = record {
  rank = λ j. rank_by (mark_at c.marks j) (r.rank j) c.next;
  below = λ i. below_by (mark_at c.marks i) cells old c.marks r.rank c.next i refl c.numbered (r.below i)
      (elim (logged_or log cells i) [
        | inl q ↦ inr (ap (λ x. cell_at x i) (sym u) ∙ q)
        | inr q ↦ elim (cases_lt i (length cells)) [
          | inl lt ↦ inl (subst (λ j. IsDone (mark_at c.marks j)) q.2 (c.done q.0 q.1 (subst (λ j. j < length cells) (sym q.2) lt)))
          | inr ge ↦ inr (get_or-eq_default old open_cell (omega arith) ∙ sym (get_or-eq_default cells open_cell (omega arith)))
        ]
      ]);
}

-- what an attempt comes to
pub tried : (went : Bool) (labels : List Label) (old new : List Cell) (log : List (ℕ × Cell)) (a b : ℕ) → Sound labels old → Solved labels old new a b → undone log new ≡ old → CoverEnds went new log → TriedEnd went labels old new a b
tried true labels old new log a b so s u c = record {
  sound = record {
    order = s.order;
    labelled = s.labelled;
    handed = s.handed;
    ranked = ranked_on new old log u s.same_length so.ranked c;
    small = let l = s.same_length in let m = so.small in omega arith;
  };
  same_length = s.same_length;
  sorts = s.sorts;
  exact = s.exact;
}
tried false labels old new log a b so s u none = λ θ sol eq. none labels θ (shaped_of labels new θ ((s.exact θ).1 (sol, eq)))
