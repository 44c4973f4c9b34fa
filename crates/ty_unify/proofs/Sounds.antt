-- Stores that are sound, and what callers learn of them.
use Rattle.std.proofs.Common.{◌≡◌, ℕ, ◌<◌, ◌≤◌, List, [], length, sym, ◌∙◌, subst, arith, inl, inr, Result, Ok, Err}
use Rattle.std.specs.Prelude.{OnOk}
use Rattle.std.proofs.lemmas.Bool.{cases_lt}
use Rattle.std.proofs.Math.ListN.{get_or-eq_default}
use Rattle.sml_static.specs.declared.ty.Label.{Label}
use Rattle.ty_unify.specs.declared.cell.Cell.{Cell}
use Rattle.ty_unify.specs.Trees.{Tree, Admits}
use Rattle.ty_unify.specs.Cells.{cell_at, open_cell, BoundBy}
use Rattle.ty_unify.specs.Stores.{Sound, Solvable, Unified, JoinedCells}
use Rattle.ty_unify.proofs.Extended.{extended}

pub sound_none : (labels : List Label) (cells : List Cell) → labels ≡ [] → cells ≡ [] → Sound labels cells
sound_none labels cells el ec = subst (λ l. Sound l cells) (sym el) (subst (λ c. Sound [] c) (sym ec) (record {
  order = record { ordered = λ i. tt };
  labelled = record { labelled = λ i. tt };
  handed = record { handed = λ n θ all ag i. tt };
  ranked = record { rank = λ i. 0; below = λ i. tt };
  small = omega arith;
}))

past_kept : (cells : List Cell) (v : ℕ → Tree) (i : ℕ) → length cells ≤ i → BoundBy Admits (cell_at cells i).equal (v i)
past_kept cells v i ge = subst (λ c. BoundBy Admits c.equal (v i)) (sym (get_or-eq_default cells open_cell ge)) tt

pub solvable : (labels : List Label) (cells : List Cell) → Sound labels cells → Solvable (record { cells = cells; labels = labels })
solvable labels cells s v kept =
    let e = extended labels cells s.ranked s.handed v (λ i o. elim (cases_lt i (length cells)) [ inl lt ↦ kept i (lt, o) | inr ge ↦ past_kept cells v i ge ]) in
    (e.0, e.1, λ i o. e.2 i o.1)

pub unified : (labels : List Label) (old new : List Cell) (a b : ℕ) → JoinedCells labels old new a b → Unified (record { cells = old; labels = labels }) (record { cells = new; labels = labels }) a b
unified labels old new a b j = record {
  nodes = λ i h. (subst (λ n. i < n) (sym j.same_length) h.0, j.sorts i ∙ h.1);
  exact = j.exact;
  solvable = solvable labels new j.sound;
}

pub on_ok : {T E : Type 0} (r : Result T E) (P Q : Type 0) → (P → Q) → OnOk r P → OnOk r Q
on_ok (Ok t) P Q f h = f h
on_ok (Err e) P Q f h = tt
