-- Where two variables were joined, no node leads back to itself.
use Rattle.std.proofs.Common.{◌≡◌, ℕ, ◌+◌, ◌*◌, ◌^◌, ◌<◌, ◌≤◌, List, length, Bool, true, false, refl, sym, ap, ◌∙◌, subst, inl, inr, arith}
use Rattle.std.proofs.lemmas.Bool.{cases_lt}
use Rattle.std.proofs.Math.ListN.{get_or-eq_default}
use Rattle.sml_static.specs.declared.ty.Label.{Label}
use Rattle.ty_unify.specs.declared.cell.Cell.{Cell}
use Rattle.ty_unify.specs.declared.cell.Shape.{Shape}
use Rattle.ty_unify.specs.declared.cell.Shape.TheVariants.{Open, Same, Const, Pair}
use Rattle.ty_unify.specs.declared.cell.Sort.{Sort}
use Rattle.ty_unify.specs.Trees.{Tree, Rigid, Admits, tree_size}
use Rattle.ty_unify.specs.Cells.{cell_at, open_cell, head_of, sort_at, link_rank, ShapeHolds, Shaped, ShapeOrdered, Ordered, BoundBy}
use Rattle.ty_unify.specs.Walking.{Ranked, PartsBelow}
use Rattle.ty_unify.specs.Steps.{Solved}
use Rattle.ty_unify.specs.Stores.{Sound, TriedEnd, LeadsToVariable}
use Rattle.ty_unify.proofs.Extended.{extended}
use Rattle.ty_unify.proofs.Links.{rank_bound}
use Rattle.ty_unify.proofs.Turns.{shaped_of}

-- the size of a node's tree, and then the order of links
sized_rank : (ℕ → Tree) → ℕ → ℕ
sized_rank θ i = tree_size (θ i) * 2 ^ 128 + link_rank i

sized_below : (labels : List Label) (n : ℕ) (o : ℕ → Sort) (s : Shape) (i : ℕ) (θ : ℕ → Tree) → n ≤ 2 ^ 32 → ShapeOrdered n o s i → ShapeHolds labels s i θ → PartsBelow s (sized_rank θ) i
unfolding sized_rank
sized_below labels n o Open i θ l r h = tt
sized_below labels n o (Same j k) i θ l r h = let e = ap tree_size h in let d = r.0.0 in omega arith
sized_below labels n o (Const t) i θ l r h = tt
sized_below labels n o (Pair t a b) i θ l r h =
    let e : tree_size (θ i) ≡ 1 + tree_size (θ a) + tree_size (θ b) = ap tree_size h in
    let ra = r.0 in
    let rb = r.1 in
    let ba = rank_bound a (omega arith) in
    let bb = rank_bound b (omega arith) in
    (omega arith, omega arith)

-- where some assignment fits the shapes, no node leads back to itself
pub ranked_by : (labels : List Label) (cells : List Cell) (θ : ℕ → Tree) → length cells ≤ 2 ^ 32 → Ordered cells → Shaped labels cells θ → Ranked cells
ranked_by labels cells θ l o s = record {
  rank = sized_rank θ;
  below = λ i. sized_below labels (length cells) (sort_at cells) (cell_at cells i).shape i θ l (o.ordered i) (s.holds i);
}

rigid_kept : (e : Bool) → BoundBy Admits e (Rigid true 0)
rigid_kept true = refl
rigid_kept false = tt

pub joined_variables : (labels : List Label) (old new : List Cell) (a b : ℕ) → Sound labels old → Solved labels old new a b → LeadsToVariable old a → LeadsToVariable old b → TriedEnd true labels old new a b
joined_variables labels old new a b so s va vb =
    let sol = extended labels old so.ranked so.handed (λ i. Rigid true 0) (λ i o. rigid_kept (cell_at old i).equal) in
    let θ = sol.0 in
    let sh = shaped_of labels old θ sol.1 in
    let e : θ a ≡ θ b = va.2 labels θ sh ∙ sol.2 va.0 va.1 ∙ sym (sol.2 vb.0 vb.1) ∙ sym (vb.2 labels θ sh) in
    let l = s.same_length in
    let m = so.small in
    record {
      sound = record {
        order = s.order;
        labelled = s.labelled;
        handed = s.handed;
        ranked = ranked_by labels new θ (omega arith) s.order (shaped_of labels new θ ((s.exact θ).1 (sol.1, e)));
        small = omega arith;
      };
      same_length = s.same_length;
      sorts = s.sorts;
      exact = s.exact;
    }
