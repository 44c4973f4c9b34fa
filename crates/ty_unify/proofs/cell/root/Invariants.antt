use Rattle.std.proofs.Common.{◌≡◌, ℕ, ◌<◌, List, length}
use Rattle.sml_static.specs.declared.ty.Label.{Label}
use Rattle.ty_unify.specs.Trees.{Tree}
use Rattle.ty_unify.specs.Cells.{Shaped, link_rank, sort_at}
use Rattle.ty_unify.proofs.cell.root.Given as goal

abbrev pub invariant-loop-at : goal.invariant-loop-at
invariant-loop-at l = record {
  within : l.at < length l.cells;
  same : (labels : List Label) (θ : ℕ → Tree) → Shaped labels l.cells θ → θ l.node ≡ θ l.at;
  sort : sort_at l.cells l.at ≡ sort_at l.cells l.node;
}

abbrev pub decreases-loop-at : goal.decreases-loop-at
decreases-loop-at l = link_rank l.at
