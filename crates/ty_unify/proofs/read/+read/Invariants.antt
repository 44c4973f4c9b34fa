use Rattle.std.proofs.Common.{◌≡◌, ◌+◌, ◌*◌, ◌<◌, ◌≤◌, ◌++◌, List, length}
use Rattle.sml_static.specs.declared.ty.Label.{Label}
use Rattle.sml_static.specs.declared.ty.Ty.{Ty}
use Rattle.sml_static.specs.declared.ty.Ty.TheVariants as ty
use Rattle.ty_unify.specs.declared.cell.Sort.TheVariants as sort
use Rattle.ty_unify.specs.Trees.{Fork, Record, Named}
use Rattle.ty_unify.specs.Cells.{IsRoot, cell_at, sort_at}
use Rattle.ty_unify.specs.Building.{NodeIn}
use Rattle.ty_unify.specs.Reading.{Reads, ReadsArgs, ReadsFields, label_at, arrows_to}
use Rattle.ty_unify.proofs.read.+read.Given as goal

abbrev pub decreases-read_ty : goal.decreases-read_ty
decreases-read_ty l = 3 * l.left.now

abbrev pub decreases-read_named : goal.decreases-read_named
decreases-read_named l = 3 * l.left.now + 1

abbrev pub decreases-read_record : goal.decreases-read_record
decreases-read_record l = 3 * l.left.now + 1

abbrev pub decreases-read_last : goal.decreases-read_last
decreases-read_last l = 3 * l.left.now + 2

-- whatever the node at hand is read as, the arrows so far to it are what the first one is
abbrev pub invariant-read_ty-loop-from : goal.invariant-read_ty-loop-from
invariant-read_ty-loop-from l = record {
  reads : (t : Ty) → Reads l.labels l.cells (λ θ. θ l.at) t → Reads l.labels l.cells (λ θ. θ l.node) (arrows_to l.froms.items t);
  node : NodeIn l.cells l.at;
  root : IsRoot (cell_at l.cells l.at).shape;
  less : l.left < l.fn.left;
}

abbrev pub decreases-read_ty-loop-from : goal.decreases-read_ty-loop-from
decreases-read_ty-loop-from l = l.left

-- whatever the rest of the row is read as, it goes behind the arguments so far
abbrev pub invariant-read_named-loop-next : goal.invariant-read_named-loop-next
invariant-read_named-loop-next l = record {
  reads : (ts : List Ty) → ReadsArgs l.labels l.cells (λ θ. θ l.at) ts → Reads l.labels l.cells (λ θ. Fork (Named l.name) (θ l.first) (θ l.rest)) (ty.Con l.name (l.args ++ ts));
  within : l.at < length l.cells;
  sort : sort_at l.cells l.at ≡ sort.Arguments;
  root : IsRoot (cell_at l.cells l.at).shape;
  less : l.left ≤ l.fn.left;
}

abbrev pub decreases-read_named-loop-next : goal.decreases-read_named-loop-next
decreases-read_named-loop-next l = l.left

abbrev pub invariant-read_record-loop-index : goal.invariant-read_record-loop-index
invariant-read_record-loop-index l = record {
  reads : (fs : List (Label × Ty)) → ReadsFields l.labels l.cells (λ θ. θ l.at) fs → Reads l.labels l.cells (λ θ. Fork (Record (label_at l.labels l.label)) (θ l.first) (θ l.rest)) (ty.Fields (l.fields ++ fs));
  within : l.at < length l.cells;
  sort : sort_at l.cells l.at ≡ sort.Fields;
  root : IsRoot (cell_at l.cells l.at).shape;
  less : l.left ≤ l.fn.left;
}

abbrev pub decreases-read_record-loop-index : goal.decreases-read_record-loop-index
decreases-read_record-loop-index l = l.left
