use Rattle.std.proofs.Common.{◌≡◌, map, take, length}
use Rattle.match_use.specs.Keys.{shared_head}
use Rattle.match_use.specs.Lines.{line_of, matrices_of}
use Rattle.match_use.specs.Steps.{with_lines}
use Rattle.match_use.proofs.kept.add_to_each.Given as goal

abbrev pub invariant-loop-place : goal.invariant-loop-place
invariant-loop-place l = record {
  added : matrices_of l.matrices.items ≡ with_lines (line_of l.row) (map shared_head (take l.place l.heads)) (matrices_of l.fn.matrices.items);
  as_many : length l.matrices.items ≡ length l.heads;
}
