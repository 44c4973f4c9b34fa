use Rattle.std.proofs.Common.{◌≡◌, map, take}
use Rattle.match_use.specs.Keys.{shared_head}
use Rattle.match_use.specs.Lines.{lines_of, matrices_of}
use Rattle.match_use.specs.Steps.{kept_lines}
use Rattle.match_use.proofs.kept.kept_for_each.Given as goal

abbrev pub invariant-loop-row : goal.invariant-loop-row
invariant-loop-row l = matrices_of l.matrices.items ≡ map (kept_lines (lines_of (take l.row-index l.rows))) (map shared_head l.heads.keys)
