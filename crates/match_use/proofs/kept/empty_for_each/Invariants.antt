use Rattle.std.proofs.Common.{◌≡◌, ◌++◌, [], map, drop}
use Rattle.match_use.specs.Keys.{shared_head}
use Rattle.match_use.specs.Lines.{matrices_of}
use Rattle.match_use.specs.Steps.{kept_lines}
use Rattle.match_use.proofs.kept.empty_for_each.Given as goal

abbrev pub invariant-loop : goal.invariant-loop
invariant-loop l = matrices_of l.matrices.items ++ map (kept_lines []) (map shared_head (drop l.index l.heads)) ≡ map (kept_lines []) (map shared_head l.heads)
