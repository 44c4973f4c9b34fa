use Rattle.std.proofs.Common.{◌≡◌, map, drop, true}
use Rattle.std.specs.List.{list_all}
use Rattle.sml_static.specs.Exhaustive.{heads}
use Rattle.match_use.specs.Keys.{shared_head}
use Rattle.match_use.specs.Heads.{stands}
use Rattle.match_use.specs.Lines.{lines_of, plain}
use Rattle.match_use.proofs.Gathering.{gathered}
use Rattle.match_use.proofs.split.heads_once.Given as goal

abbrev pub invariant-loop-row : goal.invariant-loop-row
invariant-loop-row l = record {
  each : gathered (map shared_head l.found.keys) (plain (lines_of (drop l.row-index l.rows))) ≡ heads (plain (lines_of l.rows));
  standing : list_all stands (map shared_head l.found.keys) ≡ true;
}
