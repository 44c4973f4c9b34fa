use Rattle.std.proofs.Common.{◌+◌, ◌-◌, ◌*◌}
use Rattle.env_scope.proofs.insert.+insert.Given as goal

abbrev pub decreases-insert : goal.decreases-insert
decreases-insert l = 3 * (32 - l.depth) + 2

abbrev pub decreases-insert_beside : goal.decreases-insert_beside
decreases-insert_beside l = 3 * (32 - l.depth) + 1

abbrev pub decreases-insert_under : goal.decreases-insert_under
decreases-insert_under l = 3 * (32 - l.depth)
