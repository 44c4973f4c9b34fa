use Rattle.std.proofs.Common.{◌≡◌, drop}
use Rattle.env_arena.specs.Paths.{env_along}
use Rattle.env_arena.specs.Spelling.{spelled}
use Rattle.env_arena.proofs.look_up.along.Given as goal

abbrev pub invariant-loop-name : goal.invariant-loop-name
invariant-loop-name l = env_along (spelled l.env) (drop l.name-index l.names) ≡ env_along (spelled l.node) l.names
