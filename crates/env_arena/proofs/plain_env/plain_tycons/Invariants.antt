use Rattle.std.proofs.Common.{◌≡◌, ◌++◌, map, drop}
use Rattle.env_arena.specs.Spelling.{spelled_tycon}
use Rattle.env_arena.proofs.plain_env.plain_tycons.Given as goal

abbrev pub invariant-loop-tycon : goal.invariant-loop-tycon
invariant-loop-tycon l = l.done ++ map spelled_tycon (drop l.tycon-index l.tycon-items) ≡ map spelled_tycon l.tycon-items
