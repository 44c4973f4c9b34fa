use Rattle.std.proofs.Common.{◌≡◌, ◌++◌, map, drop}
use Rattle.env_arena.specs.Spelling.{spelled_con}
use Rattle.env_arena.proofs.plain_env.plain_cons.Given as goal

abbrev pub invariant-loop-con : goal.invariant-loop-con
invariant-loop-con l = l.done ++ map spelled_con (drop l.con-index l.cons) ≡ map spelled_con l.cons
