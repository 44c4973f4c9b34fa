use Rattle.std.proofs.Common.{IsTrue}
use Rattle.std.specs.List.{list_all}
use Rattle.env_arena.specs.Settled.{is_settled_tycon, is_settled_val}
use Rattle.env_arena.proofs.tests.env.Given as goal

abbrev pub invariant-loop-word : goal.invariant-loop-word
invariant-loop-word l = IsTrue (list_all is_settled_val l.vals) × IsTrue (list_all is_settled_tycon l.tycons)
