use Rattle.std.proofs.Common.{◌≡◌, drop, map}
use Rattle.tl_text.specs.Pairs.{map_second}
use Rattle.sml_restrict_core.specs.Breaches.{after, joined}
use Rattle.sml_restrict_core.specs.Patterns.{pat_variable}
use Rattle.sml_restrict.specs.Expressions.{exp_facts, pat_place, rec_breach}
use Rattle.sml_restrict.proofs.function.check_rec_binds.Given as goal

abbrev pub invariant-loop-one : goal.invariant-loop-one
invariant-loop-one l = after l.found (joined (map (λ b. rec_breach (pat_place b.0) (pat_variable b.0) b.1.function) (map_second exp_facts (drop l.one-index l.binds)))) ≡ after l.initial.found (joined (map (λ b. rec_breach (pat_place b.0) (pat_variable b.0) b.1.function) (map_second exp_facts l.binds)))
