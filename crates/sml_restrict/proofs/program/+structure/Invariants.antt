use Rattle.std.proofs.Common.{◌≡◌, drop, map}
use Rattle.tl_text.specs.Pairs.{seconds}
use Rattle.sml_restrict_core.specs.Breaches.{after, joined}
use Rattle.sml_restrict.specs.Programs.{str_bind_breaches, str_dec_breaches}
use Rattle.sml_restrict.proofs.program.+structure.Given as goal

abbrev pub invariant-check_str_decs-loop-one : goal.invariant-check_str_decs-loop-one
invariant-check_str_decs-loop-one l = after l.found (joined (map str_dec_breaches (drop l.one-index l.decs))) ≡ after l.fn.found (joined (map str_dec_breaches l.decs))

abbrev pub invariant-check_str_binds-loop-one : goal.invariant-check_str_binds-loop-one
invariant-check_str_binds-loop-one l = after l.found (joined (seconds (map str_bind_breaches (drop l.one-index l.binds)))) ≡ after l.fn.found (joined (seconds (map str_bind_breaches l.binds)))
