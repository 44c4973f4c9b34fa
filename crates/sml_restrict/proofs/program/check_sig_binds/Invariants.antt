use Rattle.std.proofs.Common.{◌≡◌, drop, map}
use Rattle.sml_restrict_core.specs.Breaches.{after, joined}
use Rattle.sml_restrict.specs.Programs.{sig_bind_breaches}
use Rattle.sml_restrict.proofs.program.check_sig_binds.Given as goal

abbrev pub invariant-loop-one : goal.invariant-loop-one
invariant-loop-one l = after l.found (joined (map sig_bind_breaches (drop l.one-index l.binds))) ≡ after l.initial.found (joined (map sig_bind_breaches l.binds))
