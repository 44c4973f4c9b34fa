use Rattle.std.proofs.Common.{◌≡◌, drop, map}
use Rattle.tl_text.specs.Pairs.{map_second, seconds}
use Rattle.sml_restrict_core.specs.Breaches.{after, joined}
use Rattle.sml_restrict.specs.Programs.{sig_breaches, spec_breaches}
use Rattle.sml_restrict.proofs.sig.+sig.Given as goal

abbrev pub invariant-check_specs-loop-one : goal.invariant-check_specs-loop-one
invariant-check_specs-loop-one l = after l.found (joined (map spec_breaches (drop l.one-index l.specs))) ≡ after l.fn.found (joined (map spec_breaches l.specs))

abbrev pub invariant-check_strs-loop-one : goal.invariant-check_strs-loop-one
invariant-check_strs-loop-one l = after l.found (joined (seconds (map_second sig_breaches (drop l.one-index l.strs)))) ≡ after l.fn.found (joined (seconds (map_second sig_breaches l.strs)))
