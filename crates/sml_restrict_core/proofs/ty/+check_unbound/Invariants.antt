use Rattle.std.proofs.Common.{◌≡◌, drop, map}
use Rattle.tl_text.specs.Pairs.{map_second, seconds}
use Rattle.sml_restrict_core.specs.Breaches.{after, joined}
use Rattle.sml_restrict_core.specs.Types.{tyvars, unbound}
use Rattle.sml_restrict_core.proofs.ty.+check_unbound.Given as goal

abbrev pub invariant-check_unbound_tys-loop-one : goal.invariant-check_unbound_tys-loop-one
invariant-check_unbound_tys-loop-one l = after l.found (unbound l.params (joined (map tyvars (drop l.one-index l.tys)))) ≡ after l.fn.found (unbound l.params (joined (map tyvars l.tys)))

abbrev pub invariant-check_unbound_fields-loop-one : goal.invariant-check_unbound_fields-loop-one
invariant-check_unbound_fields-loop-one l = after l.found (unbound l.params (joined (seconds (map_second tyvars (drop l.one-index l.fields))))) ≡ after l.fn.found (unbound l.params (joined (seconds (map_second tyvars l.fields))))
