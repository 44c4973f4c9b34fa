use Rattle.std.proofs.Common.{◌≡◌, drop, map}
use Rattle.tl_text.specs.Pairs.{map_second, seconds}
use Rattle.sml_restrict_core.specs.Breaches.{after, joined}
use Rattle.sml_restrict_core.specs.Types.{ty_breaches}
use Rattle.sml_restrict_core.proofs.ty.+check_ty.Given as goal

abbrev pub invariant-check_tys-loop-one : goal.invariant-check_tys-loop-one
invariant-check_tys-loop-one l = after l.found (joined (map ty_breaches (drop l.one-index l.tys))) ≡ after l.fn.found (joined (map ty_breaches l.tys))

abbrev pub invariant-check_ty_fields-loop-one : goal.invariant-check_ty_fields-loop-one
invariant-check_ty_fields-loop-one l = after l.found (joined (seconds (map_second ty_breaches (drop l.one-index l.fields)))) ≡ after l.fn.found (joined (seconds (map_second ty_breaches l.fields)))
