use Rattle.std.proofs.Common.{◌≡◌, drop, map}
use Rattle.tl_text.specs.Pairs.{map_second, seconds}
use Rattle.sml_restrict_core.specs.Breaches.{joined}
use Rattle.sml_restrict_core.specs.Repeats.{contains}
use Rattle.sml_restrict_core.specs.Types.{tyvars}
use Rattle.sml_restrict_core.proofs.ty.+occurs_in_ty.Given as goal

abbrev pub invariant-occurs_in_tys-loop-one : goal.invariant-occurs_in_tys-loop-one
invariant-occurs_in_tys-loop-one l = contains l.name (joined (map tyvars (drop l.one-index l.tys))) ≡ contains l.name (joined (map tyvars l.tys))

abbrev pub invariant-occurs_in_ty_fields-loop-one : goal.invariant-occurs_in_ty_fields-loop-one
invariant-occurs_in_ty_fields-loop-one l = contains l.name (joined (seconds (map_second tyvars (drop l.one-index l.fields)))) ≡ contains l.name (joined (seconds (map_second tyvars l.fields)))
