use Rattle.std.proofs.Common.{◌≡◌, ◌++◌, drop, map}
use Rattle.sml_derive_core.specs.Bindings.{derived_dat_desc}
use Rattle.sml_derive_core.proofs.bindings.derive_dat_descs.Given as goal

abbrev pub invariant-loop-one : goal.invariant-loop-one
invariant-loop-one l = l.done ++ map derived_dat_desc (drop l.one-index l.descs) ≡ map derived_dat_desc l.descs
