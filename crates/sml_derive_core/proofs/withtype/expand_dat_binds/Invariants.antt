use Rattle.std.proofs.Common.{◌≡◌, ◌++◌, drop, map}
use Rattle.sml_derive_core.specs.Withtype.{expanded_dat_bind}
use Rattle.sml_derive_core.proofs.withtype.expand_dat_binds.Given as goal

abbrev pub invariant-loop-one : goal.invariant-loop-one
invariant-loop-one l = l.done ++ map (expanded_dat_bind l.binds) (drop l.one-index l.datas) ≡ map (expanded_dat_bind l.binds) l.datas
