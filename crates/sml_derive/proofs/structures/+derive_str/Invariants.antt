use Rattle.std.proofs.Common.{◌≡◌, ◌++◌, drop, map}
use Rattle.sml_derive.specs.Programs.{derived_str_bind, derived_str_dec}
use Rattle.sml_derive.proofs.structures.+derive_str.Given as goal

abbrev pub invariant-derive_str_decs-loop-one : goal.invariant-derive_str_decs-loop-one
invariant-derive_str_decs-loop-one l = l.done ++ map derived_str_dec (drop l.one-index l.decs) ≡ map derived_str_dec l.decs

abbrev pub invariant-derive_str_binds-loop-one : goal.invariant-derive_str_binds-loop-one
invariant-derive_str_binds-loop-one l = l.done ++ map derived_str_bind (drop l.one-index l.binds) ≡ map derived_str_bind l.binds
