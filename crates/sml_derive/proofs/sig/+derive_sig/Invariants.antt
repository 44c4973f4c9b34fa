use Rattle.std.proofs.Common.{◌≡◌, ◌++◌, drop, map}
use Rattle.tl_text.specs.Pairs.{map_second}
use Rattle.sml_derive.specs.Signatures.{derived_sig, derived_spec}
use Rattle.sml_derive.proofs.sig.+derive_sig.Given as goal

abbrev pub invariant-derive_specs-loop-one : goal.invariant-derive_specs-loop-one
invariant-derive_specs-loop-one l = l.parts ++ map derived_spec (drop l.one-index l.specs) ≡ map derived_spec l.specs

abbrev pub invariant-derive_strs-loop-one : goal.invariant-derive_strs-loop-one
invariant-derive_strs-loop-one l = l.done ++ map_second derived_sig (drop l.one-index l.strs) ≡ map_second derived_sig l.strs
