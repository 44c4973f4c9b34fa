use Rattle.std.proofs.Common.{◌≡◌, ◌++◌, drop, map}
use Rattle.sml_derive_core.specs.Patterns.{derived_pat, derived_field}
use Rattle.sml_derive_core.proofs.pat.+derive_pat.Given as goal

abbrev pub invariant-derive_pats-loop-one : goal.invariant-derive_pats-loop-one
invariant-derive_pats-loop-one l = l.done ++ map derived_pat (drop l.one-index l.pats) ≡ map derived_pat l.pats

abbrev pub invariant-derive_fields-loop-one : goal.invariant-derive_fields-loop-one
invariant-derive_fields-loop-one l = l.done ++ map derived_field (drop l.one-index l.fields) ≡ map derived_field l.fields
