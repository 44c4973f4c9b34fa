use Rattle.std.proofs.Common.{◌≡◌, ◌++◌, drop, map}
use Rattle.tl_text.specs.Pairs.{map_second}
use Rattle.sml_derive_core.specs.Withtype.{expanded}
use Rattle.sml_derive_core.proofs.withtype.+expand.Given as goal

abbrev pub invariant-expand_tys-loop-one : goal.invariant-expand_tys-loop-one
invariant-expand_tys-loop-one l = l.done ++ map (expanded l.binds l.params l.name) (drop l.one-index l.tys) ≡ map (expanded l.binds l.params l.name) l.tys

abbrev pub invariant-expand_fields-loop-one : goal.invariant-expand_fields-loop-one
invariant-expand_fields-loop-one l = l.done ++ map_second (expanded l.binds l.params l.name) (drop l.one-index l.fields) ≡ map_second (expanded l.binds l.params l.name) l.fields
