use Rattle.std.proofs.Common.{◌≡◌, ◌++◌, drop, map}
use Rattle.tl_text.specs.Pairs.{map_second}
use Rattle.sml_static.specs.Types.{realised}
use Rattle.sml_static.proofs.realise.+realise.Given as goal

abbrev pub invariant-realise_fields-loop-field : goal.invariant-realise_fields-loop-field
invariant-realise_fields-loop-field l =
    l.done ++ map_second (realised l.phi.pairs) (drop l.field-index l.fields) ≡ map_second (realised l.phi.pairs) l.fields

abbrev pub invariant-realise_all-loop-ty : goal.invariant-realise_all-loop-ty
invariant-realise_all-loop-ty l = l.done ++ map (realised l.phi.pairs) (drop l.ty-index l.tys) ≡ map (realised l.phi.pairs) l.tys
