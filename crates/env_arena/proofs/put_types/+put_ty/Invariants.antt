use Rattle.std.proofs.Common.{◌≡◌, ◌++◌, ◌&&◌, map, drop, IsTrue}
use Rattle.std.specs.List.{list_all}
use Rattle.tl_text.specs.Pairs.{map_second}
use Rattle.env_arena.specs.Settled.{is_settled, is_settled_label}
use Rattle.env_arena.specs.Spelling.{spelled_ty, spelled_field}
use Rattle.env_arena.proofs.put_types.+put_ty.Given as goal

abbrev pub invariant-type_nodes-loop-ty : goal.invariant-type_nodes-loop-ty
invariant-type_nodes-loop-ty l =
    (map spelled_ty l.nodes.items ++ drop l.ty-index l.tys ≡ l.tys) × IsTrue (list_all (λ a. a) (map is_settled (drop l.ty-index l.tys)))

abbrev pub invariant-field_nodes-loop-field : goal.invariant-field_nodes-loop-field
invariant-field_nodes-loop-field l =
    (map spelled_field l.nodes.items ++ drop l.field-index l.fields ≡ l.fields) ×
    IsTrue (list_all (λ f. is_settled_label f.0 && f.1) (map_second is_settled (drop l.field-index l.fields)))
