use Rattle.std.proofs.Common.{◌≡◌, ◌++◌, map, drop}
use Rattle.env_arena.specs.Spelling.{spelled_field, spelled_ty}
use Rattle.env_arena.proofs.plain_types.+plain_ty.Given as goal

abbrev pub invariant-plain_fields-loop-field : goal.invariant-plain_fields-loop-field
invariant-plain_fields-loop-field l = l.done ++ map spelled_field (drop l.field-index l.fields) ≡ map spelled_field l.fields

abbrev pub invariant-plain_all-loop-node : goal.invariant-plain_all-loop-node
invariant-plain_all-loop-node l = l.done ++ map spelled_ty (drop l.node-index l.nodes) ≡ map spelled_ty l.nodes
