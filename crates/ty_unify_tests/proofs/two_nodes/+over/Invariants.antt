use Rattle.std.proofs.Common.{◌≡◌, drop, map}
use Rattle.std.specs.List.{list_all}
use Rattle.tl_text.specs.Pairs.{map_second, seconds}
use Rattle.ty_unify_tests.specs.Over.{is_over}
use Rattle.ty_unify_tests.proofs.two_nodes.+over.Given as goal

abbrev pub invariant-fields_over-loop-field : goal.invariant-fields_over-loop-field
invariant-fields_over-loop-field l = list_all (λ f. f) (seconds (map_second (is_over l.a l.b) (drop l.field-index l.fields))) ≡ list_all (λ f. f) (seconds (map_second (is_over l.a l.b) l.fields))

abbrev pub invariant-all_over-loop-ty : goal.invariant-all_over-loop-ty
invariant-all_over-loop-ty l = list_all (λ t. t) (map (is_over l.a l.b) (drop l.ty-index l.tys)) ≡ list_all (λ t. t) (map (is_over l.a l.b) l.tys)
