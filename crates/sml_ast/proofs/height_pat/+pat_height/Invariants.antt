use Rattle.std.proofs.Common.{◌≡◌, ◌-◌, ◌^◌, min, max, drop, map}
use Rattle.sml_ast.specs.Heights.{greatest, field_height, pat_height}
use Rattle.sml_ast.proofs.height_pat.+pat_height.Given as goal

abbrev pub invariant-pats_height-loop-one : goal.invariant-pats_height-loop-one
invariant-pats_height-loop-one l = max l.most (min (greatest (map pat_height (drop l.one-index l.pats))) (2 ^ 32 - 1)) ≡ min (greatest (map pat_height l.fn.pats)) (2 ^ 32 - 1)

abbrev pub invariant-pat_fields_height-loop-one : goal.invariant-pat_fields_height-loop-one
invariant-pat_fields_height-loop-one l = max l.most (min (greatest (map field_height (drop l.one-index l.fields))) (2 ^ 32 - 1)) ≡ min (greatest (map field_height l.fn.fields)) (2 ^ 32 - 1)
