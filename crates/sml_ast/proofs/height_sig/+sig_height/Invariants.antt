use Rattle.std.proofs.Common.{◌≡◌, ◌-◌, ◌^◌, min, max, drop, map}
use Rattle.tl_text.specs.Pairs.{seconds, map_second}
use Rattle.sml_ast.specs.Heights.{greatest, sig_height, spec_height}
use Rattle.sml_ast.proofs.height_sig.+sig_height.Given as goal

abbrev pub invariant-sig_specs_height-loop-one : goal.invariant-sig_specs_height-loop-one
invariant-sig_specs_height-loop-one l = max l.most (min (greatest (map spec_height (drop l.one-index l.specs))) (2 ^ 32 - 1)) ≡ min (greatest (map spec_height l.fn.specs)) (2 ^ 32 - 1)

abbrev pub invariant-strs_height-loop-one : goal.invariant-strs_height-loop-one
invariant-strs_height-loop-one l = max l.most (min (greatest (seconds (map_second sig_height (drop l.one-index l.strs)))) (2 ^ 32 - 1)) ≡ min (greatest (seconds (map_second sig_height l.fn.strs))) (2 ^ 32 - 1)
