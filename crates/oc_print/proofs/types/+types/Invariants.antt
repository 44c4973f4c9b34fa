use Rattle.std.proofs.Common.{◌≡◌, drop, map}
use Rattle.oc_ast.specs.View.{plain_part, plain_type, row_of_types, row_of_parts}
use Rattle.oc_layout.specs.Layout as layout
use Rattle.oc_print.proofs.types.+types.Given as goal

abbrev pub invariant-args-loop-ty : goal.invariant-args-loop-ty
invariant-args-loop-ty l = layout.more_args (row_of_types (map plain_type (drop l.ty-index l.rest))) l.pen ≡ layout.more_args (row_of_types (map plain_type l.rest)) l.initial.pen

abbrev pub invariant-factors-loop-ty : goal.invariant-factors-loop-ty
invariant-factors-loop-ty l = layout.factors (row_of_parts (map plain_part (drop l.ty-index l.types))) l.pen ≡ layout.factors (row_of_parts (map plain_part l.types)) l.fn.pen
