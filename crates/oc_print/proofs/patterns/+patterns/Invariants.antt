use Rattle.std.proofs.Common.{◌≡◌, drop, map}
use Rattle.oc_ast.specs.View.{plain_apat, row_of_patterns}
use Rattle.oc_layout.specs.Layout as layout
use Rattle.oc_print.proofs.patterns.+patterns.Given as goal

abbrev pub invariant-more_apats-loop-pattern : goal.invariant-more_apats-loop-pattern
invariant-more_apats-loop-pattern l = layout.more_apats (row_of_patterns (map plain_apat (drop l.pattern-index l.patterns))) l.pen ≡ layout.more_apats (row_of_patterns (map plain_apat l.patterns)) l.fn.pen
