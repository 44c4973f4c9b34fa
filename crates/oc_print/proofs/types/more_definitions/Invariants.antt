use Rattle.std.proofs.Common.{◌≡◌, drop, map}
use Rattle.oc_ast.specs.View.{plain_def}
use Rattle.oc_layout.specs.Layout as layout
use Rattle.oc_print.proofs.types.more_definitions.Given as goal

abbrev pub invariant-loop-def : goal.invariant-loop-def
invariant-loop-def l = layout.more_definitions (map plain_def (drop l.def-index l.defs)) l.pen ≡ layout.more_definitions (map plain_def l.defs) l.fn.pen
