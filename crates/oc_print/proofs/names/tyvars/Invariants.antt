use Rattle.std.proofs.Common.{◌≡◌, drop}
use Rattle.oc_layout.specs.Layout as layout
use Rattle.oc_print.proofs.names.tyvars.Given as goal

abbrev pub invariant-loop-name : goal.invariant-loop-name
invariant-loop-name l = layout.tyvars (drop l.name-index l.names) l.pen ≡ layout.tyvars l.names l.fn.pen
