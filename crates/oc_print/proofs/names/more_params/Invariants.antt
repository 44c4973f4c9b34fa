use Rattle.std.proofs.Common.{◌≡◌, drop}
use Rattle.oc_layout.specs.Layout as layout
use Rattle.oc_print.proofs.names.more_params.Given as goal

abbrev pub invariant-loop-name : goal.invariant-loop-name
invariant-loop-name l = layout.more_params (drop l.name-index l.names) l.pen ≡ layout.more_params l.names l.fn.pen
