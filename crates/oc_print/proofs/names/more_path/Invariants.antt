use Rattle.std.proofs.Common.{◌≡◌, drop}
use Rattle.oc_layout.specs.Layout as layout
use Rattle.oc_print.proofs.names.more_path.Given as goal

abbrev pub invariant-loop-part : goal.invariant-loop-part
invariant-loop-part l = layout.more_path (drop l.part-index l.parts) l.pen ≡ layout.more_path l.parts l.fn.pen
