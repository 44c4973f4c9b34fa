use Rattle.std.proofs.Common.{◌≡◌, drop}
use Rattle.sml_derive_core.specs.Withtype.{argument}
use Rattle.sml_derive_core.proofs.fill.argument_of.Given as goal

abbrev pub invariant-loop-i : goal.invariant-loop-i
invariant-loop-i l = argument (drop l.i l.params) (drop l.i l.args) l.name ≡ argument l.params l.args l.name
