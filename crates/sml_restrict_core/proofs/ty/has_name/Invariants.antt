use Rattle.std.proofs.Common.{◌≡◌, drop}
use Rattle.sml_restrict_core.specs.Repeats.{contains}
use Rattle.sml_restrict_core.proofs.ty.has_name.Given as goal

abbrev pub invariant-loop-one : goal.invariant-loop-one
invariant-loop-one l = contains l.name (drop l.one-index l.row) ≡ contains l.name l.row
