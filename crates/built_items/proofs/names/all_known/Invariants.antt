use Rattle.std.proofs.Common.{◌≡◌, drop}
use Rattle.built_items.specs.Built.{all_known}
use Rattle.built_items.proofs.names.all_known.Given as goal

abbrev pub invariant-loop-name : goal.invariant-loop-name
invariant-loop-name l = all_known (drop l.name-index l.names) ≡ all_known l.names
