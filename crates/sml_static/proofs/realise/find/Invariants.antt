use Rattle.std.proofs.Common.{◌≡◌, drop}
use Rattle.sml_static.specs.Types.{function_of}
use Rattle.sml_static.proofs.realise.find.Given as goal

abbrev pub invariant-loop-pair : goal.invariant-loop-pair
invariant-loop-pair l = function_of (drop l.pair-index l.pairs) l.name ≡ function_of l.pairs l.name
