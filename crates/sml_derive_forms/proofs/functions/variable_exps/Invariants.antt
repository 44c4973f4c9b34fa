use Rattle.std.proofs.Common.{◌≡◌, ◌++◌, drop, map}
use Rattle.sml_derive_forms.specs.Functions.{variable_exp}
use Rattle.sml_derive_forms.proofs.functions.variable_exps.Given as goal

abbrev pub invariant-loop-one : goal.invariant-loop-one
invariant-loop-one l = l.done ++ map (variable_exp l.place) (drop l.one-index l.names) ≡ map (variable_exp l.place) l.names
