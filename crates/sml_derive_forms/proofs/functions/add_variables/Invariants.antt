use Rattle.std.proofs.Common.{◌≡◌, ◌++◌, drop}
use Rattle.sml_derive_forms.specs.Functions.{variables}
use Rattle.sml_derive_forms.proofs.functions.add_variables.Given as goal

abbrev pub invariant-loop-arg : goal.invariant-loop-arg
invariant-loop-arg l =
    l.done ++ variables l.place l.number (drop l.arg-index l.args)
    ≡ l.initial.done ++ variables l.place l.initial.number l.args
