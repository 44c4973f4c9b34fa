use Rattle.std.proofs.Common.{◌≡◌, ◌++◌, map}
use Rattle.sml_fix.specs.Fixities.{settings}
use Rattle.sml_parse_mod.specs.Promise.{told}
use Rattle.sml_parse_mod.proofs.source.told.Given as goal

abbrev pub invariant-loop-name : goal.invariant-loop-name
invariant-loop-name l = l.scope ++ map (λ e. (e.0, settings l.fn.fix e.0)) l.name-iterator.rest.items ≡ told l.fn.fix
