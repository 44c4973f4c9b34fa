use Rattle.std.proofs.Common.{◌≡◌, ◌==◌, drop}
use Rattle.std.specs.List.{list_any}
use Rattle.eq_types.proofs.premises.is_named.Given as goal

abbrev pub invariant-loop-name : goal.invariant-loop-name
invariant-loop-name l = list_any (λ n. n.id == l.id) (drop l.name-index l.names) ≡ list_any (λ n. n.id == l.id) l.names
