use Rattle.std.proofs.Common.{◌≡◌, ◌<◌, ◌^◌, drop}
use Rattle.env_scope.specs.Numbers.{number_from}
use Rattle.env_scope.proofs.number.number_of.Given as goal

abbrev pub invariant-loop-byte : goal.invariant-loop-byte
invariant-loop-byte l = (l.number < 2 ^ 32) × (number_from l.number (drop l.byte-index l.name) ≡ number_from 0 l.name)
