use Rattle.std.proofs.Common.{◌≡◌, drop}
use Rattle.sml_lex.specs.Bytes.{number, number_from}
use Rattle.sml_lex.proofs.number.value_of.Given as goal

abbrev pub invariant-loop-digit : goal.invariant-loop-digit
invariant-loop-digit l = number l.base l.digits ≡ number_from l.base l.sum (drop l.digit-index l.digits)
