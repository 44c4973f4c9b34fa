use Rattle.std.proofs.Common.{◌≡◌, drop}
use Rattle.sml_grammar.specs.Tokens.{listed}
use Rattle.sml_scan.proofs.class.is_listed.Given as goal

abbrev pub invariant-loop-one : goal.invariant-loop-one
invariant-loop-one l = listed l.number (drop l.one-index l.list) ≡ listed l.number l.list
