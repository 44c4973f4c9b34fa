use Rattle.std.proofs.Common.{◌≡◌, drop}
use Rattle.oc_rules.specs.Bytes.{every}
use Rattle.oc_names.specs.Mangled.{is_symbol}
use Rattle.built_items.proofs.names.are_symbols.Given as goal

abbrev pub invariant-loop-byte : goal.invariant-loop-byte
invariant-loop-byte l = every is_symbol (drop l.byte-index l.bytes) ≡ every is_symbol l.bytes
