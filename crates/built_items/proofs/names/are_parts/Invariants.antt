use Rattle.std.proofs.Common.{◌≡◌, drop}
use Rattle.oc_rules.specs.Bytes.{every, is_part}
use Rattle.built_items.proofs.names.are_parts.Given as goal

abbrev pub invariant-loop-byte : goal.invariant-loop-byte
invariant-loop-byte l = every is_part (drop l.byte-index l.bytes) ≡ every is_part l.bytes
