use Rattle.std.proofs.Common.{◌≡◌, ◌∷◌, ◌++◌, drop}
use Rattle.oc_layout.specs.Sheet.{all_bytes}
use Rattle.oc_print.proofs.literal.quoted_bytes.Given as goal

abbrev pub invariant-loop-c : goal.invariant-loop-c
invariant-loop-c l = l.out.items ++ all_bytes l.quote (drop l.c-index l.bytes) ≡ l.quote ∷ all_bytes l.quote l.bytes
