use Rattle.std.proofs.Common.{◌≡◌, drop}
use Rattle.built_items.specs.Built.{read_tops, with_items}
use Rattle.built_items.proofs.reader.read_tops.Given as goal

abbrev pub invariant-loop-top : goal.invariant-loop-top
invariant-loop-top l = with_items l.items (read_tops (drop l.top-index l.tops)) ≡ read_tops l.tops
