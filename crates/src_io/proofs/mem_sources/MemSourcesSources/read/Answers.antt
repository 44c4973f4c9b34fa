use Rattle.std.proofs.Common.{refl, arith}
use Rattle.src_io.proofs.MemoryLemmas.{left_at}
use Rattle.src_io.proofs.mem_sources.MemSourcesSources.read.Goals as goal

pub returns-clause-read : goal.returns-clause-read
returns-clause-read c =
    let left = left_at _ _ _ _ _ _ _ c.self.invariant.1 c.unwrap-at.ensures c.items.ensures c.index-items-at.is c.items-2.ensures in
    let count = rw left at c.copy_front-count.ensures.count in
    let copied = rw left at c.copy_front-count.ensures.copied in
    rw (← c.self.view_is, c.in_ok-begin.ensures.now) (count, (omega (arith, count), copied, (λ room some. omega (arith, count, c.self.invariant.0)), refl), refl)
