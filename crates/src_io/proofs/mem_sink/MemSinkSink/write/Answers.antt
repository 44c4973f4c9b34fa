use Rattle.std.proofs.Common.{arith}
use Rattle.src_io.proofs.CountedLemmas.{NoneFails-after}
use Rattle.src_io.proofs.mem_sink.MemSinkSink.write.Goals as goal

pub returns-clause-accepted : goal.returns-clause-accepted
returns-clause-accepted c =
    rw (← c.self.view_is, c.in_ok-begin.ensures.now) (λ n few p. (NoneFails-after c.self.inside.calls p.0, omega (arith, p.1)))
