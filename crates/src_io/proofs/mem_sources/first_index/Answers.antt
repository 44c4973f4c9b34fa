use Rattle.std.proofs.Common.{sym, ◌∙◌, ap}
use Rattle.std.specs.Str.{bytes_eq}
use Rattle.src_io.proofs.MemoryLemmas.{found_at}
use Rattle.src_io.proofs.mem_sources.first_index.Goals as goal

pub returns-then-eq-clause-found : goal.returns-then-eq-clause-found
returns-then-eq-clause-found c =
    found_at c.args.held.now c.loop-i.i c.index-held-i.result c.args.name.now c.loop-i-test.true c.index-held-i.is
    (ap (λ b. bytes_eq b c.args.name.now) (sym c.bytes.ensures) ∙ sym c.eq.ensures ∙ c.if-eq.true) c.loop-i.invariant
