use Rattle.std.proofs.Common.{◌∙◌, arith}
use Rattle.std.proofs.lemmas.List.{length-take}
use Rattle.src_io.proofs.ReadingLemmas.{IsReading-more}
use Rattle.src_io.proofs.reading.read_named.Goals as goal

pub loop-buffer-preserved : goal.loop-buffer-preserved
loop-buffer-preserved g c =
    let added = c.in_ok-extend_from_slice.ensures.items in
    let count = c.in_ok-extend_from_slice.ensures.len in
    record {
      reads = c.in_ok-count.ensures.read.1;
      same_faults = c.in_ok-count.ensures.read.2 ∙ c.loop-buffer.invariant.same_faults;
      room = omega arith;
      bounded = omega (arith, count, length-take c.min.result c.read.new.into);
      so_far = rw added (IsReading-more _ _ _ _ _ _ _ _ _ (omega arith) c.loop-buffer.invariant.so_far c.in_ok-count.ensures.read.3 (omega arith));
    }
