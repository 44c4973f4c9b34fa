use Rattle.std.proofs.Common.{◌≡◌, ◌+◌, ◌-◌, ◌≤◌, IsTrue, length, vec_len}
use Rattle.src_io.proofs.ReadingLemmas.{IsReading}
use Rattle.src_io.proofs.reading.read_named.Given as goal

abbrev pub invariant-loop-buffer : goal.invariant-loop-buffer
invariant-loop-buffer g l = record {
  reads : IsTrue (g.S.Sources.is_open l.src);
  same_faults : g.S.Sources.faults l.src ≡ g.S.Sources.faults l.fn.src;
  room : length l.buffer ≡ 65536;
  bounded : vec_len l.bytes ≤ l.limit + 1;
  so_far : IsReading l.name l.limit (g.S.Sources.told l.fn.src) (g.S.Sources.told l.src) l.bytes.items;
}

abbrev pub decreases-loop-buffer : goal.decreases-loop-buffer
decreases-loop-buffer g l = l.limit + 1 - vec_len l.bytes
