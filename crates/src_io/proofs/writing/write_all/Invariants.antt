use Rattle.std.proofs.Common.{length, ◌-◌, ◌≡◌, ◌≤◌, take}
use Rattle.src_io.specs.Written.{Appends}
use Rattle.src_io.proofs.writing.write_all.Given as goal

abbrev pub invariant-loop-done : goal.invariant-loop-done
invariant-loop-done g l = record {
  within : l.done ≤ length l.bytes;
  same_faults : g.O.Sink.faults l.sink ≡ g.O.Sink.faults l.initial.sink;
  front : Appends (g.O.Sink.written l.initial.sink) (g.O.Sink.written l.sink) (take l.done l.bytes);
  accepted : g.O.Sink.accepts l.initial.sink (length l.bytes) → g.O.Sink.accepts l.sink (length l.bytes - l.done);
}

abbrev pub decreases-loop-done : goal.decreases-loop-done
decreases-loop-done g l = length l.bytes - l.done
