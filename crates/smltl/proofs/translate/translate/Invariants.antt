use Rattle.std.proofs.Common.{◌≡◌, length, map}
use Rattle.src_io.specs.Reading.{SameFiles}
use Rattle.src_io.specs.Written.{Appends}
use Rattle.tl_session.specs.Faithful.{IsTranslation}
use Rattle.smltl.specs.Outcome.{AreSources, written_for}
use Rattle.smltl.proofs.translate.translate.Given as goal

-- the sources so far are translated and their texts are written; the counts are as before
abbrev pub invariant-loop-at : goal.invariant-loop-at
invariant-loop-at g l = record {
  translation : IsTranslation l.session;
  sources : AreSources (g.S.Sources.told l.fn.src) (map (λ n. n.now) l.names) l.session.sources;
  count : length l.session.sources ≡ l.at;
  kept : SameFiles (g.S.Sources.told l.fn.src) (g.S.Sources.told l.src);
  out : Appends (g.O.Sink.written l.fn.out) (g.O.Sink.written l.out) (written_for l.session);
  read_count : g.S.Sources.faults l.src ≡ g.S.Sources.faults l.fn.src;
  write_count : g.O.Sink.faults l.out ≡ g.O.Sink.faults l.fn.out;
}
