use Rattle.std.proofs.Common.{◌≡◌, ◌∙◌, ◌-◌, ◌+◌, length, arith, length-drop, subst, ℕ}
use Rattle.std.proofs.lemmas.List.{take_rest, length-take}
use Rattle.src_io.proofs.WrittenLemmas.{Appends-further}
use Rattle.src_io.proofs.writing.write_all.Goals as goal

pub loop-done-preserved : goal.loop-done-preserved
loop-done-preserved g c = record {
  within = omega (arith, length-drop {A = ℕ}, c.in_ok-done.ensures.written.0);
  same_faults = c.in_ok-done.ensures.written.2 ∙ c.loop-done.invariant.same_faults;
  front = Appends-further _ _ _ _ _ _ c.loop-done.invariant.front
      (rw take_rest at c.in_ok-done.ensures.written.3);
  accepted = λ all.
      let left = length c.args.bytes.now - c.loop-done.done in
      let same : left - c.in_ok-done.field-0 ≡ length c.args.bytes.now - (c.loop-done.done + c.in_ok-done.field-0) = omega arith in
      subst (λ (n : ℕ). g.O.Sink.accepts c.write.new.self n) same
      (c.in_ok-done.ensures.accepted left (omega (arith, length-take {A = ℕ})) (c.loop-done.invariant.accepted all));
}
