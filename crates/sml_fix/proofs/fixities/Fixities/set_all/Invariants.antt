use Rattle.std.proofs.Common.{◌≡◌, drop, map}
use Rattle.sml_fix.specs.Fixities as spec
use Rattle.sml_fix.proofs.fixities.Fixities.set_all.Given as goal

abbrev pub invariant-loop-word : goal.invariant-loop-word
invariant-loop-word l = spec.all_assigned (spec.settings l.self) (map (λ w. w.now) (drop l.word-index l.words)) (l.precedence, l.side) ≡ spec.all_assigned (spec.settings l.fn.self) (map (λ w. w.now) l.fn.words) (l.precedence, l.side)
