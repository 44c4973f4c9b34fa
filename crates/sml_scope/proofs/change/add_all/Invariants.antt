use Rattle.std.proofs.Common.{◌≡◌, ◌++◌, drop, map}
use Rattle.sml_scope.specs.Scope.{made_operators}
use Rattle.sml_scope.proofs.change.add_all.Given as goal

abbrev pub invariant-loop-word : goal.invariant-loop-word
invariant-loop-word l =
    l.log.items ++ made_operators (l.precedence, l.side) (map (λ w. w.now) (drop l.word-index l.words)) ≡ l.fn.log.items ++ made_operators (l.precedence, l.side) (map (λ w. w.now) l.words)
