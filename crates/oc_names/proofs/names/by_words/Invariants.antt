use Rattle.std.proofs.Common.{◌≡◌, [], ◌∷◌, ◌++◌, drop}
use Rattle.oc_names.specs.Mangled as spec
use Rattle.oc_names.proofs.names.by_words.Given as goal

abbrev pub invariant-loop-symbol : goal.invariant-loop-symbol
invariant-loop-symbol l = l.out.items ++ spec.words_of (drop l.symbol-index l.bytes) ≡ (l.letter ∷ []) ++ spec.words_of l.bytes
