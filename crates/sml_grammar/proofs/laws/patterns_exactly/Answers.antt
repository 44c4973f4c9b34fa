use Rattle.readers.proofs.Bundle.{Known}
use Rattle.std.proofs.Common.{refl}
use Rattle.sml_grammar.proofs.Whole.{exactly}
use Rattle.sml_grammar.proofs.Pats.{pat_exact}
use Rattle.sml_grammar.proofs.laws.patterns_exactly.Goals as goal

pub returns : goal.returns
returns c h fix tokens le = exactly (λ n. pat_exact fix Known.Refusals n) (λ t. refl) h tokens le
