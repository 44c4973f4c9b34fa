use Rattle.readers.proofs.Bundle.{Known}
use Rattle.std.proofs.Common.{refl}
use Rattle.sml_grammar.proofs.Whole.{same_tree}
use Rattle.sml_grammar.proofs.Pats.{pat_exact}
use Rattle.sml_grammar.proofs.laws.one_pattern.Goals as goal

pub returns : goal.returns
returns c h fix tokens t u d e = same_tree (λ n. pat_exact fix Known.Refusals n) (λ t. refl) h tokens t u d e
