use Rattle.readers.proofs.Bundle.{Known}
use Rattle.std.proofs.Common.{refl}
use Rattle.sml_grammar.proofs.Whole.{same_tree}
use Rattle.sml_grammar_sig.proofs.Levels.{enclosed_exact}
use Rattle.sml_grammar_sig.proofs.laws.one_row.Goals as goal

pub returns : goal.returns
returns c h tokens t u d e = same_tree (λ n. enclosed_exact Known.Refusals n) (λ t. refl) h tokens t u d e
