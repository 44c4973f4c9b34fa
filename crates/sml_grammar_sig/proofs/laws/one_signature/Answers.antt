use Rattle.readers.proofs.Bundle.{Known}
use Rattle.sml_grammar.proofs.Whole.{same_tree}
use Rattle.sml_grammar_sig.proofs.Levels.{sig_exact, sig_ends}
use Rattle.sml_grammar_sig.proofs.laws.one_signature.Goals as goal

pub returns : goal.returns
returns c h tokens t u d e = same_tree (λ n. sig_exact Known.Refusals n) (λ t. sig_ends t) h tokens t u d e
