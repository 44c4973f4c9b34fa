use Rattle.readers.proofs.Bundle.{Known}
use Rattle.sml_grammar.proofs.Whole.{front}
use Rattle.sml_grammar_sig.proofs.Levels.{sig_exact, sig_ends}
use Rattle.sml_grammar_sig.proofs.laws.signatures_front.Goals as goal

pub returns : goal.returns
returns c h tokens le = front (λ n. sig_exact Known.Refusals n) (λ t. sig_ends t) h tokens le
