use Rattle.readers.proofs.Bundle.{Known}
use Rattle.std.proofs.Common.{arith, refl}
use Rattle.sml_grammar.proofs.Whole.{exactly}
use Rattle.sml_grammar_sig.proofs.Levels.{enclosed_exact}
use Rattle.sml_grammar_sig.proofs.laws.rows_exactly.Goals as goal

pub returns : goal.returns
returns c h tokens = exactly (λ n. enclosed_exact Known.Refusals n) (λ t. refl) h tokens (omega arith)
