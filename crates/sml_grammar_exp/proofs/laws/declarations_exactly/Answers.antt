use Rattle.readers.proofs.Bundle.{Known}
use Rattle.std.proofs.Common.{refl}
use Rattle.sml_grammar.proofs.Whole.{exactly}
use Rattle.sml_grammar_exp.proofs.Whole.{dec_exact}
use Rattle.sml_grammar_exp.proofs.laws.declarations_exactly.Goals as goal

pub returns : goal.returns
returns c h cs tokens le = exactly (λ n. dec_exact cs Known.Refusals n) (λ t. refl) h tokens le
