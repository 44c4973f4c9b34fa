use Rattle.readers.proofs.Bundle.{Known}
use Rattle.std.proofs.Common.{refl}
use Rattle.sml_grammar.proofs.Whole.{exactly}
use Rattle.sml_grammar_mod.proofs.Whole.{program_exact}
use Rattle.sml_grammar_mod.proofs.laws.programs_exactly.Goals as goal

pub returns : goal.returns
returns c h cs tokens le = exactly (λ n. program_exact cs Known.Refusals n) (λ t. refl) h tokens le
