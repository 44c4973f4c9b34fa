use Rattle.readers.proofs.Bundle.{Known}
use Rattle.sml_grammar.proofs.Whole.{exactly}
use Rattle.sml_grammar_mod.proofs.Knot.{str_exact, str_finish}
use Rattle.sml_grammar_mod.proofs.laws.structures_exactly.Goals as goal

pub returns : goal.returns
returns c h cs tokens le = exactly (λ n. str_exact cs Known.Refusals n) str_finish h tokens le
