use Rattle.readers.proofs.Bundle.{Known}
use Rattle.sml_grammar.proofs.Whole.{same_tree}
use Rattle.sml_grammar_mod.proofs.Knot.{str_exact, str_finish}
use Rattle.sml_grammar_mod.proofs.laws.one_structure.Goals as goal

pub returns : goal.returns
returns c h cs tokens t u d e = same_tree (λ n. str_exact cs Known.Refusals n) str_finish h tokens t u d e
