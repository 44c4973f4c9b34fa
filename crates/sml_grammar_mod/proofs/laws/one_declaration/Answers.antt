use Rattle.readers.proofs.Bundle.{Known}
use Rattle.std.proofs.Common.{refl}
use Rattle.sml_grammar.proofs.Whole.{same_tree}
use Rattle.sml_grammar_mod.proofs.Knot.{strdec_exact}
use Rattle.sml_grammar_mod.proofs.laws.one_declaration.Goals as goal

pub returns : goal.returns
returns c h cs tokens t u d e = same_tree (λ n. strdec_exact cs Known.Refusals n) (λ t. refl) h tokens t u d e
