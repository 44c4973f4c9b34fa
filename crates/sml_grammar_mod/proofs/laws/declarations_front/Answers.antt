use Rattle.readers.proofs.Bundle.{Known}
use Rattle.std.proofs.Common.{refl}
use Rattle.sml_grammar.proofs.Whole.{front}
use Rattle.sml_grammar_mod.proofs.Knot.{strdec_exact}
use Rattle.sml_grammar_mod.proofs.laws.declarations_front.Goals as goal

pub returns : goal.returns
returns c h cs tokens le = front (λ n. strdec_exact cs Known.Refusals n) (λ t. refl) h tokens le
