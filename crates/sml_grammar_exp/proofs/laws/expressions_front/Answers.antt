use Rattle.readers.proofs.Bundle.{Known}
use Rattle.sml_grammar.proofs.Whole.{front}
use Rattle.sml_grammar_exp.proofs.Stops.{exp_none}
use Rattle.sml_grammar_exp.proofs.Whole.{exp_exact}
use Rattle.sml_grammar_exp.proofs.laws.expressions_front.Goals as goal

pub returns : goal.returns
returns c h cs tokens le = front (λ n. exp_exact cs Known.Refusals n) (λ t. exp_none t.0.1.typed t.0.1.reach) h tokens le
