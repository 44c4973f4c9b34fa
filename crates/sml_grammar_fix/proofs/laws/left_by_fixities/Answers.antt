use Rattle.sml_grammar_fix.proofs.Modules.{left_alike}
use Rattle.sml_grammar_fix.proofs.laws.left_by_fixities.Goals as goal

pub returns : goal.returns
returns c cs ds t e = left_alike cs ds t e
