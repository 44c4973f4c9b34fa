use Rattle.sml_grammar_fix.proofs.Modules.{derives_same}
use Rattle.sml_grammar_fix.proofs.laws.programs_by_fixities.Goals as goal

pub returns : goal.returns
returns c cs ds r t tokens e d = derives_same cs ds e r t tokens d
