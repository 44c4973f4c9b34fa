use Rattle.sml_grammar_mod.specs.ReadStrs.{strdec_goes}
use Rattle.sml_parse_mod.proofs.first.goes_on.Goals as goal

pub returns : goal.returns
returns c = c.is_in.ensures strdec_goes.ops
