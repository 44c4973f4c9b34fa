use Rattle.sml_grammar_exp.specs.ReadDecs.{dec_goes}
use Rattle.sml_parse_bind.proofs.first.goes_on.Goals as goal

pub returns : goal.returns
returns c = c.is_in.ensures dec_goes.ops
