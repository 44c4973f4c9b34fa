use Rattle.sml_grammar_mod.specs.ReadStrs.{strdecs_goes}
use Rattle.sml_parse_mod.proofs.first.goes_in_decs.Goals as goal

pub returns : goal.returns
returns c = c.is_in.ensures strdecs_goes.ops
