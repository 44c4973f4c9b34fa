use Rattle.sml_grammar_mod.specs.ReadStrs.{str_item_goes}
use Rattle.sml_parse_mod.proofs.first.goes_in_item.Goals as goal

pub returns : goal.returns
returns c = c.is_in.ensures str_item_goes.ops
