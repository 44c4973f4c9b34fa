use Rattle.sml_grammar_mod.specs.ReadStrs.{strdec_firsts}
use Rattle.sml_parse_mod.proofs.first.begins_strdec.Goals as goal

pub returns : goal.returns
returns c = c.is_in.ensures strdec_firsts.ops
