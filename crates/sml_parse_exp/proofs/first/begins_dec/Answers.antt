use Rattle.sml_grammar_exp.specs.ReadDecs.{dec_firsts}
use Rattle.sml_parse_exp.proofs.first.begins_dec.Goals as goal

pub returns : goal.returns
returns c = c.is_in.ensures dec_firsts.ops
