use Rattle.sml_grammar_mod.specs.ReadPrograms.{top_firsts}
use Rattle.sml_parse_mod.proofs.first.begins_top.Goals as goal

pub returns : goal.returns
returns c = c.is_in.ensures top_firsts.ops
