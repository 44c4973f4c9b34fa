use Rattle.sml_grammar_exp.specs.ReadClauses.{head_goes}
use Rattle.sml_parse_bind.proofs.first.goes_in_head.Goals as goal

pub returns : goal.returns
returns c = c.is_in.ensures head_goes.ops
