use Rattle.std.proofs.Common.{◌∷◌}
use Rattle.sml_grammar_mod.specs.Programs.{ProgramR}
use Rattle.sml_grammar_fix.proofs.Modules.{refusal_same}
use Rattle.sml_grammar_fix.proofs.Refusals.{one_refused}
use Rattle.sml_grammar_fix.proofs.laws.refused_by_fixities.Goals as goal

pub returns : goal.returns
returns x cs ds h tokens c d t u rest more e i j =
    let k = refusal_same cs ds e h tokens c (t ∷ rest) i in
    one_refused (ProgramR ds) h tokens c d t u rest more k.1 j.1
