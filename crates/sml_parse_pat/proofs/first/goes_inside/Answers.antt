use Rattle.std.proofs.Common.{[], ◌∷◌}
use Rattle.sml_parse_pat.proofs.first.goes_inside.Goals as goal

pub returns : goal.returns
returns c = c.is_in.ensures (7 ∷ 8 ∷ 9 ∷ 10 ∷ 11 ∷ 12 ∷ 1 ∷ 2 ∷ 3 ∷ 4 ∷ [])
