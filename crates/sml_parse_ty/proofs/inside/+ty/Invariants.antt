use Rattle.sml_parse_ty.proofs.inside.+ty.Given as goal

abbrev pub decreases-ty : goal.decreases-ty
decreases-ty l = l.room
