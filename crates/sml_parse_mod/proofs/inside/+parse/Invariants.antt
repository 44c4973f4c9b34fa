use Rattle.sml_parse_mod.proofs.inside.+parse.Given as goal

abbrev pub decreases-base : goal.decreases-base
decreases-base l = l.room

abbrev pub decreases-strdec : goal.decreases-strdec
decreases-strdec l = l.room
