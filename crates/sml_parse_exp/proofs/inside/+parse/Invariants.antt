use Rattle.sml_parse_exp.proofs.inside.+parse.Given as goal

abbrev pub decreases-phrase : goal.decreases-phrase
decreases-phrase l = l.room

abbrev pub decreases-dec : goal.decreases-dec
decreases-dec l = l.room
