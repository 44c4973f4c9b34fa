use Rattle.sml_parse_pat.proofs.inside.+phrase.Given as goal

abbrev pub decreases-phrase : goal.decreases-phrase
decreases-phrase l = l.room
