use Rattle.sml_parse_sig.proofs.inside.+spec.Given as goal

abbrev pub decreases-spec : goal.decreases-spec
decreases-spec l = l.room
