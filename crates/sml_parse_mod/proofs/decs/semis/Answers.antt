use Rattle.std.proofs.Common.{sym, ◌∙◌}
use Rattle.sml_parse_exp.proofs.Scopes.{semis_turn, semis_end, semi_less}
use Rattle.sml_parse_mod.proofs.decs.semis.Goals as goal

pub semicolons-smaller : goal.semicolons-smaller
semicolons-smaller c = semi_less c.semicolons.rest.now (tt, c.in_ok-rest.rest.now) c.in_ok-rest.ensures

pub semicolons-preserved : goal.semicolons-preserved
semicolons-preserved c = c.semicolons.invariant ∙ semis_turn c.semicolons.rest.now c.in_ok-rest.rest.now (sym c.is_next.ensures ∙ c.semicolons-test.true) c.in_ok-rest.ensures

pub returns : goal.returns
returns c = c.semicolons.invariant ∙ semis_end c.semicolons.rest.now (sym c.is_next.ensures ∙ c.semicolons-test.false)
