use Rattle.std.proofs.Common.{ap, ◌∙◌}
use Rattle.readers.specs.Reader.{first}
use Rattle.sml_fix.specs.Fixities.{settings}
use Rattle.sml_parse_pat.proofs.Taken.{reached, taken_is}
use Rattle.sml_parse_pat.proofs.row.is_taken.Goals as goal

pub returns-in-None : goal.returns-in-None
returns-in-None c = ap (reached c.args.floor) c.in-None.ensures ∙ taken_is (settings c.args.fix.now) c.args.floor (first c.args.tokens.now)

pub returns-in-Some : goal.returns-in-Some
returns-in-Some c = c.is_reached.ensures ∙ (ap (reached c.args.floor) c.in-Some.ensures ∙ taken_is (settings c.args.fix.now) c.args.floor (first c.args.tokens.now))
