use Rattle.std.proofs.Common.{rules}
use Rattle.sml_restrict_core.proofs.First.{first-is_first, first-none}
use Rattle.sml_restrict.specs.Programs.{breaches}
use Rattle.sml_restrict.proofs.program.restrict.Goals as goal

pub returns-in-None-clause-exact : goal.returns-in-None-clause-exact
returns-in-None-clause-exact c = first-none (breaches c.args.program.now) (search rules)

pub returns-in-Some-clause-stands_first : goal.returns-in-Some-clause-stands_first
returns-in-Some-clause-stands_first c = first-is_first (breaches c.args.program.now) c.in-Some.refusal (search rules)
