use Rattle.std.proofs.Common.{ap, ◌∙◌}
use Rattle.sml_lex.specs.Names.{free_run, next_part}
use Rattle.sml_lex.proofs.Lists.{first_back}
use Rattle.sml_lex.proofs.scanner.Scanner.next_part.Goals as goal

pub returns-then-bytes-eq46-clause-value : goal.returns-then-bytes-eq46-clause-value
returns-then-bytes-eq46-clause-value c = c.free_run.ensures.value ∙ ap free_run c.split_at.ensures.back ∙ ap next_part (first_back c.args.bytes.now 46 c.if-bytes-gt0.true c.if-bytes-eq46.true)
