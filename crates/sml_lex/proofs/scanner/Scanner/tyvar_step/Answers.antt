use Rattle.sml_lex.proofs.Ids.{tyvar_longest}
use Rattle.sml_lex.proofs.scanner.Scanner.tyvar_step.Goals as goal

pub returns-clause-value : goal.returns-clause-value
returns-clause-value c =
    rw (c.in_ok-new.ensures, c.split_at.ensures.front, c.run-n.ensures.value) (tyvar_longest c.args.bytes.now c.requires)
