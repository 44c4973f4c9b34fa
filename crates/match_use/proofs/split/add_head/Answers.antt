use Rattle.std.proofs.Common.{map, ap, ◌∙◌}
use Rattle.match_use.specs.Heads.{with_head}
use Rattle.match_use.specs.Keys.{shared_head}
use Rattle.match_use.specs.Lines.{columns_of}
use Rattle.match_use.proofs.Heads.{inserted, own_head}
use Rattle.match_use.proofs.split.add_head.Goals as goal

pub returns-in_ok-insert-clause-each : goal.returns-in_ok-insert-clause-each
returns-in_ok-insert-clause-each c =
    ap (map shared_head) c.in_ok-insert.ensures.keys ∙ inserted c.args.found.now.keys c.in-Some.head (own_head (columns_of c.args.columns.now) (shared_head c.in-Some.head) c.in-Some.ensures.head)
    ∙ ap (with_head (map shared_head c.args.found.now.keys)) c.in-Some.ensures.head
