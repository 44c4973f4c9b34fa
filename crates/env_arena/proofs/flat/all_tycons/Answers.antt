use Rattle.std.proofs.Common.{map, reverse, ap, ◌∙◌}
use Rattle.sml_static.specs.declared.env.Env.{out-Env}
use Rattle.env_arena.specs.declared.node.EnvNode.{out-EnvNode}
use Rattle.env_arena.specs.Names.{has}
use Rattle.env_arena.specs.Spelling.{spelled, spelled_tycon}
use Rattle.env_arena.proofs.Gathering.{flat_step, flat_end, names_step, under_tycon, lone_tycon}
use Rattle.env_arena.proofs.flat.all_tycons.Goals as goal

pub levels-preserved : goal.levels-preserved
levels-preserved c =
    let level = c.levels.level in
    let own = (out-EnvNode level).tycons.now in
    let row = reverse c.levels.row.items in
    let more = reverse c.push_unseen.new.row.items in
    record {
      rest = flat_step (λ t. t.0) spelled_tycon (out-Env (spelled c.args.node.now)).tycons (out-Env (spelled level)).tycons (out-Env (spelled c.in-Some.under.now)).tycons own row more (under_tycon level c.in-Some.under c.in-Some.is) c.in_ok-push_unseen.ensures c.levels.invariant.rest;
      names = names_step (λ t. t.name.now) own row more (has c.levels.seen) (has c.see_all.new.seen) c.levels.invariant.names c.in_ok-see_all-in-Some.ensures c.in_ok-push_unseen.ensures;
    }

pub returns : goal.returns
returns c =
    let level = c.levels.level in
    let own = (out-EnvNode level).tycons.now in
    let row = reverse c.levels.row.items in
    let more = reverse c.push_unseen.new.row.items in
    ap (map spelled_tycon) c.reverse.ensures.items
    ∙ flat_end (λ t. t.0) spelled_tycon (out-Env (spelled c.args.node.now)).tycons (out-Env (spelled level)).tycons own row more (lone_tycon level c.in-None.is) c.in_ok-push_unseen.ensures c.levels.invariant.rest
