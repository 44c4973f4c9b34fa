use Rattle.std.proofs.Common.{map, reverse, ap, ◌∙◌}
use Rattle.sml_static.specs.declared.env.Env.{out-Env}
use Rattle.env_arena.specs.declared.node.EnvNode.{out-EnvNode}
use Rattle.env_arena.specs.Names.{has}
use Rattle.env_arena.specs.Spelling.{spelled, spelled_val}
use Rattle.env_arena.proofs.Gathering.{flat_step, flat_end, names_step, under_val, lone_val}
use Rattle.env_arena.proofs.flat.all_vals.Goals as goal

pub levels-preserved : goal.levels-preserved
levels-preserved c =
    let level = c.levels.level in
    let own = (out-EnvNode level).vals.now in
    let row = reverse c.levels.row.items in
    let more = reverse c.push_unseen.new.row.items in
    record {
      rest = flat_step (λ v. v.0) spelled_val (out-Env (spelled c.args.node.now)).vals (out-Env (spelled level)).vals (out-Env (spelled c.in-Some.under.now)).vals own row more (under_val level c.in-Some.under c.in-Some.is) c.in_ok-push_unseen.ensures c.levels.invariant.rest;
      names = names_step (λ v. v.name.now) own row more (has c.levels.seen) (has c.see_all.new.seen) c.levels.invariant.names c.in_ok-see_all-in-Some.ensures c.in_ok-push_unseen.ensures;
    }

pub returns : goal.returns
returns c =
    let level = c.levels.level in
    let own = (out-EnvNode level).vals.now in
    let row = reverse c.levels.row.items in
    let more = reverse c.push_unseen.new.row.items in
    ap (map spelled_val) c.reverse.ensures.items
    ∙ flat_end (λ v. v.0) spelled_val (out-Env (spelled c.args.node.now)).vals (out-Env (spelled level)).vals own row more (lone_val level c.in-None.is) c.in_ok-push_unseen.ensures c.levels.invariant.rest
