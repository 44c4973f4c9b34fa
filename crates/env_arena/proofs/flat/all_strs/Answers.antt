use Rattle.std.proofs.Common.{map, reverse, All, ◌<◌, subst, sym, ap, ◌∙◌, List}
use Rattle.sml_static.specs.declared.env.Env.{out-Env}
use Rattle.env_arena.specs.declared.node.StrNode.{StrNode}
use Rattle.env_arena.specs.declared.node.EnvNode.{out-EnvNode}
use Rattle.env_arena.specs.declared.node.EnvNode.TheViews.{size-EnvNode, size-StrNode}
use Rattle.env_arena.specs.Names.{has}
use Rattle.env_arena.specs.Spelling.{spelled, spelled_str}
use Rattle.env_arena.proofs.Gathering.{flat_step, flat_end, names_step, under_str, lone_str, depth_step, size_step}
use Rattle.env_arena.proofs.flat.all_strs.Goals as goal

pub levels-preserved : goal.levels-preserved
levels-preserved c =
    let level = c.levels.level in
    let own = (out-EnvNode level).strs.now in
    let row = reverse c.levels.row.items in
    let more = reverse c.push_unseen.new.row.items in
    record {
      rest = flat_step (λ s. s.0) spelled_str (out-Env (spelled c.args.node.now)).strs (out-Env (spelled level)).strs (out-Env (spelled c.in-Some.under.now)).strs own row more (under_str level c.in-Some.under c.in-Some.is) c.in_ok-push_unseen.ensures c.levels.invariant.rest;
      names = names_step (λ s. (spelled_str s).0) own row more (has c.levels.seen) (has c.see_all.new.seen) c.levels.invariant.names c.in_ok-see_all-in-Some.ensures c.in_ok-push_unseen.ensures;
      depth = depth_step (λ s. (spelled_str s).0) (size-EnvNode c.args.node.now) level row more c.in_ok-push_unseen.ensures c.levels.invariant.within c.levels.invariant.depth;
      within = size_step level c.in-Some.under (size-EnvNode c.args.node.now) c.in-Some.is c.levels.invariant.within;
    }

pub returns-clause-row : goal.returns-clause-row
returns-clause-row c =
    let level = c.levels.level in
    let own = (out-EnvNode level).strs.now in
    let row = reverse c.levels.row.items in
    let more = reverse c.push_unseen.new.row.items in
    ap (map spelled_str) c.reverse.ensures.items
    ∙ flat_end (λ s. s.0) spelled_str (out-Env (spelled c.args.node.now)).strs (out-Env (spelled level)).strs own row more (lone_str level c.in-None.is) c.in_ok-push_unseen.ensures c.levels.invariant.rest

pub returns-clause-depth : goal.returns-clause-depth
returns-clause-depth c =
    let level = c.levels.level in
    let row = reverse c.levels.row.items in
    let more = reverse c.push_unseen.new.row.items in
    let P : List StrNode → Type 0 = λ r. All (λ s. size-StrNode s < size-EnvNode c.args.node.now) r in
    subst P (sym c.reverse.ensures.items) (depth_step (λ s. (spelled_str s).0) (size-EnvNode c.args.node.now) level row more c.in_ok-push_unseen.ensures c.levels.invariant.within c.levels.invariant.depth)
