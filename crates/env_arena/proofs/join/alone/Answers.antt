use Rattle.std.proofs.Common.{map, None, ap, ◌∙◌}
use Rattle.env_arena.specs.Spelling.{spelled, spelled_val, spelled_tycon, spelled_str}
use Rattle.env_arena.proofs.Joining.{own_made}
use Rattle.env_arena.proofs.join.alone.Goals as goal

pub returns-in_ok-all_strs-in-Some : goal.returns-in_ok-all_strs-in-Some
returns-in_ok-all_strs-in-Some c =
    own_made None c.into_bump_slice-vals.result c.into_bump_slice-tycons.result c.into_bump_slice-strs.result (spelled c.args.node.now)
    (ap (map spelled_val) c.into_bump_slice-vals.ensures ∙ c.in_ok-all_vals-in-Some.ensures)
    (ap (map spelled_tycon) c.into_bump_slice-tycons.ensures ∙ c.in_ok-all_tycons-in-Some.ensures)
    (ap (map spelled_str) c.into_bump_slice-strs.ensures ∙ c.in_ok-all_strs-in-Some.ensures.row)
