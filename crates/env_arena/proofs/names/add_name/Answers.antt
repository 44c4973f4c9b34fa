use Rattle.std.proofs.Common.{◌≡◌, ◌||◌, Bool, true, false, cond, refl, ◌∙◌}
use Rattle.std.specs.Str.{bytes_eq}
use Rattle.env_arena.specs.Names.{has}
use Rattle.env_arena.proofs.names.add_name.Goals as goal

cond_or : (a b : Bool) → cond a true b ≡ (a || b)
cond_or true b = refl
cond_or false b = refl

pub returns : goal.returns
returns c = λ n. (c.in_ok-insert.ensures.updates).0 (record c.args.name { now = n }) ∙ cond_or (bytes_eq c.args.name.now n) (has c.args.seen.now n)
