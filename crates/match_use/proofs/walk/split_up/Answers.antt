use Rattle.std.proofs.Common.{◌≡◌, ◌-◌, ◌<◌, ◌≤◌, ◌+◌, ◌++◌, List, map, length, ap, ◌∙◌, arith}
use Rattle.std.proofs.lemmas.List.{length-map}
use Rattle.match_use.specs.declared.walk.TheConstants.{SPLITS}
use Rattle.match_use.specs.Keys.{shared_head}
use Rattle.match_use.specs.Lines.{Line, lines_of}
use Rattle.match_use.specs.Progress.{pending}
use Rattle.match_use.proofs.Visiting.{visited-over, visited-split}
use Rattle.match_use.proofs.walk.split_up.Goals as goal

pub returns-then-count-tally : goal.returns-then-count-tally
returns-then-count-tally c =
    let keys = c.in_ok-heads.heads.keys in
    let count = length-map keys shared_head in
    let many : SPLITS - c.args.tally.now.splits < length (map shared_head keys) = omega (arith, c.len-count.ensures.len, c.if-count-tally.true, count) in
    visited-over SPLITS (lines_of c.args.rows.now) (map shared_head keys) (pending c.args.todo.now.items) c.args.tally.now.reached.items c.args.tally.now.exhaustive c.args.tally.now.splits
    c.requires.splitting c.in_ok-heads.ensures.by many

pub returns : goal.returns
returns c =
    let keys = c.in_ok-heads.heads.keys in
    let old = pending c.args.todo.now.items in
    let count = length-map keys shared_head in
    let few : length (map shared_head keys) ≤ SPLITS - c.args.tally.now.splits = omega (arith, c.len-count.ensures.len, c.if-count-tally.false, count) in
    let sum : c.args.tally.now.splits + c.len-count.result ≡ c.args.tally.now.splits + length (map shared_head keys) = omega (arith, c.len-count.ensures.len, count) in
    visited-split SPLITS (lines_of c.args.rows.now) (map shared_head keys) old (pending c.push_all.new.todo.items) c.args.tally.now.reached.items c.args.tally.now.exhaustive
    c.args.tally.now.splits (c.args.tally.now.splits + c.len-count.result) c.requires.splitting c.in_ok-heads.ensures.by c.in_ok-heads.ensures.standing c.requires.within few
    (c.in_ok-push_all.ensures ∙ ap (λ (x : List (List Line)). x ++ old) c.in_ok-matrices.ensures) sum
