use Rattle.std.proofs.Common.{◌≡◌, ◌<◌, ◌≤◌, sym, ◌∙◌, subst, arith}
use Rattle.ty_unify.specs.Cells.{drawn, link_rank}
use Rattle.ty_unify.proofs.Links.{rank_below, rank_tied, rank_no_less}
use Rattle.ty_unify.proofs.cell.comes_before.Goals as goal

pub returns-then-first-second : goal.returns-then-first-second
returns-then-first-second c =
    let x = c.draw-first.ensures in
    let y = c.draw-second.ensures in
    rank_below c.args.a c.args.b c.ranges.a.fits c.ranges.b.fits (omega arith)

pub returns-then-second-first : goal.returns-then-second-first
returns-then-second-first c =
    let x = c.draw-first.ensures in
    let y = c.draw-second.ensures in
    let h = rank_below c.args.b c.args.a c.ranges.b.fits c.ranges.a.fits (omega arith) in omega arith

pub returns-then-a-b : goal.returns-then-a-b
returns-then-a-b c =
    let x = c.draw-first.ensures in
    let y = c.draw-second.ensures in
    let e : drawn c.args.a ≡ drawn c.args.b = omega arith in
    rank_tied c.args.a c.args.b e (omega arith)

pub returns : goal.returns
returns c =
    let x = c.draw-first.ensures in
    let y = c.draw-second.ensures in
    let e : drawn c.args.a ≡ drawn c.args.b = omega arith in
    rank_no_less c.args.a c.args.b e (omega arith)
