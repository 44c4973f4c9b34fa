use Rattle.std.proofs.Common.{◌≡◌, ℕ, ◌+◌, ◌-◌, ◌<◌, true, List, length, drop, sym, ap, ◌∙◌, arith}
use Rattle.std.specs.Str.{bytes_eq}
use Rattle.sml_static.specs.Lookups.{last_named}
use Rattle.env_arena.proofs.Rows.{last_named-found, last_named-drop}
use Rattle.env_arena.proofs.row.last_of.Goals as goal

pub returns-then-eq : goal.returns-then-eq
returns-then-eq g c =
    let row = c.args.row.now in
    let i = c.loop-left.left - 1 in
    let x = c.index-row-left.result in
    let lt : c.loop-left.left - 1 < length row = omega arith in
    let next : (c.loop-left.left - 1) + 1 ≡ c.loop-left.left = omega arith in
    let none = ap (λ k. last_named g.T.Named.name_of c.args.name.now (drop k row)) next ∙ c.loop-left.invariant.1 in
    let same : true ≡ bytes_eq (g.T.Named.name_of x) c.args.name.now = sym c.if-eq.true ∙ c.eq.ensures ∙ ap (λ (n : List ℕ). bytes_eq n c.args.name.now) c.name.ensures in
    sym (last_named-found g.T.Named.name_of c.args.name.now row i x (last_named-drop g.T.Named.name_of c.args.name.now row i x true lt c.index-row-left.is none same))
