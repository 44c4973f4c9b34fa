use Rattle.std.proofs.Common.{◌<◌, List, length, ap, ◌∙◌, subst, true, false}
use Rattle.sml_static.specs.declared.ty.VarKind.TheVariants as kind
use Rattle.ty_unify.specs.declared.cell.Cell.{Cell}
use Rattle.ty_unify.specs.Stores.{Known, KindIs}
use Rattle.ty_unify.proofs.Sets.{read_is}
use Rattle.ty_unify.proofs.KindOf.{kind_is}
use Rattle.ty_unify.proofs.store.Store.kind.Goals as goal

pub returns-then-index : goal.returns-then-index
returns-then-index c =
    let cells = c.self.inside.cells.items in
    let v = c.as_slice.ensures.value in
    let r = c.root-at.ensures in
    let lt : c.root-at.result < length cells = subst (λ (l : List Cell). c.root-at.result < length l) v r.within in
    let here = read_is cells c.root-at.result c.index.result.now lt c.index.ensures in
    subst (λ (k : Known). KindIs kind.Equal k c.args.node.number) c.self.view_is
    (kind_is c.self.inside.labels.items cells c.as_slice.result.now c.args.node.number c.root-at.result true c.self.invariant.0 v r.within r.root r.same (ap (λ (x : Cell). x.equal) here ∙ c.if-index.true))

pub returns-else-index : goal.returns-else-index
returns-else-index c =
    let cells = c.self.inside.cells.items in
    let v = c.as_slice.ensures.value in
    let r = c.root-at.ensures in
    let lt : c.root-at.result < length cells = subst (λ (l : List Cell). c.root-at.result < length l) v r.within in
    let here = read_is cells c.root-at.result c.index.result.now lt c.index.ensures in
    subst (λ (k : Known). KindIs kind.Plain k c.args.node.number) c.self.view_is
    (kind_is c.self.inside.labels.items cells c.as_slice.result.now c.args.node.number c.root-at.result false c.self.invariant.0 v r.within r.root r.same (ap (λ (x : Cell). x.equal) here ∙ c.if-index.false))
