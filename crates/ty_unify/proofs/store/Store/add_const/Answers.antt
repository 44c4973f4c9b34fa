use Rattle.std.proofs.Common.{length, sym, subst}
use Rattle.ty_unify.specs.Trees.{Atom}
use Rattle.ty_unify.specs.Cells.{TagIn, tag_sort, head_of}
use Rattle.ty_unify.specs.Stores.{Known}
use Rattle.ty_unify.specs.Building.{Made}
use Rattle.ty_unify.proofs.Building.{sound_const, made_const}
use Rattle.ty_unify.proofs.Marks.{rested_put}
use Rattle.ty_unify.proofs.store.Store.add_const.Goals as goal

pub invariant_of-self-2 : goal.invariant_of-self-2
invariant_of-self-2 c =
    let e = c.in_ok-number.ensures in
    let q = subst (λ (k : Known). TagIn (length k.labels) c.args.tag) (sym c.self.view_is) c.requires.tag in (
      sound_const c.self.inside.labels.items c.self.inside.cells.items c.add_cell.new.cells.items c.args.tag c.self.invariant.0 e.cells e.small (q, c.requires.alone),
      rested_put c.self.inside.cells.items c.add_cell.new.cells.items c.self.inside.marks.items _ e.cells c.self.invariant.1,
    )

pub returns : goal.returns
returns c =
    let e = c.in_ok-number.ensures in
    let q = subst (λ (k : Known). TagIn (length k.labels) c.args.tag) (sym c.self.view_is) c.requires.tag in
    subst (λ (k : Known). Made k (record { cells = c.add_cell.new.cells.items; labels = c.self.inside.labels.items }) c.in_ok-number.number (tag_sort c.args.tag) (λ θ. Atom (head_of k.labels c.args.tag))) c.self.view_is
    (made_const c.self.inside.labels.items c.self.inside.cells.items c.add_cell.new.cells.items c.args.tag c.in_ok-number.number c.self.invariant.0 e.cells e.small e.number (q, c.requires.alone))
