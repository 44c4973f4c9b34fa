use Rattle.std.proofs.Common.{◌≡◌, ◌<◌, length, sym, subst}
use Rattle.ty_unify.specs.Trees.{Fork}
use Rattle.ty_unify.specs.Cells.{TagIn, tag_sort, rest_sort, sort_at, head_of}
use Rattle.ty_unify.specs.Stores.{Known}
use Rattle.ty_unify.specs.Building.{NodeIn, Made}
use Rattle.ty_unify.proofs.Building.{sound_pair, made_pair}
use Rattle.ty_unify.proofs.Marks.{rested_put}
use Rattle.ty_unify.proofs.store.Store.add_pair.Goals as goal

pub invariant_of-self-2 : goal.invariant_of-self-2
invariant_of-self-2 c =
    let r = c.requires in
    let e = c.in_ok-number.ensures in
    let q = subst (λ (k : Known). TagIn (length k.labels) c.args.tag × NodeIn k.cells c.args.a × (c.args.b < length k.cells) × (sort_at k.cells c.args.b ≡ rest_sort c.args.tag)) (sym c.self.view_is) (r.tag, r.a, r.b, r.sort) in (
      sound_pair c.self.inside.labels.items c.self.inside.cells.items c.add_cell.new.cells.items c.args.tag c.args.a c.args.b c.self.invariant.0 e.cells e.small (q.0, r.parts) q.1 q.2 q.3,
      rested_put c.self.inside.cells.items c.add_cell.new.cells.items c.self.inside.marks.items _ e.cells c.self.invariant.1,
    )

pub returns : goal.returns
returns c =
    let r = c.requires in
    let e = c.in_ok-number.ensures in
    let q = subst (λ (k : Known). TagIn (length k.labels) c.args.tag × NodeIn k.cells c.args.a × (c.args.b < length k.cells) × (sort_at k.cells c.args.b ≡ rest_sort c.args.tag)) (sym c.self.view_is) (r.tag, r.a, r.b, r.sort) in
    subst (λ (k : Known). Made k (record { cells = c.add_cell.new.cells.items; labels = c.self.inside.labels.items }) c.in_ok-number.number (tag_sort c.args.tag) (λ θ. Fork (head_of k.labels c.args.tag) (θ c.args.a) (θ c.args.b))) c.self.view_is
    (made_pair c.self.inside.labels.items c.self.inside.cells.items c.add_cell.new.cells.items c.args.tag c.args.a c.args.b c.in_ok-number.number c.self.invariant.0 e.cells e.small e.number (q.0, r.parts) q.1 q.2 q.3)
