use Rattle.std.proofs.Common.{◌++◌, [], ◌∷◌, ap, ◌∙◌, subst}
use Rattle.ty_unify.specs.declared.cell.Cell.{Cell}
use Rattle.ty_unify.specs.Stores.{Known, Grown, KindHolds}
use Rattle.ty_unify.proofs.Growth.{sound_fresh, fresh_grown}
use Rattle.ty_unify.proofs.Marks.{rested_put}
use Rattle.ty_unify.proofs.store.Store.fresh.Goals as goal

pub invariant_of-self-2 : goal.invariant_of-self-2
invariant_of-self-2 c =
    let e = c.in_ok-number.ensures in (
      sound_fresh c.self.inside.labels.items c.self.inside.cells.items c.add_cell.new.cells.items c.args.kind c.self.invariant.0
          (e.cells ∙ ap (λ (x : Cell). c.self.inside.cells.items ++ x ∷ []) c.variable-cell.ensures) e.small,
      rested_put c.self.inside.cells.items c.add_cell.new.cells.items c.self.inside.marks.items _ (e.cells ∙ ap (λ (x : Cell). c.self.inside.cells.items ++ x ∷ []) c.variable-cell.ensures) c.self.invariant.1,
    )

pub returns-clause-ok : goal.returns-clause-ok
returns-clause-ok c =
    let e = c.in_ok-number.ensures in
    subst (λ (k : Known). Grown k (record { cells = c.add_cell.new.cells.items; labels = c.self.inside.labels.items }) c.in_ok-number.number (λ θ t. KindHolds c.args.kind t)) c.self.view_is
    (fresh_grown c.self.inside.labels.items c.self.inside.cells.items c.add_cell.new.cells.items c.args.kind c.in_ok-number.number c.self.invariant.0
    (e.cells ∙ ap (λ (x : Cell). c.self.inside.cells.items ++ x ∷ []) c.variable-cell.ensures) e.small e.number)
