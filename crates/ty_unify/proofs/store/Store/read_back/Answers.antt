use Rattle.std.proofs.Common.{subst, List}
use Rattle.sml_static.specs.declared.ty.Label.{Label}
use Rattle.ty_unify.specs.declared.cell.Cell.{Cell}
use Rattle.ty_unify.specs.Stores.{Known}
use Rattle.ty_unify.specs.Reading.{ReadBack, Reads}
use Rattle.ty_unify.proofs.Reading.{read_back_is}
use Rattle.ty_unify.proofs.store.Store.read_back.Goals as goal

pub returns : goal.returns
returns c =
    let labels = c.self.inside.labels.items in
    let cells = c.self.inside.cells.items in
    subst (λ (k : Known). ReadBack k c.args.node.number c.in_ok-ty.ty) c.self.view_is
    (read_back_is labels cells c.args.node.number c.in_ok-ty.ty
    (subst (λ (l : List Label). Reads l cells (λ θ. θ c.args.node.number) c.in_ok-ty.ty) c.as_slice.ensures.value
    (subst (λ (x : List Cell). Reads c.as_slice.result.now x (λ θ. θ c.args.node.number) c.in_ok-ty.ty) c.as_slice-cells.ensures.value c.in_ok-ty.ensures.reads)))
