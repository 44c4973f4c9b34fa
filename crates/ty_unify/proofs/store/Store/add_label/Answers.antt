use Rattle.std.proofs.Common.{◌++◌, [], ◌∷◌, ap, ◌∙◌, subst}
use Rattle.sml_static.specs.declared.ty.Label.{Label}
use Rattle.ty_unify.specs.Stores.{Known}
use Rattle.ty_unify.specs.Building.{LabelMade}
use Rattle.ty_unify.proofs.Building.{made_label}
use Rattle.ty_unify.proofs.store.Store.add_label.Goals as goal

pub returns : goal.returns
returns c =
    let l = c.self.inside.labels.items in
    subst (λ (k : Known). LabelMade k (record { cells = c.self.inside.cells.items; labels = c.push.new.self.items }) c.len-index.result c.args.label.now) c.self.view_is
    (made_label l c.self.inside.cells.items c.push.new.self.items c.args.label.now c.len-index.result c.self.invariant.0
    (c.in_ok-push.ensures.items ∙ ap (λ (x : Label). l ++ x ∷ []) c.in_ok-copy.ensures) (c.len-index.ensures ∙ c.self.inside.labels.ok.0))
