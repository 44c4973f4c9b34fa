use Rattle.std.proofs.Common.{subst, List}
use Rattle.std.specs.Prelude.{OnOk}
use Rattle.sml_static.specs.declared.ty.Label.{Label}
use Rattle.ty_unify.specs.Stores.{Known, Unified, JoinedCells}
use Rattle.ty_unify.proofs.Sounds.{unified, on_ok}
use Rattle.ty_unify.proofs.store.Store.unify.Goals as goal

pub returns-clause-ok : goal.returns-clause-ok
returns-clause-ok c =
    let old = c.self.inside.cells.items in
    let new = c.unify_cells.new.cells.items in
    let labels = c.self.inside.labels.items in
    let a = c.args.a.number in
    let b = c.args.b.number in
    subst (λ (k : Known). OnOk c.unify_cells.result (Unified k (record { cells = new; labels = labels }) a b)) c.self.view_is
    (on_ok c.unify_cells.result (JoinedCells c.as_slice.result.now old new a b) (Unified (record { cells = old; labels = labels }) (record { cells = new; labels = labels }) a b)
    (λ j. unified labels old new a b (subst (λ (l : List Label). JoinedCells l old new a b) c.as_slice.ensures.value j)) c.unify_cells.ensures.ok)
