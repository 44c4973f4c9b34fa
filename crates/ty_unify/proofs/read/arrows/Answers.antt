use Rattle.std.proofs.Common.{List, sym, ap, ◌∙◌}
use Rattle.sml_static.specs.declared.ty.Ty.{Ty}
use Rattle.sml_static.specs.declared.ty.Ty.TheVariants as ty
use Rattle.ty_unify.specs.Reading.{arrows_to}
use Rattle.ty_unify.proofs.Reading.{arrows_put}
use Rattle.ty_unify.proofs.read.arrows.Goals as goal

pub loop-from-preserved : goal.loop-from-preserved
loop-from-preserved c =
    let rest = c.pop.new.self.items in
    ap (λ (x : Ty). arrows_to rest (ty.Arrow x c.in_ok-rest.rest)) c.in_ok-from.ensures
    ∙ ap (λ (x : Ty). arrows_to rest (ty.Arrow c.in-Some.from x)) c.in_ok-rest.ensures
    ∙ sym (arrows_put rest c.in-Some.from c.loop-from.to)
    ∙ ap (λ (l : List Ty). arrows_to l c.loop-from.to) (sym c.in-Some.ensures.items) ∙ c.loop-from.invariant
