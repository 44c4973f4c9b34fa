use Rattle.std.proofs.Common.{sym, ap, ◌∙◌}
use Rattle.std.proofs.Math.Path.{fun_ext}
use Rattle.sml_fix.specs.Fixities as spec
use Rattle.sml_fix.proofs.Copies.{Entries, settled, copied}
use Rattle.sml_fix.proofs.fixities.Fixities.copy.Goals as goal

pub returns : goal.returns
returns c =
    let done = c.in-None.ensures.steps.0 in
    ap (λ (es : Entries). settled (spec.settings c.loop-vid.copy) es) (sym done) ∙ (c.loop-vid.invariant.2 ∙ fun_ext (copied c.args.self.now.table.entries c.iter-vid-items.ensures.unique))
