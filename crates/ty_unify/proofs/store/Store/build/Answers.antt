use Rattle.ty_unify.specs.Formed.{is_formed}
use Rattle.std.proofs.Common.{ap, ◌∙◌}
use Rattle.ty_unify.proofs.Formed.{formed_under}
use Rattle.ty_unify.proofs.store.Store.build.Goals as goal

pub returns-clause-formed : goal.returns-clause-formed
returns-clause-formed c = λ names θ s f.
    ap (is_formed names) (c.in_ok-number.ensures.built.value θ s) ∙ formed_under names θ c.args.ty.now c.requires.closed (λ n h. f n (c.requires.free n h))
