use Rattle.ty_unify.proofs.Marks.{rested_start}
use Rattle.ty_unify.proofs.Sounds.{sound_none}
use Rattle.ty_unify.proofs.store.Store.new.Goals as goal

pub invariant_of-result : goal.invariant_of-result
invariant_of-result c =
    (sound_none c.new-2.result.items c.new.result.items c.new-2.ensures.items c.new.ensures.items, rested_start _ c.new-3.result.items c.new-3.ensures.items)
