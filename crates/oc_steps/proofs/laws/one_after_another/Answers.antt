use Rattle.oc_steps.proofs.Texts.{evaluated_after, ordered_after}
use Rattle.oc_steps.proofs.laws.one_after_another.Goals as goal

pub returns : goal.returns
returns c = record { evaluated = evaluated_after; ordered = ordered_after }
