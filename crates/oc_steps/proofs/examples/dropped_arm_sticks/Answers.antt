use Rattle.oc_steps.proofs.Differs.{dropped_arm_sticks}
use Rattle.oc_steps.proofs.SmallTexts.{dropped_arm_wrong}
use Rattle.oc_steps.proofs.examples.dropped_arm_sticks.Goals as goal

pub returns : goal.returns
returns c = record { wrong = dropped_arm_wrong; differs = dropped_arm_sticks }
