use Rattle.beh.proofs.Matching.{agree_over}
use Rattle.beh.proofs.laws.over.Goals as goal

pub returns : goal.returns
returns g c = λ p q start. agree_over p q g.C.Machine.step g.C.Machine.seen start
