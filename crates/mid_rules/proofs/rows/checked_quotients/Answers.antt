use Rattle.std.proofs.Common.{refl}
use Rattle.mid_rules.proofs.Quotients.{divides, remains}
use Rattle.mid_rules.proofs.rows.checked_quotients.Goals as goal

pub returns : goal.returns
returns c = record { divides = divides; divides_too_much = λ s n. refl; remains = remains; by_zero = λ a s n. (refl, refl) }
