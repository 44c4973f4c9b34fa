use Rattle.mid_typing.proofs.Generalised.{by_number, by_path}
use Rattle.mid_typing.proofs.laws.number_and_path_agree.Goals as goal

pub returns : goal.returns
returns c = record { path = by_path; number = by_number }
