use Rattle.mid_typing.proofs.RefusedBinds.{refutable_is_refused, split_is_refused, used_at_no_function}
use Rattle.mid_typing.proofs.refused.profile_refuses.Goals as goal

pub returns : goal.returns
returns c = record { refutable = refutable_is_refused; pattern = split_is_refused; uses = used_at_no_function }
