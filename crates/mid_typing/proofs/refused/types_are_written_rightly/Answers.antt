use Rattle.mid_typing.proofs.Copies.{other_is_refused}
use Rattle.mid_typing.proofs.Untyped.{true_is_no_int, type_does_not_leave}
use Rattle.mid_typing.proofs.refused.types_are_written_rightly.Goals as goal

pub returns : goal.returns
returns c = record { constructor = true_is_no_int; inside = type_does_not_leave; copy = other_is_refused }
