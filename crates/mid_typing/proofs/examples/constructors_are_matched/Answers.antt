use Rattle.mid_typing.proofs.Copies.{copied_types}
use Rattle.mid_typing.proofs.SmallData.{matched_types}
use Rattle.mid_typing.proofs.examples.constructors_are_matched.Goals as goal

pub returns : goal.returns
returns c = record { matched = (_, matched_types); copied = (_, copied_types) }
