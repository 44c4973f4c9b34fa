use Rattle.oc_typing.proofs.Grows.{text_front, text_more}
use Rattle.oc_typing.proofs.laws.text_only_grows.Goals as goal

pub returns : goal.returns
returns c = record { front = text_front; more = text_more }
