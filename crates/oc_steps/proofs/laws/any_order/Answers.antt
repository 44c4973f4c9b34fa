use Rattle.oc_steps.proofs.Texts.{text_agrees}
use Rattle.oc_ast.specs.View.{plain_text}
use Rattle.oc_steps.proofs.laws.any_order.Goals as goal

pub returns : goal.returns
returns c = record { plain = text_agrees; declared = λ text. text_agrees (plain_text text) }
