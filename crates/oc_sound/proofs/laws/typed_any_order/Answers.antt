use Rattle.oc_ast.specs.View.{plain_text}
use Rattle.oc_sound.proofs.Texts.{runs_as_it_means}
use Rattle.oc_sound.proofs.laws.typed_any_order.Goals as goal

pub returns : goal.returns
returns c = record { plain = runs_as_it_means; declared = λ text. runs_as_it_means (plain_text text) }
