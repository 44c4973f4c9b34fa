use Rattle.readers.proofs.Bundle.{Known}
use Rattle.std.proofs.Common.{refl}
use Rattle.sml_grammar.proofs.Whole.{front}
use Rattle.sml_grammar.proofs.Types.{ty_exact}
use Rattle.sml_grammar.proofs.laws.types_front.Goals as goal

pub returns : goal.returns
returns c h tokens le = front (λ n. ty_exact Known.Refusals n) (λ t. refl) h tokens le
