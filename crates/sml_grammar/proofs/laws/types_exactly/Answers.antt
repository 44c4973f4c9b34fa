use Rattle.readers.proofs.Bundle.{Known}
use Rattle.std.proofs.Common.{refl}
use Rattle.sml_grammar.proofs.Whole.{exactly}
use Rattle.sml_grammar.proofs.Types.{ty_exact}
use Rattle.sml_grammar.proofs.laws.types_exactly.Goals as goal

pub returns : goal.returns
returns c h tokens le = exactly (λ n. ty_exact Known.Refusals n) (λ t. refl) h tokens le
