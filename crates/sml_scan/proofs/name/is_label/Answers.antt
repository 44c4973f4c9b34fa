use Rattle.std.proofs.Common.{◌∷◌, [], refl, ◌∙◌}
use Rattle.readers.specs.Reader.{first}
use Rattle.sml_scan.proofs.Sets.{set_is}
use Rattle.sml_scan.proofs.name.is_label.Goals as goal

pub returns : goal.returns
returns c = c.has_class.ensures ∙ set_is (7 ∷ 8 ∷ 9 ∷ 2 ∷ 3 ∷ []) (7 ∷ 8 ∷ 9 ∷ 2 ∷ 3 ∷ []) refl (first c.args.tokens.now)
