use Rattle.std.proofs.Common.{◌∷◌, [], refl, ◌∙◌}
use Rattle.readers.specs.Reader.{first}
use Rattle.sml_scan.proofs.Sets.{set_is}
use Rattle.sml_scan.proofs.name.is_long_tycon.Goals as goal

pub returns : goal.returns
returns c = c.has_class.ensures ∙ set_is (7 ∷ 8 ∷ 10 ∷ 11 ∷ []) (7 ∷ 8 ∷ 10 ∷ 11 ∷ []) refl (first c.args.tokens.now)
