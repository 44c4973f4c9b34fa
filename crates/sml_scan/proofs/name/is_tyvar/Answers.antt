use Rattle.std.proofs.Common.{◌∷◌, [], refl, ◌∙◌}
use Rattle.readers.specs.Reader.{first}
use Rattle.sml_scan.proofs.Sets.{set_is}
use Rattle.sml_scan.proofs.name.is_tyvar.Goals as goal

pub returns : goal.returns
returns c = c.has_class.ensures ∙ set_is (0 ∷ []) ([]) refl (first c.args.tokens.now)
