use Rattle.std.proofs.Common.{rules, ◌≡◌, List, [], ◌∷◌, ◌∙◌}
use Rattle.std.proofs.lemmas.Result.{IfOk-weaker}
use Rattle.tl_text.specs.Pairs.{map_second}
use Rattle.tl_text.specs.declared.place.Place.{Place}
use Rattle.tl_text.specs.declared.name.Name.{Name}
use Rattle.sml_ast.specs.declared.sig.SigExp.{SigExp}
use Rattle.sml_ast.specs.declared.sig.SigExp.TheFolds
use Rattle.sml_ast.specs.declared.sig.Spec.TheVariants as spec
use Rattle.sml_ast.specs.declared.bare_sig.BareSigExp.{BareSigExp}
use Rattle.sml_ast.specs.declared.bare_sig.BareSpec.TheVariants as bare_spec
use Rattle.sml_derive.specs.Signatures.{derived_sig, derived_spec}
use Rattle.sml_derive.proofs.sig.+derive_sig.Goals as goal

-- structures in a specification
strs-step : (p : Place) (xs : List ((Place × Name) × SigExp)) (ss : List ((Place × Name) × BareSigExp)) → ss ≡ map_second derived_sig xs → bare_spec.StrSpec p ss ∷ [] ≡ derived_spec (spec.StrSpec p xs)
strs-step p xs ss e = search (rules, TheFolds.the_lemmas, e)

pub derive_spec-returns-in_ok-strs-in-StrSpec : goal.derive_spec-returns-in_ok-strs-in-StrSpec
derive_spec-returns-in_ok-strs-in-StrSpec t c =
    IfOk-weaker c.str_spec.result _ _ (λ ss h. h ∙ search (rules, strs-step)) c.str_spec.ensures
