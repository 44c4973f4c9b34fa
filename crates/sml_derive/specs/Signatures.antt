-- Signatures and specifications without derived forms: one equation for each alternative of the grammar. A derived form is
-- what the table of the Definition, appendix A, figures 18 and 19, has beside it; every other phrase is itself.
use Rattle.std.specs.Prelude.{List, [], ◌∷◌, ◌++◌, map}
use Rattle.tl_text.specs.declared.place.Place.{Place}
use Rattle.tl_text.specs.declared.name.Name.{Name}
use Rattle.sml_derive_core.specs.Types.{derived_ty}
use Rattle.sml_derive_core.specs.Bindings.{derived_dat_desc, described_con}
use Rattle.sml_ast.specs.declared.ty.Ty.{Ty}
use Rattle.sml_ast.specs.declared.sig.SigExp.{SigExp, fold-SigExp}
use Rattle.sml_ast.specs.declared.sig.SigExp.TheOpen.{SigExp-F, Spec-F}
use Rattle.sml_ast.specs.declared.sig.Spec.{Spec, fold-Spec}
use Rattle.sml_ast.specs.declared.sig.Ascribe.{Ascribe}
use Rattle.sml_ast.specs.declared.sig.Ascribe.TheVariants as ascribe
use Rattle.sml_ast.specs.declared.bare_sig.BareSigExp.{BareSigExp}
use Rattle.sml_ast.specs.declared.bare_sig.BareSigExp.TheVariants as sig
use Rattle.sml_ast.specs.declared.bare_sig.BareSpec.{BareSpec}
use Rattle.sml_ast.specs.declared.bare_sig.BareSpec.TheVariants as spec
use Rattle.sml_ast.specs.declared.bare_sig.BareAscribe.{BareAscribe}
use Rattle.sml_ast.specs.declared.bare_sig.BareAscribe.TheVariants as bare_ascribe

-- rows one after another
abbrev pub joined : List (List BareSpec) → List BareSpec
joined [] = []
joined (xs ∷ rest) = xs ++ joined rest

-- sig type t end
abbrev pub declared : Place → List (Place × Name) × (Place × Name) × Ty → BareSigExp
declared p b = sig.Specs p (spec.TySpec p ((b.0, b.1) ∷ []) ∷ [])

-- `type t = u`: include sig type t end where type t = u
abbrev pub synonym : Place → List (Place × Name) × (Place × Name) × Ty → BareSpec
synonym p b = spec.Incl p (sig.Real p p (declared p b) b.0 (b.1.0, b.1.1 ∷ []) (derived_ty b.2))

-- `include A B`: one `include` each
abbrev pub included : Place → Place × Name → BareSpec
included p x = spec.Incl p (sig.SigAt p x)

-- one level of a signature expression, whose specifications are rows
abbrev pub sig_step : SigExp-F BareSigExp (List BareSpec) → BareSigExp
sig_step (SigExp-F.Specs p specs) = sig.Specs p (joined specs)
sig_step (SigExp-F.SigAt p x) = sig.SigAt p x
sig_step (SigExp-F.Real p q s vs c t) = sig.Real p q s vs c (derived_ty t)

-- one level of a specification, which stands for a row
abbrev pub spec_step : Spec-F BareSigExp (List BareSpec) → List BareSpec
spec_step (Spec-F.ValSpec p xs) = spec.ValSpec p (map (λ x. (x.0, derived_ty x.1)) xs) ∷ []
spec_step (Spec-F.TySpec p xs) = spec.TySpec p xs ∷ []
spec_step (Spec-F.EqSpec p xs) = spec.EqSpec p xs ∷ []
spec_step (Spec-F.SynSpec p binds) = map (synonym p) binds
spec_step (Spec-F.DataSpec p descs) = spec.DataSpec p (map derived_dat_desc descs) ∷ []
spec_step (Spec-F.CopySpec p t u) = spec.CopySpec p t u ∷ []
spec_step (Spec-F.ExnSpec p xs) = spec.ExnSpec p (map described_con xs) ∷ []
spec_step (Spec-F.StrSpec p xs) = spec.StrSpec p xs ∷ []
spec_step (Spec-F.Incl p s) = spec.Incl p s ∷ []
spec_step (Spec-F.Incls p xs) = map (included p) xs
spec_step (Spec-F.ShareTy p x xs) = spec.ShareTy p x xs ∷ []
spec_step (Spec-F.ShareStr p x xs) = spec.ShareStr p x xs ∷ []

-- a signature expression, a specification and an ascription without derived forms
abbrev pub derived_sig : SigExp → BareSigExp
derived_sig = fold-SigExp BareSigExp (List BareSpec) sig_step spec_step

abbrev pub derived_spec : Spec → List BareSpec
derived_spec = fold-Spec BareSigExp (List BareSpec) sig_step spec_step

abbrev pub derived_ascribe : Ascribe → BareAscribe
derived_ascribe (ascribe.Clear p s) = bare_ascribe.Clear p (derived_sig s)
derived_ascribe (ascribe.Opaque p s) = bare_ascribe.Opaque p (derived_sig s)
