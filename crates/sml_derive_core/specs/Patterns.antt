-- Patterns without derived forms.
use Rattle.std.specs.Prelude.{ℕ, ◌+◌, false, List, [], ◌∷◌, Option, Some, None}
use Rattle.tl_text.specs.declared.place.Place.{Place}
use Rattle.tl_text.specs.declared.name.Name.{Name}
use Rattle.sml_derive_core.specs.Types.{derived_ty, derived_opt_ty}
use Rattle.sml_ast.specs.declared.name.Lab.TheVariants as lab
use Rattle.sml_ast.specs.declared.pat.AtPat.{AtPat, fold-AtPat}
use Rattle.sml_ast.specs.declared.pat.AtPat.TheOpen.{AtPat-F, PField-F, Pat-F}
use Rattle.sml_ast.specs.declared.pat.PField.{PField, fold-PField}
use Rattle.sml_ast.specs.declared.pat.Pat.{Pat, fold-Pat}
use Rattle.sml_ast.specs.declared.bare_ty.BareTy.{BareTy}
use Rattle.sml_ast.specs.declared.bare_pat.BareAtPat.{BareAtPat}
use Rattle.sml_ast.specs.declared.bare_pat.BareAtPat.TheVariants as at_pat
use Rattle.sml_ast.specs.declared.bare_pat.BarePField.{BarePField}
use Rattle.sml_ast.specs.declared.bare_pat.BarePField.TheVariants as field
use Rattle.sml_ast.specs.declared.bare_pat.BarePat.{BarePat}
use Rattle.sml_ast.specs.declared.bare_pat.BarePat.TheVariants as pat

-- the fields n, n + 1 and so on of a tuple
abbrev pub numbered_fields : Place → ℕ → List BarePat → List BarePField
numbered_fields p n [] = []
numbered_fields p n (q ∷ qs) = field.Named p (p, lab.Num n) q ∷ numbered_fields p (n + 1) qs

-- the pattern `x`
abbrev pub variable_pat : Place → Place × Name → BarePat
variable_pat p x = pat.PAtom p (at_pat.PId p false (x.0, x.1 ∷ []))

-- what `x : t as p` alone in a record pattern binds at the label x
abbrev pub pun : Place → Place × Name → Option BareTy → Option BarePat → BarePat
pun p x None None = variable_pat p x
pun p x (Some t) None = pat.PTyped p (variable_pat p x) t
pun p x t (Some q) = pat.Layer p false x t q

-- one level of an atomic pattern, whose parts are derived already: `()` and `(p, q)` stand for records, and `[p, q]` is a row
abbrev pub at_pat_step : AtPat-F BareAtPat BarePField BarePat → BareAtPat
at_pat_step (AtPat-F.Any p) = at_pat.Any p
at_pat_step (AtPat-F.PLit p l) = at_pat.PLit p l
at_pat_step (AtPat-F.PId p o x) = at_pat.PId p o x
at_pat_step (AtPat-F.PFields p fields) = at_pat.PFields p fields
at_pat_step (AtPat-F.PUnit p) = at_pat.PFields p []
at_pat_step (AtPat-F.PTuple p q qs) = at_pat.PFields p (numbered_fields p 1 (q ∷ qs))
at_pat_step (AtPat-F.PItems p qs) = at_pat.PRow p qs
at_pat_step (AtPat-F.PParen p q) = at_pat.PParen p q

-- one level of a field: `x : t as p` alone stands for `x = x : t as p`
abbrev pub field_step : PField-F BareAtPat BarePField BarePat → BarePField
field_step (PField-F.Rest p) = field.Rest p
field_step (PField-F.Named p l q) = field.Named p l q
field_step (PField-F.Pun p x t q) = field.Named p (p, lab.Word x.1) (pun p x (derived_opt_ty t) q)

-- one level of a pattern
abbrev pub pat_step : Pat-F BareAtPat BarePField BarePat → BarePat
pat_step (Pat-F.PAtom p a) = pat.PAtom p a
pat_step (Pat-F.PCon p o c a) = pat.PCon p o c a
pat_step (Pat-F.PInfix p q v r) = pat.PInfix p q v r
pat_step (Pat-F.PTyped p q t) = pat.PTyped p q (derived_ty t)
pat_step (Pat-F.Layer p o x t q) = pat.Layer p o x (derived_opt_ty t) q

-- an atomic pattern, a field and a pattern without derived forms
abbrev pub derived_at_pat : AtPat → BareAtPat
derived_at_pat = fold-AtPat BareAtPat BarePField BarePat at_pat_step field_step pat_step

abbrev pub derived_field : PField → BarePField
derived_field = fold-PField BareAtPat BarePField BarePat at_pat_step field_step pat_step

abbrev pub derived_pat : Pat → BarePat
derived_pat = fold-Pat BareAtPat BarePField BarePat at_pat_step field_step pat_step
