-- Breaches in patterns, the type variables in them, and whether one is a variable.
use Rattle.std.specs.Prelude.{if◌then◌else◌, List, [], ◌∷◌, ◌++◌, map, codes, Option, Some, None}
use Rattle.tl_text.specs.declared.code.Code.TheVariants.{Rebinds, Repeated}
use Rattle.tl_text.specs.declared.fault.Refusal.{Refusal}
use Rattle.tl_text.specs.declared.place.Place.{Place}
use Rattle.tl_text.specs.declared.name.Name.{Name}
use Rattle.sml_ast.specs.declared.name.Lab.{Lab}
use Rattle.sml_ast.specs.declared.name.Lab.TheVariants as lab
use Rattle.sml_ast.specs.declared.pat.AtPat.{AtPat, fold-AtPat}
use Rattle.sml_ast.specs.declared.pat.AtPat.TheOpen.{AtPat-F, PField-F, Pat-F}
use Rattle.sml_ast.specs.declared.pat.PField.{PField, fold-PField}
use Rattle.sml_ast.specs.declared.pat.Pat.{Pat, fold-Pat}
use Rattle.sml_restrict_core.specs.Breaches.{breach, joined}
use Rattle.sml_restrict_core.specs.Repeats.{same_name, same_lab, rebinds}
use Rattle.sml_restrict_core.specs.Types.{ty_breaches, opt_ty_breaches, tyvars, opt_tyvars}

-- a breach where `=` stands as a pattern
abbrev pub equals_at : Place → List Name → List Refusal
equals_at p [] = []
equals_at p (x ∷ []) = if same_name x (codes "=") then breach Rebinds p ∷ [] else []
equals_at p (x ∷ (y ∷ ys)) = []

abbrev pub equals_pat : Place × List Name → List Refusal
equals_pat x = equals_at x.0 x.1

-- a breach where a later field of a record has the label of an earlier one; `...` has none
abbrev pub label_at : Option (Place × Lab) → Option (Place × Lab) → List Refusal
label_at None y = []
label_at (Some x) None = []
label_at (Some x) (Some y) = if same_lab y.1 x.1 then breach Repeated y.0 ∷ [] else []

abbrev pub field_again : Option (Place × Lab) → List (Option (Place × Lab)) → List Refusal
field_again x [] = []
field_again x (y ∷ ys) = label_at x y ++ field_again x ys

abbrev pub fields_twice : List (Option (Place × Lab)) → List Refusal
fields_twice [] = []
fields_twice (x ∷ xs) = field_again x xs ++ fields_twice xs

-- a part that may be missing
abbrev pub optional : {T : Type 0} → Option (List T) → List T
optional None = []
optional (Some xs) = xs

-- the name of a layered pattern `x : t as p` that stands alone in a record pattern
abbrev pub pun_rebinds : Place × Name → Option (List Refusal) → List Refusal
pun_rebinds x None = []
pun_rebinds x (Some q) = rebinds x

-- one level of an atomic pattern, with the breaches of each part in its place, and with its label beside those of a field
abbrev pub at_pat_step : AtPat-F (List Refusal) (Option (Place × Lab) × List Refusal) (List Refusal) → List Refusal
at_pat_step (AtPat-F.Any p) = []
at_pat_step (AtPat-F.PLit p l) = []
at_pat_step (AtPat-F.PId p o x) = equals_pat x
at_pat_step (AtPat-F.PFields p fields) = fields_twice (map (λ f. f.0) fields) ++ joined (map (λ f. f.1) fields)
at_pat_step (AtPat-F.PUnit p) = []
at_pat_step (AtPat-F.PTuple p q qs) = q ++ joined qs
at_pat_step (AtPat-F.PItems p qs) = joined qs
at_pat_step (AtPat-F.PParen p q) = q

-- one level of a field
abbrev pub field_step : PField-F (List Refusal) (Option (Place × Lab) × List Refusal) (List Refusal) → Option (Place × Lab) × List Refusal
field_step (PField-F.Rest p) = (None, [])
field_step (PField-F.Named p l q) = (Some l, q)
field_step (PField-F.Pun p x t q) = (Some (x.0, lab.Word x.1), pun_rebinds x q ++ opt_ty_breaches t ++ optional q)

-- one level of a pattern
abbrev pub pat_step : Pat-F (List Refusal) (Option (Place × Lab) × List Refusal) (List Refusal) → List Refusal
pat_step (Pat-F.PAtom p a) = a
pat_step (Pat-F.PCon p o c a) = a
pat_step (Pat-F.PInfix p q v r) = q ++ r
pat_step (Pat-F.PTyped p q t) = q ++ ty_breaches t
pat_step (Pat-F.Layer p o x t q) = rebinds x ++ opt_ty_breaches t ++ q

-- the breaches in an atomic pattern, in a field, which has a label unless it is `...`, and in a pattern
abbrev pub at_pat_breaches : AtPat → List Refusal
at_pat_breaches = fold-AtPat (List Refusal) (Option (Place × Lab) × List Refusal) (List Refusal) at_pat_step field_step pat_step

abbrev pub field_breaches : PField → Option (Place × Lab) × List Refusal
field_breaches = fold-PField (List Refusal) (Option (Place × Lab) × List Refusal) (List Refusal) at_pat_step field_step pat_step

abbrev pub pat_breaches : Pat → List Refusal
pat_breaches = fold-Pat (List Refusal) (Option (Place × Lab) × List Refusal) (List Refusal) at_pat_step field_step pat_step

-- one level of an atomic pattern, of a field and of a pattern, with the type variables of each part in its place
abbrev pub at_pat_tyvars_step : AtPat-F (List (Place × Name)) (List (Place × Name)) (List (Place × Name)) → List (Place × Name)
at_pat_tyvars_step (AtPat-F.Any p) = []
at_pat_tyvars_step (AtPat-F.PLit p l) = []
at_pat_tyvars_step (AtPat-F.PId p o x) = []
at_pat_tyvars_step (AtPat-F.PFields p fields) = joined fields
at_pat_tyvars_step (AtPat-F.PUnit p) = []
at_pat_tyvars_step (AtPat-F.PTuple p q qs) = q ++ joined qs
at_pat_tyvars_step (AtPat-F.PItems p qs) = joined qs
at_pat_tyvars_step (AtPat-F.PParen p q) = q

abbrev pub field_tyvars_step : PField-F (List (Place × Name)) (List (Place × Name)) (List (Place × Name)) → List (Place × Name)
field_tyvars_step (PField-F.Rest p) = []
field_tyvars_step (PField-F.Named p l q) = q
field_tyvars_step (PField-F.Pun p x t q) = opt_tyvars t ++ optional q

abbrev pub pat_tyvars_step : Pat-F (List (Place × Name)) (List (Place × Name)) (List (Place × Name)) → List (Place × Name)
pat_tyvars_step (Pat-F.PAtom p a) = a
pat_tyvars_step (Pat-F.PCon p o c a) = a
pat_tyvars_step (Pat-F.PInfix p q v r) = q ++ r
pat_tyvars_step (Pat-F.PTyped p q t) = q ++ tyvars t
pat_tyvars_step (Pat-F.Layer p o x t q) = opt_tyvars t ++ q

-- the type variables in an atomic pattern, in a field and in a pattern
abbrev pub at_pat_tyvars : AtPat → List (Place × Name)
at_pat_tyvars = fold-AtPat (List (Place × Name)) (List (Place × Name)) (List (Place × Name)) at_pat_tyvars_step field_tyvars_step pat_tyvars_step

abbrev pub field_tyvars : PField → List (Place × Name)
field_tyvars = fold-PField (List (Place × Name)) (List (Place × Name)) (List (Place × Name)) at_pat_tyvars_step field_tyvars_step pat_tyvars_step

abbrev pub pat_tyvars : Pat → List (Place × Name)
pat_tyvars = fold-Pat (List (Place × Name)) (List (Place × Name)) (List (Place × Name)) at_pat_tyvars_step field_tyvars_step pat_tyvars_step

-- the identifier of a path of one part
abbrev pub single_at : Place → List Name → Option (Place × Name)
single_at p [] = None
single_at p (x ∷ []) = Some (p, x)
single_at p (x ∷ (y ∷ ys)) = None

abbrev pub single : Place × List Name → Option (Place × Name)
single x = single_at x.0 x.1

-- one level of an atomic pattern, of a field and of a pattern, with the variable that each part is in its place
abbrev pub at_pat_variable_step : AtPat-F (Option (Place × Name)) (Option (Place × Name)) (Option (Place × Name)) → Option (Place × Name)
at_pat_variable_step (AtPat-F.Any p) = None
at_pat_variable_step (AtPat-F.PLit p l) = None
at_pat_variable_step (AtPat-F.PId p o x) = single x
at_pat_variable_step (AtPat-F.PFields p fields) = None
at_pat_variable_step (AtPat-F.PUnit p) = None
at_pat_variable_step (AtPat-F.PTuple p q qs) = None
at_pat_variable_step (AtPat-F.PItems p qs) = None
at_pat_variable_step (AtPat-F.PParen p q) = q

abbrev pub field_variable_step : PField-F (Option (Place × Name)) (Option (Place × Name)) (Option (Place × Name)) → Option (Place × Name)
field_variable_step x = None

abbrev pub pat_variable_step : Pat-F (Option (Place × Name)) (Option (Place × Name)) (Option (Place × Name)) → Option (Place × Name)
pat_variable_step (Pat-F.PAtom p a) = a
pat_variable_step (Pat-F.PCon p o c a) = None
pat_variable_step (Pat-F.PInfix p q v r) = None
pat_variable_step (Pat-F.PTyped p q t) = q
pat_variable_step (Pat-F.Layer p o x t q) = None

-- the variable that an atomic pattern, or a pattern, is: parentheses and constraints may stand round it
abbrev pub at_pat_variable : AtPat → Option (Place × Name)
at_pat_variable = fold-AtPat (Option (Place × Name)) (Option (Place × Name)) (Option (Place × Name)) at_pat_variable_step field_variable_step pat_variable_step

abbrev pub pat_variable : Pat → Option (Place × Name)
pat_variable = fold-Pat (Option (Place × Name)) (Option (Place × Name)) (Option (Place × Name)) at_pat_variable_step field_variable_step pat_variable_step
