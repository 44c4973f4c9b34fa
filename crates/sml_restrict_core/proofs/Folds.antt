-- What a fold gives at a type, or at a pattern, of several parts.
use Rattle.std.proofs.Common.{◌≡◌, Bool, List, [], ◌∷◌, map, Option, Some, None, ap, ◌∙◌, sym, refl}
use Rattle.tl_text.specs.Pairs.{map_second}
use Rattle.tl_text.specs.declared.place.Place.{Place}
use Rattle.tl_text.specs.declared.name.Name.{Name}
use Rattle.sml_ast.specs.declared.name.Lab.{Lab}
use Rattle.sml_ast.specs.declared.ty.Ty.{Ty, fold-Ty}
use Rattle.sml_ast.specs.declared.ty.Ty.TheVariants as ty
use Rattle.sml_ast.specs.declared.ty.Ty.TheOpen.{Ty-F}
use Rattle.sml_ast.specs.declared.ty.Ty.TheFolds.{fold-roll-Ty}
use Rattle.sml_ast.specs.declared.pat.AtPat.{fold-AtPat}
use Rattle.sml_ast.specs.declared.pat.AtPat.TheVariants as at_pat
use Rattle.sml_ast.specs.declared.pat.AtPat.TheOpen.{AtPat-F, PField-F, Pat-F}
use Rattle.sml_ast.specs.declared.pat.AtPat.TheFolds.{fold-roll-AtPat, fold-roll-PField, fold-roll-Pat}
use Rattle.sml_ast.specs.declared.pat.PField.{PField, fold-PField}
use Rattle.sml_ast.specs.declared.pat.PField.TheVariants as field
use Rattle.sml_ast.specs.declared.pat.Pat.{Pat, fold-Pat}
use Rattle.sml_ast.specs.declared.pat.Pat.TheVariants as pat
use Rattle.sml_restrict_core.specs.Types.{labels}

pub ty_fields : {A : Type 0} (step : Ty-F A → A) (p : Place) (fields : List ((Place × Lab) × Ty)) → fold-Ty A step (ty.TFields p fields) ≡ step (Ty-F.TFields p (map_second (fold-Ty A step) fields))
unfolding Rattle.sml_ast.specs.declared.ty.Ty.TheViews.roll-Ty denote.Hole.Carrier.roll
ty_fields {A} step p fields = fold-roll-Ty A step (Ty-F.TFields p fields)

pub ty_tuple : {A : Type 0} (step : Ty-F A → A) (p : Place) (t : Ty) (ts : List Ty) → fold-Ty A step (ty.TTuple p t ts) ≡ step (Ty-F.TTuple p (fold-Ty A step t) (map (fold-Ty A step) ts))
unfolding Rattle.sml_ast.specs.declared.ty.Ty.TheViews.roll-Ty denote.Hole.Carrier.roll
ty_tuple {A} step p t ts = fold-roll-Ty A step (Ty-F.TTuple p t ts)

pub ty_arrow : {A : Type 0} (step : Ty-F A → A) (p : Place) (t u : Ty) → fold-Ty A step (ty.Arrow p t u) ≡ step (Ty-F.Arrow p (fold-Ty A step t) (fold-Ty A step u))
unfolding Rattle.sml_ast.specs.declared.ty.Ty.TheViews.roll-Ty denote.Hole.Carrier.roll
ty_arrow {A} step p t u = fold-roll-Ty A step (Ty-F.Arrow p t u)

pub at_pat_fields : {A B C : Type 0} (s : AtPat-F A B C → A) (t : PField-F A B C → B) (u : Pat-F A B C → C) (p : Place) (fields : List PField) → fold-AtPat A B C s t u (at_pat.PFields p fields) ≡ s (AtPat-F.PFields p (map (fold-PField A B C s t u) fields))
unfolding Rattle.sml_ast.specs.declared.pat.AtPat.TheViews.roll-AtPat denote.Hole.Carrier.roll
at_pat_fields {A} {B} {C} s t u p fields = fold-roll-AtPat A B C s t u (AtPat-F.PFields p fields)

pub at_pat_tuple : {A B C : Type 0} (s : AtPat-F A B C → A) (t : PField-F A B C → B) (u : Pat-F A B C → C) (p : Place) (q : Pat) (qs : List Pat) → fold-AtPat A B C s t u (at_pat.PTuple p q qs) ≡ s (AtPat-F.PTuple p (fold-Pat A B C s t u q) (map (fold-Pat A B C s t u) qs))
unfolding Rattle.sml_ast.specs.declared.pat.AtPat.TheViews.roll-AtPat denote.Hole.Carrier.roll
at_pat_tuple {A} {B} {C} s t u p q qs = fold-roll-AtPat A B C s t u (AtPat-F.PTuple p q qs)

pub field_pun : {A B C : Type 0} (s : AtPat-F A B C → A) (t : PField-F A B C → B) (u : Pat-F A B C → C) (p : Place) (x : Place × Name) (y : Option Ty) → fold-PField A B C s t u (field.Pun p x y None) ≡ t (PField-F.Pun p x y None)
field_pun {A} {B} {C} s t u p x y = ap (fold-PField A B C s t u) (sym (field.rolls-Pun p x y None)) ∙ fold-roll-PField A B C s t u (PField-F.Pun p x y None)

pub field_layer : {A B C : Type 0} (s : AtPat-F A B C → A) (t : PField-F A B C → B) (u : Pat-F A B C → C) (p : Place) (x : Place × Name) (y : Option Ty) (z : Option Pat) (q : Pat) → z ≡ Some q → fold-PField A B C s t u (field.Pun p x y z) ≡ t (PField-F.Pun p x y (Some (fold-Pat A B C s t u q)))
field_layer {A} {B} {C} s t u p x y z q e =
    ap (λ w. fold-PField A B C s t u (field.Pun p x y w)) e ∙ ap (fold-PField A B C s t u) (sym (field.rolls-Pun p x y (Some q)))
    ∙ fold-roll-PField A B C s t u (PField-F.Pun p x y (Some q))

pub pat_infix : {A B C : Type 0} (s : AtPat-F A B C → A) (t : PField-F A B C → B) (u : Pat-F A B C → C) (p : Place) (q : Pat) (v : Place × Name) (r : Pat) → fold-Pat A B C s t u (pat.PInfix p q v r) ≡ u (Pat-F.PInfix p (fold-Pat A B C s t u q) v (fold-Pat A B C s t u r))
unfolding Rattle.sml_ast.specs.declared.pat.AtPat.TheViews.roll-Pat denote.Hole.Carrier.roll
pat_infix {A} {B} {C} s t u p q v r = fold-roll-Pat A B C s t u (Pat-F.PInfix p q v r)

pub pat_typed : {A B C : Type 0} (s : AtPat-F A B C → A) (t : PField-F A B C → B) (u : Pat-F A B C → C) (p : Place) (q : Pat) (y : Ty) → fold-Pat A B C s t u (pat.PTyped p q y) ≡ u (Pat-F.PTyped p (fold-Pat A B C s t u q) y)
unfolding Rattle.sml_ast.specs.declared.pat.AtPat.TheViews.roll-Pat denote.Hole.Carrier.roll
pat_typed {A} {B} {C} s t u p q y = fold-roll-Pat A B C s t u (Pat-F.PTyped p q y)

pub pat_layer : {A B C : Type 0} (s : AtPat-F A B C → A) (t : PField-F A B C → B) (u : Pat-F A B C → C) (p : Place) (o : Bool) (x : Place × Name) (y : Option Ty) (q : Pat) → fold-Pat A B C s t u (pat.Layer p o x y q) ≡ u (Pat-F.Layer p o x y (fold-Pat A B C s t u q))
unfolding Rattle.sml_ast.specs.declared.pat.AtPat.TheViews.roll-Pat denote.Hole.Carrier.roll
pat_layer {A} {B} {C} s t u p o x y q = fold-roll-Pat A B C s t u (Pat-F.Layer p o x y q)

-- labels stay where the parts of a record are folded
pub labels_of_folded : {A B : Type 0} (f : A → B) (fields : List ((Place × Lab) × A)) → labels (map_second f fields) ≡ labels fields
labels_of_folded f [] = refl
labels_of_folded f (x ∷ xs) = rw (labels_of_folded f xs) refl

pub ruleset tys = (ty_fields, ty_tuple, ty_arrow, labels_of_folded)

pub ruleset pats = (at_pat_fields, at_pat_tuple, field_pun, field_layer, pat_infix, pat_typed, pat_layer)
