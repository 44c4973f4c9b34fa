-- The height of a node with a row of labelled or paired parts, or of rows.
use Rattle.std.proofs.Common.{◌≡◌, ℕ, suc, Bool, List, map}
use Rattle.tl_text.specs.Pairs.{seconds, map_second}
use Rattle.tl_text.specs.declared.place.Place.{Place}
use Rattle.tl_text.specs.declared.name.Name.{Name}
use Rattle.sml_ast.specs.declared.name.Lab.{Lab}
use Rattle.sml_ast.specs.declared.ty.Ty.{Ty}
use Rattle.sml_ast.specs.declared.ty.Ty.TheVariants as ty
use Rattle.sml_ast.specs.declared.ty.Ty.TheOpen.{Ty-F}
use Rattle.sml_ast.specs.declared.ty.Ty.TheFolds.{fold-roll-Ty}
use Rattle.sml_ast.specs.declared.pat.Pat.{Pat}
use Rattle.sml_ast.specs.declared.exp.AtExp.TheVariants as at_exp
use Rattle.sml_ast.specs.declared.exp.AtExp.TheOpen.{AtExp-F, Dec-F}
use Rattle.sml_ast.specs.declared.exp.AtExp.TheFolds.{fold-roll-AtExp, fold-roll-Dec}
use Rattle.sml_ast.specs.declared.exp.Clause.{Clause}
use Rattle.sml_ast.specs.declared.exp.Dec.TheVariants as dec
use Rattle.sml_ast.specs.declared.exp.Exp.{Exp}
use Rattle.sml_ast.specs.declared.sig.SigExp.{SigExp}
use Rattle.sml_ast.specs.declared.sig.SigExp.TheOpen.{Spec-F}
use Rattle.sml_ast.specs.declared.sig.SigExp.TheFolds.{fold-roll-Spec}
use Rattle.sml_ast.specs.declared.sig.Spec.TheVariants as spec
use Rattle.sml_ast.specs.Heights.{greatest, ty_step, ty_height, at_exp_step, clause_step, dec_step, exp_step, rule_step, at_exp_height, clause_height, dec_height, exp_height, bindings_height, sig_step, spec_step, sig_height, spec_height}

pub ty_fields : (p : Place) (fields : List ((Place × Lab) × Ty)) → ty_height (ty.TFields p fields) ≡ suc (greatest (seconds (map_second ty_height fields)))
unfolding Rattle.sml_ast.specs.declared.ty.Ty.TheViews.roll-Ty denote.Hole.Carrier.roll
ty_fields p fields = fold-roll-Ty ℕ ty_step (Ty-F.TFields p fields)

pub exp_fields : (p : Place) (fields : List ((Place × Lab) × Exp)) → at_exp_height (at_exp.Fields p fields) ≡ suc (greatest (seconds (map_second exp_height fields)))
unfolding Rattle.sml_ast.specs.declared.exp.AtExp.TheViews.roll-AtExp denote.Hole.Carrier.roll
exp_fields p fields = fold-roll-AtExp ℕ ℕ ℕ ℕ ℕ at_exp_step clause_step dec_step exp_step rule_step (AtExp-F.Fields p fields)

pub dec_vals : (p : Place) (vs : List (Place × Name)) (r : Bool) (binds : List (Pat × Exp)) → dec_height (dec.Vals p vs r binds) ≡ suc (bindings_height (map_second exp_height binds))
unfolding Rattle.sml_ast.specs.declared.exp.AtExp.TheViews.roll-Dec denote.Hole.Carrier.roll
dec_vals p vs r binds = fold-roll-Dec ℕ ℕ ℕ ℕ ℕ at_exp_step clause_step dec_step exp_step rule_step (Dec-F.Vals p vs r binds)

pub dec_funs : (p : Place) (vs : List (Place × Name)) (functions : List (List Clause)) → dec_height (dec.Funs p vs functions) ≡ suc (greatest (map greatest (map (map clause_height) functions)))
unfolding Rattle.sml_ast.specs.declared.exp.AtExp.TheViews.roll-Dec denote.Hole.Carrier.roll
dec_funs p vs functions = fold-roll-Dec ℕ ℕ ℕ ℕ ℕ at_exp_step clause_step dec_step exp_step rule_step (Dec-F.Funs p vs functions)

pub spec_strs : (p : Place) (strs : List ((Place × Name) × SigExp)) → spec_height (spec.StrSpec p strs) ≡ suc (greatest (seconds (map_second sig_height strs)))
unfolding Rattle.sml_ast.specs.declared.sig.SigExp.TheViews.roll-Spec denote.Hole.Carrier.roll
spec_strs p strs = fold-roll-Spec ℕ ℕ sig_step spec_step (Spec-F.StrSpec p strs)
