-- What a fold gives at a signature, a specification, a structure or a declaration at structure level of several parts.
use Rattle.std.proofs.Common.{◌≡◌, List, [], ◌∷◌, ◌++◌, map, Option, refl, ap, ◌∙◌}
use Rattle.tl_text.specs.Pairs.{map_second, seconds}
use Rattle.tl_text.specs.declared.fault.Refusal.{Refusal}
use Rattle.tl_text.specs.declared.place.Place.{Place}
use Rattle.tl_text.specs.declared.name.Name.{Name}
use Rattle.sml_ast.specs.declared.ty.Ty.{Ty}
use Rattle.sml_ast.specs.declared.sig.Ascribe.{Ascribe}
use Rattle.sml_ast.specs.declared.sig.SigExp.{SigExp}
use Rattle.sml_ast.specs.declared.sig.SigExp.TheVariants as sig_exp
use Rattle.sml_ast.specs.declared.sig.SigExp.TheOpen.{SigExp-F, Spec-F}
use Rattle.sml_ast.specs.declared.sig.SigExp.TheFolds.{fold-roll-SigExp, fold-roll-Spec}
use Rattle.sml_ast.specs.declared.sig.Spec.TheVariants as spec
use Rattle.sml_ast.specs.declared.program.StrBind.{StrBind}
use Rattle.sml_ast.specs.declared.program.StrBind.TheVariants as str_bind
use Rattle.sml_ast.specs.declared.program.StrBind.TheOpen.{StrBind-F, StrDec-F, StrExp-F}
use Rattle.sml_ast.specs.declared.program.StrBind.TheFolds.{fold-roll-StrBind, fold-roll-StrDec, fold-roll-StrExp}
use Rattle.sml_ast.specs.declared.program.StrDec.{StrDec}
use Rattle.sml_ast.specs.declared.program.StrDec.TheVariants as str_dec
use Rattle.sml_ast.specs.declared.program.StrExp.{StrExp}
use Rattle.sml_ast.specs.declared.program.StrExp.TheVariants as str_exp
use Rattle.sml_restrict_core.specs.Breaches.{joined}
use Rattle.sml_restrict_core.specs.Repeats.{twice}
use Rattle.sml_restrict.specs.Programs.{sig_step, spec_step, sig_breaches, str_bind_step, str_dec_step, str_exp_step, spec_breaches, str_bind_breaches, str_dec_breaches, str_exp_breaches}

pub sig_where : (p : Place) (q : Place) (s : SigExp) (vs : List (Place × Name)) (c : Place × List Name) (t : Ty) → sig_breaches (sig_exp.Real p q s vs c t) ≡ sig_step (SigExp-F.Real p q (sig_breaches s) vs c t)
unfolding Rattle.sml_ast.specs.declared.sig.SigExp.TheViews.roll-SigExp denote.Hole.Carrier.roll
sig_where p q s vs c t = fold-roll-SigExp (List Refusal) (List Refusal) sig_step spec_step (SigExp-F.Real p q s vs c t)

pub spec_vals : (p : Place) (xs : List ((Place × Name) × Ty)) → spec_breaches (spec.ValSpec p xs) ≡ spec_step (Spec-F.ValSpec p xs)
unfolding Rattle.sml_ast.specs.declared.sig.SigExp.TheViews.roll-Spec denote.Hole.Carrier.roll
spec_vals p xs = fold-roll-Spec (List Refusal) (List Refusal) sig_step spec_step (Spec-F.ValSpec p xs)

pub spec_exns : (p : Place) (xs : List ((Place × Name) × Option Ty)) → spec_breaches (spec.ExnSpec p xs) ≡ spec_step (Spec-F.ExnSpec p xs)
unfolding Rattle.sml_ast.specs.declared.sig.SigExp.TheViews.roll-Spec denote.Hole.Carrier.roll
spec_exns p xs = fold-roll-Spec (List Refusal) (List Refusal) sig_step spec_step (Spec-F.ExnSpec p xs)

-- names stay where the parts beside them are folded
names_of_folded : {A B : Type 0} (f : A → B) (xs : List ((Place × Name) × A)) → map (λ x. x.0) (map_second f xs) ≡ map (λ x. x.0) xs
names_of_folded f [] = refl
names_of_folded f (x ∷ xs) = rw (names_of_folded f xs) refl

pub spec_strs : (p : Place) (xs : List ((Place × Name) × SigExp)) → spec_breaches (spec.StrSpec p xs) ≡ twice (map (λ x. x.0) xs) ++ joined (seconds (map_second sig_breaches xs))
unfolding Rattle.sml_ast.specs.declared.sig.SigExp.TheViews.roll-Spec denote.Hole.Carrier.roll
spec_strs p xs =
    fold-roll-Spec (List Refusal) (List Refusal) sig_step spec_step (Spec-F.StrSpec p xs)
    ∙ ap (λ ns. twice ns ++ joined (seconds (map_second sig_breaches xs))) (names_of_folded sig_breaches xs)

pub bind_str : (p : Place) (x : Place × Name) (a : Option Ascribe) (e : StrExp) → str_bind_breaches (str_bind.Bind p x a e) ≡ str_bind_step (StrBind-F.Bind p x a (str_exp_breaches e))
unfolding Rattle.sml_ast.specs.declared.program.StrBind.TheViews.roll-StrBind denote.Hole.Carrier.roll
bind_str p x a e = fold-roll-StrBind ((Place × Name) × List Refusal) (List Refusal) (List Refusal) str_bind_step str_dec_step str_exp_step (StrBind-F.Bind p x a e)

pub dec_structs : (p : Place) (binds : List StrBind) → str_dec_breaches (str_dec.Structs p binds) ≡ str_dec_step (StrDec-F.Structs p (map str_bind_breaches binds))
unfolding Rattle.sml_ast.specs.declared.program.StrBind.TheViews.roll-StrDec denote.Hole.Carrier.roll
dec_structs p binds = fold-roll-StrDec ((Place × Name) × List Refusal) (List Refusal) (List Refusal) str_bind_step str_dec_step str_exp_step (StrDec-F.Structs p binds)

pub dec_local_str : (p : Place) (ds es : List StrDec) → str_dec_breaches (str_dec.LocalStr p ds es) ≡ str_dec_step (StrDec-F.LocalStr p (map str_dec_breaches ds) (map str_dec_breaches es))
unfolding Rattle.sml_ast.specs.declared.program.StrBind.TheViews.roll-StrDec denote.Hole.Carrier.roll
dec_local_str p ds es = fold-roll-StrDec ((Place × Name) × List Refusal) (List Refusal) (List Refusal) str_bind_step str_dec_step str_exp_step (StrDec-F.LocalStr p ds es)

pub str_seal : (p : Place) (e : StrExp) (a : Ascribe) → str_exp_breaches (str_exp.Seal p e a) ≡ str_exp_step (StrExp-F.Seal p (str_exp_breaches e) a)
unfolding Rattle.sml_ast.specs.declared.program.StrBind.TheViews.roll-StrExp denote.Hole.Carrier.roll
str_seal p e a = fold-roll-StrExp ((Place × Name) × List Refusal) (List Refusal) (List Refusal) str_bind_step str_dec_step str_exp_step (StrExp-F.Seal p e a)

pub str_let : (p : Place) (ds : List StrDec) (e : StrExp) → str_exp_breaches (str_exp.LetStr p ds e) ≡ str_exp_step (StrExp-F.LetStr p (map str_dec_breaches ds) (str_exp_breaches e))
unfolding Rattle.sml_ast.specs.declared.program.StrBind.TheViews.roll-StrExp denote.Hole.Carrier.roll
str_let p ds e = fold-roll-StrExp ((Place × Name) × List Refusal) (List Refusal) (List Refusal) str_bind_step str_dec_step str_exp_step (StrExp-F.LetStr p ds e)

pub ruleset modules = (sig_where, spec_vals, spec_exns, spec_strs, bind_str, dec_structs, dec_local_str, str_seal, str_let)
