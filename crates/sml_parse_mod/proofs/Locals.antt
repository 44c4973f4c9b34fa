-- `local`, of the core where all its members are: as the code makes it, and as the grammar reads it.
use Rattle.std.proofs.Common.{◌≡◌, ℕ, suc, Bool, true, false, ◌&&◌, if◌then◌else◌, max, map, List, [], ◌∷◌, ◌++◌, Option, Some, None, refl, sym, ap, ◌∙◌}
use Rattle.tl_text.specs.declared.place.Place.{Place}
use Rattle.readers.specs.Forms.{highest, height_of}
use Rattle.sml_ast.specs.declared.exp.AtExp.TheOpen.{Dec-F}
use Rattle.sml_ast.specs.declared.exp.Dec.{Dec, roll-Dec, fold-roll-Dec}
use Rattle.sml_ast.specs.declared.program.StrBind.TheOpen.{StrDec-F}
use Rattle.sml_ast.specs.declared.program.StrBind.{StrBind}
use Rattle.sml_ast.specs.declared.program.StrExp.{StrExp}
use Rattle.sml_ast.specs.declared.program.StrDec.{StrDec, out-StrDec, roll-StrDec, fold-roll-StrDec, roll-out-StrDec}
use Rattle.sml_grammar.specs.Types.{trees}
use Rattle.sml_grammar_exp.specs.Decs.{Changes, all_of, changes, changes_step}
use Rattle.sml_grammar_mod.specs.Strs.{Sd, core_dec, core_in, strdec_changes, strdec_changes_step}
use Rattle.sml_grammar_mod.specs.ReadStrs.{any_local_of, core_with, cores, local_by}
use Rattle.sml_parse_mod.specs.Trees.{all_changes, are_core, core_parts, is_core, local_tree, strdecs, with_core}

-- ---- the members of the core

-- all of them, or none
abbrev cored : Bool → List Dec → Option (List Dec)
cored true ds = Some ds
cored false ds = None

one_more : (o : Option Dec) (b : Bool) (ds : List Dec) → core_with o (cored b ds) ≡ cored (is_core o && b) (with_core o ds)
one_more None b ds = refl
one_more (Some d) true ds = refl
one_more (Some d) false ds = refl

cores_are : (ds : List Sd) → cores ds ≡ cored (are_core (trees ds)) (core_parts (trees ds))
cores_are [] = refl
cores_are (d ∷ ds) = ap (core_with (core_dec d.0)) (cores_are ds) ∙ one_more (core_dec d.0) (are_core (trees ds)) (core_parts (trees ds))

module _ (p : Place) (ds es : List Sd) where
  chosen : (b c : Bool) (xs ys : List Dec)
      → local_by (p, (ds, es)) (cored b xs) (cored c ys)
      ≡ (if b && c then (roll-StrDec (StrDec-F.Core p (roll-Dec (Dec-F.Local p xs ys))), max 2 (suc (max (highest height_of ds) (highest height_of es))))
      else (roll-StrDec (StrDec-F.LocalStr p (trees ds) (trees es)), suc (max (highest height_of ds) (highest height_of es))))
  chosen true true xs ys = refl
  chosen true false xs ys = refl
  chosen false c xs ys = refl

  -- what the code makes is what the grammar reads
  pub local_is : any_local_of (p, (ds, es)) ≡ local_tree p (strdecs ds) (strdecs es)
  local_is =
      ap (λ (o : Option (List Dec)). local_by (p, (ds, es)) o (cores es)) (cores_are ds)
      ∙ (ap (local_by (p, (ds, es)) (cored (are_core (trees ds)) (core_parts (trees ds)))) (cores_are es)
      ∙ chosen (are_core (trees ds)) (are_core (trees es)) (core_parts (trees ds)) (core_parts (trees es)))

-- ---- the directives that it leaves

core_changes : (p : Place) (d : Dec) → strdec_changes (roll-StrDec (StrDec-F.Core p d)) ≡ changes d
core_changes p d = fold-roll-StrDec (Unit {0}) Changes (Unit {0}) (λ b. tt) strdec_changes_step (λ e. tt) (StrDec-F.Core p d)

pub structs_changes : (p : Place) (bs : List StrBind) → strdec_changes (roll-StrDec (StrDec-F.Structs p bs)) ≡ []
structs_changes p bs = fold-roll-StrDec (Unit {0}) Changes (Unit {0}) (λ b. tt) strdec_changes_step (λ e. tt) (StrDec-F.Structs p bs)

beyond_changes : (p : Place) (ds es : List StrDec) → strdec_changes (roll-StrDec (StrDec-F.LocalStr p ds es)) ≡ all_changes es
beyond_changes p ds es = fold-roll-StrDec (Unit {0}) Changes (Unit {0}) (λ b. tt) strdec_changes_step (λ e. tt) (StrDec-F.LocalStr p ds es)

local_dec_changes : (p : Place) (ds es : List Dec) → changes (roll-Dec (Dec-F.Local p ds es)) ≡ all_of (map changes es)
local_dec_changes p ds es = fold-roll-Dec (Unit {0}) (Unit {0}) Changes (Unit {0}) (Unit {0}) (λ a. tt) (λ c. tt) changes_step (λ e. tt) (λ r. tt) (Dec-F.Local p ds es)

-- a declaration of the core leaves what it leaves there
pub core_leaves : (p : Place) (d : Dec) → strdec_changes (roll-StrDec (StrDec-F.Core p d)) ≡ changes d
core_leaves = core_changes

out_changes : (x : StrDec-F StrBind StrDec StrExp) (d : Dec) → core_in x ≡ Some d → strdec_changes (roll-StrDec x) ≡ changes d
out_changes (StrDec-F.Core p c) d e = core_changes p c ∙ ap changes cc
out_changes (StrDec-F.Structs p bs) d e = absurd cc
out_changes (StrDec-F.LocalStr p ds es) d e = absurd cc

kept_changes : (d : StrDec) (c : Dec) → core_dec d ≡ Some c → strdec_changes d ≡ changes c
kept_changes d c e = ap strdec_changes (sym (roll-out-StrDec d)) ∙ out_changes (out-StrDec d) c e

parts_change : (es : List StrDec) → are_core es ≡ true → all_of (map changes (core_parts es)) ≡ all_changes es
parts_change [] i = refl
parts_change (e ∷ es) i = go (core_dec e) refl (parts_change es) i
  where
    go : (o : Option Dec) → core_dec e ≡ o → (are_core es ≡ true → all_of (map changes (core_parts es)) ≡ all_changes es) → (is_core o && are_core es) ≡ true
        → all_of (map changes (with_core o (core_parts es))) ≡ strdec_changes e ++ all_changes es
    go None k f i = absurd cc
    go (Some c) k f i = ap (λ (x : Changes). changes c ++ x) (f i) ∙ ap (λ (x : Changes). x ++ all_changes es) (sym (kept_changes e c k))

two_true : (a b : Bool) → (a && b) ≡ true → b ≡ true
two_true true b e = e
two_true false b e = absurd cc

pub local_leaves : (p : Place) (x y : List StrDec × ℕ) → strdec_changes (local_tree p x y).0 ≡ all_changes y.0
local_leaves p x y = go (are_core x.0 && are_core y.0) refl
  where
    go : (b : Bool) → (are_core x.0 && are_core y.0) ≡ b
        → strdec_changes (if b then (let z : Sd = (roll-StrDec (StrDec-F.Core p (roll-Dec (Dec-F.Local p (core_parts x.0) (core_parts y.0)))), max 2 (suc (max x.1 y.1))) in z)
        else (roll-StrDec (StrDec-F.LocalStr p x.0 y.0), suc (max x.1 y.1))).0 ≡ all_changes y.0
    go true e = core_changes p (roll-Dec (Dec-F.Local p (core_parts x.0) (core_parts y.0))) ∙ (local_dec_changes p (core_parts x.0) (core_parts y.0) ∙ parts_change y.0 (two_true (are_core x.0) (are_core y.0) e))
    go false e = beyond_changes p x.0 y.0
