-- The folds over types, level by level.
use Rattle.std.proofs.Common.{rules, ◌≡◌, ◌==◌, ℕ, List, map, ◌&&◌, ◌||◌, true}
use Rattle.std.specs.List.{list_any, list_all}
use Rattle.tl_text.specs.Pairs.{map_second, seconds}
use Rattle.sml_static.specs.declared.ty.Label.{Label}
use Rattle.sml_static.specs.declared.ty.TyName.{TyName}
use Rattle.sml_static.specs.declared.ty.Ty.{Ty}
use Rattle.sml_static.specs.declared.ty.Ty.TheVariants as ty
use Rattle.sml_static.specs.declared.ty.Ty.TheFolds
use Rattle.ty_unify.specs.Trees.{Tree, Fork, Arrow}
use Rattle.ty_unify.specs.Building.{under, has_free, is_closed, fields_tree, named_tree}

pub free_fields : (n : ℕ) (fs : List (Label × Ty)) → has_free n (ty.Fields fs) ≡ list_any (λ f. f) (seconds (map_second (has_free n) fs))
free_fields n fs = search (rules, TheFolds.the_lemmas)

pub free_args : (n : ℕ) (name : TyName) (ts : List Ty) → has_free n (ty.Con name ts) ≡ list_any (λ a. a) (map (has_free n) ts)
free_args n name ts = search (rules, TheFolds.the_lemmas)

pub free_arrow : (n : ℕ) (a b : Ty) → has_free n (ty.Arrow a b) ≡ (has_free n a || has_free n b)
free_arrow n a b = search (rules, TheFolds.the_lemmas)

pub closed_fields : (fs : List (Label × Ty)) → is_closed (ty.Fields fs) ≡ list_all (λ f. f) (seconds (map_second is_closed fs))
closed_fields fs = search (rules, TheFolds.the_lemmas)

pub closed_args : (name : TyName) (ts : List Ty) → is_closed (ty.Con name ts) ≡ list_all (λ a. a) (map is_closed ts)
closed_args name ts = search (rules, TheFolds.the_lemmas)

pub closed_arrow : (a b : Ty) → is_closed (ty.Arrow a b) ≡ (is_closed a && is_closed b)
closed_arrow a b = search (rules, TheFolds.the_lemmas)

pub under_arrow : (θ : ℕ → Tree) (a b : Ty) → under θ (ty.Arrow a b) ≡ Fork Arrow (under θ a) (under θ b)
under_arrow θ a b = search (rules, TheFolds.the_lemmas)

pub under_fields : (θ : ℕ → Tree) (fs : List (Label × Ty)) → under θ (ty.Fields fs) ≡ fields_tree (map_second (under θ) fs)
under_fields θ fs = search (rules, TheFolds.the_lemmas)

pub under_free : (θ : ℕ → Tree) (n : ℕ) → under θ (ty.Free n) ≡ θ n
under_free θ n = search (rules, TheFolds.the_lemmas)

pub free_free : (n : ℕ) → has_free n (ty.Free n) ≡ true
free_free n = search (rules, TheFolds.the_lemmas)

pub under_args : (θ : ℕ → Tree) (name : TyName) (ts : List Ty) → under θ (ty.Con name ts) ≡ named_tree name (map (under θ) ts)
under_args θ name ts = search (rules, TheFolds.the_lemmas)

pub free_of : (n m : ℕ) → has_free n (ty.Free m) ≡ (m == n)
free_of n m = search (rules, TheFolds.the_lemmas)

pub closed_free : (n : ℕ) → is_closed (ty.Free n) ≡ true
closed_free n = search (rules, TheFolds.the_lemmas)
