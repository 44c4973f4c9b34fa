-- Type variables of two rows that are scoped already.
use Rattle.std.proofs.Common.{◌≡◌, Bool, true, false, if◌then◌else◌, List, [], ◌∷◌, ◌++◌, Option, refl}
use Rattle.std.proofs.lemmas.Grind.{common_steps}
use Rattle.tl_text.specs.declared.code.Code.TheVariants.{TyvarScope}
use Rattle.tl_text.specs.declared.fault.Refusal.{Refusal}
use Rattle.tl_text.specs.declared.place.Place.{Place}
use Rattle.tl_text.specs.declared.name.Name.{Name}
use Rattle.sml_restrict_core.specs.Breaches.{after, breach}
use Rattle.sml_restrict_core.specs.Repeats.{contains}
use Rattle.sml_restrict_core.proofs.After.{after_append}
use Rattle.sml_restrict.specs.Expressions.{rescoped}

then_append : (b : Bool) (r : Refusal) (xs ys : List Refusal) → (if b then r ∷ (xs ++ ys) else (xs ++ ys)) ≡ (if b then r ∷ xs else xs) ++ ys
then_append true r xs ys = refl
then_append false r xs ys = refl

rescoped_append : (vs xs ys : List (Place × Name)) → rescoped vs (xs ++ ys) ≡ rescoped vs xs ++ rescoped vs ys
rescoped_append vs [] ys = refl
rescoped_append vs (x ∷ xs) ys = rw (rescoped_append vs xs ys) (then_append (contains x.1 vs) (breach TyvarScope x.0) (rescoped vs xs) (rescoped vs ys))

-- the first breach at a type variable of two rows that is scoped already
pub after_rescoped : (found : Option Refusal) (vs xs ys : List (Place × Name)) → after found (rescoped vs (xs ++ ys)) ≡ after (after found (rescoped vs xs)) (rescoped vs ys)
after_rescoped found vs xs ys = rw (rescoped_append vs xs ys) (after_append found (rescoped vs xs) (rescoped vs ys))

-- what the proofs about scopes cite
pub ruleset scopes = (common_steps, after_append, after_rescoped)
