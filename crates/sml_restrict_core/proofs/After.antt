-- Breaches and names of rows that are joined.
use Rattle.std.proofs.Common.{◌≡◌, Bool, true, false, if◌then◌else◌, ◌||◌, List, [], ◌∷◌, ◌++◌, Option, Some, refl, sym, append_assoc}
use Rattle.std.proofs.lemmas.Grind.{common_steps}
use Rattle.tl_text.specs.declared.code.Code.TheVariants.{Repeated, TyvarScope}
use Rattle.tl_text.specs.declared.fault.Refusal.{Refusal}
use Rattle.tl_text.specs.declared.place.Place.{Place}
use Rattle.tl_text.specs.declared.name.Name.{Name}
use Rattle.sml_restrict_core.specs.Breaches.{after, breach, earlier}
use Rattle.sml_restrict_core.specs.Repeats.{again, contains, crossed, same_name, twice}
use Rattle.sml_restrict_core.specs.Types.{unbound}

-- the first breach of two rows is the first of the second row after that of the first one
pub after_append : (found : Option Refusal) (xs ys : List Refusal) → after found (xs ++ ys) ≡ after (after found xs) ys
after_append found [] ys = refl
after_append found (x ∷ xs) ys = after_append (Some (earlier found x)) xs ys

or_assoc : (a b c : Bool) → ((a || b) || c) ≡ (a || (b || c))
or_assoc true b c = refl
or_assoc false b c = refl

contains_append : (n : Name) (xs ys : List (Place × Name)) → contains n (xs ++ ys) ≡ (contains n xs || contains n ys)
contains_append n [] ys = refl
contains_append n (x ∷ xs) ys = rw (contains_append n xs ys) (sym (or_assoc (same_name x.1 n) (contains n xs) (contains n ys)))

-- a name is in two rows where it is in the first, and else where it is in the second
pub contains_first : (n : Name) (xs ys : List (Place × Name)) → contains n xs ≡ true → contains n (xs ++ ys) ≡ true
contains_first n xs ys e = rw (contains_append n xs ys, e) refl

pub contains_second : (n : Name) (xs ys : List (Place × Name)) → contains n xs ≡ false → contains n (xs ++ ys) ≡ contains n ys
contains_second n xs ys e = rw (contains_append n xs ys, e) refl

then_append : (b : Bool) (r : Refusal) (xs ys : List Refusal) → (if b then r ∷ (xs ++ ys) else (xs ++ ys)) ≡ (if b then r ∷ xs else xs) ++ ys
then_append true r xs ys = refl
then_append false r xs ys = refl

else_append : (b : Bool) (r : Refusal) (xs ys : List Refusal) → (if b then (xs ++ ys) else r ∷ (xs ++ ys)) ≡ (if b then xs else r ∷ xs) ++ ys
else_append true r xs ys = refl
else_append false r xs ys = refl

again_append : (n : Name) (xs ys : List (Place × Name)) → again n (xs ++ ys) ≡ again n xs ++ again n ys
again_append n [] ys = refl
again_append n (x ∷ xs) ys = rw (again_append n xs ys) (then_append (same_name x.1 n) (breach Repeated x.0) (again n xs) (again n ys))

twice_append : (xs ys : List (Place × Name)) → twice (xs ++ ys) ≡ crossed xs ys ++ twice ys
twice_append [] ys = refl
twice_append (x ∷ xs) ys = rw (twice_append xs ys) (sym (append_assoc (again x.1 (xs ++ ys)) (crossed xs ys) (twice ys)))

unbound_append : (vs xs ys : List (Place × Name)) → unbound vs (xs ++ ys) ≡ unbound vs xs ++ unbound vs ys
unbound_append vs [] ys = refl
unbound_append vs (x ∷ xs) ys = rw (unbound_append vs xs ys) (else_append (contains x.1 vs) (breach TyvarScope x.0) (unbound vs xs) (unbound vs ys))

-- the first breach at a name that stands again, in two rows
pub after_again : (found : Option Refusal) (n : Name) (xs ys : List (Place × Name)) → after found (again n (xs ++ ys)) ≡ after (after found (again n xs)) (again n ys)
after_again found n xs ys = rw (again_append n xs ys) (after_append found (again n xs) (again n ys))

-- the first breach at names that stand twice, in two rows
pub after_twice : (found : Option Refusal) (xs ys : List (Place × Name)) → after found (twice (xs ++ ys)) ≡ after (after found (crossed xs ys)) (twice ys)
after_twice found xs ys = rw (twice_append xs ys) (after_append found (crossed xs ys) (twice ys))

-- the first breach at a type variable of two rows that is no parameter
pub after_unbound : (found : Option Refusal) (vs xs ys : List (Place × Name)) → after found (unbound vs (xs ++ ys)) ≡ after (after found (unbound vs xs)) (unbound vs ys)
after_unbound found vs xs ys = rw (unbound_append vs xs ys) (after_append found (unbound vs xs) (unbound vs ys))

-- what the proofs about breaches, about names that stand again, about type variables and about occurrences cite
pub ruleset breaches = (common_steps, after_append)

pub ruleset repeats = (common_steps, after_append, after_again, after_twice)

pub ruleset scopes = (common_steps, after_append, after_unbound)

pub ruleset occurrences = (common_steps, contains_first, contains_second)
