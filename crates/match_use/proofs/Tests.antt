-- Tests of each element, of mapped and filtered lists, and of pairs.
use Rattle.std.proofs.Common.{◌≡◌, List, [], ◌∷◌, map, Bool, true, Option, Some, None, refl}
use Rattle.std.specs.List.{list_all, filter_map, cons_option}
use Rattle.std.proofs.lemmas.Bool.{and_parts, and_from}

-- what holds of each element that passes
pub all-imp : {X : Type 0} (p q : X → Bool) → ((x : X) → p x ≡ true → q x ≡ true) → (xs : List X) → list_all p xs ≡ true → list_all q xs ≡ true
all-imp p q h [] e = refl
all-imp p q h (x ∷ xs) e = let a = and_parts (p x) (list_all p xs) e in and_from (q x) (list_all q xs) (h x a.0) (all-imp p q h xs a.1)

-- the same of mapped elements, where two tests pass before
pub all-map : {X Y : Type 0} (f : X → Y) (c p : X → Bool) (q : Y → Bool) → ((x : X) → c x ≡ true → p x ≡ true → q (f x) ≡ true) → (xs : List X) → list_all c xs ≡ true → list_all p xs ≡ true → list_all q (map f xs) ≡ true
all-map f c p q h [] d e = refl
all-map f c p q h (x ∷ xs) d e =
    let b = and_parts (c x) (list_all c xs) d in
    let a = and_parts (p x) (list_all p xs) e in
    and_from (q (f x)) (list_all q (map f xs)) (h x b.0 a.0) (all-map f c p q h xs b.1 a.1)

one_more : {Y : Type 0} (q : Y → Bool) (o : Option Y) (ys : List Y) → ((y : Y) → o ≡ Some y → q y ≡ true) → list_all q ys ≡ true → list_all q (cons_option o ys) ≡ true
one_more q None ys h e = e
one_more q (Some y) ys h e = and_from (q y) (list_all q ys) (h y refl) e

-- the same of filtered elements
pub all-filter : {X Y : Type 0} (f : X → Option Y) (p : X → Bool) (q : Y → Bool) → ((x : X) (y : Y) → f x ≡ Some y → p x ≡ true → q y ≡ true) → (xs : List X) → list_all p xs ≡ true → list_all q (filter_map f xs) ≡ true
all-filter f p q h [] e = refl
all-filter f p q h (x ∷ xs) e =
    let a = and_parts (p x) (list_all p xs) e in
    one_more q (f x) (filter_map f xs) (λ y r. h x y r a.0) (all-filter f p q h xs a.1)

-- what holds of each two elements, of each two mapped ones
pub pairs-map : {X Y : Type 0} (f : X → Y) (c : X → Bool) (r : X → X → Bool) (s : Y → Y → Bool) → ((x y : X) → c x ≡ true → c y ≡ true → r x y ≡ true → s (f x) (f y) ≡ true)
    → (xs : List X) → list_all c xs ≡ true → list_all (λ x. list_all (r x) xs) xs ≡ true → list_all (λ y. list_all (s y) (map f xs)) (map f xs) ≡ true
pairs-map f c r s h xs d e =
    all-map f c (λ x. list_all (r x) xs) (λ y. list_all (s y) (map f xs)) (λ x b a. all-map f c (r x) (s (f x)) (λ y. h x y b) xs d a) xs d e

-- the same of filtered ones
pub pairs-filter : {X Y : Type 0} (f : X → Option Y) (r : X → X → Bool) (s : Y → Y → Bool) → ((x x' : X) (y y' : Y) → f x ≡ Some y → f x' ≡ Some y' → r x x' ≡ true → s y y' ≡ true)
    → (xs : List X) → list_all (λ x. list_all (r x) xs) xs ≡ true → list_all (λ y. list_all (s y) (filter_map f xs)) (filter_map f xs) ≡ true
pairs-filter f r s h xs e =
    all-filter f (λ x. list_all (r x) xs) (λ y. list_all (s y) (filter_map f xs)) (λ x y i a. all-filter f (r x) (s y) (λ x' y' j. h x x' y y' i j) xs a) xs e
