-- One row over another: names, three rows, rows of what nodes spell, and a row one item longer.
use Rattle.std.proofs.Common.{◌≡◌, ℕ, ◌+◌, ◌<◌, Bool, true, false, not, cond, ◌||◌, ◌&&◌, List, [], ◌∷◌, ◌++◌, map, length, get_or, drop, refl, sym, ap, ◌∙◌, inl, inr, append_assoc}
use Rattle.std.specs.List.{filter}
use Rattle.std.specs.Str.{bytes_eq}
use Rattle.std.proofs.lemmas.Bool.{cases_Bool, false_from_ne_true, both_ways, or_right}
use Rattle.std.proofs.lemmas.Slice.Eq.{bytes_eq-Decides}
use Rattle.std.proofs.lemmas.List.{append-nil, drop_more, map-append}
use Rattle.std.proofs.lemmas.List.Folds.{list_any-append}
use Rattle.std.proofs.lemmas.List.Elements.{filter-append, filter_agree}
use Rattle.env_arena.specs.Over.{has_name, over}

or_false : (x : Bool) → (x || false) ≡ x
or_false true = refl
or_false false = refl

-- a test that each item of the name passes keeps the name
pub has_name_filter : {A : Type 0} (name_of : A → List ℕ) (name : List ℕ) (test : A → Bool) → ((x : A) → name_of x ≡ name → test x ≡ true) → (xs : List A) → has_name name_of name (filter test xs) ≡ has_name name_of name xs
has_name_filter name_of name test passes [] = refl
has_name_filter {A} name_of name test passes (x ∷ xs) =
    let rest = has_name_filter name_of name test passes xs in
    elim (cases_Bool (test x)) [
      | inl passed ↦
          ap (λ b. has_name name_of name (cond b (x ∷ filter test xs) (filter test xs))) passed ∙ ap (λ b. bytes_eq (name_of x) name || b) rest
      | inr failed ↦
          let other : bytes_eq (name_of x) name ≡ false = false_from_ne_true (bytes_eq (name_of x) name) (λ e. both_ways (test x) failed (passes x ((bytes_eq-Decides (name_of x) name).0 e))) in
          ap (λ b. has_name name_of name (cond b (x ∷ filter test xs) (filter test xs))) failed ∙ rest
          ∙ sym (ap (λ b. b || has_name name_of name xs) other)
    ]

kept_names : {A : Type 0} (name_of : A → List ℕ) (name : List ℕ) (first then : List A) (b : Bool) → has_name name_of name then ≡ b → (has_name name_of name (filter (λ x. not (has_name name_of (name_of x) then)) first) || b) ≡ (has_name name_of name first || b)
kept_names name_of name first then true e = or_right _ true refl ∙ sym (or_right (has_name name_of name first) true refl)
kept_names name_of name first then false e =
    ap (λ b. b || false) (has_name_filter name_of name (λ x. not (has_name name_of (name_of x) then)) (λ x q. ap not (ap (λ n. has_name name_of n then) q ∙ e)) first)

-- the names of one row over another are those of both
pub has_name_over : {A : Type 0} (name_of : A → List ℕ) (name : List ℕ) (first then : List A) → has_name name_of name (over name_of first then) ≡ (has_name name_of name first || has_name name_of name then)
has_name_over name_of name first then =
    list_any-append (λ x. bytes_eq (name_of x) name) (filter (λ x. not (has_name name_of (name_of x) then)) first) then
    ∙ kept_names name_of name first then (has_name name_of name then) refl

twice_step : {A : Type 0} (p q : A → Bool) (x : A) (xs : List A) (b : Bool) → q x ≡ b → filter p (filter q xs) ≡ filter (λ x. q x && p x) xs → filter p (cond b (x ∷ filter q xs) (filter q xs)) ≡ cond (b && p x) (x ∷ filter (λ x. q x && p x) xs) (filter (λ x. q x && p x) xs)
twice_step p q x xs true e rest = ap (λ r. cond (p x) (x ∷ r) r) rest
twice_step p q x xs false e rest = rest

filter_twice : {A : Type 0} (p q : A → Bool) (xs : List A) → filter p (filter q xs) ≡ filter (λ x. q x && p x) xs
filter_twice p q [] = refl
filter_twice p q (x ∷ xs) = twice_step p q x xs (q x) refl (filter_twice p q xs)

not_or : (a b : Bool) → (not a && not b) ≡ not (a || b)
not_or true b = refl
not_or false b = refl

-- three rows
pub over_assoc : {A : Type 0} (name_of : A → List ℕ) (first second third : List A) → over name_of (over name_of first second) third ≡ over name_of first (over name_of second third)
over_assoc {A} name_of first second third =
    let free : List A → A → Bool = λ row x. not (has_name name_of (name_of x) row) in
    let kept : filter (free third) (filter (free second) first) ≡ filter (free (over name_of second third)) first =
    filter_twice (free third) (free second) first
    ∙ filter_agree (λ x. free second x && free third x) (free (over name_of second third)) (λ x. not_or (has_name name_of (name_of x) second) (has_name name_of (name_of x) third) ∙ ap not (sym (has_name_over name_of (name_of x) second third))) first in
    ap (λ r. r ++ third) (filter-append (free third) (filter (free second) first) second ∙ ap (λ r. r ++ filter (free third) second) kept)
    ∙ append_assoc (filter (free (over name_of second third)) first) (filter (free third) second) third

-- rows of what items stand for
has_name_map : {A B : Type 0} (name_of : B → List ℕ) (f : A → B) (name : List ℕ) (xs : List A) → has_name name_of name (map f xs) ≡ has_name (λ x. name_of (f x)) name xs
has_name_map name_of f name [] = refl
has_name_map name_of f name (x ∷ xs) = ap (λ b. bytes_eq (name_of (f x)) name || b) (has_name_map name_of f name xs)

filter_map_step : {A B : Type 0} (test : B → Bool) (f : A → B) (x : A) (xs : List A) (b : Bool) → filter test (map f xs) ≡ map f (filter (λ y. test (f y)) xs) → cond b (f x ∷ filter test (map f xs)) (filter test (map f xs)) ≡ map f (cond b (x ∷ filter (λ y. test (f y)) xs) (filter (λ y. test (f y)) xs))
filter_map_step test f x xs true rest = ap (λ r. f x ∷ r) rest
filter_map_step test f x xs false rest = rest

filter_map : {A B : Type 0} (test : B → Bool) (f : A → B) (xs : List A) → filter test (map f xs) ≡ map f (filter (λ x. test (f x)) xs)
filter_map test f [] = refl
filter_map test f (x ∷ xs) = filter_map_step test f x xs (test (f x)) (filter_map test f xs)

pub over_map : {A B : Type 0} (name_of : B → List ℕ) (f : A → B) (first then : List A) → over name_of (map f first) (map f then) ≡ map f (over (λ x. name_of (f x)) first then)
over_map name_of f first then =
    ap (λ r. r ++ map f then) (
    filter_map (λ y. not (has_name name_of (name_of y) (map f then))) f first
    ∙ ap (map f) (filter_agree (λ x. not (has_name name_of (name_of (f x)) (map f then))) (λ x. not (has_name (λ y. name_of (f y)) (name_of (f x)) then)) (λ x. ap not (has_name_map name_of f (name_of (f x)) then)) first)
    )
    ∙ sym (map-append f (filter (λ x. not (has_name (λ y. name_of (f y)) (name_of (f x)) then)) first) then)

two_ways : {A : Type 0} (b : Bool) (x : A) (kept then : List A) → cond (not b) (x ∷ kept) kept ++ then ≡ cond b (kept ++ then) (x ∷ (kept ++ then))
two_ways true x kept then = refl
two_ways false x kept then = refl

-- one item more before the others
pub over_drop : {A : Type 0} (name_of : A → List ℕ) (first then : List A) (i : ℕ) (x : A) (b : Bool) → i < length first → x ≡ get_or first i x → has_name name_of (name_of x) then ≡ b → over name_of (drop i first) then ≡ cond b (over name_of (drop (i + 1) first) then) (x ∷ over name_of (drop (i + 1) first) then)
over_drop name_of first then i x b lt is same =
    ap (λ r. over name_of r then) (drop_more first i x lt ∙ ap (λ y. y ∷ drop (i + 1) first) (sym is))
    ∙ ap (λ c. cond (not c) (x ∷ filter (λ y. not (has_name name_of (name_of y) then)) (drop (i + 1) first)) (filter (λ y. not (has_name name_of (name_of y) then)) (drop (i + 1) first)) ++ then) same
    ∙ two_ways b x (filter (λ y. not (has_name name_of (name_of y) then)) (drop (i + 1) first)) then

filter_all : {A : Type 0} (xs : List A) → filter (λ x. true) xs ≡ xs
filter_all [] = refl
filter_all (x ∷ xs) = ap (λ r. x ∷ r) (filter_all xs)

pub over_nothing : {A : Type 0} (name_of : A → List ℕ) (first : List A) → over name_of first [] ≡ first
over_nothing name_of first = append-nil (filter (λ x. true) first) ∙ filter_all first
