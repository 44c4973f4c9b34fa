-- The last item of a name in a row over another, in a row of what nodes spell, and in a row read from its end.
use Rattle.std.proofs.Common.{◌≡◌, ℕ, ◌+◌, ◌<◌, Bool, true, false, not, cond, List, [], ◌∷◌, ◌++◌, map, length, get_or, take, drop, Option, Some, None, refl, sym, ap, ◌∙◌, inl, inr}
use Rattle.std.specs.Option.{option_map, option_or}
use Rattle.std.specs.List.{filter}
use Rattle.std.specs.Str.{bytes_eq}
use Rattle.std.proofs.lemmas.Bool.{cases_Bool, false_from_ne_true, both_ways, or_from}
use Rattle.std.proofs.lemmas.Slice.Eq.{bytes_eq-Decides}
use Rattle.std.proofs.lemmas.List.{drop_more, take-append-drop}
use Rattle.std.proofs.lemmas.Option.{none-some}
use Rattle.sml_static.specs.Lookups.{last_named}
use Rattle.env_arena.specs.Over.{has_name, over}

pub option_or-none : {A : Type 0} (o : Option A) → option_or o None ≡ o
option_or-none None = refl
option_or-none (Some x) = refl

pub option_or-assoc : {A : Type 0} (o p q : Option A) → option_or (option_or o p) q ≡ option_or o (option_or p q)
option_or-assoc None p q = refl
option_or-assoc (Some x) p q = refl

as_or : {A : Type 0} (o p : Option A) → elim o as (λ _. Option A) [ Some y ↦ Some y | None ↦ p ] ≡ option_or o p
as_or None p = refl
as_or (Some y) p = refl

-- one item more at the front
pub last_named-cons : {A : Type 0} (name_of : A → List ℕ) (name : List ℕ) (x : A) (xs : List A) → last_named name_of name (x ∷ xs) ≡ option_or (last_named name_of name xs) (cond (bytes_eq (name_of x) name) (Some x) None)
last_named-cons name_of name x xs = as_or (last_named name_of name xs) (cond (bytes_eq (name_of x) name) (Some x) None)

pub last_named-append : {A : Type 0} (name_of : A → List ℕ) (name : List ℕ) (xs ys : List A) → last_named name_of name (xs ++ ys) ≡ option_or (last_named name_of name ys) (last_named name_of name xs)
last_named-append name_of name [] ys = sym (option_or-none (last_named name_of name ys))
last_named-append name_of name (x ∷ xs) ys =
    let one = cond (bytes_eq (name_of x) name) (Some x) None in
    last_named-cons name_of name x (xs ++ ys) ∙ ap (λ o. option_or o one) (last_named-append name_of name xs ys)
    ∙ option_or-assoc (last_named name_of name ys) (last_named name_of name xs) one
    ∙ ap (option_or (last_named name_of name ys)) (sym (last_named-cons name_of name x xs))

-- a test that each item of the name passes keeps the last one
pub last_named-filter : {A : Type 0} (name_of : A → List ℕ) (name : List ℕ) (test : A → Bool) → ((x : A) → name_of x ≡ name → test x ≡ true) → (xs : List A) → last_named name_of name (filter test xs) ≡ last_named name_of name xs
last_named-filter name_of name test passes [] = refl
last_named-filter {A} name_of name test passes (x ∷ xs) =
    let one = cond (bytes_eq (name_of x) name) (Some x) None in
    let rest = last_named-filter name_of name test passes xs in
    elim (cases_Bool (test x)) [
      | inl yes_it ↦
          ap (λ b. last_named name_of name (cond b (x ∷ filter test xs) (filter test xs))) yes_it
          ∙ last_named-cons name_of name x (filter test xs) ∙ ap (λ o. option_or o one) rest ∙ sym (last_named-cons name_of name x xs)
      | inr not_it ↦
          let other : bytes_eq (name_of x) name ≡ false = false_from_ne_true (bytes_eq (name_of x) name) (λ e. both_ways (test x) not_it (passes x ((bytes_eq-Decides (name_of x) name).0 e))) in
          ap (λ b. last_named name_of name (cond b (x ∷ filter test xs) (filter test xs))) not_it ∙ rest
          ∙ sym (last_named-cons name_of name x xs ∙ ap (λ b. option_or (last_named name_of name xs) (cond b (Some x) None)) other ∙ option_or-none (last_named name_of name xs))
    ]

or_none : {A : Type 0} (o p : Option A) → option_or o p ≡ None → (o ≡ None) × (p ≡ None)
or_none None p e = (refl, e)
or_none (Some x) p e = absurd (none-some x (sym e))

cond_none : {A : Type 0} (b : Bool) (x : A) → cond b (Some x) None ≡ None → b ≡ false
cond_none true x e = absurd (none-some x (sym e))
cond_none false x e = refl

-- a row in which nothing is found has not the name
pub last_named-none : {A : Type 0} (name_of : A → List ℕ) (name : List ℕ) (xs : List A) → last_named name_of name xs ≡ None → has_name name_of name xs ≡ false
last_named-none name_of name [] e = refl
last_named-none name_of name (x ∷ xs) e =
    let both = or_none (last_named name_of name xs) (cond (bytes_eq (name_of x) name) (Some x) None) (sym (last_named-cons name_of name x xs) ∙ e) in
    or_from (bytes_eq (name_of x) name) (has_name name_of name xs) (cond_none (bytes_eq (name_of x) name) x both.1) (last_named-none name_of name xs both.0)

under_row : {A : Type 0} (name_of : A → List ℕ) (name : List ℕ) (first then : List A) (o : Option A) → last_named name_of name then ≡ o → option_or o (last_named name_of name (filter (λ x. not (has_name name_of (name_of x) then)) first)) ≡ option_or o (last_named name_of name first)
under_row name_of name first then None e =
    last_named-filter name_of name (λ x. not (has_name name_of (name_of x) then)) (λ x q. ap not (ap (λ n. has_name name_of n then) q ∙ last_named-none name_of name then e)) first
under_row name_of name first then (Some y) e = refl

-- the row on top comes first
pub last_named-over : {A : Type 0} (name_of : A → List ℕ) (name : List ℕ) (first then : List A) → last_named name_of name (over name_of first then) ≡ option_or (last_named name_of name then) (last_named name_of name first)
last_named-over name_of name first then =
    last_named-append name_of name (filter (λ x. not (has_name name_of (name_of x) then)) first) then
    ∙ under_row name_of name first then (last_named name_of name then) refl

map_or : {A B : Type 0} (f : A → B) (o : Option A) (b : Bool) (x : A) → option_or (option_map f o) (cond b (Some (f x)) None) ≡ option_map f (option_or o (cond b (Some x) None))
map_or f None true x = refl
map_or f None false x = refl
map_or f (Some y) b x = refl

pub last_named-map : {A B : Type 0} (name_of : B → List ℕ) (f : A → B) (name : List ℕ) (xs : List A) → last_named name_of name (map f xs) ≡ option_map f (last_named (λ x. name_of (f x)) name xs)
last_named-map name_of f name [] = refl
last_named-map name_of f name (x ∷ xs) =
    let same = bytes_eq (name_of (f x)) name in
    last_named-cons name_of name (f x) (map f xs)
    ∙ ap (λ o. option_or o (cond same (Some (f x)) None)) (last_named-map name_of f name xs)
    ∙ map_or f (last_named (λ x. name_of (f x)) name xs) same x
    ∙ ap (option_map f) (sym (last_named-cons (λ x. name_of (f x)) name x xs))

-- one item more, where the items after it have not the name
pub last_named-drop : {A : Type 0} (name_of : A → List ℕ) (name : List ℕ) (xs : List A) (i : ℕ) (x : A) (b : Bool) → i < length xs → x ≡ get_or xs i x → last_named name_of name (drop (i + 1) xs) ≡ None → b ≡ bytes_eq (name_of x) name → last_named name_of name (drop i xs) ≡ cond b (Some x) None
last_named-drop name_of name xs i x b lt is none same =
    ap (last_named name_of name) (drop_more xs i x lt ∙ ap (λ y. y ∷ drop (i + 1) xs) (sym is))
    ∙ last_named-cons name_of name x (drop (i + 1) xs)
    ∙ ap (λ o. option_or o (cond (bytes_eq (name_of x) name) (Some x) None)) none
    ∙ ap (λ c. cond c (Some x) None) (sym same)

-- what is found after the first items is what is found
pub last_named-found : {A : Type 0} (name_of : A → List ℕ) (name : List ℕ) (xs : List A) (i : ℕ) (x : A) → last_named name_of name (drop i xs) ≡ Some x → last_named name_of name xs ≡ Some x
last_named-found name_of name xs i x e =
    ap (last_named name_of name) (sym (take-append-drop i xs)) ∙ last_named-append name_of name (take i xs) (drop i xs)
    ∙ ap (λ o. option_or o (last_named name_of name (take i xs))) e
