-- What a tree finds after a row is added.
use Rattle.std.proofs.Common.{◌≡◌, ℕ, zero, suc, ◌+◌, ◌<◌, Bool, true, false, cond, List, [], ◌∷◌, map, length, get_or, drop, Option, Some, None, refl, sym, ap, ◌∙◌, arith}
use Rattle.std.proofs.lemmas.List.{drop_more}
use Rattle.std.specs.Option.{option_map, option_or}
use Rattle.std.specs.Str.{bytes_eq}
use Rattle.sml_static.specs.Lookups.{last_named}
use Rattle.env_arena.specs.Over.{over}
use Rattle.env_arena.proofs.Rows.{option_or-assoc, last_named-cons, last_named-map, last_named-over}

or_cond : {A : Type 0} (b : Bool) (x : A) (o : Option A) → option_or (cond b (Some x) None) o ≡ cond b (Some x) o
or_cond true x o = refl
or_cond false x o = refl

pub get_or_same : {A : Type 0} (xs : List A) (i : ℕ) (d e : A) → i < length xs → get_or xs i d ≡ get_or xs i e
get_or_same [] i d e lt = absurd (omega arith)
get_or_same (x ∷ xs) zero d e lt = refl
get_or_same (x ∷ xs) (suc i) d e lt = get_or_same xs i d e (omega arith)

-- one item more, where those after it come first
pub row_step : {A : Type 0} (name_of : A → List ℕ) (n : List ℕ) (x : A) (xs : List A) (old new : Option A) → new ≡ cond (bytes_eq (name_of x) n) (Some x) old → option_or (last_named name_of n xs) new ≡ option_or (last_named name_of n (x ∷ xs)) old
row_step name_of n x xs old new e =
    let one = cond (bytes_eq (name_of x) n) (Some x) None in
    ap (option_or (last_named name_of n xs)) (e ∙ sym (or_cond (bytes_eq (name_of x) n) x old))
    ∙ sym (option_or-assoc (last_named name_of n xs) one old)
    ∙ ap (λ o. option_or o old) (sym (last_named-cons name_of n x xs))

-- the same in a loop along a row
pub row_more : {A : Type 0} (name_of : A → List ℕ) (n : List ℕ) (xs : List A) (i : ℕ) (x : A) (old new : Option A) → i < length xs → x ≡ get_or xs i x → new ≡ cond (bytes_eq (name_of x) n) (Some x) old → option_or (last_named name_of n (drop (i + 1) xs)) new ≡ option_or (last_named name_of n (drop i xs)) old
row_more name_of n xs i x old new lt is e =
    row_step name_of n x (drop (i + 1) xs) old new e
    ∙ ap (λ r. option_or (last_named name_of n r) old) (ap (λ y. y ∷ drop (i + 1) xs) is ∙ sym (drop_more xs i x lt))

map_or : {A B : Type 0} (f : A → B) (o p : Option A) → option_map f (option_or o p) ≡ option_or (option_map f o) (option_map f p)
map_or f None p = refl
map_or f (Some x) p = refl

-- what is found after a whole row is what one row over another binds
pub row_over : {A B : Type 0} (name_of : B → List ℕ) (f : A → B) (n : List ℕ) (own : List A) (first then : List B) (old new : Option A) → map f own ≡ then → option_map f old ≡ last_named name_of n first → new ≡ option_or (last_named (λ x. name_of (f x)) n own) old → option_map f new ≡ last_named name_of n (over name_of first then)
row_over name_of f n own first then old new is before added =
    ap (option_map f) added ∙ map_or f (last_named (λ x. name_of (f x)) n own) old
    ∙ ap (λ o. option_or o (option_map f old)) (sym (last_named-map name_of f n own) ∙ ap (last_named name_of n) is)
    ∙ ap (option_or (last_named name_of n then)) before
    ∙ sym (last_named-over name_of n first then)
