-- What the table of reserved words says of its words.
use Rattle.std.proofs.Common.{◌≡◌, ℕ, Bool, true, false, cond, not, ◌&&◌, ◌||◌, List, [], ◌∷◌, Some, refl, subst}
use Rattle.std.specs.Prelude.{codes}
use Rattle.std.specs.Str.{bytes_eq}
use Rattle.std.proofs.lemmas.Slice.Eq.{bytes_eq-Decides}
use Rattle.tl_cases.specs.Rows.{value_at}
use Rattle.tl_cases.specs.Words.{sml_rows}
use Rattle.sml_lex.specs.Bytes.{is_letter, is_name_byte, is_symbol, first_is, all_are}
use Rattle.sml_lex.proofs.Lists.{first_true, second_true}

all_keys : (List ℕ → Bool) → List (List ℕ × ℕ) → Bool
all_keys p [] = true
all_keys p (row ∷ rows) = p row.0 && all_keys p rows

key_passes : (p : List ℕ → Bool) (rows : List (List ℕ × ℕ)) (u : List ℕ) (k : ℕ) → all_keys p rows ≡ true → value_at u rows ≡ Some k → p u ≡ true
unfolding all_keys
key_passes p [] u k all e = absurd cc
key_passes p (row ∷ rows) u k all e = by (bytes_eq row.0 u) refl (λ f. key_passes p rows u k (second_true (p row.0) (all_keys p rows) all) f)
  where
    by : (b : Bool) → bytes_eq row.0 u ≡ b → (value_at u rows ≡ Some k → p u ≡ true) → p u ≡ true
    by true f ih = subst (λ w. p w ≡ true) ((bytes_eq-Decides row.0 u).0 f) (first_true (p row.0) (all_keys p rows) all)
    by false f ih = ih (subst (λ b. cond b (Some row.1) (value_at u rows) ≡ Some k) f e)

-- a word that begins with a letter goes on with letters and the like
abbrev is_lettered : List ℕ → Bool
is_lettered w = not (first_is is_letter w) || all_are is_name_byte w

lettered : all_keys is_lettered sml_rows ≡ true
unfolding all_keys
lettered = refl

pub letter_word : (u : List ℕ) (k : ℕ) → value_at u sml_rows ≡ Some k → first_is is_letter u ≡ true → all_are is_name_byte u ≡ true
letter_word u k e f = subst (λ b. (not b || all_are is_name_byte u) ≡ true) f (key_passes is_lettered sml_rows u k lettered e)

abbrev pub is_one : List ℕ → Bool
is_one [] = false
is_one (c ∷ []) = true
is_one (c ∷ d ∷ s) = false

-- a word that begins with neither a letter nor a symbol is one byte, or three dots
abbrev is_marked : List ℕ → Bool
is_marked w = (first_is is_letter w || first_is is_symbol w) || (is_one w || bytes_eq w (codes "..."))

marked : all_keys is_marked sml_rows ≡ true
unfolding all_keys
marked = refl

pub data Mark (u : List ℕ) : Type 0 where
  one : is_one u ≡ true → Mark u
  dots : u ≡ codes "..." → Mark u

pub mark_word : (u : List ℕ) (k : ℕ) → value_at u sml_rows ≡ Some k → first_is is_letter u ≡ false → first_is is_symbol u ≡ false → Mark u
mark_word u k e f g = by (is_one u) refl (subst (λ b. ((b || first_is is_symbol u) || (is_one u || bytes_eq u (codes "..."))) ≡ true) f (key_passes is_marked sml_rows u k marked e))
  where
    by : (b : Bool) → is_one u ≡ b → (first_is is_symbol u || (is_one u || bytes_eq u (codes "..."))) ≡ true → Mark u
    by true h all = one h
    by false h all =
        let rest : (is_one u || bytes_eq u (codes "...")) ≡ true = subst (λ b. (b || (is_one u || bytes_eq u (codes "..."))) ≡ true) g all in
        dots ((bytes_eq-Decides u (codes "...")).0 (subst (λ b. (b || bytes_eq u (codes "...")) ≡ true) h rest))
