-- Unlike names have unlike spellings, and each is one that OCaml takes.
use Rattle.std.proofs.Common.{◌≡◌, ℕ, Bool, true, false, not, ◌&&◌, ◌||◌, List, [], ◌∷◌, ◌++◌, length, Option, Some, None, refl, sym, ap, subst, ◌∙◌, arith}
use Rattle.std.specs.Prelude.{nat_eq, is_some, codes, if◌then◌else◌, cond}
use Rattle.std.specs.Str.{bytes_eq}
use Rattle.std.proofs.lemmas.Slice.Eq.{bytes_eq-Decides}
use Rattle.std.proofs.lemmas.Bool.{eqb-true, eq-eqb}
use Rattle.tl_cases.specs.Rows.{value_at}
use Rattle.tl_cases.specs.Words.{oc_rows}
use Rattle.oc_rules.specs.Bytes.{is_small, is_capital, is_letter, is_part, every, heads, shaped, same, is_any}
use Rattle.oc_rules.specs.Allowed.{is_word, is_low, is_cap}
use Rattle.oc_rules.proofs.Tests.{both_ways, and_true, and_of, not_true, not_of, same_is, prefix, every_more, letter_part}
use Rattle.oc_rules.proofs.Lexing.{same_front}
use Rattle.oc_names.specs.declared.names.NameKind.{NameKind}
use Rattle.oc_names.specs.declared.names.NameKind.TheVariants.{Value, Constructor, TypeName, Module, Functor}
use Rattle.oc_names.specs.Mangled.{symbol_words, look, word_of, is_symbol, words_of, is_alphanumeric, is_symbolic, may_name, base_rows, fixed_rows, own_rows, is_listed, prefixed, is_unit_like, keeps_low, keeps_type, keeps_cap, keeps_module, behind, spelling, fixed_of, constructor_by, mangled, lawful}

either : {A : Type 0} (a b : Bool) → (a || b) ≡ true → (a ≡ true → A) → (b ≡ true → A) → A
either true b e f g = f refl
either false b e f g = g e

or_left : (a b : Bool) → a ≡ true → (a || b) ≡ true
or_left true b e = refl
or_left false b e = absurd cc

or_right : (a b : Bool) → b ≡ true → (a || b) ≡ true
or_right true b e = refl
or_right false b e = e

-- ---- tables: what holds of each key holds of a name that is found

abbrev keys_pass : (List ℕ → Bool) → List (List ℕ × ℕ) → Bool
keys_pass p [] = true
keys_pass p (r ∷ rs) = p r.0 && keys_pass p rs

found_is : (p : List ℕ → Bool) (rows : List (List ℕ × ℕ)) (n : List ℕ) → keys_pass p rows ≡ true → is_some (value_at n rows) ≡ true → p n ≡ true
found_is p [] n e f = absurd cc
found_is p (r ∷ rs) n e f = go (λ x. found_is p rs n (and_true (p r.0) (keys_pass p rs) e).1 x) (bytes_eq r.0 n) refl
  where
    go : (is_some (value_at n rs) ≡ true → p n ≡ true) → (b : Bool) → bytes_eq r.0 n ≡ b → p n ≡ true
    go later true y = subst (λ (z : List ℕ). p z ≡ true) ((bytes_eq-Decides r.0 n).0 y) (and_true (p r.0) (keys_pass p rs) e).0
    go later false y = later (sym (ap (λ (b : Bool). is_some (cond b (Some r.1) (value_at n rs))) y) ∙ f)

-- a name that fails a test of all keys is not found
not_found : (p : List ℕ → Bool) (rows : List (List ℕ × ℕ)) (n : List ℕ) → keys_pass p rows ≡ true → p n ≡ false → is_some (value_at n rows) ≡ false
not_found p rows n e f = go (is_some (value_at n rows)) refl
  where
    go : (b : Bool) → is_some (value_at n rows) ≡ b → b ≡ false
    go true y = both_ways (p n) (found_is p rows n e y) f
    go false y = refl

-- ---- words of symbols

abbrev symbols_pass : (ℕ → Bool) → List (ℕ × List ℕ) → Bool
symbols_pass p [] = true
symbols_pass p (r ∷ rs) = p r.0 && symbols_pass p rs

looked_is : (p : ℕ → Bool) (rs : List (ℕ × List ℕ)) (c : ℕ) → symbols_pass p rs ≡ true → is_some (look c rs) ≡ true → p c ≡ true
looked_is p [] c e f = absurd cc
looked_is p (r ∷ rs) c e f = go (λ x. looked_is p rs c (and_true (p r.0) (symbols_pass p rs) e).1 x) (nat_eq c r.0) refl
  where
    go : (is_some (look c rs) ≡ true → p c ≡ true) → (b : Bool) → nat_eq c r.0 ≡ b → p c ≡ true
    go later true y = subst (λ (z : ℕ). p z ≡ true) (sym (eqb-true c r.0 y)) (and_true (p r.0) (symbols_pass p rs) e).0
    go later false y = later (sym (ap (λ (b : Bool). is_some (if b then Some r.1 else look c rs)) y) ∙ f)

-- the symbol of a word
abbrev symbol_in : List ℕ → List (ℕ × List ℕ) → ℕ
symbol_in w [] = 0
symbol_in w (r ∷ rs) = if same r.1 w then r.0 else symbol_in w rs

one_word : (c : ℕ) → is_symbol c ≡ true → symbol_in (word_of c) symbol_words ≡ c
one_word c e = eqb-true (symbol_in (word_of c) symbol_words) c (looked_is (λ c. nat_eq (symbol_in (word_of c) symbol_words) c) symbol_words c refl e)

small_word : (c : ℕ) → is_symbol c ≡ true → every is_small (word_of c) ≡ true
small_word c e = looked_is (λ c. every is_small (word_of c)) symbol_words c refl e

plain_word : (c : ℕ) → is_symbol c ≡ true → every (λ x. not (nat_eq x 95)) (word_of c) ≡ true
plain_word c e = looked_is (λ c. every (λ x. not (nat_eq x 95)) (word_of c)) symbol_words c refl e

behind_word : (s : List ℕ) → heads (λ x. not (nat_eq x 95)) (words_of s) ≡ false
behind_word [] = refl
behind_word (c ∷ s) = refl

words_injective : (m n : List ℕ) → every is_symbol m ≡ true → every is_symbol n ≡ true → words_of m ≡ words_of n → m ≡ n
words_injective [] [] a b e = refl
words_injective [] (d ∷ n) a b e = absurd cc
words_injective (c ∷ m) [] a b e = absurd cc
words_injective (c ∷ m) (d ∷ n) a b e =
    let h = and_true (is_symbol c) (every is_symbol m) a in
    let k = and_true (is_symbol d) (every is_symbol n) b in
    let t : word_of c ++ words_of m ≡ word_of d ++ words_of n = cc in
    let x = prefix (λ x. not (nat_eq x 95)) (word_of d) (words_of n) (word_of c) (words_of m) t (plain_word c h.0) (behind_word n) in
    let y = prefix (λ x. not (nat_eq x 95)) (word_of c) (words_of m) (word_of d) (words_of n) (sym t) (plain_word d k.0) (behind_word m) in
    let z : length (word_of c) ≡ length (word_of d) = omega (arith, x, y) in
    let f = same_front (word_of d) (word_of c) (words_of n) (words_of m) t z in
    let one : c ≡ d = sym (one_word c h.0) ∙ (ap (λ (w : List ℕ). symbol_in w symbol_words) f.0 ∙ one_word d k.0) in
    let rest : m ≡ n = words_injective m n h.1 k.1 f.1 in
    cc

-- ---- the three ways to spell a name

data Spelt (a b : ℕ) (keeps : Bool) (n r : List ℕ) : Type 0 where
  ByWords : is_symbolic n ≡ true → r ≡ a ∷ words_of n → Spelt a b keeps n r
  Kept : is_alphanumeric n ≡ true → keeps ≡ true → r ≡ n → Spelt a b keeps n r
  Behind : is_alphanumeric n ≡ true → r ≡ b ∷ 95 ∷ n → Spelt a b keeps n r

-- what is kept begins neither with the one letter nor with the other
abbrev Off : ℕ → ℕ → Bool → List ℕ → Type 0
Off a b keeps n = keeps ≡ true → (prefixed a n ≡ false) × (prefixed b n ≡ false)

first_symbol : (n : List ℕ) → is_symbolic n ≡ true → heads is_symbol n ≡ true
first_symbol [] e = absurd cc
first_symbol (c ∷ s) e = (and_true (is_symbol c) (every is_symbol s) e).0

all_symbols : (n : List ℕ) → is_symbolic n ≡ true → every is_symbol n ≡ true
all_symbols [] e = refl
all_symbols (c ∷ s) e = e

letter_no_symbol : (c : ℕ) → is_letter c ≡ true → is_symbol c ≡ false
letter_no_symbol c e = go (is_symbol c) refl
  where
    go : (b : Bool) → is_symbol c ≡ b → b ≡ false
    go true y = both_ways (is_letter c) e (not_true (is_letter c) (looked_is (λ c. not (is_letter c)) symbol_words c refl y))
    go false y = refl

first_letter : (n : List ℕ) → is_alphanumeric n ≡ true → heads is_symbol n ≡ false
first_letter [] e = absurd cc
first_letter (c ∷ s) e = letter_no_symbol c (and_true (is_letter c) (every is_part s) e).0

spelt : (a b : ℕ) (keeps : Bool) (n : List ℕ) → (is_alphanumeric n || is_symbolic n) ≡ true → Spelt a b keeps n (spelling a b keeps n)
spelt a b keeps n may = either (is_alphanumeric n) (is_symbolic n) may alpha symb
  where
    by : (k : Bool) → is_alphanumeric n ≡ true → Spelt a b k n (if k then n else behind b n)
    by true e = Kept e refl refl
    by false e = Behind e refl

    symb : is_symbolic n ≡ true → Spelt a b keeps n (spelling a b keeps n)
    symb e = subst (λ (z : Bool). Spelt a b keeps n (if z then (a ∷ []) ++ words_of n else (if keeps then n else behind b n))) (sym (first_symbol n e)) (ByWords e refl)

    alpha : is_alphanumeric n ≡ true → Spelt a b keeps n (spelling a b keeps n)
    alpha e = subst (λ (z : Bool). Spelt a b keeps n (if z then (a ∷ []) ++ words_of n else (if keeps then n else behind b n))) (sym (first_letter n e)) (by keeps e)

self : (n : ℕ) → nat_eq n n ≡ true
self n = eq-eqb n n refl

not_words : {A : Type 0} (a : ℕ) (n r : List ℕ) → is_symbolic n ≡ true → r ≡ a ∷ words_of n → prefixed a r ≡ false → A
not_words a [] r e f g = both_ways false e refl
not_words a (c ∷ s) r e f g = both_ways (prefixed a r) (subst (λ (z : List ℕ). prefixed a z ≡ true) (sym f) (and_of (nat_eq a a) true (self a) refl)) g

not_behind : {A : Type 0} (b : ℕ) (n r : List ℕ) → r ≡ b ∷ 95 ∷ n → prefixed b r ≡ false → A
not_behind b n r f g = both_ways (prefixed b r) (subst (λ (z : List ℕ). prefixed b z ≡ true) (sym f) (and_of (nat_eq b b) true (self b) refl)) g

one_source : (a b : ℕ) → (a ≡ b → ⊥) → (j k : Bool) (m n r s : List ℕ) → Off a b j m → Off a b k n → r ≡ s → Spelt a b j m r → Spelt a b k n s → m ≡ n
one_source a b differ j k m n r s om on e (ByWords p f) (ByWords q g) = let t : a ∷ words_of m ≡ a ∷ words_of n = sym f ∙ (e ∙ g) in words_injective m n (all_symbols m p) (all_symbols n q) cc
one_source a b differ j k m n r s om on e (ByWords p f) (Kept q x g) = not_words a m n p (sym g ∙ (sym e ∙ f)) (on x).0
one_source a b differ j k m n r s om on e (ByWords p f) (Behind q g) = let t : a ∷ words_of m ≡ b ∷ 95 ∷ n = sym f ∙ (e ∙ g) in absurd (differ cc)
one_source a b differ j k m n r s om on e (Kept q x g) (ByWords p f) = not_words a n m p (sym g ∙ (e ∙ f)) (om x).0
one_source a b differ j k m n r s om on e (Kept q x g) (Kept p z f) = sym g ∙ (e ∙ f)
one_source a b differ j k m n r s om on e (Kept q x g) (Behind p f) = not_behind b n m (sym g ∙ (e ∙ f)) (om x).1
one_source a b differ j k m n r s om on e (Behind q g) (ByWords p f) = let t : b ∷ 95 ∷ m ≡ a ∷ words_of n = sym g ∙ (e ∙ f) in absurd (differ cc)
one_source a b differ j k m n r s om on e (Behind p f) (Kept q x g) = not_behind b m n (sym g ∙ (sym e ∙ f)) (on x).1
one_source a b differ j k m n r s om on e (Behind p f) (Behind q g) = let t : b ∷ 95 ∷ m ≡ b ∷ 95 ∷ n = sym f ∙ (e ∙ g) in cc

-- ---- what a kept name is not

low_off : (n : List ℕ) → keeps_low n ≡ true → (prefixed 115 n ≡ false) × (prefixed 118 n ≡ false)
low_off n e =
    let a = and_true (heads is_small n) (not (is_listed oc_rows n) && (not (prefixed 118 n) && (not (prefixed 115 n) && not (prefixed 122 n)))) e in
    let b = and_true (not (is_listed oc_rows n)) (not (prefixed 118 n) && (not (prefixed 115 n) && not (prefixed 122 n))) a.1 in
    let c = and_true (not (prefixed 118 n)) (not (prefixed 115 n) && not (prefixed 122 n)) b.1 in
    let d = and_true (not (prefixed 115 n)) (not (prefixed 122 n)) c.1 in
    (not_true (prefixed 115 n) d.0, not_true (prefixed 118 n) c.0)

type_off : (n : List ℕ) → keeps_type n ≡ true → (prefixed 115 n ≡ false) × (prefixed 118 n ≡ false)
type_off n e = low_off n (and_true (keeps_low n) (not (is_listed base_rows n)) e).0

cap_off : (n : List ℕ) → keeps_cap n ≡ true → (prefixed 83 n ≡ false) × (prefixed 67 n ≡ false)
cap_off n e =
    let a = and_true (heads is_capital n) (not (prefixed 67 n) && (not (prefixed 83 n) && not (prefixed 90 n))) e in
    let b = and_true (not (prefixed 67 n)) (not (prefixed 83 n) && not (prefixed 90 n)) a.1 in
    let c = and_true (not (prefixed 83 n)) (not (prefixed 90 n)) b.1 in
    (not_true (prefixed 83 n) c.0, not_true (prefixed 67 n) b.0)

module_off : (n : List ℕ) → keeps_module n ≡ true → (prefixed 67 n ≡ false) × (prefixed 70 n ≡ false)
module_off n e =
    let a = and_true (keeps_cap n) (not (is_listed own_rows n) && (not (prefixed 70 n) && not (is_unit_like n))) e in
    let b = and_true (not (is_listed own_rows n)) (not (prefixed 70 n) && not (is_unit_like n)) a.1 in
    let c = and_true (not (prefixed 70 n)) (not (is_unit_like n)) b.1 in
    ((cap_off n a.0).1, not_true (prefixed 70 n) c.0)

-- ---- constructors

-- the source of a fixed spelling
abbrev source_of : List ℕ → List ℕ
source_of r = if same r (codes "[]") then codes "nil" else r

abbrev rows_back : List (List ℕ × ℕ) → Bool
rows_back [] = true
rows_back (r ∷ rs) = (same (source_of (fixed_of r.1)) r.0 && not (heads is_capital (fixed_of r.1))) && rows_back rs

fixed_back : (rows : List (List ℕ × ℕ)) (n : List ℕ) (k : ℕ) → rows_back rows ≡ true → value_at n rows ≡ Some k → (source_of (fixed_of k) ≡ n) × (heads is_capital (fixed_of k) ≡ false)
fixed_back [] n k c e = absurd cc
fixed_back (r ∷ rs) n k c e = go (λ x. fixed_back rs n k (and_true (same (source_of (fixed_of r.1)) r.0 && not (heads is_capital (fixed_of r.1))) (rows_back rs) c).1 x) (bytes_eq r.0 n) refl
  where
    go : (value_at n rs ≡ Some k → (source_of (fixed_of k) ≡ n) × (heads is_capital (fixed_of k) ≡ false)) → (b : Bool) → bytes_eq r.0 n ≡ b → (source_of (fixed_of k) ≡ n) × (heads is_capital (fixed_of k) ≡ false)
    go later true y =
        let number : Some r.1 ≡ Some k = sym (ap (λ (b : Bool). cond b (Some r.1) (value_at n rs)) y) ∙ e in
        let is : r.1 ≡ k = cc in
        let h = and_true (same (source_of (fixed_of r.1)) r.0) (not (heads is_capital (fixed_of r.1))) (and_true (same (source_of (fixed_of r.1)) r.0 && not (heads is_capital (fixed_of r.1))) (rows_back rs) c).0 in (
          sym (ap (λ (j : ℕ). source_of (fixed_of j)) is) ∙ (same_is (source_of (fixed_of r.1)) r.0 h.0 ∙ (bytes_eq-Decides r.0 n).0 y),
          sym (ap (λ (j : ℕ). heads is_capital (fixed_of j)) is) ∙ not_true (heads is_capital (fixed_of r.1)) h.1,
        )
    go later false y = later (sym (ap (λ (b : Bool). cond b (Some r.1) (value_at n rs)) y) ∙ e)

-- a constructor that is not fixed is spelled with a capital
spelt_capital : (n r : List ℕ) → Spelt 83 67 (keeps_cap n) n r → heads is_capital r ≡ true
spelt_capital n r (ByWords p f) = ap (heads is_capital) f
spelt_capital n r (Kept q x g) = ap (heads is_capital) g ∙ (and_true (heads is_capital n) (not (prefixed 67 n) && (not (prefixed 83 n) && not (prefixed 90 n))) x).0
spelt_capital n r (Behind q g) = ap (heads is_capital) g

constructors_one : (m n : List ℕ) (x y : Option ℕ) → value_at m fixed_rows ≡ x → value_at n fixed_rows ≡ y → may_name Constructor m ≡ true → may_name Constructor n ≡ true → constructor_by x m ≡ constructor_by y n → m ≡ n
constructors_one m n None None f g p q e = one_source 83 67 (λ z. omega (arith, z)) (keeps_cap m) (keeps_cap n) m n (constructor_by None m) (constructor_by None n) (cap_off m) (cap_off n) e (spelt 83 67 (keeps_cap m) m p) (spelt 83 67 (keeps_cap n) n q)
constructors_one m n None (Some k) f g p q e =
    let a = spelt_capital m (constructor_by None m) (spelt 83 67 (keeps_cap m) m p) in
    both_ways (heads is_capital (constructor_by None m)) a (ap (heads is_capital) e ∙ (fixed_back fixed_rows n k refl g).1)
constructors_one m n (Some k) None f g p q e =
    let a = spelt_capital n (constructor_by None n) (spelt 83 67 (keeps_cap n) n q) in
    both_ways (heads is_capital (constructor_by None n)) a (ap (heads is_capital) (sym e) ∙ (fixed_back fixed_rows m k refl f).1)
constructors_one m n (Some k) (Some j) f g p q e = sym (fixed_back fixed_rows m k refl f).0 ∙ (ap source_of e ∙ (fixed_back fixed_rows n j refl g).0)

modules_one : (j k : Bool) (m n : List ℕ) → Off 67 70 j m → Off 67 70 k n → (if j then m else behind 67 m) ≡ (if k then n else behind 67 n) → m ≡ n
modules_one true true m n om on e = e
modules_one true false m n om on e = not_behind 67 n m e (om refl).0
modules_one false true m n om on e = not_behind 67 m n (sym e) (on refl).0
modules_one false false m n om on e = cc

functors_one : (m n : List ℕ) → behind 70 m ≡ behind 70 n → m ≡ n
functors_one m n e = cc

-- ---- one name for each spelling

pub one_name : (k : NameKind) (m n : List ℕ) → may_name k m ≡ true → may_name k n ≡ true → mangled k m ≡ mangled k n → m ≡ n
one_name Value m n p q e = one_source 115 118 (λ z. omega (arith, z)) (keeps_low m) (keeps_low n) m n (mangled Value m) (mangled Value n) (low_off m) (low_off n) e (spelt 115 118 (keeps_low m) m p) (spelt 115 118 (keeps_low n) n q)
one_name TypeName m n p q e = one_source 115 118 (λ z. omega (arith, z)) (keeps_type m) (keeps_type n) m n (mangled TypeName m) (mangled TypeName n) (type_off m) (type_off n) e (spelt 115 118 (keeps_type m) m p) (spelt 115 118 (keeps_type n) n q)
one_name Constructor m n p q e = constructors_one m n (value_at m fixed_rows) (value_at n fixed_rows) refl refl p q e
one_name Module m n p q e = modules_one (keeps_module m) (keeps_module n) m n (module_off m) (module_off n) e
one_name Functor m n p q e = functors_one m n e

-- ---- lawful names

every_append : (p : ℕ → Bool) (s t : List ℕ) → every p s ≡ true → every p t ≡ true → every p (s ++ t) ≡ true
every_append p [] t a b = b
every_append p (c ∷ s) t a b = let h = and_true (p c) (every p s) a in and_of (p c) (every p (s ++ t)) h.0 (every_append p s t h.1 b)

small_part : (c : ℕ) → is_small c ≡ true → is_part c ≡ true
small_part c e = letter_part c (or_left (is_small c) (is_capital c) e)

words_parts : (n : List ℕ) → every is_symbol n ≡ true → every is_part (words_of n) ≡ true
words_parts [] e = refl
words_parts (c ∷ s) e = let h = and_true (is_symbol c) (every is_symbol s) e in every_append is_part (word_of c) (words_of s) (every_more is_small is_part small_part (word_of c) (small_word c h.0)) (words_parts s h.1)

alpha_parts : (n : List ℕ) → is_alphanumeric n ≡ true → every is_part n ≡ true
alpha_parts [] e = absurd cc
alpha_parts (c ∷ s) e = let h = and_true (is_letter c) (every is_part s) e in and_of (is_part c) (every is_part s) (letter_part c h.0) h.1

headed : (p : ℕ → Bool) (n : List ℕ) → heads p n ≡ true → is_alphanumeric n ≡ true → shaped p is_part n ≡ true
headed p [] a e = absurd cc
headed p (c ∷ s) a e = and_of (p c) (every is_part s) a (and_true (is_letter c) (every is_part s) e).1

words_prefixed : (a : ℕ) (n : List ℕ) → is_symbolic n ≡ true → prefixed a (a ∷ words_of n) ≡ true
words_prefixed a [] e = absurd cc
words_prefixed a (c ∷ s) e = and_of (nat_eq a a) true (self a) refl

-- no word of OCaml begins with such a letter and `_`, nor with a capital
no_word : (p : List ℕ → Bool) (r : List ℕ) → keys_pass (λ k. not (p k)) oc_rows ≡ true → p r ≡ true → not (is_word r) ≡ true
no_word p r keys e = not_of (is_word r) (not_found (λ k. not (p k)) oc_rows r keys (ap not e))

low_lawful : (k : Bool) (n r : List ℕ) → (k ≡ true → keeps_low n ≡ true) → Spelt 115 118 k n r → is_low r ≡ true
low_lawful k n r kept (ByWords p f) = subst (λ (z : List ℕ). is_low z ≡ true) (sym f) (and_of (every is_part (words_of n)) (not (is_word (115 ∷ words_of n))) (words_parts n (all_symbols n p)) (no_word (prefixed 115) (115 ∷ words_of n) refl (words_prefixed 115 n p)))
low_lawful k n r kept (Kept q x g) =
    let a = and_true (heads is_small n) (not (is_listed oc_rows n) && (not (prefixed 118 n) && (not (prefixed 115 n) && not (prefixed 122 n)))) (kept x) in
    let b = and_true (not (is_listed oc_rows n)) (not (prefixed 118 n) && (not (prefixed 115 n) && not (prefixed 122 n))) a.1 in
    subst (λ (z : List ℕ). is_low z ≡ true) (sym g) (and_of (shaped is_small is_part n) (not (is_word n)) (headed is_small n a.0 q) b.0)
low_lawful k n r kept (Behind q g) = subst (λ (z : List ℕ). is_low z ≡ true) (sym g) (and_of (every is_part (95 ∷ n)) (not (is_word (118 ∷ 95 ∷ n))) (alpha_parts n q) (no_word (prefixed 118) (118 ∷ 95 ∷ n) refl refl))

-- a name with a capital first is no word
cap_is : (r : List ℕ) → shaped is_capital is_part r ≡ true → is_cap r ≡ true
cap_is [] e = absurd cc
cap_is (c ∷ s) e = and_of (shaped is_capital is_part (c ∷ s)) (not (is_word (c ∷ s))) e (no_word (heads is_capital) (c ∷ s) refl (and_true (is_capital c) (every is_part s) e).0)

cap_lawful : (n r : List ℕ) → Spelt 83 67 (keeps_cap n) n r → is_cap r ≡ true
cap_lawful n r (ByWords p f) = subst (λ (z : List ℕ). is_cap z ≡ true) (sym f) (cap_is (83 ∷ words_of n) (words_parts n (all_symbols n p)))
cap_lawful n r (Kept q x g) = subst (λ (z : List ℕ). is_cap z ≡ true) (sym g) (cap_is n (headed is_capital n (and_true (heads is_capital n) (not (prefixed 67 n) && (not (prefixed 83 n) && not (prefixed 90 n))) x).0 q))
cap_lawful n r (Behind q g) = subst (λ (z : List ℕ). is_cap z ≡ true) (sym g) (cap_is (67 ∷ 95 ∷ n) (alpha_parts n q))

abbrev fixed_spellings : List (List ℕ)
fixed_spellings = codes "true" ∷ codes "false" ∷ codes "[]" ∷ codes "::" ∷ codes "ref" ∷ []

fixed_lawful : (k : ℕ) → is_any fixed_spellings (fixed_of k) ≡ true
fixed_lawful k = go (nat_eq k 0) (nat_eq k 1) (nat_eq k 2) (nat_eq k 3)
  where
    go : (a b c d : Bool) → is_any fixed_spellings (if a then codes "::" else (if b then codes "false" else (if c then codes "[]" else (if d then codes "ref" else codes "true")))) ≡ true
    go true b c d = refl
    go false true c d = refl
    go false false true d = refl
    go false false false true = refl
    go false false false false = refl

constructor_lawful : (n : List ℕ) (x : Option ℕ) → may_name Constructor n ≡ true → lawful Constructor (constructor_by x n) ≡ true
constructor_lawful n None e = or_left (is_cap (constructor_by None n)) (is_any fixed_spellings (constructor_by None n)) (cap_lawful n (constructor_by None n) (spelt 83 67 (keeps_cap n) n e))
constructor_lawful n (Some k) e = or_right (is_cap (fixed_of k)) (is_any fixed_spellings (fixed_of k)) (fixed_lawful k)

module_lawful : (k : Bool) (n : List ℕ) → (k ≡ true → keeps_cap n ≡ true) → is_alphanumeric n ≡ true → is_cap (if k then n else behind 67 n) ≡ true
module_lawful true n f e = cap_is n (headed is_capital n (and_true (heads is_capital n) (not (prefixed 67 n) && (not (prefixed 83 n) && not (prefixed 90 n))) (f refl)).0 e)
module_lawful false n f e = cap_is (67 ∷ 95 ∷ n) (alpha_parts n e)

pub is_lawful : (k : NameKind) (n : List ℕ) → may_name k n ≡ true → lawful k (mangled k n) ≡ true
is_lawful Value n e = low_lawful (keeps_low n) n (mangled Value n) (λ x. x) (spelt 115 118 (keeps_low n) n e)
is_lawful TypeName n e = low_lawful (keeps_type n) n (mangled TypeName n) (λ x. (and_true (keeps_low n) (not (is_listed base_rows n)) x).0) (spelt 115 118 (keeps_type n) n e)
is_lawful Constructor n e = constructor_lawful n (value_at n fixed_rows) e
is_lawful Module n e = module_lawful (keeps_module n) n (λ x. (and_true (keeps_cap n) (not (is_listed own_rows n) && (not (prefixed 70 n) && not (is_unit_like n))) x).0) e
is_lawful Functor n e = cap_is (70 ∷ 95 ∷ n) (alpha_parts n e)
