-- The trees that are written are ones that the grammar and its rules allow.
use Rattle.std.proofs.Common.{◌≡◌, ℕ, zero, suc, ◌+◌, ◌^◌, ◌/◌, ◌%◌, ◌<◌, ◌≤◌, Bool, true, false, not, cond, eqb, leb, ◌&&◌, ◌||◌, List, [], ◌∷◌, ◌++◌, map, Some, refl, ap, sym, subst, ◌∙◌, arith}
use Rattle.std.specs.Prelude.{pos, negsuc, is_some, nat_eq}
use Rattle.std.specs.Char.{is_ascii_alphanumeric}
use Rattle.std.specs.Int.{is_in_range}
use Rattle.std.specs.Fmt.{decimal, digits, digits_onto, digit_glyph}
use Rattle.std.specs.Str.{bytes_eq}
use Rattle.std.proofs.lemmas.Slice.Eq.{bytes_eq-Decides}
use Rattle.std.proofs.lemmas.Bool.{lt-ltb, le-leb, ltb-true}
use Rattle.tl_cases.specs.Rows.{value_at}
use Rattle.tl_cases.specs.Words.{oc_rows}
use Rattle.tl_text.specs.declared.lit.Lit.{Lit}
use Rattle.tl_text.specs.declared.lit.Lit.TheVariants as lit
use Rattle.oc_names.specs.declared.names.NameKind.TheVariants as kind
use Rattle.oc_names.proofs.Spellings.{is_lawful}
use Rattle.built_items.specs.declared.item.SourceItem.{SourceItem}
use Rattle.built_items.specs.declared.item.Target.{Target}
use Rattle.built_items.specs.declared.item.Target.TheVariants as target
use Rattle.built_items.specs.declared.item.Value.{Value}
use Rattle.built_items.specs.declared.item.Value.TheVariants as value
use Rattle.built_items.specs.Built.{is_literal}
use Rattle.oc_rules.specs.Bytes.{is_small, is_capital, is_part, every, heads, shaped}
use Rattle.oc_rules.specs.Allowed as allowed
use Rattle.oc_rules.specs.Allowed.{is_word, is_low, is_cap, Allowed}
use Rattle.oc_rules.proofs.Tests.{both_ways, and_true, and_of, not_of, digit_part}
use Rattle.tl_session.specs.Written.{base_of, before_dot, after_slash, plain_byte, unit_name, literal_of, target_tree, value_tree, items_tree, unit_tree, rt_tree}
use Rattle.tl_session.specs.LawfulItems.{LawfulTarget, LawfulValue, LawfulItems}
use Rattle.tl_session.proofs.BuiltItems.{may_be_named}

-- ---- words: what holds of each word holds of a name that is one

abbrev keys_pass : (List ℕ → Bool) → List (List ℕ × ℕ) → Bool
keys_pass p [] = true
keys_pass p (r ∷ rs) = p r.0 && keys_pass p rs

found_is : (p : List ℕ → Bool) (rows : List (List ℕ × ℕ)) (n : List ℕ) → keys_pass p rows ≡ true → is_some (value_at n rows) ≡ true → p n ≡ true
found_is p [] n e f = absurd cc
found_is p (r ∷ rs) n e f = go (λ x. found_is p rs n (and_true (p r.0) (keys_pass p rs) e).1 x) (bytes_eq r.0 n) refl
  where
    go : (is_some (value_at n rs) ≡ true → p n ≡ true) → (b : Bool) → bytes_eq r.0 n ≡ b → p n ≡ true
    go later true y = subst (λ (z : List ℕ). p z ≡ true) ((bytes_eq-Decides r.0 n).0 y) (and_true (p r.0) (keys_pass p rs) e).0
    go later false y = later (sym (ap (λ (b : Bool). is_some (cond b (Some r.1) (value_at n rs))) y) ∙ f)

-- a name that fails a test of all words is none
no_word : (p : List ℕ → Bool) (n : List ℕ) → keys_pass p oc_rows ≡ true → p n ≡ false → is_word n ≡ false
no_word p n e f = go (is_some (value_at n oc_rows)) refl
  where
    go : (b : Bool) → is_some (value_at n oc_rows) ≡ b → b ≡ false
    go true y = both_ways (p n) (found_is p oc_rows n e y) f
    go false y = refl

-- ---- names

parts_append : (xs ys : List ℕ) → every is_part xs ≡ true → every is_part ys ≡ true → every is_part (xs ++ ys) ≡ true
parts_append [] ys h k = k
parts_append (x ∷ xs) ys h k =
    let p = and_true (is_part x) (every is_part xs) h in
    and_of (is_part x) (every is_part (xs ++ ys)) p.0 (parts_append xs ys p.1 k)

glyph_part : (d : ℕ) → d < 10 → is_part (digit_glyph false d) ≡ true
glyph_part d h =
    let e : digit_glyph false d ≡ 48 + d = ap (λ t. cond t (48 + d) (87 + d)) (lt-ltb d 10 h) in
    let low : 48 ≤ 48 + d = omega arith in
    let high : 48 + d ≤ 57 = omega arith in
    subst (λ (z : ℕ). is_part z ≡ true) (sym e) (digit_part (48 + d) (and_of (leb 48 (48 + d)) (leb (48 + d) 57) (le-leb 48 (48 + d) low) (le-leb (48 + d) 57 high)))

digits_onto_parts : (k n : ℕ) (acc : List ℕ) → every is_part acc ≡ true → every is_part (digits_onto k 10 false n acc) ≡ true
digits_onto_parts zero n acc h = h
digits_onto_parts (suc k) n acc h = by (digits_onto_parts k (n / 10)) (eqb (n / 10) 0)
  where
    more : every is_part (digit_glyph false (n % 10) ∷ acc) ≡ true
    more = and_of (is_part (digit_glyph false (n % 10))) (every is_part acc) (glyph_part (n % 10) (omega arith)) h

    by : ((acc : List ℕ) → every is_part acc ≡ true → every is_part (digits_onto k 10 false (n / 10) acc) ≡ true) → (t : Bool)
        → every is_part (cond t (digit_glyph false (n % 10) ∷ acc) (digits_onto k 10 false (n / 10) (digit_glyph false (n % 10) ∷ acc))) ≡ true
    by rest true = more
    by rest false = rest (digit_glyph false (n % 10) ∷ acc) more

decimal_parts : (n : ℕ) → every is_part (decimal n) ≡ true
unfolding digits
decimal_parts n = digits_onto_parts 64 n [] refl

-- one of three tests, and a part of a name in some order of the tests
one_of : (d c s u q : Bool) → ((d || c) || s) ≡ true → (((s || c) || (d || u)) || q) ≡ true
one_of true true true u q e = refl
one_of true true false u q e = refl
one_of true false true u q e = refl
one_of true false false u q e = refl
one_of false true true u q e = refl
one_of false true false u q e = refl
one_of false false true u q e = refl
one_of false false false u q e = absurd cc

plain_part : (b : ℕ) → is_part (plain_byte b) ≡ true
plain_part b = by (is_ascii_alphanumeric b) refl
  where
    by : (t : Bool) → is_ascii_alphanumeric b ≡ t → is_part (cond t b 95) ≡ true
    by true e = one_of (is_in_range 48 57 b) (is_in_range 65 90 b) (is_in_range 97 122 b) (nat_eq b 95) (nat_eq b 39) e
    by false e = refl

plains_part : (xs : List ℕ) → every is_part (map plain_byte xs) ≡ true
plains_part [] = refl
plains_part (x ∷ xs) = and_of (is_part (plain_byte x)) (every is_part (map plain_byte xs)) (plain_part x) (plains_part xs)

unit_cap : (k : ℕ) (name : List ℕ) → is_cap (unit_name k (base_of name)) ≡ true
unit_cap k name =
    let n : List ℕ = unit_name k (base_of name) in
    and_of (shaped is_capital is_part n) (not (is_word n))
    (parts_append (decimal k) (95 ∷ base_of name) (decimal_parts k) (plains_part (before_dot (after_slash name))))
    (not_of (is_word n) (no_word (heads is_small) n refl refl))

-- ---- literals

literal_allowed : (l : Lit) → is_literal l ≡ true → allowed.Literal (literal_of l)
literal_allowed (lit.Int (pos n)) h = ltb-true n (2 ^ 62) h
literal_allowed (lit.Int (negsuc n)) h = ltb-true n (2 ^ 62) h
literal_allowed (lit.Word n) h = let low : n < 2 ^ 32 = ltb-true n (2 ^ 32) h in omega (arith, low)
literal_allowed (lit.Char c) h = ltb-true c 256 h
literal_allowed (lit.Text t) h = h

-- ---- items

target_allowed : (t : Target) → LawfulTarget t → allowed.Pat (target_tree t)
target_allowed target.Wild h = tt
target_allowed (target.Var x) h = is_lawful kind.Value x (may_be_named x h)

value_allowed : (v : Value) → LawfulValue v → allowed.Simple (value_tree v)
value_allowed (value.Literal l) h = literal_allowed l h
value_allowed (value.Printed s) h = (refl, tt, h)

items_allowed : (items : List SourceItem) → LawfulItems items → allowed.EachItem (items_tree items)
items_allowed [] h = tt
items_allowed (i ∷ items) h = ((target_allowed i.target h.0.0, value_allowed i.value h.0.1), items_allowed items h.1)

-- the unit of a program
pub unit_allowed : (k : ℕ) (name : List ℕ) (items : List SourceItem) → LawfulItems items → Allowed (unit_tree k (base_of name) items)
unit_allowed k name items h = ((unit_cap k name, items_allowed items h), tt)

pub rt_allowed : Allowed rt_tree
rt_allowed = ((refl, (((refl, refl, (tt, refl)), tt), ((refl, (refl, (refl, tt, refl))), tt))), tt)
