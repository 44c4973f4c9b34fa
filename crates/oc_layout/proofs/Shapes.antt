-- Words, marks, names and paths, each with the tokens that it adds.
use Rattle.std.proofs.Common.{◌≡◌, ℕ, ◌^◌, ◌<◌, Bool, true, false, not, ◌&&◌, ◌||◌, List, [], ◌∷◌, ◌++◌, refl, sym, subst, arith}
use Rattle.std.specs.Prelude.{nat_eq, if◌then◌else◌, codes, ℤ, pos, negsuc, decimal}
use Rattle.std.proofs.lemmas.Bool.{eqb-true}
use Rattle.oc_ast.specs.declared.literal.OcLit.{OcLit}
use Rattle.oc_ast.specs.declared.literal.OcLit.TheVariants.{Int, Char, Text}
use Rattle.oc_ast.specs.Plain.{Bytes, Long}
use Rattle.oc_rules.specs.Bytes.{is_small, is_capital, is_letter, is_digit, is_word_byte, is_part, every, heads, shaped, is_any, is_only, is_bang}
use Rattle.oc_rules.specs.Token.{Name, Tyvar, Sign, Lit, signs, is_name, is_tyvar, is_number}
use Rattle.oc_rules.specs.Tokens.{Tokens}
use Rattle.oc_rules.specs.Tokens as tokens
use Rattle.oc_rules.specs.Allowed.{is_word, is_low, is_cap, ends_in, is_module, is_type, is_value, is_constructor, operators, Literal, InRange}
use Rattle.oc_rules.proofs.Tests.{both_ways, and_true, and_of, not_true, any_is, same_is, small_letter, unequal, between_is}
use Rattle.oc_layout.specs.Sheet.{Sheet, opens, noted, literal, integer}
use Rattle.oc_layout.specs.Layout.{Ink, ◌▸◌, none, dot}
use Rattle.oc_layout.specs.Layout as layout
use Rattle.oc_layout.proofs.Spelled.{decimal_is}
use Rattle.oc_layout.proofs.Ready.{Fresh, Ready, Closed, Named, Does, seq, cc_of, nothing, after, begins, lines_up, opening, name_begins, named_closed, dotted, soft, name_soft}

-- one phrase after another
infixr 60 ◌⊳◌
pub ◌⊳◌ : {P Q T : Sheet → Tokens → Type 0} {p q : Ink} {xs ys : Tokens} → Does P Q p xs → Does Q T q ys → Does P T (p ▸ q) (xs ++ ys)
f ⊳ g = seq f g

-- a word, first and behind something
pub word : (n : Bytes) → is_name n ≡ true → Does Ready Closed (layout.name n) (tokens.name n)
word n good = begins (Name n) good refl (name_soft n good)

pub then_word : (n : Bytes) → is_name n ≡ true → Does Closed Closed (layout.name n) (tokens.name n)
then_word n good = after (Name n) good refl

pub then_mark : (m : List ℕ) → is_any signs m ≡ true → opens (Sign m) ≡ false → Does Closed Closed (layout.mark m) (tokens.mark m)
then_mark m good o = after (Sign m) good o

pub soft_mark : (m : List ℕ) → is_any signs m ≡ true → opens (Sign m) ≡ false → soft m ≡ true → Does Ready Closed (layout.mark m) (tokens.mark m)
soft_mark m good o s = begins (Sign m) good o s

pub bar : Does Fresh Closed (layout.mark (codes "|")) (tokens.mark (codes "|"))
bar = lines_up (Sign (codes "|")) refl refl

pub open_round : Does Ready Ready (layout.mark (codes "(")) (tokens.mark (codes "("))
open_round = opening (codes "(") refl refl refl refl

pub then_open : Does Closed Ready (layout.mark (codes "(")) (tokens.mark (codes "("))
then_open = cc_of open_round

pub close_round : Does Ready Closed (layout.mark (codes ")")) (tokens.mark (codes ")"))
close_round = soft_mark (codes ")") refl refl refl

pub then_close : Does Closed Closed (layout.mark (codes ")")) (tokens.mark (codes ")"))
then_close = cc_of close_round

-- ---- names

shaped_more : (p q r : ℕ → Bool) → ((c : ℕ) → p c ≡ true → q c ≡ true) → (s : List ℕ) → shaped p r s ≡ true → shaped q r s ≡ true
shaped_more p q r f [] e = absurd cc
shaped_more p q r f (c ∷ s) e = let h = and_true (p c) (every r s) e in and_of (q c) (every r s) (f c h.0) h.1

capital_letter : (c : ℕ) → is_capital c ≡ true → is_letter c ≡ true
capital_letter c e = go (is_small c)
  where
    go : (b : Bool) → (b || is_capital c) ≡ true
    go true = refl
    go false = e

pub low_name : (n : Bytes) → is_low n ≡ true → is_name n ≡ true
low_name n e = shaped_more is_small is_letter is_part small_letter n (and_true (shaped is_small is_part n) (not (is_word n)) e).0

pub cap_name : (n : Bytes) → is_cap n ≡ true → is_name n ≡ true
cap_name n e = shaped_more is_capital is_letter is_part capital_letter n (and_true (shaped is_capital is_part n) (not (is_word n)) e).0

pub low_does : (n : Bytes) → is_low n ≡ true → Does Ready Closed (layout.name n) (tokens.name n)
low_does n e = word n (low_name n e)

pub cap_does : (n : Bytes) → is_cap n ≡ true → Does Ready Closed (layout.name n) (tokens.name n)
cap_does n e = word n (cap_name n e)

tyvar_soft : (v : Bytes) → is_tyvar v ≡ true → soft v ≡ true
tyvar_soft [] e = absurd cc
tyvar_soft (c ∷ s) e = rw (eqb-true c 39 (and_true (nat_eq c 39) (shaped is_small is_word_byte s) e).0) refl

pub tyvar_does : (v : Bytes) → is_tyvar v ≡ true → Does Ready Closed (layout.tyvar v) (Tyvar v ∷ [])
tyvar_does v e = begins (Tyvar v) e refl (tyvar_soft v e)

digit_soft : (s : List ℕ) → is_number s ≡ true → soft s ≡ true
digit_soft [] e = absurd cc
digit_soft (c ∷ s) e =
    let h = between_is 48 57 c (and_true (is_digit c) (every is_digit s) e).0 in
    let low = h.0 in
    let high = h.1 in
    let a = unequal c 62 (λ e. omega (arith, e, high)) in
    let b = unequal c 61 (λ e. omega (arith, e, high)) in
    let d = unequal c 58 (λ e. omega (arith, e, high)) in
    let f = unequal c 124 (λ e. omega (arith, e, high)) in
    let g = unequal c 38 (λ e. omega (arith, e, low)) in
    let i = unequal c 45 (λ e. omega (arith, e, low)) in
    rw a (rw b (rw d (rw f (rw g (rw i refl)))))

int_soft : (z : ℤ) → InRange z → soft (integer z) ≡ true
int_soft (pos n) h = let small : n < 2 ^ 64 = omega (arith, h) in digit_soft (decimal n) (decimal_is n small)
int_soft (negsuc n) h = refl

lit_soft : (l : OcLit) → Literal l → soft (literal l) ≡ true
lit_soft (Int z) h = int_soft z h
lit_soft (Char c) h = refl
lit_soft (Text s) h = refl

pub lit_does : (l : OcLit) → Literal l → Does Ready Closed (noted (Lit l)) (Lit l ∷ [])
lit_does l h = begins (Lit l) h refl (lit_soft l h)

-- ---- paths

abbrev pub all_names : Long → Bool
all_names [] = true
all_names (n ∷ q) = is_name n && all_names q

abbrev pub named : Long → Bool
named [] = false
named (n ∷ q) = all_names (n ∷ q)

more_path_does : (q : Long) → all_names q ≡ true → Does Named Named (layout.more_path q) (tokens.more_path q)
more_path_does [] e = nothing
more_path_does (n ∷ q) e = let h = and_true (is_name n) (all_names q) e in seq (dotted n h.0) (more_path_does q h.1)

pub path_does : (q : Long) → named q ≡ true → Does Ready Closed (layout.path q) (tokens.path q)
path_does [] e = absurd cc
path_does (n ∷ q) e = let h = and_true (is_name n) (all_names q) e in named_closed (seq (name_begins n h.0) (more_path_does q h.1))

ends_named : (last : Bytes → Bool) → ((n : Bytes) → last n ≡ true → is_name n ≡ true) → (q : Long) → ends_in last q ≡ true → named q ≡ true
ends_named last f [] e = absurd cc
ends_named last f (n ∷ []) e = and_of (is_name n) true (f n e) refl
ends_named last f (n ∷ m ∷ q) e = let h = and_true (is_cap n) (ends_in last (m ∷ q)) e in and_of (is_name n) (all_names (m ∷ q)) (cap_name n h.0) (ends_named last f (m ∷ q) h.1)

only_named : (w : Bytes) (q : Long) → is_name w ≡ true → is_only w q ≡ true → named q ≡ true
only_named w [] g e = absurd cc
only_named w (n ∷ []) g e = and_of (is_name n) true (subst (λ (z : Bytes). is_name z ≡ true) (sym (same_is n w e)) g) refl
only_named w (n ∷ m ∷ q) g e = absurd cc

pub type_path : (q : Long) → is_type q ≡ true → Does Ready Closed (layout.path q) (tokens.path q)
type_path q e = path_does q (ends_named is_low low_name q e)

pub module_path : (q : Long) → is_module q ≡ true → Does Ready Closed (layout.path q) (tokens.path q)
module_path q e = path_does q (ends_named is_cap cap_name q e)

either : {A : Type 0} (a b : Bool) → (a || b) ≡ true → (a ≡ true → A) → (b ≡ true → A) → A
either true b e f g = f refl
either false b e f g = g e

constructor_named : (q : Long) → is_constructor q ≡ true → named q ≡ true
constructor_named q e =
    either (ends_in is_cap q) (is_only (codes "true") q || is_only (codes "false") q) e (ends_named is_cap cap_name q)
    (λ k. either (is_only (codes "true") q) (is_only (codes "false") q) k (only_named (codes "true") q refl) (only_named (codes "false") q refl))

pub constructor_path : (q : Long) → is_constructor q ≡ true → Does Ready Closed (layout.path q) (tokens.path q)
constructor_path q e = path_does q (constructor_named q e)

value_by : (b : Bool) (q : Long) → (b ≡ false → named q ≡ true) → Does Ready Closed (if b then layout.mark (codes "(") ▸ layout.mark (codes "!") ▸ layout.mark (codes ")") else layout.path q) (if b then tokens.open_round ++ (tokens.mark (codes "!") ++ tokens.close_round) else tokens.path q)
value_by true q f = open_round ⊳ soft_mark (codes "!") refl refl refl ⊳ then_close
value_by false q f = path_does q (f refl)

pub value_path : (q : Long) → is_value q ≡ true → Does Ready Closed (layout.value q) (tokens.value q)
value_path q e = value_by (is_bang q) q (λ k. either (ends_in is_low q) (is_bang q) e (ends_named is_low low_name q) (λ b. both_ways (is_bang q) b k))

-- ---- operators

operator_by : (b : Bool) (o : Bytes) → (if b then is_name o else (is_any signs o && not (opens (Sign o)))) ≡ true → Does Closed Closed (if b then layout.name o else layout.mark o) (if b then tokens.name o else tokens.mark o)
operator_by true o e = then_word o e
operator_by false o e = let h = and_true (is_any signs o) (not (opens (Sign o))) e in then_mark o h.0 (not_true (opens (Sign o)) h.1)

pub operator_does : (o : Bytes) → is_any operators o ≡ true → Does Closed Closed (layout.operator o) (tokens.operator o)
operator_does o e = operator_by (heads is_letter o) o (any_is (λ o. (if heads is_letter o then is_name o else (is_any signs o && not (opens (Sign o))))) operators o refl e)
