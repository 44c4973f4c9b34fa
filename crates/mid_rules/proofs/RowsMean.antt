-- What the rows of primitives do, called on values.
use Rattle.std.proofs.Common.{◌≡◌, ℕ, suc, ◌-◌, ◌^◌, ◌%◌, ◌<◌, ◌≤◌, List, length, Some, None, Bool, true, false, if◌then◌else◌, refl, ap, ◌∙◌, subst, arith}
use Rattle.std.specs.Prelude.{ℤ, pos, negsuc, ◌+ℤ◌, ◌-ℤ◌, ◌≤ℤ◌, int_lt, not, nat_lt, slice_get}
use Rattle.std.proofs.lemmas.Bool.{lt-ltb, le-ltb}
use Rattle.std.proofs.lemmas.Int.{ints}
use Rattle.std.proofs.lemmas.Grind.{common_steps}
use Rattle.mid_rules.specs.Basis.{greatest, is_below, least, left, overflow_exn, raised, right, zero_exp}
use Rattle.mid_rules.specs.Names.{left_name, right_name}
use Rattle.mid_rules.specs.Mid.{IsInt, a_char, a_string, an_int, called, pair}
use Rattle.runs.specs.Env.{Env, empty, over, put}
use Rattle.runs.specs.Forms.{choice, infix_of}
use Rattle.runs.specs.Ints.{of_bits, wrap}
use Rattle.runs.specs.Meaning.{Done, Go, Raised, Res, ev, ev_rules, fallen, mean, perform, then_do}
use Rattle.runs.specs.Patterns.{same_int}
use Rattle.runs.specs.Primitives.{St, false_part, gives, int_of, less_text, true_part, truth, unit, with_value, written}
use Rattle.runs.specs.Tree.{Arith, Exp, Loc, Minus, PCon, PNil, Plus, Rule, Rules, Stop, Stuck, Val}

pub print_writes : (t : List ℕ) (s : St) (n : ℕ) → called 35 None (a_string t) s n ≡ Done unit (written t s)
print_writes t s n = refl

pub ignore_ignores : (v : Val) (s : St) (n : ℕ) → called 31 None v s n ≡ Done unit s
ignore_ignores v s n = refl

pub before_is_first : (v w : Val) (s : St) (n : ℕ) → called 32 None (pair v w) s n ≡ Done v s
before_is_first v w s n = refl

pub not_negates : (b : Bool) (s : St) (n : ℕ) → called 30 None (truth b) s n ≡ Done (truth (not b)) s
not_negates true s n = refl
not_negates false s n = refl

pub assign_puts : (l : ℕ) (v : Val) (s : St) (n : ℕ) → called 34 None (pair (Loc l) v) s n ≡ Done unit (with_value l v s)
assign_puts l v s n = refl

pub content_is_read : (l : ℕ) (v : Val) (s : St) (n : ℕ) → slice_get s.mem l ≡ Some v → called 33 None (Loc l) s n ≡ Done v s
content_is_read l v s n e = ap (λ w. perform (mean (suc n)) (gives w s) s) e

length_is : (b : Bool) (i : ℤ) → b ≡ true → int_of (if b then Some i else None) ≡ Some (an_int i)
length_is true i e = refl
length_is false i e = absurd (cc e)

pub size_is_length : (t : List ℕ) (s : St) (n : ℕ) → length t < 2 ^ 62 → called 37 None (a_string t) s n ≡ Done (an_int (pos (length t))) s
size_is_length t s n h = ap (λ w. perform (mean (suc n)) (gives w s) s) (length_is (nat_lt (length t) (2 ^ 62)) (pos (length t)) (lt-ltb (length t) (2 ^ 62) h))

-- ---- comparisons

pub ints_compare : (a b : ℤ) (s : St) (n : ℕ) → (called 14 None (pair (an_int a) (an_int b)) s n ≡ Done (truth (int_lt a b)) s) × (called 18 None (pair (an_int a) (an_int b)) s n ≡ Done (truth (not (int_lt b a))) s) × (called 22 None (pair (an_int a) (an_int b)) s n ≡ Done (truth (int_lt b a)) s) × (called 26 None (pair (an_int a) (an_int b)) s n ≡ Done (truth (not (int_lt a b))) s)
ints_compare a b s n = (refl, refl, refl, refl)

pub chars_compare : (a b : ℕ) (s : St) (n : ℕ) → (called 16 None (pair (a_char a) (a_char b)) s n ≡ Done (truth (nat_lt a b)) s) × (called 20 None (pair (a_char a) (a_char b)) s n ≡ Done (truth (not (nat_lt b a))) s) × (called 24 None (pair (a_char a) (a_char b)) s n ≡ Done (truth (nat_lt b a)) s) × (called 28 None (pair (a_char a) (a_char b)) s n ≡ Done (truth (not (nat_lt a b))) s)
chars_compare a b s n = (refl, refl, refl, refl)

pub strings_compare : (a b : List ℕ) (s : St) (n : ℕ) → (called 17 None (pair (a_string a) (a_string b)) s n ≡ Done (truth (less_text a b)) s) × (called 21 None (pair (a_string a) (a_string b)) s n ≡ Done (truth (not (less_text b a))) s) × (called 25 None (pair (a_string a) (a_string b)) s n ≡ Done (truth (less_text b a)) s) × (called 29 None (pair (a_string a) (a_string b)) s n ≡ Done (truth (not (less_text a b))) s)
strings_compare a b s n = (refl, refl, refl, refl)

pub ints_equal : (a b : ℤ) (s : St) (n : ℕ) → called 0 (Some 0) (pair (an_int a) (an_int b)) s n ≡ Done (truth (same_int a b)) s
ints_equal a b s n = refl

-- ---- sums

small_mod : (n : ℕ) → n < 2 ^ 63 → n % 2 ^ 63 ≡ n
small_mod n h = grind (arith, common_steps)

of_small : (b : Bool) (p q : ℤ) → b ≡ true → (if b then p else q) ≡ p
of_small true p q e = refl
of_small false p q e = absurd (cc e)

of_large : (b : Bool) (p q : ℤ) → b ≡ false → (if b then p else q) ≡ q
of_large true p q e = absurd (cc e)
of_large false p q e = refl

wrap_pos : (n : ℕ) → n < 2 ^ 62 → wrap (pos n) ≡ pos n
wrap_pos n h =
    let l : n < 2 ^ 63 = omega (arith, h) in
    ap of_bits (small_mod n l) ∙ of_small (nat_lt n (2 ^ 62)) (pos n) (negsuc (2 ^ 63 - 1 - n)) (lt-ltb n (2 ^ 62) h)

wrap_neg : (n : ℕ) → n < 2 ^ 62 → wrap (negsuc n) ≡ negsuc n
wrap_neg n h =
    let l : n < 2 ^ 63 = omega (arith, h) in
    let m : ℕ = 2 ^ 63 - 1 - n in
    let k : 2 ^ 62 ≤ 2 ^ 63 - 1 - n = omega (arith, h) in
    let e : 2 ^ 63 - 1 - (2 ^ 63 - 1 - n) ≡ n = omega (arith, h) in
    ap (λ i. of_bits (2 ^ 63 - 1 - i)) (small_mod n l)
    ∙ (of_large (nat_lt (2 ^ 63 - 1 - n) (2 ^ 62)) (pos (2 ^ 63 - 1 - n)) (negsuc (2 ^ 63 - 1 - (2 ^ 63 - 1 - n))) (le-ltb (2 ^ 63 - 1 - n) (2 ^ 62) k) ∙ ap negsuc e)

pub wrap_in : (z : ℤ) → IsInt z → wrap z ≡ z
wrap_in (pos n) h = let l : n < 2 ^ 62 = omega (arith, ints, h.1) in wrap_pos n l
wrap_in (negsuc n) h = let l : n < 2 ^ 62 = omega (arith, ints, h.0) in wrap_neg n l

abbrev arms : Exp → Exp → Rules
arms t e = Rule (PCon true_part PNil) t (Rule (PCon false_part PNil) e Stop)

pub choice_by : (go : Go) (env : Env) (c t e : Exp) (s : St) (b : Bool) (r : Res Val) → ev go env c s ≡ Done (truth b) s → (b ≡ true → ev go env t s ≡ r) → (b ≡ false → ev go env e s ≡ r) → ev go env (choice c t e) s ≡ r
choice_by go env c t e s true r h f g = ap (λ q. then_do q (λ v s1. ev_rules go env (arms t e) (fallen Stuck s1) v s1)) h ∙ f refl
choice_by go env c t e s false r h f g = ap (λ q. then_do q (λ v s1. ev_rules go env (arms t e) (fallen Stuck s1) v s1)) h ∙ g refl

-- the two arguments
abbrev pub args : ℤ → ℤ → Env
args a b = over (over (put left_name (an_int a) empty) (over (put right_name (an_int b) empty) empty)) empty

abbrev sum : Exp
sum = infix_of (Arith Plus) left right

abbrev difference : Exp
difference = infix_of (Arith Minus) left right

sum_fits : (go : Go) (a b : ℤ) (s : St) → IsInt (a +ℤ b) → ev go (args a b) sum s ≡ Done (an_int (a +ℤ b)) s
sum_fits go a b s h = ap (λ z. Done (an_int z) s) (wrap_in (a +ℤ b) h)

difference_fits : (go : Go) (a b : ℤ) (s : St) → IsInt (a -ℤ b) → ev go (args a b) difference s ≡ Done (an_int (a -ℤ b)) s
difference_fits go a b s h = ap (λ z. Done (an_int z) s) (wrap_in (a -ℤ b) h)

-- where the test wraps nothing
abbrev M : ℕ
M = 4611686018427387903

least_less : (b : ℤ) → IsInt b → int_lt b (pos 0) ≡ true → IsInt (negsuc M -ℤ b)
least_less b h e = (grind (arith, ints, h.0, h.1), grind (arith, ints, h.0, h.1))

greatest_less : (b : ℤ) → IsInt b → int_lt b (pos 0) ≡ false → IsInt (pos M -ℤ b)
greatest_less b h e = (grind (arith, ints, h.0, h.1), grind (arith, ints, h.0, h.1))

greatest_more : (b : ℤ) → IsInt b → int_lt b (pos 0) ≡ true → IsInt (pos M +ℤ b)
greatest_more b h e = (grind (arith, ints, h.0, h.1), grind (arith, ints, h.0, h.1))

least_more : (b : ℤ) → IsInt b → int_lt b (pos 0) ≡ false → IsInt (negsuc M +ℤ b)
least_more b h e = (grind (arith, ints, h.0, h.1), grind (arith, ints, h.0, h.1))

-- what the tests tell
sum_low : (a b : ℤ) → int_lt a (negsuc M -ℤ b) ≡ true → negsuc M ≤ℤ (a +ℤ b) → ⊥
sum_low a b e h = grind (arith, ints)

sum_high : (a b : ℤ) → int_lt (pos M -ℤ b) a ≡ true → (a +ℤ b) ≤ℤ pos M → ⊥
sum_high a b e h = grind (arith, ints)

sum_down : (a b : ℤ) → IsInt a → int_lt b (pos 0) ≡ true → int_lt a (negsuc M -ℤ b) ≡ false → IsInt (a +ℤ b)
sum_down a b h n e = (grind (arith, ints, h.0, h.1), grind (arith, ints, h.0, h.1))

sum_up : (a b : ℤ) → IsInt a → int_lt b (pos 0) ≡ false → int_lt (pos M -ℤ b) a ≡ false → IsInt (a +ℤ b)
sum_up a b h n e = (grind (arith, ints, h.0, h.1), grind (arith, ints, h.0, h.1))

difference_high : (a b : ℤ) → int_lt (pos M +ℤ b) a ≡ true → (a -ℤ b) ≤ℤ pos M → ⊥
difference_high a b e h = grind (arith, ints)

difference_low : (a b : ℤ) → int_lt a (negsuc M +ℤ b) ≡ true → negsuc M ≤ℤ (a -ℤ b) → ⊥
difference_low a b e h = grind (arith, ints)

difference_up : (a b : ℤ) → IsInt a → int_lt b (pos 0) ≡ true → int_lt (pos M +ℤ b) a ≡ false → IsInt (a -ℤ b)
difference_up a b h n e = (grind (arith, ints, h.0, h.1), grind (arith, ints, h.0, h.1))

difference_down : (a b : ℤ) → IsInt a → int_lt b (pos 0) ≡ false → int_lt a (negsuc M +ℤ b) ≡ false → IsInt (a -ℤ b)
difference_down a b h n e = (grind (arith, ints, h.0, h.1), grind (arith, ints, h.0, h.1))

abbrev low_test : Exp
low_test = is_below left (infix_of (Arith Minus) least right)

abbrev high_test : Exp
high_test = is_below (infix_of (Arith Minus) greatest right) left

abbrev high_test_more : Exp
high_test_more = is_below (infix_of (Arith Plus) greatest right) left

abbrev low_test_more : Exp
low_test_more = is_below left (infix_of (Arith Plus) least right)

-- the tests compare with integers that are not wrapped
left_below : (a z : ℤ) (b : Bool) → wrap z ≡ z → int_lt a (wrap z) ≡ b → int_lt a z ≡ b
left_below a z b e h = subst (λ y. int_lt a y ≡ b) e h

right_below : (a z : ℤ) (b : Bool) → wrap z ≡ z → int_lt (wrap z) a ≡ b → int_lt z a ≡ b
right_below a z b e h = subst (λ y. int_lt y a ≡ b) e h

pub adds : (a b : ℤ) (s : St) (n : ℕ) → IsInt a → IsInt b → IsInt (a +ℤ b) → called 2 None (pair (an_int a) (an_int b)) s n ≡ Done (an_int (a +ℤ b)) s
adds a b s n ha hb h =
    choice_by (mean n) (args a b) (is_below right zero_exp) (choice low_test (raised overflow_exn) sum) (choice high_test (raised overflow_exn) sum) s (int_lt b (pos 0)) (Done (an_int (a +ℤ b)) s) refl
    (λ e. choice_by (mean n) (args a b) low_test (raised overflow_exn) sum s (int_lt a (wrap (negsuc M -ℤ b))) (Done (an_int (a +ℤ b)) s) refl
    (λ l. absurd (sum_low a b (left_below a (negsuc M -ℤ b) true (wrap_in (negsuc M -ℤ b) (least_less b hb e)) l) h.0)) (λ l. sum_fits (mean n) a b s h))
    (λ e. choice_by (mean n) (args a b) high_test (raised overflow_exn) sum s (int_lt (wrap (pos M -ℤ b)) a) (Done (an_int (a +ℤ b)) s) refl
    (λ l. absurd (sum_high a b (right_below a (pos M -ℤ b) true (wrap_in (pos M -ℤ b) (greatest_less b hb e)) l) h.1)) (λ l. sum_fits (mean n) a b s h))

pub adds_too_much : (a b : ℤ) (s : St) (n : ℕ) → IsInt a → IsInt b → (IsInt (a +ℤ b) → ⊥) → called 2 None (pair (an_int a) (an_int b)) s n ≡ Raised overflow_exn s
adds_too_much a b s n ha hb h =
    choice_by (mean n) (args a b) (is_below right zero_exp) (choice low_test (raised overflow_exn) sum) (choice high_test (raised overflow_exn) sum) s (int_lt b (pos 0)) (Raised overflow_exn s) refl
    (λ e. choice_by (mean n) (args a b) low_test (raised overflow_exn) sum s (int_lt a (wrap (negsuc M -ℤ b))) (Raised overflow_exn s) refl
    (λ l. refl) (λ l. absurd (h (sum_down a b ha e (left_below a (negsuc M -ℤ b) false (wrap_in (negsuc M -ℤ b) (least_less b hb e)) l)))))
    (λ e. choice_by (mean n) (args a b) high_test (raised overflow_exn) sum s (int_lt (wrap (pos M -ℤ b)) a) (Raised overflow_exn s) refl
    (λ l. refl) (λ l. absurd (h (sum_up a b ha e (right_below a (pos M -ℤ b) false (wrap_in (pos M -ℤ b) (greatest_less b hb e)) l)))))

pub subtracts : (a b : ℤ) (s : St) (n : ℕ) → IsInt a → IsInt b → IsInt (a -ℤ b) → called 4 None (pair (an_int a) (an_int b)) s n ≡ Done (an_int (a -ℤ b)) s
subtracts a b s n ha hb h =
    choice_by (mean n) (args a b) (is_below right zero_exp) (choice high_test_more (raised overflow_exn) difference) (choice low_test_more (raised overflow_exn) difference) s (int_lt b (pos 0)) (Done (an_int (a -ℤ b)) s) refl
    (λ e. choice_by (mean n) (args a b) high_test_more (raised overflow_exn) difference s (int_lt (wrap (pos M +ℤ b)) a) (Done (an_int (a -ℤ b)) s) refl
    (λ l. absurd (difference_high a b (right_below a (pos M +ℤ b) true (wrap_in (pos M +ℤ b) (greatest_more b hb e)) l) h.1)) (λ l. difference_fits (mean n) a b s h))
    (λ e. choice_by (mean n) (args a b) low_test_more (raised overflow_exn) difference s (int_lt a (wrap (negsuc M +ℤ b))) (Done (an_int (a -ℤ b)) s) refl
    (λ l. absurd (difference_low a b (left_below a (negsuc M +ℤ b) true (wrap_in (negsuc M +ℤ b) (least_more b hb e)) l) h.0)) (λ l. difference_fits (mean n) a b s h))

pub subtracts_too_much : (a b : ℤ) (s : St) (n : ℕ) → IsInt a → IsInt b → (IsInt (a -ℤ b) → ⊥) → called 4 None (pair (an_int a) (an_int b)) s n ≡ Raised overflow_exn s
subtracts_too_much a b s n ha hb h =
    choice_by (mean n) (args a b) (is_below right zero_exp) (choice high_test_more (raised overflow_exn) difference) (choice low_test_more (raised overflow_exn) difference) s (int_lt b (pos 0)) (Raised overflow_exn s) refl
    (λ e. choice_by (mean n) (args a b) high_test_more (raised overflow_exn) difference s (int_lt (wrap (pos M +ℤ b)) a) (Raised overflow_exn s) refl
    (λ l. refl) (λ l. absurd (h (difference_up a b ha e (right_below a (pos M +ℤ b) false (wrap_in (pos M +ℤ b) (greatest_more b hb e)) l)))))
    (λ e. choice_by (mean n) (args a b) low_test_more (raised overflow_exn) difference s (int_lt a (wrap (negsuc M +ℤ b))) (Raised overflow_exn s) refl
    (λ l. refl) (λ l. absurd (h (difference_down a b ha e (left_below a (negsuc M +ℤ b) false (wrap_in (negsuc M +ℤ b) (least_more b hb e)) l)))))
