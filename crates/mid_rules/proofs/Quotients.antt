-- The rows that divide and negate: how division rounds, and where a quotient or a negation is no int.
use Rattle.std.proofs.Common.{◌≡◌, ℕ, zero, suc, ◌/◌, ◌*◌, ◌<◌, ◌≤◌, Bool, true, false, None, inl, inr, refl, sym, ap, ◌∙◌, subst, arith, Some}
use Rattle.std.specs.Prelude.{ℤ, pos, negsuc, neg_ℤ, ◌+ℤ◌, ◌-ℤ◌, ◌*ℤ◌, ◌≤ℤ◌, ◌<ℤ◌, int_div, int_rem, int_lt, unsigned_abs}
use lib.IntN.{pred_ℤ, pred_ℤ-*ℤ, -ℤ-+ℤ_cancel}
use Rattle.std.proofs.lemmas.Bool.{eqb-true, eq-eqb}
use Rattle.std.proofs.lemmas.Int.{ints, quot-rem, rem_below}
use Rattle.std.proofs.Math.Dec.{eqb-suc-zero}
use Rattle.std.proofs.Math.Nat.{div-le_self, div-mul-le_self, mul-le-mul_left}
use Rattle.mid_rules.proofs.RowsMean.{args, choice_by, wrap_in}
use Rattle.mid_rules.specs.Basis.{by_signs, div_exn, is_below, is_same, least, left, negating, overflow_exn, quotient, raised, minus_one_exp, dividing, remaining, remainder, right, zero_exp}
use Rattle.mid_rules.specs.Mid.{IsInt, RoundedDown, an_int, called, pair}
use Rattle.mid_rules.specs.Names.{left_name}
use Rattle.runs.specs.Env.{Env, empty, over, put}
use Rattle.runs.specs.Forms.{choice, infix_of}
use Rattle.runs.specs.Ints.{unless_zero, wrap}
use Rattle.runs.specs.Meaning.{Done, Go, Raised, Res, ev, mean, perform, ev_all, then_do}
use Rattle.runs.specs.Patterns.{same_int}
use Rattle.runs.specs.Primitives.{St, gives, int_of, act, oper, truth}
use Rattle.runs.specs.Tree.{Arith, Divide, Equal, Exp, Int, Lit, Minus, Modulo, Plus, Val, Compare, Cons, Item, Less, Nil, NoVals, Oper, Operator}

abbrev M : ℕ
M = 4611686018427387903

-- ---- quotients of ints

natural_is : (k : ℕ) → k ≤ M → IsInt (pos k)
natural_is k h = (omega (arith, ints), omega (arith, ints, h))

negative_is : (k : ℕ) → k ≤ suc M → IsInt (neg_ℤ (pos k))
negative_is zero h = (omega (arith, ints), omega (arith, ints))
negative_is (suc k) h = (omega (arith, ints, h), omega (arith, ints))

halved : (a b q : ℕ) → q * suc (suc b) ≤ a → q * 2 ≤ a
halved a b q h = let l : q * 2 ≤ q * suc (suc b) = mul-le-mul_left q (omega arith) in omega (arith, h, l)

quotient_is : (a b : ℤ) → IsInt a → (b ≡ negsuc 0 → ⊥) → IsInt (int_div a b)
quotient_is (pos a) (pos b) h o = natural_is (a / b) (omega (arith, ints, div-le_self a b, h.1))
quotient_is (pos a) (negsuc b) h o = negative_is (a / suc b) (omega (arith, ints, div-le_self a (suc b), h.1))
quotient_is (negsuc a) (pos b) h o = negative_is (suc a / b) (omega (arith, ints, div-le_self (suc a) b, h.0))
quotient_is (negsuc a) (negsuc zero) h o = absurd (o refl)
quotient_is (negsuc a) (negsuc (suc b)) h o =
    natural_is (suc a / suc (suc b)) (omega (arith, ints, halved (suc a) b (suc a / suc (suc b)) (div-mul-le_self (suc a) (suc (suc b))), h.0))

-- ---- rounding down

minus_one : (q : ℤ) → q -ℤ pos 1 ≡ pred_ℤ q
minus_one (pos zero) = refl
minus_one (pos (suc q)) = let e : pos (suc q) -ℤ pos 1 ≡ pos q = omega (arith, ints) in e
minus_one (negsuc q) = omega (arith, ints)

one_less : (q b : ℤ) → (q -ℤ pos 1) *ℤ b +ℤ b ≡ q *ℤ b
one_less q b = ap (λ z. z *ℤ b +ℤ b) (minus_one q) ∙ (ap (λ z. z +ℤ b) (pred_ℤ-*ℤ q b) ∙ -ℤ-+ℤ_cancel (q *ℤ b) b)

shifted : (q b r : ℤ) → (q -ℤ pos 1) *ℤ b +ℤ (r +ℤ b) ≡ q *ℤ b +ℤ r
shifted q b r = omega (arith, ints, one_less q b)

-- the remainder is nearer to 0 than the divisor
near_above : (r b : ℤ) → unsigned_abs r < unsigned_abs b → (pos 0 <ℤ b) → (neg_ℤ b <ℤ r) × (r <ℤ b)
near_above (pos r) (pos (suc b)) h p = (omega (arith, ints, h), omega (arith, ints, h))
near_above (negsuc r) (pos (suc b)) h p = (omega (arith, ints, h), omega (arith, ints, h))
near_above r (pos zero) h p = absurd (omega (arith, ints, p))
near_above r (negsuc b) h p = absurd (omega (arith, ints, p))

near_below : (r b : ℤ) → unsigned_abs r < unsigned_abs b → (b <ℤ pos 0) → (b <ℤ r) × (r <ℤ neg_ℤ b)
near_below (pos r) (negsuc b) h p = (omega (arith, ints, h), omega (arith, ints, h))
near_below (negsuc r) (negsuc b) h p = (omega (arith, ints, h), omega (arith, ints, h))
near_below r (pos b) h p = absurd (omega (arith, ints, p))

below_zero : (b : ℤ) → int_lt b (pos 0) ≡ true → b <ℤ pos 0
below_zero b e = grind (arith, ints)

above_zero : (b : ℤ) → (b ≡ pos 0 → ⊥) → int_lt b (pos 0) ≡ false → pos 0 <ℤ b
above_zero (pos zero) z e = absurd (z refl)
above_zero (pos (suc b)) z e = omega (arith, ints)
above_zero (negsuc b) z e = grind (arith, ints)

not_zero : (b : ℤ) → (b ≡ pos 0 → ⊥) → 0 < unsigned_abs b
not_zero (pos zero) z = absurd (z refl)
not_zero (pos (suc b)) z = omega arith
not_zero (negsuc b) z = omega arith

-- where the remainder has the divisor's sign, and where it has not
record Rounded (a b q r : ℤ) : Type 0 where
  low_up : int_lt b (pos 0) ≡ true → int_lt (pos 0) r ≡ true → RoundedDown a b (q -ℤ pos 1) (r +ℤ b)
  low : int_lt b (pos 0) ≡ true → int_lt (pos 0) r ≡ false → RoundedDown a b q r
  high_down : int_lt b (pos 0) ≡ false → int_lt r (pos 0) ≡ true → RoundedDown a b (q -ℤ pos 1) (r +ℤ b)
  high : int_lt b (pos 0) ≡ false → int_lt r (pos 0) ≡ false → RoundedDown a b q r

rounded : (a b q r : ℤ) → (b ≡ pos 0 → ⊥) → q *ℤ b +ℤ r ≡ a → unsigned_abs r < unsigned_abs b → Rounded a b q r
rounded a b q r z e h = record {
  low_up = λ l m. let k = near_below r b h (below_zero b l) in (shifted q b r ∙ e, inr (grind (arith, ints, k.0, k.1), grind (arith, ints, k.0, k.1)));
  low = λ l m. let k = near_below r b h (below_zero b l) in (e, inr (k.0, grind (arith, ints)));
  high_down = λ l m. let k = near_above r b h (above_zero b z l) in (shifted q b r ∙ e, inl (grind (arith, ints, k.0, k.1), grind (arith, ints, k.0, k.1)));
  high = λ l m. let k = near_above r b h (above_zero b z l) in (e, inl (grind (arith, ints), k.1));
}

remainder_is : (r b : ℤ) → unsigned_abs r < unsigned_abs b → IsInt b → IsInt r
remainder_is (pos r) (pos b) h k = natural_is r (omega (arith, ints, h, k.1))
remainder_is (pos r) (negsuc b) h k = natural_is r (omega (arith, ints, h, k.0))
remainder_is (negsuc r) (pos b) h k = (omega (arith, ints, h, k.1), omega (arith, ints))
remainder_is (negsuc r) (negsuc b) h k = (omega (arith, ints, h, k.0), omega (arith, ints))

-- ---- tests

by_bool : {P : Type 0} (b : Bool) → (b ≡ true → P) → (b ≡ false → P) → P
by_bool true f g = f refl
by_bool false f g = g refl

same_zero : (b : ℤ) → (b ≡ pos 0 → ⊥) → same_int b (pos 0) ≡ false
same_zero (pos zero) z = absurd (z refl)
same_zero (pos (suc b)) z = eqb-suc-zero b
same_zero (negsuc b) z = refl

is_minus_one : (b : ℤ) → same_int b (negsuc 0) ≡ true → b ≡ negsuc 0
is_minus_one (pos b) e = absurd (cc e)
is_minus_one (negsuc zero) e = refl
is_minus_one (negsuc (suc b)) e = absurd (cc (e, eqb-suc-zero b))

not_minus_one : (b : ℤ) → same_int b (negsuc 0) ≡ false → b ≡ negsuc 0 → ⊥
not_minus_one b e h = absurd (cc (e, h))

is_least : (a : ℤ) → same_int a (negsuc M) ≡ true → a ≡ negsuc M
is_least (pos a) e = absurd (cc e)
is_least (negsuc a) e = ap negsuc (eqb-true a M e)

not_least : (a : ℤ) → same_int a (negsuc M) ≡ false → a ≡ negsuc M → ⊥
not_least (pos a) e h = absurd (cc h)
not_least (negsuc a) e h = absurd (cc (e, eq-eqb a M (omega (arith, ints, h))))

choice_yes : (go : Go) (env : Env) (c t e : Exp) (s : St) (b : Bool) (r : Res Val) → ev go env c s ≡ Done (truth b) s → b ≡ true → ev go env t s ≡ r → ev go env (choice c t e) s ≡ r
choice_yes go env c t e s b r h k f = choice_by go env c t e s b r h (λ i. f) (λ i. absurd (cc (i, k)))

choice_no : (go : Go) (env : Env) (c t e : Exp) (s : St) (b : Bool) (r : Res Val) → ev go env c s ≡ Done (truth b) s → b ≡ false → ev go env e s ≡ r → ev go env (choice c t e) s ≡ r
choice_no go env c t e s b r h k f = choice_by go env c t e s b r h (λ i. absurd (cc (i, k))) (λ i. f)

infix_by : (go : Go) (env : Env) (o : Operator) (a b : Exp) (s : St) (v w : Val) (r : Res Val) → ev go env a s ≡ Done v s → ev go env b s ≡ Done w s → perform go (oper o v w s) s ≡ r → ev go env (infix_of o a b) s ≡ r
infix_by go env o a b s v w r ha hb hp =
    ap (λ q. then_do (then_do q (λ x s1. then_do (ev_all go env (Cons b Nil) s1) (λ vs s2. Done (Item x vs) s2))) (λ vs s1. perform go (act (Oper o) vs s1) s1)) ha
    ∙ (ap (λ q. then_do (then_do (then_do q (λ y s2. Done (Item y NoVals) s2)) (λ vs s2. Done (Item v vs) s2)) (λ vs s1. perform go (act (Oper o) vs s1) s1)) hb
    ∙ hp)

-- ---- the parts

some_unless : (b i : ℤ) → (b ≡ pos 0 → ⊥) → unless_zero b i ≡ Some i
some_unless (pos zero) i z = absurd (z refl)
some_unless (pos (suc b)) i z = refl
some_unless (negsuc b) i z = refl

divided : (go : Go) (b i : ℤ) (s : St) → (b ≡ pos 0 → ⊥) → IsInt i → perform go (gives (int_of (unless_zero b (wrap i))) s) s ≡ Done (an_int i) s
divided go b i s z h = ap (λ o. perform go (gives (int_of o) s) s) (some_unless b (wrap i) z) ∙ ap (λ j. Done (an_int j) s) (wrap_in i h)

quotient_ev : (go : Go) (a b : ℤ) (s : St) → (b ≡ pos 0 → ⊥) → IsInt (int_div a b) → ev go (args a b) quotient s ≡ Done (an_int (int_div a b)) s
quotient_ev go a b s z h = infix_by go (args a b) (Arith Divide) left right s (an_int a) (an_int b) _ refl refl (divided go b (int_div a b) s z h)

remainder_ev : (go : Go) (a b : ℤ) (s : St) → (b ≡ pos 0 → ⊥) → IsInt (int_rem a b) → ev go (args a b) remainder s ≡ Done (an_int (int_rem a b)) s
remainder_ev go a b s z h = infix_by go (args a b) (Arith Modulo) left right s (an_int a) (an_int b) _ refl refl (divided go b (int_rem a b) s z h)

abbrev low_choice : Exp → Exp → Exp
low_choice x y = choice (is_below zero_exp remainder) x y

abbrev high_choice : Exp → Exp → Exp
high_choice x y = choice (is_below remainder zero_exp) x y

above : (go : Go) (a b r : ℤ) (s : St) → ev go (args a b) remainder s ≡ Done (an_int r) s → ev go (args a b) (is_below zero_exp remainder) s ≡ Done (truth (int_lt (pos 0) r)) s
above go a b r s h = infix_by go (args a b) (Compare Less) zero_exp remainder s (an_int (pos 0)) (an_int r) _ refl h refl

beneath : (go : Go) (a b r : ℤ) (s : St) → ev go (args a b) remainder s ≡ Done (an_int r) s → ev go (args a b) (is_below remainder zero_exp) s ≡ Done (truth (int_lt r (pos 0))) s
beneath go a b r s h = infix_by go (args a b) (Compare Less) remainder zero_exp s (an_int r) (an_int (pos 0)) _ h refl refl

-- which of the two choices comes, by the signs of divisor and remainder
abbrev Comes : Go → ℤ → ℤ → Exp → Exp → St → Res Val → Type 0
Comes go a b x y s v = ev go (args a b) (by_signs x y) s ≡ v

low_changed : (go : Go) (a b r : ℤ) (x y : Exp) (s : St) (v : Res Val) → ev go (args a b) remainder s ≡ Done (an_int r) s → int_lt b (pos 0) ≡ true → int_lt (pos 0) r ≡ true → ev go (args a b) x s ≡ v → Comes go a b x y s v
low_changed go a b r x y s v h c d k = choice_yes go (args a b) (is_below right zero_exp) (low_choice x y) (high_choice x y) s (int_lt b (pos 0)) v refl c (choice_yes go (args a b) (is_below zero_exp remainder) x y s (int_lt (pos 0) r) v (above go a b r s h) d k)

low_kept : (go : Go) (a b r : ℤ) (x y : Exp) (s : St) (v : Res Val) → ev go (args a b) remainder s ≡ Done (an_int r) s → int_lt b (pos 0) ≡ true → int_lt (pos 0) r ≡ false → ev go (args a b) y s ≡ v → Comes go a b x y s v
low_kept go a b r x y s v h c d k = choice_yes go (args a b) (is_below right zero_exp) (low_choice x y) (high_choice x y) s (int_lt b (pos 0)) v refl c (choice_no go (args a b) (is_below zero_exp remainder) x y s (int_lt (pos 0) r) v (above go a b r s h) d k)

high_changed : (go : Go) (a b r : ℤ) (x y : Exp) (s : St) (v : Res Val) → ev go (args a b) remainder s ≡ Done (an_int r) s → int_lt b (pos 0) ≡ false → int_lt r (pos 0) ≡ true → ev go (args a b) x s ≡ v → Comes go a b x y s v
high_changed go a b r x y s v h c d k = choice_no go (args a b) (is_below right zero_exp) (low_choice x y) (high_choice x y) s (int_lt b (pos 0)) v refl c (choice_yes go (args a b) (is_below remainder zero_exp) x y s (int_lt r (pos 0)) v (beneath go a b r s h) d k)

high_kept : (go : Go) (a b r : ℤ) (x y : Exp) (s : St) (v : Res Val) → ev go (args a b) remainder s ≡ Done (an_int r) s → int_lt b (pos 0) ≡ false → int_lt r (pos 0) ≡ false → ev go (args a b) y s ≡ v → Comes go a b x y s v
high_kept go a b r x y s v h c d k = choice_no go (args a b) (is_below right zero_exp) (low_choice x y) (high_choice x y) s (int_lt b (pos 0)) v refl c (choice_no go (args a b) (is_below remainder zero_exp) x y s (int_lt r (pos 0)) v (beneath go a b r s h) d k)

-- ---- the rows

abbrev lower : Exp
lower = infix_of (Arith Minus) quotient (Lit (Int (pos 1)))

-- the quotient before rounding is not the least int where something remains
no_negation : (a : ℤ) → a ≡ negsuc M → IsInt (pos 0 -ℤ a) → ⊥
no_negation a e h = let k : IsInt (pos 0 -ℤ negsuc M) = subst (λ z. IsInt (pos 0 -ℤ z)) e h in omega (arith, ints, k.1)

not_low : (a b r : ℤ) → negsuc M *ℤ b +ℤ r ≡ a → IsInt a → b ≤ℤ negsuc 1 → pos 0 <ℤ r → ⊥
not_low a (pos b) r e h l m = omega (arith, ints, l)
not_low a (negsuc b) (pos r) e h l m = omega (arith, ints, e, l, m, h.1)
not_low a (negsuc b) (negsuc r) e h l m = omega (arith, ints, m)

not_high : (a b r : ℤ) → negsuc M *ℤ b +ℤ r ≡ a → IsInt a → pos 0 <ℤ b → r <ℤ pos 0 → ⊥
not_high a (pos zero) r e h l m = omega (arith, ints, l)
not_high a (pos (suc b)) (negsuc r) e h l m = omega (arith, ints, e, h.0)
not_high a (pos (suc b)) (pos r) e h l m = omega (arith, ints, m)
not_high a (negsuc b) r e h l m = omega (arith, ints, l)

less_is : (q : ℤ) → IsInt q → (q ≡ negsuc M → ⊥) → IsInt (q -ℤ pos 1)
less_is (pos q) h n = (omega (arith, ints), omega (arith, ints, h.1))
less_is (negsuc q) h n = by_bool (same_int (negsuc q) (negsuc M)) (λ e. absurd (n (is_least (negsuc q) e))) (λ e. (grind (arith, ints, h.0), omega (arith, ints)))

lower_ev : (go : Go) (a b q : ℤ) (s : St) → ev go (args a b) quotient s ≡ Done (an_int q) s → IsInt (q -ℤ pos 1) → ev go (args a b) lower s ≡ Done (an_int (q -ℤ pos 1)) s
lower_ev go a b q s h k = infix_by go (args a b) (Arith Minus) quotient (Lit (Int (pos 1))) s (an_int q) (an_int (pos 1)) _ h refl (ap (λ j. Done (an_int j) s) (wrap_in (q -ℤ pos 1) k))

abbrev raised_remainder : Exp
raised_remainder = infix_of (Arith Plus) remainder right

raised_ev : (go : Go) (a b r : ℤ) (s : St) → ev go (args a b) remainder s ≡ Done (an_int r) s → IsInt (r +ℤ b) → ev go (args a b) raised_remainder s ≡ Done (an_int (r +ℤ b)) s
raised_ev go a b r s h k = infix_by go (args a b) (Arith Plus) remainder right s (an_int r) (an_int b) _ h refl (ap (λ j. Done (an_int j) s) (wrap_in (r +ℤ b) k))

between : (r b : ℤ) → IsInt b → (b <ℤ (r +ℤ b)) × ((r +ℤ b) ≤ℤ pos 0) → IsInt (r +ℤ b)
between r b h k = (grind (arith, ints, h.0, k.0), grind (arith, ints, k.1))

between_up : (r b : ℤ) → IsInt b → (pos 0 ≤ℤ (r +ℤ b)) × ((r +ℤ b) <ℤ b) → IsInt (r +ℤ b)
between_up r b h k = (grind (arith, ints, k.0), grind (arith, ints, h.1, k.1))

-- left div right, where right is neither 0 nor ~1
abbrev chosen : Exp
chosen = by_signs lower quotient

asked : (go : Go) (a b : ℤ) (s : St) (r : Res Val) → (b ≡ pos 0 → ⊥) → same_int b (negsuc 0) ≡ false → ev go (args a b) chosen s ≡ r → ev go (args a b) dividing s ≡ r
asked go a b s r z o h =
    choice_no go (args a b) (is_same right zero_exp) (raised div_exn) (choice (is_same right minus_one_exp) negating chosen) s (same_int b (pos 0)) r refl (same_zero b z)
    (choice_no go (args a b) (is_same right minus_one_exp) negating chosen s (same_int b (negsuc 0)) r refl o h)

abbrev Divides : Go → ℤ → ℤ → St → Type 0
Divides go a b s = (q : ℤ) × (m : ℤ) × RoundedDown a b q m × (ev go (args a b) dividing s ≡ Done (an_int q) s)

abbrev Remains : Go → ℤ → ℤ → St → Type 0
Remains go a b s = (q : ℤ) × (m : ℤ) × RoundedDown a b q m × (ev go (args a b) remaining s ≡ Done (an_int m) s)

below_two : (b : ℤ) → int_lt b (pos 0) ≡ true → (b ≡ negsuc 0 → ⊥) → b ≤ℤ negsuc 1
below_two (pos b) l o = absurd (omega (arith, ints, below_zero (pos b) l))
below_two (negsuc zero) l o = absurd (o refl)
below_two (negsuc (suc b)) l o = omega (arith, ints)

is_positive : (r : ℤ) → int_lt (pos 0) r ≡ true → pos 0 <ℤ r
is_positive r e = grind (arith, ints)

divides_by : (go : Go) (a b : ℤ) (s : St) → IsInt a → IsInt b → (b ≡ pos 0 → ⊥) → same_int b (negsuc 0) ≡ false → Divides go a b s
divides_by go a b s ha hb z o =
    let q : ℤ = int_div a b in
    let r : ℤ = int_rem a b in
    let e : q *ℤ b +ℤ r ≡ a = quot-rem a b in
    let n : unsigned_abs r < unsigned_abs b = rem_below a b (not_zero b z) in
    let hq : IsInt q = quotient_is a b ha (not_minus_one b o) in
    let d : Rounded a b q r = rounded a b q r z e n in
    let eq : ev go (args a b) quotient s ≡ Done (an_int q) s = quotient_ev go a b s z hq in
    let er : ev go (args a b) remainder s ≡ Done (an_int r) s = remainder_ev go a b s z (remainder_is r b n hb) in
    let low : IsInt (q -ℤ pos 1) → ev go (args a b) lower s ≡ Done (an_int (q -ℤ pos 1)) s = λ k. lower_ev go a b q s eq k in
    by_bool (int_lt b (pos 0))
    (λ c. by_bool (int_lt (pos 0) r)
    (λ f. let k : IsInt (q -ℤ pos 1) = less_is q hq (λ i. not_low a b r (subst (λ y. y *ℤ b +ℤ r ≡ a) i e) ha (below_two b c (not_minus_one b o)) (is_positive r f)) in
    (q -ℤ pos 1, r +ℤ b, d.low_up c f, asked go a b s _ z o (low_changed go a b r lower quotient s _ er c f (low k))))
    (λ f. (q, r, d.low c f, asked go a b s _ z o (low_kept go a b r lower quotient s _ er c f eq))))
    (λ c. by_bool (int_lt r (pos 0))
    (λ f. let k : IsInt (q -ℤ pos 1) = less_is q hq (λ i. not_high a b r (subst (λ y. y *ℤ b +ℤ r ≡ a) i e) ha (above_zero b z c) (below_zero r f)) in
    (q -ℤ pos 1, r +ℤ b, d.high_down c f, asked go a b s _ z o (high_changed go a b r lower quotient s _ er c f (low k))))
    (λ f. (q, r, d.high c f, asked go a b s _ z o (high_kept go a b r lower quotient s _ er c f eq))))

remains_by : (go : Go) (a b : ℤ) (s : St) → IsInt b → (b ≡ pos 0 → ⊥) → Remains go a b s
remains_by go a b s hb z =
    let q : ℤ = int_div a b in
    let r : ℤ = int_rem a b in
    let n : unsigned_abs r < unsigned_abs b = rem_below a b (not_zero b z) in
    let d : Rounded a b q r = rounded a b q r z (quot-rem a b) n in
    let er : ev go (args a b) remainder s ≡ Done (an_int r) s = remainder_ev go a b s z (remainder_is r b n hb) in
    let up : IsInt (r +ℤ b) → ev go (args a b) raised_remainder s ≡ Done (an_int (r +ℤ b)) s = λ k. raised_ev go a b r s er k in
    let out : (v : Res Val) → ev go (args a b) (by_signs raised_remainder remainder) s ≡ v → ev go (args a b) remaining s ≡ v = λ v h. choice_no go (args a b) (is_same right zero_exp) (raised div_exn) (by_signs raised_remainder remainder) s (same_int b (pos 0)) v refl (same_zero b z) h in
    by_bool (int_lt b (pos 0))
    (λ c. by_bool (int_lt (pos 0) r)
    (λ f. let l = near_below r b n (below_zero b c) in let p = is_positive r f in
    (q -ℤ pos 1, r +ℤ b, d.low_up c f, out _ (low_changed go a b r raised_remainder remainder s _ er c f (up (between r b hb (grind (arith, ints, p), grind (arith, ints, l.1)))))))
    (λ f. (q, r, d.low c f, out _ (low_kept go a b r raised_remainder remainder s _ er c f er))))
    (λ c. by_bool (int_lt r (pos 0))
    (λ f. let l = near_above r b n (above_zero b z c) in let p = below_zero r f in
    (q -ℤ pos 1, r +ℤ b, d.high_down c f, out _ (high_changed go a b r raised_remainder remainder s _ er c f (up (between_up r b hb (grind (arith, ints, l.0), grind (arith, ints, p)))))))
    (λ f. (q, r, d.high c f, out _ (high_kept go a b r raised_remainder remainder s _ er c f er))))

-- ---- negation

negated : (go : Go) (env : Env) (a : ℤ) (s : St) → ev go env left s ≡ Done (an_int a) s → IsInt (pos 0 -ℤ a) → ev go env negating s ≡ Done (an_int (pos 0 -ℤ a)) s
negated go env a s h k =
    choice_by go env (is_same left least) (raised overflow_exn) (infix_of (Arith Minus) zero_exp left) s (same_int a (negsuc M)) _ (infix_by go env (Compare Equal) left least s (an_int a) (an_int (negsuc M)) _ h refl refl)
    (λ e. absurd (no_negation a (is_least a e) k))
    (λ e. infix_by go env (Arith Minus) zero_exp left s (an_int (pos 0)) (an_int a) _ refl h (ap (λ j. Done (an_int j) s) (wrap_in (pos 0 -ℤ a) k)))

has_negation : (a : ℤ) → IsInt a → (a ≡ negsuc M → ⊥) → IsInt (pos 0 -ℤ a)
has_negation (pos zero) h n = (omega (arith, ints), omega (arith, ints))
has_negation (pos (suc a)) h n = (omega (arith, ints, h.1), omega (arith, ints))
has_negation (negsuc a) h n = by_bool (same_int (negsuc a) (negsuc M)) (λ e. absurd (n (is_least (negsuc a) e))) (λ e. (omega (arith, ints), grind (arith, ints, h.0)))

negated_too_much : (go : Go) (env : Env) (a : ℤ) (s : St) → ev go env left s ≡ Done (an_int a) s → IsInt a → (IsInt (pos 0 -ℤ a) → ⊥) → ev go env negating s ≡ Raised overflow_exn s
negated_too_much go env a s h i k =
    choice_by go env (is_same left least) (raised overflow_exn) (infix_of (Arith Minus) zero_exp left) s (same_int a (negsuc M)) _ (infix_by go env (Compare Equal) left least s (an_int a) (an_int (negsuc M)) _ h refl refl)
    (λ e. refl)
    (λ e. absurd (k (has_negation a i (not_least a e))))

by_minus_one : (a : ℤ) → RoundedDown a (negsuc 0) (pos 0 -ℤ a) (pos 0)
by_minus_one (pos zero) = (omega (arith, ints), inr (omega (arith, ints), omega (arith, ints)))
by_minus_one (pos (suc a)) = (omega (arith, ints), inr (omega (arith, ints), omega (arith, ints)))
by_minus_one (negsuc a) = (omega (arith, ints), inr (omega (arith, ints), omega (arith, ints)))

divides_minus_one : (go : Go) (a b : ℤ) (s : St) → b ≡ negsuc 0 → IsInt a → (a ≡ negsuc M → ⊥) → Divides go a b s
divides_minus_one go a b s e h n =
    subst (λ d. Divides go a d s) (sym e) (
      pos 0 -ℤ a,
      pos 0,
      by_minus_one a,
      choice_no go (args a (negsuc 0)) (is_same right zero_exp) (raised div_exn) (choice (is_same right minus_one_exp) negating chosen) s false _ refl refl
          (choice_yes go (args a (negsuc 0)) (is_same right minus_one_exp) negating chosen s true _ refl refl (negated go (args a (negsuc 0)) a s refl (has_negation a h n))),
    )

not_below : (a : ℕ) → int_lt (pos a) (pos 0) ≡ false
not_below a = by_bool (int_lt (pos a) (pos 0)) (λ e. absurd (omega (arith, ints, below_zero (pos a) e))) (λ e. e)

-- ---- called

pub divides : (a b : ℤ) (s : St) (n : ℕ) → IsInt a → IsInt b → (b ≡ pos 0 → ⊥) → (a ≡ negsuc M → b ≡ negsuc 0 → ⊥) → (q : ℤ) × (m : ℤ) × RoundedDown a b q m × (called 8 None (pair (an_int a) (an_int b)) s n ≡ Done (an_int q) s)
divides a b s n ha hb z o = by_bool (same_int b (negsuc 0)) (λ e. divides_minus_one (mean n) a b s (is_minus_one b e) ha (λ i. o i (is_minus_one b e))) (λ e. divides_by (mean n) a b s ha hb z e)

pub remains : (a b : ℤ) (s : St) (n : ℕ) → IsInt b → (b ≡ pos 0 → ⊥) → (q : ℤ) × (m : ℤ) × RoundedDown a b q m × (called 10 None (pair (an_int a) (an_int b)) s n ≡ Done (an_int m) s)
remains a b s n hb z = remains_by (mean n) a b s hb z

abbrev arg : ℤ → Env
arg a = over (put left_name (an_int a) empty) empty

pub negates : (a : ℤ) (s : St) (n : ℕ) → IsInt (pos 0 -ℤ a) → called 12 None (an_int a) s n ≡ Done (an_int (pos 0 -ℤ a)) s
negates a s n k = negated (mean n) (arg a) a s refl k

pub negates_too_much : (a : ℤ) (s : St) (n : ℕ) → IsInt a → (IsInt (pos 0 -ℤ a) → ⊥) → called 12 None (an_int a) s n ≡ Raised overflow_exn s
negates_too_much a s n h k = negated_too_much (mean n) (arg a) a s refl h k

pub magnitude : (a : ℤ) (s : St) (n : ℕ) → IsInt (pos (unsigned_abs a)) → called 13 None (an_int a) s n ≡ Done (an_int (pos (unsigned_abs a))) s
magnitude (pos a) s n h = choice_no (mean n) (arg (pos a)) (is_below left zero_exp) negating left s (int_lt (pos a) (pos 0)) _ refl (not_below a) refl
magnitude (negsuc a) s n h =
    let e : pos 0 -ℤ negsuc a ≡ pos (suc a) = omega (arith, ints) in
    choice_yes (mean n) (arg (negsuc a)) (is_below left zero_exp) negating left s true _ refl refl
    (subst (λ z. ev (mean n) (arg (negsuc a)) negating s ≡ Done (an_int z) s) e (negated (mean n) (arg (negsuc a)) (negsuc a) s refl (subst IsInt (sym e) h)))

pub magnitude_too_much : (a : ℤ) (s : St) (n : ℕ) → IsInt a → (IsInt (pos (unsigned_abs a)) → ⊥) → called 13 None (an_int a) s n ≡ Raised overflow_exn s
magnitude_too_much (pos a) s n h k = absurd (k h)
magnitude_too_much (negsuc a) s n h k =
    let e : pos 0 -ℤ negsuc a ≡ pos (suc a) = omega (arith, ints) in
    choice_yes (mean n) (arg (negsuc a)) (is_below left zero_exp) negating left s true _ refl refl
    (negated_too_much (mean n) (arg (negsuc a)) (negsuc a) s refl h (λ i. k (subst IsInt e i)))
