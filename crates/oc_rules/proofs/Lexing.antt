-- How a token is taken from the front of some bytes, and that bytes are one list of tokens at most.
use Rattle.std.proofs.Common.{◌≡◌, ℕ, ◌≤◌, inl, inr, Bool, true, false, not, ◌&&◌, ◌||◌, List, [], ◌∷◌, ◌++◌, length, refl, sym, ap, subst, ◌∙◌, arith}
use Rattle.std.specs.Prelude.{nat_eq, ℤ, pos, neg_ℤ}
use Rattle.std.specs.Str.Parse.{digits_value}
use Rattle.std.proofs.lemmas.Bool.{eqb-true, eq-eqb}
use Rattle.oc_ast.specs.declared.literal.OcLit.{OcLit}
use Rattle.oc_ast.specs.declared.literal.OcLit.TheVariants.{Int, Char, Text}
use Rattle.oc_rules.specs.Bytes.{is_small, is_capital, is_letter, is_digit, is_word_byte, is_part, is_white, every, heads, same, is_any}
use Rattle.oc_rules.specs.Token.{Token, Name, Tyvar, Sign, Lit, signs, Quoted, is_tyvar, IsToken, IntRun, is_number}
use Rattle.oc_rules.specs.Lexes.{Longest, Ends, Lexes, Done, Skips, Takes}
use Rattle.oc_rules.proofs.Tests.{both_ways, and_true, and_of, or_false, not_true, not_of, unequal, between_is, any_is}
use Rattle.oc_rules.proofs.Literals.{one_quoted}
use Rattle.oc_rules.proofs.RunKinds.{first_class, is_second, fits, signs_fit, Kind, KName, KDec, KVar, KChar, KText, KSign, KNeg, tag, kind, var_kind, kind_of_lit, one_tag, not_empty, sign_class, digit_class, in_class, number_digits}
use Rattle.oc_rules.proofs.Longest.{sign_cling, cling, clings, longer}

equal_tags : (a b : ℕ) → a ≡ b → nat_eq a b ≡ true
equal_tags = eq-eqb

var_clings : (run : List ℕ) (e : is_tyvar run ≡ true) (rest : List ℕ) → heads is_part rest ≡ false → heads (cling (var_kind run e)) rest ≡ false
var_clings [] e rest h = absurd cc
var_clings (c ∷ s) e rest h = h

lit_clings : (l : OcLit) (run : List ℕ) (p : IsToken (Lit l) run) (rest : List ℕ) → heads is_part rest ≡ false → heads (cling (kind_of_lit l run p)) rest ≡ false
lit_clings (Int z) run (inl (n, v)) rest h = h
lit_clings (Int z) run (inr (ds, e, n, v)) rest h = h
lit_clings (Char c) run p rest h = h
lit_clings (Text s) run p rest h = h

clung : (t : Token) (run : List ℕ) (p : IsToken t run) (rest : List ℕ) → heads (clings t) rest ≡ false → heads (cling (kind t run p)) rest ≡ false
clung (Name n) run p rest h = h
clung (Tyvar v) run (e, p) rest h = var_clings run (subst (λ (z : List ℕ). is_tyvar z ≡ true) (sym e) p) rest h
clung (Sign s) run (e, p) rest h = subst (λ (z : List ℕ). heads (sign_cling z) rest ≡ false) (sym e) h
clung (Lit l) run p rest h = lit_clings l run p rest h

pub is_longest : (t : Token) (run rest : List ℕ) → IsToken t run → heads (clings t) rest ≡ false → Longest run rest
is_longest t run rest p h u other behind e q =
    longer rest behind e (kind t run p) (kind u other q) (clung t run p rest h) (equal_tags (tag (kind t run p)) (tag (kind u other q)) (one_tag rest behind e (kind t run p) (kind u other q)))

no_digits : (run : List ℕ) → fits run ≡ true → every is_digit run ≡ false
no_digits [] f = absurd cc
no_digits (a ∷ r) f = go (is_digit a) refl
  where
    go : (b : Bool) → is_digit a ≡ b → (b && every is_digit r) ≡ false
    go true e = let x = sign_class (a ∷ r) f in let y = digit_class a e in absurd (omega (arith, x, y))
    go false e = refl

sign_ends : (s rest : List ℕ) → is_any signs s ≡ true → heads (sign_cling s) rest ≡ false → Ends s rest
sign_ends s [] p h w = refl
sign_ends s (d ∷ rest) p h w =
    let under : same s (95 ∷ []) ≡ true = sym (ap (λ (b : Bool). b || same s (95 ∷ [])) (no_digits s (signs_fit s p))) ∙ w in
    let k = or_false (is_second d) (nat_eq d 45 || (is_part d && same s (95 ∷ []))) h in
    let j = (or_false (nat_eq d 45) (is_part d && same s (95 ∷ [])) k.1).1 in
    go (is_part d) refl under j
  where
    go : (b : Bool) → is_part d ≡ b → same s (95 ∷ []) ≡ true → (is_part d && same s (95 ∷ [])) ≡ false → not (is_part d) ≡ true
    go true e u j = both_ways (is_part d && same s (95 ∷ [])) (and_of (is_part d) (same s (95 ∷ [])) e u) j
    go false e u j = not_of (is_part d) e

pub ends : (t : Token) (run rest : List ℕ) → IsToken t run → heads (clings t) rest ≡ false → Ends run rest
ends (Name n) run rest p h w = not_of (heads is_part rest) h
ends (Tyvar v) run rest p h w = not_of (heads is_part rest) h
ends (Sign s) run rest (e, p) h w = subst (λ (z : List ℕ). Ends z rest) (sym e) (sign_ends s rest p h) w
ends (Lit l) run rest p h w = not_of (heads is_part rest) h

-- a token before bytes whose first one does not cling to it
pub taken : (t : Token) (run rest : List ℕ) (us : List Token) → IsToken t run → heads (clings t) rest ≡ false → Lexes rest us → Lexes (run ++ rest) (t ∷ us)
taken t run rest us p h l = Takes (run ++ rest) (t ∷ us) t us run rest refl refl p (is_longest t run rest p h) (ends t run rest p h) l

-- ---- one list of tokens

pub same_front : (run other rest behind : List ℕ) → other ++ behind ≡ run ++ rest → length other ≡ length run → (other ≡ run) × (behind ≡ rest)
same_front [] [] rest behind e n = (refl, e)
same_front [] (x ∷ o) rest behind e n = absurd (omega (arith, n))
same_front (x ∷ r) [] rest behind e n = absurd (omega (arith, n))
same_front (x ∷ r) (y ∷ o) rest behind e n =
    let h : y ≡ x = cc in
    let shorter : length o ≡ length r = omega (arith, n) in
    let tails : o ++ behind ≡ r ++ rest = cc in
    let k = same_front r o rest behind tails shorter in
    let a = k.0 in
    (cc, k.1)

one_int : (z y : ℤ) (run : List ℕ) → IntRun z run → IntRun y run → z ≡ y
one_int z y run (inl (n, v)) (inl (m, w)) = v ∙ sym w
one_int z y run (inl (n, v)) (inr (ds, e, m, w)) = absurd (both_ways false (subst (λ (r : List ℕ). is_number r ≡ true) e n) refl)
one_int z y run (inr (ds, e, m, w)) (inl (n, v)) = absurd (both_ways false (subst (λ (r : List ℕ). is_number r ≡ true) e n) refl)
one_int z y run (inr (ds, e, m, w)) (inr (es, f, n, v)) =
    let k : 40 ∷ 45 ∷ (ds ++ (41 ∷ [])) ≡ 40 ∷ 45 ∷ (es ++ (41 ∷ [])) = sym e ∙ f in
    let t : ds ++ (41 ∷ []) ≡ es ++ (41 ∷ []) = cc in
    w ∙ (ap (λ (s : List ℕ). neg_ℤ (pos (digits_value 10 s))) (unpushed ds es t) ∙ sym v)
  where
    unpushed : (a b : List ℕ) → a ++ (41 ∷ []) ≡ b ++ (41 ∷ []) → a ≡ b
    unpushed [] [] q = refl
    unpushed [] (x ∷ []) q = absurd cc
    unpushed [] (x ∷ y ∷ b) q = absurd cc
    unpushed (x ∷ []) [] q = absurd cc
    unpushed (x ∷ y ∷ a) [] q = absurd cc
    unpushed (x ∷ a) (y ∷ b) q = let h : x ≡ y = cc in let k = unpushed a b cc in cc

var_or_char : {A : Type 0} (v : List ℕ) (c : ℕ) (run : List ℕ) → run ≡ v → is_tyvar v ≡ true → Quoted 39 (c ∷ []) run → A
var_or_char v c run e p (body, f, w) = go body (subst (λ (z : List ℕ). is_tyvar z ≡ true) (sym e ∙ f) p)
  where
    -- the closing quote is no byte of a type variable
    none : {A : Type 0} (b : List ℕ) → every is_word_byte (b ++ (39 ∷ [])) ≡ true → A
    none [] q = both_ways false q refl
    none (x ∷ b) q = none b (and_true (is_word_byte x) (every is_word_byte (b ++ (39 ∷ []))) q).1

    go : {A : Type 0} (b : List ℕ) → is_tyvar (39 ∷ (b ++ (39 ∷ []))) ≡ true → A
    go [] q = both_ways false q refl
    go (x ∷ b) q = none b (and_true (is_small x) (every is_word_byte (b ++ (39 ∷ []))) q).1

neg_or_sign : {A : Type 0} (z : ℤ) (s run : List ℕ) → IntRun z run → run ≡ s → is_any signs s ≡ true → A
neg_or_sign z s run (inl (n, v)) e p = go run n (signs_fit run (subst (λ (r : List ℕ). is_any signs r ≡ true) (sym e) p))
  where
    go : {A : Type 0} (r : List ℕ) → is_number r ≡ true → fits r ≡ true → A
    go [] m f = both_ways false m refl
    go (c ∷ r) m f = both_ways (every is_digit (c ∷ r)) m (no_digits (c ∷ r) f)
neg_or_sign z s run (inr (ds, f, m, w)) e p = go ds (subst (λ (r : List ℕ). fits r ≡ true) f (signs_fit run (subst (λ (r : List ℕ). is_any signs r ≡ true) (sym e) p)))
  where
    go : {A : Type 0} (b : List ℕ) → fits (40 ∷ 45 ∷ (b ++ (41 ∷ []))) ≡ true → A
    go [] q = both_ways false q refl
    go (x ∷ b) q = both_ways false q refl

one_quote : (q : ℕ) → (q ≡ 92 → ⊥) → (s t run : List ℕ) → Quoted q s run → Quoted q t run → s ≡ t
one_quote q slash s t run a b = (one_quoted q slash s t run run [] [] a b refl).0

int_or : {A : Type 0} (k : ℕ) → (nat_eq k 1 || nat_eq k 4) ≡ true → (m : ℕ) → nat_eq k m ≡ true → nat_eq m 1 ≡ false → nat_eq m 4 ≡ false → A
int_or k a m b c d =
    let e : nat_eq k 1 ≡ false = ap (λ (x : ℕ). nat_eq x 1) (eqb-true k m b) ∙ c in
    let f : nat_eq k 4 ≡ false = ap (λ (x : ℕ). nat_eq x 4) (eqb-true k m b) ∙ d in
    both_ways (nat_eq k 1 || nat_eq k 4) a (ap (λ (x : Bool). x || nat_eq k 4) e ∙ f)

apart : {A : Type 0} (k m n : ℕ) → nat_eq k m ≡ true → nat_eq k n ≡ true → nat_eq m n ≡ false → A
apart k m n a b c = both_ways (nat_eq m n) (eq-eqb m n (sym (eqb-true k m a) ∙ eqb-true k n b)) c

-- a run is one token
pub one_token : (t u : Token) (run : List ℕ) → IsToken t run → IsToken u run → t ≡ u
one_token (Name n) (Name m) run p q = ap Name (sym p.0 ∙ q.0)
one_token (Tyvar v) (Tyvar w) run p q = ap Tyvar (sym p.0 ∙ q.0)
one_token (Sign s) (Sign r) run p q = ap Sign (sym p.0 ∙ q.0)
one_token (Lit (Int z)) (Lit (Int y)) run p q = ap (λ (x : ℤ). Lit (Int x)) (one_int z y run p q)
one_token (Lit (Char c)) (Lit (Char d)) run p q = let h = one_quote 39 (λ z. omega (arith, z)) (c ∷ []) (d ∷ []) run p q in let e : c ≡ d = cc in ap (λ (x : ℕ). Lit (Char x)) e
one_token (Lit (Text s)) (Lit (Text r)) run p q = ap (λ (x : List ℕ). Lit (Text x)) (one_quote 34 (λ z. omega (arith, z)) s r run p q)
one_token (Tyvar v) (Lit (Char c)) run p q = var_or_char v c run p.0 p.1 q
one_token (Lit (Char c)) (Tyvar v) run p q = var_or_char v c run q.0 q.1 p
one_token (Sign s) (Lit (Int z)) run p q = neg_or_sign z s run q p.0 p.1
one_token (Lit (Int z)) (Sign s) run p q = neg_or_sign z s run p q.0 q.1
one_token (Lit (Int z)) (Name n) run p q = int_or (first_class run) (in_class (Lit (Int z)) run p) 0 (in_class (Name n) run q) refl refl
one_token (Lit (Int z)) (Tyvar n) run p q = int_or (first_class run) (in_class (Lit (Int z)) run p) 2 (in_class (Tyvar n) run q) refl refl
one_token (Lit (Int z)) (Lit (Char n)) run p q = int_or (first_class run) (in_class (Lit (Int z)) run p) 2 (in_class (Lit (Char n)) run q) refl refl
one_token (Lit (Int z)) (Lit (Text n)) run p q = int_or (first_class run) (in_class (Lit (Int z)) run p) 3 (in_class (Lit (Text n)) run q) refl refl
one_token (Name n) (Lit (Int z)) run q p = int_or (first_class run) (in_class (Lit (Int z)) run p) 0 (in_class (Name n) run q) refl refl
one_token (Tyvar n) (Lit (Int z)) run q p = int_or (first_class run) (in_class (Lit (Int z)) run p) 2 (in_class (Tyvar n) run q) refl refl
one_token (Lit (Char n)) (Lit (Int z)) run q p = int_or (first_class run) (in_class (Lit (Int z)) run p) 2 (in_class (Lit (Char n)) run q) refl refl
one_token (Lit (Text n)) (Lit (Int z)) run q p = int_or (first_class run) (in_class (Lit (Int z)) run p) 3 (in_class (Lit (Text n)) run q) refl refl
one_token t u run p q = apart (first_class run) _ _ (in_class t run p) (in_class u run q) refl

-- ---- white space

off_white : (c : ℕ) → (c ≤ 32 → ⊥) → is_white c ≡ false
off_white c high =
    let a = unequal c 32 (λ e. high (omega (arith, e))) in
    let b = unequal c 9 (λ e. high (omega (arith, e))) in
    let d = unequal c 10 (λ e. high (omega (arith, e))) in
    let f = unequal c 13 (λ e. high (omega (arith, e))) in
    let g = unequal c 12 (λ e. high (omega (arith, e))) in
    rw a (rw b (rw d (rw f (rw g refl))))

letter_dark : (c : ℕ) → is_letter c ≡ true → is_white c ≡ false
letter_dark c l = off_white c (low (is_small c) refl l)
  where
    low : (b : Bool) → is_small c ≡ b → (b || is_capital c) ≡ true → c ≤ 32 → ⊥
    low true z w x = let h = between_is 97 122 c z in let a = h.0 in omega (arith, a, x)
    low false z w x = let h = between_is 65 90 c w in let a = h.0 in omega (arith, a, x)

digit_dark : (c : ℕ) → is_digit c ≡ true → is_white c ≡ false
digit_dark c d = off_white c (λ x. let h = between_is 48 57 c d in let a = h.0 in omega (arith, a, x))

signs_dark : (s : List ℕ) → is_any signs s ≡ true → heads is_white s ≡ false
signs_dark s e = not_true (heads is_white s) (any_is (λ w. not (heads is_white w)) signs s refl e)

-- no token begins with white space
pub not_white : (t : Token) (run : List ℕ) → IsToken t run → heads is_white run ≡ false
not_white t run p = dark t p (kind t run p)
  where
    dark : (t : Token) → IsToken t run → Kind run → heads is_white run ≡ false
    dark (Sign s) (e, p) k = signs_dark run (subst (λ (z : List ℕ). is_any signs z ≡ true) (sym e) p)
    dark t p (KName c s e l a) = ap (heads is_white) e ∙ letter_dark c l
    dark t p (KDec c s e l a) = ap (heads is_white) e ∙ digit_dark c l
    dark t p (KVar x more e l a) = ap (heads is_white) e
    dark t p (KChar c (body, e, w)) = ap (heads is_white) e
    dark t p (KText s (body, e, w)) = ap (heads is_white) e
    dark t p (KNeg ds e a) = ap (heads is_white) e
    dark (Name n) p (KSign e) = apart (first_class run) 0 4 (in_class (Name n) run p) (eq-eqb (first_class run) 4 (sign_class run e)) refl
    dark (Tyvar n) p (KSign e) = apart (first_class run) 2 4 (in_class (Tyvar n) run p) (eq-eqb (first_class run) 4 (sign_class run e)) refl
    dark (Lit (Char n)) p (KSign e) = apart (first_class run) 2 4 (in_class (Lit (Char n)) run p) (eq-eqb (first_class run) 4 (sign_class run e)) refl
    dark (Lit (Text n)) p (KSign e) = apart (first_class run) 3 4 (in_class (Lit (Text n)) run p) (eq-eqb (first_class run) 4 (sign_class run e)) refl
    dark (Lit (Int z)) (inl (n, v)) (KSign e) = both_ways (every is_digit run) (number_digits run n) (no_digits run e)
    dark (Lit (Int z)) (inr (ds, f, n, v)) (KSign e) = ap (heads is_white) f

-- ---- bytes are one list of tokens at most

empty_run : (run rest : List ℕ) → [] ≡ run ++ rest → (run ≡ [] → ⊥) → ⊥
empty_run [] rest e n = n refl
empty_run (c ∷ r) rest e n = absurd cc

white_run : {A : Type 0} (c : ℕ) (rest run more : List ℕ) → c ∷ rest ≡ run ++ more → is_white c ≡ true → heads is_white run ≡ false → (run ≡ [] → ⊥) → A
white_run c rest [] more e w d n = absurd (n refl)
white_run c rest (x ∷ r) more e w d n = let same : c ≡ x = cc in both_ways (is_white x) (subst (λ (z : ℕ). is_white z ≡ true) same w) d

pub one_lexing : (bytes : List ℕ) (ts us : List Token) → Lexes bytes ts → Lexes bytes us → ts ≡ us
one_lexing bytes ts us (Done _ _ e f) (Done _ _ g h) = f ∙ sym h
one_lexing bytes ts us (Done _ _ e f) (Skips _ _ c rest g w l) = absurd cc
one_lexing bytes ts us (Done _ _ e f) (Takes _ _ t vs run rest g h p long end l) = absurd (empty_run run rest (sym e ∙ g) (not_empty (kind t run p)))
one_lexing bytes ts us (Skips _ _ c rest g w l) (Done _ _ e f) = absurd cc
one_lexing bytes ts us (Skips _ _ c rest g w l) (Skips _ _ d more h v m) =
    let same : rest ≡ more = cc in
    one_lexing rest ts us l (subst (λ (z : List ℕ). Lexes z us) (sym same) m)
one_lexing bytes ts us (Skips _ _ c rest g w l) (Takes _ _ t vs run more h f p long end m) = white_run c rest run more (sym g ∙ h) w (not_white t run p) (not_empty (kind t run p))
one_lexing bytes ts us (Takes _ _ t vs run more h f p long end m) (Done _ _ e g) = absurd (empty_run run more (sym e ∙ h) (not_empty (kind t run p)))
one_lexing bytes ts us (Takes _ _ t vs run more h f p long end m) (Skips _ _ c rest g w l) = white_run c rest run more (sym g ∙ h) w (not_white t run p) (not_empty (kind t run p))
one_lexing bytes ts us (Takes _ _ t vs run rest e f p long end l) (Takes _ _ u ws other behind g h q far stop m) =
    let here : other ++ behind ≡ run ++ rest = sym g ∙ e in
    let a = long u other behind here q in
    let b = far t run rest (sym here) p in
    let n : length other ≡ length run = omega (arith, a, b) in
    let k = same_front run other rest behind here n in
    let token : t ≡ u = one_token t u run p (subst (IsToken u) k.0 q) in
    let later : vs ≡ ws = one_lexing rest vs ws l (subst (λ (z : List ℕ). Lexes z ws) k.1 m) in
    f ∙ (ap (λ (z : Token). z ∷ vs) token ∙ (ap (λ (z : List Token). u ∷ z) later ∙ sym h))
