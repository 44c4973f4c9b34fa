-- Bytes so far that can go on: what may follow them, and how phrases are joined.
use Rattle.std.proofs.Common.{◌≡◌, ℕ, zero, suc, ◌+◌, ◌≤◌, Bool, true, false, not, ◌&&◌, ◌||◌, List, [], ◌∷◌, ◌++◌, replicate, refl, sym, ap, subst, ◌∙◌, arith, append_assoc}
use Rattle.std.specs.Prelude.{nat_eq, codes}
use Rattle.std.proofs.lemmas.List.{append-nil}
use Rattle.std.proofs.lemmas.Bool.{eqb-true}
use Rattle.oc_rules.specs.Bytes.{is_part, is_letter, is_small, is_capital, every, heads, same}
use Rattle.oc_rules.specs.Token.{Token, Name, Tyvar, Sign, Lit, is_name}
use Rattle.oc_rules.specs.Lexes.{Lexes, Skips}
use Rattle.oc_rules.specs.Tokens.{Tokens}
use Rattle.oc_rules.proofs.Tests.{both_ways, and_true, or_false, not_of, not_true, unequal, between_is}
use Rattle.oc_rules.proofs.RunKinds.{is_second}
use Rattle.oc_rules.proofs.Longest.{sign_cling, clings}
use Rattle.oc_rules.proofs.Lexing.{taken}
use Rattle.oc_layout.specs.Sheet.{Sheet, spelled, opens, leans, leans_byte, gap, noted, started}
use Rattle.oc_layout.specs.Layout.{Ink, ◌▸◌, here, none, dot, line, body}
use Rattle.oc_layout.proofs.Spelled.{Good, spelled_is}

-- ---- bytes that no token takes along

abbrev pub hard_bytes : List ℕ
hard_bytes = 32 ∷ 10 ∷ 41 ∷ 93 ∷ 125 ∷ 44 ∷ 59 ∷ []

abbrev pub member : ℕ → List ℕ → Bool
member c [] = false
member c (b ∷ bs) = nat_eq c b || member c bs

-- a byte that is no space, line feed or closing mark
abbrev pub loud : ℕ → Bool
loud c = not (member c hard_bytes)

member_is : (p : ℕ → Bool) (bs : List ℕ) (c : ℕ) → every p bs ≡ true → member c bs ≡ true → p c ≡ true
member_is p [] c e m = absurd cc
member_is p (b ∷ bs) c e m = go (λ x. member_is p bs c (and_true (p b) (every p bs) e).1 x) (nat_eq c b) refl
  where
    go : (member c bs ≡ true → p c ≡ true) → (t : Bool) → nat_eq c b ≡ t → p c ≡ true
    go later true y = subst (λ (z : ℕ). p z ≡ true) (sym (eqb-true c b y)) (and_true (p b) (every p bs) e).0
    go later false y = later (sym (ap (λ (z : Bool). z || member c bs) y) ∙ m)

off_all : (t : Token) → every (λ c. not (clings t c)) hard_bytes ≡ true
off_all (Name n) = refl
off_all (Tyvar v) = refl
off_all (Sign s) = refl
off_all (Lit l) = refl

double_not : (b : Bool) → not b ≡ false → b ≡ true
double_not true e = refl
double_not false e = absurd cc

pub hard_apart : (t : Token) (rest : List ℕ) → heads loud rest ≡ false → heads (clings t) rest ≡ false
hard_apart t [] h = refl
hard_apart t (c ∷ rest) h = not_true (clings t c) (member_is (λ c. not (clings t c)) hard_bytes c (off_all t) (double_not (member c hard_bytes) h))

leaning_hard : (t : Token) (rest : List ℕ) → leans t ≡ true → heads loud (spelled t ++ rest) ≡ false
leaning_hard (Name n) rest e = absurd cc
leaning_hard (Tyvar v) rest e = absurd cc
leaning_hard (Sign []) rest e = absurd cc
leaning_hard (Sign (c ∷ [])) rest e = ap not (closing e)
  where
    closing : leans_byte c ≡ true → member c hard_bytes ≡ true
    closing k = leaning c (nat_eq c 41) (nat_eq c 93) (nat_eq c 125) (nat_eq c 44) (nat_eq c 59) (nat_eq c 32) (nat_eq c 10) k
      where
        leaning : (c : ℕ) (a b d e f g h : Bool) → (a || (b || (d || (e || f)))) ≡ true → (g || (h || (a || (b || (d || (e || (f || false))))))) ≡ true
        leaning c true b d e f true h k = refl
        leaning c true b d e f false true k = refl
        leaning c true b d e f false false k = refl
        leaning c false b d e f true h k = refl
        leaning c false b d e f false true k = refl
        leaning c false true d e f false false k = refl
        leaning c false false true e f false false k = refl
        leaning c false false false true f false false k = refl
        leaning c false false false false true false false k = refl
        leaning c false false false false false false false k = absurd cc
leaning_hard (Sign (c ∷ d ∷ s)) rest e = absurd cc
leaning_hard (Lit l) rest e = absurd cc

-- bytes that some sign before them would take along
abbrev pub sticks : ℕ → Bool
sticks c = is_second c || nat_eq c 45

abbrev pub soft : List ℕ → Bool
soft [] = false
soft (c ∷ s) = not (sticks c)

soft_heads : (s rest : List ℕ) → soft s ≡ true → heads sticks (s ++ rest) ≡ false
soft_heads [] rest e = absurd cc
soft_heads (c ∷ s) rest e = not_true (sticks c) e

-- ---- what may follow

-- any tokens; tokens that do not stick to an opening mark, or, where a space comes first, all; what stands apart from a name
abbrev pub Fresh : Sheet → Tokens → Type 0
Fresh s ts = (s.tight ≡ true) × ((rest : List ℕ) (us : Tokens) → Lexes rest us → Lexes (s.written ++ rest) (ts ++ us))

abbrev pub Safe : Bool → List ℕ → Type 0
Safe true rest = heads sticks rest ≡ false
Safe false rest = heads loud rest ≡ false

abbrev pub Ready : Sheet → Tokens → Type 0
Ready s ts = (rest : List ℕ) (us : Tokens) → Safe s.tight rest → Lexes rest us → Lexes (s.written ++ rest) (ts ++ us)

abbrev pub Closed : Sheet → Tokens → Type 0
Closed s ts = (s.tight ≡ false) × Ready s ts

abbrev pub Named : Sheet → Tokens → Type 0
Named s ts = (s.tight ≡ false) × ((rest : List ℕ) (us : Tokens) → heads is_part rest ≡ false → Lexes rest us → Lexes (s.written ++ rest) (ts ++ us))

-- the phrase adds these tokens
pub record Does (P Q : Sheet → Tokens → Type 0) (p : Ink) (xs : Tokens) : Type 0 where
  pub run : (s : Sheet) (ts : Tokens) → P s ts → Q (p s) (ts ++ xs)

pub seq : {P Q T : Sheet → Tokens → Type 0} {p q : Ink} {xs ys : Tokens} → Does P Q p xs → Does Q T q ys → Does P T (p ▸ q) (xs ++ ys)
seq {T = T} {p = p} {q = q} {xs = xs} {ys = ys} f g = record { run = λ s ts h. subst (λ (z : Tokens). T (q (p s)) z) (append_assoc ts xs ys) (g.run (p s) (ts ++ xs) (f.run s ts h)) }

pub closed_ready : (s : Sheet) (ts : Tokens) → Closed s ts → Ready s ts
closed_ready s ts h = h.1

pub fresh_ready : (s : Sheet) (ts : Tokens) → Fresh s ts → Ready s ts
fresh_ready s ts h rest us k l = h.1 rest us l

-- weaker before, or weaker behind
pub cc_of : {Q : Sheet → Tokens → Type 0} {p : Ink} {xs : Tokens} → Does Ready Q p xs → Does Closed Q p xs
cc_of f = record { run = λ s ts h. f.run s ts h.1 }

pub rr_of : {P : Sheet → Tokens → Type 0} {p : Ink} {xs : Tokens} → Does P Closed p xs → Does P Ready p xs
rr_of f = record { run = λ s ts h. (f.run s ts h).1 }

pub fr_of : {Q : Sheet → Tokens → Type 0} {p : Ink} {xs : Tokens} → Does Ready Q p xs → Does Fresh Q p xs
fr_of f = record { run = λ s ts h. f.run s ts (fresh_ready s ts h) }

pub rr_then : {P : Sheet → Tokens → Type 0} {p : Ink} {xs : Tokens} → Does P Fresh p xs → Does P Ready p xs
rr_then {p = p} {xs = xs} f = record { run = λ s ts h. fresh_ready (p s) (ts ++ xs) (f.run s ts h) }

pub nothing : {P : Sheet → Tokens → Type 0} → Does P P none []
nothing {P = P} = record { run = λ s ts h. subst (λ (z : Tokens). P s z) (sym (append-nil ts)) h }

pub here_does : {P Q : Sheet → Tokens → Type 0} {xs : Tokens} {f : ℕ → ℕ → Ink} → ((l i : ℕ) → Does P Q (f l i) xs) → Does P Q (here f) xs
here_does d = record { run = λ s ts h. (d s.line s.item).run s ts h }

-- ---- one token more

moved : (w g x rest : List ℕ) (ts us : Tokens) (t : Token) → Lexes (w ++ (g ++ (x ++ rest))) (ts ++ (t ∷ us)) → Lexes (((w ++ g) ++ x) ++ rest) ((ts ++ (t ∷ [])) ++ us)
moved w g x rest ts us t l =
    let a : ((w ++ g) ++ x) ++ rest ≡ w ++ (g ++ (x ++ rest)) = append_assoc (w ++ g) x rest ∙ append_assoc w g (x ++ rest) in
    let b : (ts ++ (t ∷ [])) ++ us ≡ ts ++ (t ∷ us) = append_assoc ts (t ∷ []) us in
    subst (λ (z : List ℕ). Lexes z ((ts ++ (t ∷ [])) ++ us)) (sym a) (subst (λ (z : Tokens). Lexes (w ++ (g ++ (x ++ rest))) z) (sym b) l)

-- behind the bytes w stands the token, after a space unless there is none to be
one_more : (t : Token) (w : List ℕ) (tight : Bool) (ts : Tokens) → Good t → (tight ≡ true → soft (spelled t) ≡ true)
    → ((rest : List ℕ) (us : Tokens) → Safe tight rest → Lexes rest us → Lexes (w ++ rest) (ts ++ us))
    → (rest : List ℕ) (us : Tokens) → heads (clings t) rest ≡ false → Lexes rest us → Lexes (((w ++ gap (tight || leans t)) ++ spelled t) ++ rest) ((ts ++ (t ∷ [])) ++ us)
one_more t w true ts good front r rest us c l =
    moved w [] (spelled t) rest ts us t (r (spelled t ++ rest) (t ∷ us) (soft_heads (spelled t) rest (front refl)) (taken t (spelled t) rest us (spelled_is t good) c l))
one_more t w false ts good front r rest us c l = go (leans t) refl
  where
    whole : Lexes (spelled t ++ rest) (t ∷ us)
    whole = taken t (spelled t) rest us (spelled_is t good) c l

    go : (b : Bool) → leans t ≡ b → Lexes (((w ++ gap b) ++ spelled t) ++ rest) ((ts ++ (t ∷ [])) ++ us)
    go true e = moved w [] (spelled t) rest ts us t (r (spelled t ++ rest) (t ∷ us) (leaning_hard t rest e) whole)
    go false e = moved w (32 ∷ []) (spelled t) rest ts us t (r (32 ∷ (spelled t ++ rest)) (t ∷ us) refl (Skips (32 ∷ (spelled t ++ rest)) (t ∷ us) 32 (spelled t ++ rest) refl refl whole))

closed_by : (t : Token) → opens t ≡ false → (s : Sheet) (ts : Tokens)
    → ((rest : List ℕ) (us : Tokens) → heads (clings t) rest ≡ false → Lexes rest us → Lexes ((noted t s).written ++ rest) (ts ++ us)) → Closed (noted t s) ts
closed_by t o s ts f = (o, λ rest us k l. f rest us (hard_apart t rest (subst (λ (b : Bool). Safe b rest) o k)) l)

-- a token behind a token
pub after : (t : Token) → Good t → opens t ≡ false → Does Closed Closed (noted t) (t ∷ [])
after t good o = record { run = λ s ts h. closed_by t o s (ts ++ (t ∷ [])) (one_more t s.written s.tight ts good (λ e. absurd (both_ways s.tight e h.0)) h.1) }

-- a token that sticks to no opening mark
pub begins : (t : Token) → Good t → opens t ≡ false → soft (spelled t) ≡ true → Does Ready Closed (noted t) (t ∷ [])
begins t good o front = record { run = λ s ts h. closed_by t o s (ts ++ (t ∷ [])) (one_more t s.written s.tight ts good (λ e. front) h) }

-- a token on a new line
pub lines_up : (t : Token) → Good t → opens t ≡ false → Does Fresh Closed (noted t) (t ∷ [])
lines_up t good o = record { run = λ s ts h. closed_by t o s (ts ++ (t ∷ [])) (subst (λ (b : Bool). (rest : List ℕ) (us : Tokens) → heads (clings t) rest ≡ false → Lexes rest us → Lexes (((s.written ++ gap (b || leans t)) ++ spelled t) ++ rest) ((ts ++ (t ∷ [])) ++ us)) (sym h.0) (fresh s ts h)) }
  where
    fresh : (s : Sheet) (ts : Tokens) (h : Fresh s ts) (rest : List ℕ) (us : Tokens) → heads (clings t) rest ≡ false → Lexes rest us → Lexes (((s.written ++ []) ++ spelled t) ++ rest) ((ts ++ (t ∷ [])) ++ us)
    fresh s ts h rest us c l = moved s.written [] (spelled t) rest ts us t (h.1 (spelled t ++ rest) (t ∷ us) (taken t (spelled t) rest us (spelled_is t good) c l))

both_false : (b : Bool) → (b && false) ≡ false
both_false true = refl
both_false false = refl

open_apart : (m rest : List ℕ) → same m (95 ∷ []) ≡ false → heads sticks rest ≡ false → heads (sign_cling m) rest ≡ false
open_apart m [] under e = refl
open_apart m (c ∷ rest) under e =
    let h = or_false (is_second c) (nat_eq c 45) e in
    let third : (is_part c && same m (95 ∷ [])) ≡ false = ap (λ (b : Bool). is_part c && b) under ∙ both_false (is_part c) in
    ap (λ (b : Bool). b || (nat_eq c 45 || (is_part c && same m (95 ∷ [])))) h.0 ∙ (ap (λ (b : Bool). b || (is_part c && same m (95 ∷ []))) h.1 ∙ third)

-- an opening mark
pub opening : (m : List ℕ) → Good (Sign m) → opens (Sign m) ≡ true → soft m ≡ true → same m (95 ∷ []) ≡ false → Does Ready Ready (noted (Sign m)) (Sign m ∷ [])
opening m good o front under = record {
  run = λ s ts h rest us k l.
      one_more (Sign m) s.written s.tight ts good (λ e. front) h rest us (open_apart m rest under (subst (λ (b : Bool). Safe b rest) o k)) l;
}

pub named_closed : {P : Sheet → Tokens → Type 0} {p : Ink} {xs : Tokens} → Does P Named p xs → Does P Closed p xs
named_closed f = record { run = λ s ts h. let n = f.run s ts h in (n.0, λ rest us k l. n.1 rest us (hard_apart (Name []) rest (subst (λ (b : Bool). Safe b rest) n.0 k)) l) }

letter_range : (c : ℕ) → is_letter c ≡ true → (65 ≤ c) × (c ≤ 122)
letter_range c l = go (is_small c) refl l
  where
    go : (b : Bool) → is_small c ≡ b → (b || is_capital c) ≡ true → (65 ≤ c) × (c ≤ 122)
    go true z w = let h = between_is 97 122 c z in let a = h.0 in (omega (arith, a), h.1)
    go false z w = let h = between_is 65 90 c w in let a = h.1 in (h.0, omega (arith, a))

letter_soft : (c : ℕ) → is_letter c ≡ true → sticks c ≡ false
letter_soft c l =
    let h = letter_range c l in
    let low = h.0 in
    let high = h.1 in
    let a = unequal c 62 (λ e. omega (arith, e, low)) in
    let b = unequal c 61 (λ e. omega (arith, e, low)) in
    let d = unequal c 58 (λ e. omega (arith, e, low)) in
    let f = unequal c 124 (λ e. omega (arith, e, high)) in
    let g = unequal c 38 (λ e. omega (arith, e, low)) in
    let i = unequal c 45 (λ e. omega (arith, e, low)) in
    rw a (rw b (rw d (rw f (rw g (rw i refl)))))

pub name_soft : (n : List ℕ) → is_name n ≡ true → soft n ≡ true
name_soft [] e = absurd cc
name_soft (c ∷ s) e = not_of (sticks c) (letter_soft c (and_true (is_letter c) (every is_part s) e).0)

-- a name, and what stands apart from it
pub name_begins : (n : List ℕ) → is_name n ≡ true → Does Ready Named (noted (Name n)) (Name n ∷ [])
name_begins n good = record { run = λ s ts h. (refl, one_more (Name n) s.written s.tight ts good (λ e. name_soft n good) h) }

letter_apart : (n rest : List ℕ) → is_name n ≡ true → heads (sign_cling (46 ∷ [])) (n ++ rest) ≡ false
letter_apart [] rest e = absurd cc
letter_apart (c ∷ s) rest e = open_apart (46 ∷ []) (c ∷ (s ++ rest)) refl (letter_soft c (and_true (is_letter c) (every is_part s) e).0)

-- a dot and a name right behind a name
pub dotted : (n : List ℕ) → is_name n ≡ true → Does Named Named (dot ▸ noted (Name n)) (Sign (codes ".") ∷ Name n ∷ [])
dotted n good = record { run = λ s ts h. (refl, λ rest us k l. go s.written ts h.1 rest us k l) }
  where
    go : (w : List ℕ) (ts : Tokens) → ((rest : List ℕ) (us : Tokens) → heads is_part rest ≡ false → Lexes rest us → Lexes (w ++ rest) (ts ++ us))
        → (rest : List ℕ) (us : Tokens) → heads is_part rest ≡ false → Lexes rest us → Lexes (((((w ++ []) ++ (46 ∷ [])) ++ []) ++ n) ++ rest) ((ts ++ (Sign (codes ".") ∷ Name n ∷ [])) ++ us)
    go w ts f rest us k l =
        let one : Lexes (n ++ rest) (Name n ∷ us) = taken (Name n) n rest us (refl, good) k l in
        let two : Lexes (46 ∷ (n ++ rest)) (Sign (codes ".") ∷ Name n ∷ us) = taken (Sign (codes ".")) (46 ∷ []) (n ++ rest) (Name n ∷ us) (refl, refl) (letter_apart n rest good) one in
        let all : Lexes (w ++ (46 ∷ (n ++ rest))) (ts ++ (Sign (codes ".") ∷ Name n ∷ us)) = f (46 ∷ (n ++ rest)) (Sign (codes ".") ∷ Name n ∷ us) refl two in
        let a : ((((w ++ []) ++ (46 ∷ [])) ++ []) ++ n) ++ rest ≡ w ++ (46 ∷ (n ++ rest)) =
        ap (λ (z : List ℕ). (z ++ n) ++ rest) (append-nil ((w ++ []) ++ (46 ∷ []))) ∙ (ap (λ (z : List ℕ). ((z ++ (46 ∷ [])) ++ n) ++ rest) (append-nil w) ∙ (append_assoc (w ++ (46 ∷ [])) n rest ∙ append_assoc w (46 ∷ []) (n ++ rest))) in
        let b : (ts ++ (Sign (codes ".") ∷ Name n ∷ [])) ++ us ≡ ts ++ (Sign (codes ".") ∷ Name n ∷ us) = append_assoc ts (Sign (codes ".") ∷ Name n ∷ []) us in
        subst (λ (z : List ℕ). Lexes z ((ts ++ (Sign (codes ".") ∷ Name n ∷ [])) ++ us)) (sym a) (subst (λ (z : Tokens). Lexes (w ++ (46 ∷ (n ++ rest))) z) (sym b) all)

-- a new line
spaces : (n : ℕ) (rest : List ℕ) (us : Tokens) → Lexes rest us → Lexes (replicate n 32 ++ rest) us
spaces zero rest us l = l
spaces (suc n) rest us l = Skips (32 ∷ (replicate n 32 ++ rest)) us 32 (replicate n 32 ++ rest) refl refl (spaces n rest us l)

safe_line : (b : Bool) (rest : List ℕ) → Safe b (10 ∷ rest)
safe_line true rest = refl
safe_line false rest = refl

pub new_line : (n m : ℕ) → Does Ready Fresh (started n m) []
new_line n m = record { run = λ s ts h. (refl, λ rest us l. go s.written s.tight ts h rest us l) }
  where
    go : (w : List ℕ) (t : Bool) (ts : Tokens) → ((rest : List ℕ) (us : Tokens) → Safe t rest → Lexes rest us → Lexes (w ++ rest) (ts ++ us))
        → (rest : List ℕ) (us : Tokens) → Lexes rest us → Lexes (((w ++ (10 ∷ [])) ++ replicate n 32) ++ rest) ((ts ++ []) ++ us)
    go w t ts f rest us l =
        let all : Lexes (w ++ (10 ∷ (replicate n 32 ++ rest))) (ts ++ us) = f (10 ∷ (replicate n 32 ++ rest)) us (safe_line t (replicate n 32 ++ rest)) (Skips (10 ∷ (replicate n 32 ++ rest)) us 10 (replicate n 32 ++ rest) refl refl (spaces n rest us l)) in
        let a : ((w ++ (10 ∷ [])) ++ replicate n 32) ++ rest ≡ w ++ (10 ∷ (replicate n 32 ++ rest)) = append_assoc (w ++ (10 ∷ [])) (replicate n 32) rest ∙ append_assoc w (10 ∷ []) (replicate n 32 ++ rest) in
        subst (λ (z : List ℕ). Lexes z ((ts ++ []) ++ us)) (sym a) (subst (λ (z : Tokens). Lexes (w ++ (10 ∷ (replicate n 32 ++ rest))) (z ++ us)) (sym (append-nil ts)) all)

pub line_does : (n : ℕ) → Does Ready Fresh (line n) []
line_does n = record { run = λ s ts h. (new_line n s.item).run s ts h }

pub body_does : Does Ready Fresh body []
body_does = record { run = λ s ts h. (new_line (s.item + 2) s.item).run s ts h }
