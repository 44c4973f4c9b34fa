-- Names for the constructors of patterns are there exactly where those of a datatype say one number and are not more.
use Rattle.std.proofs.Common.{◌≡◌, ℕ, zero, suc, ◌+◌, ◌-◌, ◌<◌, ◌≤◌, List, [], ◌∷◌, ◌++◌, length, Bool, true, false, ◌&&◌, ◌||◌, not, cond, eqb, ltb, refl, sym, ap, ◌∙◌, subst, arith, inl, inr, ◌↔◌, IsTrue, eq-eqb, ltb-true, lt-ltb, length-append}
use Rattle.std.specs.List.{list_all, list_any}
use Rattle.std.specs.Str.{bytes_eq}
use Rattle.std.proofs.lemmas.Bool.{and_parts, and_from, or_from, or_left, or_right, or_cases, cases_Bool, not-true, false_from_ne_true, eqb-true, cases_lt}
use Rattle.std.proofs.lemmas.Slice.Eq.{bytes_eq-Decides}
use Rattle.sml_static.specs.Shapes.{Of, Exn, Pattern, Wild, Parts, Cell, Literal, Made}
use Rattle.sml_static.specs.Exhaustive.{is_same_head, is_named, are_named}
use Rattle.sml_static.specs.WellFormed.{are_distinct}
use Rattle.match_use.specs.Alike.{agree, AreOfOneType}
use Rattle.match_use.specs.Standing.{Standing, standing_in, all_standing, is_of, is_alike, counts_agree, all_counts_agree, names_of, is_few, each_few}
use Rattle.match_use.proofs.Tests.{all-imp}
use Rattle.match_use.proofs.Pigeons.{free}
use Rattle.match_use.proofs.Others.{named_heads, names_unlike, names_have, length-names, names_all, zeros, length-zeros}

contrary : {b : Bool} → b ≡ false → b ≡ true → ⊥
contrary x y = cc

un_not : (b : Bool) → not b ≡ true → b ≡ false
un_not true e = cc
un_not false e = refl

-- tests of joined lists
all-append : {X : Type 0} (t : X → Bool) (xs ys : List X) → list_all t (xs ++ ys) ≡ (list_all t xs && list_all t ys)
all-append t [] ys = refl
all-append t (x ∷ xs) ys = ap (λ b. t x && b) (all-append t xs ys) ∙ assoc (t x) (list_all t xs) (list_all t ys)
  where
    assoc : (a b c : Bool) → (a && (b && c)) ≡ ((a && b) && c)
    assoc true b c = refl
    assoc false b c = refl

any-append : {X : Type 0} (t : X → Bool) (xs ys : List X) → list_any t (xs ++ ys) ≡ (list_any t xs || list_any t ys)
any-append t [] ys = refl
any-append t (x ∷ xs) ys = ap (λ b. t x || b) (any-append t xs ys) ∙ assoc (t x) (list_any t xs) (list_any t ys)
  where
    assoc : (a b c : Bool) → (a || (b || c)) ≡ ((a || b) || c)
    assoc true b c = refl
    assoc false b c = refl

-- whether a constructor's datatype has these names, its own among them
abbrev named_at : (ℕ → List (List ℕ)) → Standing → Bool
named_at names c = is_named names c.count (Of c.datatype c.name)

named_in : (names : ℕ → List (List ℕ)) (p : Pattern) → are_named names p ≡ list_all (named_at names) (standing_in p)
named_in names Wild = refl
named_in names (Parts p q) = ap (λ b. b && are_named names q) (named_in names p) ∙ ap (λ b. list_all (named_at names) (standing_in p) && b) (named_in names q) ∙ sym (all-append (named_at names) (standing_in p) (standing_in q))
named_in names (Cell p) = named_in names p
named_in names (Literal l) = refl
named_in names (Made (Of d x) n p) = ap (λ b. is_named names n (Of d x) && b) (named_in names p)
named_in names (Made (Exn q) n p) = named_in names p

all_named : (names : ℕ → List (List ℕ)) (ps : List Pattern) → list_all (are_named names) ps ≡ list_all (named_at names) (all_standing ps)
all_named names [] = refl
all_named names (p ∷ ps) = ap (λ b. b && list_all (are_named names) ps) (named_in names p) ∙ ap (λ b. list_all (named_at names) (standing_in p) && b) (all_named names ps) ∙ sym (all-append (named_at names) (standing_in p) (all_standing ps))

record NamedAt (names : ℕ → List (List ℕ)) (c : Standing) : Type 0 where
  size : length (names c.datatype) ≡ c.count
  distinct : are_distinct (names c.datatype) ≡ true
  own : list_any (bytes_eq c.name) (names c.datatype) ≡ true

named_parts : (names : ℕ → List (List ℕ)) (c : Standing) → named_at names c ≡ true → NamedAt names c
named_parts names c e =
    let a = and_parts (eqb (length (names c.datatype)) c.count && are_distinct (names c.datatype)) (list_any (bytes_eq c.name) (names c.datatype)) e in
    let b = and_parts (eqb (length (names c.datatype)) c.count) (are_distinct (names c.datatype)) a.0 in
    record { size = eqb-true (length (names c.datatype)) c.count b.0; distinct = b.1; own = a.1 }

-- names that are there say one number for a datatype
one_count : (names : ℕ → List (List ℕ)) (c e : Standing) → named_at names c ≡ true → named_at names e ≡ true → counts_agree c e ≡ true
one_count names c e p q = elim (cases_Bool (eqb c.datatype e.datatype)) [
  | inr f ↦ or_left (not (eqb c.datatype e.datatype)) _ (ap not f)
  | inl t ↦
      let same = eqb-true c.datatype e.datatype t in
      or_right (not (eqb c.datatype e.datatype)) _ (eq-eqb c.count e.count (sym (named_parts names c p).size ∙ ap (λ d. length (names d)) same ∙ (named_parts names e q).size))
]

one_counts : (names : ℕ → List (List ℕ)) (cs : List Standing) → list_all (named_at names) cs ≡ true → all_counts_agree cs ≡ true
one_counts names cs e = all-imp (named_at names) (λ c. list_all (counts_agree c) cs) (λ c p. all-imp (named_at names) (counts_agree c) (λ g q. one_count names c g p q) cs e) cs e

-- distinct names that are among others are not more
distinct_few : (xs ys : List (List ℕ)) → are_distinct xs ≡ true → list_all (λ x. list_any (bytes_eq x) ys) xs ≡ true → length xs ≤ length ys
distinct_few xs ys d a = elim (cases_lt (length ys) (length xs)) [
  | inr le ↦ le
  | inl l ↦
      let r = free (named_heads 0 0 xs) (named_heads 0 0 ys) (names_unlike 0 0 xs d) (subst (λ n. n < length (named_heads 0 0 xs)) (sym (length-names 0 0 ys)) (subst (λ n. length ys < n) (sym (length-names 0 0 xs)) l)) in
      let one = r.among.passes (λ h. list_any (is_same_head h) (named_heads 0 0 ys)) (names_all (λ h. list_any (is_same_head h) (named_heads 0 0 ys)) 0 0 ys xs (λ x e. names_have 0 0 0 x ys e) a) in
      absurd (contrary r.alike one)
]

cond_cases : {A : Type 0} (P : A → Type 0) (b : Bool) (x y : A) → (b ≡ true → P x) → (b ≡ false → P y) → P (cond b x y)
cond_cases P true x y f g = f refl
cond_cases P false x y f g = g refl

-- the names of a datatype are those of its constructors
names_all_of : (t : List ℕ → Bool) (d : ℕ) (cs : List Standing) → list_all (λ c. not (is_of d c) || t c.name) cs ≡ true → list_all t (names_of d cs) ≡ true
names_all_of t d [] e = refl
names_all_of t d (c ∷ cs) e =
    let a = and_parts (not (is_of d c) || t c.name) (list_all (λ c. not (is_of d c) || t c.name) cs) e in
    let r = names_all_of t d cs a.1 in
    cond_cases (λ (xs : List (List ℕ)). list_all t xs ≡ true) (is_of d c && not (list_any (is_alike c) cs)) (c.name ∷ names_of d cs) (names_of d cs)
    (λ b. and_from (t c.name) _ (holds (is_of d c) (t c.name) (and_parts (is_of d c) (not (list_any (is_alike c) cs)) b).0 a.0) r)
    (λ b. r)
  where
    holds : (x y : Bool) → x ≡ true → (not x || y) ≡ true → y ≡ true
    holds true y p q = q
    holds false y p q = cc

-- a name is among them where it is the name of an alike constructor
name_here : (c e : Standing) → is_alike c e ≡ true → (c.datatype ≡ e.datatype) × (c.name ≡ e.name)
name_here c e h = let a = and_parts (eqb c.datatype e.datatype) (bytes_eq c.name e.name) h in (eqb-true c.datatype e.datatype a.0, (bytes_eq-Decides c.name e.name).0 a.1)

alike_from : (c e : Standing) → c.datatype ≡ e.datatype → c.name ≡ e.name → is_alike c e ≡ true
alike_from c e p q = and_from (eqb c.datatype e.datatype) _ (eq-eqb c.datatype e.datatype p) ((bytes_eq-Decides c.name e.name).1 q)

any-imp : {X : Type 0} (p q : X → Bool) → ((x : X) → p x ≡ true → q x ≡ true) → (xs : List X) → list_any p xs ≡ true → list_any q xs ≡ true
any-imp p q h [] e = cc
any-imp p q h (x ∷ xs) e = elim (or_cases (p x) (list_any p xs) e) [ inl a ↦ or_left (q x) _ (h x a) | inr a ↦ or_right (q x) _ (any-imp p q h xs a) ]

names_hold : (c : Standing) (cs : List Standing) → list_any (is_alike c) cs ≡ true → list_any (bytes_eq c.name) (names_of c.datatype cs) ≡ true
names_hold c [] h = cc
names_hold c (e ∷ cs) h =
    cond_cases (λ (xs : List (List ℕ)). list_any (bytes_eq c.name) xs ≡ true) (is_of c.datatype e && not (list_any (is_alike e) cs)) (e.name ∷ names_of c.datatype cs) (names_of c.datatype cs)
    (λ b. elim (or_cases (is_alike c e) (list_any (is_alike c) cs) h) [
      | inl a ↦ or_left (bytes_eq c.name e.name) _ ((and_parts (eqb c.datatype e.datatype) (bytes_eq c.name e.name) a).1)
      | inr a ↦ or_right (bytes_eq c.name e.name) _ (names_hold c cs a)
    ])
    (λ b. elim (or_cases (is_alike c e) (list_any (is_alike c) cs) h) [
      | inl a ↦ names_hold c cs (later a b)
      | inr a ↦ names_hold c cs a
    ])
  where
    later : is_alike c e ≡ true → (is_of c.datatype e && not (list_any (is_alike e) cs)) ≡ false → list_any (is_alike c) cs ≡ true
    later a b =
        let s = name_here c e a in
        any-imp (is_alike e) (is_alike c) (λ g k. let r = name_here e g k in alike_from c g (s.0 ∙ r.0) (s.1 ∙ r.1)) cs
        (left_over (is_of c.datatype e) (list_any (is_alike e) cs) (eq-eqb e.datatype c.datatype (sym s.0)) b)
      where
        left_over : (x y : Bool) → x ≡ true → (x && not y) ≡ false → y ≡ true
        left_over true true p q = refl
        left_over true false p q = cc
        left_over false y p q = cc

names_from : (d : ℕ) (c : Standing) (cs : List Standing) → c.datatype ≡ d → list_any (bytes_eq c.name) (names_of d cs) ≡ true → list_any (is_alike c) cs ≡ true
names_from d c [] p h = cc
names_from d c (e ∷ cs) p h =
    cond_cases (λ (xs : List (List ℕ)). list_any (bytes_eq c.name) xs ≡ true → list_any (is_alike c) (e ∷ cs) ≡ true) (is_of d e && not (list_any (is_alike e) cs)) (e.name ∷ names_of d cs) (names_of d cs)
    (λ b g. elim (or_cases (bytes_eq c.name e.name) (list_any (bytes_eq c.name) (names_of d cs)) g) [
      | inl a ↦ or_left (is_alike c e) _ (alike_from c e (p ∙ sym (eqb-true e.datatype d (and_parts (is_of d e) (not (list_any (is_alike e) cs)) b).0)) ((bytes_eq-Decides c.name e.name).0 a))
      | inr a ↦ or_right (is_alike c e) _ (names_from d c cs p a)
    ])
    (λ b g. or_right (is_alike c e) _ (names_from d c cs p g))
    h

names_distinct : (d : ℕ) (cs : List Standing) → are_distinct (names_of d cs) ≡ true
names_distinct d [] = refl
names_distinct d (c ∷ cs) =
    cond_cases (λ (xs : List (List ℕ)). are_distinct xs ≡ true) (is_of d c && not (list_any (is_alike c) cs)) (c.name ∷ names_of d cs) (names_of d cs)
    (λ b.
    let a = and_parts (is_of d c) (not (list_any (is_alike c) cs)) b in
    and_from (not (list_any (bytes_eq c.name) (names_of d cs))) _
    (ap not (false_from_ne_true (list_any (bytes_eq c.name) (names_of d cs)) (λ h. contrary (un_not (list_any (is_alike c) cs) a.1) (names_from d c cs (eqb-true c.datatype d a.0) h))))
    (names_distinct d cs))
    (λ b. names_distinct d cs)

-- names that are there are enough
few_at : (names : ℕ → List (List ℕ)) (cs : List Standing) → list_all (named_at names) cs ≡ true → (c : Standing) → named_at names c ≡ true → is_few cs c ≡ true
few_at names cs e c p =
    let n = named_parts names c p in
    let among = names_all_of (λ x. list_any (bytes_eq x) (names c.datatype)) c.datatype cs
    (all-imp (named_at names) (λ g. not (is_of c.datatype g) || list_any (bytes_eq g.name) (names c.datatype)) (λ g q. own g q) cs e) in
    let le = distinct_few (names_of c.datatype cs) (names c.datatype) (names_distinct c.datatype cs) among in
    ap not (false_from_ne_true (ltb c.count (length (names_of c.datatype cs))) (λ h. let l = ltb-true c.count (length (names_of c.datatype cs)) h in let s = n.size in omega arith))
  where
    own : (g : Standing) → named_at names g ≡ true → (not (is_of c.datatype g) || list_any (bytes_eq g.name) (names c.datatype)) ≡ true
    own g q = elim (cases_Bool (is_of c.datatype g)) [
      | inr f ↦ or_left (not (is_of c.datatype g)) _ (ap not f)
      | inl t ↦ or_right (not (is_of c.datatype g)) _ (subst (λ d. list_any (bytes_eq g.name) (names d) ≡ true) (eqb-true g.datatype c.datatype t) (named_parts names g q).own)
    ]

each_from : (all cs : List Standing) → list_all (is_few all) cs ≡ true → each_few all cs ≡ true
each_from all [] e = refl
each_from all (c ∷ cs) e = let a = and_parts (is_few all c) (list_all (is_few all) cs) e in and_from (list_any (is_of c.datatype) cs || is_few all c) _ (or_right (list_any (is_of c.datatype) cs) _ a.0) (each_from all cs a.1)

enough : (names : ℕ → List (List ℕ)) (cs : List Standing) → list_all (named_at names) cs ≡ true → each_few cs cs ≡ true
enough names cs e = each_from cs cs (all-imp (named_at names) (is_few cs) (few_at names cs e) cs e)

-- what is asked of the last of a datatype holds of each, where they say one number
few_alike : (all : List Standing) (c e : Standing) → is_of c.datatype e ≡ true → counts_agree c e ≡ true → is_few all e ≡ true → is_few all c ≡ true
few_alike all c e o k f =
    let d = eqb-true e.datatype c.datatype o in
    let n = eqb-true c.count e.count (agreed (eqb c.datatype e.datatype) (eqb c.count e.count) (eq-eqb c.datatype e.datatype (sym d)) k) in
    subst (λ m. not (ltb m (length (names_of c.datatype all))) ≡ true) (sym n) (subst (λ m. not (ltb e.count (length (names_of m all))) ≡ true) d f)
  where
    agreed : (x y : Bool) → x ≡ true → (not x || y) ≡ true → y ≡ true
    agreed true y p q = q
    agreed false y p q = cc

few_later : (all : List Standing) (c : Standing) (cs : List Standing) → list_any (is_of c.datatype) cs ≡ true → list_all (counts_agree c) cs ≡ true → list_all (is_few all) cs ≡ true → is_few all c ≡ true
few_later all c [] o k f = cc
few_later all c (e ∷ cs) o k f =
    let a = and_parts (counts_agree c e) (list_all (counts_agree c) cs) k in
    let b = and_parts (is_few all e) (list_all (is_few all) cs) f in
    elim (or_cases (is_of c.datatype e) (list_any (is_of c.datatype) cs) o) [ inl h ↦ few_alike all c e h a.0 b.0 | inr h ↦ few_later all c cs h a.1 b.1 ]

few_all : (all cs : List Standing) → each_few all cs ≡ true → all_counts_agree cs ≡ true → list_all (is_few all) cs ≡ true
few_all all [] e k = refl
few_all all (c ∷ cs) e k =
    let a = and_parts (list_any (is_of c.datatype) cs || is_few all c) (each_few all cs) e in
    let b = and_parts (counts_agree c c && list_all (counts_agree c) cs) (list_all (λ g. list_all (counts_agree g) (c ∷ cs)) cs) k in
    let own = (and_parts (counts_agree c c) (list_all (counts_agree c) cs) b.0).1 in
    let rest = few_all all cs a.1 (all-imp (λ g. list_all (counts_agree g) (c ∷ cs)) (λ g. list_all (counts_agree g) cs) (λ g h. (and_parts (counts_agree g c) (list_all (counts_agree g) cs) h).1) cs b.1) in
    and_from (is_few all c) _ (elim (or_cases (list_any (is_of c.datatype) cs) (is_few all c) a.0) [ inl h ↦ few_later all c cs h own rest | inr h ↦ h ]) rest

-- more names, each longer than those there
longest : List (List ℕ) → ℕ
longest [] = 0
longest (x ∷ xs) = length x + longest xs

more : ℕ → ℕ → List (List ℕ)
more k zero = []
more k (suc n) = zeros k ∷ more (suc k) n

length-more : (k n : ℕ) → length (more k n) ≡ n
unfolding more
length-more k zero = refl
length-more k (suc n) = ap suc (length-more (suc k) n)

none_shorter : (x : List ℕ) (k n : ℕ) → length x < k → list_any (bytes_eq x) (more k n) ≡ false
unfolding more
none_shorter x k zero l = refl
none_shorter x k (suc n) l = or_from (bytes_eq x (zeros k)) _ (false_from_ne_true (bytes_eq x (zeros k)) (λ e. let q = ap length ((bytes_eq-Decides x (zeros k)).0 e) ∙ length-zeros k in omega arith)) (none_shorter x (suc k) n (omega arith))

more_distinct : (k n : ℕ) → are_distinct (more k n) ≡ true
unfolding more
more_distinct k zero = refl
more_distinct k (suc n) = and_from (not (list_any (bytes_eq (zeros k)) (more (suc k) n))) _ (ap not (none_shorter (zeros k) (suc k) n (let z = length-zeros k in omega arith))) (more_distinct (suc k) n)

with_more : (xs : List (List ℕ)) (k n : ℕ) → longest xs < k → are_distinct xs ≡ true → are_distinct (xs ++ more k n) ≡ true
unfolding longest
with_more [] k n l d = more_distinct k n
with_more (x ∷ xs) k n l d =
    let a = and_parts (not (list_any (bytes_eq x) xs)) (are_distinct xs) d in
    and_from (not (list_any (bytes_eq x) (xs ++ more k n))) _
    (ap not (any-append (bytes_eq x) xs (more k n) ∙ or_from (list_any (bytes_eq x) xs) _ (un_not (list_any (bytes_eq x) xs) a.0) (none_shorter x k n (omega arith))))
    (with_more xs k n (omega arith) a.1)

-- how many constructors a datatype has, as the first of them says
count_of : ℕ → List Standing → ℕ
count_of d [] = 0
count_of d (c ∷ cs) = cond (is_of d c) c.count (count_of d cs)

count_said : (c : Standing) (cs : List Standing) → list_all (counts_agree c) cs ≡ true → list_any (is_of c.datatype) cs ≡ true → count_of c.datatype cs ≡ c.count
unfolding count_of
count_said c [] k o = cc
count_said c (e ∷ cs) k o =
    let a = and_parts (counts_agree c e) (list_all (counts_agree c) cs) k in
    cond_cases (λ n. n ≡ c.count) (is_of c.datatype e) e.count (count_of c.datatype cs)
    (λ b. sym (eqb-true c.count e.count (agreed (eqb c.datatype e.datatype) (eqb c.count e.count) (eq-eqb c.datatype e.datatype (sym (eqb-true e.datatype c.datatype b))) a.0)))
    (λ b. count_said c cs a.1 (later (is_of c.datatype e) (list_any (is_of c.datatype) cs) b o))
  where
    agreed : (x y : Bool) → x ≡ true → (not x || y) ≡ true → y ≡ true
    agreed true y p q = q
    agreed false y p q = cc

    later : (x y : Bool) → x ≡ false → (x || y) ≡ true → y ≡ true
    later true y p q = cc
    later false y p q = q

-- names for all datatypes
made_names : List Standing → ℕ → List (List ℕ)
made_names cs d = names_of d cs ++ more (suc (longest (names_of d cs))) (count_of d cs - length (names_of d cs))

made_at : (cs : List Standing) (c : Standing) → list_all (counts_agree c) cs ≡ true → is_few cs c ≡ true → list_any (is_alike c) cs ≡ true → named_at (made_names cs) c ≡ true
unfolding made_names
made_at cs c k f o =
    let d = c.datatype in
    let xs = names_of c.datatype cs in
    let n = count_of c.datatype cs - length (names_of c.datatype cs) in
    let base = suc (longest (names_of c.datatype cs)) in
    let said = count_said c cs k (any-imp (is_alike c) (is_of c.datatype) (λ e h. eq-eqb e.datatype c.datatype (sym (name_here c e h).0)) cs o) in
    let le : length (names_of c.datatype cs) ≤ c.count = elim (cases_lt c.count (length (names_of c.datatype cs))) [
      | inr l ↦ l
      | inl l ↦ absurd (contrary (not-true (ltb c.count (length (names_of c.datatype cs))) f) (lt-ltb c.count (length (names_of c.datatype cs)) l))
    ] in
    let sum = length-append xs (more base n) ∙ ap (λ m. length xs + m) (length-more base n) in
    let size : length (xs ++ more base n) ≡ c.count = omega (arith, sum, said, le) in
    and_from (eqb (length (xs ++ more base n)) c.count && are_distinct (xs ++ more base n)) _
    (and_from (eqb (length (xs ++ more base n)) c.count) _ (eq-eqb _ _ size) (with_more xs base n (omega arith) (names_distinct c.datatype cs)))
    (any-append (bytes_eq c.name) xs (more base n) ∙ or_left (list_any (bytes_eq c.name) xs) _ (names_hold c cs o))

self_alike : (cs : List Standing) → list_all (λ c. list_any (is_alike c) cs) cs ≡ true
self_alike cs = own cs (λ c h. h)
  where
    own : (es : List Standing) → ((c : Standing) → list_any (is_alike c) es ≡ true → list_any (is_alike c) cs ≡ true) → list_all (λ c. list_any (is_alike c) cs) es ≡ true
    own [] h = refl
    own (e ∷ es) h = and_from (list_any (is_alike e) cs) _ (h e (or_left (is_alike e e) _ (alike_from e e refl refl))) (own es (λ c k. h c (or_right (is_alike c e) _ k)))

made : (cs : List Standing) → all_counts_agree cs ≡ true → each_few cs cs ≡ true → list_all (named_at (made_names cs)) cs ≡ true
made cs k e = each cs k (few_all cs cs e k) (self_alike cs)
  where
    each : (es : List Standing) → list_all (λ c. list_all (counts_agree c) cs) es ≡ true → list_all (is_few cs) es ≡ true → list_all (λ c. list_any (is_alike c) cs) es ≡ true → list_all (named_at (made_names cs)) es ≡ true
    each [] p q r = refl
    each (c ∷ es) p q r =
        let a = and_parts (list_all (counts_agree c) cs) (list_all (λ c. list_all (counts_agree c) cs) es) p in
        let b = and_parts (is_few cs c) (list_all (is_few cs) es) q in
        let d = and_parts (list_any (is_alike c) cs) (list_all (λ c. list_any (is_alike c) cs) es) r in
        and_from (named_at (made_names cs) c) _ (made_at cs c a.0 b.0 d.0) (each es a.1 b.1 d.1)

-- the three tests are the condition
pub tested : (ps : List Pattern) (few : Bool) → few ≡ each_few (all_standing ps) (all_standing ps) → list_all (λ p. list_all (agree p) ps) ps ≡ true → all_counts_agree (all_standing ps) ≡ true
    → IsTrue few ↔ AreOfOneType ps
tested ps few e a k = (
  λ f. record { agreeing = a; names = made_names (all_standing ps); named = all_named (made_names (all_standing ps)) ps ∙ made (all_standing ps) k (sym e ∙ f) },
  λ t. e ∙ enough t.names (all_standing ps) (sym (all_named t.names ps) ∙ t.named),
)

pub apart : (ps : List Pattern) → list_all (λ p. list_all (agree p) ps) ps ≡ false → IsTrue false ↔ AreOfOneType ps
apart ps e = (λ f. absurd (contrary {b = false} refl f), λ t. absurd (contrary e t.agreeing))

pub miscounted : (ps : List Pattern) → all_counts_agree (all_standing ps) ≡ false → IsTrue false ↔ AreOfOneType ps
miscounted ps e = (λ f. absurd (contrary {b = false} refl f), λ t. absurd (contrary e (one_counts t.names (all_standing ps) (sym (all_named t.names ps) ∙ t.named))))
