-- A type has others than the heads of a column exactly where `has_others` says so.
use Rattle.std.proofs.Common.{◌≡◌, ℕ, zero, suc, ◌+◌, ◌<◌, ◌≤◌, pos, List, [], ◌∷◌, map, length, Bool, true, false, ◌&&◌, ◌||◌, not, eqb, ltb, refl, sym, ap, ◌∙◌, subst, arith, inl, inr, ltb-true, lt-ltb, eq-eqb}
use Rattle.std.specs.List.{list_all, list_any, range_with_len}
use Rattle.std.specs.Str.{bytes_eq}
use Rattle.std.proofs.lemmas.Bool.{and_parts, and_from, and_right, or_parts, or_left, or_right, or_cases, false_from_ne_true, cases_eq, eqb-true}
use Rattle.tl_text.specs.declared.lit.Lit.{Lit}
use Rattle.tl_text.specs.declared.lit.Lit.TheVariants as lit
use Rattle.sml_static.specs.Shapes.{Key, Of, Exn, is_same_key, is_other_key, is_same_literal, is_other_literal}
use Rattle.sml_static.specs.Exhaustive.{Head, HeadLiteral, HeadKey, Another, is_same_head, has_others, is_named, can_stand, can_be_made}
use Rattle.sml_static.specs.WellFormed.{are_distinct}
use Rattle.match_use.specs.Heads.{stands}
use Rattle.match_use.proofs.Equal.{same_key-true, literal_type, literal_types, key_types}
use Rattle.std.proofs.lemmas.Bool.Decides.{Decides-int_eq}
use Rattle.std.proofs.lemmas.Slice.Eq.{bytes_eq-Decides}
use Rattle.match_use.proofs.Pigeons.{are_unlike, Free, free, room}
use Rattle.match_use.proofs.FirstColumn.{is_typed, keyed}

-- candidates with numbers
later_unlike : (f : ℕ → Head) → ((i j : ℕ) → is_same_head (f i) (f j) ≡ true → i ≡ j) → (a b n : ℕ) → a < b → list_all (λ x. not (is_same_head (f a) x)) (map f (range_with_len b n)) ≡ true
later_unlike f inj a b zero l = refl
later_unlike f inj a b (suc n) l =
    and_from (not (is_same_head (f a) (f b))) _ (ap not (false_from_ne_true (is_same_head (f a) (f b)) (λ e. let q = inj a b e in omega arith))) (later_unlike f inj a (b + 1) n (omega arith))

range_unlike : (f : ℕ → Head) → ((i j : ℕ) → is_same_head (f i) (f j) ≡ true → i ≡ j) → (a n : ℕ) → are_unlike (map f (range_with_len a n)) ≡ true
range_unlike f inj a zero = refl
range_unlike f inj a (suc n) =
    and_from (list_all (λ x. not (is_same_head (f a) x)) (map f (range_with_len (a + 1) n))) _ (later_unlike f inj a (a + 1) n (omega arith)) (range_unlike f inj (a + 1) n)

range_length : (f : ℕ → Head) (a n : ℕ) → length (map f (range_with_len a n)) ≡ n
range_length f a zero = refl
range_length f a (suc n) = ap suc (range_length f (a + 1) n)

range_all : (f : ℕ → Head) (t : Head → Bool) (a n : ℕ) → ((i : ℕ) → i < a + n → t (f i) ≡ true) → list_all t (map f (range_with_len a n)) ≡ true
range_all f t a zero h = refl
range_all f t a (suc n) h = and_from (t (f a)) _ (h a (omega arith)) (range_all f t (a + 1) n (λ i l. h i (omega arith)))

range_has : (x a n : ℕ) → a ≤ x → x < a + n → list_any (is_same_head (HeadLiteral (lit.Char x))) (map (λ i. HeadLiteral (lit.Char i)) (range_with_len a n)) ≡ true
range_has x a zero h l = absurd (omega arith)
range_has x a (suc n) h l = elim (cases_eq x a) [
  | inl e ↦ or_left (eqb x a) _ (eq-eqb x a e)
  | inr ne ↦ or_right (eqb x a) _ (range_has x (a + 1) n (omega arith) (omega arith))
]

-- the heads of the characters below a number
chars : ℕ → List Head
chars n = map (λ i. HeadLiteral (lit.Char i)) (range_with_len 0 n)

chars_unlike : (n : ℕ) → are_unlike (chars n) ≡ true
unfolding chars
chars_unlike n = range_unlike (λ i. HeadLiteral (lit.Char i)) (λ i j e. eqb-true i j e) 0 n

length-chars : (n : ℕ) → length (chars n) ≡ n
unfolding chars
length-chars n = range_length (λ i. HeadLiteral (lit.Char i)) 0 n

chars_have : (x n : ℕ) → ltb x n ≡ true → list_any (is_same_head (HeadLiteral (lit.Char x))) (chars n) ≡ true
unfolding chars
chars_have x n l = let b = ltb-true x n l in range_has x 0 n (omega arith) (omega arith)

chars_all : (t : Head → Bool) (n : ℕ) → ((i : ℕ) → i < n → t (HeadLiteral (lit.Char i)) ≡ true) → list_all t (chars n) ≡ true
unfolding chars
chars_all t n h = range_all (λ i. HeadLiteral (lit.Char i)) t 0 n (λ i l. h i (omega arith))

-- the heads with these names of a datatype
pub named_heads : ℕ → ℕ → List (List ℕ) → List Head
named_heads d n names = map (λ x. HeadKey (Of d x) n) names

no_name : (d n : ℕ) (x : List ℕ) (ns : List (List ℕ)) → list_any (bytes_eq x) ns ≡ false → list_all (λ z. not (is_same_head (HeadKey (Of d x) n) z)) (named_heads d n ns) ≡ true
unfolding named_heads
no_name d n x [] e = refl
no_name d n x (y ∷ ys) e =
    let a = or_parts (bytes_eq x y) (list_any (bytes_eq x) ys) e in
    and_from (not (eqb d d && bytes_eq x y)) _ (ap not (and_right (eqb d d) (bytes_eq x y) a.0)) (no_name d n x ys a.1)

pub names_unlike : (d n : ℕ) (ns : List (List ℕ)) → are_distinct ns ≡ true → are_unlike (named_heads d n ns) ≡ true
unfolding named_heads
names_unlike d n [] e = refl
names_unlike d n (x ∷ xs) e =
    let a = and_parts (not (list_any (bytes_eq x) xs)) (are_distinct xs) e in
    and_from (list_all (λ z. not (is_same_head (HeadKey (Of d x) n) z)) (named_heads d n xs)) _ (no_name d n x xs (un_not (list_any (bytes_eq x) xs) a.0)) (names_unlike d n xs a.1)
  where
    un_not : (b : Bool) → not b ≡ true → b ≡ false
    un_not true e = cc
    un_not false e = refl

pub names_have : (d n m : ℕ) (x : List ℕ) (ns : List (List ℕ)) → list_any (bytes_eq x) ns ≡ true → list_any (is_same_head (HeadKey (Of d x) m)) (named_heads d n ns) ≡ true
unfolding named_heads
names_have d n m x [] e = cc
names_have d n m x (y ∷ ys) e = elim (or_cases (bytes_eq x y) (list_any (bytes_eq x) ys) e) [
  | inl a ↦ or_left (eqb d d && bytes_eq x y) _ (and_from (eqb d d) _ (eq-eqb d d refl) a)
  | inr a ↦ or_right (eqb d d && bytes_eq x y) _ (names_have d n m x ys a)
]

pub length-names : (d n : ℕ) (ns : List (List ℕ)) → length (named_heads d n ns) ≡ length ns
unfolding named_heads
length-names d n [] = refl
length-names d n (x ∷ xs) = ap suc (length-names d n xs)

pub names_all : (t : Head → Bool) (d n : ℕ) (ms ns : List (List ℕ)) → ((x : List ℕ) → list_any (bytes_eq x) ms ≡ true → t (HeadKey (Of d x) n) ≡ true) → list_all (λ x. list_any (bytes_eq x) ms) ns ≡ true
    → list_all t (named_heads d n ns) ≡ true
unfolding named_heads
names_all t d n ms [] h e = refl
names_all t d n ms (x ∷ xs) h e =
    let a = and_parts (list_any (bytes_eq x) ms) (list_all (λ y. list_any (bytes_eq y) ms) xs) e in
    and_from (t (HeadKey (Of d x) n)) _ (h x a.0) (names_all t d n ms xs h a.1)

names_own : (ms ns : List (List ℕ)) → ((x : List ℕ) → list_any (bytes_eq x) ns ≡ true → list_any (bytes_eq x) ms ≡ true) → list_all (λ x. list_any (bytes_eq x) ms) ns ≡ true
names_own ms [] h = refl
names_own ms (x ∷ xs) h =
    and_from (list_any (bytes_eq x) ms) _ (h x (or_left (bytes_eq x x) _ ((bytes_eq-Decides x x).1 refl))) (names_own ms xs (λ y e. h y (or_right (bytes_eq y x) _ e)))

-- where a literal of the type is none of the heads, there are others
pub literal_others : (l m : Lit) (hs : List Head) → (is_same_literal l m || is_other_literal l m) ≡ true → can_stand m ≡ true → list_any (is_same_head (HeadLiteral m)) hs ≡ false
    → are_unlike hs ≡ true → list_all (is_typed (HeadLiteral l)) hs ≡ true → list_all stands hs ≡ true → has_others (HeadLiteral l) (length hs) ≡ true
literal_others (lit.Int x) m hs t c f u d e = refl
literal_others (lit.Word x) m hs t c f u d e = refl
literal_others (lit.Text x) m hs t c f u d e = refl
literal_others (lit.Char x) (lit.Int y) hs t c f u d e = cc
literal_others (lit.Char x) (lit.Word y) hs t c f u d e = cc
literal_others (lit.Char x) (lit.Text y) hs t c f u d e = cc
literal_others (lit.Char x) (lit.Char y) hs t c f u d e =
    let among = all-both hs d e in
    let r = room (chars 256) hs (HeadLiteral (lit.Char y)) u among (chars_have y 256 c) f in
    lt-ltb (length hs) 256 (subst (λ n. length hs < n) (length-chars 256) r)
  where
    one : (h : Head) → is_typed (HeadLiteral (lit.Char x)) h ≡ true → stands h ≡ true → list_any (is_same_head h) (chars 256) ≡ true
    one (HeadLiteral (lit.Char z)) p q = chars_have z 256 q
    one (HeadLiteral (lit.Int z)) p q = cc
    one (HeadLiteral (lit.Word z)) p q = cc
    one (HeadLiteral (lit.Text z)) p q = cc
    one (HeadKey k n) p q = cc
    one Another p q = cc

    all-both : (xs : List Head) → list_all (is_typed (HeadLiteral (lit.Char x))) xs ≡ true → list_all stands xs ≡ true → list_all (λ h. list_any (is_same_head h) (chars 256)) xs ≡ true
    all-both [] p q = refl
    all-both (h ∷ xs) p q =
        let a = and_parts (is_typed (HeadLiteral (lit.Char x)) h) (list_all (is_typed (HeadLiteral (lit.Char x))) xs) p in
        let b = and_parts (stands h) (list_all stands xs) q in
        and_from (list_any (is_same_head h) (chars 256)) _ (one h a.0 b.0) (all-both xs a.1 b.1)

-- what a name fixes of a datatype
named_parts : (names : ℕ → List (List ℕ)) (n d : ℕ) (x : List ℕ) → is_named names n (Of d x) ≡ true → (length (names d) ≡ n) × (are_distinct (names d) ≡ true) × (list_any (bytes_eq x) (names d) ≡ true)
named_parts names n d x e =
    let a = and_parts (eqb (length (names d)) n && are_distinct (names d)) (list_any (bytes_eq x) (names d)) e in
    let b = and_parts (eqb (length (names d)) n) (are_distinct (names d)) a.0 in
    (eqb-true (length (names d)) n b.0, b.1, a.1)

one_datatype : (d e : ℕ) (x y : List ℕ) → (is_same_key (Of d x) (Of e y) || is_other_key (Of d x) (Of e y)) ≡ true → d ≡ e
one_datatype d e x y t = let q = eqb-true (suc d) (suc e) (sym (key_types (Of d x) (Of e y)) ∙ t) in omega arith

-- where a constructor of the datatype is none of the heads, there are others
pub key_others : (names : ℕ → List (List ℕ)) (k j : Key) (n : ℕ) (hs : List Head) → (is_same_key k j || is_other_key k j) ≡ true → can_be_made names j ≡ true
    → ((m : ℕ) → list_any (is_same_head (HeadKey j m)) hs ≡ false) → are_unlike hs ≡ true → list_all (is_typed (HeadKey k n)) hs ≡ true → list_all (keyed names) hs ≡ true → is_named names n k ≡ true
    → has_others (HeadKey k n) (length hs) ≡ true
key_others names (Exn p) j n hs t c f u d e own = refl
key_others names (Of a x) (Exn q) n hs t c f u d e own = cc
key_others names (Of a x) (Of b y) n hs t c f u d e own =
    let ab = one_datatype a b x y t in
    let parts = named_parts names n a x own in
    let c' = subst (λ m. list_any (bytes_eq y) (names m) ≡ true) (sym ab) c in
    let f' = subst (λ m. list_any (is_same_head (HeadKey (Of m y) 0)) hs ≡ false) (sym ab) (f 0) in
    let r = room (named_heads a n (names a)) hs (HeadKey (Of a y) 0) u (all-both hs d e) (names_have a n 0 y (names a) c') f' in
    lt-ltb (length hs) n (subst (λ m. length hs < m) (length-names a n (names a) ∙ parts.0) r)
  where
    one : (h : Head) → is_typed (HeadKey (Of a x) n) h ≡ true → keyed names h ≡ true → list_any (is_same_head h) (named_heads a n (names a)) ≡ true
    one (HeadLiteral l) p q = cc
    one Another p q = cc
    one (HeadKey (Exn r) m) p q = cc
    one (HeadKey (Of g z) m) p q =
        let ag = one_datatype a g x z p in
        subst (λ i. list_any (is_same_head (HeadKey (Of i z) m)) (named_heads a n (names a)) ≡ true) ag
        (names_have a n m z (names a) (subst (λ i. list_any (bytes_eq z) (names i) ≡ true) (sym ag) (named_parts names m g z q).2))

    all-both : (xs : List Head) → list_all (is_typed (HeadKey (Of a x) n)) xs ≡ true → list_all (keyed names) xs ≡ true → list_all (λ h. list_any (is_same_head h) (named_heads a n (names a))) xs ≡ true
    all-both [] p q = refl
    all-both (h ∷ xs) p q =
        let v = and_parts (is_typed (HeadKey (Of a x) n) h) (list_all (is_typed (HeadKey (Of a x) n)) xs) p in
        let w = and_parts (keyed names h) (list_all (keyed names) xs) q in
        and_from (list_any (is_same_head h) (named_heads a n (names a))) _ (one h v.0 w.0) (all-both xs v.1 w.1)

-- whether a constructor can be made
abbrev pub makeable : (ℕ → List (List ℕ)) → Head → Bool
makeable names (HeadLiteral l) = true
makeable names (HeadKey k n) = can_be_made names k
makeable names Another = true

-- a head of the type that is none of the heads
pub record Other (names : ℕ → List (List ℕ)) (h : Head) (hs : List Head) : Type 0 where
  pub head : Head
  pub typed : is_typed h head ≡ true
  pub stand : stands head ≡ true
  pub made : makeable names head ≡ true
  pub alike : list_any (is_same_head head) hs ≡ false

-- whether a head is of the type and can stand in a shape
abbrev fits : (ℕ → List (List ℕ)) → Head → Head → Bool
fits names h c = is_typed h c && (stands c && makeable names c)

other_from : (names : ℕ → List (List ℕ)) (h : Head) (cs hs : List Head) → list_all (fits names h) cs ≡ true → Free cs hs → Other names h hs
other_from names h cs hs e f =
    let a = and_parts (is_typed h f.head) (stands f.head && makeable names f.head) (f.among.passes (fits names h) e) in
    let b = and_parts (stands f.head) (makeable names f.head) a.1 in
    record { head = f.head; typed = a.0; stand = b.0; made = b.1; alike = f.alike }

from_range : (names : ℕ → List (List ℕ)) (h : Head) (hs : List Head) (f : ℕ → Head) → ((i j : ℕ) → is_same_head (f i) (f j) ≡ true → i ≡ j) → ((i : ℕ) → fits names h (f i) ≡ true) → Other names h hs
from_range names h hs f inj fit =
    other_from names h (map f (range_with_len 0 (suc (length hs)))) hs (range_all f (fits names h) 0 (suc (length hs)) (λ i l. fit i))
    (free (map f (range_with_len 0 (suc (length hs)))) hs (range_unlike f inj 0 (suc (length hs))) (subst (λ n. length hs < n) (sym (range_length f 0 (suc (length hs)))) (omega arith)))

pub zeros : ℕ → List ℕ
zeros zero = []
zeros (suc n) = 0 ∷ zeros n

pub length-zeros : (n : ℕ) → length (zeros n) ≡ n
unfolding zeros
length-zeros zero = refl
length-zeros (suc n) = ap suc (length-zeros n)

pub zeros_apart : (i j : ℕ) → bytes_eq (zeros i) (zeros j) ≡ true → i ≡ j
zeros_apart i j e = sym (length-zeros i) ∙ ap length ((bytes_eq-Decides (zeros i) (zeros j)).0 e) ∙ length-zeros j

paths : ℕ → List (List ℕ)
paths zero = []
paths (suc n) = [] ∷ paths n

length-paths : (n : ℕ) → length (paths n) ≡ n
unfolding paths
length-paths zero = refl
length-paths (suc n) = ap suc (length-paths n)

paths_apart : (i j : ℕ) → is_same_key (Exn (paths i)) (Exn (paths j)) ≡ true → i ≡ j
paths_apart i j e = let q : paths i ≡ paths j = exn_is (same_key-true (Exn (paths i)) (Exn (paths j)) e) in sym (length-paths i) ∙ ap length q ∙ length-paths j
  where
    exn_is : {p q : List (List ℕ)} → Exn p ≡ Exn q → p ≡ q
    exn_is h = cc

typed_literal : (l m : Lit) → eqb (literal_type l) (literal_type m) ≡ true → (is_same_literal l m || is_other_literal l m) ≡ true
typed_literal l m e = literal_types l m ∙ e

pub another : (names : ℕ → List (List ℕ)) (h : Head) (hs : List Head) → has_others h (length hs) ≡ true → keyed names h ≡ true → is_typed h h ≡ true → Other names h hs
another names (HeadLiteral (lit.Int x)) hs e k t =
    from_range names (HeadLiteral (lit.Int x)) hs (λ i. HeadLiteral (lit.Int (pos i))) (λ i j q. pos_is ((Decides-int_eq (pos i) (pos j)).0 q)) (λ i. and_from (is_same_literal (lit.Int x) (lit.Int (pos i)) || is_other_literal (lit.Int x) (lit.Int (pos i))) _ (typed_literal (lit.Int x) (lit.Int (pos i)) refl) refl)
  where
    pos_is : {i j : ℕ} → pos i ≡ pos j → i ≡ j
    pos_is h = cc
another names (HeadLiteral (lit.Word x)) hs e k t =
    from_range names (HeadLiteral (lit.Word x)) hs (λ i. HeadLiteral (lit.Word i)) (λ i j q. eqb-true i j q) (λ i. and_from (is_same_literal (lit.Word x) (lit.Word i) || is_other_literal (lit.Word x) (lit.Word i)) _ (typed_literal (lit.Word x) (lit.Word i) refl) refl)
another names (HeadLiteral (lit.Text x)) hs e k t =
    from_range names (HeadLiteral (lit.Text x)) hs (λ i. HeadLiteral (lit.Text (zeros i))) (λ i j q. zeros_apart i j q) (λ i. and_from (is_same_literal (lit.Text x) (lit.Text (zeros i)) || is_other_literal (lit.Text x) (lit.Text (zeros i))) _ (typed_literal (lit.Text x) (lit.Text (zeros i)) refl) refl)
another names (HeadLiteral (lit.Char x)) hs e k t =
    other_from names (HeadLiteral (lit.Char x)) (chars 256) hs
    (chars_all (fits names (HeadLiteral (lit.Char x))) 256 (λ i l. and_from (is_same_literal (lit.Char x) (lit.Char i) || is_other_literal (lit.Char x) (lit.Char i)) _ (typed_literal (lit.Char x) (lit.Char i) refl) (and_from (ltb i 256) _ (lt-ltb i 256 l) refl)))
    (free (chars 256) hs (chars_unlike 256) (subst (λ n. length hs < n) (sym (length-chars 256)) (ltb-true (length hs) 256 e)))
another names (HeadKey (Exn p) n) hs e k t =
    from_range names (HeadKey (Exn p) n) hs (λ i. HeadKey (Exn (paths i)) 0) (λ i j q. paths_apart i j q) (λ i. and_from (is_same_key (Exn p) (Exn (paths i)) || is_other_key (Exn p) (Exn (paths i))) _ (key_types (Exn p) (Exn (paths i)) ∙ refl) refl)
another names (HeadKey (Of d x) n) hs e k t =
    let parts = named_parts names n d x k in
    other_from names (HeadKey (Of d x) n) (named_heads d n (names d)) hs
    (names_all (fits names (HeadKey (Of d x) n)) d n (names d) (names d)
    (λ y q. and_from (is_same_key (Of d x) (Of d y) || is_other_key (Of d x) (Of d y)) _ (key_types (Of d x) (Of d y) ∙ eq-eqb (suc d) (suc d) refl) q)
    (names_own (names d) (names d) (λ y q. q)))
    (free (named_heads d n (names d)) hs (names_unlike d n (names d) parts.1) (subst (λ m. length hs < m) (sym (length-names d n (names d) ∙ parts.0)) (ltb-true (length hs) n e)))
another names Another hs e k t = cc
