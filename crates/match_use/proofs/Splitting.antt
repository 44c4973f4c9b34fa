-- A column with literals or constructors is split by its heads.
use Rattle.std.proofs.Common.{◌≡◌, ℕ, List, [], ◌∷◌, length, Bool, true, false, ◌&&◌, ◌||◌, cond, eqb, Option, Some, None, refl, sym, ap, ◌∙◌, subst, inl, inr}
use Rattle.std.specs.List.{list_all, list_any}
use Rattle.std.proofs.lemmas.Bool.{and_parts, and_from, and_left, or_parts, or_from, or_left, or_right, cases_Bool, false_from_ne_true, eqb-true, eq-eqb}
use Rattle.tl_text.specs.declared.lit.Lit.{Lit}
use Rattle.sml_static.specs.Shapes.{Key, Of, Exn, Pattern, Wild, Parts, Cell, Literal, Made, Shape, AnyShape, PartsShape, CellShape, LiteralShape, MadeShape, argument, is_same_key, is_other_key, is_same_literal, is_other_literal, has_literal, has_other_literal, has_key, has_other_key, hits, misses}
use Rattle.sml_static.specs.Exhaustive.{Head, HeadLiteral, HeadKey, Another, is_same_head, split_by, kept_row, is_named, are_named, is_shape, can_stand, can_be_made}
use Rattle.match_use.specs.Heads.{stands}
use Rattle.match_use.specs.Lines.{Line, plain, first_shape, other_shapes, row_hits, row_misses, TakenBy, AreNamed, IsTaken}
use Rattle.match_use.specs.Steps.{kept_lines}
use Rattle.match_use.proofs.Equal.{same_key-true, same_key-refl, same_literal-true, same_literal-refl, other_key-irrefl, other_literal-irrefl, literal_type, key_type, literal_types, key_types}
use Rattle.match_use.proofs.Pigeons.{are_unlike, same_head-trans}
use Rattle.sml_static.specs.WellFormed.{are_distinct}
use Rattle.std.specs.Str.{bytes_eq}
use Rattle.match_use.proofs.FirstColumn.{is_typed, keyed, in_column, OneOf, one_of-passes, any-one_of, splits_by, splits_by-another, split_by-cases, IsSplit, typed_heads, keyed_heads}
use Rattle.match_use.proofs.Others.{literal_others, key_others, makeable, Other, another}
use Rattle.match_use.proofs.Taking.{KeepsTo, KeepsFrom, taken-kept, taken-kept_back}
use Rattle.match_use.proofs.Reducing.{first_fit, others_fit}

-- what is kept of each row is hit and missed as the row is, and a row that is not kept is missed
record Keeps (h : Head) (c : List Pattern → Bool) (ss tt : List Shape) : Type 0 where
  left : (r : List Pattern) → c r ≡ true → kept_row h r ≡ None → (row_hits r ss ≡ false) × (row_misses r ss ≡ true)
  kept : (r r' : List Pattern) → c r ≡ true → kept_row h r ≡ Some r' → (row_hits r' tt ≡ row_hits r ss) × (row_misses r' tt ≡ row_misses r ss)

to : (h : Head) (c : List Pattern → Bool) (ss tt : List Shape) → Keeps h c ss tt → KeepsTo h c ss tt
to h c ss tt k = record {
  left = λ r x e. (k.left r x e).0;
  hit = λ r r' x e y. (k.kept r r' x e).0 ∙ y;
  missed = λ r r' x e y. (k.kept r r' x e).1 ∙ y;
}

from : (h : Head) (c : List Pattern → Bool) (ss tt : List Shape) → Keeps h c ss tt → KeepsFrom h c ss tt
from h c ss tt k = record {
  left = λ r x e. (k.left r x e).1;
  hit = λ r r' x e y. sym (k.kept r r' x e).0 ∙ y;
  missed = λ r r' x e y. sym (k.kept r r' x e).1 ∙ y;
}

kept_some : (b : Bool) (xs r : List Pattern) → cond b (Some xs) None ≡ Some r → (b ≡ true) × (xs ≡ r)
kept_some true xs r e = (refl, some_is e)
  where
    some_is : {a b : List Pattern} → Some a ≡ Some b → a ≡ b
    some_is h = cc
kept_some false xs r e = cc

kept_none : (b : Bool) (xs : List Pattern) → cond b (Some xs) None ≡ None → b ≡ false
kept_none true xs e = cc
kept_none false xs e = refl

two_tests : (a b : Bool) → (a ≡ true → b ≡ true) → (b ≡ true → a ≡ true) → a ≡ b
two_tests true b f g = sym (f refl)
two_tests false b f g = sym (false_from_ne_true b (λ e. contrary (g e)))
  where
    contrary : false ≡ true → ⊥
    contrary x = cc

literal-comm : (l m : Lit) → is_same_literal l m ≡ is_same_literal m l
literal-comm l m = two_tests (is_same_literal l m) (is_same_literal m l)
    (λ e. subst (λ (x : Lit). is_same_literal x l ≡ true) (same_literal-true l m e) (same_literal-refl l))
    (λ e. subst (λ (x : Lit). is_same_literal x m ≡ true) (same_literal-true m l e) (same_literal-refl m))

key-comm : (k j : Key) → is_same_key k j ≡ is_same_key j k
key-comm k j = two_tests (is_same_key k j) (is_same_key j k)
    (λ e. subst (λ (x : Key). is_same_key x k ≡ true) (same_key-true k j e) (same_key-refl k))
    (λ e. subst (λ (x : Key). is_same_key x j ≡ true) (same_key-true j k e) (same_key-refl j))

alike_not_other : (l m : Lit) → is_same_literal l m ≡ true → is_other_literal l m ≡ false
alike_not_other l m e = subst (λ (x : Lit). is_other_literal l x ≡ false) (same_literal-true l m e) (other_literal-irrefl l)

alike_not_other_key : (k j : Key) → is_same_key k j ≡ true → is_other_key k j ≡ false
alike_not_other_key k j e = subst (λ (x : Key). is_other_key k x ≡ false) (same_key-true k j e) (other_key-irrefl k)

-- two of one type with a third are of one type
types_meet : (a b c : ℕ) (x y z : Bool) → x ≡ eqb a b → y ≡ eqb a c → z ≡ eqb b c → x ≡ true → y ≡ true → z ≡ true
types_meet a b c x y z p q r e f =
    let ab = eqb-true a b (sym p ∙ e) in
    let ac = eqb-true a c (sym q ∙ f) in
    r ∙ eq-eqb b c (sym ab ∙ ac)

or_other : (a b : Bool) → (a || b) ≡ true → a ≡ false → b ≡ true
or_other true b e f = cc
or_other false b e f = e

-- the literal of a head, at a shape of it
here_literal : (l m : Lit) (hs : List Head) (ss : List Shape) → (is_same_literal l m || is_other_literal l m) ≡ true → Keeps (HeadLiteral m) (in_column (HeadLiteral l) hs) (LiteralShape m ∷ ss) ss
here_literal l m hs ss t = record { left = left; kept = kept }
  where
    left : (r : List Pattern) → in_column (HeadLiteral l) hs r ≡ true → kept_row (HeadLiteral m) r ≡ None → (row_hits r (LiteralShape m ∷ ss) ≡ false) × (row_misses r (LiteralShape m ∷ ss) ≡ true)
    left [] c e = cc
    left (Wild ∷ ps) c e = cc
    left (Parts p q ∷ ps) c e = cc
    left (Cell p ∷ ps) c e = cc
    left (Made k n p ∷ ps) c e = cc
    left (Literal x ∷ ps) c e =
        let f : is_same_literal x m ≡ false = literal-comm x m ∙ kept_none (is_same_literal m x) ps e in
        let lx = (and_parts (is_same_literal l x || is_other_literal l x) _ c).0 in
        let xm = types_meet (literal_type l) (literal_type x) (literal_type m) _ _ _ (literal_types l x) (literal_types l m) (literal_types x m) lx t in
        (and_left (is_same_literal x m) _ f, or_left (is_other_literal x m) _ (or_other (is_same_literal x m) (is_other_literal x m) xm f))

    kept : (r r' : List Pattern) → in_column (HeadLiteral l) hs r ≡ true → kept_row (HeadLiteral m) r ≡ Some r' → (row_hits r' ss ≡ row_hits r (LiteralShape m ∷ ss)) × (row_misses r' ss ≡ row_misses r (LiteralShape m ∷ ss))
    kept [] r' c e = cc
    kept (Wild ∷ ps) r' c e = let q = (kept_some true ps r' e).1 in (ap (λ (r : List Pattern). row_hits r ss) (sym q), ap (λ (r : List Pattern). row_misses r ss) (sym q))
    kept (Parts p q ∷ ps) r' c e = cc
    kept (Cell p ∷ ps) r' c e = cc
    kept (Made k n p ∷ ps) r' c e = cc
    kept (Literal x ∷ ps) r' c e =
        let q = kept_some (is_same_literal m x) ps r' e in
        let xm : is_same_literal x m ≡ true = literal-comm x m ∙ q.0 in
        (ap (λ (r : List Pattern). row_hits r ss) (sym q.1) ∙ ap (λ b. b && row_hits ps ss) (sym xm), ap (λ (r : List Pattern). row_misses r ss) (sym q.1) ∙ ap (λ b. b || row_misses ps ss) (sym (alike_not_other x m xm)))

-- the constructor of a head, at a shape of it
here_key : (k j : Key) (n i : ℕ) (hs : List Head) (s : Shape) (ss : List Shape) → (is_same_key k j || is_other_key k j) ≡ true → Keeps (HeadKey j i) (in_column (HeadKey k n) hs) (MadeShape j s ∷ ss) (s ∷ ss)
here_key k j n i hs s ss t = record { left = left; kept = kept }
  where
    left : (r : List Pattern) → in_column (HeadKey k n) hs r ≡ true → kept_row (HeadKey j i) r ≡ None → (row_hits r (MadeShape j s ∷ ss) ≡ false) × (row_misses r (MadeShape j s ∷ ss) ≡ true)
    left [] c e = cc
    left (Wild ∷ ps) c e = cc
    left (Parts p q ∷ ps) c e = cc
    left (Cell p ∷ ps) c e = cc
    left (Literal x ∷ ps) c e = cc
    left (Made x m p ∷ ps) c e =
        let f : is_same_key x j ≡ false = key-comm x j ∙ kept_none (is_same_key j x) (p ∷ ps) e in
        let kx = (and_parts (is_same_key k x || is_other_key k x) _ c).0 in
        let xj = types_meet (key_type k) (key_type x) (key_type j) _ _ _ (key_types k x) (key_types k j) (key_types x j) kx t in (
          and_left (is_same_key x j && hits p s) _ (and_left (is_same_key x j) _ f),
          or_left (is_other_key x j || (is_same_key x j && misses p s)) _ (or_left (is_other_key x j) _ (or_other (is_same_key x j) (is_other_key x j) xj f)),
        )

    kept : (r r' : List Pattern) → in_column (HeadKey k n) hs r ≡ true → kept_row (HeadKey j i) r ≡ Some r' → (row_hits r' (s ∷ ss) ≡ row_hits r (MadeShape j s ∷ ss)) × (row_misses r' (s ∷ ss) ≡ row_misses r (MadeShape j s ∷ ss))
    kept [] r' c e = cc
    kept (Wild ∷ ps) r' c e = let q = (kept_some true (Wild ∷ ps) r' e).1 in (ap (λ (r : List Pattern). row_hits r (s ∷ ss)) (sym q), ap (λ (r : List Pattern). row_misses r (s ∷ ss)) (sym q))
    kept (Parts p q ∷ ps) r' c e = cc
    kept (Cell p ∷ ps) r' c e = cc
    kept (Literal x ∷ ps) r' c e = cc
    kept (Made x m p ∷ ps) r' c e =
        let q = kept_some (is_same_key j x) (p ∷ ps) r' e in
        let xj : is_same_key x j ≡ true = key-comm x j ∙ q.0 in (
          ap (λ (r : List Pattern). row_hits r (s ∷ ss)) (sym q.1) ∙ ap (λ b. (b && hits p s) && row_hits ps ss) (sym xj),
          ap (λ (r : List Pattern). row_misses r (s ∷ ss)) (sym q.1) ∙ ap (λ b. (b && misses p s) || row_misses ps ss) (sym xj) ∙ ap (λ b. (b || (is_same_key x j && misses p s)) || row_misses ps ss) (sym (alike_not_other_key x j xj)),
        )

-- a head of the column is not alike to what is alike to none of the heads
unlike_heads : (g c : Head) (hs : List Head) → list_any (is_same_head g) hs ≡ true → list_any (is_same_head c) hs ≡ false → is_same_head g c ≡ false
unlike_heads g c hs e f = false_from_ne_true (is_same_head g c) (λ s.
    let o = any-one_of (is_same_head g) hs e in
    contrary (none hs o.0 o.1 f) (same_head-trans g c o.0 s o.2))
  where
    contrary : {b : Bool} → b ≡ false → b ≡ true → ⊥
    contrary x y = cc

    none : (xs : List Head) (h : Head) → OneOf xs h → list_any (is_same_head c) xs ≡ false → is_same_head c h ≡ false
    none [] h o f = absurd o
    none (x ∷ xs) h (inl o) f = subst (λ (y : Head). is_same_head c y ≡ false) o (or_parts (is_same_head c x) _ f).0
    none (x ∷ xs) h (inr o) f = none xs h o (or_parts (is_same_head c x) _ f).1

-- another literal than those of the heads
other_literal : (l m : Lit) (hs : List Head) (ss : List Shape) → (is_same_literal l m || is_other_literal l m) ≡ true → list_any (is_same_head (HeadLiteral m)) hs ≡ false → Keeps Another (in_column (HeadLiteral l) hs) (LiteralShape m ∷ ss) ss
other_literal l m hs ss t u = record { left = left; kept = kept }
  where
    left : (r : List Pattern) → in_column (HeadLiteral l) hs r ≡ true → kept_row Another r ≡ None → (row_hits r (LiteralShape m ∷ ss) ≡ false) × (row_misses r (LiteralShape m ∷ ss) ≡ true)
    left [] c e = cc
    left (Wild ∷ ps) c e = cc
    left (Parts p q ∷ ps) c e = cc
    left (Cell p ∷ ps) c e = cc
    left (Made k n p ∷ ps) c e = cc
    left (Literal x ∷ ps) c e =
        let a = and_parts (is_same_literal l x || is_other_literal l x) _ c in
        let f = unlike_heads (HeadLiteral x) (HeadLiteral m) hs a.1 u in
        let xm = types_meet (literal_type l) (literal_type x) (literal_type m) _ _ _ (literal_types l x) (literal_types l m) (literal_types x m) a.0 t in
        (and_left (is_same_literal x m) _ f, or_left (is_other_literal x m) _ (or_other (is_same_literal x m) (is_other_literal x m) xm f))

    kept : (r r' : List Pattern) → in_column (HeadLiteral l) hs r ≡ true → kept_row Another r ≡ Some r' → (row_hits r' ss ≡ row_hits r (LiteralShape m ∷ ss)) × (row_misses r' ss ≡ row_misses r (LiteralShape m ∷ ss))
    kept [] r' c e = cc
    kept (Wild ∷ ps) r' c e = let q = (kept_some true ps r' e).1 in (ap (λ (r : List Pattern). row_hits r ss) (sym q), ap (λ (r : List Pattern). row_misses r ss) (sym q))
    kept (Parts p q ∷ ps) r' c e = cc
    kept (Cell p ∷ ps) r' c e = cc
    kept (Made k n p ∷ ps) r' c e = cc
    kept (Literal x ∷ ps) r' c e = cc

-- another constructor than those of the heads
other_key : (k j : Key) (n i : ℕ) (hs : List Head) (s : Shape) (ss : List Shape) → (is_same_key k j || is_other_key k j) ≡ true → list_any (is_same_head (HeadKey j i)) hs ≡ false → Keeps Another (in_column (HeadKey k n) hs) (MadeShape j s ∷ ss) ss
other_key k j n i hs s ss t u = record { left = left; kept = kept }
  where
    left : (r : List Pattern) → in_column (HeadKey k n) hs r ≡ true → kept_row Another r ≡ None → (row_hits r (MadeShape j s ∷ ss) ≡ false) × (row_misses r (MadeShape j s ∷ ss) ≡ true)
    left [] c e = cc
    left (Wild ∷ ps) c e = cc
    left (Parts p q ∷ ps) c e = cc
    left (Cell p ∷ ps) c e = cc
    left (Literal x ∷ ps) c e = cc
    left (Made x m p ∷ ps) c e =
        let a = and_parts (is_same_key k x || is_other_key k x) _ c in
        let f = unlike_heads (HeadKey x m) (HeadKey j i) hs a.1 u in
        let xj = types_meet (key_type k) (key_type x) (key_type j) _ _ _ (key_types k x) (key_types k j) (key_types x j) a.0 t in (
          and_left (is_same_key x j && hits p s) _ (and_left (is_same_key x j) _ f),
          or_left (is_other_key x j || (is_same_key x j && misses p s)) _ (or_left (is_other_key x j) _ (or_other (is_same_key x j) (is_other_key x j) xj f)),
        )

    kept : (r r' : List Pattern) → in_column (HeadKey k n) hs r ≡ true → kept_row Another r ≡ Some r' → (row_hits r' ss ≡ row_hits r (MadeShape j s ∷ ss)) × (row_misses r' ss ≡ row_misses r (MadeShape j s ∷ ss))
    kept [] r' c e = cc
    kept (Wild ∷ ps) r' c e = let q = (kept_some true ps r' e).1 in (ap (λ (r : List Pattern). row_hits r ss) (sym q), ap (λ (r : List Pattern). row_misses r ss) (sym q))
    kept (Parts p q ∷ ps) r' c e = cc
    kept (Cell p ∷ ps) r' c e = cc
    kept (Literal x ∷ ps) r' c e = cc
    kept (Made x m p ∷ ps) r' c e = cc

-- a shape of another type neither hits nor misses a literal of the column: its rows are taken as the first head's are
alien_literal : (l : Lit) (hs : List Head) (s : Shape) (ss : List Shape) → ((x : Lit) → (is_same_literal l x || is_other_literal l x) ≡ true → (has_literal x s ≡ false) × (has_other_literal x s ≡ false))
    → KeepsTo (HeadLiteral l) (in_column (HeadLiteral l) hs) (s ∷ ss) ss
alien_literal l hs s ss f = record { left = left; hit = hit; missed = missed }
  where
    left : (r : List Pattern) → in_column (HeadLiteral l) hs r ≡ true → kept_row (HeadLiteral l) r ≡ None → row_hits r (s ∷ ss) ≡ false
    left [] c e = cc
    left (Wild ∷ ps) c e = cc
    left (Parts p q ∷ ps) c e = cc
    left (Cell p ∷ ps) c e = cc
    left (Made k n p ∷ ps) c e = cc
    left (Literal x ∷ ps) c e = and_left (has_literal x s) _ (f x (and_parts (is_same_literal l x || is_other_literal l x) _ c).0).0

    hit : (r r' : List Pattern) → in_column (HeadLiteral l) hs r ≡ true → kept_row (HeadLiteral l) r ≡ Some r' → row_hits r (s ∷ ss) ≡ true → row_hits r' ss ≡ true
    hit [] r' c e h = cc
    hit (Wild ∷ ps) r' c e h = subst (λ (r : List Pattern). row_hits r ss ≡ true) (kept_some true ps r' e).1 h
    hit (Parts p q ∷ ps) r' c e h = cc
    hit (Cell p ∷ ps) r' c e h = cc
    hit (Made k n p ∷ ps) r' c e h = cc
    hit (Literal x ∷ ps) r' c e h = subst (λ (r : List Pattern). row_hits r ss ≡ true) (kept_some (is_same_literal l x) ps r' e).1 (and_parts (has_literal x s) (row_hits ps ss) h).1

    missed : (r r' : List Pattern) → in_column (HeadLiteral l) hs r ≡ true → kept_row (HeadLiteral l) r ≡ Some r' → row_misses r (s ∷ ss) ≡ true → row_misses r' ss ≡ true
    missed [] r' c e h = cc
    missed (Wild ∷ ps) r' c e h = subst (λ (r : List Pattern). row_misses r ss ≡ true) (kept_some true ps r' e).1 h
    missed (Parts p q ∷ ps) r' c e h = cc
    missed (Cell p ∷ ps) r' c e h = cc
    missed (Made k n p ∷ ps) r' c e h = cc
    missed (Literal x ∷ ps) r' c e h =
        subst (λ (r : List Pattern). row_misses r ss ≡ true) (kept_some (is_same_literal l x) ps r' e).1
        (or_other (has_other_literal x s) (row_misses ps ss) h (f x (and_parts (is_same_literal l x || is_other_literal l x) _ c).0).1)

alien_key : (k : Key) (n : ℕ) (hs : List Head) (s : Shape) (ss : List Shape) → ((x : Key) → (is_same_key k x || is_other_key k x) ≡ true → (has_key x s ≡ false) × (has_other_key x s ≡ false))
    → KeepsTo (HeadKey k n) (in_column (HeadKey k n) hs) (s ∷ ss) (AnyShape ∷ ss)
alien_key k n hs s ss f = record { left = left; hit = hit; missed = missed }
  where
    left : (r : List Pattern) → in_column (HeadKey k n) hs r ≡ true → kept_row (HeadKey k n) r ≡ None → row_hits r (s ∷ ss) ≡ false
    left [] c e = cc
    left (Wild ∷ ps) c e = cc
    left (Parts p q ∷ ps) c e = cc
    left (Cell p ∷ ps) c e = cc
    left (Literal x ∷ ps) c e = cc
    left (Made x m p ∷ ps) c e = and_left (has_key x s && hits p (argument s)) _ (and_left (has_key x s) _ (f x (and_parts (is_same_key k x || is_other_key k x) _ c).0).0)

    hit : (r r' : List Pattern) → in_column (HeadKey k n) hs r ≡ true → kept_row (HeadKey k n) r ≡ Some r' → row_hits r (s ∷ ss) ≡ true → row_hits r' (AnyShape ∷ ss) ≡ true
    hit [] r' c e h = cc
    hit (Wild ∷ ps) r' c e h = subst (λ (r : List Pattern). row_hits r (AnyShape ∷ ss) ≡ true) (kept_some true (Wild ∷ ps) r' e).1 h
    hit (Parts p q ∷ ps) r' c e h = cc
    hit (Cell p ∷ ps) r' c e h = cc
    hit (Literal x ∷ ps) r' c e h = cc
    hit (Made x m p ∷ ps) r' c e h =
        let a = (and_parts (has_key x s && hits p (argument s)) (row_hits ps ss) h).0 in
        let no = and_left (has_key x s) (hits p (argument s)) (f x (and_parts (is_same_key k x || is_other_key k x) _ c).0).0 in
        cc

    missed : (r r' : List Pattern) → in_column (HeadKey k n) hs r ≡ true → kept_row (HeadKey k n) r ≡ Some r' → row_misses r (s ∷ ss) ≡ true → row_misses r' (AnyShape ∷ ss) ≡ true
    missed [] r' c e h = cc
    missed (Wild ∷ ps) r' c e h = subst (λ (r : List Pattern). row_misses r (AnyShape ∷ ss) ≡ true) (kept_some true (Wild ∷ ps) r' e).1 h
    missed (Parts p q ∷ ps) r' c e h = cc
    missed (Cell p ∷ ps) r' c e h = cc
    missed (Literal x ∷ ps) r' c e h = cc
    missed (Made x m p ∷ ps) r' c e h =
        let a = f x (and_parts (is_same_key k x || is_other_key k x) _ c).0 in
        let no = or_from (has_other_key x s) (has_key x s && misses p (argument s)) a.1 (and_left (has_key x s) _ a.0) in
        subst (λ (r : List Pattern). row_misses r (AnyShape ∷ ss) ≡ true) (kept_some (is_same_key k x) (p ∷ ps) r' e).1
        (or_right (misses p AnyShape) _ (or_other (has_other_key x s || (has_key x s && misses p (argument s))) (row_misses ps ss) h no))

-- a shape of another type than a literal's
alien_shape : (l : Lit) (m : Lit) → (is_same_literal l m || is_other_literal l m) ≡ false → (x : Lit) → (is_same_literal l x || is_other_literal l x) ≡ true → (has_literal x (LiteralShape m) ≡ false) × (has_other_literal x (LiteralShape m) ≡ false)
alien_shape l m f x t =
    let lx = eqb-true (literal_type l) (literal_type x) (sym (literal_types l x) ∙ t) in
    let xm : eqb (literal_type x) (literal_type m) ≡ false = subst (λ n. eqb n (literal_type m) ≡ false) lx (sym (literal_types l m) ∙ f) in
    or_parts (is_same_literal x m) (is_other_literal x m) (literal_types x m ∙ xm)

alien_made : (k j : Key) (s : Shape) → (is_same_key k j || is_other_key k j) ≡ false → (x : Key) → (is_same_key k x || is_other_key k x) ≡ true → (has_key x (MadeShape j s) ≡ false) × (has_other_key x (MadeShape j s) ≡ false)
alien_made k j s f x t =
    let kx = eqb-true (key_type k) (key_type x) (sym (key_types k x) ∙ t) in
    let xj : eqb (key_type x) (key_type j) ≡ false = subst (λ n. eqb n (key_type j) ≡ false) kx (sym (key_types k j) ∙ f) in
    or_parts (is_same_key x j) (is_other_key x j) (key_types x j ∙ xj)

-- rows are taken alike by shapes with a first one
whole_row : (r : List Pattern) (ss : List Shape) → (row_hits r (first_shape ss ∷ other_shapes ss) ≡ row_hits r ss) × (row_misses r (first_shape ss ∷ other_shapes ss) ≡ row_misses r ss)
whole_row [] ss = (refl, refl)
whole_row (p ∷ ps) ss = (refl, refl)

pub whole : (lines : List Line) (o : Option ℕ) (ss : List Shape) → TakenBy lines o ss → TakenBy lines o (first_shape ss ∷ other_shapes ss)
whole [] o ss t = t
whole (l ∷ ls) o ss (inl t) = inl ((whole_row l.columns ss).0 ∙ t.0, t.1)
whole (l ∷ ls) o ss (inr t) = inr ((whole_row l.columns ss).1 ∙ t.0, whole ls o ss t.1)

-- what a split needs of a matrix
record Split (names : ℕ → List (List ℕ)) (lines : List Line) (h : Head) (hs : List Head) : Type 0 where
  column : list_all (in_column h (h ∷ hs)) (plain lines) ≡ true
  typed : list_all (is_typed h) (h ∷ hs) ≡ true
  keys : list_all (keyed names) (h ∷ hs) ≡ true
  stand : list_all stands (h ∷ hs) ≡ true
  unlike : are_unlike (h ∷ hs) ≡ true

-- a head by which the matrix is split, and shapes for what it keeps
record Goes (names : ℕ → List (List ℕ)) (lines : List Line) (h : Head) (hs : List Head) (o : Option ℕ) : Type 0 where
  head : Head
  one : OneOf (split_by (h ∷ hs)) head
  taken : IsTaken names (kept_lines lines head) o

goes : (names : ℕ → List (List ℕ)) (lines : List Line) (h : Head) (hs : List Head) (o : Option ℕ) (g : Head) (ss tt : List Shape) → list_all (in_column h (h ∷ hs)) (plain lines) ≡ true
    → OneOf (split_by (h ∷ hs)) g → KeepsTo g (in_column h (h ∷ hs)) ss tt → list_all (is_shape names) tt ≡ true → TakenBy lines o ss → Goes names lines h hs o
goes names lines h hs o g ss tt c one k fit t = record { head = g; one = one; taken = record { shapes = tt; fit = fit; taken = taken-kept g (in_column h (h ∷ hs)) ss tt k lines c o t } }

-- the first head, where a shape is of another type
goes_alien_literal : (names : ℕ → List (List ℕ)) (lines : List Line) (l : Lit) (hs : List Head) (o : Option ℕ) (s : Shape) (ss : List Shape) → Split names lines (HeadLiteral l) hs → list_all (is_shape names) ss ≡ true
    → ((x : Lit) → (is_same_literal l x || is_other_literal l x) ≡ true → (has_literal x s ≡ false) × (has_other_literal x s ≡ false)) → TakenBy lines o (s ∷ ss) → Goes names lines (HeadLiteral l) hs o
goes_alien_literal names lines l hs o s ss p fit f t =
    goes names lines (HeadLiteral l) hs o (HeadLiteral l) (s ∷ ss) ss p.column (splits_by (HeadLiteral l) hs (HeadLiteral l) (inl refl)) (alien_literal l (HeadLiteral l ∷ hs) s ss f) fit t

goes_alien_key : (names : ℕ → List (List ℕ)) (lines : List Line) (k : Key) (n : ℕ) (hs : List Head) (o : Option ℕ) (s : Shape) (ss : List Shape) → Split names lines (HeadKey k n) hs → list_all (is_shape names) ss ≡ true
    → ((x : Key) → (is_same_key k x || is_other_key k x) ≡ true → (has_key x s ≡ false) × (has_other_key x s ≡ false)) → TakenBy lines o (s ∷ ss) → Goes names lines (HeadKey k n) hs o
goes_alien_key names lines k n hs o s ss p fit f t =
    goes names lines (HeadKey k n) hs o (HeadKey k n) (s ∷ ss) (AnyShape ∷ ss) p.column (splits_by (HeadKey k n) hs (HeadKey k n) (inl refl)) (alien_key k n (HeadKey k n ∷ hs) s ss f) fit t

-- from the matrix to a head
goes_literal : (names : ℕ → List (List ℕ)) (lines : List Line) (l : Lit) (hs : List Head) (o : Option ℕ) (s : Shape) (ss : List Shape) → Split names lines (HeadLiteral l) hs → is_shape names s ≡ true → list_all (is_shape names) ss ≡ true
    → TakenBy lines o (s ∷ ss) → Goes names lines (HeadLiteral l) hs o
goes_literal names lines l hs o AnyShape ss p is fit t = goes_alien_literal names lines l hs o AnyShape ss p fit (λ x _. (refl, refl)) t
goes_literal names lines l hs o (PartsShape u v) ss p is fit t = goes_alien_literal names lines l hs o (PartsShape u v) ss p fit (λ x _. (refl, refl)) t
goes_literal names lines l hs o (CellShape u) ss p is fit t = goes_alien_literal names lines l hs o (CellShape u) ss p fit (λ x _. (refl, refl)) t
goes_literal names lines l hs o (MadeShape k u) ss p is fit t = goes_alien_literal names lines l hs o (MadeShape k u) ss p fit (λ x _. (refl, refl)) t
goes_literal names lines l hs o (LiteralShape m) ss p is fit t =
    elim (cases_Bool (is_same_literal l m || is_other_literal l m)) [
      | inr f ↦ goes_alien_literal names lines l hs o (LiteralShape m) ss p fit (alien_shape l m f) t
      | inl e ↦ elim (cases_Bool (list_any (is_same_head (HeadLiteral m)) (HeadLiteral l ∷ hs))) [
        | inl a ↦
            let w = any-one_of (is_same_head (HeadLiteral m)) (HeadLiteral l ∷ hs) a in
            goes names lines (HeadLiteral l) hs o (HeadLiteral m) (LiteralShape m ∷ ss) ss p.column
            (splits_by (HeadLiteral l) hs (HeadLiteral m) (literal_head m (HeadLiteral l ∷ hs) w.0 w.1 w.2))
            (to (HeadLiteral m) (in_column (HeadLiteral l) (HeadLiteral l ∷ hs)) (LiteralShape m ∷ ss) ss (here_literal l m (HeadLiteral l ∷ hs) ss e)) fit t
        | inr a ↦
            goes names lines (HeadLiteral l) hs o Another (LiteralShape m ∷ ss) ss p.column
            (splits_by-another (HeadLiteral l) hs (literal_others l m (HeadLiteral l ∷ hs) e is a p.unlike p.typed p.stand))
            (to Another (in_column (HeadLiteral l) (HeadLiteral l ∷ hs)) (LiteralShape m ∷ ss) ss (other_literal l m (HeadLiteral l ∷ hs) ss e a)) fit t
      ]
    ]
  where
    head_is : (m : Lit) (g : Head) → is_same_head (HeadLiteral m) g ≡ true → g ≡ HeadLiteral m
    head_is m (HeadLiteral x) e = ap HeadLiteral (sym (same_literal-true m x e))
    head_is m (HeadKey k n) e = cc
    head_is m Another e = cc

    literal_head : (m : Lit) (xs : List Head) (g : Head) → OneOf xs g → is_same_head (HeadLiteral m) g ≡ true → OneOf xs (HeadLiteral m)
    literal_head m xs g one e = subst (λ (y : Head). OneOf xs y) (head_is m g e) one

goes_key : (names : ℕ → List (List ℕ)) (lines : List Line) (k : Key) (n : ℕ) (hs : List Head) (o : Option ℕ) (s : Shape) (ss : List Shape) → Split names lines (HeadKey k n) hs → is_shape names s ≡ true → list_all (is_shape names) ss ≡ true
    → TakenBy lines o (s ∷ ss) → Goes names lines (HeadKey k n) hs o
goes_key names lines k n hs o AnyShape ss p is fit t = goes_alien_key names lines k n hs o AnyShape ss p fit (λ x _. (refl, refl)) t
goes_key names lines k n hs o (PartsShape u v) ss p is fit t = goes_alien_key names lines k n hs o (PartsShape u v) ss p fit (λ x _. (refl, refl)) t
goes_key names lines k n hs o (CellShape u) ss p is fit t = goes_alien_key names lines k n hs o (CellShape u) ss p fit (λ x _. (refl, refl)) t
goes_key names lines k n hs o (LiteralShape m) ss p is fit t = goes_alien_key names lines k n hs o (LiteralShape m) ss p fit (λ x _. (refl, refl)) t
goes_key names lines k n hs o (MadeShape j u) ss p is fit t =
    let parts = and_parts (can_be_made names j) (is_shape names u) is in
    elim (cases_Bool (is_same_key k j || is_other_key k j)) [
      | inr f ↦ goes_alien_key names lines k n hs o (MadeShape j u) ss p fit (alien_made k j u f) t
      | inl e ↦ elim (cases_Bool (list_any (is_same_head (HeadKey j 0)) (HeadKey k n ∷ hs))) [
        | inl a ↦
            let w = any-one_of (is_same_head (HeadKey j 0)) (HeadKey k n ∷ hs) a in
            let i = head_is j w.0 w.2 in
            goes names lines (HeadKey k n) hs o (HeadKey j i.0) (MadeShape j u ∷ ss) (u ∷ ss) p.column
            (splits_by (HeadKey k n) hs (HeadKey j i.0) (subst (λ (y : Head). OneOf (HeadKey k n ∷ hs) y) i.1 w.1))
            (to (HeadKey j i.0) (in_column (HeadKey k n) (HeadKey k n ∷ hs)) (MadeShape j u ∷ ss) (u ∷ ss) (here_key k j n i.0 (HeadKey k n ∷ hs) u ss e)) (and_from (is_shape names u) _ parts.1 fit) t
        | inr a ↦
            goes names lines (HeadKey k n) hs o Another (MadeShape j u ∷ ss) ss p.column
            (splits_by-another (HeadKey k n) hs
            (key_others names k j n (HeadKey k n ∷ hs) e parts.0 (λ m. any_number j m (HeadKey k n ∷ hs) a) p.unlike p.typed p.keys (and_parts (is_named names n k) _ p.keys).0))
            (to Another (in_column (HeadKey k n) (HeadKey k n ∷ hs)) (MadeShape j u ∷ ss) ss (other_key k j n 0 (HeadKey k n ∷ hs) u ss e a)) fit t
      ]
    ]
  where
    head_is : (j : Key) (g : Head) → is_same_head (HeadKey j 0) g ≡ true → (m : ℕ) × (g ≡ HeadKey j m)
    head_is j (HeadKey x m) e = (m, ap (λ (y : Key). HeadKey y m) (sym (same_key-true j x e)))
    head_is j (HeadLiteral l) e = cc
    head_is j Another e = cc

    any_number : (j : Key) (m : ℕ) (xs : List Head) → list_any (is_same_head (HeadKey j 0)) xs ≡ false → list_any (is_same_head (HeadKey j m)) xs ≡ false
    any_number j m [] e = refl
    any_number j m (HeadKey x i ∷ xs) e = let a = or_parts (is_same_key j x) _ e in or_from (is_same_key j x) _ a.0 (any_number j m xs a.1)
    any_number j m (HeadLiteral l ∷ xs) e = any_number j m xs e
    any_number j m (Another ∷ xs) e = any_number j m xs e

-- from a head back to the matrix
comes : (names : ℕ → List (List ℕ)) (lines : List Line) (h : Head) (hs : List Head) (o : Option ℕ) (g : Head) (ss tt : List Shape) → list_all (in_column h (h ∷ hs)) (plain lines) ≡ true
    → Keeps g (in_column h (h ∷ hs)) ss tt → list_all (is_shape names) ss ≡ true → TakenBy (kept_lines lines g) o tt → IsTaken names lines o
comes names lines h hs o g ss tt c k fit t = record { shapes = ss; fit = fit; taken = taken-kept_back g (in_column h (h ∷ hs)) ss tt (from g (in_column h (h ∷ hs)) ss tt k) lines c o t }

-- by a head of the column
comes_head : (names : ℕ → List (List ℕ)) (lines : List Line) (h : Head) (hs : List Head) (o : Option ℕ) (g : Head) → Split names lines h hs → is_typed h g ≡ true → stands g ≡ true → keyed names g ≡ true → IsTaken names (kept_lines lines g) o → IsTaken names lines o
comes_head names lines (HeadLiteral l) hs o (HeadLiteral m) p e s k t =
    comes names lines (HeadLiteral l) hs o (HeadLiteral m) (LiteralShape m ∷ t.shapes) t.shapes p.column (here_literal l m (HeadLiteral l ∷ hs) t.shapes e) (and_from (can_stand m) _ s t.fit) t.taken
comes_head names lines (HeadLiteral l) hs o (HeadKey j m) p e s k t = cc
comes_head names lines (HeadLiteral l) hs o Another p e s k t = cc
comes_head names lines (HeadKey i n) hs o (HeadLiteral m) p e s k t = cc
comes_head names lines (HeadKey i n) hs o Another p e s k t = cc
comes_head names lines (HeadKey i n) hs o (HeadKey j m) p e s k t =
    comes names lines (HeadKey i n) hs o (HeadKey j m) (MadeShape j (first_shape t.shapes) ∷ other_shapes t.shapes) (first_shape t.shapes ∷ other_shapes t.shapes) p.column
    (here_key i j n m (HeadKey i n ∷ hs) (first_shape t.shapes) (other_shapes t.shapes) e)
    (and_from (can_be_made names j && is_shape names (first_shape t.shapes)) _ (and_from (can_be_made names j) _ (made j k) (first_fit names t.shapes t.fit)) (others_fit names t.shapes t.fit))
    (whole (kept_lines lines (HeadKey j m)) o t.shapes t.taken)
  where
    made : (j : Key) → is_named names m j ≡ true → can_be_made names j ≡ true
    made (Of d x) e = (and_parts (eqb (length (names d)) m && are_distinct (names d)) (list_any (bytes_eq x) (names d)) e).1
    made (Exn q) e = refl
comes_head names lines Another hs o g p e s k t = cc

-- by another than the heads of the column
comes_another : (names : ℕ → List (List ℕ)) (lines : List Line) (h : Head) (hs : List Head) (o : Option ℕ) → Split names lines h hs → Other names h (h ∷ hs) → IsTaken names (kept_lines lines Another) o → IsTaken names lines o
comes_another names lines h hs o p q t = by h q.head p q.typed q.stand q.made q.alike
  where
    by : (h g : Head) → Split names lines h hs → is_typed h g ≡ true → stands g ≡ true → makeable names g ≡ true → list_any (is_same_head g) (h ∷ hs) ≡ false → IsTaken names lines o
    by (HeadLiteral l) (HeadLiteral m) p e s k u =
        comes names lines (HeadLiteral l) hs o Another (LiteralShape m ∷ t.shapes) t.shapes p.column (other_literal l m (HeadLiteral l ∷ hs) t.shapes e u) (and_from (can_stand m) _ s t.fit) t.taken
    by (HeadLiteral l) (HeadKey j m) p e s k u = cc
    by (HeadLiteral l) Another p e s k u = cc
    by (HeadKey i n) (HeadLiteral m) p e s k u = cc
    by (HeadKey i n) Another p e s k u = cc
    by (HeadKey i n) (HeadKey j m) p e s k u =
        comes names lines (HeadKey i n) hs o Another (MadeShape j AnyShape ∷ t.shapes) t.shapes p.column (other_key i j n m (HeadKey i n ∷ hs) AnyShape t.shapes e u)
        (and_from (can_be_made names j && true) _ (and_from (can_be_made names j) true k refl) t.fit) t.taken
    by Another g p e s k u = cc

split_of : (names : ℕ → List (List ℕ)) (lines : List Line) (s : IsSplit (plain lines)) → AreNamed names lines → list_all stands (s.first ∷ s.others) ≡ true → Split names lines s.first s.others
split_of names lines s n e = record {
  column = s.column;
  typed = typed_heads (plain lines) s;
  keys = keyed_heads names (plain lines) s (named_rows lines n.each);
  stand = e;
  unlike = s.unlike;
}
  where
    named_rows : (ls : List Line) → list_all (λ l. list_all (are_named names) l.columns) ls ≡ true → list_all (list_all (are_named names)) (plain ls) ≡ true
    named_rows [] e = refl
    named_rows (l ∷ ls) e = let a = and_parts (list_all (are_named names) l.columns) _ e in and_from (list_all (are_named names) l.columns) _ a.0 (named_rows ls a.1)

-- a matrix is taken for a rule exactly where what some head keeps of it is
pub taken_split : (names : ℕ → List (List ℕ)) (lines : List Line) (s : IsSplit (plain lines)) → AreNamed names lines → list_all stands (s.first ∷ s.others) ≡ true → (o : Option ℕ) → IsTaken names lines o
    → (h : Head) × OneOf (split_by (s.first ∷ s.others)) h × IsTaken names (kept_lines lines h) o
taken_split names lines s n e o t =
    let g = by s.first (split_of names lines s n e) in
    (g.head, g.one, g.taken)
  where
    by : (h : Head) → Split names lines h s.others → Goes names lines h s.others o
    by (HeadLiteral l) p = goes_literal names lines l s.others o (first_shape t.shapes) (other_shapes t.shapes) p (first_fit names t.shapes t.fit) (others_fit names t.shapes t.fit) (whole lines o t.shapes t.taken)
    by (HeadKey k m) p = goes_key names lines k m s.others o (first_shape t.shapes) (other_shapes t.shapes) p (first_fit names t.shapes t.fit) (others_fit names t.shapes t.fit) (whole lines o t.shapes t.taken)
    by Another p = let f : false ≡ true = p.typed in cc

pub taken_split_back : (names : ℕ → List (List ℕ)) (lines : List Line) (s : IsSplit (plain lines)) → AreNamed names lines → list_all stands (s.first ∷ s.others) ≡ true → (o : Option ℕ)
    → (h : Head) → OneOf (split_by (s.first ∷ s.others)) h → IsTaken names (kept_lines lines h) o → IsTaken names lines o
taken_split_back names lines s n e o h one t =
    let p = split_of names lines s n e in
    elim (split_by-cases s.first s.others h one) [
      | inl a ↦ comes_head names lines s.first s.others o h p (one_of-passes (is_typed s.first) (s.first ∷ s.others) h p.typed a) (one_of-passes stands (s.first ∷ s.others) h p.stand a) (one_of-passes (keyed names) (s.first ∷ s.others) h p.keys a) t
      | inr a ↦ comes_another names lines s.first s.others o p (another names s.first (s.first ∷ s.others) a.1 (and_parts (keyed names s.first) _ p.keys).0 (and_parts (is_typed s.first s.first) _ p.typed).0)
          (subst (λ (y : Head). IsTaken names (kept_lines lines y) o) a.0 t)
    ]
