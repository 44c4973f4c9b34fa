-- Reading a comment byte by byte finds its end, and nothing else.
use Rattle.std.proofs.Common.{◌<◌, ◌≤◌, length, length-append, length-drop, drop, get_or, add-one, drop-cons, ◌≡◌, ℕ, zero, suc, ◌+◌, ◌-◌, Bool, true, false, cond, ◌&&◌, ◌||◌, List, [], ◌∷◌, ◌++◌, Some, None, refl, sym, ap, subst, ◌∙◌, arith, eqb}
use Rattle.std.proofs.Math.ListN.{drop_of_length-le}
use Rattle.std.proofs.lemmas.Bool.{eqb-true}
use Rattle.sml_lex.specs.declared.comment.Before.{Before}
use Rattle.sml_lex.specs.declared.comment.Before.TheVariants.{Other, Paren, Star}
use Rattle.sml_lex.specs.Bytes.{first_is}
use Rattle.sml_lex.specs.Comments.{is_mark, Inside, ends, opens, closes, other, CommentEnds}
use Rattle.sml_lex.specs.Marks.{after, after_other, depth_after, is_end, run}

-- a parenthesis with no star behind it does not matter, nor a star with no parenthesis behind it
paren_is : (d : ℕ) (s : List ℕ) → first_is (λ (b : ℕ). eqb b 42) s ≡ false → run Paren d s ≡ run Other d s
unfolding run
paren_is d [] e = refl
paren_is d (c ∷ s) e = rw e refl

star_is : (d : ℕ) (s : List ℕ) → first_is (λ (b : ℕ). eqb b 41) s ≡ false → run Star d s ≡ run Other d s
unfolding run
star_is d [] e = refl
star_is d (c ∷ s) e = rw e refl

or_false : (a b : Bool) → (a || b) ≡ false → (a ≡ false) × (b ≡ false)
or_false true b e = absurd cc
or_false false b e = (refl, e)

next_append : (k : ℕ) (w r : List ℕ) → Inside k w → (c : ℕ) → first_is (λ (b : ℕ). eqb b c) (w ++ r) ≡ first_is (λ (b : ℕ). eqb b c) w
next_append k w r ends c = refl
next_append k w r (opens i) c = refl
next_append k w r (closes i) c = refl
next_append k w r (other b m i) c = refl

-- one byte that is no mark
plain_step : (c d : ℕ) (s : List ℕ) → is_mark c s ≡ false → run Other d (c ∷ s) ≡ run Other d s
unfolding run
plain_step c d s m = go (eqb c 40) (eqb c 42) refl refl (or_false (eqb c 40 && first_is (λ (b : ℕ). eqb b 42) s) (eqb c 42 && first_is (λ (b : ℕ). eqb b 41) s) m)
  where
    go : (x y : Bool) → eqb c 40 ≡ x → eqb c 42 ≡ y → ((eqb c 40 && first_is (λ (b : ℕ). eqb b 42) s) ≡ false) × ((eqb c 42 && first_is (λ (b : ℕ). eqb b 41) s) ≡ false) → run (cond (eqb c 40) Paren (cond (eqb c 42) Star Other)) d s ≡ run Other d s
    go true y p q n = let no : first_is (λ (b : ℕ). eqb b 42) s ≡ false = sym (ap (λ (b : Bool). b && first_is (λ (b : ℕ). eqb b 42) s) p) ∙ n.0 in rw p (paren_is d s no)
    go false true p q n = let no : first_is (λ (b : ℕ). eqb b 41) s ≡ false = sym (ap (λ (b : Bool). b && first_is (λ (b : ℕ). eqb b 41) s) q) ∙ n.1 in rw p (rw q (star_is d s no))
    go false false p q n = rw p (rw q refl)

no_zero : (k : ℕ) → eqb (suc k) 0 ≡ false
no_zero k = go (eqb (suc k) 0) refl
  where
    go : (b : Bool) → eqb (suc k) 0 ≡ b → b ≡ false
    go true e = let z = eqb-true (suc k) 0 e in absurd (omega arith)
    go false e = refl

-- what is a comment is read
pub complete : (d : ℕ) (w r : List ℕ) → Inside d w → run Other d (w ++ r) ≡ Some r
unfolding run
complete d w r ends = refl
complete d w r (opens i) = complete (suc d) _ r i
complete d w r (closes {d = k} {w = v} i) =
    let down : suc k - 1 ≡ k = omega arith in
    rw (no_zero k) (rw down (complete k v r i))
complete d w r (other {w = v} c m i) =
    plain_step c d (v ++ r) (rw (next_append d v r i 42) (rw (next_append d v r i 41) m)) ∙ complete d v r i

-- what is read is a comment: the byte before, if it may begin a mark, counts with it
abbrev before : Before → List ℕ
before Other = []
before Paren = 40 ∷ []
before Star = 42 ∷ []

abbrev Found : Before → ℕ → List ℕ → List ℕ → Type 0
Found b d s r = (w : List ℕ) × Inside d (before b ++ w) × (s ≡ w ++ r)

-- a byte that ends no mark
other_case : (c d : ℕ) (s r : List ℕ) → ((b : Before) (k : ℕ) → run b k s ≡ Some r → Found b k s r) → run (after_other c) d s ≡ Some r → (w : List ℕ) × Inside d (c ∷ w) × (s ≡ w ++ r)
other_case c d s r ih e = go (eqb c 40) (eqb c 42) refl refl e
  where
    go : (x y : Bool) → eqb c 40 ≡ x → eqb c 42 ≡ y → run (cond x Paren (cond y Star Other)) d s ≡ Some r → (w : List ℕ) × Inside d (c ∷ w) × (s ≡ w ++ r)
    go true y p q e = let f = ih Paren d e in (f.0, subst (λ (b : ℕ). Inside d (b ∷ f.0)) (sym (eqb-true c 40 p)) f.1, f.2)
    go false true p q e = let f = ih Star d e in (f.0, subst (λ (b : ℕ). Inside d (b ∷ f.0)) (sym (eqb-true c 42 q)) f.1, f.2)
    go false false p q e = let f = ih Other d e in (f.0, other c (rw p (rw q refl)) f.1, f.2)

behind : (c d : ℕ) (s r : List ℕ) (b : ℕ) → ((w : List ℕ) → is_mark b (c ∷ w) ≡ false) → (w : List ℕ) × Inside d (c ∷ w) × (s ≡ w ++ r) → (w : List ℕ) × Inside d (b ∷ w) × (c ∷ s ≡ w ++ r)
behind c d s r b m f = (c ∷ f.0, other b (m f.0) f.1, ap (λ (z : List ℕ). c ∷ z) f.2)

pub sound : (b : Before) (d : ℕ) (s r : List ℕ) → run b d s ≡ Some r → Found b d s r
unfolding run
sound b d [] r e = absurd cc
sound Other d (c ∷ s) r e =
    let f = other_case c d s r (λ b k i. sound b k s r i) e in (c ∷ f.0, f.1, ap (λ (z : List ℕ). c ∷ z) f.2)
sound Paren d (c ∷ s) r e = go (λ b k i. sound b k s r i) (eqb c 42) refl e
  where
    go : ((b : Before) (k : ℕ) → run b k s ≡ Some r → Found b k s r) → (x : Bool) → eqb c 42 ≡ x → run (cond x Other (after_other c)) (cond x (suc d) d) s ≡ Some r → Found Paren d (c ∷ s) r
    go ih true p e = let f = ih Other (suc d) e in (c ∷ f.0, subst (λ (b : ℕ). Inside d (40 ∷ b ∷ f.0)) (sym (eqb-true c 42 p)) (opens f.1), ap (λ (z : List ℕ). c ∷ z) f.2)
    go ih false p e = behind c d s r 40 (λ w. rw p refl) (other_case c d s r ih e)
sound Star d (c ∷ s) r e = go (λ b k i. sound b k s r i) d (eqb c 41) refl e
  where
    go : ((b : Before) (k : ℕ) → run b k s ≡ Some r → Found b k s r) → (d : ℕ) (x : Bool) → eqb c 41 ≡ x → cond (x && eqb d 0) (Some s) (run (cond x Other (after_other c)) (cond x (d - 1) d) s) ≡ Some r → Found Star d (c ∷ s) r
    go ih zero true p e =
        let same : s ≡ r = cc in
        (41 ∷ [], ends, ap (λ (b : ℕ). b ∷ s) (eqb-true c 41 p) ∙ ap (λ (z : List ℕ). 41 ∷ z) same)
    go ih (suc k) true p e =
        let e' : run Other (suc k - 1) s ≡ Some r = rw (no_zero k) at e in
        let down : suc k - 1 ≡ k = omega arith in
        let f = ih Other k (subst (λ (j : ℕ). run Other j s ≡ Some r) down e') in
        (c ∷ f.0, subst (λ (b : ℕ). Inside (suc k) (42 ∷ b ∷ f.0)) (sym (eqb-true c 41 p)) (closes f.1), ap (λ (z : List ℕ). c ∷ z) f.2)
    go ih d false p e = behind c d s r 42 (λ w. rw p refl) (other_case c d s r ih e)

-- one byte of the loop
pub run_step : (b : Before) (d i : ℕ) (s : List ℕ) → i < length s → run b d (drop i s) ≡ cond (is_end b (get_or s i 0) d) (Some (drop (i + 1) s)) (run (after b (get_or s i 0)) (depth_after b (get_or s i 0) d) (drop (i + 1) s))
unfolding run
run_step b d i s lt = rw (add-one i, drop-cons s i 0) refl

pub run_end : (b : Before) (d i : ℕ) (s : List ℕ) → length s ≤ i → run b d (drop i s) ≡ None
unfolding run
run_end b d i s le = rw (drop_of_length-le s le) refl

-- the loop has come to i, in the state b with the depth d
pub loop_found : (b : Before) (d i : ℕ) (s : List ℕ) → i < length s → run b d (drop i s) ≡ run Other 0 s → is_end b (get_or s i 0) d ≡ true → CommentEnds s (i + 1)
loop_found b d i s lt same e =
    let f = sound Other 0 s (drop (i + 1) s) (sym same ∙ run_step b d i s lt ∙ rw e refl) in
    let size : length f.0 + length (drop (i + 1) s) ≡ length s = sym (length-append f.0 (drop (i + 1) s)) ∙ sym (ap length f.2) in
    record { inside = f.0; rest = drop (i + 1) s; whole = f.2; nested = f.1; long = omega (arith, length-drop (i + 1) s) }

pub loop_turn : (b : Before) (d i : ℕ) (s : List ℕ) → i < length s → run b d (drop i s) ≡ run Other 0 s → is_end b (get_or s i 0) d ≡ false
    → run (after b (get_or s i 0)) (depth_after b (get_or s i 0) d) (drop (i + 1) s) ≡ run Other 0 s
loop_turn b d i s lt same e = sym (sym same ∙ run_step b d i s lt ∙ rw e refl)

pub loop_none : (b : Before) (d i : ℕ) (s : List ℕ) → length s ≤ i → run b d (drop i s) ≡ run Other 0 s → (n : ℕ) → CommentEnds s n → ⊥
loop_none b d i s le same n c =
    let one : run Other 0 s ≡ None = sym same ∙ run_end b d i s le in
    let two : run Other 0 s ≡ Some c.rest = ap (run Other 0) c.whole ∙ complete 0 c.inside c.rest c.nested in
    cc

-- a comment has one end
pub one_end : (s : List ℕ) (n m : ℕ) → CommentEnds s n → CommentEnds s m → n ≡ m
one_end s n m c d =
    let one : run Other 0 s ≡ Some c.rest = ap (run Other 0) c.whole ∙ complete 0 c.inside c.rest c.nested in
    let two : run Other 0 s ≡ Some d.rest = ap (run Other 0) d.whole ∙ complete 0 d.inside d.rest d.nested in
    let same : c.rest ≡ d.rest = cc in
    let left : length c.inside + length c.rest ≡ length s = sym (length-append c.inside c.rest) ∙ sym (ap length c.whole) in
    let right : length d.inside + length d.rest ≡ length s = sym (length-append d.inside d.rest) ∙ sym (ap length d.whole) in
    omega (arith, ap length same, c.long, d.long)
