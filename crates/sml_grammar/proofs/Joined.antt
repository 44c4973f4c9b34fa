-- More shapes: trees of one level seen as others, and a phrase before what may be missing.
use Rattle.std.proofs.Common.{◌≡◌, if◌then◌else◌, ◌⊎◌, ℕ, zero, suc, ◌+◌, ◌≤◌, max, Bool, true, false, not, ◌&&◌, ◌||◌, eqb, List, [], ◌∷◌, ◌++◌, Option, Some, None, Ok, Err, refl, sym, ap, subst, ◌∙◌, arith, inl, inr}
use Rattle.std.proofs.lemmas.Bool.{eqb-true}
use Rattle.readers.specs.declared.code.Code.{Code}
use Rattle.readers.specs.declared.code.Code.TheVariants.{Grammar}
use Rattle.readers.specs.Reader.{first, head_is, Reader, both, mapped, else_by}
use Rattle.readers.specs.Language.{Both, Viable, As, Or}
use Rattle.readers.specs.Room.{Room, at_height}
use Rattle.readers.specs.Exact.{Found, Reads, Refuses, row_stop}
use Rattle.readers.specs.Forms.{Nothing, Maybe, else_if}
use Rattle.readers.proofs.Bundle.{Known, Fitting, Reading, Refusing, read_fits, refused_fits, Part, Opening, Phrase}
use Rattle.readers.proofs.Combine.{made_opens, pair_by}
use Rattle.readers.proofs.Choose.{maybe_stop, without_room, head_left, head_right, head_neither, some_of}
use Rattle.readers.proofs.Outcome.{not_both, head_some, head-append, reads_same, refuses_same}
use Rattle.readers.proofs.First.{head_other}
use Rattle.readers.proofs.Alternative.{or_reads, or_refuses}
use Rattle.readers.proofs.Once.{err_is}
use Rattle.readers.proofs.Row.{both_true, not_true, not_false}
use Rattle.readers.proofs.Grow.{two_are}
use Rattle.readers.proofs.Mapped.{as_made, mapped_reads, mapped_refuses}
use Rattle.sml_lex.specs.declared.token.Token.{Token}
use Rattle.sml_lex.specs.declared.token.Kind.{Kind}
use Rattle.sml_lex.specs.declared.token.Kind.TheVariants as kind
use Rattle.sml_lex.specs.Bytes.{is_letter, first_is}
use Rattle.sml_fix.specs.Fixities.{Settings}
use Rattle.sml_grammar.specs.Tokens.{Firsts, just, is, among, plain_fix, tokens_of, listed, kind_among, path_class, lit_class, name_class, long_class, is_infix, is_star, TYVAR, LAST, ALPHA, SYMBOL, STAR}
use Rattle.sml_grammar.proofs.Sets.{apart, apart_is, is_just, in_either}
use Rattle.sml_grammar.proofs.Shapes.{stops, word_halts}

-- the same height, at a level
pub made_level : {K S T : Type 0} {s : Known} {n : ℕ} {D : Room → S → List K → Type 0} {p : Room → Reader K S} {sd : S → Option K → Bool} {td : S → ℕ} {ld nd : ℕ} {test : K → Bool} {ed : ℕ} (f : S → T) (tf : T → ℕ) (sf : T → Option K → Bool)
    → Phrase s n 1 D p sd td ld nd test ed → ((x : S) → tf (f x) ≡ td x) → ((x : S) (o : Option K) → sd x o ≡ sf (f x) o) → Phrase s n 1 (λ k. As f (D k)) (λ k. mapped f (p k)) sf tf ld nd test ed
made_level {D = D} {p = p} {sd = sd} f tf sf P grows same = record {
  part = record {
    above = λ k t w i e. let a = P.part.above k e.0 w i e.2 in let b = grows e.0 in let c = ap tf e.1 in omega arith;
    least = λ k t w i e. let a = P.part.least k e.0 w i e.2 in let b = grows e.0 in let c = ap tf e.1 in omega arith;
    lowest = λ k t w i e. P.part.lowest k e.0 w i e.2;
    fits = λ h k t w i b l e. let g = grows e.0 in let c = ap tf e.1 in (e.0, e.1, P.part.fits h k e.0 w i b (omega arith) e.2);
    some = λ h i l. let v = P.part.some h i l in record { tree = f v.tree; more = v.more; derives = (v.tree, refl, v.derives) };
    reads = λ k i. mapped_reads f (D k) (As f (D k)) (as_made f (D k)) sd sf (p k) same (P.part.reads k i);
    refuses = λ h i l v e j. mapped_refuses f D (λ k. As f (D k)) p (λ k. as_made f (D k)) h v e (P.part.refuses h i l v e) j;
  };
  opening = made_opens f P.opening;
}

-- ---- a phrase, and what may be missing behind it

abbrev pub after_stop : {K T : Type 0} → (Option K → Bool) → (K → Bool) → (T → Option K → Bool) → Option T → Option K → Bool
after_stop stop test se None o = stop o && not (head_is test o)
after_stop stop test se (Some y) o = se y o

maybe_first : {K T : Type 0} (test : K → Bool) (E : T → List K → Type 0) → ((y : T) (w : List K) → E y w → head_is test (first w) ≡ true) → (y : Option T) (w : List K) → Maybe E y w → ((y ≡ None) × (w ≡ [])) ⊎ ((x : T) × (y ≡ Some x) × (head_is test (first w) ≡ true))
maybe_first test E f y w (inl d) = inr (d.0, sym d.1, f d.0 w d.2)
maybe_first test E f y w (inr d) = inl (sym d.0, d.1)

module _ {K S T : Type 0} {s : Known} {n : ℕ} {D : Room → S → List K → Type 0} {p : Room → Reader K S} {stop : Option K → Bool} {td : S → ℕ} {ld nd : ℕ} {E : Room → T → List K → Type 0} {q : Room → Reader K (Option T)} {se : T → Option K → Bool} {te : Option T → ℕ} {le ne : ℕ} {test : K → Bool} where
  pub pair_maybe : Part s n 0 D p (λ x. stop) td ld nd → ((k : Room) (y : T) (w : List K) → Fitting s n k → E k y w → head_is test (first w) ≡ true) → Part s n 0 (λ k. Maybe (E k)) q (maybe_stop test se) te le ne → ((c : K) → test c ≡ true → stop (Some c) ≡ true)
      → Part s n 0 (λ k. Both (D k) (Maybe (E k))) (λ k. both (p k) (q k)) (λ x. after_stop stop test se x.1) (λ x. max (td x.0) (te x.1)) (max ld le) (max nd (max ne le))
  pair_maybe P begins Q halts = pair_by P Q (λ x. after_stop stop test se x.1) split join
    where
      split : (k : Room) (x : S) (y : Option T) (v r : List K) → Fitting s n k → Maybe (E k) y v → after_stop stop test se y (first r) ≡ true → (stop (first (v ++ r)) ≡ true) × (maybe_stop test se y (first r) ≡ true)
      split k x None v r i d e = elim (maybe_first test (E k) (λ y w d. begins k y w i d) None v d) [
        | inl a ↦ let two = both_true (stop (first r)) (not (head_is test (first r))) e in (subst (λ (v : List K). stop (first (v ++ r)) ≡ true) (sym a.1) two.0, two.1)
        | inr a ↦ let no : None ≡ Some a.0 = a.1 in absurd cc
      ]
      split k x (Some y) v r i d e = elim (maybe_first test (E k) (λ y w d. begins k y w i d) (Some y) v d) [
        | inl a ↦ let no : Some y ≡ None = a.0 in absurd cc
        | inr a ↦ let g = head_some test (first (v ++ r)) (head-append test v r a.2) in (ap stop g.1 ∙ halts g.0 g.2, e)
      ]

      join : (k : Room) (x : S) (y : Option T) (v r : List K) → Fitting s n k → Maybe (E k) y v → stop (first (v ++ r)) ≡ true → maybe_stop test se y (first r) ≡ true → after_stop stop test se y (first r) ≡ true
      join k x None v r i d a b = elim (maybe_first test (E k) (λ y w d. begins k y w i d) None v d) [
        | inl c ↦ two_are (stop (first r)) (not (head_is test (first r))) (subst (λ (v : List K). stop (first (v ++ r)) ≡ true) c.1 a) b
        | inr c ↦ let no : None ≡ Some c.0 = c.1 in absurd cc
      ]
      join k x (Some y) v r i d a b = b

-- ---- rows that a word closes

pub row_halts : {T : Type 0} (k end : ℕ) (goes : Firsts) → apart (just end) goes ≡ true → apart (just end) (just k) ≡ true → (t : List T) (c : Token) → is end c ≡ true → row_stop (is k) (λ (t : T). stops goes) t (Some c) ≡ true
row_halts k end goes e i [] c x = not_false (is k c) (is_just plain_fix k c ∙ apart_is plain_fix plain_fix (just end) (just k) i c (sym (is_just plain_fix end c) ∙ x))
row_halts k end goes e i (t ∷ []) c x =
    two_are (stops goes (Some c)) (not (is k c)) (word_halts end goes e c x) (not_false (is k c) (is_just plain_fix k c ∙ apart_is plain_fix plain_fix (just end) (just k) i c (sym (is_just plain_fix end c) ∙ x)))
row_halts k end goes e i (t ∷ u ∷ ts) c x = row_halts k end goes e i (u ∷ ts) c x

-- ---- sets whatever the fixities

abbrev same_in : ℕ → Firsts → Type 0
same_in n a = listed n a.plain ≡ listed n a.ops

name_case : (v : List ℕ) (P : ℕ → Type 0) → P ALPHA → P SYMBOL → P STAR → P (name_class v)
name_case v P a b c = go (first_is is_letter v) (is_star v)
  where
    go : (x y : Bool) → P (if x then ALPHA else (if y then STAR else SYMBOL))
    go true y = a
    go false true = c
    go false false = b

-- a set that has identifiers whatever their status
pub steady : (f g : Settings) (a : Firsts) → same_in ALPHA a → same_in SYMBOL a → same_in STAR a → (t : Token) → among f a t ≡ among g a t
steady f g a x y z t = go t.kind
  where
    one : (v : List ℕ) (i j : Bool) → listed (name_class v) (if i then a.ops else a.plain) ≡ listed (name_class v) (if j then a.ops else a.plain)
    one v true true = refl
    one v false false = refl
    one v false true = name_case v (λ n. listed n a.plain ≡ listed n a.ops) x y z
    one v true false = sym (name_case v (λ n. listed n a.plain ≡ listed n a.ops) x y z)

    parts : (p : List (List ℕ)) → listed (path_class p) (if is_infix f p then a.ops else a.plain) ≡ listed (path_class p) (if is_infix g p then a.ops else a.plain)
    parts [] = refl
    parts (v ∷ []) = one v (is_infix f (v ∷ [])) (is_infix g (v ∷ []))
    parts (v ∷ w ∷ s) = refl

    go : (k : Kind) → kind_among f a t.decimal k ≡ kind_among g a t.decimal k
    go (kind.Word n) = refl
    go (kind.Id p) = parts p
    go (kind.Tyvar v) = refl
    go (kind.Lit l) = refl
    go kind.End = refl

-- ---- a set in another

abbrev pub subset : List ℕ → List ℕ → Bool
subset [] ks = true
subset (m ∷ ms) ks = listed m ks && subset ms ks

abbrev pub within : Firsts → Firsts → Bool
within a b = subset a.words b.words && subset (a.plain ++ a.ops) b.plain

subset_is : (ms ks : List ℕ) → subset ms ks ≡ true → (n : ℕ) → listed n ms ≡ true → listed n ks ≡ true
subset_is [] ks e n i = absurd cc
subset_is (m ∷ ms) ks e n i = go (eqb n m) refl i (λ j. subset_is ms ks (both_true (listed m ks) (subset ms ks) e).1 n j)
  where
    go : (b : Bool) → eqb n m ≡ b → (b || listed n ms) ≡ true → (listed n ms ≡ true → listed n ks ≡ true) → listed n ks ≡ true
    go true j i f = ap (λ (x : ℕ). listed x ks) (eqb-true n m j) ∙ (both_true (listed m ks) (subset ms ks) e).0
    go false j i f = f i

-- under any fixities, in a set where status plays no part
pub within_is : (f : Settings) (a b : Firsts) → within a b ≡ true → (t : Token) → among f a t ≡ true → tokens_of b t ≡ true
within_is f a b e t i = go t.kind i
  where
    two : (subset a.words b.words ≡ true) × (subset (a.plain ++ a.ops) b.plain ≡ true)
    two = both_true (subset a.words b.words) (subset (a.plain ++ a.ops) b.plain) e

    class : (j : Bool) (n : ℕ) → listed n (if j then a.ops else a.plain) ≡ true → listed n b.plain ≡ true
    class j n i = subset_is (a.plain ++ a.ops) b.plain two.1 n (in_either j n a i)

    parts : (p : List (List ℕ)) → listed (path_class p) b.plain ≡ true → listed (path_class p) (if is_infix plain_fix p then b.ops else b.plain) ≡ true
    parts [] x = x
    parts (v ∷ []) x = x
    parts (v ∷ w ∷ s) x = x

    go : (k : Kind) → kind_among f a t.decimal k ≡ true → kind_among plain_fix b t.decimal k ≡ true
    go (kind.Word n) i = subset_is a.words b.words two.0 n i
    go (kind.Id p) i = parts p (class (is_infix f p) (path_class p) i)
    go (kind.Tyvar v) i = class false TYVAR i
    go (kind.Lit l) i = class false (lit_class t.decimal l) i
    go kind.End i = class false LAST i

out_of : (x y : Bool) → (x ≡ true → y ≡ true) → y ≡ false → x ≡ false
out_of true y f e = let no : true ≡ false = sym (f refl) ∙ e in absurd cc
out_of false y f e = refl

-- what stops the larger stops the smaller
pub narrow : (f : Settings) (a b : Firsts) → within a b ≡ true → (o : Option Token) → stops b o ≡ true → not (head_is (among f a) o) ≡ true
narrow f a b e None st = refl
narrow f a b e (Some c) st = not_false (among f a c) (out_of (among f a c) (tokens_of b c) (within_is f a b e c) (not_true (tokens_of b c) st))

-- ---- an alternative of which it is not known that it has a phrase at all

pub record Scant {K T : Type 0} (s : Known) (n up : ℕ) (D : Room → T → List K → Type 0) (p : Room → Reader K T) (stop : T → Option K → Bool) (tall : T → ℕ) (low need : ℕ) (test : K → Bool) (enough : ℕ) : Type 0 where
  pub above : (k : Room) (t : T) (w : List K) → Fitting s n k → D k t w → up ≤ tall t
  pub least : (k : Room) (t : T) (w : List K) → Fitting s n k → D k t w → tall t ≤ up + k.height
  pub lowest : (k : Room) (t : T) (w : List K) → Fitting s n k → D k t w → low ≤ k.height
  pub fits : (h k : Room) (t : T) (w : List K) → Fitting s n h → (h.clashes ≡ true → k.clashes ≡ true) → tall t ≤ up + k.height → D h t w → D k t w
  pub reads : (k : Room) → Reading s n k → Reads (D k) stop (p k)
  pub refuses : (h : Room) → Refusing s n h → need ≤ h.height → (v : List K) (e : Code × List K) → p h v ≡ Err e → Refuses D p h v e
  pub begins : (k : Room) (t : T) (w : List K) → Fitting s n k → D k t w → head_is test (first w) ≡ true
  pub starts : (h : Room) (c : K) → Fitting s n h → enough ≤ h.height → test c ≡ true → Viable (D h) (c ∷ [])
  pub bars : (k : Room) (v : List K) → head_is test (first v) ≡ false → p k v ≡ Err (Grammar, v)

-- where a token of the test is all that is missing to know it
module _ {K T W : Type 0} {s : Known} {n up : ℕ} {D : Room → T → List K → Type 0} {p : Room → Reader K T} {st : T → Option K → Bool} {td : T → ℕ} {ld nd : ℕ} {test : K → Bool} {ed : ℕ} (wit : (c : K) → test c ≡ true → W) (Q : W → Phrase s n up D p st td ld nd test ed) where
  from_head : (o : Option K) → head_is test o ≡ true → W
  from_head o e = let c = head_some test o e in wit c.0 c.2

  pub scant : ((k : Room) (t : T) (w : List K) → D k t w → head_is test (first w) ≡ true) → ((k : Room) (v : List K) → head_is test (first v) ≡ false → p k v ≡ Err (Grammar, v)) → Scant s n up D p st td ld nd test ed
  scant begins bars = record {
    above = λ k t w i d. let R = Q (from_head (first w) (begins k t w d)) in R.part.above k t w i d;
    least = λ k t w i d. let R = Q (from_head (first w) (begins k t w d)) in R.part.least k t w i d;
    lowest = λ k t w i d. let R = Q (from_head (first w) (begins k t w d)) in R.part.lowest k t w i d;
    fits = λ h k t w i b l d. let R = Q (from_head (first w) (begins h t w d)) in R.part.fits h k t w i b l d;
    reads = λ k i. record {
      complete = λ t w q d e. let R = Q (from_head (first w) (begins k t w d)) in let r = R.part.reads k i in r.complete t w q d e;
      sound = λ v z e. right k i v z e (head_is test (first v)) refl;
    };
    refuses = λ h i l v e j. refuse h i l v e j (head_is test (first v)) refl;
    begins = λ k t w i d. begins k t w d;
    starts = λ h c i l e. let R = Q (wit c e) in R.opening.starts h c i l e;
    bars = bars;
  }
    where
      right : (k : Room) → Reading s n k → (v : List K) (z : T × List K) → p k v ≡ Ok z → (b : Bool) → head_is test (first v) ≡ b → Found (D k) st v z
      right k i v z e true b = let R = Q (from_head (first v) b) in let r = R.part.reads k i in r.sound v z e
      right k i v z e false b = not_both z (Grammar, v) (sym e ∙ bars k v b)

      refuse : (h : Room) → Refusing s n h → nd ≤ h.height → (v : List K) (e : Code × List K) → p h v ≡ Err e → (b : Bool) → head_is test (first v) ≡ b → Refuses D p h v e
      refuse h i l v e j true b = let R = Q (from_head (first v) b) in R.part.refuses h i l v e j
      refuse h i l v e j false b = subst (λ (e : Code × List K). Refuses D p h v e) (err_is (sym (bars h v b) ∙ j)) (record {
        read = [];
        parts = refl;
        viable = inl refl;
        local = λ k q al o. bars k q (ap (head_is test) o ∙ b);
        deep = λ dp. absurd (dp refl);
      })

-- such an alternative behind another one
pub beside_scant : {K T : Type 0} {s : Known} {n up : ℕ} {D E : Room → T → List K → Type 0} {p q : Room → Reader K T} {st : T → Option K → Bool} {td : T → ℕ} {ld nd le ne : ℕ} {tp tq : K → Bool} {ed ee : ℕ}
    → Phrase s n up D p st td ld nd tp ed → Scant s n up E q st td le ne tq ee → (ld ≤ le) → ((c : K) → tq c ≡ true → tp c ≡ false)
    → Phrase s n up (λ k. Or (D k) (E k)) (λ k. else_if tp (p k) (q k)) st td ld (max nd ne) (λ c. tp c || tq c) (max ed ee)
beside_scant {K} {T} {s} {n} {up} {D} {E} {p} {q} {st} {td} {ld} {nd} {le} {ne} {tp} {tq} {ed} {ee} P Q low apart = record {
  part = record {
    above = λ k t w i d. elim d [ inl a ↦ P.part.above k t w i a | inr a ↦ Q.above k t w i a ];
    least = λ k t w i d. elim d [ inl a ↦ P.part.least k t w i a | inr a ↦ Q.least k t w i a ];
    lowest = λ k t w i d. elim d [ inl a ↦ P.part.lowest k t w i a | inr a ↦ let b = Q.lowest k t w i a in omega arith ];
    fits = λ h k t w i b l d. elim d [ inl a ↦ inl (P.part.fits h k t w i b l a) | inr a ↦ inr (Q.fits h k t w i b l a) ];
    some = λ h i l. let v = P.part.some h i l in record { tree = v.tree; more = v.more; derives = inl v.derives };
    reads = λ k i. reads_same (Or (D k) (E k)) st (else_by tp 0 (p k) (q k) k.height) (else_if tp (p k) (q k)) (λ v. without_room tp (p k) (q k) k.height v)
        (or_reads tp 0 k.height (D k) (E k) st (p k) (q k) (λ t w d. P.opening.begins k t w (read_fits s n k k i) d) (λ t w d. omega arith)
        (λ t v r d e. head_other tq tp apart (first (v ++ r)) (head-append tq v r (Q.begins k t v (read_fits s n k k i) d))) (P.part.reads k i) (Q.reads k i));
    refuses = λ h i l v e j. refuses_same (λ k. Or (D k) (E k)) (λ k. else_by tp 0 (p k) (q k) k.height) (λ k. else_if tp (p k) (q k)) (λ k v. without_room tp (p k) (q k) k.height v) h v e
        (or_refuses tp 0 D E p q (record {
          begins = λ k t w d. P.opening.begins k t w (refused_fits s n h k i) d;
          least = λ k t w d. omega arith;
          starts = λ c e b. (ed, omega arith, P.opening.starts (at_height ed b) c (refused_fits s n h (at_height ed b) i) (omega arith) e);
        }) h (λ v e x j. P.part.refuses h i (omega arith) v e j) (λ v e j. Q.refuses h i (omega arith) v e j) v e (without_room tp (p h) (q h) h.height v ∙ j));
  };
  opening = record {
    begins = λ k t w i d. elim d [ inl a ↦ head_left tp tq (first w) (P.opening.begins k t w i a) | inr a ↦ head_right tp tq (first w) (Q.begins k t w i a) ];
    starts = λ h c i l e. elim (some_of (tp c) (tq c) e) [
      | inl a ↦ let v = P.opening.starts h c i (omega arith) a in record { tree = v.tree; more = v.more; derives = inl v.derives }
      | inr a ↦ let v = Q.starts h c i (omega arith) a in record { tree = v.tree; more = v.more; derives = inr v.derives }
    ];
    bars = λ k v i e. let b = head_neither tp tq (first v) e in rw b.0 (Q.bars k v b.1);
  };
}
