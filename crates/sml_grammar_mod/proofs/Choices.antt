-- More of choices and of phrases: whichever alternative has the lowest trees, the same reader otherwise said, what does not begin with a token.
use Rattle.std.proofs.Common.{◌≡◌, ◌⊎◌, ℕ, suc, ◌≤◌, max, if◌then◌else◌, Bool, true, false, ◌||◌, ltb, List, [], ◌∷◌, ◌++◌, Option, refl, sym, ap, ◌∙◌, arith, inl, inr}
use Rattle.std.proofs.lemmas.Bool.{ltb-true, ltb-false}
use Rattle.readers.specs.Reader.{first, head_is, Reader, else_by}
use Rattle.readers.specs.Forms.{else_if}
use Rattle.readers.specs.Language.{Viable, Or}
use Rattle.readers.specs.Room.{Room, at_height}
use Rattle.readers.specs.Exact.{Opens}
use Rattle.readers.proofs.Bundle.{Known, Fitting, Refusing, read_fits, refused_fits, Part, Phrase}
use Rattle.readers.proofs.Outcome.{head-append, reads_same, refuses_same}
use Rattle.readers.proofs.First.{head_other}
use Rattle.readers.proofs.Choose.{without_room, head_left, head_right, head_neither, some_of, retested}
use Rattle.readers.proofs.Alternative.{or_reads, or_refuses}
use Rattle.sml_lex.specs.declared.token.Token.{Token}
use Rattle.sml_fix.specs.Fixities.{Settings}
use Rattle.sml_grammar.specs.Tokens.{Firsts, union, among}
use Rattle.sml_grammar.proofs.Sets.{Tests, apart_here, apart_here_is, among_union}

-- ---- the smaller of two numbers

abbrev pub lesser : ℕ → ℕ → ℕ
lesser a b = if ltb a b then a else b

abbrev pub Lesser : ℕ → ℕ → ℕ → Type 0
Lesser l a b = (l ≤ a) × (l ≤ b) × ((a ≤ l) ⊎ (b ≤ l))

pub lesser_is : (a b : ℕ) → Lesser (lesser a b) a b
lesser_is a b = go (ltb a b) (λ e. ltb-true a b e) (λ e. ltb-false a b e)
  where
    go : (c : Bool) → (c ≡ true → suc a ≤ b) → (c ≡ false → b ≤ a) → Lesser (if c then a else b) a b
    go true f g = let x = f refl in (omega arith, omega (arith, x), inl (omega arith))
    go false f g = let x = g refl in (omega (arith, x), omega arith, inr (omega arith))

-- ---- a choice, where either has the lowest trees

module _ {K T : Type 0} {s : Known} {n up : ℕ} {D E : Room → T → List K → Type 0} {p q : Room → Reader K T} {st : T → Option K → Bool} {td : T → ℕ} {ld nd le ne : ℕ} {tp tq : K → Bool} {ed ee : ℕ}
    (P : Phrase s n up D p st td ld nd tp ed) (Q : Phrase s n up E q st td le ne tq ee) (l : ℕ) (L : Lesser l ld le) where
  some_either : (h : Room) → Fitting s n h → l ≤ h.height → Viable (Or (D h) (E h)) []
  some_either h i le' = elim L.2 [
    | inl a ↦ let v = P.part.some h i (omega (arith, a, le')) in record { tree = v.tree; more = v.more; derives = inl v.derives }
    | inr a ↦ let v = Q.part.some h i (omega (arith, a, le')) in record { tree = v.tree; more = v.more; derives = inr v.derives }
  ]

  least_either : (k : Room) (t : T) (w : List K) → Fitting s n k → Or (D k) (E k) t w → l ≤ k.height
  least_either k t w i (inl a) = let b = P.part.lowest k t w i a in let c = L.0 in omega (arith, b, c)
  least_either k t w i (inr a) = let b = Q.part.lowest k t w i a in let c = L.1 in omega (arith, b, c)

  opens_from : (m : ℕ) → m ≤ ld → (h : Room) → Refusing s n h → Opens D tp m
  opens_from m small h i = record {
    begins = λ k t w d. P.opening.begins k t w (refused_fits s n h k i) d;
    least = λ k t w d. let a = P.part.lowest k t w (refused_fits s n h k i) d in omega (arith, a, small);
    starts = λ c e b. (max m ed, omega arith, P.opening.starts (at_height (max m ed) b) c (refused_fits s n h (at_height (max m ed) b) i) (omega arith) e);
  }

  module _ (apart : (c : K) → tq c ≡ true → tp c ≡ false) where
    others : (k : Room) (t : T) (v r : List K) → Fitting s n k → E k t v → head_is tp (first (v ++ r)) ≡ false
    others k t v r i d = head_other tq tp apart (first (v ++ r)) (head-append tq v r (Q.opening.begins k t v i d))

    begin_either : (k : Room) (t : T) (w : List K) → Fitting s n k → Or (D k) (E k) t w → head_is (λ c. tp c || tq c) (first w) ≡ true
    begin_either k t w i (inl a) = head_left tp tq (first w) (P.opening.begins k t w i a)
    begin_either k t w i (inr a) = head_right tp tq (first w) (Q.opening.begins k t w i a)

    start_either : (h : Room) (c : K) → Fitting s n h → max ed ee ≤ h.height → (tp c || tq c) ≡ true → Viable (Or (D h) (E h)) (c ∷ [])
    start_either h c i le' e = elim (some_of (tp c) (tq c) e) [
      | inl a ↦ let v = P.opening.starts h c i (omega (arith, le')) a in record { tree = v.tree; more = v.more; derives = inl v.derives }
      | inr a ↦ let v = Q.opening.starts h c i (omega (arith, le')) a in record { tree = v.tree; more = v.more; derives = inr v.derives }
    ]

    -- by a test of the room
    pub choice_by : (nd ≤ ld) → Phrase s n up (λ k. Or (D k) (E k)) (λ k. else_by tp ld (p k) (q k) k.height) st td l ne (λ c. tp c || tq c) (max ed ee)
    choice_by small = record {
      part = record {
        above = λ k t w i d. elim d [ inl a ↦ P.part.above k t w i a | inr a ↦ Q.part.above k t w i a ];
        least = λ k t w i d. elim d [ inl a ↦ P.part.least k t w i a | inr a ↦ Q.part.least k t w i a ];
        lowest = λ k t w i d. least_either k t w i d;
        fits = λ h k t w i b l d. elim d [ inl a ↦ inl (P.part.fits h k t w i b l a) | inr a ↦ inr (Q.part.fits h k t w i b l a) ];
        some = λ h i l. some_either h i l;
        reads = λ k i. or_reads tp ld k.height (D k) (E k) st (p k) (q k) (λ t w d. P.opening.begins k t w (read_fits s n k k i) d) (λ t w d. P.part.lowest k t w (read_fits s n k k i) d)
            (λ t v r d e. others k t v r (read_fits s n k k i) d) (P.part.reads k i) (Q.part.reads k i);
        refuses = λ h i l v e j. or_refuses tp ld D E p q (opens_from ld (omega arith) h i) h (λ v e l j. P.part.refuses h i (omega (arith, l, small)) v e j) (λ v e j. Q.part.refuses h i l v e j) v e j;
      };
      opening = record {
        begins = λ k t w i d. begin_either k t w i d;
        starts = λ h c i l e. start_either h c i l e;
        bars = λ k v i e. let b = head_neither tp tq (first v) e in rw b.0 (Q.opening.bars k v i b.1);
      };
    }

    -- and without one
    pub choice_any : Phrase s n up (λ k. Or (D k) (E k)) (λ k. else_if tp (p k) (q k)) st td l (max nd ne) (λ c. tp c || tq c) (max ed ee)
    choice_any = record {
      part = record {
        above = λ k t w i d. elim d [ inl a ↦ P.part.above k t w i a | inr a ↦ Q.part.above k t w i a ];
        least = λ k t w i d. elim d [ inl a ↦ P.part.least k t w i a | inr a ↦ Q.part.least k t w i a ];
        lowest = λ k t w i d. least_either k t w i d;
        fits = λ h k t w i b l d. elim d [ inl a ↦ inl (P.part.fits h k t w i b l a) | inr a ↦ inr (Q.part.fits h k t w i b l a) ];
        some = λ h i l. some_either h i l;
        reads = λ k i. reads_same (Or (D k) (E k)) st (else_by tp 0 (p k) (q k) k.height) (else_if tp (p k) (q k)) (λ v. without_room tp (p k) (q k) k.height v)
            (or_reads tp 0 k.height (D k) (E k) st (p k) (q k) (λ t w d. P.opening.begins k t w (read_fits s n k k i) d) (λ t w d. omega arith)
            (λ t v r d e. others k t v r (read_fits s n k k i) d) (P.part.reads k i) (Q.part.reads k i));
        refuses = λ h i l v e j. refuses_same (λ k. Or (D k) (E k)) (λ k. else_by tp 0 (p k) (q k) k.height) (λ k. else_if tp (p k) (q k)) (λ k v. without_room tp (p k) (q k) k.height v) h v e
            (or_refuses tp 0 D E p q (opens_from 0 (omega arith) h i) h (λ v e x j. P.part.refuses h i (omega (arith, l)) v e j) (λ v e j. Q.part.refuses h i (omega (arith, l)) v e j) v e (without_room tp (p h) (q h) h.height v ∙ j));
      };
      opening = record {
        begins = λ k t w i d. begin_either k t w i d;
        starts = λ h c i l e. start_either h c i l e;
        bars = λ k v i e. let b = head_neither tp tq (first v) e in rw b.0 (Q.opening.bars k v i b.1);
      };
    }

-- ---- choices by sets

tests_apart : (fix : Settings) (a b : Firsts) (tp tq : Token → Bool) → Tests fix a tp → Tests fix b tq → apart_here b a ≡ true → (c : Token) → tq c ≡ true → tp c ≡ false
tests_apart fix a b tp tq ta tb e c i = ta c ∙ apart_here_is fix b a e c (sym (tb c) ∙ i)

tests_union : (fix : Settings) (a b : Firsts) (tp tq : Token → Bool) → Tests fix a tp → Tests fix b tq → (c : Token) → (tp c || tq c) ≡ among fix (union a b) c
tests_union fix a b tp tq ta tb c = ap (λ (x : Bool). x || tq c) (ta c) ∙ (ap (λ (x : Bool). among fix a c || x) (tb c) ∙ sym (among_union fix a b c))

module _ {T : Type 0} {s : Known} {n up : ℕ} {D E : Room → T → List Token → Type 0} {p q : Room → Reader Token T} {st : T → Option Token → Bool} {td : T → ℕ} {ld nd le ne : ℕ} {tp tq : Token → Bool} {ed ee : ℕ} (fix : Settings) (a b : Firsts) where
  pub pick_by : Tests fix a tp → Tests fix b tq → Phrase s n up D p st td ld nd tp ed → Phrase s n up E q st td le ne tq ee → (l : ℕ) → Lesser l ld le → (nd ≤ ld) → apart_here b a ≡ true
      → Phrase s n up (λ k. Or (D k) (E k)) (λ k. else_by tp ld (p k) (q k) k.height) st td l ne (among fix (union a b)) (max ed ee)
  pick_by ta tb P Q l L small e = retested (among fix (union a b)) (choice_by P Q l L (tests_apart fix a b tp tq ta tb e) small) (tests_union fix a b tp tq ta tb)

  pub pick_any : Tests fix a tp → Tests fix b tq → Phrase s n up D p st td ld nd tp ed → Phrase s n up E q st td le ne tq ee → (l : ℕ) → Lesser l ld le → apart_here b a ≡ true
      → Phrase s n up (λ k. Or (D k) (E k)) (λ k. else_if tp (p k) (q k)) st td l (max nd ne) (among fix (union a b)) (max ed ee)
  pick_any ta tb P Q l L e = retested (among fix (union a b)) (choice_any P Q l L (tests_apart fix a b tp tq ta tb e)) (tests_union fix a b tp tq ta tb)

-- ---- the same, otherwise said

-- by another reader that answers alike
pub reread : {K T : Type 0} {s : Known} {n up : ℕ} {D : Room → T → List K → Type 0} {p : Room → Reader K T} {st : T → Option K → Bool} {td : T → ℕ} {ld nd : ℕ} {test : K → Bool} {ed : ℕ} (q : Room → Reader K T)
    → Phrase s n up D p st td ld nd test ed → ((k : Room) (v : List K) → p k v ≡ q k v) → Phrase s n up D q st td ld nd test ed
reread {D = D} {p = p} {st = st} q P same = record {
  part = record {
    above = P.part.above;
    least = P.part.least;
    lowest = P.part.lowest;
    fits = P.part.fits;
    some = P.part.some;
    reads = λ k i. reads_same (D k) st (p k) (q k) (same k) (P.part.reads k i);
    refuses = λ h i l v e j. refuses_same D p q same h v e (P.part.refuses h i l v e (same h v ∙ j));
  };
  opening = record {
    begins = P.opening.begins;
    starts = P.opening.starts;
    bars = λ k v i e. sym (same k v) ∙ P.opening.bars k v i e;
  };
}

-- as a part, where of the second it is known only that it does not begin so
module _ {K T : Type 0} {s : Known} {n : ℕ} {D E : Room → T → List K → Type 0} {p q : Room → Reader K T} {st : T → Option K → Bool} {td : T → ℕ} {ld nd le ne : ℕ} {tp : K → Bool} {ed : ℕ} (P : Phrase s n 0 D p st td ld nd tp ed) (Q : Part s n 0 E q st td le ne)
    (other : (k : Room) (t : T) (v r : List K) → Fitting s n k → E k t v → head_is tp (first (v ++ r)) ≡ false) where
  opens_part : (m : ℕ) → m ≤ ld → (h : Room) → Refusing s n h → Opens D tp m
  opens_part m small h i = record {
    begins = λ k t w d. P.opening.begins k t w (refused_fits s n h k i) d;
    least = λ k t w d. let a = P.part.lowest k t w (refused_fits s n h k i) d in omega (arith, a, small);
    starts = λ c e b. (max m ed, omega arith, P.opening.starts (at_height (max m ed) b) c (refused_fits s n h (at_height (max m ed) b) i) (omega arith) e);
  }

  pub part_by : (le ≤ ld) → (nd ≤ ld) → Part s n 0 (λ k. Or (D k) (E k)) (λ k. else_by tp ld (p k) (q k) k.height) st td le ne
  part_by low small = record {
    above = λ k t w i d. omega arith;
    least = λ k t w i d. elim d [ inl a ↦ P.part.least k t w i a | inr a ↦ Q.least k t w i a ];
    lowest = λ k t w i d. elim d [ inl a ↦ let b = P.part.lowest k t w i a in omega (arith, b, low) | inr a ↦ Q.lowest k t w i a ];
    fits = λ h k t w i b l d. elim d [ inl a ↦ inl (P.part.fits h k t w i b l a) | inr a ↦ inr (Q.fits h k t w i b l a) ];
    some = λ h i l. let v = Q.some h i l in record { tree = v.tree; more = v.more; derives = inr v.derives };
    reads = λ k i. or_reads tp ld k.height (D k) (E k) st (p k) (q k) (λ t w d. P.opening.begins k t w (read_fits s n k k i) d) (λ t w d. P.part.lowest k t w (read_fits s n k k i) d)
        (λ t v r d e. other k t v r (read_fits s n k k i) d) (P.part.reads k i) (Q.reads k i);
    refuses = λ h i l v e j. or_refuses tp ld D E p q (opens_part ld (omega arith) h i) h (λ v e l j. P.part.refuses h i (omega (arith, l, small)) v e j) (λ v e j. Q.refuses h i l v e j) v e j;
  }

  pub part_if : (le ≤ ld) → Part s n 0 (λ k. Or (D k) (E k)) (λ k. else_if tp (p k) (q k)) st td le (max nd ne)
  part_if low = record {
    above = λ k t w i d. omega arith;
    least = λ k t w i d. elim d [ inl a ↦ P.part.least k t w i a | inr a ↦ Q.least k t w i a ];
    lowest = λ k t w i d. elim d [ inl a ↦ let b = P.part.lowest k t w i a in omega (arith, b, low) | inr a ↦ Q.lowest k t w i a ];
    fits = λ h k t w i b l d. elim d [ inl a ↦ inl (P.part.fits h k t w i b l a) | inr a ↦ inr (Q.fits h k t w i b l a) ];
    some = λ h i l. let v = Q.some h i l in record { tree = v.tree; more = v.more; derives = inr v.derives };
    reads = λ k i. reads_same (Or (D k) (E k)) st (else_by tp 0 (p k) (q k) k.height) (else_if tp (p k) (q k)) (λ v. without_room tp (p k) (q k) k.height v)
        (or_reads tp 0 k.height (D k) (E k) st (p k) (q k) (λ t w d. P.opening.begins k t w (read_fits s n k k i) d) (λ t w d. omega arith)
        (λ t v r d e. other k t v r (read_fits s n k k i) d) (P.part.reads k i) (Q.reads k i));
    refuses = λ h i l v e j. refuses_same (λ k. Or (D k) (E k)) (λ k. else_by tp 0 (p k) (q k) k.height) (λ k. else_if tp (p k) (q k)) (λ k v. without_room tp (p k) (q k) k.height v) h v e
        (or_refuses tp 0 D E p q (opens_part 0 (omega arith) h i) h (λ v e x j. P.part.refuses h i (omega (arith, l)) v e j) (λ v e j. Q.refuses h i (omega (arith, l)) v e j) v e (without_room tp (p h) (q h) h.height v ∙ j));
  }
