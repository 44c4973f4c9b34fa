-- What holds of a choice follows from its alternatives.
use Rattle.std.proofs.Common.{◌≡◌, ◌⊎◌, ℕ, zero, suc, ◌+◌, ◌≤◌, max, if◌then◌else◌, Bool, true, false, not, ◌||◌, ◌&&◌, ltb, List, [], ◌∷◌, ◌++◌, Option, Some, None, Result, Ok, Err, refl, sym, ap, subst, ◌∙◌, arith, inl, inr}
use Rattle.std.proofs.lemmas.Bool.{le-ltb}
use Rattle.std.proofs.lemmas.List.{append-nil}
use Rattle.readers.specs.declared.code.Code.{Code}
use Rattle.readers.specs.declared.code.Code.TheVariants.{Grammar}
use Rattle.readers.specs.Reader.{first, head_is, Reader, ◌>>=◌, mapped, one, close, roomy, else_by, only}
use Rattle.readers.specs.Language.{Viable, That, As, Or, Close}
use Rattle.readers.specs.Room.{Room, Under, at_height}
use Rattle.readers.specs.Exact.{Found, Reads, Refuses, Opens, always, row_stop}
use Rattle.readers.specs.Forms.{Nothing, nothing, Maybe, maybe, else_if, optional, Seps, seps, Enclosed, enclosed, highest, ended}
use Rattle.readers.proofs.Bundle.{Known, Fitting, Reading, Refusing, read_fits, refused_fits, refused_reads, Part, Opening, Phrase, mono}
use Rattle.readers.proofs.Combine.{word, closed, closes_opens, made_phrase}
use Rattle.readers.proofs.Repeat.{apart_phrase}
use Rattle.readers.proofs.Outcome.{chosen, head_some, head-append, reads_same, refuses_same, ok_of, err_of, ok_is}
use Rattle.readers.proofs.First.{head_other}
use Rattle.readers.proofs.Row.{not_true, not_false}
use Rattle.readers.proofs.Choice.{roomy_ok, only_reads, only_refuses}
use Rattle.readers.proofs.Alternative.{or_reads, or_refuses}

-- ---- one alternative

module _ {K T : Type 0} {s : Known} {n up : ℕ} {D : Room → T → List K → Type 0} {p : Room → Reader K T} {sd : T → Option K → Bool} {td : T → ℕ} {ld nd : ℕ} {test : K → Bool} {ed : ℕ} (P : Phrase s n up D p sd td ld nd test ed) where
  opens_at : (h : Room) → Refusing s n h → Opens D test ld
  opens_at h i = record {
    begins = λ k t w d. P.opening.begins k t w (refused_fits s n h k i) d;
    least = λ k t w d. P.part.lowest k t w (refused_fits s n h k i) d;
    starts = λ c e b. (max ld ed, omega arith, P.opening.starts (at_height (max ld ed) b) c (refused_fits s n h (at_height (max ld ed) b) i) (omega arith) e);
  }

  -- as the last of a choice
  pub last : (nd ≤ ld) → Phrase s n up D (λ k. only test ld (p k) k.height) sd td ld 0 test ed
  last small = record {
    part = record {
      above = P.part.above;
      least = P.part.least;
      lowest = P.part.lowest;
      fits = P.part.fits;
      some = P.part.some;
      reads = λ k i. only_reads test ld k.height (D k) sd (p k) (λ t w d. P.opening.begins k t w (read_fits s n k k i) d) (λ t w d. P.part.lowest k t w (read_fits s n k k i) d) (P.part.reads k i);
      refuses = λ h i l v e j. only_refuses test ld D p (opens_at h i) h (λ v e le j. P.part.refuses h i (omega arith) v e j) v e j;
    };
    opening = record {
      begins = P.opening.begins;
      starts = P.opening.starts;
      bars = λ k v i e. rw e refl;
    };
  }

first_no : (x y : Bool) → (x || y) ≡ false → (x ≡ false) × (y ≡ false)
first_no true y e = absurd cc
first_no false y e = (refl, e)

pub some_of : (x y : Bool) → (x || y) ≡ true → (x ≡ true) ⊎ (y ≡ true)
some_of true y e = inl refl
some_of false y e = inr e

or_left : (x y : Bool) → x ≡ true → (x || y) ≡ true
or_left x y e = rw e refl

or_right : (x y : Bool) → y ≡ true → (x || y) ≡ true
or_right true y e = refl
or_right false y e = e

pub head_left : {K : Type 0} (t u : K → Bool) (o : Option K) → head_is t o ≡ true → head_is (λ c. t c || u c) o ≡ true
head_left t u None e = absurd cc
head_left t u (Some c) e = or_left (t c) (u c) e

pub head_right : {K : Type 0} (t u : K → Bool) (o : Option K) → head_is u o ≡ true → head_is (λ c. t c || u c) o ≡ true
head_right t u None e = absurd cc
head_right t u (Some c) e = or_right (t c) (u c) e

pub head_neither : {K : Type 0} (t u : K → Bool) (o : Option K) → head_is (λ c. t c || u c) o ≡ false → (head_is t o ≡ false) × (head_is u o ≡ false)
head_neither t u None e = (refl, refl)
head_neither t u (Some c) e = first_no (t c) (u c) e

module _ {K T : Type 0} {s : Known} {n up : ℕ} {D E : Room → T → List K → Type 0} {p q : Room → Reader K T} {st : T → Option K → Bool} {td : T → ℕ} {ld nd le ne : ℕ} {tp tq : K → Bool} {ed ee : ℕ} where
  -- the first alternative has the lowest trees, and the others begin otherwise
  pub choice : Phrase s n up D p st td ld nd tp ed → Phrase s n up E q st td le ne tq ee → (nd ≤ ld) → (ld ≤ le) → ((c : K) → tq c ≡ true → tp c ≡ false)
      → Phrase s n up (λ k. Or (D k) (E k)) (λ k. else_by tp ld (p k) (q k) k.height) st td ld ne (λ c. tp c || tq c) (max (max ld ed) (max le ee))
  choice P Q small low apart = record {
    part = record {
      above = λ k t w i d. elim d [ inl a ↦ P.part.above k t w i a | inr a ↦ Q.part.above k t w i a ];
      least = λ k t w i d. elim d [ inl a ↦ P.part.least k t w i a | inr a ↦ Q.part.least k t w i a ];
      lowest = λ k t w i d. elim d [ inl a ↦ P.part.lowest k t w i a | inr a ↦ let b = Q.part.lowest k t w i a in omega arith ];
      fits = λ h k t w i b l d. elim d [ inl a ↦ inl (P.part.fits h k t w i b l a) | inr a ↦ inr (Q.part.fits h k t w i b l a) ];
      some = λ h i l. let v = P.part.some h i l in record { tree = v.tree; more = v.more; derives = inl v.derives };
      reads = λ k i. or_reads tp ld k.height (D k) (E k) st (p k) (q k) (λ t w d. P.opening.begins k t w (read_fits s n k k i) d) (λ t w d. P.part.lowest k t w (read_fits s n k k i) d)
          (λ t v r d e. head_other tq tp apart (first (v ++ r)) (head-append tq v r (Q.opening.begins k t v (read_fits s n k k i) d))) (P.part.reads k i) (Q.part.reads k i);
      refuses = λ h i l v e j. or_refuses tp ld D E p q (opens_at P h i) h (λ v e l j. P.part.refuses h i (omega arith) v e j) (λ v e j. Q.part.refuses h i l v e j) v e j;
    };
    opening = record {
      begins = λ k t w i d. elim d [ inl a ↦ head_left tp tq (first w) (P.opening.begins k t w i a) | inr a ↦ head_right tp tq (first w) (Q.opening.begins k t w i a) ];
      starts = λ h c i l e. elim (some_of (tp c) (tq c) e) [
        | inl a ↦ let v = P.opening.starts h c i (omega arith) a in record { tree = v.tree; more = v.more; derives = inl v.derives }
        | inr a ↦ let v = Q.opening.starts h c i (omega arith) a in record { tree = v.tree; more = v.more; derives = inr v.derives }
      ];
      bars = λ k v i e. let b = head_neither tp tq (first v) e in rw b.0 (Q.opening.bars k v i b.1);
    };
  }

-- the same phrase, by another test that answers alike
pub retested : {K T : Type 0} {s : Known} {n up : ℕ} {D : Room → T → List K → Type 0} {p : Room → Reader K T} {st : T → Option K → Bool} {td : T → ℕ} {ld nd : ℕ} {test : K → Bool} {ed : ℕ} (other : K → Bool)
    → Phrase s n up D p st td ld nd test ed → ((c : K) → test c ≡ other c) → Phrase s n up D p st td ld nd other ed
retested {test = test} other P same = record {
  part = P.part;
  opening = record {
    begins = λ k t w i d. sym (answers (first w)) ∙ P.opening.begins k t w i d;
    starts = λ h c i l e. P.opening.starts h c i l (same c ∙ e);
    bars = λ k v i e. P.opening.bars k v i (answers (first v) ∙ e);
  };
}
  where
    answers : (o : Option _) → head_is test o ≡ head_is other o
    answers None = refl
    answers (Some c) = same c

-- ---- what may be missing

abbrev pub maybe_stop : {K T : Type 0} → (K → Bool) → (T → Option K → Bool) → Option T → Option K → Bool
maybe_stop test sd None o = not (head_is test o)
maybe_stop test sd (Some x) o = sd x o

abbrev pub maybe_tall : {T : Type 0} → (T → ℕ) → Option T → ℕ
maybe_tall td None = 0
maybe_tall td (Some x) = td x

module _ {K T : Type 0} {s : Known} {n : ℕ} {D : Room → T → List K → Type 0} {p : Room → Reader K T} {sd : T → Option K → Bool} {td : T → ℕ} {ld nd : ℕ} {test : K → Bool} {ed : ℕ} (P : Phrase s n 0 D p sd td ld nd test ed) where
  Q : Phrase s n 0 (λ k. As (λ x. Some x) (D k)) (λ k. mapped (λ x. Some x) (p k)) (maybe_stop test sd) (maybe_tall td) ld nd test ed
  Q = made_phrase (λ x. Some x) (maybe_tall td) (maybe_stop test sd) P (λ x. refl) (λ x o. refl)

  module _ (m : ℕ) (small : m ≤ ld) where
    maybe_complete : (k : Room) → Reading s n k → (t : Option T) (w r : List K) → Maybe (D k) t w → maybe_stop test sd t (first r) ≡ true → maybe test m (p k) k.height (w ++ r) ≡ Ok (t, r)
    maybe_complete k i t w r (inl d) st =
        let f = read_fits s n k k i in
        let low = Q.part.lowest k t w f d in
        let le : ltb k.height m ≡ false = le-ltb k.height m (omega (arith, low, small)) in
        rw (head-append test w r (Q.opening.begins k t w f d)) (rw le ((Q.part.reads k i).complete t w r d st))
    maybe_complete k i t w r (inr d) st =
        subst (λ (t : Option T). maybe_stop test sd t (first r) ≡ true → maybe test m (p k) k.height (w ++ r) ≡ Ok (t, r)) d.0
        (λ st. subst (λ (w : List K). maybe test m (p k) k.height (w ++ r) ≡ Ok (None, r)) (sym d.1) (rw (not_true (head_is test (first r)) st) refl)) st

    maybe_sound : (k : Room) → Reading s n k → (v : List K) (z : Option T × List K) → maybe test m (p k) k.height v ≡ Ok z → Found (Maybe (D k)) (maybe_stop test sd) v z
    maybe_sound k i v z e =
        elim (chosen (head_is test (first v)) (roomy m (mapped (λ x. Some x) (p k)) k.height v) (Ok (None, v)) (Ok z) e) [
          | inl a ↦ let f = (Q.part.reads k i).sound v z (roomy_ok m k.height (mapped (λ x. Some x) (p k)) v z a.1) in record { read = f.read; derives = inl f.derives; parts = f.parts; stops = f.stops }
          | inr a ↦ subst (λ (z : Option T × List K). Found (Maybe (D k)) (maybe_stop test sd) v z) (let same : (None, v) ≡ z = cc in same)
              (record { read = []; derives = inr (refl, refl); parts = refl; stops = not_false (head_is test (first v)) a.0 })
        ]

    maybe_least : (k : Room) (t : Option T) (w : List K) → Fitting s n k → Maybe (D k) t w → maybe_tall td t ≤ 0 + k.height
    maybe_least k t w i (inl d) = Q.part.least k t w i d
    maybe_least k t w i (inr d) = subst (λ (t : Option T). maybe_tall td t ≤ 0 + k.height) d.0 (omega arith)

    maybe_opens : (h : Room) → Refusing s n h → Opens (λ k. As (λ x. Some x) (D k)) test m
    maybe_opens h i = record {
      begins = λ k t w d. Q.opening.begins k t w (refused_fits s n h k i) d;
      least = λ k t w d. let a = Q.part.lowest k t w (refused_fits s n h k i) d in omega (arith, a, small);
      starts = λ c e b. (max m ed, omega arith, Q.opening.starts (at_height (max m ed) b) c (refused_fits s n h (at_height (max m ed) b) i) (omega arith) e);
    }

    maybe_refuses : (h : Room) → Refusing s n h → (m ≤ h.height → nd ≤ h.height) → (v : List K) (e : Code × List K) → maybe test m (p h) h.height v ≡ Err e → Refuses (λ k. Maybe (D k)) (λ k. maybe test m (p k) k.height) h v e
    maybe_refuses h i up v e j = or_refuses test m (λ k. As (λ x. Some x) (D k)) (λ k. Nothing None) (λ k. mapped (λ x. Some x) (p k)) (λ k. nothing None) (maybe_opens h i) h
        (λ v e l j. Q.part.refuses h i (up l) v e j) (λ v e j. absurd cc) v e j

    maybe_fits : (h k : Room) (t : Option T) (w : List K) → Fitting s n h → (h.clashes ≡ true → k.clashes ≡ true) → maybe_tall td t ≤ 0 + k.height → Maybe (D h) t w → Maybe (D k) t w
    maybe_fits h k t w i b l d = elim d [ inl a ↦ inl (Q.part.fits h k t w i b l a) | inr a ↦ inr a ]

  -- where it needs more room than what stands before
  pub perhaps : (nd ≤ ld) → Part s n 0 (λ k. Maybe (D k)) (λ k. maybe test ld (p k) k.height) (maybe_stop test sd) (maybe_tall td) 0 0
  perhaps small = record {
    above = λ k t w i d. omega arith;
    least = maybe_least ld (omega arith);
    lowest = λ k t w i d. omega arith;
    fits = maybe_fits ld (omega arith);
    some = λ h i l. record { tree = None; more = []; derives = inr (refl, refl) };
    reads = λ k i. record { complete = maybe_complete ld (omega arith) k i; sound = maybe_sound ld (omega arith) k i };
    refuses = λ h i l v e j. maybe_refuses ld (omega arith) h i (λ le. omega arith) v e j;
  }

  else_if_is : (h : ℕ) (q : Reader K T) (v : List K) → maybe test 0 q h v ≡ optional test q v
  else_if_is h q v = let room : ltb h 0 ≡ false = le-ltb h 0 (omega arith) in rw room refl

  -- where there is room for it
  pub option : Part s n 0 (λ k. Maybe (D k)) (λ k. optional test (p k)) (maybe_stop test sd) (maybe_tall td) 0 nd
  option = record {
    above = λ k t w i d. omega arith;
    least = maybe_least 0 (omega arith);
    lowest = λ k t w i d. omega arith;
    fits = maybe_fits 0 (omega arith);
    some = λ h i l. record { tree = None; more = []; derives = inr (refl, refl) };
    reads = λ k i. reads_same (Maybe (D k)) (maybe_stop test sd) (maybe test 0 (p k) k.height) (optional test (p k)) (else_if_is k.height (p k)) (record { complete = maybe_complete 0 (omega arith) k i; sound = maybe_sound 0 (omega arith) k i });
    refuses = λ h i l v e j. refuses_same (λ k. Maybe (D k)) (λ k. maybe test 0 (p k) k.height) (λ k. optional test (p k)) (λ k v. else_if_is k.height (p k) v) h v e (maybe_refuses 0 (omega arith) h i (λ x. l) v e (else_if_is h.height (p h) v ∙ j));
  }

-- ---- without a test of the room

pub without_room : {K T : Type 0} (test : K → Bool) (p q : Reader K T) (h : ℕ) (v : List K) → else_by test 0 p q h v ≡ else_if test p q v
without_room test p q h v = let room : ltb h 0 ≡ false = le-ltb h 0 (omega arith) in rw room refl

module _ {K T : Type 0} {s : Known} {n up : ℕ} {D E : Room → T → List K → Type 0} {p q : Room → Reader K T} {st : T → Option K → Bool} {td : T → ℕ} {ld nd le ne : ℕ} {tp tq : K → Bool} {ed ee : ℕ} where
  pub choice_if : Phrase s n up D p st td ld nd tp ed → Phrase s n up E q st td le ne tq ee → (ld ≤ le) → ((c : K) → tq c ≡ true → tp c ≡ false)
      → Phrase s n up (λ k. Or (D k) (E k)) (λ k. else_if tp (p k) (q k)) st td ld (max nd ne) (λ c. tp c || tq c) (max ed ee)
  choice_if P Q low apart = record {
    part = record {
      above = λ k t w i d. elim d [ inl a ↦ P.part.above k t w i a | inr a ↦ Q.part.above k t w i a ];
      least = λ k t w i d. elim d [ inl a ↦ P.part.least k t w i a | inr a ↦ Q.part.least k t w i a ];
      lowest = λ k t w i d. elim d [ inl a ↦ P.part.lowest k t w i a | inr a ↦ let b = Q.part.lowest k t w i a in omega arith ];
      fits = λ h k t w i b l d. elim d [ inl a ↦ inl (P.part.fits h k t w i b l a) | inr a ↦ inr (Q.part.fits h k t w i b l a) ];
      some = λ h i l. let v = P.part.some h i l in record { tree = v.tree; more = v.more; derives = inl v.derives };
      reads = λ k i. reads_same (Or (D k) (E k)) st (else_by tp 0 (p k) (q k) k.height) (else_if tp (p k) (q k)) (λ v. without_room tp (p k) (q k) k.height v)
          (or_reads tp 0 k.height (D k) (E k) st (p k) (q k) (λ t w d. P.opening.begins k t w (read_fits s n k k i) d) (λ t w d. omega arith)
          (λ t v r d e. head_other tq tp apart (first (v ++ r)) (head-append tq v r (Q.opening.begins k t v (read_fits s n k k i) d))) (P.part.reads k i) (Q.part.reads k i));
      refuses = λ h i l v e j. refuses_same (λ k. Or (D k) (E k)) (λ k. else_by tp 0 (p k) (q k) k.height) (λ k. else_if tp (p k) (q k)) (λ k v. without_room tp (p k) (q k) k.height v) h v e
          (or_refuses tp 0 D E p q (record {
            begins = λ k t w d. P.opening.begins k t w (refused_fits s n h k i) d;
            least = λ k t w d. omega arith;
            starts = λ c e b. (ed, omega arith, P.opening.starts (at_height ed b) c (refused_fits s n h (at_height ed b) i) (omega arith) e);
          }) h (λ v e x j. P.part.refuses h i (omega arith) v e j) (λ v e j. Q.part.refuses h i (omega arith) v e j) v e (without_room tp (p h) (q h) h.height v ∙ j));
    };
    opening = record {
      begins = λ k t w i d. elim d [ inl a ↦ head_left tp tq (first w) (P.opening.begins k t w i a) | inr a ↦ head_right tp tq (first w) (Q.opening.begins k t w i a) ];
      starts = λ h c i l e. elim (some_of (tp c) (tq c) e) [
        | inl a ↦ let v = P.opening.starts h c i (omega arith) a in record { tree = v.tree; more = v.more; derives = inl v.derives }
        | inr a ↦ let v = Q.opening.starts h c i (omega arith) a in record { tree = v.tree; more = v.more; derives = inr v.derives }
      ];
      bars = λ k v i e. let b = head_neither tp tq (first v) e in rw b.0 (Q.opening.bars k v i b.1);
    };
  }

-- ---- phrases between tokens

-- what closes a phrase, and the phrase as one that begins
pub closed_phrase : {K T : Type 0} {s : Known} {n : ℕ} {D : Room → T → List K → Type 0} {p : Room → Reader K T} {sd : T → Option K → Bool} {td : T → ℕ} {ld nd : ℕ} {begin : K → Bool} {ed : ℕ} (test : K → Bool) (c : K) → test c ≡ true
    → Phrase s n 0 D p sd td ld nd begin ed → ((t : T) (c : K) → test c ≡ true → sd t (Some c) ≡ true) → Phrase s n 0 (λ k. Close (D k) test) (λ k. close (p k) test) always td ld nd begin (max ed 0)
closed_phrase test c e P stops = record { part = closed test c e P.part stops; opening = closes_opens P.opening (word test c e).part }

-- a row that is closed, which may be empty
pub enclosing : {K T : Type 0} {s : Known} {n : ℕ} {D : Room → T → List K → Type 0} {p : Room → Reader K T} {sd : T → Option K → Bool} {td : T → ℕ} {ld nd : ℕ} {begin : K → Bool} {ed : ℕ} (sep end : K → Bool) (c x : K) → sep c ≡ true → end x ≡ true
    → Phrase s n 0 D p sd td ld nd begin ed → (nd ≤ ld) → ((t : T) (c : K) → sep c ≡ true → sd t (Some c) ≡ true) → ((t : T) (c : K) → end c ≡ true → sd t (Some c) ≡ true) → ((c : K) → end c ≡ true → sep c ≡ false) → ((c : K) → begin c ≡ true → end c ≡ false)
    → Part s n 0 (λ k. Enclosed sep (D k) end) (λ k. enclosed begin (max ld 0) sep (p k) end k.height) always (highest td) 0 0
enclosing {T = T} {sd = sd} {td = td} sep end c x e f P small next ends other apart_end =
    let none = made_phrase (λ (u : Unit {0}). []) (highest td) always (word end x f) (λ u. refl) (λ u o. refl) in
    let some = last (closed_phrase end x f (apart_phrase sep c e P next) row_ends) (omega arith) in
    let both = choice_if none some (omega arith) apart_end in
    both.part
  where
    row_ends : (t : List T) (c : _) → end c ≡ true → row_stop sep sd t (Some c) ≡ true
    row_ends [] c i = rw (other c i) refl
    row_ends (t ∷ []) c i = rw (ends t c i) (rw (other c i) refl)
    row_ends (t ∷ u ∷ ts) c i = row_ends (u ∷ ts) c i

-- the same phrase, where what stops it is said otherwise
pub restopped : {K T : Type 0} {s : Known} {n up : ℕ} {D : Room → T → List K → Type 0} {p : Room → Reader K T} {st : T → Option K → Bool} {td : T → ℕ} {ld nd : ℕ} (other : T → Option K → Bool)
    → Part s n up D p st td ld nd → ((k : Room) (t : T) (w : List K) (o : Option K) → D k t w → st t o ≡ other t o) → Part s n up D p other td ld nd
restopped other P same = record {
  above = P.above;
  least = P.least;
  lowest = P.lowest;
  fits = P.fits;
  some = P.some;
  reads = λ k i. let r = P.reads k i in record {
    complete = λ t w q d st. r.complete t w q d (same k t w (first q) d ∙ st);
    sound = λ v z e. let f = r.sound v z e in record { read = f.read; derives = f.derives; parts = f.parts; stops = sym (same k z.0 f.read (first z.1) f.derives) ∙ f.stops };
  };
  refuses = P.refuses;
}

-- the last item alone stops a row whose items are stopped alike
pub row_alike : {K T : Type 0} (sep : K → Bool) (stop : Option K → Bool) (x : T) (xs : List T) (o : Option K) → row_stop sep (λ (t : T). stop) (x ∷ xs) o ≡ (stop o && not (head_is sep o))
row_alike sep stop x [] o = refl
row_alike sep stop x (y ∷ ys) o = row_alike sep stop y ys o

pub seps_alike : {K T : Type 0} (sep : K → Bool) (stop : Option K → Bool) (D : T → List K → Type 0) (t : List T) (w : List K) (o : Option K) → Seps sep D t w → row_stop sep (λ (t : T). stop) t o ≡ (stop o && not (head_is sep o))
seps_alike sep stop D t w o d = subst (λ (t : List _). row_stop sep (λ (t : _). stop) t o ≡ (stop o && not (head_is sep o))) d.1 (row_alike sep stop d.0.0 d.0.1 o)

-- ---- a phrase that no token of the test may follow

ended_ok : {K T : Type 0} (test : K → Bool) (p : Reader K T) (v : List K) (z : T × List K) → ended test p v ≡ Ok z → (p v ≡ Ok z) × (head_is test (first z.1) ≡ false)
ended_ok test p v z e =
    let a = ok_of (p v) (λ x. if head_is test (first x.1) then Err (Grammar, x.1) else Ok x) z e in
    elim (chosen (head_is test (first a.0.1)) (Err (Grammar, a.0.1)) (Ok a.0) (Ok z) a.2) [
      | inl b ↦ absurd cc
      | inr b ↦ let same = ok_is a.0 z b.1 in (a.1 ∙ ap (λ (x : _ × List _). Ok x) same, ap (λ (x : _ × List _). head_is test (first x.1)) (sym same) ∙ b.0)
    ]

ended_is : {K T : Type 0} (test : K → Bool) (p : Reader K T) (v : List K) (z : T × List K) → p v ≡ Ok z → head_is test (first z.1) ≡ true → ended test p v ≡ Err (Grammar, z.1)
ended_is test p v z e i = rw e (rw i refl)

module _ {K T : Type 0} {s : Known} {n up : ℕ} {D : Room → T → List K → Type 0} {p : Room → Reader K T} {sd : T → Option K → Bool} {td : T → ℕ} {ld nd : ℕ} (test : K → Bool) where
  pub ends : Part s n up D p sd td ld nd → ((k : Room) (t : T) (w : List K) (o : Option K) → Fitting s n k → D k t w → not (head_is test o) ≡ true → sd t o ≡ true) → Part s n up D (λ k. ended test (p k)) (λ t o. not (head_is test o)) td ld nd
  ends P wide = record {
    above = P.above;
    least = P.least;
    lowest = P.lowest;
    fits = P.fits;
    some = P.some;
    reads = λ k i. let r = P.reads k i in record {
      complete = λ t w q d st. let no : head_is test (first q) ≡ false = not_true (head_is test (first q)) st in rw (r.complete t w q d (wide k t w (first q) (read_fits s n k k i) d st)) (rw no refl);
      sound = λ v z e. let a = ended_ok test (p k) v z e in let f = r.sound v z a.0 in record { read = f.read; derives = f.derives; parts = f.parts; stops = not_false (head_is test (first z.1)) a.1 };
    };
    refuses = λ h i l v e j.
        elim (err_of (p h v) (λ x. if head_is test (first x.1) then Err (Grammar, x.1) else Ok x) e j) [
          | inl a ↦ let g = P.refuses h i l v e a in record {
            read = g.read;
            parts = g.parts;
            viable = g.viable;
            local = λ k q al b. rw (g.local k q al b) refl;
            deep = g.deep;
          }
          | inr a ↦
              elim (chosen (head_is test (first a.0.1)) (Err (Grammar, a.0.1)) (Ok a.0) (Err e) a.2) [
                | inl b ↦
                    let r = P.reads h (refused_reads s n h h i) in
                    let f = r.sound v a.0 a.1 in
                    subst (λ (e : Code × List K). Refuses D (λ k. ended test (p k)) h v e) (let same : (Grammar, a.0.1) ≡ e = cc in same) (record {
                      read = f.read;
                      parts = f.parts;
                      viable = inr (record { tree = a.0.0; more = []; derives = subst (D h a.0.0) (sym (append-nil f.read)) f.derives });
                      local = λ k q al o.
                          let m = P.reads k (refused_reads s n h k i) in
                          ended_is test (p k) (f.read ++ q) (a.0.0, q) (m.complete a.0.0 f.read q (mono P h k a.0.0 f.read (refused_fits s n h h i) al f.derives) (ap (sd a.0.0) o ∙ f.stops)) (ap (head_is test) o ∙ b.0);
                      deep = λ dp. absurd (dp refl);
                    })
                | inr b ↦ absurd cc
              ]
        ];
  }

  pub ends_phrase : {begin : K → Bool} {ed : ℕ} → Phrase s n up D p sd td ld nd begin ed → ((k : Room) (t : T) (w : List K) (o : Option K) → Fitting s n k → D k t w → not (head_is test o) ≡ true → sd t o ≡ true)
      → Phrase s n up D (λ k. ended test (p k)) (λ t o. not (head_is test o)) td ld nd begin ed
  ends_phrase P wide = record {
    part = ends P.part wide;
    opening = record {
      begins = P.opening.begins;
      starts = P.opening.starts;
      bars = λ k v i e. rw (P.opening.bars k v i e) refl;
    };
  }
