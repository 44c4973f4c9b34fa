-- What holds of a form follows from its parts: tokens, pairs, and trees made of others.
use Rattle.std.proofs.Common.{◌≡◌, if◌then◌else◌, ℕ, zero, suc, ◌+◌, ◌≤◌, max, Bool, true, false, List, [], ◌∷◌, ◌++◌, Option, Some, None, Ok, Err, refl, sym, ap, subst, ◌∙◌, arith, append-nil, inl, inr}
use Rattle.readers.specs.declared.code.Code.{Code}
use Rattle.readers.specs.declared.code.Code.TheVariants.{Grammar}
use Rattle.readers.specs.Reader.{first, head_is, Reader, ◌>>=◌, both, mapped, token_by, skip, close, one, passed}
use Rattle.readers.specs.Language.{Joined, Both, Viable, That, Shows, Skip, Close, As}
use Rattle.readers.specs.Room.{Room, Under}
use Rattle.readers.specs.Exact.{Reads, Refuses, always}
use Rattle.readers.specs.Forms.{shown}
use Rattle.readers.proofs.Bundle.{Known, Fitting, Reading, Refusing, read_fits, refused_fits, refused_reads, Part, Opening, Phrase, mono}
use Rattle.readers.proofs.Outcome.{head_some, head-append}
use Rattle.readers.proofs.First.{shows_begins, that_begins}
use Rattle.readers.proofs.Mapped.{as_made, mapped_reads, mapped_refuses}
use Rattle.readers.proofs.Pair.{both_reads_by, both_refuses}
use Rattle.readers.proofs.Token.{token_reads, token_refuses, one_reads, one_refuses, skip_reads, skip_refuses, close_reads, close_refuses}

-- ---- one token

pub shown_test : {K A : Type 0} (test : K → Bool) (f : K → A) (c : K) (a : A) → shown test f c ≡ Some a → test c ≡ true
shown_test test f c a e = go (test c) e
  where
    go : (b : Bool) → (if b then Some (f c) else None) ≡ Some a → b ≡ true
    go true e = refl
    go false e = absurd cc

pub shown_is : {K A : Type 0} (test : K → Bool) (f : K → A) (c : K) → test c ≡ true → shown test f c ≡ Some (f c)
shown_is test f c e = rw e refl

pub not_shown : {K A : Type 0} (test : K → Bool) (f : K → A) (v : List K) → head_is test (first v) ≡ false → token_by (shown test f) v ≡ Err (Grammar, v)
not_shown test f [] e = refl
not_shown test f (c ∷ v) e = rw e refl

-- a token that passes, and what it shows; this one does
pub token : {K A : Type 0} {s : Known} {n : ℕ} (test : K → Bool) (f : K → A) (c : K) → test c ≡ true
    → Phrase s n 0 (λ k. Shows (shown test f)) (λ k. token_by (shown test f)) always (λ x. 0) 0 0 test 0
token test f c e = record {
  part = record {
    above = λ k t w i d. omega arith;
    least = λ k t w i d. omega arith;
    lowest = λ k t w i d. omega arith;
    fits = λ h k t w i b le d. d;
    some = λ h i le. record { tree = f c; more = c ∷ []; derives = record { token = c; shows = shown_is test f c e; whole = refl } };
    reads = λ k i. token_reads (shown test f);
    refuses = λ h i le v e j. token_refuses (shown test f) h v e j;
  };
  opening = record {
    begins = λ k t w i d. shows_begins (shown test f) test (shown_test test f) t w d;
    starts = λ h c i le e. record { tree = f c; more = []; derives = record { token = c; shows = shown_is test f c e; whole = refl } };
    bars = λ k v i e. not_shown test f v e;
  };
}

not_one : {K : Type 0} (test : K → Bool) (v : List K) → head_is test (first v) ≡ false → one test v ≡ Err (Grammar, v)
not_one test [] e = refl
not_one test (c ∷ v) e = rw e refl

-- a token that passes
pub word : {K : Type 0} {s : Known} {n : ℕ} (test : K → Bool) (c : K) → test c ≡ true → Phrase s n 0 (λ k (u : Unit {0}). That test) (λ k. one test) always (λ x. 0) 0 0 test 0
word test c e = record {
  part = record {
    above = λ k t w i d. omega arith;
    least = λ k t w i d. omega arith;
    lowest = λ k t w i d. omega arith;
    fits = λ h k t w i b le d. d;
    some = λ h i le. record { tree = tt; more = c ∷ []; derives = record { token = c; fits = e; whole = refl } };
    reads = λ k i. one_reads test;
    refuses = λ h i le v e j. one_refuses test h v e j;
  };
  opening = record {
    begins = λ k t w i d. subst (λ (w : List _). head_is test (first w) ≡ true) (sym d.whole) d.fits;
    starts = λ h c i le e. record { tree = tt; more = []; derives = record { token = c; fits = e; whole = refl } };
    bars = λ k v i e. not_one test v e;
  };
}

-- ---- a token before and behind

module _ {K T : Type 0} {s : Known} {n : ℕ} {D : Room → T → List K → Type 0} {p : Room → Reader K T} {sd : T → Option K → Bool} {td : T → ℕ} {ld nd : ℕ} (test : K → Bool) (c : K) (e : test c ≡ true) (P : Part s n 0 D p sd td ld nd) where
  pub skipped : Phrase s n 0 (λ k. Skip test (D k)) (λ k. skip test (p k)) sd td ld (max ld nd) test ld
  skipped = record {
    part = record {
      above = λ k t w i d. omega arith;
      least = λ k t w i d. P.least k t d.back i d.right;
      lowest = λ k t w i d. P.lowest k t d.back i d.right;
      fits = λ h k t w i b le d. record { front = d.front; back = d.back; left = d.left; right = P.fits h k t d.back i b le d.right; whole = d.whole };
      some = λ h i le. let v = P.some h i le in record { tree = v.tree; more = c ∷ v.more; derives = record { front = c ∷ []; back = v.more; left = record { token = c; fits = e; whole = refl }; right = v.derives; whole = refl } };
      reads = λ k i. skip_reads test (D k) sd (p k) (P.reads k i);
      refuses = λ h i le v e j. skip_refuses test D p (λ h' k t w u d. mono P h' k t w (refused_fits s n h h' i) u d) h (P.some h (refused_fits s n h h i) (omega arith)) (P.refuses h i (omega arith)) v e j;
    };
    opening = record {
      begins = λ k t w i d. that_begins test (D k t) w d;
      starts = λ h c i le e. let v = P.some h i le in record { tree = v.tree; more = v.more; derives = record { front = c ∷ []; back = v.more; left = record { token = c; fits = e; whole = refl }; right = v.derives; whole = refl } };
      bars = λ k v i e. rw (not_one test v e) refl;
    };
  }

  module _ (stops : (t : T) (c : K) → test c ≡ true → sd t (Some c) ≡ true) where
    pub closed : Part s n 0 (λ k. Close (D k) test) (λ k. close (p k) test) always td ld nd
    closed = record {
      above = λ k t w i d. omega arith;
      least = λ k t w i d. P.least k t d.front i d.left;
      lowest = λ k t w i d. P.lowest k t d.front i d.left;
      fits = λ h k t w i b le d. record { front = d.front; back = d.back; left = P.fits h k t d.front i b le d.left; right = d.right; whole = d.whole };
      some = λ h i le. let v = P.some h i le in record { tree = v.tree; more = v.more ++ c ∷ []; derives = record { front = v.more; back = c ∷ []; left = v.derives; right = record { token = c; fits = e; whole = refl }; whole = refl } };
      reads = λ k i. close_reads test (D k) sd (p k) (P.reads k i) stops;
      refuses = λ h i le v x j. close_refuses test D p sd (λ k. P.reads k (refused_reads s n h k i)) (λ h' k t w u d. mono P h' k t w (refused_fits s n h h' i) u d) c e h (P.refuses h i le) v x j;
    }

-- ---- pairs

some_both : {K S T : Type 0} (D : S → List K → Type 0) (E : T → List K → Type 0) → Viable D [] → Viable E [] → Viable (Both D E) []
some_both D E a b = record { tree = (a.tree, b.tree); more = a.more ++ b.more; derives = record { front = a.more; back = b.more; left = a.derives; right = b.derives; whole = refl } }

module _ {K S T : Type 0} {s : Known} {n : ℕ} {D : Room → S → List K → Type 0} {p : Room → Reader K S} {sd : S → Option K → Bool} {td : S → ℕ} {ld nd : ℕ}
    {E : Room → T → List K → Type 0} {q : Room → Reader K T} {se : T → Option K → Bool} {te : T → ℕ} {le ne : ℕ} where
  -- st stops the pair: it splits into what stops each part, and comes from it
  pub pair_by : Part s n 0 D p sd td ld nd → Part s n 0 E q se te le ne → (st : S × T → Option K → Bool)
      → ((k : Room) (x : S) (y : T) (v r : List K) → Fitting s n k → E k y v → st (x, y) (first r) ≡ true → (sd x (first (v ++ r)) ≡ true) × (se y (first r) ≡ true))
      → ((k : Room) (x : S) (y : T) (v r : List K) → Fitting s n k → E k y v → sd x (first (v ++ r)) ≡ true → se y (first r) ≡ true → st (x, y) (first r) ≡ true)
      → Part s n 0 (λ k. Both (D k) (E k)) (λ k. both (p k) (q k)) st (λ x. max (td x.0) (te x.1)) (max ld le) (max nd (max ne le))
  pair_by P Q st split join = record {
    above = λ k t w i d. omega arith;
    least = λ k t w i d. let a = P.least k t.0 d.front i d.left in let b = Q.least k t.1 d.back i d.right in omega arith;
    lowest = λ k t w i d. let a = P.lowest k t.0 d.front i d.left in let b = Q.lowest k t.1 d.back i d.right in omega arith;
    fits = λ h k t w i b l d. record { front = d.front; back = d.back; left = P.fits h k t.0 d.front i b (omega arith) d.left; right = Q.fits h k t.1 d.back i b (omega arith) d.right; whole = d.whole };
    some = λ h i l. some_both (D h) (E h) (P.some h i (omega arith)) (Q.some h i (omega arith));
    reads = λ k i. both_reads_by (D k) (E k) sd se (p k) (q k) st (λ x y v r. split k x y v r (read_fits s n k k i)) (λ x y v r. join k x y v r (read_fits s n k k i)) (P.reads k i) (Q.reads k i);
    refuses = λ h i l v e j. both_refuses D E sd p q (λ k. P.reads k (refused_reads s n h k i)) (λ h' k t w u d. mono P h' k t w (refused_fits s n h h' i) u d) (λ h' k t w u d. mono Q h' k t w (refused_fits s n h h' i) u d)
        h (Q.some h (refused_fits s n h h i) (omega arith)) (P.refuses h i (omega arith)) (Q.refuses h i (omega arith)) v e j;
  }

  -- where what the second begins with stops the first
  pub pair_then : {test : K → Bool} {ee : ℕ} → Part s n 0 D p sd td ld nd → Phrase s n 0 E q se te le ne test ee → ((x : S) (c : K) → test c ≡ true → sd x (Some c) ≡ true)
      → Part s n 0 (λ k. Both (D k) (E k)) (λ k. both (p k) (q k)) (λ x. se x.1) (λ x. max (td x.0) (te x.1)) (max ld le) (max nd (max ne le))
  pair_then {test = test} P Q stops = pair_by P Q.part (λ x. se x.1)
      (λ k x y v r i d e.
      let c = head_some test (first (v ++ r)) (head-append test v r (Q.opening.begins k y v i d)) in
      (ap (sd x) c.1 ∙ stops x c.0 c.2, e))
      (λ k x y v r i d e j. j)

pub pair_opens : {K S T : Type 0} {s : Known} {n : ℕ} {D : Room → S → List K → Type 0} {p : Room → Reader K S} {E : Room → T → List K → Type 0} {q : Room → Reader K T} {se : T → Option K → Bool} {te : T → ℕ} {le ne : ℕ}
    {test : K → Bool} {ed : ℕ} → Opening s n D p test ed → Part s n 0 E q se te le ne → Opening s n (λ k. Both (D k) (E k)) (λ k. both (p k) (q k)) test (max ed le)
pair_opens {test = test} O Q = record {
  begins = λ k t w i d. subst (λ (w : List _). head_is test (first w) ≡ true) (sym d.whole) (head-append test d.front d.back (O.begins k t.0 d.front i d.left));
  starts = λ h c i l e.
      let a = O.starts h c i (omega arith) e in
      let b = Q.some h i (omega arith) in
      record { tree = (a.tree, b.tree); more = a.more ++ b.more; derives = record { front = c ∷ a.more; back = b.more; left = a.derives; right = b.derives; whole = refl } };
  bars = λ k v i e. rw (O.bars k v i e) refl;
}

pub closes_opens : {K T : Type 0} {s : Known} {n : ℕ} {D : Room → T → List K → Type 0} {p : Room → Reader K T} {end : K → Bool} {se : Unit {0} → Option K → Bool} {te : Unit {0} → ℕ} {le ne : ℕ}
    {test : K → Bool} {ed : ℕ} → Opening s n D p test ed → Part s n 0 (λ k (u : Unit {0}). That end) (λ k. one end) se te le ne → Opening s n (λ k. Close (D k) end) (λ k. close (p k) end) test (max ed le)
closes_opens {test = test} O Q = record {
  begins = λ k t w i d. subst (λ (w : List _). head_is test (first w) ≡ true) (sym d.whole) (head-append test d.front d.back (O.begins k t d.front i d.left));
  starts = λ h c i l e.
      let a = O.starts h c i (omega arith) e in
      let b = Q.some h i (omega arith) in
      record { tree = a.tree; more = a.more ++ b.more; derives = record { front = c ∷ a.more; back = b.more; left = a.derives; right = b.derives; whole = refl } };
  bars = λ k v i e. rw (O.bars k v i e) refl;
}

-- where the first part stops by itself
pub pair : {K S T : Type 0} {s : Known} {n : ℕ} {D : Room → S → List K → Type 0} {p : Room → Reader K S} {td : S → ℕ} {ld nd : ℕ}
    {E : Room → T → List K → Type 0} {q : Room → Reader K T} {se : T → Option K → Bool} {te : T → ℕ} {le ne : ℕ} → Part s n 0 D p always td ld nd → Part s n 0 E q se te le ne
    → Part s n 0 (λ k. Both (D k) (E k)) (λ k. both (p k) (q k)) (λ x. se x.1) (λ x. max (td x.0) (te x.1)) (max ld le) (max nd (max ne le))
pair {se = se} P Q = pair_by P Q (λ x. se x.1) (λ k x y v r i d e. (refl, e)) (λ k x y v r i d e j. j)

-- a phrase whose first part stops by itself
pub phrase : {K S T : Type 0} {s : Known} {n : ℕ} {D : Room → S → List K → Type 0} {p : Room → Reader K S} {td : S → ℕ} {ld nd : ℕ} {test : K → Bool} {ed : ℕ}
    {E : Room → T → List K → Type 0} {q : Room → Reader K T} {se : T → Option K → Bool} {te : T → ℕ} {le ne : ℕ} → Phrase s n 0 D p always td ld nd test ed → Part s n 0 E q se te le ne
    → Phrase s n 0 (λ k. Both (D k) (E k)) (λ k. both (p k) (q k)) (λ x. se x.1) (λ x. max (td x.0) (te x.1)) (max ld le) (max nd (max ne le)) test (max ed le)
phrase P Q = record { part = pair P.part Q; opening = pair_opens P.opening Q }

-- ---- trees made of others

module _ {K S T : Type 0} {s : Known} {n up : ℕ} {D : Room → S → List K → Type 0} {p : Room → Reader K S} {sd : S → Option K → Bool} {td : S → ℕ} {ld nd : ℕ} (f : S → T) (tf : T → ℕ) (sf : T → Option K → Bool) (d : ℕ) where
  remade : Part s n up D p sd td ld nd → ((x : S) → tf (f x) ≡ d + td x) → ((x : S) (o : Option K) → sd x o ≡ sf (f x) o) → Part s n (d + up) (λ k. As f (D k)) (λ k. mapped f (p k)) sf tf ld nd
  remade P grows same = record {
    above = λ k t w i e. let a = P.above k e.0 w i e.2 in let b = grows e.0 in let c = ap tf e.1 in omega arith;
    least = λ k t w i e. let a = P.least k e.0 w i e.2 in let b = grows e.0 in let c = ap tf e.1 in omega arith;
    lowest = λ k t w i e. P.lowest k e.0 w i e.2;
    fits = λ h k t w i b l e. let g = grows e.0 in let c = ap tf e.1 in (e.0, e.1, P.fits h k e.0 w i b (omega arith) e.2);
    some = λ h i l. let v = P.some h i l in record { tree = f v.tree; more = v.more; derives = (v.tree, refl, v.derives) };
    reads = λ k i. mapped_reads f (D k) (As f (D k)) (as_made f (D k)) sd sf (p k) same (P.reads k i);
    refuses = λ h i l v e j. mapped_refuses f D (λ k. As f (D k)) p (λ k. as_made f (D k)) h v e (P.refuses h i l v e) j;
  }

pub made_opens : {K S T : Type 0} {s : Known} {n : ℕ} {D : Room → S → List K → Type 0} {p : Room → Reader K S} (f : S → T) {test : K → Bool} {ed : ℕ} → Opening s n D p test ed → Opening s n (λ k. As f (D k)) (λ k. mapped f (p k)) test ed
made_opens f O = record {
  begins = λ k t w i e. O.begins k e.0 w i e.2;
  starts = λ h c i l e. let v = O.starts h c i l e in record { tree = f v.tree; more = v.more; derives = (v.tree, refl, v.derives) };
  bars = λ k v i e. rw (O.bars k v i e) refl;
}

module _ {K S T : Type 0} {s : Known} {n : ℕ} {D : Room → S → List K → Type 0} {p : Room → Reader K S} {sd : S → Option K → Bool} {td : S → ℕ} {ld nd : ℕ} (f : S → T) (tf : T → ℕ) (sf : T → Option K → Bool) where
  -- the same height
  pub made : Part s n 0 D p sd td ld nd → ((x : S) → tf (f x) ≡ td x) → ((x : S) (o : Option K) → sd x o ≡ sf (f x) o) → Part s n 0 (λ k. As f (D k)) (λ k. mapped f (p k)) sf tf ld nd
  made P grows same = remade f tf sf 0 P (λ x. let g = grows x in omega arith) same

  pub made_phrase : {test : K → Bool} {ed : ℕ} → Phrase s n 0 D p sd td ld nd test ed → ((x : S) → tf (f x) ≡ td x) → ((x : S) (o : Option K) → sd x o ≡ sf (f x) o)
      → Phrase s n 0 (λ k. As f (D k)) (λ k. mapped f (p k)) sf tf ld nd test ed
  made_phrase P grows same = record { part = made P.part grows same; opening = made_opens f P.opening }

  -- one node more
  pub node : {test : K → Bool} {ed : ℕ} → Phrase s n 0 D p sd td ld nd test ed → ((x : S) → tf (f x) ≡ suc (td x)) → ((x : S) (o : Option K) → sd x o ≡ sf (f x) o)
      → Phrase s n 1 (λ k. As f (D k)) (λ k. mapped f (p k)) sf tf ld nd test ed
  node P grows same = record { part = remade f tf sf 1 P.part (λ x. let g = grows x in omega arith) same; opening = made_opens f P.opening }

  pub node_part : Part s n 0 D p sd td ld nd → ((x : S) → tf (f x) ≡ suc (td x)) → ((x : S) (o : Option K) → sd x o ≡ sf (f x) o)
      → Part s n 1 (λ k. As f (D k)) (λ k. mapped f (p k)) sf tf ld nd
  node_part P grows same = remade f tf sf 1 P (λ x. let g = grows x in omega arith) same

-- ---- the same height, otherwise said

pub sized : {K T : Type 0} {s : Known} {n up : ℕ} {D : Room → T → List K → Type 0} {p : Room → Reader K T} {st : T → Option K → Bool} {td : T → ℕ} {ld nd : ℕ} (tall : T → ℕ) → Part s n up D p st td ld nd → ((t : T) → td t ≡ tall t) → Part s n up D p st tall ld nd
sized tall P same = record {
  above = λ k t w i d. let a = P.above k t w i d in let b = same t in omega arith;
  least = λ k t w i d. let a = P.least k t w i d in let b = same t in omega arith;
  lowest = P.lowest;
  fits = λ h k t w i b l d. P.fits h k t w i b (let c = same t in omega arith) d;
  some = P.some;
  reads = P.reads;
  refuses = P.refuses;
}

pub sized_phrase : {K T : Type 0} {s : Known} {n up : ℕ} {D : Room → T → List K → Type 0} {p : Room → Reader K T} {st : T → Option K → Bool} {td : T → ℕ} {ld nd : ℕ} {test : K → Bool} {ed : ℕ} (tall : T → ℕ) → Phrase s n up D p st td ld nd test ed
    → ((t : T) → td t ≡ tall t) → Phrase s n up D p st tall ld nd test ed
sized_phrase tall P same = record { part = sized tall P.part same; opening = P.opening }
