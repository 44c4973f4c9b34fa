-- A first phrase and items that depend on those before them, seen as other trees, are read exactly.
use Rattle.std.proofs.Common.{◌≡◌, ℕ, ◌≤◌, max, Bool, true, false, not, ◌&&◌, List, [], ◌∷◌, ◌++◌, Option, Some, Err, refl, sym, ap, subst, ◌∙◌, arith, inl, inr}
use Rattle.readers.specs.declared.code.Code.{Code}
use Rattle.readers.specs.declared.code.Code.TheVariants.{Grammar}
use Rattle.readers.specs.Reader.{first, head_is, Reader, mapped, bound, steps, guard, barred}
use Rattle.readers.specs.Language.{Bound, Steps, Passing, Viable}
use Rattle.readers.specs.Room.{Room, Under}
use Rattle.readers.specs.Exact.{Reads, Refuses, row_stop}
use Rattle.readers.specs.Forms.{growth}
use Rattle.readers.proofs.Bundle.{Known, Fitting, Reading, Refusing, read_fits, refused_fits, refused_reads, Phrase, mono}
use Rattle.readers.proofs.Outcome.{head_some, head-append}
use Rattle.readers.proofs.First.{head_to}
use Rattle.readers.proofs.Row.{both_true}
use Rattle.readers.proofs.Mapped.{Made, mapped_reads_by, mapped_refuses}
use Rattle.readers.proofs.Dependent.{bound_reads_by, bound_refuses}
use Rattle.readers.proofs.Steps.{steps_reads, steps_refuses, steps_map, no_step}
use Rattle.readers.proofs.Grow.{two_are, after_first, after_in, after_begins, after_reads, after_refuses, growth_ok}

-- ---- a phrase that may follow only what is low enough

growth_bars : {K U : Type 0} (test : K → Bool) (m h : ℕ) (q : Reader K U) (v : List K) → head_is test (first v) ≡ false → guard (growth test true m h) q v ≡ Err (Grammar, v)
growth_bars test m h q [] e = refl
growth_bars test m h q (c ∷ v) e = rw e refl

module _ {K U : Type 0} {s : Known} {n : ℕ} {S : Room → U → List K → Type 0} {q : Room → Reader K U} {su : U → Option K → Bool} {tu : U → ℕ} {lu nu : ℕ} {test : K → Bool} {eu : ℕ} (P : Phrase s n 0 S q su tu lu nu test eu) (m : ℕ) (low : lu ≤ m) (need : nu ≤ m) where
  pub guarded : Phrase s n 0 (λ k. Passing (growth test true m k.height) (S k)) (λ k. guard (growth test true m k.height) (q k)) su (λ u. max m (tu u)) m 0 test (max m eu)
  guarded = record {
    part = record {
      above = λ k u w i d. omega arith;
      least = λ k u w i d. let a = after_first P true m k u w i d in let b = P.part.least k u w i d.1 in let c = a.4 in omega arith;
      lowest = λ k u w i d. let a = after_first P true m k u w i d in a.4;
      fits = λ h k u w i b l d.
          let c = head_some test (first w) (P.opening.begins h u w i d.1) in
          (ap (barred (growth test true m k.height)) c.1 ∙ growth_ok test true m k.height c.0 c.2 refl (omega arith), P.part.fits h k u w i b (omega arith) d.1);
      some = λ h i l. let v = P.part.some h i (omega arith) in record { tree = v.tree; more = v.more; derives = after_in P true m h v.tree v.more i refl l v.derives };
      reads = λ k i. after_reads P true m k i;
      refuses = λ h i l v e j. after_refuses P true m h i need v e j;
    };
    opening = record {
      begins = λ k u w i d. after_begins P true m k u w i d;
      starts = λ h c i l e. let v = P.opening.starts h c i (omega arith) e in record { tree = v.tree; more = v.more; derives = after_in P true m h v.tree (c ∷ v.more) i refl (omega arith) v.derives };
      bars = λ k v i e. growth_bars test m k.height (q k) v e;
    };
  }

-- ---- the same height of the trees that there are, otherwise said

pub resized : {K T : Type 0} {s : Known} {n up : ℕ} {D : Room → T → List K → Type 0} {p : Room → Reader K T} {st : T → Option K → Bool} {td : T → ℕ} {ld nd : ℕ} {test : K → Bool} {ed : ℕ} (tall : T → ℕ) → Phrase s n up D p st td ld nd test ed
    → ((k : Room) (t : T) (w : List K) → Fitting s n k → D k t w → td t ≡ tall t) → Phrase s n up D p st tall ld nd test ed
resized tall P same = record {
  part = record {
    above = λ k t w i d. let a = P.part.above k t w i d in let b = same k t w i d in omega (arith, a, b);
    least = λ k t w i d. let a = P.part.least k t w i d in let b = same k t w i d in omega (arith, a, b);
    lowest = P.part.lowest;
    fits = λ h k t w i b l d. let c = same h t w i d in P.part.fits h k t w i b (omega (arith, l, c)) d;
    some = P.part.some;
    reads = P.part.reads;
    refuses = P.part.refuses;
  };
  opening = P.opening;
}

-- ---- the same phrases, otherwise said

module _ {K T : Type 0} {s : Known} {n up : ℕ} {D E : Room → T → List K → Type 0} {p : Room → Reader K T} {st : T → Option K → Bool} {td : T → ℕ} {ld nd : ℕ} {test : K → Bool} {ed : ℕ} (P : Phrase s n up D p st td ld nd test ed)
    (to : (k : Room) (t : T) (w : List K) → D k t w → E k t w) (from : (k : Room) (t : T) (w : List K) → E k t w → D k t w) where
  viable_to : (k : Room) (u : List K) → Viable (D k) u → Viable (E k) u
  viable_to k u v = record { tree = v.tree; more = v.more; derives = to k v.tree (u ++ v.more) v.derives }

  pub spoken : Phrase s n up E p st td ld nd test ed
  spoken = record {
    part = record {
      above = λ k t w i d. P.part.above k t w i (from k t w d);
      least = λ k t w i d. P.part.least k t w i (from k t w d);
      lowest = λ k t w i d. P.part.lowest k t w i (from k t w d);
      fits = λ h k t w i b l d. to k t w (P.part.fits h k t w i b l (from h t w d));
      some = λ h i l. viable_to h [] (P.part.some h i l);
      reads = λ k i. let r = P.part.reads k i in record {
        complete = λ t w q d e. r.complete t w q (from k t w d) e;
        sound = λ v z e. let f = r.sound v z e in record { read = f.read; derives = to k z.0 f.read f.derives; parts = f.parts; stops = f.stops };
      };
      refuses = λ h i l v e j. let g = P.part.refuses h i l v e j in record {
        read = g.read;
        parts = g.parts;
        viable = elim g.viable [ inl z ↦ inl z | inr x ↦ inr (viable_to h g.read x) ];
        local = g.local;
        deep = λ dp. let d = g.deep dp in record { room = d.room; eased = d.eased; token = d.token; is = d.is; viable = viable_to d.room (g.read ++ d.token ∷ []) d.viable };
      };
    };
    opening = record {
      begins = λ k t w i d. P.opening.begins k t w i (from k t w d);
      starts = λ h c i l e. viable_to h (c ∷ []) (P.opening.starts h c i l e);
      bars = P.opening.bars;
    };
  }

-- ---- the chain

module _ {K E U T : Type 0} {s : Known} {n : ℕ} {B : Room → E → List K → Type 0} {b : Room → Reader K E} {sb : E → Option K → Bool} {tb : E → ℕ} {lb nb : ℕ} {testb : K → Bool} {eb : ℕ} (base : Phrase s n 0 B b sb tb lb nb testb eb)
    {F : Room → E → U → List K → Type 0} {f : Room → E → Reader K U} {su : U → Option K → Bool} {ti : E → U → ℕ} {li ei : E → ℕ} {ni : ℕ} {tests : E → K → Bool} (item : (x : E) → Phrase s n 0 (λ k. F k x) (λ k. f k x) su (ti x) (li x) ni (tests x) (ei x))
    (test : K → Bool) (step : E → U → E) (finish : E × List U → T) (L : Room → T → List K → Type 0) (sd : T → Option K → Bool) (tall : T → ℕ) where
  abbrev pub Parts : Room → E × List U → List K → Type 0
  Parts k = Bound (B k) (λ a. Steps step (F k) a)

  abbrev pub chain : Room → Reader K T
  chain k = mapped finish (bound (b k) (λ a. steps test step (f k) a))

  abbrev pub part_ends : E × List U → Option K → Bool
  part_ends (a, []) o = sb a o && not (head_is test o)
  part_ends (a, u ∷ us) o = row_stop test su (u ∷ us) o

  -- what is asked of the trees that are made, and of what stops them
  pub record Chained : Type 0 where
    pub made : ((k : Room) → Fitting s n k) → (k : Room) → Made finish (Parts k) (L k)
    pub alone : (k : Room) (x : E) (w : List K) → B k x w → L k (finish (x, [])) w
    pub least : (k : Room) (t : T) (w : List K) → Fitting s n k → L k t w → tall t ≤ k.height
    pub lowest : (k : Room) (t : T) (w : List K) → Fitting s n k → L k t w → lb ≤ k.height
    pub fits : (h k : Room) (t : T) (w : List K) → Fitting s n h → (h.clashes ≡ true → k.clashes ≡ true) → tall t ≤ k.height → L h t w → L k t w
    pub begins : (k : Room) (t : T) (w : List K) → Fitting s n k → L k t w → head_is testb (first w) ≡ true
    pub inside : (x : E) (c : K) → tests x c ≡ true → test c ≡ true
    pub base_next : (x : E) (c : K) → test c ≡ true → sb x (Some c) ≡ true
    pub item_next : (u : U) (c : K) → test c ≡ true → su u (Some c) ≡ true
    pub ends_are : (k : Room) (p : E × List U) (w : List K) (o : Option K) → Fitting s n k → Parts k p w → sd (finish p) o ≡ part_ends p o

  module _ (G : Chained) where
    begun : (k : Room) (x : E) (u : U) (w : List K) → Fitting s n k → F k x u w → head_is test (first w) ≡ true
    begun k x u w i d = let I = item x in head_to (tests x) test (G.inside x) (first w) (I.opening.begins k u w i d)

    lifts : (h k : Room) (x : E) (u : U) (w : List K) → Fitting s n h → Under h k → F h x u w → F k x u w
    lifts h k x u w i un d = let I = item x in mono I.part h k u w i un d

    item_reads : (k : Room) → Reading s n k → (x : E) → Reads (F k x) su (f k x)
    item_reads k i x = let I = item x in I.part.reads k i

    parts_read : (k : Room) → Reading s n k → Reads (Parts k) part_ends (bound (b k) (λ a. steps test step (f k) a))
    parts_read k i = bound_reads_by (B k) (λ a. Steps step (F k) a) sb (λ a. row_stop test su) (b k) (λ a. steps test step (f k) a) part_ends split join (base.part.reads k i)
        (λ a. steps_reads test step su (F k) (f k) (λ x u w d. begun k x u w (read_fits s n k k i) d)
        (λ x u v w r d.
        let g = head_some test (first (w ++ r)) (head-append test w r (begun k (step x u) v w (read_fits s n k k i) d)) in
        ap (su u) g.1 ∙ G.item_next u g.0 g.2) (item_reads k i) a)
      where
        split : (a : E) (us : List U) (v r : List K) → Steps step (F k) a us v → part_ends (a, us) (first r) ≡ true → (sb a (first (v ++ r)) ≡ true) × (row_stop test su us (first r) ≡ true)
        split a [] v r e st =
            let two = both_true (sb a (first r)) (not (head_is test (first r))) st in
            (subst (λ (v : List K). sb a (first (v ++ r)) ≡ true) (sym e) two.0, two.1)
        split a (u ∷ us) v r e st =
            let g = head_some test (first (v ++ r)) (head-append test v r (subst (λ (z : List K). head_is test (first z) ≡ true) (sym e.whole) (head-append test e.front e.back (begun k a u e.front (read_fits s n k k i) e.left)))) in
            (ap (sb a) g.1 ∙ G.base_next a g.0 g.2, st)

        join : (a : E) (us : List U) (v r : List K) → Steps step (F k) a us v → sb a (first (v ++ r)) ≡ true → row_stop test su us (first r) ≡ true → part_ends (a, us) (first r) ≡ true
        join a [] v r e x y = two_are (sb a (first r)) _ (subst (λ (v : List K). sb a (first (v ++ r)) ≡ true) e x) y
        join a (u ∷ us) v r e x y = y

    chain_reads : (k : Room) → Reading s n k → Reads (L k) sd (chain k)
    chain_reads k i = mapped_reads_by finish (Parts k) (L k) (G.made (λ m. read_fits s n k m i) k) part_ends sd _ (λ p w o a e. sym (G.ends_are k p w o (read_fits s n k k i) a) ∙ e) (λ p w o a e. G.ends_are k p w o (read_fits s n k k i) a ∙ e) (parts_read k i)

    chain_refuses : (h : Room) → Refusing s n h → max nb ni ≤ h.height → (v : List K) (e : Code × List K) → chain h v ≡ Err e → Refuses L chain h v e
    chain_refuses h i le v e j =
        let fit : (k : Room) → Fitting s n k = λ k. refused_fits s n h k i in
        let read : (k : Room) → Reading s n k = λ k. refused_reads s n h k i in
        mapped_refuses finish Parts L (λ k. bound (b k) (λ a. steps test step (f k) a)) (λ k. G.made fit k) h v e
        (bound_refuses B (λ k a. Steps step (F k) a) sb b (λ k a. steps test step (f k) a) (λ k. base.part.reads k (read k))
        (λ h' k t w u a. mono base.part h' k t w (fit h') u a)
        (λ h' k a us w u d. steps_map step (F h') (F k) (λ x y w d. lifts h' k x y w (fit h') u d) a us w d) h (λ a. no_step step (F h) a) (base.part.refuses h i (omega (arith, le)))
        (λ a. steps_refuses test step su F f (λ k x u w d. begun k x u w (fit k) d)
        (λ h' k x u w un d. lifts h' k x u w (fit h') un d) (λ k x. item_reads k (read k) x) a h
        (λ x v e j. let I = item x in I.part.refuses h i (omega (arith, le)) v e j)) v e) j

    pub chained : Phrase s n 0 L chain sd tall lb (max nb ni) testb (max eb 0)
    chained = record {
      part = record {
        above = λ k t w i d. omega arith;
        least = λ k t w i d. let a = G.least k t w i d in omega arith;
        lowest = G.lowest;
        fits = λ h k t w i b l d. G.fits h k t w i b (omega arith) d;
        some = λ h i l. let v = base.part.some h i l in record { tree = finish (v.tree, []); more = v.more; derives = G.alone h v.tree v.more v.derives };
        reads = λ k i. chain_reads k i;
        refuses = λ h i l v e j. chain_refuses h i l v e j;
      };
      opening = record {
        begins = λ k t w i d. G.begins k t w i d;
        starts = λ h c i l e. let v = base.opening.starts h c i (omega arith) e in record { tree = finish (v.tree, []); more = v.more; derives = G.alone h v.tree (c ∷ v.more) v.derives };
        bars = λ k v i e. rw (base.opening.bars k v i e) refl;
      };
    }
