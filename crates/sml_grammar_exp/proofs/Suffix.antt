-- What holds of phrases that grow to the right by one suffix at most, where the suffix tells how much room there is.
use Rattle.std.proofs.Common.{◌≡◌, ℕ, zero, suc, ◌+◌, ◌≤◌, max, Bool, true, false, not, ◌&&◌, List, [], ◌++◌, Option, Some, None, Ok, Err, refl, sym, ap, subst, ◌∙◌, arith, inl, inr}
use Rattle.std.proofs.lemmas.List.{append-nil}
use Rattle.readers.specs.declared.code.Code.{Code}
use Rattle.readers.specs.declared.code.Code.TheVariants.{Grammar}
use Rattle.readers.specs.Reader.{first, head_is, Reader, mapped, bound, guard, roomy}
use Rattle.readers.specs.Language.{Bound, As, Or}
use Rattle.readers.specs.Room.{Room, at_height}
use Rattle.readers.specs.Exact.{Reads, Refuses, Opens}
use Rattle.readers.specs.Forms.{growth, Grown, ended_as, grown_once, Nothing, nothing, Maybe, maybe}
use Rattle.readers.proofs.Bundle.{Known, Fitting, Reading, Refusing, read_fits, refused_fits, refused_reads, Phrase, mono}
use Rattle.readers.proofs.Outcome.{chosen, head_some, head-append}
use Rattle.readers.proofs.Row.{both_true}
use Rattle.readers.proofs.Alternative.{or_refuses}
use Rattle.readers.proofs.Mapped.{Made, as_made, mapped_reads_by, mapped_refuses}
use Rattle.readers.proofs.Dependent.{bound_reads_by, bound_refuses}
use Rattle.readers.proofs.Choose.{maybe_stop}
use Rattle.readers.proofs.Once.{maybe_reads, maybe_map, err_is, stuck}
use Rattle.readers.proofs.Grow.{two_are, After, after_first, after_in, after_begins, after_mono, after_reads, after_refuses, growth_ok}

module _ {K E U : Type 0} {s : Known} {n : ℕ} {B : Room → E → List K → Type 0} {b : Room → Reader K E} {sb : E → Option K → Bool} {te : E → ℕ} {lb : ℕ} {testb : K → Bool} {eb : ℕ}
    {S : Room → U → List K → Type 0} {q : Room → Reader K U} {su : U → Option K → Bool} {tu : U → ℕ} {lu nu : ℕ} {test : K → Bool} {eu : ℕ}
    {C : Room → E → List K → Type 0} {c : Room → Reader K E} {sc : E → Option K → Bool} {lc nc ec : ℕ}
    (base : Phrase s n 1 B b sb te lb 0 testb eb) (suffix : Phrase s n 0 S q su tu lu nu test eu) (inner : Phrase s n 0 C c sc te lc nc testb ec) (ready : E → Bool) (tall : E → ℕ) (step : E → U → E) where
  abbrev joined : E × U → E
  joined x = step x.0 x.1

  abbrev pub Level : Room → E → List K → Type 0
  Level k = Or (B k) (As joined (Grown ready (C k) (S k)))

  abbrev pub level : Room → Reader K E
  level k = grown_once test ready tall step (b k) (q k) k.height

  pub record Once (sd : E → Option K → Bool) : Type 0 where
    pub none : (b : Bool) (t : E) (w : List K) → C (at_height 0 b) t w → ⊥
    pub out : (h : ℕ) (b : Bool) (t : E) (w : List K) → C (at_height (suc h) b) t w → B (at_height h b) t w
    pub into : (h : ℕ) (b : Bool) (t : E) (w : List K) → B (at_height h b) t w → C (at_height (suc h) b) t w
    pub high : (x : E) (u : U) → te (step x u) ≡ suc (max (te x) (tu u))
    pub tall_is : (k : Room) (x : E) (u : U) (w v : List K) → Fitting s n k → C k x w → S k u v → tall x ≤ k.height
    pub over : (x : E) → te x ≤ tall x
    pub room : (x : E) → nu ≤ tall x
    pub low : lb ≤ lc
    pub base_stop : (k : Room) (t : E) (w : List K) (o : Option K) → B k t w → sd t o ≡ (sb t o && not (head_is test o))
    pub step_stop : (x : E) (u : U) (o : Option K) → sd (step x u) o ≡ su u o
    pub base_next : (x : E) (c : K) → ready x ≡ true → test c ≡ true → sb x (Some c) ≡ true

  module _ {sd : E → Option K → Bool} (G : Once sd) where
    level_above : (k : Room) (t : E) (w : List K) → Fitting s n k → Level k t w → 1 ≤ te t
    level_above k t w i (inl a) = base.part.above k t w i a
    level_above k t w i (inr a) = let g = G.high a.0.0 a.0.1 in let e = ap te a.1 in omega arith

    level_least : (k : Room) (t : E) (w : List K) → Fitting s n k → Level k t w → te t ≤ 1 + k.height
    level_least k t w i (inl a) = base.part.least k t w i a
    level_least k t w i (inr a) =
        let g = G.high a.0.0 a.0.1 in
        let e = ap te a.1 in
        let j = a.2.1 in
        let x = inner.part.least k a.0.0 j.front i j.left in
        let y = suffix.part.least k a.0.1 j.back i j.right in
        omega arith

    level_fits : (h k : Room) (t : E) (w : List K) → Fitting s n h → (h.clashes ≡ true → k.clashes ≡ true) → te t ≤ 1 + k.height → Level h t w → Level k t w
    level_fits h k t w i f le (inl a) = inl (base.part.fits h k t w i f le a)
    level_fits h k t w i f le (inr a) =
        let g = G.high a.0.0 a.0.1 in
        let e = ap te a.1 in
        let j = a.2.1 in
        inr (a.0, a.1, (a.2.0, record { front = j.front; back = j.back; left = inner.part.fits h k a.0.0 j.front i f (omega arith) j.left; right = suffix.part.fits h k a.0.1 j.back i f (omega arith) j.right; whole = j.whole }))

    -- a tree that is low enough stands inside, and one that stands inside stands outside too
    lower : (k : Room) (t : E) (w : List K) → Fitting s n k → te t ≤ k.height → B k t w → C k t w
    lower k t w i le a = go k.height k.clashes i le a
      where
        go : (h : ℕ) (c : Bool) → Fitting s n (at_height h c) → te t ≤ h → B (at_height h c) t w → C (at_height h c) t w
        go zero c i le a = let x = base.part.above (at_height zero c) t w i a in absurd (omega (arith, x, le))
        go (suc h) c i le a = G.into h c t w (base.part.fits (at_height (suc h) c) (at_height h c) t w i (λ e. e) (omega (arith, le)) a)

    raise : (fit : (k : Room) → Fitting s n k) (k : Room) (t : E) (w : List K) → C k t w → B k t w
    raise fit k t w a = go k.height k.clashes a
      where
        go : (h : ℕ) (c : Bool) → C (at_height h c) t w → B (at_height h c) t w
        go zero c a = absurd (G.none c t w a)
        go (suc h) c a = mono base.part (at_height h c) (at_height (suc h) c) t w (fit (at_height h c)) (omega arith, λ e. e) (G.out h c t w a)

    abbrev Suffix : Room → E → U → List K → Type 0
    Suffix k x = After suffix (ready x) (tall x) k

    abbrev Parts : Room → E × Option U → List K → Type 0
    Parts k = Bound (B k) (λ a. Maybe (Suffix k a))

    module _ (fit : (k : Room) → Fitting s n k) where
      to_by : (k : Room) (p : E × Option U) (w : List K) → Parts k p w → Level k (ended_as step p) w
      to_by k (x, None) w a = nothing_more a.right
        where
          nothing_more : Maybe (Suffix k x) None a.back → Level k x w
          nothing_more (inl d) = let no : Some d.0 ≡ None = d.1 in absurd cc
          nothing_more (inr d) = inl (subst (λ (z : List K). B k x z) (sym (a.whole ∙ ap (λ (z : List K). a.front ++ z) d.1 ∙ append-nil a.front)) a.left)
      to_by k (x, Some u) w a = one_more a.right
        where
          one_more : Maybe (Suffix k x) (Some u) a.back → Level k (step x u) w
          one_more (inr d) = let no : None ≡ Some u = d.0 in absurd cc
          one_more (inl d) =
              let e : Suffix k x u a.back = subst (λ (y : U). Suffix k x y a.back) (let same : Some d.0 ≡ Some u = d.1 in cc) d.2 in
              let c = after_first suffix (ready x) (tall x) k u a.back (fit k) e in
              let o = G.over x in
              let le = c.4 in
              inr ((x, u), refl, (c.3, record { front = a.front; back = a.back; left = lower k x a.front (fit k) (omega arith) a.left; right = e.1; whole = a.whole }))

      from_by : (k : Room) (t : E) (w : List K) → Level k t w → (p : E × Option U) × (ended_as step p ≡ t) × Parts k p w
      from_by k t w (inl a) = ((t, None), refl, record { front = w; back = []; left = a; right = inr (refl, refl); whole = sym (append-nil w) })
      from_by k t w (inr a) =
          let x : E = a.0.0 in
          let u : U = a.0.1 in
          let j = a.2.1 in
          ((x, Some u), a.1, record { front = j.front; back = j.back; left = raise fit k x j.front j.left; right = inl (u, refl, after_in suffix (ready x) (tall x) k u j.back (fit k) a.2.0 (G.tall_is k x u j.front j.back (fit k) j.left j.right) j.right); whole = j.whole })

      once_made : (k : Room) → Made (ended_as step) (Parts k) (Level k)
      once_made k = record { to = to_by k; from = from_by k }

      abbrev part_ends : E × Option U → Option K → Bool
      part_ends (a, None) o = sb a o && not (head_is test o)
      part_ends (a, Some u) o = su u o

      ends_are : (k : Room) (p : E × Option U) (w : List K) (o : Option K) → Parts k p w → sd (ended_as step p) o ≡ part_ends p o
      ends_are k (a, None) w o e = G.base_stop k a e.front o e.left
      ends_are k (a, Some u) w o e = G.step_stop a u o

      suffix_exact : (k : Room) → Reading s n k → (a : E) → Reads (Maybe (Suffix k a)) (maybe_stop test su) (maybe test 0 (guard (growth test (ready a) (tall a) k.height) (q k)) k.height)
      suffix_exact k i a = maybe_reads test k.height (Suffix k a) su (guard (growth test (ready a) (tall a) k.height) (q k)) (λ u w e. after_begins suffix (ready a) (tall a) k u w (fit k) e) (after_reads suffix (ready a) (tall a) k i)

      parts_exact : (k : Room) → Reading s n k → Reads (Parts k) part_ends (bound (b k) (λ a. maybe test 0 (guard (growth test (ready a) (tall a) k.height) (q k)) k.height))
      parts_exact k i = bound_reads_by (B k) (λ a. Maybe (Suffix k a)) sb (λ a. maybe_stop test su) (b k) (λ a. maybe test 0 (guard (growth test (ready a) (tall a) k.height) (q k)) k.height) part_ends split join (base.part.reads k i) (suffix_exact k i)
        where
          empty : (a : E) (v : List K) → Maybe (Suffix k a) None v → v ≡ []
          empty a v (inl d) = let no : Some d.0 ≡ None = d.1 in absurd cc
          empty a v (inr d) = d.1

          taken : (a : E) (u : U) (v : List K) → Maybe (Suffix k a) (Some u) v → (head_is test (first v) ≡ true) × (ready a ≡ true)
          taken a u v (inr d) = let no : None ≡ Some u = d.0 in absurd cc
          taken a u v (inl d) = let c = after_first suffix (ready a) (tall a) k d.0 v (fit k) d.2 in (after_begins suffix (ready a) (tall a) k d.0 v (fit k) d.2, c.3)

          split : (a : E) (us : Option U) (v r : List K) → Maybe (Suffix k a) us v → part_ends (a, us) (first r) ≡ true → (sb a (first (v ++ r)) ≡ true) × (maybe_stop test su us (first r) ≡ true)
          split a None v r e st =
              let two = both_true (sb a (first r)) (not (head_is test (first r))) st in
              (subst (λ (v : List K). sb a (first (v ++ r)) ≡ true) (sym (empty a v e)) two.0, two.1)
          split a (Some u) v r e st =
              let c = taken a u v e in
              let g = head_some test (first (v ++ r)) (head-append test v r c.0) in
              (ap (sb a) g.1 ∙ G.base_next a g.0 c.1 g.2, st)

          join : (a : E) (us : Option U) (v r : List K) → Maybe (Suffix k a) us v → sb a (first (v ++ r)) ≡ true → maybe_stop test su us (first r) ≡ true → part_ends (a, us) (first r) ≡ true
          join a None v r e x y = two_are (sb a (first r)) _ (subst (λ (v : List K). sb a (first (v ++ r)) ≡ true) (empty a v e) x) y
          join a (Some u) v r e x y = y

      once_reads : (k : Room) → Reading s n k → Reads (Level k) sd (level k)
      once_reads k i = mapped_reads_by (ended_as step) (Parts k) (Level k) (once_made k) part_ends sd _ (λ p w o a e. sym (ends_are k p w o a) ∙ e) (λ p w o a e. ends_are k p w o a ∙ e) (parts_exact k i)

    -- a suffix of a tree that is not ready for one is none, so it opens nothing
    opens_by : (h : Room) → Refusing s n h → (x : E) → ready x ≡ true → Opens (λ k. As (λ (u : U). Some u) (Suffix k x)) test 0
    opens_by h i x r = record {
      begins = λ k t w d. after_begins suffix (ready x) (tall x) k d.0 w (refused_fits s n h k i) d.2;
      least = λ k t w d. omega arith;
      starts = λ c e z.
          let k : Room = at_height (tall x + eu) z in
          let v = suffix.opening.starts k c (refused_fits s n h k i) (omega arith) e in
          (tall x + eu, omega arith, record { tree = Some v.tree; more = v.more; derives = (v.tree, refl, (growth_ok test (ready x) (tall x) k.height c e r (omega arith), v.derives)) });
    }

    once_refuses : (h : Room) → Refusing s n h → (v : List K) (e : Code × List K) → level h v ≡ Err e → Refuses Level level h v e
    once_refuses h i v e j =
        let fit : (k : Room) → Fitting s n k = λ k. refused_fits s n h k i in
        let read : (k : Room) → Reading s n k = λ k. refused_reads s n h k i in
        mapped_refuses (ended_as step) Parts Level (λ k. bound (b k) (λ a. maybe test 0 (guard (growth test (ready a) (tall a) k.height) (q k)) k.height)) (λ k. once_made fit k) h v e
        (bound_refuses B (λ k a. Maybe (Suffix k a)) sb b (λ k a. maybe test 0 (guard (growth test (ready a) (tall a) k.height) (q k)) k.height) (λ k. base.part.reads k (read k))
        (λ h' k t w u a. mono base.part h' k t w (fit h') u a)
        (λ h' k a us w u d. maybe_map (Suffix h' a) (Suffix k a) (λ y w d. after_mono suffix (ready a) (tall a) h' k y w (fit h') (fit k) u d) us w d) h
        (λ a. record { tree = None; more = []; derives = inr (refl, refl) }) (base.part.refuses h i (omega arith))
        (λ a v e j. refuse a (ready a) refl v e j) v e) j
      where
        refuse : (a : E) (r : Bool) → ready a ≡ r → (v : List K) (e : Code × List K) → maybe test 0 (guard (growth test (ready a) (tall a) h.height) (q h)) h.height v ≡ Err e
            → Refuses (λ k. Maybe (Suffix k a)) (λ k. maybe test 0 (guard (growth test (ready a) (tall a) k.height) (q k)) k.height) h v e
        refuse a true r v e j = or_refuses test 0 (λ k. As (λ (u : U). Some u) (Suffix k a)) (λ k. Nothing None) (λ k. mapped (λ (u : U). Some u) (guard (growth test (ready a) (tall a) k.height) (q k))) (λ k. nothing None) (opens_by h i a r) h
            (λ v e l j. mapped_refuses (λ (u : U). Some u) (λ k. Suffix k a) (λ k. As (λ (u : U). Some u) (Suffix k a)) (λ k. guard (growth test (ready a) (tall a) k.height) (q k)) (λ k. as_made (λ (u : U). Some u) (Suffix k a)) h v e
            (after_refuses suffix (ready a) (tall a) h i (G.room a) v e) j) (λ v e j. absurd cc) v e j
        refuse a false r v e j = barred_off v e j
          where
            barred_off : (v : List K) (e : Code × List K) → maybe test 0 (guard (growth test (ready a) (tall a) h.height) (q h)) h.height v ≡ Err e
                → Refuses (λ k. Maybe (Suffix k a)) (λ k. maybe test 0 (guard (growth test (ready a) (tall a) k.height) (q k)) k.height) h v e
            barred_off v e j =
                elim (chosen (head_is test (first v)) (roomy 0 (mapped (λ (u : U). Some u) (guard (growth test (ready a) (tall a) h.height) (q h))) h.height v) (Ok (None, v)) (Err e) j) [
                  | inl x ↦
                      let same : (Grammar, v) ≡ e = err_is (sym (stuck test (ready a) (tall a) h.height (q h) v r x.0) ∙ j) in
                      subst (λ (e : Code × List K). Refuses (λ k. Maybe (Suffix k a)) (λ k. maybe test 0 (guard (growth test (ready a) (tall a) k.height) (q k)) k.height) h v e) same (record {
                        read = [];
                        parts = refl;
                        viable = inl refl;
                        local = λ k w al o. stuck test (ready a) (tall a) k.height (q k) w r (ap (head_is test) o ∙ x.0);
                        deep = λ dp. absurd (dp refl);
                      })
                  | inr x ↦ absurd cc
                ]

    pub growing_once : Phrase s n 1 Level level sd te lb 0 testb eb
    growing_once = record {
      part = record {
        above = level_above;
        least = level_least;
        lowest = λ k t w i a. low_by k t w i a;
        fits = level_fits;
        some = λ h i le. let v = base.part.some h i le in record { tree = v.tree; more = v.more; derives = inl v.derives };
        reads = λ k i. once_reads (λ m. read_fits s n k m i) k i;
        refuses = λ h i le v e j. once_refuses h i v e j;
      };
      opening = record {
        begins = λ k t w i a. begin_by k t w i a;
        starts = λ h c i le e. let v = base.opening.starts h c i le e in record { tree = v.tree; more = v.more; derives = inl v.derives };
        bars = λ k v i e. rw (base.opening.bars k v i e) refl;
      };
    }
      where
        low_by : (k : Room) (t : E) (w : List K) → Fitting s n k → Level k t w → lb ≤ k.height
        low_by k t w i (inl a) = base.part.lowest k t w i a
        low_by k t w i (inr a) = let x = inner.part.lowest k a.0.0 a.2.1.front i a.2.1.left in let y = G.low in omega arith

        begin_by : (k : Room) (t : E) (w : List K) → Fitting s n k → Level k t w → head_is testb (first w) ≡ true
        begin_by k t w i (inl a) = base.opening.begins k t w i a
        begin_by k t w i (inr a) = let j = a.2.1 in subst (λ (z : List K). head_is testb (first z) ≡ true) (sym j.whole) (head-append testb j.front j.back (inner.opening.begins k a.0.0 j.front i j.left))
