-- What holds of phrases that grow to the right: each suffix takes what stands before it, one level lower.
use Rattle.std.proofs.Common.{◌≡◌, ◌⊎◌, ℕ, zero, suc, ◌+◌, ◌≤◌, ◌<◌, max, if◌then◌else◌, Bool, true, false, not, ◌&&◌, ltb, List, [], ◌∷◌, ◌++◌, Option, Some, None, Result, Ok, Err, refl, sym, ap, subst, ◌∙◌, arith, append_assoc, inl, inr}
use Rattle.std.proofs.lemmas.List.{append-nil}
use Rattle.std.proofs.lemmas.Bool.{ltb-true, ltb-false, lt-ltb, le-ltb}
use Rattle.readers.specs.declared.code.Code.{Code}
use Rattle.readers.specs.declared.code.Code.TheVariants.{Grammar, Depth, FixityClash}
use Rattle.readers.specs.Reader.{first, head_is, Reader, ◌>>=◌, mapped, bound, steps, guard, barred}
use Rattle.readers.specs.Language.{Joined, Bound, Viable, As, Or, Steps, Passing}
use Rattle.readers.specs.Room.{Room, Under, Higher, Eased, Alike, at_height}
use Rattle.readers.specs.Exact.{Found, Reads, Refuses, row_stop}
use Rattle.readers.specs.Infix.{ups}
use Rattle.readers.specs.Forms.{growth, Grown, grown_to, grown}
use Rattle.readers.proofs.Bundle.{Known, Fitting, Reading, Refusing, read_fits, refused_fits, refused_reads, Part, Opening, Phrase, mono}
use Rattle.readers.proofs.Outcome.{eased_under, head_some, head-append}
use Rattle.readers.proofs.Row.{both_true, not_true, not_false}
use Rattle.readers.proofs.Mapped.{Made, mapped_reads_by, mapped_refuses}
use Rattle.readers.proofs.Dependent.{bound_reads_by, bound_refuses}
use Rattle.readers.proofs.Guard.{Bars, guard_reads, guard_refuses}
use Rattle.readers.proofs.Steps.{steps_reads, steps_refuses, steps_map, steps_snoc, ups_snoc, no_step}

-- ---- the test before a suffix

pub two_are : (a b : Bool) → a ≡ true → b ≡ true → (a && b) ≡ true
two_are a b e f = rw e f

growth_none : {K : Type 0} (test : K → Bool) (ready : Bool) (tall h : ℕ) (c : K) → growth test ready tall h c ≡ None → (test c ≡ true) × (ready ≡ true) × (tall ≤ h)
growth_none test ready tall h c e = go (test c) ready (ltb h tall) (λ i. ltb-false h tall i) e
  where
    go : (a b d : Bool) → (d ≡ false → tall ≤ h) → (if a && b then (if d then Some Depth else None) else Some Grammar) ≡ None → (a ≡ true) × (b ≡ true) × (tall ≤ h)
    go true true true f e = absurd cc
    go true true false f e = (refl, refl, f refl)
    go true false d f e = absurd cc
    go false b d f e = absurd cc

pub growth_ok : {K : Type 0} (test : K → Bool) (ready : Bool) (tall h : ℕ) (c : K) → test c ≡ true → ready ≡ true → tall ≤ h → growth test ready tall h c ≡ None
growth_ok test ready tall h c e f le = let small : ltb h tall ≡ false = le-ltb h tall le in rw e (rw f (rw small refl))

growth_some : {K : Type 0} (test : K → Bool) (ready : Bool) (tall h : ℕ) (c : K) (code : Code) → growth test ready tall h c ≡ Some code
    → ((code ≡ Grammar) × ((test c && ready) ≡ false)) ⊎ ((code ≡ Depth) × (test c ≡ true) × (ready ≡ true) × (h < tall))
growth_some test ready tall h c code e = go (test c) ready (ltb h tall) (λ i. ltb-true h tall i) e
  where
    go : (a b d : Bool) → (d ≡ true → h < tall) → (if a && b then (if d then Some Depth else None) else Some Grammar) ≡ Some code → ((code ≡ Grammar) × ((a && b) ≡ false)) ⊎ ((code ≡ Depth) × (a ≡ true) × (b ≡ true) × (h < tall))
    go true true true f e = inr (cc, refl, refl, f refl)
    go true true false f e = absurd cc
    go true false d f e = inl (cc, refl)
    go false b d f e = inl (cc, refl)

pub growth_no : {K : Type 0} (test : K → Bool) (ready : Bool) (tall h : ℕ) (c : K) → (test c && ready) ≡ false → growth test ready tall h c ≡ Some Grammar
growth_no test ready tall h c e = rw e refl

module _ {K U : Type 0} {s : Known} {n : ℕ} {S : Room → U → List K → Type 0} {q : Room → Reader K U} {su : U → Option K → Bool} {tu : U → ℕ} {lu nu : ℕ} {test : K → Bool} {eu : ℕ} (P : Phrase s n 0 S q su tu lu nu test eu) (ready : Bool) (tall : ℕ) where
  -- a suffix behind a tree of this height
  abbrev pub After : Room → U → List K → Type 0
  After k = Passing (growth test ready tall k.height) (S k)

  pub never : (k : Room) (u : U) → Fitting s n k → S k u [] → ⊥
  never k u i d = let b : false ≡ true = P.opening.begins k u [] i d in absurd cc

  pub after_first : (k : Room) (u : U) (w : List K) → Fitting s n k → After k u w → (c : K) × (first w ≡ Some c) × (test c ≡ true) × (ready ≡ true) × (tall ≤ k.height)
  after_first k u w i d = go w d.0 (λ e. never k u i (subst (S k u) e d.1))
    where
      go : (w : List K) → barred (growth test ready tall k.height) (first w) ≡ None → (w ≡ [] → ⊥) → (c : K) × (first w ≡ Some c) × (test c ≡ true) × (ready ≡ true) × (tall ≤ k.height)
      go [] e f = absurd (f refl)
      go (c ∷ w) e f = let g = growth_none test ready tall k.height c e in (c, refl, g.0, g.1, g.2)

  pub after_in : (k : Room) (u : U) (w : List K) → Fitting s n k → ready ≡ true → tall ≤ k.height → S k u w → After k u w
  after_in k u w i r le d =
      let c = head_some test (first w) (P.opening.begins k u w i d) in
      (ap (barred (growth test ready tall k.height)) c.1 ∙ growth_ok test ready tall k.height c.0 c.2 r le, d)

  pub after_begins : (k : Room) (u : U) (w : List K) → Fitting s n k → After k u w → head_is test (first w) ≡ true
  after_begins k u w i d = P.opening.begins k u w i d.1

  pub after_mono : (h k : Room) (u : U) (w : List K) → Fitting s n h → Fitting s n k → Under h k → After h u w → After k u w
  after_mono h k u w i j un d =
      let a = after_first h u w i d in
      let le = a.4 in
      let up = un.0 in
      after_in k u w j a.3 (omega arith) (mono P.part h k u w i un d.1)

  pub after_reads : (k : Room) → Reading s n k → Reads (After k) su (guard (growth test ready tall k.height) (q k))
  after_reads k i = guard_reads (growth test ready tall k.height) (S k) su (q k) (λ u d. never k u (read_fits s n k k i) d) (P.part.reads k i)

  after_bars : (h : Room) → Refusing s n h → Bars (λ k. growth test ready tall k.height) S
  after_bars h i = record {
    passes = λ h k c u e. let g = growth_none test ready tall h.height c e in let a = u.0 in let b = g.2 in growth_ok test ready tall k.height c g.0 g.1 (omega arith);
    same = λ h k c code al e. elim (growth_some test ready tall h.height c code e) [
      | inl g ↦ growth_no test ready tall k.height c g.1 ∙ ap (λ (x : Code). Some x) (sym g.0)
      | inr g ↦ let same : k ≡ h = subst (λ (x : Code). Alike x h k) g.0 al in subst (λ (r : Room). growth test ready tall r.height c ≡ Some code) (sym same) e
    ];
    opens = λ h' c code e nz. elim (growth_some test ready tall h'.height c code e) [
      | inl g ↦ absurd (nz g.0)
      | inr g ↦
          let k : Room = at_height (h'.height + tall + eu) h'.clashes in
          (k, subst (λ (x : Code). Eased x h' k) (sym g.0) (omega arith, refl), growth_ok test ready tall k.height c g.1 g.2 (omega arith), P.opening.starts k c (refused_fits s n h k i) (omega arith) g.1)
    ];
  }

  pub after_refuses : (h : Room) → Refusing s n h → nu ≤ tall → (v : List K) (e : Code × List K) → guard (growth test ready tall h.height) (q h) v ≡ Err e → Refuses After (λ k. guard (growth test ready tall k.height) (q k)) h v e
  after_refuses h i le v e j = guard_refuses (λ k. growth test ready tall k.height) S q (after_bars h i) (λ k u d. never k u (refused_fits s n h k i) d) eased_under h
      (λ v e b j. P.part.refuses h i (high v b) v e j) v e j
    where
      high : (v : List K) → barred (growth test ready tall h.height) (first v) ≡ None → nu ≤ h.height
      high [] b = absurd cc
      high (c ∷ v) b = let g = growth_none test ready tall h.height c b in let a = g.2 in omega (arith, a, le)

-- ---- suffix after suffix

module _ {K E U : Type 0} {s : Known} {n : ℕ} {B : Room → E → List K → Type 0} {b : Room → Reader K E} {sb : E → Option K → Bool} {te : E → ℕ} {lb : ℕ} {testb : K → Bool} {eb : ℕ}
    {S : Room → U → List K → Type 0} {q : Room → Reader K U} {su : U → Option K → Bool} {tu : U → ℕ} {lu nu : ℕ} {test : K → Bool} {eu : ℕ}
    {D : Room → E → List K → Type 0} {d : Room → Reader K E} {sd : E → Option K → Bool} {ld nd ed : ℕ}
    (base : Phrase s n 1 B b sb te lb 0 testb eb) (suffix : Phrase s n 0 S q su tu lu nu test eu) (whole : Phrase s n 0 D d sd te ld nd testb ed) (ready : E → Bool) (tall : E → ℕ) (step : E → U → E) where
  abbrev joined : E × U → E
  joined x = step x.0 x.1

  abbrev pub Level : Room → E → List K → Type 0
  Level k = Or (B k) (As joined (Grown ready (D k) (S k)))

  abbrev pub level : Room → Reader K E
  level k = grown test ready tall step (b k) (q k) k.height

  -- what is asked of the trees, and of what stops them
  pub record Grows : Type 0 where
    pub none : (b : Bool) (t : E) (w : List K) → D (at_height 0 b) t w → ⊥
    pub out : (h : ℕ) (b : Bool) (t : E) (w : List K) → D (at_height (suc h) b) t w → Level (at_height h b) t w
    pub into : (h : ℕ) (b : Bool) (t : E) (w : List K) → Level (at_height h b) t w → D (at_height (suc h) b) t w
    pub high : (x : E) (u : U) → te (step x u) ≡ suc (max (te x) (tu u))
    pub tall_is : (k : Room) (x : E) (w : List K) → Fitting s n k → D k x w → tall x ≤ k.height
    pub over : (x : E) → te x ≤ tall x
    pub room : (x : E) → nu ≤ tall x
    pub low : lb ≤ ld
    pub base_stop : (k : Room) (t : E) (w : List K) (o : Option K) → B k t w → sd t o ≡ (sb t o && not (head_is test o))
    pub step_stop : (x : E) (u : U) (o : Option K) → sd (step x u) o ≡ (su u o && not (head_is test o))
    pub base_next : (x : E) (c : K) → ready x ≡ true → test c ≡ true → sb x (Some c) ≡ true
    pub step_next : (x : E) (u : U) (c : K) → ready (step x u) ≡ true → test c ≡ true → su u (Some c) ≡ true

  module _ (G : Grows) where
    level_above : (k : Room) (t : E) (w : List K) → Fitting s n k → Level k t w → 1 ≤ te t
    level_above k t w i (inl a) = base.part.above k t w i a
    level_above k t w i (inr a) = let g = G.high a.0.0 a.0.1 in let e = ap te a.1 in omega arith

    level_least : (k : Room) (t : E) (w : List K) → Fitting s n k → Level k t w → te t ≤ 1 + k.height
    level_least k t w i (inl a) = base.part.least k t w i a
    level_least k t w i (inr a) =
        let g = G.high a.0.0 a.0.1 in
        let e = ap te a.1 in
        let j = a.2.1 in
        let x = whole.part.least k a.0.0 j.front i j.left in
        let y = suffix.part.least k a.0.1 j.back i j.right in
        omega arith

    level_fits : (h k : Room) (t : E) (w : List K) → Fitting s n h → (h.clashes ≡ true → k.clashes ≡ true) → te t ≤ 1 + k.height → Level h t w → Level k t w
    level_fits h k t w i f le (inl a) = inl (base.part.fits h k t w i f le a)
    level_fits h k t w i f le (inr a) =
        let g = G.high a.0.0 a.0.1 in
        let e = ap te a.1 in
        let j = a.2.1 in
        inr (a.0, a.1, (a.2.0, record { front = j.front; back = j.back; left = whole.part.fits h k a.0.0 j.front i f (omega arith) j.left; right = suffix.part.fits h k a.0.1 j.back i f (omega arith) j.right; whole = j.whole }))

    -- a tree that is low enough stands inside
    lower : (k : Room) (t : E) (w : List K) → Fitting s n k → te t ≤ k.height → Level k t w → D k t w
    lower k t w i le a = go k.height k.clashes i le a
      where
        go : (h : ℕ) (c : Bool) → Fitting s n (at_height h c) → te t ≤ h → Level (at_height h c) t w → D (at_height h c) t w
        go zero c i le a = let x = level_above (at_height zero c) t w i a in absurd (omega (arith, x, le))
        go (suc h) c i le a = G.into h c t w (level_fits (at_height (suc h) c) (at_height h c) t w i (λ e. e) (omega (arith, le)) a)

    abbrev Suffix : Room → E → U → List K → Type 0
    Suffix k x = After suffix (ready x) (tall x) k

    abbrev Parts : Room → E × List U → List K → Type 0
    Parts k = Bound (B k) (λ a. Steps step (Suffix k) a)

    to_by : (k : Room) (x : E) (us : List U) (v w : List K) → Fitting s n k → Level k x v → Steps step (Suffix k) x us w → Level k (ups step x us) (v ++ w)
    to_by k x [] v w i a e = subst (λ (z : List K). Level k x z) (sym (ap (λ (z : List K). v ++ z) e ∙ append-nil v)) a
    to_by k x (u ∷ us) v w i a e =
        let c = after_first suffix (ready x) (tall x) k u e.front i e.left in
        let o = G.over x in
        let le = c.4 in
        let y : D k x v = lower k x v i (omega arith) a in
        let t : Level k (step x u) (v ++ e.front) = inr ((x, u), refl, (c.3, record { front = v; back = e.front; left = y; right = e.left.1; whole = refl })) in
        subst (λ (z : List K). Level k (ups step (step x u) us) z) (append_assoc v e.front e.back ∙ ap (λ (z : List K). v ++ z) (sym e.whole))
        (to_by k (step x u) us (v ++ e.front) e.back i t e.right)

    suffix_mono : (h k : Room) (x : E) (u : U) (w : List K) → Fitting s n h → Fitting s n k → Under h k → Suffix h x u w → Suffix k x u w
    suffix_mono h k x u w i j un a = after_mono suffix (ready x) (tall x) h k u w i j un a

    parts_mono : (h k : Room) (p : E × List U) (w : List K) → Fitting s n h → Fitting s n k → Under h k → Parts h p w → Parts k p w
    parts_mono h k p w i j un a = record {
      front = a.front;
      back = a.back;
      left = mono base.part h k p.0 a.front i un a.left;
      right = steps_map step (Suffix h) (Suffix k) (λ x u w e. suffix_mono h k x u w i j un e) p.0 p.1 a.back a.right;
      whole = a.whole;
    }

    module _ (fit : (k : Room) → Fitting s n k) where
      parts_of : (h : ℕ) (c : Bool) (t : E) (w : List K) → Level (at_height h c) t w → (p : E × List U) × (grown_to step p ≡ t) × Parts (at_height h c) p w
      parts_of h c t w (inl a) = ((t, []), refl, record { front = w; back = []; left = a; right = refl; whole = sym (append-nil w) })
      parts_of zero c t w (inr a) = absurd (G.none c a.0.0 a.2.1.front a.2.1.left)
      parts_of (suc h) c t w (inr a) =
          let x : E = a.0.0 in
          let u : U = a.0.1 in
          let j = a.2.1 in
          let r = parts_of h c x j.front (G.out h c x j.front j.left) in
          let p = r.0 in
          let q = parts_mono (at_height h c) (at_height (suc h) c) p j.front (fit (at_height h c)) (fit (at_height (suc h) c)) (omega arith, λ e. e) r.2 in
          let last : Suffix (at_height (suc h) c) x u j.back = after_in suffix (ready x) (tall x) (at_height (suc h) c) u j.back (fit (at_height (suc h) c)) a.2.0 (G.tall_is (at_height (suc h) c) x j.front (fit (at_height (suc h) c)) j.left) j.right in (
            (p.0, p.1 ++ u ∷ []),
            ups_snoc step p.0 p.1 u ∙ (ap (λ (x : E). step x u) r.1 ∙ a.1),
            record {
              front = q.front;
              back = q.back ++ j.back;
              left = q.left;
              right = steps_snoc step (Suffix (at_height (suc h) c)) p.0 p.1 u q.back j.back q.right (subst (λ (x : E). Suffix (at_height (suc h) c) x u j.back) (sym r.1) last);
              whole = j.whole ∙ (ap (λ (z : List K). z ++ j.back) q.whole ∙ append_assoc q.front q.back j.back);
            },
          )

      grown_made : (k : Room) → Made (grown_to step) (Parts k) (Level k)
      grown_made k = record {
        to = λ p w a. subst (λ (z : List K). Level k (grown_to step p) z) (sym a.whole) (to_by k p.0 p.1 a.front a.back (fit k) (inl a.left) a.right);
        from = λ t w a. parts_of k.height k.clashes t w a;
      }

      abbrev part_ends : E × List U → Option K → Bool
      part_ends (a, []) o = sb a o && not (head_is test o)
      part_ends (a, u ∷ us) o = row_stop test su (u ∷ us) o

      ends_by : (x : E) (u : U) (us : List U) (o : Option K) → sd (ups step (step x u) us) o ≡ row_stop test su (u ∷ us) o
      ends_by x u [] o = G.step_stop x u o
      ends_by x u (y ∷ ys) o = ends_by (step x u) y ys o

      ends_are : (k : Room) (p : E × List U) (w : List K) (o : Option K) → Parts k p w → sd (grown_to step p) o ≡ part_ends p o
      ends_are k (a, []) w o e = G.base_stop k a e.front o e.left
      ends_are k (a, u ∷ us) w o e = ends_by a u us o

      steps_exact : (k : Room) → Reading s n k → (a : E) → Reads (Steps step (Suffix k) a) (row_stop test su) (steps test step (λ x. guard (growth test (ready x) (tall x) k.height) (q k)) a)
      steps_exact k i a = steps_reads test step su (Suffix k) (λ x. guard (growth test (ready x) (tall x) k.height) (q k)) (λ x u w e. after_begins suffix (ready x) (tall x) k u w (fit k) e)
          (λ x u v w r e.
          let c = after_first suffix (ready (step x u)) (tall (step x u)) k v w (fit k) e in
          let g = head_some test (first (w ++ r)) (head-append test w r (after_begins suffix (ready (step x u)) (tall (step x u)) k v w (fit k) e)) in
          ap (su u) g.1 ∙ G.step_next x u g.0 c.3 g.2)
          (λ x. after_reads suffix (ready x) (tall x) k i) a

      parts_exact : (k : Room) → Reading s n k → Reads (Parts k) part_ends (bound (b k) (λ a. steps test step (λ x. guard (growth test (ready x) (tall x) k.height) (q k)) a))
      parts_exact k i = bound_reads_by (B k) (λ a. Steps step (Suffix k) a) sb (λ a. row_stop test su) (b k) (λ a. steps test step (λ x. guard (growth test (ready x) (tall x) k.height) (q k)) a) part_ends split join (base.part.reads k i) (steps_exact k i)
        where
          split : (a : E) (us : List U) (v r : List K) → Steps step (Suffix k) a us v → part_ends (a, us) (first r) ≡ true → (sb a (first (v ++ r)) ≡ true) × (row_stop test su us (first r) ≡ true)
          split a [] v r e st =
              let two = both_true (sb a (first r)) (not (head_is test (first r))) st in
              (subst (λ (v : List K). sb a (first (v ++ r)) ≡ true) (sym e) two.0, two.1)
          split a (u ∷ us) v r e st =
              let c = after_first suffix (ready a) (tall a) k u e.front (fit k) e.left in
              let g = head_some test (first (v ++ r)) (head-append test v r (subst (λ (z : List K). head_is test (first z) ≡ true) (sym e.whole) (head-append test e.front e.back (after_begins suffix (ready a) (tall a) k u e.front (fit k) e.left)))) in
              (ap (sb a) g.1 ∙ G.base_next a g.0 c.3 g.2, st)

          join : (a : E) (us : List U) (v r : List K) → Steps step (Suffix k) a us v → sb a (first (v ++ r)) ≡ true → row_stop test su us (first r) ≡ true → part_ends (a, us) (first r) ≡ true
          join a [] v r e x y = two_are (sb a (first r)) _ (subst (λ (v : List K). sb a (first (v ++ r)) ≡ true) e x) y
          join a (u ∷ us) v r e x y = y

      grown_reads : (k : Room) → Reading s n k → Reads (Level k) sd (level k)
      grown_reads k i = mapped_reads_by (grown_to step) (Parts k) (Level k) (grown_made k) part_ends sd _ (λ p w o a e. sym (ends_are k p w o a) ∙ e) (λ p w o a e. ends_are k p w o a ∙ e) (parts_exact k i)

    grown_refuses : (h : Room) → Refusing s n h → (v : List K) (e : Code × List K) → level h v ≡ Err e → Refuses Level level h v e
    grown_refuses h i v e j =
        let fit : (k : Room) → Fitting s n k = λ k. refused_fits s n h k i in
        let read : (k : Room) → Reading s n k = λ k. refused_reads s n h k i in
        mapped_refuses (grown_to step) Parts Level (λ k. bound (b k) (λ a. steps test step (λ x. guard (growth test (ready x) (tall x) k.height) (q k)) a)) (λ k. grown_made fit k) h v e
        (bound_refuses B (λ k a. Steps step (Suffix k) a) sb b (λ k a. steps test step (λ x. guard (growth test (ready x) (tall x) k.height) (q k)) a) (λ k. base.part.reads k (read k))
        (λ h' k t w u a. mono base.part h' k t w (fit h') u a)
        (λ h' k a us w u e. steps_map step (Suffix h') (Suffix k) (λ x y w e. suffix_mono h' k x y w (fit h') (fit k) u e) a us w e) h (λ a. no_step step (Suffix h) a) (base.part.refuses h i (omega arith))
        (λ a. steps_refuses test step su (λ k x. Suffix k x) (λ k x. guard (growth test (ready x) (tall x) k.height) (q k)) (λ k x u w e. after_begins suffix (ready x) (tall x) k u w (fit k) e)
        (λ h' k x u w un e. suffix_mono h' k x u w (fit h') (fit k) un e) (λ k x. after_reads suffix (ready x) (tall x) k (read k)) a h
        (λ x v e j. after_refuses suffix (ready x) (tall x) h i (G.room x) v e j)) v e) j

    pub growing : Phrase s n 1 Level level sd te lb 0 testb eb
    growing = record {
      part = record {
        above = level_above;
        least = level_least;
        lowest = λ k t w i a. low_by k t w i a;
        fits = level_fits;
        some = λ h i le. let v = base.part.some h i le in record { tree = v.tree; more = v.more; derives = inl v.derives };
        reads = λ k i. grown_reads (λ m. read_fits s n k m i) k i;
        refuses = λ h i le v e j. grown_refuses h i v e j;
      };
      opening = record {
        begins = λ k t w i a. begin_by k t w i a;
        starts = λ h c i le e. let v = base.opening.starts h c i le e in record { tree = v.tree; more = v.more; derives = inl v.derives };
        bars = λ k v i e. rw (base.opening.bars k v i e) refl;
      };
    }
      where
        low_by : (k : Room) (t : E) (w : List K) → Fitting s n k → Level k t w → lb ≤ k.height
        low_by k t w i (inl a) = base.part.lowest k t w i a
        low_by k t w i (inr a) = let x = whole.part.lowest k a.0.0 a.2.1.front i a.2.1.left in let y = G.low in omega arith

        begin_by : (k : Room) (t : E) (w : List K) → Fitting s n k → Level k t w → head_is testb (first w) ≡ true
        begin_by k t w i (inl a) = base.opening.begins k t w i a
        begin_by k t w i (inr a) = let j = a.2.1 in subst (λ (z : List K). head_is testb (first z) ≡ true) (sym j.whole) (head-append testb j.front j.back (whole.opening.begins k a.0.0 j.front i j.left))
