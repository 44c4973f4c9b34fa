-- Items that depend on those before them, up to a token that may depend on them too, are read exactly.
use Rattle.std.proofs.Common.{◌≡◌, ℕ, ◌≤◌, Bool, true, false, List, [], ◌∷◌, ◌++◌, Option, Some, Ok, Err, refl, sym, ap, subst, ◌∙◌, arith, append_assoc, inl, inr}
use Rattle.std.proofs.lemmas.List.{append-nil}
use Rattle.readers.specs.declared.code.Code.{Code}
use Rattle.readers.specs.Reader.{first, head_is, Reader, ◌>>=◌, mapped, bound, steps}
use Rattle.readers.specs.Language.{Bound, Viable, Steps}
use Rattle.readers.specs.Room.{Room, Under}
use Rattle.readers.specs.Infix.{ups}
use Rattle.readers.specs.Exact.{Reads, Refuses, always, row_stop}
use Rattle.readers.proofs.Bundle.{Known, Fitting, Reading, Refusing, read_fits, refused_fits, refused_reads, Part, Phrase, mono}
use Rattle.readers.proofs.Outcome.{head_some, head-append, eased_under, first-append, err_of, not_both, alike_le}
use Rattle.readers.proofs.Row.{row_stop_if}
use Rattle.readers.proofs.Mapped.{Made, mapped_reads_by, mapped_refuses}
use Rattle.readers.proofs.Dependent.{bound_reads_by, viable_right}
use Rattle.readers.proofs.Steps.{steps_reads, steps_refuses, steps_map}

-- ---- a phrase and one that may depend on its tree, where a front of the first is known to have some second one

module _ {K S T : Type 0} (D : Room → S → List K → Type 0) (E : Room → S → T → List K → Type 0) (sd : S → Option K → Bool) (p : Room → Reader K S) (q : Room → S → Reader K T)
    (P : (k : Room) → Reads (D k) sd (p k)) (mono_d : (h k : Room) (x : S) (w : List K) → Under h k → D h x w → D k x w) (full : (k : Room) (u : List K) → Viable (D k) u → Viable (Bound (D k) (E k)) u) where
  all_of : (h : Room) (x : S) (w : List K) → D h x w → Viable (Bound (D h) (E h)) w
  all_of h x w d = full h w (record { tree = x; more = []; derives = subst (λ (z : List K). D h x z) (sym (append-nil w)) d })

  pub closing_refuses : (h : Room) → ((s : List K) (e : Code × List K) → p h s ≡ Err e → Refuses D p h s e)
      → ((x : S) (s : List K) (e : Code × List K) → q h x s ≡ Err e → Refuses (λ k. E k x) (λ k. q k x) h s e)
      → (s : List K) (e : Code × List K) → bound (p h) (q h) s ≡ Err e → Refuses (λ k. Bound (D k) (E k)) (λ k. bound (p k) (q k)) h s e
  closing_refuses h fp fq s e i =
      elim (err_of (p h s) (λ x. q h x.0 x.1 >>= λ y. Ok ((x.0, y.0), y.1)) e i) [
        | inl a ↦
            let f = fp s e a in
            record {
              read = f.read;
              parts = f.parts;
              viable = elim f.viable [ inl z ↦ inl z | inr v ↦ inr (full h f.read v) ];
              local = λ k r al b. rw (f.local k r al b) refl;
              deep = λ dp. let d = f.deep dp in record { room = d.room; eased = d.eased; token = d.token; is = d.is; viable = full d.room (f.read ++ d.token ∷ []) d.viable };
            }
        | inr a ↦
            elim (err_of (q h a.0.0 a.0.1) (λ y. Ok ((a.0.0, y.0), y.1)) e a.2) [
              | inl b ↦
                  let f = (P h).sound s a.0 a.1 in
                  let g = fq a.0.0 a.0.1 e b in
                  record {
                    read = f.read ++ g.read;
                    parts = f.parts ∙ ap (λ (z : List K). f.read ++ z) g.parts ∙ sym (append_assoc f.read g.read e.1);
                    viable = inr (elim g.viable [
                      | inl z ↦ subst (Viable (Bound (D h) (E h))) (sym (ap (λ (z : List K). f.read ++ z) z ∙ append-nil f.read)) (all_of h a.0.0 f.read f.derives)
                      | inr v ↦ viable_right (D h) (E h) a.0.0 f.read g.read f.derives v
                    ]);
                    local = λ k r al c.
                        ap (bound (p k) (q k)) (append_assoc f.read g.read r)
                        ∙ rw ((P k).complete a.0.0 f.read (g.read ++ r) (mono_d h k a.0.0 f.read (alike_le e.0 h k al) f.derives)
                        (ap (sd a.0.0) (first-append g.read r e.1 c ∙ ap first (sym g.parts)) ∙ f.stops)) (rw (g.local k r al c) refl);
                    deep = λ dp. let d = g.deep dp in record {
                      room = d.room;
                      eased = d.eased;
                      token = d.token;
                      is = d.is;
                      viable = subst (Viable (Bound (D d.room) (E d.room))) (sym (append_assoc f.read g.read (d.token ∷ [])))
                          (viable_right (D d.room) (E d.room) a.0.0 f.read (g.read ++ d.token ∷ []) (mono_d h d.room a.0.0 f.read (eased_under e.0 h d.room d.eased) f.derives) d.viable);
                    };
                  }
              | inr b ↦ not_both ((a.0.0, b.0.0), b.0.1) e b.2
            ]
      ]

-- ---- the items and the token

module _ {K X U V T : Type 0} {s : Known} {n : ℕ} (start : X) (step : X → U → X) (test close : K → Bool)
    {F : Room → X → U → List K → Type 0} {f : Room → X → Reader K U} {su : U → Option K → Bool} {ti : X → U → ℕ} {li ei : X → ℕ} (item : (x : X) → Phrase s n 0 (λ k. F k x) (λ k. f k x) su (ti x) (li x) 0 test (ei x))
    {E : Room → X → V → List K → Type 0} {q : Room → X → Reader K V} {te : X → V → ℕ} {le ee : X → ℕ} (end : (x : X) → Phrase s n 0 (λ k. E k x) (λ k. q k x) always (te x) (le x) 0 close (ee x))
    (finish : List U × V → T) (L : Room → T → List K → Type 0) (tall : T → ℕ) where
  abbrev pub Items : Room → List U → List K → Type 0
  Items k = Steps step (F k) start

  abbrev pub Ending : Room → List U → V → List K → Type 0
  Ending k us = E k (ups step start us)

  abbrev pub closing : Room → Reader K T
  closing k = mapped finish (bound (steps test step (f k) start) (λ us. q k (ups step start us)))

  -- what is asked of the trees that are made, and of what stops them
  pub record Closes : Type 0 where
    pub made : ((k : Room) → Fitting s n k) → (k : Room) → Made finish (Bound (Items k) (Ending k)) (L k)
    pub full : (k : Room) (u : List K) → Fitting s n k → Viable (Items k) u → Viable (Bound (Items k) (Ending k)) u
    pub least : (k : Room) (t : T) (w : List K) → Fitting s n k → L k t w → tall t ≤ k.height
    pub fits : (h k : Room) (t : T) (w : List K) → Fitting s n h → (h.clashes ≡ true → k.clashes ≡ true) → tall t ≤ k.height → L h t w → L k t w
    pub some : (k : Room) → Viable (L k) []
    pub item_next : (u : U) (c : K) → test c ≡ true → su u (Some c) ≡ true
    pub item_ends : (u : U) (c : K) → close c ≡ true → su u (Some c) ≡ true
    pub other : (c : K) → close c ≡ true → test c ≡ false

  module _ (G : Closes) where
    begun : (k : Room) (x : X) (u : U) (w : List K) → Fitting s n k → F k x u w → head_is test (first w) ≡ true
    begun k x u w i d = let I = item x in I.opening.begins k u w i d

    lifts : (h k : Room) (x : X) (u : U) (w : List K) → Fitting s n h → Under h k → F h x u w → F k x u w
    lifts h k x u w i un d = let I = item x in mono I.part h k u w i un d

    item_reads : (k : Room) → Reading s n k → (x : X) → Reads (F k x) su (f k x)
    item_reads k i x = let I = item x in I.part.reads k i

    items_read : (k : Room) → Reading s n k → Reads (Items k) (row_stop test su) (steps test step (f k) start)
    items_read k i = steps_reads test step su (F k) (f k) (λ x u w d. begun k x u w (read_fits s n k k i) d)
        (λ x u v w r d.
        let g = head_some test (first (w ++ r)) (head-append test w r (begun k (step x u) v w (read_fits s n k k i) d)) in
        ap (su u) g.1 ∙ G.item_next u g.0 g.2) (item_reads k i) start

    all_read : (k : Room) → Reading s n k → Reads (Bound (Items k) (Ending k)) always (bound (steps test step (f k) start) (λ us. q k (ups step start us)))
    all_read k i = bound_reads_by (Items k) (Ending k) (row_stop test su) (λ us. always) (steps test step (f k) start) (λ us. q k (ups step start us)) always
        (λ us y v r d e.
        let I = end (ups step start us) in
        let g = head_some close (first (v ++ r)) (head-append close v r (I.opening.begins k y v (read_fits s n k k i) d)) in
        (ap (row_stop test su us) g.1 ∙ row_stop_if test su us (Some g.0) (G.other g.0 g.2) (λ u. G.item_ends u g.0 g.2), refl))
        (λ us y v r d a b. refl) (items_read k i) (λ us. let I = end (ups step start us) in I.part.reads k i)

    closing_reads : (k : Room) → Reading s n k → Reads (L k) always (closing k)
    closing_reads k i = mapped_reads_by finish (Bound (Items k) (Ending k)) (L k) (G.made (λ m. read_fits s n k m i) k) always always _ (λ p w o a e. refl) (λ p w o a e. refl) (all_read k i)

    refuse : (h : Room) → Refusing s n h → (v : List K) (e : Code × List K) → closing h v ≡ Err e → Refuses L closing h v e
    refuse h i v e j =
        let fit : (k : Room) → Fitting s n k = λ k. refused_fits s n h k i in
        let read : (k : Room) → Reading s n k = λ k. refused_reads s n h k i in
        mapped_refuses finish (λ k. Bound (Items k) (Ending k)) L (λ k. bound (steps test step (f k) start) (λ us. q k (ups step start us))) (λ k. G.made fit k) h v e
        (closing_refuses Items Ending (row_stop test su) (λ k. steps test step (f k) start) (λ k us. q k (ups step start us)) (λ k. items_read k (read k))
        (λ h' k us w u d. steps_map step (F h') (F k) (λ x y w d. lifts h' k x y w (fit h') u d) start us w d) (λ k u a. G.full k u (fit k) a) h
        (steps_refuses test step su F f (λ k x u w d. begun k x u w (fit k) d) (λ h' k x u w un d. lifts h' k x u w (fit h') un d) (λ k x. item_reads k (read k) x) start h
        (λ x v e j. let I = item x in I.part.refuses h i (omega arith) v e j))
        (λ us v e j. let I = end (ups step start us) in I.part.refuses h i (omega arith) v e j) v e) j

    pub closed_part : Part s n 0 L closing always tall 0 0
    closed_part = record {
      above = λ k t w i d. omega arith;
      least = λ k t w i d. let a = G.least k t w i d in omega (arith, a);
      lowest = λ k t w i d. omega arith;
      fits = λ h k t w i b l d. G.fits h k t w i b (omega (arith, l)) d;
      some = λ h i l. G.some h;
      reads = λ k i. closing_reads k i;
      refuses = λ h i l v e j. refuse h i v e j;
    }
