-- What holds of rows follows from their items.
use Rattle.std.proofs.Common.{◌≡◌, ◌⊎◌, ℕ, zero, suc, ◌+◌, ◌≤◌, max, if◌then◌else◌, Bool, true, false, not, ◌&&◌, List, [], ◌∷◌, ◌++◌, Option, Some, None, Result, Ok, Err, refl, sym, ap, subst, ◌∙◌, arith, append_assoc, append-nil, inl, inr}
use Rattle.readers.specs.declared.code.Code.{Code}
use Rattle.readers.specs.declared.code.Code.TheVariants.{Grammar}
use Rattle.readers.specs.Reader.{first, head_is, Reader, mapped, both, bound, skip, row, steps, guard, unless, barred}
use Rattle.readers.specs.Language.{Joined, Both, Bound, Viable, As, Row, Steps, Skip}
use Rattle.readers.specs.Room.{Room, Under, at_height}
use Rattle.readers.specs.Exact.{Found, Reads, Refuses, row_stop}
use Rattle.readers.specs.Forms.{highest, cons_of, Seps, seps, latest, Further, further, Ready, ready_read}
use Rattle.readers.proofs.Bundle.{Known, Fitting, Reading, Refusing, read_fits, refused_fits, refused_reads, Part, Opening, Phrase, mono}
use Rattle.readers.proofs.Combine.{pair_by, pair_opens, made, made_opens, skipped}
use Rattle.readers.proofs.Outcome.{head_some, head-append}
use Rattle.readers.proofs.Row.{both_true, not_true, not_false, row_reads, row_refuses}
use Rattle.readers.proofs.Steps.{steps_reads, steps_refuses}
use Rattle.readers.proofs.Dependent.{bound_reads_by, bound_refuses}

-- ---- items one after another

row_high : {K T : Type 0} (tall : T → ℕ) (D : T → List K → Type 0) (m : ℕ) → ((t : T) (w : List K) → D t w → tall t ≤ m) → (ts : List T) (w : List K) → Row D ts w → highest tall ts ≤ m
row_high tall D m g [] w d = omega arith
row_high tall D m g (x ∷ xs) w d = let a = g x d.front d.left in let b = row_high tall D m g xs d.back d.right in omega arith

row_moved : {K T : Type 0} (tall : T → ℕ) (D E : T → List K → Type 0) (m : ℕ) → ((t : T) (w : List K) → tall t ≤ m → D t w → E t w) → (ts : List T) (w : List K) → highest tall ts ≤ m → Row D ts w → Row E ts w
row_moved tall D E m g [] w l d = d
row_moved tall D E m g (x ∷ xs) w l d = record { front = d.front; back = d.back; left = g x d.front (omega arith) d.left; right = row_moved tall D E m g xs d.back (omega arith) d.right; whole = d.whole }

head_next : {K : Type 0} (test : K → Bool) (stop : Option K → Bool) → ((c : K) → test c ≡ true → stop (Some c) ≡ true) → (o : Option K) → head_is test o ≡ true → stop o ≡ true
head_next test stop f o e = let c = head_some test o e in ap stop c.1 ∙ f c.0 c.2

module _ {K T : Type 0} {s : Known} {n : ℕ} {D : Room → T → List K → Type 0} {p : Room → Reader K T} {sd : T → Option K → Bool} {td : T → ℕ} {ld nd : ℕ} {test : K → Bool} {ed : ℕ} (P : Phrase s n 0 D p sd td ld nd test ed)
    (next : (t : T) (c : K) → test c ≡ true → sd t (Some c) ≡ true) where
  pub rows : Part s n 0 (λ k. Row (D k)) (λ k. row test (p k)) (row_stop test sd) (highest td) 0 nd
  rows = record {
    above = λ k t w i d. omega arith;
    least = λ k t w i d. row_high td (D k) (0 + k.height) (λ t w d. P.part.least k t w i d) t w d;
    lowest = λ k t w i d. omega arith;
    fits = λ h k t w i b l d. row_moved td (D h) (D k) (0 + k.height) (λ t w l d. P.part.fits h k t w i b l d) t w l d;
    some = λ h i l. record { tree = []; more = []; derives = refl };
    reads = λ k i. row_reads test sd (D k) (λ t w d. P.opening.begins k t w (read_fits s n k k i) d) (λ t o e. head_next test (sd t) (next t) o e) (p k) (P.part.reads k i);
    refuses = λ h i l v e j. row_refuses test sd D (λ k t w d. P.opening.begins k t w (refused_fits s n h k i) d) (λ h' k t w u d. mono P.part h' k t w (refused_fits s n h h' i) u d) p (λ k. P.part.reads k (refused_reads s n h k i)) h
        (P.part.refuses h i l) v e j;
  }

-- ---- a row with a token between

module _ {K T : Type 0} (sep : K → Bool) (sd : T → Option K → Bool) (E : T → List K → Type 0) (begins : (t : T) (w : List K) → E t w → head_is sep (first w) ≡ true)
    (next : (t : T) (c : K) → sep c ≡ true → sd t (Some c) ≡ true) where
  splits : (x : T) (ys : List T) (v r : List K) → Row E ys v → row_stop sep sd (x ∷ ys) (first r) ≡ true → (sd x (first (v ++ r)) ≡ true) × (row_stop sep sd ys (first r) ≡ true)
  splits x [] v r d e =
      let two = both_true (sd x (first r)) (not (head_is sep (first r))) e in
      (subst (λ (v : List K). sd x (first (v ++ r)) ≡ true) (sym d) two.0, two.1)
  splits x (y ∷ ys) v r d e = (
    subst (λ (v : List K). sd x (first (v ++ r)) ≡ true) (sym d.whole)
        (head_next sep (sd x) (next x) (first ((d.front ++ d.back) ++ r)) (head-append sep (d.front ++ d.back) r (head-append sep d.front d.back (begins y d.front d.left)))),
    e,
  )

  joins : (x : T) (ys : List T) (v r : List K) → Row E ys v → sd x (first (v ++ r)) ≡ true → row_stop sep sd ys (first r) ≡ true → row_stop sep sd (x ∷ ys) (first r) ≡ true
  joins x [] v r d i e =
      let i' : sd x (first r) ≡ true = subst (λ (v : List K). sd x (first (v ++ r)) ≡ true) d i in
      rw i' e
  joins x (y ∷ ys) v r d i e = e

module _ {K T : Type 0} {s : Known} {n : ℕ} {D : Room → T → List K → Type 0} {p : Room → Reader K T} {sd : T → Option K → Bool} {td : T → ℕ} {ld nd : ℕ} (sep : K → Bool) (c : K) (e : sep c ≡ true)
    (P : Part s n 0 D p sd td ld nd) (next : (t : T) (c : K) → sep c ≡ true → sd t (Some c) ≡ true) where
  S : Phrase s n 0 (λ k. Skip sep (D k)) (λ k. skip sep (p k)) sd td ld (max ld nd) sep ld
  S = skipped sep c e P

  pub apart : Part s n 0 (λ k. Seps sep (D k)) (λ k. seps sep (p k)) (row_stop sep sd) (highest td) (max ld 0) (max nd (max (max ld nd) 0))
  apart = made cons_of (highest td) (row_stop sep sd)
      (pair_by P (rows S next) (λ x. row_stop sep sd (x.0 ∷ x.1))
      (λ k x y v r i d j. splits sep sd (Skip sep (D k)) (λ t w d. S.opening.begins k t w i d) next x y v r d j)
      (λ k x y v r i d a b. joins sep sd (Skip sep (D k)) (λ t w d. S.opening.begins k t w i d) next x y v r d a b))
      (λ x. refl) (λ x o. refl)

pub apart_phrase : {K T : Type 0} {s : Known} {n : ℕ} {D : Room → T → List K → Type 0} {p : Room → Reader K T} {sd : T → Option K → Bool} {td : T → ℕ} {ld nd : ℕ} {test : K → Bool} {ed : ℕ} (sep : K → Bool) (c : K) → sep c ≡ true
    → Phrase s n 0 D p sd td ld nd test ed → ((t : T) (c : K) → sep c ≡ true → sd t (Some c) ≡ true) → Phrase s n 0 (λ k. Seps sep (D k)) (λ k. seps sep (p k)) (row_stop sep sd) (highest td) (max ld 0) (max nd (max (max ld nd) 0)) test (max ed 0)
apart_phrase sep c e P next = record { part = apart sep c e P.part next; opening = made_opens cons_of (pair_opens P.opening (rows (skipped sep c e P.part) next)) }

-- ---- items that depend on those before them

steps_high : {K X U : Type 0} (tall : U → ℕ) (step : X → U → X) (D : X → U → List K → Type 0) (m : ℕ) → ((x : X) (t : U) (w : List K) → D x t w → tall t ≤ m) → (x : X) (ts : List U) (w : List K) → Steps step D x ts w → highest tall ts ≤ m
steps_high tall step D m g x [] w d = omega arith
steps_high tall step D m g x (y ∷ ys) w d = let a = g x y d.front d.left in let b = steps_high tall step D m g (step x y) ys d.back d.right in omega arith

steps_moved : {K X U : Type 0} (tall : U → ℕ) (step : X → U → X) (D E : X → U → List K → Type 0) (m : ℕ) → ((x : X) (t : U) (w : List K) → tall t ≤ m → D x t w → E x t w) → (x : X) (ts : List U) (w : List K) → highest tall ts ≤ m → Steps step D x ts w → Steps step E x ts w
steps_moved tall step D E m g x [] w l d = d
steps_moved tall step D E m g x (y ∷ ys) w l d = record { front = d.front; back = d.back; left = g x y d.front (omega arith) d.left; right = steps_moved tall step D E m g (step x y) ys d.back (omega arith) d.right; whole = d.whole }

-- all that is asked of such items
pub record Turns {K X U : Type 0} (s : Known) (n : ℕ) (D : Room → X → U → List K → Type 0) (p : Room → X → Reader K U) (stop : U → Option K → Bool) (tall : U → ℕ) (need : ℕ) (test : K → Bool) : Type 0 where
  pub least : (k : Room) (x : X) (t : U) (w : List K) → Fitting s n k → D k x t w → tall t ≤ k.height
  pub fits : (h k : Room) (x : X) (t : U) (w : List K) → Fitting s n h → (h.clashes ≡ true → k.clashes ≡ true) → tall t ≤ k.height → D h x t w → D k x t w
  pub begins : (k : Room) (x : X) (t : U) (w : List K) → Fitting s n k → D k x t w → head_is test (first w) ≡ true
  pub reads : (k : Room) (x : X) → Reading s n k → Reads (D k x) stop (p k x)
  pub refuses : (h : Room) (x : X) → Refusing s n h → need ≤ h.height → (v : List K) (e : Code × List K) → p h x v ≡ Err e → Refuses (λ k. D k x) (λ k. p k x) h v e

pub turns : {K X U : Type 0} {s : Known} {n : ℕ} {D : Room → X → U → List K → Type 0} {p : Room → X → Reader K U} {stop : U → Option K → Bool} {tall : U → ℕ} {low need : ℕ} {test : K → Bool} {enough : ℕ}
    → ((x : X) → Phrase s n 0 (λ k. D k x) (λ k. p k x) stop tall low need test enough) → Turns s n D p stop tall need test
turns P = record {
  least = λ k x t w i d. let P' = P x in let a = P'.part.least k t w i d in omega arith;
  fits = λ h k x t w i b l d. let P' = P x in P'.part.fits h k t w i b (omega arith) d;
  begins = λ k x t w i d. let P' = P x in P'.opening.begins k t w i d;
  reads = λ k x i. let P' = P x in P'.part.reads k i;
  refuses = λ h x i l v e j. let P' = P x in P'.part.refuses h i l v e j;
}

module _ {K X U : Type 0} {s : Known} {n : ℕ} {D : Room → X → U → List K → Type 0} {p : Room → X → Reader K U} {sd : U → Option K → Bool} {td : U → ℕ} {nd : ℕ} {test : K → Bool} (step : X → U → X) (P : Turns s n D p sd td nd test)
    (next : (k : Room) (x : X) (u v : U) (w r : List K) → Fitting s n k → D k (step x u) v w → sd u (first (w ++ r)) ≡ true) where
  pub stepped : (x : X) → Part s n 0 (λ k. Steps step (D k) x) (λ k. steps test step (p k) x) (row_stop test sd) (highest td) 0 nd
  stepped x = record {
    above = λ k t w i d. omega arith;
    least = λ k t w i d. let a = steps_high td step (D k) k.height (λ x t w d. P.least k x t w i d) x t w d in omega arith;
    lowest = λ k t w i d. omega arith;
    fits = λ h k t w i b l d. steps_moved td step (D h) (D k) k.height (λ x t w l d. P.fits h k x t w i b l d) x t w (omega arith) d;
    some = λ h i l. record { tree = []; more = []; derives = refl };
    reads = λ k i. steps_reads test step sd (D k) (p k) (λ x u w d. P.begins k x u w (read_fits s n k k i) d) (λ x u v w r d. next k x u v w r (read_fits s n k k i) d) (λ x. P.reads k x i) x;
    refuses = λ h i l v e j. steps_refuses test step sd D p (λ k x t w d. P.begins k x t w (refused_fits s n h k i) d)
        (λ h' k x t w u d. let f = refused_fits s n h h' i in let a = P.least h' x t w f d in let b = u.0 in P.fits h' k x t w f u.1 (omega arith) d) (λ k x. P.reads k x (refused_reads s n h k i)) x h
        (λ x v e j. P.refuses h x i l v e j) v e j;
  }

-- ---- a phrase, and one that depends on its tree

module _ {K S T : Type 0} {s : Known} {n : ℕ} {D : Room → S → List K → Type 0} {p : Room → Reader K S} {sd : S → Option K → Bool} {td : S → ℕ} {ld nd : ℕ}
    {E : Room → S → T → List K → Type 0} {q : Room → S → Reader K T} {se : T → Option K → Bool} {te : T → ℕ} {le ne : ℕ} where
  pub bind_by : Part s n 0 D p sd td ld nd → ((x : S) → Part s n 0 (λ k. E k x) (λ k. q k x) se te le ne) → (st : S × T → Option K → Bool)
      → ((k : Room) (x : S) (y : T) (v r : List K) → Fitting s n k → E k x y v → st (x, y) (first r) ≡ true → (sd x (first (v ++ r)) ≡ true) × (se y (first r) ≡ true))
      → ((k : Room) (x : S) (y : T) (v r : List K) → Fitting s n k → E k x y v → sd x (first (v ++ r)) ≡ true → se y (first r) ≡ true → st (x, y) (first r) ≡ true)
      → Part s n 0 (λ k. Bound (D k) (E k)) (λ k. bound (p k) (q k)) st (λ x. max (td x.0) (te x.1)) (max ld le) (max nd (max ne le))
  bind_by P Q st split join = record {
    above = λ k t w i d. omega arith;
    least = λ k t w i d. let Q' = Q t.0 in let a = P.least k t.0 d.front i d.left in let b = Q'.least k t.1 d.back i d.right in omega arith;
    lowest = λ k t w i d. let Q' = Q t.0 in let a = P.lowest k t.0 d.front i d.left in let b = Q'.lowest k t.1 d.back i d.right in omega arith;
    fits = λ h k t w i b l d. let Q' = Q t.0 in record { front = d.front; back = d.back; left = P.fits h k t.0 d.front i b (omega arith) d.left; right = Q'.fits h k t.1 d.back i b (omega arith) d.right; whole = d.whole };
    some = λ h i l.
        let a = P.some h i (omega arith) in
        let Q' = Q a.tree in
        let b = Q'.some h i (omega arith) in
        record { tree = (a.tree, b.tree); more = a.more ++ b.more; derives = record { front = a.more; back = b.more; left = a.derives; right = b.derives; whole = refl } };
    reads = λ k i. bound_reads_by (D k) (E k) sd (λ x. se) (p k) (q k) st (λ x y v r. split k x y v r (read_fits s n k k i)) (λ x y v r. join k x y v r (read_fits s n k k i)) (P.reads k i) (λ x. let Q' = Q x in Q'.reads k i);
    refuses = λ h i l v e j. bound_refuses D E sd p q (λ k. P.reads k (refused_reads s n h k i)) (λ h' k t w u d. mono P h' k t w (refused_fits s n h h' i) u d) (λ h' k x t w u d. mono (Q x) h' k t w (refused_fits s n h h' i) u d)
        h (λ x. let Q' = Q x in Q'.some h (refused_fits s n h h i) (omega arith)) (P.refuses h i (omega arith)) (λ x. let Q' = Q x in Q'.refuses h i (omega arith)) v e j;
  }

-- ---- a row with a token between, where each but the last may stand before it

abbrev the_answer : {K : Type 0} (T : Type 0) → Code × List K → Result (T × List K) (Code × List K)
the_answer T e = Err e

granted_reads : {K T : Type 0} (b : Bool) (D : T → List K → Type 0) (sd : T → Option K → Bool) (p : Reader K T) → p [] ≡ Err (Grammar, []) → Reads D sd p → Reads (λ t w. (b ≡ true) × D t w) sd (guard (λ c. if b then None else Some Grammar) p)
granted_reads {K} {T} true D sd p empty P = record { complete = full; sound = right }
  where
    same : (v : List K) → guard (λ c. None) p v ≡ p v
    same [] = sym empty
    same (c ∷ v) = refl

    full : (t : T) (w r : List K) → (true ≡ true) × D t w → sd t (first r) ≡ true → guard (λ c. None) p (w ++ r) ≡ Ok (t, r)
    full t w r d st = same (w ++ r) ∙ P.complete t w r d.1 st

    right : (v : List K) (z : T × List K) → guard (λ c. None) p v ≡ Ok z → Found (λ t w. (true ≡ true) × D t w) sd v z
    right v z e = let f = P.sound v z (sym (same v) ∙ e) in record { read = f.read; derives = (refl, f.derives); parts = f.parts; stops = f.stops }
granted_reads {K} {T} false D sd p empty P = record { complete = λ t w r d st. let no : false ≡ true = d.0 in absurd cc; sound = right }
  where
    right : (v : List K) (z : T × List K) → guard (λ c. Some Grammar) p v ≡ Ok z → Found (λ t w. (false ≡ true) × D t w) sd v z
    right [] z e = absurd cc
    right (c ∷ v) z e = absurd cc

granted_refuses : {K T : Type 0} (b : Bool) (D : Room → T → List K → Type 0) (p : Room → Reader K T) (h : Room) → ((k : Room) → p k [] ≡ Err (Grammar, [])) → ((v : List K) (e : Code × List K) → p h v ≡ Err e → Refuses D p h v e)
    → (v : List K) (e : Code × List K) → guard (λ c. if b then None else Some Grammar) (p h) v ≡ Err e → Refuses (λ k t w. (b ≡ true) × D k t w) (λ k. guard (λ c. if b then None else Some Grammar) (p k)) h v e
granted_refuses {K} true D p h empty f v e j =
    let g = f v e (sym (same h v) ∙ j) in
    record {
      read = g.read;
      parts = g.parts;
      viable = elim g.viable [ inl z ↦ inl z | inr x ↦ inr (record { tree = x.tree; more = x.more; derives = (refl, x.derives) }) ];
      local = λ k q al o. same k (g.read ++ q) ∙ g.local k q al o;
      deep = λ dp. let d = g.deep dp in let x = d.viable in record { room = d.room; eased = d.eased; token = d.token; is = d.is; viable = record { tree = x.tree; more = x.more; derives = (refl, x.derives) } };
    }
  where
    same : (k : Room) (v : List K) → guard (λ c. None) (p k) v ≡ p k v
    same k [] = sym (empty k)
    same k (c ∷ v) = refl
granted_refuses {K} {T} false D p h empty f v e j =
    subst (λ (e : Code × List K). Refuses (λ k t w. (false ≡ true) × D k t w) (λ k. guard (λ c. Some Grammar) (p k)) h v e) (is_err e (sym (never h v) ∙ j)) (record {
      read = [];
      parts = refl;
      viable = inl refl;
      local = λ k q al o. never k q;
      deep = λ dp. absurd (dp refl);
    })
  where
    never : (k : Room) (v : List K) → guard (λ c. Some Grammar) (p k) v ≡ Err (Grammar, v)
    never k [] = refl
    never k (c ∷ v) = refl

    is_err : (e : Code × List K) → the_answer T (Grammar, v) ≡ the_answer T e → (Grammar, v) ≡ e
    is_err e j = cc

module _ {K T : Type 0} {s : Known} {n : ℕ} {D : Room → T → List K → Type 0} {p : Room → Reader K T} {sd : T → Option K → Bool} {td : T → ℕ} {ld nd : ℕ} (sep : K → Bool) (c : K) (e : sep c ≡ true) (ready : T → Bool)
    (P : Part s n 0 D p sd td ld nd) (next : (t : T) (c : K) → ready t ≡ true → sep c ≡ true → sd t (Some c) ≡ true) where
  A : Phrase s n 0 (λ k. Skip sep (D k)) (λ k. skip sep (p k)) sd td ld (max ld nd) sep ld
  A = skipped sep c e P

  more_turns : Turns s n (λ k. Further sep ready (D k)) (λ k. further sep ready (p k)) sd td (max ld nd) sep
  more_turns = record {
    least = λ k x t w i d. let a = A.part.least k t w i d.1 in omega arith;
    fits = λ h k x t w i b l d. (d.0, A.part.fits h k t w i b (omega arith) d.1);
    begins = λ k x t w i d. A.opening.begins k t w i d.1;
    reads = λ k x i. granted_reads (ready x) (Skip sep (D k)) sd (skip sep (p k)) refl (A.part.reads k i);
    refuses = λ h x i l v e j. granted_refuses (ready x) (λ k. Skip sep (D k)) (λ k. skip sep (p k)) h (λ k. refl) (λ v e j. A.part.refuses h i l v e j) v e j;
  }

  further_first : (k : Room) (x : T) (u : T) (w r : List K) → Fitting s n k → Further sep ready (D k) x u w → sd x (first (w ++ r)) ≡ true
  further_first k x u w r i d =
      let g = head_some sep (first (w ++ r)) (head-append sep w r (A.opening.begins k u w i d.1)) in
      ap (sd x) g.1 ∙ next x g.0 d.0 g.2

  pub ready_rows : Part s n 0 (λ k. Ready sep ready (D k)) (λ k. ready_read sep ready (p k)) (row_stop sep sd) (highest td) (max ld 0) (max nd (max (max ld nd) 0))
  ready_rows = made cons_of (highest td) (row_stop sep sd)
      (bind_by P (λ x. stepped latest more_turns (λ k x u v w r i d. further_first k u v w r i d) x) (λ x. row_stop sep sd (x.0 ∷ x.1)) split join)
      (λ x. refl) (λ x o. refl)
    where
      split : (k : Room) (x : T) (ys : List T) (v r : List K) → Fitting s n k → Steps latest (Further sep ready (D k)) x ys v → row_stop sep sd (x ∷ ys) (first r) ≡ true → (sd x (first (v ++ r)) ≡ true) × (row_stop sep sd ys (first r) ≡ true)
      split k x [] v r i d e =
          let two = both_true (sd x (first r)) (not (head_is sep (first r))) e in
          (subst (λ (v : List K). sd x (first (v ++ r)) ≡ true) (sym d) two.0, two.1)
      split k x (y ∷ ys) v r i d e = (
        subst (λ (v : List K). sd x (first (v ++ r)) ≡ true) (sym d.whole)
            (ap (λ (z : List K). sd x (first z)) (append_assoc d.front d.back r) ∙ further_first k x y d.front (d.back ++ r) i d.left),
        e,
      )

      join : (k : Room) (x : T) (ys : List T) (v r : List K) → Fitting s n k → Steps latest (Further sep ready (D k)) x ys v → sd x (first (v ++ r)) ≡ true → row_stop sep sd ys (first r) ≡ true → row_stop sep sd (x ∷ ys) (first r) ≡ true
      join k x [] v r i d a e =
          let a' : sd x (first r) ≡ true = subst (λ (v : List K). sd x (first (v ++ r)) ≡ true) d a in
          rw a' e
      join k x (y ∷ ys) v r i d a e = e

pub ready_phrase : {K T : Type 0} {s : Known} {n : ℕ} {D : Room → T → List K → Type 0} {p : Room → Reader K T} {sd : T → Option K → Bool} {td : T → ℕ} {ld nd : ℕ} {test : K → Bool} {ed : ℕ} (sep : K → Bool) (c : K) → sep c ≡ true → (ready : T → Bool)
    → Phrase s n 0 D p sd td ld nd test ed → ((t : T) (c : K) → ready t ≡ true → sep c ≡ true → sd t (Some c) ≡ true)
    → Phrase s n 0 (λ k. Ready sep ready (D k)) (λ k. ready_read sep ready (p k)) (row_stop sep sd) (highest td) (max ld 0) (max nd (max (max ld nd) 0)) test ed
ready_phrase {D = D} {test = test} sep c e ready P next = record {
  part = ready_rows sep c e ready P.part next;
  opening = record {
    begins = λ k t w i d. let j = d.2 in subst (λ (w : List _). head_is test (first w) ≡ true) (sym j.whole) (head-append test j.front j.back (P.opening.begins k d.0.0 j.front i j.left));
    starts = λ h c i l e. let v = P.opening.starts h c i l e in record { tree = v.tree ∷ []; more = v.more; derives = ((v.tree, []), refl, record { front = c ∷ v.more; back = []; left = v.derives; right = refl; whole = sym (append-nil (c ∷ v.more)) }) };
    bars = λ k v i e. rw (P.opening.bars k v i e) refl;
  };
}
