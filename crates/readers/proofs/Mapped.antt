-- A phrase seen as another tree, and at another height.
use Rattle.std.proofs.Common.{◌≡◌, ℕ, zero, suc, ◌≤◌, Bool, true, List, [], ◌∷◌, ◌++◌, Option, Ok, Err, refl, sym, ap, subst, ◌∙◌, arith, inl, inr}
use Rattle.readers.specs.declared.code.Code.{Code}
use Rattle.readers.specs.declared.code.Code.TheVariants.{Grammar, Depth, FixityClash}
use Rattle.readers.specs.Reader.{first, Reader, mapped}
use Rattle.readers.specs.Language.{As, Viable}
use Rattle.readers.specs.Room.{Room, Under, Eased, at_height, Alike}
use Rattle.readers.specs.Exact.{Found, Reads, Refuses}
use Rattle.readers.proofs.Outcome.{ok_of, err_of, ok_is, not_both}

-- the trees of D are made from those of C
pub record Made {K S T : Type 0} (f : S → T) (C : S → List K → Type 0) (D : T → List K → Type 0) : Type 0 where
  pub to : (x : S) (w : List K) → C x w → D (f x) w
  pub from : (t : T) (w : List K) → D t w → (x : S) × (f x ≡ t) × C x w

module _ {K S T : Type 0} (f : S → T) (C : S → List K → Type 0) (D : T → List K → Type 0) (m : Made f C D) where
  pub viable_made : (u : List K) → Viable C u → Viable D u
  viable_made u v = record { tree = f v.tree; more = v.more; derives = m.to v.tree (u ++ v.more) v.derives }

  pub mapped_reads : (sc : S → Option K → Bool) (sd : T → Option K → Bool) (p : Reader K S) → ((x : S) (o : Option K) → sc x o ≡ sd (f x) o) → Reads C sc p → Reads D sd (mapped f p)
  mapped_reads sc sd p same P = record {
    complete = λ t w r d st.
        let x = m.from t w d in
        rw (P.complete x.0 w r x.2 (same x.0 (first r) ∙ ap (λ (y : T). sd y (first r)) x.1 ∙ st)) (ap (λ (y : T). Ok (y, r)) x.1);
    sound = λ s z e.
        let a = ok_of (p s) (λ x. Ok (f x.0, x.1)) z e in
        let g = P.sound s a.0 a.1 in
        subst (λ (z : T × List K). Found D sd s z) (ok_is (f a.0.0, a.0.1) z a.2) (record {
          read = g.read;
          derives = m.to a.0.0 g.read g.derives;
          parts = g.parts;
          stops = sym (same a.0.0 (first a.0.1)) ∙ g.stops;
        });
  }

pub mapped_refuses : {K S T : Type 0} (f : S → T) (C : Room → S → List K → Type 0) (D : Room → T → List K → Type 0) (p : Room → Reader K S) → ((k : Room) → Made f (C k) (D k)) → (h : Room) (s : List K) (e : Code × List K)
    → (p h s ≡ Err e → Refuses C p h s e) → mapped f (p h) s ≡ Err e → Refuses D (λ k. mapped f (p k)) h s e
mapped_refuses f C D p m h s e fp i =
    elim (err_of (p h s) (λ x. Ok (f x.0, x.1)) e i) [
      | inl a ↦
          let g = fp a in
          record {
            read = g.read;
            parts = g.parts;
            viable = elim g.viable [ inl z ↦ inl z | inr v ↦ inr (viable_made f (C h) (D h) (m h) g.read v) ];
            local = λ k q al b. rw (g.local k q al b) refl;
            deep = λ dp. let d = g.deep dp in record {
              room = d.room;
              eased = d.eased;
              token = d.token;
              is = d.is;
              viable = viable_made f (C d.room) (D d.room) (m d.room) (g.read ++ d.token ∷ []) d.viable;
            };
          }
      | inr a ↦ not_both (f a.0.0, a.0.1) e a.2
    ]

-- ---- one more node

abbrev pub more : Room → Room
more h = at_height (suc h.height) h.clashes

same_room : (h k : Room) → h.height ≡ k.height → h.clashes ≡ k.clashes → h ≡ k
same_room h k e f = let same : at_height h.height h.clashes ≡ at_height k.height k.clashes = cc in same

some_height : (h k : Room) → Under (more h) k → (j : ℕ) × (k.height ≡ suc j) × (h.height ≤ j)
some_height h k u = go k.height u.0
  where
    go : (n : ℕ) → suc h.height ≤ n → (j : ℕ) × (n ≡ suc j) × (h.height ≤ j)
    go zero a = absurd (omega (arith, a))
    go (suc j) a = (j, refl, omega (arith, a))

alike_down : (c : Code) (h k : Room) → Alike c (more h) k → (j : Room) × (k ≡ more j) × Alike c h j
alike_down Grammar h k a = let n = some_height h k a in (at_height n.0 k.clashes, same_room k (at_height (suc n.0) k.clashes) n.1 refl, (n.2, a.1))
alike_down Depth h k a = (h, a, refl)
alike_down FixityClash h k a = let n = some_height h k (a.0, λ e. a.1 ∙ e) in (at_height n.0 k.clashes, same_room k (at_height (suc n.0) k.clashes) n.1 refl, (n.2, a.1))

eased_up : (c : Code) (h k : Room) → Eased c h k → Eased c (more h) (more k)
eased_up Grammar h k a = a
eased_up Depth h k a = (let x = a.0 in omega arith, a.1)
eased_up FixityClash h k a = (let x = a.0 in omega arith, a.1)

pub raised_refuses : {K T : Type 0} (C D : Room → T → List K → Type 0) (p q : Room → Reader K T) → ((k : Room) (s : List K) → q (more k) s ≡ p k s) → ((k : Room) (t : T) (w : List K) → C k t w → D (more k) t w)
    → (h : Room) (s : List K) (e : Code × List K) → Refuses C p h s e → Refuses D q (more h) s e
raised_refuses C D p q same to h s e g = record {
  read = g.read;
  parts = g.parts;
  viable = elim g.viable [ inl z ↦ inl z | inr v ↦ inr (record { tree = v.tree; more = v.more; derives = to h v.tree (g.read ++ v.more) v.derives }) ];
  local = λ k r al b.
      let j = alike_down e.0 h k al in
      subst (λ (i : Room). q i (g.read ++ r) ≡ Err (e.0, r)) (sym j.1) (same j.0 (g.read ++ r) ∙ g.local j.0 r j.2 b);
  deep = λ dp. let d = g.deep dp in record {
    room = more d.room;
    eased = eased_up e.0 h d.room d.eased;
    token = d.token;
    is = d.is;
    viable = let v = d.viable in record { tree = v.tree; more = v.more; derives = to d.room v.tree ((g.read ++ d.token ∷ []) ++ v.more) v.derives };
  };
}

-- as mapped_reads, where the tests for what stops agree on phrases alone
pub mapped_reads_by : {K S T : Type 0} (f : S → T) (C : S → List K → Type 0) (D : T → List K → Type 0) → Made f C D → (sc : S → Option K → Bool) (sd : T → Option K → Bool) (p : Reader K S)
    → ((x : S) (w : List K) (o : Option K) → C x w → sd (f x) o ≡ true → sc x o ≡ true) → ((x : S) (w : List K) (o : Option K) → C x w → sc x o ≡ true → sd (f x) o ≡ true)
    → Reads C sc p → Reads D sd (mapped f p)
mapped_reads_by f C D m sc sd p down up P = record {
  complete = λ t w r d st.
      let x = m.from t w d in
      rw (P.complete x.0 w r x.2 (down x.0 w (first r) x.2 (ap (λ (y : _). sd y (first r)) x.1 ∙ st))) (ap (λ (y : _). Ok (y, r)) x.1);
  sound = λ s z e.
      let a = ok_of (p s) (λ x. Ok (f x.0, x.1)) z e in
      let g = P.sound s a.0 a.1 in
      subst (λ (z : _ × List _). Found D sd s z) (ok_is (f a.0.0, a.0.1) z a.2) (record {
        read = g.read;
        derives = m.to a.0.0 g.read g.derives;
        parts = g.parts;
        stops = up a.0.0 g.read (first a.0.1) g.derives g.stops;
      });
}

pub as_made : {K S T : Type 0} (f : S → T) (C : S → List K → Type 0) → Made f C (As f C)
as_made f C = record { to = λ x w d. (x, refl, d); from = λ t w d. d }

-- the same tests for what stops
pub reads_stop : {K T : Type 0} (D : T → List K → Type 0) (s q : T → Option K → Bool) (p : Reader K T) → ((t : T) (o : Option K) → s t o ≡ q t o) → Reads D s p → Reads D q p
reads_stop D s q p same P = record {
  complete = λ t w r d st. P.complete t w r d (same t (first r) ∙ st);
  sound = λ s z e. let f = P.sound s z e in record { read = f.read; derives = f.derives; parts = f.parts; stops = sym (same z.0 (first z.1)) ∙ f.stops };
}
