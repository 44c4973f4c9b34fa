-- One phrase and then another.
use Rattle.std.proofs.Common.{◌≡◌, Bool, true, List, [], ◌∷◌, ◌++◌, Option, Ok, Err, refl, sym, ap, subst, ◌∙◌, append_assoc, inl, inr}
use Rattle.readers.specs.declared.code.Code.{Code}
use Rattle.readers.specs.Reader.{first, Reader, ◌>>=◌, both}
use Rattle.readers.specs.Language.{Both, Viable}
use Rattle.readers.specs.Room.{Room, Under}
use Rattle.readers.specs.Exact.{Found, Reads, Refuses}
use Rattle.readers.proofs.Outcome.{eased_under, first-append, ok_of, err_of, ok_is, not_both, alike_le, viable_or}

module _ {K S T : Type 0} (D : S → List K → Type 0) (E : T → List K → Type 0) where
  -- a front of the first part, with all of the second
  pub viable_left : (u : List K) → Viable D u → (y : T) (v : List K) → E y v → Viable (Both D E) u
  viable_left u a y v e = record {
    tree = (a.tree, y);
    more = a.more ++ v;
    derives = record { front = u ++ a.more; back = v; left = a.derives; right = e; whole = sym (append_assoc u a.more v) };
  }

  -- all of the first part, with a front of the second
  pub viable_right : (x : S) (w u : List K) → D x w → Viable E u → Viable (Both D E) (w ++ u)
  viable_right x w u d a = record {
    tree = (x, a.tree);
    more = a.more;
    derives = record { front = w; back = u ++ a.more; left = d; right = a.derives; whole = append_assoc w u a.more };
  }

module _ {K S T : Type 0} (D : S → List K → Type 0) (E : T → List K → Type 0) (sd : S → Option K → Bool) (se : T → Option K → Bool) (p : Reader K S) (q : Reader K T) where
  -- st stops the pair: it splits into what stops each part, and comes from it
  pub both_reads_by : (st : S × T → Option K → Bool)
      → ((x : S) (y : T) (v r : List K) → E y v → st (x, y) (first r) ≡ true → (sd x (first (v ++ r)) ≡ true) × (se y (first r) ≡ true))
      → ((x : S) (y : T) (v r : List K) → E y v → sd x (first (v ++ r)) ≡ true → se y (first r) ≡ true → st (x, y) (first r) ≡ true)
      → Reads D sd p → Reads E se q → Reads (Both D E) st (both p q)
  both_reads_by st split join P Q = record {
    complete = λ t w r d i.
        let both_stop = split t.0 t.1 d.back r d.right i in
        ap (both p q) (ap (λ (z : List K). z ++ r) d.whole ∙ append_assoc d.front d.back r)
        ∙ rw (P.complete t.0 d.front (d.back ++ r) d.left both_stop.0) (rw (Q.complete t.1 d.back r d.right both_stop.1) refl);
    sound = λ s z e.
        let a = ok_of (p s) (λ x. q x.1 >>= λ y. Ok ((x.0, y.0), y.1)) z e in
        let b = ok_of (q a.0.1) (λ y. Ok ((a.0.0, y.0), y.1)) z a.2 in
        let f = P.sound s a.0 a.1 in
        let g = Q.sound a.0.1 b.0 b.1 in
        subst (λ (z : (S × T) × List K). Found (Both D E) st s z) (ok_is ((a.0.0, b.0.0), b.0.1) z b.2) (record {
          read = f.read ++ g.read;
          derives = record { front = f.read; back = g.read; left = f.derives; right = g.derives; whole = refl };
          parts = f.parts ∙ ap (λ (z : List K). f.read ++ z) g.parts ∙ sym (append_assoc f.read g.read b.0.1);
          stops = join a.0.0 b.0.0 g.read b.0.1 g.derives (ap (λ (s : List K). sd a.0.0 (first s)) (sym g.parts) ∙ f.stops) g.stops;
        });
  }

  -- where the second part alone decides
  pub both_reads : Reads D sd p → Reads E se q → ((x : S) (y : T) (v r : List K) → E y v → se y (first r) ≡ true → sd x (first (v ++ r)) ≡ true) → Reads (Both D E) (λ x. se x.1) (both p q)
  both_reads P Q joint = both_reads_by (λ x. se x.1) (λ x y v r d e. (joint x y v r d e, e)) (λ x y v r d i e. e) P Q

module _ {K S T : Type 0} (D : Room → S → List K → Type 0) (E : Room → T → List K → Type 0) (sd : S → Option K → Bool) (p : Room → Reader K S) (q : Room → Reader K T)
    (P : (k : Room) → Reads (D k) sd (p k)) (mono_d : (h k : Room) (x : S) (w : List K) → Under h k → D h x w → D k x w) (mono_e : (h k : Room) (x : T) (w : List K) → Under h k → E h x w → E k x w) where
  pub both_refuses : (h : Room) → Viable (E h) []
      → ((s : List K) (e : Code × List K) → p h s ≡ Err e → Refuses D p h s e)
      → ((s : List K) (e : Code × List K) → q h s ≡ Err e → Refuses E q h s e)
      → (s : List K) (e : Code × List K) → both (p h) (q h) s ≡ Err e → Refuses (λ k. Both (D k) (E k)) (λ k. both (p k) (q k)) h s e
  both_refuses h some fp fq s e i =
      elim (err_of (p h s) (λ x. q h x.1 >>= λ y. Ok ((x.0, y.0), y.1)) e i) [
        | inl a ↦
            let f = fp s e a in
            record {
              read = f.read;
              parts = f.parts;
              viable = elim f.viable [ inl z ↦ inl z | inr v ↦ inr (viable_left (D h) (E h) f.read v some.tree some.more some.derives) ];
              local = λ k r al b. rw (f.local k r al b) refl;
              deep = λ dp. let d = f.deep dp in record {
                room = d.room;
                eased = d.eased;
                token = d.token;
                is = d.is;
                viable = viable_left (D d.room) (E d.room) (f.read ++ d.token ∷ []) d.viable some.tree some.more (mono_e h d.room some.tree some.more (eased_under e.0 h d.room d.eased) some.derives);
              };
            }
        | inr a ↦
            elim (err_of (q h a.0.1) (λ y. Ok ((a.0.0, y.0), y.1)) e a.2) [
              | inl b ↦
                  let f = (P h).sound s a.0 a.1 in
                  let g = fq a.0.1 e b in
                  record {
                    read = f.read ++ g.read;
                    parts = f.parts ∙ ap (λ (z : List K). f.read ++ z) g.parts ∙ sym (append_assoc f.read g.read e.1);
                    viable = inr (viable_right (D h) (E h) a.0.0 f.read g.read f.derives (viable_or (E h) g.read some g.viable));
                    local = λ k r al c.
                        ap (both (p k) (q k)) (append_assoc f.read g.read r)
                        ∙ rw ((P k).complete a.0.0 f.read (g.read ++ r) (mono_d h k a.0.0 f.read (alike_le e.0 h k al) f.derives)
                        (ap (sd a.0.0) (first-append g.read r e.1 c ∙ ap first (sym g.parts)) ∙ f.stops)) (rw (g.local k r al c) refl);
                    deep = λ dp. let d = g.deep dp in record {
                      room = d.room;
                      eased = d.eased;
                      token = d.token;
                      is = d.is;
                      viable = subst (Viable (Both (D d.room) (E d.room))) (sym (append_assoc f.read g.read (d.token ∷ [])))
                          (viable_right (D d.room) (E d.room) a.0.0 f.read (g.read ++ d.token ∷ []) (mono_d h d.room a.0.0 f.read (eased_under e.0 h d.room d.eased) f.derives) d.viable);
                    };
                  }
              | inr b ↦ not_both ((a.0.0, b.0.0), b.0.1) e b.2
            ]
      ]
