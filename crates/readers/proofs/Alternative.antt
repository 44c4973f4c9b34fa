-- A choice between readers of one type of tree.
use Rattle.std.proofs.Common.{◌≡◌, ℕ, ◌≤◌, Bool, true, false, ltb, List, [], ◌∷◌, ◌++◌, Option, Ok, Err, refl, sym, ap, subst, ◌∙◌, arith, inl, inr}
use Rattle.std.proofs.lemmas.Bool.{le-ltb}
use Rattle.readers.specs.declared.code.Code.{Code}
use Rattle.readers.specs.Reader.{first, Reader, head_is, roomy, else_by}
use Rattle.readers.specs.Language.{Viable, Or}
use Rattle.readers.specs.Room.{Room, Under, at_height}
use Rattle.readers.specs.Exact.{Found, Reads, Refuses, Opens}
use Rattle.readers.proofs.Outcome.{first-append, alike_le, chosen, head_some, head-append}
use Rattle.readers.proofs.Choice.{roomy_ok, roomy_err, no_roomy, roomy_still}

module _ {K T : Type 0} (test : K → Bool) (low h : ℕ) (D E : T → List K → Type 0) (stop : T → Option K → Bool) (p q : Reader K T)
    (begins : (t : T) (w : List K) → D t w → head_is test (first w) ≡ true) (least : (t : T) (w : List K) → D t w → low ≤ h)
    (other : (t : T) (v r : List K) → E t v → stop t (first r) ≡ true → head_is test (first (v ++ r)) ≡ false) where
  or_complete : Reads D stop p → Reads E stop q → (t : T) (w r : List K) → Or D E t w → stop t (first r) ≡ true → else_by test low p q h (w ++ r) ≡ Ok (t, r)
  or_complete P Q t w r (inl d) st =
      let le : ltb h low ≡ false = le-ltb h low (least t w d) in
      rw (head-append test w r (begins t w d)) (rw le (P.complete t w r d st))
  or_complete P Q t w r (inr d) st = rw (other t w r d st) (Q.complete t w r d st)

  left : (s : List K) (z : T × List K) → Found D stop s z → Found (Or D E) stop s z
  left s z f = record { read = f.read; derives = inl f.derives; parts = f.parts; stops = f.stops }

  right : (s : List K) (z : T × List K) → Found E stop s z → Found (Or D E) stop s z
  right s z f = record { read = f.read; derives = inr f.derives; parts = f.parts; stops = f.stops }

  pub or_reads : Reads D stop p → Reads E stop q → Reads (Or D E) stop (else_by test low p q h)
  or_reads P Q = record {
    complete = or_complete P Q;
    sound = λ s z e.
        elim (chosen (head_is test (first s)) (roomy low p h s) (q s) (Ok z) e) [
          | inl a ↦ left s z (P.sound s z (roomy_ok low h p s z a.1))
          | inr a ↦ right s z (Q.sound s z a.1)
        ];
  }

module _ {K T : Type 0} (test : K → Bool) (low : ℕ) (D E : Room → T → List K → Type 0) (p q : Room → Reader K T) (o : Opens D test low) where
  to_left : (h : Room) (u : List K) → Viable (D h) u → Viable (Or (D h) (E h)) u
  to_left h u v = record { tree = v.tree; more = v.more; derives = inl v.derives }

  to_right : (h : Room) (u : List K) → Viable (E h) u → Viable (Or (D h) (E h)) u
  to_right h u v = record { tree = v.tree; more = v.more; derives = inr v.derives }

  pub or_refuses : (h : Room)
      → ((s : List K) (e : Code × List K) → low ≤ h.height → p h s ≡ Err e → Refuses D p h s e)
      → ((s : List K) (e : Code × List K) → q h s ≡ Err e → Refuses E q h s e)
      → (s : List K) (e : Code × List K) → else_by test low (p h) (q h) h.height s ≡ Err e → Refuses (λ k. Or (D k) (E k)) (λ k. else_by test low (p k) (q k) k.height) h s e
  or_refuses h fp fq s e i =
      elim (chosen (head_is test (first s)) (roomy low (p h) h.height s) (q h s) (Err e) i) [
        | inl a ↦
            elim (roomy_err low p h s e a.1) [
              | inl c ↦ subst (λ (e : Code × List K). Refuses (λ k. Or (D k) (E k)) (λ k. else_by test low (p k) (q k) k.height) h s e) c.1 (record {
                read = [];
                parts = refl;
                viable = inl refl;
                local = λ k r al b. rw (ap (head_is test) b ∙ a.0) (let small : ltb k.height low ≡ true = no_roomy s low h k c.0 al in rw small refl);
                deep = λ dp. let d = head_some test (first s) a.0 in
                    let v = o.starts d.0 d.2 h.clashes in
                    record { room = at_height v.0 h.clashes; eased = (let le = v.1 in let l = c.0 in omega arith, refl); token = d.0; is = d.1; viable = to_left (at_height v.0 h.clashes) (d.0 ∷ []) v.2 };
              })
              | inr c ↦
                  let g = fp s e c.0 c.1 in
                  record {
                    read = g.read;
                    parts = g.parts;
                    viable = elim g.viable [ inl z ↦ inl z | inr v ↦ inr (to_left h g.read v) ];
                    local = λ k r al b.
                        let at : head_is test (first (g.read ++ r)) ≡ true = ap (head_is test) (first-append g.read r e.1 b ∙ ap first (sym g.parts)) ∙ a.0 in
                        let over : Under h k = alike_le e.0 h k al in
                        let le : ltb k.height low ≡ false = roomy_still low h k c.0 over in
                        rw at (rw le (g.local k r al b));
                    deep = λ dp. let d = g.deep dp in record {
                      room = d.room;
                      eased = d.eased;
                      token = d.token;
                      is = d.is;
                      viable = to_left d.room (g.read ++ d.token ∷ []) d.viable;
                    };
                  }
            ]
        | inr a ↦
            let g = fq s e a.1 in
            record {
              read = g.read;
              parts = g.parts;
              viable = elim g.viable [ inl z ↦ inl z | inr v ↦ inr (to_right h g.read v) ];
              local = λ k r al b.
                  let at : head_is test (first (g.read ++ r)) ≡ false = ap (head_is test) (first-append g.read r e.1 b ∙ ap first (sym g.parts)) ∙ a.0 in
                  rw at (g.local k r al b);
              deep = λ dp. let d = g.deep dp in record {
                room = d.room;
                eased = d.eased;
                token = d.token;
                is = d.is;
                viable = to_right d.room (g.read ++ d.token ∷ []) d.viable;
              };
            }
      ]
