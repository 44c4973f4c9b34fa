-- A choice by the next token.
use Rattle.std.proofs.Common.{◌≡◌, ℕ, ◌≤◌, ◌<◌, ◌⊎◌, Bool, true, false, ltb, List, [], ◌∷◌, ◌++◌, Option, Ok, Err, refl, sym, ap, subst, ◌∙◌, arith, inl, inr}
use Rattle.std.proofs.lemmas.Bool.{ltb-true, ltb-false, lt-ltb, le-ltb}
use Rattle.readers.specs.declared.code.Code.{Code}
use Rattle.readers.specs.declared.code.Code.TheVariants.{Grammar, Depth}
use Rattle.readers.specs.Reader.{first, Answer, Reader, ◌>>=◌, head_is, roomy, only, shut, one, skip}
use Rattle.readers.specs.Language.{Viable}
use Rattle.readers.specs.Room.{Room, Under, at_height, Alike}
use Rattle.readers.specs.Exact.{Reads, Refuses, Opens}
use Rattle.readers.proofs.Outcome.{first-append, alike_le, chosen, head_some, head-append}

pub roomy_err : {K T : Type 0} (low : ℕ) (p : Room → Reader K T) (h : Room) (s : List K) (e : Code × List K) → roomy low (p h) h.height s ≡ Err e → ((h.height < low) × ((Depth, s) ≡ e)) ⊎ ((low ≤ h.height) × (p h s ≡ Err e))
roomy_err low p h s e i =
    elim (chosen (ltb h.height low) (Err (Depth, s)) (p h s) (Err e) i) [
      | inl a ↦ inl (ltb-true h.height low a.0, cc)
      | inr a ↦ inr (ltb-false h.height low a.0, a.1)
    ]

pub no_roomy : {T : Type 0} (c : T) (low : ℕ) (h k : Room) → h.height < low → Alike Depth h k → ltb k.height low ≡ true
no_roomy c low h k lt al = lt-ltb k.height low (let e = ap (λ (r : Room). r.height) al in omega arith)

pub roomy_still : (low : ℕ) (h k : Room) → low ≤ h.height → Under h k → ltb k.height low ≡ false
roomy_still low h k le u = le-ltb k.height low (let e = u.0 in omega arith)

pub roomy_ok : {K T : Type 0} (low h : ℕ) (p : Reader K T) (s : List K) (z : T × List K) → roomy low p h s ≡ Ok z → p s ≡ Ok z
roomy_ok low h p s z e =
    elim (chosen (ltb h low) (Err (Depth, s)) (p s) (Ok z) e) [
      | inl a ↦ absurd cc
      | inr a ↦ a.1
    ]

module _ {K T : Type 0} (test : K → Bool) (low h : ℕ) (D : T → List K → Type 0) (sd : T → Option K → Bool) (p : Reader K T)
    (begins : (t : T) (w : List K) → D t w → head_is test (first w) ≡ true) (least : (t : T) (w : List K) → D t w → low ≤ h) where
  pub only_reads : Reads D sd p → Reads D sd (only test low p h)
  only_reads P = record {
    complete = λ t w r d st.
        let le : ltb h low ≡ false = le-ltb h low (least t w d) in
        rw (head-append test w r (begins t w d)) (rw le (P.complete t w r d st));
    sound = λ s z e.
        elim (chosen (head_is test (first s)) (roomy low p h s) (Err (Grammar, s)) (Ok z) e) [
          | inl a ↦ P.sound s z (roomy_ok low h p s z a.1)
          | inr a ↦ absurd cc
        ];
  }

module _ {K T : Type 0} (test : K → Bool) (low : ℕ) (D : Room → T → List K → Type 0) (p : Room → Reader K T) (o : Opens D test low) where
  pub only_refuses : (h : Room)
      → ((s : List K) (e : Code × List K) → low ≤ h.height → p h s ≡ Err e → Refuses D p h s e)
      → (s : List K) (e : Code × List K) → only test low (p h) h.height s ≡ Err e → Refuses D (λ k. only test low (p k) k.height) h s e
  only_refuses h fp s e i =
      elim (chosen (head_is test (first s)) (roomy low (p h) h.height s) (Err (Grammar, s)) (Err e) i) [
        | inl a ↦
            elim (roomy_err low p h s e a.1) [
              | inl c ↦ subst (λ (e : Code × List K). Refuses D (λ k. only test low (p k) k.height) h s e) c.1 (record {
                read = [];
                parts = refl;
                viable = inl refl;
                local = λ k r al b. rw (ap (head_is test) b ∙ a.0) (let small : ltb k.height low ≡ true = no_roomy s low h k c.0 al in rw small refl);
                deep = λ dp. let d = head_some test (first s) a.0 in
                    let v = o.starts d.0 d.2 h.clashes in
                    record { room = at_height v.0 h.clashes; eased = (let le = v.1 in let l = c.0 in omega arith, refl); token = d.0; is = d.1; viable = v.2 };
              })
              | inr c ↦
                  let g = fp s e c.0 c.1 in
                  record {
                    read = g.read;
                    parts = g.parts;
                    viable = g.viable;
                    deep = g.deep;
                    local = λ k r al b.
                        let at : head_is test (first (g.read ++ r)) ≡ true = ap (head_is test) (first-append g.read r e.1 b ∙ ap first (sym g.parts)) ∙ a.0 in
                        let over : Under h k = alike_le e.0 h k al in
                        let le : ltb k.height low ≡ false = roomy_still low h k c.0 over in
                        rw at (rw le (g.local k r al b));
                  }
            ]
        | inr a ↦
            subst (λ (e : Code × List K). Refuses D (λ k. only test low (p k) k.height) h s e) (let same : (Grammar, s) ≡ e = cc in same) (record {
              read = [];
              parts = refl;
              viable = inl refl;
              local = λ k r al b. rw (ap (head_is test) b ∙ a.0) refl;
              deep = λ dp. absurd (dp refl);
            })
      ]

-- ---- no room

pub shut_sound : {K T : Type 0} (D : T → List K → Type 0) (stop : T → Option K → Bool) (test : K → Bool) → ((t : T) (w : List K) → D t w → ⊥) → Reads D stop (shut test)
shut_sound D stop test none = record {
  complete = λ t w r d st. absurd (none t w d);
  sound = λ s z e. elim (chosen (head_is test (first s)) (Err (Depth, s)) (Err (Grammar, s)) (Ok z) e) [ inl a ↦ absurd cc | inr a ↦ absurd cc ];
}

-- a reader that answers at height 0 that there is no room; the token is refused at each height where it begins nothing
pub shut_refuses : {K T : Type 0} (D : Room → T → List K → Type 0) (p : Room → Reader K T) (test : K → Bool) → ((b : Bool) (s : List K) → p (at_height 0 b) s ≡ shut test s)
    → ((c : K) → test c ≡ true → (b : Bool) → (h : ℕ) × Viable (D (at_height h b)) (c ∷ []))
    → ((k : Room) (s : List K) → head_is test (first s) ≡ false → p k s ≡ Err (Grammar, s))
    → (b : Bool) (s : List K) (e : Code × List K) → p (at_height 0 b) s ≡ Err e → Refuses D p (at_height 0 b) s e
shut_refuses D p test at starts grammar b s e i =
    elim (chosen (head_is test (first s)) (Err (Depth, s)) (Err (Grammar, s)) (Err e) (sym (at b s) ∙ i)) [
      | inl a ↦ subst (λ (e : Code × List _). Refuses D p (at_height 0 b) s e) (let same : (Depth, s) ≡ e = cc in same) (record {
        read = [];
        parts = refl;
        viable = inl refl;
        local = λ k q al o. subst (λ (k : Room). p k q ≡ Err (Depth, q)) (sym al) (at b q ∙ rw (ap (head_is test) o ∙ a.0) refl);
        deep = λ dp. let c = head_some test (first s) a.0 in let v = starts c.0 c.2 b in
            record { room = at_height v.0 b; eased = (omega arith, refl); token = c.0; is = c.1; viable = v.1 };
      })
      | inr a ↦ subst (λ (e : Code × List _). Refuses D p (at_height 0 b) s e) (let same : (Grammar, s) ≡ e = cc in same) (record {
        read = [];
        parts = refl;
        viable = inl refl;
        local = λ k q al o. grammar k q (ap (head_is test) o ∙ a.0);
        deep = λ dp. absurd (dp refl);
      })
    ]

-- ---- as the code goes through them

pub only_is : {K T : Type 0} (test : K → Bool) (low : ℕ) (p : Reader K T) (h : ℕ) (s : List K) → head_is test (first s) ≡ true → low ≤ h → only test low p h s ≡ p s
only_is test low p h s at le = let room : ltb h low ≡ false = le-ltb h low le in rw at (rw room refl)

pub skip_is_next : {K T : Type 0} (test : K → Bool) (p : Reader K T) (s rest : List K) → one test s ≡ Ok (tt, rest) → skip test p s ≡ p rest
skip_is_next test p s rest e = rw e refl

abbrev pub remade : {K S T : Type 0} → (S → T) → Answer K S → Answer K T
remade f r = r >>= λ x. Ok (f x.0, x.1)

pub changed : {K S T : Type 0} (f : S → T) (r q : Answer K S) → r ≡ q → remade f r ≡ remade f q
changed f r q e = rw e refl
