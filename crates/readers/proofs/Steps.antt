-- A row with a state: what an item may be depends on the items before it.
use Rattle.std.proofs.Common.{◌≡◌, ℕ, zero, suc, ◌≤◌, Bool, true, not, List, [], ◌∷◌, ◌++◌, length, Option, Ok, Err, refl, sym, ap, subst, ◌∙◌, append_assoc, arith, inl, inr}
use Rattle.std.proofs.lemmas.List.{length-append, append-nil}
use Rattle.readers.specs.declared.code.Code.{Code}
use Rattle.readers.specs.declared.code.Code.TheVariants.{Grammar}
use Rattle.readers.specs.Reader.{first, Reader, ◌>>=◌, head_is, steps_by, steps}
use Rattle.readers.specs.Language.{Viable, Steps}
use Rattle.readers.specs.Room.{Room, Under, Alike}
use Rattle.readers.specs.Exact.{Found, Reads, Goes, Refuses, row_stop}
use Rattle.readers.proofs.Outcome.{eased_under, first-append, ok_of, err_of, ok_is, not_both, alike_le, viable_or, chosen, head-append}
use Rattle.readers.proofs.Row.{nonempty, both_true, not_false, not_true}
use Rattle.readers.specs.Infix.{ups}

module _ {K X U : Type 0} (test : K → Bool) (step : X → U → X) (stop : U → Option K → Bool) (S : X → U → List K → Type 0) (q : X → Reader K U)
    (begins : (x : X) (u : U) (w : List K) → S x u w → head_is test (first w) ≡ true)
    (next : (x : X) (u v : U) (w r : List K) → S (step x u) v w → stop u (first (w ++ r)) ≡ true) (Q : (x : X) → Reads (S x) stop (q x)) where
  step_stops : (x : X) (u : U) (us : List U) (v r : List K) → Steps step S (step x u) us v → row_stop test stop (u ∷ us) (first r) ≡ true → stop u (first (v ++ r)) ≡ true
  step_stops x u [] v r d e = subst (λ (v : List K). stop u (first (v ++ r)) ≡ true) (sym d) (both_true (stop u (first r)) (not (head_is test (first r))) e).0
  step_stops x u (y ∷ ys) v r d e =
      subst (λ (v : List K). stop u (first (v ++ r)) ≡ true) (sym d.whole)
      (subst (λ (z : List K). stop u (first z) ≡ true) (sym (append_assoc d.front d.back r)) (next x u y d.front (d.back ++ r) d.left))

  rest_stops : (u : U) (us : List U) (o : Option K) → row_stop test stop (u ∷ us) o ≡ true → row_stop test stop us o ≡ true
  rest_stops u [] o e = (both_true (stop u o) (not (head_is test o)) e).1
  rest_stops u (y ∷ ys) o e = e

  all_stop : (x : X) (u : U) (us : List U) (v r : List K) → Steps step S x us v → stop u (first (v ++ r)) ≡ true → row_stop test stop us (first r) ≡ true → row_stop test stop (u ∷ us) (first r) ≡ true
  all_stop x u [] v r d i e =
      let i' : stop u (first r) ≡ true = subst (λ (v : List K). stop u (first (v ++ r)) ≡ true) d i in
      rw i' e
  all_stop x u (y ∷ ys) v r d i e = e

  pub steps_complete : (f : ℕ) (x : X) (us : List U) (w r : List K) → length (w ++ r) ≤ f → Steps step S x us w → row_stop test stop us (first r) ≡ true → steps_by test step q f x (w ++ r) ≡ Ok (us, r)
  unfolding steps_by
  steps_complete zero x [] w r le d st = subst (λ (w : List K). steps_by test step q zero x (w ++ r) ≡ Ok ([], r)) (sym d) refl
  steps_complete (suc f) x [] w r le d st = subst (λ (w : List K). steps_by test step q (suc f) x (w ++ r) ≡ Ok ([], r)) (sym d) (rw (not_true (head_is test (first r)) st) refl)
  steps_complete zero x (u ∷ us) w r le d st =
      let some = nonempty test d.front (begins x u d.front d.left) in
      absurd (omega (arith, length-append w r, ap length d.whole, length-append d.front d.back))
  steps_complete (suc f) x (u ∷ us) w r le d st =
      let regrouped : w ++ r ≡ d.front ++ (d.back ++ r) = ap (λ (z : List K). z ++ r) d.whole ∙ append_assoc d.front d.back r in
      let some = nonempty test d.front (begins x u d.front d.left) in
      let less : length (d.back ++ r) ≤ f = omega (arith, ap length regrouped, length-append d.front (d.back ++ r)) in
      ap (steps_by test step q (suc f) x) regrouped
      ∙ rw (head-append test d.front (d.back ++ r) (begins x u d.front d.left))
      (rw ((Q x).complete u d.front (d.back ++ r) d.left (step_stops x u us d.back r d.right st))
      (rw (steps_complete f (step x u) us d.back r less d.right (rest_stops u us (first r) st)) refl))

  pub steps_sound : (f : ℕ) (x : X) (s : List K) (z : List U × List K) → length s ≤ f → steps_by test step q f x s ≡ Ok z → Found (Steps step S x) (row_stop test stop) s z
  unfolding steps_by
  steps_sound zero x [] z le e = subst (λ (z : List U × List K). Found (Steps step S x) (row_stop test stop) [] z) (ok_is ([], []) z e) (record { read = []; derives = refl; parts = refl; stops = refl })
  steps_sound zero x (c ∷ s) z le e = absurd (omega arith)
  steps_sound (suc f) x s z le e =
      elim (chosen (head_is test (first s)) (q x s >>= λ y. steps_by test step q f (step x y.0) y.1 >>= λ t. Ok (y.0 ∷ t.0, t.1)) (Ok ([], s)) (Ok z) e) [
        | inl a ↦
            let i = ok_of (q x s) (λ y. steps_by test step q f (step x y.0) y.1 >>= λ t. Ok (y.0 ∷ t.0, t.1)) z a.1 in
            let c = ok_of (steps_by test step q f (step x i.0.0) i.0.1) (λ t. Ok (i.0.0 ∷ t.0, t.1)) z i.2 in
            let h = (Q x).sound s i.0 i.1 in
            let some = nonempty test h.read (begins x i.0.0 h.read h.derives) in
            let less : length i.0.1 ≤ f = omega (arith, ap length h.parts, length-append h.read i.0.1) in
            let k = steps_sound f (step x i.0.0) i.0.1 c.0 less c.1 in
            subst (λ (z : List U × List K). Found (Steps step S x) (row_stop test stop) s z) (ok_is (i.0.0 ∷ c.0.0, c.0.1) z c.2) (record {
              read = h.read ++ k.read;
              derives = record { front = h.read; back = k.read; left = h.derives; right = k.derives; whole = refl };
              parts = h.parts ∙ ap (λ (z : List K). h.read ++ z) k.parts ∙ sym (append_assoc h.read k.read c.0.1);
              stops = all_stop (step x i.0.0) i.0.0 c.0.0 k.read c.0.1 k.derives (ap (λ (s : List K). stop i.0.0 (first s)) (sym k.parts) ∙ h.stops) k.stops;
            })
        | inr a ↦ subst (λ (z : List U × List K). Found (Steps step S x) (row_stop test stop) s z) (ok_is ([], s) z a.1)
            (record { read = []; derives = refl; parts = refl; stops = not_false (head_is test (first s)) a.0 })
      ]

  pub steps_reads : (x : X) → Reads (Steps step S x) (row_stop test stop) (steps test step q x)
  steps_reads x = record {
    complete = λ t w r d st. steps_complete (length (w ++ r)) x t w r (omega arith) d st;
    sound = λ s z e. steps_sound (length s) x s z (omega arith) e;
  }

-- ---- refusals

pub steps_map : {K X U : Type 0} (step : X → U → X) (S R : X → U → List K → Type 0) → ((x : X) (u : U) (w : List K) → S x u w → R x u w) → (x : X) (us : List U) (w : List K) → Steps step S x us w → Steps step R x us w
steps_map step S R f x [] w d = d
steps_map step S R f x (u ∷ us) w d = record { front = d.front; back = d.back; left = f x u d.front d.left; right = steps_map step S R f (step x u) us d.back d.right; whole = d.whole }

record StepsRefuse {K X U : Type 0} (test : K → Bool) (step : X → U → X) (S : Room → X → U → List K → Type 0) (q : Room → X → Reader K U) (x : X) (g : Room) (s : List K) (e : Code × List K) : Type 0 where
  read : List K
  parts : s ≡ read ++ e.1
  viable : Viable (Steps step (S g) x) read
  local : (k : Room) (f : ℕ) (r : List K) → length (read ++ r) ≤ f → Alike e.0 g k → first r ≡ first e.1 → steps_by test step (q k) f x (read ++ r) ≡ Err (e.0, r)
  deep : (e.0 ≡ Grammar → ⊥) → Goes (λ k. Steps step (S k) x) e.0 g read e.1

pub no_step : {K X U : Type 0} (step : X → U → X) (S : X → U → List K → Type 0) (x : X) → Viable (Steps step S x) []
no_step step S x = record { tree = []; more = []; derives = refl }

one_step : {K X U : Type 0} (step : X → U → X) (S : X → U → List K → Type 0) (x : X) (u : List K) → Viable (S x) u → Viable (Steps step S x) u
one_step step S x u v = record {
  tree = v.tree ∷ [];
  more = v.more;
  derives = record { front = u ++ v.more; back = []; left = v.derives; right = refl; whole = sym (append-nil (u ++ v.more)) };
}

more_steps : {K X U : Type 0} (step : X → U → X) (S : X → U → List K → Type 0) (x : X) (y : U) (w u : List K) → S x y w → Viable (Steps step S (step x y)) u → Viable (Steps step S x) (w ++ u)
more_steps step S x y w u d v = record {
  tree = y ∷ v.tree;
  more = v.more;
  derives = record { front = w; back = u ++ v.more; left = d; right = v.derives; whole = append_assoc w u v.more };
}

module _ {K X U : Type 0} (test : K → Bool) (step : X → U → X) (stop : U → Option K → Bool) (S : Room → X → U → List K → Type 0) (q : Room → X → Reader K U)
    (begins : (h : Room) (x : X) (u : U) (w : List K) → S h x u w → head_is test (first w) ≡ true) (mono : (h k : Room) (x : X) (u : U) (w : List K) → Under h k → S h x u w → S k x u w)
    (Q : (k : Room) (x : X) → Reads (S k x) stop (q k x)) where
  fails_first : (k : Room) (f : ℕ) (x : X) (s : List K) (e : Code × List K) → length s ≤ f → head_is test (first s) ≡ true → q k x s ≡ Err e → steps_by test step (q k) f x s ≡ Err e
  unfolding steps_by
  fails_first k zero x s e le at i = let some = nonempty test s at in absurd (omega arith)
  fails_first k (suc f) x s e le at i = rw at (rw i refl)

  fails_later : (k : Room) (f : ℕ) (x : X) (s : List K) (z : U × List K) (e : Code × List K) → length s ≤ f → head_is test (first s) ≡ true → q k x s ≡ Ok z
      → ((m : ℕ) → f ≡ suc m → steps_by test step (q k) m (step x z.0) z.1 ≡ Err e) → steps_by test step (q k) f x s ≡ Err e
  unfolding steps_by
  fails_later k zero x s z e le at i later = let some = nonempty test s at in absurd (omega arith)
  fails_later k (suc f) x s z e le at i later = rw at (rw i (rw (later f refl) refl))

  steps_refuses_by : (g : Room) → ((x : X) (s : List K) (e : Code × List K) → q g x s ≡ Err e → Refuses (λ k. S k x) (λ k. q k x) g s e)
      → (f : ℕ) (x : X) (s : List K) (e : Code × List K) → length s ≤ f → steps_by test step (q g) f x s ≡ Err e → StepsRefuse test step S q x g s e
  unfolding steps_by
  steps_refuses_by g fq zero x s e le i = absurd cc
  steps_refuses_by g fq (suc f) x s e le i =
      elim (chosen (head_is test (first s)) (q g x s >>= λ y. steps_by test step (q g) f (step x y.0) y.1 >>= λ t. Ok (y.0 ∷ t.0, t.1)) (Ok ([], s)) (Err e) i) [
        | inl a ↦
            elim (err_of (q g x s) (λ y. steps_by test step (q g) f (step x y.0) y.1 >>= λ t. Ok (y.0 ∷ t.0, t.1)) e a.1) [
              | inl c ↦
                  let h = fq x s e c in
                  record {
                    read = h.read;
                    parts = h.parts;
                    viable = viable_or (Steps step (S g) x) h.read (no_step step (S g) x) (elim h.viable [ inl z ↦ inl z | inr v ↦ inr (one_step step (S g) x h.read v) ]);
                    local = λ k m r lm al o.
                        fails_first k m x (h.read ++ r) (e.0, r) lm (ap (head_is test) (first-append h.read r e.1 o ∙ ap first (sym h.parts)) ∙ a.0) (h.local k r al o);
                    deep = λ dp. let d = h.deep dp in record {
                      room = d.room;
                      eased = d.eased;
                      token = d.token;
                      is = d.is;
                      viable = one_step step (S d.room) x (h.read ++ d.token ∷ []) d.viable;
                    };
                  }
              | inr c ↦
                  elim (err_of (steps_by test step (q g) f (step x c.0.0) c.0.1) (λ t. Ok (c.0.0 ∷ t.0, t.1)) e c.2) [
                    | inl i ↦
                        let h = (Q g x).sound s c.0 c.1 in
                        let some = nonempty test h.read (begins g x c.0.0 h.read h.derives) in
                        let less : length c.0.1 ≤ f = omega (arith, ap length h.parts, length-append h.read c.0.1) in
                        let l = steps_refuses_by g fq f (step x c.0.0) c.0.1 e less i in
                        record {
                          read = h.read ++ l.read;
                          parts = h.parts ∙ ap (λ (z : List K). h.read ++ z) l.parts ∙ sym (append_assoc h.read l.read e.1);
                          viable = more_steps step (S g) x c.0.0 h.read l.read h.derives l.viable;
                          local = λ k m r lm al o.
                              let regrouped : (h.read ++ l.read) ++ r ≡ h.read ++ (l.read ++ r) = append_assoc h.read l.read r in
                              let lm' : length (h.read ++ (l.read ++ r)) ≤ m = subst (λ (z : List K). length z ≤ m) regrouped lm in
                              let over = alike_le e.0 g k al in
                              subst (λ (z : List K). steps_by test step (q k) m x z ≡ Err (e.0, r)) (sym regrouped)
                              (fails_later k m x (h.read ++ (l.read ++ r)) (c.0.0, l.read ++ r) (e.0, r) lm'
                              (head-append test h.read (l.read ++ r) (begins g x c.0.0 h.read h.derives))
                              ((Q k x).complete c.0.0 h.read (l.read ++ r) (mono g k x c.0.0 h.read over h.derives) (ap (stop c.0.0) (first-append l.read r e.1 o ∙ ap first (sym l.parts)) ∙ h.stops))
                              (λ j is. l.local k j r (omega (arith, length-append h.read (l.read ++ r))) al o));
                          deep = λ dp. let d = l.deep dp in record {
                            room = d.room;
                            eased = d.eased;
                            token = d.token;
                            is = d.is;
                            viable = subst (Viable (Steps step (S d.room) x)) (sym (append_assoc h.read l.read (d.token ∷ [])))
                                (more_steps step (S d.room) x c.0.0 h.read (l.read ++ d.token ∷ []) (mono g d.room x c.0.0 h.read (eased_under e.0 g d.room d.eased) h.derives) d.viable);
                          };
                        }
                    | inr i ↦ not_both (c.0.0 ∷ i.0.0, i.0.1) e i.2
                  ]
            ]
        | inr a ↦ not_both ([], s) e a.1
      ]

  pub steps_refuses : (x : X) (g : Room) → ((x : X) (s : List K) (e : Code × List K) → q g x s ≡ Err e → Refuses (λ k. S k x) (λ k. q k x) g s e)
      → (s : List K) (e : Code × List K) → steps test step (q g) x s ≡ Err e → Refuses (λ k. Steps step (S k) x) (λ k. steps test step (q k) x) g s e
  steps_refuses x g fq s e i =
      let h = steps_refuses_by g fq (length s) x s e (omega arith) i in
      record {
        read = h.read;
        parts = h.parts;
        viable = inr h.viable;
        deep = h.deep;
        local = λ k r al o. h.local k (length (h.read ++ r)) r (omega arith) al o;
      }

-- one more item at the end
pub steps_snoc : {K X U : Type 0} (step : X → U → X) (S : X → U → List K → Type 0) (x : X) (us : List U) (u : U) (v w : List K) → Steps step S x us v → S (ups step x us) u w → Steps step S x (us ++ u ∷ []) (v ++ w)
steps_snoc step S x [] u v w d e = record { front = w; back = []; left = e; right = refl; whole = ap (λ (z : List _). z ++ w) d ∙ sym (append-nil w) }
steps_snoc step S x (y ∷ ys) u v w d e = record {
  front = d.front;
  back = d.back ++ w;
  left = d.left;
  right = steps_snoc step S (step x y) ys u d.back w d.right e;
  whole = ap (λ (z : List _). z ++ w) d.whole ∙ append_assoc d.front d.back w;
}

pub ups_snoc : {X U : Type 0} (step : X → U → X) (x : X) (us : List U) (u : U) → ups step x (us ++ u ∷ []) ≡ step (ups step x us) u
ups_snoc step x [] u = refl
ups_snoc step x (y ∷ ys) u = ups_snoc step (step x y) ys u
