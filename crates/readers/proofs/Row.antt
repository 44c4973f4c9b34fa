-- Items as long as a test lets the next token through.
use Rattle.std.proofs.Common.{◌≡◌, ℕ, zero, suc, ◌≤◌, ◌<◌, Bool, true, false, not, ◌&&◌, List, [], ◌∷◌, ◌++◌, length, Option, Ok, Err, refl, sym, ap, subst, ◌∙◌, append_assoc, append-nil, arith, inl, inr}
use Rattle.std.proofs.lemmas.List.{length-append}
use Rattle.readers.specs.declared.code.Code.{Code}
use Rattle.readers.specs.declared.code.Code.TheVariants.{Grammar}
use Rattle.readers.specs.Reader.{first, Reader, ◌>>=◌, both, head_is, row_by, row}
use Rattle.readers.specs.Language.{Both, Viable, Row}
use Rattle.readers.specs.Room.{Room, Under, Alike}
use Rattle.readers.specs.Exact.{Found, Reads, Goes, Refuses, row_stop, always}
use Rattle.readers.proofs.Pair.{both_reads_by}
use Rattle.readers.proofs.Outcome.{eased_under, first-append, ok_of, err_of, ok_is, not_both, alike_le, viable_or, chosen, head-append}

pub nonempty : {K : Type 0} (test : K → Bool) (u : List K) → head_is test (first u) ≡ true → 0 < length u
nonempty test [] e = absurd cc
nonempty test (c ∷ u) e = omega arith

pub both_true : (a b : Bool) → (a && b) ≡ true → (a ≡ true) × (b ≡ true)
both_true true b e = (refl, e)
both_true false b e = absurd cc

pub not_true : (b : Bool) → not b ≡ true → b ≡ false
not_true true e = absurd cc
not_true false e = refl

pub not_false : (b : Bool) → b ≡ false → not b ≡ true
not_false b e = rw e refl

module _ {K T : Type 0} (test : K → Bool) (stop : T → Option K → Bool) where
  -- a row that has ended does not go on
  pub row_ends : (xs : List T) (o : Option K) → row_stop test stop xs o ≡ true → head_is test o ≡ false
  row_ends [] o e = not_true (head_is test o) e
  row_ends (x ∷ []) o e = not_true (head_is test o) (both_true (stop x o) (not (head_is test o)) e).1
  row_ends (x ∷ y ∷ ys) o e = row_ends (y ∷ ys) o e

module _ {K T : Type 0} (test : K → Bool) (stop : T → Option K → Bool) (D : T → List K → Type 0)
    (begins : (x : T) (w : List K) → D x w → head_is test (first w) ≡ true) (next : (x : T) (o : Option K) → head_is test o ≡ true → stop x o ≡ true) where
  -- an item is stopped by the items after it, or by what stops the row
  item_stops : (x : T) (xs : List T) (v r : List K) → Row D xs v → row_stop test stop (x ∷ xs) (first r) ≡ true → stop x (first (v ++ r)) ≡ true
  item_stops x [] v r d e = subst (λ (v : List K). stop x (first (v ++ r)) ≡ true) (sym d) (both_true (stop x (first r)) (not (head_is test (first r))) e).0
  item_stops x (y ∷ ys) v r d e =
      subst (λ (v : List K). stop x (first (v ++ r)) ≡ true) (sym d.whole)
      (next x (first ((d.front ++ d.back) ++ r)) (head-append test (d.front ++ d.back) r (head-append test d.front d.back (begins y d.front d.left))))

  rest_stops : (x : T) (xs : List T) (o : Option K) → row_stop test stop (x ∷ xs) o ≡ true → row_stop test stop xs o ≡ true
  rest_stops x [] o e = (both_true (stop x o) (not (head_is test o)) e).1
  rest_stops x (y ∷ ys) o e = e

  row_stops : (x : T) (xs : List T) (v r : List K) → Row D xs v → stop x (first (v ++ r)) ≡ true → row_stop test stop xs (first r) ≡ true → row_stop test stop (x ∷ xs) (first r) ≡ true
  row_stops x [] v r d i e =
      let i' : stop x (first r) ≡ true = subst (λ (v : List K). stop x (first (v ++ r)) ≡ true) d i in
      rw i' e
  row_stops x (y ∷ ys) v r d i e = e

  module _ (p : Reader K T) (P : Reads D stop p) where
    pub row_complete : (n : ℕ) (xs : List T) (w r : List K) → length (w ++ r) ≤ n → Row D xs w → row_stop test stop xs (first r) ≡ true → row_by test p n (w ++ r) ≡ Ok (xs, r)
    unfolding row_by
    row_complete zero [] w r le d st = subst (λ (w : List K). row_by test p zero (w ++ r) ≡ Ok ([], r)) (sym d) refl
    row_complete (suc n) [] w r le d st = subst (λ (w : List K). row_by test p (suc n) (w ++ r) ≡ Ok ([], r)) (sym d) (rw (not_true (head_is test (first r)) st) refl)
    row_complete zero (x ∷ xs) w r le d st =
        let some = nonempty test d.front (begins x d.front d.left) in
        absurd (omega (arith, length-append w r, ap length d.whole, length-append d.front d.back))
    row_complete (suc n) (x ∷ xs) w r le d st =
        let regrouped : w ++ r ≡ d.front ++ (d.back ++ r) = ap (λ (z : List K). z ++ r) d.whole ∙ append_assoc d.front d.back r in
        let some = nonempty test d.front (begins x d.front d.left) in
        let less : length (d.back ++ r) ≤ n = omega (arith, ap length regrouped, length-append d.front (d.back ++ r)) in
        ap (row_by test p (suc n)) regrouped
        ∙ rw (head-append test d.front (d.back ++ r) (begins x d.front d.left))
        (rw (P.complete x d.front (d.back ++ r) d.left (item_stops x xs d.back r d.right st))
        (rw (row_complete n xs d.back r less d.right (rest_stops x xs (first r) st)) refl))

    pub row_sound : (n : ℕ) (s : List K) (z : List T × List K) → length s ≤ n → row_by test p n s ≡ Ok z → Found (Row D) (row_stop test stop) s z
    unfolding row_by
    row_sound zero [] z le e = subst (λ (z : List T × List K). Found (Row D) (row_stop test stop) [] z) (ok_is ([], []) z e) (record { read = []; derives = refl; parts = refl; stops = refl })
    row_sound zero (c ∷ s) z le e = absurd (omega arith)
    row_sound (suc n) s z le e =
        elim (chosen (head_is test (first s)) (p s >>= (λ x. row_by test p n x.1 >>= λ y. Ok (x.0 ∷ y.0, y.1))) (Ok ([], s)) (Ok z) e) [
          | inl a ↦
              let b = ok_of (p s) (λ x. row_by test p n x.1 >>= λ y. Ok (x.0 ∷ y.0, y.1)) z a.1 in
              let c = ok_of (row_by test p n b.0.1) (λ y. Ok (b.0.0 ∷ y.0, y.1)) z b.2 in
              let f = P.sound s b.0 b.1 in
              let some = nonempty test f.read (begins b.0.0 f.read f.derives) in
              let less : length b.0.1 ≤ n = omega (arith, ap length f.parts, length-append f.read b.0.1) in
              let g = row_sound n b.0.1 c.0 less c.1 in
              subst (λ (z : List T × List K). Found (Row D) (row_stop test stop) s z) (ok_is (b.0.0 ∷ c.0.0, c.0.1) z c.2) (record {
                read = f.read ++ g.read;
                derives = record { front = f.read; back = g.read; left = f.derives; right = g.derives; whole = refl };
                parts = f.parts ∙ ap (λ (z : List K). f.read ++ z) g.parts ∙ sym (append_assoc f.read g.read c.0.1);
                stops = row_stops b.0.0 c.0.0 g.read c.0.1 g.derives (ap (λ (s : List K). stop b.0.0 (first s)) (sym g.parts) ∙ f.stops) g.stops;
              })
          | inr a ↦ subst (λ (z : List T × List K). Found (Row D) (row_stop test stop) s z) (ok_is ([], s) z a.1)
              (record { read = []; derives = refl; parts = refl; stops = not_false (head_is test (first s)) a.0 })
        ]

    pub row_reads : Reads (Row D) (row_stop test stop) (row test p)
    row_reads = record {
      complete = λ t w r d st. row_complete (length (w ++ r)) t w r (omega arith) d st;
      sound = λ s z e. row_sound (length s) s z (omega arith) e;
    }

-- one item or more
pub rows_reads : {K T : Type 0} (test : K → Bool) (stop : T → Option K → Bool) (D : T → List K → Type 0) → ((x : T) (w : List K) → D x w → head_is test (first w) ≡ true) → ((x : T) (o : Option K) → head_is test o ≡ true → stop x o ≡ true)
    → (p : Reader K T) → Reads D stop p → Reads (Both D (Row D)) (λ x. row_stop test stop (x.0 ∷ x.1)) (both p (row test p))
rows_reads test stop D begins next p P =
    both_reads_by D (Row D) stop (row_stop test stop) p (row test p) (λ x. row_stop test stop (x.0 ∷ x.1))
    (λ x xs v r d e. (item_stops test stop D begins next x xs v r d e, rest_stops test stop D begins next x xs (first r) e))
    (λ x xs v r d i e. row_stops test stop D begins next x xs v r d i e)
    P (row_reads test stop D begins next p P)

pub row_mono : {K T : Type 0} (D : Room → T → List K → Type 0) → ((h k : Room) (x : T) (w : List K) → Under h k → D h x w → D k x w) → (h k : Room) (xs : List T) (w : List K) → Under h k → Row (D h) xs w → Row (D k) xs w
row_mono D mono h k [] w le d = d
row_mono D mono h k (x ∷ xs) w le d = record { front = d.front; back = d.back; left = mono h k x d.front le d.left; right = row_mono D mono h k xs d.back le d.right; whole = d.whole }

-- a refusal, with any bound on the number of items
record RowRefuses {K T : Type 0} (test : K → Bool) (D : Room → T → List K → Type 0) (p : Room → Reader K T) (h : Room) (s : List K) (e : Code × List K) : Type 0 where
  read : List K
  parts : s ≡ read ++ e.1
  viable : Viable (Row (D h)) read
  local : (k : Room) (n : ℕ) (q : List K) → length (read ++ q) ≤ n → Alike e.0 h k → first q ≡ first e.1 → row_by test (p k) n (read ++ q) ≡ Err (e.0, q)
  deep : (e.0 ≡ Grammar → ⊥) → Goes (λ k. Row (D k)) e.0 h read e.1

single : {K T : Type 0} (D : T → List K → Type 0) (u : List K) → Viable D u → Viable (Row D) u
single D u v = record {
  tree = v.tree ∷ [];
  more = v.more;
  derives = record { front = u ++ v.more; back = []; left = v.derives; right = refl; whole = sym (append-nil (u ++ v.more)) };
}

no_item : {K T : Type 0} (D : T → List K → Type 0) → Viable (Row D) []
no_item D = record { tree = []; more = []; derives = refl }

after_item : {K T : Type 0} (D : T → List K → Type 0) (x : T) (w u : List K) → D x w → Viable (Row D) u → Viable (Row D) (w ++ u)
after_item D x w u d v = record {
  tree = x ∷ v.tree;
  more = v.more;
  derives = record { front = w; back = u ++ v.more; left = d; right = v.derives; whole = append_assoc w u v.more };
}

module _ {K T : Type 0} (test : K → Bool) (stop : T → Option K → Bool) (D : Room → T → List K → Type 0)
    (begins : (h : Room) (x : T) (w : List K) → D h x w → head_is test (first w) ≡ true) (mono : (h k : Room) (x : T) (w : List K) → Under h k → D h x w → D k x w)
    (p : Room → Reader K T) (P : (k : Room) → Reads (D k) stop (p k)) where
  fails_first : (k : Room) (n : ℕ) (s : List K) (e : Code × List K) → length s ≤ n → head_is test (first s) ≡ true → p k s ≡ Err e → row_by test (p k) n s ≡ Err e
  unfolding row_by
  fails_first k zero s e le at i = let some = nonempty test s at in absurd (omega arith)
  fails_first k (suc n) s e le at i = rw at (rw i refl)

  fails_later : (k : Room) (n : ℕ) (s : List K) (z : T × List K) (e : Code × List K) → length s ≤ n → head_is test (first s) ≡ true → p k s ≡ Ok z → ((m : ℕ) → n ≡ suc m → row_by test (p k) m z.1 ≡ Err e) → row_by test (p k) n s ≡ Err e
  unfolding row_by
  fails_later k zero s z e le at i f = let some = nonempty test s at in absurd (omega arith)
  fails_later k (suc n) s z e le at i f = rw at (rw i (rw (f n refl) refl))

  row_refuses_by : (h : Room) → ((s : List K) (e : Code × List K) → p h s ≡ Err e → Refuses D p h s e)
      → (n : ℕ) (s : List K) (e : Code × List K) → length s ≤ n → row_by test (p h) n s ≡ Err e → RowRefuses test D p h s e
  unfolding row_by
  row_refuses_by h fp zero s e le i = absurd cc
  row_refuses_by h fp (suc n) s e le i =
      elim (chosen (head_is test (first s)) (p h s >>= (λ x. row_by test (p h) n x.1 >>= λ y. Ok (x.0 ∷ y.0, y.1))) (Ok ([], s)) (Err e) i) [
        | inl a ↦
            elim (err_of (p h s) (λ x. row_by test (p h) n x.1 >>= λ y. Ok (x.0 ∷ y.0, y.1)) e a.1) [
              | inl b ↦
                  let f = fp s e b in
                  record {
                    read = f.read;
                    parts = f.parts;
                    viable = viable_or (Row (D h)) f.read (no_item (D h)) (elim f.viable [ inl z ↦ inl z | inr v ↦ inr (single (D h) f.read v) ]);
                    local = λ k m q lm al c.
                        fails_first k m (f.read ++ q) (e.0, q) lm (ap (head_is test) (first-append f.read q e.1 c ∙ ap first (sym f.parts)) ∙ a.0) (f.local k q al c);
                    deep = λ dp. let d = f.deep dp in record {
                      room = d.room;
                      eased = d.eased;
                      token = d.token;
                      is = d.is;
                      viable = single (D d.room) (f.read ++ d.token ∷ []) d.viable;
                    };
                  }
              | inr b ↦
                  elim (err_of (row_by test (p h) n b.0.1) (λ y. Ok (b.0.0 ∷ y.0, y.1)) e b.2) [
                    | inl c ↦
                        let f = (P h).sound s b.0 b.1 in
                        let some = nonempty test f.read (begins h b.0.0 f.read f.derives) in
                        let less : length b.0.1 ≤ n = omega (arith, ap length f.parts, length-append f.read b.0.1) in
                        let g = row_refuses_by h fp n b.0.1 e less c in
                        record {
                          read = f.read ++ g.read;
                          parts = f.parts ∙ ap (λ (z : List K). f.read ++ z) g.parts ∙ sym (append_assoc f.read g.read e.1);
                          viable = after_item (D h) b.0.0 f.read g.read f.derives g.viable;
                          local = λ k m q lm al c.
                              let regrouped : (f.read ++ g.read) ++ q ≡ f.read ++ (g.read ++ q) = append_assoc f.read g.read q in
                              let lm' : length (f.read ++ (g.read ++ q)) ≤ m = subst (λ (z : List K). length z ≤ m) regrouped lm in
                              subst (λ (z : List K). row_by test (p k) m z ≡ Err (e.0, q)) (sym regrouped)
                              (fails_later k m (f.read ++ (g.read ++ q)) (b.0.0, g.read ++ q) (e.0, q) lm'
                              (head-append test f.read (g.read ++ q) (begins h b.0.0 f.read f.derives))
                              ((P k).complete b.0.0 f.read (g.read ++ q) (mono h k b.0.0 f.read (alike_le e.0 h k al) f.derives)
                              (ap (stop b.0.0) (first-append g.read q e.1 c ∙ ap first (sym g.parts)) ∙ f.stops))
                              (λ j is. g.local k j q (omega (arith, length-append f.read (g.read ++ q))) al c));
                          deep = λ dp. let d = g.deep dp in record {
                            room = d.room;
                            eased = d.eased;
                            token = d.token;
                            is = d.is;
                            viable = subst (Viable (Row (D d.room))) (sym (append_assoc f.read g.read (d.token ∷ [])))
                                (after_item (D d.room) b.0.0 f.read (g.read ++ d.token ∷ []) (mono h d.room b.0.0 f.read (eased_under e.0 h d.room d.eased) f.derives) d.viable);
                          };
                        }
                    | inr c ↦ not_both (b.0.0 ∷ c.0.0, c.0.1) e c.2
                  ]
            ]
        | inr a ↦ not_both ([], s) e a.1
      ]

  pub row_refuses : (h : Room) → ((s : List K) (e : Code × List K) → p h s ≡ Err e → Refuses D p h s e)
      → (s : List K) (e : Code × List K) → row test (p h) s ≡ Err e → Refuses (λ k. Row (D k)) (λ k. row test (p k)) h s e
  row_refuses h fp s e i =
      let g = row_refuses_by h fp (length s) s e (omega arith) i in
      record {
        read = g.read;
        parts = g.parts;
        viable = inr g.viable;
        deep = g.deep;
        local = λ k q al b. g.local k (length (g.read ++ q)) q (omega arith) al b;
      }

pub row_stop_if : {K T : Type 0} (test : K → Bool) (stop : T → Option K → Bool) (xs : List T) (o : Option K) → head_is test o ≡ false → ((x : T) → stop x o ≡ true) → row_stop test stop xs o ≡ true
row_stop_if test stop [] o e f = not_false (head_is test o) e
row_stop_if test stop (x ∷ []) o e f = rw (f x) (not_false (head_is test o) e)
row_stop_if test stop (x ∷ y ∷ ys) o e f = row_stop_if test stop (y ∷ ys) o e f

pub row_stop_alone : {K T : Type 0} (test : K → Bool) (xs : List T) (o : Option K) → row_stop test always xs o ≡ not (head_is test o)
row_stop_alone test [] o = refl
row_stop_alone test (x ∷ []) o = refl
row_stop_alone test (x ∷ y ∷ ys) o = row_stop_alone test (y ∷ ys) o
