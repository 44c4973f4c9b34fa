-- Infix rows are read exactly.
use Rattle.std.proofs.Common.{◌≡◌, ℕ, zero, suc, ◌+◌, ◌≤◌, ◌⊎◌, Bool, true, false, not, ◌&&◌, ◌||◌, ltb, List, [], ◌∷◌, ◌++◌, Option, Some, None, Err, refl, sym, ap, subst, ◌∙◌, append_assoc, arith, inl, inr}
use Rattle.std.proofs.lemmas.List.{append-nil}
use Rattle.readers.specs.declared.code.Code.{Code}
use Rattle.readers.specs.declared.code.Code.TheVariants.{Grammar}
use Rattle.readers.specs.Reader.{first, head_is, Reader, token_by, bound, steps, barred}
use Rattle.readers.specs.Language.{Joined, Bound, Viable, Shows, Steps, Passing}
use Rattle.readers.specs.Room.{Room, at_height, Under, Higher, Eased, Alike}
use Rattle.readers.specs.Exact.{Reads, Refuses, always, row_stop}
use Rattle.readers.specs.declared.floor.Floor.{Floor}
use Rattle.readers.specs.Infix.{ups, chain, floor_of, reaches, sided, before, agrees, Above, AboveTop, Left, judge, seen_by, takes, bars, bar, wrap, suffix_read, infix_read}
use Rattle.readers.proofs.Outcome.{eased_under}
use Rattle.readers.proofs.Row.{both_true, not_true, not_false}
use Rattle.readers.proofs.Mapped.{Made, more, mapped_reads_by, mapped_refuses}
use Rattle.readers.proofs.Token.{token_reads, token_refuses}
use Rattle.readers.proofs.Dependent.{bound_reads, bound_reads_by, bound_refuses}
use Rattle.readers.proofs.Guard.{guard_reads, guard_refuses, Bars}
use Rattle.readers.proofs.Steps.{steps_reads, steps_refuses, steps_map, steps_snoc, ups_snoc, no_step}
use Rattle.readers.proofs.Precedence.{verdict_some, verdict_low, verdict_clash, both_are, above_under, next_stops, floor_stops, judged, judges, judge_mono, top_mono}

module _ {K V A E : Type 0} (tight : V → ℕ) (right : V → Bool) (view : K → Option V) (top : E → Option V) (tall : E → ℕ) (leaf : A → E) (node : E → V → E → E) where
  -- one level of the trees of infix rows
  pub record Rows (O : Room → A → List K → Type 0) (G : Room → E → List K → Type 0) : Type 0 where
    pub top_leaf : (a : A) → top (leaf a) ≡ None
    pub top_node : (l : E) (v : V) (r : E) → top (node l v r) ≡ Some v
    pub in_leaf : (h : Room) (a : A) (w : List K) → O (more h) a w → G (more h) (leaf a) w
    pub in_node : (h : Room) (l : E) (v : V) (r : E) (w : List K) → Left tight right h.clashes (top l) v → AboveTop tight right h.clashes (floor_of tight right v) (top r)
        → Joined (G h l) (Joined (Shows view v) (G h r)) w → G (more h) (node l v r) w
    pub out : (h : Room) (t : E) (w : List K) → G (more h) t w
        → ((a : A) × (leaf a ≡ t) × O (more h) a w)
        ⊎ ((l : E) × (v : V) × (r : E) × (node l v r ≡ t) × Left tight right h.clashes (top l) v × AboveTop tight right h.clashes (floor_of tight right v) (top r) × Joined (G h l) (Joined (Shows view v) (G h r)) w)
    pub none : (b : Bool) (t : E) (w : List K) → G (at_height 0 b) t w → ⊥
    pub least : (h : Room) (t : E) (w : List K) → G h t w → tall t ≤ h.height
    pub fits : (h k : Room) (t : E) (w : List K) → G h t w → tall t ≤ k.height → k.clashes ≡ h.clashes → G k t w
    pub mono : (h k : Room) (t : E) (w : List K) → Under h k → G h t w → G k t w
    pub operand_mono : (h k : Room) (a : A) (w : List K) → Under h k → O h a w → O k a w

  module _ (O : Room → A → List K → Type 0) (G : Room → E → List K → Type 0) (R : Rows O G) where
    -- the trees that may stand on this floor
    abbrev pub On : Room → Floor → E → List K → Type 0
    On h n t w = AboveTop tight right h.clashes n (top t) × G h t w

    abbrev pub Suffix : Room → Floor → E → V × E → List K → Type 0
    Suffix h n x = Passing (bar tight right view top tall leaf node h n x) (Bound (Shows view) (λ v. On h (floor_of tight right v)))

    abbrev pub Parts : Room → Floor → A × List (V × E) → List K → Type 0
    Parts h n = Bound (O (more h)) (λ a. Steps (wrap tight right view top tall leaf node) (Suffix h n) (leaf a))

    pub on_mono : (h k : Room) (n : Floor) (t : E) (w : List K) → Under h k → On h n t w → On k n t w
    on_mono h k n t w u d = (top_mono tight right h.clashes k.clashes n (top t) u.1 d.0, R.mono h k t w u d.1)

    -- the first token of a suffix is its operator, and passes
    record Begins (h : Room) (n : Floor) (x : E) (u : V × E) (w : List K) : Type 0 where
      token : K
      rest : List K
      whole : w ≡ token ∷ rest
      shows : view token ≡ Some u.0
      passes : judge tight right h n (top x) (tall x) u.0 ≡ None

    suffix_begins : (h : Room) (n : Floor) (x : E) (u : V × E) (w : List K) → Suffix h n x u w → Begins h n x u w
    suffix_begins h n x u w d =
        let j = d.1 in
        let l = j.left in
        let whole : w ≡ l.token ∷ j.back = j.whole ∙ ap (λ (z : List K). z ++ j.back) l.whole in
        record {
          token = l.token;
          rest = j.back;
          whole = whole;
          shows = l.shows;
          passes = ap (bars tight right view top tall leaf node h n x) (sym l.shows) ∙ (ap (λ (z : List K). barred (bar tight right view top tall leaf node h n x) (first z)) (sym whole) ∙ d.0);
        }

    suffix_never : (h : Room) (u : V × E) → Bound (Shows view) (λ v. On h (floor_of tight right v)) u [] → ⊥
    suffix_never h u d =
        let l = d.left in
        let whole : [] ≡ l.token ∷ d.back = d.whole ∙ ap (λ (z : List K). z ++ d.back) l.whole in
        absurd cc

    module _ (stop : Option K → Bool) (op_stops : (c : K) (v : V) → view c ≡ Some v → stop (Some c) ≡ true) where
      -- what cannot follow a row on this floor
      abbrev pub ends : Floor → Option K → Bool
      ends n o = stop o && not (head_is (takes tight right view top tall leaf node n) o)

      abbrev suffix_ends : V × E → Option K → Bool
      suffix_ends u = ends (floor_of tight right u.0)

      op_takes : (n : Floor) (w : List K) (c : K) (v : V) (s : List K) → w ≡ c ∷ s → view c ≡ Some v → (b : Bool) → reaches tight right n v ≡ b → head_is (takes tight right view top tall leaf node n) (first w) ≡ b
      op_takes n w c v s e i b j = ap (λ (z : List K). head_is (takes tight right view top tall leaf node n) (first z)) e ∙ (ap (seen_by tight right view top tall leaf node (reaches tight right n)) i ∙ j)

      suffix_takes : (h : Room) (n : Floor) (x : E) (u : V × E) (w : List K) → Suffix h n x u w → head_is (takes tight right view top tall leaf node n) (first w) ≡ true
      suffix_takes h n x u w d =
          let b = suffix_begins h n x u w d in
          op_takes n w b.token u.0 b.rest b.whole b.shows true (judged tight right h n (top x) (tall x) u.0 b.passes).0.0

      suffix_next : (h : Room) (n : Floor) (x : E) (u v : V × E) (w r : List K) → Suffix h n (node x u.0 u.1) v w → suffix_ends u (first (w ++ r)) ≡ true
      suffix_next h n x u v w r d =
          let b = suffix_begins h n (node x u.0 u.1) v w d in
          let l = (judged tight right h n (top (node x u.0 u.1)) (tall (node x u.0 u.1)) v.0 b.passes).1 in
          let after = next_stops tight right u.0 v.0 (subst (λ (o : Option V). before tight right o v.0 ≡ true) (R.top_node x u.0 u.1) l.0) in
          let at : w ++ r ≡ b.token ∷ (b.rest ++ r) = ap (λ (z : List K). z ++ r) b.whole in
          both_are (stop (first (w ++ r))) _ (ap (λ (z : List K). stop (first z)) at ∙ op_stops b.token v.0 b.shows)
          (not_false _ (op_takes (floor_of tight right u.0) (w ++ r) b.token v.0 (b.rest ++ r) at b.shows false after))

      -- ---- the parts and the tree

      to_by : (h : Room) (n : Floor) (x : E) (us : List (V × E)) (v w : List K) → On (more h) n x v → Steps (wrap tight right view top tall leaf node) (Suffix h n) x us w → On (more h) n (ups (wrap tight right view top tall leaf node) x us) (v ++ w)
      to_by h n x [] v w d e = subst (λ (z : List K). On (more h) n x z) (sym (ap (λ (z : List K). v ++ z) e ∙ append-nil v)) d
      to_by h n x (u ∷ us) v w d e =
          let j = e.left in
          let b = suffix_begins h n x u e.front j in
          let g = judged tight right h n (top x) (tall x) u.0 b.passes in
          let i = j.1 in
          let here : G (more h) (node x u.0 u.1) (v ++ e.front) = R.in_node h x u.0 u.1 (v ++ e.front) g.1 i.right.0
          (record { front = v; back = e.front; left = R.fits (more h) h x v d.1 g.2 refl; right = record { front = i.front; back = i.back; left = i.left; right = i.right.1; whole = i.whole }; whole = refl }) in
          let up : AboveTop tight right h.clashes n (top (node x u.0 u.1)) = subst (AboveTop tight right h.clashes n) (sym (R.top_node x u.0 u.1)) g.0 in
          subst (λ (z : List K). On (more h) n (ups (wrap tight right view top tall leaf node) (node x u.0 u.1) us) z)
          (append_assoc v e.front e.back ∙ ap (λ (z : List K). v ++ z) (sym e.whole))
          (to_by h n (node x u.0 u.1) us (v ++ e.front) e.back (up, here) e.right)

      suffix_mono : (h k : Room) (n : Floor) (x : E) (u : V × E) (w : List K) → Under h k → Suffix h n x u w → Suffix k n x u w
      suffix_mono h k n x u w un d =
          let b = suffix_begins h n x u w d in
          let j = d.1 in (
            ap (λ (z : List K). barred (bar tight right view top tall leaf node k n x) (first z)) b.whole ∙ (ap (bars tight right view top tall leaf node k n x) b.shows ∙ judge_mono tight right h k n (top x) (tall x) u.0 un b.passes),
            record { front = j.front; back = j.back; left = j.left; right = on_mono h k (floor_of tight right u.0) u.1 j.back un j.right; whole = j.whole },
          )

      top_under : (b : Bool) (n : Floor) (o : Option V) (v : V) → Above tight right b n v → Left tight right b o v → AboveTop tight right b n o
      top_under b n None v a l = tt
      top_under b n (Some u) v a l = above_under tight right b n u v a l

      parts_mono : (h k : Room) (n : Floor) (p : A × List (V × E)) (w : List K) → Under h k → Parts h n p w → Parts k n p w
      parts_mono h k n p w u d = record {
        front = d.front;
        back = d.back;
        left = R.operand_mono (more h) (more k) p.0 d.front (let x = u.0 in omega arith, u.1) d.left;
        right = steps_map (wrap tight right view top tall leaf node) (Suffix h n) (Suffix k n) (λ x y v e. suffix_mono h k n x y v u e) (leaf p.0) p.1 d.back d.right;
        whole = d.whole;
      }

      parts_by : (m : ℕ) (b : Bool) (n : Floor) → ((t : E) (w : List K) → On (at_height m b) n t w → (p : A × List (V × E)) × (chain leaf (wrap tight right view top tall leaf node) p ≡ t) × Parts (at_height m b) n p w)
          → (t : E) (w : List K) → On (at_height (suc m) b) n t w → (p : A × List (V × E)) × (chain leaf (wrap tight right view top tall leaf node) p ≡ t) × Parts (at_height m b) n p w
      parts_by m b n inside t w d =
          elim (R.out (at_height m b) t w d.1) [
            | inl o ↦ ((o.0, []), o.1, record { front = w; back = []; left = o.2; right = refl; whole = sym (append-nil w) })
            | inr o ↦
                let l : E = o.0 in
                let v : V = o.1 in
                let r : E = o.2 in
                let j = o.6 in
                let up : Above tight right b n v = subst (AboveTop tight right b n) (sym (ap top o.3) ∙ R.top_node l v r) d.0 in
                let first_parts = inside l j.front (top_under b n (top l) v up o.4, j.left) in
                let p = first_parts.0 in
                let q = first_parts.2 in
                let k = j.right in
                let passes = judges tight right (at_height m b) n (top l) (tall l) v up o.4 (R.least (at_height m b) l j.front j.left) in
                let whole : j.back ≡ k.left.token ∷ k.back = k.whole ∙ ap (λ (z : List K). z ++ k.back) k.left.whole in
                let last : Suffix (at_height m b) n l (v, r) j.back = (
                  ap (λ (z : List K). barred (bar tight right view top tall leaf node (at_height m b) n l) (first z)) whole ∙ (ap (bars tight right view top tall leaf node (at_height m b) n l) k.left.shows ∙ passes),
                  record { front = k.front; back = k.back; left = k.left; right = (o.5, k.right); whole = k.whole },
                ) in (
                  (p.0, p.1 ++ (v, r) ∷ []),
                  ups_snoc (wrap tight right view top tall leaf node) (leaf p.0) p.1 (v, r) ∙ (ap (λ (x : E). node x v r) first_parts.1 ∙ o.3),
                  record {
                    front = q.front;
                    back = q.back ++ j.back;
                    left = q.left;
                    right = steps_snoc (wrap tight right view top tall leaf node) (Suffix (at_height m b) n) (leaf p.0) p.1 (v, r) q.back j.back q.right
                        (subst (λ (x : E). Suffix (at_height m b) n x (v, r) j.back) (sym first_parts.1) last);
                    whole = j.whole ∙ (ap (λ (z : List K). z ++ j.back) q.whole ∙ append_assoc q.front q.back j.back);
                  },
                )
          ]

      parts_of : (m : ℕ) (b : Bool) (n : Floor) (t : E) (w : List K) → On (at_height (suc m) b) n t w → (p : A × List (V × E)) × (chain leaf (wrap tight right view top tall leaf node) p ≡ t) × Parts (at_height m b) n p w
      parts_of zero b n t w d = parts_by zero b n (λ t w d. absurd (R.none b t w d.1)) t w d
      parts_of (suc m) b n t w d =
          parts_by (suc m) b n
          (λ t w d. let p = parts_of m b n t w d in (p.0, p.1, parts_mono (at_height m b) (at_height (suc m) b) n p.0 w (omega arith, λ e. e) p.2))
          t w d

      pub row_made : (h : Room) (n : Floor) → Made (chain leaf (wrap tight right view top tall leaf node)) (Parts h n) (On (more h) n)
      row_made h n = record {
        to = λ p w d.
            let top_is : AboveTop tight right h.clashes n (top (leaf p.0)) = subst (AboveTop tight right h.clashes n) (sym (R.top_leaf p.0)) tt in
            subst (λ (z : List K). On (more h) n (chain leaf (wrap tight right view top tall leaf node) p) z) (sym d.whole)
            (to_by h n (leaf p.0) p.1 d.front d.back (top_is, R.in_leaf h p.0 d.front d.left) d.right);
        from = λ t w d. parts_of h.height h.clashes n t w d;
      }

      -- ---- reading

      abbrev part_ends : Floor → A × List (V × E) → Option K → Bool
      part_ends n (a, []) o = ends n o
      part_ends n (a, u ∷ us) o = row_stop (takes tight right view top tall leaf node n) suffix_ends (u ∷ us) o

      -- what ends a row on this floor ends its last operand, and with the floor's own operators the other way round
      last_ends : (h : Room) (n : Floor) (x : E) (u : V × E) (us : List (V × E)) (w : List K) (o : Option K) → Steps (wrap tight right view top tall leaf node) (Suffix h n) x (u ∷ us) w → ends n o ≡ true
          → row_stop (takes tight right view top tall leaf node n) suffix_ends (u ∷ us) o ≡ true
      last_ends h n x u [] w o d e =
          let b = suffix_begins h n x u d.front d.left in
          let g = (judged tight right h n (top x) (tall x) u.0 b.passes).0.0 in
          let two = both_true (stop o) (not (head_is (takes tight right view top tall leaf node n) o)) e in
          both_are (suffix_ends u o) (not (head_is (takes tight right view top tall leaf node n) o)) (both_are (stop o) _ two.0 (not_false _ (still u.0 o g (not_true _ two.1)))) two.1
        where
          seen_still : (v : V) (o : Option V) → reaches tight right n v ≡ true → seen_by tight right view top tall leaf node (reaches tight right n) o ≡ false → seen_by tight right view top tall leaf node (reaches tight right (floor_of tight right v)) o ≡ false
          seen_still v None i j = refl
          seen_still v (Some w) i j = floor_stops tight right n v w i j

          still : (v : V) (o : Option K) → reaches tight right n v ≡ true → head_is (takes tight right view top tall leaf node n) o ≡ false → head_is (takes tight right view top tall leaf node (floor_of tight right v)) o ≡ false
          still v None i j = refl
          still v (Some c) i j = seen_still v (view c) i j
      last_ends h n x u (y ∷ ys) w o d e = last_ends h n (node x u.0 u.1) y ys d.back o d.right e

      ends_last : (n : Floor) (u : V × E) (us : List (V × E)) (o : Option K) → row_stop (takes tight right view top tall leaf node n) suffix_ends (u ∷ us) o ≡ true → ends n o ≡ true
      ends_last n u [] o e =
          let two = both_true (suffix_ends u o) (not (head_is (takes tight right view top tall leaf node n) o)) e in
          both_are (stop o) _ (both_true (stop o) _ two.0).0 two.1
      ends_last n u (y ∷ ys) o e = ends_last n y ys o e

      module _ (h : Room) (n : Floor) (operand : Reader K A) (inner : Floor → Reader K E)
          (operand_reads : Reads (O (more h)) (λ a. stop) operand) (inner_reads : (m : Floor) → Reads (On h m) (λ t. ends m) (inner m)) where
        pub suffix_reads : (x : E) → Reads (Suffix h n x) suffix_ends (suffix_read tight right view top tall leaf node inner h n x)
        suffix_reads x = guard_reads (bar tight right view top tall leaf node h n x) (Bound (Shows view) (λ v. On h (floor_of tight right v))) suffix_ends _ (λ u. suffix_never h u)
            (bound_reads (Shows view) (λ v. On h (floor_of tight right v)) always (λ v r. ends (floor_of tight right v)) (token_by view) (λ v. inner (floor_of tight right v)) (token_reads view) (λ v. inner_reads (floor_of tight right v)) (λ x y v r d e. refl))

        pub parts_reads : Reads (Parts h n) (part_ends n) (bound operand (λ a. steps (takes tight right view top tall leaf node n) (wrap tight right view top tall leaf node) (suffix_read tight right view top tall leaf node inner h n) (leaf a)))
        parts_reads = bound_reads_by (O (more h)) (λ a. Steps (wrap tight right view top tall leaf node) (Suffix h n) (leaf a)) (λ a. stop) (λ a. row_stop (takes tight right view top tall leaf node n) suffix_ends) operand _
            (part_ends n) split join operand_reads
            (λ a. steps_reads (takes tight right view top tall leaf node n) (wrap tight right view top tall leaf node) suffix_ends (Suffix h n) (suffix_read tight right view top tall leaf node inner h n)
            (λ x u w d. suffix_takes h n x u w d) (λ x u v w r d. suffix_next h n x u v w r d) suffix_reads (leaf a))
          where
            split : (a : A) (us : List (V × E)) (v r : List K) → Steps (wrap tight right view top tall leaf node) (Suffix h n) (leaf a) us v → part_ends n (a, us) (first r) ≡ true
                → (stop (first (v ++ r)) ≡ true) × (row_stop (takes tight right view top tall leaf node n) suffix_ends us (first r) ≡ true)
            split a [] v r d e =
                let two = both_true (stop (first r)) (not (head_is (takes tight right view top tall leaf node n) (first r))) e in
                (subst (λ (v : List K). stop (first (v ++ r)) ≡ true) (sym d) two.0, two.1)
            split a (u ∷ us) v r d e =
                let b = suffix_begins h n (leaf a) u d.front d.left in
                let at : v ++ r ≡ b.token ∷ ((b.rest ++ d.back) ++ r) = ap (λ (z : List K). z ++ r) (d.whole ∙ ap (λ (z : List K). z ++ d.back) b.whole) in
                (ap (λ (z : List K). stop (first z)) at ∙ op_stops b.token u.0 b.shows, e)

            join : (a : A) (us : List (V × E)) (v r : List K) → Steps (wrap tight right view top tall leaf node) (Suffix h n) (leaf a) us v → stop (first (v ++ r)) ≡ true
                → row_stop (takes tight right view top tall leaf node n) suffix_ends us (first r) ≡ true → part_ends n (a, us) (first r) ≡ true
            join a [] v r d e i = both_are (stop (first r)) _ (subst (λ (v : List K). stop (first (v ++ r)) ≡ true) d e) i
            join a (u ∷ us) v r d e i = i

        pub infix_reads : Reads (On (more h) n) (λ t. ends n) (infix_read tight right view top tall leaf node operand inner h n)
        infix_reads = mapped_reads_by (chain leaf (wrap tight right view top tall leaf node)) (Parts h n) (On (more h) n) (row_made h n) (part_ends n) (λ t. ends n) _ down up parts_reads
          where
            down : (p : A × List (V × E)) (w : List K) (o : Option K) → Parts h n p w → ends n o ≡ true → part_ends n p o ≡ true
            down (a, []) w o d e = e
            down (a, u ∷ us) w o d e = last_ends h n (leaf a) u us d.back o d.right e

            up : (p : A × List (V × E)) (w : List K) (o : Option K) → Parts h n p w → part_ends n p o ≡ true → ends n o ≡ true
            up (a, []) w o d e = e
            up (a, u ∷ us) w o d e = ends_last n u us o e

      -- ---- refusals

      module _ (low : ℕ) (low_tall : (t : E) → low ≤ tall t) (some : (h : Room) → low ≤ h.height → (t : E) × (w : List K) × (top t ≡ None) × G h t w)
          (operand : Room → Reader K A) (inner : Room → Floor → Reader K E)
          (operand_reads : (k : Room) → Reads (O (more k)) (λ a. stop) (operand (more k))) (inner_reads : (k : Room) (m : Floor) → Reads (On k m) (λ t. ends m) (inner k m)) where
        some_on : (h : Room) (n : Floor) → low ≤ h.height → (t : E) × (w : List K) × On h n t w
        some_on h n le = let t = some h le in (t.0, t.1, (subst (AboveTop tight right h.clashes n) (sym t.2) tt, t.3))

        goes_on : (h : Room) (c : K) (v : V) → view c ≡ Some v → low ≤ h.height → Viable (Bound (Shows view) (λ v. On h (floor_of tight right v))) (c ∷ [])
        goes_on h c v i le =
            let t = some_on h (floor_of tight right v) le in
            record { tree = (v, t.0); more = t.1; derives = record { front = c ∷ []; back = t.1; left = record { token = c; shows = i; whole = refl }; right = t.2; whole = refl } }

        both_or : (e c d : Bool) → (e || (c && d)) ≡ true → ((e || c) ≡ true) × ((e || d) ≡ true)
        both_or true c d i = (refl, refl)
        both_or false c d i = both_true c d i

        judge_same : (h k : Room) (n : Floor) (o : Option V) (m : ℕ) (v : V) (code : Code) → Alike code h k → judge tight right h n o m v ≡ Some code → judge tight right k n o m v ≡ Some code
        judge_same h k n o m v code al i =
            let a = reaches tight right n v in
            let b = before tight right o v in
            let c = sided tight right n v in
            let d = agrees tight right o v in
            elim (verdict_some a b h.clashes c d (ltb h.height m) code i) [
              | inl g ↦ verdict_low a b k.clashes c d (ltb k.height m) g.1 ∙ ap (λ (x : Code). Some x) (sym g.0)
              | inr r ↦
                  elim r [
                    | inl g ↦
                        let al' : Higher h k = subst (λ (x : Code). Alike x h k) g.0 al in
                        verdict_clash a b k.clashes c d (ltb k.height m) g.1 (al'.1 ∙ g.2) g.3 ∙ ap (λ (x : Code). Some x) (sym g.0)
                    | inr g ↦
                        let same : k ≡ h = subst (λ (x : Code). Alike x h k) g.0 al in
                        subst (λ (r : Room). judge tight right r n o m v ≡ Some code) (sym same) i
                  ]
            ]

        judge_opens : (h : Room) (n : Floor) (o : Option V) (m : ℕ) (v : V) (code : Code) → judge tight right h n o m v ≡ Some code → (code ≡ Grammar → ⊥) → (k : Room) × Eased code h k × (judge tight right k n o m v ≡ None) × (m ≤ k.height)
        judge_opens h n o m v code i nz =
            let a = reaches tight right n v in
            let b = before tight right o v in
            let c = sided tight right n v in
            let d = agrees tight right o v in
            elim (verdict_some a b h.clashes c d (ltb h.height m) code i) [
              | inl g ↦ absurd (nz g.0)
              | inr r ↦
                  elim r [
                    | inl g ↦
                        let k : Room = at_height (h.height + m) true in
                        let two = both_true a b g.1 in
                        (k, subst (λ (x : Code). Eased x h k) (sym g.0) (omega arith, λ e. refl), judges tight right k n o m v (two.0, refl) (two.1, refl) (omega arith), omega arith)
                    | inr g ↦
                        let k : Room = at_height (h.height + m) h.clashes in
                        let two = both_true a b g.1 in
                        let or = both_or h.clashes c d g.2 in
                        (k, subst (λ (x : Code). Eased x h k) (sym g.0) (omega arith, refl), judges tight right k n o m v (two.0, or.0) (two.1, or.1) (omega arith), omega arith)
                  ]
            ]

        suffix_bars : (n : Floor) (x : E) → Bars (λ h. bar tight right view top tall leaf node h n x) (λ h. Bound (Shows view) (λ v. On h (floor_of tight right v)))
        suffix_bars n x = record {
          passes = λ h k c u e. passes_by h k (view c) u e;
          same = λ h k c code al e. same_by h k (view c) code al e;
          opens = λ h c code e nz. opens_by h c (view c) code refl e nz;
        }
          where
            passes_by : (h k : Room) (o : Option V) → Under h k → bars tight right view top tall leaf node h n x o ≡ None → bars tight right view top tall leaf node k n x o ≡ None
            passes_by h k None u e = e
            passes_by h k (Some v) u e = judge_mono tight right h k n (top x) (tall x) v u e

            same_by : (h k : Room) (o : Option V) (code : Code) → Alike code h k → bars tight right view top tall leaf node h n x o ≡ Some code → bars tight right view top tall leaf node k n x o ≡ Some code
            same_by h k None code al e = e
            same_by h k (Some v) code al e = judge_same h k n (top x) (tall x) v code al e

            opens_by : (h : Room) (c : K) (o : Option V) (code : Code) → view c ≡ o → bars tight right view top tall leaf node h n x o ≡ Some code → (code ≡ Grammar → ⊥)
                → (k : Room) × Eased code h k × (bars tight right view top tall leaf node k n x (view c) ≡ None) × Viable (Bound (Shows view) (λ v. On k (floor_of tight right v))) (c ∷ [])
            opens_by h c None code i e nz = absurd (nz cc)
            opens_by h c (Some v) code i e nz =
                let g = judge_opens h n (top x) (tall x) v code e nz in
                let t = low_tall x in
                let le = g.3 in
                (g.0, g.1, ap (bars tight right view top tall leaf node g.0 n x) i ∙ g.2, goes_on g.0 c v i (omega arith))

        module _ (h : Room) (operand_refuses : (s : List K) (e : Code × List K) → operand (more h) s ≡ Err e → Refuses (λ k. O (more k)) (λ k. operand (more k)) h s e)
            (inner_refuses : (m : Floor) (s : List K) (e : Code × List K) → inner h m s ≡ Err e → Refuses (λ k. On k m) (λ k. inner k m) h s e) where
          passing_tall : (n : Floor) (x : E) (o : Option K) → barred (bar tight right view top tall leaf node h n x) o ≡ None → tall x ≤ h.height
          passing_tall n x None e = absurd cc
          passing_tall n x (Some c) e = go (view c) e
            where
              go : (o : Option V) → bars tight right view top tall leaf node h n x o ≡ None → tall x ≤ h.height
              go None e = absurd cc
              go (Some v) e = (judged tight right h n (top x) (tall x) v e).2

          suffix_refuses : (n : Floor) (x : E) (s : List K) (e : Code × List K) → suffix_read tight right view top tall leaf node (inner h) h n x s ≡ Err e
              → Refuses (λ k. Suffix k n x) (λ k. suffix_read tight right view top tall leaf node (inner k) k n x) h s e
          suffix_refuses n x = guard_refuses (λ k. bar tight right view top tall leaf node k n x) (λ k. Bound (Shows view) (λ v. On k (floor_of tight right v))) (λ k. bound (token_by view) (λ v. inner k (floor_of tight right v)))
              (suffix_bars n x) (λ k u. suffix_never k u) eased_under h
              (λ s e pass.
              let le = passing_tall n x (first s) pass in
              let t = low_tall x in
              bound_refuses (λ k. Shows view) (λ k v. On k (floor_of tight right v)) always (λ k. token_by view) (λ k v. inner k (floor_of tight right v)) (λ k. token_reads view) (λ h k v w u d. d)
              (λ h k v r w u d. on_mono h k (floor_of tight right v) r w u d) h
              (λ v. let t = some_on h (floor_of tight right v) (omega arith) in record { tree = t.0; more = t.1; derives = t.2 })
              (token_refuses view h) (λ v. inner_refuses (floor_of tight right v)) s e)

          pub infix_refuses : (n : Floor) (s : List K) (e : Code × List K) → infix_read tight right view top tall leaf node (operand (more h)) (inner h) h n s ≡ Err e
              → Refuses (λ k. On (more k) n) (λ k. infix_read tight right view top tall leaf node (operand (more k)) (inner k) k n) h s e
          infix_refuses n s e i =
              mapped_refuses (chain leaf (wrap tight right view top tall leaf node)) (λ k. Parts k n) (λ k. On (more k) n) _ (λ k. row_made k n) h s e
              (bound_refuses (λ k. O (more k)) (λ k a. Steps (wrap tight right view top tall leaf node) (Suffix k n) (leaf a)) (λ a. stop) (λ k. operand (more k))
              (λ k a. steps (takes tight right view top tall leaf node n) (wrap tight right view top tall leaf node) (suffix_read tight right view top tall leaf node (inner k) k n) (leaf a)) operand_reads
              (λ h k a w u d. R.operand_mono (more h) (more k) a w (let x = u.0 in omega arith, u.1) d)
              (λ h k a us w u d. steps_map (wrap tight right view top tall leaf node) (Suffix h n) (Suffix k n) (λ x y v e. suffix_mono h k n x y v u e) (leaf a) us w d) h
              (λ a. no_step (wrap tight right view top tall leaf node) (Suffix h n) (leaf a))
              operand_refuses
              (λ a. steps_refuses (takes tight right view top tall leaf node n) (wrap tight right view top tall leaf node) suffix_ends (λ k x. Suffix k n x) (λ k x. suffix_read tight right view top tall leaf node (inner k) k n x)
              (λ h x u w d. suffix_takes h n x u w d) (λ h k x u w un d. suffix_mono h k n x u w un d)
              (λ k x. suffix_reads k n (operand (more k)) (inner k) (operand_reads k) (inner_reads k) x) (leaf a) h (λ x. suffix_refuses n x)) s e) i
