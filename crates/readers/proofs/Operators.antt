-- What holds of infix rows follows from their operands.
use Rattle.std.proofs.Common.{◌≡◌, ◌⊎◌, ℕ, zero, suc, ◌+◌, ◌≤◌, max, Bool, true, false, not, ◌&&◌, List, [], ◌∷◌, ◌++◌, Option, Some, None, Err, refl, sym, ap, subst, ◌∙◌, arith, inl, inr}
use Rattle.readers.specs.declared.code.Code.{Code}
use Rattle.readers.specs.declared.code.Code.TheVariants.{Grammar}
use Rattle.readers.specs.Reader.{first, head_is, Reader}
use Rattle.readers.specs.Language.{Joined, Shows, Viable, As, Or}
use Rattle.readers.specs.Room.{Room, Under, at_height}
use Rattle.readers.specs.Exact.{Reads, Refuses}
use Rattle.readers.specs.declared.floor.Floor.{Floor}
use Rattle.readers.specs.Infix.{ground, floor_of, AboveTop, Left, takes, infix_read}
use Rattle.readers.proofs.Bundle.{Known, Fitting, Reading, Refusing, read_fits, refused_fits, refused_reads, Part, Opening, Phrase, mono}
use Rattle.readers.proofs.Outcome.{head-append}
use Rattle.readers.proofs.Precedence.{top_mono, left_mono}
use Rattle.readers.proofs.Ground.{ground_any}
use Rattle.readers.proofs.InfixRow.{Rows, infix_reads, infix_refuses}

module _ {K V A E : Type 0} (tight : V → ℕ) (right : V → Bool) (view : K → Option V) (top : E → Option V) (tall : E → ℕ) (leaf : A → E) (node : E → V → E → E) where
  abbrev pub joined : E × (V × E) → E
  joined x = node x.0 x.1.0 x.1.1

  -- an operator between two rows
  abbrev pub Between : (E → List K → Type 0) → Bool → E × (V × E) → List K → Type 0
  Between R b x w = Left tight right b (top x.0) x.1.0 × AboveTop tight right b (floor_of tight right x.1.0) (top x.1.1) × Joined (R x.0) (Joined (Shows view x.1.0) (R x.1.1)) w

  abbrev pub Form : (Room → A → List K → Type 0) → (Room → E → List K → Type 0) → Room → E → List K → Type 0
  Form O G k = Or (As leaf (O k)) (As joined (Between (G k) k.clashes))

  -- the rows that may stand on the floor
  abbrev pub Level : (Room → A → List K → Type 0) → (Room → E → List K → Type 0) → Floor → Room → E → List K → Type 0
  Level O G m k t w = AboveTop tight right k.clashes m (top t) × Form O G k t w

  -- the rows of a room that may stand on the floor
  abbrev pub Standing : (Room → E → List K → Type 0) → Floor → Room → E → List K → Type 0
  Standing G m k t w = AboveTop tight right k.clashes m (top t) × G k t w

  -- what cannot follow a row on the floor
  abbrev pub ends_on : (Option K → Bool) → Floor → Option K → Bool
  ends_on stop m o = stop o && not (head_is (takes tight right view top tall leaf node m) o)

  -- operands of a row that has the room, and their reader
  below_by : (Room → A → List K → Type 0) → ℕ → Bool → A → List K → Type 0
  below_by O zero b a w = ⊥
  below_by O (suc h) b a w = O (at_height h b) a w

  abbrev Below : (Room → A → List K → Type 0) → Room → A → List K → Type 0
  Below O r = below_by O r.height r.clashes

  read_below_by : (Room → Reader K A) → ℕ → Bool → Reader K A
  read_below_by o zero b v = Err (Grammar, v)
  read_below_by o (suc h) b v = o (at_height h b) v

  -- what is asked of the trees
  pub record Trees (O : Room → A → List K → Type 0) (G : Room → E → List K → Type 0) (ta : A → ℕ) (te : E → ℕ) (low : ℕ) : Type 0 where
    pub none : (b : Bool) (t : E) (w : List K) → G (at_height 0 b) t w → ⊥
    pub out : (h : ℕ) (b : Bool) (t : E) (w : List K) → G (at_height (suc h) b) t w → Form O G (at_height h b) t w
    pub into : (h : ℕ) (b : Bool) (t : E) (w : List K) → Form O G (at_height h b) t w → G (at_height (suc h) b) t w
    pub top_leaf : (a : A) → top (leaf a) ≡ None
    pub top_node : (l : E) (v : V) (r : E) → top (node l v r) ≡ Some v
    pub leaf_high : (a : A) → te (leaf a) ≡ suc (ta a)
    pub node_high : (l : E) (v : V) (r : E) → te (node l v r) ≡ suc (max (te l) (te r))
    pub over : (t : E) → te t ≤ tall t
    pub at_least : (t : E) → suc low ≤ tall t
    pub at_most : (k : Room) (t : E) → te t ≤ k.height → suc low ≤ k.height → tall t ≤ k.height

  module _ {s : Known} {n : ℕ} {O : Room → A → List K → Type 0} {o : Room → Reader K A} {ta : A → ℕ} {low : ℕ} {test : K → Bool} {eo : ℕ} {G : Room → E → List K → Type 0} {row : Room → Floor → Reader K E} {te : E → ℕ} {er : ℕ}
      (stop : Option K → Bool) (op_stops : (c : K) (v : V) → view c ≡ Some v → stop (Some c) ≡ true) (T : Trees O G ta te low) (operand : Phrase s n 0 O o (λ a. stop) ta low 0 test eo)
      (rows : (m : Floor) → Phrase s n 0 (Standing G m) (λ k. row k m) (λ t. ends_on stop m) te (suc low) 0 test er) where
    on_ground : (k : Room) (t : E) (w : List K) → G k t w → Standing G ground k t w
    on_ground k t w d = (ground_any tight right k.clashes (top t), d)

    whole_least : (k : Room) (t : E) (w : List K) → Fitting s n k → G k t w → te t ≤ k.height
    whole_least k t w i d = let R = rows ground in let a = R.part.least k t w i (on_ground k t w d) in omega arith

    whole_lowest : (k : Room) (t : E) (w : List K) → Fitting s n k → G k t w → suc low ≤ k.height
    whole_lowest k t w i d = let R = rows ground in R.part.lowest k t w i (on_ground k t w d)

    whole_fits : (h k : Room) (t : E) (w : List K) → Fitting s n h → (h.clashes ≡ true → k.clashes ≡ true) → te t ≤ k.height → G h t w → G k t w
    whole_fits h k t w i b l d = let R = rows ground in (R.part.fits h k t w i b (omega (arith, l)) (on_ground h t w d)).1

    form_above : (k : Room) (t : E) (w : List K) → Form O G k t w → 1 ≤ te t
    form_above k t w (inl d) = let a = T.leaf_high d.0 in let e = ap te d.1 in omega arith
    form_above k t w (inr d) = let a = T.node_high d.0.0 d.0.1.0 d.0.1.1 in let e = ap te d.1 in omega arith

    form_least : (k : Room) (t : E) (w : List K) → Fitting s n k → Form O G k t w → te t ≤ 1 + k.height
    form_least k t w i (inl d) = let a = T.leaf_high d.0 in let e = ap te d.1 in let b = operand.part.least k d.0 w i d.2 in omega arith
    form_least k t w i (inr d) =
        let a = T.node_high d.0.0 d.0.1.0 d.0.1.1 in
        let e = ap te d.1 in
        let j = d.2.2 in
        let b = whole_least k d.0.0 j.front i j.left in
        let c = whole_least k d.0.1.1 j.right.back i j.right.right in
        omega arith

    form_lowest : (k : Room) (t : E) (w : List K) → Fitting s n k → Form O G k t w → low ≤ k.height
    form_lowest k t w i (inl d) = operand.part.lowest k d.0 w i d.2
    form_lowest k t w i (inr d) = let a = whole_lowest k d.0.0 d.2.2.front i d.2.2.left in omega arith

    form_fits : (h k : Room) (t : E) (w : List K) → Fitting s n h → (h.clashes ≡ true → k.clashes ≡ true) → te t ≤ 1 + k.height → Form O G h t w → Form O G k t w
    form_fits h k t w i b l (inl d) = let a = T.leaf_high d.0 in let e = ap te d.1 in inl (d.0, d.1, operand.part.fits h k d.0 w i b (omega arith) d.2)
    form_fits h k t w i b l (inr d) =
        let a = T.node_high d.0.0 d.0.1.0 d.0.1.1 in
        let e = ap te d.1 in
        let j = d.2.2 in
        let m = j.right in
        inr (
          d.0,
          d.1,
          (
            left_mono tight right h.clashes k.clashes (top d.0.0) d.0.1.0 b d.2.0,
            top_mono tight right h.clashes k.clashes (floor_of tight right d.0.1.0) (top d.0.1.1) b d.2.1,
            record { front = j.front; back = j.back; left = whole_fits h k d.0.0 j.front i b (omega arith) j.left; right = record { front = m.front; back = m.back; left = m.left; right = whole_fits h k d.0.1.1 m.back i b (omega arith) m.right; whole = m.whole }; whole = j.whole },
          ),
        )

    form_begins : (k : Room) (t : E) (w : List K) → Fitting s n k → Form O G k t w → head_is test (first w) ≡ true
    form_begins k t w i (inl d) = operand.opening.begins k d.0 w i d.2
    form_begins k t w i (inr d) =
        let j = d.2.2 in
        let R = rows ground in
        subst (λ (z : List K). head_is test (first z) ≡ true) (sym j.whole) (head-append test j.front j.back (R.opening.begins k d.0.0 j.front i (on_ground k d.0.0 j.front j.left)))

    leaf_on : (m : Floor) (k : Room) (u : List K) → Viable (O k) u → Viable (Level O G m k) u
    leaf_on m k u v = record { tree = leaf v.tree; more = v.more; derives = (subst (AboveTop tight right k.clashes m) (sym (T.top_leaf v.tree)) tt, inl (v.tree, refl, v.derives)) }

    below_mono : (h k : ℕ) (b c : Bool) (a : A) (w : List K) → Fitting s n (at_height h b) → ((k : Room) → Fitting s n k) → h ≤ k → (b ≡ true → c ≡ true) → below_by O h b a w → below_by O k c a w
    unfolding below_by
    below_mono zero k b c a w i fit le f d = absurd d
    below_mono (suc h) zero b c a w i fit le f d = absurd (omega (arith, le))
    below_mono (suc h) (suc k) b c a w i fit le f d = mono operand.part (at_height h b) (at_height k c) a w (fit (at_height h b)) (omega (arith, le), f) d

    the_rows : ((k : Room) → Fitting s n k) → Rows tight right view top tall leaf node (Below O) G
    unfolding below_by
    the_rows fit = record {
      top_leaf = T.top_leaf;
      top_node = T.top_node;
      in_leaf = λ h a w d. T.into h.height h.clashes (leaf a) w (inl (a, refl, d));
      in_node = λ h l v r w x y d. T.into h.height h.clashes (node l v r) w (inr ((l, (v, r)), refl, (x, y, d)));
      out = λ h t w d. elim (T.out h.height h.clashes t w d) [ inl e ↦ inl e | inr e ↦ inr (e.0.0, e.0.1.0, e.0.1.1, e.1, e.2.0, e.2.1, e.2.2) ];
      none = T.none;
      least = λ h t w d. T.at_most h t (whole_least h t w (fit h) d) (whole_lowest h t w (fit h) d);
      fits = λ h k t w d le same. let o = T.over t in whole_fits h k t w (fit h) (λ e. same ∙ e) (omega (arith, o, le)) d;
      mono = λ h k t w u d. let a = whole_least h t w (fit h) d in let le = u.0 in whole_fits h k t w (fit h) u.1 (omega (arith, a, le)) d;
      operand_mono = λ h k a w u d. below_mono h.height k.height h.clashes k.clashes a w (fit h) fit u.0 u.1 d;
    }

    some_row : (h : ℕ) (b : Bool) → Fitting s n (at_height h b) → ((k : Room) → Fitting s n k) → suc low ≤ h → (t : E) × (w : List K) × (top t ≡ None) × G (at_height h b) t w
    some_row zero b i fit le = absurd (omega (arith, le))
    some_row (suc h) b i fit le =
        let v = operand.part.some (at_height h b) (fit (at_height h b)) (omega (arith, le)) in
        (leaf v.tree, v.more, T.top_leaf v.tree, T.into h b (leaf v.tree) v.more (inl (v.tree, refl, v.derives)))

    level_reads : (m : Floor) (k : Room) → Reading s n k → Reads (Level O G m k) (λ t. ends_on stop m) (infix_read tight right view top tall leaf node (o k) (row k) k m)
    unfolding below_by
    level_reads m k i =
        let fit : (h : Room) → Fitting s n h = λ h. read_fits s n k h i in
        let r = infix_reads tight right view top tall leaf node (Below O) G (the_rows fit) stop op_stops k m (o k) (row k) (operand.part.reads k i) (λ m. let R = rows m in R.part.reads k i) in
        record {
          complete = λ t w q d st. r.complete t w q (d.0, T.into k.height k.clashes t w d.1) st;
          sound = λ v z e. let f = r.sound v z e in record { read = f.read; derives = (f.derives.0, T.out k.height k.clashes z.0 f.read f.derives.1); parts = f.parts; stops = f.stops };
        }

    level_refuses : (m : Floor) (h : Room) → Refusing s n h → (v : List K) (e : Code × List K) → infix_read tight right view top tall leaf node (o h) (row h) h m v ≡ Err e
        → Refuses (Level O G m) (λ k. infix_read tight right view top tall leaf node (o k) (row k) k m) h v e
    unfolding below_by read_below_by
    level_refuses m h i v e j =
        let fit : (k : Room) → Fitting s n k = λ k. refused_fits s n h k i in
        let read : (k : Room) → Reading s n k = λ k. refused_reads s n h k i in
        let g = infix_refuses tight right view top tall leaf node (Below O) G (the_rows fit) stop op_stops (suc low) T.at_least (λ k le. some_row k.height k.clashes (fit k) fit le) (λ r. read_below_by o r.height r.clashes) row
        (λ k. operand.part.reads k (read k)) (λ k m. let R = rows m in R.part.reads k (read k)) h (λ v e j. operand.part.refuses h i (omega arith) v e j) (λ m v e j. let R = rows m in R.part.refuses h i (omega arith) v e j) m v e j in
        record {
          read = g.read;
          parts = g.parts;
          local = g.local;
          viable = elim g.viable [ inl z ↦ inl z | inr x ↦ inr (record { tree = x.tree; more = x.more; derives = (x.derives.0, T.out h.height h.clashes x.tree (g.read ++ x.more) x.derives.1) }) ];
          deep = λ dp. let d = g.deep dp in let x = d.viable in record {
            room = d.room;
            eased = d.eased;
            token = d.token;
            is = d.is;
            viable = record { tree = x.tree; more = x.more; derives = (x.derives.0, T.out d.room.height d.room.clashes x.tree ((g.read ++ d.token ∷ []) ++ x.more) x.derives.1) };
          };
        }

    pub operators : (m : Floor) → Phrase s n 1 (Level O G m) (λ k. infix_read tight right view top tall leaf node (o k) (row k) k m) (λ t. ends_on stop m) te low 0 test eo
    operators m = record {
      part = record {
        above = λ k t w i d. form_above k t w d.1;
        least = λ k t w i d. form_least k t w i d.1;
        lowest = λ k t w i d. form_lowest k t w i d.1;
        fits = λ h k t w i b l d. (top_mono tight right h.clashes k.clashes m (top t) b d.0, form_fits h k t w i b l d.1);
        some = λ h i l. leaf_on m h [] (operand.part.some h i l);
        reads = λ k i. level_reads m k i;
        refuses = λ h i l v e j. level_refuses m h i v e j;
      };
      opening = record {
        begins = λ k t w i d. form_begins k t w i d.1;
        starts = λ h c i l e. leaf_on m h (c ∷ []) (operand.opening.starts h c i l e);
        bars = λ k v i e. rw (operand.opening.bars k v i e) refl;
      };
    }

-- a whole row stands on the ground
module _ {K V E : Type 0} {s : Known} {n up : ℕ} {D : Room → E → List K → Type 0} {p : Room → Reader K E} {sd : E → Option K → Bool} {te : E → ℕ} {low need : ℕ} {test : K → Bool} {enough : ℕ} (tight : V → ℕ) (right : V → Bool) (top : E → Option V) where
  pub grounded : Phrase s n up (λ k t w. AboveTop tight right k.clashes ground (top t) × D k t w) p sd te low need test enough → (other : E → Option K → Bool) → ((t : E) (o : Option K) → sd t o ≡ other t o) → Phrase s n up D p other te low need test enough
  grounded P other same = record {
    part = record {
      above = λ k t w i d. P.part.above k t w i (on k t d);
      least = λ k t w i d. P.part.least k t w i (on k t d);
      lowest = λ k t w i d. P.part.lowest k t w i (on k t d);
      fits = λ h k t w i b l d. (P.part.fits h k t w i b l (on h t d)).1;
      some = λ h i l. let v = P.part.some h i l in record { tree = v.tree; more = v.more; derives = v.derives.1 };
      reads = λ k i. let r = P.part.reads k i in record {
        complete = λ t w q d st. r.complete t w q (on k t d) (same t (first q) ∙ st);
        sound = λ v z e. let f = r.sound v z e in record { read = f.read; derives = f.derives.1; parts = f.parts; stops = sym (same z.0 (first z.1)) ∙ f.stops };
      };
      refuses = λ h i l v e j. let g = P.part.refuses h i l v e j in record {
        read = g.read;
        parts = g.parts;
        local = g.local;
        viable = elim g.viable [ inl z ↦ inl z | inr x ↦ inr (record { tree = x.tree; more = x.more; derives = x.derives.1 }) ];
        deep = λ dp. let d = g.deep dp in let x = d.viable in record { room = d.room; eased = d.eased; token = d.token; is = d.is; viable = record { tree = x.tree; more = x.more; derives = x.derives.1 } };
      };
    };
    opening = record {
      begins = λ k t w i d. P.opening.begins k t w i (on k t d);
      starts = λ h c i l e. let v = P.opening.starts h c i l e in record { tree = v.tree; more = v.more; derives = v.derives.1 };
      bars = P.opening.bars;
    };
  }
    where
      on : (k : Room) (t : E) {w : List K} → D k t w → AboveTop tight right k.clashes ground (top t) × D k t w
      on k t d = (ground_any tight right k.clashes (top t), d)
