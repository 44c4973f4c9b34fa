-- The steps of a walk: a node is taken up, a node is numbered, a part leads back.
use Rattle.std.proofs.Common.{◌≡◌, ℕ, ◌+◌, ◌<◌, ◌≤◌, suc, List, [], ◌∷◌, ◌++◌, length, refl, sym, ap, ◌∙◌, subst, inl, inr, ◌⊎◌, arith, get_or-set_same, get_or-set_other, length-set, true}
use Rattle.std.specs.Prelude.{slice_set}
use Rattle.std.proofs.lemmas.Bool.{cases_eq}
use Rattle.std.proofs.lemmas.List.Sums.{sum_by-set, sum_by-cons}
use Rattle.sml_static.specs.declared.ty.Label.{Label}
use Rattle.ty_unify.specs.declared.cell.Cell.{Cell}
use Rattle.ty_unify.specs.declared.cell.Shape.{Shape}
use Rattle.ty_unify.specs.declared.cell.Shape.TheVariants.{Open, Same, Const, Pair}
use Rattle.ty_unify.specs.declared.cell.Sort.{Sort}
use Rattle.ty_unify.specs.declared.walk.Stage.{Stage}
use Rattle.ty_unify.specs.declared.walk.Stage.TheVariants.{New, Busy, Done}
use Rattle.ty_unify.specs.declared.walk.Part.{Part}
use Rattle.ty_unify.specs.declared.walk.Part.TheVariants as part
use Rattle.ty_unify.specs.Trees.{Tree, tree_size}
use Rattle.ty_unify.specs.Cells.{cell_at, Shaped, ShapeHolds, Ordered, ShapeOrdered, link_rank, sort_at}
use Rattle.ty_unify.specs.Walking.{mark_at, part_of, first_of, part_in, InMarks, left_weight, left_over, new_weight, new_left, Finished, DoneBelow, PartsDone, Numbered, Under, PathUnder, IsIn, Each, Walk, WalkEnds, IsDone}

under_self : (θ : ℕ → Tree) (i : ℕ) → Under θ i i → ⊥
under_self θ i (inl h) = omega arith
under_self θ i (inr h) = let b = h.1 in omega arith

under_then : (θ : ℕ → Tree) (i j k : ℕ) → Under θ i j → Under θ j k → Under θ i k
under_then θ i j k (inl g) (inl h) = inl (omega arith)
under_then θ i j k (inl g) (inr h) = inl (let a = h.0 in omega arith)
under_then θ i j k (inr g) (inl h) = inl (let a = g.0 in omega arith)
under_then θ i j k (inr g) (inr h) = inr (let a = g.0 in let b = g.1 in let c = h.0 in let d = h.1 in (omega arith, omega arith))

-- c is a part of the shape
abbrev IsPart : Shape → ℕ → Type 0
IsPart Open c = ⊥
IsPart (Same j s) c = c ≡ j
IsPart (Const t) c = ⊥
IsPart (Pair t a b) c = (c ≡ a) ⊎ (c ≡ b)

part_under : (labels : List Label) (n : ℕ) (o : ℕ → Sort) (s : Shape) (i c : ℕ) (θ : ℕ → Tree) → ShapeHolds labels s i θ → ShapeOrdered n o s i → IsPart s c → Under θ c i
part_under labels n o Open i c θ h r p = absurd p
part_under labels n o (Same j s) i c θ h r p =
    let e : tree_size (θ c) ≡ tree_size (θ i) = ap (λ k. tree_size (θ k)) p ∙ ap tree_size (sym h) in
    inr (omega arith, subst (λ k. link_rank k < link_rank i) (sym p) r.0.0)
part_under labels n o (Const t) i c θ h r p = absurd p
part_under labels n o (Pair t a b) i c θ h r (inl p) =
    let e : tree_size (θ i) ≡ 1 + tree_size (θ a) + tree_size (θ b) = ap tree_size h in
    let f : tree_size (θ c) ≡ tree_size (θ a) = ap (λ k. tree_size (θ k)) p in inl (omega arith)
part_under labels n o (Pair t a b) i c θ h r (inr p) =
    let e : tree_size (θ i) ≡ 1 + tree_size (θ a) + tree_size (θ b) = ap tree_size h in
    let f : tree_size (θ c) ≡ tree_size (θ b) = ap (λ k. tree_size (θ k)) p in inl (omega arith)

part_range : (n : ℕ) (o : ℕ → Sort) (s : Shape) (i c : ℕ) → i < n → ShapeOrdered n o s i → IsPart s c → c < n
part_range n o Open i c l r p = absurd p
part_range n o (Same j s) i c l r p = let m = r.0.1 in omega arith
part_range n o (Const t) i c l r p = absurd p
part_range n o (Pair t a b) i c l r (inl p) = let m = r.0 in omega arith
part_range n o (Pair t a b) i c l r (inr p) = let m = r.1 in omega arith

pub in_marks : (n m : ℕ) (o : ℕ → Sort) (s : Shape) (i : ℕ) → i < n → m ≡ n → ShapeOrdered n o s i → InMarks m s
in_marks n m o Open i l e r = tt
in_marks n m o (Same j s) i l e r = let k = r.0.1 in omega arith
in_marks n m o (Const t) i l e r = tt
in_marks n m o (Pair t a b) i l e r = let k = r.0 in let q = r.1 in (omega arith, omega arith)

of_new : (m : Stage) (i c : ℕ) → part_of m i ≡ part.New c → (m ≡ New) × (c ≡ i)
of_new New i c e = (refl, let d : i ≡ c = cc in sym d)
of_new Busy i c e = absurd (cc)
of_new (Done r) i c e = absurd (cc)

of_back : (m : Stage) (i : ℕ) → part_of m i ≡ part.Back → m ≡ Busy
of_back New i e = absurd (cc)
of_back Busy i e = refl
of_back (Done r) i e = absurd (cc)

of_done : (m : Stage) (i n : ℕ) → ((r : ℕ) → m ≡ Done r → r < n) → part_of m i ≡ part.Numbered → DoneBelow m n
of_done New i n b e = absurd (cc)
of_done Busy i n b e = absurd (cc)
of_done (Done r) i n b e = b r refl

first_new : (p q : Part) (c : ℕ) → first_of p q ≡ part.New c → (p ≡ part.New c) ⊎ (q ≡ part.New c)
first_new (part.New i) q c e = inl e
first_new part.Back q c e = absurd (cc)
first_new part.Numbered q c e = inr e

first_back : (p q : Part) → first_of p q ≡ part.Back → (p ≡ part.Back) ⊎ (q ≡ part.Back)
first_back (part.New i) q e = absurd (cc)
first_back part.Back q e = inl refl
first_back part.Numbered q e = inr e

first_done : (p q : Part) → first_of p q ≡ part.Numbered → (p ≡ part.Numbered) × (q ≡ part.Numbered)
first_done (part.New i) q e = absurd (cc)
first_done part.Back q e = absurd (cc)
first_done part.Numbered q e = (refl, e)

found_new : (marks : List Stage) (s : Shape) (c : ℕ) → part_in marks s ≡ part.New c → (mark_at marks c ≡ New) × IsPart s c
found_new marks Open c e = absurd (cc)
found_new marks (Same j s) c e = let h = of_new (mark_at marks j) j c e in (ap (λ k. mark_at marks k) h.1 ∙ h.0, h.1)
found_new marks (Const t) c e = absurd (cc)
found_new marks (Pair t a b) c e =
    elim (first_new (part_of (mark_at marks a) a) (part_of (mark_at marks b) b) c e) [
      | inl p ↦ (let h = of_new (mark_at marks a) a c p in (ap (λ k. mark_at marks k) h.1 ∙ h.0, inl h.1))
      | inr p ↦ (let h = of_new (mark_at marks b) b c p in (ap (λ k. mark_at marks k) h.1 ∙ h.0, inr h.1))
    ]

found_back : (marks : List Stage) (s : Shape) → part_in marks s ≡ part.Back → (c : ℕ) × (mark_at marks c ≡ Busy) × IsPart s c
found_back marks Open e = absurd (cc)
found_back marks (Same j s) e = (j, of_back (mark_at marks j) j e, refl)
found_back marks (Const t) e = absurd (cc)
found_back marks (Pair t a b) e =
    elim (first_back (part_of (mark_at marks a) a) (part_of (mark_at marks b) b) e) [
      | inl p ↦ (a, of_back (mark_at marks a) a p, inl refl)
      | inr p ↦ (b, of_back (mark_at marks b) b p, inr refl)
    ]

found_done : (cells : List Cell) (marks : List Stage) (next : ℕ) (s : Shape) → Numbered cells marks next → part_in marks s ≡ part.Numbered → PartsDone s marks next
found_done cells marks next Open n e = tt
found_done cells marks next (Same j s) n e = of_done (mark_at marks j) j next (n.below j) e
found_done cells marks next (Const t) n e = tt
found_done cells marks next (Pair t a b) n e =
    let h = first_done (part_of (mark_at marks a) a) (part_of (mark_at marks b) b) e in
    (of_done (mark_at marks a) a next (n.below a) h.0, of_done (mark_at marks b) b next (n.below b) h.1)

done_kept : (m m' : Stage) (n : ℕ) → ((r : ℕ) → m ≡ Done r → m' ≡ Done r) → DoneBelow m n → DoneBelow m' n
done_kept New m' n k d = absurd d
done_kept Busy m' n k d = absurd d
done_kept (Done r) m' n k d = subst (λ v. DoneBelow v n) (sym (k r refl)) d

parts_kept : (s : Shape) (old new : List Stage) (n : ℕ) → ((i r : ℕ) → mark_at old i ≡ Done r → mark_at new i ≡ Done r) → PartsDone s old n → PartsDone s new n
parts_kept Open old new n k d = tt
parts_kept (Same j s) old new n k d = done_kept (mark_at old j) (mark_at new j) n (k j) d
parts_kept (Const c) old new n k d = tt
parts_kept (Pair c a b) old new n k d = (done_kept (mark_at old a) (mark_at new a) n (k a) d.0, done_kept (mark_at old b) (mark_at new b) n (k b) d.1)

-- a write over a mark that gives no number
kept_set : (marks : List Stage) (node : ℕ) (m : Stage) → ((r : ℕ) → mark_at marks node ≡ Done r → ⊥) → (i r : ℕ) → mark_at marks i ≡ Done r → mark_at (slice_set marks node m) i ≡ Done r
kept_set marks node m none i r e =
    elim (cases_eq i node) [
      | inl d ↦ absurd (none r (ap (λ j. mark_at marks j) (sym d) ∙ e))
      | inr ne ↦ get_or-set_other marks node i m New ne ∙ e
    ]

pub in_last : (i x : ℕ) (xs : List ℕ) → IsIn i (xs ++ x ∷ []) → IsIn i xs ⊎ (i ≡ x)
in_last i x [] (inl e) = inr e
in_last i x [] (inr h) = absurd h
in_last i x (y ∷ ys) (inl e) = inl (inl e)
in_last i x (y ∷ ys) (inr h) = elim (in_last i x ys h) [ inl p ↦ inl (inr p) | inr p ↦ inr p ]

pub in_more : (i x : ℕ) (xs : List ℕ) → IsIn i xs → IsIn i (xs ++ x ∷ [])
in_more i x [] h = absurd h
in_more i x (y ∷ ys) (inl e) = inl e
in_more i x (y ∷ ys) (inr h) = inr (in_more i x ys h)

pub in_here : (x : ℕ) (xs : List ℕ) → IsIn x (xs ++ x ∷ [])
in_here x [] = inl refl
in_here x (y ∷ ys) = inr (in_here x ys)

-- c is under the last of the path, so under all of it
all_last : (θ : ℕ → Tree) (y x c : ℕ) (xs : List ℕ) → Under θ c x → Each (λ z. Under θ z y) (xs ++ x ∷ []) → Each (λ z. Under θ z y) ((xs ++ x ∷ []) ++ c ∷ [])
all_last θ y x c [] u h = (h.0, (under_then θ c x y u h.0, tt))
all_last θ y x c (z ∷ zs) u h = (h.0, all_last θ y x c zs u h.1)

path_more : (θ : ℕ → Tree) (x c : ℕ) (xs : List ℕ) → Under θ c x → PathUnder θ (xs ++ x ∷ []) → PathUnder θ ((xs ++ x ∷ []) ++ c ∷ [])
path_more θ x c [] u h = ((u, tt), (tt, tt))
path_more θ x c (y ∷ ys) u h = (all_last θ y x c ys u h.0, path_more θ x c ys u h.1)

pub all_front : (P : ℕ → Type 0) (xs : List ℕ) (x : ℕ) → Each P (xs ++ x ∷ []) → Each P xs × P x
all_front P [] x h = (tt, h.0)
all_front P (y ∷ ys) x h = let r = all_front P ys x h.1 in ((h.0, r.0), r.1)

pub all_more : (P : ℕ → Type 0) (xs : List ℕ) (x : ℕ) → Each P xs → P x → Each P (xs ++ x ∷ [])
all_more P [] x h p = (p, tt)
all_more P (y ∷ ys) x h p = (h.0, all_more P ys x h.1 p)

path_front : (θ : ℕ → Tree) (xs : List ℕ) (x : ℕ) → PathUnder θ (xs ++ x ∷ []) → PathUnder θ xs
path_front θ [] x h = tt
path_front θ (y ∷ ys) x h = ((all_front (λ z. Under θ z y) ys x h.0).0, path_front θ ys x h.1)

-- the last of a path is under each other one
path_last : (θ : ℕ → Tree) (xs : List ℕ) (x i : ℕ) → PathUnder θ (xs ++ x ∷ []) → IsIn i xs → Under θ x i
path_last θ [] x i h p = absurd p
path_last θ (y ∷ ys) x i h (inl e) = subst (λ k. Under θ x k) (sym e) (all_front (λ z. Under θ z y) ys x h.0).1
path_last θ (y ∷ ys) x i h (inr p) = path_last θ ys x i h.1 p

-- a new node is taken up at the end of the path
pub taken : (cells : List Cell) (first marks : List Stage) (next node : ℕ) (path : List ℕ) → Walk cells first marks next path → node < length marks → mark_at marks node ≡ New
    → ((labels : List Label) (θ : ℕ → Tree) → Shaped labels cells θ → PathUnder θ (path ++ node ∷ [])) → Walk cells first (slice_set marks node Busy) next (path ++ node ∷ [])
taken cells first marks next node path w lt fresh under =
    let new = slice_set marks node Busy in
    let none : (r : ℕ) → mark_at marks node ≡ Done r → ⊥ = λ r e. cc in
    let here : mark_at new node ≡ Busy = get_or-set_same marks node Busy New lt in
    let l = length-set marks node Busy in
    let sl = w.same_length in
    let room = w.room in
    let sw = sum_by-set left_weight marks node Busy New lt in
    let e1 : left_weight (mark_at marks node) ≡ 1 = ap left_weight fresh in
    let back : (i r : ℕ) → mark_at new i ≡ Done r → mark_at marks i ≡ Done r = λ i r e.
    elim (cases_eq i node) [
      | inl d ↦ absurd (let b : mark_at new i ≡ Busy = ap (λ j. mark_at new j) d ∙ here in cc)
      | inr ne ↦ sym (get_or-set_other marks node i Busy New ne) ∙ e
    ] in
    record {
      same_length = l ∙ sl;
      numbered = record {
        below = λ i r e. w.numbered.below i r (back i r e);
        parts = λ i r e. parts_kept (cell_at cells i).shape marks new r (kept_set marks node Busy none) (w.numbered.parts i r (back i r e));
      };
      room = omega arith;
      within = all_more (λ i. i < length cells) path node w.within (omega arith);
      busy = λ i e. elim (cases_eq i node) [
        | inl d ↦ subst (λ k. IsIn k (path ++ node ∷ [])) (sym d) (in_here node path)
        | inr ne ↦ in_more i node path (w.busy i (sym (get_or-set_other marks node i Busy New ne) ∙ e))
      ];
      kept = λ i r e. kept_set marks node Busy none i r (w.kept i r e);
      met = λ i e. elim (cases_eq i node) [
        | inl d ↦ absurd (let b : mark_at new i ≡ Busy = ap (λ j. mark_at new j) d ∙ here in cc)
        | inr ne ↦ w.met i (sym (get_or-set_other marks node i Busy New ne) ∙ e)
      ];
      under = under;
    }

-- a part of the last node of the path is taken up
pub descended : (cells : List Cell) (first marks : List Stage) (next node c : ℕ) (all rest : List ℕ) → Ordered cells → all ≡ rest ++ node ∷ [] → Walk cells first marks next all
    → part_in marks (cell_at cells node).shape ≡ part.New c → (c < length marks) × Walk cells first (slice_set marks c Busy) next ((rest ++ node ∷ []) ++ c ∷ [])
descended cells first marks next node c all rest o e w p =
    let v = subst (λ l. Walk cells first marks next l) e w in
    let f = found_new marks (cell_at cells node).shape c p in
    let here : node < length cells = (all_front (λ i. i < length cells) rest node v.within).1 in
    let lc : c < length cells = part_range (length cells) (sort_at cells) (cell_at cells node).shape node c here (o.ordered node) f.1 in
    let sl = v.same_length in
    let lm : c < length marks = omega arith in (
      lm,
      taken cells first marks next c (rest ++ node ∷ []) v lm f.0
          (λ labels θ s. path_more θ node c rest (part_under labels (length cells) (sort_at cells) (cell_at cells node).shape node c θ (s.holds node) (o.ordered node) f.1) (v.under labels θ s)),
    )

-- a part of the last node of the path is on the path
pub led_back : (cells : List Cell) (first marks : List Stage) (next node : ℕ) (all rest : List ℕ) → Ordered cells → all ≡ rest ++ node ∷ [] → Walk cells first marks next all
    → part_in marks (cell_at cells node).shape ≡ part.Back → (labels : List Label) (θ : ℕ → Tree) → Shaped labels cells θ → ⊥
led_back cells first marks next node all rest o e w p labels θ s =
    let v = subst (λ l. Walk cells first marks next l) e w in
    let f = found_back marks (cell_at cells node).shape p in
    let u = part_under labels (length cells) (sort_at cells) (cell_at cells node).shape node f.0 θ (s.holds node) (o.ordered node) f.2 in
    elim (in_last f.0 node rest (v.busy f.0 f.1)) [
      | inl i ↦ under_self θ f.0 (under_then θ f.0 node f.0 u (path_last θ rest node f.0 (v.under labels θ s) i))
      | inr d ↦ under_self θ node (subst (λ k. Under θ k node) d u)
    ]

dropped : (cells : List Cell) (first marks : List Stage) (next node : ℕ) (rest : List ℕ) → Walk cells first marks next (rest ++ node ∷ []) → (mark_at marks node ≡ Busy → ⊥) → Walk cells first marks next rest
dropped cells first marks next node rest w idle = record {
  same_length = w.same_length;
  numbered = w.numbered;
  room = w.room;
  within = (all_front (λ i. i < length cells) rest node w.within).0;
  busy = λ i e. elim (in_last i node rest (w.busy i e)) [ inl p ↦ p | inr d ↦ absurd (idle (ap (λ k. mark_at marks k) (sym d) ∙ e)) ];
  kept = w.kept;
  met = w.met;
  under = λ labels θ s. path_front θ rest node (w.under labels θ s);
}

numbered_now : (cells : List Cell) (first marks : List Stage) (next node : ℕ) (rest : List ℕ) → Walk cells first marks next (rest ++ node ∷ []) → mark_at marks node ≡ Busy
    → PartsDone (cell_at cells node).shape marks next → Walk cells first (slice_set marks node (Done next)) (next + 1) rest
numbered_now cells first marks next node rest w busy d =
    let new = slice_set marks node (Done next) in
    let sl = w.same_length in
    let here : node < length cells = (all_front (λ i. i < length cells) rest node w.within).1 in
    let lt : node < length marks = omega arith in
    let at : mark_at new node ≡ Done next = get_or-set_same marks node (Done next) New lt in
    let none : (r : ℕ) → mark_at marks node ≡ Done r → ⊥ = λ r e. cc in
    let keep = kept_set marks node (Done next) none in
    let sw = sum_by-set left_weight marks node (Done next) New lt in
    let e1 : left_weight (mark_at marks node) ≡ 1 = ap left_weight busy in
    let l = length-set marks node (Done next) in
    let room = w.room in
    record {
      same_length = l ∙ sl;
      numbered = record {
        below = λ i r e. elim (cases_eq i node) [
          | inl p ↦ (let q : Done next ≡ Done r = sym at ∙ ap (λ j. mark_at new j) (sym p) ∙ e in let z : next ≡ r = cc in omega arith)
          | inr ne ↦ (let b = w.numbered.below i r (sym (get_or-set_other marks node i (Done next) New ne) ∙ e) in omega arith)
        ];
        parts = λ i r e. elim (cases_eq i node) [
          | inl p ↦ (let q : Done next ≡ Done r = sym at ∙ ap (λ j. mark_at new j) (sym p) ∙ e in let z : next ≡ r = cc in
              let h = parts_kept (cell_at cells node).shape marks new next keep d in
              subst (λ v. PartsDone (cell_at cells i).shape new v) z (subst (λ j. PartsDone (cell_at cells j).shape new next) (sym p) h))
          | inr ne ↦ parts_kept (cell_at cells i).shape marks new r keep (w.numbered.parts i r (sym (get_or-set_other marks node i (Done next) New ne) ∙ e))
        ];
      };
      room = omega arith;
      within = (all_front (λ i. i < length cells) rest node w.within).0;
      busy = λ i e. elim (cases_eq i node) [
        | inl p ↦ absurd (let q : Done next ≡ Busy = sym at ∙ ap (λ j. mark_at new j) (sym p) ∙ e in cc)
        | inr ne ↦ elim (in_last i node rest (w.busy i (sym (get_or-set_other marks node i (Done next) New ne) ∙ e))) [ inl q ↦ q | inr q ↦ absurd (ne q) ]
      ];
      kept = λ i r e. keep i r (w.kept i r e);
      met = λ i e. elim (cases_eq i node) [
        | inl p ↦ absurd (let q : Done next ≡ New = sym at ∙ ap (λ j. mark_at new j) (sym p) ∙ e in cc)
        | inr ne ↦ w.met i (sym (get_or-set_other marks node i (Done next) New ne) ∙ e)
      ];
      under = λ labels θ s. path_front θ rest node (w.under labels θ s);
    }

finish_by : (m : Stage) (cells : List Cell) (first marks new : List Stage) (next after node : ℕ) (rest : List ℕ) → mark_at marks node ≡ m → Finished m marks new next after node
    → Walk cells first marks next (rest ++ node ∷ []) → PartsDone (cell_at cells node).shape marks next → Walk cells first new after rest
finish_by New cells first marks new next after node rest e f w d =
    subst (λ l. Walk cells first l after rest) (sym f.0) (subst (λ n. Walk cells first marks n rest) (sym f.1) (dropped cells first marks next node rest w (λ b. cc)))
finish_by Busy cells first marks new next after node rest e f w d =
    subst (λ l. Walk cells first l after rest) (sym f.0) (subst (λ n. Walk cells first (slice_set marks node (Done next)) n rest) (sym f.1) (numbered_now cells first marks next node rest w e d))
finish_by (Done r) cells first marks new next after node rest e f w d =
    subst (λ l. Walk cells first l after rest) (sym f.0) (subst (λ n. Walk cells first marks n rest) (sym f.1) (dropped cells first marks next node rest w (λ b. cc)))

-- the last node of the path, of which all parts are numbered
pub gone_up : (cells : List Cell) (first marks new : List Stage) (next after node : ℕ) (all rest : List ℕ) → all ≡ rest ++ node ∷ [] → Walk cells first marks next all
    → part_in marks (cell_at cells node).shape ≡ part.Numbered → Finished (mark_at marks node) marks new next after node → Walk cells first new after rest
gone_up cells first marks new next after node all rest e w p f =
    let v = subst (λ l. Walk cells first marks next l) e w in
    finish_by (mark_at marks node) cells first marks new next after node rest refl f v (found_done cells marks next (cell_at cells node).shape v.numbered p)

pub began : (cells : List Cell) (marks : List Stage) (next from : ℕ) → Walk cells marks marks next [] → from < length marks → mark_at marks from ≡ New → Walk cells marks (slice_set marks from Busy) next (from ∷ [])
began cells marks next from w lt e = taken cells marks marks next from [] w lt e (λ labels θ s. (tt, tt))

not_new : (marks : List Stage) (node : ℕ) (i : ℕ) → node < length marks → mark_at (slice_set marks node Busy) i ≡ New → mark_at marks i ≡ New
not_new marks node i lt e =
    elim (cases_eq i node) [
      | inl d ↦ absurd (let b : mark_at (slice_set marks node Busy) i ≡ Busy = ap (λ j. mark_at (slice_set marks node Busy) j) d ∙ get_or-set_same marks node Busy New lt in cc)
      | inr ne ↦ sym (get_or-set_other marks node i Busy New ne) ∙ e
    ]

pub met_begun : (marks : List Stage) (from : ℕ) → from < length marks → mark_at (slice_set marks from Busy) from ≡ New → ⊥
met_begun marks from lt e = let b = get_or-set_same marks from Busy New lt in cc

pub met_kept : (marks : List Stage) (c from : ℕ) → c < length marks → (mark_at marks from ≡ New → ⊥) → mark_at (slice_set marks c Busy) from ≡ New → ⊥
met_kept marks c from lt h e = h (not_new marks c from lt e)

pub met_finished : (m : Stage) (marks new : List Stage) (next after node from : ℕ) → Finished m marks new next after node → node < length marks → (mark_at marks from ≡ New → ⊥) → mark_at new from ≡ New → ⊥
met_finished New marks new next after node from f lt h e = h (subst (λ l. mark_at l from ≡ New) f.0 e)
met_finished (Done r) marks new next after node from f lt h e = h (subst (λ l. mark_at l from ≡ New) f.0 e)
met_finished Busy marks new next after node from f lt h e =
    let g = subst (λ l. mark_at l from ≡ New) f.0 e in
    elim (cases_eq from node) [
      | inl d ↦ (let b : mark_at (slice_set marks node (Done next)) from ≡ Done next = ap (λ j. mark_at (slice_set marks node (Done next)) j) d ∙ get_or-set_same marks node (Done next) New lt in cc)
      | inr ne ↦ h (sym (get_or-set_other marks node from (Done next) New ne) ∙ g)
    ]

done_by : (m : Stage) → (m ≡ New → ⊥) → (m ≡ Busy → ⊥) → IsDone m
done_by New n b = absurd (n refl)
done_by Busy n b = absurd (b refl)
done_by (Done r) n b = (r, refl)

pub walk_ended : (cells : List Cell) (first marks : List Stage) (next from : ℕ) (path : List ℕ) → path ≡ [] → Walk cells first marks next path → (from < length cells → mark_at marks from ≡ New → ⊥)
    → WalkEnds true cells first marks next from
walk_ended cells first marks next from path e w met =
    let v = subst (λ l. Walk cells first marks next l) e w in
    (v, λ lt. done_by (mark_at marks from) (met lt) (λ b. v.busy from b))

pub marks_left : (marks : List Stage) (node : ℕ) → node < length marks → mark_at marks node ≡ New → new_left (slice_set marks node Busy) + 1 ≡ new_left marks
marks_left marks node lt fresh =
    let w = sum_by-set new_weight marks node Busy New lt in
    let e : new_weight (mark_at marks node) ≡ 1 = ap new_weight fresh in
    omega arith

pub finish_left : (m : Stage) (marks new : List Stage) (next after node : ℕ) → mark_at marks node ≡ m → Finished m marks new next after node → node < length marks → new_left new ≤ new_left marks
finish_left New marks new next after node e f lt = subst (λ l. new_left l ≤ new_left marks) (sym f.0) (omega arith)
finish_left (Done r) marks new next after node e f lt = subst (λ l. new_left l ≤ new_left marks) (sym f.0) (omega arith)
finish_left Busy marks new next after node e f lt =
    let w = sum_by-set new_weight marks node (Done next) New lt in
    subst (λ l. new_left l ≤ new_left marks) (sym f.0) (omega arith)

pub path_in : (cells : List Cell) (first marks : List Stage) (next node : ℕ) (all rest : List ℕ) → all ≡ rest ++ node ∷ [] → Walk cells first marks next all → node < length cells
path_in cells first marks next node all rest e w =
    (all_front (λ i. i < length cells) rest node (subst (λ l. Walk cells first marks next l) e w).within).1

pub new_part : (marks : List Stage) (s : Shape) (c : ℕ) → part_in marks s ≡ part.New c → mark_at marks c ≡ New
new_part marks s c e = (found_new marks s c e).0

pub walk_at : (cells : List Cell) (first marks marks' : List Stage) (next : ℕ) (path path' : List ℕ) → marks' ≡ marks → path' ≡ path → Walk cells first marks next path → Walk cells first marks' next path'
walk_at cells first marks marks' next path path' e d w =
    subst (λ m. Walk cells first m next path') (sym e) (subst (λ p. Walk cells first marks next p) (sym d) w)

-- a walk that goes on from here
pub walk_on : (cells : List Cell) (first marks : List Stage) (next : ℕ) (path : List ℕ) → Walk cells first marks next path → Walk cells marks marks next path
walk_on cells first marks next path w = record {
  same_length = w.same_length;
  numbered = w.numbered;
  room = w.room;
  within = w.within;
  busy = w.busy;
  kept = λ i r e. e;
  met = λ i e. e;
  under = w.under;
}

-- before anything is numbered
pub walk_none : (cells : List Cell) (marks : List Stage) → length marks ≡ length cells → ((i : ℕ) → mark_at marks i ≡ New) → Walk cells marks marks 0 []
walk_none cells marks l fresh = record {
  same_length = l;
  numbered = record {
    below = λ i r e. absurd (let f = fresh i in cc);
    parts = λ i r e. absurd (let f = fresh i in cc);
  };
  room = let b = left_bound marks in omega arith;
  within = tt;
  busy = λ i e. absurd (let f = fresh i in cc);
  kept = λ i r e. e;
  met = λ i e. e;
  under = λ labels θ s. tt;
}
  where
    one : (m : Stage) (a b : ℕ) → a ≤ b → left_weight m + a ≤ suc b
    one New a b l = omega arith
    one Busy a b l = omega arith
    one (Done r) a b l = omega arith

    left_bound : (marks : List Stage) → left_over marks ≤ length marks
    left_bound [] = omega arith
    left_bound (m ∷ marks) = subst (λ n. n ≤ suc (length marks)) (sym (sum_by-cons left_weight m marks)) (one m (left_over marks) (length marks) (left_bound marks))
