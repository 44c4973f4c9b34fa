-- One more cell.
use Rattle.std.proofs.Common.{◌≡◌, ℕ, ◌==◌, ◌+◌, ◌<◌, ◌≤◌, ◌^◌, List, [], ◌∷◌, ◌++◌, length, Bool, true, false, cond, refl, sym, ap, ◌∙◌, subst, inl, inr, arith, length-append, eq-eqb}
use Rattle.std.proofs.lemmas.Bool.{cases_eq, cases_lt}
use Rattle.std.proofs.lemmas.Bool.Decides.{nat_tests}
use Rattle.std.proofs.lemmas.List.{get_or_append_left, get_or_past}
use Rattle.std.proofs.Math.Seq.{get_or-append_seam}
use Rattle.sml_static.specs.declared.ty.Label.{Label}
use Rattle.sml_static.specs.declared.ty.VarKind.{VarKind}
use Rattle.sml_static.specs.declared.ty.VarKind.TheVariants as kind
use Rattle.ty_unify.specs.declared.cell.Cell.{Cell}
use Rattle.ty_unify.specs.declared.cell.Shape.{Shape}
use Rattle.ty_unify.specs.declared.cell.Shape.TheVariants.{Open, Same, Const, Pair}
use Rattle.ty_unify.specs.declared.cell.Sort.{Sort}
use Rattle.ty_unify.specs.declared.cell.Sort.TheVariants as sort
use Rattle.ty_unify.specs.Trees.{Tree, Fork, Admits}
use Rattle.ty_unify.specs.Cells.{cell_at, open_cell, head_of, ShapeHolds, Held, Bounded, Solves, Ordered, ShapeOrdered, ShapeLabelled, sort_at, cell_sort}
use Rattle.ty_unify.specs.Steps.{Below, UpTo, Nothing}
use Rattle.ty_unify.specs.Walking.{PartsBelow}
use Rattle.ty_unify.specs.Stores.{Sound, Grown, Agree, KindHolds, variable_cell}
use Rattle.ty_unify.proofs.Sounds.{solvable}

-- an assignment with one tree changed
abbrev pub with_tree : (ℕ → Tree) → ℕ → Tree → ℕ → Tree
with_tree θ n t i = cond (i == n) t (θ i)

pub with_here : (θ : ℕ → Tree) (n : ℕ) (t : Tree) → with_tree θ n t n ≡ t
with_here θ n t = ap (λ b. cond b t (θ n)) (eq-eqb n n refl)

pub with_other : (θ : ℕ → Tree) (n i : ℕ) (t : Tree) → i < n → with_tree θ n t i ≡ θ i
with_other θ n i t lt = grind (arith, nat_tests)

pub each_put : (P : Cell → ℕ → Type 0) (cells : List Cell) (c : Cell) → ((i : ℕ) → i < length cells → P (cell_at cells i) i) → P c (length cells) → ((i : ℕ) → P open_cell i) → (i : ℕ) → P (cell_at (cells ++ c ∷ []) i) i
each_put P cells c rest here past i =
    elim (cases_lt i (length cells)) [
      | inl lt ↦ subst (λ x. P x i) (sym (get_or_append_left cells (c ∷ []) open_cell i lt)) (rest i lt)
      | inr ge ↦ elim (cases_eq i (length cells)) [
        | inl e ↦ subst (λ j. P (cell_at (cells ++ c ∷ []) j) j) (sym e) (subst (λ x. P x (length cells)) (sym (get_or-append_seam cells c [] open_cell)) here)
        | inr ne ↦ subst (λ x. P x i) (sym (get_or_past (cells ++ c ∷ []) i open_cell (omega (arith, length-append cells (c ∷ []))))) (past i)
      ]
    ]

pub each_before : (P : Cell → ℕ → Type 0) (cells : List Cell) (c : Cell) → ((i : ℕ) → P (cell_at (cells ++ c ∷ []) i) i) → ((i : ℕ) → P open_cell i) → (i : ℕ) → P (cell_at cells i) i
each_before P cells c all past i =
    elim (cases_lt i (length cells)) [
      | inl lt ↦ subst (λ x. P x i) (get_or_append_left cells (c ∷ []) open_cell i lt) (all i)
      | inr ge ↦ subst (λ x. P x i) (sym (get_or_past cells i open_cell ge)) (past i)
    ]

pub each_last : (P : Cell → ℕ → Type 0) (cells : List Cell) (c : Cell) → ((i : ℕ) → P (cell_at (cells ++ c ∷ []) i) i) → P c (length cells)
each_last P cells c all = subst (λ x. P x (length cells)) (get_or-append_seam cells c [] open_cell) (all (length cells))

pub sort_before : (cells : List Cell) (c : Cell) (i : ℕ) → i < length cells → sort_at (cells ++ c ∷ []) i ≡ sort_at cells i
sort_before cells c i lt = ap cell_sort (get_or_append_left cells (c ∷ []) open_cell i lt)

pub sort_last : (cells : List Cell) (c : Cell) → sort_at (cells ++ c ∷ []) (length cells) ≡ cell_sort c
sort_last cells c = ap cell_sort (get_or-append_seam cells c [] open_cell)

ordered_more : (n m : ℕ) (s s' : ℕ → Sort) (h : Shape) (i : ℕ) → i ≤ n → n ≤ m → ((j : ℕ) → j < n → s' j ≡ s j) → ShapeOrdered n s h i → ShapeOrdered m s' h i
ordered_more n m s s' Open i b l q o = tt
ordered_more n m s s' (Same j k) i b l q o = let p = o.0.1 in ((o.0.0, omega arith), q j p ∙ o.1)
ordered_more n m s s' (Const t) i b l q o = tt
ordered_more n m s s' (Pair t x y) i b l q o = let p = o.0 in let r = o.1 in (omega arith, omega arith, q x p ∙ o.2, q y r ∙ o.3)

-- a rank above both parts
new_rank : Shape → (ℕ → ℕ) → ℕ
new_rank Open rank = 0
new_rank (Same j s) rank = rank j + 1
new_rank (Const t) rank = 0
new_rank (Pair t a b) rank = rank a + rank b + 1

ranked_same : (n : ℕ) (s : Shape) (srt : ℕ → Sort) (rank rank' : ℕ → ℕ) (i : ℕ) → i < n → ((j : ℕ) → j < n → rank' j ≡ rank j) → ShapeOrdered n srt s i → PartsBelow s rank i → PartsBelow s rank' i
ranked_same n Open srt rank rank' i l q o p = tt
ranked_same n (Same j s) srt rank rank' i l q o p = let e = q j o.0.1 in let f = q i l in omega arith
ranked_same n (Const t) srt rank rank' i l q o p = tt
ranked_same n (Pair t a b) srt rank rank' i l q o p =
    let p0 = p.0 in let p1 = p.1 in let e = q a o.0 in let f = q b o.1 in let g = q i l in (omega arith, omega arith)

ranked_here : (n : ℕ) (s : Shape) (srt : ℕ → Sort) (rank rank' : ℕ → ℕ) → ((j : ℕ) → j < n → rank' j ≡ rank j) → rank' n ≡ new_rank s rank → ShapeOrdered n srt s n → PartsBelow s rank' n
unfolding new_rank
ranked_here n Open srt rank rank' q h o = tt
ranked_here n (Same j s) srt rank rank' q h o = let e = q j o.0.1 in omega arith
ranked_here n (Const t) srt rank rank' q h o = tt
ranked_here n (Pair t a b) srt rank rank' q h o = let e = q a o.0 in let f = q b o.1 in (omega arith, omega arith)

pub bare_result : (s : Shape) (B : Tree → Type 0) (t : Tree) → Bounded Nothing B s false t
bare_result Open B t = tt
bare_result (Same j k) B t = tt
bare_result (Const h) B t = tt
bare_result (Pair h a b) B t = tt

pub open_result : (e : Bool) (B : Tree → Type 0) (t : Tree) → Bounded Nothing B Open e t
open_result false B t = tt
open_result true B t = tt

pub sound_put : (labels : List Label) (cells : List Cell) (c : Cell) → Sound labels cells → length (cells ++ c ∷ []) ≤ 2 ^ 32
    → ShapeOrdered (length cells) (sort_at cells) c.shape (length cells) → ShapeLabelled (length labels) c.shape
    → ((B : Tree → Type 0) (t : Tree) → Bounded Nothing B c.shape c.equal t) → Sound labels (cells ++ c ∷ [])
sound_put labels cells c s small here lab res =
    let n = length cells in
    let new = cells ++ c ∷ [] in
    let grow : n ≤ length new = omega (arith, length-append cells (c ∷ [])) in
    let rank = λ (j : ℕ). cond (j == n) (new_rank c.shape s.ranked.rank) (s.ranked.rank j) in
    let same : (j : ℕ) → j < n → rank j ≡ s.ranked.rank j = λ j lt. grind (arith, nat_tests) in
    let top : rank n ≡ new_rank c.shape s.ranked.rank = ap (λ b. cond b (new_rank c.shape s.ranked.rank) (s.ranked.rank n)) (eq-eqb n n refl) in
    record {
      order = record {
        ordered = each_put (λ x i. ShapeOrdered (length new) (sort_at new) x.shape i) cells c
            (λ i lt. ordered_more n (length new) (sort_at cells) (sort_at new) (cell_at cells i).shape i (omega arith) grow (λ j l. sort_before cells c j l) (s.order.ordered i))
            (ordered_more n (length new) (sort_at cells) (sort_at new) c.shape n (omega arith) grow (λ j l. sort_before cells c j l) here) (λ i. tt);
      };
      labelled = record { labelled = each_put (λ x i. ShapeLabelled (length labels) x.shape) cells c (λ i lt. s.labelled.labelled i) lab (λ i. tt) };
      handed = record {
        handed = λ m θ all ag.
            let old = s.handed.handed m θ (each_before (λ x i. Held labels (Below m) Nothing x i θ) cells c all (λ i. (tt, tt))) tt in
            each_put (λ x i. Bounded Nothing (UpTo m) x.shape x.equal (θ i)) cells c (λ i lt. old i) (res (UpTo m) (θ n)) (λ i. tt);
      };
      ranked = record {
        rank = rank;
        below = each_put (λ x i. PartsBelow x.shape rank i) cells c
            (λ i lt. ranked_same n (cell_at cells i).shape (sort_at cells) s.ranked.rank rank i lt same (s.order.ordered i) (s.ranked.below i))
            (ranked_here n c.shape (sort_at cells) s.ranked.rank rank same top here) (λ i. tt);
      };
      small = small;
    }

shape_same : (labels : List Label) (s : Shape) (srt : ℕ → Sort) (i n : ℕ) (θ θ' : ℕ → Tree) → i < n → ShapeOrdered n srt s i → Agree n θ θ' → ShapeHolds labels s i θ → ShapeHolds labels s i θ'
shape_same labels Open srt i n θ θ' lt o a h = tt
shape_same labels (Same j k) srt i n θ θ' lt o a h = let d = o.0 in a.same i lt ∙ h ∙ sym (a.same j (omega arith))
shape_same labels (Const k) srt i n θ θ' lt o a h = a.same i lt ∙ h
shape_same labels (Pair k p q) srt i n θ θ' lt o a h =
    a.same i lt ∙ h ∙ ap (λ v. Fork (head_of labels k) v (θ q)) (sym (a.same p o.0)) ∙ ap (λ v. Fork (head_of labels k) (θ' p) v) (sym (a.same q o.1))

pub solves_same : (labels : List Label) (cells : List Cell) (θ θ' : ℕ → Tree) → Ordered cells → Agree (length cells) θ θ' → Solves labels cells θ → Solves labels cells θ'
solves_same labels cells θ θ' o a s = record {
  holds = λ i. elim (cases_lt i (length cells)) [
    | inl lt ↦ (
      shape_same labels (cell_at cells i).shape (sort_at cells) i (length cells) θ θ' lt (o.ordered i) a (s.holds i).0,
      subst (λ t. Bounded Admits Admits (cell_at cells i).shape (cell_at cells i).equal t) (sym (a.same i lt)) (s.holds i).1,
    )
    | inr ge ↦ subst (λ x. Held labels Admits Admits x i θ') (sym (get_or_past cells i open_cell ge)) (tt, tt)
  ];
}

-- one more node of the sort of types
pub put_grown : (labels : List Label) (cells : List Cell) (c : Cell) (P : (ℕ → Tree) → Tree → Type 0) → Sound labels cells → Sound labels (cells ++ c ∷ []) → cell_sort c ≡ sort.Type
    → ((θ : ℕ → Tree) → Held labels Admits Admits c (length cells) θ → P θ (θ (length cells)))
    → ((θ : ℕ → Tree) (t : Tree) → P θ t → Held labels Admits Admits c (length cells) (with_tree θ (length cells) t))
    → Grown (record { cells = cells; labels = labels }) (record { cells = cells ++ c ∷ []; labels = labels }) (length cells) P
put_grown labels cells c P s snew srt join split =
    let n = length cells in
    record {
      node_in = (omega (arith, length-append cells (c ∷ [])), sort_last cells c ∙ srt);
      longer = omega (arith, length-append cells (c ∷ []));
      nodes = λ i h. (let l = h.0 in omega (arith, length-append cells (c ∷ [])), sort_before cells c i h.0 ∙ h.1);
      sound = λ θ sol. (record { holds = each_before (λ x i. Held labels Admits Admits x i θ) cells c sol.holds (λ i. (tt, tt)) }, join θ (each_last (λ x i. Held labels Admits Admits x i θ) cells c sol.holds));
      complete = λ θ t sol p.
          let θ' = with_tree θ n t in
          let a : Agree n θ θ' = record { same = λ i lt. with_other θ n i t lt } in
          let old = solves_same labels cells θ θ' s.order a sol in
          (θ', a, record { holds = each_put (λ x i. Held labels Admits Admits x i θ') cells c (λ i lt. old.holds i) (split θ t p) (λ i. (tt, tt)) }, with_here θ n t);
      solvable = solvable labels (cells ++ c ∷ []) snew;
    }

variable_ordered : (k : VarKind) (n m i : ℕ) (s : ℕ → Sort) → ShapeOrdered n s (variable_cell k).shape i × ShapeLabelled m (variable_cell k).shape × (cell_sort (variable_cell k) ≡ sort.Type)
variable_ordered kind.Plain n m i s = (tt, tt, refl)
variable_ordered kind.Equal n m i s = (tt, tt, refl)

variable_result : (k : VarKind) (B : Tree → Type 0) (t : Tree) → Bounded Nothing B (variable_cell k).shape (variable_cell k).equal t
variable_result kind.Plain B t = tt
variable_result kind.Equal B t = tt

variable_join : (labels : List Label) (k : VarKind) (i : ℕ) (θ : ℕ → Tree) → Held labels Admits Admits (variable_cell k) i θ → KindHolds k (θ i)
variable_join labels kind.Plain i θ h = tt
variable_join labels kind.Equal i θ h = h.1

variable_split : (labels : List Label) (k : VarKind) (i : ℕ) (θ : ℕ → Tree) → KindHolds k (θ i) → Held labels Admits Admits (variable_cell k) i θ
variable_split labels kind.Plain i θ h = (tt, tt)
variable_split labels kind.Equal i θ h = (tt, h)

pub sound_fresh : (labels : List Label) (cells new : List Cell) (k : VarKind) → Sound labels cells → new ≡ cells ++ variable_cell k ∷ [] → length new ≤ 2 ^ 32 → Sound labels new
sound_fresh labels cells new k s e small =
    let o = variable_ordered k (length cells) (length labels) (length cells) (sort_at cells) in
    subst (λ l. Sound labels l) (sym e) (sound_put labels cells (variable_cell k) s (subst (λ l. length l ≤ 2 ^ 32) e small) o.0 o.1 (variable_result k))

pub fresh_grown : (labels : List Label) (cells new : List Cell) (k : VarKind) (node : ℕ) → Sound labels cells → new ≡ cells ++ variable_cell k ∷ [] → length new ≤ 2 ^ 32 → node ≡ length cells
    → Grown (record { cells = cells; labels = labels }) (record { cells = new; labels = labels }) node (λ θ t. KindHolds k t)
fresh_grown labels cells new k node s e small d =
    let snew = subst (λ l. Sound labels l) e (sound_fresh labels cells new k s e small) in
    let o = variable_ordered k (length cells) (length labels) (length cells) (sort_at cells) in
    subst (λ l. Grown (record { cells = cells; labels = labels }) (record { cells = l; labels = labels }) node (λ θ t. KindHolds k t)) (sym e)
    (subst (λ n. Grown (record { cells = cells; labels = labels }) (record { cells = cells ++ variable_cell k ∷ []; labels = labels }) n (λ θ t. KindHolds k t)) (sym d)
    (put_grown labels cells (variable_cell k) (λ θ t. KindHolds k t) s snew o.2
    (λ θ h. variable_join labels k (length cells) θ h)
    (λ θ t p. variable_split labels k (length cells) (with_tree θ (length cells) t) (subst (λ u. KindHolds k u) (sym (with_here θ (length cells) t)) p))))
