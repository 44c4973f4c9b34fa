-- Joining two classes keeps the solutions.
use Rattle.std.proofs.Common.{◌≡◌, ℕ, ◌+◌, ◌<◌, ◌≤◌, List, [], ◌∷◌, ◌++◌, length, Bool, true, false, sym, ap, ◌∙◌, subst, refl, arith, inl, inr, get_or-set_same, get_or-set_other, length-set, length-append, append-nil}
use Rattle.std.specs.Prelude.{slice_set}
use Rattle.std.proofs.lemmas.Bool.{cases_eq}
use Rattle.std.proofs.lemmas.List.Sums.{sum_by-set}
use Rattle.sml_static.specs.declared.ty.Label.{Label}
use Rattle.ty_unify.specs.declared.cell.Cell.{Cell}
use Rattle.ty_unify.specs.declared.cell.Shape.{Shape}
use Rattle.ty_unify.specs.declared.cell.Shape.TheVariants.{Open, Same, Const, Pair}
use Rattle.ty_unify.specs.declared.cell.Sort.{Sort}
use Rattle.ty_unify.specs.declared.cell.Sort.TheVariants as sort
use Rattle.ty_unify.specs.declared.cell.Tag.{Tag}
use Rattle.ty_unify.specs.declared.cell.Tag.TheVariants as tag
use Rattle.ty_unify.specs.declared.join.Task.{Task}
use Rattle.ty_unify.specs.declared.join.Task.TheVariants.{Equal}
use Rattle.ty_unify.specs.Trees.{Tree, Atom, Fork, Head, Arrow, Named, Record, Field, Argument, NoFields, LastField, LastArgument, Admits}
use Rattle.ty_unify.specs.Cells.{cell_at, open_cell, head_of, rest_sort, ShapeHolds, Held, Bounded, BoundBy, Ordered, Labelled, LinksTo, link_rank, ShapeOrdered, ShapeLabelled, sort_at, cell_sort, IsRoot}
use Rattle.ty_unify.specs.Steps.{Agrees, TasksIn, bound_tasks, link_to, IsShaped, HeadsSame, HeadsEnd, parts_of, cell_weight, shape_weight, Below, UpTo, Nothing, Stepped}
use Rattle.ty_unify.proofs.Sets.{each_set, each_kept, each_here, each_and}
use Rattle.ty_unify.proofs.Tasks.{agrees_join, tasks_join, bound_said, bound_in, bound_length, bound_back, bound_any, moved}

-- a write that keeps the sort of its node keeps all sorts
pub sorts_set : (cells : List Cell) (k : ℕ) (c : Cell) → k < length cells → cell_sort c ≡ sort_at cells k → (i : ℕ) → sort_at (slice_set cells k c) i ≡ sort_at cells i
sorts_set cells k c lt e i =
    elim (cases_eq i k) [
      | inl p ↦ ap (λ j. sort_at (slice_set cells k c) j) p ∙ ap cell_sort (get_or-set_same cells k c open_cell lt) ∙ e ∙ ap (λ j. sort_at cells j) (sym p)
      | inr ne ↦ ap cell_sort (get_or-set_other cells k i c open_cell ne)
    ]

shape_kept : (n m : ℕ) (s s' : ℕ → Sort) (h : Shape) (i : ℕ) → m ≡ n → ((j : ℕ) → s' j ≡ s j) → ShapeOrdered n s h i → ShapeOrdered m s' h i
shape_kept n m s s' Open i e q o = tt
shape_kept n m s s' (Same j k) i e q o = ((o.0.0, subst (λ x. j < x) (sym e) o.0.1), q j ∙ o.1)
shape_kept n m s s' (Const t) i e q o = tt
shape_kept n m s s' (Pair t a b) i e q o = (subst (λ x. a < x) (sym e) o.0, subst (λ x. b < x) (sym e) o.1, q a ∙ o.2, q b ∙ o.3)

-- an ordered cell written in the place of one of its sort
pub order_set : (cells : List Cell) (k : ℕ) (c : Cell) → Ordered cells → k < length cells → cell_sort c ≡ sort_at cells k → ShapeOrdered (length cells) (sort_at cells) c.shape k → Ordered (slice_set cells k c)
order_set cells k c o lt e here = record {
  ordered = each_set (λ x i. ShapeOrdered (length (slice_set cells k c)) (sort_at (slice_set cells k c)) x.shape i) cells k c lt
      (λ i ne. shape_kept (length cells) _ (sort_at cells) _ (cell_at cells i).shape i (length-set cells k c) (sorts_set cells k c lt e) (o.ordered i))
      (shape_kept (length cells) _ (sort_at cells) _ c.shape k (length-set cells k c) (sorts_set cells k c lt e) here);
}

pub labelled_set : (m : ℕ) (cells : List Cell) (k : ℕ) (c : Cell) → Labelled m cells → k < length cells → ShapeLabelled m c.shape → Labelled m (slice_set cells k c)
labelled_set m cells k c l lt here = record { labelled = each_set (λ x i. ShapeLabelled m x.shape) cells k c lt (λ i ne. l.labelled i) here }

links_apart : (n j i : ℕ) → LinksTo n j i → j ≡ i → ⊥
links_apart n j i l e = let r = l.0 in let q = ap link_rank e in omega arith

pub root_ordered : (n : ℕ) (s : ℕ → Sort) (h : Shape) (i j : ℕ) → IsRoot h → ShapeOrdered n s h i → ShapeOrdered n s h j
root_ordered n s Open i j r o = tt
root_ordered n s (Same k q) i j r o = absurd r
root_ordered n s (Const t) i j r o = tt
root_ordered n s (Pair t a b) i j r o = o

-- the higher node becomes a link, where the lower node and the new equations say what its head said
pub linked : (labels : List Label) (cells : List Cell) (before eqs : List Task) (low high : ℕ)
    → Ordered cells → Labelled (length labels) cells → LinksTo (length cells) low high → high < length cells → sort_at cells low ≡ sort_at cells high → IsRoot (cell_at cells high).shape
    → TasksIn (length cells) (sort_at cells) before → TasksIn (length cells) (sort_at cells) eqs
    → ((A : Tree → Type 0) (θ : ℕ → Tree) → ShapeHolds labels (cell_at cells low).shape low θ → θ high ≡ θ low → Agrees A eqs θ → ShapeHolds labels (cell_at cells high).shape high θ)
    → ((θ : ℕ → Tree) → ShapeHolds labels (cell_at cells low).shape low θ → ShapeHolds labels (cell_at cells high).shape high θ → θ low ≡ θ high → Agrees Admits eqs θ)
    → length eqs + 1 ≤ cell_weight (cell_at cells high)
    → Stepped labels cells (slice_set cells high (link_to low (sort_at cells high))) before ((before ++ eqs) ++ bound_tasks (cell_at cells high).equal low) (Equal low high)
linked labels cells before eqs low high o lab lt within same root tb te hs hf less =
    let c = cell_at cells high in
    let l = link_to low (sort_at cells high) in
    let new = slice_set cells high l in
    let bound = bound_tasks c.equal low in
    let ne = links_apart (length cells) low high lt in
    let w = sum_by-set cell_weight cells high l open_cell within in
    let back : (A B : Tree → Type 0) (imp : (t : Tree) → A t → B t) (θ : ℕ → Tree) → ((i : ℕ) → Held labels A B (cell_at new i) i θ) → Agrees A ((before ++ eqs) ++ bound) θ
    → ((i : ℕ) → Held labels A B (cell_at cells i) i θ) × Agrees A before θ × (θ low ≡ θ high) =
    λ A B imp θ all ag.
    let at = λ (x : Cell) (i : ℕ). Held labels A B x i θ in
    let e : θ high ≡ θ low = (each_here at cells high l within all).0 in
    let rest = each_kept at cells high l all in
    let s = (agrees_join A (before ++ eqs) bound θ).0 ag in
    let s2 = (agrees_join A before eqs θ).0 s.0 in
    let b : BoundBy A c.equal (θ high) = subst (λ t. BoundBy A c.equal t) (sym e) ((bound_said A c.equal low θ).0 s.1) in
    (each_and at cells high rest (hs A θ (rest low ne).0 e s2.1, bound_back A B c.shape c.equal (θ high) imp b), s2.0, sym e)
    in
    record {
      order = order_set cells high l o within refl (lt, same);
      labelled = labelled_set (length labels) cells high l lab within tt;
      same_length = length-set cells high l;
      sorts = sorts_set cells high l within refl;
      tasks = tasks_join (length cells) (sort_at cells) (before ++ eqs) bound (tasks_join (length cells) (sort_at cells) before eqs tb te) (bound_in (length cells) (sort_at cells) c.equal low lt.1);
      exact = λ θ. (
        (λ s. let b = back Admits Admits (λ t h. h) θ s.0.holds s.1 in ((record { holds = b.0 }, b.1), b.2)),
        (λ s.
            let at = λ (x : Cell) (i : ℕ). Held labels Admits Admits x i θ in
            let old = s.0.0.holds in
            let hb : BoundBy Admits c.equal (θ high) = bound_any Admits c.shape c.equal (θ high) root (old high).1 in (
              record { holds = each_set at cells high l within (λ i n. old i) (sym s.1, tt) },
              (agrees_join Admits (before ++ eqs) bound θ).1 (
                (agrees_join Admits before eqs θ).1 (s.0.1, hf θ (old low).0 (old high).0 s.1),
                (bound_said Admits c.equal low θ).1 (subst (λ t. BoundBy Admits c.equal t) (sym s.1) hb),
              ),
            )),
      );
      handed = λ h. record {
        handed = λ n θ all ag i.
            let b = back (Below n) Nothing (λ t k. tt) θ all ag in
            let old = h.handed n θ b.0 ((agrees_join (Below n) before (Equal low high ∷ []) θ).1 (b.1, (b.2, tt))) in
            each_set (λ x i. Bounded Nothing (UpTo n) x.shape x.equal (θ i)) cells high l within (λ i n. old i) tt i;
      };
      smaller = omega (arith, length-append (before ++ eqs) bound, length-append before eqs, bound_length c.equal low);
    }

-- the higher one is open
pub join_open_high : (labels : List Label) (cells : List Cell) (before : List Task) (low high : ℕ)
    → Ordered cells → Labelled (length labels) cells → LinksTo (length cells) low high → high < length cells → sort_at cells low ≡ sort_at cells high
    → TasksIn (length cells) (sort_at cells) before → (cell_at cells high).shape ≡ Open
    → Stepped labels cells (slice_set cells high (link_to low (sort_at cells high))) before (before ++ bound_tasks (cell_at cells high).equal low) (Equal low high)
join_open_high labels cells before low high o lab lt within same tb e =
    let w : cell_weight (cell_at cells high) ≡ shape_weight Open (cell_at cells high).equal = ap (λ s. shape_weight s (cell_at cells high).equal) e in
    subst (λ l. Stepped labels cells (slice_set cells high (link_to low (sort_at cells high))) before (l ++ bound_tasks (cell_at cells high).equal low) (Equal low high)) (append-nil before)
    (linked labels cells before [] low high o lab lt within same (subst IsRoot (sym e) tt) tb tt
    (λ A θ l q a. subst (λ s. ShapeHolds labels s high θ) (sym e) tt) (λ θ l h q. tt) (omega (arith, w)))

-- the sort of the second part under a head
head_rest : Head → Sort
head_rest Arrow = sort.Type
head_rest (Named n) = sort.Arguments
head_rest (Record l) = sort.Fields
head_rest (Field l) = sort.Fields
head_rest Argument = sort.Arguments
head_rest NoFields = sort.Fields
head_rest LastField = sort.Fields
head_rest LastArgument = sort.Arguments

rest_is : (labels : List Label) (t : Tag) → rest_sort t ≡ head_rest (head_of labels t)
unfolding head_rest
rest_is labels tag.Arrow = refl
rest_is labels (tag.Named n) = refl
rest_is labels (tag.Record l) = refl
rest_is labels (tag.Field l) = refl
rest_is labels tag.Argument = refl
rest_is labels tag.NoFields = refl
rest_is labels tag.LastField = refl
rest_is labels tag.LastArgument = refl

heads_in : (labels : List Label) (n : ℕ) (s : ℕ → Sort) (x y : Shape) (i j : ℕ) → HeadsSame labels x y → ShapeOrdered n s x i → ShapeOrdered n s y j → TasksIn n s (parts_of x y)
heads_in labels n s (Const c) (Const d) i j h o p = tt
heads_in labels n s (Pair c a b) (Pair d u v) i j h o p =
    ((o.0, p.0, o.2 ∙ sym p.2), ((o.1, p.1, o.3 ∙ rest_is labels c ∙ ap head_rest h ∙ sym (rest_is labels d) ∙ sym p.3), tt))
heads_in labels n s Open y i j h o p = absurd h
heads_in labels n s (Same k q) y i j h o p = absurd h
heads_in labels n s (Const c) Open i j h o p = absurd h
heads_in labels n s (Const c) (Same k q) i j h o p = absurd h
heads_in labels n s (Const c) (Pair d u v) i j h o p = absurd h
heads_in labels n s (Pair c a b) Open i j h o p = absurd h
heads_in labels n s (Pair c a b) (Same k q) i j h o p = absurd h
heads_in labels n s (Pair c a b) (Const d) i j h o p = absurd h

heads_back : (labels : List Label) (A : Tree → Type 0) (θ : ℕ → Tree) (x y : Shape) (low high : ℕ) → HeadsSame labels x y
    → ShapeHolds labels x low θ → θ high ≡ θ low → Agrees A (parts_of x y) θ → ShapeHolds labels y high θ
heads_back labels A θ (Const c) (Const d) low high h l e a = e ∙ l ∙ ap Atom h
heads_back labels A θ (Pair c p q) (Pair d r s) low high h l e a =
    e ∙ l ∙ ap (λ k. Fork k (θ p) (θ q)) h ∙ ap (λ t. Fork (head_of labels d) t (θ q)) a.0 ∙ ap (λ t. Fork (head_of labels d) (θ r) t) a.1.0
heads_back labels A θ Open y low high h l e a = absurd h
heads_back labels A θ (Same k q) y low high h l e a = absurd h
heads_back labels A θ (Const c) Open low high h l e a = absurd h
heads_back labels A θ (Const c) (Same k q) low high h l e a = absurd h
heads_back labels A θ (Const c) (Pair d u v) low high h l e a = absurd h
heads_back labels A θ (Pair c p q) Open low high h l e a = absurd h
heads_back labels A θ (Pair c p q) (Same k u) low high h l e a = absurd h
heads_back labels A θ (Pair c p q) (Const d) low high h l e a = absurd h

heads_forth : (labels : List Label) (θ : ℕ → Tree) (x y : Shape) (low high : ℕ) → HeadsSame labels x y
    → ShapeHolds labels x low θ → ShapeHolds labels y high θ → θ low ≡ θ high → Agrees Admits (parts_of x y) θ
heads_forth labels θ (Const c) (Const d) low high h l k e = tt
heads_forth labels θ (Pair c p q) (Pair d r s) low high h l k e =
    let both : Fork (head_of labels c) (θ p) (θ q) ≡ Fork (head_of labels d) (θ r) (θ s) = sym l ∙ e ∙ k in
    let first : θ p ≡ θ r = cc in
    let second : θ q ≡ θ s = cc in
    (first, (second, tt))
heads_forth labels θ Open y low high h l k e = absurd h
heads_forth labels θ (Same j q) y low high h l k e = absurd h
heads_forth labels θ (Const c) Open low high h l k e = absurd h
heads_forth labels θ (Const c) (Same j q) low high h l k e = absurd h
heads_forth labels θ (Const c) (Pair d u v) low high h l k e = absurd h
heads_forth labels θ (Pair c p q) Open low high h l k e = absurd h
heads_forth labels θ (Pair c p q) (Same j u) low high h l k e = absurd h
heads_forth labels θ (Pair c p q) (Const d) low high h l k e = absurd h

-- roots with unlike heads have no common tree
pub heads_clash : (labels : List Label) (θ : ℕ → Tree) (x y : Shape) (low high : ℕ) → IsShaped x → IsShaped y → (HeadsSame labels x y → ⊥)
    → ShapeHolds labels x low θ → ShapeHolds labels y high θ → θ low ≡ θ high → ⊥
heads_clash labels θ Open y low high sx sy n l k e = sx
heads_clash labels θ (Same j q) y low high sx sy n l k e = sx
heads_clash labels θ (Const c) Open low high sx sy n l k e = sy
heads_clash labels θ (Const c) (Same j q) low high sx sy n l k e = sy
heads_clash labels θ (Const c) (Const d) low high sx sy n l k e =
    let both : Atom (head_of labels c) ≡ Atom (head_of labels d) = sym l ∙ e ∙ k in n (cc)
heads_clash labels θ (Const c) (Pair d u v) low high sx sy n l k e =
    let both : Atom (head_of labels c) ≡ Fork (head_of labels d) (θ u) (θ v) = sym l ∙ e ∙ k in cc
heads_clash labels θ (Pair c p q) Open low high sx sy n l k e = sy
heads_clash labels θ (Pair c p q) (Same j u) low high sx sy n l k e = sy
heads_clash labels θ (Pair c p q) (Const d) low high sx sy n l k e =
    let both : Fork (head_of labels c) (θ p) (θ q) ≡ Atom (head_of labels d) = sym l ∙ e ∙ k in cc
heads_clash labels θ (Pair c p q) (Pair d r s) low high sx sy n l k e =
    let both : Fork (head_of labels c) (θ p) (θ q) ≡ Fork (head_of labels d) (θ r) (θ s) = sym l ∙ e ∙ k in n (cc)

heads_length : (labels : List Label) (x y : Shape) (e : Bool) → HeadsSame labels x y → length (parts_of x y) + 1 ≤ shape_weight y e
heads_length labels (Const c) (Const d) e h = omega arith
heads_length labels (Pair c p q) (Pair d r s) e h = omega arith
heads_length labels Open y e h = absurd h
heads_length labels (Same j q) y e h = absurd h
heads_length labels (Const c) Open e h = absurd h
heads_length labels (Const c) (Same j q) e h = absurd h
heads_length labels (Const c) (Pair d u v) e h = absurd h
heads_length labels (Pair c p q) Open e h = absurd h
heads_length labels (Pair c p q) (Same j u) e h = absurd h
heads_length labels (Pair c p q) (Const d) e h = absurd h

-- both have one head
pub join_heads : (labels : List Label) (cells : List Cell) (before : List Task) (low high : ℕ)
    → Ordered cells → Labelled (length labels) cells → LinksTo (length cells) low high → high < length cells → sort_at cells low ≡ sort_at cells high → IsRoot (cell_at cells high).shape
    → TasksIn (length cells) (sort_at cells) before → HeadsSame labels (cell_at cells low).shape (cell_at cells high).shape
    → Stepped labels cells (slice_set cells high (link_to low (sort_at cells high))) before
    ((before ++ parts_of (cell_at cells low).shape (cell_at cells high).shape) ++ bound_tasks (cell_at cells high).equal low) (Equal low high)
join_heads labels cells before low high o lab lt within same root tb h =
    let x = (cell_at cells low).shape in
    let y = (cell_at cells high).shape in
    linked labels cells before (parts_of x y) low high o lab lt within same root tb
    (heads_in labels (length cells) (sort_at cells) x y low high h (o.ordered low) (o.ordered high))
    (λ A θ l q a. heads_back labels A θ x y low high h l q a) (λ θ l k q. heads_forth labels θ x y low high h l k q)
    (heads_length labels x y (cell_at cells high).equal h)

open_held : (labels : List Label) (A B : Tree → Type 0) (c : Cell) (i : ℕ) (θ : ℕ → Tree) → c.shape ≡ Open → BoundBy A c.equal (θ i) → Held labels A B c i θ
open_held labels A B c i θ e b = (subst (λ s. ShapeHolds labels s i θ) (sym e) tt, subst (λ s. Bounded A B s c.equal (θ i)) (sym e) b)

open_bound : (labels : List Label) (A B : Tree → Type 0) (c : Cell) (i : ℕ) (θ : ℕ → Tree) → c.shape ≡ Open → Held labels A B c i θ → BoundBy A c.equal (θ i)
open_bound labels A B c i θ e h = subst (λ s. Bounded A B s c.equal (θ i)) e h.1

-- the lower one is open, and takes over the cell of the higher one
pub join_open_low : (labels : List Label) (cells : List Cell) (before : List Task) (low high : ℕ)
    → Ordered cells → Labelled (length labels) cells → LinksTo (length cells) low high → high < length cells → sort_at cells low ≡ sort_at cells high → IsRoot (cell_at cells high).shape
    → TasksIn (length cells) (sort_at cells) before → (cell_at cells low).shape ≡ Open
    → Stepped labels cells (slice_set (slice_set cells low (cell_at cells high)) high (link_to low (sort_at cells high))) before
    (before ++ bound_tasks (cell_at cells low).equal low) (Equal low high)
join_open_low labels cells before low high o lab lt within same root tb e1 =
    let c = cell_at cells high in
    let d = cell_at cells low in
    let l = link_to low (sort_at cells high) in
    let mid = slice_set cells low c in
    let new = slice_set mid high l in
    let bound = bound_tasks d.equal low in
    let lw = lt.1 in
    let ne = links_apart (length cells) low high lt in
    let lne = λ (e : high ≡ low). ne (sym e) in
    let ml = length-set cells low c in
    let midw : high < length mid = omega arith in
    let same_high : cell_at mid high ≡ c = get_or-set_other cells low high c open_cell lne in
    let same_low : cell_at mid low ≡ c = get_or-set_same cells low c open_cell lw in
    let sm = sorts_set cells low c lw (sym same) in
    let om = order_set cells low c o lw (sym same) (root_ordered (length cells) (sort_at cells) c.shape high low root (o.ordered high)) in
    let lm = labelled_set (length labels) cells low c lab lw (lab.labelled high) in
    let sh : sort_at cells high ≡ sort_at mid high = sym (sm high) in
    let w = sum_by-set cell_weight cells low c open_cell lw in
    let w1 : cell_weight d ≡ shape_weight Open d.equal = ap (λ s. shape_weight s d.equal) e1 in
    let w2 = sum_by-set cell_weight mid high l open_cell midw in
    let w3 : cell_weight (cell_at mid high) ≡ cell_weight c = ap cell_weight same_high in
    let back : (A B : Tree → Type 0) (θ : ℕ → Tree) → ((i : ℕ) → Held labels A B (cell_at new i) i θ) → Agrees A (before ++ bound) θ
    → ((i : ℕ) → Held labels A B (cell_at cells i) i θ) × Agrees A before θ × (θ low ≡ θ high) =
    λ A B θ all ag.
    let at = λ (x : Cell) (i : ℕ). Held labels A B x i θ in
    let e : θ high ≡ θ low = (each_here at mid high l midw all).0 in
    let rest = each_kept at mid high l all in
    let at_low : Held labels A B c low θ = subst (λ x. Held labels A B x low θ) same_low (rest low ne) in
    let at_high = moved labels A B c low high θ root (sym e) at_low in
    let mids = each_and at mid high rest (subst (λ x. Held labels A B x high θ) (sym same_high) at_high) in
    let kept = each_kept at cells low c mids in
    let s = (agrees_join A before bound θ).0 ag in
    (each_and at cells low kept (open_held labels A B d low θ e1 ((bound_said A d.equal low θ).0 s.1)), s.0, sym e)
    in
    record {
      order = order_set mid high l om midw (sh ∙ refl) ((lt.0, subst (λ x. low < x) (sym ml) lt.1), sm low ∙ same);
      labelled = labelled_set (length labels) mid high l lm midw tt;
      same_length = length-set mid high l ∙ ml;
      sorts = λ i. sorts_set mid high l midw (sh ∙ refl) i ∙ sm i;
      tasks = tasks_join (length cells) (sort_at cells) before bound tb (bound_in (length cells) (sort_at cells) d.equal low lw);
      exact = λ θ. (
        (λ s. let b = back Admits Admits θ s.0.holds s.1 in ((record { holds = b.0 }, b.1), b.2)),
        (λ s.
            let at = λ (x : Cell) (i : ℕ). Held labels Admits Admits x i θ in
            let old = s.0.0.holds in
            let here : Held labels Admits Admits c low θ = moved labels Admits Admits c high low θ root (sym s.1) (old high) in
            let mids = each_set at cells low c lw (λ i n. old i) here in (
              record { holds = each_set at mid high l midw (λ i n. mids i) (sym s.1, tt) },
              (agrees_join Admits before bound θ).1 (s.0.1, (bound_said Admits d.equal low θ).1 (open_bound labels Admits Admits d low θ e1 (old low))),
            )),
      );
      handed = λ h. record {
        handed = λ n θ all ag i.
            let b = back (Below n) Nothing θ all ag in
            let old = h.handed n θ b.0 ((agrees_join (Below n) before (Equal low high ∷ []) θ).1 (b.1, (b.2, tt))) in
            let at = λ (x : Cell) (i : ℕ). Bounded Nothing (UpTo n) x.shape x.equal (θ i) in
            let mids = each_set at cells low c lw (λ i n. old i) (subst (λ t. Bounded Nothing (UpTo n) c.shape c.equal t) (sym b.2) (old high)) in
            each_set at mid high l midw (λ i n. mids i) tt i;
      };
      smaller = omega (arith, length-append before bound, bound_length d.equal low);
    }

pub stepped_at : (labels : List Label) (old new new' : List Cell) (before after after' : List Task) (t : Task) → new' ≡ new → after' ≡ after → Stepped labels old new before after t → Stepped labels old new' before after' t
stepped_at labels old new new' before after after' t e d s =
    subst (λ n. Stepped labels old n before after' t) (sym e) (subst (λ a. Stepped labels old new before a t) (sym d) s)

heads_true : (went : Bool) (labels : List Label) (a b : Shape) (before after : List Task) → went ≡ true → HeadsEnd went labels a b before after → HeadsSame labels a b × (after ≡ before ++ parts_of a b)
heads_true true labels a b before after e h = h
heads_true false labels a b before after e h = absurd (cc)

-- what `join` does where the heads are the same
pub join_same : (went : Bool) (labels : List Label) (cells new : List Cell) (before mid after : List Task) (low high : ℕ) (x y : Cell)
    → Ordered cells → Labelled (length labels) cells → LinksTo (length cells) low high → high < length cells → sort_at cells low ≡ sort_at cells high → IsRoot (cell_at cells high).shape
    → TasksIn (length cells) (sort_at cells) before → cell_at cells low ≡ x → cell_at cells high ≡ y → went ≡ true → HeadsEnd went labels x.shape y.shape before mid
    → new ≡ slice_set cells high (link_to low (sort_at cells high)) → after ≡ mid ++ bound_tasks (cell_at cells high).equal low
    → Stepped labels cells new before after (Equal low high)
join_same went labels cells new before mid after low high x y o lab lt within same root tb ex ey t h en ea =
    let k = heads_true went labels x.shape y.shape before mid t h in
    let hs : HeadsSame labels (cell_at cells low).shape (cell_at cells high).shape =
    subst (λ c. HeadsSame labels c.shape (cell_at cells high).shape) (sym ex) (subst (λ c. HeadsSame labels x.shape c.shape) (sym ey) k.0) in
    let hp : parts_of x.shape y.shape ≡ parts_of (cell_at cells low).shape (cell_at cells high).shape =
    ap (λ c. parts_of c.shape y.shape) (sym ex) ∙ ap (λ c. parts_of (cell_at cells low).shape c.shape) (sym ey) in
    stepped_at labels cells _ new before _ after (Equal low high) en (ea ∙ ap (λ l. l ++ bound_tasks (cell_at cells high).equal low) (k.1 ∙ ap (λ p. before ++ p) hp))
    (join_heads labels cells before low high o lab lt within same root tb hs)
