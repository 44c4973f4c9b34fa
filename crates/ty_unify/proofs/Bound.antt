-- A node is bound to admit equality.
use Rattle.std.proofs.Common.{◌≡◌, ℕ, zero, suc, ◌+◌, ◌<◌, ◌≤◌, List, [], ◌∷◌, ◌++◌, length, Bool, true, false, sym, subst, refl, arith, length-set, length-append}
use Rattle.std.specs.Prelude.{slice_set}
use Rattle.std.proofs.lemmas.List.Sums.{sum_by-set}
use Rattle.sml_static.specs.declared.ty.Label.{Label}
use Rattle.ty_unify.specs.declared.cell.Cell.{Cell}
use Rattle.ty_unify.specs.declared.cell.Shape.{Shape}
use Rattle.ty_unify.specs.declared.cell.Shape.TheVariants.{Open, Same, Const, Pair}
use Rattle.ty_unify.specs.declared.cell.Sort.{Sort}
use Rattle.ty_unify.specs.declared.cell.Tag.{Tag}
use Rattle.ty_unify.specs.declared.cell.Tag.TheVariants as tag
use Rattle.ty_unify.specs.declared.cell.Asked.{Asked}
use Rattle.ty_unify.specs.declared.cell.Asked.TheVariants.{Never, Always, Both}
use Rattle.ty_unify.specs.declared.join.Task.{Task}
use Rattle.ty_unify.specs.declared.join.Task.TheVariants.{Equal, Bound}
use Rattle.ty_unify.specs.Trees.{Tree, Admits, Asks, asks, tree_size}
use Rattle.ty_unify.specs.Cells.{cell_at, open_cell, head_of, asked_of, ShapeHolds, Held, Bounded, BoundBy, Ordered, Labelled, ShapeOrdered, sort_at, IsRoot}
use Rattle.ty_unify.specs.Steps.{Agrees, TasksIn, asked_parts, bounds_of, IsShaped, IsNever, NeverAdmits, cell_weight, shape_weight, Below, UpTo, Nothing, Handed, Stepped}
use Rattle.ty_unify.proofs.Sets.{each_set, each_kept, each_here, each_and}
use Rattle.ty_unify.proofs.Tasks.{agrees_join, tasks_join, bound_any, bound_back}
use Rattle.ty_unify.proofs.Joined.{sorts_set, order_set, labelled_set}

-- equality asks the same under a tag and under its head
asks_same : (labels : List Label) (t : Tag) → asks (head_of labels t) ≡ asked_of t
asks_same labels tag.Arrow = refl
asks_same labels (tag.Named n) = refl
asks_same labels (tag.Record l) = refl
asks_same labels (tag.Field l) = refl
asks_same labels tag.Argument = refl
asks_same labels tag.NoFields = refl
asks_same labels tag.LastField = refl
asks_same labels tag.LastArgument = refl

parts_up : (k : Asked) (n a b : ℕ) (θ : ℕ → Tree) → (IsNever k → ⊥) → tree_size (θ a) < n → tree_size (θ b) < n → Agrees (Below n) (asked_parts k a b) θ → Asks k (Admits (θ a)) (Admits (θ b))
parts_up Never n a b θ may la lb h = may tt
parts_up Always n a b θ may la lb h = tt
parts_up Both n a b θ may la lb h = (h.0 la, h.1.0 lb)

parts_down : (k : Asked) (a b : ℕ) (θ : ℕ → Tree) → Asks k (Admits (θ a)) (Admits (θ b)) → Agrees Admits (asked_parts k a b) θ
parts_down Never a b θ h = tt
parts_down Always a b θ h = tt
parts_down Both a b θ h = (h.0, (h.1, tt))

leaf_up : (k : Asked) → (IsNever k → ⊥) → Asks k (Unit {0}) (Unit {0})
leaf_up Never may = absurd (may tt)
leaf_up Always may = tt
leaf_up Both may = (tt, tt)

-- a node with a head that does not forbid it admits equality where its parts do
shaped_up : (labels : List Label) (s : Shape) (i n : ℕ) (θ : ℕ → Tree) → IsShaped s → (NeverAdmits s → ⊥) → ShapeHolds labels s i θ → Agrees (Below n) (bounds_of s) θ → UpTo n (θ i)
shaped_up labels Open i n θ sh may h a l = absurd sh
shaped_up labels (Same j k) i n θ sh may h a l = absurd sh
shaped_up labels (Const t) i n θ sh may h a l =
    subst Admits (sym h) (subst (λ k. Asks k (Unit {0}) (Unit {0})) (sym (asks_same labels t)) (leaf_up (asked_of t) may))
shaped_up labels (Pair t x y) i n θ sh may h a l =
    let m : 1 + tree_size (θ x) + tree_size (θ y) ≤ n = subst (λ u. tree_size u ≤ n) h l in
    subst Admits (sym h) (subst (λ k. Asks k (Admits (θ x)) (Admits (θ y))) (sym (asks_same labels t)) (parts_up (asked_of t) n x y θ may (omega arith) (omega arith) a))

-- the parts of a node that admits equality do as far as they are asked
shaped_down : (labels : List Label) (s : Shape) (i : ℕ) (θ : ℕ → Tree) → ShapeHolds labels s i θ → Admits (θ i) → Agrees Admits (bounds_of s) θ
shaped_down labels Open i θ h a = tt
shaped_down labels (Same j k) i θ h a = tt
shaped_down labels (Const t) i θ h a = tt
shaped_down labels (Pair t x y) i θ h a =
    parts_down (asked_of t) x y θ (subst (λ k. Asks k (Admits (θ x)) (Admits (θ y))) (asks_same labels t) (subst Admits h a))

never_leaf : (k : Asked) (A B : Type 0) → IsNever k → Asks k A B → ⊥
never_leaf Never A B n h = h
never_leaf Always A B n h = n
never_leaf Both A B n h = n

-- a shape that never admits equality has may such tree
pub never_admits : (labels : List Label) (s : Shape) (i : ℕ) (θ : ℕ → Tree) → NeverAdmits s → ShapeHolds labels s i θ → Admits (θ i) → ⊥
never_admits labels Open i θ n h a = n
never_admits labels (Same j k) i θ n h a = n
never_admits labels (Const t) i θ n h a =
    never_leaf (asked_of t) (Unit {0}) (Unit {0}) n (subst (λ k. Asks k (Unit {0}) (Unit {0})) (asks_same labels t) (subst Admits h a))
never_admits labels (Pair t x y) i θ n h a =
    never_leaf (asked_of t) (Admits (θ x)) (Admits (θ y)) n (subst (λ k. Asks k (Admits (θ x)) (Admits (θ y))) (asks_same labels t) (subst Admits h a))

unbound : (A B : Tree → Type 0) (s : Shape) (e : Bool) (t : Tree) → e ≡ false → Bounded A B s e t
unbound A B Open false t q = tt
unbound A B (Same j k) false t q = tt
unbound A B (Const c) false t q = tt
unbound A B (Pair c a b) false t q = tt
unbound A B s true t q = absurd (cc)

below_here : (s : Shape) (n : ℕ) (t : Tree) → IsRoot s → Bounded (Below n) Nothing s true t → (IsShaped s → UpTo n t) → Below n t
below_here Open n t r h u l = h l
below_here (Same j k) n t r h u l = absurd r
below_here (Const c) n t r h u l = u tt (omega arith)
below_here (Pair c a b) n t r h u l = u tt (omega arith)

upto_here : (s : Shape) (n : ℕ) (t : Tree) → IsRoot s → (IsShaped s → UpTo n t) → Bounded Nothing (UpTo n) s true t
upto_here Open n t r u = tt
upto_here (Same j k) n t r u = absurd r
upto_here (Const c) n t r u = u tt
upto_here (Pair c a b) n t r u = u tt

asked_in : (n : ℕ) (s : ℕ → Sort) (k : Asked) (a b : ℕ) → a < n → b < n → TasksIn n s (asked_parts k a b)
asked_in n s Never a b la lb = tt
asked_in n s Always a b la lb = tt
asked_in n s Both a b la lb = (la, (lb, tt))

bounds_in : (n : ℕ) (s : ℕ → Sort) (x : Shape) (i : ℕ) → ShapeOrdered n s x i → TasksIn n s (bounds_of x)
bounds_in n s Open i o = tt
bounds_in n s (Same j k) i o = tt
bounds_in n s (Const t) i o = tt
bounds_in n s (Pair t a b) i o = asked_in n s (asked_of t) a b o.0 o.1

asked_length : (k : Asked) (a b : ℕ) → length (asked_parts k a b) ≤ 2
asked_length Never a b = omega arith
asked_length Always a b = omega arith
asked_length Both a b = omega arith

bounds_length : (s : Shape) (e : Bool) → IsRoot s → e ≡ false → shape_weight s true + length (bounds_of s) ≤ shape_weight s e
bounds_length Open false r q = omega arith
bounds_length (Same j k) false r q = absurd r
bounds_length (Const t) false r q = omega arith
bounds_length (Pair t a b) false r q = let l = asked_length (asked_of t) a b in omega arith
bounds_length s true r q = absurd (cc)

-- the bound of a root is set, and those of its parts are still to be done
pub bounded : (labels : List Label) (cells : List Cell) (before : List Task) (i : ℕ)
    → Ordered cells → Labelled (length labels) cells → i < length cells → IsRoot (cell_at cells i).shape → (cell_at cells i).equal ≡ false
    → TasksIn (length cells) (sort_at cells) before → (NeverAdmits (cell_at cells i).shape → ⊥)
    → Stepped labels cells (slice_set cells i (record { shape = (cell_at cells i).shape; equal = true })) before (before ++ bounds_of (cell_at cells i).shape) (Bound i)
bounded labels cells before i o lab lt root off tb may =
    let d = cell_at cells i in
    let s = d.shape in
    let c : Cell = record { shape = s; equal = true } in
    let w = sum_by-set cell_weight cells i c open_cell lt in
    let bl = bounds_length s d.equal root off in
    record {
      order = order_set cells i c o lt refl (o.ordered i);
      labelled = labelled_set (length labels) cells i c lab lt (lab.labelled i);
      same_length = length-set cells i c;
      sorts = sorts_set cells i c lt refl;
      tasks = tasks_join (length cells) (sort_at cells) before (bounds_of s) tb (bounds_in (length cells) (sort_at cells) s i (o.ordered i));
      exact = λ θ. (
        (λ p.
            let at = λ (x : Cell) (j : ℕ). Held labels Admits Admits x j θ in
            let here = each_here at cells i c lt p.0.holds in
            let a = (agrees_join Admits before (bounds_of s) θ).0 p.1 in
            ((record { holds = each_and at cells i (each_kept at cells i c p.0.holds) (here.0, unbound Admits Admits s d.equal (θ i) off) }, a.0), bound_any Admits s true (θ i) root here.1)),
        (λ p.
            let at = λ (x : Cell) (j : ℕ). Held labels Admits Admits x j θ in
            let old = p.0.0.holds in (
              record { holds = each_set at cells i c lt (λ j n. old j) ((old i).0, bound_back Admits Admits s true (θ i) (λ t h. h) p.1) },
              (agrees_join Admits before (bounds_of s) θ).1 (p.0.1, shaped_down labels s i θ (old i).0 p.1),
            )),
      );
      handed = λ h. record {
        handed = λ n θ all ag j.
            let at = λ (x : Cell) (k : ℕ). Held labels (Below n) Nothing x k θ in
            let here = each_here at cells i c lt all in
            let a = (agrees_join (Below n) before (bounds_of s) θ).0 ag in
            let up : IsShaped s → UpTo n (θ i) = λ sh. shaped_up labels s i n θ sh may here.0 a.1 in
            let olds = each_and at cells i (each_kept at cells i c all) (here.0, unbound (Below n) Nothing s d.equal (θ i) off) in
            let low = below_here s n (θ i) root here.1 up in
            let old = h.handed n θ olds ((agrees_join (Below n) before (Bound i ∷ []) θ).1 (a.0, (low, tt))) in
            each_set (λ x k. Bounded Nothing (UpTo n) x.shape x.equal (θ k)) cells i c lt (λ k ne. old k) (upto_here s n (θ i) root up) j;
      };
      smaller = omega (arith, length-append before (bounds_of s));
    }

lowered : (m n : ℕ) (s : Shape) (e : Bool) (t : Tree) → m ≤ n → Bounded (Below n) Nothing s e t → Bounded (Below m) Nothing s e t
lowered m n Open false t l h = tt
lowered m n Open true t l h = λ k. h (omega arith)
lowered m n (Same j k) e t l h = tt
lowered m n (Const c) false t l h = tt
lowered m n (Const c) true t l h = tt
lowered m n (Pair c a b) false t l h = tt
lowered m n (Pair c a b) true t l h = tt

agrees_lowered : (m n : ℕ) (work : List Task) (θ : ℕ → Tree) → m ≤ n → Agrees (Below n) work θ → Agrees (Below m) work θ
agrees_lowered m n [] θ l h = tt
agrees_lowered m n (Equal a b ∷ ts) θ l h = (h.0, agrees_lowered m n ts θ l h.1)
agrees_lowered m n (Bound a ∷ ts) θ l h = ((λ k. h.0 (omega arith)), agrees_lowered m n ts θ l h.1)

flagged : (s : Shape) (e : Bool) (n : ℕ) (t : Tree) → IsRoot s → e ≡ true → tree_size t < n → Bounded (Below n) Nothing s e t → Bounded Nothing (UpTo (tree_size t)) s e t → Admits t
flagged s false n t r q l h u = absurd (cc)
flagged Open true n t r q l h u = h l
flagged (Same j k) true n t r q l h u = absurd r
flagged (Const c) true n t r q l h u = u (omega arith)
flagged (Pair c a b) true n t r q l h u = u (omega arith)

again : (labels : List Label) (cells : List Cell) (before : List Task) (i : ℕ) → IsRoot (cell_at cells i).shape → (cell_at cells i).equal ≡ true → Handed labels cells (before ++ Bound i ∷ [])
    → (k n : ℕ) → n < k → (θ : ℕ → Tree) → ((j : ℕ) → Held labels (Below n) Nothing (cell_at cells j) j θ) → Agrees (Below n) before θ
    → (j : ℕ) → Bounded Nothing (UpTo n) (cell_at cells j).shape (cell_at cells j).equal (θ j)
again labels cells before i root on h zero n lt θ all ag j = absurd (omega arith)
again labels cells before i root on h (suc k) n lt θ all ag j =
    let d = cell_at cells i in
    let m = tree_size (θ i) in
    let below : Below n (θ i) = λ l.
    flagged d.shape d.equal n (θ i) root on l (all i).1
    (again labels cells before i root on h k m (omega arith) θ
    (λ q. ((all q).0, lowered m n (cell_at cells q).shape (cell_at cells q).equal (θ q) (omega arith) (all q).1))
    (agrees_lowered m n before θ (omega arith) ag) i)
    in
    h.handed n θ all ((agrees_join (Below n) before (Bound i ∷ []) θ).1 (ag, (below, tt))) j

-- a root that is bound already
pub bounded_before : (labels : List Label) (cells : List Cell) (before : List Task) (i : ℕ)
    → Ordered cells → Labelled (length labels) cells → IsRoot (cell_at cells i).shape → (cell_at cells i).equal ≡ true
    → TasksIn (length cells) (sort_at cells) before → Stepped labels cells cells before before (Bound i)
bounded_before labels cells before i o lab root on tb =
    let d = cell_at cells i in
    record {
      order = o;
      labelled = lab;
      same_length = refl;
      sorts = λ j. refl;
      tasks = tb;
      exact = λ θ. (
        (λ p. ((p.0, p.1), subst (λ e. BoundBy Admits e (θ i)) on (bound_any Admits d.shape d.equal (θ i) root (p.0.holds i).1))),
        (λ p. (p.0.0, p.0.1)),
      );
      handed = λ h. record { handed = λ n θ all ag j. again labels cells before i root on h (suc n) n (omega arith) θ all ag j };
      smaller = omega arith;
    }
