-- Each choice of trees for the open nodes extends to a solution of a sound store.
use Rattle.std.proofs.Common.{◌≡◌, ℕ, ◌<◌, zero, suc, List, [], Bool, true, false, refl, sym, ap, ◌∙◌, subst, arith}
use Rattle.sml_static.specs.declared.ty.Label.{Label}
use Rattle.ty_unify.specs.declared.cell.Cell.{Cell}
use Rattle.ty_unify.specs.declared.cell.Shape.{Shape}
use Rattle.ty_unify.specs.declared.cell.Shape.TheVariants.{Open, Same, Const, Pair}
use Rattle.ty_unify.specs.Trees.{Tree, Atom, Fork, Admits, tree_size}
use Rattle.ty_unify.specs.Cells.{cell_at, head_of, ShapeHolds, Bounded, BoundBy, Solves}
use Rattle.ty_unify.specs.Steps.{Below, UpTo, Nothing, Handed}
use Rattle.ty_unify.specs.Walking.{Ranked, PartsBelow}

abbrev by_shape : List Label → Shape → Tree → (ℕ → Tree) → Tree
by_shape labels Open t f = t
by_shape labels (Same j s) t f = f j
by_shape labels (Const c) t f = Atom (head_of labels c)
by_shape labels (Pair c a b) t f = Fork (head_of labels c) (f a) (f b)

-- the tree of a node, as far as k turns reach
abbrev value : List Label → List Cell → (ℕ → Tree) → ℕ → ℕ → Tree
value labels cells v zero i = v i
value labels cells v (suc k) i = by_shape labels (cell_at cells i).shape (v i) (value labels cells v k)

by_shape_same : (labels : List Label) (s : Shape) (rank : ℕ → ℕ) (i k m : ℕ) (t : Tree) (f g : ℕ → Tree) → PartsBelow s rank i → rank i < suc k → rank i < suc m
    → ((j : ℕ) → rank j < k → rank j < m → f j ≡ g j) → by_shape labels s t f ≡ by_shape labels s t g
by_shape_same labels Open rank i k m t f g p a b h = refl
by_shape_same labels (Same j s) rank i k m t f g p a b h = h j (omega arith) (omega arith)
by_shape_same labels (Const c) rank i k m t f g p a b h = refl
by_shape_same labels (Pair c x y) rank i k m t f g p a b h =
    let px = p.0 in
    let py = p.1 in
    ap (λ u. Fork (head_of labels c) u (f y)) (h x (omega arith) (omega arith)) ∙ ap (λ u. Fork (head_of labels c) (g x) u) (h y (omega arith) (omega arith))

stable : (labels : List Label) (cells : List Cell) (rank : ℕ → ℕ) (v : ℕ → Tree) → ((i : ℕ) → PartsBelow (cell_at cells i).shape rank i) → (k m i : ℕ) → rank i < k → rank i < m → value labels cells v k i ≡ value labels cells v m i
stable labels cells rank v r zero m i a b = absurd (omega arith)
stable labels cells rank v r (suc k) zero i a b = absurd (omega arith)
stable labels cells rank v r (suc k) (suc m) i a b =
    by_shape_same labels (cell_at cells i).shape rank i k m (v i) (value labels cells v k) (value labels cells v m) (r i) a b (λ j x y. stable labels cells rank v r k m j x y)

canonical : List Label → List Cell → (ℕ → ℕ) → (ℕ → Tree) → ℕ → Tree
canonical labels cells rank v i = value labels cells v (suc (rank i)) i

holds_at : (labels : List Label) (s : Shape) (cells : List Cell) (rank : ℕ → ℕ) (v : ℕ → Tree) (i : ℕ) → ((i : ℕ) → PartsBelow (cell_at cells i).shape rank i) → (cell_at cells i).shape ≡ s → PartsBelow s rank i
    → ShapeHolds labels s i (canonical labels cells rank v)
unfolding canonical
holds_at labels Open cells rank v i r e p = tt
holds_at labels (Same j s) cells rank v i r e p =
    ap (λ c. by_shape labels c (v i) (value labels cells v (rank i))) e ∙ stable labels cells rank v r (rank i) (suc (rank j)) j p (omega arith)
holds_at labels (Const c) cells rank v i r e p = ap (λ c. by_shape labels c (v i) (value labels cells v (rank i))) e
holds_at labels (Pair c a b) cells rank v i r e p =
    let pa = p.0 in
    let pb = p.1 in
    let n = rank i in
    ap (λ c. by_shape labels c (v i) (value labels cells v n)) e
    ∙ ap (λ u. Fork (head_of labels c) u (value labels cells v n b)) (stable labels cells rank v r n (suc (rank a)) a pa (omega arith))
    ∙ ap (λ u. Fork (head_of labels c) (value labels cells v (suc (rank a)) a) u) (stable labels cells rank v r n (suc (rank b)) b pb (omega arith))

below_any : (n : ℕ) (s : Shape) (e : Bool) (t : Tree) → (s ≡ Open → BoundBy Admits e t) → Bounded (Below n) Nothing s e t
below_any n Open false t h = tt
below_any n Open true t h = λ l. h refl
below_any n (Same j s) e t h = tt
below_any n (Const c) false t h = tt
below_any n (Const c) true t h = tt
below_any n (Pair c a b) false t h = tt
below_any n (Pair c a b) true t h = tt

all_bounds : (s : Shape) (e : Bool) (t : Tree) → (s ≡ Open → BoundBy Admits e t) → Bounded Nothing (UpTo (tree_size t)) s e t → Bounded Admits Admits s e t
all_bounds Open e t h u = h refl
all_bounds (Same j s) e t h u = tt
all_bounds (Const c) false t h u = tt
all_bounds (Const c) true t h u = u (omega arith)
all_bounds (Pair c a b) false t h u = tt
all_bounds (Pair c a b) true t h u = u (omega arith)

-- the choice v of trees for the open nodes is part of a solution
pub extended : (labels : List Label) (cells : List Cell) → Ranked cells → Handed labels cells [] → (v : ℕ → Tree)
    → ((i : ℕ) → (cell_at cells i).shape ≡ Open → BoundBy Admits (cell_at cells i).equal (v i))
    → (θ : ℕ → Tree) × Solves labels cells θ × ((i : ℕ) → (cell_at cells i).shape ≡ Open → θ i ≡ v i)
unfolding canonical
extended labels cells r h v kept =
    let θ = canonical labels cells r.rank v in
    let opens : (i : ℕ) → (cell_at cells i).shape ≡ Open → θ i ≡ v i = λ i e. ap (λ c. by_shape labels c (v i) (value labels cells v (r.rank i))) e in
    let shapes : (i : ℕ) → ShapeHolds labels (cell_at cells i).shape i θ = λ i. holds_at labels (cell_at cells i).shape cells r.rank v i r.below refl (r.below i) in
    let bounds : (i : ℕ) → (cell_at cells i).shape ≡ Open → BoundBy Admits (cell_at cells i).equal (θ i) = λ i e. subst (λ t. BoundBy Admits (cell_at cells i).equal t) (sym (opens i e)) (kept i e) in (
      θ,
      record {
        holds = λ i. (
          shapes i,
          all_bounds (cell_at cells i).shape (cell_at cells i).equal (θ i) (bounds i)
              (h.handed (tree_size (θ i)) θ (λ j. (shapes j, below_any (tree_size (θ i)) (cell_at cells j).shape (cell_at cells j).equal (θ j) (bounds j))) tt i),
        );
      },
      opens,
    )
