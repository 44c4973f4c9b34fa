-- What is still to be done, and bounds.
use Rattle.std.proofs.Common.{◌≡◌, ℕ, ◌<◌, ◌≤◌, ◌↔◌, List, [], ◌∷◌, ◌++◌, length, Bool, true, false, sym, ◌∙◌, subst, arith}
use Rattle.sml_static.specs.declared.ty.Label.{Label}
use Rattle.ty_unify.specs.declared.cell.Cell.{Cell}
use Rattle.ty_unify.specs.declared.cell.Shape.{Shape}
use Rattle.ty_unify.specs.declared.cell.Shape.TheVariants.{Open, Same, Const, Pair}
use Rattle.ty_unify.specs.declared.cell.Sort.{Sort}
use Rattle.ty_unify.specs.declared.join.Task.{Task}
use Rattle.ty_unify.specs.Trees.{Tree}
use Rattle.ty_unify.specs.Cells.{ShapeHolds, Held, Bounded, BoundBy, IsRoot}
use Rattle.ty_unify.specs.Steps.{Agrees, TaskIn, TasksIn, bound_tasks}

pub agrees_join : (A : Tree → Type 0) (xs ys : List Task) (θ : ℕ → Tree) → Agrees A (xs ++ ys) θ ↔ (Agrees A xs θ × Agrees A ys θ)
agrees_join A [] ys θ = ((λ h. (tt, h)), (λ h. h.1))
agrees_join A (x ∷ xs) ys θ =
    ((λ h. let r = (agrees_join A xs ys θ).0 h.1 in ((h.0, r.0), r.1)), (λ h. (h.0.0, (agrees_join A xs ys θ).1 (h.0.1, h.1))))

pub tasks_join : (n : ℕ) (s : ℕ → Sort) (xs ys : List Task) → TasksIn n s xs → TasksIn n s ys → TasksIn n s (xs ++ ys)
tasks_join n s [] ys h k = k
tasks_join n s (x ∷ xs) ys h k = (h.0, tasks_join n s xs ys h.1 k)

pub tasks_last : (n : ℕ) (s : ℕ → Sort) (xs : List Task) (t : Task) → TasksIn n s (xs ++ t ∷ []) → TasksIn n s xs × TaskIn n s t
tasks_last n s [] t h = (tt, h.0)
tasks_last n s (x ∷ xs) t h = let r = tasks_last n s xs t h.1 in ((h.0, r.0), r.1)

pub bound_said : (A : Tree → Type 0) (e : Bool) (i : ℕ) (θ : ℕ → Tree) → Agrees A (bound_tasks e i) θ ↔ BoundBy A e (θ i)
bound_said A false i θ = ((λ h. tt), (λ h. tt))
bound_said A true i θ = ((λ h. h.0), (λ h. (h, tt)))

pub bound_in : (n : ℕ) (s : ℕ → Sort) (e : Bool) (i : ℕ) → i < n → TasksIn n s (bound_tasks e i)
bound_in n s false i h = tt
bound_in n s true i h = (h, tt)

pub bound_length : (e : Bool) (i : ℕ) → length (bound_tasks e i) ≤ 1
bound_length false i = omega arith
bound_length true i = omega arith

-- a bound kept by a tree, with what an open node is asked
pub bound_back : (A B : Tree → Type 0) (s : Shape) (e : Bool) (t : Tree) → ((t : Tree) → A t → B t) → BoundBy A e t → Bounded A B s e t
bound_back A B Open e t imp h = h
bound_back A B (Same j k) e t imp h = tt
bound_back A B (Const c) false t imp h = tt
bound_back A B (Const c) true t imp h = imp t h
bound_back A B (Pair c a b) false t imp h = tt
bound_back A B (Pair c a b) true t imp h = imp t h

pub bound_any : (A : Tree → Type 0) (s : Shape) (e : Bool) (t : Tree) → IsRoot s → Bounded A A s e t → BoundBy A e t
bound_any A Open e t r h = h
bound_any A (Same j k) e t r h = absurd r
bound_any A (Const c) e t r h = h
bound_any A (Pair c a b) e t r h = h

shape_moved : (labels : List Label) (s : Shape) (i j : ℕ) (θ : ℕ → Tree) → IsRoot s → θ i ≡ θ j → ShapeHolds labels s i θ → ShapeHolds labels s j θ
shape_moved labels Open i j θ r e h = tt
shape_moved labels (Same k s) i j θ r e h = absurd r
shape_moved labels (Const c) i j θ r e h = sym e ∙ h
shape_moved labels (Pair c a b) i j θ r e h = sym e ∙ h

-- what a root's cell says holds of each node with the same tree
pub moved : (labels : List Label) (A B : Tree → Type 0) (c : Cell) (i j : ℕ) (θ : ℕ → Tree) → IsRoot c.shape → θ i ≡ θ j → Held labels A B c i θ → Held labels A B c j θ
moved labels A B c i j θ r e h = (shape_moved labels c.shape i j θ r e h.0, subst (λ t. Bounded A B c.shape c.equal t) e h.1)
