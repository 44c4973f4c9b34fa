-- Tasks on nodes and on their roots, and one turn of the loop over what is still to be done.
use Rattle.std.proofs.Common.{◌≡◌, ℕ, ◌<◌, ◌↔◌, List, [], ◌∷◌, ◌++◌, length, Bool, true, false, sym, ◌∙◌, subst, refl, arith}
use Rattle.sml_static.specs.declared.ty.Label.{Label}
use Rattle.ty_unify.specs.declared.cell.Cell.{Cell}
use Rattle.ty_unify.specs.declared.cell.Shape.{Shape}
use Rattle.ty_unify.specs.declared.cell.Sort.{Sort}
use Rattle.ty_unify.specs.declared.join.Task.{Task}
use Rattle.ty_unify.specs.declared.join.Task.TheVariants.{Equal, Bound}
use Rattle.ty_unify.specs.Trees.{Tree, Admits}
use Rattle.ty_unify.specs.Cells.{Solves, Shaped, Ordered, Labelled, sort_at}
use Rattle.ty_unify.specs.Steps.{Says, Agrees, TaskIn, TasksIn, Below, Handed, Stepped, Outcome, Running, Solved, NeverAdmits, AskEnd, bounds_of}
use Rattle.ty_unify.proofs.Tasks.{agrees_join, tasks_last}

-- two tasks say the same of each assignment that the shapes allow
abbrev SaySame : List Label → List Cell → Task → Task → Type 1
SaySame labels cells t u = (A : Tree → Type 0) (θ : ℕ → Tree) → Shaped labels cells θ → Says A t θ ↔ Says A u θ

pub shaped_of : (labels : List Label) (cells : List Cell) (θ : ℕ → Tree) → Solves labels cells θ → Shaped labels cells θ
shaped_of labels cells θ s = record { holds = λ i. (s.holds i).0 }

pub stepped_same : (labels : List Label) (old new : List Cell) (before after : List Task) (t u : Task)
    → ((A : Tree → Type 0) (θ : ℕ → Tree) → Shaped labels old θ → Says A t θ ↔ Says A u θ)
    → Stepped labels old new before after t → Stepped labels old new before after u
stepped_same labels old new before after t u e s = record {
  order = s.order;
  labelled = s.labelled;
  same_length = s.same_length;
  sorts = s.sorts;
  tasks = s.tasks;
  exact = λ θ. (
    (λ p. let q = (s.exact θ).0 p in (q.0, (e Admits θ (shaped_of labels old θ q.0.0)).0 q.1)),
    (λ p. (s.exact θ).1 (p.0, (e Admits θ (shaped_of labels old θ p.0.0)).1 p.1)),
  );
  handed = λ h. s.handed (record {
    handed = λ n θ all ag i.
        let a = (agrees_join (Below n) before (t ∷ []) θ).0 ag in
        let sh : Shaped labels old θ = record { holds = λ j. (all j).0 } in
        h.handed n θ all ((agrees_join (Below n) before (u ∷ []) θ).1 (a.0, ((e (Below n) θ sh).0 a.1.0, tt))) i;
  });
  smaller = s.smaller;
}

-- a task that says nothing
pub stepped_nothing : (labels : List Label) (cells : List Cell) (before : List Task) (t : Task)
    → Ordered cells → Labelled (length labels) cells → TasksIn (length cells) (sort_at cells) before
    → ((A : Tree → Type 0) (θ : ℕ → Tree) → Shaped labels cells θ → Says A t θ)
    → Stepped labels cells cells before before t
stepped_nothing labels cells before t o lab tb e = record {
  order = o;
  labelled = lab;
  same_length = refl;
  sorts = λ i. refl;
  tasks = tb;
  exact = λ θ. ((λ p. (p, e Admits θ (shaped_of labels cells θ p.0))), (λ p. p.0));
  handed = λ h. record {
    handed = λ n θ all ag i.
        let sh : Shaped labels cells θ = record { holds = λ j. (all j).0 } in
        h.handed n θ all ((agrees_join (Below n) before (t ∷ []) θ).1 (ag, (e (Below n) θ sh, tt))) i;
  };
  smaller = omega arith;
}

-- the outcome of a task that says the same
pub outcome_same : (went : Bool) (labels : List Label) (old new : List Cell) (before after : List Task) (t u : Task)
    → ((A : Tree → Type 0) (θ : ℕ → Tree) → Shaped labels old θ → Says A t θ ↔ Says A u θ)
    → Outcome went labels old t (Stepped labels old new before after t) → Outcome went labels old u (Stepped labels old new before after u)
outcome_same true labels old new before after t u e s = stepped_same labels old new before after t u e s
outcome_same false labels old new before after t u e may = λ θ s h. may θ s ((e Admits θ (shaped_of labels old θ s)).1 h)

pub ask_true : (went : Bool) (s : Shape) (before after : List Task) → went ≡ true → AskEnd went s before after → (NeverAdmits s → ⊥) × (after ≡ before ++ bounds_of s)
ask_true true s before after e h = h
ask_true false s before after e h = absurd (cc)

pub ask_false : (went : Bool) (s : Shape) (before after : List Task) → went ≡ false → AskEnd went s before after → NeverAdmits s
ask_false true s before after e h = absurd (cc)
ask_false false s before after e h = h

-- a node and its root say the same
pub bound_same : (labels : List Label) (cells seen : List Cell) (node at : ℕ) → seen ≡ cells → ((labels : List Label) (θ : ℕ → Tree) → Shaped labels seen θ → θ node ≡ θ at)
    → (A : Tree → Type 0) (θ : ℕ → Tree) → Shaped labels cells θ → Says A (Bound at) θ ↔ Says A (Bound node) θ
bound_same labels cells seen node at v same A θ sh =
    let e : θ node ≡ θ at = same labels θ (subst (λ l. Shaped labels l θ) (sym v) sh) in
    (subst A (sym e), subst A e)

pub equal_same : (labels : List Label) (cells seen seen' : List Cell) (a b x y : ℕ) → seen ≡ cells → seen' ≡ cells
    → ((labels : List Label) (θ : ℕ → Tree) → Shaped labels seen θ → θ a ≡ θ x) → ((labels : List Label) (θ : ℕ → Tree) → Shaped labels seen' θ → θ b ≡ θ y)
    → (A : Tree → Type 0) (θ : ℕ → Tree) → Shaped labels cells θ → Says A (Equal x y) θ ↔ Says A (Equal a b) θ
equal_same labels cells seen seen' a b x y v w sa sb A θ sh =
    let ea : θ a ≡ θ x = sa labels θ (subst (λ l. Shaped labels l θ) (sym v) sh) in
    let eb : θ b ≡ θ y = sb labels θ (subst (λ l. Shaped labels l θ) (sym w) sh) in
    ((λ h. ea ∙ h ∙ sym eb), (λ h. sym ea ∙ h ∙ eb))

pub equal_turned : (labels : List Label) (cells : List Cell) (x y a b : ℕ)
    → ((A : Tree → Type 0) (θ : ℕ → Tree) → Shaped labels cells θ → Says A (Equal x y) θ ↔ Says A (Equal a b) θ)
    → (A : Tree → Type 0) (θ : ℕ → Tree) → Shaped labels cells θ → Says A (Equal y x) θ ↔ Says A (Equal a b) θ
equal_turned labels cells x y a b s A θ sh = ((λ h. (s A θ sh).0 (sym h)), (λ h. sym ((s A θ sh).1 h)))

in_kept : (n m : ℕ) (s s' : ℕ → Sort) (work : List Task) → m ≡ n → ((i : ℕ) → s' i ≡ s i) → TasksIn n s work → TasksIn m s' work
in_kept n m s s' [] e q h = tt
in_kept n m s s' (Equal a b ∷ ts) e q h =
    ((subst (λ x. a < x) (sym e) h.0.0, subst (λ x. b < x) (sym e) h.0.1, q a ∙ h.0.2 ∙ sym (q b)), in_kept n m s s' ts e q h.1)
in_kept n m s s' (Bound a ∷ ts) e q h = (subst (λ x. a < x) (sym e) h.0, in_kept n m s s' ts e q h.1)

-- before the first turn
pub started : (labels : List Label) (cells : List Cell) (a b : ℕ) → Ordered cells → Labelled (length labels) cells → TaskIn (length cells) (sort_at cells) (Equal a b) → Handed labels cells []
    → Running labels cells cells (Equal a b ∷ []) a b
started labels cells a b o lab t h = record {
  order = o;
  labelled = lab;
  same_length = refl;
  sorts = λ i. refl;
  tasks = (t, tt);
  exact = λ θ. ((λ p. (p.0, p.1.0)), (λ p. (p.0, (p.1, tt))));
  handed = record { handed = λ n θ all ag i. h.handed n θ all tt i };
}

-- what the next task may be
pub next_in : (labels : List Label) (first cells : List Cell) (all rest : List Task) (task : Task) (a b : ℕ) → all ≡ rest ++ task ∷ [] → Running labels first cells all a b
    → TasksIn (length cells) (sort_at cells) rest × TaskIn (length cells) (sort_at cells) task
next_in labels first cells all rest task a b e r = tasks_last (length cells) (sort_at cells) rest task (subst (λ l. TasksIn (length cells) (sort_at cells) l) e r.tasks)

-- one turn
pub turned : (labels : List Label) (first cells new : List Cell) (all rest after : List Task) (task : Task) (a b : ℕ) → all ≡ rest ++ task ∷ []
    → Running labels first cells all a b → Stepped labels cells new rest after task → Running labels first new after a b
turned labels first cells new all rest after task a b e r s = record {
  order = s.order;
  labelled = s.labelled;
  same_length = s.same_length ∙ r.same_length;
  sorts = λ i. s.sorts i ∙ r.sorts i;
  tasks = in_kept (length cells) (length new) (sort_at cells) (sort_at new) after s.same_length s.sorts s.tasks;
  exact = λ θ. (
    (λ p.
        let q = (s.exact θ).0 p in
        (r.exact θ).0 (q.0.0, subst (λ l. Agrees Admits l θ) (sym e) ((agrees_join Admits rest (task ∷ []) θ).1 (q.0.1, (q.1, tt))))),
    (λ p.
        let q = (r.exact θ).1 p in
        let g = (agrees_join Admits rest (task ∷ []) θ).0 (subst (λ l. Agrees Admits l θ) e q.1) in
        (s.exact θ).1 ((q.0, g.0), g.1.0)),
  );
  handed = s.handed (subst (λ l. Handed labels cells l) e r.handed);
}

pub clashed : (labels : List Label) (first cells : List Cell) (all rest : List Task) (task : Task) (a b : ℕ) → all ≡ rest ++ task ∷ []
    → Running labels first cells all a b → ((θ : ℕ → Tree) → Solves labels cells θ → Says Admits task θ → ⊥) → (θ : ℕ → Tree) → Solves labels first θ → θ a ≡ θ b → ⊥
clashed labels first cells all rest task a b e r none θ s eq =
    let q = (r.exact θ).1 (s, eq) in
    let g = (agrees_join Admits rest (task ∷ []) θ).0 (subst (λ l. Agrees Admits l θ) e q.1) in
    none θ q.0 g.1.0

pub ended : (labels : List Label) (first cells : List Cell) (work : List Task) (a b : ℕ) → work ≡ [] → Running labels first cells work a b → Solved labels first cells a b
ended labels first cells work a b e r = record {
  order = r.order;
  labelled = r.labelled;
  same_length = r.same_length;
  sorts = r.sorts;
  exact = λ θ. (
    (λ p. (r.exact θ).0 (p, subst (λ l. Agrees Admits l θ) (sym e) tt)),
    (λ p. ((r.exact θ).1 p).0),
  );
  handed = subst (λ l. Handed labels cells l) e r.handed;
}

pub outcome_true : (went : Bool) (labels : List Label) (cells : List Cell) (t : Task) (P : Type 0) → went ≡ true → Outcome went labels cells t P → P
outcome_true true labels cells t P e h = h
outcome_true false labels cells t P e h = absurd (cc)

pub outcome_false : (went : Bool) (labels : List Label) (cells : List Cell) (t : Task) (P : Type 0) → went ≡ false → Outcome went labels cells t P → (θ : ℕ → Tree) → Solves labels cells θ → Says Admits t θ → ⊥
outcome_false true labels cells t P e h = absurd (cc)
outcome_false false labels cells t P e h = h
