-- Stores that only grew.
use Rattle.std.proofs.Common.{◌≡◌, ℕ, ◌<◌, ◌≤◌, ◌^◌, List, [], ◌∷◌, ◌++◌, length, Bool, true, false, refl, sym, ap, ◌∙◌, subst, arith, length-append, zero, suc, drop, map, drop-cons, IsTrue, ◌&&◌, ◌||◌}
use Rattle.std.specs.List.{list_any, list_all}
use Rattle.std.proofs.lemmas.Grind.{common_steps}
use Rattle.tl_text.specs.Pairs.{map_second, seconds}
use Rattle.sml_static.specs.declared.ty.Ty.{Ty}
use Rattle.sml_static.specs.declared.ty.TyName.{TyName}
use Rattle.std.proofs.lemmas.List.{get_or_append_left}
use Rattle.std.proofs.Math.Seq.{get_or-append_seam}
use Rattle.sml_static.specs.declared.ty.Label.{Label}
use Rattle.sml_static.specs.declared.ty.Label.TheVariants as label
use Rattle.ty_unify.specs.declared.cell.Cell.{Cell}
use Rattle.ty_unify.specs.declared.cell.Shape.{Shape}
use Rattle.ty_unify.specs.declared.cell.Shape.TheVariants.{Open, Same, Const, Pair}
use Rattle.ty_unify.specs.declared.cell.Sort.{Sort}
use Rattle.ty_unify.specs.declared.cell.Sort.TheVariants as sort
use Rattle.ty_unify.specs.declared.cell.Tag.{Tag}
use Rattle.ty_unify.specs.declared.cell.Tag.TheVariants as tag
use Rattle.std.specs.Prelude.{slice_index_or}
use Rattle.ty_unify.specs.Trees.{Tree, Head, Atom, Fork, Record, Field, Named, Argument, Admits}
use Rattle.ty_unify.specs.Cells.{cell_at, head_of, ShapeHolds, Held, Bounded, Solves, ShapeOrdered, ShapeLabelled, TagIn, IsAlone, HasParts, tag_sort, rest_sort, sort_at}
use Rattle.ty_unify.specs.Stores.{Known, Sound, Agree}
use Rattle.ty_unify.specs.Building.{NodeIn, Extends, Built, Made, LabelMade, RowMade, under, more_fields, more_args, fields_tree, named_tree}
use Rattle.ty_unify.proofs.Growth.{sound_put, sort_before, sort_last, with_tree, with_other, with_here, solves_same, each_put, each_before, each_last, bare_result}

pub extends_none : (l : List Label) (c : List Cell) → Extends l l c c
extends_none l c = record {
  longer = omega arith;
  sorts = λ i lt. refl;
  back = λ θ h. h;
  forth = λ θ h. (θ, record { same = λ i lt. refl }, h);
}

pub extends_then : (l1 l2 l3 : List Label) (c1 c2 c3 : List Cell) → Extends l1 l2 c1 c2 → Extends l2 l3 c2 c3 → Extends l1 l3 c1 c3
extends_then l1 l2 l3 c1 c2 c3 g h =
    let a = g.longer in
    let b = h.longer in
    record {
      longer = omega arith;
      sorts = λ i lt. h.sorts i (omega arith) ∙ g.sorts i lt;
      back = λ θ s. g.back θ (h.back θ s);
      forth = λ θ s.
          let p = g.forth θ s in
          let q = h.forth p.0 p.2 in
          (q.0, record { same = λ i lt. q.1.same i (omega arith) ∙ p.1.same i lt }, q.2);
    }

pub node_kept : (l1 l2 : List Label) (c1 c2 : List Cell) (i : ℕ) → Extends l1 l2 c1 c2 → NodeIn c1 i → NodeIn c2 i
node_kept l1 l2 c1 c2 i g h = (let a = h.0 in let b = g.longer in omega arith, g.sorts i h.0 ∙ h.1)

pub built_kept : (l1 l2 : List Label) (c1 c2 : List Cell) (i : ℕ) (s : Sort) (f : (ℕ → Tree) → Tree) → Extends l1 l2 c1 c2 → Built l1 c1 i s f → Built l2 c2 i s f
built_kept l1 l2 c1 c2 i s f g b = record {
  node_in = let a = b.node_in in let c = g.longer in omega arith;
  node_sort = g.sorts i b.node_in ∙ b.node_sort;
  value = λ θ h. b.value θ (g.back θ h);
}

-- one more cell without a bound
extends_put : (l : List Label) (c : List Cell) (x : Shape) → Sound l c → length (c ++ record { shape = x; equal = false } ∷ []) ≤ 2 ^ 32
    → ShapeOrdered (length c) (sort_at c) x (length c) → ShapeLabelled (length l) x
    → ((θ : ℕ → Tree) → (t : Tree) × ShapeHolds l x (length c) (with_tree θ (length c) t)) → Extends l l c (c ++ record { shape = x; equal = false } ∷ [])
extends_put l c x s small o lab some =
    let d : Cell = record { shape = x; equal = false } in
    let n = length c in
    record {
      longer = omega (arith, length-append c (d ∷ []));
      sorts = λ i lt. sort_before c d i lt;
      back = λ θ h. record { holds = each_before (λ y i. Held l Admits Admits y i θ) c d h.holds (λ i. (tt, tt)) };
      forth = λ θ h.
          let t = (some θ).0 in
          let θ' = with_tree θ n t in
          let a : Agree n θ θ' = record { same = λ i lt. with_other θ n i t lt } in
          let old = solves_same l c θ θ' s.order a h in
          (θ', a, record { holds = each_put (λ y i. Held l Admits Admits y i θ') c d (λ i lt. old.holds i) ((some θ).1, bare_bound x (θ' n)) (λ i. (tt, tt)) });
    }
  where
    bare_bound : (x : Shape) (t : Tree) → Bounded Admits Admits x false t
    bare_bound Open t = tt
    bare_bound (Same j k) t = tt
    bare_bound (Const h) t = tt
    bare_bound (Pair h a b) t = tt

pub put_pair : (l : List Label) (c : List Cell) (t : Tag) (a b : ℕ) → Sound l c → length (c ++ record { shape = Pair t a b; equal = false } ∷ []) ≤ 2 ^ 32 → TagIn (length l) t × HasParts t
    → NodeIn c a → b < length c → sort_at c b ≡ rest_sort t → Extends l l c (c ++ record { shape = Pair t a b; equal = false } ∷ [])
put_pair l c t a b s small lab ha lb sb =
    let n = length c in
    extends_put l c (Pair t a b) s small (ha.0, lb, ha.1, sb) lab
    (λ θ. let u = Fork (head_of l t) (θ a) (θ b) in
    (u, with_here θ n u ∙ ap (λ v. Fork (head_of l t) v (θ b)) (sym (with_other θ n a u ha.0)) ∙ ap (λ v. Fork (head_of l t) (with_tree θ n u a) v) (sym (with_other θ n b u lb))))

pub built_pair : (l : List Label) (c : List Cell) (t : Tag) (a b : ℕ) → Built l (c ++ record { shape = Pair t a b; equal = false } ∷ []) (length c) (tag_sort t) (λ θ. Fork (head_of l t) (θ a) (θ b))
built_pair l c t a b =
    let d : Cell = record { shape = Pair t a b; equal = false } in
    record {
      node_in = omega (arith, length-append c (d ∷ []));
      node_sort = sort_last c d;
      value = λ θ h. (each_last (λ y i. Held l Admits Admits y i θ) c d h.holds).0;
    }

pub put_const : (l : List Label) (c : List Cell) (t : Tag) → Sound l c → length (c ++ record { shape = Const t; equal = false } ∷ []) ≤ 2 ^ 32 → TagIn (length l) t × IsAlone t → Extends l l c (c ++ record { shape = Const t; equal = false } ∷ [])
put_const l c t s small lab = extends_put l c (Const t) s small tt lab (λ θ. (Atom (head_of l t), with_here θ (length c) (Atom (head_of l t))))

pub built_const : (l : List Label) (c : List Cell) (t : Tag) → Built l (c ++ record { shape = Const t; equal = false } ∷ []) (length c) (tag_sort t) (λ θ. Atom (head_of l t))
built_const l c t =
    let d : Cell = record { shape = Const t; equal = false } in
    record {
      node_in = omega (arith, length-append c (d ∷ []));
      node_sort = sort_last c d;
      value = λ θ h. (each_last (λ y i. Held l Admits Admits y i θ) c d h.holds).0;
    }

-- one more label

head_kept : (l : List Label) (x : Label) (t : Tag) → TagIn (length l) t → head_of (l ++ x ∷ []) t ≡ head_of l t
head_kept l x tag.Arrow h = refl
head_kept l x (tag.Named n) h = refl
head_kept l x (tag.Record k) h = ap Record (get_or_append_left l (x ∷ []) (label.Num 0) k h)
head_kept l x (tag.Field k) h = ap Field (get_or_append_left l (x ∷ []) (label.Num 0) k h)
head_kept l x tag.Argument h = refl
head_kept l x tag.NoFields h = refl
head_kept l x tag.LastField h = refl
head_kept l x tag.LastArgument h = refl

shape_back : (l : List Label) (x : Label) (s : Shape) (i : ℕ) (θ : ℕ → Tree) → ShapeLabelled (length l) s → ShapeHolds (l ++ x ∷ []) s i θ → ShapeHolds l s i θ
shape_back l x Open i θ h k = tt
shape_back l x (Same j q) i θ h k = k
shape_back l x (Const t) i θ h k = k ∙ ap Atom (head_kept l x t h.0)
shape_back l x (Pair t a b) i θ h k = k ∙ ap (λ u. Fork u (θ a) (θ b)) (head_kept l x t h.0)

shape_forth : (l : List Label) (x : Label) (s : Shape) (i : ℕ) (θ : ℕ → Tree) → ShapeLabelled (length l) s → ShapeHolds l s i θ → ShapeHolds (l ++ x ∷ []) s i θ
shape_forth l x Open i θ h k = tt
shape_forth l x (Same j q) i θ h k = k
shape_forth l x (Const t) i θ h k = k ∙ ap Atom (sym (head_kept l x t h.0))
shape_forth l x (Pair t a b) i θ h k = k ∙ ap (λ u. Fork u (θ a) (θ b)) (sym (head_kept l x t h.0))

tag_more : (n m : ℕ) (t : Tag) → n ≤ m → TagIn n t → TagIn m t
tag_more n m tag.Arrow l h = tt
tag_more n m (tag.Named k) l h = tt
tag_more n m (tag.Record k) l h = omega arith
tag_more n m (tag.Field k) l h = omega arith
tag_more n m tag.Argument l h = tt
tag_more n m tag.NoFields l h = tt
tag_more n m tag.LastField l h = tt
tag_more n m tag.LastArgument l h = tt

labelled_more : (n m : ℕ) (s : Shape) → n ≤ m → ShapeLabelled n s → ShapeLabelled m s
labelled_more n m Open l h = tt
labelled_more n m (Same j k) l h = tt
labelled_more n m (Const t) l h = (tag_more n m t l h.0, h.1)
labelled_more n m (Pair t a b) l h = (tag_more n m t l h.0, h.1)

pub sound_label : (l : List Label) (x : Label) (c : List Cell) → Sound l c → Sound (l ++ x ∷ []) c
sound_label l x c s =
    let more : length l ≤ length (l ++ x ∷ []) = omega (arith, length-append l (x ∷ [])) in
    record {
      order = s.order;
      labelled = record { labelled = λ i. labelled_more (length l) (length (l ++ x ∷ [])) (cell_at c i).shape more (s.labelled.labelled i) };
      handed = record { handed = λ n θ all ag. s.handed.handed n θ (λ i. (shape_back l x (cell_at c i).shape i θ (s.labelled.labelled i) (all i).0, (all i).1)) tt };
      ranked = s.ranked;
      small = s.small;
    }

pub extends_label : (l : List Label) (x : Label) (c : List Cell) → Sound l c → Extends l (l ++ x ∷ []) c c
extends_label l x c s = record {
  longer = omega arith;
  sorts = λ i lt. refl;
  back = λ θ h. record { holds = λ i. (shape_back l x (cell_at c i).shape i θ (s.labelled.labelled i) (h.holds i).0, (h.holds i).1) };
  forth = λ θ h. (θ, record { same = λ i lt. refl }, record { holds = λ i. (shape_forth l x (cell_at c i).shape i θ (s.labelled.labelled i) (h.holds i).0, (h.holds i).1) });
}

pub label_last : (l : List Label) (x : Label) (d : Label) → slice_index_or (l ++ x ∷ []) (length l) d ≡ x
label_last l x d = get_or-append_seam l x [] d

pub sound_bare : (l : List Label) (c : List Cell) (x : Shape) → Sound l c → length (c ++ record { shape = x; equal = false } ∷ []) ≤ 2 ^ 32
    → ShapeOrdered (length c) (sort_at c) x (length c) → ShapeLabelled (length l) x → Sound l (c ++ record { shape = x; equal = false } ∷ [])
sound_bare l c x s small o lab = sound_put l c (record { shape = x; equal = false }) s small o lab (λ B t. bare_result x B t)

-- the store that `add_pair` leaves
pub made_pair : (l : List Label) (c new : List Cell) (t : Tag) (a b node : ℕ) → Sound l c → new ≡ c ++ record { shape = Pair t a b; equal = false } ∷ [] → length new ≤ 2 ^ 32 → node ≡ length c → TagIn (length l) t × HasParts t
    → NodeIn c a → b < length c → sort_at c b ≡ rest_sort t
    → Made (record { cells = c; labels = l }) (record { cells = new; labels = l }) node (tag_sort t) (λ θ. Fork (head_of l t) (θ a) (θ b))
made_pair l c new t a b node s e small d lab ha lb sb =
    let put : List Cell = c ++ record { shape = Pair t a b; equal = false } ∷ [] in
    let m : Made (record { cells = c; labels = l }) (record { cells = put; labels = l }) (length c) (tag_sort t) (λ θ. Fork (head_of l t) (θ a) (θ b)) = record {
      grown = put_pair l c t a b s (subst (λ n. length n ≤ 2 ^ 32) e small) lab ha lb sb;
      built = built_pair l c t a b;
    } in
    subst (λ n. Made (record { cells = c; labels = l }) (record { cells = n; labels = l }) node (tag_sort t) (λ θ. Fork (head_of l t) (θ a) (θ b))) (sym e)
    (subst (λ n. Made (record { cells = c; labels = l }) (record { cells = put; labels = l }) n (tag_sort t) (λ θ. Fork (head_of l t) (θ a) (θ b))) (sym d) m)

pub sound_pair : (l : List Label) (c new : List Cell) (t : Tag) (a b : ℕ) → Sound l c → new ≡ c ++ record { shape = Pair t a b; equal = false } ∷ [] → length new ≤ 2 ^ 32 → TagIn (length l) t × HasParts t
    → NodeIn c a → b < length c → sort_at c b ≡ rest_sort t → Sound l new
sound_pair l c new t a b s e small lab ha lb sb = subst (λ n. Sound l n) (sym e) (sound_bare l c (Pair t a b) s (subst (λ n. length n ≤ 2 ^ 32) e small) (ha.0, lb, ha.1, sb) lab)

pub made_const : (l : List Label) (c new : List Cell) (t : Tag) (node : ℕ) → Sound l c → new ≡ c ++ record { shape = Const t; equal = false } ∷ [] → length new ≤ 2 ^ 32 → node ≡ length c → TagIn (length l) t × IsAlone t
    → Made (record { cells = c; labels = l }) (record { cells = new; labels = l }) node (tag_sort t) (λ θ. Atom (head_of l t))
made_const l c new t node s e small d lab =
    let put : List Cell = c ++ record { shape = Const t; equal = false } ∷ [] in
    let m : Made (record { cells = c; labels = l }) (record { cells = put; labels = l }) (length c) (tag_sort t) (λ θ. Atom (head_of l t)) = record {
      grown = put_const l c t s (subst (λ n. length n ≤ 2 ^ 32) e small) lab;
      built = built_const l c t;
    } in
    subst (λ n. Made (record { cells = c; labels = l }) (record { cells = n; labels = l }) node (tag_sort t) (λ θ. Atom (head_of l t))) (sym e)
    (subst (λ n. Made (record { cells = c; labels = l }) (record { cells = put; labels = l }) n (tag_sort t) (λ θ. Atom (head_of l t))) (sym d) m)

pub sound_const : (l : List Label) (c new : List Cell) (t : Tag) → Sound l c → new ≡ c ++ record { shape = Const t; equal = false } ∷ [] → length new ≤ 2 ^ 32 → TagIn (length l) t × IsAlone t → Sound l new
sound_const l c new t s e small lab = subst (λ n. Sound l n) (sym e) (sound_bare l c (Const t) s (subst (λ n. length n ≤ 2 ^ 32) e small) tt lab)

-- one after another
pub then_built : (o m n : Known) (x : ℕ) (s : Sort) (f : (ℕ → Tree) → Tree) → Extends o.labels m.labels o.cells m.cells → Made m n x s f → Made o n x s f
then_built o m n x s f g h = record { grown = extends_then o.labels m.labels n.labels o.cells m.cells n.cells g h.grown; built = h.built }

-- a tree that is another one in each solution
pub built_as : (l : List Label) (c : List Cell) (x : ℕ) (s : Sort) (f g : (ℕ → Tree) → Tree) → ((θ : ℕ → Tree) → Solves l c θ → f θ ≡ g θ) → Built l c x s f → Built l c x s g
built_as l c x s f g e b = record { node_in = b.node_in; node_sort = b.node_sort; value = λ θ h. b.value θ h ∙ e θ h }

-- two parts that were built one after another, and their node
pub made_fork : (o m n p : Known) (h : Head) (a b x : ℕ) (sb s : Sort) (f g : (ℕ → Tree) → Tree) → Made o m a sort.Type f → Made m n b sb g → Made n p x s (λ θ. Fork h (θ a) (θ b)) → Made o p x s (λ θ. Fork h (f θ) (g θ))
made_fork o m n p h a b x sb s f g ma mb mx =
    let e2 = extends_then m.labels n.labels p.labels m.cells n.cells p.cells mb.grown mx.grown in
    record {
      grown = extends_then o.labels m.labels p.labels o.cells m.cells p.cells ma.grown e2;
      built = built_as p.labels p.cells x s (λ θ. Fork h (θ a) (θ b)) (λ θ. Fork h (f θ) (g θ))
          (λ θ sol. ap (λ t. Fork h t (θ b)) (ma.built.value θ (e2.back θ sol)) ∙ ap (λ t. Fork h (f θ) t) (mb.built.value θ (mx.grown.back θ sol))) mx.built;
    }

-- one more label
pub made_label : (l : List Label) (c : List Cell) (new : List Label) (x : Label) (at : ℕ) → Sound l c → new ≡ l ++ x ∷ [] → at ≡ length l → LabelMade (record { cells = c; labels = l }) (record { cells = c; labels = new }) at x
made_label l c new x at s e d =
    let m : LabelMade (record { cells = c; labels = l }) (record { cells = c; labels = l ++ x ∷ [] }) (length l) x = record {
      grown = extends_label l x c s;
      within = omega (arith, length-append l (x ∷ []));
      named = label_last l x (label.Num 0);
    } in
    subst (λ n. LabelMade (record { cells = c; labels = l }) (record { cells = c; labels = n }) at x) (sym e)
    (subst (λ n. LabelMade (record { cells = c; labels = l }) (record { cells = c; labels = l ++ x ∷ [] }) n x) (sym d) m)

-- a label, and then a node with it
pub made_labelled : (o m n : Known) (at node a b : ℕ) (x : Label) (s : Sort) (k : Label → Head) → LabelMade o m at x → Made m n node s (λ θ. Fork (k (slice_index_or m.labels at (label.Num 0))) (θ a) (θ b)) → Made o n node s (λ θ. Fork (k x) (θ a) (θ b))
made_labelled o m n at node a b x s k lm mm =
    then_built o m n node s (λ θ. Fork (k x) (θ a) (θ b)) lm.grown
    (subst (λ y. Made m n node s (λ θ. Fork (k y) (θ a) (θ b))) lm.named mm)

-- one more part of a row
pub made_row : (o m n p : Known) (h : Head) (a b x : ℕ) (sb s : Sort) (f g : (ℕ → Tree) → Tree) → Made o m b sb g → Made m n a sort.Type f → Made n p x s (λ θ. Fork h (θ a) (θ b)) → Made o p x s (λ θ. Fork h (f θ) (g θ))
made_row o m n p h a b x sb s f g mb ma mx =
    let e2 = extends_then m.labels n.labels p.labels m.cells n.cells p.cells ma.grown mx.grown in
    record {
      grown = extends_then o.labels m.labels p.labels o.cells m.cells p.cells mb.grown e2;
      built = built_as p.labels p.cells x s (λ θ. Fork h (θ a) (θ b)) (λ θ. Fork h (f θ) (g θ))
          (λ θ sol. ap (λ t. Fork h t (θ b)) (ma.built.value θ (mx.grown.back θ sol)) ∙ ap (λ t. Fork h (f θ) t) (mb.built.value θ (e2.back θ sol))) mx.built;
    }

pub made_free : (o : Known) (n : ℕ) → NodeIn o.cells n → Made o o n sort.Type (λ θ. θ n)
made_free o n h = record { grown = extends_none o.labels o.cells; built = record { node_in = h.0; node_sort = h.1; value = λ θ s. refl } }

pub or_first : (a b : Bool) → IsTrue a → IsTrue (a || b)
or_first true b h = refl
or_first false b h = absurd (cc)

pub or_second : (a b : Bool) → IsTrue b → IsTrue (a || b)
or_second true b h = refl
or_second false b h = h

pub and_both : (a b : Bool) → IsTrue (a && b) → IsTrue a × IsTrue b
and_both true b h = (refl, h)
and_both false b h = absurd (cc)

drop_all : {X : Type 0} (xs : List X) → drop (length xs) xs ≡ []
drop_all xs = grind (arith, common_steps)

-- rows from their last part on

pub any_field : (f : Ty → Bool) (fs : List (Label × Ty)) (i : ℕ) (x : Label × Ty) → i < length fs → x ≡ slice_index_or fs i x → IsTrue (f x.1) → IsTrue (list_any (λ b. b) (seconds (map_second f fs)))
any_field f [] i x lt e h = absurd (omega arith)
any_field f (y ∷ ys) zero x lt e h = or_first (f y.1) _ (subst (λ z. IsTrue (f z.1)) e h)
any_field f (y ∷ ys) (suc i) x lt e h = or_second (f y.1) _ (any_field f ys i x (omega arith) e h)

pub all_field : (f : Ty → Bool) (fs : List (Label × Ty)) (i : ℕ) (x : Label × Ty) → i < length fs → x ≡ slice_index_or fs i x → IsTrue (list_all (λ b. b) (seconds (map_second f fs))) → IsTrue (f x.1)
all_field f [] i x lt e h = absurd (omega arith)
all_field f (y ∷ ys) zero x lt e h = subst (λ z. IsTrue (f z.1)) (sym e) (and_both (f y.1) _ h).0
all_field f (y ∷ ys) (suc i) x lt e h = all_field f ys i x (omega arith) e (and_both (f y.1) _ h).1

pub any_arg : (f : Ty → Bool) (fs : List Ty) (i : ℕ) (x : Ty) → i < length fs → x ≡ slice_index_or fs i x → IsTrue (f x) → IsTrue (list_any (λ b. b) (map f fs))
any_arg f [] i x lt e h = absurd (omega arith)
any_arg f (y ∷ ys) zero x lt e h = or_first (f y) _ (subst (λ z. IsTrue (f z)) e h)
any_arg f (y ∷ ys) (suc i) x lt e h = or_second (f y) _ (any_arg f ys i x (omega arith) e h)

pub all_arg : (f : Ty → Bool) (fs : List Ty) (i : ℕ) (x : Ty) → i < length fs → x ≡ slice_index_or fs i x → IsTrue (list_all (λ b. b) (map f fs)) → IsTrue (f x)
all_arg f [] i x lt e h = absurd (omega arith)
all_arg f (y ∷ ys) zero x lt e h = subst (λ z. IsTrue (f z)) (sym e) (and_both (f y) _ h).0
all_arg f (y ∷ ys) (suc i) x lt e h = all_arg f ys i x (omega arith) e (and_both (f y) _ h).1

abbrev Fields : List (Label × Ty) → (ℕ → Tree) → Tree
Fields fs θ = more_fields (map_second (under θ) fs)

abbrev Args : List Ty → (ℕ → Tree) → Tree
Args ts θ = more_args (map (under θ) ts)

pub row_field : (o m n p : Known) (fields : List (Label × Ty)) (i left count rest a x : ℕ) (field : Label × Ty) → i < length fields → field ≡ slice_index_or fields i field → left ≡ suc i → 1 ≤ i
    → RowMade o m rest sort.Fields left count (λ θ. more_fields (map_second (under θ) (drop left fields))) → Made m n a sort.Type (λ θ. under θ field.1) → Made n p x sort.Fields (λ θ. Fork (Field field.0) (θ a) (θ rest))
    → RowMade o p x sort.Fields i count (λ θ. more_fields (map_second (under θ) (drop i fields)))
row_field o m n p fields i left count rest a x field lt e d low row ma mx =
    let r = made_row o m n p (Field field.0) a rest x sort.Fields sort.Fields (λ θ. under θ field.1) (Fields (drop left fields)) row.made ma mx in
    let c : drop i fields ≡ field ∷ drop left fields = drop-cons fields i field lt ∙ ap (λ y. y ∷ drop (suc i) fields) (sym e) ∙ ap (λ k. field ∷ drop k fields) (sym d) in
    let h = row.high in
    record {
      made = record { grown = r.grown; built = built_as p.labels p.cells x sort.Fields (λ θ. Fork (Field field.0) (under θ field.1) (Fields (drop left fields) θ)) (Fields (drop i fields)) (λ θ s. ap (λ fs. Fields fs θ) (sym c)) r.built };
      low = low;
      high = omega arith;
    }

pub row_record : (o m n p : Known) (fields : List (Label × Ty)) (left count rest a x : ℕ) (field : Label × Ty) → 0 < length fields → field ≡ slice_index_or fields 0 field → left ≤ 1
    → RowMade o m rest sort.Fields left count (λ θ. more_fields (map_second (under θ) (drop left fields))) → Made m n a sort.Type (λ θ. under θ field.1) → Made n p x sort.Type (λ θ. Fork (Record field.0) (θ a) (θ rest))
    → Made o p x sort.Type (λ θ. fields_tree (map_second (under θ) fields))
row_record o m n p fields left count rest a x field lt e d row ma mx =
    let r = made_row o m n p (Record field.0) a rest x sort.Fields sort.Type (λ θ. under θ field.1) (Fields (drop left fields)) row.made ma mx in
    let l = row.low in
    let one : left ≡ 1 = omega arith in
    let c : fields ≡ field ∷ drop left fields = drop-cons fields 0 field lt ∙ ap (λ y. y ∷ drop 1 fields) (sym e) ∙ ap (λ k. field ∷ drop k fields) (sym one) in
    record { grown = r.grown; built = built_as p.labels p.cells x sort.Type (λ θ. Fork (Record field.0) (under θ field.1) (Fields (drop left fields) θ)) (λ θ. fields_tree (map_second (under θ) fields)) (λ θ s. ap (λ fs. fields_tree (map_second (under θ) fs)) (sym c)) r.built }

pub row_arg : (o m n p : Known) (args : List Ty) (i left count rest a x : ℕ) (arg : Ty) → i < length args → arg ≡ slice_index_or args i arg → left ≡ suc i → 1 ≤ i
    → RowMade o m rest sort.Arguments left count (λ θ. more_args (map (under θ) (drop left args))) → Made m n a sort.Type (λ θ. under θ arg) → Made n p x sort.Arguments (λ θ. Fork Argument (θ a) (θ rest))
    → RowMade o p x sort.Arguments i count (λ θ. more_args (map (under θ) (drop i args)))
row_arg o m n p args i left count rest a x arg lt e d low row ma mx =
    let r = made_row o m n p Argument a rest x sort.Arguments sort.Arguments (λ θ. under θ arg) (Args (drop left args)) row.made ma mx in
    let c : drop i args ≡ arg ∷ drop left args = drop-cons args i arg lt ∙ ap (λ y. y ∷ drop (suc i) args) (sym e) ∙ ap (λ k. arg ∷ drop k args) (sym d) in
    let h = row.high in
    record {
      made = record { grown = r.grown; built = built_as p.labels p.cells x sort.Arguments (λ θ. Fork Argument (under θ arg) (Args (drop left args) θ)) (Args (drop i args)) (λ θ s. ap (λ fs. Args fs θ) (sym c)) r.built };
      low = low;
      high = omega arith;
    }

pub row_named : (o m n p : Known) (name : TyName) (args : List Ty) (left count rest a x : ℕ) (arg : Ty) → 0 < length args → arg ≡ slice_index_or args 0 arg → left ≤ 1
    → RowMade o m rest sort.Arguments left count (λ θ. more_args (map (under θ) (drop left args))) → Made m n a sort.Type (λ θ. under θ arg) → Made n p x sort.Type (λ θ. Fork (Named name) (θ a) (θ rest))
    → Made o p x sort.Type (λ θ. named_tree name (map (under θ) args))
row_named o m n p name args left count rest a x arg lt e d row ma mx =
    let r = made_row o m n p (Named name) a rest x sort.Arguments sort.Type (λ θ. under θ arg) (Args (drop left args)) row.made ma mx in
    let l = row.low in
    let one : left ≡ 1 = omega arith in
    let c : args ≡ arg ∷ drop left args = drop-cons args 0 arg lt ∙ ap (λ y. y ∷ drop 1 args) (sym e) ∙ ap (λ k. arg ∷ drop k args) (sym one) in
    record { grown = r.grown; built = built_as p.labels p.cells x sort.Type (λ θ. Fork (Named name) (under θ arg) (Args (drop left args) θ)) (λ θ. named_tree name (map (under θ) args)) (λ θ s. ap (λ fs. named_tree name (map (under θ) fs)) (sym c)) r.built }

pub row_start : {X : Type 0} (o m : Known) (rest : ℕ) (s : Sort) (xs : List X) (t : Tree) (g : List X → (ℕ → Tree) → Tree) → ((θ : ℕ → Tree) → t ≡ g [] θ) → 1 ≤ length xs → Made o m rest s (λ θ. t) → RowMade o m rest s (length xs) (length xs) (λ θ. g (drop (length xs) xs) θ)
row_start o m rest s xs t g e low ma = record {
  made = record { grown = ma.grown; built = built_as m.labels m.cells rest s (λ θ. t) (λ θ. g (drop (length xs) xs) θ) (λ θ q. e θ ∙ ap (λ l. g l θ) (sym (drop_all xs))) ma.built };
  low = low;
  high = omega arith;
}

pub made_as : (o n : Known) (x : ℕ) (s : Sort) (f g : (ℕ → Tree) → Tree) → ((θ : ℕ → Tree) → f θ ≡ g θ) → Made o n x s f → Made o n x s g
made_as o n x s f g e m = record { grown = m.grown; built = built_as n.labels n.cells x s f g (λ θ h. e θ) m.built }
