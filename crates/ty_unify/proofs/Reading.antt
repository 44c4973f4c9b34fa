-- Types that are read off the cells, level by level.
use Rattle.std.proofs.Common.{◌≡◌, ℕ, ◌==◌, ◌<◌, List, [], ◌∷◌, ◌++◌, length, map, Bool, true, false, IsTrue, ◌&&◌, ◌||◌, Some, None, refl, sym, ap, ◌∙◌, subst, inl, inr, ◌⊎◌, arith, append_assoc}
use Rattle.std.specs.List.{list_any, list_all}
use Rattle.std.proofs.lemmas.Bool.Decides.{nat_tests}
use Rattle.std.proofs.lemmas.List.{append-nil}
use Rattle.tl_text.specs.Pairs.{map_second, seconds}
use Rattle.sml_static.specs.declared.ty.Label.{Label}
use Rattle.sml_static.specs.declared.ty.Ty.{Ty}
use Rattle.sml_static.specs.declared.ty.Ty.TheVariants as ty
use Rattle.sml_static.specs.declared.ty.TyName.{TyName}
use Rattle.ty_unify.specs.declared.cell.Cell.{Cell}
use Rattle.ty_unify.specs.declared.cell.Shape.{Shape}
use Rattle.ty_unify.specs.declared.cell.Shape.TheVariants.{Open, Same, Const, Pair}
use Rattle.ty_unify.specs.declared.cell.Sort.TheVariants as sort
use Rattle.ty_unify.specs.declared.cell.Tag.{Tag}
use Rattle.ty_unify.specs.declared.cell.Tag.TheVariants as tag
use Rattle.ty_unify.specs.Trees.{Tree, Fork, Arrow, Named, Record, Field, Argument}
use Rattle.ty_unify.specs.Cells.{cell_at, head_of, sort_at, shape_sort, rest_sort, ShapeHolds, Shaped, ShapeOrdered, ShapeLabelled, TagIn, IsRoot}
use Rattle.ty_unify.specs.Stores.{Sound}
use Rattle.ty_unify.specs.Building.{NodeIn, under, has_free, is_closed, more_args, more_fields}
use Rattle.ty_unify.specs.Reading.{ReadBack, IsVariable, Reads, ReadsArgs, ReadsFields, label_at, arrow_in, argument_in, field_in, arrows_to}
use Rattle.ty_unify.specs.Formed.{is_formed}
use Rattle.ty_unify.proofs.Formed.{formed_under}
use Rattle.ty_unify.proofs.Levels.{free_fields, free_args, free_arrow, free_of, closed_fields, closed_args, closed_arrow, closed_free, under_arrow, under_fields, under_args, under_free}
use Rattle.ty_unify.proofs.Turns.{shaped_of}

either : (a b : Bool) → IsTrue (a || b) → IsTrue a ⊎ IsTrue b
either true b h = inl refl
either false b h = inr h

both : (a b : Bool) → IsTrue a → IsTrue b → IsTrue (a && b)
both true b h k = k
both false b h k = absurd (cc)

nothing : {P : Type 0} → IsTrue false → P
nothing h = absurd (cc)

-- what a shape is, of which parts were found
pub arrow_is : (s : Shape) (p : ℕ × ℕ) → Some p ≡ arrow_in s → s ≡ Pair tag.Arrow p.0 p.1
arrow_is Open p e = absurd (cc)
arrow_is (Same j k) p e = absurd (cc)
arrow_is (Const t) p e = absurd (cc)
arrow_is (Pair tag.Arrow c d) p e = let y : ℕ × ℕ = (c, d) in let q : p ≡ y = cc in sym (ap (λ q. Pair tag.Arrow q.0 q.1) q)
arrow_is (Pair (tag.Named n) c d) p e = absurd (cc)
arrow_is (Pair (tag.Record l) c d) p e = absurd (cc)
arrow_is (Pair (tag.Field l) c d) p e = absurd (cc)
arrow_is (Pair tag.Argument c d) p e = absurd (cc)
arrow_is (Pair tag.NoFields c d) p e = absurd (cc)
arrow_is (Pair tag.LastField c d) p e = absurd (cc)
arrow_is (Pair tag.LastArgument c d) p e = absurd (cc)

pub argument_is : (s : Shape) (p : ℕ × ℕ) → Some p ≡ argument_in s → s ≡ Pair tag.Argument p.0 p.1
argument_is Open p e = absurd (cc)
argument_is (Same j k) p e = absurd (cc)
argument_is (Const t) p e = absurd (cc)
argument_is (Pair tag.Arrow c d) p e = absurd (cc)
argument_is (Pair (tag.Named n) c d) p e = absurd (cc)
argument_is (Pair (tag.Record l) c d) p e = absurd (cc)
argument_is (Pair (tag.Field l) c d) p e = absurd (cc)
argument_is (Pair tag.Argument c d) p e = let y : ℕ × ℕ = (c, d) in let q : p ≡ y = cc in sym (ap (λ q. Pair tag.Argument q.0 q.1) q)
argument_is (Pair tag.NoFields c d) p e = absurd (cc)
argument_is (Pair tag.LastField c d) p e = absurd (cc)
argument_is (Pair tag.LastArgument c d) p e = absurd (cc)

pub field_is : (s : Shape) (p : ℕ × ℕ × ℕ) → Some p ≡ field_in s → s ≡ Pair (tag.Field p.0) p.1 p.2
field_is Open p e = absurd (cc)
field_is (Same j k) p e = absurd (cc)
field_is (Const t) p e = absurd (cc)
field_is (Pair tag.Arrow c d) p e = absurd (cc)
field_is (Pair (tag.Named n) c d) p e = absurd (cc)
field_is (Pair (tag.Record m) c d) p e = absurd (cc)
field_is (Pair (tag.Field m) c d) p e = let y : ℕ × ℕ × ℕ = (m, c, d) in let q : p ≡ y = cc in sym (ap (λ q. Pair (tag.Field q.0) q.1 q.2) q)
field_is (Pair tag.Argument c d) p e = absurd (cc)
field_is (Pair tag.NoFields c d) p e = absurd (cc)
field_is (Pair tag.LastField c d) p e = absurd (cc)
field_is (Pair tag.LastArgument c d) p e = absurd (cc)

-- a row of arguments that does not go on
args_over : (m : ℕ) (s : Shape) → IsRoot s → shape_sort s ≡ sort.Arguments → ShapeLabelled m s → None ≡ argument_in s → s ≡ Const tag.LastArgument
args_over m Open r o l e = absurd (cc)
args_over m (Same j k) r o l e = absurd r
args_over m (Const tag.Arrow) r o l e = absurd l.1
args_over m (Const (tag.Named n)) r o l e = absurd (cc)
args_over m (Const (tag.Record k)) r o l e = absurd l.1
args_over m (Const (tag.Field k)) r o l e = absurd l.1
args_over m (Const tag.Argument) r o l e = absurd l.1
args_over m (Const tag.NoFields) r o l e = absurd (cc)
args_over m (Const tag.LastField) r o l e = absurd (cc)
args_over m (Const tag.LastArgument) r o l e = refl
args_over m (Pair tag.Arrow c d) r o l e = absurd (cc)
args_over m (Pair (tag.Named n) c d) r o l e = absurd (cc)
args_over m (Pair (tag.Record k) c d) r o l e = absurd (cc)
args_over m (Pair (tag.Field k) c d) r o l e = absurd (cc)
args_over m (Pair tag.Argument c d) r o l e = absurd (cc)
args_over m (Pair tag.NoFields c d) r o l e = absurd l.1
args_over m (Pair tag.LastField c d) r o l e = absurd l.1
args_over m (Pair tag.LastArgument c d) r o l e = absurd l.1

-- a row of fields that does not go on
fields_over : (m : ℕ) (s : Shape) → IsRoot s → shape_sort s ≡ sort.Fields → ShapeLabelled m s → None ≡ field_in s → s ≡ Const tag.LastField
fields_over m Open r o l e = absurd (cc)
fields_over m (Same j k) r o l e = absurd r
fields_over m (Const tag.Arrow) r o l e = absurd l.1
fields_over m (Const (tag.Named n)) r o l e = absurd (cc)
fields_over m (Const (tag.Record k)) r o l e = absurd l.1
fields_over m (Const (tag.Field k)) r o l e = absurd l.1
fields_over m (Const tag.Argument) r o l e = absurd l.1
fields_over m (Const tag.NoFields) r o l e = absurd (cc)
fields_over m (Const tag.LastField) r o l e = refl
fields_over m (Const tag.LastArgument) r o l e = absurd (cc)
fields_over m (Pair tag.Arrow c d) r o l e = absurd (cc)
fields_over m (Pair (tag.Named n) c d) r o l e = absurd (cc)
fields_over m (Pair (tag.Record k) c d) r o l e = absurd (cc)
fields_over m (Pair (tag.Field k) c d) r o l e = absurd (cc)
fields_over m (Pair tag.Argument c d) r o l e = absurd (cc)
fields_over m (Pair tag.NoFields c d) r o l e = absurd l.1
fields_over m (Pair tag.LastField c d) r o l e = absurd l.1
fields_over m (Pair tag.LastArgument c d) r o l e = absurd l.1

-- a type without parts that is no type name alone
none_over : (m : ℕ) (t : Tag) → shape_sort (Const t) ≡ sort.Type → ShapeLabelled m (Const t) → ((n : TyName) → t ≡ tag.Named n → ⊥) → t ≡ tag.NoFields
none_over m tag.Arrow o l n = absurd l.1
none_over m (tag.Named k) o l n = absurd (n k refl)
none_over m (tag.Record k) o l n = absurd l.1
none_over m (tag.Field k) o l n = absurd l.1
none_over m tag.Argument o l n = absurd l.1
none_over m tag.NoFields o l n = refl
none_over m tag.LastField o l n = absurd (cc)
none_over m tag.LastArgument o l n = absurd (cc)

module _ (labels : List Label) (cells : List Cell) where
  reads_as : (f g : (ℕ → Tree) → Tree) (t : Ty) → ((θ : ℕ → Tree) → Shaped labels cells θ → f θ ≡ g θ) → Reads labels cells f t → Reads labels cells g t
  reads_as f g t e r = record { tree = λ θ s. r.tree θ s ∙ e θ s; variables = r.variables; closed = r.closed }

  shape_holds : (at : ℕ) (s : Shape) (θ : ℕ → Tree) → (cell_at cells at).shape ≡ s → Shaped labels cells θ → ShapeHolds labels s at θ
  shape_holds at s θ e h = subst (λ x. ShapeHolds labels x at θ) e (h.holds at)

  pub parts_in : (at : ℕ) (t : Tag) (a b : ℕ) → Sound labels cells → (cell_at cells at).shape ≡ Pair t a b → NodeIn cells a × (b < length cells) × (sort_at cells b ≡ rest_sort t)
  parts_in at t a b s e =
      let o = subst (λ x. ShapeOrdered (length cells) (sort_at cells) x at) e (s.order.ordered at) in
      ((o.0, o.2), o.1, o.3)

  pub label_in : (at : ℕ) (t : Tag) (a b : ℕ) → Sound labels cells → (cell_at cells at).shape ≡ Pair t a b → TagIn (length labels) t
  label_in at t a b s e = (subst (λ x. ShapeLabelled (length labels) x) e (s.labelled.labelled at)).0

  pub linked : (node at : ℕ) (t : Ty) → ((labels : List Label) (θ : ℕ → Tree) → Shaped labels cells θ → θ node ≡ θ at) → Reads labels cells (λ θ. θ at) t → Reads labels cells (λ θ. θ node) t
  linked node at t same r = reads_as (λ θ. θ at) (λ θ. θ node) t (λ θ s. sym (same labels θ s)) r

  pub linked_args : (node at : ℕ) (ts : List Ty) → ((labels : List Label) (θ : ℕ → Tree) → Shaped labels cells θ → θ node ≡ θ at) → ReadsArgs labels cells (λ θ. θ at) ts → ReadsArgs labels cells (λ θ. θ node) ts
  linked_args node at ts same r = record { tree = λ θ s. r.tree θ s ∙ sym (same labels θ s); variables = r.variables; closed = r.closed }

  pub linked_fields : (node at : ℕ) (fs : List (Label × Ty)) → ((labels : List Label) (θ : ℕ → Tree) → Shaped labels cells θ → θ node ≡ θ at) → ReadsFields labels cells (λ θ. θ at) fs → ReadsFields labels cells (λ θ. θ node) fs
  linked_fields node at fs same r = record { tree = λ θ s. r.tree θ s ∙ sym (same labels θ s); variables = r.variables; closed = r.closed }

  pub read_free : (at : ℕ) → at < length cells → (cell_at cells at).shape ≡ Open → Reads labels cells (λ θ. θ at) (ty.Free at)
  read_free at lt e = record {
    tree = λ θ s. under_free θ at;
    variables = λ n h. (let q : at ≡ n = same_number at n (subst IsTrue (free_of n at) h) in subst (λ k. IsVariable cells k) q (lt, e));
    closed = closed_free at;
  }
    where
      same_number : (a b : ℕ) → IsTrue (a == b) → a ≡ b
      same_number a b h = grind (arith, nat_tests)

  pub read_arrow : (at a b : ℕ) (x t : Ty) → (cell_at cells at).shape ≡ Pair tag.Arrow a b → Reads labels cells (λ θ. θ a) x → Reads labels cells (λ θ. θ b) t → Reads labels cells (λ θ. θ at) (ty.Arrow x t)
  read_arrow at a b x t e rx rt = record {
    tree = λ θ s. under_arrow θ x t ∙ ap (λ u. Fork Arrow u (under θ t)) (rx.tree θ s) ∙ ap (λ u. Fork Arrow (θ a) u) (rt.tree θ s) ∙ sym (shape_holds at (Pair tag.Arrow a b) θ e s);
    variables = λ n h. elim (either (has_free n x) (has_free n t) (subst IsTrue (free_arrow n x t) h)) [ inl p ↦ rx.variables n p | inr p ↦ rt.variables n p ];
    closed = subst IsTrue (sym (closed_arrow x t)) (both (is_closed x) (is_closed t) rx.closed rt.closed);
  }

  pub read_alone : (at : ℕ) (name : TyName) → (cell_at cells at).shape ≡ Const (tag.Named name) → Reads labels cells (λ θ. θ at) (ty.Con name [])
  read_alone at name e = record {
    tree = λ θ s. under_args θ name [] ∙ sym (shape_holds at (Const (tag.Named name)) θ e s);
    variables = λ n h. nothing (subst IsTrue (free_args n name []) h);
    closed = closed_args name [];
  }

  pub read_none : (at : ℕ) (t : Tag) → Sound labels cells → NodeIn cells at → (cell_at cells at).shape ≡ Const t → ((n : TyName) → t ≡ tag.Named n → ⊥) → Reads labels cells (λ θ. θ at) (ty.Fields [])
  read_none at t s n e other =
      let d = none_over (length labels) t (subst (λ x. shape_sort x ≡ sort.Type) e n.1) (subst (λ x. ShapeLabelled (length labels) x) e (s.labelled.labelled at)) other in
      record {
        tree = λ θ h. under_fields θ [] ∙ sym (shape_holds at (Const tag.NoFields) θ (e ∙ ap Const d) h);
        variables = λ n h. nothing (subst IsTrue (free_fields n []) h);
        closed = closed_fields [];
      }

  pub args_end : (at : ℕ) → Sound labels cells → IsRoot (cell_at cells at).shape → sort_at cells at ≡ sort.Arguments → None ≡ argument_in (cell_at cells at).shape → ReadsArgs labels cells (λ θ. θ at) []
  args_end at s r o e =
      let d = args_over (length labels) (cell_at cells at).shape r o (s.labelled.labelled at) e in
      record {
        tree = λ θ h. sym (shape_holds at (Const tag.LastArgument) θ d h);
        variables = λ n h. nothing h;
        closed = refl;
      }

  pub args_more : (at a b : ℕ) (x : Ty) (ts : List Ty) → (cell_at cells at).shape ≡ Pair tag.Argument a b → Reads labels cells (λ θ. θ a) x → ReadsArgs labels cells (λ θ. θ b) ts → ReadsArgs labels cells (λ θ. θ at) (x ∷ ts)
  args_more at a b x ts e rx rs = record {
    tree = λ θ s. ap (λ u. Fork Argument u (more_args (map (under θ) ts))) (rx.tree θ s) ∙ ap (λ u. Fork Argument (θ a) u) (rs.tree θ s) ∙ sym (shape_holds at (Pair tag.Argument a b) θ e s);
    variables = λ n h. elim (either (has_free n x) (list_any (λ y. y) (map (has_free n) ts)) h) [ inl p ↦ rx.variables n p | inr p ↦ rs.variables n p ];
    closed = both (is_closed x) (list_all (λ y. y) (map is_closed ts)) rx.closed rs.closed;
  }

  pub read_args : (name : TyName) (a b : ℕ) (x : Ty) (ts : List Ty) → Reads labels cells (λ θ. θ a) x → ReadsArgs labels cells (λ θ. θ b) ts → Reads labels cells (λ θ. Fork (Named name) (θ a) (θ b)) (ty.Con name (x ∷ ts))
  read_args name a b x ts rx rs = record {
    tree = λ θ s. under_args θ name (x ∷ ts) ∙ ap (λ u. Fork (Named name) u (more_args (map (under θ) ts))) (rx.tree θ s) ∙ ap (λ u. Fork (Named name) (θ a) u) (rs.tree θ s);
    variables = λ n h. elim (either (has_free n x) (list_any (λ y. y) (map (has_free n) ts)) (subst IsTrue (free_args n name (x ∷ ts)) h)) [ inl p ↦ rx.variables n p | inr p ↦ rs.variables n p ];
    closed = subst IsTrue (sym (closed_args name (x ∷ ts))) (both (is_closed x) (list_all (λ y. y) (map is_closed ts)) rx.closed rs.closed);
  }

  pub fields_end : (at : ℕ) → Sound labels cells → IsRoot (cell_at cells at).shape → sort_at cells at ≡ sort.Fields → None ≡ field_in (cell_at cells at).shape → ReadsFields labels cells (λ θ. θ at) []
  fields_end at s r o e =
      let d = fields_over (length labels) (cell_at cells at).shape r o (s.labelled.labelled at) e in
      record {
        tree = λ θ h. sym (shape_holds at (Const tag.LastField) θ d h);
        variables = λ n h. nothing h;
        closed = refl;
      }

  pub fields_more : (at l a b : ℕ) (w : Label) (x : Ty) (fs : List (Label × Ty)) → (cell_at cells at).shape ≡ Pair (tag.Field l) a b → w ≡ label_at labels l → Reads labels cells (λ θ. θ a) x → ReadsFields labels cells (λ θ. θ b) fs
      → ReadsFields labels cells (λ θ. θ at) ((w, x) ∷ fs)
  fields_more at l a b w x fs e d rx rs = record {
    tree = λ θ s.
        ap (λ v. Fork (Field v) (under θ x) (more_fields (map_second (under θ) fs))) d
        ∙ ap (λ u. Fork (Field (label_at labels l)) u (more_fields (map_second (under θ) fs))) (rx.tree θ s) ∙ ap (λ u. Fork (Field (label_at labels l)) (θ a) u) (rs.tree θ s) ∙ sym (shape_holds at (Pair (tag.Field l) a b) θ e s);
    variables = λ n h. elim (either (has_free n x) (list_any (λ y. y) (seconds (map_second (has_free n) fs))) h) [ inl p ↦ rx.variables n p | inr p ↦ rs.variables n p ];
    closed = both (is_closed x) (list_all (λ y. y) (seconds (map_second is_closed fs))) rx.closed rs.closed;
  }

  pub read_fields : (l a b : ℕ) (w : Label) (x : Ty) (fs : List (Label × Ty)) → w ≡ label_at labels l → Reads labels cells (λ θ. θ a) x → ReadsFields labels cells (λ θ. θ b) fs
      → Reads labels cells (λ θ. Fork (Record (label_at labels l)) (θ a) (θ b)) (ty.Fields ((w, x) ∷ fs))
  read_fields l a b w x fs d rx rs = record {
    tree = λ θ s.
        under_fields θ ((w, x) ∷ fs) ∙ ap (λ v. Fork (Record v) (under θ x) (more_fields (map_second (under θ) fs))) d
        ∙ ap (λ u. Fork (Record (label_at labels l)) u (more_fields (map_second (under θ) fs))) (rx.tree θ s) ∙ ap (λ u. Fork (Record (label_at labels l)) (θ a) u) (rs.tree θ s);
    variables = λ n h. elim (either (has_free n x) (list_any (λ y. y) (seconds (map_second (has_free n) fs))) (subst IsTrue (free_fields n ((w, x) ∷ fs)) h)) [ inl p ↦ rx.variables n p | inr p ↦ rs.variables n p ];
    closed = subst IsTrue (sym (closed_fields ((w, x) ∷ fs))) (both (is_closed x) (list_all (λ y. y) (seconds (map_second is_closed fs))) rx.closed rs.closed);
  }

  -- a node with a head and two parts is the fork of the trees of its parts
  pub read_pair : (at : ℕ) (t : Tag) (a b : ℕ) (y : Ty) → (cell_at cells at).shape ≡ Pair t a b → Reads labels cells (λ θ. Fork (head_of labels t) (θ a) (θ b)) y → Reads labels cells (λ θ. θ at) y
  read_pair at t a b y e r = reads_as (λ θ. Fork (head_of labels t) (θ a) (θ b)) (λ θ. θ at) y (λ θ s. sym (shape_holds at (Pair t a b) θ e s)) r

pub arrows_put : (fs : List Ty) (x t : Ty) → arrows_to (fs ++ x ∷ []) t ≡ arrows_to fs (ty.Arrow x t)
arrows_put [] x t = refl
arrows_put (f ∷ fs) x t = ap (λ u. ty.Arrow f u) (arrows_put fs x t)

module _ (labels : List Label) (cells : List Cell) (f : (ℕ → Tree) → Tree) where
  -- one more argument behind those so far, one more field, one more arrow
  pub args_turn : (at to a b : ℕ) (name : TyName) (old new : List Ty) (x : Ty) → (cell_at cells at).shape ≡ Pair tag.Argument a b → new ≡ old ++ x ∷ [] → Reads labels cells (λ θ. θ a) x
      → ((labels : List Label) (θ : ℕ → Tree) → Shaped labels cells θ → θ b ≡ θ to) → ((ts : List Ty) → ReadsArgs labels cells (λ θ. θ at) ts → Reads labels cells f (ty.Con name (old ++ ts)))
      → (ts : List Ty) → ReadsArgs labels cells (λ θ. θ to) ts → Reads labels cells f (ty.Con name (new ++ ts))
  args_turn at to a b name old new x e d rx same step ts rs =
      subst (λ l. Reads labels cells f (ty.Con name l)) (sym (ap (λ l. l ++ ts) d ∙ append_assoc old (x ∷ []) ts))
      (step (x ∷ ts) (args_more labels cells at a b x ts e rx (linked_args labels cells b to ts same rs)))

  pub fields_turn : (at to l a b : ℕ) (w : Label) (old new : List (Label × Ty)) (x : Ty) → (cell_at cells at).shape ≡ Pair (tag.Field l) a b → new ≡ old ++ (w, x) ∷ [] → w ≡ label_at labels l → Reads labels cells (λ θ. θ a) x
      → ((labels : List Label) (θ : ℕ → Tree) → Shaped labels cells θ → θ b ≡ θ to) → ((fs : List (Label × Ty)) → ReadsFields labels cells (λ θ. θ at) fs → Reads labels cells f (ty.Fields (old ++ fs)))
      → (fs : List (Label × Ty)) → ReadsFields labels cells (λ θ. θ to) fs → Reads labels cells f (ty.Fields (new ++ fs))
  fields_turn at to l a b w old new x e d dw rx same step fs rs =
      subst (λ k. Reads labels cells f (ty.Fields k)) (sym (ap (λ k. k ++ fs) d ∙ append_assoc old ((w, x) ∷ []) fs))
      (step ((w, x) ∷ fs) (fields_more labels cells at l a b w x fs e dw rx (linked_fields labels cells b to fs same rs)))

  pub arrow_turn : (at to a b : ℕ) (old new : List Ty) (x : Ty) → (cell_at cells at).shape ≡ Pair tag.Arrow a b → new ≡ old ++ x ∷ [] → Reads labels cells (λ θ. θ a) x
      → ((labels : List Label) (θ : ℕ → Tree) → Shaped labels cells θ → θ b ≡ θ to) → ((t : Ty) → Reads labels cells (λ θ. θ at) t → Reads labels cells f (arrows_to old t))
      → (t : Ty) → Reads labels cells (λ θ. θ to) t → Reads labels cells f (arrows_to new t)
  arrow_turn at to a b old new x e d rx same step t rt =
      subst (λ y. Reads labels cells f y) (sym (ap (λ l. arrows_to l t) d ∙ arrows_put old x t))
      (step (ty.Arrow x t) (read_arrow labels cells at a b x t e rx (linked labels cells b to t same rt)))

  pub args_done : (at : ℕ) (name : TyName) (args : List Ty) → Sound labels cells → IsRoot (cell_at cells at).shape → sort_at cells at ≡ sort.Arguments → None ≡ argument_in (cell_at cells at).shape
      → ((ts : List Ty) → ReadsArgs labels cells (λ θ. θ at) ts → Reads labels cells f (ty.Con name (args ++ ts))) → Reads labels cells f (ty.Con name args)
  args_done at name args s r o e step = subst (λ l. Reads labels cells f (ty.Con name l)) (append-nil args) (step [] (args_end labels cells at s r o e))

  pub fields_done : (at : ℕ) (fields : List (Label × Ty)) → Sound labels cells → IsRoot (cell_at cells at).shape → sort_at cells at ≡ sort.Fields → None ≡ field_in (cell_at cells at).shape
      → ((fs : List (Label × Ty)) → ReadsFields labels cells (λ θ. θ at) fs → Reads labels cells f (ty.Fields (fields ++ fs))) → Reads labels cells f (ty.Fields fields)
  fields_done at fields s r o e step = subst (λ l. Reads labels cells f (ty.Fields l)) (append-nil fields) (step [] (fields_end labels cells at s r o e))

pub read_back_is : (labels : List Label) (cells : List Cell) (node : ℕ) (t : Ty) → Reads labels cells (λ θ. θ node) t → ReadBack (record { cells = cells; labels = labels }) node t
read_back_is labels cells node t r = record {
  tree = λ θ s. r.tree θ (shaped_of labels cells θ s);
  variables = r.variables;
  closed = r.closed;
  formed = λ names θ s f. ap (is_formed names) (sym (r.tree θ (shaped_of labels cells θ s))) ∙ formed_under names θ t r.closed (λ n h. f n (r.variables n h));
}
