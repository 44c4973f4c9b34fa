-- Operators at the types of their parts.
use Rattle.std.proofs.Common.{◌≡◌, ◌⊎◌, ℕ, inl, inr, List, [], ◌∷◌, Option, Some, Bool, true, false, if◌then◌else◌, refl, sym, ap, ◌∙◌, subst, pos}
use Rattle.std.specs.Str.{bytes_eq}
use Rattle.oc_ast.specs.Plain.{Bytes}
use Rattle.oc_typing.specs.Ty.{Ty, bool, char, int, string}
use Rattle.oc_typing.specs.Operators as op
use Rattle.oc_typing.specs.Operators.{KindHas, OperTypes, kind_in, operators}
use Rattle.oc_steps.specs.Operators.{Acts, AndAlso, Form, OrElse, Prefixes, form_in, form_of, form_tree, forms}
use Rattle.run_types.specs.Basic.{Basic}
use Rattle.run_types.proofs.Choice.{choice_has}
use Rattle.run_types.specs.Types as run
use Rattle.run_types.specs.Types.{ConsT, Ctx, Has, NilT, World, bool_ty, total}
use Rattle.runs.specs.Forms.{and_also, false_exp, or_else, true_exp}
use Rattle.runs.specs.Tree as tree
use Rattle.oc_sound.specs.Meant.{meant}
use Rattle.oc_sound.specs.Secure.{IsTotal}

-- a kind of operators and a form of trees go together
abbrev pub Together : World → Ctx → (ℕ → run.Ty) → (ℕ → run.Ty) → tree.Exp → tree.Exp → Option op.Kind → Option Form → Type 0
Together w x f b e h k o = (u v t : Ty) → KindHas k u v t → IsTotal o → Has w x e (meant f b u) → Has w x h (meant f b v) → Has w x (form_tree o e h) (meant f b t)

on_ints : (w : World) (x : Ctx) (f b : ℕ → run.Ty) (e h : tree.Exp) → Basic w → (o : tree.Arithmetic) → Together w x f b e h (Some op.OnInts) (Some (Acts (tree.Arith o)))
on_ints w x f b e h q o u v t k i he hh = (ConsT (meant f b u) (ConsT (meant f b v) NilT), (he, (hh, tt)), (meant f b u, meant f b v, refl, (i, ap (meant f b) k.0, ap (meant f b) k.1, ap (meant f b) k.2)))

compared : (w : World) (f b : ℕ → run.Ty) → Basic w → (o : tree.Comparison) (u v t : Ty) → ((u ≡ int) ⊎ ((u ≡ char) ⊎ (u ≡ string))) × (v ≡ u) × (t ≡ bool) → run.OperTy w (tree.Compare o) (meant f b u) (meant f b v) (meant f b t)
compared w f b q o u v t k = by k.0
  where
    at : (c : tree.Const) (s : Ty) → meant f b s ≡ run.const_ty c → u ≡ s → run.OperTy w (tree.Compare o) (meant f b u) (meant f b v) (meant f b t)
    at c s l e = (c, ap (meant f b) e ∙ l, ap (meant f b) (k.1 ∙ e) ∙ l, ap (meant f b) k.2, q.bools)

    by : (u ≡ int) ⊎ ((u ≡ char) ⊎ (u ≡ string)) → run.OperTy w (tree.Compare o) (meant f b u) (meant f b v) (meant f b t)
    by (inl e) = at (tree.Int (pos 0)) int refl e
    by (inr (inl e)) = at (tree.Char 0) char refl e
    by (inr (inr e)) = at (tree.Str []) string refl e

compares : (w : World) (x : Ctx) (f b : ℕ → run.Ty) (e h : tree.Exp) → Basic w → (o : tree.Comparison) → Together w x f b e h (Some op.Compares) (Some (Acts (tree.Compare o)))
compares w x f b e h q o u v t k i he hh = (ConsT (meant f b u) (ConsT (meant f b v) NilT), (he, (hh, tt)), (meant f b u, meant f b v, refl, compared w f b q o u v t k))

identifies : (w : World) (x : Ctx) (f b : ℕ → run.Ty) (e h : tree.Exp) → Basic w → Together w x f b e h (Some op.Identifies) (Some (Acts tree.Identical))
identifies w x f b e h q u v t k i he hh = (ConsT (meant f b u) (ConsT (meant f b v) NilT), (he, (hh, tt)), (meant f b u, meant f b v, refl, (meant f b k.0, ap (meant f b) k.1, ap (meant f b) (k.2 ∙ k.1), ap (meant f b) k.3, q.bools)))

assigns : (w : World) (x : Ctx) (f b : ℕ → run.Ty) (e h : tree.Exp) → Basic w → Together w x f b e h (Some op.Assigns) (Some (Acts tree.Assign))
assigns w x f b e h q u v t k i he hh = (ConsT (meant f b u) (ConsT (meant f b v) NilT), (he, (hh, tt)), (meant f b u, meant f b v, refl, (ap (meant f b) k.0, ap (meant f b) k.1)))

joins : (w : World) (x : Ctx) (f b : ℕ → run.Ty) (e h : tree.Exp) → Basic w → Together w x f b e h (Some op.Joins) (Some (Acts tree.Concat))
joins w x f b e h q u v t k i he hh = (ConsT (meant f b u) (ConsT (meant f b v) NilT), (he, (hh, tt)), (meant f b u, meant f b v, refl, (ap (meant f b) k.0, ap (meant f b) k.1, ap (meant f b) k.2)))

pub true_has : (w : World) (x : Ctx) → Basic w → Has w x true_exp bool_ty
true_has w x q = (NilT, tt, (0, true, NilT, NilT, (q.bools).0, refl, refl))

pub false_has : (w : World) (x : Ctx) → Basic w → Has w x false_exp bool_ty
false_has w x q = (NilT, tt, (0, true, NilT, NilT, (q.bools).1, refl, refl))

decides_and : (w : World) (x : Ctx) (f b : ℕ → run.Ty) (e h : tree.Exp) → Basic w → Together w x f b e h (Some op.Decides) (Some AndAlso)
decides_and w x f b e h q u v t k i he hh = subst (Has w x (and_also e h)) (sym (ap (meant f b) k.2)) (choice_has w x e h false_exp bool_ty q (subst (Has w x e) (ap (meant f b) k.0) he) (subst (Has w x h) (ap (meant f b) k.1) hh) (false_has w x q))

decides_or : (w : World) (x : Ctx) (f b : ℕ → run.Ty) (e h : tree.Exp) → Basic w → Together w x f b e h (Some op.Decides) (Some OrElse)
decides_or w x f b e h q u v t k i he hh = subst (Has w x (or_else e h)) (sym (ap (meant f b) k.2)) (choice_has w x e true_exp h bool_ty q (subst (Has w x e) (ap (meant f b) k.0) he) (true_has w x q) (subst (Has w x h) (ap (meant f b) k.1) hh))

prefixes : (w : World) (x : Ctx) (f b : ℕ → run.Ty) (e h : tree.Exp) → Basic w → Together w x f b e h (Some op.Prefixes) (Some Prefixes)
prefixes w x f b e h q u v t k i he hh = (
  ConsT (meant f b u) (ConsT (meant f b v) NilT),
  (he, (hh, tt)),
  (
    1,
    true,
    ConsT (meant f b u) NilT,
    ConsT (run.TVar 0) (ConsT (run.list_ty (run.TVar 0)) NilT),
    (q.lists).1,
    ap (λ s. ConsT (meant f b u) (ConsT s NilT)) (ap (meant f b) k.0),
    ap (meant f b) k.1,
  ),
)

-- two tables have the same names, row by row, and their rows go together
abbrev RowsTogether : World → Ctx → (ℕ → run.Ty) → (ℕ → run.Ty) → tree.Exp → tree.Exp → List (Bytes × op.Kind) → List (Bytes × Form) → Type 0
RowsTogether w x f b e h [] [] = Unit {0}
RowsTogether w x f b e h (r ∷ rs) (s ∷ ss) = (r.0 ≡ s.0) × Together w x f b e h (Some r.1) (Some s.1) × RowsTogether w x f b e h rs ss
RowsTogether w x f b e h _ _ = ⊥

row_if : (w : World) (x : Ctx) (f b : ℕ → run.Ty) (e h : tree.Exp) (i : Bool) (k : op.Kind) (o : Form) (ks : Option op.Kind) (os : Option Form) → Together w x f b e h (Some k) (Some o) → Together w x f b e h ks os → Together w x f b e h (if i then Some k else ks) (if i then Some o else os)
row_if w x f b e h true k o ks os m n = m
row_if w x f b e h false k o ks os m n = n

rows_in : (w : World) (x : Ctx) (f b : ℕ → run.Ty) (e h : tree.Exp) (c : Bytes) (rs : List (Bytes × op.Kind)) (ss : List (Bytes × Form)) → RowsTogether w x f b e h rs ss → Together w x f b e h (kind_in c rs) (form_in c ss)
rows_in w x f b e h c [] [] m = λ u v t k i he hh. absurd k
rows_in w x f b e h c (r ∷ rs) (s ∷ ss) m =
    subst (λ n. Together w x f b e h (if bytes_eq c r.0 then Some r.1 else kind_in c rs) (if bytes_eq c n then Some s.1 else form_in c ss)) m.0
    (row_if w x f b e h (bytes_eq c r.0) r.1 s.1 (kind_in c rs) (form_in c ss) m.1 (rows_in w x f b e h c rs ss m.2))
rows_in w x f b e h c [] (s ∷ ss) m = absurd m
rows_in w x f b e h c (r ∷ rs) [] m = absurd m

all_together : (w : World) (x : Ctx) (f b : ℕ → run.Ty) (e h : tree.Exp) → Basic w → RowsTogether w x f b e h operators forms
all_together w x f b e h q = (refl, on_ints w x f b e h q tree.Plus, (refl, on_ints w x f b e h q tree.Minus, (refl, on_ints w x f b e h q tree.Times, (refl, on_ints w x f b e h q tree.Divide, (refl, on_ints w x f b e h q tree.Modulo, (refl, on_ints w x f b e h q tree.Land, (refl, on_ints w x f b e h q tree.Lor, (refl, on_ints w x f b e h q tree.Lxor, (refl, on_ints w x f b e h q tree.Lsl, (refl, on_ints w x f b e h q tree.Lsr, (refl, compares w x f b e h q tree.Equal, (refl, compares w x f b e h q tree.Less, (refl, compares w x f b e h q tree.LessEqual, (refl, compares w x f b e h q tree.Greater, (refl, compares w x f b e h q tree.GreaterEqual, (refl, identifies w x f b e h q, (refl, assigns w x f b e h q, (refl, joins w x f b e h q, (refl, decides_and w x f b e h q, (refl, decides_or w x f b e h q, (refl, prefixes w x f b e h q, tt)))))))))))))))))))))

pub form_has : (w : World) (x : Ctx) (f b : ℕ → run.Ty) (e h : tree.Exp) → Basic w → (o : Bytes) (u v t : Ty) → OperTypes o u v t → IsTotal (form_of o) → Has w x e (meant f b u) → Has w x h (meant f b v) → Has w x (form_tree (form_of o) e h) (meant f b t)
form_has w x f b e h q o u v t k i he hh = rows_in w x f b e h o operators forms (all_together w x f b e h q) u v t k i he hh
