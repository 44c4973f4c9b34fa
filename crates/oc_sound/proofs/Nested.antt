-- Arms for both forms of two lists take each pair by its shape.
use Rattle.std.proofs.Common.{◌≡◌, inl, inr, List, sym, ap, ap₂, ◌∙◌, subst}
use Rattle.oc_ast.specs.Plain.{PAtom}
use Rattle.oc_typing.specs.Ty.{MoreTypes, NoTypes, Product, Ty, Tys, list, unit}
use Rattle.oc_typing.specs.Env.{Env}
use Rattle.oc_typing.specs.OcTypes.{ArmsType}
use Rattle.oc_steps.specs.Known.{Known}
use Rattle.oc_steps.specs.View.{arms_tree}
use Rattle.run_types.specs.Types as run
use Rattle.run_types.specs.Types.{AllShaped, ConsT, Ctx, NilT, Shaped, TTup, TakesOne, Whole, World, list_ty}
use Rattle.runs.specs.Primitives.{cons_part}
use Rattle.runs.specs.Tree.{Con, Item, NoVals, Tup, Val}
use Rattle.oc_sound.proofs.Arms.{ListShape, list_shape, tup_shape, two_parts}
use Rattle.oc_sound.specs.Examples.{nested_arms}
use Rattle.oc_sound.specs.Meant.{meant}
use Rattle.oc_sound.specs.Secure.{TakeShapes}
use Rattle.oc_sound.specs.Words.{Variants}

abbrev pair_of : Ty → Ty → Ty
pair_of p q = Product (MoreTypes (list p) (MoreTypes (list q) NoTypes))

abbrev first_of : Ty → Ty
first_of (Product (MoreTypes t ts)) = t
first_of _ = unit

abbrev rest_of : Ty → Tys
rest_of (Product (MoreTypes t ts)) = ts
rest_of _ = NoTypes

-- the type of the arms
arms_pair : (g : Env) (a t : Ty) (b c d : PAtom) → ArmsType g (nested_arms b c d) a t → (p : Ty) × (q : Ty) × (a ≡ pair_of p q)
arms_pair g a t b c d r =
    let one = r.0.1 in
    let two = r.1.0.1 in
    let e : one.1 ≡ two.1 = ap rest_of (sym one.6 ∙ two.6) in
    (one.4.0, two.5.4.0, one.6 ∙ ap₂ (λ u us. Product (MoreTypes u us)) one.4.1 (e ∙ (two.5.6 ∙ ap₂ (λ u us. MoreTypes u us) two.5.4.1 two.5.5.0)))

abbrev Taken : Known → PAtom → PAtom → PAtom → List Val → Val → Type 0
Taken k b c d m v = TakesOne m (arms_tree k (nested_arms b c d)) v

pair_taken : (w : World) (k : Known) (b c d : PAtom) (m : List Val) (p q : run.Ty) (y z : Val) → ListShape w p y → ListShape w q z → Taken k b c d m (Tup (Item y (Item z NoVals)))
pair_taken w k b c d m p q y z (inl e) h = subst (λ u. Taken k b c d m (Tup (Item u (Item z NoVals)))) (sym e) (inl tt)
pair_taken w k b c d m p q y z (inr e) (inl h) =
    subst (λ u. Taken k b c d m (Tup (Item u (Item z NoVals)))) (sym e.2)
    (subst (λ u. Taken k b c d m (Tup (Item (Con cons_part (Item e.0 (Item e.1 NoVals))) (Item u NoVals)))) (sym h) (inr (inl tt)))
pair_taken w k b c d m p q y z (inr e) (inr h) =
    subst (λ u. Taken k b c d m (Tup (Item u (Item z NoVals)))) (sym e.2)
    (subst (λ u. Taken k b c d m (Tup (Item (Con cons_part (Item e.0 (Item e.1 NoVals))) (Item u NoVals)))) (sym h.2) (inr (inr (inl tt))))

pub nested_take : (vs : Variants) (b c d : PAtom) → TakeShapes vs (nested_arms b c d)
nested_take vs b c d w k g f h x a t cl aw pl r m v s =
    let n = arms_pair g a t b c d r in
    let u = tup_shape w v (ConsT (list_ty (meant f h n.0)) (ConsT (list_ty (meant f h n.1)) NilT)) (subst (Shaped w v) (ap (meant f h) n.2) s) in
    let o = two_parts w u.0 (list_ty (meant f h n.0)) (list_ty (meant f h n.1)) u.2 in
    subst (Taken k b c d m) (sym (u.1 ∙ ap Tup o.2))
    (pair_taken w k b c d m (meant f h n.0) (meant f h n.1) o.0 o.1 (list_shape w (meant f h n.0) o.0 pl.basic o.3) (list_shape w (meant f h n.1) o.1 pl.basic o.4))
