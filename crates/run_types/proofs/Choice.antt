-- Rules for both truth values take each of them, and rules for both forms of lists take each list.
use Rattle.std.proofs.Common.{◌≡◌, ◌⊎◌, inl, inr, List, None, true, refl, sym, ap, subst}
use Rattle.run_types.specs.Basic.{Basic}
use Rattle.run_types.specs.Types.{AllShaped, Ctx, Has, NilT, Shaped, TakesOne, Ty, World, bool_ty, inst_all, no_ctx}
use Rattle.run_types.proofs.Put.{datum_data}
use Rattle.runs.specs.Forms.{choice}
use Rattle.runs.specs.Primitives.{false_part, true_part}
use Rattle.runs.specs.Tree.{Con, Datum, Exp, Item, NoVals, PCon, PNil, Rule, Stop, Val, Vals}

pub no_parts : (w : World) (vs : Vals) → AllShaped w vs NilT → vs ≡ NoVals
no_parts w NoVals h = refl
no_parts w (Item v vs) h = absurd h

pub truth_shape : (w : World) (v : Val) → Basic w → Shaped w v bool_ty → (v ≡ Con true_part NoVals) ⊎ (v ≡ Con false_part NoVals)
truth_shape w (Con k vs) c h = by (c.only_bools k h.0 h.1).1
  where
    none : vs ≡ NoVals
    none = no_parts w vs (subst (λ a. AllShaped w vs (inst_all NilT a)) (c.only_bools k h.0 h.1).0 h.2)

    by : (k ≡ true_part) ⊎ (k ≡ false_part) → (Con k vs ≡ Con true_part NoVals) ⊎ (Con k vs ≡ Con false_part NoVals)
    by (inl e) = inl (subst (λ i. Con i vs ≡ Con true_part NoVals) (sym e) (ap (Con true_part) none))
    by (inr e) = inr (subst (λ i. Con i vs ≡ Con false_part NoVals) (sym e) (ap (Con false_part) none))
truth_shape w (Datum n) c h = absurd (datum_data n 0 true NilT h)
truth_shape w _ c h = absurd h

choice_taken : (m : List Val) (b c : Exp) (v : Val) → (v ≡ Con true_part NoVals) ⊎ (v ≡ Con false_part NoVals) → TakesOne m (Rule (PCon true_part PNil) b (Rule (PCon false_part PNil) c Stop)) v
choice_taken m b c v (inl e) = subst (TakesOne m (Rule (PCon true_part PNil) b (Rule (PCon false_part PNil) c Stop))) (sym e) (inl tt)
choice_taken m b c v (inr e) = subst (TakesOne m (Rule (PCon true_part PNil) b (Rule (PCon false_part PNil) c Stop))) (sym e) (inr (inl tt))

pub choice_has : (w : World) (g : Ctx) (a b c : Exp) (t : Ty) → Basic w → Has w g a bool_ty → Has w g b t → Has w g c t → Has w g (choice a b c) t
choice_has w g a b c t q ha hb hc =
    inr (
      bool_ty,
      (λ m v h. choice_taken m b c v (truth_shape w v q h)),
      ha,
      (
        no_ctx,
        ((bool_ty, (λ y. None), refl, (0, true, NilT, NilT, (q.bools).0, refl, tt)), λ y u i o. absurd (cc i)),
        hb,
        (no_ctx, ((bool_ty, (λ y. None), refl, (0, true, NilT, NilT, (q.bools).1, refl, tt)), λ y u i o. absurd (cc i)), hc, tt),
      ),
    )
