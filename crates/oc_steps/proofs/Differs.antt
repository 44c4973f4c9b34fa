-- Texts whose runs do not agree with a meaning.
use Rattle.std.proofs.Common.{◌≡◌, ℕ, zero, suc, inl, inr, List, [], ◌∷◌, Some, None, refl, sym, ap, subst, arith}
use Rattle.std.specs.Prelude.{pos, codes}
use Rattle.beh.specs.Agree.{Run}
use Rattle.beh.specs.Behaviour.{Behaviour, Begins}
use Rattle.oc_steps.specs.Examples.{dropped_arm, in_place, two_prints}
use Rattle.oc_steps.specs.OcSteps.{Agrees, Step, begins, meaning}
use Rattle.runs.proofs.SmallTexts.{not_agree}
use Rattle.runs.specs.Forms.{fun_of, text_scope, two, unit_exp, var}
use Rattle.runs.specs.Patterns.{pick}
use Rattle.runs.specs.Primitives.{Gives, St, start, unit, written}
use Rattle.runs.specs.Scope.{held}
use Rattle.runs.specs.Seen.{Config}
use Rattle.runs.specs.Steps as steps
use Rattle.runs.specs.Steps.{WorkStep}
use Rattle.runs.specs.Tree.{Apply, Case, Datum, Doing, End, Exp, Int, Is, Item, Lit, NoVals, Node, PAny, PLit, PVar, Prim, PrintString, Rule, Rules, Stop, Str, Stuck, Val, Work}

pub two_prints_differ : Agrees (meaning two_prints) two_prints → ⊥
two_prints_differ a = not_agree a

-- ---- arguments that stay in place: the second one may print first

abbrev half : List ℕ → Exp
half t = Node Apply (two (Is (Prim PrintString NoVals)) (Lit (Str t)))

abbrev ready : List ℕ → Exp
ready t = Node Apply (two (Is (Prim PrintString NoVals)) (Is (Datum (Str t))))

abbrev first_part : Exp
first_part = Node Apply (two (fun_of (PVar (var (codes "a"))) (fun_of (PVar (var (codes "b"))) unit_exp)) (half (codes "a")))

abbrev doing : Exp → Work
doing e = Doing (held text_scope) Stuck PAny (Node Apply (two first_part e)) End

abbrev at : Work → St → Config
at w s = record { work = w; st = s }

second_first : Run Step 3 (begins in_place) (at (doing (Is unit)) (written (codes "b") start))
second_first = (
  at (doing (half (codes "b"))) start,
  (refl, refl),
  (
    at (doing (ready (codes "b"))) start,
    inl (_, inl (_, inr (_, inl (_, inl (_, inr (_, inl (_, (refl, refl), refl), refl), refl), refl), refl), refl), refl),
    (
      at (doing (Is unit)) (written (codes "b") start),
      inl (_, inl (_, inr (_, inl (_, inr (inr (Item (Prim PrintString NoVals) (Item (Datum (Str (codes "b"))) NoVals), Gives unit (written (codes "b") start), refl, refl, refl, refl)), refl), refl), refl), refl),
      refl,
    ),
  ),
)

abbrev first_or : ℕ → List ℕ → ℕ
first_or d [] = d
first_or d (a ∷ l) = a

apart : (a b : ℕ) → suc a ≡ b → a ≡ b → ⊥
apart a b e f = omega (arith, e, f)

none_begins : (m : ℕ) → Begins (meaning in_place m).output (codes "b") → ⊥
none_begins zero b = cc b.1
none_begins (suc zero) b = apart 97 98 refl (ap (first_or 0) b.1)
none_begins (suc (suc m)) b = apart 97 98 refl (ap (first_or 0) b.1)

pub in_place_differs : Agrees (meaning in_place) in_place → ⊥
in_place_differs a = let c = a.covers 3 (at (doing (Is unit)) (written (codes "b") start)) second_first in none_begins c.0 c.1

-- ---- a match without the arm that takes its value gets stuck

abbrev zero_rule : Rules
zero_rule = Rule (PLit (Int (pos 0))) unit_exp Stop

abbrev matching : Exp → Work
matching a = Doing (held text_scope) Stuck PAny (Case Stuck a zero_rule) End

abbrev value_in : Exp → Val
value_in (Is v) = v
value_in _ = unit

no_value : (t : Exp) (v : Val) → Is (Datum (Int (pos 1))) ≡ Is v → pick [] zero_rule v None ≡ Some t → ⊥
no_value t v e h =
    let k : pick [] zero_rule (Datum (Int (pos 1))) None ≡ Some t = subst (λ w. pick [] zero_rule w None ≡ Some t) (sym (ap value_in e)) h in
    absurd (cc k)

no_case : (t : Exp) (s : St) → steps.Step (Case Stuck (Is (Datum (Int (pos 1)))) zero_rule) start t s → ⊥
no_case t s (inl h) = h.1
no_case t s (inr (inl h)) = no_value t h.0 h.1 h.2
no_case t s (inr (inr h)) = absurd (cc h.1)

no_step : (w : Work) (s : St) → WorkStep (matching (Is (Datum (Int (pos 1))))) start w s → ⊥
no_step w s (inl h) = no_case h.0 s h.1
no_step w s (inr (inl h)) = absurd (cc h.1)
no_step w s (inr (inr h)) = absurd (cc h.1)

pub dropped_arm_sticks : (p : ℕ → Behaviour) → Agrees p dropped_arm → ⊥
dropped_arm_sticks p a =
    let c = a.covers 2 (at (matching (Is (Datum (Int (pos 1))))) start) (at (matching (Lit (Int (pos 1)))) start, (refl, refl), (at (matching (Is (Datum (Int (pos 1))))) start, inl (_, inl (_, (refl, refl), refl), refl), refl)) in
    (c.2 (λ can. no_step can.0.work can.0.st can.1)).0
