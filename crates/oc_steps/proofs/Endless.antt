-- A loop without end: it prints for ever, and no run ends.
use Rattle.std.proofs.Common.{◌≡◌, ℕ, zero, suc, inl, ◌++◌, refl, sym, ap, ◌∙◌, subst, append_assoc, append-nil}
use Rattle.std.specs.Prelude.{codes}
use Rattle.beh.specs.Agree.{CanStep, Run}
use Rattle.beh.specs.Behaviour as beh
use Rattle.beh.specs.Behaviour.{IsOver}
use Rattle.oc_steps.specs.Examples.{endless, letters}
use Rattle.oc_steps.specs.OcSteps.{NeverWrong, Step, begins, ends, evaluated, meaning}
use Rattle.oc_steps.specs.Ordered.{Ordered}
use Rattle.oc_steps.proofs.Texts.{text_agrees}
use Rattle.runs.specs.Env.{group}
use Rattle.runs.specs.Forms.{call, choice, let_in, true_exp, unit_exp, unit_pat, var}
use Rattle.runs.specs.Meaning.{More, Res, Right, mean, then_do}
use Rattle.runs.specs.Names.{Name}
use Rattle.runs.specs.Primitives.{St, body, start, unit, written}
use Rattle.runs.specs.Scope.{Scope}
use Rattle.runs.specs.Seen.{Config, behaviour}
use Rattle.runs.specs.Tree.{Exp, Fun, Funs, Is, Lit, NoFuns, NoVals, PAny, Prim, PrintString, Rule, Rules, Stop, Str, Stuck, Val, Var}

abbrev name : Name
name = var (codes "z_1")

abbrev rules : Rules
rules = Rule unit_pat (choice true_exp (let_in PAny (call (Is (Prim PrintString NoVals)) (Lit (Str (codes "x")))) (call (Var name) unit_exp)) unit_exp) Stop

abbrev loop : Funs
loop = Fun name Stuck rules NoFuns

abbrev turn : Exp
turn = body Stuck rules unit

-- the state after so many turns
abbrev turned : ℕ → St → St
turned zero s = s
turned (suc n) s = turned n (written (codes "x") s)

one_turn : (n : ℕ) (s : St) → mean (suc n) (group loop) turn s ≡ mean n (group loop) turn (written (codes "x") s)
one_turn n s = refl

spins : (n : ℕ) (s : St) → mean n (group loop) turn s ≡ More (turned n s)
spins zero s = refl
spins (suc n) s = one_turn n s ∙ spins n (written (codes "x") s)

then_more : (r : Res Val) (go : Val → St → Res Scope) (s : St) → r ≡ More s → then_do r go ≡ More s
then_more r go s e = ap (λ q. then_do q go) e

endless_evaluated : (n : ℕ) → evaluated endless (suc n) ≡ More (turned n start)
endless_evaluated n = then_more (mean n (group loop) turn start) _ (turned n start) (spins n start)

turned_out : (n : ℕ) (s : St) → (turned n s).out ≡ s.out ++ letters n
turned_out zero s = sym (append-nil s.out)
turned_out (suc n) s = turned_out n (written (codes "x") s) ∙ append_assoc s.out (codes "x") (letters n)

pub endless_means : (n : ℕ) → meaning endless (suc n) ≡ ends (letters n) beh.More
endless_means n = ap (λ r. behaviour r) (endless_evaluated n) ∙ ap (λ o. ends o beh.More) (turned_out n start)

pub endless_ordered : Ordered endless
endless_ordered = ((((tt, ((inl tt, tt, tt), (inl tt, tt, tt)), tt), tt), (inl tt, tt, tt)), tt)

endless_right : NeverWrong endless
endless_right zero = tt
endless_right (suc n) = subst Right (sym (endless_evaluated n)) tt

always_more : (n : ℕ) → IsOver (meaning endless n).ending → ⊥
always_more zero h = h
always_more (suc n) h = subst (λ (b : beh.Behaviour). IsOver b.ending) (endless_means n) h

pub never_ends : (j : ℕ) (c : Config) → Run Step j (begins endless) c → (CanStep Step c → ⊥) → ⊥
never_ends j c r stuck =
    let a = text_agrees endless endless_ordered endless_right in
    let w = a.covers j c r in
    let h = w.2 stuck in always_more w.0 (subst (λ (b : beh.Behaviour). IsOver b.ending) (sym h.1) h.0)
