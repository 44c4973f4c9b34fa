-- Small texts, evaluated; so all their runs end alike.
use Rattle.std.proofs.Common.{◌≡◌, ℕ, suc, inl, inr, [], refl}
use Rattle.std.specs.Prelude.{codes}
use Rattle.beh.specs.Behaviour.{Ended, Raised}
use Rattle.oc_steps.specs.Examples.{cells, divides, dropped_arm, loops, made_anew, no_match, overflows, sequenced, structures}
use Rattle.oc_steps.specs.OcSteps.{Settles, ends, evaluated, meaning}
use Rattle.oc_steps.specs.Ordered.{Ordered}
use Rattle.oc_steps.proofs.Texts.{text_fails, text_settles}
use Rattle.runs.specs.Meaning.{Wrong}
use Rattle.runs.specs.Primitives.{start}

pub sequenced_ordered : Ordered sequenced
sequenced_ordered = (((inl tt, tt, tt), tt), ((((inl tt, tt, (inl tt, tt, tt)), (inl tt, tt, (inl tt, tt, tt))), tt), tt))

pub sequenced_means : (n : ℕ) → meaning sequenced (suc (suc n)) ≡ ends (codes "ab") Ended
sequenced_means n = refl

pub sequenced_settles : Settles sequenced (codes "ab") Ended
sequenced_settles = text_settles sequenced 2 _ _ (codes "ab") sequenced_ordered refl refl

pub made_anew_ordered : Ordered made_anew
made_anew_ordered = (((inl tt, tt, tt), (tt, tt)), ((((tt, (((inl tt, tt, (inl tt, tt, tt)), ((inl tt, tt, tt), tt)), (((inl tt, tt, tt), ((inl tt, tt, tt), tt)), tt))), tt), ((inl tt, tt, tt), tt)), tt))

pub made_anew_means : (n : ℕ) → meaning made_anew (suc (suc (suc (suc n)))) ≡ ends (codes "outer") Ended
made_anew_means n = refl

pub made_anew_settles : Settles made_anew (codes "outer") Ended
made_anew_settles = text_settles made_anew 4 _ _ (codes "outer") made_anew_ordered refl refl

pub overflows_ordered : Ordered overflows
overflows_ordered = ((tt, (((inr (inl tt), tt, tt), ((inr (inl tt), tt, tt), ((inr (inr tt), (inr (inl tt), tt, (inr (inl tt), tt, tt)), tt), (inl tt, tt, tt), tt))), tt)), (((inl tt, tt, (inr (tt, tt), tt, (tt, tt))), ((inl tt, tt, (inr (tt, tt), tt, (tt, tt))), tt)), tt))

pub overflows_means : (n : ℕ) → meaning overflows (suc (suc n)) ≡ ends [] (Raised (codes "Overflow"))
overflows_means n = refl

pub overflows_settles : Settles overflows [] (Raised (codes "Overflow"))
overflows_settles = text_fails overflows 2 _ _ [] (codes "Overflow") overflows_ordered refl refl refl

pub divides_ordered : Ordered divides
divides_ordered = (
  (tt, (((inr (inl tt), tt, tt), (inl tt, tt, tt), ((inr (inl tt), tt, tt), ((inr (inl tt), tt, tt), ((inr (inl tt), tt, tt), tt, ((inr (inr tt), (inr (inl tt), tt, tt), tt), (inr (inl tt), tt, tt), tt))))), tt)),
  (((inl tt, tt, (inr (tt, tt), tt, (tt, tt))), (((inr (inl tt), tt, tt), (inl tt, tt, tt), (inl tt, tt, tt)), ((inl tt, tt, (inr (tt, tt), tt, (tt, tt))), tt))), tt),
)

pub divides_means : (n : ℕ) → meaning divides (suc (suc n)) ≡ ends (codes "y") (Raised (codes "Div"))
divides_means n = refl

pub divides_settles : Settles divides (codes "y") (Raised (codes "Div"))
divides_settles = text_fails divides 2 _ _ (codes "y") (codes "Div") divides_ordered refl refl refl

pub no_match_ordered : Ordered no_match
no_match_ordered = ((tt, tt), (((tt, (tt, ((inl tt, tt, tt), tt))), ((inl tt, tt, tt), tt)), tt))

pub no_match_means : (n : ℕ) → meaning no_match (suc (suc n)) ≡ ends [] (Raised (codes "Match"))
no_match_means n = refl

pub no_match_settles : Settles no_match [] (Raised (codes "Match"))
no_match_settles = text_fails no_match 2 _ _ [] (codes "Match") no_match_ordered refl refl refl

pub cells_ordered : Ordered cells
cells_ordered = ((inl tt, tt, tt), (tt, ((inl tt, tt, tt), ((inr (inl tt), tt, tt), (((inr (inr tt), (inl tt, tt, tt), tt), (inl tt, tt, tt), (inl tt, tt, tt)), (((inr (inl tt), tt, tt), (inl tt, tt, tt), (inl tt, tt, tt)), (((inr (inl tt), tt, tt), (inl tt, tt, tt), (inl tt, tt, tt)), tt)))))))

pub cells_means : (n : ℕ) → meaning cells (suc n) ≡ ends (codes "yyn") Ended
cells_means n = refl

pub cells_settles : Settles cells (codes "yyn") Ended
cells_settles = text_settles cells 1 _ _ (codes "yyn") cells_ordered refl refl

pub loops_ordered : Ordered loops
loops_ordered = ((inl tt, tt, tt), (((inr (inr tt), (inl tt, tt, tt), tt), ((inl tt, tt, tt), (inr (inl tt), tt, (inr (inr tt), (inl tt, tt, tt), tt)))), tt))

pub loops_means : (n : ℕ) → meaning loops (suc (suc (suc (suc (suc n))))) ≡ ends (codes "aaa") Ended
loops_means n = refl

pub loops_settles : Settles loops (codes "aaa") Ended
loops_settles = text_settles loops 5 _ _ (codes "aaa") loops_ordered refl refl

pub structures_ordered : Ordered structures
structures_ordered = ((tt, (tt, tt)), (tt, (tt, (((tt, (tt, tt)), ((inl tt, tt, tt), (tt, (tt, tt)))), ((inl tt, tt, tt), tt)))))

pub structures_means : (n : ℕ) → meaning structures (suc n) ≡ ends (codes "a") Ended
structures_means n = refl

pub structures_settles : Settles structures (codes "a") Ended
structures_settles = text_settles structures 1 _ _ (codes "a") structures_ordered refl refl

pub dropped_arm_wrong : (n : ℕ) → evaluated dropped_arm (suc n) ≡ Wrong start
dropped_arm_wrong n = refl
