-- Texts that type and come where there is no rule: what secure texts must leave out.
use Rattle.std.proofs.Common.{ℕ, inr, None, refl, lit<}
use Rattle.oc_typing.specs.Ty.{Ty, exn, int}
use Rattle.oc_typing.specs.Env.{AddCon, AddVal, Empty}
use Rattle.oc_typing.specs.Variables.{NoVars, OneVar}
use Rattle.oc_typing.specs.Examples.{f, x}
use Rattle.oc_typing.specs.OcText.{OcText}
use Rattle.oc_typing.specs.OcTypes.{raises}
use Rattle.oc_steps.specs.OcSteps.{NeverWrong}
use Rattle.oc_sound.specs.Examples.{confused, confused_env, division, left_out, x_int}

abbrev at_all : Ty → ℕ → Ty
at_all a = λ i. a

pub division_types : OcText division x_int
division_types = (
  11,
  (
    11,
    x_int,
    Empty,
    (
      OneVar x int NoVars,
      (int, inr (tt, (tt, tt)), (0, λ v i l. ((int, int, (refl, refl, refl), refl, refl), refl)), (tt, tt)),
      ((lit< tt, tt), tt),
      refl,
      refl,
    ),
    (refl, refl),
    refl,
  ),
  tt,
)

pub division_wrong : NeverWrong division → ⊥
division_wrong h = h 1

pub left_out_types : OcText left_out x_int
left_out_types = (
  11,
  (
    11,
    x_int,
    Empty,
    (
      OneVar x int NoVars,
      (int, inr (tt, (tt, tt)), (0, λ v i l. ((int, refl, ((NoVars, (refl, refl), tt, tt, refl), tt)), refl)), (tt, tt)),
      ((lit< tt, tt), tt),
      refl,
      refl,
    ),
    (refl, refl),
    refl,
  ),
  tt,
)

pub left_out_wrong : NeverWrong left_out → ⊥
left_out_wrong h = h 1

pub confused_types : OcText confused confused_env
confused_types = (
  11,
  (
    11,
    AddCon f (raises None) Empty,
    AddVal x int (AddVal f int Empty),
    (None, refl, refl, refl),
    (
      11,
      AddVal f int Empty,
      x_int,
      (OneVar f int NoVars, (int, inr (tt, (tt, tt)), (0, λ v i l. (refl, refl)), (tt, tt)), ((lit< tt, tt), tt), refl, refl),
      (
        11,
        x_int,
        Empty,
        (
          OneVar x int NoVars,
          (int, inr (tt, (tt, tt)), (0, λ v i l. ((exn, (at_all int, (λ j. tt), refl), (refl, (at_all int, (λ j. tt), refl))), refl)), (tt, tt)),
          ((lit< tt, tt), tt),
          refl,
          refl,
        ),
        (refl, refl),
        refl,
      ),
      refl,
    ),
    refl,
  ),
  tt,
)

pub confused_wrong : NeverWrong confused → ⊥
confused_wrong h = h 1
