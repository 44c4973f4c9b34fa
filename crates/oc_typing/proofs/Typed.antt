-- Small texts that type: functions, cells and exceptions.
use Rattle.std.proofs.Common.{ℕ, inl, inr, Some, refl, lit<}
use Rattle.std.specs.Prelude.{codes}
use Rattle.oc_typing.specs.Ty.{Ty, Bound, Var, Arrow, Product, NoTypes, MoreTypes, IsClosed, int, bool, exn, unit, ref}
use Rattle.oc_typing.specs.Env.{ConTy, Env, Empty, AddVal, AddCon}
use Rattle.oc_typing.specs.Variables.{NoVars, OneVar}
use Rattle.oc_typing.specs.OcTypes.{FullTypes, raises}
use Rattle.oc_typing.specs.OcText.{OcText}
use Rattle.oc_typing.specs.Examples.{f, x, y, A, twice, cells, handled}

abbrev at_all : Ty → ℕ → Ty
at_all a = λ i. a

-- a name of this type, used at it
abbrev itself : (i : ℕ) → IsClosed (Var i)
itself i = tt

pub twice_types : (g : Env) → FullTypes g twice (Product (MoreTypes int (MoreTypes unit NoTypes)))
twice_types g =
    let s = Arrow (Bound 0) (Bound 0) in (
      OneVar f s NoVars,
      (
        s,
        inl tt,
        (0, λ v i l. ((Var (v 0), Var (v 0), OneVar x (Var (v 0)) NoVars, refl, refl, (tt, tt), (tt, tt), (Var, itself, refl)), refl)),
        (tt, tt),
      ),
      (
        int,
        MoreTypes unit NoTypes,
        (int, (at_all int, (λ i. tt), refl), refl),
        (unit, NoTypes, (unit, (at_all unit, (λ i. tt), refl), refl), refl, refl),
        refl,
      ),
    )

-- cells
abbrev x_cell : Env
x_cell = AddVal x (ref int) Empty

pub cells_type : OcText cells (AddVal y bool (AddVal x (ref int) Empty))
cells_type = (
  11,
  (
    11,
    x_cell,
    AddVal y bool Empty,
    (
      OneVar x (ref int) NoVars,
      (ref int, inr ((tt, tt), ((tt, tt), tt)), (0, λ v i l. ((int, (at_all int, (λ j. tt), refl), refl), refl)), (tt, tt)),
      ((lit< tt, ((lit< tt, tt), tt)), tt),
      refl,
      refl,
    ),
    (
      11,
      Empty,
      AddVal y bool Empty,
      (
        NoVars,
        (unit, inr (tt, tt), (0, λ v i l. ((ref int, int, (refl, refl), (Var, itself, refl), refl), refl)), tt),
        tt,
        refl,
        refl,
      ),
      (
        11,
        AddVal y bool Empty,
        Empty,
        (
          OneVar y bool NoVars,
          (
            bool,
            inr (tt, (tt, tt)),
            (0, λ v i l. ((ref int, ref int, (int, refl, refl, refl), (Var, itself, refl), (Var, itself, refl)), refl)),
            (tt, tt),
          ),
          ((lit< tt, tt), tt),
          refl,
          refl,
        ),
        (refl, refl),
        refl,
      ),
      refl,
    ),
    refl,
  ),
  tt,
)

-- exceptions
abbrev with_int : ConTy
with_int = raises (Some int)

pub handled_type : OcText handled (AddVal f (Arrow int int) (AddCon (codes "B") with_int (AddCon A with_int Empty)))
handled_type = (
  11,
  (
    11,
    AddCon A with_int Empty,
    AddVal f (Arrow int int) (AddCon (codes "B") with_int Empty),
    (Some int, (int, (NoTypes, refl, (refl, refl)), refl), refl, refl),
    (
      11,
      AddCon (codes "B") with_int Empty,
      AddVal f (Arrow int int) Empty,
      (Some int, refl, refl, refl),
      (
        11,
        AddVal f (Arrow int int) Empty,
        Empty,
        (
          OneVar f (Arrow int int) NoVars,
          (
            Arrow int int,
            inl tt,
            (
              0,
              λ v i l. (
                (
                  int,
                  int,
                  OneVar x int NoVars,
                  refl,
                  refl,
                  (tt, tt),
                  (tt, tt),
                  (
                    (
                      exn,
                      (at_all int, (λ j. tt), refl),
                      (int, (int, Var, itself, refl, refl, refl), (Var, itself, refl)),
                    ),
                    (
                      (OneVar y int NoVars, (int, (int, Var, itself, refl, refl, refl), refl), (tt, tt), (tt, tt), (Var, itself, refl)),
                      tt,
                    ),
                  ),
                ),
                refl,
              ),
            ),
            (tt, tt),
          ),
          (((lit< tt, tt), (lit< tt, tt)), tt),
          refl,
          refl,
        ),
        (refl, refl),
        refl,
      ),
      refl,
    ),
    refl,
  ),
  tt,
)
