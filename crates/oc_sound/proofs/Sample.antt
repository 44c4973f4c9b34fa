-- The small text types, is secure and ordered.
use Rattle.std.proofs.Common.{◌≡◌, ◌⊎◌, ℕ, inl, inr, List, [], ◌∷◌, Some, None, true, false, refl, sym, subst, arith, lit<}
use Rattle.std.specs.Str.{bytes_eq}
use Rattle.std.proofs.lemmas.Slice.Eq.{bytes_eq-Decides}
use Rattle.oc_ast.specs.Plain.{Bytes, PVar, PCon, PAt, PBuild, NoArms, MoreArms, PArms}
use Rattle.oc_typing.specs.Ty.{Ty, Arrow, NoTypes, exn, int, list}
use Rattle.oc_typing.specs.Env.{Empty, AddVal}
use Rattle.oc_typing.specs.Variables.{NoVars, OneVar}
use Rattle.oc_typing.specs.Examples.{A, f, number, val, x, y}
use Rattle.oc_steps.specs.OcSteps.{Agrees, meaning}
use Rattle.oc_steps.specs.Ordered.{Ordered}
use Rattle.oc_typing.specs.OcText.{OcText, predefined}
use Rattle.oc_typing.specs.More.{More}
use Rattle.oc_typing.specs.Ty.{first_stamp}
use Rattle.oc_typing.proofs.Weaken.{items_bind}
use Rattle.oc_sound.proofs.Texts.{runs_as_it_means}
use Rattle.oc_sound.specs.Examples.{B, E, T, entry, exn_env, f_env, h, h_env, sample, sample_env, types_env, y_env}
use Rattle.oc_sound.specs.Secure.{Secure, SomeArm, TakesEach}
use Rattle.oc_sound.specs.Words.{Among, Listed, Variants}
use Rattle.oc_sound.proofs.Total.{TypesTotally, total}

abbrev at_all : Ty → ℕ → Ty
at_all a = λ i. a

total_more : More total predefined
total_more = record { vals = λ v u e. e; cons = λ v c e. e; types = λ v d e. e; mods = λ v b e. absurd (cc e) }

total_types : TypesTotally sample sample_env
total_types = (
  12,
  (
    12,
    types_env,
    AddVal y int (AddVal h (Arrow (list int) int) (AddVal f (Arrow T int) exn_env)),
    (
      11 ∷ [],
      entry ∷ [],
      omega arith,
      (omega arith, lit< tt, (λ i. i), tt),
      ((λ n. 0), (tt, tt)),
      (
        11 ∷ [],
        [],
        entry,
        [],
        (tt, (11, (A, None) ∷ (B, Some int) ∷ [], refl, (None, (B, Some int) ∷ [], refl, (Some int, [], (int, (NoTypes, refl, (refl, refl)), refl), refl, refl), refl), refl)),
        (refl, refl),
        refl,
        refl,
      ),
      refl,
    ),
    (
      12,
      exn_env,
      AddVal y int (AddVal h (Arrow (list int) int) f_env),
      (Some int, (int, (NoTypes, refl, (refl, refl)), refl), refl, refl),
      (
        12,
        f_env,
        AddVal y int h_env,
        (
          OneVar f (Arrow T int) NoVars,
          (
            Arrow T int,
            inl tt,
            (
              0,
              λ v i l. (
                (
                  T,
                  int,
                  OneVar x T NoVars,
                  refl,
                  refl,
                  (tt, tt),
                  (tt, tt),
                  (
                    T,
                    (at_all int, (λ j. tt), refl),
                    (
                      (NoVars, ((refl, (at_all int, (λ j. tt), refl)), refl), tt, tt, refl),
                      (
                        (OneVar y int NoVars, (int, (int, at_all int, (λ j. tt), refl, refl, refl), refl), (tt, tt), (tt, tt), (at_all int, (λ j. tt), refl)),
                        tt,
                      ),
                    ),
                  ),
                ),
                refl,
              ),
            ),
            (tt, tt),
          ),
          (((lit< tt, tt), (lit< tt, tt)), tt),
          refl,
          refl,
        ),
        (
          12,
          h_env,
          y_env,
          (
            OneVar h (Arrow (list int) int) NoVars,
            (
              Arrow (list int) int,
              inl tt,
              (
                0,
                λ v i l. (
                  (
                    list int,
                    int,
                    OneVar x (list int) NoVars,
                    refl,
                    refl,
                    ((tt, tt), tt),
                    (tt, tt),
                    (
                      list int,
                      (at_all int, (λ j. tt), refl),
                      (
                        (
                          NoVars,
                          (int, refl, refl),
                          tt,
                          tt,
                          (exn, (at_all int, (λ j. tt), refl), (int, (int, at_all int, (λ j. tt), refl, refl, refl), refl)),
                        ),
                        (
                          (OneVar y int NoVars, (int, OneVar y int NoVars, NoVars, refl, refl, refl, refl), (tt, tt), (tt, tt), (at_all int, (λ j. tt), refl)),
                          tt,
                        ),
                      ),
                    ),
                  ),
                  refl,
                ),
              ),
              (tt, tt),
            ),
            (((lit< tt, ((lit< tt, tt), tt)), (lit< tt, tt)), tt),
            refl,
            refl,
          ),
          (
            12,
            y_env,
            Empty,
            (
              OneVar y int NoVars,
              (
                int,
                inr (tt, (tt, tt)),
                (
                  0,
                  λ v i l. (
                    (
                      (list int, (at_all int, (λ j. tt), refl), (int, tt, refl)),
                      (
                        (
                          OneVar x int NoVars,
                          (int, (int, at_all int, (λ j. tt), refl, refl, refl), refl),
                          (tt, tt),
                          (tt, tt),
                          (T, (at_all int, (λ j. tt), refl), (int, (int, at_all int, (λ j. tt), refl, refl, refl), (at_all int, (λ j. tt), refl))),
                        ),
                        tt,
                      ),
                    ),
                    refl,
                  ),
                ),
                (tt, tt),
              ),
              ((lit< tt, tt), tt),
              refl,
              refl,
            ),
            (refl, refl),
            refl,
          ),
          refl,
        ),
        refl,
      ),
      refl,
    ),
    refl,
  ),
  (refl, tt),
)

pub sample_types : OcText sample sample_env
sample_types = (total_types.0, items_bind total predefined total_more first_stamp sample total_types.0 sample_env total_types.1, total_types.2)

-- its one type
abbrev kinds : Variants
kinds = (A ∷ B ∷ []) ∷ []

other : (a b : Bytes) → bytes_eq a b ≡ false → a ≡ b → ⊥
other a b e q = clash (sym e) ((bytes_eq-Decides a b).1 q)
  where
    clash : false ≡ bytes_eq a b → bytes_eq a b ≡ true → ⊥
    clash i j = absurd (cc (i, j))

e_unlisted : Listed E kinds → ⊥
e_unlisted l = one l.1
  where
    two : (E ≡ A) ⊎ ((E ≡ B) ⊎ ⊥) → ⊥
    two (inl q) = other E A refl q
    two (inr (inl q)) = other E B refl q
    two (inr (inr q)) = q

    one : (l.0 ≡ (A ∷ B ∷ [])) ⊎ ⊥ → ⊥
    one (inl q) = two (subst (Among E) q l.2)
    one (inr q) = q

abbrev own_arms : PArms
own_arms = MoreArms (PAt (PCon (A ∷ []))) (number 0) (MoreArms (PBuild (B ∷ []) (PVar y)) (val y) NoArms)

both_arms : (v : List Bytes) → Among v kinds → Among A v → (m : Bytes) → Among m v → SomeArm (TakesEach m) own_arms
both_arms v (inl q) a m n = by (subst (Among m) q n)
  where
    by : (m ≡ A) ⊎ ((m ≡ B) ⊎ ⊥) → SomeArm (TakesEach m) own_arms
    by (inl e) = inl (sym e)
    by (inr (inl e)) = inr (inl (sym e, tt))
    by (inr (inr e)) = absurd e
both_arms v (inr q) a m n = absurd q

pub sample_secure : Secure sample
sample_secure = (
  kinds,
  (
    (refl, (tt, tt), (inl refl, ((refl, tt), (tt, tt)), (refl, (refl, tt)), tt)),
    (
      (refl, e_unlisted),
      (
        (tt, refl, (tt, refl, (inr (inr (inr (inl (A, refl, (A ∷ B ∷ [], inl refl, inl refl), inl refl, both_arms)))), tt, (tt, tt, (refl, tt, tt))))),
        (
          (tt, refl, (tt, refl, (inr (inl (inl tt, inr (inl (tt, tt)))), tt, (tt, (tt, tt), ((refl, tt), tt, tt))))),
          ((tt, refl, ((tt, tt), (refl, (tt, tt), tt))), tt),
        ),
      ),
    ),
  ),
  (
    ((tt, ((tt, tt), tt)), tt),
    (
      (tt, tt),
      (
        (tt, (tt, (tt, (tt, tt, ((tt, tt), tt, tt))))),
        ((tt, (tt, (tt, (tt, (tt, (tt, tt)), ((tt, tt), tt, tt))))), ((tt, ((tt, tt), ((tt, tt), (tt, (tt, tt)), tt))), tt)),
      ),
    ),
  ),
)

pub sample_ordered : Ordered sample
sample_ordered = (tt, (tt, ((tt, (tt, (tt, tt))), ((tt, ((inl tt, tt, tt), (tt, tt))), (((inl tt, tt, (tt, tt)), ((inl tt, tt, tt), tt)), tt)))))

pub sample_agrees : Agrees (meaning sample) sample
sample_agrees = runs_as_it_means sample sample_env sample_types sample_secure sample_ordered
