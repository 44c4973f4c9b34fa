-- Small units that type: a datatype with a match, an exception, references.
use Rattle.std.proofs.Common.{rules, ◌≡◌, ◌⊎◌, inl, inr, true, List, [], ◌∷◌, refl, subst, sym, lit≤, lit<}
use Rattle.std.specs.Prelude.{codes, Some, None}
use Rattle.sml_static.specs.declared.mid.MidData.{MidData}
use Rattle.sml_static.specs.declared.ty.Label.{Label}
use Rattle.sml_static.specs.declared.ty.Label.TheVariants as label
use Rattle.sml_static.specs.declared.ty.Ty.{Ty}
use Rattle.sml_static.specs.declared.ty.Ty.TheFolds
use Rattle.mid_typing.specs.Types.{int, pair, ref, type_name, unit}
use Rattle.mid_typing.specs.Env.{Env, Empty, AddLocal, AddVid, Exception, General, named, over, without_locals}
use Rattle.mid_typing.specs.Basis.{a, constructor_scheme, exception_scheme}
use Rattle.mid_typing.specs.Data.{HasSameCons, IsIn, IsNewData, put_datas}
use Rattle.mid_typing.specs.Units.{DatasAgree, IsTyped}
use Rattle.mid_typing.specs.Examples.{E, alone, assigned, data_t, handled, matched, numbering, setting, t}
use Rattle.mid_typing.proofs.Small.{binder, none_agree, one_unit, variable_takes}

-- ---- a datatype with a match

abbrev t_env : Env
t_env = put_datas (data_t ∷ []) Empty

new_t : IsNewData numbering 16 17 data_t
new_t = record {
  cons = (refl, refl);
  drawn = (lit≤ tt, lit< tt);
  numbered = refl;
  arguments = search (rules, TheFolds.the_lemmas);
  equality = λ e. search (rules, TheFolds.the_lemmas);
}

abbrev one_x : Env
one_x = AddLocal 1 (codes "x") (General 0 [] int) Empty

abbrev matched_env : Env
matched_env = over (named one_x) t_env

one_data : (d : MidData) → DatasAgree (d ∷ [])
one_data d = λ e f p q i. by e f p q
  where
    by : (e f : MidData) → ((e ≡ d) ⊎ ⊥) → ((f ≡ d) ⊎ ⊥) → HasSameCons e.cons f.cons
    by e f (inl p) (inl q) = record {
      there = λ c h. subst (λ (m : MidData). IsIn c m.cons) (sym q) (subst (λ (m : MidData). IsIn c m.cons) p h);
      back = λ c h. subst (λ (m : MidData). IsIn c m.cons) (sym p) (subst (λ (m : MidData). IsIn c m.cons) q h);
    }
    by e f (inr p) q = absurd p
    by e f (inl p) (inr q) = absurd q

pub matched_types : IsTyped setting (alone matched) 17 (without_locals matched_env)
matched_types =
    one_unit matched 17 matched_env (
      17,
      t_env,
      named one_x,
      (t_env, (16 ∷ [], inl (new_t, ([], refl, refl)), refl, refl, lit≤ tt), refl, refl),
      (
        17,
        named one_x,
        Empty,
        (
          one_x,
          (
            (
              int,
              binder 1 (codes "x") int ∷ [],
              Empty,
              (
                t,
                (
                  refl,
                  search (rules, TheFolds.the_lemmas),
                  tt,
                  (
                    (
                      [],
                      (
                        refl,
                        search (rules, TheFolds.the_lemmas),
                        (constructor_scheme (type_name 16 0 true) None, (refl, refl), ([], tt, search (rules, TheFolds.the_lemmas))),
                        refl,
                      ),
                      refl,
                    ),
                    (
                      (
                        binder 2 (codes "n") int ∷ [],
                        (
                          int,
                          refl,
                          search (rules, TheFolds.the_lemmas),
                          (constructor_scheme (type_name 16 0 true) (Some int), (refl, refl), ([], tt, search (rules, TheFolds.the_lemmas))),
                          (refl, search (rules, TheFolds.the_lemmas), refl),
                        ),
                        (refl, search (rules, TheFolds.the_lemmas), ([], tt, refl, search (rules, TheFolds.the_lemmas), tt)),
                      ),
                      tt,
                    ),
                  ),
                ),
                (
                  int,
                  (
                    2,
                    refl,
                    search (rules, TheFolds.the_lemmas),
                    (constructor_scheme (type_name 16 0 true) (Some int), (refl, refl), ([], tt, search (rules, TheFolds.the_lemmas))),
                  ),
                  refl,
                ),
              ),
              (refl, search (rules, TheFolds.the_lemmas), refl),
              inl refl,
              record { refutable = λ e. variable_takes 1 (codes "x") int; equality = refl; uses = inl refl },
              refl,
              refl,
            ),
            (tt, tt),
            refl,
          ),
          refl,
          refl,
        ),
        (refl, refl),
        refl,
      ),
      refl,
    )
    refl (one_data data_t)

-- ---- an exception

abbrev e_env : Env
e_env = AddVid E (Exception (exception_scheme (Some int))) Empty

abbrev handled_env : Env
handled_env = over (named one_x) e_env

pub handled_types : IsTyped setting (alone handled) 16 (without_locals handled_env)
handled_types =
    one_unit handled 16 handled_env (
      16,
      e_env,
      named one_x,
      (e_env, (search (rules, TheFolds.the_lemmas), refl, refl), refl, refl),
      (
        16,
        named one_x,
        Empty,
        (
          one_x,
          (
            (
              int,
              binder 1 (codes "x") int ∷ [],
              Empty,
              (
                (
                  refl,
                  search (rules, TheFolds.the_lemmas),
                  (
                    int,
                    (
                      0,
                      refl,
                      search (rules, TheFolds.the_lemmas),
                      (exception_scheme (Some int), (refl, refl), ([], tt, search (rules, TheFolds.the_lemmas))),
                    ),
                    refl,
                  ),
                ),
                tt,
                (
                  (
                    binder 2 (codes "n") int ∷ [],
                    (
                      int,
                      refl,
                      search (rules, TheFolds.the_lemmas),
                      (exception_scheme (Some int), (refl, refl), ([], tt, search (rules, TheFolds.the_lemmas))),
                      (refl, search (rules, TheFolds.the_lemmas), refl),
                    ),
                    (refl, search (rules, TheFolds.the_lemmas), ([], tt, refl, search (rules, TheFolds.the_lemmas), tt)),
                  ),
                  tt,
                ),
              ),
              (refl, search (rules, TheFolds.the_lemmas), refl),
              inl refl,
              record { refutable = λ e. variable_takes 1 (codes "x") int; equality = refl; uses = inl refl },
              refl,
              refl,
            ),
            (tt, tt),
            refl,
          ),
          refl,
          refl,
        ),
        (refl, refl),
        refl,
      ),
      refl,
    )
    refl none_agree

-- ---- references

abbrev r_env : Env
r_env = AddLocal 1 (codes "r") (General 0 [] (ref int)) Empty

abbrev int_cell : List (Label × Ty)
int_cell = (label.Num 1, ref int) ∷ (label.Num 2, int) ∷ []

pub assigned_types : IsTyped setting (alone assigned) 16 (without_locals (named r_env))
assigned_types =
    one_unit assigned 16 (named r_env) (
      16,
      named r_env,
      Empty,
      (
        r_env,
        (
          (
            ref int,
            binder 1 (codes "r") (ref int) ∷ [],
            Empty,
            (
              int,
              (
                1,
                refl,
                search (rules, TheFolds.the_lemmas),
                (
                  constructor_scheme (type_name 7 1 true) (Some a),
                  (refl, refl),
                  (int ∷ [], (tt, tt), search (rules, TheFolds.the_lemmas)),
                ),
              ),
              refl,
            ),
            (refl, search (rules, TheFolds.the_lemmas), refl),
            inl refl,
            record { refutable = λ e. variable_takes 1 (codes "r") (ref int); equality = refl; uses = inl refl },
            refl,
            refl,
          ),
          (tt, tt),
          refl,
        ),
        refl,
        refl,
      ),
      (
        16,
        Empty,
        Empty,
        (
          Empty,
          (
            (
              unit,
              [],
              Empty,
              (
                pair (ref int) int,
                (
                  refl,
                  search (rules, TheFolds.the_lemmas),
                  ((int ∷ [], (tt, tt), search (rules, TheFolds.the_lemmas)), search (rules, TheFolds.the_lemmas), refl),
                ),
                (
                  int_cell,
                  refl,
                  refl,
                  (
                    (refl, search (rules, TheFolds.the_lemmas), (([], tt, search (rules, TheFolds.the_lemmas)), refl, tt)),
                    (refl, tt),
                  ),
                ),
              ),
              (refl, search (rules, TheFolds.the_lemmas), refl),
              inl refl,
              record { refutable = λ e. absurd (cc e); equality = refl; uses = inl refl },
              refl,
              refl,
            ),
            tt,
            refl,
          ),
          refl,
          refl,
        ),
        (refl, refl),
        refl,
      ),
      refl,
    )
    refl none_agree
