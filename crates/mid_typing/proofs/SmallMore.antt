-- Small units that type: an equality function with its dictionary, a structure with a path.
use Rattle.std.proofs.Common.{rules, inl, ℕ, true, List, [], ◌∷◌, refl, lit<}
use Rattle.std.specs.Prelude.{codes}
use Rattle.sml_static.specs.declared.ty.Label.{Label}
use Rattle.sml_static.specs.declared.ty.Label.TheVariants as label
use Rattle.sml_static.specs.declared.ty.Ty.{Ty}
use Rattle.sml_static.specs.declared.ty.Ty.TheFolds
use Rattle.sml_static.specs.declared.ty.VarKind.{VarKind}
use Rattle.sml_static.specs.declared.ty.VarKind.TheVariants as kind
use Rattle.mid_typing.specs.Types.{arrow, bool, int, pair, string, type_name}
use Rattle.mid_typing.specs.Env.{Env, Empty, AddLocal, AddMod, General, named, over, without_locals}
use Rattle.mid_typing.specs.Basis.{basis}
use Rattle.mid_typing.specs.MidTypes.{ItemBinds, Member, members}
use Rattle.mid_typing.specs.Units.{IsTyped}
use Rattle.mid_typing.specs.Examples.{a, aliased, alone, compared, same_item, setting}
use Rattle.mid_typing.proofs.Small.{binder, none_agree, one_unit, variable_takes}

-- ---- an equality function

abbrev equal : ℕ → VarKind
equal v = kind.Equal

abbrev same : Member
same = record { number = 1; name = codes "same"; type = arrow (pair a a) bool; own = 0 ∷ [] }

abbrev same_env : Env
same_env = members equal 0 (same ∷ []) Empty

abbrev two_of : Ty → List (Label × Ty)
two_of u = (label.Num 1, u) ∷ (label.Num 2, u) ∷ []

abbrev int_string : List (Label × Ty)
int_string = (label.Num 1, int) ∷ (label.Num 2, string) ∷ []

same_binds : ItemBinds setting 16 basis same_item 16 (named same_env)
same_binds = (
  same_env,
  (
    equal,
    same ∷ [],
    (
      refl,
      refl,
      refl,
      tt,
      search (rules, TheFolds.the_lemmas),
      (
        refl,
        search (rules, TheFolds.the_lemmas),
        tt,
        (
          (
            binder 2 (codes "x") a ∷ binder 3 (codes "y") a ∷ [],
            (
              two_of a,
              refl,
              refl,
              (
                binder 2 (codes "x") a ∷ [],
                binder 3 (codes "y") a ∷ [],
                (refl, search (rules, TheFolds.the_lemmas), refl),
                (binder 3 (codes "y") a ∷ [], [], (refl, search (rules, TheFolds.the_lemmas), refl), refl, refl),
                refl,
              ),
            ),
            (
              pair a a,
              (
                refl,
                search (rules, TheFolds.the_lemmas),
                (
                  (a ∷ [], (search (rules, TheFolds.the_lemmas), tt), search (rules, TheFolds.the_lemmas)),
                  search (rules, TheFolds.the_lemmas),
                  refl,
                ),
              ),
              (
                two_of a,
                refl,
                refl,
                (
                  (refl, search (rules, TheFolds.the_lemmas), ([], tt, refl, search (rules, TheFolds.the_lemmas), tt)),
                  ((refl, search (rules, TheFolds.the_lemmas), ([], tt, refl, search (rules, TheFolds.the_lemmas), tt)), tt),
                ),
              ),
            ),
          ),
          tt,
        ),
      ),
      tt,
    ),
    refl,
    (tt, tt),
    refl,
  ),
  refl,
  refl,
)

abbrev b_env : Env
b_env = AddLocal 4 (codes "b") (General 0 [] bool) Empty

abbrev compared_env : Env
compared_env = over (named b_env) (named same_env)

pub compared_types : IsTyped setting (alone compared) 16 (without_locals compared_env)
compared_types =
    one_unit compared 16 compared_env (
      16,
      named same_env,
      named b_env,
      same_binds,
      (
        16,
        named b_env,
        Empty,
        (
          b_env,
          (
            (
              bool,
              binder 4 (codes "b") bool ∷ [],
              Empty,
              (
                pair (pair int string) (pair int string),
                (
                  refl,
                  search (rules, TheFolds.the_lemmas),
                  (
                    (pair int string ∷ [], (search (rules, TheFolds.the_lemmas), tt), search (rules, TheFolds.the_lemmas)),
                    search (rules, TheFolds.the_lemmas),
                    (
                      (
                        int_string,
                        refl,
                        (
                          (type_name 0 0 true, refl, refl, lit< tt),
                          ((type_name 3 0 true, refl, refl, lit< tt), tt),
                        ),
                      ),
                      tt,
                    ),
                  ),
                ),
                (
                  two_of (pair int string),
                  refl,
                  refl,
                  ((int_string, refl, refl, (refl, (refl, tt))), ((int_string, refl, refl, (refl, (refl, tt))), tt)),
                ),
              ),
              (refl, search (rules, TheFolds.the_lemmas), refl),
              inl refl,
              record { refutable = λ e. variable_takes 4 (codes "b") bool; equality = refl; uses = inl refl },
              refl,
              refl,
            ),
            (tt, tt),
            refl,
          ),
          refl,
          refl,
        ),
        (refl, refl),
        refl,
      ),
      refl,
    )
    refl none_agree

-- ---- a structure

abbrev x_env : Env
x_env = AddLocal 1 (codes "x") (General 0 [] int) Empty

abbrev y_env : Env
y_env = AddLocal 2 (codes "y") (General 0 [] int) Empty

abbrev aliased_env : Env
aliased_env = over (over (named y_env) (AddMod (codes "T") (named x_env) Empty)) (AddMod (codes "S") (named x_env) Empty)

pub aliased_types : IsTyped setting (alone aliased) 16 (without_locals aliased_env)
aliased_types =
    one_unit aliased 16 aliased_env (
      16,
      AddMod (codes "S") (named x_env) Empty,
      over (named y_env) (AddMod (codes "T") (named x_env) Empty),
      (
        named x_env,
        (
          16,
          named x_env,
          Empty,
          (
            x_env,
            (
              (
                int,
                binder 1 (codes "x") int ∷ [],
                Empty,
                refl,
                (refl, search (rules, TheFolds.the_lemmas), refl),
                inl refl,
                record { refutable = λ e. variable_takes 1 (codes "x") int; equality = refl; uses = inl refl },
                refl,
                refl,
              ),
              (tt, tt),
              refl,
            ),
            refl,
            refl,
          ),
          (refl, refl),
          refl,
        ),
        refl,
      ),
      (
        16,
        AddMod (codes "T") (named x_env) Empty,
        named y_env,
        (named x_env, (refl, refl), refl),
        (
          16,
          named y_env,
          Empty,
          (
            y_env,
            (
              (
                int,
                binder 2 (codes "y") int ∷ [],
                Empty,
                (refl, search (rules, TheFolds.the_lemmas), (([], tt, search (rules, TheFolds.the_lemmas)), refl, tt)),
                (refl, search (rules, TheFolds.the_lemmas), refl),
                inl refl,
                record { refutable = λ e. variable_takes 2 (codes "y") int; equality = refl; uses = inl refl },
                refl,
                refl,
              ),
              (tt, tt),
              refl,
            ),
            refl,
            refl,
          ),
          (refl, refl),
          refl,
        ),
        refl,
      ),
      refl,
    )
    refl none_agree
