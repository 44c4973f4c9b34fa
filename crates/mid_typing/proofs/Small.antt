-- Small units that type.
use Rattle.std.proofs.Common.{rules, ◌≡◌, inl, inr, ℕ, lit≤, true, false, List, [], ◌∷◌, Bool, ◌&&◌, refl}
use Rattle.std.specs.Prelude.{IsTrue, codes}
use Rattle.sml_static.specs.declared.ty.Label.{Label}
use Rattle.sml_static.specs.declared.ty.Label.TheVariants as label
use Rattle.sml_static.specs.declared.ty.Ty.{Ty}
use Rattle.sml_static.specs.declared.ty.Ty.TheFolds
use Rattle.sml_static.specs.declared.ty.VarKind.TheVariants as kind
use Rattle.sml_static.specs.WellFormed.{HasFixedNames}
use Rattle.sml_static.specs.Exhaustive.{IsExhaustive, wild, no_columns}
use Rattle.sml_static.specs.Shapes.{Wild}
use Rattle.mid_ast.specs.Tree.{Part, Item, PVar}
use Rattle.mid_typing.specs.Types.{arrow, int, pair, string}
use Rattle.mid_typing.specs.Env.{Env, Empty, AddLocal, General, named, over, without_locals}
use Rattle.mid_typing.specs.Basis.{basis}
use Rattle.mid_typing.specs.Profile.{TakesAll}
use Rattle.mid_typing.specs.Patterns.{Binder}
use Rattle.mid_typing.specs.Data.{are_different}
use Rattle.mid_typing.specs.MidTypes.{ItemBinds, ItemsBind}
use Rattle.mid_typing.specs.Units.{DatasAgree, IsTyped, all_datas, binders_of}
use Rattle.mid_typing.specs.Examples.{alone, row, numbering, setting, a, identity, at_two, used_twice}

pub fixed : HasFixedNames numbering
fixed = record { arities = refl; equalities = refl }

-- a variable takes all values
takes_all : IsExhaustive (Wild ∷ [])
takes_all names s fits m = absurd (cc m)

pub variable_takes : (x : ℕ) (n : Part) (u : Ty) → TakesAll (PVar x n u)
variable_takes x n u = (takes_all, (0, wild refl (no_columns (search rules)), lit≤ tt))

abbrev identity_env : Env
identity_env = AddLocal 1 (codes "id") (General 0 (kind.Plain ∷ []) (arrow a a)) Empty

abbrev pub binder : ℕ → Part → Ty → Binder
binder x n u = record { number = x; name = n; type = u }

identity_binds : ItemBinds setting 16 basis identity 16 (named identity_env)
identity_binds = (
  identity_env,
  (
    (
      arrow a a,
      binder 1 (codes "id") (arrow a a) ∷ [],
      Empty,
      (
        refl,
        search (rules, TheFolds.the_lemmas),
        tt,
        (
          (
            binder 2 (codes "x") a ∷ [],
            (refl, search (rules, TheFolds.the_lemmas), refl),
            (refl, search (rules, TheFolds.the_lemmas), ([], tt, refl, search (rules, TheFolds.the_lemmas), tt)),
          ),
          tt,
        ),
      ),
      (refl, search (rules, TheFolds.the_lemmas), refl),
      inr tt,
      record { refutable = λ e. variable_takes 1 (codes "id") (arrow a a); equality = refl; uses = inr (inr refl) },
      refl,
      refl,
    ),
    (tt, tt),
    refl,
  ),
  refl,
  refl,
)

-- one unit from the initial basis on
pub one_unit : (is : List Item) (c : ℕ) (b : Env) → ItemsBind setting 16 basis (row is) c b → IsTrue (are_different (binders_of (row is))) → DatasAgree (all_datas (alone is))
    → IsTyped setting (alone is) c (without_locals b)
one_unit is c b h differ agree = record {
  names = fixed;
  types = record { binds = (c, b, Empty, h, (refl, refl), refl); binders = differ_all (are_different (binders_of (row is))) differ; datas = agree };
}
  where
    differ_all : (d : Bool) → d ≡ true → (d && true) ≡ true
    differ_all true e = refl
    differ_all false e = e

-- no datatype
pub none_agree : DatasAgree []
none_agree d e p q i = absurd p

-- ---- a function used at two types

abbrev int_string : List (Label × Ty)
int_string = (label.Num 1, int) ∷ (label.Num 2, string) ∷ []

abbrev y_env : Env
y_env = AddLocal 3 (codes "y") (General 0 [] (pair int string)) Empty

at_two_binds : ItemBinds setting 16 (over (named identity_env) basis) at_two 16 (named y_env)
at_two_binds = (
  y_env,
  (
    (
      pair int string,
      binder 3 (codes "y") (pair int string) ∷ [],
      Empty,
      (
        int_string,
        refl,
        refl,
        (
          (
            int,
            (
              refl,
              search (rules, TheFolds.the_lemmas),
              ((int ∷ [], (tt, tt), search (rules, TheFolds.the_lemmas)), search (rules, TheFolds.the_lemmas), tt),
            ),
            refl,
          ),
          (
            (
              string,
              (
                refl,
                search (rules, TheFolds.the_lemmas),
                ((string ∷ [], (tt, tt), search (rules, TheFolds.the_lemmas)), search (rules, TheFolds.the_lemmas), tt),
              ),
              refl,
            ),
            tt,
          ),
        ),
      ),
      (refl, search (rules, TheFolds.the_lemmas), refl),
      inl refl,
      record { refutable = λ e. variable_takes 3 (codes "y") (pair int string); equality = refl; uses = inl refl },
      refl,
      refl,
    ),
    (tt, tt),
    refl,
  ),
  refl,
  refl,
)

abbrev used_twice_env : Env
used_twice_env = over (over Empty (named y_env)) (named identity_env)

pub used_twice_types : IsTyped setting (alone used_twice) 16 (without_locals used_twice_env)
used_twice_types =
    one_unit used_twice 16 used_twice_env
    (16, named identity_env, named y_env, identity_binds, (16, named y_env, Empty, at_two_binds, (refl, refl), refl), refl)
    refl none_agree
