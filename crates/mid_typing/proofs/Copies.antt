-- A datatype and its copy.
use Rattle.std.proofs.Common.{rules, ◌≡◌, ◌⊎◌, inl, inr, ℕ, true, List, [], ◌∷◌, refl, subst, sym, ap, ◌∙◌, lit≤, lit<, arith}
use Rattle.std.specs.Prelude.{codes, None, slice_index}
use Rattle.sml_static.specs.declared.mid.MidData.{MidData}
use Rattle.sml_static.specs.declared.ty.Ty.TheFolds
use Rattle.sml_static.specs.WellFormed as well
use Rattle.mid_typing.specs.Types.{type_name}
use Rattle.mid_typing.specs.Env.{Env, Empty, AddLocal, General, named, over, without_locals}
use Rattle.mid_typing.specs.Basis.{basis, constructor_scheme}
use Rattle.mid_typing.specs.Data.{Con, HasSameCons, IsCopyOf, IsIn, IsNewData, put_datas}
use Rattle.mid_typing.specs.Dicts.{Setting}
use Rattle.mid_typing.specs.MidTypes.{ItemsBind}
use Rattle.mid_typing.specs.Units.{DatasAgree, IsTyped, UnitsType}
use Rattle.mid_typing.specs.Examples.{alone, copied, data_of, numbering, other_copy, row, setting, t}
use Rattle.mid_typing.proofs.Small.{binder, one_unit, variable_takes}

abbrev data_t : MidData
data_t = data_of (codes "t") (codes "A")

abbrev data_u : MidData
data_u = data_of (codes "u") (codes "A")

abbrev t_env : Env
t_env = put_datas (data_t ∷ []) Empty

abbrev u_env : Env
u_env = put_datas (data_u ∷ []) Empty

abbrev x_env : Env
x_env = AddLocal 1 (codes "x") (General 0 [] t) Empty

new_t : IsNewData numbering 16 17 data_t
new_t = record { cons = (refl, refl); drawn = (lit≤ tt, lit< tt); numbered = refl; arguments = refl; equality = λ e. refl }

copy_u : IsCopyOf (over t_env basis) data_u
copy_u = record {
  path = codes "t" ∷ [];
  entry = record { function = well.alone (type_name 16 0 true); cons = (codes "A", None) ∷ [] };
  found = refl;
  function = refl;
  cons = (refl, refl);
  same = record { there = λ c h. h; back = λ c h. h };
}

cons_are : (d : MidData) → IsIn d (data_t ∷ data_u ∷ []) → d.cons ≡ (codes "A", None) ∷ []
cons_are d (inl p) = ap (λ (e : MidData). e.cons) p
cons_are d (inr (inl p)) = ap (λ (e : MidData). e.cons) p
cons_are d (inr (inr p)) = absurd p

same_cons : (cs ds : List Con) → cs ≡ ds → HasSameCons cs ds
same_cons cs ds e = subst (λ l. HasSameCons cs l) e (record { there = λ c h. h; back = λ c h. h })

copies_agree : DatasAgree (data_t ∷ data_u ∷ [])
copies_agree d e p q i = same_cons d.cons e.cons (cons_are d p ∙ sym (cons_are e q))

abbrev pub copied_env : Env
copied_env = over (over (named x_env) u_env) t_env

pub copied_types : IsTyped setting (alone copied) 17 (without_locals copied_env)
copied_types = one_unit copied 17 copied_env items refl copies_agree
  where
    items : ItemsBind setting 16 basis (row copied) 17 copied_env
    items = (
      17,
      t_env,
      over (named x_env) u_env,
      (t_env, (16 ∷ [], inl (new_t, ([], refl, refl)), refl, refl, lit≤ tt), refl, refl),
      (
        17,
        u_env,
        named x_env,
        (u_env, ([], inr (copy_u, refl), refl, refl, lit≤ tt), refl, refl),
        (
          17,
          named x_env,
          Empty,
          (
            x_env,
            (
              (
                t,
                binder 1 (codes "x") t ∷ [],
                Empty,
                (
                  1,
                  refl,
                  search (rules, TheFolds.the_lemmas),
                  (constructor_scheme (type_name 16 0 true) None, (refl, refl), ([], tt, search (rules, TheFolds.the_lemmas))),
                ),
                (refl, search (rules, TheFolds.the_lemmas), refl),
                inl refl,
                record { refutable = λ e. variable_takes 1 (codes "x") t; equality = refl; uses = inl refl },
                refl,
                refl,
              ),
              (tt, tt),
              refl,
            ),
            refl,
            refl,
          ),
          (refl, refl),
          refl,
        ),
        refl,
      ),
      refl,
    )

letters : ◌≡◌ {A = ℕ} 65 66 → ⊥
letters e = omega (arith, e)

pub other_is_refused : (s : Setting) (c : ℕ) (g : Env) (c2 : ℕ) (e : Env) → UnitsType s c g (alone other_copy) c2 e → ⊥
other_is_refused s c g c2 e h =
    by ((h.datas data_t (data_of (codes "u") (codes "B")) (inl refl) (inr (inl refl)) refl).there (codes "A", None) (inl refl))
  where
    by : (◌≡◌ {A = Con} (codes "A", None) (codes "B", None) ⊎ ⊥) → ⊥
    by (inl p) = letters (ap (λ (k : Con). slice_index k.0 0) p)
    by (inr p) = p
