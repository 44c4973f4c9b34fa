-- Small units that type: a test with its dictionary, and one unit after another.
use Rattle.std.proofs.Common.{rules, ◌≡◌, inl, ℕ, true, false, Option, List, [], ◌∷◌, refl, subst, sym, ap, lit<, if◌then◌else◌}
use Rattle.std.specs.Prelude.{codes, Some, None}
use Rattle.sml_static.specs.declared.ty.Label.{Label}
use Rattle.sml_static.specs.declared.ty.Label.TheVariants as label
use Rattle.sml_static.specs.declared.ty.Ty.{Ty}
use Rattle.sml_static.specs.declared.ty.Ty.TheFolds
use Rattle.mid_ast.specs.Tree.{Name, Part, NoDicts, MoreDicts}
use Rattle.mid_typing.specs.Types.{bool, int, list, need_dicts, needs_no_dict, pair, string, type_name}
use Rattle.mid_typing.specs.Env.{Env, Vid, Variable, Empty, AddLocal, AddMod, General, vid_at, named, over, without_locals}
use Rattle.mid_typing.specs.Basis.{basis, constructor_scheme, one_type, placed_basis}
use Rattle.mid_typing.specs.Dicts.{DictsFit, Elaborated, Explicit, Placed, Setting, Stage}
use Rattle.mid_typing.specs.MidTypes.{ExpHas, HomeOf, ItemsBind}
use Rattle.mid_typing.specs.Units.{IsTyped}
use Rattle.mid_typing.specs.Examples.{alone, row, at_stage, int_and_string, one_later, one_placed, tested, x_unit, y_unit, empty_list, list_of_int, tested_lists}
use Rattle.mid_typing.proofs.Small.{binder, fixed, none_agree, variable_takes}

-- ---- a test with its dictionary

abbrev int_string : List (Label × Ty)
int_string = (label.Num 1, int) ∷ (label.Num 2, string) ∷ []

abbrev two_pairs : List (Label × Ty)
two_pairs = (label.Num 1, pair int string) ∷ (label.Num 2, pair int string) ∷ []

abbrev b_env : Env
b_env = AddLocal 1 (codes "b") (General 0 [] bool) Empty

pair_needs : need_dicts (pair int string ∷ []) ≡ pair int string ∷ []
pair_needs = ap (λ b. if b then [] else pair int string ∷ []) it_does
  where
    it_does : needs_no_dict (pair int string) ≡ false
    it_does = search (rules, TheFolds.the_lemmas)

dicts_fit : DictsFit Explicit basis [] (MoreDicts int_and_string NoDicts) (pair int string ∷ [])
dicts_fit = ((int_string, refl, ((type_name 0 0 true, refl, refl, lit< tt), ((type_name 3 0 true, refl, refl, lit< tt), tt))), tt)

pub tested_types : IsTyped (at_stage Explicit) (alone tested) 16 (without_locals (named b_env))
tested_types = record {
  names = fixed;
  types = record { binds = (16, named b_env, Empty, items, (refl, refl), refl); binders = refl; datas = none_agree };
}
  where
    items : ItemsBind (at_stage Explicit) 16 basis (row tested) 16 (named b_env)
    items = (
      16,
      named b_env,
      Empty,
      (
        b_env,
        (
          (
            bool,
            binder 1 (codes "b") bool ∷ [],
            Empty,
            (
              pair (pair int string) (pair int string),
              (
                refl,
                search (rules, TheFolds.the_lemmas),
                (
                  (pair int string ∷ [], (search (rules, TheFolds.the_lemmas), tt), search (rules, TheFolds.the_lemmas)),
                  search (rules, TheFolds.the_lemmas),
                  subst (λ ts. DictsFit Explicit basis [] (MoreDicts int_and_string NoDicts) ts) (sym pair_needs) dicts_fit,
                ),
              ),
              (
                two_pairs,
                refl,
                refl,
                ((int_string, refl, refl, (refl, (refl, tt))), ((int_string, refl, refl, (refl, (refl, tt))), tt)),
              ),
            ),
            (refl, search (rules, TheFolds.the_lemmas), refl),
            inl refl,
            record { refutable = λ e. variable_takes 1 (codes "b") bool; equality = refl; uses = inl refl },
            refl,
            refl,
          ),
          (tt, tt),
          refl,
        ),
        refl,
        refl,
      ),
      (refl, refl),
      refl,
    )

-- ---- the same with a written path

abbrev two_lists : List (Label × Ty)
two_lists = (label.Num 1, list int) ∷ (label.Num 2, list int) ∷ []

list_needs : need_dicts (list int ∷ []) ≡ list int ∷ []
list_needs = ap (λ b. if b then [] else list int ∷ []) it_does
  where
    it_does : needs_no_dict (list int) ≡ false
    it_does = search (rules, TheFolds.the_lemmas)

list_fits : DictsFit Placed placed_basis [] (MoreDicts list_of_int NoDicts) (list int ∷ [])
list_fits = ((type_name 6 1 true, int ∷ [], refl, refl, inl refl, ((type_name 0 0 true, refl, refl, lit< tt), tt)), tt)

empty_is_list : ExpHas (at_stage Placed) 16 placed_basis [] empty_list (list int)
empty_is_list = (
  2,
  refl,
  search (rules, TheFolds.the_lemmas),
  (constructor_scheme (type_name 6 1 true) None, (refl, refl), (int ∷ [], (tt, tt), search (rules, TheFolds.the_lemmas))),
)

pub lists_types : IsTyped (at_stage Placed) (alone tested_lists) 16 (AddMod [] (named b_env) Empty)
lists_types = record {
  names = fixed;
  types = record { binds = (16, named b_env, Empty, items, (refl, refl), refl); binders = refl; datas = none_agree };
}
  where
    items : ItemsBind (at_stage Placed) 16 placed_basis (row tested_lists) 16 (named b_env)
    items = (
      16,
      named b_env,
      Empty,
      (
        b_env,
        (
          (
            bool,
            binder 1 (codes "b") bool ∷ [],
            Empty,
            (
              pair (list int) (list int),
              (
                refl,
                search (rules, TheFolds.the_lemmas),
                (
                  (list int ∷ [], (search (rules, TheFolds.the_lemmas), tt), search (rules, TheFolds.the_lemmas)),
                  search (rules, TheFolds.the_lemmas),
                  subst (λ ts. DictsFit Placed placed_basis [] (MoreDicts list_of_int NoDicts) ts) (sym list_needs) list_fits,
                ),
              ),
              (two_lists, refl, refl, (empty_is_list, (empty_is_list, tt))),
            ),
            (refl, search (rules, TheFolds.the_lemmas), refl),
            inl refl,
            record { refutable = λ e. variable_takes 1 (codes "b") bool; equality = refl; uses = inl refl },
            refl,
            refl,
          ),
          (tt, tt),
          refl,
        ),
        refl,
        refl,
      ),
      (refl, refl),
      refl,
    )

-- ---- one unit after another

abbrev one : ℕ → Part → Env
one x n = AddLocal x n (General 0 [] int) Empty

x_binds : (stage : Stage) (g : Env) → ItemsBind (at_stage stage) 16 g x_unit 16 (named (one 1 (codes "x")))
x_binds stage g = (
  16,
  named (one 1 (codes "x")),
  Empty,
  (
    one 1 (codes "x"),
    (
      (
        int,
        binder 1 (codes "x") int ∷ [],
        Empty,
        refl,
        (refl, search (rules, TheFolds.the_lemmas), refl),
        inl refl,
        record { refutable = λ e. variable_takes 1 (codes "x") int; equality = refl; uses = inl refl },
        refl,
        refl,
      ),
      (tt, tt),
      refl,
    ),
    refl,
    refl,
  ),
  (refl, refl),
  refl,
)

abbrev int_variable : Vid
int_variable = Variable (one_type int)

home_int : (s : Setting) (c : ℕ) (g : Env) (v : Option Vid) → v ≡ Some int_variable → HomeOf s c g [] v int NoDicts
home_int s c g v e = subst (λ w. HomeOf s c g [] w int NoDicts) (sym e) (([], tt, search (rules, TheFolds.the_lemmas)), refl, tt)

y_binds : (stage : Stage) (g : Env) (q : Name) → vid_at q g ≡ Some int_variable → ItemsBind (at_stage stage) 16 g (y_unit q) 16 (named (one 1 (codes "y")))
y_binds stage g q e = (
  16,
  named (one 1 (codes "y")),
  Empty,
  (
    one 1 (codes "y"),
    (
      (
        int,
        binder 1 (codes "y") int ∷ [],
        Empty,
        (refl, search (rules, TheFolds.the_lemmas), home_int (at_stage stage) 16 g (vid_at q g) e),
        (refl, search (rules, TheFolds.the_lemmas), refl),
        inl refl,
        record { refutable = λ e. variable_takes 1 (codes "y") int; equality = refl; uses = inl refl },
        refl,
        refl,
      ),
      (tt, tt),
      refl,
    ),
    refl,
    refl,
  ),
  (refl, refl),
  refl,
)

abbrev pub later_env : Env
later_env = over (without_locals (named (one 1 (codes "y")))) (without_locals (named (one 1 (codes "x"))))

pub later_types : IsTyped (at_stage Elaborated) one_later 16 later_env
later_types = record {
  names = fixed;
  types = record {
    binds = (
      16,
      named (one 1 (codes "x")),
      without_locals (named (one 1 (codes "y"))),
      x_binds Elaborated basis,
      (
        16,
        named (one 1 (codes "y")),
        Empty,
        y_binds Elaborated (over (without_locals (named (one 1 (codes "x")))) basis) (codes "x" ∷ []) refl,
        (refl, refl),
        refl,
      ),
      refl,
    );
    binders = refl;
    datas = none_agree;
  };
}

abbrev pub placed_env : Env
placed_env = over (AddMod (codes "U2_b") (named (one 1 (codes "y"))) Empty) (AddMod (codes "U1_a") (named (one 1 (codes "x"))) Empty)

pub placed_types : IsTyped (at_stage Placed) one_placed 16 placed_env
placed_types = record {
  names = fixed;
  types = record {
    binds = (
      16,
      named (one 1 (codes "x")),
      AddMod (codes "U2_b") (named (one 1 (codes "y"))) Empty,
      x_binds Placed placed_basis,
      (
        16,
        named (one 1 (codes "y")),
        Empty,
        y_binds Placed (over (AddMod (codes "U1_a") (named (one 1 (codes "x"))) Empty) placed_basis) (codes "U1_a" ∷ codes "x" ∷ []) refl,
        (refl, refl),
        refl,
      ),
      refl,
    );
    binders = refl;
    datas = none_agree;
  };
}
