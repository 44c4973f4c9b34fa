-- Small texts that type: declared types.
use Rattle.std.proofs.Common.{ℕ, suc, ◌<◌, ◌≤◌, inl, [], ◌∷◌, Some, None, refl, arith, lit<, lit≤}
use Rattle.std.specs.Prelude.{codes}
use Rattle.oc_typing.specs.Ty.{Ty, Bound, Var, Stamped, Arrow, Product, NoTypes, MoreTypes, IsClosed, int}
use Rattle.oc_typing.specs.Env.{ConTy, Env, TyEntry, Empty, AddVal, AddCon, AddType, AddMod, over}
use Rattle.oc_typing.specs.Variables.{NoVars, OneVar}
use Rattle.oc_typing.specs.OcTypes.{FullTypes, ItemBinds}
use Rattle.oc_typing.specs.OcText.{OcText, predefined}
use Rattle.oc_typing.specs.Examples.{f, x, y, M, t, u, A, nested, copied, inside, no_circle}

abbrev at_all : Ty → ℕ → Ty
at_all a = λ i. a

-- a name of this type, used at it
abbrev itself : (i : ℕ) → IsClosed (Var i)
itself i = tt

-- a datatype that is not regular, and a function that goes down it
abbrev pair_of : Ty → Ty
pair_of a = Product (MoreTypes a (MoreTypes a NoTypes))

abbrev nest : Ty → Ty
nest a = Stamped 11 (MoreTypes a NoTypes)

abbrev nest_entry : TyEntry
nest_entry = record { arity = 1; body = nest (Bound 0); cons = (A, Some (Bound 0)) ∷ (codes "B", Some (nest (pair_of (Bound 0)))) ∷ [] }

abbrev nest_env : Env
nest_env =
    AddCon (codes "B") (record { arg = Some (nest (pair_of (Bound 0))); made = nest (Bound 0) })
    (AddCon A (record { arg = Some (Bound 0); made = nest (Bound 0) }) (AddType t nest_entry Empty))

abbrev depth_scheme : Ty
depth_scheme = Arrow (nest (Bound 0)) int

pub nested_types : OcText nested (over (AddVal f depth_scheme Empty) nest_env)
nested_types = (
  12,
  (
    12,
    nest_env,
    AddVal f depth_scheme Empty,
    (
      11 ∷ [],
      nest_entry ∷ [],
      lit≤ tt,
      (lit≤ tt, lit< tt, (λ h. h), tt),
      ((λ n. 0), (tt, tt)),
      (
        11 ∷ [],
        [],
        nest_entry,
        [],
        (
          (tt, tt),
          (
            11,
            nest_entry.cons,
            refl,
            (
              Some (Bound 0),
              (codes "B", Some (nest (pair_of (Bound 0)))) ∷ [],
              (Bound 0, (0, refl, refl), refl),
              (
                Some (nest (pair_of (Bound 0))),
                [],
                (
                  nest (pair_of (Bound 0)),
                  (
                    MoreTypes (pair_of (Bound 0)) NoTypes,
                    (
                      pair_of (Bound 0),
                      NoTypes,
                      (Bound 0, MoreTypes (Bound 0) NoTypes, (0, refl, refl), (Bound 0, NoTypes, (0, refl, refl), refl, refl), refl),
                      refl,
                      refl,
                    ),
                    (refl, refl),
                  ),
                  refl,
                ),
                refl,
                refl,
              ),
              refl,
            ),
            refl,
          ),
        ),
        (refl, refl),
        refl,
        refl,
      ),
      refl,
    ),
    (
      12,
      AddVal f depth_scheme Empty,
      Empty,
      (
        OneVar f depth_scheme NoVars,
        (
          (
            depth_scheme,
            NoVars,
            (tt, tt),
            (
              nest (Bound 0),
              int,
              (MoreTypes (Bound 0) NoTypes, (Bound 0, NoTypes, (0, refl, refl), refl, refl), (refl, refl)),
              (NoTypes, refl, (refl, refl)),
              refl,
            ),
            refl,
            refl,
          ),
          (
            0,
            λ v i l. (
              (
                0,
                λ w j k. (
                  nest (Var (w 0)),
                  int,
                  OneVar x (nest (Var (w 0))) NoVars,
                  refl,
                  refl,
                  ((tt, tt), tt),
                  (tt, tt),
                  (
                    nest (Var (w 0)),
                    (Var, itself, refl),
                    (
                      (
                        NoVars,
                        (Var (w 0), (Bound 0, at_all (Var (w 0)), (λ n. tt), refl, refl, refl), refl),
                        tt,
                        tt,
                        refl,
                      ),
                      (
                        (
                          OneVar y (nest (pair_of (Var (w 0)))) NoVars,
                          (
                            nest (pair_of (Var (w 0))),
                            (nest (pair_of (Bound 0)), at_all (Var (w 0)), (λ n. tt), refl, refl, refl),
                            refl,
                          ),
                          (((tt, (tt, tt)), tt), tt),
                          (tt, tt),
                          (
                            nest (pair_of (Var (w 0))),
                            (at_all (pair_of (Var (w 0))), (λ n. (tt, (tt, tt))), refl),
                            (Var, itself, refl),
                          ),
                        ),
                        tt,
                      ),
                    ),
                  ),
                ),
              ),
              tt,
            ),
          ),
          (tt, tt),
        ),
        (((lit< tt, (tt, tt)), (lit< tt, tt)), tt),
        refl,
        refl,
      ),
      (refl, refl),
      refl,
    ),
    refl,
  ),
  (refl, tt),
)

-- a variant that is written with = is the one that it names, also where a later one has its constructors' names
abbrev one_con : ℕ → TyEntry
one_con s = record { arity = 0; body = Stamped s NoTypes; cons = (A, None) ∷ [] }

abbrev con_of_stamp : ℕ → ConTy
con_of_stamp s = record { arg = None; made = Stamped s NoTypes }

abbrev t_env : Env
t_env = AddCon A (con_of_stamp 11) (AddType t (one_con 11) Empty)

abbrev u_env : Env
u_env = AddCon A (con_of_stamp 12) (AddType u (one_con 12) Empty)

abbrev v_env : Env
v_env = AddCon A (con_of_stamp 11) (AddType (codes "v") (one_con 11) Empty)

abbrev m_env : Env
m_env = over (over v_env u_env) t_env

pub copied_type : OcText copied (AddVal x (Stamped 11 NoTypes) (AddMod M m_env Empty))
copied_type = (
  13,
  (
    13,
    AddMod M m_env Empty,
    AddVal x (Stamped 11 NoTypes) Empty,
    (
      m_env,
      (
        (
          12,
          t_env,
          over v_env u_env,
          (
            11 ∷ [],
            one_con 11 ∷ [],
            lit≤ tt,
            (lit≤ tt, lit< tt, (λ h. h), tt),
            ((λ n. 0), (tt, tt)),
            (11 ∷ [], [], one_con 11, [], (tt, (11, (A, None) ∷ [], refl, (None, [], refl, refl, refl), refl)), (refl, refl), refl, refl),
            refl,
          ),
          (
            13,
            u_env,
            v_env,
            (
              12 ∷ [],
              one_con 12 ∷ [],
              lit≤ tt,
              (lit≤ tt, lit< tt, (λ h. h), tt),
              ((λ n. 0), (tt, tt)),
              (12 ∷ [], [], one_con 12, [], (tt, (12, (A, None) ∷ [], refl, (None, [], refl, refl, refl), refl)), (refl, refl), refl, refl),
              refl,
            ),
            (
              13,
              v_env,
              Empty,
              (
                [],
                one_con 11 ∷ [],
                lit≤ tt,
                tt,
                ((λ n. 0), (((λ e. absurd (cc e)), tt), tt)),
                ([], [], one_con 11, [], (tt, refl, (t ∷ [], refl, refl, refl, (None, [], refl, refl, refl))), (refl, refl), refl, refl),
                refl,
              ),
              (refl, refl),
              refl,
            ),
            refl,
          ),
          refl,
        ),
        (refl, (refl, (refl, tt))),
      ),
      refl,
    ),
    (
      13,
      AddVal x (Stamped 11 NoTypes) Empty,
      Empty,
      (
        OneVar x (Stamped 11 NoTypes) NoVars,
        (Stamped 11 NoTypes, inl tt, (0, λ v i l. ((refl, (Var, itself, refl)), refl)), (tt, tt)),
        ((lit< tt, tt), tt),
        refl,
        refl,
      ),
      (refl, refl),
      refl,
    ),
    refl,
  ),
  (refl, tt),
)

-- a local type
less_one : (c : ℕ) → c < suc c
less_one c = omega arith

same_at_most : (c : ℕ) → c ≤ c
same_at_most c = omega arith

one_at_most : (c : ℕ) → c ≤ suc c
one_at_most c = omega arith

pub inside_types : FullTypes predefined inside int
inside_types = (
  0,
  λ c l.
      let d : TyEntry = record { arity = 0; body = Stamped c NoTypes; cons = (A, Some int) ∷ [] } in
      let e : Env = AddCon A (record { arg = Some int; made = Stamped c NoTypes }) (AddType t d Empty) in (
        suc c,
        e,
        (
          suc c,
          e,
          Empty,
          (
            c ∷ [],
            d ∷ [],
            one_at_most c,
            (same_at_most c, less_one c, (λ h. h), tt),
            ((λ n. 0), (tt, tt)),
            (
              c ∷ [],
              [],
              d,
              [],
              (tt, (c, (A, Some int) ∷ [], refl, (Some int, [], (int, (NoTypes, refl, (refl, refl)), refl), refl, refl), refl)),
              (refl, refl),
              refl,
              refl,
            ),
            refl,
          ),
          (refl, refl),
          refl,
        ),
        (refl, tt),
        (
          Stamped c NoTypes,
          (int, (int, Var, itself, refl, refl, refl), refl),
          (
            (OneVar x int NoVars, (int, (int, Var, itself, refl, refl, refl), refl), (tt, tt), (tt, tt), (Var, itself, refl)),
            tt,
          ),
        ),
      ),
)

-- a group in which an alias stands for a variant
pub no_circle_binds : (c : ℕ) (g : Env) → (d : Env) × ItemBinds c g no_circle (suc c) d
no_circle_binds c g =
    let s : Ty = Stamped c NoTypes in
    let k : TyEntry = record { arity = 0; body = s; cons = (A, Some s) ∷ [] } in
    let a : TyEntry = record { arity = 0; body = s; cons = [] } in (
      AddType u a (AddCon A (record { arg = Some s; made = s }) (AddType t k Empty)),
      (
        c ∷ [],
        k ∷ a ∷ [],
        one_at_most c,
        (same_at_most c, less_one c, (λ h. h), tt),
        ((λ n. 0), (tt, (((λ e. absurd (cc e)), tt), tt))),
        (
          c ∷ [],
          [],
          k,
          a ∷ [],
          (tt, (c, (A, Some s) ∷ [], refl, (Some s, [], (s, (NoTypes, refl, (refl, refl)), refl), refl, refl), refl)),
          ([], [], a, [], (tt, refl, (s, (NoTypes, refl, (refl, refl)), refl)), (refl, refl), refl, refl),
          refl,
          refl,
        ),
        refl,
      ),
    )
