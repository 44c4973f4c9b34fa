-- When the schemes of a place in a run are those of an environment of a text.
use Rattle.std.specs.Prelude.{◌≡◌, ℕ, zero, suc, ◌<◌, ◌⊎◌, List, [], ◌∷◌, Option, Some, None, true, false}
use Rattle.oc_ast.specs.Plain.{Bytes, Long}
use Rattle.oc_typing.specs.Ty.{Ty, Tys, Bound, Var, Stamped, Arrow, Product, NoTypes, MoreTypes, bool}
use Rattle.oc_typing.specs.Env.{ConTy, Env, TyEntry, Empty, AddVal, AddCon, AddType, AddMod, val_at, con_at}
use Rattle.oc_typing.specs.OcTypes.{raises}
use Rattle.oc_typing.specs.OcText.{constant}
use Rattle.oc_steps.specs.Known.{Known, Nobody, Builds, Raises, Holds}
use Rattle.run_types.specs.Basic.{Basic}
use Rattle.run_types.specs.Types as run
use Rattle.run_types.specs.Types.{Ctx, World, UseAt, NilT, ConsT, TData, TNam, TVar}
use Rattle.runs.specs.Names.{last_part}
use Rattle.oc_sound.specs.Meant.{meant}
use Rattle.oc_sound.specs.Words.{Among, Listed, Variants, capital}

abbrev mutual
  -- its only variables are those that a scheme binds, and these are the first n
  pub HasFirst : ℕ → Ty → Type 0
  HasFirst n (Bound i) = i < n
  HasFirst n (Var i) = ⊥
  HasFirst n (Stamped s ts) = AllHaveFirst n ts
  HasFirst n (Arrow t u) = HasFirst n t × HasFirst n u
  HasFirst n (Product ts) = AllHaveFirst n ts

  pub AllHaveFirst : ℕ → Tys → Type 0
  AllHaveFirst n NoTypes = Unit {0}
  AllHaveFirst n (MoreTypes t ts) = HasFirst n t × AllHaveFirst n ts

abbrev mutual
  -- no variable of the type stands for itself
  pub NoneItself : Ty → Type 0
  NoneItself (Bound i) = Unit {0}
  NoneItself (Var i) = ⊥
  NoneItself (Stamped s ts) = NoneThemselves ts
  NoneItself (Arrow t u) = NoneItself t × NoneItself u
  NoneItself (Product ts) = NoneThemselves ts

  pub NoneThemselves : Tys → Type 0
  NoneThemselves NoTypes = Unit {0}
  NoneThemselves (MoreTypes t ts) = NoneItself t × NoneThemselves ts

-- the argument of a constructor, over n variables
abbrev pub ArgHasFirst : ℕ → Option Ty → Type 0
ArgHasFirst n None = Unit {0}
ArgHasFirst n (Some t) = HasFirst n t

abbrev pub arg_tys : (ℕ → run.Ty) → (ℕ → run.Ty) → Option Ty → run.Tys
arg_tys f b None = NilT
arg_tys f b (Some t) = ConsT (meant f b t) NilT

-- written with variables
abbrev pub written_tys : Option Ty → run.Tys
written_tys a = arg_tys TVar TVar a

-- the first n of them, from i on
abbrev pub row_of : ℕ → ℕ → (ℕ → run.Ty) → run.Tys
row_of zero i b = NilT
row_of (suc n) i b = ConsT (b i) (row_of n (suc i) b)

-- an exception, whose argument has no variables
abbrev pub IsExn : ConTy → Type 0
IsExn c = (a : Option Ty) × (c ≡ raises a) × ArgHasFirst 0 a

-- a constructor that the world has, of a type with n parameters
abbrev pub IsCon : World → Bytes → ConTy → Type 0
IsCon w x c =
    (n : ℕ) × (d : ℕ) × ((f b : ℕ → run.Ty) → meant f b c.made ≡ TData d true (row_of n 0 b)) × ArgHasFirst n c.arg
    × (w.datas d true x ≡ Some (written_tys c.arg))

-- the constructor n with the argument a is in the row
abbrev pub ConIn : Bytes → Option Ty → List (Bytes × Option Ty) → Type 0
ConIn n a [] = ⊥
ConIn n a (c ∷ cs) = ((n ≡ c.0) × (a ≡ c.1)) ⊎ ConIn n a cs

-- a type without variables of its own, whose constructors the world has
abbrev pub EntryFits : World → TyEntry → Type 0
EntryFits w t = NoneItself t.body × ((n : Bytes) (a : Option Ty) → ConIn n a t.cons → IsCon w n (record { arg = a; made = t.body }))

-- the constructors of the environment are exceptions or of the world, as is known of them
abbrev pub Fits : World → Known → Env → Type 0
Fits w k Empty = k ≡ Nobody
Fits w k (AddVal x u g) = Fits w k g
Fits w k (AddCon x c g) = (j : Known) × Fits w j g × (((k ≡ Raises x j) × IsExn c) ⊎ ((k ≡ Builds x j) × IsCon w x c))
Fits w k (AddType x d g) = EntryFits w d × Fits w k g
Fits w k (AddMod m b g) = (i : Known) × (j : Known) × Fits w i b × Fits w j g × (k ≡ Holds m i j)

-- each value of the environment has each instance of its scheme, and each exception its argument, where f are the
-- types of the variables that stand for themselves; exceptions and constructors begin with capital letters, but true and
-- false, and values do not
pub record Serves (f : ℕ → run.Ty) (g : Env) (x : Ctx) : Type 0 where
  pub vals : (q : Long) (u : Ty) → val_at q g ≡ Some u → (b : ℕ → run.Ty) → UseAt (x q) (meant f b u)
  pub exns : (q : Long) (a : Option Ty) → con_at q g ≡ Some (raises a) → UseAt (x q) (TNam (written_tys a))
  pub small : (q : Long) (u : Ty) → val_at q g ≡ Some u → capital (last_part q) ≡ false
  pub large : (q : Long) (c : ConTy) → con_at q g ≡ Some c → (capital (last_part q) ≡ true) ⊎ (c ≡ constant bool)

-- a type of the world with a constructor with a capital letter has the constructors of one of the list, and no others
abbrev pub Closed : Variants → World → Type 0
Closed vs w =
    (d : ℕ) (n : Bytes) (args : run.Tys) → w.datas d true n ≡ Some args → capital n ≡ true
    → (v : List Bytes) × Among v vs × Among n v × ((m : Bytes) (us : run.Tys) → w.datas d true m ≡ Some us → Among m v)

-- no exception that is known has the name of such a constructor
abbrev pub Apart : Variants → Known → Type 0
Apart vs Nobody = Unit {0}
Apart vs (Builds x k) = Apart vs k
Apart vs (Raises x k) = (Listed x vs → ⊥) × Apart vs k
Apart vs (Holds m i k) = Apart vs i × Apart vs k

-- a place in a text, and what is known, bound and read there
pub record Place (w : World) (k : Known) (g : Env) (f : ℕ → run.Ty) (x : Ctx) : Type 0 where
  pub basic : Basic w
  pub fits : Fits w k g
  pub serves : Serves f g x
