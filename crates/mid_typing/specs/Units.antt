-- Units one after another.
use Rattle.std.specs.Prelude.{◌≡◌, ◌++◌, ℕ, IsTrue, List, [], ◌∷◌}
use Rattle.std.specs.List.{list_all}
use Rattle.mid_ast.specs.declared.item.MidUnit.{MidUnit}
use Rattle.sml_static.specs.declared.mid.MidData.{MidData}
use Rattle.sml_static.specs.WellFormed.{HasFixedNames}
use Rattle.mid_ast.specs.Tree.{Part, Pat, Any, PLit, PVar, PCon, PConOf, PTuple, PLayer, PCell, PFlex, Pats, NoPats, MorePats, Exp, Const, Local, Home, Con, Prim, Tuple, Apply, Fun, Raise, Handle, Let, Exps, NoExps, MoreExps, Rules, NoRules, MoreRules, Dec, Vals, Funs, Datas, Alias, NewExn, SameExn, Decs, NoDecs, MoreDecs, Binds, NoBinds, MoreBinds, Item, Core, Module, NoItem, Items, NoItems, MoreItems, Mod, Body, AtPath, NoMod}
use Rattle.mid_ast.specs.View.{plain_items}
use Rattle.mid_typing.specs.Types.{first_name}
use Rattle.mid_typing.specs.Env.{Env, Empty, AddMod, over, without_locals}
use Rattle.mid_typing.specs.Basis.{basis, placed_basis}
use Rattle.mid_typing.specs.Dicts.{Setting, Stage, Elaborated, Explicit, Placed}
use Rattle.mid_typing.specs.Data.{HasSameCons, IsIn, are_different}
use Rattle.mid_typing.specs.MidTypes.{ItemsBind}

-- ---- the binders and datatypes of a unit

abbrev mutual
  pub binders_in_pat : Pat → List ℕ
  binders_in_pat (Any t) = []
  binders_in_pat (PLit l) = []
  binders_in_pat (PVar x n t) = x ∷ []
  binders_in_pat (PCon q t n) = []
  binders_in_pat (PConOf q t n p) = binders_in_pat p
  binders_in_pat (PTuple ps) = binders_in_pats ps
  binders_in_pat (PLayer x n p) = x ∷ binders_in_pat p
  binders_in_pat (PCell p) = binders_in_pat p
  binders_in_pat PFlex = []

  pub binders_in_pats : Pats → List ℕ
  binders_in_pats NoPats = []
  binders_in_pats (MorePats p ps) = binders_in_pat p ++ binders_in_pats ps

abbrev mutual
  -- the numbers of the binders, each as often as it binds
  pub binders_in : Exp → List ℕ
  binders_in (Const l) = []
  binders_in (Local x t ds) = []
  binders_in (Home q t ds) = []
  binders_in (Con q t) = []
  binders_in (Prim n t ds) = []
  binders_in (Tuple es) = binders_in_exps es
  binders_in (Apply f a) = binders_in f ++ binders_in a
  binders_in (Fun rs a b) = binders_in_rules rs
  binders_in (Raise a t) = binders_in a
  binders_in (Handle a rs) = binders_in a ++ binders_in_rules rs
  binders_in (Let ds a) = binders_in_decs ds ++ binders_in a

  pub binders_in_exps : Exps → List ℕ
  binders_in_exps NoExps = []
  binders_in_exps (MoreExps e es) = binders_in e ++ binders_in_exps es

  pub binders_in_rules : Rules → List ℕ
  binders_in_rules NoRules = []
  binders_in_rules (MoreRules p e rs) = binders_in_pat p ++ binders_in e ++ binders_in_rules rs

  pub binders_in_dec : Dec → List ℕ
  binders_in_dec (Vals bs) = binders_in_binds bs
  binders_in_dec (Funs bs) = binders_in_binds bs
  binders_in_dec (Datas ds) = []
  binders_in_dec (Alias q f) = []
  binders_in_dec (NewExn q a) = []
  binders_in_dec (SameExn q r) = []

  pub binders_in_decs : Decs → List ℕ
  binders_in_decs NoDecs = []
  binders_in_decs (MoreDecs d ds) = binders_in_dec d ++ binders_in_decs ds

  pub binders_in_binds : Binds → List ℕ
  binders_in_binds NoBinds = []
  binders_in_binds (MoreBinds p vars e bs) = binders_in_pat p ++ binders_in e ++ binders_in_binds bs

abbrev mutual
  -- the datatypes, new ones and copies
  pub datas_in : Exp → List MidData
  datas_in (Const l) = []
  datas_in (Local x t ds) = []
  datas_in (Home q t ds) = []
  datas_in (Con q t) = []
  datas_in (Prim n t ds) = []
  datas_in (Tuple es) = datas_in_exps es
  datas_in (Apply f a) = datas_in f ++ datas_in a
  datas_in (Fun rs a b) = datas_in_rules rs
  datas_in (Raise a t) = datas_in a
  datas_in (Handle a rs) = datas_in a ++ datas_in_rules rs
  datas_in (Let ds a) = datas_in_decs ds ++ datas_in a

  pub datas_in_exps : Exps → List MidData
  datas_in_exps NoExps = []
  datas_in_exps (MoreExps e es) = datas_in e ++ datas_in_exps es

  pub datas_in_rules : Rules → List MidData
  datas_in_rules NoRules = []
  datas_in_rules (MoreRules p e rs) = datas_in e ++ datas_in_rules rs

  pub datas_in_dec : Dec → List MidData
  datas_in_dec (Vals bs) = datas_in_binds bs
  datas_in_dec (Funs bs) = datas_in_binds bs
  datas_in_dec (Datas ds) = ds
  datas_in_dec (Alias q f) = []
  datas_in_dec (NewExn q a) = []
  datas_in_dec (SameExn q r) = []

  pub datas_in_decs : Decs → List MidData
  datas_in_decs NoDecs = []
  datas_in_decs (MoreDecs d ds) = datas_in_dec d ++ datas_in_decs ds

  pub datas_in_binds : Binds → List MidData
  datas_in_binds NoBinds = []
  datas_in_binds (MoreBinds p vars e bs) = datas_in e ++ datas_in_binds bs

abbrev mutual
  -- those of structures too
  pub binders_of : Items → List ℕ
  binders_of NoItems = []
  binders_of (MoreItems i is) = binders_of_item i ++ binders_of is

  pub binders_of_item : Item → List ℕ
  binders_of_item (Core d) = binders_in_dec d
  binders_of_item (Module x m) = binders_of_mod m
  binders_of_item NoItem = []

  pub binders_of_mod : Mod → List ℕ
  binders_of_mod (Body is) = binders_of is
  binders_of_mod (AtPath q) = []
  binders_of_mod NoMod = []

abbrev mutual
  pub datas_of : Items → List MidData
  datas_of NoItems = []
  datas_of (MoreItems i is) = datas_of_item i ++ datas_of is

  pub datas_of_item : Item → List MidData
  datas_of_item (Core d) = datas_in_dec d
  datas_of_item (Module x m) = datas_of_mod m
  datas_of_item NoItem = []

  pub datas_of_mod : Mod → List MidData
  datas_of_mod (Body is) = datas_of is
  datas_of_mod (AtPath q) = []
  datas_of_mod NoMod = []

-- ---- units

-- A unit, with the name under which the text has it after the homes are placed.
abbrev pub all_datas : List (Part × Items) → List MidData
all_datas [] = []
all_datas (u ∷ us) = datas_of u.1 ++ all_datas us

-- each number is that of one binder of its unit
abbrev pub BindersDiffer : List (Part × Items) → Type 0
BindersDiffer units = IsTrue (list_all (λ u. are_different (binders_of u.1)) units)

-- two datatypes of one type name have the same constructors with the same types
abbrev pub DatasAgree : List MidData → Type 0
DatasAgree ds = (d e : MidData) → IsIn d ds → IsIn e ds → d.name.id ≡ e.name.id → HasSameCons d.cons e.cons

-- what a unit adds for those after it: what it binds, or the module of its name
abbrev pub added : Stage → Part → Env → Env
added Elaborated x b = without_locals b
added Explicit x b = without_locals b
added Placed x b = AddMod x b Empty

-- in g, where type names below c are drawn, the units bind e one after another, and leave those below c2 drawn
abbrev pub UnitsBind : Setting → ℕ → Env → List (Part × Items) → ℕ → Env → Type 0
UnitsBind s c g [] c2 e = (c2 ≡ c) × (e ≡ Empty)
UnitsBind s c g (u ∷ us) c2 e =
    (c1 : ℕ) × (b : Env) × (r : Env) × ItemsBind s c g u.1 c1 b × UnitsBind s c1 (over (added s.stage u.0 b) g) us c2 r × (e ≡ over r (added s.stage u.0 b))

-- in g the units are rightly typed
pub record UnitsType (s : Setting) (c : ℕ) (g : Env) (units : List (Part × Items)) (c2 : ℕ) (e : Env) : Type 0 where
  pub binds : UnitsBind s c g units c2 e
  pub binders : BindersDiffer units
  pub datas : DatasAgree (all_datas units)

-- the same of declared units
abbrev pub plain_units : List (Part × MidUnit) → List (Part × Items)
plain_units [] = []
plain_units (u ∷ us) = (u.0, plain_items u.1.items) ∷ plain_units us

abbrev pub MidTypes : Setting → ℕ → Env → List (Part × MidUnit) → ℕ → Env → Type 0
MidTypes s c g units c2 e = UnitsType s c g (plain_units units) c2 e

-- what is bound before the first unit
abbrev pub start : Stage → Env
start Elaborated = basis
start Explicit = basis
start Placed = placed_basis

-- a list of units from the initial basis on
pub record IsTyped (s : Setting) (units : List (Part × Items)) (c : ℕ) (e : Env) : Type 0 where
  pub names : HasFixedNames s.names
  pub types : UnitsType s first_name (start s.stage) units c e
