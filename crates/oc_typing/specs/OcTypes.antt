-- Which phrases of a text have which types, and what its items bind: let polymorphism with guessed types (the OCaml
-- manual, sections 11.7, 11.8 and 11.11).
use Rattle.std.specs.Prelude.{◌≡◌, ℕ, ◌≤◌, ◌⊎◌, List, [], Option, Some, None, ⊤}
use Rattle.oc_ast.specs.Plain.{PAtom, Const, Val, Con, Nothing, Paren, Tuple, Items, PAtoms, NoAtoms, MoreAtoms, PArms, NoArms, MoreArms, PPat, PFull, Is, LetIn, LetRecIn, LetMod, LetExn, If, Match, Try, While, Then, PItem, Let, LetRec, Types, Exn, ExnAs, Module, Sealed, Functor, PItems, NoItems, MoreItems, PMExp, MAt, Struct, Apply, MSeal, PRBind, Plain, Poly, PRBinds, NoBinds, MoreBinds, PSimple, One, Call, Build, Oper, Fun}
use Rattle.oc_typing.specs.Ty.{Ty, Tys, Arrow, Product, NoTypes, MoreTypes, AtFresh, AtNew, Instance, IsClosed, inst, bool, exn, unit, list}
use Rattle.oc_typing.specs.Env.{ConTy, Env, TyEntry, Empty, AddVal, AddCon, AddType, AddMod, val_at, con_at, mod_at, type_of, mod_of, over}
use Rattle.oc_typing.specs.Variables.{Vars, NoVars, OneVar, VarsClosed, VarsBelow, Differ, inst_vars, put_vars}
use Rattle.oc_typing.specs.Written.{ArgReads, Distinct, Reads}
use Rattle.oc_typing.specs.Definitions.{AreNew, DefsAre, EquationsEnd, put_defs}
use Rattle.oc_typing.specs.Operators.{OperTypes}
use Rattle.oc_typing.specs.Patterns.{ConHas, APatTypes, PatTypes, literal_type}
use Rattle.oc_typing.specs.NonExpansive.{NonExpansive}

abbrev pub ValHas : Option Ty → Ty → Type 0
ValHas None t = ⊥
ValHas (Some u) t = Instance u t

-- an exception: its argument, and exn
abbrev pub raises : Option Ty → ConTy
raises a = record { arg = a; made = exn }

-- what the members of a `let rec` are inside their group: a Poly member its scheme, another one its type
abbrev pub group : (ℕ → Ty) → PRBinds → Vars → Vars
group us (MoreBinds (Plain x e) bs) (OneVar y u cs) = OneVar y (inst us u) (group us bs cs)
group us (MoreBinds (Poly x vs w e) bs) (OneVar y u cs) = OneVar y u (group us bs cs)
group us NoBinds cs = NoVars
group us (MoreBinds b bs) NoVars = NoVars

-- the schemes are those of the group's names, in order, and a Poly member has the one that is written
abbrev pub Named : Env → PRBinds → Vars → Type 0
Named g NoBinds cs = cs ≡ NoVars
Named g (MoreBinds (Plain x e) bs) cs = (u : Ty) × (ds : Vars) × Named g bs ds × (cs ≡ OneVar x u ds)
Named g (MoreBinds (Poly x vs w e) bs) cs = (u : Ty) × (ds : Vars) × Distinct vs × Reads vs g w u × Named g bs ds × (cs ≡ OneVar x u ds)

-- `let p = e` binds bs, where e has the types of Has: if e is non-expansive, the type variables that g does not have are
-- generalised
abbrev pub LetBinds : Env → PPat → Type 0 → (Ty → Type 0) → Vars → Type 0
LetBinds g p Generalises Has bs =
    (u : Ty) × (Generalises ⊎ (IsClosed u × VarsClosed bs)) × AtFresh (λ us. Has (inst us u) × PatTypes g p (inst us u) (inst_vars us bs))
    × Differ bs

-- the group binds bs, where its bodies have the types of Have in an environment
abbrev pub GroupBinds : Env → PRBinds → (Env → Vars → Type 0) → Vars → Type 0
GroupBinds g rs Have bs = Named g rs bs × AtFresh (λ us. Have (put_vars (group us rs bs) g) (group us rs bs)) × Differ bs

-- within one structure no type name and no module name is bound twice
abbrev pub OnceEach : Env → Type 0
OnceEach Empty = ⊤
OnceEach (AddVal x u e) = OnceEach e
OnceEach (AddCon x c e) = OnceEach e
OnceEach (AddType x d e) = (type_of x e ≡ None) × OnceEach e
OnceEach (AddMod x b e) = (mod_of x e ≡ None) × OnceEach e

abbrev mutual
  pub AtomTypes : Env → PAtom → Ty → Type 0
  AtomTypes g (Const l) t = t ≡ literal_type l
  AtomTypes g (Val q) t = ValHas (val_at q g) t
  AtomTypes g (Con q) t = ConHas (con_at q g) None t
  AtomTypes g Nothing t = t ≡ unit
  AtomTypes g (Paren f) t = FullTypes g f t
  AtomTypes g (Tuple a xs) t = (u : Ty) × (us : Tys) × AtomTypes g a u × AtomsType g xs us × (t ≡ Product (MoreTypes u us))
  AtomTypes g (Items xs) t = (u : Ty) × AllType g xs u × (t ≡ list u)

  -- one type for each
  pub AtomsType : Env → PAtoms → Tys → Type 0
  AtomsType g NoAtoms ts = ts ≡ NoTypes
  AtomsType g (MoreAtoms a xs) ts = (u : Ty) × (us : Tys) × AtomTypes g a u × AtomsType g xs us × (ts ≡ MoreTypes u us)

  -- one type for all
  pub AllType : Env → PAtoms → Ty → Type 0
  AllType g NoAtoms t = Unit {0}
  AllType g (MoreAtoms a xs) t = AtomTypes g a t × AllType g xs t

  -- each pattern takes a, and each body is a t
  pub ArmsType : Env → PArms → Ty → Ty → Type 0
  ArmsType g NoArms a t = Unit {0}
  ArmsType g (MoreArms p b arms) a t =
      ((bs : Vars) × PatTypes g p a bs × VarsClosed bs × Differ bs × AtomTypes (put_vars bs g) b t) × ArmsType g arms a t

  pub SimpleTypes : Env → PSimple → Ty → Type 0
  SimpleTypes g (One a) t = AtomTypes g a t
  SimpleTypes g (Call f a) t = (u : Ty) × AtomTypes g f (Arrow u t) × AtomTypes g a u
  SimpleTypes g (Build q a) t = (u : Ty) × ConHas (con_at q g) (Some u) t × AtomTypes g a u
  SimpleTypes g (Oper a o b) t = (u : Ty) × (v : Ty) × OperTypes o u v t × AtomTypes g a u × AtomTypes g b v
  SimpleTypes g (Fun p f) t =
      (a : Ty) × (b : Ty) × (bs : Vars) × (t ≡ Arrow a b) × APatTypes g p a bs × VarsClosed bs × Differ bs × FullTypes (put_vars bs g) f b

  pub FullTypes : Env → PFull → Ty → Type 0
  FullTypes g (Is e) t = SimpleTypes g e t
  FullTypes g (LetIn p e f) t = (bs : Vars) × LetBinds g p (NonExpansive e) (λ u. SimpleTypes g e u) bs × FullTypes (put_vars bs g) f t
  FullTypes g (LetRecIn rs f) t = (bs : Vars) × GroupBinds g rs (λ h ds. BindsType h rs ds) bs × FullTypes (put_vars bs g) f t
  -- the stamps of the items are new, so the type t has none of them
  FullTypes g (LetMod m is f) t = AtNew (λ c. (c2 : ℕ) × (d : Env) × ItemsBind c g is c2 d × OnceEach d × FullTypes (AddMod m d g) f t)
  FullTypes g (LetExn n w f) t = (a : Option Ty) × ArgReads [] g w a × FullTypes (AddCon n (raises a) g) f t
  FullTypes g (If a b c) t = AtomTypes g a bool × AtomTypes g b t × AtomTypes g c t
  FullTypes g (Match a arms) t = (u : Ty) × AtomTypes g a u × ArmsType g arms u t
  FullTypes g (Try a arms) t = AtomTypes g a t × ArmsType g arms exn t
  FullTypes g (While a f) t = AtomTypes g a bool × FullTypes g f unit × (t ≡ unit)
  FullTypes g (Then a f) t = AtomTypes g a unit × FullTypes g f t

  -- the bodies of a group have the types of its members; that of a Poly member is as general as it is written
  pub BindsType : Env → PRBinds → Vars → Type 0
  BindsType g NoBinds bs = Unit {0}
  BindsType g (MoreBinds r rs) NoVars = ⊥
  BindsType g (MoreBinds r rs) (OneVar y t bs) = BindTypes g r t × BindsType g rs bs

  pub BindTypes : Env → PRBind → Ty → Type 0
  BindTypes g (Plain x e) t = SimpleTypes g e t
  BindTypes g (Poly x vs w e) u = AtFresh (λ us. SimpleTypes g e (inst us u))

  -- in g, with stamps from c on and below c2, the item binds d
  pub ItemBinds : ℕ → Env → PItem → ℕ → Env → Type 0
  ItemBinds c g (Let p e) c2 d =
      (bs : Vars) × LetBinds g p (NonExpansive e) (λ u. SimpleTypes g e u) bs × VarsBelow c bs × (c2 ≡ c) × (d ≡ put_vars bs Empty)
  ItemBinds c g (LetRec rs) c2 d =
      (bs : Vars) × GroupBinds g rs (λ h ds. BindsType h rs ds) bs × VarsBelow c bs × (c2 ≡ c) × (d ≡ put_vars bs Empty)
  -- the names of the group are bound in the whole of it
  ItemBinds c g (Types ds) c2 d =
      (ss : List ℕ) × (ts : List TyEntry) × (c ≤ c2) × AreNew c c2 ss × EquationsEnd ds × DefsAre (over (put_defs ds ts Empty) g) ds ss ts
      × (d ≡ put_defs ds ts Empty)
  ItemBinds c g (Exn n w) c2 d = (a : Option Ty) × ArgReads [] g w a × (c2 ≡ c) × (d ≡ AddCon n (raises a) Empty)
  ItemBinds c g (ExnAs n q) c2 d = (a : Option Ty) × (con_at q g ≡ Some (raises a)) × (c2 ≡ c) × (d ≡ AddCon n (raises a) Empty)
  ItemBinds c g (Module m o) c2 d = (b : Env) × ModBinds c g o c2 b × (d ≡ AddMod m b Empty)
  -- no rule yet
  ItemBinds c g (Sealed m s o) c2 d = ⊥
  ItemBinds c g (Functor f x s o) c2 d = ⊥

  -- the items one after another, each in what stands before it
  pub ItemsBind : ℕ → Env → PItems → ℕ → Env → Type 0
  ItemsBind c g NoItems c2 d = (c2 ≡ c) × (d ≡ Empty)
  ItemsBind c g (MoreItems i is) c2 d =
      (c1 : ℕ) × (b : Env) × (r : Env) × ItemBinds c g i c1 b × ItemsBind c1 (over b g) is c2 r × (d ≡ over r b)

  pub ModBinds : ℕ → Env → PMExp → ℕ → Env → Type 0
  ModBinds c g (MAt q) c2 b = (c2 ≡ c) × (mod_at q g ≡ Some b)
  ModBinds c g (Struct is) c2 b = ItemsBind c g is c2 b × OnceEach b
  -- no rule yet
  ModBinds c g (Apply f a) c2 b = ⊥
  ModBinds c g (MSeal m s) c2 b = ⊥
