-- The types of the written text: let polymorphism with guessed types, for the forms that are written (the OCaml manual, chapters 11.7 to 11.12).
use Rattle.std.specs.Prelude.{◌≡◌, ◌≢◌, ◌⊎◌, ℕ, ◌≤◌, List, [], ◌∷◌, Option, Some, None, if◌then◌else◌, codes}
use Rattle.std.specs.Str.{bytes_eq}
use Rattle.oc_ast.specs.declared.literal.OcLit.{OcLit}
use Rattle.oc_ast.specs.declared.literal.OcLit.TheVariants.{Int, Char, Text}
use Rattle.oc_ast.specs.Plain.{POTy, TAt, TCon, PTDef, Alias, Variant, PPat, PAt, PAPat, Any, PVar, PAtom, Const, Val, Paren, Nothing, Items, PAtoms, NoAtoms, MoreAtoms, PSimple, One, Call, Fun, PFull, Is, PItem, Let, Types, Module, Sealed, Functor, PItems, NoItems, MoreItems, PMExp, Struct}
use Rattle.oc_ast.specs.Plain as tree

mutual
  pub data Ty : Type 0 where
    -- a variable that a scheme binds
    Bound : ℕ → Ty
    -- a variable that stands for itself
    Free : ℕ → Ty
    -- a type name, by its stamp, with its arguments
    Con : ℕ → Tys → Ty
    Arrow : Ty → Ty → Ty
    Tuple : Tys → Ty

  pub data Tys : Type 0 where
    NoTys : Tys
    MoreTys : Ty → Tys → Tys

-- the stamps of the predefined types
abbrev pub int : Ty
int = Con 0 NoTys

abbrev pub char : Ty
char = Con 2 NoTys

abbrev pub string : Ty
string = Con 3 NoTys

abbrev pub unit : Ty
unit = Con 10 NoTys

abbrev pub list : Ty → Ty
list t = Con 6 (MoreTys t NoTys)

abbrev mutual
  -- no variable is bound by a scheme
  pub IsClosed : Ty → Type 0
  IsClosed (Bound i) = ⊥
  IsClosed (Free i) = Unit {0}
  IsClosed (Con s ts) = AllClosed ts
  IsClosed (Arrow a b) = IsClosed a × IsClosed b
  IsClosed (Tuple ts) = AllClosed ts

  pub AllClosed : Tys → Type 0
  AllClosed NoTys = Unit {0}
  AllClosed (MoreTys t ts) = IsClosed t × AllClosed ts

abbrev mutual
  -- a scheme with types for the variables that it binds
  pub inst : (ℕ → Ty) → Ty → Ty
  inst us (Bound i) = us i
  inst us (Free i) = Free i
  inst us (Con s ts) = Con s (inst_all us ts)
  inst us (Arrow a b) = Arrow (inst us a) (inst us b)
  inst us (Tuple ts) = Tuple (inst_all us ts)

  pub inst_all : (ℕ → Ty) → Tys → Tys
  inst_all us NoTys = NoTys
  inst_all us (MoreTys t ts) = MoreTys (inst us t) (inst_all us ts)

-- the type is an instance of the scheme
abbrev pub Instance : Ty → Ty → Type 0
Instance scheme t = (us : ℕ → Ty) × ((i : ℕ) → IsClosed (us i)) × (t ≡ inst us scheme)

-- environments, the last binding first; a scheme is a type that binds its Bound variables
pub data Env : Type 0 where
  Empty : Env
  AddVal : List ℕ → Ty → Env → Env
  -- a type without parameters: what it is
  AddType : List ℕ → Ty → Env → Env
  AddMod : List ℕ → Env → Env → Env

-- the scheme of the value at a path
abbrev pub val_at : List (List ℕ) → Env → Option Ty
val_at path Empty = None
val_at (x ∷ []) (AddVal y u e) = if bytes_eq y x then Some u else val_at (x ∷ []) e
val_at path (AddVal y u e) = val_at path e
val_at path (AddType y u e) = val_at path e
val_at (m ∷ x ∷ path) (AddMod y d e) = if bytes_eq y m then val_at (x ∷ path) d else val_at (m ∷ x ∷ path) e
val_at path (AddMod y d e) = val_at path e

abbrev pub type_at : List ℕ → Env → Option Ty
type_at x Empty = None
type_at x (AddVal y u e) = type_at x e
type_at x (AddType y u e) = if bytes_eq y x then Some u else type_at x e
type_at x (AddMod y d e) = type_at x e

-- d put over e
abbrev pub over : Env → Env → Env
over Empty e = e
over (AddVal y u d) e = AddVal y u (over d e)
over (AddType y u d) e = AddType y u (over d e)
over (AddMod y b d) e = AddMod y b (over d e)

abbrev pub HasInstance : Option Ty → Ty → Type 0
HasInstance None t = ⊥
HasInstance (Some scheme) t = Instance scheme t

abbrev pub LiteralHas : OcLit → Ty → Type 0
LiteralHas (Int z) t = t ≡ int
LiteralHas (Char c) t = t ≡ char
LiteralHas (Text bytes) t = t ≡ string

-- Below, what a form that is not written yet has: no type, so that a text with it does not type.

-- at a type the pattern binds d
abbrev pub APatBinds : PAPat → Ty → Env → Type 0
APatBinds Any t d = d ≡ Empty
APatBinds (PVar x) t d = d ≡ AddVal x t Empty
APatBinds _ t d = ⊥

abbrev pub PatBinds : PPat → Ty → Env → Type 0
PatBinds (PAt p) t d = APatBinds p t d
PatBinds _ t d = ⊥

abbrev mutual
  pub AtomHas : Env → PAtom → Ty → Type 0
  AtomHas g (Const l) t = LiteralHas l t
  AtomHas g (Val path) t = HasInstance (val_at path g) t
  AtomHas g Nothing t = t ≡ unit
  AtomHas g (tree.Tuple a more) t = (u : Ty) × (ts : Tys) × AtomHas g a u × AtomsHave g more ts × (t ≡ Tuple (MoreTys u ts))
  AtomHas g (Items parts) t = (u : Ty) × AllAtomsHave g parts u × (t ≡ list u)
  AtomHas g (tree.Con path) t = ⊥
  AtomHas g (Paren e) t = ⊥

  pub AtomsHave : Env → PAtoms → Tys → Type 0
  AtomsHave g NoAtoms NoTys = Unit {0}
  AtomsHave g (MoreAtoms a more) (MoreTys t ts) = AtomHas g a t × AtomsHave g more ts
  AtomsHave g NoAtoms (MoreTys t ts) = ⊥
  AtomsHave g (MoreAtoms a more) NoTys = ⊥

  pub AllAtomsHave : Env → PAtoms → Ty → Type 0
  AllAtomsHave g NoAtoms u = Unit {0}
  AllAtomsHave g (MoreAtoms a more) u = AtomHas g a u × AllAtomsHave g more u

abbrev mutual
  pub SimpleHas : Env → PSimple → Ty → Type 0
  SimpleHas g (One a) t = AtomHas g a t
  SimpleHas g (Call f a) t = (u : Ty) × AtomHas g f (Arrow u t) × AtomHas g a u
  SimpleHas g (Fun p e) t = (a b : Ty) × IsClosed a × (own : Env) × APatBinds p a own × FullHas (over own g) e b × (t ≡ Arrow a b)
  SimpleHas g _ t = ⊥

  pub FullHas : Env → PFull → Ty → Type 0
  FullHas g (Is e) t = SimpleHas g e t
  FullHas g _ t = ⊥

abbrev mutual
  -- a literal, a path, a function, or a tuple or list of such: what a let may generalise
  pub IsStillAtom : PAtom → Type 0
  IsStillAtom (tree.Tuple a more) = IsStillAtom a × AreStillAtoms more
  IsStillAtom (Items parts) = AreStillAtoms parts
  IsStillAtom (Paren e) = ⊥
  IsStillAtom _ = Unit {0}

  pub AreStillAtoms : PAtoms → Type 0
  AreStillAtoms NoAtoms = Unit {0}
  AreStillAtoms (MoreAtoms a more) = IsStillAtom a × AreStillAtoms more

abbrev pub IsNonExpansive : PSimple → Type 0
IsNonExpansive (One a) = IsStillAtom a
IsNonExpansive (Fun p e) = Unit {0}
IsNonExpansive _ = ⊥

-- P holds at type variables that stand for themselves and differ, from some number on
abbrev pub AtFresh : ((ℕ → Ty) → Type 0) → Type 0
AtFresh P = (k : ℕ) × ((v : ℕ → ℕ) → ((i j : ℕ) → v i ≡ v j → i ≡ j) → ((i : ℕ) → k ≤ v i) → P (λ i. Free (v i)))

-- the item binds no module of this name
abbrev pub LeavesModule : List ℕ → PItem → Type 0
LeavesModule m (Module n e) = m ≢ n
LeavesModule m (Sealed n s e) = m ≢ n
LeavesModule m (Functor n x s e) = m ≢ n
LeavesModule m _ = Unit {0}

-- the definitions define no type of this name
abbrev pub LeaveType : List ℕ → List PTDef → Type 0
LeaveType a [] = Unit {0}
LeaveType a (Alias vs b t ∷ ds) = (a ≢ b) × LeaveType a ds
LeaveType a (Variant vs b t cs ∷ ds) = (a ≢ b) × LeaveType a ds

abbrev pub LeavesType : List ℕ → PItem → Type 0
LeavesType a (Types ds) = LeaveType a ds
LeavesType a _ = Unit {0}

-- the name is not bound again among the items
abbrev pub ModuleNotIn : List ℕ → PItems → Type 0
ModuleNotIn m NoItems = Unit {0}
ModuleNotIn m (MoreItems i rest) = LeavesModule m i × ModuleNotIn m rest

abbrev pub TypeNotIn : List ℕ → PItems → Type 0
TypeNotIn a NoItems = Unit {0}
TypeNotIn a (MoreItems i rest) = LeavesType a i × TypeNotIn a rest

-- the definition of one type without parameters, by the name of a type
abbrev pub TypeIs : Env → POTy → Ty → Type 0
TypeIs g (TAt (TCon tree.NoTys (b ∷ []))) u = type_at b g ≡ Some u
TypeIs g _ u = ⊥

-- the definitions bind d, in the environment g and before these items
abbrev pub DefinitionsBind : Env → List PTDef → PItems → Env → Type 0
DefinitionsBind g (Alias [] a t ∷ []) rest d = (u : Ty) × TypeIs g t u × TypeNotIn a rest × (d ≡ AddType a u Empty)
DefinitionsBind g _ rest d = ⊥

abbrev mutual
  -- in the environment g the items bind d
  pub ItemsBind : Env → PItems → Env → Type 0
  ItemsBind g NoItems d = d ≡ Empty
  ItemsBind g (MoreItems i rest) d =
      (own : Env) × ItemBinds g i rest own
      × (r : Env) × ItemsBind (over own g) rest r × (d ≡ over r own)

  -- in the environment g and before these items the item binds d
  pub ItemBinds : Env → PItem → PItems → Env → Type 0
  ItemBinds g (Let p e) rest d = (u : Ty) × (IsNonExpansive e ⊎ IsClosed u) × AtFresh (λ us. SimpleHas g e (inst us u)) × PatBinds p u d
  ItemBinds g (Types ds) rest d = DefinitionsBind g ds rest d
  ItemBinds g (Module m e) rest d = (b : Env) × ModuleBinds g e b × ModuleNotIn m rest × (d ≡ AddMod m b Empty)
  ItemBinds g _ rest d = ⊥

  -- in the environment g the module has d
  pub ModuleBinds : Env → PMExp → Env → Type 0
  ModuleBinds g (Struct is) d = ItemsBind g is d
  ModuleBinds g _ d = ⊥

-- the predefined names, as far as they are used
abbrev pub predefined : Env
predefined = AddVal (codes "print_string") (Arrow string unit) (AddType (codes "int") int Empty)

-- the text types, and binds d
abbrev pub OcText : PItems → Env → Type 0
OcText text d = ItemsBind predefined text d
