-- Types of evaluations: what a tree and a value have, in a world of cells, exceptions and datatypes.
use Rattle.std.specs.Prelude.{◌≡◌, ℕ, zero, suc, ◌⊎◌, List, [], ◌∷◌, ◌++◌, length, Option, Some, None, Bool, true, false, if◌then◌else◌, slice_get}
use Rattle.runs.specs.Env.{Env, binds, names}
use Rattle.runs.specs.Names.{Name, Part, same, same_part}
use Rattle.runs.specs.Ordered.{Still}
use Rattle.runs.specs.Patterns.{matched}
use Rattle.runs.specs.Primitives.{St, as_truth, body, cons_part, false_part, nil_part, true_part, unit}
use Rattle.runs.specs.Tree.{Absent, Alias, Applied, Apply, Arith, Arithmetic, Assign, Broken, Build, Case, Char, CharCode, Clo, Compare, Con, Concat, Cons, Const, Datum, Deref, Divide, Drawn, End, Exception, Exn, Exp, Exps, Fail, Fall, Fn, Found, Fun, Functions, FunctorOf, Funs, Group, Identical, InMod, InStruct, Int, Is, Item, Items, LetMod, ListOf, Lit, Loc, Lsl, Lsr, Make, Modulo, Nam, Named, NewExn, Nil, NoFuns, NoVals, Node, Not, Op, Oper, Operator, PAny, PCell, PCon, PExn, PLayer, PLit, PMore, PNil, PTup, PVar, Pair, Pat, Pats, Prim, Primitive, PrintString, Raise, Raises, Rec, Ref, Rule, Rules, Stop, Str, StringOfInt, Struct, StructOf, Stuck, Tag, There, Try, Tup, Val, Vals, Value, Var}

mutual
  pub data Ty : Type 0 where
    TInt : Ty
    TChar : Ty
    TString : Ty
    TTup : Tys → Ty
    TArr : Ty → Ty → Ty
    TRef : Ty → Ty
    TExn : Ty
    -- the name of an exception with arguments of these types
    TNam : Tys → Ty
    -- a type name: its number, and whether it admits equality
    TData : ℕ → Bool → Tys → Ty
    TVar : ℕ → Ty

  pub data Tys : Type 0 where
    NilT : Tys
    ConsT : Ty → Tys → Tys

abbrev pub nth : ℕ → Tys → Ty
nth i NilT = TInt
nth zero (ConsT t ts) = t
nth (suc i) (ConsT t ts) = nth i ts

-- what the type names are: each, with its arguments, is a type
abbrev pub Names : Type 0
Names = ℕ → Bool → Tys → Ty

-- each is itself
abbrev pub plain : Names
plain = λ d b ts. TData d b ts

abbrev mutual
  -- a type with types for its type names and variables
  pub real : Names → (ℕ → Ty) → Ty → Ty
  real r f TInt = TInt
  real r f TChar = TChar
  real r f TString = TString
  real r f (TTup ts) = TTup (real_all r f ts)
  real r f (TArr a c) = TArr (real r f a) (real r f c)
  real r f (TRef t) = TRef (real r f t)
  real r f TExn = TExn
  real r f (TNam ts) = TNam (real_all r f ts)
  real r f (TData d b ts) = r d b (real_all r f ts)
  real r f (TVar i) = f i

  pub real_all : Names → (ℕ → Ty) → Tys → Tys
  real_all r f NilT = NilT
  real_all r f (ConsT t ts) = ConsT (real r f t) (real_all r f ts)

abbrev pub sub : (ℕ → Ty) → Ty → Ty
sub f t = real plain f t

abbrev pub sub_all : (ℕ → Ty) → Tys → Tys
sub_all f ts = real_all plain f ts

-- the types of a list for the first variables
abbrev pub inst_all : Tys → Tys → Tys
inst_all us ts = sub_all (λ i. nth i us) ts

abbrev mutual
  -- the type admits equality, if these variables do
  pub equal_in : (ℕ → Bool) → Ty → Bool
  equal_in e TInt = true
  equal_in e TChar = true
  equal_in e TString = true
  equal_in e (TTup ts) = equal_all_in e ts
  equal_in e (TRef t) = true
  equal_in e (TData d b ts) = if b then equal_all_in e ts else false
  equal_in e (TVar i) = e i
  equal_in e _ = false

  pub equal_all_in : (ℕ → Bool) → Tys → Bool
  equal_all_in e NilT = true
  equal_all_in e (ConsT t ts) = if equal_in e t then equal_all_in e ts else false

abbrev pub no_var : ℕ → Bool
no_var = λ i. false

abbrev pub equal : Ty → Bool
equal t = equal_in no_var t

abbrev pub equal_all : Tys → Bool
equal_all ts = equal_all_in no_var ts

-- what a type variable stands for: any type, or one that admits equality
pub data Kind : Type 0 where
  AnyTy : Kind
  EqTy : Kind

-- types for variables of these kinds, where e says which type variables admit equality
abbrev pub FitsIn : (ℕ → Bool) → List Kind → Tys → Type 0
FitsIn e [] NilT = Unit {0}
FitsIn e (AnyTy ∷ ks) (ConsT u us) = FitsIn e ks us
FitsIn e (EqTy ∷ ks) (ConsT u us) = (equal_in e u ≡ true) × FitsIn e ks us
FitsIn e _ _ = ⊥

abbrev pub Fits : List Kind → Tys → Type 0
Fits ks us = FitsIn no_var ks us

-- types for all variables: the first n by f, and the next ones from the list
abbrev pub vars_by : ℕ → (ℕ → Ty) → Tys → ℕ → Ty
vars_by zero f us i = nth i us
vars_by (suc n) f us zero = f zero
vars_by (suc n) f us (suc i) = vars_by n (λ j. f (suc j)) us i

-- one type; or a type with variables of its own from n on, types f for those before, and types r for the type names
pub data Scheme : Type 0 where
  Mono : Ty → Scheme
  All : ℕ → Names → (ℕ → Ty) → List Kind → Ty → Scheme

-- a variable of this scheme may be used at the type; this asks nothing of the world
abbrev pub UseAt : Option Scheme → Ty → Type 0
UseAt None t = ⊥
UseAt (Some (Mono a)) t = t ≡ a
UseAt (Some (All n r f ks a)) t = (us : Tys) × Fits ks us × (t ≡ real r (vars_by n f us) a)

-- the schemes of variables and paths
abbrev pub Ctx : Type 0
Ctx = Name → Option Scheme

abbrev pub no_ctx : Ctx
no_ctx = λ y. None

-- the first for the names that are bound
abbrev pub join : (Name → Bool) → Ctx → Ctx → Ctx
join bound h g = λ y. if bound y then h y else g y

-- the types of variables that have one type each
abbrev pub Types : Type 0
Types = Name → Option Ty

abbrev pub mono : Option Ty → Option Scheme
mono None = None
mono (Some t) = Some (Mono t)

abbrev pub monos : Types → Ctx
monos c = λ y. mono (c y)

-- a function that stands in no typed tree, and a type at which it may be called
pub record Given : Type 0 where
  pub value : Val
  pub type : Ty

-- the types of cells, the arguments of the exceptions that were drawn, the constructors of each type name with their arguments, and the given functions
pub record World : Type 0 where
  pub cells : List Ty
  pub exns : List Tys
  pub datas : ℕ → Bool → Part → Option Tys
  pub givens : List Given

-- a given function at an instance of its type
pub record IsGiven (w : World) (v : Val) (t : Ty) : Type 0 where
  pub place : ℕ
  pub type : Ty
  pub types : ℕ → Ty
  pub there : slice_get w.givens place ≡ Some (record { value = v; type = type })
  pub instance_of : t ≡ sub types type

abbrev pub unit_ty : Ty
unit_ty = TTup NilT

-- bool is type name 0, and list is type name 1
abbrev pub bool_ty : Ty
bool_ty = TData 0 true NilT

abbrev pub list_ty : Ty → Ty
list_ty a = TData 1 true (ConsT a NilT)

abbrev pub Bools : World → Type 0
Bools w = (w.datas 0 true true_part ≡ Some NilT) × (w.datas 0 true false_part ≡ Some NilT)

abbrev pub Lists : World → Type 0
Lists w = (w.datas 1 true nil_part ≡ Some NilT) × (w.datas 1 true cons_part ≡ Some (ConsT (TVar 0) (ConsT (list_ty (TVar 0)) NilT)))

abbrev pub const_ty : Const → Ty
const_ty (Int i) = TInt
const_ty (Char c) = TChar
const_ty (Str t) = TString

-- an operator on integers that always has a result
abbrev pub total : Arithmetic → Bool
total Divide = false
total Modulo = false
total Lsl = false
total Lsr = false
total _ = true

-- all are of the type
abbrev pub AllOf : Ty → Tys → Type 0
AllOf a NilT = Unit {0}
AllOf a (ConsT t ts) = (t ≡ a) × AllOf a ts

abbrev pub OperTy : World → Operator → Ty → Ty → Ty → Type 0
OperTy w (Arith o) a b t = (total o ≡ true) × (a ≡ TInt) × (b ≡ TInt) × (t ≡ TInt)
OperTy w (Compare o) a b t = (c : Const) × (a ≡ const_ty c) × (b ≡ const_ty c) × (t ≡ bool_ty) × Bools w
OperTy w Concat a b t = (a ≡ TString) × (b ≡ TString) × (t ≡ TString)
OperTy w Identical a b t = (c : Ty) × (a ≡ TRef c) × (b ≡ TRef c) × (t ≡ bool_ty) × Bools w
OperTy w Assign a b t = (a ≡ TRef b) × (t ≡ unit_ty)

-- the types of a row's parts and of what it makes
abbrev pub OpTy : World → Op → Tys → Ty → Type 0
OpTy w Apply ts t = (a : Ty) × (ts ≡ ConsT (TArr a t) (ConsT a NilT))
OpTy w Pair ts t = t ≡ TTup ts
OpTy w (Build k) ts t = (d : ℕ) × (b : Bool) × (us : Tys) × (args : Tys) × (w.datas d b k ≡ Some args) × (ts ≡ inst_all us args) × (t ≡ TData d b us)
OpTy w Make ts t = (args : Tys) × (ts ≡ ConsT (TNam args) args) × (t ≡ TExn)
OpTy w ListOf ts t = (a : Ty) × AllOf a ts × (t ≡ list_ty a) × Lists w
OpTy w (Oper o) ts t = (a : Ty) × (b : Ty) × (ts ≡ ConsT a (ConsT b NilT)) × OperTy w o a b t

-- a predefined function from a to r; those that may have no step have no type of their own
abbrev pub PrimTy : World → Primitive → Vals → Ty → Ty → Type 0
PrimTy w Ref NoVals a r = r ≡ TRef a
PrimTy w Deref NoVals a r = a ≡ TRef r
PrimTy w Raise NoVals a r = a ≡ TExn
PrimTy w Not NoVals a r = (a ≡ bool_ty) × (r ≡ bool_ty) × Bools w
PrimTy w PrintString NoVals a r = (a ≡ TString) × (r ≡ unit_ty)
PrimTy w StringOfInt NoVals a r = (a ≡ TInt) × (r ≡ TString)
PrimTy w CharCode NoVals a r = (a ≡ TChar) × (r ≡ TInt)
PrimTy w _ vs a r = ⊥

abbrev pub HasTag : World → Ctx → Tag → Tys → Type 0
HasTag w g (Named x) ts = UseAt (g x) (TNam ts)
HasTag w g (Drawn k) ts = slice_get w.exns k ≡ Some ts
HasTag w g Broken ts = ⊥

abbrev mutual
  -- the pattern takes each value of its type
  pub Always : Pat → Type 0
  Always PAny = Unit {0}
  Always (PVar x) = Unit {0}
  Always (PTup ps) = AllAlways ps
  Always (PCell p) = Always p
  Always (PLayer x p) = Always p
  Always _ = ⊥

  pub AllAlways : Pats → Type 0
  AllAlways PNil = Unit {0}
  AllAlways (PMore p ps) = Always p × AllAlways ps

-- one of the patterns does
abbrev pub Covers : Rules → Type 0
Covers Stop = ⊥
Covers (Rule p b rs) = Always p ⊎ Covers rs

-- the pattern took the value
abbrev pub Took : Option Env → Type 0
Took None = ⊥
Took (Some b) = Unit {0}

-- one of the rules takes the value
abbrev pub TakesOne : List Val → Rules → Val → Type 0
TakesOne m Stop v = ⊥
TakesOne m (Rule p b rs) v = Took (matched m p v) ⊎ TakesOne m rs v

abbrev mutual
  -- the value has the shape of the type: its constructors are those of the type, down to functions, cells and exceptions
  pub Shaped : World → Val → Ty → Type 0
  Shaped w (Datum n) t = t ≡ const_ty n
  Shaped w (Tup vs) (TTup ts) = AllShaped w vs ts
  Shaped w (Con k vs) (TData d b us) = (args : Tys) × (w.datas d b k ≡ Some args) × AllShaped w vs (inst_all us args)
  Shaped w (Clo f rs) (TArr a r) = Unit {0}
  Shaped w (Rec fs f) (TArr a r) = Unit {0}
  Shaped w (Prim p vs) (TArr a r) = Unit {0}
  Shaped w (Loc l) (TRef t) = Unit {0}
  Shaped w (Nam k) (TNam args) = Unit {0}
  Shaped w (Exn k vs) TExn = Unit {0}
  Shaped w _ _ = ⊥

  pub AllShaped : World → Vals → Tys → Type 0
  AllShaped w NoVals NilT = Unit {0}
  AllShaped w (Item v vs) (ConsT t ts) = Shaped w v t × AllShaped w vs ts
  AllShaped w _ _ = ⊥

-- the rules take each value that has the shape of the type
abbrev pub Whole : World → Ty → Rules → Type 0
Whole w u rs = (m : List Val) (v : Val) → Shaped w v u → TakesOne m rs v

abbrev mutual
  -- the pattern takes values of type u, and c has the types of its variables
  pub HasPat : World → Ctx → Pat → Ty → Types → Type 0
  HasPat w g PAny u c = Unit {0}
  HasPat w g (PVar x) u c = c x ≡ Some u
  HasPat w g (PLit n) u c = u ≡ const_ty n
  HasPat w g (PTup ps) u c = (us : Tys) × (u ≡ TTup us) × HasPats w g ps us c
  HasPat w g (PCon k ps) u c = (d : ℕ) × (b : Bool) × (us : Tys) × (args : Tys) × (w.datas d b k ≡ Some args) × (u ≡ TData d b us) × HasPats w g ps (inst_all us args) c
  HasPat w g (PExn t ps) u c = (args : Tys) × HasTag w g t args × (u ≡ TExn) × HasPats w g ps args c
  HasPat w g (PCell p) u c = (a : Ty) × (u ≡ TRef a) × HasPat w g p a c
  HasPat w g (PLayer x p) u c = (c x ≡ Some u) × HasPat w g p u c

  pub HasPats : World → Ctx → Pats → Tys → Types → Type 0
  HasPats w g PNil NilT c = Unit {0}
  HasPats w g (PMore p ps) (ConsT u us) c = HasPat w g p u c × HasPats w g ps us c
  HasPats w g _ _ c = ⊥

-- the pattern's variables have the schemes h, if the value has all types of A: at each instance of a scheme it has one at which the variable has the instance
abbrev pub Binds : World → Ctx → (Ty → Type 0) → Pat → Ctx → Type 0
Binds w g A p h =
    ((a : Ty) × (c : Types) × A a × HasPat w g p a c)
    × ((x : Name) (u : Ty) → binds p x ≡ true → UseAt (h x) u → (a : Ty) × (c : Types) × A a × HasPat w g p a c × (c x ≡ Some u))

-- the schemes of what can be read at a place, and of what the structure there has so far
pub record ScopeTy : Type 0 where
  pub env : Ctx
  pub own : Ctx

abbrev pub no_scope_ty : ScopeTy
no_scope_ty = record { env = no_ctx; own = no_ctx }

abbrev pub reached_ty : Part → Ctx → Name → Option Scheme → Option Scheme
reached_ty p b [] o = o
reached_ty p b (q ∷ []) o = o
reached_ty p b (q ∷ r ∷ x) o = if same_part p q then b (r ∷ x) else o

-- with the schemes of the structure p
abbrev pub under_ty : Part → Ctx → Ctx → Ctx
under_ty p b g = λ y. reached_ty p b y (g y)

-- with the variables of a pattern, or the functions of a group
abbrev pub joined : (Name → Bool) → Ctx → ScopeTy → ScopeTy
joined bound h c = record { env = join bound h c.env; own = join bound h c.own }

abbrev pub exn_ctx : Tys → Ctx
exn_ctx ts = λ y. Some (Mono (TNam ts))

-- with the values of a structure
abbrev pub with_struct_ty : Part → Ctx → ScopeTy → ScopeTy
with_struct_ty p b c = record { env = under_ty p b c.env; own = under_ty p b c.own }

abbrev pub inside_ty : ScopeTy → ScopeTy
inside_ty c = record { env = c.env; own = no_ctx }

-- each use by h is one by g
abbrev pub Weaker : Ctx → Ctx → Type 0
Weaker h g = (x : Name) (t : Ty) → UseAt (h x) t → UseAt (g x) t

abbrev mutual
  pub Has : World → Ctx → Exp → Ty → Type 0
  Has w g (Is v) t = HasVal w v t
  Has w g (Fail v) t = HasVal w v TExn
  Has w g (Lit n) t = t ≡ const_ty n
  Has w g (Var x) t = UseAt (g x) t
  Has w g (Fn f rs) t = (a : Ty) × (r : Ty) × (t ≡ TArr a r) × HasFall w f rs × HasRules w g (λ u. u ≡ a) rs r
  -- at each instance of a function's scheme all functions have types, one each
  Has w g (Group fs b) t =
      (h : Ctx)
      × ((f : Name) (u : Ty) → names fs f ≡ true → UseAt (h f) u → (c : Types) × (c f ≡ Some u) × HasFuns w (join (names fs) (monos c) g) fs c)
      × Has w (join (names fs) h g) b t
  Has w g (Node op es) t = (ts : Tys) × HasAll w g es ts × OpTy w op ts t
  -- the value has one type; or it is still, and has each type that its tree has; or the rules take each value of its shape
  Has w g (Case f a rs) t =
      (HasFall w f rs
      × (u : Ty)
      × Has w g a u
      × (HasRules w g (λ a1. a1 ≡ u) rs t ⊎ (Still a × HasRules w g (λ a1. Has w g a a1) rs t)))
      ⊎ ((u : Ty) × Whole w u rs × Has w g a u × HasRules w g (λ a1. a1 ≡ u) rs t)
  Has w g (NewExn x b) t = (args : Tys) × Has w (join (same x) (λ y. Some (Mono (TNam args))) g) b t
  Has w g (Try a rs) t = Has w g a t × HasRules w g (λ u. u ≡ TExn) rs t
  -- the structure reads the schemes k: of the values that were put into it, and else of what stands round it
  Has w g (LetMod e p is b) t =
      (k : Ctx)
      × ((x : Name) (u : Ty) → UseAt (k x) u → HasFound w (UseAt (g x) u) u (e x))
      × (d : ScopeTy)
      × HasItems w (record { env = k; own = no_ctx }) is d
      × Has w (under_ty p d.own g) b t
  Has w g (InMod p v b) t = ⊥
  Has w g (StructOf e is) t = ⊥
  Has w g (InStruct v) t = ⊥

  pub HasFound : World → Type 0 → Ty → Found → Type 0
  HasFound w A u Absent = A
  HasFound w A u (There v) = HasVal w v u

  -- after the row the scope has the schemes d
  pub HasItems : World → ScopeTy → Items → ScopeTy → Type 0
  HasItems w c End d = Weaker d.env c.env × Weaker d.own c.own
  HasItems w c (Value f p a is) d =
      HasFall w f (Rule p (Is unit) Stop)
      × (u : Ty)
      × Has w c.env a u
      × (h : Ctx)
      × (Binds w c.env (λ a1. a1 ≡ u) p h ⊎ (Still a × Binds w c.env (λ a1. Has w c.env a a1) p h))
      × HasItems w (joined (binds p) h c) is d
  HasItems w c (Functions fs is) d =
      (h : Ctx)
      × ((f : Name) (u : Ty) → names fs f ≡ true → UseAt (h f) u → (m : Types) × (m f ≡ Some u) × HasFuns w (join (names fs) (monos m) c.env) fs m)
      × HasItems w (joined (names fs) h c) is d
  HasItems w c (Exception x is) d = (args : Tys) × HasItems w (joined (same x) (exn_ctx args) c) is d
  HasItems w c (Alias p x is) d = HasItems w (with_struct_ty p (λ y. c.env (x ++ y)) c) is d
  -- functors are not typed here
  HasItems w c (FunctorOf f x body is) d = ⊥
  HasItems w c (Applied p f a is) d = ⊥
  HasItems w c (Struct p body is) d = (b : ScopeTy) × HasItems w (inside_ty c) body b × HasItems w (with_struct_ty p b.own c) is d

  pub HasAll : World → Ctx → Exps → Tys → Type 0
  HasAll w g Nil NilT = Unit {0}
  HasAll w g (Cons e es) (ConsT t ts) = Has w g e t × HasAll w g es ts
  HasAll w g _ _ = ⊥

  -- what comes where no rule takes the value: an exception, or nothing where one always does
  pub HasFall : World → Fall → Rules → Type 0
  HasFall w Stuck rs = Covers rs
  HasFall w (Raises v) rs = HasVal w v TExn

  -- the rules take values that have all types of A
  pub HasRules : World → Ctx → (Ty → Type 0) → Rules → Ty → Type 0
  HasRules w g A Stop t = Unit {0}
  HasRules w g A (Rule p b rs) t = (h : Ctx) × Binds w g A p h × Has w (join (binds p) h g) b t × HasRules w g A rs t

  pub HasFuns : World → Ctx → Funs → Types → Type 0
  HasFuns w g NoFuns c = Unit {0}
  HasFuns w g (Fun k f rs fs) c = (a : Ty) × (r : Ty) × (c k ≡ Some (TArr a r)) × HasFall w f rs × HasRules w g (λ u. u ≡ a) rs r × HasFuns w g fs c

  pub HasVal : World → Val → Ty → Type 0
  HasVal w (Datum n) t = t ≡ const_ty n
  HasVal w (Tup vs) (TTup ts) = HasVals w vs ts
  HasVal w (Con k vs) (TData d b us) = (args : Tys) × (w.datas d b k ≡ Some args) × HasVals w vs (inst_all us args)
  HasVal w (Clo f rs) (TArr a r) = (HasFall w f rs × HasRules w no_ctx (λ u. u ≡ a) rs r) ⊎ IsGiven w (Clo f rs) (TArr a r)
  HasVal w (Rec fs f) (TArr a r) = (names fs f ≡ true) × (c : Types) × (c f ≡ Some (TArr a r)) × HasFuns w (join (names fs) (monos c) no_ctx) fs c
  HasVal w (Loc l) (TRef t) = slice_get w.cells l ≡ Some t
  HasVal w (Nam k) (TNam args) = slice_get w.exns k ≡ Some args
  HasVal w (Exn k vs) TExn = (args : Tys) × (slice_get w.exns k ≡ Some args) × HasVals w vs args
  HasVal w (Prim p vs) (TArr a r) = PrimTy w p vs a r
  HasVal w _ _ = ⊥

  pub HasVals : World → Vals → Tys → Type 0
  HasVals w NoVals NilT = Unit {0}
  HasVals w (Item v vs) (ConsT t ts) = HasVal w v t × HasVals w vs ts
  HasVals w _ _ = ⊥

-- memory
abbrev pub HoldsAll : World → List Ty → List Val → Type 0
HoldsAll w [] [] = Unit {0}
HoldsAll w (t ∷ ts) (v ∷ vs) = HasVal w v t × HoldsAll w ts vs
HoldsAll w _ _ = ⊥

-- a state of the world: cells and exceptions are as it says, and bool has no constructors but true and false
pub record Holds (w : World) (s : St) : Type 0 where
  pub cells : HoldsAll w w.cells s.mem
  pub exns : length w.exns ≡ length s.exns
  pub bools : (c : Part) (args : Tys) → w.datas 0 true c ≡ Some args → (args ≡ NilT) × (b : Bool) × (as_truth c ≡ Some b)

-- before a text runs
abbrev pub start_world : (ℕ → Bool → Part → Option Tys) → List Given → World
start_world datas givens = record { cells = []; exns = []; datas = datas; givens = givens }

-- a variable's value, or its type outside
abbrev pub At : World → Option Scheme → Ty → Option Val → Type 0
At w d t None = UseAt d t
At w d t (Some v) = HasVal w v t

-- the values of variables have each instance of the schemes
abbrev pub Puts : World → Ctx → Ctx → Env → Type 0
Puts w g d env = (x : Name) (t : Ty) → UseAt (g x) t → At w (d x) t (env x)
