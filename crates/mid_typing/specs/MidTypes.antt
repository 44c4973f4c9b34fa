-- Which phrases of a middle tree are rightly typed, and what declarations and items bind: the Definition, chapters 4 and 5,
-- on trees whose types, binders, paths and dictionaries are written out.
use Rattle.std.specs.Prelude.{decimal, ◌≡◌, ◌⊎◌, ◌≤◌, ◌++◌, ℕ, suc, nat_eq, Bool, true, false, IsTrue, List, [], ◌∷◌, map, length, replicate, Option, Some, None, if◌then◌else◌}
use Rattle.std.specs.List.{list_all}
use Rattle.tl_text.specs.Pairs.{seconds}
use Rattle.sml_static.specs.declared.ty.Label.{Label}
use Rattle.sml_static.specs.declared.ty.Scheme.{Scheme}
use Rattle.sml_static.specs.declared.ty.Ty.{Ty}
use Rattle.sml_static.specs.declared.ty.Ty.TheVariants as ty
use Rattle.sml_static.specs.declared.ty.TyName.{TyName}
use Rattle.sml_static.specs.declared.ty.VarKind.{VarKind}
use Rattle.sml_static.specs.declared.ty.VarKind.TheVariants as kind
use Rattle.sml_static.specs.Labels.{labels, is_increasing}
use Rattle.sml_static.specs.Schemes.{IsInstance, MayStandForAll}
use Rattle.sml_static.specs.Types.{applied}
use Rattle.sml_static.specs.WellFormed.{Numbering, are_distinct, is_numbered}
use Rattle.mid_ast.specs.Tree.{Part, Dicts, PVar, Exp, Const, Local, Home, Con, Prim, Tuple, Apply, Fun, Raise, Handle, Let, Exps, NoExps, MoreExps, Rules, NoRules, MoreRules, Dec, Vals, Funs, Datas, Alias, NewExn, SameExn, Decs, NoDecs, MoreDecs, Binds, NoBinds, MoreBinds, Item, Core, Module, NoItem, Items, NoItems, MoreItems, Mod, Body, AtPath, NoMod}
use Rattle.mid_typing.specs.Types.{IsTypeAt, is_type_at, arrow, equal_args, exn, kind_at, literal_type, no_free, variables}
use Rattle.mid_typing.specs.Env.{is_equality_name, Env, Empty, AddLocal, AddVid, AddType, AddMod, Entry, General, Within, Vid, Variable, Constructor, Exception, local_at, mod_at, named, names_in, over, vid_at}
use Rattle.mid_typing.specs.Basis.{exception_scheme, prim_scheme}
use Rattle.mid_typing.specs.Dicts.{Setting, DictsFit, PrimDicts, equality_type}
use Rattle.mid_typing.specs.Patterns.{Binder, ConHas, PatHas, put_binders}
use Rattle.mid_typing.specs.NonExpansive.{NonExpansive}
use Rattle.mid_typing.specs.Profile.{IsAllowed}
use Rattle.mid_typing.specs.Data.{DatasAre, is_argument, are_different, put_datas}

-- ---- uses of variables and primitives

-- they are types here
abbrev pub AreTypesAt : Setting → ℕ → List VarKind → List Ty → Type 0
AreTypesAt s c ks args = IsTrue (list_all (is_type_at s.names c (length ks)) args)

-- A use of a binder at a type, with these dictionaries: the variables of the bindings round it stay, and types stand for
-- its own. Inside its own group of functions a binder has one type.
abbrev pub UseOf : Setting → ℕ → Env → List VarKind → Option Entry → Ty → Dicts → Type 0
UseOf s c g ks None t ds = ⊥
UseOf s c g ks (Some (General n vars body)) t ds =
    (args : List Ty) × MayStandForAll no_free (kind_at ks) vars args × AreTypesAt s c ks args × (t ≡ applied (variables 0 n ++ args) body)
    × DictsFit s.stage g ks ds (equal_args vars args)
UseOf s c g ks (Some (Within u us)) t ds = (t ≡ u) × DictsFit s.stage g ks ds us

-- of a variable at structure level: an instance of its scheme
abbrev pub HomeOf : Setting → ℕ → Env → List VarKind → Option Vid → Ty → Dicts → Type 0
HomeOf s c g ks None t ds = ⊥
HomeOf s c g ks (Some (Variable scheme)) t ds =
    (i : IsInstance no_free (kind_at ks) scheme t) × AreTypesAt s c ks i.0 × DictsFit s.stage g ks ds (equal_args scheme.vars i.0)
HomeOf s c g ks (Some (Constructor n scheme)) t ds = ⊥
HomeOf s c g ks (Some (Exception scheme)) t ds = ⊥

-- of a row of the initial basis
abbrev pub PrimOf : Setting → ℕ → Env → List VarKind → Option Scheme → Ty → Dicts → Type 0
PrimOf s c g ks None t ds = ⊥
PrimOf s c g ks (Some scheme) t ds =
    (i : IsInstance no_free (kind_at ks) scheme t) × AreTypesAt s c ks i.0 × PrimDicts s.stage g ks ds (equal_args scheme.vars i.0)

-- ---- groups of functions

-- A member of a group: its binder, its identifier, its type, and which of the group's type variables are its own.
pub record Member : Type 0 where
  pub number : ℕ
  pub name : Part
  pub type : Ty
  pub own : List ℕ

-- A type variable of the group as a member with these own ones has it, from n on. One that is not its own is not known
-- there, so that nothing is used at it.
abbrev pub seen : ℕ → List ℕ → ℕ → Ty
seen n [] v = ty.Free v
seen n (u ∷ us) v = if nat_eq u v then ty.Bound n else seen (suc n) us v

-- inside a member with these own variables, the members have one type each
abbrev pub within : (ℕ → VarKind) → ℕ → List ℕ → List Member → Env → Env
within group n own [] g = g
within group n own (m ∷ ms) g =
    let us : List Ty = map (seen n own) m.own in
    AddLocal m.number m.name (Within (applied (variables 0 n ++ us) m.type) (equal_args (map group m.own) us)) (within group n own ms g)

-- outside the group each is generalised
abbrev pub members : (ℕ → VarKind) → ℕ → List Member → Env → Env
members group n [] e = e
members group n (m ∷ ms) e = AddLocal m.number m.name (General n (map group m.own) m.type) (members group n ms e)

-- the right side is a function
abbrev pub IsFun : Exp → Type 0
IsFun (Fun rs a b) = Unit {0}
IsFun (Const l) = ⊥
IsFun (Local x t ds) = ⊥
IsFun (Home q t ds) = ⊥
IsFun (Con q t) = ⊥
IsFun (Prim n t ds) = ⊥
IsFun (Tuple es) = ⊥
IsFun (Apply f a) = ⊥
IsFun (Raise a t) = ⊥
IsFun (Handle a rs) = ⊥
IsFun (Let ds a) = ⊥

-- a match has a rule
abbrev pub HasRule : Rules → Type 0
HasRule NoRules = ⊥
HasRule (MoreRules p e rs) = Unit {0}

-- ---- binders

-- the digits are the number of a type name, and the binder is an equality function of it
abbrev pub IsEqualityOf : Numbering → ℕ → List ℕ → Entry → Type 0
IsEqualityOf names n digits v =
    (name : TyName) × IsTrue (is_numbered names name) × (digits ≡ decimal name.id)
    × (v ≡ General n (replicate name.arity kind.Equal) (equality_type n name))

abbrev pub Where : Bool → Type 0 → Type 0
Where true P = P
Where false P = Unit {0}

-- a binder whose identifier is `=` and a number is the equality function of the type name of that number
abbrev pub IsNamedRightly : Numbering → ℕ → Part → Entry → Type 0
IsNamedRightly names n [] v = Unit {0}
IsNamedRightly names n (b ∷ []) v = Unit {0}
IsNamedRightly names n (b ∷ d ∷ x) v = Where (is_equality_name b d) (IsEqualityOf names n (d ∷ x) v)

-- so is each binder of an environment
abbrev pub AreNamedRightly : Numbering → ℕ → Env → Type 0
AreNamedRightly names n Empty = Unit {0}
AreNamedRightly names n (AddLocal x y v e) = IsNamedRightly names n y v × AreNamedRightly names n e
AreNamedRightly names n (AddVid p v e) = AreNamedRightly names n e
AreNamedRightly names n (AddType p t e) = AreNamedRightly names n e
AreNamedRightly names n (AddMod m b e) = AreNamedRightly names n e

-- ---- the rules

abbrev mutual
  -- In g, where type names below c are drawn and type variables of these kinds are in scope, the expression has the type.
  pub ExpHas : Setting → ℕ → Env → List VarKind → Exp → Ty → Type 0
  ExpHas s c g ks (Const l) t = t ≡ literal_type l
  ExpHas s c g ks (Local x w ds) t = (t ≡ w) × IsTypeAt s.names c (length ks) w × UseOf s c g ks (local_at x g) w ds
  ExpHas s c g ks (Home q w ds) t = (t ≡ w) × IsTypeAt s.names c (length ks) w × HomeOf s c g ks (vid_at q g) w ds
  ExpHas s c g ks (Con q w) t = (n : ℕ) × (t ≡ w) × IsTypeAt s.names c (length ks) w × ConHas ks (vid_at q g) n w
  ExpHas s c g ks (Prim n w ds) t = (t ≡ w) × IsTypeAt s.names c (length ks) w × PrimOf s c g ks (prim_scheme n) w ds
  ExpHas s c g ks (Tuple es) t =
      (fields : List (Label × Ty)) × (t ≡ ty.Fields fields) × IsTrue (is_increasing (labels fields)) × AllHave s c g ks es (seconds fields)
  ExpHas s c g ks (Apply f a) t = (u : Ty) × ExpHas s c g ks f (arrow u t) × ExpHas s c g ks a u
  ExpHas s c g ks (Fun rs a b) t = (t ≡ arrow a b) × IsTypeAt s.names c (length ks) t × HasRule rs × RulesHave s c g ks rs a b
  ExpHas s c g ks (Raise a w) t = (t ≡ w) × IsTypeAt s.names c (length ks) w × ExpHas s c g ks a exn
  ExpHas s c g ks (Handle a rs) t = ExpHas s c g ks a t × HasRule rs × RulesHave s c g ks rs exn t
  -- the type of the whole has no type name that is made inside
  ExpHas s c g ks (Let ds a) t =
      (c2 : ℕ) × (h : Env) × DecsBind s c g ks ds c2 h × ExpHas s c2 (over h g) ks a t × IsTypeAt s.names c (length ks) t

  -- one type for each
  pub AllHave : Setting → ℕ → Env → List VarKind → Exps → List Ty → Type 0
  AllHave s c g ks NoExps [] = Unit {0}
  AllHave s c g ks NoExps (t ∷ ts) = ⊥
  AllHave s c g ks (MoreExps e es) [] = ⊥
  AllHave s c g ks (MoreExps e es) (t ∷ ts) = ExpHas s c g ks e t × AllHave s c g ks es ts

  -- each pattern takes values of the type a, and each right side is a t
  pub RulesHave : Setting → ℕ → Env → List VarKind → Rules → Ty → Ty → Type 0
  RulesHave s c g ks NoRules a t = Unit {0}
  RulesHave s c g ks (MoreRules p e rs) a t =
      ((bs : List Binder) × PatHas s c g ks p a bs × ExpHas s c (put_binders (length ks) [] bs g) ks e t) × RulesHave s c g ks rs a t

  -- the declaration binds h, and leaves the type names below c2 drawn
  pub DecBinds : Setting → ℕ → Env → List VarKind → Dec → ℕ → Env → Type 0
  DecBinds s c g ks (Vals bs) c2 h = BindsHave s c g ks bs h × AreNamedRightly s.names (length ks) h × (c2 ≡ c)
  DecBinds s c g ks (Funs bs) c2 h =
      (group : ℕ → VarKind) × (ms : List Member) × MembersHave s c g ks group ms bs ms × (h ≡ members group (length ks) ms Empty)
      × AreNamedRightly s.names (length ks) h × (c2 ≡ c)
  -- the names of a row of datatypes are drawn in the whole of it
  DecBinds s c g ks (Datas ds) c2 h =
      (news : List ℕ) × DatasAre s.names c c2 g ds news × IsTrue (are_different news) × (h ≡ put_datas ds Empty) × (c ≤ c2)
  DecBinds s c g ks (Alias q f) c2 h =
      IsTypeAt s.names c f.arity f.body × (h ≡ AddType q (record { function = f; cons = [] }) Empty) × (c2 ≡ c)
  -- the type of an exception has no type variable
  DecBinds s c g ks (NewExn q a) c2 h = IsTrue (is_argument s.names c 0 a) × (h ≡ AddVid q (Exception (exception_scheme a)) Empty) × (c2 ≡ c)
  DecBinds s c g ks (SameExn q r) c2 h =
      (scheme : Scheme) × (vid_at r g ≡ Some (Exception scheme)) × (h ≡ AddVid q (Exception scheme) Empty) × (c2 ≡ c)

  -- Each right side is typed before the bindings, with its own type variables in scope. What is generalised is not
  -- expansive, and the profile allows the binding.
  pub BindsHave : Setting → ℕ → Env → List VarKind → Binds → Env → Type 0
  BindsHave s c g ks NoBinds h = h ≡ Empty
  BindsHave s c g ks (MoreBinds p vars e more) h =
      (t : Ty) × (bs : List Binder) × (r : Env) × ExpHas s c g (ks ++ vars) e t × PatHas s c g (ks ++ vars) p t bs
      × ((vars ≡ []) ⊎ NonExpansive e) × IsAllowed g ks p vars e bs × BindsHave s c g ks more r
      × (h ≡ put_binders (length ks) vars bs r)

  -- Each member of the group is one variable and a function, typed where all members have one type each.
  pub MembersHave : Setting → ℕ → Env → List VarKind → (ℕ → VarKind) → List Member → Binds → List Member → Type 0
  MembersHave s c g ks group all NoBinds [] = Unit {0}
  MembersHave s c g ks group all NoBinds (m ∷ ms) = ⊥
  MembersHave s c g ks group all (MoreBinds p vars e more) [] = ⊥
  MembersHave s c g ks group all (MoreBinds p vars e more) (m ∷ ms) =
      (p ≡ PVar m.number m.name m.type) × (vars ≡ map group m.own) × IsTrue (are_different m.own) × IsFun e
      × IsTypeAt s.names c (length (ks ++ vars)) m.type
      × ExpHas s c (within group (length ks) m.own all g) (ks ++ vars) e m.type × MembersHave s c g ks group all more ms

  -- each in what stands before it
  pub DecsBind : Setting → ℕ → Env → List VarKind → Decs → ℕ → Env → Type 0
  DecsBind s c g ks NoDecs c2 h = (c2 ≡ c) × (h ≡ Empty)
  DecsBind s c g ks (MoreDecs d ds) c2 h =
      (c1 : ℕ) × (b : Env) × (r : Env) × DecBinds s c g ks d c1 b × DecsBind s c1 (over b g) ks ds c2 r × (h ≡ over r b)

abbrev mutual
  -- in g, where type names below c are drawn, the item binds d, and leaves those below c2 drawn
  pub ItemBinds : Setting → ℕ → Env → Item → ℕ → Env → Type 0
  -- no identifier is bound twice; each binder is found by its path too
  ItemBinds s c g (Core d) c2 e =
      (h : Env) × DecBinds s c g [] d c2 h × IsTrue (are_distinct (names_in h)) × (e ≡ named h)
  ItemBinds s c g (Module x m) c2 e = (b : Env) × ModBinds s c g m c2 b × (e ≡ AddMod x b Empty)
  -- no rule yet
  ItemBinds s c g NoItem c2 e = ⊥

  -- each in what stands before it
  pub ItemsBind : Setting → ℕ → Env → Items → ℕ → Env → Type 0
  ItemsBind s c g NoItems c2 e = (c2 ≡ c) × (e ≡ Empty)
  ItemsBind s c g (MoreItems i is) c2 e =
      (c1 : ℕ) × (b : Env) × (r : Env) × ItemBinds s c g i c1 b × ItemsBind s c1 (over b g) is c2 r × (e ≡ over r b)

  pub ModBinds : Setting → ℕ → Env → Mod → ℕ → Env → Type 0
  ModBinds s c g (Body is) c2 b = ItemsBind s c g is c2 b
  ModBinds s c g (AtPath q) c2 b = (c2 ≡ c) × (mod_at q g ≡ Some b)
  -- no rule yet
  ModBinds s c g NoMod c2 b = ⊥
