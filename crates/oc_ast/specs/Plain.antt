-- The trees of the subset as plain data: what definitions on layout, grammar, typing and meaning speak of.
-- One type for each nonterminal and one for each kind of row; the variants are those of the declared trees.
use Rattle.std.specs.Prelude.{ℕ, List, Option}
use Rattle.oc_ast.specs.declared.literal.OcLit.{OcLit}

-- a name by its bytes
abbrev pub Bytes : Type 0
Bytes = List ℕ

-- a long name: the modules on the way, and the name itself last
abbrev pub Long : Type 0
Long = List Bytes

-- types
mutual
  pub data PATy : Type 0 where
    TVar : Bytes → PATy
    TCon : POTys → Long → PATy
    TParen : POTy → PATy

  pub data PATys : Type 0 where
    NoATys : PATys
    MoreATys : PATy → PATys → PATys

  pub data POTy : Type 0 where
    TAt : PATy → POTy
    TArrow : PATy → POTy → POTy
    TTuple : PATy → PATys → POTy

  pub data POTys : Type 0 where
    NoTys : POTys
    MoreTys : POTy → POTys → POTys

-- constructors, each with its argument where it has one
abbrev pub Cons : Type 0
Cons = List (Bytes × Option PATy)

pub data PTDef : Type 0 where
  Alias : List Bytes → Bytes → POTy → PTDef
  Variant : List Bytes → Bytes → Option POTy → Cons → PTDef

-- patterns
mutual
  pub data PAPat : Type 0 where
    Any : PAPat
    PVar : Bytes → PAPat
    PConst : OcLit → PAPat
    PCon : Long → PAPat
    PUnit : PAPat
    PParen : PPat → PAPat
    PTuple : PAPat → PAPats → PAPat
    PNil : PAPat
    PCell : PPat → PAPat

  pub data PAPats : Type 0 where
    NoPats : PAPats
    MorePats : PAPat → PAPats → PAPats

  pub data PPat : Type 0 where
    PAt : PAPat → PPat
    PBuild : Long → PAPat → PPat
    PCons : PAPat → PAPat → PPat
    PAs : PAPat → Bytes → PPat

-- signatures
mutual
  pub data PMSig : Type 0 where
    Sig : PSItems → PMSig

  pub data PSItem : Type 0 where
    SVal : Bytes → POTy → PSItem
    STypes : List PTDef → PSItem
    SAbs : List Bytes → Bytes → PSItem
    SExn : Bytes → Option PATy → PSItem
    SModule : Bytes → PMSig → PSItem

  pub data PSItems : Type 0 where
    NoSItems : PSItems
    MoreSItems : PSItem → PSItems → PSItems

-- expressions, modules and items
mutual
  pub data PAtom : Type 0 where
    Const : OcLit → PAtom
    Val : Long → PAtom
    Con : Long → PAtom
    Nothing : PAtom
    Paren : PFull → PAtom
    Tuple : PAtom → PAtoms → PAtom
    Items : PAtoms → PAtom

  pub data PAtoms : Type 0 where
    NoAtoms : PAtoms
    MoreAtoms : PAtom → PAtoms → PAtoms

  pub data PArms : Type 0 where
    NoArms : PArms
    MoreArms : PPat → PAtom → PArms → PArms

  pub data PFull : Type 0 where
    Is : PSimple → PFull
    LetIn : PPat → PSimple → PFull → PFull
    LetRecIn : PRBinds → PFull → PFull
    LetMod : Bytes → PItems → PFull → PFull
    LetExn : Bytes → Option PATy → PFull → PFull
    If : PAtom → PAtom → PAtom → PFull
    Match : PAtom → PArms → PFull
    Try : PAtom → PArms → PFull
    While : PAtom → PFull → PFull
    Then : PAtom → PFull → PFull

  pub data PItem : Type 0 where
    Let : PPat → PSimple → PItem
    LetRec : PRBinds → PItem
    Types : List PTDef → PItem
    Exn : Bytes → Option PATy → PItem
    ExnAs : Bytes → Long → PItem
    Module : Bytes → PMExp → PItem
    Sealed : Bytes → PMSig → PMExp → PItem
    Functor : Bytes → Bytes → PMSig → PMExp → PItem

  pub data PItems : Type 0 where
    NoItems : PItems
    MoreItems : PItem → PItems → PItems

  pub data PMExp : Type 0 where
    MAt : Long → PMExp
    Struct : PItems → PMExp
    Apply : Long → Long → PMExp
    MSeal : PMExp → PMSig → PMExp

  pub data PRBind : Type 0 where
    Plain : Bytes → PSimple → PRBind
    Poly : Bytes → List Bytes → POTy → PSimple → PRBind

  pub data PRBinds : Type 0 where
    NoBinds : PRBinds
    MoreBinds : PRBind → PRBinds → PRBinds

  pub data PSimple : Type 0 where
    One : PAtom → PSimple
    Call : PAtom → PAtom → PSimple
    Build : Long → PAtom → PSimple
    Oper : PAtom → Bytes → PAtom → PSimple
    Fun : PAPat → PFull → PSimple
