-- Texts that name nothing of String and Char.
use Rattle.std.specs.Prelude.{◌≡◌, List, [], ◌∷◌, Option, Some, None, false, ⊤, codes}
use Rattle.std.specs.Str.{bytes_eq}
use Rattle.oc_ast.specs.Plain.{Bytes, Long, Cons, PATy, PATys, NoATys, MoreATys, POTy, POTys, NoTys, MoreTys, TVar, TCon, TParen, TAt, TArrow, TTuple, PTDef, Alias, Variant, PAPat, Any, PVar, PConst, PCon, PUnit, PParen, PTuple, PNil, PCell, PAPats, NoPats, MorePats, PPat, PAt, PBuild, PCons, PAs, PAtom, Const, Val, Con, Nothing, Paren, Tuple, Items, PAtoms, NoAtoms, MoreAtoms, PArms, NoArms, MoreArms, PFull, Is, LetIn, LetRecIn, LetMod, LetExn, If, Match, Try, While, Then, PItem, Let, LetRec, Types, Exn, ExnAs, Module, Sealed, Functor, PItems, NoItems, MoreItems, PMExp, MAt, Struct, Apply, MSeal, PRBind, Plain, Poly, PRBinds, NoBinds, MoreBinds, PSimple, One, Call, Build, Oper, Fun}

-- a module of another name
abbrev pub IsOther : Bytes → Type 0
IsOther m = (bytes_eq m (codes "String") ≡ false) × (bytes_eq m (codes "Char") ≡ false)

-- the path does not go through String or Char
abbrev pub ClearPath : Long → Type 0
ClearPath [] = ⊤
ClearPath (x ∷ []) = ⊤
ClearPath (m ∷ x ∷ q) = IsOther m

-- nor does it lead to one of them
abbrev pub ClearModule : Long → Type 0
ClearModule [] = ⊤
ClearModule (m ∷ q) = IsOther m

-- ---- written types

abbrev mutual
  pub ClearPart : PATy → Type 0
  ClearPart (TVar v) = ⊤
  ClearPart (TCon ws q) = ClearPath q × ClearAll ws
  ClearPart (TParen w) = ClearTy w

  pub ClearTy : POTy → Type 0
  ClearTy (TAt w) = ClearPart w
  ClearTy (TArrow a b) = ClearPart a × ClearTy b
  ClearTy (TTuple w ws) = ClearPart w × ClearParts ws

  pub ClearParts : PATys → Type 0
  ClearParts NoATys = ⊤
  ClearParts (MoreATys w ws) = ClearPart w × ClearParts ws

  pub ClearAll : POTys → Type 0
  ClearAll NoTys = ⊤
  ClearAll (MoreTys w ws) = ClearTy w × ClearAll ws

abbrev pub ClearArg : Option PATy → Type 0
ClearArg None = ⊤
ClearArg (Some w) = ClearPart w

abbrev pub ClearCons : Cons → Type 0
ClearCons [] = ⊤
ClearCons (c ∷ cs) = ClearArg c.1 × ClearCons cs

abbrev pub ClearDef : PTDef → Type 0
ClearDef (Alias vs n w) = ClearTy w
ClearDef (Variant vs n None cs) = ClearCons cs
ClearDef (Variant vs n (Some w) cs) = ClearTy w × ClearCons cs

abbrev pub ClearDefs : List PTDef → Type 0
ClearDefs [] = ⊤
ClearDefs (d ∷ ds) = ClearDef d × ClearDefs ds

-- ---- patterns

abbrev mutual
  pub ClearAPat : PAPat → Type 0
  ClearAPat Any = ⊤
  ClearAPat (PVar x) = ⊤
  ClearAPat (PConst l) = ⊤
  ClearAPat (PCon q) = ClearPath q
  ClearAPat PUnit = ⊤
  ClearAPat (PParen p) = ClearPat p
  ClearAPat (PTuple p ps) = ClearAPat p × ClearAPats ps
  ClearAPat PNil = ⊤
  ClearAPat (PCell p) = ClearPat p

  pub ClearAPats : PAPats → Type 0
  ClearAPats NoPats = ⊤
  ClearAPats (MorePats p ps) = ClearAPat p × ClearAPats ps

  pub ClearPat : PPat → Type 0
  ClearPat (PAt p) = ClearAPat p
  ClearPat (PBuild q p) = ClearPath q × ClearAPat p
  ClearPat (PCons p q) = ClearAPat p × ClearAPat q
  ClearPat (PAs p x) = ClearAPat p

-- ---- expressions, modules and items

abbrev mutual
  pub ClearAtom : PAtom → Type 0
  ClearAtom (Const l) = ⊤
  ClearAtom (Val q) = ClearPath q
  ClearAtom (Con q) = ClearPath q
  ClearAtom Nothing = ⊤
  ClearAtom (Paren f) = ClearFull f
  ClearAtom (Tuple a xs) = ClearAtom a × ClearAtoms xs
  ClearAtom (Items xs) = ClearAtoms xs

  pub ClearAtoms : PAtoms → Type 0
  ClearAtoms NoAtoms = ⊤
  ClearAtoms (MoreAtoms a xs) = ClearAtom a × ClearAtoms xs

  pub ClearArms : PArms → Type 0
  ClearArms NoArms = ⊤
  ClearArms (MoreArms p a arms) = ClearPat p × ClearAtom a × ClearArms arms

  pub ClearSimple : PSimple → Type 0
  ClearSimple (One a) = ClearAtom a
  ClearSimple (Call f a) = ClearAtom f × ClearAtom a
  ClearSimple (Build q a) = ClearPath q × ClearAtom a
  ClearSimple (Oper a o b) = ClearAtom a × ClearAtom b
  ClearSimple (Fun p f) = ClearAPat p × ClearFull f

  pub ClearFull : PFull → Type 0
  ClearFull (Is e) = ClearSimple e
  ClearFull (LetIn p e f) = ClearPat p × ClearSimple e × ClearFull f
  ClearFull (LetRecIn rs f) = ClearBinds rs × ClearFull f
  ClearFull (LetMod m is f) = ClearItems is × ClearFull f
  ClearFull (LetExn n w f) = ClearArg w × ClearFull f
  ClearFull (If a b c) = ClearAtom a × ClearAtom b × ClearAtom c
  ClearFull (Match a arms) = ClearAtom a × ClearArms arms
  ClearFull (Try a arms) = ClearAtom a × ClearArms arms
  ClearFull (While a f) = ClearAtom a × ClearFull f
  ClearFull (Then a f) = ClearAtom a × ClearFull f

  pub ClearBinds : PRBinds → Type 0
  ClearBinds NoBinds = ⊤
  ClearBinds (MoreBinds r rs) = ClearBind r × ClearBinds rs

  pub ClearBind : PRBind → Type 0
  ClearBind (Plain x e) = ClearSimple e
  ClearBind (Poly x vs w e) = ClearTy w × ClearSimple e

  pub ClearItem : PItem → Type 0
  ClearItem (Let p e) = ClearPat p × ClearSimple e
  ClearItem (LetRec rs) = ClearBinds rs
  ClearItem (Types ds) = ClearDefs ds
  ClearItem (Exn n w) = ClearArg w
  ClearItem (ExnAs n q) = ClearPath q
  ClearItem (Module m o) = ClearMod o
  ClearItem (Sealed m s o) = ClearMod o
  ClearItem (Functor f x s o) = ClearMod o

  -- the text names nothing of String and Char
  pub ClearItems : PItems → Type 0
  ClearItems NoItems = ⊤
  ClearItems (MoreItems i is) = ClearItem i × ClearItems is

  pub ClearMod : PMExp → Type 0
  ClearMod (MAt q) = ClearModule q
  ClearMod (Struct is) = ClearItems is
  ClearMod (Apply f a) = ClearModule f × ClearModule a
  ClearMod (MSeal o s) = ClearMod o
