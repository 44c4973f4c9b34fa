-- The trees that the grammar and its rules allow: names begin with the right letter and are no words, rows are not
-- empty, numbers are in range.
use Rattle.std.specs.Prelude.{◌^◌, ◌<◌, Bool, true, false, not, ◌&&◌, ◌||◌, List, [], ◌∷◌, Option, Some, None, ℤ, pos, negsuc, IsTrue, is_some, nat_lt, codes, ⊤}
use Rattle.tl_cases.specs.Rows.{value_at}
use Rattle.tl_cases.specs.Words.{oc_rows}
use Rattle.oc_ast.specs.declared.literal.OcLit.{OcLit}
use Rattle.oc_ast.specs.declared.literal.OcLit.TheVariants.{Int, Char, Text}
use Rattle.oc_ast.specs.Plain.{Bytes, Long, PATy, PATys, NoATys, MoreATys, POTy, POTys, NoTys, MoreTys, TVar, TCon, TParen, TAt, TArrow, TTuple, Cons, PTDef, Alias, Variant, PAPat, Any, PVar, PConst, PCon, PUnit, PParen, PTuple, PNil, PCell, PAPats, NoPats, MorePats, PPat, PAt, PBuild, PCons, PAs, PMSig, Sig, PSItem, SVal, STypes, SAbs, SExn, SModule, PSItems, NoSItems, MoreSItems, PAtom, Const, Val, Con, Nothing, Paren, Tuple, Items, PAtoms, NoAtoms, MoreAtoms, PArms, NoArms, MoreArms, PFull, Is, LetIn, LetRecIn, LetMod, LetExn, If, Match, Try, While, Then, PItem, Let, LetRec, Types, Exn, ExnAs, Module, Sealed, Functor, PItems, NoItems, MoreItems, PMExp, MAt, Struct, Apply, MSeal, PRBind, Plain, Poly, PRBinds, NoBinds, MoreBinds, PSimple, One, Call, Build, Oper, Fun}
use Rattle.oc_rules.specs.Bytes.{is_small, is_capital, is_part, every, shaped, is_any, is_only, is_bang}
use Rattle.oc_rules.specs.Token.{is_tyvar}

-- a word of OCaml, which is no name
abbrev pub is_word : Bytes → Bool
is_word n = is_some (value_at n oc_rows)

-- a name that begins with a small letter, and one that begins with a capital
abbrev pub is_low : Bytes → Bool
is_low n = shaped is_small is_part n && not (is_word n)

abbrev pub is_cap : Bytes → Bool
is_cap n = shaped is_capital is_part n && not (is_word n)

-- modules on the way, and last a name that passes the test
abbrev pub ends_in : (Bytes → Bool) → Long → Bool
ends_in last [] = false
ends_in last (n ∷ []) = last n
ends_in last (n ∷ m ∷ q) = is_cap n && ends_in last (m ∷ q)

-- the paths of modules, of types, of values and of constructors
abbrev pub is_module : Long → Bool
is_module = ends_in is_cap

abbrev pub is_type : Long → Bool
is_type = ends_in is_low

abbrev pub is_value : Long → Bool
is_value q = ends_in is_low q || is_bang q

abbrev pub is_constructor : Long → Bool
is_constructor q = ends_in is_cap q || (is_only (codes "true") q || is_only (codes "false") q)

abbrev pub operators : List Bytes
operators = codes "+" ∷ codes "-" ∷ codes "*" ∷ codes "/" ∷ codes "mod" ∷ codes "land" ∷ codes "lor" ∷ codes "lxor" ∷ codes "lsl" ∷ codes "lsr" ∷ codes "=" ∷ codes "<" ∷ codes "<=" ∷ codes ">" ∷ codes ">=" ∷ codes "==" ∷ codes ":=" ∷ codes "^" ∷ codes "&&" ∷ codes "||" ∷ codes "::" ∷ []

-- integers from -2^62 to 2^62 - 1; characters and the bytes of strings are bytes
abbrev pub InRange : ℤ → Type 0
InRange (pos n) = n < 2 ^ 62
InRange (negsuc n) = n < 2 ^ 62

abbrev pub Literal : OcLit → Type 0
Literal (Int z) = InRange z
Literal (Char c) = c < 256
Literal (Text s) = IsTrue (every (λ c. nat_lt c 256) s)

abbrev pub all_tyvars : List Bytes → Bool
all_tyvars [] = true
all_tyvars (v ∷ vs) = is_tyvar v && all_tyvars vs

-- ---- types

abbrev mutual
  pub Part : PATy → Type 0
  Part (TVar v) = IsTrue (is_tyvar v)
  Part (TCon ts q) = Args ts × IsTrue (is_type q)
  Part (TParen t) = TypeOf t

  -- no argument, one that needs no parentheses, or several
  pub Args : POTys → Type 0
  Args NoTys = ⊤
  Args (MoreTys t NoTys) = Single t
  Args (MoreTys t (MoreTys u us)) = TypeOf t × EachType (MoreTys u us)

  pub Single : POTy → Type 0
  Single (TAt t) = Part t
  Single (TArrow t u) = ⊥
  Single (TTuple t ts) = ⊥

  pub EachType : POTys → Type 0
  EachType NoTys = ⊤
  EachType (MoreTys t ts) = TypeOf t × EachType ts

  pub TypeOf : POTy → Type 0
  TypeOf (TAt t) = Part t
  TypeOf (TArrow t u) = Part t × TypeOf u
  TypeOf (TTuple t NoATys) = ⊥
  TypeOf (TTuple t (MoreATys u us)) = Part t × EachPart (MoreATys u us)

  pub EachPart : PATys → Type 0
  EachPart NoATys = ⊤
  EachPart (MoreATys t ts) = Part t × EachPart ts

abbrev pub Constructor : Bytes → Option PATy → Type 0
Constructor n None = IsTrue (is_cap n)
Constructor n (Some t) = IsTrue (is_cap n) × Part t

abbrev pub EachConstructor : Cons → Type 0
EachConstructor [] = ⊤
EachConstructor (c ∷ cs) = Constructor c.0 c.1 × EachConstructor cs

abbrev pub Manifest : Option POTy → Type 0
Manifest None = ⊤
Manifest (Some t) = TypeOf t

abbrev pub Definition : PTDef → Type 0
Definition (Alias vs n t) = IsTrue (all_tyvars vs) × IsTrue (is_low n) × TypeOf t
Definition (Variant vs n t []) = ⊥
Definition (Variant vs n t (c ∷ cs)) = IsTrue (all_tyvars vs) × IsTrue (is_low n) × Manifest t × EachConstructor (c ∷ cs)

abbrev pub EachDefinition : List PTDef → Type 0
EachDefinition [] = ⊤
EachDefinition (d ∷ ds) = Definition d × EachDefinition ds

abbrev pub Definitions : List PTDef → Type 0
Definitions [] = ⊥
Definitions (d ∷ ds) = EachDefinition (d ∷ ds)

-- ---- patterns

abbrev mutual
  pub APat : PAPat → Type 0
  APat Any = ⊤
  APat (PVar x) = IsTrue (is_low x)
  APat (PConst l) = Literal l
  APat (PCon q) = IsTrue (is_constructor q)
  APat PUnit = ⊤
  APat (PParen p) = Pat p
  APat (PTuple p NoPats) = ⊥
  APat (PTuple p (MorePats q qs)) = APat p × EachAPat (MorePats q qs)
  APat PNil = ⊤
  APat (PCell p) = Pat p

  pub EachAPat : PAPats → Type 0
  EachAPat NoPats = ⊤
  EachAPat (MorePats p ps) = APat p × EachAPat ps

  pub Pat : PPat → Type 0
  Pat (PAt p) = APat p
  Pat (PBuild q p) = IsTrue (is_constructor q) × APat p
  Pat (PCons p q) = APat p × APat q
  Pat (PAs p x) = APat p × IsTrue (is_low x)

-- ---- signatures

abbrev mutual
  pub MSig : PMSig → Type 0
  MSig (Sig is) = EachSItem is

  pub SItem : PSItem → Type 0
  SItem (SVal x t) = IsTrue (is_low x) × TypeOf t
  SItem (STypes ds) = Definitions ds
  SItem (SAbs vs n) = IsTrue (all_tyvars vs) × IsTrue (is_low n)
  SItem (SExn n t) = Constructor n t
  SItem (SModule n s) = IsTrue (is_cap n) × MSig s

  pub EachSItem : PSItems → Type 0
  EachSItem NoSItems = ⊤
  EachSItem (MoreSItems i is) = SItem i × EachSItem is

-- ---- expressions, modules and items

-- the head of a call is no constructor
abbrev pub Head : PAtom → Type 0
Head (Con q) = ⊥
Head (Const l) = ⊤
Head (Val q) = ⊤
Head Nothing = ⊤
Head (Paren e) = ⊤
Head (Tuple a xs) = ⊤
Head (Items xs) = ⊤

-- no parentheses round a bare atom
abbrev pub IsBare : PFull → Bool
IsBare (Is (One a)) = true
IsBare (Is (Call a b)) = false
IsBare (Is (Build q a)) = false
IsBare (Is (Oper a o b)) = false
IsBare (Is (Fun p e)) = false
IsBare (LetIn p e f) = false
IsBare (LetRecIn bs f) = false
IsBare (LetMod n is f) = false
IsBare (LetExn n t f) = false
IsBare (If a b c) = false
IsBare (Match a xs) = false
IsBare (Try a xs) = false
IsBare (While a e) = false
IsBare (Then a e) = false

-- the right side of a recursive binding is a `fun`
abbrev pub IsFun : PSimple → Bool
IsFun (One a) = false
IsFun (Call a b) = false
IsFun (Build q a) = false
IsFun (Oper a o b) = false
IsFun (Fun p e) = true

abbrev mutual
  pub Atom : PAtom → Type 0
  Atom (Const l) = Literal l
  Atom (Val q) = IsTrue (is_value q)
  Atom (Con q) = IsTrue (is_constructor q)
  Atom Nothing = ⊤
  Atom (Paren e) = Full e × IsTrue (not (IsBare e))
  Atom (Tuple a NoAtoms) = ⊥
  Atom (Tuple a (MoreAtoms b xs)) = Atom a × EachAtom (MoreAtoms b xs)
  Atom (Items xs) = EachAtom xs

  pub EachAtom : PAtoms → Type 0
  EachAtom NoAtoms = ⊤
  EachAtom (MoreAtoms a xs) = Atom a × EachAtom xs

  pub EachArm : PArms → Type 0
  EachArm NoArms = ⊤
  EachArm (MoreArms p a xs) = Pat p × Atom a × EachArm xs

  pub Full : PFull → Type 0
  Full (Is e) = Simple e
  Full (LetIn p e f) = Pat p × Simple e × Full f
  Full (LetRecIn NoBinds f) = ⊥
  Full (LetRecIn (MoreBinds b bs) f) = EachBind (MoreBinds b bs) × Full f
  Full (LetMod n is f) = IsTrue (is_cap n) × EachItem is × Full f
  Full (LetExn n t f) = Constructor n t × Full f
  Full (If a b c) = Atom a × Atom b × Atom c
  Full (Match a NoArms) = ⊥
  Full (Match a (MoreArms p b xs)) = Atom a × EachArm (MoreArms p b xs)
  Full (Try a NoArms) = ⊥
  Full (Try a (MoreArms p b xs)) = Atom a × EachArm (MoreArms p b xs)
  Full (While a e) = Atom a × Full e
  Full (Then a e) = Atom a × Full e

  pub Item : PItem → Type 0
  Item (Let p e) = Pat p × Simple e
  Item (LetRec NoBinds) = ⊥
  Item (LetRec (MoreBinds b bs)) = EachBind (MoreBinds b bs)
  Item (Types ds) = Definitions ds
  Item (Exn n t) = Constructor n t
  Item (ExnAs n q) = IsTrue (is_cap n) × IsTrue (is_constructor q)
  Item (Module n m) = IsTrue (is_cap n) × MExp m
  Item (Sealed n s m) = IsTrue (is_cap n) × MSig s × MExp m
  Item (Functor n x s m) = IsTrue (is_cap n) × IsTrue (is_cap x) × MSig s × MExp m

  pub EachItem : PItems → Type 0
  EachItem NoItems = ⊤
  EachItem (MoreItems i is) = Item i × EachItem is

  pub MExp : PMExp → Type 0
  MExp (MAt q) = IsTrue (is_module q)
  MExp (Struct is) = EachItem is
  MExp (Apply f a) = IsTrue (is_module f) × IsTrue (is_module a)
  MExp (MSeal m s) = MExp m × MSig s

  pub EachBind : PRBinds → Type 0
  EachBind NoBinds = ⊤
  EachBind (MoreBinds b bs) = Bind b × EachBind bs

  pub Bind : PRBind → Type 0
  Bind (Plain f e) = IsTrue (is_low f) × Simple e × IsTrue (IsFun e)
  Bind (Poly f [] t e) = ⊥
  Bind (Poly f (v ∷ vs) t e) = IsTrue (is_low f) × IsTrue (all_tyvars (v ∷ vs)) × TypeOf t × Simple e × IsTrue (IsFun e)

  pub Simple : PSimple → Type 0
  Simple (One a) = Atom a
  Simple (Call a b) = Atom a × Head a × Atom b
  Simple (Build q a) = IsTrue (is_constructor q) × Atom a
  Simple (Oper a o b) = Atom a × IsTrue (is_any operators o) × Atom b
  Simple (Fun p e) = APat p × Full e

-- the text is one that the grammar and its rules allow
abbrev pub Allowed : PItems → Type 0
Allowed = EachItem
