-- The grammar of the subset: the tokens of a tree. A line for each alternative of the table, in its order.
use Rattle.std.specs.Prelude.{ℕ, List, [], ◌∷◌, ◌++◌, Option, Some, None, codes, if◌then◌else◌}
use Rattle.oc_ast.specs.Plain.{Bytes, Long, PATy, PATys, NoATys, MoreATys, POTy, POTys, NoTys, MoreTys, TVar, TCon, TParen, TAt, TArrow, TTuple, Cons, PTDef, Alias, Variant, PAPat, Any, PVar, PConst, PCon, PUnit, PParen, PTuple, PNil, PCell, PAPats, NoPats, MorePats, PPat, PAt, PBuild, PCons, PAs, PMSig, Sig, PSItem, SVal, STypes, SAbs, SExn, SModule, PSItems, NoSItems, MoreSItems, PAtom, Const, Val, Con, Nothing, Paren, Tuple, Items, PAtoms, NoAtoms, MoreAtoms, PArms, NoArms, MoreArms, PFull, Is, LetIn, LetRecIn, LetMod, LetExn, If, Match, Try, While, Then, PItem, Let, LetRec, Types, Exn, ExnAs, Module, Sealed, Functor, PItems, NoItems, MoreItems, PMExp, MAt, Struct, Apply, MSeal, PRBind, Plain, Poly, PRBinds, NoBinds, MoreBinds, PSimple, One, Call, Build, Oper, Fun}
use Rattle.oc_rules.specs.Bytes.{is_letter, heads, is_bang}
use Rattle.oc_rules.specs.Token.{Token, Name, Tyvar, Sign, Lit}

abbrev pub Tokens : Type 0
Tokens = List Token

-- one after another; it groups to the right
infixr 60 ◌▹◌
abbrev pub ◌▹◌ : Tokens → Tokens → Tokens
a ▹ b = a ++ b

abbrev pub name : Bytes → Tokens
name n = Name n ∷ []

abbrev pub mark : List ℕ → Tokens
mark s = Sign s ∷ []

abbrev pub open_round : Tokens
open_round = mark (codes "(")

abbrev pub close_round : Tokens
close_round = mark (codes ")")

abbrev pub comma : Tokens
comma = mark (codes ",")

-- names with dots between
abbrev pub more_path : Long → Tokens
more_path [] = []
more_path (n ∷ q) = mark (codes ".") ▹ name n ▹ more_path q

abbrev pub path : Long → Tokens
path [] = []
path (n ∷ q) = name n ▹ more_path q

-- the path of the one name `!` stands in parentheses
abbrev pub value : Long → Tokens
value q = if is_bang q then open_round ▹ mark (codes "!") ▹ close_round else path q

-- `mod`, `land` and their like are names, the others are marks
abbrev pub operator : Bytes → Tokens
operator o = if heads is_letter o then name o else mark o

-- type variables one after another, and the parameters of a type
abbrev pub tyvars : List Bytes → Tokens
tyvars [] = []
tyvars (v ∷ vs) = Tyvar v ∷ tyvars vs

abbrev pub more_params : List Bytes → Tokens
more_params [] = []
more_params (v ∷ vs) = comma ▹ (Tyvar v ∷ more_params vs)

abbrev pub params : List Bytes → Tokens
params [] = []
params (v ∷ []) = Tyvar v ∷ []
params (v ∷ u ∷ vs) = open_round ▹ (Tyvar v ∷ more_params (u ∷ vs)) ▹ close_round

-- ---- types

abbrev mutual
  pub part : PATy → Tokens
  part (TVar v) = Tyvar v ∷ []
  part (TCon ts q) = args ts ▹ path q
  part (TParen t) = open_round ▹ type_of t ▹ close_round

  pub args : POTys → Tokens
  args NoTys = []
  args (MoreTys t NoTys) = type_of t
  args (MoreTys t (MoreTys u us)) = open_round ▹ type_of t ▹ more_args (MoreTys u us) ▹ close_round

  pub more_args : POTys → Tokens
  more_args NoTys = []
  more_args (MoreTys t ts) = comma ▹ type_of t ▹ more_args ts

  pub type_of : POTy → Tokens
  type_of (TAt t) = part t
  type_of (TArrow t u) = part t ▹ mark (codes "->") ▹ type_of u
  type_of (TTuple t ts) = part t ▹ factors ts

  pub factors : PATys → Tokens
  factors NoATys = []
  factors (MoreATys t ts) = mark (codes "*") ▹ part t ▹ factors ts

-- a name, and `of` with a type where there is one
abbrev pub cons : Bytes → Option PATy → Tokens
cons n None = name n
cons n (Some t) = name n ▹ name (codes "of") ▹ part t

abbrev pub more_cons : Cons → Tokens
more_cons [] = []
more_cons (c ∷ cs) = mark (codes "|") ▹ cons c.0 c.1 ▹ more_cons cs

abbrev pub variants : Cons → Tokens
variants [] = []
variants (c ∷ cs) = cons c.0 c.1 ▹ more_cons cs

abbrev pub manifest : Option POTy → Tokens
manifest None = []
manifest (Some t) = mark (codes "=") ▹ type_of t

abbrev pub definition : PTDef → Tokens
definition (Alias vs n t) = params vs ▹ name n ▹ mark (codes "=") ▹ type_of t
definition (Variant vs n t cs) = params vs ▹ name n ▹ manifest t ▹ mark (codes "=") ▹ variants cs

abbrev pub more_definitions : List PTDef → Tokens
more_definitions [] = []
more_definitions (d ∷ ds) = name (codes "and") ▹ definition d ▹ more_definitions ds

abbrev pub definitions : List PTDef → Tokens
definitions [] = name (codes "type")
definitions (d ∷ ds) = name (codes "type") ▹ definition d ▹ more_definitions ds

-- ---- patterns

abbrev mutual
  pub apat : PAPat → Tokens
  apat Any = mark (codes "_")
  apat (PVar x) = name x
  apat (PConst l) = Lit l ∷ []
  apat (PCon q) = path q
  apat PUnit = open_round ▹ close_round
  apat (PParen p) = open_round ▹ pat p ▹ close_round
  apat (PTuple p ps) = open_round ▹ apat p ▹ more_apats ps ▹ close_round
  apat PNil = mark (codes "[") ▹ mark (codes "]")
  apat (PCell p) = mark (codes "{") ▹ name (codes "contents") ▹ mark (codes "=") ▹ pat p ▹ mark (codes "}")

  pub more_apats : PAPats → Tokens
  more_apats NoPats = []
  more_apats (MorePats p ps) = comma ▹ apat p ▹ more_apats ps

  pub pat : PPat → Tokens
  pat (PAt p) = apat p
  pat (PBuild q p) = path q ▹ apat p
  pat (PCons p q) = apat p ▹ mark (codes "::") ▹ apat q
  pat (PAs p x) = apat p ▹ name (codes "as") ▹ name x

-- ---- signatures

abbrev mutual
  pub msig : PMSig → Tokens
  msig (Sig is) = name (codes "sig") ▹ sitems is ▹ name (codes "end")

  pub sitem : PSItem → Tokens
  sitem (SVal x t) = name (codes "val") ▹ name x ▹ mark (codes ":") ▹ type_of t
  sitem (STypes ds) = definitions ds
  sitem (SAbs vs n) = name (codes "type") ▹ params vs ▹ name n
  sitem (SExn n t) = name (codes "exception") ▹ cons n t
  sitem (SModule n s) = name (codes "module") ▹ name n ▹ mark (codes ":") ▹ msig s

  pub sitems : PSItems → Tokens
  sitems NoSItems = []
  sitems (MoreSItems i is) = sitem i ▹ sitems is

-- ---- expressions, modules and items

abbrev mutual
  pub atom : PAtom → Tokens
  atom (Const l) = Lit l ∷ []
  atom (Val q) = value q
  atom (Con q) = path q
  atom Nothing = open_round ▹ close_round
  atom (Paren e) = open_round ▹ full e ▹ close_round
  atom (Tuple a xs) = open_round ▹ atom a ▹ more_atoms comma xs ▹ close_round
  atom (Items xs) = mark (codes "[") ▹ list_items xs ▹ mark (codes "]")

  pub list_items : PAtoms → Tokens
  list_items NoAtoms = []
  list_items (MoreAtoms a xs) = atom a ▹ more_atoms (mark (codes ";")) xs

  pub more_atoms : Tokens → PAtoms → Tokens
  more_atoms between NoAtoms = []
  more_atoms between (MoreAtoms a xs) = between ▹ atom a ▹ more_atoms between xs

  pub arms : PArms → Tokens
  arms NoArms = []
  arms (MoreArms p a xs) = mark (codes "|") ▹ pat p ▹ mark (codes "->") ▹ atom a ▹ arms xs

  pub full : PFull → Tokens
  full (Is e) = simple e
  full (LetIn p e f) = name (codes "let") ▹ pat p ▹ mark (codes "=") ▹ simple e ▹ name (codes "in") ▹ full f
  full (LetRecIn bs f) = rec_binds bs ▹ name (codes "in") ▹ full f
  full (LetMod n is f) = name (codes "let") ▹ name (codes "module") ▹ name n ▹ mark (codes "=") ▹ (name (codes "struct") ▹ items is ▹ name (codes "end")) ▹ name (codes "in") ▹ full f
  full (LetExn n t f) = name (codes "let") ▹ name (codes "exception") ▹ cons n t ▹ name (codes "in") ▹ full f
  full (If a b c) = name (codes "if") ▹ atom a ▹ name (codes "then") ▹ atom b ▹ name (codes "else") ▹ atom c
  full (Match a xs) = name (codes "match") ▹ atom a ▹ name (codes "with") ▹ arms xs
  full (Try a xs) = name (codes "try") ▹ atom a ▹ name (codes "with") ▹ arms xs
  full (While a e) = name (codes "while") ▹ atom a ▹ name (codes "do") ▹ full e ▹ name (codes "done")
  full (Then a e) = atom a ▹ mark (codes ";") ▹ full e

  pub item : PItem → Tokens
  item (Let p e) = name (codes "let") ▹ pat p ▹ mark (codes "=") ▹ simple e
  item (LetRec bs) = rec_binds bs
  item (Types ds) = definitions ds
  item (Exn n t) = name (codes "exception") ▹ cons n t
  item (ExnAs n q) = name (codes "exception") ▹ name n ▹ mark (codes "=") ▹ path q
  item (Module n m) = name (codes "module") ▹ name n ▹ mark (codes "=") ▹ mexp m
  item (Sealed n s m) = name (codes "module") ▹ name n ▹ mark (codes ":") ▹ msig s ▹ mark (codes "=") ▹ mexp m
  item (Functor n x s m) = name (codes "module") ▹ name n ▹ open_round ▹ name x ▹ mark (codes ":") ▹ msig s ▹ close_round ▹ open_round ▹ close_round ▹ mark (codes "=") ▹ mexp m

  pub items : PItems → Tokens
  items NoItems = []
  items (MoreItems i is) = item i ▹ items is

  pub mexp : PMExp → Tokens
  mexp (MAt q) = path q
  mexp (Struct is) = name (codes "struct") ▹ items is ▹ name (codes "end")
  mexp (Apply f a) = path f ▹ open_round ▹ path a ▹ close_round ▹ open_round ▹ close_round
  mexp (MSeal m s) = open_round ▹ mexp m ▹ mark (codes ":") ▹ msig s ▹ close_round

  -- `let rec` and the bindings with `and` between
  pub rec_binds : PRBinds → Tokens
  rec_binds NoBinds = name (codes "let") ▹ name (codes "rec")
  rec_binds (MoreBinds b bs) = name (codes "let") ▹ name (codes "rec") ▹ rbind b ▹ more_rbinds bs

  pub more_rbinds : PRBinds → Tokens
  more_rbinds NoBinds = []
  more_rbinds (MoreBinds b bs) = name (codes "and") ▹ rbind b ▹ more_rbinds bs

  pub rbind : PRBind → Tokens
  rbind (Plain f e) = name f ▹ mark (codes "=") ▹ simple e
  rbind (Poly f vs t e) = name f ▹ mark (codes ":") ▹ tyvars vs ▹ mark (codes ".") ▹ type_of t ▹ mark (codes "=") ▹ simple e

  pub simple : PSimple → Tokens
  simple (One a) = atom a
  simple (Call a b) = atom a ▹ atom b
  simple (Build q a) = path q ▹ atom a
  simple (Oper a o b) = atom a ▹ operator o ▹ atom b
  simple (Fun p e) = name (codes "fun") ▹ apat p ▹ mark (codes "->") ▹ full e
