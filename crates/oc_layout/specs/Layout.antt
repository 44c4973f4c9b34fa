-- The bytes of a text: the tokens of its tree by the grammar, and between them spaces and line breaks.
use Rattle.std.specs.Prelude.{ℕ, ◌+◌, true, List, [], ◌∷◌, Option, Some, None, codes, if◌then◌else◌}
use Rattle.oc_ast.specs.Plain.{Bytes, Long, PATy, PATys, NoATys, MoreATys, POTy, POTys, NoTys, MoreTys, TVar, TCon, TParen, TAt, TArrow, TTuple, Cons, PTDef, Alias, Variant, PAPat, Any, PVar, PConst, PCon, PUnit, PParen, PTuple, PNil, PCell, PAPats, NoPats, MorePats, PPat, PAt, PBuild, PCons, PAs, PMSig, Sig, PSItem, SVal, STypes, SAbs, SExn, SModule, PSItems, NoSItems, MoreSItems, PAtom, Const, Val, Con, Nothing, Paren, Tuple, Items, PAtoms, NoAtoms, MoreAtoms, PArms, NoArms, MoreArms, PFull, Is, LetIn, LetRecIn, LetMod, LetExn, If, Match, Try, While, Then, PItem, Let, LetRec, Types, Exn, ExnAs, Module, Sealed, Functor, PItems, NoItems, MoreItems, PMExp, MAt, Struct, Apply, MSeal, PRBind, Plain, Poly, PRBinds, NoBinds, MoreBinds, PSimple, One, Call, Build, Oper, Fun}
use Rattle.oc_rules.specs.Bytes.{is_letter, heads, is_bang}
use Rattle.oc_rules.specs.Token.{Name, Tyvar, Sign, Lit}
use Rattle.oc_layout.specs.Sheet.{Sheet, noted, started, blank}

-- what a phrase adds to the sheet
abbrev pub Ink : Type 0
Ink = Sheet → Sheet

-- one after another; it groups to the right
infixr 60 ◌▸◌
abbrev pub ◌▸◌ : Ink → Ink → Ink
(a ▸ b) s = b (a s)

abbrev pub none : Ink
none s = s

abbrev pub name : Bytes → Ink
name n = noted (Name n)

abbrev pub tyvar : Bytes → Ink
tyvar v = noted (Tyvar v)

abbrev pub mark : List ℕ → Ink
mark m = noted (Sign m)

-- a phrase that looks at the indentation of the line at hand and of the item round it
abbrev pub here : (ℕ → ℕ → Ink) → Ink
here f s = f s.line s.item s

-- a new line: at this indentation; two deeper than the item; for an item, at this indentation
abbrev pub line : ℕ → Ink
line n s = started n s.item s

abbrev pub body : Ink
body s = started (s.item + 2) s.item s

abbrev pub item_line : ℕ → Ink
item_line n = started n n

-- no space comes before the next token
abbrev pub glue : Ink
glue s = record s { tight = true }

-- a word that ends its line, the items, two deeper than the item round them, and `end` on a line of its own at the
-- indentation of the line with the word
abbrev pub bracketed : Bytes → (ℕ → Ink) → Ink
bracketed word inside = here (λ l i. name word ▸ inside (i + 2) ▸ started l i ▸ name (codes "end"))

-- a dot within a path
abbrev pub dot : Ink
dot = glue ▸ mark (codes ".") ▸ glue

abbrev pub more_path : Long → Ink
more_path [] = none
more_path (n ∷ q) = dot ▸ name n ▸ more_path q

abbrev pub path : Long → Ink
path [] = none
path (n ∷ q) = name n ▸ more_path q

-- the path of the one name `!` stands in parentheses
abbrev pub value : Long → Ink
value q = if is_bang q then mark (codes "(") ▸ mark (codes "!") ▸ mark (codes ")") else path q

abbrev pub operator : Bytes → Ink
operator o = if heads is_letter o then name o else mark o

abbrev pub tyvars : List Bytes → Ink
tyvars [] = none
tyvars (v ∷ vs) = tyvar v ▸ tyvars vs

abbrev pub more_params : List Bytes → Ink
more_params [] = none
more_params (v ∷ vs) = mark (codes ",") ▸ tyvar v ▸ more_params vs

abbrev pub params : List Bytes → Ink
params [] = none
params (v ∷ []) = tyvar v
params (v ∷ u ∷ vs) = mark (codes "(") ▸ tyvar v ▸ more_params (u ∷ vs) ▸ mark (codes ")")

-- ---- types

abbrev mutual
  pub part : PATy → Ink
  part (TVar v) = tyvar v
  part (TCon ts q) = args ts ▸ path q
  part (TParen t) = mark (codes "(") ▸ type_of t ▸ mark (codes ")")

  pub args : POTys → Ink
  args NoTys = none
  args (MoreTys t NoTys) = type_of t
  args (MoreTys t (MoreTys u us)) = mark (codes "(") ▸ type_of t ▸ more_args (MoreTys u us) ▸ mark (codes ")")

  pub more_args : POTys → Ink
  more_args NoTys = none
  more_args (MoreTys t ts) = mark (codes ",") ▸ type_of t ▸ more_args ts

  pub type_of : POTy → Ink
  type_of (TAt t) = part t
  type_of (TArrow t u) = part t ▸ mark (codes "->") ▸ type_of u
  type_of (TTuple t ts) = part t ▸ factors ts

  pub factors : PATys → Ink
  factors NoATys = none
  factors (MoreATys t ts) = mark (codes "*") ▸ part t ▸ factors ts

abbrev pub cons : Bytes → Option PATy → Ink
cons n None = name n
cons n (Some t) = name n ▸ name (codes "of") ▸ part t

abbrev pub more_cons : Cons → Ink
more_cons [] = none
more_cons (c ∷ cs) = mark (codes "|") ▸ cons c.0 c.1 ▸ more_cons cs

abbrev pub variants : Cons → Ink
variants [] = none
variants (c ∷ cs) = cons c.0 c.1 ▸ more_cons cs

abbrev pub manifest : Option POTy → Ink
manifest None = none
manifest (Some t) = mark (codes "=") ▸ type_of t

abbrev pub definition : PTDef → Ink
definition (Alias vs n t) = params vs ▸ name n ▸ mark (codes "=") ▸ type_of t
definition (Variant vs n t cs) = params vs ▸ name n ▸ manifest t ▸ mark (codes "=") ▸ variants cs

abbrev pub more_definitions : List PTDef → Ink
more_definitions [] = none
more_definitions (d ∷ ds) = name (codes "and") ▸ definition d ▸ more_definitions ds

abbrev pub definitions : List PTDef → Ink
definitions [] = name (codes "type")
definitions (d ∷ ds) = name (codes "type") ▸ definition d ▸ more_definitions ds

-- ---- patterns

abbrev mutual
  pub apat : PAPat → Ink
  apat Any = mark (codes "_")
  apat (PVar x) = name x
  apat (PConst l) = noted (Lit l)
  apat (PCon q) = path q
  apat PUnit = mark (codes "(") ▸ mark (codes ")")
  apat (PParen p) = mark (codes "(") ▸ pat p ▸ mark (codes ")")
  apat (PTuple p ps) = mark (codes "(") ▸ apat p ▸ more_apats ps ▸ mark (codes ")")
  apat PNil = mark (codes "[") ▸ mark (codes "]")
  apat (PCell p) = mark (codes "{") ▸ name (codes "contents") ▸ mark (codes "=") ▸ pat p ▸ mark (codes "}")

  pub more_apats : PAPats → Ink
  more_apats NoPats = none
  more_apats (MorePats p ps) = mark (codes ",") ▸ apat p ▸ more_apats ps

  pub pat : PPat → Ink
  pat (PAt p) = apat p
  pat (PBuild q p) = path q ▸ apat p
  pat (PCons p q) = apat p ▸ mark (codes "::") ▸ apat q
  pat (PAs p x) = apat p ▸ name (codes "as") ▸ name x

-- ---- signatures

abbrev mutual
  pub msig : PMSig → Ink
  msig (Sig is) = bracketed (codes "sig") (λ n. sitems n is)

  pub sitem : PSItem → Ink
  sitem (SVal x t) = name (codes "val") ▸ name x ▸ mark (codes ":") ▸ type_of t
  sitem (STypes ds) = definitions ds
  sitem (SAbs vs n) = name (codes "type") ▸ params vs ▸ name n
  sitem (SExn n t) = name (codes "exception") ▸ cons n t
  sitem (SModule n s) = name (codes "module") ▸ name n ▸ mark (codes ":") ▸ msig s

  pub sitems : ℕ → PSItems → Ink
  sitems n NoSItems = none
  sitems n (MoreSItems i is) = item_line n ▸ sitem i ▸ sitems n is

-- ---- expressions, modules and items

abbrev mutual
  pub atom : PAtom → Ink
  atom (Const l) = noted (Lit l)
  atom (Val q) = value q
  atom (Con q) = path q
  atom Nothing = mark (codes "(") ▸ mark (codes ")")
  atom (Paren e) = mark (codes "(") ▸ full e ▸ mark (codes ")")
  atom (Tuple a xs) = mark (codes "(") ▸ atom a ▸ more_atoms (codes ",") xs ▸ mark (codes ")")
  atom (Items xs) = mark (codes "[") ▸ list_items xs ▸ mark (codes "]")

  pub list_items : PAtoms → Ink
  list_items NoAtoms = none
  list_items (MoreAtoms a xs) = atom a ▸ more_atoms (codes ";") xs

  pub more_atoms : List ℕ → PAtoms → Ink
  more_atoms between NoAtoms = none
  more_atoms between (MoreAtoms a xs) = mark between ▸ atom a ▸ more_atoms between xs

  -- each arm on a line of its own
  pub arms : ℕ → PArms → Ink
  arms n NoArms = none
  arms n (MoreArms p a xs) = line n ▸ mark (codes "|") ▸ pat p ▸ mark (codes "->") ▸ atom a ▸ arms n xs

  pub full : PFull → Ink
  full (Is e) = simple e
  full (LetIn p e f) = name (codes "let") ▸ pat p ▸ mark (codes "=") ▸ simple e ▸ name (codes "in") ▸ body ▸ full f
  full (LetRecIn bs f) = rec_binds bs ▸ name (codes "in") ▸ body ▸ full f
  full (LetMod n is f) = name (codes "let") ▸ name (codes "module") ▸ name n ▸ mark (codes "=") ▸ bracketed (codes "struct") (λ n. items n is) ▸ name (codes "in") ▸ body ▸ full f
  full (LetExn n t f) = name (codes "let") ▸ name (codes "exception") ▸ cons n t ▸ name (codes "in") ▸ body ▸ full f
  full (If a b c) = name (codes "if") ▸ atom a ▸ name (codes "then") ▸ atom b ▸ name (codes "else") ▸ atom c
  full (Match a xs) = here (λ l i. name (codes "match") ▸ atom a ▸ name (codes "with") ▸ arms (l + 2) xs)
  full (Try a xs) = here (λ l i. name (codes "try") ▸ atom a ▸ name (codes "with") ▸ arms (l + 2) xs)
  full (While a e) = name (codes "while") ▸ atom a ▸ name (codes "do") ▸ full e ▸ name (codes "done")
  full (Then a e) = atom a ▸ mark (codes ";") ▸ body ▸ full e

  pub item : PItem → Ink
  item (Let p e) = name (codes "let") ▸ pat p ▸ mark (codes "=") ▸ simple e
  item (LetRec bs) = rec_binds bs
  item (Types ds) = definitions ds
  item (Exn n t) = name (codes "exception") ▸ cons n t
  item (ExnAs n q) = name (codes "exception") ▸ name n ▸ mark (codes "=") ▸ path q
  item (Module n m) = name (codes "module") ▸ name n ▸ mark (codes "=") ▸ mexp m
  item (Sealed n s m) = name (codes "module") ▸ name n ▸ mark (codes ":") ▸ msig s ▸ mark (codes "=") ▸ mexp m
  item (Functor n x s m) = name (codes "module") ▸ name n ▸ mark (codes "(") ▸ name x ▸ mark (codes ":") ▸ msig s ▸ mark (codes ")") ▸ mark (codes "(") ▸ mark (codes ")") ▸ mark (codes "=") ▸ mexp m

  -- the items of a structure, each on a line of its own
  pub items : ℕ → PItems → Ink
  items n NoItems = none
  items n (MoreItems i is) = item_line n ▸ item i ▸ items n is

  pub mexp : PMExp → Ink
  mexp (MAt q) = path q
  mexp (Struct is) = bracketed (codes "struct") (λ n. items n is)
  mexp (Apply f a) = path f ▸ mark (codes "(") ▸ path a ▸ mark (codes ")") ▸ mark (codes "(") ▸ mark (codes ")")
  mexp (MSeal m s) = mark (codes "(") ▸ mexp m ▸ mark (codes ":") ▸ msig s ▸ mark (codes ")")

  pub rec_binds : PRBinds → Ink
  rec_binds NoBinds = name (codes "let") ▸ name (codes "rec")
  rec_binds (MoreBinds b bs) = name (codes "let") ▸ name (codes "rec") ▸ rbind b ▸ more_rbinds bs

  pub more_rbinds : PRBinds → Ink
  more_rbinds NoBinds = none
  more_rbinds (MoreBinds b bs) = name (codes "and") ▸ rbind b ▸ more_rbinds bs

  pub rbind : PRBind → Ink
  rbind (Plain f e) = name f ▸ mark (codes "=") ▸ simple e
  rbind (Poly f vs t e) = name f ▸ mark (codes ":") ▸ tyvars vs ▸ mark (codes ".") ▸ type_of t ▸ mark (codes "=") ▸ simple e

  pub simple : PSimple → Ink
  simple (One a) = atom a
  simple (Call a b) = atom a ▸ atom b
  simple (Build q a) = path q ▸ atom a
  simple (Oper a o b) = atom a ▸ operator o ▸ atom b
  simple (Fun p e) = name (codes "fun") ▸ apat p ▸ mark (codes "->") ▸ full e

-- the items of a text, each ended by a line feed
abbrev pub lines : PItems → Ink
lines NoItems = none
lines (MoreItems i is) = item i ▸ item_line 0 ▸ lines is

-- the bytes of a text
abbrev pub Layout : PItems → List ℕ
Layout text = (lines text blank).written
