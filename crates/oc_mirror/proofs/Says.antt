-- The marks of a tree are those of its tokens.
use Rattle.std.proofs.Common.{◌≡◌, ℕ, Bool, true, false, List, [], ◌∷◌, ◌++◌, map, Option, Some, None, refl, sym, ap, ◌∙◌}
use Rattle.std.specs.Prelude.{codes, if◌then◌else◌}
use Rattle.oc_ast.specs.Plain.{Bytes, Long, PATy, PATys, NoATys, MoreATys, POTy, POTys, NoTys, MoreTys, TVar, TCon, TParen, TAt, TArrow, TTuple, Cons, PTDef, Alias, Variant, PAPat, Any, PVar, PConst, PCon, PUnit, PParen, PTuple, PNil, PCell, PAPats, NoPats, MorePats, PPat, PAt, PBuild, PCons, PAs, PMSig, Sig, PSItem, SVal, STypes, SAbs, SExn, SModule, PSItems, NoSItems, MoreSItems, PAtom, Const, Val, Con, Nothing, Paren, Tuple, Items, PAtoms, NoAtoms, MoreAtoms, PArms, NoArms, MoreArms, PFull, Is, LetIn, LetRecIn, LetMod, LetExn, If, Match, Try, While, Then, PItem, Let, LetRec, Types, Exn, ExnAs, Module, Sealed, Functor, PItems, NoItems, MoreItems, PMExp, MAt, Struct, Apply, MSeal, PRBind, Plain, Poly, PRBinds, NoBinds, MoreBinds, PSimple, One, Call, Build, Oper, Fun}
use Rattle.oc_rules.specs.Bytes.{is_letter, heads, is_bang}
use Rattle.oc_rules.specs.Token.{Token, Name, Tyvar, Sign, Lit}
use Rattle.oc_rules.specs.Tokens.{Tokens}
use Rattle.oc_rules.specs.Tokens as tokens
use Rattle.oc_mirror.proofs.Marks.{Marks, Round, Closed, Bang, tok, nm, of_sign, oper, m_more_path, m_path, m_value, m_tyvars, m_more_params, m_params, m_part, m_args, m_more_args, m_type, m_factors, m_cons, m_more_cons, m_variants, m_manifest, m_definition, m_more_definitions, m_definitions, m_apat, m_more_apats, m_pat, m_msig, m_sitem, m_sitems, m_atom, m_list_items, m_more_atoms, m_arms, m_full, m_item, m_items, m_mexp, m_rec_binds, m_more_rbinds, m_rbind, m_simple}

-- f puts the marks of these tokens before others
pub record Says (f : Marks → Marks) (xs : Tokens) : Type 0 where
  pub run : (r : Marks) → map tok xs ++ r ≡ f r

map_both : (xs ys : Tokens) (r : Marks) → map tok (xs ++ ys) ++ r ≡ map tok xs ++ (map tok ys ++ r)
map_both [] ys r = refl
map_both (x ∷ xs) ys r = ap (λ (z : Marks). tok x ∷ z) (map_both xs ys r)

infixr 60 ◌⊳◌
◌⊳◌ : {f g : Marks → Marks} {xs ys : Tokens} → Says f xs → Says g ys → Says (λ r. f (g r)) (xs ++ ys)
◌⊳◌ {f = f} {g = g} {xs = xs} {ys = ys} a b = record { run = λ r. map_both xs ys r ∙ (ap (λ (z : Marks). map tok xs ++ z) (b.run r) ∙ a.run (g r)) }

none : Says (λ r. r) []
none = record { run = λ r. refl }

one : (t : Token) → Says (λ r. tok t ∷ r) (t ∷ [])
one t = record { run = λ r. refl }

word : (n : Bytes) → Says (λ r. nm n ∷ r) (tokens.name n)
word n = one (Name n)

mark : (m : List ℕ) → Says (λ r. of_sign m ∷ r) (tokens.mark m)
mark m = one (Sign m)

more_path : (q : Long) → Says (m_more_path q) (tokens.more_path q)
more_path [] = none
more_path (n ∷ q) = mark (codes ".") ⊳ word n ⊳ more_path q

path : (q : Long) → Says (m_path q) (tokens.path q)
path [] = none
path (n ∷ q) = word n ⊳ more_path q

value_by : (b : Bool) (q : Long) → Says (λ r. if b then Round ∷ Bang ∷ Closed ∷ r else m_path q r) (if b then tokens.open_round ++ (tokens.mark (codes "!") ++ tokens.close_round) else tokens.path q)
value_by true q = mark (codes "(") ⊳ mark (codes "!") ⊳ mark (codes ")")
value_by false q = path q

value : (q : Long) → Says (m_value q) (tokens.value q)
value q = value_by (is_bang q) q

operator_by : (b : Bool) (o : Bytes) → Says (λ r. (if b then nm o else of_sign o) ∷ r) (if b then tokens.name o else tokens.mark o)
operator_by true o = word o
operator_by false o = mark o

operator : (o : Bytes) → Says (λ r. oper o ∷ r) (tokens.operator o)
operator o = operator_by (heads is_letter o) o

tyvars : (vs : List Bytes) → Says (m_tyvars vs) (tokens.tyvars vs)
tyvars [] = none
tyvars (v ∷ vs) = one (Tyvar v) ⊳ tyvars vs

more_params : (vs : List Bytes) → Says (m_more_params vs) (tokens.more_params vs)
more_params [] = none
more_params (v ∷ vs) = mark (codes ",") ⊳ one (Tyvar v) ⊳ more_params vs

params : (vs : List Bytes) → Says (m_params vs) (tokens.params vs)
params [] = none
params (v ∷ []) = one (Tyvar v)
params (v ∷ u ∷ vs) = mark (codes "(") ⊳ one (Tyvar v) ⊳ more_params (u ∷ vs) ⊳ mark (codes ")")

mutual
  part : (t : PATy) → Says (m_part t) (tokens.part t)
  part (TVar v) = one (Tyvar v)
  part (TCon ts q) = args ts ⊳ path q
  part (TParen t) = mark (codes "(") ⊳ type t ⊳ mark (codes ")")

  args : (ts : POTys) → Says (m_args ts) (tokens.args ts)
  args NoTys = none
  args (MoreTys t NoTys) = type t
  args (MoreTys t (MoreTys u us)) = mark (codes "(") ⊳ type t ⊳ more_args (MoreTys u us) ⊳ mark (codes ")")

  more_args : (ts : POTys) → Says (m_more_args ts) (tokens.more_args ts)
  more_args NoTys = none
  more_args (MoreTys t ts) = mark (codes ",") ⊳ type t ⊳ more_args ts

  type : (t : POTy) → Says (m_type t) (tokens.type_of t)
  type (TAt t) = part t
  type (TArrow t u) = part t ⊳ mark (codes "->") ⊳ type u
  type (TTuple t ts) = part t ⊳ factors ts

  factors : (ts : PATys) → Says (m_factors ts) (tokens.factors ts)
  factors NoATys = none
  factors (MoreATys t ts) = mark (codes "*") ⊳ part t ⊳ factors ts

cons : (n : Bytes) (t : Option PATy) → Says (m_cons n t) (tokens.cons n t)
cons n None = word n
cons n (Some t) = word n ⊳ word (codes "of") ⊳ part t

more_cons : (cs : Cons) → Says (m_more_cons cs) (tokens.more_cons cs)
more_cons [] = none
more_cons (c ∷ cs) = mark (codes "|") ⊳ cons c.0 c.1 ⊳ more_cons cs

variants : (cs : Cons) → Says (m_variants cs) (tokens.variants cs)
variants [] = none
variants (c ∷ cs) = cons c.0 c.1 ⊳ more_cons cs

manifest : (t : Option POTy) → Says (m_manifest t) (tokens.manifest t)
manifest None = none
manifest (Some t) = mark (codes "=") ⊳ type t

definition : (d : PTDef) → Says (m_definition d) (tokens.definition d)
definition (Alias vs n t) = params vs ⊳ word n ⊳ mark (codes "=") ⊳ type t
definition (Variant vs n t cs) = params vs ⊳ word n ⊳ manifest t ⊳ mark (codes "=") ⊳ variants cs

more_definitions : (ds : List PTDef) → Says (m_more_definitions ds) (tokens.more_definitions ds)
more_definitions [] = none
more_definitions (d ∷ ds) = word (codes "and") ⊳ definition d ⊳ more_definitions ds

definitions : (ds : List PTDef) → Says (m_definitions ds) (tokens.definitions ds)
definitions [] = word (codes "type")
definitions (d ∷ ds) = word (codes "type") ⊳ definition d ⊳ more_definitions ds

mutual
  apat : (p : PAPat) → Says (m_apat p) (tokens.apat p)
  apat Any = mark (codes "_")
  apat (PVar x) = word x
  apat (PConst l) = one (Lit l)
  apat (PCon q) = path q
  apat PUnit = mark (codes "(") ⊳ mark (codes ")")
  apat (PParen p) = mark (codes "(") ⊳ pat p ⊳ mark (codes ")")
  apat (PTuple p ps) = mark (codes "(") ⊳ apat p ⊳ more_apats ps ⊳ mark (codes ")")
  apat PNil = mark (codes "[") ⊳ mark (codes "]")
  apat (PCell p) = mark (codes "{") ⊳ word (codes "contents") ⊳ mark (codes "=") ⊳ pat p ⊳ mark (codes "}")

  more_apats : (ps : PAPats) → Says (m_more_apats ps) (tokens.more_apats ps)
  more_apats NoPats = none
  more_apats (MorePats p ps) = mark (codes ",") ⊳ apat p ⊳ more_apats ps

  pat : (p : PPat) → Says (m_pat p) (tokens.pat p)
  pat (PAt p) = apat p
  pat (PBuild q p) = path q ⊳ apat p
  pat (PCons p q) = apat p ⊳ mark (codes "::") ⊳ apat q
  pat (PAs p x) = apat p ⊳ word (codes "as") ⊳ word x

mutual
  msig : (s : PMSig) → Says (m_msig s) (tokens.msig s)
  msig (Sig is) = word (codes "sig") ⊳ sitems is ⊳ word (codes "end")

  sitem : (i : PSItem) → Says (m_sitem i) (tokens.sitem i)
  sitem (SVal x t) = word (codes "val") ⊳ word x ⊳ mark (codes ":") ⊳ type t
  sitem (STypes ds) = definitions ds
  sitem (SAbs vs n) = word (codes "type") ⊳ params vs ⊳ word n
  sitem (SExn n t) = word (codes "exception") ⊳ cons n t
  sitem (SModule n s) = word (codes "module") ⊳ word n ⊳ mark (codes ":") ⊳ msig s

  sitems : (is : PSItems) → Says (m_sitems is) (tokens.sitems is)
  sitems NoSItems = none
  sitems (MoreSItems i is) = sitem i ⊳ sitems is

mutual
  atom : (a : PAtom) → Says (m_atom a) (tokens.atom a)
  atom (Const l) = one (Lit l)
  atom (Val q) = value q
  atom (Con q) = path q
  atom Nothing = mark (codes "(") ⊳ mark (codes ")")
  atom (Paren e) = mark (codes "(") ⊳ full e ⊳ mark (codes ")")
  atom (Tuple a xs) = mark (codes "(") ⊳ atom a ⊳ more_atoms (codes ",") xs ⊳ mark (codes ")")
  atom (Items xs) = mark (codes "[") ⊳ list_items xs ⊳ mark (codes "]")

  list_items : (xs : PAtoms) → Says (m_list_items xs) (tokens.list_items xs)
  list_items NoAtoms = none
  list_items (MoreAtoms a xs) = atom a ⊳ more_atoms (codes ";") xs

  more_atoms : (m : List ℕ) (xs : PAtoms) → Says (m_more_atoms (of_sign m) xs) (tokens.more_atoms (tokens.mark m) xs)
  more_atoms m NoAtoms = none
  more_atoms m (MoreAtoms a xs) = mark m ⊳ atom a ⊳ more_atoms m xs

  arms : (xs : PArms) → Says (m_arms xs) (tokens.arms xs)
  arms NoArms = none
  arms (MoreArms p a xs) = mark (codes "|") ⊳ pat p ⊳ mark (codes "->") ⊳ atom a ⊳ arms xs

  full : (e : PFull) → Says (m_full e) (tokens.full e)
  full (Is e) = simple e
  full (LetIn p e f) = word (codes "let") ⊳ pat p ⊳ mark (codes "=") ⊳ simple e ⊳ word (codes "in") ⊳ full f
  full (LetRecIn bs f) = rec_binds bs ⊳ word (codes "in") ⊳ full f
  full (LetMod n is f) = word (codes "let") ⊳ word (codes "module") ⊳ word n ⊳ mark (codes "=") ⊳ (word (codes "struct") ⊳ items is ⊳ word (codes "end")) ⊳ word (codes "in") ⊳ full f
  full (LetExn n t f) = word (codes "let") ⊳ word (codes "exception") ⊳ cons n t ⊳ word (codes "in") ⊳ full f
  full (If a b c) = word (codes "if") ⊳ atom a ⊳ word (codes "then") ⊳ atom b ⊳ word (codes "else") ⊳ atom c
  full (Match a xs) = word (codes "match") ⊳ atom a ⊳ word (codes "with") ⊳ arms xs
  full (Try a xs) = word (codes "try") ⊳ atom a ⊳ word (codes "with") ⊳ arms xs
  full (While a e) = word (codes "while") ⊳ atom a ⊳ word (codes "do") ⊳ full e ⊳ word (codes "done")
  full (Then a e) = atom a ⊳ mark (codes ";") ⊳ full e

  item : (i : PItem) → Says (m_item i) (tokens.item i)
  item (Let p e) = word (codes "let") ⊳ pat p ⊳ mark (codes "=") ⊳ simple e
  item (LetRec bs) = rec_binds bs
  item (Types ds) = definitions ds
  item (Exn n t) = word (codes "exception") ⊳ cons n t
  item (ExnAs n q) = word (codes "exception") ⊳ word n ⊳ mark (codes "=") ⊳ path q
  item (Module n m) = word (codes "module") ⊳ word n ⊳ mark (codes "=") ⊳ mexp m
  item (Sealed n s m) = word (codes "module") ⊳ word n ⊳ mark (codes ":") ⊳ msig s ⊳ mark (codes "=") ⊳ mexp m
  item (Functor n x s m) = word (codes "module") ⊳ word n ⊳ mark (codes "(") ⊳ word x ⊳ mark (codes ":") ⊳ msig s ⊳ mark (codes ")") ⊳ mark (codes "(") ⊳ mark (codes ")") ⊳ mark (codes "=") ⊳ mexp m

  items : (is : PItems) → Says (m_items is) (tokens.items is)
  items NoItems = none
  items (MoreItems i is) = item i ⊳ items is

  mexp : (m : PMExp) → Says (m_mexp m) (tokens.mexp m)
  mexp (MAt q) = path q
  mexp (Struct is) = word (codes "struct") ⊳ items is ⊳ word (codes "end")
  mexp (Apply f a) = path f ⊳ mark (codes "(") ⊳ path a ⊳ mark (codes ")") ⊳ mark (codes "(") ⊳ mark (codes ")")
  mexp (MSeal m s) = mark (codes "(") ⊳ mexp m ⊳ mark (codes ":") ⊳ msig s ⊳ mark (codes ")")

  rec_binds : (bs : PRBinds) → Says (m_rec_binds bs) (tokens.rec_binds bs)
  rec_binds NoBinds = word (codes "let") ⊳ word (codes "rec")
  rec_binds (MoreBinds b bs) = word (codes "let") ⊳ word (codes "rec") ⊳ rbind b ⊳ more_rbinds bs

  more_rbinds : (bs : PRBinds) → Says (m_more_rbinds bs) (tokens.more_rbinds bs)
  more_rbinds NoBinds = none
  more_rbinds (MoreBinds b bs) = word (codes "and") ⊳ rbind b ⊳ more_rbinds bs

  rbind : (b : PRBind) → Says (m_rbind b) (tokens.rbind b)
  rbind (Plain f e) = word f ⊳ mark (codes "=") ⊳ simple e
  rbind (Poly f vs t e) = word f ⊳ mark (codes ":") ⊳ tyvars vs ⊳ mark (codes ".") ⊳ type t ⊳ mark (codes "=") ⊳ simple e

  simple : (e : PSimple) → Says (m_simple e) (tokens.simple e)
  simple (One a) = atom a
  simple (Call a b) = atom a ⊳ atom b
  simple (Build q a) = path q ⊳ atom a
  simple (Oper a o b) = atom a ⊳ operator o ⊳ atom b
  simple (Fun p e) = word (codes "fun") ⊳ apat p ⊳ mark (codes "->") ⊳ full e

-- the marks of a text are a function of its tokens
pub same_marks : (t u : PItems) → tokens.items t ≡ tokens.items u → m_items t [] ≡ m_items u []
same_marks t u e = sym ((items t).run []) ∙ (ap (λ (z : Tokens). map tok z ++ []) e ∙ (items u).run [])
