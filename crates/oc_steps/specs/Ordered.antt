-- Texts in which at most one part of each row of parts is not still. Rows are calls, constructors, tuples, lists and
-- operators but && and ||.
use Rattle.std.specs.Prelude.{◌⊎◌, ⊤, Option, Some, None}
use Rattle.oc_ast.specs.Plain.{PAtom, Const, Val, Con, Nothing, Paren, Tuple, Items, PAtoms, NoAtoms, MoreAtoms, PArms, NoArms, MoreArms, PFull, Is, LetIn, LetRecIn, LetMod, LetExn, If, Match, Try, While, Then, PItem, Let, LetRec, Types, Exn, ExnAs, Module, Sealed, Functor, PItems, NoItems, MoreItems, PMExp, MAt, Struct, Apply, MSeal, PRBind, Plain, Poly, PRBinds, NoBinds, MoreBinds, PSimple, One, Call, Build, Oper, Fun}
use Rattle.oc_steps.specs.Operators.{Form, AndAlso, OrElse, Prefixes, Acts, form_of}

-- the operator only makes a constructor
abbrev pub OnlyBuilds : Option Form → Type 0
OnlyBuilds None = ⊥
OnlyBuilds (Some AndAlso) = ⊥
OnlyBuilds (Some OrElse) = ⊥
OnlyBuilds (Some Prefixes) = ⊤
OnlyBuilds (Some (Acts o)) = ⊥

-- the operator evaluates its parts in a fixed order
abbrev pub HasOrder : Option Form → Type 0
HasOrder None = ⊥
HasOrder (Some AndAlso) = ⊤
HasOrder (Some OrElse) = ⊤
HasOrder (Some Prefixes) = ⊥
HasOrder (Some (Acts o)) = ⊥

-- a phrase that only makes its value: a literal, a path, a function, or a constructor, a tuple or a list of such
abbrev mutual
  pub StillAtom : PAtom → Type 0
  StillAtom (Const l) = ⊤
  StillAtom (Val q) = ⊤
  StillAtom (Con q) = ⊤
  StillAtom Nothing = ⊤
  StillAtom (Paren f) = StillFull f
  StillAtom (Tuple a xs) = StillAtom a × StillAtoms xs
  StillAtom (Items xs) = StillAtoms xs

  pub StillAtoms : PAtoms → Type 0
  StillAtoms NoAtoms = ⊤
  StillAtoms (MoreAtoms a xs) = StillAtom a × StillAtoms xs

  pub StillFull : PFull → Type 0
  StillFull (Is e) = StillSimple e
  StillFull (LetIn p e f) = ⊥
  StillFull (LetRecIn rs f) = ⊥
  StillFull (LetMod m is f) = ⊥
  StillFull (LetExn n w f) = ⊥
  StillFull (If a b c) = ⊥
  StillFull (Match a arms) = ⊥
  StillFull (Try a arms) = ⊥
  StillFull (While a f) = ⊥
  StillFull (Then a f) = ⊥

  pub StillSimple : PSimple → Type 0
  StillSimple (One a) = StillAtom a
  StillSimple (Call f a) = ⊥
  StillSimple (Build q a) = StillAtom a
  StillSimple (Oper a o b) = OnlyBuilds (form_of o) × StillAtom a × StillAtom b
  StillSimple (Fun p f) = ⊤

-- all are still, but perhaps one
abbrev pub OneActive : PAtoms → Type 0
OneActive NoAtoms = ⊤
OneActive (MoreAtoms a xs) = (StillAtom a × OneActive xs) ⊎ StillAtoms xs

abbrev mutual
  pub AtomOrdered : PAtom → Type 0
  AtomOrdered (Const l) = ⊤
  AtomOrdered (Val q) = ⊤
  AtomOrdered (Con q) = ⊤
  AtomOrdered Nothing = ⊤
  AtomOrdered (Paren f) = FullOrdered f
  AtomOrdered (Tuple a xs) = OneActive (MoreAtoms a xs) × AtomOrdered a × AtomsOrdered xs
  AtomOrdered (Items xs) = OneActive xs × AtomsOrdered xs

  pub AtomsOrdered : PAtoms → Type 0
  AtomsOrdered NoAtoms = ⊤
  AtomsOrdered (MoreAtoms a xs) = AtomOrdered a × AtomsOrdered xs

  pub ArmsOrdered : PArms → Type 0
  ArmsOrdered NoArms = ⊤
  ArmsOrdered (MoreArms p a arms) = AtomOrdered a × ArmsOrdered arms

  pub SimpleOrdered : PSimple → Type 0
  SimpleOrdered (One a) = AtomOrdered a
  SimpleOrdered (Call f a) = (StillAtom f ⊎ StillAtom a) × AtomOrdered f × AtomOrdered a
  SimpleOrdered (Build q a) = AtomOrdered a
  SimpleOrdered (Oper a o b) = (HasOrder (form_of o) ⊎ (StillAtom a ⊎ StillAtom b)) × AtomOrdered a × AtomOrdered b
  SimpleOrdered (Fun p f) = FullOrdered f

  pub FullOrdered : PFull → Type 0
  FullOrdered (Is e) = SimpleOrdered e
  FullOrdered (LetIn p e f) = SimpleOrdered e × FullOrdered f
  FullOrdered (LetRecIn rs f) = BindsOrdered rs × FullOrdered f
  FullOrdered (LetMod m is f) = ItemsOrdered is × FullOrdered f
  FullOrdered (LetExn n w f) = FullOrdered f
  FullOrdered (If a b c) = AtomOrdered a × AtomOrdered b × AtomOrdered c
  FullOrdered (Match a arms) = AtomOrdered a × ArmsOrdered arms
  FullOrdered (Try a arms) = AtomOrdered a × ArmsOrdered arms
  FullOrdered (While a f) = AtomOrdered a × FullOrdered f
  FullOrdered (Then a f) = AtomOrdered a × FullOrdered f

  pub BindsOrdered : PRBinds → Type 0
  BindsOrdered NoBinds = ⊤
  BindsOrdered (MoreBinds r rs) = BindOrdered r × BindsOrdered rs

  pub BindOrdered : PRBind → Type 0
  BindOrdered (Plain x e) = SimpleOrdered e
  BindOrdered (Poly x vs w e) = SimpleOrdered e

  pub ItemOrdered : PItem → Type 0
  ItemOrdered (Let p e) = SimpleOrdered e
  ItemOrdered (LetRec rs) = BindsOrdered rs
  ItemOrdered (Types ds) = ⊤
  ItemOrdered (Exn n w) = ⊤
  ItemOrdered (ExnAs n q) = ⊤
  ItemOrdered (Module m o) = ModOrdered o
  ItemOrdered (Sealed m s o) = ModOrdered o
  ItemOrdered (Functor f x s o) = ModOrdered o

  pub ItemsOrdered : PItems → Type 0
  ItemsOrdered NoItems = ⊤
  ItemsOrdered (MoreItems i is) = ItemOrdered i × ItemsOrdered is

  pub ModOrdered : PMExp → Type 0
  ModOrdered (MAt q) = ⊤
  ModOrdered (Struct is) = ItemsOrdered is
  ModOrdered (Apply f a) = ⊤
  ModOrdered (MSeal o s) = ModOrdered o

-- the text is ordered
abbrev pub Ordered : PItems → Type 0
Ordered = ItemsOrdered
