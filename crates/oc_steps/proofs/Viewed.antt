-- What is still or ordered in a text is so in the trees of its runs.
use Rattle.std.proofs.Common.{◌⊎◌, inl, inr, Option, Some, None, Bool, true, false, refl}
use Rattle.oc_ast.specs.Plain.{Bytes, Long, PAtom, Const, Val, Con, Nothing, Paren, Tuple, Items, PAtoms, NoAtoms, MoreAtoms, PArms, NoArms, MoreArms, PFull, Is, LetIn, LetRecIn, LetMod, LetExn, If, Match, Try, While, Then, PItem, Let, LetRec, Types, Exn, ExnAs, Module, Sealed, Functor, PItems, NoItems, MoreItems, PMExp, MAt, Struct, Apply, MSeal, PRBind, Plain, Poly, PRBinds, NoBinds, MoreBinds, PSimple, One, Call, Build, Oper, Fun}
use Rattle.runs.specs.Forms.{one}
use Rattle.runs.specs.Primitives.{cons_part}
use Rattle.runs.specs.Tree as run
use Rattle.runs.specs.Ordered as run_order
use Rattle.oc_steps.specs.Known.{Known, Holds, Raises, is_exception, item_knows, items_know, over}
use Rattle.oc_steps.specs.Operators.{Form, AndAlso, OrElse, Prefixes, Acts, form_of, form_tree}
use Rattle.oc_steps.specs.Ordered.{OnlyBuilds, HasOrder, StillAtom, StillAtoms, StillFull, StillSimple, OneActive, AtomOrdered, AtomsOrdered, ArmsOrdered, SimpleOrdered, FullOrdered, BindsOrdered, BindOrdered, ItemOrdered, ItemsOrdered, ModOrdered}
use Rattle.oc_steps.specs.View.{con_tree, atom_tree, atoms_tree, arms_tree, simple_tree, full_tree, binds_tree, bind_tree, rules_tree, items_tree, item_tree, mod_tree}

con_still : (b : Bool) (q : Long) (es : run.Exps) → run_order.AllStill es → run_order.Still (con_tree b q es)
con_still true q es h = (refl, (tt, h))
con_still false q es h = (refl, h)

form_still : (o : Option Form) (a b : run.Exp) → OnlyBuilds o → run_order.Still a → run_order.Still b → run_order.Still (form_tree o a b)
form_still None a b w h k = absurd w
form_still (Some AndAlso) a b w h k = absurd w
form_still (Some OrElse) a b w h k = absurd w
form_still (Some Prefixes) a b w h k = (refl, (h, (k, tt)))
form_still (Some (Acts o)) a b w h k = absurd w

mutual
  pub atom_still : (k : Known) (a : PAtom) → StillAtom a → run_order.Still (atom_tree k a)
  atom_still k (Const l) h = tt
  atom_still k (Val q) h = tt
  atom_still k (Con q) h = con_still (is_exception q k) q run.Nil tt
  atom_still k Nothing h = (refl, tt)
  atom_still k (Paren f) h = full_still k f h
  atom_still k (Tuple a xs) h = (refl, (atom_still k a h.0, atoms_still k xs h.1))
  atom_still k (Items xs) h = (refl, atoms_still k xs h)

  pub atoms_still : (k : Known) (xs : PAtoms) → StillAtoms xs → run_order.AllStill (atoms_tree k xs)
  atoms_still k NoAtoms h = tt
  atoms_still k (MoreAtoms a xs) h = (atom_still k a h.0, atoms_still k xs h.1)

  pub full_still : (k : Known) (f : PFull) → StillFull f → run_order.Still (full_tree k f)
  full_still k (Is e) h = simple_still k e h
  full_still k (LetIn p e f) h = absurd h
  full_still k (LetRecIn rs f) h = absurd h
  full_still k (LetMod m is f) h = absurd h
  full_still k (LetExn n w f) h = absurd h
  full_still k (If a b c) h = absurd h
  full_still k (Match a arms) h = absurd h
  full_still k (Try a arms) h = absurd h
  full_still k (While a f) h = absurd h
  full_still k (Then a f) h = absurd h

  pub simple_still : (k : Known) (e : PSimple) → StillSimple e → run_order.Still (simple_tree k e)
  simple_still k (One a) h = atom_still k a h
  simple_still k (Call f a) h = absurd h
  simple_still k (Build q a) h = con_still (is_exception q k) q (one (atom_tree k a)) (atom_still k a h, tt)
  simple_still k (Oper a o b) h = form_still (form_of o) (atom_tree k a) (atom_tree k b) h.0 (atom_still k a h.1) (atom_still k b h.2)
  simple_still k (Fun p f) h = tt

pub one_active : (k : Known) (xs : PAtoms) → OneActive xs → run_order.OneActive (atoms_tree k xs)
one_active k NoAtoms h = tt
one_active k (MoreAtoms a xs) (inl h) = inl (atom_still k a h.0, one_active k xs h.1)
one_active k (MoreAtoms a xs) (inr h) = inr (atoms_still k xs h)

-- a row of two parts
abbrev pub StillOne : run.Exp → run.Exp → Type 0
StillOne a b = run_order.Still a ⊎ run_order.Still b

one_still : (k : Known) (a b : PAtom) → StillAtom a ⊎ StillAtom b → StillOne (atom_tree k a) (atom_tree k b)
one_still k a b (inl h) = inl (atom_still k a h)
one_still k a b (inr h) = inr (atom_still k b h)

pair_ordered : (op : run.Op) (a b : run.Exp) → StillOne a b → run_order.Ordered a → run_order.Ordered b → run_order.Ordered (run.Node op (run.Cons a (run.Cons b run.Nil)))
pair_ordered op a b (inl s) h k = (inl (s, inr tt), (h, (k, tt)))
pair_ordered op a b (inr s) h k = (inr (s, tt), (h, (k, tt)))

con_ordered : (b : Bool) (q : Long) → run_order.Ordered (con_tree b q run.Nil)
con_ordered true q = (inr tt, (tt, tt))
con_ordered false q = (tt, tt)

build_ordered : (b : Bool) (q : Long) (a : run.Exp) → run_order.Ordered a → run_order.Ordered (con_tree b q (one a))
build_ordered true q a h = (inl (tt, inr tt), (tt, (h, tt)))
build_ordered false q a h = (inr tt, (h, tt))

form_ordered : (o : Option Form) (a b : run.Exp) → HasOrder o ⊎ StillOne a b → run_order.Ordered a → run_order.Ordered b → run_order.Ordered (form_tree o a b)
form_ordered None a b w h k = tt
form_ordered (Some AndAlso) a b w h k = (tt, h, (k, ((tt, tt), tt)))
form_ordered (Some OrElse) a b w h k = (tt, h, ((tt, tt), (k, tt)))
form_ordered (Some Prefixes) a b (inl w) h k = absurd w
form_ordered (Some Prefixes) a b (inr w) h k = pair_ordered (run.Build cons_part) a b w h k
form_ordered (Some (Acts o)) a b (inl w) h k = absurd w
form_ordered (Some (Acts o)) a b (inr w) h k = pair_ordered (run.Oper o) a b w h k

order_or_still : (k : Known) (o : Option Form) (a b : PAtom) → HasOrder o ⊎ (StillAtom a ⊎ StillAtom b) → HasOrder o ⊎ StillOne (atom_tree k a) (atom_tree k b)
order_or_still k o a b (inl h) = inl h
order_or_still k o a b (inr h) = inr (one_still k a b h)

mutual
  pub atom_ordered : (k : Known) (a : PAtom) → AtomOrdered a → run_order.Ordered (atom_tree k a)
  atom_ordered k (Const l) h = tt
  atom_ordered k (Val q) h = tt
  atom_ordered k (Con q) h = con_ordered (is_exception q k) q
  atom_ordered k Nothing h = (tt, tt)
  atom_ordered k (Paren f) h = full_ordered k f h
  atom_ordered k (Tuple a xs) h = (one_active k (MoreAtoms a xs) h.0, (atom_ordered k a h.1, atoms_ordered k xs h.2))
  atom_ordered k (Items xs) h = (one_active k xs h.0, atoms_ordered k xs h.1)

  pub atoms_ordered : (k : Known) (xs : PAtoms) → AtomsOrdered xs → run_order.AllOrdered (atoms_tree k xs)
  atoms_ordered k NoAtoms h = tt
  atoms_ordered k (MoreAtoms a xs) h = (atom_ordered k a h.0, atoms_ordered k xs h.1)

  pub arms_ordered : (k : Known) (arms : PArms) → ArmsOrdered arms → run_order.OrderedRules (arms_tree k arms)
  arms_ordered k NoArms h = tt
  arms_ordered k (MoreArms p a arms) h = (atom_ordered k a h.0, arms_ordered k arms h.1)

  pub simple_ordered : (k : Known) (e : PSimple) → SimpleOrdered e → run_order.Ordered (simple_tree k e)
  simple_ordered k (One a) h = atom_ordered k a h
  simple_ordered k (Call f a) h = pair_ordered run.Apply (atom_tree k f) (atom_tree k a) (one_still k f a h.0) (atom_ordered k f h.1) (atom_ordered k a h.2)
  simple_ordered k (Build q a) h = build_ordered (is_exception q k) q (atom_tree k a) (atom_ordered k a h)
  simple_ordered k (Oper a o b) h = form_ordered (form_of o) (atom_tree k a) (atom_tree k b) (order_or_still k (form_of o) a b h.0) (atom_ordered k a h.1) (atom_ordered k b h.2)
  simple_ordered k (Fun p f) h = (tt, (full_ordered k f h, tt))

  pub full_ordered : (k : Known) (f : PFull) → FullOrdered f → run_order.Ordered (full_tree k f)
  full_ordered k (Is e) h = simple_ordered k e h
  full_ordered k (LetIn p e f) h = (tt, simple_ordered k e h.0, (full_ordered k f h.1, tt))
  full_ordered k (LetRecIn rs f) h = (binds_ordered k rs h.0, full_ordered k f h.1)
  full_ordered k (LetMod m is f) h = ((λ x. tt), items_ordered k is h.0, full_ordered (Holds m (items_know k is) k) f h.1)
  full_ordered k (LetExn n w f) h = full_ordered (Raises n k) f h
  full_ordered k (If a b c) h = (tt, atom_ordered k a h.0, (atom_ordered k b h.1, (atom_ordered k c h.2, tt)))
  full_ordered k (Match a arms) h = (tt, atom_ordered k a h.0, arms_ordered k arms h.1)
  full_ordered k (Try a arms) h = (atom_ordered k a h.0, arms_ordered k arms h.1)
  full_ordered k (While a f) h =
      ((tt, ((tt, atom_ordered k a h.0, ((tt, full_ordered k f h.1, ((inl (tt, inr tt), (tt, ((tt, tt), tt))), tt)), ((tt, tt), tt))), tt), tt), (inl (tt, inr tt), (tt, ((tt, tt), tt))))
  full_ordered k (Then a f) h = (tt, atom_ordered k a h.0, (full_ordered k f h.1, tt))

  pub binds_ordered : (k : Known) (rs : PRBinds) → BindsOrdered rs → run_order.OrderedFuns (binds_tree k rs)
  binds_ordered k NoBinds h = tt
  binds_ordered k (MoreBinds r rs) h = bind_ordered k r (binds_tree k rs) h.0 (binds_ordered k rs h.1)

  pub bind_ordered : (k : Known) (r : PRBind) (more : run.Funs) → BindOrdered r → run_order.OrderedFuns more → run_order.OrderedFuns (bind_tree k r more)
  bind_ordered k (Plain x e) more h m = (tt, rules_ordered k e h, m)
  bind_ordered k (Poly x vs w e) more h m = (tt, rules_ordered k e h, m)

  pub rules_ordered : (k : Known) (e : PSimple) → SimpleOrdered e → run_order.OrderedRules (rules_tree k e)
  rules_ordered k (Fun p f) h = (full_ordered k f h, tt)
  rules_ordered k (One a) h = tt
  rules_ordered k (Call f a) h = tt
  rules_ordered k (Build q a) h = tt
  rules_ordered k (Oper a o b) h = tt

  pub items_ordered : (k : Known) (is : PItems) → ItemsOrdered is → run_order.OrderedItems (items_tree k is)
  items_ordered k NoItems h = tt
  items_ordered k (MoreItems i is) h = item_ordered k i (items_tree (over (item_knows k i) k) is) h.0 (items_ordered (over (item_knows k i) k) is h.1)

  pub item_ordered : (k : Known) (i : PItem) (more : run.Items) → ItemOrdered i → run_order.OrderedItems more → run_order.OrderedItems (item_tree k i more)
  item_ordered k (Let p e) more h m = (tt, simple_ordered k e h, m)
  item_ordered k (LetRec rs) more h m = (binds_ordered k rs h, m)
  item_ordered k (Types ds) more h m = m
  item_ordered k (Exn n w) more h m = m
  item_ordered k (ExnAs n q) more h m = (tt, tt, m)
  item_ordered k (Module n o) more h m = mod_ordered k n o more h m
  item_ordered k (Sealed n s o) more h m = (tt, tt, m)
  item_ordered k (Functor f x s o) more h m = (tt, tt, m)

  pub mod_ordered : (k : Known) (n : Bytes) (o : PMExp) (more : run.Items) → ModOrdered o → run_order.OrderedItems more → run_order.OrderedItems (mod_tree k n o more)
  mod_ordered k n (MAt q) more h m = m
  mod_ordered k n (Struct is) more h m = (items_ordered k is h, m)
  mod_ordered k n (Apply f a) more h m = (tt, tt, m)
  mod_ordered k n (MSeal o s) more h m = (tt, tt, m)
