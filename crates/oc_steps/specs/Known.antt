-- Which constructors are exceptions: what a name with a capital means where it stands, the last binding first.
use Rattle.std.specs.Prelude.{List, [], ◌∷◌, Option, Some, None, Bool, true, false, codes, if◌then◌else◌}
use Rattle.std.specs.Str.{bytes_eq}
use Rattle.oc_ast.specs.Plain.{Bytes, Long, Cons, PTDef, Alias, Variant, PItem, Let, LetRec, Types, Exn, ExnAs, Module, Sealed, Functor, PItems, NoItems, MoreItems, PMExp, MAt, Struct, Apply, MSeal}

pub data Known : Type 0 where
  Nobody : Known
  -- a constructor of a variant
  Builds : Bytes → Known → Known
  -- an exception
  Raises : Bytes → Known → Known
  -- a module
  Holds : Bytes → Known → Known → Known

-- whether the name is an exception
abbrev pub raised_of : Bytes → Known → Option Bool
raised_of x Nobody = None
raised_of x (Builds y k) = if bytes_eq x y then Some false else raised_of x k
raised_of x (Raises y k) = if bytes_eq x y then Some true else raised_of x k
raised_of x (Holds y b k) = raised_of x k

abbrev pub held_of : Bytes → Known → Option Known
held_of x Nobody = None
held_of x (Builds y k) = held_of x k
held_of x (Raises y k) = held_of x k
held_of x (Holds y b k) = if bytes_eq x y then Some b else held_of x k

abbrev pub in_held : {A : Type 0} → (Known → Option A) → Option Known → Option A
in_held look None = None
in_held look (Some b) = look b

-- what a path leads to: through its modules, to its last name
abbrev pub led : {A : Type 0} → (Bytes → Known → Option A) → Long → Known → Option A
led look [] k = None
led look (x ∷ []) k = look x k
led look (m ∷ x ∷ path) k = in_held (λ b. led look (x ∷ path) b) (held_of m k)

abbrev pub is_raised : Option Bool → Bool
is_raised None = false
is_raised (Some b) = b

-- the path is that of an exception
abbrev pub is_exception : Long → Known → Bool
is_exception path k = is_raised (led raised_of path k)

abbrev pub or_nobody : Option Known → Known
or_nobody None = Nobody
or_nobody (Some k) = k

-- b put over k
abbrev pub over : Known → Known → Known
over Nobody k = k
over (Builds x b) k = Builds x (over b k)
over (Raises x b) k = Raises x (over b k)
over (Holds x c b) k = Holds x c (over b k)

abbrev pub with_cons : Cons → Known → Known
with_cons [] k = k
with_cons (c ∷ cs) k = with_cons cs (Builds c.0 k)

abbrev pub with_defs : List PTDef → Known → Known
with_defs [] k = k
with_defs (Alias vs n w ∷ ds) k = with_defs ds k
with_defs (Variant vs n w cs ∷ ds) k = with_defs ds (with_cons cs k)

abbrev mutual
  -- what an item binds, where k is known
  pub item_knows : Known → PItem → Known
  item_knows k (Let p e) = Nobody
  item_knows k (LetRec rs) = Nobody
  item_knows k (Types ds) = with_defs ds Nobody
  item_knows k (Exn n w) = Raises n Nobody
  item_knows k (ExnAs n q) = Raises n Nobody
  item_knows k (Module m o) = Holds m (mod_knows k o) Nobody
  -- no rule yet
  item_knows k (Sealed m s o) = Nobody
  item_knows k (Functor f x s o) = Nobody

  pub items_know : Known → PItems → Known
  items_know k NoItems = Nobody
  items_know k (MoreItems i is) = over (items_know (over (item_knows k i) k) is) (item_knows k i)

  pub mod_knows : Known → PMExp → Known
  mod_knows k (MAt q) = or_nobody (led held_of q k)
  mod_knows k (Struct is) = items_know k is
  -- no rule yet
  mod_knows k (Apply f a) = Nobody
  mod_knows k (MSeal o s) = Nobody

-- before a text
abbrev pub at_first : Known
at_first = Builds (codes "true") (Builds (codes "false") Nobody)
