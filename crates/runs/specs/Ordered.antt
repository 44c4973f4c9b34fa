-- Texts in which at most one part of each row is not still.
use Rattle.std.specs.Prelude.{◌≡◌, ◌⊎◌, List, [], ◌∷◌, Option, Some, None, true}
use Rattle.runs.specs.Env.{Env}
use Rattle.runs.specs.Names.{Name}
use Rattle.runs.specs.Primitives.{body, pure}
use Rattle.runs.specs.Scope.{Scope}
use Rattle.runs.specs.Tree.{Absent, Alias, Applied, Case, Clo, Con, Cons, Datum, End, Exception, Exn, Exp, Exps, Fail, Fall, Fn, Found, Fun, Functions, Functor, FunctorOf, Funs, Group, InMod, InStruct, Is, Item, Items, LetMod, Lit, Loc, Module, Nam, NewExn, Nil, NoFuns, NoVals, Node, Prim, Raises, Rec, Rule, Rules, Stop, Struct, StructOf, Stuck, There, Try, Tup, Val, Vals, Value, Var}

abbrev mutual
  -- a tree that only makes its value: a literal, a name, a function, or a tuple, a constructor or a list of such
  pub Still : Exp → Type 0
  Still (Is v) = Unit {0}
  Still (Lit n) = Unit {0}
  Still (Var x) = Unit {0}
  Still (Fn f rs) = Unit {0}
  Still (Node op es) = (pure op ≡ true) × AllStill es
  Still _ = ⊥

  pub AllStill : Exps → Type 0
  AllStill Nil = Unit {0}
  AllStill (Cons e es) = Still e × AllStill es

-- all are still, but perhaps one
abbrev pub OneActive : Exps → Type 0
OneActive Nil = Unit {0}
OneActive (Cons e es) = (Still e × OneActive es) ⊎ AllStill es

abbrev mutual
  -- in each row of the tree all parts are still, but perhaps one
  pub Ordered : Exp → Type 0
  Ordered (Is v) = OrderedVal v
  Ordered (Fail v) = OrderedVal v
  Ordered (Lit n) = Unit {0}
  Ordered (Var x) = Unit {0}
  Ordered (Fn f rs) = OrderedFall f × OrderedRules rs
  Ordered (Group fs b) = OrderedFuns fs × Ordered b
  Ordered (Node op es) = OneActive es × AllOrdered es
  Ordered (Case f a rs) = OrderedFall f × Ordered a × OrderedRules rs
  Ordered (NewExn x b) = Ordered b
  Ordered (Try a rs) = Ordered a × OrderedRules rs
  Ordered (LetMod e p is b) = ((x : Name) → OrderedFound (e x)) × OrderedItems is × Ordered b
  -- on its way it stands in runs alone
  Ordered (InMod p w b) = ⊥
  Ordered (StructOf e is) = ((x : Name) → OrderedFound (e x)) × OrderedItems is
  Ordered (InStruct w) = ⊥

  pub AllOrdered : Exps → Type 0
  AllOrdered Nil = Unit {0}
  AllOrdered (Cons e es) = Ordered e × AllOrdered es

  pub OrderedRules : Rules → Type 0
  OrderedRules Stop = Unit {0}
  OrderedRules (Rule p b rs) = Ordered b × OrderedRules rs

  pub OrderedFuns : Funs → Type 0
  OrderedFuns NoFuns = Unit {0}
  OrderedFuns (Fun g f rs fs) = OrderedFall f × OrderedRules rs × OrderedFuns fs

  -- the same of the functions in a value
  pub OrderedVal : Val → Type 0
  OrderedVal (Datum n) = Unit {0}
  OrderedVal (Tup vs) = OrderedVals vs
  OrderedVal (Con c vs) = OrderedVals vs
  OrderedVal (Clo f rs) = OrderedFall f × OrderedRules rs
  OrderedVal (Rec fs g) = OrderedFuns fs
  OrderedVal (Loc l) = Unit {0}
  OrderedVal (Nam k) = Unit {0}
  OrderedVal (Exn k vs) = OrderedVals vs
  OrderedVal (Prim p vs) = OrderedVals vs
  OrderedVal (Module e) = (x : Name) → OrderedFound (e x)
  OrderedVal (Functor e x is) = ((y : Name) → OrderedFound (e y)) × OrderedItems is

  pub OrderedVals : Vals → Type 0
  OrderedVals NoVals = Unit {0}
  OrderedVals (Item v vs) = OrderedVal v × OrderedVals vs

  pub OrderedFall : Fall → Type 0
  OrderedFall Stuck = Unit {0}
  OrderedFall (Raises v) = OrderedVal v

  pub OrderedFound : Found → Type 0
  OrderedFound Absent = Unit {0}
  OrderedFound (There v) = OrderedVal v

  -- of a row of items
  pub OrderedItems : Items → Type 0
  OrderedItems End = Unit {0}
  OrderedItems (Value f p a is) = OrderedFall f × Ordered a × OrderedItems is
  OrderedItems (Functions fs is) = OrderedFuns fs × OrderedItems is
  OrderedItems (Exception x is) = OrderedItems is
  OrderedItems (Alias p x is) = OrderedItems is
  OrderedItems (Struct p body is) = OrderedItems body × OrderedItems is
  OrderedItems (FunctorOf f x body is) = OrderedItems body × OrderedItems is
  OrderedItems (Applied p f a is) = OrderedItems is

-- of what memory holds
abbrev pub OrderedMem : List Val → Type 0
OrderedMem [] = Unit {0}
OrderedMem (v ∷ vs) = OrderedVal v × OrderedMem vs

abbrev pub OrderedOpt : Option Val → Type 0
OrderedOpt None = Unit {0}
OrderedOpt (Some v) = OrderedVal v

-- of the values of variables
abbrev pub OrderedEnv : Env → Type 0
OrderedEnv env = (x : Name) → OrderedOpt (env x)

-- of the values in a scope
abbrev pub OrderedScope : Scope → Type 0
OrderedScope c = OrderedEnv c.env × OrderedEnv c.own
