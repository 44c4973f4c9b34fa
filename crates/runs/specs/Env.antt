-- Values of variables, and substitution of finished values.
use Rattle.std.specs.Prelude.{[], ◌∷◌, ◌++◌, Option, Some, None, Bool, true, false, if◌then◌else◌}
use Rattle.runs.specs.Names.{Name, Part, same, same_part}
use Rattle.runs.specs.Tree.{Absent, Broken, Case, Cons, Drawn, Exp, Exps, Fail, Fn, Found, Fun, Funs, Group, InMod, InStruct, Is, LetMod, Lit, Module, Nam, Named, NewExn, Nil, NoFuns, Node, PAny, PCell, PCon, PExn, PLayer, PLit, PMore, PNil, PTup, PVar, Pat, Pats, Rec, Rule, Rules, Stop, StructOf, Tag, There, Try, Val, Var}

-- the values of variables and paths
abbrev pub Env : Type 0
Env = Name → Option Val

-- no values
abbrev pub empty : Env
empty = λ y. None

-- with one more value
abbrev pub put : Name → Val → Env → Env
put x v env = λ y. if same x y then Some v else env y

-- without the variables that are bound
abbrev pub hide : (Name → Bool) → Env → Env
hide bound env = λ y. if bound y then None else env y

abbrev pub first : Option Val → Option Val → Option Val
first None p = p
first (Some v) p = Some v

-- the second values where the first have none
abbrev pub over : Env → Env → Env
over a b = λ y. first (a y) (b y)

abbrev pub reached : Part → Env → Name → Option Val → Option Val
reached p b [] o = o
reached p b (q ∷ []) o = o
reached p b (q ∷ r ∷ x) o = if same_part p q then b (r ∷ x) else o

-- with the values of the structure p; older ones whose paths go through p are hidden
abbrev pub under : Part → Env → Env → Env
under p b env = λ y. reached p b y (env y)

-- the paths of two parts and more that go through the structure p
abbrev pub through : Part → Name → Bool
through p [] = false
through p (q ∷ []) = false
through p (q ∷ r ∷ x) = same_part p q

-- the values of the structure to which the path leads
abbrev pub within : Name → Env → Env
within x env = λ y. env (x ++ y)

abbrev mutual
  -- the variables of a pattern
  pub binds : Pat → Name → Bool
  binds PAny y = false
  binds (PVar x) y = same x y
  binds (PLit n) y = false
  binds (PTup ps) y = binds_any ps y
  binds (PCon c ps) y = binds_any ps y
  binds (PExn t ps) y = binds_any ps y
  binds (PCell p) y = binds p y
  binds (PLayer x p) y = if same x y then true else binds p y

  pub binds_any : Pats → Name → Bool
  binds_any PNil y = false
  binds_any (PMore p ps) y = if binds p y then true else binds_any ps y

-- the names of a group
abbrev pub names : Funs → Name → Bool
names NoFuns y = false
names (Fun g f rs fs) y = if same g y then true else names fs y

-- the values of a group's functions
abbrev pub group : Funs → Env
group fs = λ y. if names fs y then Some (Rec fs y) else None

-- values in a tree, as values of variables, and the other way round
abbrev pub found : Found → Option Val
found Absent = None
found (There v) = Some v

abbrev pub kept : Option Val → Found
kept None = Absent
kept (Some v) = There v

abbrev pub found_env : (Name → Found) → Env
found_env e = λ y. found (e y)

abbrev pub kept_env : Env → Name → Found
kept_env env = λ y. kept (env y)

abbrev pub nothing : Name → Found
nothing = λ y. Absent

-- the values of a structure
abbrev pub fields : Val → Env
fields (Module e) = found_env e
fields v = empty

-- the path at which a functor of this path stands
abbrev pub functor_at : Name → Name
functor_at f = f ++ [] ∷ []

-- the second values where the first are absent
abbrev pub found_or : Found → Option Val → Found
found_or Absent o = kept o
found_or (There v) o = There v

abbrev pub put_into : (Name → Found) → Env → Name → Found
put_into e env = λ y. found_or (e y) (env y)

abbrev pub tag_or : Name → Option Val → Tag
tag_or x None = Named x
tag_or x (Some (Nam k)) = Drawn k
tag_or x (Some _) = Broken

abbrev pub close_tag : Env → Tag → Tag
close_tag env (Named x) = tag_or x (env x)
close_tag env (Drawn k) = Drawn k
close_tag env Broken = Broken

abbrev mutual
  -- the exceptions that a pattern means
  pub close_pat : Env → Pat → Pat
  close_pat env PAny = PAny
  close_pat env (PVar x) = PVar x
  close_pat env (PLit n) = PLit n
  close_pat env (PTup ps) = PTup (close_pats env ps)
  close_pat env (PCon c ps) = PCon c (close_pats env ps)
  close_pat env (PExn t ps) = PExn (close_tag env t) (close_pats env ps)
  close_pat env (PCell p) = PCell (close_pat env p)
  close_pat env (PLayer x p) = PLayer x (close_pat env p)

  pub close_pats : Env → Pats → Pats
  close_pats env PNil = PNil
  close_pats env (PMore p ps) = PMore (close_pat env p) (close_pats env ps)

abbrev pub var_or : Name → Option Val → Exp
var_or y None = Var y
var_or y (Some v) = Is v

abbrev mutual
  -- substitution: the values of the variables are put in for them
  pub close : Env → Exp → Exp
  close env (Is w) = Is w
  close env (Fail w) = Fail w
  close env (Lit n) = Lit n
  close env (Var y) = var_or y (env y)
  close env (Fn f rs) = Fn f (close_rules env rs)
  close env (Group fs b) = Group (close_funs (hide (names fs) env) fs) (close (hide (names fs) env) b)
  close env (Node op es) = Node op (close_all env es)
  close env (Case f a rs) = Case f (close env a) (close_rules env rs)
  close env (NewExn y b) = NewExn y (close (hide (same y) env) b)
  close env (Try a rs) = Try (close env a) (close_rules env rs)
  close env (LetMod e p is b) = LetMod (put_into e env) p is (close (hide (through p) env) b)
  close env (InMod p w b) = InMod p w b
  close env (StructOf e is) = StructOf (put_into e env) is
  close env (InStruct w) = InStruct w

  pub close_all : Env → Exps → Exps
  close_all env Nil = Nil
  close_all env (Cons e es) = Cons (close env e) (close_all env es)

  pub close_rules : Env → Rules → Rules
  close_rules env Stop = Stop
  close_rules env (Rule p b rs) = Rule (close_pat env p) (close (hide (binds p) env) b) (close_rules env rs)

  pub close_funs : Env → Funs → Funs
  close_funs env NoFuns = NoFuns
  close_funs env (Fun g f rs fs) = Fun g f (close_rules env rs) (close_funs env fs)
