-- Single steps of trees and of rows of items: any unfinished part of a row of parts may take the next one, and the first unfinished item steps.
use Rattle.std.specs.Prelude.{◌≡◌, ◌⊎◌, Option, Some, None}
use Rattle.runs.specs.Env.{Env, close, close_pat, empty, fields, found_env, functor_at, group, kept_env, nothing, put, under, within}
use Rattle.runs.specs.Patterns.{fails, matched, pick}
use Rattle.runs.specs.Primitives.{Next, St, act, body, drawn, finished, next_name, state, tree}
use Rattle.runs.specs.Scope.{held, inside, scope_of, with_exn, with_functor, with_funs, with_struct, with_vars}
use Rattle.runs.specs.Tree.{Alias, Applied, Case, Clo, Cons, Datum, Doing, End, Exception, Exp, Exps, Fail, Fall, Fn, Functions, Functor, FunctorOf, Group, Held, Hold, InMod, InStruct, Is, Items, LetMod, Lit, Lost, Making, Module, NewExn, Nil, Node, Open, Raises, Rest, Struct, StructOf, Stuck, Try, Val, Vals, Value, Var, Whole, Work}

-- a part of the row is raised
abbrev pub HasFail : Exps → Val → Type 0
HasFail Nil v = ⊥
HasFail (Cons e es) v = (e ≡ Fail v) ⊎ HasFail es v

abbrev pub lost_or : Fall → Option Work
lost_or Stuck = None
lost_or (Raises v) = Some (Lost v)

-- what is left when the value of `let p = a` is there: its variables get their values, or the pattern fails
abbrev pub settled : Held → Fall → Items → Option Env → Option Work
settled h f is None = lost_or f
settled h f is (Some bs) = Some (Rest (held (with_vars bs (scope_of h))) is)

-- the body of a functor, with the values of its argument under its parameter
abbrev pub opened : Env → Option Val → Option Exp
opened b (Some (Functor e x body)) = Some (close (under x b (found_env e)) (StructOf nothing body))
opened b o = None

abbrev mutual
  -- one step from a tree and a state to a tree and a state
  pub Step : Exp → St → Exp → St → Type 0
  Step (Is v) s t s1 = ⊥
  Step (Fail v) s t s1 = ⊥
  Step (Lit n) s t s1 = (t ≡ Is (Datum n)) × (s1 ≡ s)
  Step (Var x) s t s1 = ⊥
  Step (Fn f rs) s t s1 = (t ≡ Is (Clo f rs)) × (s1 ≡ s)
  Step (Group fs b) s t s1 = (t ≡ close (group fs) b) × (s1 ≡ s)
  -- a part steps; or a raised part ends the row; or the operator acts on the finished parts
  Step (Node op es) s t s1 =
      ((fs : Exps) × StepIn es s fs s1 × (t ≡ Node op fs))
      ⊎ (((v : Val) × HasFail es v × (t ≡ Fail v) × (s1 ≡ s))
      ⊎ ((vs : Vals) × (m : Next) × (es ≡ finished vs) × (act op vs s ≡ Some m) × (t ≡ tree m) × (s1 ≡ state m)))
  -- the matched part steps; or the first rule that takes its value goes on; or it is raised
  Step (Case f a rs) s t s1 =
      ((a1 : Exp) × Step a s a1 s1 × (t ≡ Case f a1 rs))
      ⊎ (((v : Val) × (a ≡ Is v) × (pick s.mem rs v (fails f) ≡ Some t) × (s1 ≡ s))
      ⊎ ((v : Val) × (a ≡ Fail v) × (t ≡ Fail v) × (s1 ≡ s)))
  Step (NewExn x b) s t s1 = (t ≡ close (put x (next_name s) empty) b) × (s1 ≡ drawn x s)
  -- the guarded part steps; or it is finished; or the first rule that takes what it raised goes on
  Step (Try a rs) s t s1 =
      ((a1 : Exp) × Step a s a1 s1 × (t ≡ Try a1 rs))
      ⊎ (((v : Val) × (a ≡ Is v) × (t ≡ Is v) × (s1 ≡ s))
      ⊎ ((v : Val) × (a ≡ Fail v) × (pick s.mem rs v (Some (Fail v)) ≡ Some t) × (s1 ≡ s)))
  -- the structure starts, where the values that were put into it are finished
  Step (LetMod e p is b) s t s1 = (t ≡ InMod p (Rest (Hold e nothing) is) b) × (s1 ≡ s)
  -- the structure steps; or it is done and its values are put in under its part; or an exception left it
  Step (InMod p w b) s t s1 =
      ((w1 : Work) × WorkStep w s w1 s1 × (t ≡ InMod p w1 b))
      ⊎ (((h : Held) × (w ≡ Whole h) × (t ≡ close (under p (scope_of h).own empty) b) × (s1 ≡ s))
      ⊎ ((v : Val) × (w ≡ Lost v) × (t ≡ Fail v) × (s1 ≡ s)))
  -- the body of an applied functor
  Step (StructOf e is) s t s1 = (t ≡ InStruct (Rest (Hold e nothing) is)) × (s1 ≡ s)
  Step (InStruct w) s t s1 =
      ((w1 : Work) × WorkStep w s w1 s1 × (t ≡ InStruct w1))
      ⊎ (((h : Held) × (w ≡ Whole h) × (t ≡ Is (Module (kept_env (scope_of h).own))) × (s1 ≡ s))
      ⊎ ((v : Val) × (w ≡ Lost v) × (t ≡ Fail v) × (s1 ≡ s)))

  -- one part of the row takes a step
  pub StepIn : Exps → St → Exps → St → Type 0
  StepIn Nil s fs s1 = ⊥
  StepIn (Cons e es) s fs s1 =
      ((e1 : Exp) × Step e s e1 s1 × (fs ≡ Cons e1 es))
      ⊎ ((es1 : Exps) × StepIn es s es1 s1 × (fs ≡ Cons e es1))

  -- one step of a row of items: the first unfinished item steps
  pub WorkStep : Work → St → Work → St → Type 0
  WorkStep (Rest h End) s w s1 = (w ≡ Whole h) × (s1 ≡ s)
  WorkStep (Rest h (Value f p a is)) s w s1 = (w ≡ Doing h f (close_pat (scope_of h).env p) (close (scope_of h).env a) is) × (s1 ≡ s)
  WorkStep (Rest h (Functions fs is)) s w s1 = (w ≡ Rest (held (with_funs fs (scope_of h))) is) × (s1 ≡ s)
  WorkStep (Rest h (Exception x is)) s w s1 = (w ≡ Rest (held (with_exn x s (scope_of h))) is) × (s1 ≡ drawn x s)
  WorkStep (Rest h (Alias p x is)) s w s1 = (w ≡ Rest (held (with_struct p (within x (scope_of h).env) (scope_of h))) is) × (s1 ≡ s)
  WorkStep (Rest h (Struct p body is)) s w s1 = (w ≡ Open h p (Rest (held (inside (scope_of h))) body) is) × (s1 ≡ s)
  WorkStep (Rest h (FunctorOf f x body is)) s w s1 = (w ≡ Rest (held (with_functor f x body (scope_of h))) is) × (s1 ≡ s)
  -- the argument's values stand for the parameter
  WorkStep (Rest h (Applied p f a is)) s w s1 = (t : Exp) × (opened (within a (scope_of h).env) ((scope_of h).env (functor_at f)) ≡ Some t) × (w ≡ Making h p t is) × (s1 ≡ s)
  -- the application steps; or it is done and its values stand under its part; or an exception left it
  WorkStep (Making h p a is) s w s1 =
      ((b : Exp) × Step a s b s1 × (w ≡ Making h p b is))
      ⊎ (((v : Val) × (a ≡ Is v) × (w ≡ Rest (held (with_struct p (fields v) (scope_of h))) is) × (s1 ≡ s))
      ⊎ ((v : Val) × (a ≡ Fail v) × (w ≡ Lost v) × (s1 ≡ s)))
  -- the tree steps; or its value is bound; or it is raised
  WorkStep (Doing h f p a is) s w s1 =
      ((b : Exp) × Step a s b s1 × (w ≡ Doing h f p b is))
      ⊎ (((v : Val) × (a ≡ Is v) × (settled h f is (matched s.mem p v) ≡ Some w) × (s1 ≡ s))
      ⊎ ((v : Val) × (a ≡ Fail v) × (w ≡ Lost v) × (s1 ≡ s)))
  -- the body steps; or it is done and its values stand under its part; or an exception left it
  WorkStep (Open h p b is) s w s1 =
      ((d : Work) × WorkStep b s d s1 × (w ≡ Open h p d is))
      ⊎ (((e : Held) × (b ≡ Whole e) × (w ≡ Rest (held (with_struct p (scope_of e).own (scope_of h))) is) × (s1 ≡ s))
      ⊎ ((v : Val) × (b ≡ Lost v) × (w ≡ Lost v) × (s1 ≡ s)))
  WorkStep (Whole h) s w s1 = ⊥
  WorkStep (Lost v) s w s1 = ⊥
