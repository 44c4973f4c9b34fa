-- The meaning by whole evaluations, parts from left to right.
use Rattle.std.specs.Prelude.{ℕ, zero, suc, Option, Some, None}
use Rattle.runs.specs.Env.{Env, close_funs, close_pat, close_rules, empty, fields, found_env, functor_at, group, hide, kept_env, names, nothing, over, put, under, within}
use Rattle.runs.specs.Patterns.{matched}
use Rattle.runs.specs.Primitives.{Calls, Gives, Next, St, Throws, act, body, drawn, next_name}
use Rattle.runs.specs.Scope.{Scope, inside, with_exn, with_functor, with_funs, with_struct, with_vars}
use Rattle.runs.specs.Tree.{Alias, Applied, Case, Clo, Cons, Datum, End, Exception, Exp, Exps, Fail, Fall, Fn, Functions, Functor, FunctorOf, Group, InMod, InStruct, Is, Item, Items, LetMod, Lit, Module, NewExn, Nil, NoVals, Node, Raises, Rule, Rules, Stop, Struct, StructOf, Stuck, Try, Val, Vals, Value, Var}

-- how an evaluation ends: with what it makes, with an exception, with more to do, or where there is no rule
pub data Res (A : Type 0) : Type 0 where
  Done : A → St → Res A
  Raised : Val → St → Res A
  More : St → Res A
  Wrong : St → Res A

-- it did not come where there is no rule
abbrev pub Right : {A : Type 0} → Res A → Type 0
Right (Wrong s) = ⊥
Right _ = Unit {0}

abbrev pub then_do : {A B : Type 0} → Res A → (A → St → Res B) → Res B
then_do (Done a s) go = go a s
then_do (Raised v s) go = Raised v s
then_do (More s) go = More s
then_do (Wrong s) go = Wrong s

-- an evaluation of a tree where its variables have these values
abbrev pub Go : Type 0
Go = Env → Exp → St → Res Val

-- goes on with what an operator does; s is the state where it acts
abbrev pub perform : Go → Option Next → St → Res Val
perform go None s = Wrong s
perform go (Some (Gives v s1)) s = Done v s1
perform go (Some (Throws v s1)) s = Raised v s1
perform go (Some (Calls env b s1)) s = go env b s1

abbrev pub known : Option Val → St → Res Val
known None s = Wrong s
known (Some v) s = Done v s

abbrev pub or_rescue : Res Val → (Val → St → Res Val) → Res Val
or_rescue (Done v s) go = Done v s
or_rescue (Raised v s) go = go v s
or_rescue (More s) go = More s
or_rescue (Wrong s) go = Wrong s

-- where no rule takes the value
abbrev pub fallen : {A : Type 0} → Fall → St → Res A
fallen Stuck s = Wrong s
fallen (Raises v) s = Raised v s

abbrev pub or_next : {A : Type 0} → Option Env → (Env → Res A) → Res A → Res A
or_next None go rest = rest
or_next (Some b) go rest = go b

-- a functor with the values of its argument: its body is evaluated anew, as a call
abbrev pub applied : Go → Option Val → Env → St → Res Val
applied go (Some (Functor e x body)) b s = go (under x b (found_env e)) (StructOf nothing body) s
applied go o b s = Wrong s

-- one evaluation, where `go` evaluates the bodies of functions
abbrev mutual
  pub ev : Go → Env → Exp → St → Res Val
  ev go env (Is v) s = Done v s
  ev go env (Fail v) s = Raised v s
  ev go env (Lit n) s = Done (Datum n) s
  ev go env (Var x) s = known (env x) s
  ev go env (Fn f rs) s = Done (Clo f (close_rules env rs)) s
  ev go env (Group fs b) s = ev go (over (group (close_funs (hide (names fs) env) fs)) env) b s
  ev go env (Node op es) s = then_do (ev_all go env es s) (λ vs s1. perform go (act op vs s1) s1)
  ev go env (Case f a rs) s = then_do (ev go env a s) (λ v s1. ev_rules go env rs (fallen f s1) v s1)
  ev go env (NewExn x b) s = ev go (put x (next_name s) env) b (drawn x s)
  ev go env (LetMod e p is b) s = then_do (ev_items go (record { env = over (found_env e) env; own = empty }) is s) (λ (c : Scope) s1. ev go (under p c.own env) b s1)
  -- on its way it stands in runs alone
  ev go env (InMod p w b) s = Wrong s
  ev go env (InStruct w) s = Wrong s
  ev go env (StructOf e is) s = then_do (ev_items go (record { env = over (found_env e) env; own = empty }) is s) (λ (c : Scope) s1. Done (Module (kept_env c.own)) s1)
  ev go env (Try a rs) s = or_rescue (ev go env a s) (λ v s1. ev_rules go env rs (Raised v s1) v s1)

  pub ev_all : Go → Env → Exps → St → Res Vals
  ev_all go env Nil s = Done NoVals s
  ev_all go env (Cons e es) s = then_do (ev go env e s) (λ v s1. then_do (ev_all go env es s1) (λ vs s2. Done (Item v vs) s2))

  -- the first rule that takes the value
  pub ev_rules : Go → Env → Rules → Res Val → Val → St → Res Val
  ev_rules go env Stop fall v s = fall
  ev_rules go env (Rule p b rs) fall v s = or_next (matched s.mem (close_pat env p) v) (λ bs. ev go (over bs env) b s) (ev_rules go env rs fall v s)

  -- the scope after the row
  pub ev_items : Go → Scope → Items → St → Res Scope
  ev_items go c End s = Done c s
  ev_items go c (Value f p a is) s =
      then_do (ev go c.env a s) (λ v s1. or_next (matched s1.mem (close_pat c.env p) v) (λ bs. ev_items go (with_vars bs c) is s1) (fallen f s1))
  ev_items go c (Functions fs is) s = ev_items go (with_funs fs c) is s
  ev_items go c (Exception x is) s = ev_items go (with_exn x s c) is (drawn x s)
  ev_items go c (Alias p x is) s = ev_items go (with_struct p (within x c.env) c) is s
  ev_items go c (FunctorOf f x body is) s = ev_items go (with_functor f x body c) is s
  ev_items go c (Applied p f a is) s = then_do (applied go (c.env (functor_at f)) (within a c.env) s) (λ v s1. ev_items go (with_struct p (fields v) c) is s1)
  ev_items go c (Struct p body is) s = then_do (ev_items go (inside c) body s) (λ b s1. ev_items go (with_struct p b.own c) is s1)

-- the meaning where calls stand at most n deep in one another; nothing else takes from n
abbrev pub mean : ℕ → Go
mean zero env e s = More s
mean (suc n) env e s = ev (mean n) env e s
