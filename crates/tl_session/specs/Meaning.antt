-- What sources mean: evaluation by the rules of the Definition, chapter 6, for the forms that are built and those of a probe.
use Rattle.std.specs.Prelude.{ℕ, zero, suc, List, [], ◌∷◌, ◌++◌, Option, Some, None, if◌then◌else◌, codes}
use Rattle.std.specs.Str.{bytes_eq}
use Rattle.tl_text.specs.declared.lit.Lit.{Lit}
use Rattle.tl_text.specs.declared.lit.Lit.TheVariants.{Text}
use Rattle.beh.specs.Behaviour.{Behaviour, Ended, More}
use Rattle.tl_session.specs.Program.{Exp, Scon, Id, App, Record, Row, Exps, NoExps, MoreExps, Pat, Wild, Var, Dec}

-- values (section 6.2 and 6.3)
mutual
  pub data Val : Type 0 where
    -- a special value
    Special : Lit → Val
    -- a record with labels 1 to n
    Labelled : Vals → Val
    -- the constructors of lists
    Nil : Val
    Cons : Val → Val → Val
    -- the basic value print
    Prints : Val

  pub data Vals : Type 0 where
    NoVals : Vals
    MoreVals : Val → Vals → Vals

-- the state: what was printed
pub record State : Type 0 where
  pub output : List ℕ

-- a value environment: what an identifier is bound to
abbrev pub Env : Type 0
Env = List ℕ → Option Val

abbrev pub bound : List ℕ → Val → Env → Env
bound x v env = λ y. if bytes_eq x y then Some v else env y

-- the environment of the initial basis, as far as it is built
abbrev pub initial : Env
initial = bound (codes "print") Prints (λ y. None)

-- how an evaluation ends: with a result, at a call that stands too deep, or where no rule is
pub data Res (A : Type 0) : Type 0 where
  Done : A → State → Res A
  Deep : State → Res A
  Wrong : State → Res A

abbrev pub then_do : {A B : Type 0} → Res A → (A → State → Res B) → Res B
then_do (Done a s) go = go a s
then_do (Deep s) go = Deep s
then_do (Wrong s) go = Wrong s

abbrev pub found : Option Val → State → Res Val
found None s = Wrong s
found (Some v) s = Done v s

-- print applied to a string: the string is written, and the result is ()
abbrev pub applied : Val → Val → State → Res Val
applied Prints (Special (Text text)) s = Done (Labelled NoVals) (record { output = s.output ++ text })
applied _ _ s = Wrong s

abbrev pub list_of : Vals → Val
list_of NoVals = Nil
list_of (MoreVals v vs) = Cons v (list_of vs)

abbrev mutual
  -- an expression, its parts from left to right (rules 90 to 108)
  pub eval : Env → Exp → State → Res Val
  eval env (Scon literal) s = Done (Special literal) s
  eval env (Id x) s = found (env x) s
  eval env (App f a) s = then_do (eval env f s) (λ v s1. then_do (eval env a s1) (λ w s2. applied v w s2))
  eval env (Record es) s = then_do (eval_all env es s) (λ vs s1. Done (Labelled vs) s1)
  eval env (Row es) s = then_do (eval_all env es s) (λ vs s1. Done (list_of vs) s1)

  pub eval_all : Env → Exps → State → Res Vals
  eval_all env NoExps s = Done NoVals s
  eval_all env (MoreExps e es) s = then_do (eval env e s) (λ v s1. then_do (eval_all env es s1) (λ vs s2. Done (MoreVals v vs) s2))

-- the value takes the pattern (rules 135 to 148)
abbrev pub matched : Pat → Val → Env → Env
matched Wild v env = env
matched (Var x) v env = bound x v env

-- declarations one after another, in one environment (rules 114 to 119)
abbrev pub run : Env → List Dec → State → Res Env
run env [] s = Done env s
run env (d ∷ ds) s = then_do (eval env d.exp s) (λ v s1. run (matched d.pat v env) ds s1)

abbrev pub seen : {A : Type 0} → Res A → Behaviour
seen (Done a s) = record { output = s.output; ending = Ended }
seen (Deep s) = record { output = s.output; ending = More }
seen (Wrong s) = record { output = s.output; ending = More }

-- The meaning of declarations where calls of functions stand at most n deep in one another. No form that is built
-- calls a function of the source, so that it is the same for each n from 1 on.
abbrev pub meaning : List Dec → ℕ → Behaviour
meaning ds zero = record { output = []; ending = More }
meaning ds (suc n) = seen (run initial ds (record { output = [] }))
