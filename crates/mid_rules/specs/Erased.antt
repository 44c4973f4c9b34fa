-- The trees of runs that stand for middle trees. A binder is a name of its own, a dictionary is an argument, a primitive
-- is its value, and a constructor that is not applied is a function.
use Rattle.std.specs.Prelude.{ℕ, zero, suc, pos, List, [], ◌∷◌, ◌++◌, Option, Some, None, Bool, true, false, nat_eq, if◌then◌else◌}
use Rattle.tl_text.specs.declared.lit.Lit.{Lit}
use Rattle.tl_text.specs.declared.lit.Lit.TheVariants as lit
use Rattle.runs.specs.Forms.{and_also, call, cons_exp, fun_of, infix_of, one, true_exp, two}
use Rattle.runs.specs.Names.{Name, Part}
use Rattle.runs.specs.Primitives.{cons_part, nil_part}
use Rattle.runs.specs.Tree as run
use Rattle.mid_rules.specs.Basis.{bind_exn, left, match_exn, of_one, pair_pat, prim_value, right}
use Rattle.mid_rules.specs.Core.{Maker, Makes, Raises, Lists, Refers, Dict, Base, At, Given, Cells, Parts, Dicts, NoDicts, MoreDicts, Pat, Any, PLit, PVar, PCon, PConOf, PTuple, PLayer, PCell, PFlex, Pats, NoPats, MorePats, Exp, Const, Local, Home, Con, Prim, Tuple, Apply, Fun, Raise, Handle, Let, Exps, NoExps, MoreExps, Rules, NoRules, MoreRules, Dec, Vals, Funs, NoValue, NewExn, SameExn, Decs, NoDecs, MoreDecs, Binds, NoBinds, MoreBinds}
use Rattle.mid_rules.specs.Names.{dict_name, left_name, left_part, local_name, right_name, right_part}

-- a tree without a rule
abbrev pub no_rule : run.Exp
no_rule = run.Var ([] ∷ [])

-- a literal: a word is its number
abbrev pub const_of : Lit → run.Const
const_of (lit.Int z) = run.Int z
const_of (lit.Word n) = run.Int (pos n)
const_of (lit.Char c) = run.Char c
const_of (lit.Text s) = run.Str s

-- ---- dictionaries

abbrev pub parts_from : (ℕ → Name) → ℕ → Dicts → run.Pats
parts_from part i NoDicts = run.PNil
parts_from part i (MoreDicts d ds) = run.PMore (run.PVar (part i)) (parts_from part (suc i) ds)

-- a record of one field is its field
abbrev pub tuple_pat : run.Pats → run.Pat
tuple_pat run.PNil = run.PTup run.PNil
tuple_pat (run.PMore p run.PNil) = p
tuple_pat (run.PMore p (run.PMore q ps)) = run.PTup (run.PMore p (run.PMore q ps))

abbrev mutual
  -- a dictionary is a function of two arguments
  pub dict_tree : Dict → run.Exp
  dict_tree (Base n) = run.Is (of_one (fun_of (run.PVar right_name) (infix_of (run.Compare run.Equal) left right)))
  dict_tree (At path ds) = given (run.Var path) ds
  dict_tree (Given i) = run.Var (dict_name i)
  dict_tree Cells = run.Is (of_one (fun_of (run.PVar right_name) (infix_of run.Identical left right)))
  dict_tree (Parts ds) = fun_of (tuple_pat (parts_from left_part 0 ds)) (fun_of (tuple_pat (parts_from right_part 0 ds)) (all_equal 0 ds))

  -- a tree applied to dictionaries, one after another
  pub given : run.Exp → Dicts → run.Exp
  given f NoDicts = f
  given f (MoreDicts d ds) = given (call f (dict_tree d)) ds

  -- each dictionary takes the parts at its place, from left to right
  pub all_equal : ℕ → Dicts → run.Exp
  all_equal i NoDicts = true_exp
  all_equal i (MoreDicts d ds) = and_also (call (call (dict_tree d) (run.Var (left_part i))) (run.Var (right_part i))) (all_equal (suc i) ds)

-- ---- patterns

-- a pattern that takes nothing
abbrev pub takes_none : run.Pat
takes_none = run.PExn run.Broken run.PNil

-- :: takes a pair
abbrev pub cons_pat_of : run.Pat → run.Pat
cons_pat_of (run.PTup (run.PMore p (run.PMore q run.PNil))) = run.PCon cons_part (run.PMore p (run.PMore q run.PNil))
cons_pat_of _ = takes_none

abbrev pub constant_pat : Maker → run.Pat
constant_pat (Makes c) = run.PCon c run.PNil
constant_pat (Raises q) = run.PExn (run.Named q) run.PNil
constant_pat Lists = run.PCon nil_part run.PNil
constant_pat Refers = takes_none

abbrev pub made_pat : Maker → run.Pat → run.Pat
made_pat (Makes c) p = run.PCon c (run.PMore p run.PNil)
made_pat (Raises q) p = run.PExn (run.Named q) (run.PMore p run.PNil)
made_pat Lists p = cons_pat_of p
made_pat Refers p = run.PCell p

abbrev mutual
  pub pat_tree : Pat → run.Pat
  pat_tree Any = run.PAny
  pat_tree (PLit l) = run.PLit (const_of l)
  pat_tree (PVar b x) = run.PVar (local_name b)
  pat_tree (PCon m) = constant_pat m
  pat_tree (PConOf m p) = made_pat m (pat_tree p)
  pat_tree (PTuple ps) = tuple_pat (pats_tree ps)
  pat_tree (PLayer b x p) = run.PLayer (local_name b) (pat_tree p)
  pat_tree (PCell p) = run.PCell (pat_tree p)
  pat_tree PFlex = takes_none

  pub pats_tree : Pats → run.Pats
  pats_tree NoPats = run.PNil
  pats_tree (MorePats p ps) = run.PMore (pat_tree p) (pats_tree ps)

-- the identifiers that a pattern binds, each with its binder's number
abbrev pub named : Part → ℕ → List (Part × ℕ)
named [] b = []
named (c ∷ x) b = (c ∷ x, b) ∷ []

abbrev mutual
  pub names_bound : Pat → List (Part × ℕ)
  names_bound Any = []
  names_bound (PLit l) = []
  names_bound (PVar b x) = named x b
  names_bound (PCon m) = []
  names_bound (PConOf m p) = names_bound p
  names_bound (PTuple ps) = all_bound ps
  names_bound (PLayer b x p) = named x b ++ names_bound p
  names_bound (PCell p) = names_bound p
  names_bound PFlex = []

  pub all_bound : Pats → List (Part × ℕ)
  all_bound NoPats = []
  all_bound (MorePats p ps) = names_bound p ++ all_bound ps

-- the binder of a pattern that is one variable
abbrev pub binder_of : Pat → ℕ
binder_of (PVar b x) = b
binder_of (PLayer b x p) = b
binder_of _ = 0

-- ---- primitives and constructors

abbrev pub value_or_no_rule : Option run.Val → run.Exp
value_or_no_rule None = no_rule
value_or_no_rule (Some v) = run.Is v

-- = and <> with a dictionary call it
abbrev pub by_dict : ℕ → run.Exp → run.Exp
by_dict n d =
    let same : run.Exp = call (call d left) right in
    if nat_eq n 0 then fun_of pair_pat same else (if nat_eq n 1 then fun_of pair_pat (call (run.Is (run.Prim run.Not run.NoVals)) same) else no_rule)

abbrev pub prim_tree : ℕ → Option ℕ → Dicts → run.Exp
prim_tree n compared NoDicts = value_or_no_rule (prim_value n compared)
prim_tree n compared (MoreDicts d ds) = by_dict n (dict_tree d)

-- :: with a pair that is written out, and with another one
abbrev pub cons_tree : run.Exp → run.Exp
cons_tree (run.Node run.Pair (run.Cons a (run.Cons b run.Nil))) = cons_exp a b
cons_tree a = run.Case run.Stuck a (run.Rule pair_pat (cons_exp left right) run.Stop)

-- a constructor with its argument
abbrev pub made : Maker → run.Exp → run.Exp
made (Makes c) a = run.Node (run.Build c) (one a)
made (Raises q) a = run.Node run.Make (two (run.Var q) a)
made Lists a = cons_tree a
made Refers a = call (run.Is (run.Prim run.Ref run.NoVals)) a

-- a constructor by itself: a function, or a constant
abbrev pub con_tree : Maker → Bool → run.Exp
con_tree m true = fun_of (run.PVar left_name) (made m left)
con_tree (Makes c) false = run.Node (run.Build c) run.Nil
con_tree (Raises q) false = run.Node run.Make (one (run.Var q))
con_tree Lists false = run.Node (run.Build nil_part) run.Nil
con_tree Refers false = no_rule

-- the constructor that the tree is, if it takes an argument
abbrev pub maker_in : Exp → Option Maker
maker_in (Con m true) = Some m
maker_in _ = None

abbrev pub applied : Option Maker → run.Exp → run.Exp → run.Exp
applied None f a = call f a
applied (Some m) f a = made m a

-- ---- expressions and declarations

-- a function whose rules take no argument raises Match
abbrev pub function : run.Rules → run.Exp
function rs = run.Fn (run.Raises match_exn) rs

-- a right side with k equality variables of its own takes a dictionary for each, the first of which has the place e
abbrev pub abstracted : ℕ → ℕ → (ℕ → run.Exp) → run.Exp
abstracted zero e t = t e
abstracted (suc k) e t = fun_of (run.PVar (dict_name e)) (abstracted k (suc e) t)

-- a member of a group, before those after it
abbrev pub member : ℕ → ℕ → ℕ → (ℕ → run.Rules) → run.Funs → run.Funs
member zero e x rs more = run.Fun (local_name x) (run.Raises match_exn) (rs e) more
member (suc k) e x rs more =
    run.Fun (local_name x) run.Stuck (run.Rule (run.PVar (dict_name e)) (abstracted k (suc e) (λ i. function (rs i))) run.Stop) more

-- a record of one field is its field
abbrev pub tuple_tree : run.Exps → run.Exp
tuple_tree run.Nil = run.Node run.Pair run.Nil
tuple_tree (run.Cons a run.Nil) = a
tuple_tree (run.Cons a (run.Cons b more)) = run.Node run.Pair (run.Cons a (run.Cons b more))

-- e is the number of equality variables that are in scope
abbrev mutual
  pub exp_tree : ℕ → Exp → run.Exp
  exp_tree e (Const l) = run.Lit (const_of l)
  exp_tree e (Local x ds) = given (run.Var (local_name x)) ds
  exp_tree e (Home path ds) = given (run.Var path) ds
  exp_tree e (Con m t) = con_tree m t
  exp_tree e (Prim n compared ds) = prim_tree n compared ds
  exp_tree e (Tuple es) = tuple_tree (exps_tree e es)
  exp_tree e (Apply f a) = applied (maker_in f) (exp_tree e f) (exp_tree e a)
  exp_tree e (Fun rs) = function (rules_tree e rs)
  exp_tree e (Raise a) = call (run.Is (run.Prim run.Raise run.NoVals)) (exp_tree e a)
  exp_tree e (Handle a rs) = run.Try (exp_tree e a) (rules_tree e rs)
  exp_tree e (Let ds a) = decs_in e ds (exp_tree e a)

  pub exps_tree : ℕ → Exps → run.Exps
  exps_tree e NoExps = run.Nil
  exps_tree e (MoreExps a more) = run.Cons (exp_tree e a) (exps_tree e more)

  pub rules_tree : ℕ → Rules → run.Rules
  rules_tree e NoRules = run.Stop
  rules_tree e (MoreRules p a rs) = run.Rule (pat_tree p) (exp_tree e a) (rules_tree e rs)

  -- the rules of a right side that is a function
  pub rules_in : ℕ → Exp → run.Rules
  rules_in e (Fun rs) = rules_tree e rs
  rules_in e (Const l) = run.Stop
  rules_in e (Local x ds) = run.Stop
  rules_in e (Home path ds) = run.Stop
  rules_in e (Con m t) = run.Stop
  rules_in e (Prim n compared ds) = run.Stop
  rules_in e (Tuple es) = run.Stop
  rules_in e (Apply f a) = run.Stop
  rules_in e (Raise a) = run.Stop
  rules_in e (Handle a rs) = run.Stop
  rules_in e (Let ds a) = run.Stop

  -- a declaration, before what it is declared for
  pub dec_in : ℕ → Dec → run.Exp → run.Exp
  dec_in e (Vals bs) body = binds_in e bs body
  dec_in e (Funs bs) body = run.Group (members e bs) body
  dec_in e NoValue body = body
  dec_in e (NewExn q) body = run.NewExn q body
  dec_in e (SameExn q r) body = run.Case run.Stuck (run.Var r) (run.Rule (run.PVar q) body run.Stop)

  pub decs_in : ℕ → Decs → run.Exp → run.Exp
  decs_in e NoDecs body = body
  decs_in e (MoreDecs d ds) body = dec_in e d (decs_in e ds body)

  -- each right side is evaluated and matched before the next; a pattern that does not take its value raises Bind
  pub binds_in : ℕ → Binds → run.Exp → run.Exp
  binds_in e NoBinds body = body
  binds_in e (MoreBinds p k a bs) body =
      run.Case (run.Raises bind_exn) (abstracted k e (λ i. exp_tree i a)) (run.Rule (pat_tree p) (binds_in e bs body) run.Stop)

  pub members : ℕ → Binds → run.Funs
  members e NoBinds = run.NoFuns
  members e (MoreBinds p k a bs) = member k e (binder_of p) (λ i. rules_in i a) (members e bs)
