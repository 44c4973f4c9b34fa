-- What the operators of a text stand for.
use Rattle.std.specs.Prelude.{List, [], ◌∷◌, Option, Some, None, codes, if◌then◌else◌}
use Rattle.std.specs.Str.{bytes_eq}
use Rattle.oc_ast.specs.Plain.{Bytes}
use Rattle.runs.specs.Forms.{and_also, or_else, cons_exp, infix_of}
use Rattle.runs.specs.Tree as run
use Rattle.runs.specs.Tree.{Operator, Arith, Compare, Concat, Identical, Assign, Plus, Minus, Times, Divide, Modulo, Land, Lor, Lxor, Lsl, Lsr, Equal, Less, LessEqual, Greater, GreaterEqual}

pub data Form : Type 0 where
  -- &&: the second part is evaluated only where the first does not decide
  AndAlso : Form
  -- ||: likewise
  OrElse : Form
  -- ::, a constructor of two parts
  Prefixes : Form
  -- an operator on two finished parts, which may be evaluated in any order
  Acts : Operator → Form

abbrev pub forms : List (Bytes × Form)
forms =
    (codes "+", Acts (Arith Plus)) ∷ (codes "-", Acts (Arith Minus)) ∷ (codes "*", Acts (Arith Times)) ∷ (codes "/", Acts (Arith Divide)) ∷
    (codes "mod", Acts (Arith Modulo)) ∷ (codes "land", Acts (Arith Land)) ∷ (codes "lor", Acts (Arith Lor)) ∷
    (codes "lxor", Acts (Arith Lxor)) ∷ (codes "lsl", Acts (Arith Lsl)) ∷ (codes "lsr", Acts (Arith Lsr)) ∷ (codes "=", Acts (Compare Equal)) ∷
    (codes "<", Acts (Compare Less)) ∷ (codes "<=", Acts (Compare LessEqual)) ∷ (codes ">", Acts (Compare Greater)) ∷
    (codes ">=", Acts (Compare GreaterEqual)) ∷ (codes "==", Acts Identical) ∷ (codes ":=", Acts Assign) ∷ (codes "^", Acts Concat) ∷
    (codes "&&", AndAlso) ∷ (codes "||", OrElse) ∷ (codes "::", Prefixes) ∷ []

abbrev pub form_in : Bytes → List (Bytes × Form) → Option Form
form_in o [] = None
form_in o (row ∷ rows) = if bytes_eq o row.0 then Some row.1 else form_in o rows

abbrev pub form_of : Bytes → Option Form
form_of o = form_in o forms

-- a name that nothing has: a tree without a step
abbrev pub no_step : run.Exp
no_step = run.Var ([] ∷ [])

abbrev pub form_tree : Option Form → run.Exp → run.Exp → run.Exp
form_tree None a b = no_step
form_tree (Some AndAlso) a b = and_also a b
form_tree (Some OrElse) a b = or_else a b
form_tree (Some Prefixes) a b = cons_exp a b
form_tree (Some (Acts o)) a b = infix_of o a b
