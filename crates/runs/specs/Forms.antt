-- Forms of a text that stand for others, and the predefined values.
use Rattle.std.specs.Prelude.{codes, List, [], ◌∷◌}
use Rattle.runs.specs.Names.{Part, Name}
use Rattle.runs.specs.Tree.{Primitive, Ref, Deref, Raise, Not, PrintString, StringOfInt, StringLength, StringGet, StringSub, StringMake, CharCode, CharChr, Operator, Apply, Pair, Build, Oper, Pat, PAny, PCon, PTup, PNil, PMore, Exp, Var, Fn, Group, Node, Case, Stuck, Exps, Nil, Cons, Stop, Rule, NoFuns, Fun, Val, Prim, NoVals}
use Rattle.runs.specs.Env.{Env, empty, put}
use Rattle.runs.specs.Primitives.{true_part, false_part, nil_part, cons_part}
use Rattle.runs.specs.Items.{Scope}

-- a variable is a path of one part
abbrev pub var : Part → Name
var x = x ∷ []

abbrev pub one : Exp → Exps
one a = Cons a Nil

abbrev pub two : Exp → Exp → Exps
two a b = Cons a (Cons b Nil)

-- f a
abbrev pub call : Exp → Exp → Exp
call f a = Node Apply (two f a)

-- a operator b
abbrev pub infix_of : Operator → Exp → Exp → Exp
infix_of o a b = Node (Oper o) (two a b)

-- ()
abbrev pub unit_exp : Exp
unit_exp = Node Pair Nil

abbrev pub unit_pat : Pat
unit_pat = PTup PNil

-- true and false
abbrev pub true_exp : Exp
true_exp = Node (Build true_part) Nil

abbrev pub false_exp : Exp
false_exp = Node (Build false_part) Nil

-- [] and a :: b
abbrev pub nil_exp : Exp
nil_exp = Node (Build nil_part) Nil

abbrev pub cons_exp : Exp → Exp → Exp
cons_exp a b = Node (Build cons_part) (two a b)

abbrev pub nil_pat : Pat
nil_pat = PCon nil_part PNil

abbrev pub cons_pat : Pat → Pat → Pat
cons_pat p q = PCon cons_part (PMore p (PMore q PNil))

-- fun p -> b; a pattern that does not take the argument has no step
abbrev pub fun_of : Pat → Exp → Exp
fun_of p b = Fn Stuck (Rule p b Stop)

-- let p = a in b
abbrev pub let_in : Pat → Exp → Exp → Exp
let_in p a b = Case Stuck a (Rule p b Stop)

-- a; b
abbrev pub seq : Exp → Exp → Exp
seq a b = Case Stuck a (Rule PAny b Stop)

-- if a then b else c
abbrev pub choice : Exp → Exp → Exp → Exp
choice a b c = Case Stuck a (Rule (PCon true_part PNil) b (Rule (PCon false_part PNil) c Stop))

-- a && b, and a || b: b is evaluated only where a does not decide
abbrev pub and_also : Exp → Exp → Exp
and_also a b = choice a b false_exp

abbrev pub or_else : Exp → Exp → Exp
or_else a b = choice a true_exp b

-- the loop's own name, which no text can write
abbrev pub loop_name : Name
loop_name = []

-- while a do b done: let rec loop () = if a then (b; loop ()) else () in loop ()
abbrev pub while_do : Exp → Exp → Exp
while_do a b =
    Group (Fun loop_name Stuck (Rule unit_pat (choice a (seq b (call (Var loop_name) unit_exp)) unit_exp) Stop) NoFuns) (call (Var loop_name) unit_exp)

-- the values of the names in a table; the first row of a name counts
abbrev pub values_of : List (Name × Val) → Env
values_of [] = empty
values_of (row ∷ rest) = put row.0 row.1 (values_of rest)

abbrev pub row_of : Name → Primitive → Name × Val
row_of x p = (x, Prim p NoVals)

-- the predefined values; operators are forms of their own
abbrev pub predefined_rows : List (Name × Val)
predefined_rows =
    (row_of (var (codes "ref")) Ref
    ∷ row_of (var (codes "!")) Deref
    ∷ row_of (var (codes "raise")) Raise
    ∷ row_of (var (codes "not")) Not
    ∷ row_of (var (codes "print_string")) PrintString
    ∷ row_of (var (codes "string_of_int")) StringOfInt
    ∷ row_of (codes "String" ∷ codes "length" ∷ []) StringLength
    ∷ row_of (codes "String" ∷ codes "get" ∷ []) StringGet
    ∷ row_of (codes "String" ∷ codes "sub" ∷ []) StringSub
    ∷ row_of (codes "String" ∷ codes "make" ∷ []) StringMake
    ∷ row_of (codes "Char" ∷ codes "code" ∷ []) CharCode
    ∷ row_of (codes "Char" ∷ codes "chr" ∷ []) CharChr
    ∷ [])

abbrev pub predefined : Env
predefined = values_of predefined_rows

-- where a text begins: it reads the predefined values, and has none of its own
abbrev pub text_scope : Scope
text_scope = record { env = predefined; own = empty }
