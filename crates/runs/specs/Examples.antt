-- Small texts.
use Rattle.std.specs.Prelude.{◌≡◌, ℕ, List, [], ◌∷◌, ◌++◌, Option, pos, codes}
use Rattle.runs.specs.Env.{nothing}
use Rattle.runs.specs.Forms.{and_also, call, choice, cons_pat, false_exp, fun_of, infix_of, nil_pat, one, seq, text_scope, true_exp, two, unit_exp, var, while_do}
use Rattle.runs.specs.Items.{mean_items}
use Rattle.runs.specs.Meaning.{Done}
use Rattle.runs.specs.Names.{Part}
use Rattle.runs.specs.Primitives.{St, start}
use Rattle.runs.specs.Scope.{Scope}
use Rattle.runs.specs.Tree.{Applied, Apply, Arith, Assign, Case, Clo, Compare, Divide, End, Exception, Exp, Fun, Functions, FunctorOf, Int, Is, Items, Less, LetMod, ListOf, Lit, Make, Named, NewExn, NoFuns, NoVals, Node, PAny, PExn, PLit, PNil, PVar, Pair, Pat, Plus, Prim, PrintString, Rule, Stop, Str, Struct, Stuck, Try, Val, Value, Var}

-- print_string "text"
abbrev pub prints : List ℕ → Exp
prints t = call (Var (var (codes "print_string"))) (Lit (Str t))

-- let _ = (print_string "a", print_string "b")
abbrev pub two_prints : Items
two_prints = Value Stuck PAny (Node Pair (two (prints (codes "a")) (prints (codes "b")))) End

abbrev pub s_part : Part
s_part = codes "s"

abbrev pub rt_part : Part
rt_part = codes "Rt"

abbrev pub unit_part : Part
unit_part = codes "U1_a"

-- module Rt = struct let print = fun s -> print_string s end, and the items after it
abbrev pub with_rt : Items → Items
with_rt is =
    Struct rt_part
    (Value Stuck (PVar (var (codes "print"))) (fun_of (PVar (var s_part)) (call (Var (var (codes "print_string"))) (Var (var s_part)))) End) is

-- Rt.print "text"
abbrev pub rt_prints : List ℕ → Exp
rt_prints t = call (Var (rt_part ∷ codes "print" ∷ [])) (Lit (Str t))

-- module U1_a = struct let _ = Rt.print "text" let x = 1 end
abbrev pub hello : List ℕ → Items
hello t = with_rt (Struct unit_part (Value Stuck PAny (rt_prints t) (Value Stuck (PVar (var (codes "x"))) (Lit (Int (pos 1))) End)) End)

-- module A = struct let x = "a" end module B = struct let y = A.x end
abbrev pub path_read : Items
path_read =
    Struct (codes "A") (Value Stuck (PVar (var (codes "x"))) (Lit (Str (codes "a"))) End)
    (Struct (codes "B") (Value Stuck (PVar (var (codes "y"))) (Var (codes "A" ∷ codes "x" ∷ [])) End) End)

-- let x = 1 let x = 2
abbrev pub shadowed : Items
shadowed = Value Stuck (PVar (var (codes "x"))) (Lit (Int (pos 1))) (Value Stuck (PVar (var (codes "x"))) (Lit (Int (pos 2))) End)

-- module A = struct let x = 1 end module A = struct let y = 2 end
abbrev pub hidden : Items
hidden =
    Struct (codes "A") (Value Stuck (PVar (var (codes "x"))) (Lit (Int (pos 1))) End)
    (Struct (codes "A") (Value Stuck (PVar (var (codes "y"))) (Lit (Int (pos 2))) End) End)

-- fun s -> print_string s
abbrev pub printer : Val
printer = Clo Stuck (Rule (PVar (var s_part)) (Node Apply (two (Is (Prim PrintString NoVals)) (Var (var s_part)))) Stop)

-- let _ = Rt.print "one" let _ = Rt.print "two" ..
abbrev pub many_prints : List (List ℕ) → Items
many_prints [] = End
many_prints (t ∷ ts) = Value Stuck PAny (rt_prints t) (many_prints ts)

-- the texts one after another
abbrev pub joined : List (List ℕ) → List ℕ
joined [] = []
joined (t ∷ ts) = t ++ joined ts

abbrev pub int : ℕ → Exp
int n = Lit (Int (pos n))

abbrev pub text : List ℕ → Exp
text t = Lit (Str t)

abbrev pub name : List ℕ → Exp
name x = Var (var x)

-- let p = a, as an item whose pattern always takes the value
abbrev pub let_item : Pat → Exp → Items → Items
let_item p a is = Value Stuck p a is

abbrev pub bind : List ℕ → Exp → Items → Items
bind x a is = let_item (PVar (var x)) a is

-- let x = 4611686018427387903 + 1
abbrev pub wraps : Items
wraps = bind (codes "x") (infix_of (Arith Plus) (int 4611686018427387903) (int 1)) End

-- let _ = print_string "a" let x = 1 / 0
abbrev pub no_quotient : Items
no_quotient = let_item PAny (prints (codes "a")) (bind (codes "x") (infix_of (Arith Divide) (int 1) (int 0)) End)

-- let _ = match 1 with 2 -> ()
abbrev pub no_rule : Items
no_rule = let_item PAny (Case Stuck (int 1) (Rule (PLit (Int (pos 2))) unit_exp Stop)) End

-- let x = String.sub "hello" 1 3
abbrev pub cut_out : Items
cut_out = bind (codes "x") (call (call (call (Var (codes "String" ∷ codes "sub" ∷ [])) (text (codes "hello"))) (int 1)) (int 3)) End

-- let r = ref 1 let _ = r := 2 let x = !r
abbrev pub assigns : Items
assigns =
    bind (codes "r") (call (name (codes "ref")) (int 1))
    (let_item PAny (infix_of Assign (name (codes "r")) (int 2))
    (bind (codes "x") (call (name (codes "!")) (name (codes "r"))) End))

-- let r = ref 0 let _ = while !r < 3 do print_string "a"; r := !r + 1 done
abbrev pub read_r : Exp
read_r = call (name (codes "!")) (name (codes "r"))

abbrev pub loops : Items
loops =
    bind (codes "r") (call (name (codes "ref")) (int 0))
    (let_item PAny (while_do (infix_of (Compare Less) read_r (int 3)) (seq (prints (codes "a")) (infix_of Assign (name (codes "r")) (infix_of (Arith Plus) read_r (int 1))))) End)

-- let rec f = fun b -> let exception E in if b then raise E else try f true with E -> () let _ = f false
abbrev pub new_each_time : Items
new_each_time =
    Functions
    (Fun (var (codes "f")) Stuck
    (Rule (PVar (var (codes "b")))
    (NewExn (var (codes "E"))
    (choice (name (codes "b")) (call (name (codes "raise")) (Node Make (one (name (codes "E"))))) (Try (call (name (codes "f")) true_exp) (Rule (PExn (Named (var (codes "E"))) PNil) unit_exp Stop)))) Stop) NoFuns)
    (let_item PAny (call (name (codes "f")) false_exp) End)

-- exception E let _ = try print_string "a"; raise E with E -> print_string "b"
abbrev pub handled : Items
handled =
    Exception (var (codes "E"))
    (let_item PAny (Try (seq (prints (codes "a")) (call (name (codes "raise")) (Node Make (one (name (codes "E")))))) (Rule (PExn (Named (var (codes "E"))) PNil) (prints (codes "b")) Stop)) End)

-- let x = match [1; 2] with a :: _ -> (a, "y") | [] -> (0, "n")
abbrev pub list_read : Items
list_read =
    bind (codes "x")
    (Case Stuck (Node ListOf (two (int 1) (int 2)))
    (Rule (cons_pat (PVar (var (codes "a"))) PAny) (Node Pair (two (name (codes "a")) (text (codes "y")))) (Rule nil_pat (Node Pair (two (int 0) (text (codes "n")))) Stop))) End

-- let x = false && (raise_it ())
abbrev pub decided : Items
decided = bind (codes "x") (and_also false_exp (call (name (codes "raise")) (int 1))) End

-- module X = struct let y = "a" end
-- let x = let module X = struct let y = "b" let z = y exception E end in try raise X.E with X.E -> print_string X.z; X.y
-- let _ = print_string X.y
abbrev pub local : Items
local =
    Struct (codes "X") (bind (codes "y") (text (codes "a")) End)
    (bind (codes "x")
    (LetMod nothing (codes "X") (bind (codes "y") (text (codes "b")) (bind (codes "z") (name (codes "y")) (Exception (var (codes "E")) End)))
    (Try (call (name (codes "raise")) (Node Make (one (Var (codes "X" ∷ codes "E" ∷ [])))))
    (Rule (PExn (Named (codes "X" ∷ codes "E" ∷ [])) PNil) (seq (call (name (codes "print_string")) (Var (codes "X" ∷ codes "z" ∷ []))) (Var (codes "X" ∷ codes "y" ∷ []))) Stop)))
    (let_item PAny (call (name (codes "print_string")) (Var (codes "X" ∷ codes "y" ∷ []))) End))

-- module F (X : ..) () = struct exception E let _ = print_string X.y end
-- module A = struct let y = "a" end module B = F (A) () module C = F (A) ()
-- let x = try raise B.E with C.E -> "same" | B.E -> "own"
abbrev pub twice_applied : Items
twice_applied =
    FunctorOf (codes "F") (codes "X") (Exception (var (codes "E")) (let_item PAny (call (name (codes "print_string")) (Var (codes "X" ∷ codes "y" ∷ []))) End))
    (Struct (codes "A") (bind (codes "y") (text (codes "a")) End)
    (Applied (codes "B") (var (codes "F")) (var (codes "A"))
    (Applied (codes "C") (var (codes "F")) (var (codes "A"))
    (bind (codes "x")
    (Try (call (name (codes "raise")) (Node Make (one (Var (codes "B" ∷ codes "E" ∷ [])))))
    (Rule (PExn (Named (codes "C" ∷ codes "E" ∷ [])) PNil) (text (codes "same")) (Rule (PExn (Named (codes "B" ∷ codes "E" ∷ [])) PNil) (text (codes "own")) Stop))) End))))

-- after the text the variable x has the value, and so much is written
abbrev pub Leaves : Items → List ℕ → Option Val → ℕ → Type 0
Leaves is t o n = (c : Scope) × (s : St) × (mean_items n text_scope is start ≡ Done c s) × (s.out ≡ t) × (c.own (var (codes "x")) ≡ o)
