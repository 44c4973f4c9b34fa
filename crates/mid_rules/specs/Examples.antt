-- Small units, as plain trees.
use Rattle.std.specs.Prelude.{ℕ, pos, negsuc, List, [], ◌∷◌, Some, None, true, false, codes}
use Rattle.tl_text.specs.declared.lit.Lit.TheVariants as lit
use Rattle.mid_rules.specs.Core.{Maker, Makes, Raises, Refers, Dict, Base, Given, Parts, NoDicts, MoreDicts, Pat, Any, PLit, PVar, PCon, PConOf, PTuple, NoPats, MorePats, Exp, Const, Local, Home, Con, Prim, Tuple, Apply, Fun, Raise, Handle, Let, NoExps, MoreExps, Rules, NoRules, MoreRules, Vals, Funs, NewExn, NoDecs, MoreDecs, NoBinds, MoreBinds, Item, Core, Module, Items, NoItems, MoreItems, Body, AtPath}

abbrev pub row : List Item → Items
row [] = NoItems
row (i ∷ is) = MoreItems i (row is)

abbrev pub rule : Pat → Exp → Rules
rule p a = MoreRules p a NoRules

abbrev pub pair : Exp → Exp → Exp
pair a b = Tuple (MoreExps a (MoreExps b NoExps))

abbrev pub pair_of : Pat → Pat → Pat
pair_of p q = PTuple (MorePats p (MorePats q NoPats))

-- val pat = exp
abbrev pub val : Pat → Exp → Item
val p a = Core (Vals (MoreBinds p 0 a NoBinds))

-- a variable of this number and name, and its use
abbrev pub variable : ℕ → List ℕ → Pat
variable b x = PVar b x

abbrev pub local : ℕ → Exp
local b = Local b NoDicts

abbrev pub home : List ℕ → Exp
home x = Home (x ∷ []) NoDicts

abbrev pub text : List ℕ → Exp
text s = Const (lit.Text s)

abbrev pub number : ℕ → Exp
number n = Const (lit.Int (pos n))

abbrev pub int_pat : ℕ → Pat
int_pat n = PLit (lit.Int (pos n))

abbrev pub print : Exp → Exp
print a = Apply (Prim 35 None NoDicts) a

-- fun k x y = x, and val _ = print (k "p" 1) in the next unit
abbrev pub used_later : List Items
used_later =
    row (Core (Funs (MoreBinds (variable 1 (codes "k")) 0 (Fun (rule (variable 2 (codes "x")) (Fun (rule (variable 3 (codes "y")) (local 2))))) NoBinds)) ∷ [])
    ∷ row (val Any (print (Apply (Apply (home (codes "k")) (text (codes "p"))) (number 1))) ∷ []) ∷ []

-- val _ = (fn a => fn b => ()) (print "a") (print "b")
abbrev pub left_to_right : List Items
left_to_right =
    row
    (val Any
    (Apply (Apply (Fun (rule (variable 1 []) (Fun (rule (variable 2 []) (Tuple NoExps))))) (print (text (codes "a")))) (print (text (codes "b")))) ∷ [])
    ∷ []

-- val _ = (fn 0 => print "z") 1
abbrev pub no_rule_takes : List Items
no_rule_takes = row (val Any (Apply (Fun (rule (int_pat 0) (print (text (codes "z"))))) (number 1)) ∷ []) ∷ []

-- val (1, x) = (2, 3)
abbrev pub no_binding : List Items
no_binding = row (val (pair_of (int_pat 1) (variable 1 (codes "x"))) (pair (number 2) (number 3)) ∷ []) ∷ []

-- val x = 1  val x = 2 and y = x  val _ = print ((fn 1 => "old" | _ => "new") y)
abbrev pub old_or_new : Exp
old_or_new = Fun (MoreRules (int_pat 1) (text (codes "old")) (rule Any (text (codes "new"))))

abbrev pub bound_together : List Items
bound_together =
    row
    (val (variable 1 (codes "x")) (number 1)
    ∷ Core (Vals (MoreBinds (variable 2 (codes "x")) 0 (number 2) (MoreBinds (variable 3 (codes "y")) 0 (home (codes "x")) NoBinds)))
    ∷ val Any (print (Apply old_or_new (home (codes "y")))) ∷ []) ∷ []

-- val x = 4611686018427387903 + 1
abbrev pub too_large : List Items
too_large = row (val (variable 1 (codes "x")) (Apply (Prim 2 (Some 0) NoDicts) (pair (number 4611686018427387903) (number 1))) ∷ []) ∷ []

-- structure S = struct exception E end  structure T = S
-- val _ = (let exception E in raise T.E end) handle S.E => print "own"
abbrev pub E_of : List ℕ → Maker
E_of s = Raises (s ∷ codes "E" ∷ [])

abbrev pub aliased : List Items
aliased =
    row
    (Module (codes "S") (Body (row (Core (NewExn (codes "E" ∷ [])) ∷ []))) ∷ Module (codes "T") (AtPath (codes "S" ∷ []))
    ∷ val Any
    (Handle (Let (MoreDecs (NewExn (codes "E" ∷ [])) NoDecs) (Raise (Con (E_of (codes "T")) false))) (rule (PCon (E_of (codes "S"))) (print (text (codes "own")))))
    ∷ []) ∷ []

-- fun f g = let exception E in (fn NONE => (f (SOME (fn () => raise E)) handle E => print "outer")
--   | SOME h => (h () handle E => print "inner")) g end
-- val _ = f NONE
abbrev pub own_E : Maker
own_E = Raises (codes "E" ∷ [])

abbrev pub handled : Exp → List ℕ → Exp
handled a s = Handle a (rule (PCon own_E) (print (text s)))

abbrev pub made_anew : List Items
made_anew =
    row
    (Core
    (Funs
    (MoreBinds (variable 1 (codes "f")) 0
    (Fun
    (rule (variable 2 (codes "g"))
    (Let (MoreDecs (NewExn (codes "E" ∷ [])) NoDecs)
    (Apply
    (Fun
    (MoreRules (PCon (Makes (codes "NONE"))) (handled (Apply (local 1) (Apply (Con (Makes (codes "SOME")) true) (Fun (rule (PTuple NoPats) (Raise (Con own_E false)))))) (codes "outer"))
    (rule (PConOf (Makes (codes "SOME")) (variable 3 (codes "h"))) (handled (Apply (local 3) (Tuple NoExps)) (codes "inner")))))
    (local 2))))) NoBinds))
    ∷ val Any (Apply (home (codes "f")) (Con (Makes (codes "NONE")) false)) ∷ []) ∷ []

-- fun same (x, y) = x = y, which takes a dictionary, used at int * string
abbrev pub same_item : Item
same_item =
    Core
    (Funs
    (MoreBinds (variable 1 (codes "same")) 1
    (Fun (rule (pair_of (variable 2 (codes "x")) (variable 3 (codes "y"))) (Apply (Prim 0 None (MoreDicts (Given 0) NoDicts)) (pair (local 2) (local 3))))) NoBinds))

abbrev pub yes_or_no : Exp
yes_or_no = Fun (MoreRules (PCon (Makes (codes "true"))) (print (text (codes "y"))) (rule (PCon (Makes (codes "false"))) (print (text (codes "n")))))

abbrev pub int_and_string : Dict
int_and_string = Parts (MoreDicts (Base 0) (MoreDicts (Base 3) NoDicts))

abbrev pub same_at : List ℕ → List ℕ → Item
same_at a b =
    val Any
    (Apply yes_or_no
    (Apply (Home (codes "same" ∷ []) (MoreDicts int_and_string NoDicts)) (pair (pair (number 1) (text a)) (pair (number 1) (text b)))))

abbrev pub by_dictionary : List Items
by_dictionary = row (same_item ∷ same_at (codes "a") (codes "a") ∷ same_at (codes "a") (codes "b") ∷ []) ∷ []

-- val _ = yes_or_no (a = b) at the type of this number
abbrev pub compared : ℕ → Exp → Exp → Item
compared ty a b = val Any (Apply yes_or_no (Apply (Prim 0 (Some ty) NoDicts) (pair a b)))

abbrev pub at_ints : ℕ → Exp → Exp → Exp
at_ints row a b = Apply (Prim row (Some 0) NoDicts) (pair a b)

abbrev pub minus : ℕ → Exp
minus n = Const (lit.Int (negsuc n))

-- val _ = yes_or_no (~7 div 2 = ~4)  val _ = yes_or_no (~7 mod 2 = 1)  val x = 1 div 0
abbrev pub divides : List Items
divides =
    row
    (compared 0 (at_ints 8 (minus 6) (number 2)) (minus 3) ∷ compared 0 (at_ints 10 (minus 6) (number 2)) (number 1)
    ∷ val (variable 1 (codes "x")) (at_ints 8 (number 1) (number 0)) ∷ []) ∷ []

-- val r = ref 1  val s = r  val t = ref 5  val _ = r := 5
-- val _ = yes_or_no (!s = 5)  val _ = yes_or_no (r = s)  val _ = yes_or_no (r = t)
abbrev pub cell : ℕ → Exp
cell n = Apply (Con Refers true) (number n)

abbrev pub references : List Items
references =
    row
    (val (variable 1 (codes "r")) (cell 1) ∷ val (variable 2 (codes "s")) (home (codes "r")) ∷ val (variable 3 (codes "t")) (cell 5)
    ∷ val Any (Apply (Prim 34 None NoDicts) (pair (home (codes "r")) (number 5)))
    ∷ compared 0 (Apply (Prim 33 None NoDicts) (home (codes "s"))) (number 5) ∷ compared 7 (home (codes "r")) (home (codes "s"))
    ∷ compared 7 (home (codes "r")) (home (codes "t")) ∷ []) ∷ []
