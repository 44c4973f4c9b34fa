-- Small units, some of which type.
use Rattle.std.specs.Prelude.{ℕ, pos, true, false, List, [], ◌∷◌, Some, None, codes}
use Rattle.std.specs.List.{slice_index_or}
use Rattle.tl_text.specs.declared.lit.Lit.TheVariants as lit
use Rattle.sml_static.specs.declared.mid.MidData.{MidData}
use Rattle.sml_static.specs.declared.ty.Ty.{Ty}
use Rattle.sml_static.specs.declared.ty.Ty.TheVariants as ty
use Rattle.sml_static.specs.declared.ty.VarKind.{VarKind}
use Rattle.sml_static.specs.declared.ty.VarKind.TheVariants as kind
use Rattle.sml_static.specs.WellFormed.{Numbering}
use Rattle.mid_ast.specs.Tree.{Part, Name, Dict, At, Base, Given, Parts, NoDicts, MoreDicts, Pat, Any, PVar, PCon, PConOf, PTuple, NoPats, MorePats, Exp, Const, Local, Home, Con, Prim, Tuple, Apply, Fun, Raise, Handle, Let, NoExps, MoreExps, Rules, NoRules, MoreRules, Vals, Funs, Datas, NewExn, NoDecs, MoreDecs, NoBinds, MoreBinds, Item, Core, Module, Items, NoItems, MoreItems, Body, AtPath}
use Rattle.mid_typing.specs.Types.{arrow, bool, exn, int, list, option, pair, ref, string, type_name, unit}
use Rattle.mid_typing.specs.Dicts.{Setting, Stage, Elaborated}

-- the fixed type names; all others take no argument and admit equality
abbrev pub numbering : Numbering
numbering = record {
  arity = λ n. slice_index_or (0 ∷ 0 ∷ 0 ∷ 0 ∷ 0 ∷ 0 ∷ 1 ∷ 1 ∷ 1 ∷ []) n 0;
  equality = λ n. slice_index_or (true ∷ true ∷ true ∷ true ∷ true ∷ false ∷ []) n true;
}

abbrev pub at_stage : Stage → Setting
at_stage stage = record { names = numbering; stage = stage }

abbrev pub setting : Setting
setting = at_stage Elaborated

-- one unit
abbrev pub row : List Item → Items
row [] = NoItems
row (i ∷ is) = MoreItems i (row is)

abbrev pub alone : List Item → List (Part × Items)
alone is = ([], row is) ∷ []

-- val pat = exp
abbrev pub val : Pat → List VarKind → Exp → Item
val p vars e = Core (Vals (MoreBinds p vars e NoBinds))

abbrev pub rule : Pat → Exp → Rules
rule p e = MoreRules p e NoRules

abbrev pub both : Exp → Exp → Exp
both a b = Tuple (MoreExps a (MoreExps b NoExps))

abbrev pub number : ℕ → Exp
number n = Const (lit.Int (pos n))

abbrev pub text : List ℕ → Exp
text s = Const (lit.Text s)

abbrev pub home : Name → Ty → Exp
home q t = Home q t NoDicts

abbrev pub a : Ty
a = ty.Bound 0

-- val id = fn x => x   val y = (id 1, id "a")
abbrev pub id : Name
id = codes "id" ∷ []

abbrev pub identity : Item
identity = val (PVar 1 (codes "id") (arrow a a)) (kind.Plain ∷ []) (Fun (rule (PVar 2 (codes "x") a) (Local 2 a NoDicts)) a a)

abbrev pub at_two : Item
at_two =
    val (PVar 3 (codes "y") (pair int string)) []
    (both (Apply (home id (arrow int int)) (number 1)) (Apply (home id (arrow string string)) (text (codes "a"))))

abbrev pub used_twice : List Item
used_twice = identity ∷ at_two ∷ []

-- datatype t = A | B of int   val x = (fn A => 0 | B n => n) (B 1)
abbrev pub t : Ty
t = ty.Con (type_name 16 0 true) []

abbrev pub A : Name
A = codes "A" ∷ []

abbrev pub B : Name
B = codes "B" ∷ []

abbrev pub data_t : MidData
data_t = record { path = codes "t" ∷ []; name = type_name 16 0 true; cons = (codes "A", None) ∷ (codes "B", Some int) ∷ [] }

abbrev pub matched : List Item
matched =
    Core (Datas (data_t ∷ []))
    ∷ val (PVar 1 (codes "x") int) []
    (Apply (Fun (MoreRules (PCon A t 2) (number 0) (rule (PConOf B (arrow int t) 2 (PVar 2 (codes "n") int)) (Local 2 int NoDicts))) t int)
    (Apply (Con B (arrow int t)) (number 1))) ∷ []

-- datatype t = A   datatype u = datatype t   val x = A, and the same where u has another constructor
abbrev pub data_of : List ℕ → List ℕ → MidData
data_of x k = record { path = x ∷ []; name = type_name 16 0 true; cons = (k, None) ∷ [] }

abbrev pub copied : List Item
copied =
    Core (Datas (data_of (codes "t") (codes "A") ∷ [])) ∷ Core (Datas (data_of (codes "u") (codes "A") ∷ [])) ∷ val (PVar 1 (codes "x") t) [] (Con A t) ∷ []

abbrev pub other_copy : List Item
other_copy = Core (Datas (data_of (codes "t") (codes "A") ∷ [])) ∷ Core (Datas (data_of (codes "u") (codes "B") ∷ [])) ∷ []

-- exception E of int   val x = raise E 1 handle E n => n
abbrev pub E : Name
E = codes "E" ∷ []

abbrev pub handled : List Item
handled =
    Core (NewExn E (Some int))
    ∷ val (PVar 1 (codes "x") int) []
    (Handle (Raise (Apply (Con E (arrow int exn)) (number 1)) int) (rule (PConOf E (arrow int exn) 0 (PVar 2 (codes "n") int)) (Local 2 int NoDicts))) ∷ []

-- val r = ref 1   val _ = r := 2
abbrev pub assigned : List Item
assigned =
    val (PVar 1 (codes "r") (ref int)) [] (Apply (Con (codes "ref" ∷ []) (arrow int (ref int))) (number 1))
    ∷ val (Any unit) [] (Apply (Prim 34 (arrow (pair (ref int) int) unit) NoDicts) (both (home (codes "r" ∷ []) (ref int)) (number 2))) ∷ []

-- fun same (x, y) = x = y   val b = same ((1, "a"), (2, "b"))
abbrev pub same_item : Item
same_item =
    Core
    (Funs
    (MoreBinds (PVar 1 (codes "same") (arrow (pair a a) bool)) (kind.Equal ∷ [])
    (Fun
    (rule (PTuple (MorePats (PVar 2 (codes "x") a) (MorePats (PVar 3 (codes "y") a) NoPats)))
    (Apply (Prim 0 (arrow (pair a a) bool) NoDicts) (both (Local 2 a NoDicts) (Local 3 a NoDicts)))) (pair a a) bool) NoBinds))

abbrev pub int_and_string : Dict
int_and_string = Parts (MoreDicts (Base 0) (MoreDicts (Base 3) NoDicts))

abbrev pub compared : List Item
compared =
    same_item
    ∷ val (PVar 4 (codes "b") bool) []
    (Apply (Home (codes "same" ∷ []) (arrow (pair (pair int string) (pair int string)) bool) (MoreDicts int_and_string NoDicts))
    (both (both (number 1) (text (codes "a"))) (both (number 2) (text (codes "b"))))) ∷ []

-- structure S = struct val x = 1 end   structure T = S   val y = T.x
abbrev pub aliased : List Item
aliased =
    Module (codes "S") (Body (row (val (PVar 1 (codes "x") int) [] (number 1) ∷ []))) ∷ Module (codes "T") (AtPath (codes "S" ∷ []))
    ∷ val (PVar 2 (codes "y") int) [] (home (codes "T" ∷ codes "x" ∷ []) int) ∷ []

-- val r = ref nil, for all types of its content
abbrev pub general_cell : Item
general_cell =
    val (PVar 1 (codes "r") (ref (list a))) (kind.Plain ∷ []) (Apply (Con (codes "ref" ∷ []) (arrow (list a) (ref (list a)))) (Con (codes "nil" ∷ []) (list a)))

-- true, as an int
abbrev pub wrong_true : Exp
wrong_true = Con (codes "true" ∷ []) int

-- let datatype t = A | B of int in A end
abbrev pub leaving : Exp
leaving = Let (MoreDecs (Datas (data_t ∷ [])) NoDecs) (Con A t)

-- fn f => (f 1, f "a"), where f has these types
abbrev pub twice_parameter : Ty → Ty → Ty → Exp
twice_parameter u v w =
    Fun (rule (PVar 1 (codes "f") u) (both (Apply (Local 1 v NoDicts) (number 1)) (Apply (Local 1 w NoDicts) (text (codes "a"))))) u (pair int string)

-- fun f x = f 1, where f has the type 'a -> int
abbrev pub x_pat : Pat
x_pat = PVar 2 (codes "x") a

abbrev pub recursive_call : Exp
recursive_call = Apply (Local 1 (arrow int int) NoDicts) (number 1)

abbrev pub recursive : Item
recursive = Core (Funs (MoreBinds (PVar 1 (codes "f") (arrow a int)) (kind.Plain ∷ []) (Fun (rule x_pat recursive_call) a int) NoBinds))

-- val SOME f = SOME (fn x => x), for all types of x
abbrev pub some_type : Ty
some_type = arrow (arrow a a) (option (arrow a a))

abbrev pub some_pat : Pat
some_pat = PConOf (codes "SOME" ∷ []) some_type 2 (PVar 1 (codes "f") (arrow a a))

abbrev pub refutable : Item
refutable = val some_pat (kind.Plain ∷ []) (Apply (Con (codes "SOME" ∷ []) some_type) (Fun (rule (PVar 2 (codes "x") a) (Local 2 a NoDicts)) a a))

-- val (f, n) = (same, 1), for all equality types of the arguments of f
abbrev pub f_pat : Pat
f_pat = PVar 1 (codes "f") (arrow (pair a a) bool)

abbrev pub n_pat : Pat
n_pat = PVar 2 (codes "n") int

abbrev pub split_equality : Item
split_equality =
    val (PTuple (MorePats f_pat (MorePats n_pat NoPats))) (kind.Equal ∷ [])
    (both (Home (codes "same" ∷ []) (arrow (pair a a) bool) (MoreDicts (Given 0) NoDicts)) (number 1))

-- val k = (m, fn x => x), for all types of x, where m is a pair of a test of an equality type and a number, used at int
abbrev pub test_of_int : Ty
test_of_int = pair (arrow (pair int int) bool) int

abbrev pub used_equality : Item
used_equality =
    val (PVar 1 (codes "k") (pair test_of_int (arrow a a))) (kind.Plain ∷ [])
    (both (Home (codes "m" ∷ []) test_of_int (MoreDicts (Base 0) NoDicts)) (Fun (rule (PVar 2 (codes "x") a) (Local 2 a NoDicts)) a a))

-- val b = (1, "a") = (2, "b"), with its dictionary
abbrev pub tested : List Item
tested =
    val (PVar 1 (codes "b") bool) []
    (Apply (Prim 0 (arrow (pair (pair int string) (pair int string)) bool) (MoreDicts int_and_string NoDicts))
    (both (both (number 1) (text (codes "a"))) (both (number 2) (text (codes "b"))))) ∷ []

-- val b = nil = nil, at lists of int, with the written paths
abbrev pub empty_list : Exp
empty_list = Con (codes "[]" ∷ []) (list int)

abbrev pub list_of_int : Dict
list_of_int = At (codes "Rt" ∷ codes "z_eq_list" ∷ []) (MoreDicts (Base 0) NoDicts)

abbrev pub tested_lists : List Item
tested_lists =
    val (PVar 1 (codes "b") bool) []
    (Apply (Prim 0 (arrow (pair (list int) (list int)) bool) (MoreDicts list_of_int NoDicts)) (both empty_list empty_list)) ∷ []

-- val x = 1, and in the next unit val y = x; after the homes are placed the unit is a structure
abbrev pub x_unit : Items
x_unit = row (val (PVar 1 (codes "x") int) [] (number 1) ∷ [])

abbrev pub y_unit : Name → Items
y_unit q = row (val (PVar 1 (codes "y") int) [] (home q int) ∷ [])

abbrev pub one_later : List (Part × Items)
one_later = ([], x_unit) ∷ ([], y_unit (codes "x" ∷ [])) ∷ []

abbrev pub one_placed : List (Part × Items)
one_placed = (codes "U1_a", x_unit) ∷ (codes "U2_b", y_unit (codes "U1_a" ∷ codes "x" ∷ [])) ∷ []
