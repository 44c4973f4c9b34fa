-- The initial basis: the types of the rows of primitives, and what is bound before the first unit.
use Rattle.std.specs.Prelude.{ℕ, List, [], ◌∷◌, ◌++◌, map, replicate, length, Option, Some, None, slice_get, true, codes, if◌then◌else◌}
use Rattle.std.specs.Str.{bytes_eq}
use Rattle.sml_static.specs.declared.ty.Scheme.{Scheme}
use Rattle.sml_static.specs.declared.ty.Ty.{Ty}
use Rattle.sml_static.specs.declared.ty.Ty.TheVariants as ty
use Rattle.sml_static.specs.declared.ty.TyFun.{TyFun}
use Rattle.sml_static.specs.declared.ty.TyName.{TyName}
use Rattle.sml_static.specs.declared.ty.VarKind.TheVariants as kind
use Rattle.sml_static.specs.WellFormed.{alone}
use Rattle.mid_ast.specs.Tree.{Name, Part}
use Rattle.mid_typing.specs.Types.{type_name, int, word, char, string, bool, exn, list, ref, option, order, arrow, pair, tuple, unit}
use Rattle.mid_typing.specs.Env.{Env, Empty, AddVid, AddType, AddMod, Variable, Constructor, Exception}
use Rattle.mid_typing.specs.Dicts.{equality_scheme}

-- ---- schemes

abbrev pub one_type : Ty → Scheme
one_type t = record { vars = []; body = t }

-- for all types of one variable, which is Bound 0
abbrev pub for_all : Ty → Scheme
for_all t = record { vars = kind.Plain ∷ []; body = t }

abbrev pub for_equal : Ty → Scheme
for_equal t = record { vars = kind.Equal ∷ []; body = t }

abbrev pub a : Ty
a = ty.Bound 0

-- a constructor of a datatype: its argument, where it has one, and what it makes
abbrev pub constructor_type : Option Ty → Ty → Ty
constructor_type None t = t
constructor_type (Some u) t = arrow u t

-- for all types of the parameters of its type name
abbrev pub constructor_scheme : TyName → Option Ty → Scheme
constructor_scheme name arg = record { vars = replicate name.arity kind.Plain; body = constructor_type arg (alone name).body }

abbrev pub exception_scheme : Option Ty → Scheme
exception_scheme arg = one_type (constructor_type arg exn)

-- ---- values

-- A value of the initial basis: one row, or one for each type of an overloaded name.
pub data Row : Type 0 where
  One : Part → Scheme → Row
  Each : Part → List Ty → (Ty → Ty) → Row

abbrev pub schemes_of : Row → List Scheme
schemes_of (One x s) = s ∷ []
schemes_of (Each x ts f) = map (λ t. one_type (f t)) ts

abbrev pub all_schemes : List Row → List Scheme
all_schemes [] = []
all_schemes (r ∷ rs) = schemes_of r ++ all_schemes rs

-- of two arguments of one type
abbrev pub two_to : Ty → Ty → Ty
two_to t r = arrow (pair t t) r

abbrev pub operation : Ty → Ty
operation t = two_to t t

abbrev pub comparison : Ty → Ty
comparison t = two_to t bool

abbrev pub num : List Ty
num = int ∷ word ∷ []

abbrev pub numtxt : List Ty
numtxt = int ∷ word ∷ char ∷ string ∷ []

abbrev pub top_rows : List Row
top_rows =
    One (codes "=") (for_equal (two_to a bool)) ∷ One (codes "<>") (for_equal (two_to a bool)) ∷
    Each (codes "+") num operation ∷ Each (codes "-") num operation ∷ Each (codes "*") num operation ∷ Each (codes "div") num operation ∷
    Each (codes "mod") num operation ∷ One (codes "~") (one_type (arrow int int)) ∷ One (codes "abs") (one_type (arrow int int)) ∷
    Each (codes "<") numtxt comparison ∷ Each (codes "<=") numtxt comparison ∷ Each (codes ">") numtxt comparison ∷
    Each (codes ">=") numtxt comparison ∷ One (codes "not") (one_type (arrow bool bool)) ∷ One (codes "ignore") (for_all (arrow a unit)) ∷
    One (codes "before") (for_all (arrow (pair a unit) a)) ∷ One (codes "!") (for_all (arrow (ref a) a)) ∷
    One (codes ":=") (for_all (arrow (pair (ref a) a) unit)) ∷ One (codes "print") (one_type (arrow string unit)) ∷
    One (codes "^") (one_type (operation string)) ∷ One (codes "size") (one_type (arrow string int)) ∷
    One (codes "str") (one_type (arrow char string)) ∷ One (codes "chr") (one_type (arrow int char)) ∷
    One (codes "ord") (one_type (arrow char int)) ∷ One (codes "concat") (one_type (arrow (list string) string)) ∷
    One (codes "implode") (one_type (arrow (list char) string)) ∷ One (codes "explode") (one_type (arrow string (list char))) ∷
    One (codes "substring") (one_type (arrow (tuple (string ∷ int ∷ int ∷ [])) string)) ∷ One (codes "@") (for_all (operation (list a))) ∷
    One (codes "rev") (for_all (arrow (list a) (list a))) ∷ One (codes "length") (for_all (arrow (list a) int)) ∷
    One (codes "null") (for_all (arrow (list a) bool)) ∷ One (codes "hd") (for_all (arrow (list a) a)) ∷
    One (codes "tl") (for_all (arrow (list a) (list a))) ∷ One (codes "valOf") (for_all (arrow (option a) a)) ∷
    One (codes "isSome") (for_all (arrow (option a) bool)) ∷ One (codes "getOpt") (for_all (arrow (pair (option a) a) a)) ∷ []

abbrev pub int_rows : List Row
int_rows =
    One (codes "toString") (one_type (arrow int string)) ∷ One (codes "compare") (one_type (two_to int order)) ∷
    One (codes "min") (one_type (operation int)) ∷ One (codes "max") (one_type (operation int)) ∷ []

abbrev pub word_rows : List Row
word_rows =
    One (codes "toInt") (one_type (arrow word int)) ∷ One (codes "fromInt") (one_type (arrow int word)) ∷
    One (codes "andb") (one_type (operation word)) ∷ One (codes "orb") (one_type (operation word)) ∷ One (codes "xorb") (one_type (operation word)) ∷
    One (codes "notb") (one_type (arrow word word)) ∷ One (codes "<<") (one_type (operation word)) ∷ One (codes ">>") (one_type (operation word)) ∷ []

abbrev pub char_rows : List Row
char_rows = One (codes "compare") (one_type (two_to char order)) ∷ []

abbrev pub string_rows : List Row
string_rows = One (codes "sub") (one_type (arrow (pair string int) char)) ∷ One (codes "compare") (one_type (two_to string order)) ∷ []

-- The rows, numbered from 0 in this order, an overloaded name having one for each of its types.
abbrev pub prims : List Scheme
prims = all_schemes (top_rows ++ int_rows ++ word_rows ++ char_rows ++ string_rows)

abbrev pub prim_scheme : ℕ → Option Scheme
prim_scheme n = slice_get prims n

-- ---- what is bound

-- the values that are not overloaded, where f gives the path's part for a name
abbrev pub put_rows : (Part → Part) → List Row → Env → Env
put_rows f [] e = e
put_rows f (One x s ∷ rs) e = AddVid (f x ∷ []) (Variable s) (put_rows f rs e)
put_rows f (Each x ts g ∷ rs) e = put_rows f rs e

abbrev pub as_it_is : Part → Part
as_it_is x = x

-- exceptions
abbrev pub exceptions : List (Part × Option Ty)
exceptions =
    (codes "Match", None) ∷ (codes "Bind", None) ∷ (codes "Overflow", None) ∷ (codes "Div", None) ∷ (codes "Subscript", None) ∷
    (codes "Chr", None) ∷ (codes "Fail", Some string) ∷ (codes "Empty", None) ∷ (codes "Option", None) ∷ []

abbrev pub put_exceptions : List (Part × Option Ty) → Env → Env
put_exceptions [] e = e
put_exceptions (x ∷ xs) e = AddVid (x.0 ∷ []) (Exception (exception_scheme x.1)) (put_exceptions xs e)

-- datatypes
abbrev pub bool_cons : List (Part × Option Ty)
bool_cons = (codes "false", None) ∷ (codes "true", None) ∷ []

abbrev pub list_cons : List (Part × Option Ty)
list_cons = (codes "nil", None) ∷ (codes "::", Some (pair a (list a))) ∷ []

abbrev pub ref_cons : List (Part × Option Ty)
ref_cons = (codes "ref", Some a) ∷ []

abbrev pub option_cons : List (Part × Option Ty)
option_cons = (codes "NONE", None) ∷ (codes "SOME", Some a) ∷ []

abbrev pub order_cons : List (Part × Option Ty)
order_cons = (codes "LESS", None) ∷ (codes "EQUAL", None) ∷ (codes "GREATER", None) ∷ []

-- each constructor at its path, where f gives the path of a name
abbrev pub put_cons : (Part → Name) → TyName → ℕ → List (Part × Option Ty) → Env → Env
put_cons f name n [] e = e
put_cons f name n (c ∷ cs) e = put_cons f name n cs (AddVid (f c.0) (Constructor n (constructor_scheme name c.1)) e)

abbrev pub put_data : (Part → Name) → Name → TyName → List (Part × Option Ty) → Env → Env
put_data f path name cs e = put_cons f name (length cs) cs (AddType path (record { function = alone name; cons = cs }) e)

abbrev pub put_type : Name → TyFun → Env → Env
put_type path f e = AddType path (record { function = f; cons = [] }) e

abbrev pub of_name : Part → Name
of_name x = x ∷ []

abbrev pub type_of_no_arguments : Ty → TyFun
type_of_no_arguments t = record { arity = 0; body = t }

-- the types of the basis
abbrev pub put_types : Env → Env
put_types e =
    put_data of_name (of_name (codes "bool")) (type_name 4 0 true) bool_cons
    (put_data of_name (of_name (codes "list")) (type_name 6 1 true) list_cons
    (put_data of_name (of_name (codes "ref")) (type_name 7 1 true) ref_cons
    (put_data of_name (of_name (codes "option")) (type_name 8 1 true) option_cons
    (put_data of_name (of_name (codes "order")) (type_name 9 0 true) order_cons
    (put_type (of_name (codes "int")) (type_of_no_arguments int) (put_type (of_name (codes "word")) (type_of_no_arguments word)
    (put_type (of_name (codes "char")) (type_of_no_arguments char) (put_type (of_name (codes "string")) (type_of_no_arguments string)
    (put_type (of_name (codes "unit")) (type_of_no_arguments unit) (put_type (of_name (codes "exn")) (type_of_no_arguments exn) e))))))))))

-- Before the first unit, while paths are those of the source. A value outside the structures has no path: a use of one is
-- the number of its row.
abbrev pub basis : Env
basis =
    AddMod (codes "Int") (put_rows as_it_is int_rows Empty) (AddMod (codes "Word") (put_rows as_it_is word_rows Empty)
    (AddMod (codes "Char") (put_rows as_it_is char_rows Empty) (AddMod (codes "String") (put_rows as_it_is string_rows Empty)
    (put_exceptions exceptions (put_types Empty)))))

-- ---- what is bound after the homes are placed

-- `[]` is written for nil
abbrev pub placed_list_cons : List (Part × Option Ty)
placed_list_cons = (codes "[]", None) ∷ (codes "::", Some (pair a (list a))) ∷ []

-- the equality functions of type names
abbrev pub equalities : List (Part × TyName)
equalities =
    (codes "z_eq_int", type_name 0 0 true) ∷ (codes "z_eq_word", type_name 1 0 true) ∷ (codes "z_eq_char", type_name 2 0 true) ∷
    (codes "z_eq_string", type_name 3 0 true) ∷ (codes "z_eq_bool", type_name 4 0 true) ∷ (codes "z_eq_list", type_name 6 1 true) ∷
    (codes "z_eq_ref", type_name 7 1 true) ∷ (codes "z_eq_option", type_name 8 1 true) ∷ (codes "z_eq_order", type_name 9 0 true) ∷ []

abbrev pub put_equalities : List (Part × TyName) → Env → Env
put_equalities [] e = e
put_equalities (x ∷ xs) e = AddVid (x.0 ∷ []) (Variable (equality_scheme x.1)) (put_equalities xs e)

-- the values of Word whose names are symbols
abbrev pub written_shift : Part → Part
written_shift x = if bytes_eq x (codes "<<") then codes "s_lt_lt" else (if bytes_eq x (codes ">>") then codes "s_gt_gt" else x)

-- the module Rt: word, option, order, the exceptions, the equality functions and the structures
abbrev pub rt : Env
rt =
    AddMod (codes "Int") (put_rows as_it_is int_rows Empty) (AddMod (codes "Word") (put_rows written_shift word_rows Empty)
    (AddMod (codes "C_Char") (put_rows as_it_is char_rows Empty) (AddMod (codes "C_String") (put_rows as_it_is string_rows Empty)
    (put_equalities equalities (put_exceptions exceptions
    (put_data of_name (of_name (codes "option")) (type_name 8 1 true) option_cons
    (put_data of_name (of_name (codes "order")) (type_name 9 0 true) order_cons
    (put_type (of_name (codes "word")) (type_of_no_arguments word) Empty))))))))

abbrev pub placed_basis : Env
placed_basis =
    AddMod (codes "Rt") rt
    (put_data of_name (of_name (codes "bool")) (type_name 4 0 true) bool_cons
    (put_data of_name (of_name (codes "list")) (type_name 6 1 true) placed_list_cons
    (put_data of_name (of_name (codes "ref")) (type_name 7 1 true) ref_cons
    (put_type (of_name (codes "int")) (type_of_no_arguments int) (put_type (of_name (codes "char")) (type_of_no_arguments char)
    (put_type (of_name (codes "string")) (type_of_no_arguments string) (put_type (of_name (codes "unit")) (type_of_no_arguments unit)
    (put_type (of_name (codes "exn")) (type_of_no_arguments exn) Empty))))))))
