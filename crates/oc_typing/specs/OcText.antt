-- A whole text, and the names that OCaml predefines for it (the OCaml manual, chapter 28).
use Rattle.std.specs.Prelude.{ℕ, [], None, codes}
use Rattle.oc_ast.specs.Plain.{PItems}
use Rattle.oc_typing.specs.Ty.{Ty, Bound, Arrow, int, char, string, bool, exn, unit, list, ref, first_stamp}
use Rattle.oc_typing.specs.Env.{ConTy, Env, TyEntry, Empty, AddVal, AddCon, AddType, AddMod}
use Rattle.oc_typing.specs.OcTypes.{ItemsBind, OnceEach}

-- a type without constructors that a text can name
abbrev pub plain_type : ℕ → Ty → TyEntry
plain_type n t = record { arity = n; body = t; cons = [] }

abbrev pub constant : Ty → ConTy
constant t = record { arg = None; made = t }

abbrev pub predefined_types : Env
predefined_types =
    AddType (codes "int") (plain_type 0 int) (AddType (codes "char") (plain_type 0 char) (AddType (codes "string") (plain_type 0 string)
    (AddType (codes "bool") (plain_type 0 bool) (AddType (codes "unit") (plain_type 0 unit) (AddType (codes "exn") (plain_type 0 exn)
    (AddType (codes "list") (plain_type 1 (list (Bound 0))) (AddType (codes "ref") (plain_type 1 (ref (Bound 0))) Empty)))))))

abbrev pub string_module : Env
string_module =
    AddVal (codes "length") (Arrow string int) (AddVal (codes "get") (Arrow string (Arrow int char))
    (AddVal (codes "sub") (Arrow string (Arrow int (Arrow int string))) (AddVal (codes "make") (Arrow int (Arrow char string)) Empty)))

abbrev pub char_module : Env
char_module = AddVal (codes "code") (Arrow char int) (AddVal (codes "chr") (Arrow int char) Empty)

-- what is bound before a text
abbrev pub predefined : Env
predefined =
    AddVal (codes "ref") (Arrow (Bound 0) (ref (Bound 0))) (AddVal (codes "!") (Arrow (ref (Bound 0)) (Bound 0))
    (AddVal (codes "raise") (Arrow exn (Bound 0)) (AddVal (codes "not") (Arrow bool bool)
    (AddVal (codes "print_string") (Arrow string unit) (AddVal (codes "string_of_int") (Arrow int string)
    (AddMod (codes "String") string_module (AddMod (codes "Char") char_module
    (AddCon (codes "true") (constant bool) (AddCon (codes "false") (constant bool) predefined_types)))))))))

-- the text types, and binds the environment
abbrev pub OcText : PItems → Env → Type 0
OcText text env = (c : ℕ) × ItemsBind first_stamp predefined text c env × OnceEach env
