-- Texts that do without what may have no step: String and Char are not bound where they begin.
use Rattle.std.specs.Prelude.{ℕ, codes}
use Rattle.oc_ast.specs.Plain.{PItems}
use Rattle.oc_typing.specs.Ty.{Bound, Arrow, int, string, bool, exn, unit, ref, first_stamp}
use Rattle.oc_typing.specs.Env.{Env, AddVal, AddCon}
use Rattle.oc_typing.specs.OcTypes.{ItemsBind, OnceEach}
use Rattle.oc_typing.specs.OcText.{constant, predefined_types}

-- what OCaml predefines, without the functions on strings and characters
abbrev pub total : Env
total =
    AddVal (codes "ref") (Arrow (Bound 0) (ref (Bound 0))) (AddVal (codes "!") (Arrow (ref (Bound 0)) (Bound 0))
    (AddVal (codes "raise") (Arrow exn (Bound 0)) (AddVal (codes "not") (Arrow bool bool)
    (AddVal (codes "print_string") (Arrow string unit) (AddVal (codes "string_of_int") (Arrow int string)
    (AddCon (codes "true") (constant bool) (AddCon (codes "false") (constant bool) predefined_types)))))))

-- the text types where String and Char are not bound
abbrev pub TypesTotally : PItems → Env → Type 0
TypesTotally text env = (c : ℕ) × ItemsBind first_stamp total text c env × OnceEach env
