-- A small text that types and is secure.
use Rattle.std.specs.Prelude.{[], ◌∷◌, Option, Some, None, codes, pos}
use Rattle.oc_ast.specs.declared.literal.OcLit.TheVariants as lit
use Rattle.oc_ast.specs.Plain.{Bytes, PATy, NoTys, TCon, Variant, Any, PVar, PCon, PNil, PAt, PBuild, PCons, Items, Paren, NoAtoms, NoArms, MoreArms, Is, Match, Try, Let, Types, Exn, PItems, One, Call, Build, Fun, PAtom, PArms, PTuple, MorePats, NoPats, PParen, PConst, Oper, Con}
use Rattle.oc_typing.specs.Examples.{A, f, number, row, t, val, var, x, y}
use Rattle.oc_typing.specs.Ty.{Ty, Stamped, Arrow, NoTypes, int, list}
use Rattle.oc_typing.specs.Env.{ConTy, Env, TyEntry, Empty, AddVal, AddCon, AddType}
use Rattle.oc_typing.specs.OcTypes.{raises}

abbrev pub B : Bytes
B = codes "B"

abbrev pub E : Bytes
E = codes "E"

abbrev pub h : Bytes
h = codes "h"

abbrev pub int_part : PATy
int_part = TCon NoTys (codes "int" ∷ [])

-- type t = A | B of int
-- exception E of int
-- let f = fun x -> match x with A -> 0 | B y -> y
-- let h = fun x -> match x with [] -> raise (E 1) | y :: _ -> y
-- let y = try h [] with E x -> f (B x)
abbrev pub sample : PItems
sample =
    row
    (Types (Variant [] t None ((A, None) ∷ (B, Some int_part) ∷ []) ∷ [])
    ∷ Exn E (Some int_part)
    ∷ Let (var f) (Fun (PVar x) (Match (val x) (MoreArms (PAt (PCon (A ∷ []))) (number 0) (MoreArms (PBuild (B ∷ []) (PVar y)) (val y) NoArms))))
    ∷ Let (var h) (Fun (PVar x) (Match (val x) (MoreArms (PAt PNil) (Paren (Is (Call (val (codes "raise")) (Paren (Is (Build (E ∷ []) (number 1))))))) (MoreArms (PCons (PVar y) Any) (val y) NoArms))))
    ∷ Let (var y) (One (Paren (Try (Paren (Is (Call (val h) (Items NoAtoms)))) (MoreArms (PBuild (E ∷ []) (PVar x)) (Paren (Is (Call (val f) (Paren (Is (Build (B ∷ []) (val x))))))) NoArms))))
    ∷ [])

-- its own type
abbrev pub T : Ty
T = Stamped 11 NoTypes

abbrev pub entry : TyEntry
entry = record { arity = 0; body = T; cons = (A, None) ∷ (B, Some int) ∷ [] }

abbrev pub made : Option Ty → ConTy
made a = record { arg = a; made = T }

-- what it binds
abbrev pub types_env : Env
types_env = AddCon B (made (Some int)) (AddCon A (made None) (AddType t entry Empty))

abbrev pub exn_env : Env
exn_env = AddCon E (raises (Some int)) Empty

abbrev pub f_env : Env
f_env = AddVal f (Arrow T int) Empty

abbrev pub h_env : Env
h_env = AddVal h (Arrow (list int) int) Empty

abbrev pub y_env : Env
y_env = AddVal y int Empty

abbrev pub sample_env : Env
sample_env = AddVal y int (AddVal h (Arrow (list int) int) (AddVal f (Arrow T int) (AddCon E (raises (Some int)) types_env)))

-- | ([], _) -> .. | (_ :: _, []) -> .. | (_ :: _, _ :: _) -> ..
abbrev pub nested_arms : PAtom → PAtom → PAtom → PArms
nested_arms a b c =
    MoreArms (PAt (PTuple PNil (MorePats Any NoPats))) a
    (MoreArms (PAt (PTuple (PParen (PCons Any Any)) (MorePats PNil NoPats))) b
    (MoreArms (PAt (PTuple (PParen (PCons Any Any)) (MorePats (PParen (PCons Any Any)) NoPats))) c NoArms))

-- let x = 1 / 0
abbrev pub division : PItems
division = row (Let (var x) (Oper (number 1) (codes "/") (number 0)) ∷ [])

-- let x = match 1 with 0 -> 2
abbrev pub left_out : PItems
left_out = row (Let (var x) (One (Paren (Match (number 1) (MoreArms (PAt (PConst (lit.Int (pos 0)))) (number 2) NoArms)))) ∷ [])

-- exception f let f = 1 let x = raise f
abbrev pub confused : PItems
confused = row (Exn f None ∷ Let (var f) (One (number 1)) ∷ Let (var x) (Call (val (codes "raise")) (Con (f ∷ []))) ∷ [])

abbrev pub x_int : Env
x_int = AddVal x int Empty

abbrev pub confused_env : Env
confused_env = AddVal x int (AddVal f int (AddCon f (raises None) Empty))
