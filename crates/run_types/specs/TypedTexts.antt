-- Small texts with their types, and one that goes wrong since its cell would need a scheme.
use Rattle.std.specs.Prelude.{Some, codes}
use Rattle.run_types.specs.Basic.{for_all, text_types}
use Rattle.run_types.specs.TypedItems.{ScopeTy, inside_ty, joined, with_struct_ty}
use Rattle.run_types.specs.Types.{ConsT, Ctx, Mono, NilT, TArr, TInt, TString, TTup, TVar, Ty, unit_ty}
use Rattle.runs.specs.Env.{binds}
use Rattle.runs.specs.Examples.{bind, int, let_item, name, rt_part, text, unit_part}
use Rattle.runs.specs.Forms.{call, fun_of, infix_of, two, unit_exp, var}
use Rattle.runs.specs.Tree.{Arith, Assign, End, Exp, Items, Node, PAny, PVar, Pair, Plus}

abbrev pub only : Ty → Ctx
only a = λ y. Some (Mono a)

-- the types of Rt, with print
abbrev pub rt_types : ScopeTy
rt_types = joined (binds (PVar (var (codes "print")))) (only (TArr TString unit_ty)) (inside_ty text_types)

abbrev pub after_rt : ScopeTy
after_rt = with_struct_ty rt_part rt_types.own text_types

-- the types of U1_a, with x
abbrev pub unit_types : ScopeTy
unit_types = joined (binds (PVar (var (codes "x")))) (only TInt) (joined (binds PAny) (only unit_ty) (inside_ty after_rt))

-- the types after the text `hello`
abbrev pub after_hello : ScopeTy
after_hello = with_struct_ty unit_part unit_types.own after_rt

-- fun x -> x
abbrev pub identity : Exp
identity = fun_of (PVar (var (codes "x"))) (name (codes "x"))

-- let f = fun x -> x let x = (f 5, f "a")
abbrev pub twice : Items
twice = bind (codes "f") identity (bind (codes "x") (Node Pair (two (call (name (codes "f")) (int 5)) (call (name (codes "f")) (text (codes "a"))))) End)

abbrev pub identity_scheme : Ctx
identity_scheme = λ y. Some (for_all (TArr (TVar 0) (TVar 0)))

abbrev pub pair_ty : Ty
pair_ty = TTup (ConsT TInt (ConsT TString NilT))

abbrev pub after_f : ScopeTy
after_f = joined (binds (PVar (var (codes "f")))) identity_scheme text_types

abbrev pub after_twice : ScopeTy
after_twice = joined (binds (PVar (var (codes "x")))) (only pair_ty) after_f

-- let r = ref (fun x -> x) let _ = r := (fun x -> x + 1) let y = !r ()
abbrev pub bad_cell : Items
bad_cell =
    bind (codes "r") (call (name (codes "ref")) identity)
    (let_item PAny (infix_of Assign (name (codes "r")) (fun_of (PVar (var (codes "x"))) (infix_of (Arith Plus) (name (codes "x")) (int 1))))
    (bind (codes "y") (call (call (name (codes "!")) (name (codes "r"))) unit_exp) End))
