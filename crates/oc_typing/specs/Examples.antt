-- Small texts, some of which type.
use Rattle.std.specs.Prelude.{ℕ, pos, List, [], ◌∷◌, Some, None, codes}
use Rattle.oc_ast.specs.declared.literal.OcLit.TheVariants as lit
use Rattle.oc_ast.specs.Plain.{Bytes, PATy, NoATys, MoreATys, POTy, NoTys, MoreTys, TVar, TCon, TAt, TArrow, TTuple, PTDef, Alias, Variant, PAPat, Any, PVar, PTuple, NoPats, MorePats, PPat, PAt, PBuild, PAtom, Const, Val, Con, Nothing, Paren, Tuple, NoAtoms, MoreAtoms, NoArms, MoreArms, PFull, Is, LetIn, LetMod, Match, Try, PItem, Let, LetRec, Types, Exn, ExnAs, Module, PItems, NoItems, MoreItems, Struct, PRBind, Poly, NoBinds, MoreBinds, PSimple, One, Call, Build, Oper, Fun}

-- names of one part
abbrev pub val : List ℕ → PAtom
val x = Val (x ∷ [])

abbrev pub con : List ℕ → PAtom
con x = Con (x ∷ [])

abbrev pub var : List ℕ → PPat
var x = PAt (PVar x)

abbrev pub number : ℕ → PAtom
number n = Const (lit.Int (pos n))

abbrev pub one : PAtom → PFull
one a = Is (One a)

-- (f a), and (a, b)
abbrev pub called : PAtom → PAtom → PAtom
called f a = Paren (Is (Call f a))

abbrev pub two : PAtom → PAtom → PAtom
two a b = Tuple a (MoreAtoms b NoAtoms)

abbrev pub both : PAPat → PAPat → PAPat
both p q = PTuple p (MorePats q NoPats)

-- items in a row
abbrev pub row : List PItem → PItems
row [] = NoItems
row (i ∷ is) = MoreItems i (row is)

-- a type name without arguments, and at one argument
abbrev pub named : List ℕ → POTy
named n = TAt (TCon NoTys (n ∷ []))

abbrev pub named_at : POTy → List ℕ → PATy
named_at t n = TCon (MoreTys t NoTys) (n ∷ [])

abbrev pub alpha : Bytes
alpha = codes "'a"

abbrev pub f : Bytes
f = codes "f"

abbrev pub x : Bytes
x = codes "x"

abbrev pub y : Bytes
y = codes "y"

abbrev pub M : Bytes
M = codes "M"

abbrev pub t : Bytes
t = codes "t"

abbrev pub u : Bytes
u = codes "u"

abbrev pub A : Bytes
A = codes "A"

-- fun x -> x
abbrev pub identity : PSimple
identity = Fun (PVar x) (one (val x))

-- (f 1, f ())
abbrev pub at_two : PFull
at_two = one (two (called (val f) (number 1)) (called (val f) Nothing))

-- let f = fun x -> x in (f 1, f ())
abbrev pub twice : PFull
twice = LetIn (var f) identity at_two

-- fun f -> (f 1, f ())
abbrev pub twice_parameter : PFull
twice_parameter = Is (Fun (PVar f) at_two)

-- let f = (fun x -> x) (fun x -> x) in (f 1, f ())
abbrev pub twice_called : PFull
twice_called = LetIn (var f) (Call (Paren (Is identity)) (Paren (Is identity))) at_two

-- let x = ref 1 let _ = x := 2 let y = x == x
abbrev pub cells : PItems
cells =
    row
    (Let (var x) (Call (val (codes "ref")) (number 1)) ∷ Let (PAt Any) (Oper (val x) (codes ":=") (number 2))
    ∷ Let (var y) (Oper (val x) (codes "==") (val x)) ∷ [])

-- type 'a t = A of 'a | B of ('a * 'a) t
-- let rec f : 'a . 'a t -> int = fun x -> match x with | A _ -> 0 | B y -> f y
abbrev pub nested_type : PTDef
nested_type =
    Variant (alpha ∷ []) t None
    ((A, Some (TVar alpha)) ∷ (codes "B", Some (named_at (TTuple (TVar alpha) (MoreATys (TVar alpha) NoATys)) t)) ∷ [])

abbrev pub depth : PRBind
depth =
    Poly f (alpha ∷ []) (TArrow (named_at (TAt (TVar alpha)) t) (named (codes "int")))
    (Fun (PVar x)
    (Match (val x) (MoreArms (PBuild (A ∷ []) Any) (number 0) (MoreArms (PBuild (codes "B" ∷ []) (PVar y)) (called (val f) (val y)) NoArms))))

abbrev pub nested : PItems
nested = row (Types (nested_type ∷ []) ∷ LetRec (MoreBinds depth NoBinds) ∷ [])

-- module M = struct type t = A type u = A type v = t = A end let x = M.A
abbrev pub copied : PItems
copied =
    row
    (Module M
    (Struct
    (row
    (Types (Variant [] t None ((A, None) ∷ []) ∷ []) ∷ Types (Variant [] u None ((A, None) ∷ []) ∷ [])
    ∷ Types (Variant [] (codes "v") (Some (named t)) ((A, None) ∷ []) ∷ []) ∷ [])))
    ∷ Let (var x) (One (Con (M ∷ A ∷ []))) ∷ [])

-- exception A of int exception B = A let f = fun x -> try raise (B x) with | A y -> y
abbrev pub handled : PItems
handled =
    row
    (Exn A (Some (TCon NoTys (codes "int" ∷ []))) ∷ ExnAs (codes "B") (A ∷ [])
    ∷ Let (var f)
    (Fun (PVar x) (Try (called (val (codes "raise")) (Paren (Is (Build (codes "B" ∷ []) (val x))))) (MoreArms (PBuild (A ∷ []) (PVar y)) (val y) NoArms)))
    ∷ [])

-- t = A
abbrev pub one_variant : List PTDef
one_variant = Variant [] t None ((A, None) ∷ []) ∷ []

-- let module M = struct type t = A end in M.A
abbrev pub leaving : PFull
leaving = LetMod M (row (Types one_variant ∷ [])) (one (Con (M ∷ A ∷ [])))

-- let module M = struct type t = A of int end in match M.A 1 with | M.A x -> x
abbrev pub inside : PFull
inside =
    LetMod M (row (Types (Variant [] t None ((A, Some (TCon NoTys (codes "int" ∷ []))) ∷ []) ∷ []) ∷ []))
    (Match (Paren (Is (Build (M ∷ A ∷ []) (number 1)))) (MoreArms (PBuild (M ∷ A ∷ []) (PVar x)) (val x) NoArms))

-- type t = u and u = t
abbrev pub circle : PItem
circle = Types (Alias [] t (named u) ∷ Alias [] u (named t) ∷ [])

-- type t = A of u and u = t
abbrev pub no_circle : PItem
no_circle = Types (Variant [] t None ((A, Some (TCon NoTys (u ∷ []))) ∷ []) ∷ Alias [] u (named t) ∷ [])

-- module M = struct end module M = struct end
abbrev pub module_twice : PItems
module_twice = row (Module M (Struct NoItems) ∷ Module M (Struct NoItems) ∷ [])

-- (fun _ -> 1) = (fun _ -> 1)
abbrev pub functions_compared : PFull
functions_compared =
    let one_fun : PAtom = Paren (Is (Fun Any (one (number 1)))) in Is (Oper one_fun (codes "=") one_fun)

-- x, where nothing is bound
abbrev pub unbound : PFull
unbound = one (val x)
