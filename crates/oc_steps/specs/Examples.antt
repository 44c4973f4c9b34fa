-- Small texts that run.
use Rattle.std.specs.Prelude.{ℕ, zero, suc, pos, negsuc, List, [], ◌∷◌, Some, None, codes}
use Rattle.oc_ast.specs.declared.literal.OcLit.TheVariants as lit
use Rattle.oc_ast.specs.Plain.{Bytes, Long, TVar, Variant, PAPat, Any, PVar, PConst, PCon, PUnit, PPat, PAt, PBuild, PAtom, Const, Val, Con, Nothing, Paren, Tuple, NoAtoms, MoreAtoms, PArms, NoArms, MoreArms, PFull, Is, LetIn, LetRecIn, LetMod, LetExn, If, Match, Try, While, Then, PItem, Let, LetRec, Types, Exn, ExnAs, Module, PItems, MAt, Struct, PRBind, Plain, NoBinds, MoreBinds, PSimple, One, Call, Build, Oper, Fun}
use Rattle.oc_typing.specs.Examples.{val, var, number, one, called, both, row}

abbrev pub text : List ℕ → PAtom
text s = Const (lit.Text s)

-- (a operator b)
abbrev pub combined : PAtom → List ℕ → PAtom → PAtom
combined a o b = Paren (Is (Oper a o b))

abbrev pub anything : PPat
anything = PAt Any

-- a pattern of a constructor, or of an exception, without argument
abbrev pub only : Long → PPat
only q = PAt (PCon q)

abbrev pub Rt : Bytes
Rt = codes "Rt"

abbrev pub of_rt : List ℕ → Long
of_rt x = Rt ∷ x ∷ []

-- (Rt.print "text"), and (raise E)
abbrev pub prints : List ℕ → PAtom
prints s = called (Val (of_rt (codes "print"))) (text s)

abbrev pub raises : Long → PAtom
raises e = called (val (codes "raise")) (Con e)

-- let print = fun s -> print_string s
abbrev pub print_item : PItem
print_item = Let (var (codes "print")) (Fun (PVar (codes "s")) (Is (Call (val (codes "print_string")) (val (codes "s")))))

-- module Rt = struct .. end module U1_a = struct .. end
abbrev pub with_rt : List PItem → List PItem → PItems
with_rt rt unit = row (Module Rt (Struct (row rt)) ∷ Module (codes "U1_a") (Struct (row unit)) ∷ [])

-- let _ = a
abbrev pub does : PFull → PItem
does f = Let anything (One (Paren f))

-- ---- the order of arguments

-- fun a -> fun b -> ()
abbrev pub two_parameters : PSimple
two_parameters = Fun (PVar (codes "a")) (Is (Fun (PVar (codes "b")) (one Nothing)))

-- let _ = let z_1 = (fun a -> fun b -> ()) (Rt.print "a") in z_1 (Rt.print "b")
abbrev pub sequenced : PItems
sequenced =
    with_rt (print_item ∷ [])
    (does (LetIn (var (codes "z_1")) (Call (Paren (Is two_parameters)) (prints (codes "a"))) (Is (Call (val (codes "z_1")) (prints (codes "b"))))) ∷ [])

-- (print_string "text")
abbrev pub prints_itself : List ℕ → PAtom
prints_itself s = called (val (codes "print_string")) (text s)

-- if a then (print_string "y") else (print_string "n")
abbrev pub says : PAtom → PFull
says a = If a (prints_itself (codes "y")) (prints_itself (codes "n"))

-- let _ = ((fun a -> fun b -> ()) (print_string "a")) (print_string "b")
abbrev pub in_place : PItems
in_place = row (Let anything (Call (Paren (Is (Call (Paren (Is two_parameters)) (prints_itself (codes "a"))))) (prints_itself (codes "b"))) ∷ [])

-- let _ = (print_string "a", print_string "b")
abbrev pub two_prints : PItems
two_prints = row (Let anything (One (Tuple (prints_itself (codes "a")) (MoreAtoms (prints_itself (codes "b")) NoAtoms))) ∷ [])

-- ---- exceptions are made anew

-- type 'a option = NONE | SOME of 'a
abbrev pub option_type : PItem
option_type = Types (Variant (codes "'a" ∷ []) (codes "option") None ((codes "NONE", None) ∷ (codes "SOME", Some (TVar (codes "'a"))) ∷ []) ∷ [])

abbrev pub E : Long
E = codes "E" ∷ []

-- let rec f = fun g -> let exception E in match g with
--   | Rt.NONE -> (try f (Rt.SOME (fun () -> raise E)) with | E -> Rt.print "outer")
--   | Rt.SOME h -> (try h () with | E -> Rt.print "inner")
abbrev pub own_exception : PRBind
own_exception =
    Plain (codes "f")
    (Fun (PVar (codes "g"))
    (LetExn (codes "E") None
    (Match (val (codes "g"))
    (MoreArms (only (of_rt (codes "NONE")))
    (Paren
    (Try (called (val (codes "f")) (Paren (Is (Build (of_rt (codes "SOME")) (Paren (Is (Fun PUnit (one (raises E)))))))))
    (MoreArms (only E) (prints (codes "outer")) NoArms)))
    (MoreArms (PBuild (of_rt (codes "SOME")) (PVar (codes "h")))
    (Paren (Try (called (val (codes "h")) Nothing) (MoreArms (only E) (prints (codes "inner")) NoArms))) NoArms)))))

abbrev pub made_anew : PItems
made_anew =
    with_rt (print_item ∷ option_type ∷ [])
    (LetRec (MoreBinds own_exception NoBinds) ∷ does (Is (Call (val (codes "f")) (Con (of_rt (codes "NONE"))))) ∷ [])

-- ---- arithmetic that asks first

abbrev pub pair_of : List ℕ → List ℕ → PAPat
pair_of a b = both (PVar a) (PVar b)

-- let add = fun (a, b) -> let s = a + b in let p = a lxor s in if (p land (b lxor s)) < 0 then raise Overflow else s
abbrev pub add_item : PItem
add_item =
    Let (var (codes "add"))
    (Fun (pair_of (codes "a") (codes "b"))
    (LetIn (var (codes "s")) (Oper (val (codes "a")) (codes "+") (val (codes "b")))
    (LetIn (var (codes "p")) (Oper (val (codes "a")) (codes "lxor") (val (codes "s")))
    (If (combined (combined (val (codes "p")) (codes "land") (combined (val (codes "b")) (codes "lxor") (val (codes "s")))) (codes "<") (number 0))
    (raises (codes "Overflow" ∷ [])) (val (codes "s"))))))

abbrev pub add_rt : List PItem
add_rt = Exn (codes "Overflow") None ∷ add_item ∷ []

-- Rt.add (a, b)
abbrev pub at_pair : List ℕ → PAtom → PAtom → PSimple
at_pair f a b = Call (Val (of_rt f)) (Tuple a (MoreAtoms b NoAtoms))

-- let x = Rt.add (4611686018427387902, 1) let y = Rt.add (4611686018427387903, 1)
abbrev pub overflows : PItems
overflows =
    with_rt add_rt
    (Let (var (codes "x")) (at_pair (codes "add") (number 4611686018427387902) (number 1))
    ∷ Let (var (codes "y")) (at_pair (codes "add") (number 4611686018427387903) (number 1)) ∷ [])

-- let div = fun (a, b) -> if b = 0 then raise Div else
--   (let q = a / b in let r = a mod b in if r = 0 then q else (if (r lxor b) < 0 then (q - 1) else q))
abbrev pub div_item : PItem
div_item =
    Let (var (codes "div"))
    (Fun (pair_of (codes "a") (codes "b"))
    (If (combined (val (codes "b")) (codes "=") (number 0)) (raises (codes "Div" ∷ []))
    (Paren
    (LetIn (var (codes "q")) (Oper (val (codes "a")) (codes "/") (val (codes "b")))
    (LetIn (var (codes "r")) (Oper (val (codes "a")) (codes "mod") (val (codes "b")))
    (If (combined (val (codes "r")) (codes "=") (number 0)) (val (codes "q"))
    (Paren
    (If (combined (combined (val (codes "r")) (codes "lxor") (val (codes "b"))) (codes "<") (number 0)) (combined (val (codes "q")) (codes "-") (number 1))
    (val (codes "q"))))))))))

-- let x = Rt.div ((-7), 2) let _ = if (x = (-4)) then .. let y = Rt.div (1, 0)
abbrev pub divides : PItems
divides =
    with_rt (Exn (codes "Div") None ∷ div_item ∷ [])
    (Let (var (codes "x")) (at_pair (codes "div") (Const (lit.Int (negsuc 6))) (number 2))
    ∷ does (says (combined (val (codes "x")) (codes "=") (Const (lit.Int (negsuc 3)))))
    ∷ Let (var (codes "y")) (at_pair (codes "div") (number 1) (number 0)) ∷ [])

-- ---- matches that fail

-- let f = fun x -> match x with | 0 -> 1, and the arm after it
abbrev pub zero_alone : PArms → PItem
zero_alone more = Let (var (codes "f")) (Fun (PVar (codes "x")) (Match (val (codes "x")) (MoreArms (PAt (PConst (lit.Int (pos 0)))) (number 1) more)))

-- .. | _ -> raise Rt.Match let y = f 1
abbrev pub no_match : PItems
no_match =
    with_rt (Exn (codes "Match") None ∷ [])
    (zero_alone (MoreArms anything (raises (of_rt (codes "Match"))) NoArms) ∷ Let (var (codes "y")) (Call (val (codes "f")) (number 1)) ∷ [])

-- let _ = match 1 with | 0 -> ()
abbrev pub dropped_arm : PItems
dropped_arm = row (does (Match (number 1) (MoreArms (PAt (PConst (lit.Int (pos 0)))) Nothing NoArms)) ∷ [])

-- ---- references

-- let r = ref 1 let s = r let t = ref 5 let _ = r := 5 let _ = if (((!) s) = 5) then ..
-- let _ = if (r == s) then .. let _ = if (r == t) then ..
abbrev pub cells : PItems
cells =
    row
    (Let (var (codes "r")) (Call (val (codes "ref")) (number 1)) ∷ Let (var (codes "s")) (One (val (codes "r")))
    ∷ Let (var (codes "t")) (Call (val (codes "ref")) (number 5)) ∷ Let anything (Oper (val (codes "r")) (codes ":=") (number 5))
    ∷ does (says (combined (called (val (codes "!")) (val (codes "s"))) (codes "=") (number 5)))
    ∷ does (says (combined (val (codes "r")) (codes "==") (val (codes "s")))) ∷ does (says (combined (val (codes "r")) (codes "==") (val (codes "t"))))
    ∷ [])

-- let r = ref 0 let _ = while (((!) r) < 3) do (print_string "a"); r := (((!) r) + 1) done
abbrev pub loops : PItems
loops =
    row
    (Let (var (codes "r")) (Call (val (codes "ref")) (number 0))
    ∷ does
    (While (combined (called (val (codes "!")) (val (codes "r"))) (codes "<") (number 3))
    (Then (prints_itself (codes "a"))
    (Is (Oper (val (codes "r")) (codes ":=") (combined (called (val (codes "!")) (val (codes "r"))) (codes "+") (number 1)))))) ∷ [])

-- ---- structures

-- module X = struct let y = "a" exception E end
-- exception F = X.E module Y = X
-- let x = let module X = struct let y = "b" exception E end in try (raise F) with | X.E -> X.y | Y.E -> Y.y
-- let _ = print_string x
abbrev pub structure_item : List ℕ → List PItem
structure_item y = Let (var (codes "y")) (One (text y)) ∷ Exn (codes "E") None ∷ []

abbrev pub X_E : Long
X_E = codes "X" ∷ codes "E" ∷ []

abbrev pub Y_E : Long
Y_E = codes "Y" ∷ codes "E" ∷ []

abbrev pub structures : PItems
structures =
    row
    (Module (codes "X") (Struct (row (structure_item (codes "a")))) ∷ ExnAs (codes "F") X_E ∷ Module (codes "Y") (MAt (codes "X" ∷ []))
    ∷ Let (var (codes "x"))
    (One
    (Paren
    (LetMod (codes "X") (row (structure_item (codes "b")))
    (Try (raises (codes "F" ∷ []))
    (MoreArms (only X_E) (Val (codes "X" ∷ codes "y" ∷ [])) (MoreArms (only Y_E) (Val (codes "Y" ∷ codes "y" ∷ [])) NoArms))))))
    ∷ does (Is (Call (val (codes "print_string")) (val (codes "x")))) ∷ [])

-- ---- a loop without end

-- fun () -> if true then (let _ = print_string "x" in z_1 ()) else ()
abbrev pub turning : PSimple
turning =
    Fun PUnit
    (If (Con (codes "true" ∷ [])) (Paren (LetIn anything (Call (val (codes "print_string")) (text (codes "x"))) (Is (Call (val (codes "z_1")) Nothing))))
    Nothing)

-- let _ = let rec z_1 = fun () -> .. in z_1 ()
abbrev pub endless : PItems
endless = row (does (LetRecIn (MoreBinds (Plain (codes "z_1") turning) NoBinds) (Is (Call (val (codes "z_1")) Nothing))) ∷ [])

-- so many letters x
abbrev pub letters : ℕ → List ℕ
letters zero = []
letters (suc n) = 120 ∷ letters n
