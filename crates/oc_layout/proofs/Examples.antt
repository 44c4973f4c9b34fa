-- Texts and their layouts, written by hand from the rules of the layout.
use Rattle.std.proofs.Common.{◌≡◌, ℕ, List, [], ◌∷◌, ◌++◌, Some, None, refl}
use Rattle.std.specs.Prelude.{codes, pos, negsuc}
use Rattle.oc_ast.specs.declared.literal.OcLit.TheVariants as lit
use Rattle.oc_ast.specs.Plain.{NoATys, MoreATys, NoTys, MoreTys, TVar, TCon, TParen, TAt, TArrow, TTuple, Variant, PAPat, Any, PVar, PCon, PUnit, PNil, PCell, PAt, Sig, SVal, SAbs, NoSItems, MoreSItems, PAtom, Const, Val, Nothing, Paren, Tuple, Items, NoAtoms, MoreAtoms, PArms, NoArms, MoreArms, Is, LetMod, If, Match, Try, Then, Let, LetRec, Types, Module, Functor, PItems, NoItems, MoreItems, Struct, Apply, MSeal, Plain, Poly, NoBinds, MoreBinds, One, Call, Oper, Fun}
use Rattle.std.specs.Fmt.{digits}
use Rattle.oc_layout.specs.Layout.{Layout}

abbrev lines_of : List (List ℕ) → List ℕ
lines_of [] = []
lines_of (l ∷ ls) = l ++ (10 ∷ lines_of ls)

abbrev v : List ℕ → PAtom
v n = Val (n ∷ [])

abbrev unit : List ℕ → PItems → PItems
unit n is = MoreItems (Module n (Struct is)) NoItems

-- a unit that prints
hello : Layout (unit (codes "U1_a") (MoreItems (Let (PAt Any) (Call (Val (codes "Rt" ∷ codes "print" ∷ [])) (Const (lit.Text (104 ∷ 105 ∷ 10 ∷ []))))) NoItems))
    ≡ lines_of (codes "module U1_a = struct" ∷ codes "  let _ = Rt.print \"hi\\n\"" ∷ codes "end" ∷ [])
hello = refl

nothing : Layout NoItems ≡ []
nothing = refl

-- literals: a byte without a letter escape, quotes, the backslash, a negative number
literals : Layout (MoreItems (Let (PAt (PVar (codes "s"))) (One (Const (lit.Text (1 ∷ 200 ∷ 34 ∷ 39 ∷ 92 ∷ []))))) (MoreItems (Let (PAt (PVar (codes "n"))) (One (Const (lit.Int (negsuc 4))))) (MoreItems (Let (PAt (PVar (codes "c"))) (One (Const (lit.Char 39)))) NoItems)))
    ≡ lines_of (codes "let s = \"\\001\\200\\\"'\\\\\"" ∷ codes "let n = (-5)" ∷ codes "let c = '\\''" ∷ [])
unfolding digits
literals = refl

abbrev arm_of : PAPat → PAtom → PArms → PArms
arm_of p a xs = MoreArms (PAt p) a xs

-- the arms of a second match stand two deeper than the arm behind which it begins
group : Layout (unit (codes "U1_a") (MoreItems (LetRec (MoreBinds (Plain (codes "f") (Fun (PVar (codes "a")) (Match (v (codes "a")) (arm_of PNil (Const (lit.Int (pos 0))) (arm_of Any (v (codes "a")) NoArms)))))
    (MoreBinds (Poly (codes "g") (codes "'a" ∷ []) (TArrow (TVar (codes "'a")) (TAt (TCon NoTys (codes "int" ∷ [])))) (Fun (PVar (codes "x")) (Try (Paren (Is (Call (v (codes "f")) (v (codes "x"))))) (arm_of (PCon (codes "E" ∷ [])) (Val (codes "!" ∷ [])) NoArms)))) NoBinds))) NoItems))
    ≡ lines_of (codes "module U1_a = struct" ∷ codes "  let rec f = fun a -> match a with" ∷ codes "    | [] -> 0" ∷ codes "    | _ -> a and g : 'a . 'a -> int = fun x -> try (f x) with" ∷ codes "      | E -> (!)" ∷ codes "end" ∷ [])
unfolding digits
group = refl

-- a functor, a seal and a local module
functors : Layout (unit (codes "U1_a") (MoreItems (Functor (codes "F_F") (codes "X") (Sig (MoreSItems (SVal (codes "n") (TAt (TCon NoTys (codes "int" ∷ [])))) NoSItems)) (MSeal (Struct (MoreItems (Types (Variant (codes "'a" ∷ []) (codes "t") None ((codes "L", None) ∷ (codes "N", Some (TParen (TTuple (TCon (MoreTys (TAt (TVar (codes "'a"))) NoTys) (codes "t" ∷ [])) (MoreATys (TCon NoTys (codes "int" ∷ [])) NoATys)))) ∷ []) ∷ [])) NoItems)) (Sig (MoreSItems (SAbs (codes "'a" ∷ codes "'b" ∷ []) (codes "u")) NoSItems))))
    (MoreItems (Module (codes "A") (Apply (codes "F_F" ∷ []) (codes "Z_1" ∷ [])))
    (MoreItems (Let (PAt (PVar (codes "x"))) (Fun PUnit (LetMod (codes "Z_1") (MoreItems (Let (PAt (PCell (PAt (PVar (codes "p"))))) (One (Items (MoreAtoms (v (codes "a")) (MoreAtoms (v (codes "b")) NoAtoms))))) NoItems) (If (v (codes "a")) (v (codes "b")) (Paren (Then (v (codes "a")) (Is (Oper (v (codes "b")) (codes "==") (Tuple (v (codes "c")) (MoreAtoms Nothing NoAtoms))))))))))
    NoItems))))
    ≡ lines_of (codes "module U1_a = struct" ∷ codes "  module F_F (X : sig" ∷ codes "    val n : int" ∷ codes "  end) () = (struct" ∷ codes "    type 'a t = L | N of ('a t * int)" ∷ codes "  end : sig" ∷ codes "    type ('a, 'b) u" ∷ codes "  end)" ∷ codes "  module A = F_F (Z_1) ()" ∷ codes "  let x = fun () -> let module Z_1 = struct" ∷ codes "    let {contents = p} = [a; b]" ∷ codes "  end in" ∷ codes "    if a then b else (a;" ∷ codes "    b == (c, ()))" ∷ codes "end" ∷ [])
functors = refl
