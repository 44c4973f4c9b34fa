-- The right sides that a `let` generalises: a literal, a path, a function, a constructor, and a constructor, tuple or
-- list of such.
use Rattle.std.specs.Prelude.{◌≡◌, true, codes}
use Rattle.std.specs.Str.{bytes_eq}
use Rattle.oc_ast.specs.Plain.{PAtom, Const, Val, Con, Nothing, Paren, Tuple, Items, PAtoms, NoAtoms, MoreAtoms, PFull, Is, LetIn, LetRecIn, LetMod, LetExn, If, Match, Try, While, Then, PSimple, One, Call, Build, Oper, Fun}

abbrev mutual
  pub StillAtom : PAtom → Type 0
  StillAtom (Const l) = Unit {0}
  StillAtom (Val q) = Unit {0}
  StillAtom (Con q) = Unit {0}
  StillAtom Nothing = Unit {0}
  StillAtom (Paren f) = StillFull f
  StillAtom (Tuple a xs) = StillAtom a × StillAtoms xs
  StillAtom (Items xs) = StillAtoms xs

  pub StillAtoms : PAtoms → Type 0
  StillAtoms NoAtoms = Unit {0}
  StillAtoms (MoreAtoms a xs) = StillAtom a × StillAtoms xs

  pub StillFull : PFull → Type 0
  StillFull (Is e) = NonExpansive e
  StillFull (LetIn p e f) = ⊥
  StillFull (LetRecIn bs f) = ⊥
  StillFull (LetMod m is f) = ⊥
  StillFull (LetExn n w f) = ⊥
  StillFull (If a b c) = ⊥
  StillFull (Match a arms) = ⊥
  StillFull (Try a arms) = ⊥
  StillFull (While a f) = ⊥
  StillFull (Then a f) = ⊥

  pub NonExpansive : PSimple → Type 0
  NonExpansive (One a) = StillAtom a
  NonExpansive (Call a b) = ⊥
  NonExpansive (Build q a) = StillAtom a
  NonExpansive (Oper a o b) = (bytes_eq o (codes "::") ≡ true) × StillAtom a × StillAtom b
  NonExpansive (Fun p f) = Unit {0}
