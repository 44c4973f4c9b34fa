-- What the typing of texts takes to be non-expansive is still.
use Rattle.std.proofs.Common.{◌≡◌, true, sym, subst}
use Rattle.std.specs.Prelude.{codes}
use Rattle.std.specs.Str.{bytes_eq}
use Rattle.std.proofs.lemmas.Slice.Eq.{bytes_eq-Decides}
use Rattle.oc_ast.specs.Plain.{Bytes, PAtom, Const, Val, Con, Nothing, Paren, Tuple, Items, PAtoms, NoAtoms, MoreAtoms, PFull, Is, LetIn, LetRecIn, LetMod, LetExn, If, Match, Try, While, Then, PSimple, One, Call, Build, Oper, Fun}
use Rattle.oc_typing.specs.NonExpansive as typing
use Rattle.oc_steps.specs.Operators.{form_of}
use Rattle.oc_steps.specs.Ordered.{OnlyBuilds, StillAtom, StillAtoms, StillFull, StillSimple}

prefix_builds : (o : Bytes) → bytes_eq o (codes "::") ≡ true → OnlyBuilds (form_of o)
prefix_builds o e = subst (λ p. OnlyBuilds (form_of p)) (sym ((bytes_eq-Decides o (codes "::")).0 e)) tt

mutual
  pub atom_is_still : (a : PAtom) → typing.StillAtom a → StillAtom a
  atom_is_still (Const l) h = tt
  atom_is_still (Val q) h = tt
  atom_is_still (Con q) h = tt
  atom_is_still Nothing h = tt
  atom_is_still (Paren f) h = full_is_still f h
  atom_is_still (Tuple a xs) h = (atom_is_still a h.0, atoms_are_still xs h.1)
  atom_is_still (Items xs) h = atoms_are_still xs h

  pub atoms_are_still : (xs : PAtoms) → typing.StillAtoms xs → StillAtoms xs
  atoms_are_still NoAtoms h = tt
  atoms_are_still (MoreAtoms a xs) h = (atom_is_still a h.0, atoms_are_still xs h.1)

  pub full_is_still : (f : PFull) → typing.StillFull f → StillFull f
  full_is_still (Is e) h = generalised_is_still e h
  full_is_still (LetIn p e f) h = absurd h
  full_is_still (LetRecIn rs f) h = absurd h
  full_is_still (LetMod m is f) h = absurd h
  full_is_still (LetExn n w f) h = absurd h
  full_is_still (If a b c) h = absurd h
  full_is_still (Match a arms) h = absurd h
  full_is_still (Try a arms) h = absurd h
  full_is_still (While a f) h = absurd h
  full_is_still (Then a f) h = absurd h

  pub generalised_is_still : (e : PSimple) → typing.NonExpansive e → StillSimple e
  generalised_is_still (One a) h = atom_is_still a h
  generalised_is_still (Call f a) h = absurd h
  generalised_is_still (Build q a) h = atom_is_still a h
  generalised_is_still (Oper a o b) h = (prefix_builds o h.0, atom_is_still a h.1, atom_is_still b h.2)
  generalised_is_still (Fun p f) h = tt
