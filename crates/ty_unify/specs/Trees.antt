-- Finite types as plain trees, and which of them admit equality.
use Rattle.std.specs.Prelude.{◌≡◌, ◌==◌, ◌+◌, ℕ, Bool, true, cond}
use Rattle.sml_static.specs.declared.ty.Label.{Label}
use Rattle.sml_static.specs.declared.ty.TyName.{TyName}
use Rattle.sml_static.specs.Equality.{ref_number}
use Rattle.ty_unify.specs.declared.cell.Asked.{Asked}
use Rattle.ty_unify.specs.declared.cell.Asked.TheVariants.{Never, Always, Both}

-- the head of a tree, as a `Tag` with the label itself
pub data Head : Type 0 where
  Arrow : Head
  Named : TyName → Head
  Record : Label → Head
  Field : Label → Head
  Argument : Head
  NoFields : Head
  LastField : Head
  LastArgument : Head

-- a type, or a row of fields or arguments: a type variable, with whether it admits equality, or a head with no part or two
pub data Tree : Type 0 where
  Rigid : Bool → ℕ → Tree
  Atom : Head → Tree
  Fork : Head → Tree → Tree → Tree

-- what equality asks under a type name: `ref` always admits it
abbrev pub asks_name : TyName → Asked
asks_name n = cond (n.id == ref_number) Always (cond n.equality Both Never)

-- what equality asks of the parts under a head
abbrev pub asks : Head → Asked
asks Arrow = Never
asks (Named n) = asks_name n
asks (Record l) = Both
asks (Field l) = Both
asks Argument = Both
asks NoFields = Both
asks LastField = Both
asks LastArgument = Both

-- the answer, of two parts of which this is known
abbrev pub Asks : Asked → Type 0 → Type 0 → Type 0
Asks Never A B = ⊥
Asks Always A B = Unit {0}
Asks Both A B = A × B

-- the tree admits equality
abbrev pub Admits : Tree → Type 0
Admits (Rigid e n) = e ≡ true
Admits (Atom h) = Asks (asks h) (Unit {0}) (Unit {0})
Admits (Fork h t u) = Asks (asks h) (Admits t) (Admits u)

-- how many nodes a tree has
abbrev pub tree_size : Tree → ℕ
tree_size (Rigid e n) = 1
tree_size (Atom h) = 1
tree_size (Fork h t u) = 1 + tree_size t + tree_size u
