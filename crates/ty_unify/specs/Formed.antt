-- Well-formed trees: type names at as many arguments as they take, the fields of a record in the order of their labels.
use Rattle.std.specs.Prelude.{ℕ, suc, ◌≡◌, ◌==◌, ◌&&◌, Bool, true, false, IsTrue}
use Rattle.sml_static.specs.declared.ty.Label.{Label}
use Rattle.sml_static.specs.declared.ty.TyName.{TyName}
use Rattle.sml_static.specs.Labels.{is_before}
use Rattle.sml_static.specs.declared.ty.Ty.{Ty}
use Rattle.sml_static.specs.WellFormed.{Numbering, is_numbered, is_well_formed}
use Rattle.ty_unify.specs.Trees.{Tree, Rigid, Atom, Fork, Head, Arrow, Named, Record, Field, Argument, NoFields, LastField, LastArgument}
use Rattle.ty_unify.specs.Stores.{Known, IsSolution}

-- how many arguments a row has
abbrev pub arguments : Tree → ℕ
arguments (Rigid e n) = 0
arguments (Atom h) = 0
arguments (Fork Argument t u) = suc (arguments u)
arguments (Fork _ t u) = 0

-- whether the first field of a row comes after this label
abbrev pub starts_after : Label → Tree → Bool
starts_after l (Rigid e n) = true
starts_after l (Atom h) = true
starts_after l (Fork (Field m) t u) = is_before l m
starts_after l (Fork _ t u) = true

-- whether a name is well-formed at so many arguments
abbrev pub name_formed : Numbering → TyName → ℕ → Bool
name_formed names name count = is_numbered names name && (count == name.arity)

-- whether a head may stand alone, and over a first part and this second part
abbrev pub atom_formed : Numbering → Head → Bool
atom_formed names Arrow = false
atom_formed names (Named name) = name_formed names name 0
atom_formed names (Record l) = false
atom_formed names (Field l) = false
atom_formed names Argument = false
atom_formed names NoFields = true
atom_formed names LastField = true
atom_formed names LastArgument = true

abbrev pub fork_formed : Numbering → Head → Tree → Bool
fork_formed names Arrow u = true
fork_formed names (Named name) u = name_formed names name (suc (arguments u))
fork_formed names (Record l) u = starts_after l u
fork_formed names (Field l) u = starts_after l u
fork_formed names Argument u = true
fork_formed names NoFields u = false
fork_formed names LastField u = false
fork_formed names LastArgument u = false

-- whether a tree is well-formed
abbrev pub is_formed : Numbering → Tree → Bool
is_formed names (Rigid e n) = true
is_formed names (Atom h) = atom_formed names h
is_formed names (Fork h t u) = fork_formed names h u && is_formed names t && is_formed names u

-- where the trees of these nodes are well-formed, the tree of the node is so exactly where the type is
abbrev pub FormedAs : Known → (ℕ → Type 0) → ℕ → Ty → Type 0
FormedAs k Given node t = (names : Numbering) (θ : ℕ → Tree) → IsSolution k θ → ((n : ℕ) → Given n → IsTrue (is_formed names (θ n))) → is_formed names (θ node) ≡ is_well_formed names 0 t
