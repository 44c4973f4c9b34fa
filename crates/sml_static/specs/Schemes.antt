-- Instances of a scheme.
use Rattle.std.specs.Prelude.{◌≡◌, ℕ, IsTrue, List, [], ◌∷◌}
use Rattle.sml_static.specs.declared.ty.Ty.{Ty}
use Rattle.sml_static.specs.declared.ty.VarKind.{VarKind}
use Rattle.sml_static.specs.declared.ty.VarKind.TheVariants as kind
use Rattle.sml_static.specs.declared.ty.Scheme.{Scheme}
use Rattle.sml_static.specs.Types.{applied}
use Rattle.sml_static.specs.Equality.{admits}

-- a type may stand for a variable of this kind, where `free` and `bound` give the kinds of its own variables
abbrev pub MayStandFor : (ℕ → VarKind) → (ℕ → VarKind) → VarKind → Ty → Type 0
MayStandFor free bound kind.Plain t = Unit {0}
MayStandFor free bound kind.Equal t = IsTrue (admits free bound [] t)

-- types that may stand for these variables, one for each
abbrev pub MayStandForAll : (ℕ → VarKind) → (ℕ → VarKind) → List VarKind → List Ty → Type 0
MayStandForAll free bound [] [] = Unit {0}
MayStandForAll free bound [] (t ∷ ts) = ⊥
MayStandForAll free bound (k ∷ ks) [] = ⊥
MayStandForAll free bound (k ∷ ks) (t ∷ ts) = MayStandFor free bound k t × MayStandForAll free bound ks ts

-- the type is the scheme's body with types for its variables -- [Definition, section 4.5]
abbrev pub IsInstance : (ℕ → VarKind) → (ℕ → VarKind) → Scheme → Ty → Type 0
IsInstance free bound scheme t = (args : List Ty) × MayStandForAll free bound scheme.vars args × (t ≡ applied args scheme.body)
