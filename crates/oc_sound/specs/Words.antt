-- Names, and the constructors of types.
use Rattle.std.specs.Prelude.{◌≡◌, ◌⊎◌, List, [], ◌∷◌, Bool, false, nat_le, if◌then◌else◌}
use Rattle.oc_ast.specs.Plain.{Bytes}

-- the name begins with a capital letter
abbrev pub capital : Bytes → Bool
capital [] = false
capital (c ∷ cs) = if nat_le 65 c then nat_le c 90 else false

-- the constructors of types
abbrev pub Variants : Type 0
Variants = List (List Bytes)

abbrev pub Among : {A : Type 0} → A → List A → Type 0
Among a [] = ⊥
Among a (c ∷ cs) = (a ≡ c) ⊎ Among a cs

-- a constructor of one of them
abbrev pub Listed : Bytes → Variants → Type 0
Listed n vs = (v : List Bytes) × Among v vs × Among n v
