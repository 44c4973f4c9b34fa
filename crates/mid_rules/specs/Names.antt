-- The names of binders in erased trees. None begins with a part that a source or a text can write.
use Rattle.std.specs.Prelude.{ℕ, Bool, [], ◌∷◌, nat_eq, nat_le, ◌&&◌, codes, if◌then◌else◌}
use Rattle.runs.specs.Names.{Name, Part}

-- a binder, by its number
abbrev pub local_name : ℕ → Name
local_name i = [] ∷ codes "local" ∷ (i ∷ []) ∷ []

-- the dictionary of an equality variable, by its place
abbrev pub dict_name : ℕ → Name
dict_name i = [] ∷ codes "dict" ∷ (i ∷ []) ∷ []

-- the parameters of functions that stand for constructors, primitives and dictionaries, and their parts
abbrev pub left_name : Name
left_name = [] ∷ codes "left" ∷ []

abbrev pub right_name : Name
right_name = [] ∷ codes "right" ∷ []

abbrev pub left_part : ℕ → Name
left_part i = [] ∷ codes "left" ∷ (i ∷ []) ∷ []

abbrev pub right_part : ℕ → Name
right_part i = [] ∷ codes "right" ∷ (i ∷ []) ∷ []

-- an identifier that begins with these two bytes is that of an equality function: `=` and a digit
abbrev pub is_equality_name : ℕ → ℕ → Bool
is_equality_name b d = nat_eq b 61 && (nat_le 48 d && nat_le d 57)

-- the path of a binder at structure level: its identifier, or, of the equality function of a type name, `eq` and the number
abbrev pub binder_path : Part → Name
binder_path [] = []
binder_path (b ∷ []) = (b ∷ []) ∷ []
binder_path (b ∷ d ∷ n) = if is_equality_name b d then codes "eq" ∷ (d ∷ n) ∷ [] else (b ∷ d ∷ n) ∷ []
