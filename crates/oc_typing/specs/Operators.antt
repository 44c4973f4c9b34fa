-- The types of operators: comparisons are at int, char or string, == is at references.
use Rattle.std.specs.Prelude.{◌≡◌, ◌⊎◌, List, [], ◌∷◌, Option, Some, None, codes, if◌then◌else◌}
use Rattle.std.specs.Str.{bytes_eq}
use Rattle.oc_ast.specs.Plain.{Bytes}
use Rattle.oc_typing.specs.Ty.{Ty, int, char, string, bool, unit, list, ref}

pub data Kind : Type 0 where
  -- int -> int -> int
  OnInts : Kind
  -- a -> a -> bool, at int, char or string
  Compares : Kind
  -- 'a ref -> 'a ref -> bool
  Identifies : Kind
  -- 'a ref -> 'a -> unit
  Assigns : Kind
  -- string -> string -> string
  Joins : Kind
  -- bool -> bool -> bool
  Decides : Kind
  -- 'a -> 'a list -> 'a list
  Prefixes : Kind

abbrev pub operators : List (Bytes × Kind)
operators =
    (codes "+", OnInts) ∷ (codes "-", OnInts) ∷ (codes "*", OnInts) ∷ (codes "/", OnInts) ∷ (codes "mod", OnInts) ∷
    (codes "land", OnInts) ∷ (codes "lor", OnInts) ∷ (codes "lxor", OnInts) ∷ (codes "lsl", OnInts) ∷ (codes "lsr", OnInts) ∷
    (codes "=", Compares) ∷ (codes "<", Compares) ∷ (codes "<=", Compares) ∷ (codes ">", Compares) ∷ (codes ">=", Compares) ∷
    (codes "==", Identifies) ∷ (codes ":=", Assigns) ∷ (codes "^", Joins) ∷ (codes "&&", Decides) ∷ (codes "||", Decides) ∷
    (codes "::", Prefixes) ∷ []

abbrev pub kind_in : Bytes → List (Bytes × Kind) → Option Kind
kind_in o [] = None
kind_in o (row ∷ rows) = if bytes_eq o row.0 then Some row.1 else kind_in o rows

-- at parts of the types a and b an operator of this kind makes a t
abbrev pub KindHas : Option Kind → Ty → Ty → Ty → Type 0
KindHas None a b t = ⊥
KindHas (Some OnInts) a b t = (a ≡ int) × (b ≡ int) × (t ≡ int)
KindHas (Some Compares) a b t = ((a ≡ int) ⊎ ((a ≡ char) ⊎ (a ≡ string))) × (b ≡ a) × (t ≡ bool)
KindHas (Some Identifies) a b t = (c : Ty) × (a ≡ ref c) × (b ≡ a) × (t ≡ bool)
KindHas (Some Assigns) a b t = (a ≡ ref b) × (t ≡ unit)
KindHas (Some Joins) a b t = (a ≡ string) × (b ≡ string) × (t ≡ string)
KindHas (Some Decides) a b t = (a ≡ bool) × (b ≡ bool) × (t ≡ bool)
KindHas (Some Prefixes) a b t = (b ≡ list a) × (t ≡ list a)

abbrev pub OperTypes : Bytes → Ty → Ty → Ty → Type 0
OperTypes o a b t = KindHas (kind_in o operators) a b t
