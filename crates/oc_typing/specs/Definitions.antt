-- What the definitions of one `type` item bind (the OCaml manual, section 11.8.1).
use Rattle.std.specs.Prelude.{◌≡◌, ℕ, ◌<◌, ◌≤◌, List, [], ◌∷◌, ◌++◌, length, Option, Some, None, Bool, true, false, if◌then◌else◌, ◌⊎◌}
use Rattle.std.specs.Str.{bytes_eq}
use Rattle.oc_ast.specs.Plain.{Bytes, Long, Cons, PATy, PATys, NoATys, MoreATys, POTy, POTys, NoTys, MoreTys, TVar, TCon, TParen, TAt, TArrow, TTuple, PTDef, Alias, Variant}
use Rattle.oc_typing.specs.Ty.{Ty, stamped}
use Rattle.oc_typing.specs.Env.{Env, TyEntry, AddCon, AddType, type_at}
use Rattle.oc_typing.specs.Written.{ArgReads, Distinct, Reads}

abbrev pub name_of : PTDef → Bytes
name_of (Alias vs n w) = n
name_of (Variant vs n w cs) = n

-- the constructors of a type put over an environment
abbrev pub put_cons : Ty → List (Bytes × Option Ty) → Env → Env
put_cons t [] e = e
put_cons t (c ∷ cs) e = put_cons t cs (AddCon c.0 (record { arg = c.1; made = t }) e)

-- the definitions with these entries put over an environment
abbrev pub put_defs : List PTDef → List TyEntry → Env → Env
put_defs [] ts e = e
put_defs (d ∷ ds) [] e = e
put_defs (d ∷ ds) (t ∷ ts) e = put_defs ds ts (put_cons t.body t.cons (AddType (name_of d) t e))

-- the constructors as they are written have these arguments
abbrev pub ConsRead : List Bytes → Env → Cons → List (Bytes × Option Ty) → Type 0
ConsRead vs g [] ks = ks ≡ []
ConsRead vs g (c ∷ cs) ks =
    (a : Option Ty) × (rest : List (Bytes × Option Ty)) × ArgReads vs g c.1 a × ConsRead vs g cs rest × (ks ≡ (c.0, a) ∷ rest)

-- type variables as the arguments of a type
abbrev pub as_arguments : List Bytes → POTys
as_arguments [] = NoTys
as_arguments (v ∷ vs) = MoreTys (TAt (TVar v)) (as_arguments vs)

-- In g the definition binds the entry, and makes these stamps. An alias is what it stands for; a variant makes a stamp;
-- a variant that is written with `=` is the one that it names, with the same parameters and the same constructors.
abbrev pub DefIs : Env → PTDef → List ℕ → TyEntry → Type 0
DefIs g (Alias vs n w) ss d = Distinct vs × (ss ≡ []) × ((t : Ty) × Reads vs g w t × (d ≡ record { arity = length vs; body = t; cons = [] }))
DefIs g (Variant vs n None cs) ss d =
    Distinct vs × ((s : ℕ) × (ks : List (Bytes × Option Ty)) × (ss ≡ s ∷ []) × ConsRead vs g cs ks
    × (d ≡ record { arity = length vs; body = stamped s (length vs); cons = ks }))
DefIs g (Variant vs n (Some w) cs) ss d =
    Distinct vs × (ss ≡ []) × ((q : Long) × (w ≡ TAt (TCon (as_arguments vs) q)) × (type_at q g ≡ Some d) × (d.arity ≡ length vs)
    × ConsRead vs g cs d.cons)

abbrev pub DefsAre : Env → List PTDef → List ℕ → List TyEntry → Type 0
DefsAre g [] ss ts = (ss ≡ []) × (ts ≡ [])
DefsAre g (d ∷ ds) ss ts =
    (own : List ℕ) × (others : List ℕ) × (t : TyEntry) × (us : List TyEntry) × DefIs g d own t × DefsAre g ds others us × (ss ≡ own ++ others)
    × (ts ≡ t ∷ us)

-- ---- no alias leads to itself

-- the bare type names in a written type
abbrev mutual
  pub names_in_part : PATy → List Bytes
  names_in_part (TVar v) = []
  names_in_part (TCon ws []) = names_in_all ws
  names_in_part (TCon ws (n ∷ [])) = n ∷ names_in_all ws
  names_in_part (TCon ws (m ∷ n ∷ q)) = names_in_all ws
  names_in_part (TParen w) = names_in w

  pub names_in : POTy → List Bytes
  names_in (TAt w) = names_in_part w
  names_in (TArrow a b) = names_in_part a ++ names_in b
  names_in (TTuple w ws) = names_in_part w ++ names_in_parts ws

  pub names_in_parts : PATys → List Bytes
  names_in_parts NoATys = []
  names_in_parts (MoreATys w ws) = names_in_part w ++ names_in_parts ws

  pub names_in_all : POTys → List Bytes
  names_in_all NoTys = []
  names_in_all (MoreTys w ws) = names_in w ++ names_in_all ws

-- the names in what the definition is said to equal: in what an alias stands for, or after the first = of a variant
abbrev pub names_of_equation : PTDef → List Bytes
names_of_equation (Alias vs n w) = names_in w
names_of_equation (Variant vs n None cs) = []
names_of_equation (Variant vs n (Some w) cs) = names_in w

-- the definition says what its type equals
abbrev pub is_equation : PTDef → Bool
is_equation (Alias vs n w) = true
is_equation (Variant vs n None cs) = false
is_equation (Variant vs n (Some w) cs) = true

-- the name is one of the group that says what its type equals
abbrev pub has_equation : Bytes → List PTDef → Bool
has_equation x [] = false
has_equation x (d ∷ ds) = if bytes_eq x (name_of d) then is_equation d else has_equation x ds

abbrev pub AreBelow : (Bytes → ℕ) → List PTDef → ℕ → List Bytes → Type 0
AreBelow rank group r [] = Unit {0}
AreBelow rank group r (x ∷ xs) = (has_equation x group ≡ true → rank x < r) × AreBelow rank group r xs

abbrev pub EachBelow : (Bytes → ℕ) → List PTDef → List PTDef → Type 0
EachBelow rank group [] = Unit {0}
EachBelow rank group (d ∷ ds) = AreBelow rank group (rank (name_of d)) (names_of_equation d) × EachBelow rank group ds

-- Equations of a group come to an end: its names have numbers under which each equation names only equations with lower
-- ones. So no alias mentions itself, directly or through others, and no variant is said to equal what leads to it.
abbrev pub EquationsEnd : List PTDef → Type 0
EquationsEnd ds = (rank : Bytes → ℕ) × EachBelow rank ds ds

-- ---- the item

abbrev pub IsIn : ℕ → List ℕ → Type 0
IsIn s [] = ⊥
IsIn s (r ∷ rs) = (s ≡ r) ⊎ IsIn s rs

-- stamps that differ, from c on and below c2
abbrev pub AreNew : ℕ → ℕ → List ℕ → Type 0
AreNew c c2 [] = Unit {0}
AreNew c c2 (s ∷ ss) = (c ≤ s) × (s < c2) × (IsIn s ss → ⊥) × AreNew c c2 ss
