-- Which type a written one stands for (the OCaml manual, section 11.4).
use Rattle.std.specs.Prelude.{◌≡◌, ℕ, suc, List, [], ◌∷◌, Option, Some, None, false, if◌then◌else◌}
use Rattle.std.specs.Str.{bytes_eq}
use Rattle.oc_ast.specs.Plain.{Bytes, PATy, PATys, NoATys, MoreATys, POTy, POTys, NoTys, MoreTys, TVar, TCon, TParen, TAt, TArrow, TTuple}
use Rattle.oc_typing.specs.Ty.{Ty, Tys, Bound, Arrow, Product, NoTypes, MoreTypes, count, inst, nth}
use Rattle.oc_typing.specs.Env.{Env, TyEntry, type_at}

abbrev pub one_more : Option ℕ → Option ℕ
one_more None = None
one_more (Some i) = Some (suc i)

-- the place of a type variable in a row of them
abbrev pub place_of : Bytes → List Bytes → Option ℕ
place_of v [] = None
place_of v (w ∷ ws) = if bytes_eq v w then Some 0 else one_more (place_of v ws)

-- the type at these arguments
abbrev pub TypeHas : Option TyEntry → Tys → Ty → Type 0
TypeHas None ts t = ⊥
TypeHas (Some d) ts t = (count ts ≡ d.arity) × (t ≡ inst (nth ts) d.body)

-- In g, where these type variables are bound, the written type stands for the type: a type variable is the one at its
-- place, and a path is the alias or the stamp that it leads to, at as many arguments as it has parameters.
abbrev mutual
  pub PartReads : List Bytes → Env → PATy → Ty → Type 0
  PartReads vs g (TVar v) t = (i : ℕ) × (place_of v vs ≡ Some i) × (t ≡ Bound i)
  PartReads vs g (TCon ws q) t = (ts : Tys) × AllRead vs g ws ts × TypeHas (type_at q g) ts t
  PartReads vs g (TParen w) t = Reads vs g w t

  pub Reads : List Bytes → Env → POTy → Ty → Type 0
  Reads vs g (TAt w) t = PartReads vs g w t
  Reads vs g (TArrow a b) t = (c : Ty) × (d : Ty) × PartReads vs g a c × Reads vs g b d × (t ≡ Arrow c d)
  Reads vs g (TTuple w ws) t = (u : Ty) × (us : Tys) × PartReads vs g w u × AllPartsRead vs g ws us × (t ≡ Product (MoreTypes u us))

  pub AllPartsRead : List Bytes → Env → PATys → Tys → Type 0
  AllPartsRead vs g NoATys ts = ts ≡ NoTypes
  AllPartsRead vs g (MoreATys w ws) ts = (u : Ty) × (us : Tys) × PartReads vs g w u × AllPartsRead vs g ws us × (ts ≡ MoreTypes u us)

  pub AllRead : List Bytes → Env → POTys → Tys → Type 0
  AllRead vs g NoTys ts = ts ≡ NoTypes
  AllRead vs g (MoreTys w ws) ts = (u : Ty) × (us : Tys) × Reads vs g w u × AllRead vs g ws us × (ts ≡ MoreTypes u us)

-- the argument of a constructor or an exception, where it has one
abbrev pub ArgReads : List Bytes → Env → Option PATy → Option Ty → Type 0
ArgReads vs g None a = a ≡ None
ArgReads vs g (Some w) a = (t : Ty) × PartReads vs g w t × (a ≡ Some t)

abbrev pub NotAmong : Bytes → List Bytes → Type 0
NotAmong x [] = Unit {0}
NotAmong x (y ∷ ys) = (bytes_eq x y ≡ false) × NotAmong x ys

-- no name stands twice in the row
abbrev pub Distinct : List Bytes → Type 0
Distinct [] = Unit {0}
Distinct (x ∷ xs) = NotAmong x xs × Distinct xs
