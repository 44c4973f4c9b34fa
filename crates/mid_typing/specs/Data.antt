-- What a row of datatypes binds -- [Definition, sections 4.9 and 4.10, datatype bindings].
use Rattle.std.specs.Prelude.{◌≡◌, ◌⊎◌, ◌<◌, ◌≤◌, ◌==◌, ◌&&◌, ℕ, Bool, true, false, not, IsTrue, List, [], ◌∷◌, map, Option, Some, None}
use Rattle.std.specs.List.{list_all, list_any}
use Rattle.sml_static.specs.declared.mid.MidData.{MidData}
use Rattle.sml_static.specs.declared.ty.Ty.{Ty}
use Rattle.sml_static.specs.Equality.{data_admits}
use Rattle.sml_static.specs.WellFormed.{Numbering, alone, are_distinct, is_numbered}
use Rattle.mid_ast.specs.Tree.{Name, Part}
use Rattle.mid_typing.specs.Types.{is_type_at}
use Rattle.mid_typing.specs.Env.{Env, TyEntry, type_at}
use Rattle.mid_typing.specs.Basis.{put_data}

abbrev pub Con : Type 0
Con = Part × Option Ty

abbrev pub IsIn : {A : Type 0} → A → List A → Type 0
IsIn x [] = ⊥
IsIn x (y ∷ ys) = (x ≡ y) ⊎ IsIn x ys

-- the same constructors with the same types
pub record HasSameCons (cs ds : List Con) : Type 0 where
  pub there : (c : Con) → IsIn c cs → IsIn c ds
  pub back : (c : Con) → IsIn c ds → IsIn c cs

-- whether the argument of a constructor or an exception is a type
abbrev pub is_argument : Numbering → ℕ → ℕ → Option Ty → Bool
is_argument names c n None = true
is_argument names c n (Some t) = is_type_at names c n t

abbrev pub is_some_con : List Con → Bool
is_some_con [] = false
is_some_con (c ∷ cs) = true

-- its constructors, of which there is one at least, have different names
abbrev pub AreCons : List Con → Type 0
AreCons cs = IsTrue (is_some_con cs) × IsTrue (are_distinct (map (λ c. c.0) cs))

-- A new datatype: its constructors have types of the type names below c2, and if it is said to admit equality, their
-- arguments do so.
pub record IsNewData (names : Numbering) (c c2 : ℕ) (d : MidData) : Type 0 where
  pub cons : AreCons d.cons
  pub drawn : (c ≤ d.name.id) × (d.name.id < c2)
  pub numbered : IsTrue (is_numbered names d.name)
  pub arguments : IsTrue (list_all (λ k. is_argument names c2 d.name.arity k.1) d.cons)
  pub equality : IsTrue d.name.equality → IsTrue (data_admits [] d)

-- A copy: a datatype that stands at some path in g, with its type name and its constructors.
pub record IsCopyOf (g : Env) (d : MidData) : Type 0 where
  pub path : Name
  pub entry : TyEntry
  pub found : type_at path g ≡ Some entry
  pub function : entry.function ≡ alone d.name
  pub cons : AreCons d.cons
  pub same : HasSameCons entry.cons d.cons

-- no number stands twice
abbrev pub are_different : List ℕ → Bool
are_different [] = true
are_different (i ∷ is) = not (list_any (λ j. i == j) is) && are_different is

-- in g, each is a new datatype, of a type name from c on and below c2, or a copy; the type names that are drawn are news
abbrev pub DatasAre : Numbering → ℕ → ℕ → Env → List MidData → List ℕ → Type 0
DatasAre names c c2 g [] news = news ≡ []
DatasAre names c c2 g (d ∷ ds) news =
    (IsNewData names c c2 d × ((more : List ℕ) × DatasAre names c c2 g ds more × (news ≡ d.name.id ∷ more)))
    ⊎ (IsCopyOf g d × DatasAre names c c2 g ds news)

-- the path with another last part
abbrev pub beside : Name → Part → Name
beside [] x = x ∷ []
beside (n ∷ []) x = x ∷ []
beside (n ∷ m ∷ q) x = n ∷ beside (m ∷ q) x

-- each type at its path, and its constructors beside it
abbrev pub put_datas : List MidData → Env → Env
put_datas [] e = e
put_datas (d ∷ ds) e = put_datas ds (put_data (beside d.path) d.path d.name d.cons e)
