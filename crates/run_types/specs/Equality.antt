-- Equality of values, and what the dictionary of a type owes.
use Rattle.std.specs.Prelude.{◌≡◌, ℕ, List, Option, Some, None, Bool, true, false, nat_eq, if◌then◌else◌}
use Rattle.run_types.specs.Safe.{Sub}
use Rattle.run_types.specs.Types.{HasVal, Holds, Kind, Ty, Tys, World, equal_all, inst_all, sub}
use Rattle.run_types.specs.Written.{Chosen, admits}
use Rattle.runs.specs.Env.{Env, empty}
use Rattle.runs.specs.Forms.{call}
use Rattle.runs.specs.Meaning.{Done, Go, ev, mean}
use Rattle.runs.specs.Names.{Name, Part, same_part}
use Rattle.runs.specs.Patterns.{same_const}
use Rattle.runs.specs.Primitives.{St, of_kind, truth}
use Rattle.runs.specs.Tree.{Con, Datum, Exp, Is, Item, Loc, NoVals, Tup, Val, Vals}

abbrev pub also : Option Bool → Option Bool → Option Bool
also None q = None
also (Some b) None = None
also (Some b) (Some c) = Some (if b then c else false)

abbrev mutual
  -- references are equal where they are one cell; functions and exceptions have no equality
  pub same_val : Val → Val → Option Bool
  same_val (Datum a) (Datum b) = if of_kind a b then Some (same_const a b) else None
  same_val (Tup vs) (Tup us) = same_vals vs us
  same_val (Con i vs) (Con j us) = if same_part i j then same_vals vs us else Some false
  same_val (Loc l) (Loc m) = Some (nat_eq l m)
  same_val _ _ = None

  pub same_vals : Vals → Vals → Option Bool
  same_vals NoVals NoVals = Some true
  same_vals (Item v vs) (Item u us) = also (same_val v u) (same_vals vs us)
  same_vals _ _ = None

-- a type name that admits equality has it at all its constructors, if its arguments have it
abbrev pub EqualNames : World → Type 0
EqualNames w = (d : ℕ) (k : Part) (us args : Tys) → w.datas d true k ≡ Some args → equal_all us ≡ true → equal_all (inst_all us args) ≡ true

-- the dictionary d of the type t: in each larger world and each of its states, called with one value of t and then another it answers as their equality, and changes nothing
abbrev pub IsDict : World → Ty → Val → Type 0
IsDict w t d =
    (k : World) (s : St) (v u : Val) (b : Bool) → Sub w k → Holds k s → HasVal k v t → HasVal k u t → same_val v u ≡ Some b
    → (n : ℕ) × (mean n empty (call (call (Is d) (Is v)) (Is u)) s ≡ Done (truth b) s)

abbrev pub GivesDict : World → Ty → Option Val → Type 0
GivesDict w t None = ⊥
GivesDict w t (Some d) = IsDict w t d

-- the variables for dictionaries have those of the types that are chosen
abbrev pub HaveDicts : World → List Kind → (ℕ → Ty) → (ℕ → Name) → Env → Type 0
HaveDicts w ds f name env = (i : ℕ) → admits ds i ≡ true → GivesDict w (f i) (env (name i))

-- a tree is a dictionary of the type t, which may have type variables of these kinds: for each choice of types for them it makes one value, which is a dictionary
abbrev pub Dictionary : World → List Kind → (ℕ → Name) → Exp → Ty → Type 0
Dictionary w ds name e t =
    (f : ℕ → Ty) (env : Env) → Chosen ds f → HaveDicts w ds f name env
    → (d : Val) × IsDict w (sub f t) d × ((go : Go) (s : St) → ev go env e s ≡ Done d s)
