-- What a typed row of items owes in any place.
use Rattle.std.specs.Prelude.{◌≡◌, ℕ, suc, ◌<◌, ◌≤◌, List, Option, Some, true}
use Rattle.oc_ast.specs.Plain.{Bytes, PItems}
use Rattle.oc_typing.specs.Env.{Env, over}
use Rattle.oc_steps.specs.Known as known
use Rattle.oc_steps.specs.Known.{Known, at_first, items_know}
use Rattle.oc_steps.specs.OcSteps.{NeverWrong, evaluated}
use Rattle.oc_typing.specs.More.{after}
use Rattle.runs.specs.Meaning.{Done}
use Rattle.oc_steps.specs.View.{items_tree}
use Rattle.run_types.specs.Basic.{Basic}
use Rattle.run_types.specs.Safe.{GivensOk, Ok}
use Rattle.run_types.specs.TypedItems.{ScopeTy, scope_has}
use Rattle.run_types.specs.Types as run
use Rattle.run_types.specs.Types.{Holds, World}
use Rattle.runs.specs.Items.{mean_items}
use Rattle.runs.specs.Primitives.{St}
use Rattle.runs.specs.Scope.{Scope}
use Rattle.oc_sound.specs.Words.{Among, Variants}
use Rattle.oc_sound.specs.Served.{Apart, Closed, Fits, Serves}

-- the arguments of constructors, by the stamp of their type and their name
abbrev pub Table : Type 0
Table = ℕ → Bytes → Option run.Tys

-- the world has the constructors of the table whose stamps are from c on and below e
abbrev pub Includes : ℕ → ℕ → Table → World → Type 0
Includes c e T w = (s : ℕ) (n : Bytes) (args : run.Tys) → c ≤ s → s < e → T s n ≡ Some args → w.datas s true n ≡ Some args

-- its types have the constructors of the list
abbrev pub ClosedTable : Variants → Table → Type 0
ClosedTable vs T =
    (s : ℕ) (n : Bytes) (args : run.Tys) → T s n ≡ Some args
    → (v : List Bytes) × Among v vs × Among n v × ((m : Bytes) (us : run.Tys) → T s m ≡ Some us → Among m v)

-- Where the environment g is served, and the functions that are given to the world are good, the row binds d: what is
-- known of it fits, and each evaluation ends well, in a scope that serves d over g and d over what the structure had.
abbrev pub RowEndsWell : Variants → ℕ → ℕ → Table → Env → PItems → Env → Type 0
RowEndsWell vs c e T g is d =
    (w : World) → Basic w → Closed vs w → Includes c e T w → (k : Known) → Fits w k g → Apart vs k
    → Fits w (items_know k is) d
    × ((f : ℕ → run.Ty) (h : Env) (x : ScopeTy) (v : Scope) (s : St) → GivensOk w.givens → Serves f g x.env → Serves f h x.own → scope_has x w v → Holds w s
    → (y : ScopeTy) × Serves f (over d g) y.env × Serves f (over d h) y.own × ((n : ℕ) → Ok (scope_has y) w (mean_items n v (items_tree k is) s)))

-- The first row ends in this scope and state, at each n, and there g is served. So whatever it took, the rest goes on.
abbrev pub NeverWrongBehind : Variants → ℕ → ℕ → Table → Env → PItems → PItems → Type 0
NeverWrongBehind vs c e T g first rest =
    (w : World) → Basic w → Closed vs w → Includes c e T w → GivensOk w.givens → Fits w (known.over (items_know at_first first) at_first) g
    → Apart vs (known.over (items_know at_first first) at_first)
    → (f : ℕ → run.Ty) (h : Env) (x : ScopeTy) (v : Scope) (s : St) → Serves f g x.env → Serves f h x.own → scope_has x w v → Holds w s
    → ((n : ℕ) → evaluated first (suc n) ≡ Done v s) → NeverWrong (after first rest)
