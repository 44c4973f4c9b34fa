-- Evaluations that never come where there is no rule, and whose ends are typed in a larger world.
use Rattle.std.specs.Prelude.{◌≡◌, ℕ, Bool, Some, List, slice_get}
use Rattle.runs.specs.Names.{Part}
use Rattle.runs.specs.Tree.{Apply, Val, NoVals, Item}
use Rattle.runs.specs.Primitives.{St, act}
use Rattle.runs.specs.Meaning.{Res, Done, Raised, More, Wrong, perform, mean}
use Rattle.run_types.specs.Types.{Ty, TArr, TExn, Tys, Given, World, IsGiven, HasVal, Holds}

-- k has what w has, and more cells and exceptions
pub record Sub (w k : World) : Type 0 where
  pub cells : (l : ℕ) (t : Ty) → slice_get w.cells l ≡ Some t → slice_get k.cells l ≡ Some t
  pub exns : (l : ℕ) (t : Tys) → slice_get w.exns l ≡ Some t → slice_get k.exns l ≡ Some t
  pub datas : (d : ℕ) (b : Bool) (c : Part) (t : Tys) → w.datas d b c ≡ Some t → k.datas d b c ≡ Some t
  -- and no constructor more
  pub same : (d : ℕ) (b : Bool) (c : Part) (t : Tys) → k.datas d b c ≡ Some t → w.datas d b c ≡ Some t
  pub givens : k.givens ≡ w.givens

-- a good end: the world has grown
pub record Good {A : Type 0} (P : World → A → Type 0) (w : World) (a : A) (s : St) : Type 0 where
  pub k : World
  pub sub : Sub w k
  pub has : P k a
  pub holds : Holds k s

abbrev pub exn_has : World → Val → Type 0
exn_has w v = HasVal w v TExn

abbrev pub Ok : {A : Type 0} → (World → A → Type 0) → World → Res A → Type 0
Ok P w (Done a s) = Good P w a s
Ok P w (Raised v s) = Good exn_has w v s
Ok P w (More s) = Unit {0}
Ok P w (Wrong s) = ⊥

abbrev pub val_has : Ty → World → Val → Type 0
val_has t w v = HasVal w v t

-- each call of a given function, on a value of its type and in each state of each world that has it, ends well
abbrev pub GivensOk : List Given → Type 0
GivensOk givens =
    (n : ℕ) (w : World) (v x : Val) (a r : Ty) (s : St) → w.givens ≡ givens → IsGiven w v (TArr a r) → HasVal w x a → Holds w s
    → Ok (val_has r) w (perform (mean n) (act Apply (Item v (Item x NoVals)) s) s)
