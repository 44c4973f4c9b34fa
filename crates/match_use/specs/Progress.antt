-- Matrices that are still to be looked at, and what has been found so far.
use Rattle.std.specs.Prelude.{◌≡◌, ◌⊎◌, ◌↔◌, ◌+◌, ◌-◌, ◌*◌, ◌<◌, ◌≤◌, ℕ, Bool, false, IsTrue, List, [], ◌∷◌, reverse, length, Option, Some, None, Vec}
use Rattle.std.specs.List.{slice_index_or}
use Rattle.std.proofs.Common.{Global}
use Rattle.sml_static.specs.Exhaustive.{Splits}
use Rattle.match_use.specs.Lines.{Line, matrices_of, plain, all_agree, AreNamed, IsTaken}
use Rattle.match_use.specs.Steps.{first_step}
use Rattle.match_use.specs.declared.reduce.Step.TheVariants as step
use Rattle.sml_static.specs.Shapes.{Pattern}
use Rattle.match_use.specs.Reduced.{are_below}
use Rattle.match_use.specs.declared.row.Row.{Row}

-- the first row has a column
abbrev pub StartsWide : List (List Pattern) → Type 0
StartsWide [] = ⊥
StartsWide ([] ∷ rows) = ⊥
StartsWide ((p ∷ ps) ∷ rows) = Unit {0}

-- the matrices of a row of them, the last one first
abbrev pub pending : List (Vec Row Global) → List (List Line)
pending todo = reverse (matrices_of todo)

-- some of these matrices is taken for the rule, or for none
abbrev pub TakenIn : (ℕ → List (List ℕ)) → List (List Line) → Option ℕ → Type 0
TakenIn names [] o = ⊥
TakenIn names (m ∷ ms) o = IsTaken names m o ⊎ TakenIn names ms o

-- how often they split together
abbrev pub Total : List (List Line) → ℕ → Type 0
Total [] n = n ≡ 0
Total (m ∷ ms) n = (a : ℕ) × (b : ℕ) × Splits (plain m) a × Total ms b × (n ≡ a + b)

-- a matrix of one type, with rules below a number, and with the names of the first one
pub record IsGood (rules : ℕ) (root m : List Line) : Type 0 where
  pub agrees : IsTrue (all_agree (plain m))
  pub below : are_below rules m
  pub named : (names : ℕ → List (List ℕ)) → AreNamed names root → AreNamed names m

abbrev pub EachGood : ℕ → List Line → List (List Line) → Type 0
EachGood rules root [] = Unit {0}
EachGood rules root (m ∷ ms) = IsGood rules root m × EachGood rules root ms

-- what has been found: a rule that is reached, or that shapes miss all rules
abbrev pub IsMarked : List Bool → Bool → Option ℕ → Type 0
IsMarked reached exhaustive None = exhaustive ≡ false
IsMarked reached exhaustive (Some i) = IsTrue (slice_index_or reached i false)

-- what is found and what is still to be looked at are all of the first matrix
pub record Progress (root : List Line) (todo : List (List Line)) (reached : List Bool) (exhaustive : Bool) (count : ℕ) : Type 0 where
  pub good : EachGood (length reached) root todo
  pub found : (names : ℕ → List (List ℕ)) → AreNamed names root → (o : Option ℕ) → IsTaken names root o ↔ (IsMarked reached exhaustive o ⊎ TakenIn names todo o)
  pub counted : (n : ℕ) → Splits (plain root) n ↔ ((r : ℕ) × Total todo r × (n ≡ count + r))

-- a matrix is looked at: others stand in its place, fewer by the limit, or the limit is passed
pub record Visited (limit : ℕ) (m : List Line) (todo todo' : List (List Line)) (reached reached' : List Bool) (exhaustive exhaustive' : Bool) (count count' : ℕ) (go : Bool) : Type 0 where
  pub kept : IsTrue go → (root : List Line) → Progress root (m ∷ todo) reached exhaustive count → Progress root todo' reached' exhaustive' count'
  pub over : go ≡ false → (root : List Line) → Progress root (m ∷ todo) reached exhaustive count → (n : ℕ) → Splits (plain root) n → limit < n
  pub within : IsTrue go → count' ≤ limit
  pub fewer : IsTrue go → 2 * (limit - count') + length todo' ≤ 2 * (limit - count) + length todo
  pub same : length reached' ≡ length reached

-- a matrix that is to be split: it has a row with a column, and its first column has literals or constructors
pub record IsSplitting (m : List Line) : Type 0 where
  pub agrees : IsTrue (all_agree (plain m))
  pub ready : first_step (plain m) ≡ step.Ready
  pub column : StartsWide (plain m)
