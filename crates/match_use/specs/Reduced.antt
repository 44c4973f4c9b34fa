-- A matrix that means what another does.
use Rattle.std.specs.Prelude.{◌≡◌, ◌⊎◌, ◌↔◌, ◌<◌, ℕ, nat_lt, IsTrue, List, [], Option}
use Rattle.std.specs.List.{list_all}
use Rattle.sml_static.specs.Exhaustive.{Splits}
use Rattle.match_use.specs.Lines.{Line, plain, all_agree, AreNamed, IsTaken}
use Rattle.match_use.specs.Steps.{first_step}
use Rattle.match_use.specs.Weights.{weight}
use Rattle.match_use.specs.declared.reduce.Step.TheVariants as step

-- whether the rules of all rows are below a number
abbrev pub are_below : ℕ → List Line → Type 0
are_below k lines = IsTrue (list_all (λ l. nat_lt l.rule k) lines)

-- the second matrix splits as often as the first, and takes shapes for the same rules
pub record IsReduced (old new : List Line) : Type 0 where
  pub splits : (n : ℕ) → Splits (plain old) n ↔ Splits (plain new) n
  pub agrees : IsTrue (all_agree (plain new))
  pub below : (k : ℕ) → are_below k old → are_below k new
  pub named : (names : ℕ → List (List ℕ)) → AreNamed names old → AreNamed names new
  pub taken : (names : ℕ → List (List ℕ)) (o : Option ℕ) → IsTaken names old o ↔ IsTaken names new o

-- the second matrix means what the first does, and less is left of it
pub record Opened (old new : List Line) : Type 0 where
  pub same : IsReduced old new
  pub less : weight (plain new) < weight (plain old)

-- no row is left, or no column, or the first column has literals or constructors
pub record IsReady (lines : List Line) : Type 0 where
  pub ready : (lines ≡ []) ⊎ (first_step (plain lines) ≡ step.Ready)
