-- How the translation of named sources may end, and what it leaves.
use Rattle.std.specs.Prelude.{◌≡◌, ◌⊎◌, ℕ, List, [], ◌∷◌, ◌++◌, length, Option, Some, Result, Ok, Err, slice_get}
use Rattle.beh.specs.Behaviour.{Begins}
use Rattle.src_io.specs.Faults.{Rose}
use Rattle.src_io.specs.Holding.{Holding, Lacks}
use Rattle.src_io.specs.Reading.{IsRead}
use Rattle.tl_session.specs.Faithful.{Standing, IsTranslation}
use Rattle.tl_session.specs.Refused.{RefusedAt, source_limit}
use Rattle.smltl.specs.declared.translate.Stop.{Stop}
use Rattle.smltl.specs.declared.translate.Stop.TheVariants as stop
use Rattle.smltl.specs.Outcome.{AreSources, written_for}

-- where a translation stops, after the sources of a session
abbrev pub StoppedAt : Option Holding → List (List ℕ) → Standing → Stop → List ℕ → Type 0
StoppedAt told names s (stop.Missing at) out =
    (at ≡ length s.sources) × (out ≡ written_for s) × ((name : List ℕ) × (slice_get names at ≡ Some name) × Lacks name told)
StoppedAt told names s (stop.Refused at refusal) out =
    (at ≡ length s.sources) × (out ≡ written_for s) × ((name : List ℕ) × (slice_get names at ≡ Some name)
    × (bytes : List ℕ) × IsRead name source_limit told bytes × RefusedAt (s.sources ++ record { name = name; bytes = bytes } ∷ []) refusal.place refusal.code)
StoppedAt told names s stop.Reading out = out ≡ written_for s
StoppedAt told names s stop.Writing out = Begins (written_for s) out
StoppedAt told names s stop.Memory out = (out ≡ []) ⊎ (out ≡ written_for s)

-- how it may end
abbrev pub EndsAt : Option Holding → List (List ℕ) → Standing → Result (Unit {0}) Stop → List ℕ → Type 0
EndsAt told names s (Ok u) out = (length s.sources ≡ length names) × (out ≡ written_for s)
EndsAt told names s (Err e) out = StoppedAt told names s e out

-- the sources that were accepted are translated, and it ends so
pub record Translated (told : Option Holding) (names : List (List ℕ)) (answer : Result (Unit {0}) Stop) (out : List ℕ) : Type 0 where
  pub standing : Standing
  pub translation : IsTranslation standing
  pub sources : AreSources told names standing.sources
  pub ending : EndsAt told names standing answer out

-- what the counts of faults tell of a stop: of the sources and of the output, before and after
abbrev pub StopCounts : Result (Unit {0}) Stop → ℕ → ℕ → ℕ → ℕ → Type 0
StopCounts (Err stop.Reading) src src2 out out2 = Rose src src2 × (out2 ≡ out)
StopCounts (Err stop.Writing) src src2 out out2 = (src2 ≡ src) × Rose out out2
StopCounts _ src src2 out out2 = (src2 ≡ src) × (out2 ≡ out)
