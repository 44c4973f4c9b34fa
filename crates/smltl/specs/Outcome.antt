-- How a call of `run` may go: what it answers, and what it writes on standard output and standard error.
use Rattle.std.specs.Prelude.{◌≡◌, ◌⊎◌, ℕ, suc, List, [], ◌∷◌, ◌++◌, length, Option, Some, slice_get}
use Rattle.beh.specs.Behaviour.{Begins}
use Rattle.src_io.specs.Faults.{Rose}
use Rattle.src_io.specs.Holding.{Holding, Lacks}
use Rattle.src_io.specs.Reading.{IsRead}
use Rattle.tl_text.specs.declared.fault.Refusal.{Refusal}
use Rattle.tl_session.specs.Faithful.{Standing, IsTranslation, texts_of, bytes_of}
use Rattle.tl_session.specs.Kept.{Source}
use Rattle.tl_session.specs.Refused.{RefusedAt, source_limit}
use Rattle.smltl.specs.declared.end.End.{End}
use Rattle.smltl.specs.declared.end.End.TheVariants as end
use Rattle.smltl.specs.Command.{IsCommand}
use Rattle.smltl.specs.Listing.{Listed, BadLine, list_limit}
use Rattle.smltl.specs.Lines.{usage_line, bad_list_line, missing_line, error_line, reading_failed, out_of_memory}

-- the answer is e and the line was written, or the write failed and a front of it was
abbrev pub Says : End → List ℕ → End → List ℕ → Type 0
Says e line answer notes = ((answer ≡ e) × (notes ≡ line)) ⊎ ((answer ≡ end.WriteFault) × Begins line notes)

-- the sources are the first of the names, each with the bytes that are held under it
abbrev pub AreSources : Option Holding → List (List ℕ) → List Source → Type 0
AreSources told names [] = Unit {0}
AreSources told [] (s ∷ sources) = ⊥
AreSources told (name ∷ names) (s ∷ sources) = (s.name ≡ name) × IsRead name source_limit told s.bytes × AreSources told names sources

-- the text of Rt, and that of each source
abbrev pub written_for : Standing → List ℕ
written_for s = bytes_of (texts_of s)

-- what stops a run at the next name
abbrev pub StopsAt : Option Holding → Standing → List ℕ → End → List ℕ → Type 0
StopsAt told s name answer notes =
    -- it is not held
    (Lacks name told × Says (end.Missing (suc (length s.sources))) (missing_line name) answer notes)
    -- its source is refused
    ⊎ ((bytes : List ℕ) × (refusal : Refusal) × IsRead name source_limit told bytes
    × RefusedAt (s.sources ++ record { name = name; bytes = bytes } ∷ []) refusal.place refusal.code
    × Says (end.Refused refusal) (error_line name refusal) answer notes)

-- after names were listed: the sources that were accepted are translated
pub record AtNames (told : Option Holding) (names : List (List ℕ)) (answer : End) (out notes : List ℕ) : Type 0 where
  pub standing : Standing
  pub translation : IsTranslation standing
  pub sources : AreSources told names standing.sources
  pub ending :
      -- all sources were read, accepted and written
      ((length standing.sources ≡ length names) × (answer ≡ end.Done) × (out ≡ written_for standing) × (notes ≡ []))
      -- the next name stops the run; what was translated stands written
      ⊎ (((name : List ℕ) × (slice_get names (length standing.sources) ≡ Some name) × (out ≡ written_for standing) × StopsAt told standing name answer notes)
      -- a device fails in reading, or there is no memory
      ⊎ (((out ≡ written_for standing) × Says end.ReadFault reading_failed answer notes)
      ⊎ ((((out ≡ []) ⊎ (out ≡ written_for standing)) × Says end.NoMemory out_of_memory answer notes)
      -- writing the texts fails
      ⊎ (Begins (written_for standing) out × (answer ≡ end.WriteFault) × (notes ≡ [])))))

-- before names are listed: nothing is on standard output
abbrev pub AtList : Option Holding → List ℕ → End → List ℕ → Type 0
AtList told list answer notes =
    (Lacks list told × Says (end.Missing 0) (missing_line list) answer notes)
    ⊎ (((bytes : List ℕ) × (line : ℕ) × IsRead list list_limit told bytes × BadLine bytes line × Says (end.BadList line) (bad_list_line list line) answer notes)
    ⊎ (Says end.ReadFault reading_failed answer notes
    ⊎ Says end.NoMemory out_of_memory answer notes))

-- a call with these words, where this is told of what is held
abbrev pub Outcome : List (List ℕ) → Option Holding → End → List ℕ → List ℕ → Type 0
Outcome words told answer out notes =
    (((list : List ℕ) → IsCommand words list → ⊥) × (out ≡ []) × Says end.BadWords usage_line answer notes)
    ⊎ ((list : List ℕ) × IsCommand words list
    × (((out ≡ []) × AtList told list answer notes)
    ⊎ ((bytes : List ℕ) × (names : List (List ℕ)) × IsRead list list_limit told bytes × Listed bytes names × AtNames told names answer out notes)))

-- What the counts of faults tell: of the sources, of standard output and of standard error, before and after.
pub record Counts (answer : End) (src src2 out out2 notes notes2 : ℕ) : Type 0 where
  -- a write fault comes only where a count of writing rose
  pub write : answer ≡ end.WriteFault → Rose out out2 ⊎ Rose notes notes2
  -- without one these counts are as before
  pub written : (answer ≡ end.WriteFault → ⊥) → (out2 ≡ out) × (notes2 ≡ notes)
  -- a read fault comes only where the count of reading rose
  pub read : answer ≡ end.ReadFault → Rose src src2
  -- with neither that count is as before
  pub all_read : (answer ≡ end.WriteFault → ⊥) → (answer ≡ end.ReadFault → ⊥) → src2 ≡ src
