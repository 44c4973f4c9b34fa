-- How a line on standard error goes.
use Rattle.std.specs.Prelude.{◌≡◌, ◌⊎◌, ℕ, List}
use Rattle.beh.specs.Behaviour.{Begins}
use Rattle.src_io.specs.Faults.{Rose}
use Rattle.smltl.specs.declared.end.End.{End}
use Rattle.smltl.specs.declared.end.End.TheVariants as end
use Rattle.smltl.specs.Lines.{out_of_memory}

-- The answer is e and the line was written; or a front of it was, and the count of faults rose.
abbrev pub Tells : End → List ℕ → End → List ℕ → ℕ → ℕ → Type 0
Tells e line answer notes before now =
    ((answer ≡ e) × (notes ≡ line) × (now ≡ before))
    ⊎ ((answer ≡ end.WriteFault) × Begins line notes × Rose before now)

-- The same; or there was no memory to make the line, and this was told.
abbrev pub TellsAtBest : End → List ℕ → End → List ℕ → ℕ → ℕ → Type 0
TellsAtBest e line answer notes before now =
    Tells e line answer notes before now
    ⊎ Tells end.NoMemory out_of_memory answer notes before now
