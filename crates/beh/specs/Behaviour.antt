-- Behaviours: what is seen of a run, or of a meaning.
use Rattle.std.specs.Prelude.{◌≡◌, ℕ, List, ◌++◌}

-- how a run stands: it came to its end, an exception of this name left it, or there is more to come
pub data Ending : Type 0 where
  Ended : Ending
  Raised : List ℕ → Ending
  More : Ending

-- the bytes written so far, and how it stands
pub record Behaviour : Type 0 where
  pub output : List ℕ
  pub ending : Ending

-- the long text begins with the short one
abbrev pub Begins : List ℕ → List ℕ → Type 0
Begins long short = (rest : List ℕ) × (long ≡ short ++ rest)

-- it has ended or raised
abbrev pub IsOver : Ending → Type 0
IsOver Ended = Unit {0}
IsOver (Raised name) = Unit {0}
IsOver More = ⊥

-- b goes on from a: its output begins with that of a, and where a is over, it is a
pub record Extends (b a : Behaviour) : Type 0 where
  pub begins : Begins b.output a.output
  pub over : IsOver a.ending → b ≡ a

-- an ending with another name for each exception
abbrev pub end_renamed : (List ℕ → List ℕ) → Ending → Ending
end_renamed f Ended = Ended
end_renamed f (Raised name) = Raised (f name)
end_renamed f More = More

-- a behaviour with another name for each exception, as where a text writes identifiers in its own way
abbrev pub renamed : (List ℕ → List ℕ) → Behaviour → Behaviour
renamed f b = record { output = b.output; ending = end_renamed f b.ending }
