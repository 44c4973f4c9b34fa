-- What a session keeps.
use Rattle.std.specs.Prelude.{◌≡◌, ℕ, ◌≤◌, List, map}
use Rattle.sml_fix.specs.Fixities.{Settings, start}
use Rattle.tl_session.specs.Faithful.{Standing}
use Rattle.tl_session.specs.Kept.{Source}
use Rattle.tl_session.specs.Refused.{InForce, total_bytes, total_limit}
use Rattle.tl_session.specs.declared.session.Accepted.{Accepted}

abbrev pub source_of : Accepted → Source
source_of a = record { name = a.name; bytes = a.bytes }

-- the sources that were accepted, and their programs
abbrev pub standing_of : List Accepted → Standing
standing_of accepted = record { sources = map source_of accepted; programs = map (λ a. a.program) accepted }

-- how many bytes they have together
abbrev pub IsCounted : List Accepted → ℕ → Type 0
IsCounted accepted total = (total ≡ total_bytes (map source_of accepted)) × (total ≤ total_limit)

-- these fixities are in force behind the sources, and no others
pub record AreInForce (sources : List Source) (fix : Settings) : Type 0 where
  pub force : InForce 1 start sources fix
  pub only : (left : Settings) → InForce 1 start sources left → left ≡ fix

-- what a session holds of the sources that were accepted: how many bytes they have, and the fixities behind them
pub record IsKept (accepted : List Accepted) (total : ℕ) (fix : Settings) : Type 0 where
  pub counted : IsCounted accepted total
  pub force : AreInForce (map source_of accepted) fix
