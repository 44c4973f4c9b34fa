-- When a call has to succeed, memory and devices aside.
use Rattle.std.specs.Prelude.{◌≡◌, List, ℕ, length, Some}
use Rattle.src_io.specs.Holding.{Holding}
use Rattle.src_io.specs.Reading.{IsRead}
use Rattle.tl_session.specs.Kept.{Source}
use Rattle.tl_session.specs.Refused.{Accepted}
use Rattle.smltl.specs.Command.{IsCommand}
use Rattle.smltl.specs.Listing.{Listed, list_limit}
use Rattle.smltl.specs.Outcome.{AreSources}

-- The words name a list that is held and has no bad line; each name on it is held, and all sources are accepted.
pub record IsGood (words : List (List ℕ)) (h : Holding) : Type 0 where
  pub list : List ℕ
  pub command : IsCommand words list
  pub bytes : List ℕ
  pub read : IsRead list list_limit (Some h) bytes
  pub names : List (List ℕ)
  pub listed : Listed bytes names
  pub sources : List Source
  pub held : AreSources (Some h) names sources
  pub all : length sources ≡ length names
  pub accepted : Accepted sources
