-- The floor of a whole row: every row stands on it, and operators do not end it.
use Rattle.std.proofs.Common.{◌≡◌, ℕ, Bool, true, false, Option, Some, None, refl, arith}
use Rattle.std.proofs.lemmas.Bool.{le-ltb}
use Rattle.readers.specs.Infix.{ground, reaches, AboveTop, seen_by}
use Rattle.readers.proofs.Precedence.{or_second}

module _ {V : Type 0} (tight : V → ℕ) (right : V → Bool) where
  pub ground_any : (b : Bool) (top : Option V) → AboveTop tight right b ground top
  ground_any b None = tt
  ground_any b (Some v) = (rw (le-ltb (tight v) 0 (omega arith)) refl, or_second b true refl)

  pub ground_reached : (v : V) → reaches tight right ground v ≡ true
  ground_reached v = rw (le-ltb (tight v) 0 (omega arith)) refl

  abbrev is_some : Option V → Bool
  is_some None = false
  is_some (Some v) = true

  pub ground_seen : {K A E : Type 0} (view : K → Option V) (top : E → Option V) (tall : E → ℕ) (leaf : A → E) (node : E → V → E → E)
      → (o : Option V) → seen_by tight right view top tall leaf node (reaches tight right ground) o ≡ is_some o
  ground_seen view top tall leaf node None = refl
  ground_seen view top tall leaf node (Some v) = ground_reached v
