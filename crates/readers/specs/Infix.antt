-- Rows of operands with operators between them, some tighter than others, to the left or to the right.
use Rattle.std.specs.Prelude.{◌≡◌, ℕ, suc, Bool, true, false, not, ◌&&◌, ◌||◌, List, [], ◌∷◌, Option, Some, None, nat_lt, if◌then◌else◌, ◌==◌}
use Rattle.readers.specs.declared.floor.Floor.{Floor}
use Rattle.readers.specs.declared.code.Code.{Code}
use Rattle.readers.specs.declared.code.Code.TheVariants.{Grammar, Depth, FixityClash}
use Rattle.readers.specs.Reader.{Reader, mapped, bound, token_by, steps, guard}
use Rattle.readers.specs.Room.{Room}

-- a floor
abbrev pub from : ℕ → Bool → Floor
from n b = record { least = n; strict = b }

-- the floor of a whole row
abbrev pub ground : Floor
ground = from 0 false

-- each suffix wraps what stands before it
abbrev pub ups : {E U : Type 0} → (E → U → E) → E → List U → E
ups wrap t [] = t
ups wrap t (u ∷ us) = ups wrap (wrap t u) us

abbrev pub chain : {A E U : Type 0} → (A → E) → (E → U → E) → A × List U → E
chain leaf wrap x = ups wrap (leaf x.0) x.1

-- whether it reaches the floor, binds so that it may come next, clashes may be, it clashes neither on the left nor with the floor, there is no room
abbrev pub verdict : Bool → Bool → Bool → Bool → Bool → Bool → Option Code
verdict a b e c d f = if a && b then (if e || (c && d) then (if f then Some Depth else None) else Some FixityClash) else Some Grammar

module _ {V : Type 0} (tight : V → ℕ) (right : V → Bool) where
  -- what may stand on the right of an operator
  abbrev pub floor_of : V → Floor
  floor_of v = if right v then from (tight v) true else from (suc (tight v)) false

  -- v may stand at the top of an operand of this floor, if clashes are allowed, and if they are not
  abbrev pub reaches : Floor → V → Bool
  reaches n v = not (nat_lt (tight v) n.least)

  abbrev pub sided : Floor → V → Bool
  sided n v = not (n.strict && (tight v == n.least && not (right v)))

  -- u may stand at the top of the left operand of v
  abbrev pub before : Option V → V → Bool
  before None v = true
  before (Some u) v = nat_lt (tight v) (tight u) || (tight u == tight v && not (right u))

  abbrev pub agrees : Option V → V → Bool
  agrees None v = true
  agrees (Some u) v = not (tight u == tight v && right v)

  abbrev pub Above : Bool → Floor → V → Type 0
  Above b n v = (reaches n v ≡ true) × ((b || sided n v) ≡ true)

  abbrev pub AboveTop : Bool → Floor → Option V → Type 0
  AboveTop b n None = Unit {0}
  AboveTop b n (Some v) = Above b n v

  abbrev pub Left : Bool → Option V → V → Type 0
  Left b top v = (before top v ≡ true) × ((b || agrees top v) ≡ true)

  -- why v cannot follow an operand of this height and this operator at its top
  abbrev pub judge : Room → Floor → Option V → ℕ → V → Option Code
  judge h n top tall v =
      verdict (reaches n v) (before top v) h.clashes (sided n v) (agrees top v) (nat_lt h.height tall)

  module _ {K A E : Type 0} (view : K → Option V) (top : E → Option V) (tall : E → ℕ) (leaf : A → E) (node : E → V → E → E) where
    abbrev pub seen_by : (V → Bool) → Option V → Bool
    seen_by test None = false
    seen_by test (Some v) = test v

    abbrev pub takes : Floor → K → Bool
    takes n c = seen_by (reaches n) (view c)

    abbrev pub bars : Room → Floor → E → Option V → Option Code
    bars h n x None = Some Grammar
    bars h n x (Some v) = judge h n (top x) (tall x) v

    abbrev pub bar : Room → Floor → E → K → Option Code
    bar h n x c = bars h n x (view c)

    abbrev pub wrap : E → V × E → E
    wrap x u = node x u.0 u.1

    -- an operator and what stands on its right
    abbrev pub suffix_read : (Floor → Reader K E) → Room → Floor → E → Reader K (V × E)
    suffix_read inner h n x = guard (bar h n x) (bound (token_by view) (λ v. inner (floor_of v)))

    -- where operands have the room h
    abbrev pub infix_read : Reader K A → (Floor → Reader K E) → Room → Floor → Reader K E
    infix_read operand inner h n = mapped (chain leaf wrap) (bound operand (λ a. steps (takes n) wrap (suffix_read inner h n) (leaf a)))
