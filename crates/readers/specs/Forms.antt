-- Further forms: tokens by a test, parts that may be missing, rows with a token between.
use Rattle.std.specs.Prelude.{◌≡◌, ℕ, Bool, true, ◌&&◌, List, [], ◌∷◌, Option, Some, None, Ok, Err, max, nat_lt, if◌then◌else◌}
use Rattle.readers.specs.declared.code.Code.{Code}
use Rattle.readers.specs.declared.code.Code.TheVariants.{Grammar, Depth}
use Rattle.readers.specs.Reader.{first, head_is, Reader, ◌>>=◌, both, bound, mapped, one, skip, close, only, else_by, row, steps, guard}
use Rattle.readers.specs.Infix.{ups}
use Rattle.readers.specs.Language.{Joined, Both, Bound, That, Row, Steps, As, Or, Skip, Close}

-- what f says of a token that passes
abbrev pub shown : {K A : Type 0} → (K → Bool) → (K → A) → K → Option A
shown test f c = if test c then Some (f c) else None

-- ---- what may be missing

-- no token, and this tree
abbrev pub Nothing : {K T : Type 0} → T → T → List K → Type 0
Nothing x t w = (x ≡ t) × (w ≡ [])

abbrev pub nothing : {K T : Type 0} → T → Reader K T
nothing x s = Ok (x, s)

-- a phrase, or none
abbrev pub Maybe : {K T : Type 0} → (T → List K → Type 0) → Option T → List K → Type 0
Maybe D = Or (As (λ x. Some x) D) (Nothing None)

-- where the test lets the next token through, and there needs at least this height
abbrev pub maybe : {K T : Type 0} → (K → Bool) → ℕ → Reader K T → ℕ → Reader K (Option T)
maybe test low p h = else_by test low (mapped (λ x. Some x) p) (nothing None) h

-- ---- rows with a token between

abbrev pub cons_of : {T : Type 0} → T × List T → List T
cons_of x = x.0 ∷ x.1

-- one phrase or more, with the token between
abbrev pub Seps : {K T : Type 0} → (K → Bool) → (T → List K → Type 0) → List T → List K → Type 0
Seps sep D = As cons_of (Both D (Row (Skip sep D)))

abbrev pub seps : {K T : Type 0} → (K → Bool) → Reader K T → Reader K (List T)
seps sep p = mapped cons_of (both p (row sep (skip sep p)))

-- the last one so far
abbrev pub latest : {T : Type 0} → T → T → T
latest y u = u

-- one more behind the token, where the one before may stand before it
abbrev pub Further : {K T : Type 0} → (K → Bool) → (T → Bool) → (T → List K → Type 0) → T → T → List K → Type 0
Further sep ready D y u w = (ready y ≡ true) × Skip sep D u w

abbrev pub further : {K T : Type 0} → (K → Bool) → (T → Bool) → Reader K T → T → Reader K T
further sep ready p y = guard (λ c. if ready y then None else Some Grammar) (skip sep p)

-- one phrase or more with the token between, where each but the last may stand before it
abbrev pub Ready : {K T : Type 0} → (K → Bool) → (T → Bool) → (T → List K → Type 0) → List T → List K → Type 0
Ready sep ready D = As cons_of (Bound D (Steps latest (Further sep ready D)))

abbrev pub ready_read : {K T : Type 0} → (K → Bool) → (T → Bool) → Reader K T → Reader K (List T)
ready_read sep ready p = mapped cons_of (bound p (steps sep latest (further sep ready p)))

-- the height of the highest
abbrev pub highest : {T : Type 0} → (T → ℕ) → List T → ℕ
highest tall [] = 0
highest tall (x ∷ xs) = max (tall x) (highest tall xs)

-- ---- phrases that grow to the right

-- what stands before is too high to stand inside, where inside there is this height; or nothing may follow it
abbrev pub growth : {K : Type 0} → (K → Bool) → Bool → ℕ → ℕ → K → Option Code
growth test ready tall h c = if test c && ready then (if nat_lt h tall then Some Depth else None) else Some Grammar

-- what stood before, and what follows it
abbrev pub Grown : {K E U : Type 0} → (E → Bool) → (E → List K → Type 0) → (U → List K → Type 0) → E × U → List K → Type 0
Grown ready D S x w = (ready x.0 ≡ true) × Joined (D x.0) (S x.1) w

abbrev pub grown_to : {E U : Type 0} → (E → U → E) → E × List U → E
grown_to step x = ups step x.0 x.1

-- each suffix takes what stands before it, as long as the test lets the next token through
abbrev pub grown : {K E U : Type 0} → (K → Bool) → (E → Bool) → (E → ℕ) → (E → U → E) → Reader K E → Reader K U → ℕ → Reader K E
grown test ready tall step base suffix h = mapped (grown_to step) (bound base (λ a. steps test step (λ x. guard (growth test (ready x) (tall x) h) suffix) a))

abbrev pub ended_as : {E U : Type 0} → (E → U → E) → E × Option U → E
ended_as step (x, None) = x
ended_as step (x, Some u) = step x u

-- one suffix at most
abbrev pub grown_once : {K E U : Type 0} → (K → Bool) → (E → Bool) → (E → ℕ) → (E → U → E) → Reader K E → Reader K U → ℕ → Reader K E
grown_once test ready tall step base suffix h = mapped (ended_as step) (bound base (λ x. maybe test 0 (guard (growth test (ready x) (tall x) h) suffix) h))

-- whatever the tree
abbrev pub any_tree : {T : Type 0} → T → Bool
any_tree x = true

-- ---- choices without a test of the room

abbrev pub else_if : {K T : Type 0} → (K → Bool) → Reader K T → Reader K T → Reader K T
else_if test p q s = if head_is test (first s) then p s else q s

abbrev pub optional : {K T : Type 0} → (K → Bool) → Reader K T → Reader K (Option T)
optional test p = else_if test (mapped (λ x. Some x) p) (nothing None)

-- any number of phrases with the token between, and the token that closes them
abbrev pub Enclosed : {K T : Type 0} → (K → Bool) → (T → List K → Type 0) → (K → Bool) → List T → List K → Type 0
Enclosed sep D end = Or (As (λ u. []) (λ (u : Unit {0}). That end)) (Close (Seps sep D) end)

-- where a first phrase begins with the token and needs this height
abbrev pub enclosed : {K T : Type 0} → (K → Bool) → ℕ → (K → Bool) → Reader K T → (K → Bool) → ℕ → Reader K (List T)
enclosed begins low sep p end h = else_if end (mapped (λ u. []) (one end)) (only begins low (close (seps sep p) end) h)

-- a phrase that no token of the test may follow
abbrev pub ended : {K T : Type 0} → (K → Bool) → Reader K T → Reader K T
ended test p s = p s >>= λ x. if head_is test (first x.1) then Err (Grammar, x.1) else Ok x

-- ---- heights beside trees

abbrev pub height_of : {T : Type 0} → T × ℕ → ℕ
height_of x = x.1

abbrev pub at_least : {T : Type 0} → ℕ → T × ℕ → ℕ
at_least n x = max n x.1

-- at the same level, behind a tree that is ready for it, where inside there must be this height
abbrev pub beside : {K E U : Type 0} → (K → Bool) → (E → Bool) → ℕ → (E → U → E) → Reader K E → Reader K U → ℕ → Reader K E
beside test ready low step base suffix h = mapped (ended_as step) (bound base (λ x. maybe test 0 (guard (growth test (ready x) low h) suffix) h))
