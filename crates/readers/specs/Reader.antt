-- Readers of phrases from the left, and how they are made from one another.
use Rattle.std.specs.Prelude.{ℕ, zero, suc, ◌⊎◌, Bool, true, false, List, [], ◌∷◌, ◌++◌, length, Option, Some, None, Result, Ok, Err, nat_lt, if◌then◌else◌}
use Rattle.std.proofs.Common.{inl, inr}
use Rattle.readers.specs.declared.code.Code.{Code}
use Rattle.readers.specs.declared.code.Code.TheVariants.{Grammar, Depth}

-- the next token
abbrev pub first : {K : Type 0} → List K → Option K
first [] = None
first (c ∷ s) = Some c

-- whether there is a next token that the test lets through
abbrev pub head_is : {K : Type 0} → (K → Bool) → Option K → Bool
head_is test None = false
head_is test (Some c) = test c

-- a tree and the tokens after it, or a code and the tokens from the refused one on
abbrev pub Answer : Type 0 → Type 0 → Type 0
Answer K T = Result (T × List K) (Code × List K)

-- what is read from a list of tokens
abbrev pub Reader : Type 0 → Type 0 → Type 0
Reader K T = List K → Answer K T

-- go on with what was read
infixl 10 ◌>>=◌
abbrev pub ◌>>=◌ : {E A B : Type 0} → Result A E → (A → Result B E) → Result B E
(Ok x) >>= f = f x
(Err e) >>= f = Err e

-- one reader and then another
abbrev pub both : {K S T : Type 0} → Reader K S → Reader K T → Reader K (S × T)
both p q s = p s >>= λ x. q x.1 >>= λ y. Ok ((x.0, y.0), y.1)

-- a reader, and one that may depend on what it read
abbrev pub bound : {K S T : Type 0} → Reader K S → (S → Reader K T) → Reader K (S × T)
bound p q s = p s >>= λ x. q x.0 x.1 >>= λ y. Ok ((x.0, y.0), y.1)

-- what was read, seen as another tree
abbrev pub mapped : {K S T : Type 0} → (S → T) → Reader K S → Reader K T
mapped f p s = p s >>= λ x. Ok (f x.0, x.1)

-- the token, if it shows something
abbrev pub seen : {K A : Type 0} → Option A → K → List K → Answer K A
seen (Some a) c s = Ok (a, s)
seen None c s = Err (Grammar, c ∷ s)

-- one token, and what it shows
abbrev pub token_by : {K A : Type 0} → (K → Option A) → Reader K A
token_by view [] = Err (Grammar, [])
token_by view (c ∷ s) = seen (view c) c s

-- the token, if the test lets it through
abbrev pub passed : {K : Type 0} → Bool → K → List K → Answer K (Unit {0})
passed true c s = Ok (tt, s)
passed false c s = Err (Grammar, c ∷ s)

-- one token that the test lets through
abbrev pub one : {K : Type 0} → (K → Bool) → Reader K (Unit {0})
one test [] = Err (Grammar, [])
one test (c ∷ s) = passed (test c) c s

-- a token that the test lets through, and then what p reads
abbrev pub skip : {K T : Type 0} → (K → Bool) → Reader K T → Reader K T
skip test p s = one test s >>= λ x. p x.1

-- what p reads, and then a token that the test lets through
abbrev pub close : {K T : Type 0} → Reader K T → (K → Bool) → Reader K T
close p test s = p s >>= λ x. one test x.1 >>= λ y. Ok (x.0, y.1)

-- with enough room
abbrev pub roomy : {K T : Type 0} → ℕ → Reader K T → ℕ → Reader K T
roomy low p h s = if nat_lt h low then Err (Depth, s) else p s

-- the first alternative where the test lets the next token through, and there needs at least this height
abbrev pub choose : {K S T : Type 0} → (K → Bool) → ℕ → Reader K S → Reader K T → ℕ → Reader K (S ⊎ T)
choose test low p q h s = if head_is test (first s) then mapped inl (roomy low p h) s else mapped inr q s

-- the last alternative
abbrev pub only : {K T : Type 0} → (K → Bool) → ℕ → Reader K T → ℕ → Reader K T
only test low p h s = if head_is test (first s) then roomy low p h s else Err (Grammar, s)

-- no room at all
abbrev pub shut : {K T : Type 0} → (K → Bool) → Reader K T
shut test s = if head_is test (first s) then Err (Depth, s) else Err (Grammar, s)

-- the first alternative where the test lets the next token through, of one type of tree
abbrev pub else_by : {K T : Type 0} → (K → Bool) → ℕ → Reader K T → Reader K T → ℕ → Reader K T
else_by test low p q h s = if head_is test (first s) then roomy low p h s else q s

-- at most n items
unfoldable pub row_by : {K T : Type 0} → (K → Bool) → Reader K T → ℕ → Reader K (List T)
row_by test p zero s = Ok ([], s)
row_by test p (suc n) s = if head_is test (first s) then p s >>= (λ x. row_by test p n x.1 >>= λ y. Ok (x.0 ∷ y.0, y.1)) else Ok ([], s)

-- items as long as the test lets the next token through
abbrev pub row : {K T : Type 0} → (K → Bool) → Reader K T → Reader K (List T)
row test p s = row_by test p (length s) s

-- a row whose first items are these
abbrev pub with_front : {K T : Type 0} → List T → Answer K (List T) → Answer K (List T)
with_front xs r = r >>= λ y. Ok (xs ++ y.0, y.1)

-- at most this many items, each read under the state that those before it leave
unfoldable pub steps_by : {K X U : Type 0} → (K → Bool) → (X → U → X) → (X → Reader K U) → ℕ → X → Reader K (List U)
steps_by test step q zero x s = Ok ([], s)
steps_by test step q (suc f) x s = if head_is test (first s) then q x s >>= (λ y. steps_by test step q f (step x y.0) y.1 >>= λ t. Ok (y.0 ∷ t.0, t.1)) else Ok ([], s)

-- items as long as the test lets the next token through
abbrev pub steps : {K X U : Type 0} → (K → Bool) → (X → U → X) → (X → Reader K U) → X → Reader K (List U)
steps test step q x s = steps_by test step q (length s) x s

-- what the test answers for the next token; at the end it is refused
abbrev pub barred : {K : Type 0} → (K → Option Code) → Option K → Option Code
barred bar None = Some Grammar
barred bar (Some c) = bar c

-- refuse with this code, or go on
abbrev pub unless : {K T : Type 0} → Option Code → List K → Answer K T → Answer K T
unless None s r = r
unless (Some code) s r = Err (code, s)

-- read only what passes the test
abbrev pub guard : {K T : Type 0} → (K → Option Code) → Reader K T → Reader K T
guard bar p s = unless (barred bar (first s)) s (p s)

-- no token is left
abbrev pub no_more : {K : Type 0} → Reader K (Unit {0})
no_more [] = Ok (tt, [])
no_more (c ∷ s) = Err (Grammar, c ∷ s)
