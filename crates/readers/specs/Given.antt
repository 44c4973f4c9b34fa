-- What a function of the code answers, beside the reader that it stands for.
use Rattle.std.specs.Prelude.{◌≡◌, ℕ, ◌≤◌, List, Result, Ok, Err}
use Rattle.std.specs.declared.alloc.Global.{Global}
use denote.Ref.{Bor}
use Rattle.readers.specs.declared.fault.ReadError.{ReadError}
use Rattle.readers.specs.declared.fault.ReadError.TheVariants as errors
use Rattle.readers.specs.Reader.{Answer, Reader}

-- what the reader refused, unless memory ran out
abbrev pub Fails : {K T : Type 0} → ReadError K → Answer K T → Type 0
Fails errors.NoMemory read = Unit {0}
Fails (errors.Refused code rest) read = read ≡ Err (code, rest.now)

-- what the reader gives, unless memory ran out
abbrev pub Gives : {K X T : Type 0} → (X → T × List K) → Result X (ReadError K) → Answer K T → Type 0
Gives view (Ok x) read = read ≡ Ok (view x)
Gives view (Err e) read = Fails e read

-- a function that was handed in and reads what stands inside, at each room up to this one
pub record Inside {K T : Type 0} (read : ℕ → Reader K T) (most : ℕ) (pre : Global → ℕ → Bor (List K) → Type 0)
    (post : Global → ℕ → Bor (List K) → Result (T × Bor (List K)) (ReadError K) → Type 0) : Type 0 where
  -- it may be called there
  pub allowed : (alloc : Global) (room : ℕ) (tokens : Bor (List K)) → room ≤ most → pre alloc room tokens
  -- it gives what the reader gives
  pub gives : (alloc : Global) (room : ℕ) (tokens : Bor (List K)) (r : Result (T × Bor (List K)) (ReadError K)) → room ≤ most → post alloc room tokens r
      → Gives (λ x. (x.0, x.1.now)) r (read room tokens.now)
