-- A function that was handed in and reads the patterns that stand inside.
use Rattle.std.specs.Prelude.{ℕ, ◌≤◌, List, Result}
use Rattle.std.specs.declared.alloc.Global.{Global}
use denote.Ref.{Bor}
use Rattle.readers.specs.declared.fault.ReadError.{ReadError}
use Rattle.readers.specs.Given.{Gives}
use Rattle.sml_lex.specs.declared.token.Token.{Token}
use Rattle.sml_ast.specs.declared.pat.Pat.{Pat}
use Rattle.sml_fix.specs.declared.fixities.Fixities.{Fixities}
use Rattle.sml_fix.specs.Fixities.{settings}
use Rattle.sml_parse_pat.specs.declared.inside.Level.{Level}
use Rattle.sml_parse_pat.specs.Levels.{phrase}

abbrev pub Read : Type 0
Read = Result ((Pat × ℕ) × Bor (List Token)) (ReadError Token)

-- it may be called at each room up to this one, and gives what the reader gives
pub record Nests (most : ℕ) (pre : Global → ℕ → Level → Bor Fixities → Bor (List Token) → Type 0) (post : Global → ℕ → Level → Bor Fixities → Bor (List Token) → Read → Type 0) : Type 0 where
  pub allowed : (alloc : Global) (room : ℕ) (level : Level) (fix : Bor Fixities) (tokens : Bor (List Token)) → room ≤ most → pre alloc room level fix tokens
  pub gives : (alloc : Global) (room : ℕ) (level : Level) (fix : Bor Fixities) (tokens : Bor (List Token)) (r : Read) → room ≤ most → post alloc room level fix tokens r
      → Gives (λ x. (x.0, x.1.now)) r (phrase (settings fix.now) room level tokens.now)
