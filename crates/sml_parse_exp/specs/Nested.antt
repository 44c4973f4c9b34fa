-- Functions that were handed in and read the expressions and the declarations that stand inside.
use Rattle.std.specs.Prelude.{◌≡◌, ℕ, ◌≤◌, false, ◌++◌, List, Result, Ok, Err, OnOk}
use Rattle.std.specs.declared.alloc.Global.{Global}
use denote.Ref.{Bor, MutBor}
use Rattle.readers.specs.declared.fault.ReadError.{ReadError}
use Rattle.readers.specs.Given.{Gives}
use Rattle.sml_lex.specs.declared.token.Token.{Token}
use Rattle.sml_ast.specs.declared.exp.Exp.{Exp}
use Rattle.sml_ast.specs.declared.exp.Dec.{Dec}
use Rattle.sml_grammar_exp.specs.Decs.{Changes, changes}
use Rattle.sml_grammar_exp.specs.ReadLevels.{dec_read}
use Rattle.sml_parse_exp.specs.declared.inside.Level.{Level}
use Rattle.sml_parse_exp.specs.declared.tall.Tall.{Tall}
use Rattle.sml_parse_exp.specs.Levels.{phrase}
use Rattle.sml_parse_exp.specs.Trees.{seen, all_changes}

abbrev pub Read : Type 0 → Type 0
Read T = Result (T × Bor (List Token)) (ReadError Token)

-- the directives in force behind a declaration: its own are new
abbrev pub Moves : Changes → Changes → Read (Dec × ℕ) → Type 0
Moves old new (Ok x) = new ≡ old ++ changes x.0.0
Moves old new (Err e) = Unit {0}

-- behind a row of them
abbrev pub MovesAll : Changes → Changes → Read (List Dec × ℕ) → Type 0
MovesAll old new (Ok x) = new ≡ old ++ all_changes x.0.0
MovesAll old new (Err e) = Unit {0}

-- they may be called at each room up to this one, and give what the readers give; the first leaves the directives in force
pub record Nests (most : ℕ)
    (exp_pre : Global → ℕ → Level → MutBor Changes → Bor (List Token) → Type 0)
    (exp_post : Global → ℕ → Level → MutBor Changes → Bor (List Token) → Read (Tall Exp) → MutBor Changes → Type 0)
    (dec_pre : Global → ℕ → MutBor Changes → Bor (List Token) → Type 0)
    (dec_post : Global → ℕ → MutBor Changes → Bor (List Token) → Read (Dec × ℕ) → MutBor Changes → Type 0) : Type 0 where
  pub exp_allowed : (alloc : Global) (room : ℕ) (level : Level) (scope : MutBor Changes) (tokens : Bor (List Token)) → room ≤ most → exp_pre alloc room level scope tokens
  pub exp_gives : (alloc : Global) (room : ℕ) (level : Level) (scope : MutBor Changes) (tokens : Bor (List Token)) (r : Read (Tall Exp)) (left : MutBor Changes) → room ≤ most → exp_post alloc room level scope tokens r left
      → Gives (λ x. (seen x.0, x.1.now)) r (phrase scope.now room level tokens.now)
  pub exp_keeps : (alloc : Global) (room : ℕ) (level : Level) (scope : MutBor Changes) (tokens : Bor (List Token)) (r : Read (Tall Exp)) (left : MutBor Changes) → room ≤ most → exp_post alloc room level scope tokens r left
      → OnOk r (left.now ≡ scope.now)
  pub dec_allowed : (alloc : Global) (room : ℕ) (scope : MutBor Changes) (tokens : Bor (List Token)) → room ≤ most → dec_pre alloc room scope tokens
  pub dec_gives : (alloc : Global) (room : ℕ) (scope : MutBor Changes) (tokens : Bor (List Token)) (r : Read (Dec × ℕ)) (left : MutBor Changes) → room ≤ most → dec_post alloc room scope tokens r left
      → Gives (λ x. (x.0, x.1.now)) r (dec_read room false scope.now tokens.now)
  pub dec_moves : (alloc : Global) (room : ℕ) (scope : MutBor Changes) (tokens : Bor (List Token)) (r : Read (Dec × ℕ)) (left : MutBor Changes) → room ≤ most → dec_post alloc room scope tokens r left
      → Moves scope.now left.now r
