-- Functions that were handed in and read the structure expressions and the declarations that stand inside.
use Rattle.std.specs.Prelude.{◌≡◌, ℕ, ◌≤◌, ◌++◌, false, List, Result, Ok, Err, OnOk}
use Rattle.std.specs.declared.alloc.Global.{Global}
use denote.Ref.{Bor, MutBor}
use Rattle.readers.specs.declared.fault.ReadError.{ReadError}
use Rattle.readers.specs.Given.{Gives}
use Rattle.sml_lex.specs.declared.token.Token.{Token}
use Rattle.sml_ast.specs.declared.program.StrDec.{StrDec}
use Rattle.sml_ast.specs.declared.program.StrExp.{StrExp}
use Rattle.sml_ast.specs.declared.program.Top.{Top}
use Rattle.sml_ast.specs.declared.program.Program.{Program}
use Rattle.sml_grammar_exp.specs.Decs.{Changes}
use Rattle.sml_grammar_mod.specs.Strs.{strdec_changes}
use Rattle.sml_grammar_mod.specs.Programs.{top_changes, left_by_tops, left_in}
use Rattle.sml_grammar_mod.specs.ReadStrs.{base_read, strdec_read}
use Rattle.sml_parse_mod.specs.declared.program.Before.{Before}
use Rattle.sml_parse_mod.specs.Trees.{all_changes}

abbrev pub Read : Type 0 → Type 0
Read T = Result (T × Bor (List Token)) (ReadError Token)

-- the directives in force behind a declaration: its own are new
abbrev pub Moves : Changes → Changes → Read (StrDec × ℕ) → Type 0
Moves old new (Ok x) = new ≡ old ++ strdec_changes x.0.0
Moves old new (Err e) = Unit {0}

-- behind a row of them
abbrev pub MovesAll : Changes → Changes → Read (List StrDec × ℕ) → Type 0
MovesAll old new (Ok x) = new ≡ old ++ all_changes x.0.0
MovesAll old new (Err e) = Unit {0}

-- behind a top-level declaration, alone or with semicolons
abbrev pub MovesTop : Changes → Changes → Read (Top × ℕ) → Type 0
MovesTop old new (Ok x) = new ≡ old ++ top_changes x.0.0
MovesTop old new (Err e) = Unit {0}

abbrev pub MovesItem : Changes → Changes → Read ((Top × ℕ) × Before) → Type 0
MovesItem old new (Ok x) = new ≡ old ++ top_changes x.0.0.0
MovesItem old new (Err e) = Unit {0}

-- behind a row of them
abbrev pub MovesTops : Changes → Changes → Read (List Top × ℕ) → Type 0
MovesTops old new (Ok x) = new ≡ left_by_tops old x.0.0
MovesTops old new (Err e) = Unit {0}

-- behind a program
abbrev pub MovesProgram : Changes → Changes → Read (Program × ℕ) → Type 0
MovesProgram old new (Ok x) = new ≡ left_in old x.0.0
MovesProgram old new (Err e) = Unit {0}

abbrev pub MovesWhole : Changes → Changes → Result Program (ReadError Token) → Type 0
MovesWhole old new (Ok t) = new ≡ left_in old t
MovesWhole old new (Err e) = Unit {0}

-- they may be called at each room up to this one, and give what the readers give; the first leaves the directives in force
pub record Nests (most : ℕ)
    (base_pre : Global → ℕ → MutBor Changes → Bor (List Token) → Type 0)
    (base_post : Global → ℕ → MutBor Changes → Bor (List Token) → Read (StrExp × ℕ) → MutBor Changes → Type 0)
    (dec_pre : Global → ℕ → MutBor Changes → Bor (List Token) → Type 0)
    (dec_post : Global → ℕ → MutBor Changes → Bor (List Token) → Read (StrDec × ℕ) → MutBor Changes → Type 0) : Type 0 where
  pub base_allowed : (alloc : Global) (room : ℕ) (scope : MutBor Changes) (tokens : Bor (List Token)) → room ≤ most → base_pre alloc room scope tokens
  pub base_gives : (alloc : Global) (room : ℕ) (scope : MutBor Changes) (tokens : Bor (List Token)) (r : Read (StrExp × ℕ)) (left : MutBor Changes) → room ≤ most → base_post alloc room scope tokens r left
      → Gives (λ x. (x.0, x.1.now)) r (base_read room false scope.now tokens.now)
  pub base_keeps : (alloc : Global) (room : ℕ) (scope : MutBor Changes) (tokens : Bor (List Token)) (r : Read (StrExp × ℕ)) (left : MutBor Changes) → room ≤ most → base_post alloc room scope tokens r left
      → OnOk r (left.now ≡ scope.now)
  pub dec_allowed : (alloc : Global) (room : ℕ) (scope : MutBor Changes) (tokens : Bor (List Token)) → room ≤ most → dec_pre alloc room scope tokens
  pub dec_gives : (alloc : Global) (room : ℕ) (scope : MutBor Changes) (tokens : Bor (List Token)) (r : Read (StrDec × ℕ)) (left : MutBor Changes) → room ≤ most → dec_post alloc room scope tokens r left
      → Gives (λ x. (x.0, x.1.now)) r (strdec_read room false scope.now tokens.now)
  pub dec_moves : (alloc : Global) (room : ℕ) (scope : MutBor Changes) (tokens : Bor (List Token)) (r : Read (StrDec × ℕ)) (left : MutBor Changes) → room ≤ most → dec_post alloc room scope tokens r left
      → Moves scope.now left.now r
