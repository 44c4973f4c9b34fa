-- What is promised of the tokens of a source.
use Rattle.std.specs.Prelude.{◌≡◌, ℕ, ◌⊎◌, List, ◌∷◌, Some, None, Result, Ok, Err, map}
use Rattle.tl_text.specs.declared.place.Place.{Place}
use Rattle.tl_text.specs.declared.code.Code.{Code}
use Rattle.tl_text.specs.declared.fault.Fault.{Fault}
use Rattle.tl_text.specs.declared.fault.Fault.TheVariants as fault
use Rattle.readers.specs.declared.code.Code.{Code as Cause}
use Rattle.sml_lex.specs.declared.token.Token.{Token}
use Rattle.sml_ast.specs.declared.program.Program.{Program}
use Rattle.sml_fix.specs.Fixities.{Settings, entries, settings}
use Rattle.sml_fix.specs.declared.fixities.Fixities.{Fixities}
use Rattle.sml_scan.specs.Faults.{named}
use Rattle.sml_grammar.specs.Promise as grammar
use Rattle.sml_grammar_exp.specs.Decs.{Changes, fixed}
use Rattle.sml_grammar_mod.specs.Programs.{Parses, ProgramR}
use Rattle.sml_parse_mod.specs.Late.{refusal, unsupported}

-- a directive for each identifier that was ever set, with what it is there
abbrev pub told : Fixities → Changes
told f = map (λ e. (e.0, settings f e.0)) (entries f)

-- the tokens are the program, of a height of at most 1,000, where these directives are in force before it and these fixities
-- behind it
pub record Derives (before : Changes) (tokens : List Token) (program : Program) (left : Settings) : Type 0 where
  pub height : ℕ
  pub changes : Changes
  pub parses : Parses 1000 tokens before (program, height) changes
  pub leaves : left ≡ fixed changes

-- and no phrase of it is unsupported
pub record IsProgram (before : Changes) (tokens : List Token) (program : Program) (left : Settings) : Type 0 where
  pub derives : Derives before tokens program left
  pub supported : unsupported tokens program ≡ None

-- the answer is this program and these fixities, unless memory ran out
abbrev pub GivesProgram : Result (Program × Fixities) Fault → Program → Settings → Type 0
GivesProgram (Ok x) program left = (x.0 ≡ program) × (settings x.1 ≡ left)
GivesProgram (Err (fault.NoMemory e)) program left = Unit {0}
GivesProgram (Err (fault.Refused r)) program left = ⊥

-- the tokens are no program: the first token with which none of the height goes on, and why
pub record NoProgram (before : Changes) (tokens : List Token) (place : Place) (code : Code) : Type 0 where
  pub cause : Cause
  pub next : Token
  pub rest : List Token
  pub refused : grammar.Refusal (ProgramR before) 1000 tokens cause (next ∷ rest)
  pub stands : next.place ≡ place
  pub why : named cause ≡ code

-- they are one: the first phrase that is not supported
pub record Unsupported (before : Changes) (tokens : List Token) (place : Place) (code : Code) : Type 0 where
  pub program : Program
  pub left : Settings
  pub derives : Derives before tokens program left
  pub phrase : unsupported tokens program ≡ Some (refusal place code)

abbrev pub Refusal : Changes → List Token → Place → Code → Type 0
Refusal before tokens place code = NoProgram before tokens place code ⊎ Unsupported before tokens place code
