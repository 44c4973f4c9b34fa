-- What is promised of the bytes of a source.
use Rattle.std.specs.Prelude.{◌≡◌, ℕ, ◌⊎◌, List, [], Result, Ok, Err}
use Rattle.tl_text.specs.declared.place.Place.{Place}
use Rattle.tl_text.specs.declared.code.Code.{Code}
use Rattle.tl_text.specs.declared.fault.Fault.{Fault}
use Rattle.tl_text.specs.declared.fault.Fault.TheVariants as fault
use Rattle.sml_lex.specs.declared.token.Token.{Token}
use Rattle.sml_lex.specs.Texts.{Lexes, Refuses}
use Rattle.sml_ast.specs.declared.program.Program.{Program}
use Rattle.sml_ast.specs.declared.bare_program.BareProgram.{BareProgram}
use Rattle.sml_fix.specs.Fixities.{Settings, settings}
use Rattle.sml_fix.specs.declared.fixities.Fixities.{Fixities}
use Rattle.sml_grammar_exp.specs.Decs.{Changes, fixed}
use Rattle.sml_parse_mod.specs.Promise as grammar
use Rattle.sml_parse_mod.specs.Promise.{IsProgram}
use Rattle.sml_restrict.specs.Programs.{Breaks, breaches}
use Rattle.sml_derive.specs.Programs.{Derived}

-- the bytes are tokens, these are the program under the directives before it, and nothing in it breaks a rule of form
pub record IsSource (number : ℕ) (before : Changes) (bytes : List ℕ) (program : Program) (left : Settings) : Type 0 where
  pub tokens : List Token
  pub lexes : Lexes number bytes tokens
  pub parses : IsProgram before tokens program left
  pub lawful : breaches program ≡ []

-- what is found is such a program without its derived forms
pub record Found (number : ℕ) (before : Changes) (bytes : List ℕ) (bare : BareProgram) (left : Settings) : Type 0 where
  pub program : Program
  pub source : IsSource number before bytes program left
  pub derived : bare ≡ Derived program

-- the answer is this program without its derived forms and these fixities, unless memory ran out
abbrev pub GivesSource : Result (BareProgram × Fixities) Fault → Program → Settings → Type 0
GivesSource (Ok x) program left = (x.0 ≡ Derived program) × (settings x.1 ≡ left)
GivesSource (Err (fault.NoMemory e)) program left = Unit {0}
GivesSource (Err (fault.Refused r)) program left = ⊥

-- the bytes are no tokens
abbrev pub NoTokens : ℕ → List ℕ → Place → Code → Type 0
NoTokens number bytes place code = Refuses number bytes (record { place = place; code = code })

-- they are tokens that are no program, or one with a phrase that is not supported
pub record NoProgram (number : ℕ) (before : Changes) (bytes : List ℕ) (place : Place) (code : Code) : Type 0 where
  pub tokens : List Token
  pub lexes : Lexes number bytes tokens
  pub refused : grammar.Refusal before tokens place code

-- they are a program that breaks a rule of form, there first
pub record Unlawful (number : ℕ) (before : Changes) (bytes : List ℕ) (place : Place) (code : Code) : Type 0 where
  pub tokens : List Token
  pub program : Program
  pub left : Settings
  pub lexes : Lexes number bytes tokens
  pub parses : IsProgram before tokens program left
  pub breaks : Breaks program place code

abbrev pub Refusal : ℕ → Changes → List ℕ → Place → Code → Type 0
Refusal number before bytes place code =
    NoTokens number bytes place code ⊎ (NoProgram number before bytes place code ⊎ Unlawful number before bytes place code)

-- ---- under fixities, whatever directives left them

-- the bytes are this program under the fixities before it, which leaves these
pub record IsSourceUnder (number : ℕ) (fix : Settings) (bytes : List ℕ) (program : Program) (left : Settings) : Type 0 where
  pub before : Changes
  pub leaves : fixed before ≡ fix
  pub source : IsSource number before bytes program left

-- what is found is such a program without its derived forms
pub record FoundUnder (number : ℕ) (fix : Settings) (bytes : List ℕ) (bare : BareProgram) (left : Settings) : Type 0 where
  pub program : Program
  pub source : IsSourceUnder number fix bytes program left
  pub derived : bare ≡ Derived program

-- the bytes are refused there, with this code
abbrev pub RefusedUnder : ℕ → Settings → List ℕ → Place → Code → Type 0
RefusedUnder number fix bytes place code = (before : Changes) × (fixed before ≡ fix) × Refusal number before bytes place code

-- the answer is this refusal, unless memory ran out
abbrev pub GivesRefusal : Result (BareProgram × Fixities) Fault → Place → Code → Type 0
GivesRefusal (Ok x) place code = ⊥
GivesRefusal (Err (fault.NoMemory e)) place code = Unit {0}
GivesRefusal (Err (fault.Refused r)) place code = r ≡ record { place = place; code = code }
