-- What is promised of the pattern at a place of a list of tokens.
use Rattle.std.specs.Prelude.{◌≡◌, ℕ, ◌+◌, Bool, false, not, List, [], ◌∷◌, ◌++◌, length, drop, Option, Some, Result, Ok, Err}
use Rattle.tl_text.specs.declared.place.Place.{Place}
use Rattle.tl_text.specs.declared.code.Code.{Code}
use Rattle.tl_text.specs.declared.fault.Fault.{Fault}
use Rattle.tl_text.specs.declared.fault.Fault.TheVariants as fault
use Rattle.readers.specs.declared.code.Code.{Code as Cause}
use Rattle.readers.specs.Reader.{first, head_is}
use Rattle.readers.specs.Language.{Viable}
use Rattle.readers.specs.Room.{Room}
use Rattle.readers.specs.WholeText.{RefusedAt}
use Rattle.sml_lex.specs.declared.token.Token.{Token}
use Rattle.sml_ast.specs.declared.pat.Pat.{Pat}
use Rattle.sml_fix.specs.Fixities.{Settings}
use Rattle.sml_grammar.specs.Words.{AS, OP, OPEN_PAREN, OPEN_BRACKET, OPEN_BRACE, COLON, WILDCARD, ARROW}
use Rattle.sml_grammar.specs.Tokens.{Firsts, either, firsts, union, tokens_of, ZERO, DIGIT, NUMBER, LITERAL, ALPHA, SYMBOL, STAR, LONG_ALPHA, LONG_SYMBOL, LONG_STAR}
use Rattle.sml_grammar.specs.Pats.{pat_on, PatR}
use Rattle.sml_scan.specs.Faults.{named}

-- the pattern, of a height of at most the room, derives the tokens from one place to before another, and no operators clash
pub record Derives (fix : Settings) (room : ℕ) (tokens : List Token) (at : ℕ) (pat : Pat) (next : ℕ) : Type 0 where
  pub height : ℕ
  pub read : List Token
  pub parts : drop at tokens ≡ read ++ drop next tokens
  pub counts : at + length read ≡ next
  pub derives : pat_on room false fix (pat, height) read

-- and none of any height goes on with the token behind it, also where operators may clash
pub record IsPat (fix : Settings) (room : ℕ) (tokens : List Token) (at : ℕ) (pat : Pat) (next : ℕ) : Type 0 where
  pub it : Derives fix room tokens at pat next
  pub longest : (k : Room) (c : Token) → first (drop next tokens) ≡ Some c → Viable (PatR fix k) (it.read ++ c ∷ []) → ⊥

-- the tokens that no pattern stands before: those with which some pattern goes on, whatever it is, namely identifiers,
-- constants, what atomic patterns begin with, the colon, `as`, and, behind a type, the arrow
abbrev pub goes : Firsts
goes = union (firsts (OP ∷ WILDCARD ∷ OPEN_BRACE ∷ OPEN_BRACKET ∷ OPEN_PAREN ∷ ARROW ∷ COLON ∷ AS ∷ []) [] [])
    (either (ALPHA ∷ SYMBOL ∷ STAR ∷ LONG_ALPHA ∷ LONG_SYMBOL ∷ LONG_STAR ∷ ZERO ∷ DIGIT ∷ NUMBER ∷ LITERAL ∷ []))

-- whether a pattern may stand before it, or before the end
abbrev pub ends : Option Token → Bool
ends o = not (head_is (tokens_of goes) o)

-- the answer is this pattern and this place, unless memory ran out
abbrev pub GivesPat : Result (Pat × ℕ) Fault → Pat → ℕ → Type 0
GivesPat (Ok x) pat next = x ≡ (pat, next)
GivesPat (Err (fault.NoMemory e)) pat next = Unit {0}
GivesPat (Err (fault.Refused r)) pat next = ⊥

-- the first token with which no pattern of the height goes on, and why
pub record Refusal (fix : Settings) (room : ℕ) (tokens : List Token) (at : ℕ) (place : Place) (code : Code) : Type 0 where
  pub cause : Cause
  pub next : Token
  pub rest : List Token
  pub refused : RefusedAt (PatR fix) room (drop at tokens) cause (next ∷ rest)
  pub stands : next.place ≡ place
  pub why : named cause ≡ code
