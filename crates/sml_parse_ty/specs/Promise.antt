-- What is promised of the type at a place of a list of tokens.
use Rattle.std.specs.Prelude.{◌≡◌, ℕ, ◌+◌, Bool, not, List, [], ◌∷◌, ◌++◌, length, drop, Option, Some, Result, Ok, Err}
use Rattle.tl_text.specs.declared.place.Place.{Place}
use Rattle.tl_text.specs.declared.code.Code.{Code}
use Rattle.tl_text.specs.declared.fault.Fault.{Fault}
use Rattle.tl_text.specs.declared.fault.Fault.TheVariants as fault
use Rattle.readers.specs.declared.code.Code.{Code as Cause}
use Rattle.readers.specs.Reader.{first, head_is}
use Rattle.readers.specs.Language.{Viable}
use Rattle.readers.specs.WholeText.{RefusedAt}
use Rattle.sml_lex.specs.declared.token.Token.{Token}
use Rattle.sml_ast.specs.declared.ty.Ty.{Ty}
use Rattle.sml_scan.specs.Faults.{named}
use Rattle.sml_grammar.specs.Words.{ARROW}
use Rattle.sml_grammar.specs.Tokens.{Firsts, just, union, tokens_of, long_tycons, stars}
use Rattle.sml_grammar.specs.Types.{ty_on, TyR}

-- the type, of a height of at most the first, derives the tokens from one place to before another
pub record Derives (room : ℕ) (tokens : List Token) (at : ℕ) (ty : Ty) (next : ℕ) : Type 0 where
  pub height : ℕ
  pub read : List Token
  pub parts : drop at tokens ≡ read ++ drop next tokens
  pub counts : at + length read ≡ next
  pub derives : ty_on room (ty, height) read

-- and none of any height goes on with the token behind it
pub record IsType (room : ℕ) (tokens : List Token) (at : ℕ) (ty : Ty) (next : ℕ) : Type 0 where
  pub it : Derives room tokens at ty next
  pub longest : (k : ℕ) (c : Token) → first (drop next tokens) ≡ Some c → Viable (ty_on k) (it.read ++ c ∷ []) → ⊥

-- the tokens with which a type goes on: type constructors, the star and the arrow
abbrev pub goes : Firsts
goes = union (union long_tycons stars) (just ARROW)

-- whether a type ends before it
abbrev pub ends : Option Token → Bool
ends o = not (head_is (tokens_of goes) o)

-- the answer is this type and this place, unless memory ran out
abbrev pub GivesType : Result (Ty × ℕ) Fault → Ty → ℕ → Type 0
GivesType (Ok x) ty next = x ≡ (ty, next)
GivesType (Err (fault.NoMemory e)) ty next = Unit {0}
GivesType (Err (fault.Refused r)) ty next = ⊥

-- the first token with which no type of the height goes on, and why
pub record Refusal (room : ℕ) (tokens : List Token) (at : ℕ) (place : Place) (code : Code) : Type 0 where
  pub cause : Cause
  pub next : Token
  pub rest : List Token
  pub refused : RefusedAt TyR room (drop at tokens) cause (next ∷ rest)
  pub stands : next.place ≡ place
  pub why : named cause ≡ code
