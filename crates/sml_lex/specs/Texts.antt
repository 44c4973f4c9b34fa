-- The tokens of a whole source.
use Rattle.std.specs.Prelude.{◌≡◌, ℕ, Bool, true, false, List, [], ◌∷◌, ◌++◌, length, take, drop, Option, Some, None, Result, Ok, Err, nat_lt, ◌==◌, ◌&&◌, ◌||◌, not, if◌then◌else◌}
use Rattle.tl_text.specs.declared.code.Code.{Code}
use Rattle.tl_text.specs.declared.code.Code.TheVariants.{NameLength}
use Rattle.tl_text.specs.declared.place.Place.{Place}
use Rattle.tl_text.specs.declared.fault.Refusal.{Refusal}
use Rattle.tl_text.specs.declared.fault.Fault.{Fault}
use Rattle.tl_text.specs.declared.fault.Fault.TheVariants.{Refused, NoMemory}
use Rattle.sml_lex.specs.declared.token.Kind.{Kind}
use Rattle.sml_lex.specs.declared.token.Kind.TheVariants.{Word, Id, Tyvar, Lit, End}
use Rattle.sml_lex.specs.declared.token.Token.{Token}
use Rattle.sml_lex.specs.declared.step.Step.TheVariants.{Done, Skip, Take, Fail}
use Rattle.sml_lex.specs.Bytes.{is_digit, all_are}
use Rattle.sml_lex.specs.Places.{place_behind}
use Rattle.sml_lex.specs.Steps.{Steps}

abbrev pub is_none_left : List ℕ → Bool
is_none_left [] = true
is_none_left (c ∷ s) = false

-- decimal digits alone, the first of which is not 0 where there are several
abbrev pub is_plain_decimal : List ℕ → Bool
is_plain_decimal [] = false
is_plain_decimal (c ∷ s) = is_digit c && all_are is_digit s && (not (c == 48) || is_none_left s)

-- the token of this run, which stands behind these bytes
abbrev pub token_of : ℕ → List ℕ → Kind → List ℕ → Token
token_of source before kind run = record { kind = kind; place = place_behind source before; len = length run; decimal = is_plain_decimal run }

-- the last token
abbrev pub end_of : ℕ → List ℕ → Token
end_of source before = record { kind = End; place = place_behind source before; len = 0; decimal = false }

-- the tokens of the text that stands behind these bytes of the source
pub data Tokens (source : ℕ) : List ℕ → List ℕ → List Token → Type 0 where
  ends : {before s : List ℕ} → Steps s Done → Tokens source before s (end_of source before ∷ [])
  skips : {before s : List ℕ} {ts : List Token} (n : ℕ) → Steps s (Skip n) → Tokens source (before ++ take n s) (drop n s) ts → Tokens source before s ts
  takes : {before s : List ℕ} {ts : List Token} (kind : Kind) (n : ℕ) → Steps s (Take kind n)
      → Tokens source (before ++ take n s) (drop n s) ts → Tokens source before s (token_of source before kind (take n s) ∷ ts)

-- the bytes of the source before the place where no token begins in the text that stands behind these bytes, and why
pub data LexFails : List ℕ → List ℕ → List ℕ → Code → Type 0 where
  here : {before s : List ℕ} {code : Code} (n : ℕ) → Steps s (Fail n code) → LexFails before s (before ++ take n s) code
  past_skip : {before s at : List ℕ} {code : Code} (n : ℕ) → Steps s (Skip n) → LexFails (before ++ take n s) (drop n s) at code → LexFails before s at code
  past_token : {before s at : List ℕ} {code : Code} (kind : Kind) (n : ℕ) → Steps s (Take kind n) → LexFails (before ++ take n s) (drop n s) at code → LexFails before s at code

-- whether a part has more than 255 bytes
abbrev pub has_long_part : List (List ℕ) → Bool
has_long_part [] = false
has_long_part (part ∷ parts) = nat_lt 255 (length part) || has_long_part parts

-- an identifier with a part, or a type variable, of more than 255 bytes
abbrev pub is_too_long : Kind → Bool
is_too_long (Word n) = false
is_too_long (Id parts) = has_long_part parts
is_too_long (Tyvar name) = nat_lt 255 (length name)
is_too_long (Lit lit) = false
is_too_long End = false

-- the place of the first token that is too long
abbrev pub first_too_long : List Token → Option Place
first_too_long [] = None
first_too_long (t ∷ ts) = if is_too_long t.kind then Some t.place else first_too_long ts

-- the same, where the tokens before had this one
abbrev pub long_after : Option Place → Kind → Place → Option Place
long_after (Some found) kind place = Some found
long_after None kind place = if is_too_long kind then Some place else None

-- the source of this number has these tokens, with no part too long
pub record Lexes (source : ℕ) (bytes : List ℕ) (ts : List Token) : Type 0 where
  pub tokens : Tokens source [] bytes ts
  pub short : first_too_long ts ≡ None

-- the source is refused: where no token begins, or at the first identifier with a part that is too long
pub data Refuses (source : ℕ) (bytes : List ℕ) (refusal : Refusal) : Type 0 where
  fails : (at : List ℕ) (code : Code) → LexFails [] bytes at code → refusal ≡ record { place = place_behind source at; code = code } → Refuses source bytes refusal
  too_long : (ts : List Token) (place : Place) → Tokens source [] bytes ts → first_too_long ts ≡ Some place
      → refusal ≡ record { place = place; code = NameLength } → Refuses source bytes refusal

-- an answer that is not Ok refuses as it must
abbrev pub RefusesRightly : ℕ → List ℕ → Fault → Type 0
RefusesRightly source bytes (Refused refusal) = Refuses source bytes refusal
RefusesRightly source bytes (NoMemory none) = Unit {0}

-- an answer says what holds of the source
abbrev pub Answers : ℕ → List ℕ → Result (List Token) Fault → Type 0
Answers source bytes (Ok ts) = Lexes source bytes ts
Answers source bytes (Err fault) = RefusesRightly source bytes fault

-- the answer is this, or that there is no memory
abbrev pub IsOrNoMemory : Result (List Token) Fault → Result (List Token) Fault → Type 0
IsOrNoMemory (Ok ts) wanted = Ok ts ≡ wanted
IsOrNoMemory (Err (Refused refusal)) wanted = Err (Refused refusal) ≡ wanted
IsOrNoMemory (Err (NoMemory none)) wanted = Unit {0}

-- the tokens so far and the last one, or the refusal of one that is too long
abbrev pub Finishes : List Token → Place → Option Place → Result (List Token) Fault → Type 0
Finishes ts place long (Ok us) = (long ≡ None) × (us ≡ ts ++ record { kind = End; place = place; len = 0; decimal = false } ∷ [])
Finishes ts place long (Err (Refused refusal)) = (found : Place) × (long ≡ Some found) × (refusal ≡ record { place = found; code = NameLength })
Finishes ts place long (Err (NoMemory none)) = Unit {0}
