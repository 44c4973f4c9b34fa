-- What stands at a place of a source.
use Rattle.std.specs.Prelude.{◌≡◌, ℕ, ◌+◌, ◌<◌, ◌≤◌, Bool, false, List, [], ◌∷◌, ◌++◌, length, Option, Some, None, codes, take, ◌==◌, ◌&&◌, ◌||◌, not, drop, if◌then◌else◌}
use Rattle.std.specs.List.{prefix_len}
use Rattle.std.specs.Str.{bytes_eq}
use Rattle.tl_cases.specs.Rows.{value_at}
use Rattle.tl_cases.specs.Words.{sml_rows}
use Rattle.tl_text.specs.declared.code.Code.{Code}
use Rattle.tl_text.specs.declared.code.Code.TheVariants.{BadToken, OpenComment, OpenString, LiteralRange, RealLiteral}
use Rattle.tl_text.specs.declared.lit.Lit.TheVariants.{Char, Text}
use Rattle.sml_lex.specs.declared.token.Kind.TheVariants.{Word, Id, Tyvar, Lit}
use Rattle.sml_lex.specs.declared.step.Step.{Step}
use Rattle.sml_lex.specs.declared.step.Step.TheVariants.{Done, Skip, Take, Fail}
use Rattle.sml_lex.specs.declared.step.Start.{Start}
use Rattle.sml_lex.specs.declared.step.Start.TheVariants as starts
use Rattle.sml_lex.specs.Bytes.{is_white, is_digit, is_letter, is_name_byte, is_symbol, first_is, all_are}
use Rattle.sml_lex.specs.Comments.{CommentEnds}
use Rattle.sml_lex.specs.Literals.{Body, BodyFails}
use Rattle.sml_lex.specs.Names.{parts_of, is_long}
use Rattle.sml_lex.specs.Numbers.{Reading, Token, OutOfRange, Real, number_reading}

-- the reserved word, if the run is one, and else the other
abbrev pub word_or : Option ℕ → Option Reading → Option Reading
word_or (Some number) other = Some (Token (Word number))
word_or None other = other

-- a digit stands first, or a sign and then a digit
abbrev pub begins_number : List ℕ → Bool
begins_number [] = false
begins_number (c ∷ s) = is_digit c || (c == 126 && first_is is_digit s)

-- what a run that begins with a letter is, where this follows: a long identifier or a reserved word
abbrev pub name_reading : List ℕ → List ℕ → Option Reading
name_reading run next =
    if is_long (parts_of run) next then Some (Token (Id (parts_of run))) else
    (if first_is is_name_byte next then None else word_or (value_at run sml_rows) None)

-- what a run that begins with a symbol is: a reserved word or an identifier
abbrev pub symbol_reading : List ℕ → List ℕ → Option Reading
symbol_reading run next =
    if all_are is_symbol run && not (first_is is_symbol next) then word_or (value_at run sml_rows) (Some (Token (Id (run ∷ [])))) else None

-- what a run that begins with a prime is: a type variable
abbrev pub tyvar_reading : List ℕ → List ℕ → Option Reading
tyvar_reading run next = if all_are is_name_byte run && not (first_is is_name_byte next) then Some (Token (Tyvar run)) else None

-- what a run of bytes is where these follow, if it is a token, a literal out of range or a real literal. An identifier,
-- a word or a type variable is a whole run: what follows does not go on with it
abbrev pub reading : List ℕ → List ℕ → Option Reading
reading [] next = None
reading (c ∷ s) next =
    if is_letter c then name_reading (c ∷ s) next else
    (if c == 39 then tyvar_reading (c ∷ s) next else
    (if begins_number (c ∷ s) then number_reading (c ∷ s) else
    (if is_symbol c then symbol_reading (c ∷ s) next else
    word_or (value_at (c ∷ s) sml_rows) None)))

-- the text begins with this run, which is what is said
pub record Begins (s run next : List ℕ) (x : Reading) : Type 0 where
  pub whole : s ≡ run ++ next
  pub reads : reading run next ≡ Some x

-- no longer run does
pub record Longest (s run next : List ℕ) (x : Reading) : Type 0 where
  pub begins : Begins s run next x
  pub most : (other rest : List ℕ) (y : Reading) → Begins s other rest y → length other ≤ length run

-- the step that a longest run makes
abbrev pub step_of : Reading → ℕ → Step
step_of (Token kind) n = Take kind n
step_of OutOfRange n = Fail 0 LiteralRange
step_of Real n = Fail 0 RealLiteral

-- the longest run that is a token, or a failure where there is none
pub data RunStep (s : List ℕ) (step : Step) : Type 0 where
  longest : (run next : List ℕ) (x : Reading) → Longest s run next x → step ≡ step_of x (length run) → RunStep s step
  nothing : ((run next : List ℕ) (x : Reading) → Begins s run next x → ⊥) → step ≡ Fail 0 BadToken → RunStep s step

-- a whole comment, or a failure at its opening mark; the bytes stand behind the mark
pub data CommentStep (s : List ℕ) (step : Step) : Type 0 where
  closed : (n : ℕ) → CommentEnds s n → step ≡ Skip (n + 2) → CommentStep s step
  unclosed : ((n : ℕ) → CommentEnds s n → ⊥) → step ≡ Fail 0 OpenComment → CommentStep s step

-- a failure behind an opening quote, which stands after so many bytes: at the quote where the literal is open
abbrev pub fail_behind : ℕ → ℕ → Code → Step
fail_behind quote n OpenString = Fail quote OpenString
fail_behind quote n code = Fail (quote + 1 + n) code

-- a character literal of these characters, or a failure at its first byte where they are not one
abbrev pub char_step : List ℕ → ℕ → Step
char_step (v ∷ []) n = Take (Lit (Char v)) (n + 2)
char_step vs n = Fail 0 BadToken

-- a string literal, or its failure; the bytes stand behind the opening quote
pub data TextStep (s : List ℕ) (step : Step) : Type 0 where
  text_reads : (vs : List ℕ) (n : ℕ) → Body s vs n → step ≡ Take (Lit (Text vs)) (n + 1) → TextStep s step
  text_fails : (n : ℕ) (code : Code) → BodyFails s n code → step ≡ fail_behind 0 n code → TextStep s step

-- a character literal, or its failure; the bytes stand behind the opening quote
pub data CharStep (s : List ℕ) (step : Step) : Type 0 where
  char_reads : (vs : List ℕ) (n : ℕ) → Body s vs n → step ≡ char_step vs n → CharStep s step
  char_fails : (n : ℕ) (code : Code) → BodyFails s n code → step ≡ fail_behind 1 n code → CharStep s step

-- with what the text begins
abbrev pub start_of : List ℕ → Start
start_of [] = starts.End
start_of (c ∷ s) =
    if is_white c then starts.White else
    (if c == 40 && first_is (λ d. d == 42) s then starts.Comment else
    (if c == 34 then starts.Text else
    (if c == 35 && first_is (λ d. d == 34) s then starts.Char else starts.Run)))

abbrev pub steps_by : Start → List ℕ → Step → Type 0
steps_by starts.End s step = step ≡ Done
steps_by starts.White s step = step ≡ Skip (prefix_len is_white s)
steps_by starts.Comment s step = CommentStep (drop 2 s) step
steps_by starts.Text s step = TextStep (drop 1 s) step
steps_by starts.Char s step = CharStep (drop 2 s) step
steps_by starts.Run s step = RunStep s step

-- what stands at the front of the text: its end, white space, a whole comment, the longest run that is a token, or a failure
abbrev pub Steps : List ℕ → Step → Type 0
Steps s step = steps_by (start_of s) s step

-- a step takes a byte at least, and at most so many
abbrev pub StepWithin : Step → ℕ → Type 0
StepWithin Done most = Unit {0}
StepWithin (Skip n) most = (0 < n) × (n ≤ most)
StepWithin (Take kind n) most = (0 < n) × (n ≤ most)
StepWithin (Fail n code) most = n ≤ most

-- ---- as the code parts its cases

-- the first byte begins no name, number, type variable or symbol
abbrev pub is_mark_first : List ℕ → Bool
is_mark_first [] = false
is_mark_first (c ∷ s) = not (is_letter c) && not (c == 39) && not (begins_number (c ∷ s)) && not (is_symbol c)

-- how many bytes a mark at the front has: three for the three dots, else one
abbrev pub mark_length : List ℕ → ℕ
mark_length s = if bytes_eq (take 3 s) (codes "...") then 3 else 1
