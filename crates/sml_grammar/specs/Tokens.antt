-- Tokens by what they may be: classes, sets of first tokens, and what a token shows.
use Rattle.std.specs.Prelude.{◌≡◌, ℕ, ℤ, pos, negsuc, Bool, true, false, List, [], ◌∷◌, ◌++◌, Option, Some, None, nat_lt, is_some, if◌then◌else◌, ◌==◌, ◌||◌, codes}
use Rattle.tl_text.specs.declared.place.Place.{Place}
use Rattle.tl_text.specs.declared.lit.Lit.{Lit}
use Rattle.tl_text.specs.declared.lit.Lit.TheVariants as lit
use Rattle.readers.specs.Forms.{shown}
use Rattle.sml_lex.specs.Bytes.{is_letter, first_is}
use Rattle.sml_lex.specs.declared.token.Token.{Token}
use Rattle.sml_lex.specs.declared.token.Kind.{Kind}
use Rattle.sml_lex.specs.declared.token.Kind.TheVariants as kind
use Rattle.sml_ast.specs.declared.name.Lab.{Lab}
use Rattle.sml_ast.specs.declared.name.Lab.TheVariants as labs
use Rattle.sml_fix.specs.Fixities.{Settings}
use Rattle.sml_grammar.specs.Words.{EQUALS}

-- ---- words

abbrev pub kind_is : ℕ → Kind → Bool
kind_is k (kind.Word n) = n == k
kind_is k _ = false

-- the reserved word of this number
abbrev pub is : ℕ → Token → Bool
is k t = kind_is k t.kind

abbrev pub place : Token → Place
place t = t.place

-- the place of the word
abbrev pub the : ℕ → Token → Option Place
the k = shown (is k) place

-- ---- classes of the other tokens

abbrev pub TYVAR : ℕ
TYVAR = 0

-- decimal integers: 0, 1 to 9, 10 to 4294967295
abbrev pub ZERO : ℕ
ZERO = 1

abbrev pub DIGIT : ℕ
DIGIT = 2

abbrev pub NUMBER : ℕ
NUMBER = 3

-- any other literal
abbrev pub LITERAL : ℕ
LITERAL = 4

abbrev pub LAST : ℕ
LAST = 5

abbrev pub NO_NAME : ℕ
NO_NAME = 6

-- identifiers: alphanumeric, symbolic, and the star
abbrev pub ALPHA : ℕ
ALPHA = 7

abbrev pub SYMBOL : ℕ
SYMBOL = 8

abbrev pub STAR : ℕ
STAR = 9

-- the same behind structures
abbrev pub LONG_ALPHA : ℕ
LONG_ALPHA = 10

abbrev pub LONG_SYMBOL : ℕ
LONG_SYMBOL = 11

abbrev pub LONG_STAR : ℕ
LONG_STAR = 12

abbrev pub int_class : Bool → ℤ → ℕ
int_class true (pos n) = if n == 0 then ZERO else (if nat_lt n 10 then DIGIT else (if nat_lt n 4294967296 then NUMBER else LITERAL))
int_class true (negsuc n) = LITERAL
int_class false n = LITERAL

abbrev pub lit_class : Bool → Lit → ℕ
lit_class decimal (lit.Int n) = int_class decimal n
lit_class decimal _ = LITERAL

abbrev pub is_star : List ℕ → Bool
is_star [] = false
is_star (c ∷ []) = c == 42
is_star (c ∷ d ∷ s) = false

abbrev pub name_class : List ℕ → ℕ
name_class v = if first_is is_letter v then ALPHA else (if is_star v then STAR else SYMBOL)

abbrev pub long_class : List (List ℕ) → ℕ
long_class [] = NO_NAME
long_class (v ∷ []) = if first_is is_letter v then LONG_ALPHA else (if is_star v then LONG_STAR else LONG_SYMBOL)
long_class (v ∷ w ∷ s) = long_class (w ∷ s)

abbrev pub path_class : List (List ℕ) → ℕ
path_class [] = NO_NAME
path_class (v ∷ []) = name_class v
path_class (v ∷ w ∷ s) = long_class (w ∷ s)

-- whether it is an operator: a qualified name never is
abbrev pub is_infix : Settings → List (List ℕ) → Bool
is_infix fix (v ∷ []) = is_some (fix v)
is_infix fix _ = false

-- ---- sets of tokens

-- reserved words by number, other tokens by class, and identifiers with infix status by class
pub record Firsts : Type 0 where
  pub words : List ℕ
  pub plain : List ℕ
  pub ops : List ℕ

abbrev pub firsts : List ℕ → List ℕ → List ℕ → Firsts
firsts ws ps is = record { words = ws; plain = ps; ops = is }

-- one word
abbrev pub just : ℕ → Firsts
just k = firsts (k ∷ []) [] []

-- tokens whatever their status
abbrev pub either : List ℕ → Firsts
either cs = firsts [] cs cs

-- the tokens of both
abbrev pub union : Firsts → Firsts → Firsts
union a b = firsts (a.words ++ b.words) (a.plain ++ b.plain) (a.ops ++ b.ops)

abbrev pub listed : ℕ → List ℕ → Bool
listed n [] = false
listed n (m ∷ ms) = n == m || listed n ms

abbrev pub kind_among : Settings → Firsts → Bool → Kind → Bool
kind_among fix set decimal (kind.Word n) = listed n set.words
kind_among fix set decimal (kind.Id parts) = listed (path_class parts) (if is_infix fix parts then set.ops else set.plain)
kind_among fix set decimal (kind.Tyvar v) = listed TYVAR set.plain
kind_among fix set decimal (kind.Lit l) = listed (lit_class decimal l) set.plain
kind_among fix set decimal kind.End = listed LAST set.plain

-- whether the set has the token, under these fixities
abbrev pub among : Settings → Firsts → Token → Bool
among fix set t = kind_among fix set t.decimal t.kind

-- ---- what a token shows

abbrev pub parts_of : Kind → List (List ℕ)
parts_of (kind.Id parts) = parts
parts_of (kind.Word n) = codes "=" ∷ []
parts_of _ = []

abbrev pub first_part : List (List ℕ) → List ℕ
first_part [] = []
first_part (v ∷ s) = v

-- its place and its identifier; a word is `=`
abbrev pub ident : Token → Place × List ℕ
ident t = (t.place, first_part (parts_of t.kind))

abbrev pub long_ident : Token → Place × List (List ℕ)
long_ident t = (t.place, parts_of t.kind)

abbrev pub kind_tyvar : Kind → List ℕ
kind_tyvar (kind.Tyvar v) = v
kind_tyvar _ = []

abbrev pub tyvar_ident : Token → Place × List ℕ
tyvar_ident t = (t.place, kind_tyvar t.kind)

abbrev pub natural : ℤ → ℕ
natural (pos n) = n
natural (negsuc n) = 0

abbrev pub kind_number : Kind → ℕ
kind_number (kind.Lit (lit.Int n)) = natural n
kind_number _ = 0

-- the number of a literal
abbrev pub number : Token → ℕ
number t = kind_number t.kind

abbrev pub kind_lab : Kind → Lab
kind_lab (kind.Lit l) = labs.Num (kind_number (kind.Lit l))
kind_lab k = labs.Word (first_part (parts_of k))

abbrev pub label : Token → Place × Lab
label t = (t.place, kind_lab t.kind)

abbrev pub kind_lit : Kind → Lit
kind_lit (kind.Lit l) = l
kind_lit _ = lit.Word 0

abbrev pub literal : Token → Place × Lit
literal t = (t.place, kind_lit t.kind)

-- no identifier is an operator: where the status plays no part
abbrev pub plain_fix : Settings
plain_fix v = None

abbrev pub tokens_of : Firsts → Token → Bool
tokens_of = among plain_fix

-- ---- the vocabulary of the grammar

abbrev pub tyvars : Firsts
tyvars = firsts [] (TYVAR ∷ []) []

-- a type variable
abbrev pub tyvar : Token → Option (Place × List ℕ)
tyvar = shown (tokens_of tyvars) tyvar_ident

abbrev pub tycons : Firsts
tycons = either (ALPHA ∷ SYMBOL ∷ [])

-- a type constructor: an identifier but the star
abbrev pub tycon : Token → Option (Place × List ℕ)
tycon = shown (tokens_of tycons) ident

abbrev pub long_tycons : Firsts
long_tycons = either (ALPHA ∷ SYMBOL ∷ LONG_ALPHA ∷ LONG_SYMBOL ∷ [])

abbrev pub long_tycon : Token → Option (Place × List (List ℕ))
long_tycon = shown (tokens_of long_tycons) long_ident

abbrev pub stars : Firsts
stars = either (STAR ∷ [])

-- the star between the parts of a tuple type
abbrev pub is_times : Token → Bool
is_times = tokens_of stars

abbrev pub alphas : Firsts
alphas = either (ALPHA ∷ [])

-- the identifier of a structure, a signature or a functor: alphanumeric
abbrev pub strid : Token → Option (Place × List ℕ)
strid = shown (tokens_of alphas) ident

abbrev pub long_alphas : Firsts
long_alphas = either (ALPHA ∷ LONG_ALPHA ∷ [])

abbrev pub long_strid : Token → Option (Place × List (List ℕ))
long_strid = shown (tokens_of long_alphas) long_ident

abbrev pub labels : Firsts
labels = either (ALPHA ∷ SYMBOL ∷ STAR ∷ DIGIT ∷ NUMBER ∷ [])

-- the label of a record: an identifier, or a decimal number from 1 on
abbrev pub lab : Token → Option (Place × Lab)
lab = shown (tokens_of labels) label

abbrev pub digits : Firsts
digits = firsts [] (ZERO ∷ DIGIT ∷ []) []

-- the digit of a directive
abbrev pub digit : Token → Option ℕ
digit = shown (tokens_of digits) number

abbrev pub literals : Firsts
literals = firsts [] (ZERO ∷ DIGIT ∷ NUMBER ∷ LITERAL ∷ []) []

-- a special constant
abbrev pub scon : Token → Option (Place × Lit)
scon = shown (tokens_of literals) literal

abbrev pub names : Firsts
names = either (ALPHA ∷ SYMBOL ∷ STAR ∷ [])

-- an identifier, whatever its status
abbrev pub any_vid : Token → Option (Place × List ℕ)
any_vid = shown (tokens_of names) ident

abbrev pub op_names : Firsts
op_names = firsts (EQUALS ∷ []) (ALPHA ∷ SYMBOL ∷ STAR ∷ []) (ALPHA ∷ SYMBOL ∷ STAR ∷ [])

-- an identifier behind `op`
abbrev pub op_vid : Token → Option (Place × List ℕ)
op_vid = shown (tokens_of op_names) ident

abbrev pub op_long_names : Firsts
op_long_names = firsts (EQUALS ∷ []) (ALPHA ∷ SYMBOL ∷ STAR ∷ LONG_ALPHA ∷ LONG_SYMBOL ∷ LONG_STAR ∷ []) (ALPHA ∷ SYMBOL ∷ STAR ∷ [])

abbrev pub op_long_vid : Token → Option (Place × List (List ℕ))
op_long_vid = shown (tokens_of op_long_names) long_ident

abbrev pub plain_names : Firsts
plain_names = firsts [] (ALPHA ∷ SYMBOL ∷ STAR ∷ []) []

-- an identifier without infix status
abbrev pub vid : Settings → Token → Option (Place × List ℕ)
vid fix = shown (among fix plain_names) ident

abbrev pub plain_long_names : Firsts
plain_long_names = firsts [] (ALPHA ∷ SYMBOL ∷ STAR ∷ LONG_ALPHA ∷ LONG_SYMBOL ∷ LONG_STAR ∷ []) []

abbrev pub long_vid : Settings → Token → Option (Place × List (List ℕ))
long_vid fix = shown (among fix plain_long_names) long_ident

abbrev pub infix_names : Firsts
infix_names = firsts [] [] (ALPHA ∷ SYMBOL ∷ STAR ∷ [])

-- an identifier with infix status
abbrev pub infix_vid : Settings → Token → Option (Place × List ℕ)
infix_vid fix = shown (among fix infix_names) ident

abbrev pub operators : Firsts
operators = firsts (EQUALS ∷ []) [] (ALPHA ∷ SYMBOL ∷ STAR ∷ [])

-- the same, or `=`
abbrev pub operator : Settings → Token → Option (Place × List ℕ)
operator fix = shown (among fix operators) ident
