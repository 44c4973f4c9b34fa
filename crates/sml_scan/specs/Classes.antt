-- The class of a token, where words are a class of their own.
use Rattle.std.specs.Prelude.{ℕ, Bool}
use Rattle.sml_lex.specs.declared.token.Token.{Token}
use Rattle.sml_lex.specs.declared.token.Kind.{Kind}
use Rattle.sml_lex.specs.declared.token.Kind.TheVariants as kind
use Rattle.sml_grammar.specs.Tokens.{TYVAR, LAST, path_class, lit_class}

-- a class that no set of tokens lists
abbrev pub WORD : ℕ
WORD = 13

abbrev pub class_in : Bool → Kind → ℕ
class_in decimal (kind.Word n) = WORD
class_in decimal (kind.Id parts) = path_class parts
class_in decimal (kind.Tyvar v) = TYVAR
class_in decimal (kind.Lit l) = lit_class decimal l
class_in decimal kind.End = LAST

abbrev pub class_of : Token → ℕ
class_of t = class_in t.decimal t.kind
