-- How the next token binds, where it is an operator of expressions.
use Rattle.std.specs.Prelude.{codes, Option, Some, None, if◌then◌else◌}
use Rattle.readers.specs.declared.floor.Fixity.{Fixity}
use Rattle.sml_lex.specs.declared.token.Token.{Token}
use Rattle.sml_fix.specs.Fixities.{Settings}
use Rattle.sml_grammar.specs.Words.{EQUALS}
use Rattle.sml_grammar.specs.Tokens.{is}
use Rattle.sml_scan.specs.Fixed.{fixity_at, kind_fixity}

abbrev pub operator_next : Settings → Option Token → Option Fixity
operator_next fix None = None
operator_next fix (Some t) = if is EQUALS t then Some (fixity_at fix (codes "=")) else kind_fixity fix t.kind
