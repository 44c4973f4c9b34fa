-- What stands in the parentheses of a functor, where it is no structure.
use Rattle.std.specs.Prelude.{ℕ}
use Rattle.readers.specs.Reader.{Reader, mapped}
use Rattle.sml_lex.specs.declared.token.Token.{Token}
use Rattle.sml_grammar.specs.Words.{CLOSE_PAREN}
use Rattle.sml_grammar_sig.specs.ReadSigs.{spec_read, specs_to}
use Rattle.sml_grammar_mod.specs.Strs.{Param}
use Rattle.sml_parse_mod.specs.declared.functors.Param.{Param as Parameter}
use Rattle.sml_parse_mod.specs.Trees as trees

abbrev pub opened : ℕ → Reader Token Parameter
opened h = mapped trees.param (mapped Param.Opened (specs_to CLOSE_PAREN (spec_read h) h))
