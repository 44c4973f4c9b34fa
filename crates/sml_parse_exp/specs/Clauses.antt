-- Clauses as the code makes them: fronts without heights.
use Rattle.std.specs.Prelude.{ℕ, suc, Bool, false, Option, Some, None, max}
use Rattle.tl_text.specs.declared.place.Place.{Place}
use Rattle.readers.specs.Reader.{Reader, both, skip}
use Rattle.readers.specs.Forms.{maybe}
use Rattle.sml_lex.specs.declared.token.Token.{Token}
use Rattle.sml_fix.specs.declared.fixities.Fixities.{Fixities}
use Rattle.sml_fix.specs.Fixities.{settings}
use Rattle.sml_ast.specs.declared.ty.Ty.{Ty}
use Rattle.sml_ast.specs.declared.pat.AtPat.{AtPat}
use Rattle.sml_ast.specs.declared.exp.Exp.{Exp}
use Rattle.sml_ast.specs.declared.exp.Clause.{Clause}
use Rattle.sml_ast.specs.declared.exp.Clause.TheVariants as made
use Rattle.sml_grammar.specs.Words.{COLON}
use Rattle.sml_grammar.specs.Tokens.{is}
use Rattle.sml_grammar.specs.Types.{Tx}
use Rattle.sml_grammar.specs.Pats.{opt_height, opt_tree, at_pat_place}
use Rattle.sml_grammar.specs.ReadTypes.{ty_read}
use Rattle.sml_grammar_exp.specs.Clauses as grammar
use Rattle.sml_grammar_exp.specs.Exps.{Ex}
use Rattle.sml_grammar_exp.specs.Decs.{Cl}
use Rattle.sml_grammar_exp.specs.ReadClauses.{head_read}
use Rattle.sml_parse_bind.specs.declared.head.Head.{Head}
use Rattle.sml_parse_bind.specs.declared.head.Head.TheVariants as heads
use Rattle.sml_parse_bind.specs.Heads.{bare_tree}

abbrev pub pat_place : AtPat → Place
pat_place = at_pat_place

abbrev pub clause_in : Head → Option Ty → Exp → Clause
clause_in (heads.Prefix p o v ps) t e = made.Prefix p o v ps t e
clause_in (heads.Mid a v b) t e = made.Mid (at_pat_place a) a v b t e
clause_in (heads.MidMore p a v b ps) t e = made.MidMore p a v b ps t e

abbrev pub clause : Head → Option Ty → ℕ → Ex → Cl
clause c t n e = ((clause_in c t e.0.0, e.0.1), suc (max n e.1))

-- a front and the type of the result, with the height of the higher one
abbrev pub front : grammar.Head × Option Tx → (Head × Option Ty) × ℕ
front x = ((bare_tree x.0, opt_tree x.1), max (grammar.head_height x.0) (opt_height x.1))

abbrev pub front_read : Bool → Fixities → ℕ → Reader Token (grammar.Head × Option Tx)
front_read ops fix h = both (head_read ops h false (settings fix)) (maybe (is COLON) 1 (skip (is COLON) (ty_read h)) h)
