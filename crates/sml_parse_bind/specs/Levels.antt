-- The readers of the grammar part by part: what the functions of the code give. Type variables are read by themselves, and then
-- what they stand before.
use Rattle.std.specs.Prelude.{ℕ, Bool, true, false, List, [], ◌∷◌, Option, Some, None, Ok, if◌then◌else◌}
use Rattle.readers.specs.Reader.{Reader, both, mapped, token_by, skip, close}
use Rattle.readers.specs.Forms.{ended, optional, seps, else_if}
use Rattle.sml_lex.specs.declared.token.Token.{Token}
use Rattle.sml_fix.specs.Fixities.{Settings}
use Rattle.sml_grammar.specs.Words.{AND, CLOSE_PAREN, COMMA, EQUALS, OF, OPEN_PAREN}
use Rattle.sml_grammar.specs.Tokens.{is, the, tokens_of, tyvar, tycon}
use Rattle.sml_grammar.specs.Types.{Ident, Tx}
use Rattle.sml_grammar.specs.Pats.{Name}
use Rattle.sml_grammar.specs.ReadTypes.{ty_read}
use Rattle.sml_grammar.specs.ReadPats.{name_level}
use Rattle.sml_grammar_exp.specs.Binds.{Vars, Tb, tybind_of, Cs, Db, datbind_of, Xb, exbind_of}
use Rattle.sml_grammar_exp.specs.Decs.{Binds, Data, Right}
use Rattle.sml_grammar_exp.specs.ReadBinds.{begins_vars, vars_read, datbind_read, cons_read, vid_read, begins_given, given_read}
use Rattle.sml_grammar_exp.specs.ReadDecs.{vars_next, dec_goes, with_read, binds_read, right_read, data_read}

-- ---- type variables by themselves

abbrev pub var_of : Ident → Vars
var_of v = (v.0, v ∷ [])

abbrev pub one_var : Reader Token Vars
one_var = mapped var_of (token_by tyvar)

abbrev pub vars : Reader Token Vars
vars = else_if (is OPEN_PAREN) (both (token_by (the OPEN_PAREN)) (close (seps (is COMMA) (token_by tyvar)) (is CLOSE_PAREN))) one_var

abbrev pub under : Reader Token (Option Vars)
under = optional begins_vars vars

abbrev pub under_two : Reader Token (Option Vars)
under_two s = if vars_next s then mapped (λ v. Some v) vars s else Ok (None, s)

abbrev pub under_by : Bool → Reader Token (Option Vars)
under_by true = under_two
under_by false = under

-- ---- bindings

abbrev pub tybind_parts : ℕ → Reader Token Tb
tybind_parts h = mapped tybind_of (both under (both (token_by tycon) (skip (is EQUALS) (ty_read h))))

abbrev pub datbind_parts : Settings → ℕ → Reader Token Db
datbind_parts fix h = mapped datbind_of (both under (both (token_by tycon) (skip (is EQUALS) (cons_read h fix))))

abbrev pub abstract_types : Settings → ℕ → Reader Token (List Db × Option (List Tb))
abstract_types fix h = both (seps (is AND) (datbind_read (cons_read h fix))) (with_read (ty_read h) h)

abbrev pub binds : Settings → ℕ → Reader Token (Binds Cs)
binds fix h = binds_read (cons_read h fix) (ty_read h) h

abbrev pub right : Settings → ℕ → Reader Token Right
right fix h = right_read fix (cons_read h fix) (ty_read h) h

-- behind `datatype`, where type variables begin
abbrev pub datatypes_under : Settings → ℕ → Reader Token (Vars × (Ident × Binds Cs))
datatypes_under fix h = vars_read (both (token_by tycon) (skip (is EQUALS) (ended (tokens_of dec_goes) (binds fix h))))

abbrev pub datas : Settings → ℕ → Reader Token Data
datas fix h = data_read fix (cons_read h fix) (ty_read h) h

-- ---- exceptions

abbrev pub same : Settings → Reader Token Name
same fix = skip (is EQUALS) (name_level fix)

abbrev pub argument : ℕ → Reader Token Tx
argument h = skip (is OF) (ty_read h)

abbrev pub open_exbind : Settings → ℕ → Reader Token Xb
open_exbind fix h = mapped exbind_of (both (vid_read fix) (optional begins_given (given_read fix (ty_read h) h)))
