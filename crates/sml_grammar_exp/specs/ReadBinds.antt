-- Reading bindings of types, datatypes and exceptions.
use Rattle.std.specs.Prelude.{ℕ, zero, suc, Bool}
use Rattle.readers.specs.Reader.{Reader, both, mapped, token_by, skip, close, only, shut}
use Rattle.readers.specs.Forms.{maybe, optional, seps, else_if, ended}
use Rattle.sml_lex.specs.declared.token.Token.{Token}
use Rattle.sml_fix.specs.Fixities.{Settings}
use Rattle.sml_grammar.specs.Words.{BAR, CLOSE_PAREN, COMMA, EQUALS, OF, OP, OPEN_PAREN}
use Rattle.sml_grammar.specs.Tokens.{Firsts, just, union, is, the, among, tokens_of, tyvar, tyvars, tycon, vid, op_vid, plain_names, long_tycons, stars}
use Rattle.sml_grammar.specs.Types.{Tx}
use Rattle.sml_grammar.specs.ReadTypes.{ty_read}
use Rattle.sml_grammar.specs.ReadPats.{name_level}
use Rattle.sml_grammar.specs.Words.{ARROW}
use Rattle.sml_grammar_exp.specs.Binds.{Vars, Under, some_vars, one_var, with_vars, no_vars, Tb, tybind_of, Vid, plain_of, op_of, Co, con_of, Cs, cons_of, Db, datbind_of, Given, Xb, exbind_of}

-- what may follow the name of a constructor or of an exception, and what types go on with
abbrev pub con_goes : Firsts
con_goes = union (union long_tycons stars) (union (just ARROW) (just OF))

abbrev pub exn_goes : Firsts
exn_goes = union con_goes (just EQUALS)

abbrev pub vid_begins : Firsts
vid_begins = union (just OP) plain_names

abbrev pub begins_vid : Settings → Token → Bool
begins_vid fix = among fix vid_begins

-- several type variables, or one, and what follows
abbrev pub vars_read : {X : Type 0} → Reader Token X → Reader Token (Vars × X)
vars_read p = else_if (is OPEN_PAREN) (mapped some_vars (both (token_by (the OPEN_PAREN)) (both (close (seps (is COMMA) (token_by tyvar)) (is CLOSE_PAREN)) p))) (mapped one_var (both (token_by tyvar) p))

abbrev pub vars_begin : Firsts
vars_begin = union (just OPEN_PAREN) tyvars

abbrev pub begins_vars : Token → Bool
begins_vars = tokens_of vars_begin

-- before what begins with no parenthesis
abbrev pub under_read : {X : Type 0} → Reader Token X → Reader Token (Under X)
under_read p = else_if begins_vars (mapped with_vars (vars_read p)) (mapped no_vars p)

abbrev pub tybind_read : Reader Token Tx → Reader Token Tb
tybind_read ty = mapped tybind_of (under_read (both (token_by tycon) (skip (is EQUALS) ty)))

abbrev pub vid_read : Settings → Reader Token Vid
vid_read fix = else_if (is OP) (mapped op_of (both (token_by (the OP)) (token_by op_vid))) (mapped plain_of (token_by (vid fix)))

abbrev pub con_read : Settings → Reader Token Tx → ℕ → Reader Token Co
con_read fix ty h = mapped con_of (ended (tokens_of con_goes) (both (vid_read fix) (maybe (is OF) 1 (skip (is OF) ty) h)))

abbrev pub cons_level : Settings → Reader Token Tx → ℕ → Reader Token Cs
cons_level fix ty h = mapped cons_of (seps (is BAR) (con_read fix ty h))

abbrev pub datbind_read : Reader Token Cs → Reader Token Db
datbind_read cons = mapped datbind_of (under_read (both (token_by tycon) (skip (is EQUALS) cons)))

abbrev pub given_read : Settings → Reader Token Tx → ℕ → Reader Token Given
given_read fix ty h = else_if (is EQUALS) (mapped Given.Same (skip (is EQUALS) (name_level fix))) (only (is OF) 1 (mapped Given.Of (skip (is OF) ty)) h)

abbrev pub begins_given : Token → Bool
begins_given = tokens_of (union (just EQUALS) (just OF))

abbrev pub exbind_level : Settings → Reader Token Tx → ℕ → Reader Token Xb
exbind_level fix ty h = mapped exbind_of (ended (tokens_of exn_goes) (both (vid_read fix) (optional begins_given (given_read fix ty h))))

unfoldable pub cons_read : ℕ → Settings → Reader Token Cs
cons_read zero fix s = shut (begins_vid fix) s
cons_read (suc h) fix s = cons_level fix (ty_read h) h s

unfoldable pub exbind_read : ℕ → Settings → Reader Token Xb
exbind_read zero fix s = shut (begins_vid fix) s
exbind_read (suc h) fix s = exbind_level fix (ty_read h) h s
