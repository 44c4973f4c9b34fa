-- Reading descriptions of types, datatypes and exceptions.
use Rattle.std.specs.Prelude.{ℕ, zero, suc, max, Bool, List, None, Some}
use Rattle.readers.specs.Reader.{Reader, both, mapped, token_by, skip, only, else_by, row, shut}
use Rattle.readers.specs.Forms.{maybe, seps, ended, highest, height_of}
use Rattle.sml_lex.specs.declared.token.Token.{Token}
use Rattle.sml_grammar.specs.Words.{AND, BAR, DATATYPE, EQUALS, OF}
use Rattle.sml_grammar.specs.Tokens.{Firsts, union, is, tokens_of, any_vid, long_tycon, long_tycons, names, tycon, tycons}
use Rattle.sml_grammar.specs.Types.{Ident, LongIdent, Tx}
use Rattle.sml_grammar.specs.ReadTypes.{ty_read}
pub use Rattle.sml_grammar_exp.specs.ReadBinds.{con_goes, vars_begin, begins_vars, vars_read, under_read, tybind_read}
pub use Rattle.sml_grammar_exp.specs.ReadClauses.{many_read}
use Rattle.sml_grammar_sig.specs.Descs.{Vars, Named, named_of, Re, real_bind_of, Co, con_of, Cs, cons_of, Dd, desc_of}

abbrev pub begins_con : Token → Bool
begins_con = tokens_of names

abbrev pub named_read : Reader Token Named
named_read = mapped named_of (under_read (token_by tycon))

abbrev pub real_begins : Firsts
real_begins = union vars_begin long_tycons

abbrev pub begins_real : Token → Bool
begins_real = tokens_of real_begins

abbrev pub real_bind_level : Reader Token Tx → ℕ → Reader Token Re
real_bind_level ty h = only begins_real 1 (mapped real_bind_of (under_read (both (token_by long_tycon) (skip (is EQUALS) ty)))) h

abbrev pub con_read : Reader Token Tx → ℕ → Reader Token Co
con_read ty h = mapped con_of (ended (tokens_of con_goes) (both (token_by any_vid) (maybe (is OF) 1 (skip (is OF) ty) h)))

abbrev pub cons_level : Reader Token Tx → ℕ → Reader Token Cs
cons_level ty h = mapped cons_of (seps (is BAR) (con_read ty h))

abbrev pub desc_read : Reader Token Cs → Reader Token Dd
desc_read cons = mapped desc_of (under_read (both (token_by tycon) (skip (is EQUALS) cons)))

-- ---- common fronts

-- descriptions behind the first, which may be known in part
abbrev pub Descs : Type 0 → Type 0
Descs X = X × List Dd

abbrev pub descs_height : {X : Type 0} → Descs (X × ℕ) → ℕ
descs_height x = max x.0.1 (highest height_of x.1)

-- what follows `datatype`: a name and the type that it copies, or descriptions
pub data Data : Type 0 where
  Copied : Ident × LongIdent → Data
  Described : Descs Dd → Data

abbrev pub data_height : Data → ℕ
data_height (Data.Copied x) = 0
data_height (Data.Described x) = descs_height x

-- what follows `datatype tycon =`
pub data Right : Type 0 where
  Copies : LongIdent → Right
  Cons : Descs Cs → Right

abbrev pub right_height : Right → ℕ
right_height (Right.Copies c) = 0
right_height (Right.Cons x) = descs_height x

abbrev pub right_in : Ident → Right → Data
right_in t (Right.Copies c) = Data.Copied (t, c)
right_in t (Right.Cons x) = Data.Described (desc_of (None, (t, x.0)), x.1)

abbrev pub right_of : Ident × Right → Data
right_of x = right_in x.0 x.1

-- behind type variables there are descriptions
abbrev pub vars_data : Vars × (Ident × Descs Cs) → Data
vars_data x = Data.Described (desc_of (Some x.0, (x.1.0, x.1.1.0)), x.1.1.1)

abbrev pub descs_read : Reader Token Cs → Reader Token (Descs Cs)
descs_read cons = both cons (row (is AND) (skip (is AND) (desc_read cons)))

-- what follows may go on with the tokens of a set
abbrev pub right_read : Firsts → Reader Token Cs → ℕ → Reader Token Right
right_read goes cons h =
    else_by (is DATATYPE) 0 (mapped Right.Copies (ended (tokens_of goes) (skip (is DATATYPE) (token_by long_tycon))))
    (only begins_con 1 (mapped Right.Cons (ended (tokens_of goes) (descs_read cons))) h) h

abbrev pub data_read : Firsts → Reader Token Cs → ℕ → Reader Token Data
data_read goes cons h =
    else_by (tokens_of tycons) 0 (mapped right_of (both (token_by tycon) (skip (is EQUALS) (right_read goes cons h))))
    (only begins_vars 1 (mapped vars_data (vars_read (both (token_by tycon) (skip (is EQUALS) (ended (tokens_of goes) (descs_read cons)))))) h) h

unfoldable pub cons_read : ℕ → Reader Token Cs
cons_read zero s = shut begins_con s
cons_read (suc h) s = cons_level (ty_read h) h s

unfoldable pub real_bind_read : ℕ → Reader Token Re
real_bind_read zero s = shut begins_real s
real_bind_read (suc h) s = real_bind_level (ty_read h) h s
