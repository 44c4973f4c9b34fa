-- Reading declarations, with one token of view; behind `val` and `fun` with two.
use Rattle.std.specs.Prelude.{ℕ, Bool, true, false, ◌&&◌, ◌||◌, List, [], ◌∷◌, Option, None, if◌then◌else◌}
use Rattle.readers.specs.Reader.{first, head_is, Reader, both, bound, mapped, one, token_by, skip, close, only, else_by, row, steps}
use Rattle.readers.specs.Forms.{maybe, optional, seps, ready_read, else_if, ended}
use Rattle.sml_lex.specs.declared.token.Token.{Token}
use Rattle.sml_fix.specs.Fixities.{Settings}
use Rattle.sml_grammar.specs.Words.{ABSTYPE, AND, ANDALSO, BAR, COLON, DATATYPE, END, EQUALS, EXCEPTION, FUN, HANDLE, IN, INFIX, INFIXR, LOCAL, NONFIX, OPEN, OPEN_PAREN, ORELSE, REC, SEMICOLON, TYPE, VAL, WITH, WITHTYPE}
use Rattle.sml_grammar.specs.Tokens.{Firsts, just, union, is, the, tokens_of, any_vid, names, digit, digits, long_strid, long_alphas, long_tycon, tycon, tycons, tyvars, operators}
use Rattle.sml_grammar.specs.Types.{Tx}
use Rattle.sml_grammar.specs.Pats.{Pt}
use Rattle.sml_grammar_exp.specs.Exps.{Ex, De}
use Rattle.sml_grammar_exp.specs.ReadExps.{at_firsts}
use Rattle.sml_grammar_exp.specs.Binds.{Under, with_vars, no_vars, Tb, Cs, Xb}
use Rattle.sml_grammar_exp.specs.ReadBinds.{vars_read, under_read, begins_vars, begins_vid, con_goes, tybind_read, datbind_read}
use Rattle.sml_grammar_exp.specs.Clauses.{Head}
use Rattle.sml_grammar_exp.specs.ReadClauses.{begins_head, many_read}
use Rattle.sml_grammar_exp.specs.Decs.{Changes, after, Vb, Vbs, vbs_of, vals_of, Cl, clause_bar, clause_of, funs_of, types_of, Binds, Data, data_of, Right, right_of, vars_data, abs_of, exns_of, local_of, opens_of, fix_of, nonfix_of, dec_alone, decs_alone}

-- ---- what they may go on with

-- with a row of an expression before it: atoms and operators
abbrev pub row_goes : Firsts
row_goes = union at_firsts operators

abbrev pub goes_words : Firsts
goes_words = union (just COLON) (union (just ANDALSO) (union (just ORELSE) (union (just HANDLE) (union (just BAR) (union (just AND) (just WITHTYPE))))))

-- with which some declaration goes on
abbrev pub dec_goes : Firsts
dec_goes = union row_goes (union con_goes goes_words)

-- what declarations begin with
abbrev pub dec_firsts : Firsts
dec_firsts = union (just OPEN) (union (just INFIX) (union (just INFIXR) (union (just NONFIX) (union (just LOCAL) (union (just DATATYPE) (union (just TYPE) (union (just EXCEPTION) (union (just ABSTYPE) (union (just VAL) (just FUN))))))))))

abbrev pub begins_dec : Token → Bool
begins_dec = tokens_of dec_firsts

abbrev pub item_goes : Firsts
item_goes = union dec_goes (just SEMICOLON)

abbrev pub decs_goes : Firsts
decs_goes = union item_goes dec_firsts

-- ---- two tokens of view

abbrev pub behind_first : List Token → Option Token
behind_first [] = None
behind_first (c ∷ s) = first s

-- a type variable, or one behind a parenthesis
abbrev pub vars_next : List Token → Bool
vars_next s = head_is (tokens_of tyvars) (first s) || (head_is (is OPEN_PAREN) (first s) && head_is (tokens_of tyvars) (behind_first s))

-- before what may begin with a parenthesis
abbrev pub under_two : {X : Type 0} → Reader Token X → Reader Token (Under X)
under_two p s = if vars_next s then mapped with_vars (vars_read p) s else mapped no_vars p s

-- before clauses: where there are no operators none begins with a parenthesis
abbrev pub under_by : {X : Type 0} → Bool → Reader Token X → Reader Token (Under X)
under_by true p = under_two p
under_by false p = under_read p

-- ---- one level, where what stands inside may have the height

abbrev pub vb_read : Reader Token Pt → Reader Token Ex → Reader Token Vb
vb_read pat exp = both pat (skip (is EQUALS) exp)

abbrev pub vbs_read : Reader Token Pt → Reader Token Ex → Reader Token Vbs
vbs_read pat exp = else_if (is REC) (mapped (vbs_of true) (skip (is REC) (seps (is AND) (vb_read pat exp)))) (mapped (vbs_of false) (seps (is AND) (vb_read pat exp)))

abbrev pub clause_level : Bool → Settings → Reader Token Head → Reader Token Tx → Reader Token Ex → ℕ → Reader Token Cl
clause_level ops fix head ty exp h = only (begins_head ops fix) 2 (mapped clause_of (both (both head (maybe (is COLON) 1 (skip (is COLON) ty) h)) (skip (is EQUALS) exp))) h

abbrev pub clauses_read : Reader Token Cl → Reader Token (List (List Cl))
clauses_read clause = seps (is AND) (ready_read (is BAR) clause_bar clause)

abbrev pub with_read : Reader Token Tx → ℕ → Reader Token (Option (List Tb))
with_read ty h = maybe (is WITHTYPE) 1 (skip (is WITHTYPE) (seps (is AND) (tybind_read ty))) h

abbrev pub binds_read : Reader Token Cs → Reader Token Tx → ℕ → Reader Token (Binds Cs)
binds_read cons ty h = both (both cons (row (is AND) (skip (is AND) (datbind_read cons)))) (with_read ty h)

abbrev pub right_read : Settings → Reader Token Cs → Reader Token Tx → ℕ → Reader Token Right
right_read fix cons ty h =
    else_by (is DATATYPE) 0 (mapped Right.Copies (ended (tokens_of dec_goes) (skip (is DATATYPE) (token_by long_tycon))))
    (only (begins_vid fix) 1 (mapped Right.Cons (ended (tokens_of dec_goes) (binds_read cons ty h))) h) h

abbrev pub data_read : Settings → Reader Token Cs → Reader Token Tx → ℕ → Reader Token Data
data_read fix cons ty h =
    else_by (tokens_of tycons) 0 (mapped right_of (both (token_by tycon) (skip (is EQUALS) (right_read fix cons ty h))))
    (only begins_vars 1 (mapped vars_data (vars_read (both (token_by tycon) (skip (is EQUALS) (ended (tokens_of dec_goes) (binds_read cons ty h)))))) h) h

abbrev pub fix_read : ℕ → Bool → Reader Token De
fix_read word to_right = mapped (fix_of to_right) (ended (tokens_of dec_goes) (both (token_by (the word)) (both (optional (tokens_of digits) (token_by digit)) (many_read (tokens_of names) (token_by any_vid)))))

abbrev pub abs_read : Reader Token Cs → Reader Token Tx → Reader Token (List De) → ℕ → Reader Token De
abs_read cons ty decs h =
    mapped abs_of (ended (tokens_of dec_goes) (both (token_by (the ABSTYPE)) (both (both (seps (is AND) (datbind_read cons)) (with_read ty h)) (skip (is WITH) (close decs (is END))))))

abbrev pub local_read : Reader Token (List De) → (List De → Reader Token (List De)) → Reader Token De
local_read decs after = mapped local_of (ended (tokens_of dec_goes) (both (token_by (the LOCAL)) (bound decs (λ ds. skip (is IN) (close (after ds) (is END))))))

-- what no declaration may be followed by is refused at once
abbrev pub dec_level : Bool → Settings → Reader Token (List De) → (List De → Reader Token (List De)) → Reader Token Tx → Reader Token Cs → Reader Token Xb → Reader Token Pt → Reader Token Ex → Reader Token Cl → ℕ → Reader Token De
dec_level ops fix decs behind ty cons exbind pat exp clause h =
    else_by (is OPEN) 0 (mapped opens_of (ended (tokens_of dec_goes) (both (token_by (the OPEN)) (many_read (tokens_of long_alphas) (token_by long_strid)))))
    (else_by (is INFIX) 0 (fix_read INFIX false)
    (else_by (is INFIXR) 0 (fix_read INFIXR true)
    (else_by (is NONFIX) 0 (mapped nonfix_of (ended (tokens_of dec_goes) (both (token_by (the NONFIX)) (many_read (tokens_of names) (token_by any_vid)))))
    (else_by (is LOCAL) 0 (local_read decs behind)
    (else_by (is DATATYPE) 0 (mapped data_of (both (token_by (the DATATYPE)) (data_read fix cons ty h)))
    (else_by (is TYPE) 1 (mapped types_of (ended (tokens_of dec_goes) (both (token_by (the TYPE)) (seps (is AND) (tybind_read ty)))))
    (else_by (is EXCEPTION) 1 (mapped exns_of (ended (tokens_of dec_goes) (both (token_by (the EXCEPTION)) (seps (is AND) exbind))))
    (else_by (is ABSTYPE) 1 (abs_read cons ty decs h)
    (else_by (is VAL) 2 (mapped vals_of (ended (tokens_of dec_goes) (both (token_by (the VAL)) (under_two (vbs_read pat exp)))))
    (only (is FUN) 3 (mapped funs_of (ended (tokens_of dec_goes) (both (token_by (the FUN)) (under_by ops (clauses_read clause))))) h) h) h) h) h) h) h) h) h) h) h

abbrev pub semis_read : Reader Token (List (Unit {0}))
semis_read = row (is SEMICOLON) (one (is SEMICOLON))

abbrev pub item_read : Reader Token De → Reader Token De
item_read dec = mapped dec_alone (ended (tokens_of item_goes) (both dec semis_read))

abbrev pub decs_level : (Changes → Reader Token De) → Changes → Reader Token (List De)
decs_level dec cs = mapped decs_alone (ended (tokens_of decs_goes) (both semis_read (steps begins_dec after (λ c. item_read (dec c)) cs)))
