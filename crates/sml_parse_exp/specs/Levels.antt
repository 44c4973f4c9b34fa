-- The readers of the grammar part by part, by the directives in force and the height that stands inside: what the methods of
-- the code give.
use Rattle.std.specs.Prelude.{ℕ, Bool, true, false, List, Option, max, map}
use Rattle.readers.specs.declared.floor.Floor.{Floor}
use Rattle.readers.specs.Reader.{first, head_is, Reader, both, bound, mapped, token_by, skip, close, only, else_by, steps}
use Rattle.readers.specs.Room.{at_height}
use Rattle.readers.specs.Infix.{ground, takes, suffix_read}
use Rattle.readers.specs.Forms.{ended, maybe, optional, seps, enclosed, else_if, ready_read, at_least}
use Rattle.sml_lex.specs.declared.token.Token.{Token}
use Rattle.sml_fix.specs.Fixities.{Settings}
use Rattle.sml_ast.specs.declared.pat.Pat.{Pat}
use Rattle.sml_ast.specs.declared.exp.Exp.{Exp}
use Rattle.sml_grammar.specs.Words.{ABSTYPE, AND, ANDALSO, BAR, CASE, COLON, COMMA, DATATYPE, DO, ELSE, END, EQUALS, EXCEPTION, FN, FUN, HANDLE, IF, IN, INFIX, INFIXR, LET, LOCAL, NONFIX, OF, OPEN, OPEN_BRACE, OPEN_BRACKET, OPEN_PAREN, CLOSE_BRACKET, ORELSE, SEMICOLON, THEN, TYPE, VAL, WHILE, WITH}
use Rattle.sml_grammar.specs.Tokens.{is, the, tokens_of, operator, digits, digit, names, any_vid}
use Rattle.sml_grammar.specs.Types.{Ident, Tx}
use Rattle.sml_grammar.specs.ReadTypes.{ty_read}
use Rattle.sml_grammar.specs.ReadPats.{pat_read, begins_name, name_level}
use Rattle.sml_grammar.specs.Pats.{tight, right}
use Rattle.sml_grammar_exp.specs.Exps.{At, Ex, Ru, De, ExField, Behind, items_of, paren_of, id_of, let_of, apply_of, infix_of, top, if_of, while_of, case_of, fn_of}
use Rattle.sml_grammar_exp.specs.Binds.{Under, Tb, Db}
use Rattle.sml_grammar_exp.specs.Decs.{Changes, fixed, after, afters, Vb, Vbs, vb_height, Cl, clause_bar, types_of, data_of, exns_of, vals_of, funs_of, local_of, nonfix_of}
use Rattle.sml_grammar_exp.specs.ReadExps as read
use Rattle.sml_grammar_exp.specs.ReadBinds.{cons_read, exbind_read, tybind_read, datbind_read}
use Rattle.sml_grammar_exp.specs.ReadClauses.{many_read, head_read}
use Rattle.sml_grammar_exp.specs.ReadDecs as decs_read
use Rattle.sml_grammar_exp.specs.ReadLevels.{at_exp_read, row_read, exp_read, behind_and_read, behind_or_read, rule_read, clause_read, dec_read, some_operator}
use Rattle.sml_parse_bind.specs.Levels as binds
use Rattle.sml_parse_exp.specs.Trees.{binds_of}
use Rattle.sml_parse_exp.specs.declared.inside.Level.{Level}
use Rattle.sml_parse_exp.specs.declared.inside.Level.TheVariants as level

abbrev pub exp : Changes → ℕ → Reader Token Ex
exp cs h = exp_read h false cs

abbrev pub value : Changes → ℕ → Reader Token Ex
value cs h = skip (is EQUALS) (exp cs h)

-- ---- declarations in rows

abbrev pub row_of_decs : Changes → ℕ → Reader Token (List De)
row_of_decs cs h = steps decs_read.begins_dec after (λ c. decs_read.item_read (dec_read h false c)) cs

abbrev pub decs : Changes → ℕ → Reader Token (List De)
decs cs h = decs_read.decs_level (dec_read h false) cs

-- the same, the first directives being those that some declarations leave
abbrev pub decs_behind : Changes → ℕ → List De → Reader Token (List De)
decs_behind cs h ds = decs (afters cs ds) h

abbrev pub no_tree : List (Unit {0}) → Unit {0}
no_tree us = tt

-- ---- atoms

abbrev pub parts : Changes → ℕ → Reader Token (Ex × Behind)
parts cs h = both (exp cs h) (read.behind_read (exp cs h))

abbrev pub body : Changes → ℕ → Reader Token (List Ex)
body cs h = skip (is IN) (close (seps (is SEMICOLON) (exp cs h)) (is END))

abbrev pub let_body : Changes → ℕ → Reader Token (List De × List Ex)
let_body cs h = read.let_read (decs cs h) (λ ds. exp (afters cs ds) h)

abbrev pub scoped : Changes → ℕ → Reader Token At
scoped cs h = only (is LET) 2 (mapped let_of (both (token_by (the LET)) (let_body cs h))) h

abbrev pub enclosed_at : Changes → ℕ → Reader Token At
enclosed_at cs h =
    else_by (is OPEN_BRACKET) 0 (mapped items_of (both (token_by (the OPEN_BRACKET)) (enclosed (read.begins_exp (fixed cs)) 2 (is COMMA) (exp cs h) (is CLOSE_BRACKET) h)))
    (else_by (is OPEN_PAREN) 0 (mapped paren_of (both (token_by (the OPEN_PAREN)) (read.inside_read (fixed cs) (exp cs h) h)))
    (else_by (begins_name (fixed cs)) 0 (mapped id_of (name_level (fixed cs))) (scoped cs h) h) h) h

abbrev pub at_level : Changes → ℕ → Reader Token At
at_level cs h = read.at_level (fixed cs) (decs cs h) (exp cs h) (λ ds. exp (afters cs ds) h) h

-- ---- rows, and what grows to the right of them

abbrev pub operand : Changes → ℕ → Reader Token Ex
operand cs h = mapped apply_of (read.apply_read (fixed cs) (at_exp_read h false cs))

abbrev pub taken : Settings → Floor → Token → Bool
taken fix n = takes (tight fix) (right fix) (operator fix) top (at_least 2) apply_of infix_of n

-- an operator behind this expression, and the row on its right
abbrev pub operation : Changes → ℕ → Floor → Ex → Reader Token (Ident × Ex)
operation cs h n = suffix_read (tight (fixed cs)) (right (fixed cs)) (operator (fixed cs)) top (at_least 2) apply_of infix_of (λ m. row_read h false m cs) (at_height h false) n

abbrev pub row : Changes → ℕ → Floor → Reader Token Ex
row cs h n = read.row_level (fixed cs) false (at_exp_read h false cs) (λ m. row_read h false m cs) h n

abbrev pub annotation : ℕ → Reader Token Tx
annotation h = skip (is COLON) (ty_read h)

abbrev pub typed : Changes → ℕ → Reader Token Ex
typed cs h = read.typed_level (row cs h ground) (ty_read h) h

abbrev pub and_suffix : Changes → ℕ → Reader Token Ex
and_suffix cs h = skip (is ANDALSO) (behind_and_read h false cs)

abbrev pub and_also : Changes → ℕ → Reader Token Ex
and_also cs h = read.and_level (typed cs h) (behind_and_read h false cs) h

abbrev pub or_suffix : Changes → ℕ → Reader Token Ex
or_suffix cs h = skip (is ORELSE) (behind_or_read h false cs)

abbrev pub or_else : Changes → ℕ → Reader Token Ex
or_else cs h = read.or_level (and_also cs h) (behind_or_read h false cs) h

-- ---- matches

abbrev pub rule_level : Changes → ℕ → Reader Token Ru
rule_level cs h = read.rule_level (fixed cs) (pat_read h false (fixed cs)) (exp cs h) h

abbrev pub rules : Changes → ℕ → Reader Token (List Ru)
rules cs h = read.match_read (rule_read h false cs)

abbrev pub handle_suffix : Changes → ℕ → Reader Token (List Ru)
handle_suffix cs h = skip (is HANDLE) (rules cs h)

abbrev pub handled : Changes → ℕ → Reader Token Ex
handled cs h = read.handle_level (or_else cs h) (rule_read h false cs) h

-- ---- forms that reach far

abbrev pub branches : Changes → ℕ → Reader Token (Ex × Ex)
branches cs h = both (skip (is THEN) (exp cs h)) (skip (is ELSE) (exp cs h))

abbrev pub conditional : Changes → ℕ → Reader Token (Ex × (Ex × Ex))
conditional cs h = both (exp cs h) (branches cs h)

abbrev pub repetition : Changes → ℕ → Reader Token (Ex × Ex)
repetition cs h = both (exp cs h) (skip (is DO) (exp cs h))

abbrev pub case_parts : Changes → ℕ → Reader Token (Ex × List Ru)
case_parts cs h = both (exp cs h) (skip (is OF) (rules cs h))

abbrev pub far_match : Changes → ℕ → Reader Token Ex
far_match cs h = else_by (is CASE) 3 (mapped case_of (both (token_by (the CASE)) (case_parts cs h))) (only (is FN) 3 (mapped fn_of (both (token_by (the FN)) (rules cs h))) h) h

abbrev pub far_choice : Changes → ℕ → Reader Token Ex
far_choice cs h =
    else_by (is IF) 2 (mapped if_of (both (token_by (the IF)) (conditional cs h)))
    (else_by (is WHILE) 2 (mapped while_of (both (token_by (the WHILE)) (repetition cs h))) (far_match cs h) h) h

abbrev pub far : Changes → ℕ → Reader Token Ex
far cs h = read.far_level (exp cs h) (rule_read h false cs) h

-- ---- whole phrases

abbrev pub whole : Changes → ℕ → Reader Token Ex
whole cs h = read.or_far (fixed cs) (handled cs h) (far cs h) h

abbrev pub and_operand : Changes → ℕ → Reader Token Ex
and_operand cs h = read.or_far (fixed cs) (typed cs h) (far cs h) h

abbrev pub or_operand : Changes → ℕ → Reader Token Ex
or_operand cs h = read.or_far (fixed cs) (and_also cs h) (far cs h) h

-- what a function of the code reads
abbrev pub phrase : Changes → ℕ → Level → Reader Token Ex
phrase cs h level.Whole = exp_read h false cs
phrase cs h level.BehindAnd = behind_and_read h false cs
phrase cs h level.BehindOr = behind_or_read h false cs
phrase cs h (level.Row n) = row_read h false n cs

-- whether it may begin with the next token
abbrev pub begins : Changes → Level → List Token → Bool
begins cs (level.Row n) s = head_is (read.begins_at (fixed cs)) (first s)
begins cs _ s = head_is (read.begins_exp (fixed cs)) (first s)

-- ---- bindings of values, and functions

abbrev pub bind_of : Vb → (Pat × Exp) × ℕ
bind_of b = ((b.0.0, b.1.0.0), vb_height b)

abbrev pub binding : Changes → ℕ → Reader Token Vb
binding cs h = decs_read.vb_read (pat_read h false (fixed cs)) (exp cs h)

abbrev pub values_of : Vbs → (Bool × List (Pat × Exp)) × ℕ
values_of x = ((x.0, (binds_of x.1).0), (binds_of x.1).1)

abbrev pub values : Changes → ℕ → Reader Token Vbs
values cs h = decs_read.vbs_read (pat_read h false (fixed cs)) (exp cs h)

abbrev pub vals : Changes → ℕ → Reader Token (Under Vbs)
vals cs h = ended (tokens_of decs_read.dec_goes) (decs_read.under_two (values cs h))

abbrev pub result_ty : ℕ → Reader Token (Option Tx)
result_ty h = maybe (is COLON) 1 (skip (is COLON) (ty_read h)) h

abbrev pub clause_level : Changes → ℕ → Reader Token Cl
clause_level cs h = decs_read.clause_level (some_operator cs) (fixed cs) (head_read (some_operator cs) h false (fixed cs)) (ty_read h) (exp cs h) h

abbrev pub clauses : Changes → ℕ → Reader Token (List Cl)
clauses cs h = ready_read (is BAR) clause_bar (clause_read h false cs)

abbrev pub funs : Changes → ℕ → Reader Token (Under (List (List Cl)))
funs cs h = ended (tokens_of decs_read.dec_goes) (decs_read.under_by (some_operator cs) (decs_read.clauses_read (clause_read h false cs)))

-- ---- directives and scopes

abbrev pub only_names : Reader Token (List Ident)
only_names = many_read (tokens_of names) (token_by any_vid)

abbrev pub digit_names : Reader Token (Option ℕ × List Ident)
digit_names = both (optional (tokens_of digits) (token_by digit)) only_names

abbrev pub directive : Reader Token (Option ℕ × List Ident)
directive = ended (tokens_of decs_read.dec_goes) digit_names

abbrev pub plain_directive : Reader Token (List Ident)
plain_directive = ended (tokens_of decs_read.dec_goes) only_names

abbrev pub shown : Changes → ℕ → Reader Token (List De)
shown cs h = skip (is IN) (close (decs cs h) (is END))

abbrev pub local_parts : Changes → ℕ → Reader Token (List De × List De)
local_parts cs h = bound (decs cs h) (λ ds. shown (afters cs ds) h)

abbrev pub local_dec : Changes → ℕ → Reader Token (List De × List De)
local_dec cs h = ended (tokens_of decs_read.dec_goes) (local_parts cs h)

abbrev pub with_part : Changes → ℕ → Reader Token (List De)
with_part cs h = skip (is WITH) (close (decs cs h) (is END))

abbrev pub abstype_parts : Changes → ℕ → Reader Token ((List Db × Option (List Tb)) × List De)
abstype_parts cs h = both (binds.abstract_types (fixed cs) h) (with_part cs h)

abbrev pub abstype : Changes → ℕ → Reader Token ((List Db × Option (List Tb)) × List De)
abstype cs h = ended (tokens_of decs_read.dec_goes) (abstype_parts cs h)

-- ---- declarations

abbrev pub with_values : Changes → ℕ → Reader Token De
with_values cs h =
    else_by (is ABSTYPE) 1 (decs_read.abs_read (cons_read h (fixed cs)) (ty_read h) (decs cs h) h)
    (else_by (is VAL) 2 (mapped vals_of (ended (tokens_of decs_read.dec_goes) (both (token_by (the VAL)) (decs_read.under_two (values cs h)))))
    (only (is FUN) 3 (mapped funs_of (ended (tokens_of decs_read.dec_goes) (both (token_by (the FUN)) (decs_read.under_by (some_operator cs) (decs_read.clauses_read (clause_read h false cs)))))) h) h) h

abbrev pub with_types : Changes → ℕ → Reader Token De
with_types cs h =
    else_by (is DATATYPE) 0 (mapped data_of (both (token_by (the DATATYPE)) (decs_read.data_read (fixed cs) (cons_read h (fixed cs)) (ty_read h) h)))
    (else_by (is TYPE) 1 (mapped types_of (ended (tokens_of decs_read.dec_goes) (both (token_by (the TYPE)) (seps (is AND) (tybind_read (ty_read h))))))
    (else_by (is EXCEPTION) 1 (mapped exns_of (ended (tokens_of decs_read.dec_goes) (both (token_by (the EXCEPTION)) (seps (is AND) (exbind_read h (fixed cs))))))
    (with_values cs h) h) h) h

abbrev pub with_scopes : Changes → ℕ → Reader Token De
with_scopes cs h =
    else_by (is INFIXR) 0 (decs_read.fix_read INFIXR true)
    (else_by (is NONFIX) 0 (mapped nonfix_of (ended (tokens_of decs_read.dec_goes) (both (token_by (the NONFIX)) (many_read (tokens_of names) (token_by any_vid)))))
    (else_by (is LOCAL) 0 (decs_read.local_read (decs cs h) (decs_behind cs h)) (with_types cs h) h) h) h

abbrev pub declaration : Changes → ℕ → Reader Token De
declaration cs h =
    decs_read.dec_level (some_operator cs) (fixed cs) (decs cs h) (decs_behind cs h) (ty_read h) (cons_read h (fixed cs)) (exbind_read h (fixed cs)) (pat_read h false (fixed cs)) (exp cs h)
    (clause_read h false cs) h
