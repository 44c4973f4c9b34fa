-- Reading expressions, with one token of view.
use Rattle.std.specs.Prelude.{ℕ, Bool, List}
use Rattle.readers.specs.declared.floor.Floor.{Floor}
use Rattle.readers.specs.Reader.{Reader, both, bound, mapped, one, token_by, skip, close, only, else_by, row}
use Rattle.readers.specs.Room.{at_height}
use Rattle.readers.specs.Infix.{infix_read}
use Rattle.readers.specs.Forms.{seps, ready_read, enclosed, else_if, grown, grown_once, any_tree, at_least}
use Rattle.sml_lex.specs.declared.token.Token.{Token}
use Rattle.sml_fix.specs.Fixities.{Settings}
use Rattle.sml_grammar.specs.Words.{ANDALSO, CASE, DO, ELSE, END, FN, HANDLE, IF, IN, LET, OF, ORELSE, RAISE, THEN, WHILE, OPEN_PAREN, CLOSE_PAREN, OPEN_BRACKET, CLOSE_BRACKET, OPEN_BRACE, CLOSE_BRACE, COMMA, COLON, SEMICOLON, BAR, EQUALS, DARROW, HASH}
use Rattle.sml_grammar.specs.Tokens.{Firsts, just, union, is, the, among, tokens_of, scon, literals, lab, labels, operator}
use Rattle.sml_grammar.specs.Types.{Tx}
use Rattle.sml_grammar.specs.Pats.{tight, right, Pt}
use Rattle.sml_grammar.specs.ReadPats.{name_firsts, begins_name, name_level, begins_at as begins_pat}
use Rattle.sml_grammar_exp.specs.Exps.{At, Ex, Ru, De, ExField, Behind, Inside, lit_of, id_of, fields_of, pick_of, items_of, paren_of, let_of, apply_of, infix_of, top, typed_of, and_of, or_of, handle_of, raise_of, if_of, while_of, case_of, fn_of, arm_of, is_near, before_bar}

-- ---- what they begin with, and what they may go on with

abbrev pub at_firsts : Firsts
at_firsts = union literals (union (just HASH) (union (just OPEN_BRACE) (union (just OPEN_BRACKET) (union (just OPEN_PAREN) (union name_firsts (just LET))))))

abbrev pub begins_at : Settings → Token → Bool
begins_at fix = among fix at_firsts

-- the forms that reach as far to the right as they can
abbrev pub far_firsts : Firsts
far_firsts = union (just RAISE) (union (just IF) (union (just WHILE) (union (just CASE) (just FN))))

abbrev pub begins_far : Token → Bool
begins_far = tokens_of far_firsts

abbrev pub exp_firsts : Firsts
exp_firsts = union at_firsts far_firsts

abbrev pub begins_exp : Settings → Token → Bool
begins_exp fix = among fix exp_firsts

-- ---- one level, where what stands inside may have the height

abbrev pub field_read : Reader Token Ex → Reader Token ExField
field_read exp = both (token_by lab) (skip (is EQUALS) exp)

abbrev pub behind_read : Reader Token Ex → Reader Token Behind
behind_read exp =
    else_if (is CLOSE_PAREN) (mapped (λ u. Behind.Closed) (one (is CLOSE_PAREN)))
    (else_if (is COMMA) (mapped Behind.Commas (skip (is COMMA) (close (seps (is COMMA) exp) (is CLOSE_PAREN))))
    (mapped Behind.Semis (skip (is SEMICOLON) (close (seps (is SEMICOLON) exp) (is CLOSE_PAREN)))))

abbrev pub inside_read : Settings → Reader Token Ex → ℕ → Reader Token Inside
inside_read fix exp h = else_if (is CLOSE_PAREN) (mapped (λ u. Inside.Empty) (one (is CLOSE_PAREN))) (only (begins_exp fix) 2 (mapped Inside.Parts (both exp (behind_read exp))) h)

abbrev pub let_read : Reader Token (List De) → (List De → Reader Token Ex) → Reader Token (List De × List Ex)
let_read decs after = bound decs (λ ds. skip (is IN) (close (seps (is SEMICOLON) (after ds)) (is END)))

abbrev pub at_level : Settings → Reader Token (List De) → Reader Token Ex → (List De → Reader Token Ex) → ℕ → Reader Token At
at_level fix decs exp after h =
    else_by (tokens_of literals) 0 (mapped lit_of (token_by scon))
    (else_by (is HASH) 0 (mapped pick_of (both (token_by (the HASH)) (token_by lab)))
    (else_by (is OPEN_BRACE) 0 (mapped fields_of (both (token_by (the OPEN_BRACE)) (enclosed (tokens_of labels) 2 (is COMMA) (field_read exp) (is CLOSE_BRACE) h)))
    (else_by (is OPEN_BRACKET) 0 (mapped items_of (both (token_by (the OPEN_BRACKET)) (enclosed (begins_exp fix) 2 (is COMMA) exp (is CLOSE_BRACKET) h)))
    (else_by (is OPEN_PAREN) 0 (mapped paren_of (both (token_by (the OPEN_PAREN)) (inside_read fix exp h)))
    (else_by (begins_name fix) 0 (mapped id_of (name_level fix))
    (only (is LET) 2 (mapped let_of (both (token_by (the LET)) (let_read decs after))) h) h) h) h) h) h) h

abbrev pub apply_read : Settings → Reader Token At → Reader Token (At × List At)
apply_read fix at = both at (row (begins_at fix) at)

abbrev pub row_level : Settings → Bool → Reader Token At → (Floor → Reader Token Ex) → ℕ → Floor → Reader Token Ex
row_level fix b at inner h n = infix_read (tight fix) (right fix) (operator fix) top (at_least 2) apply_of infix_of (apply_read fix at) inner (at_height h b) n

abbrev pub typed_level : Reader Token Ex → Reader Token Tx → ℕ → Reader Token Ex
typed_level row ty h = grown (is COLON) any_tree (at_least 2) typed_of row (skip (is COLON) ty) h

-- behind `andalso` stands what is as tight as `typed`, or reaches far
abbrev pub and_level : Reader Token Ex → Reader Token Ex → ℕ → Reader Token Ex
and_level typed operand h = grown (is ANDALSO) is_near (at_least 2) and_of typed (skip (is ANDALSO) operand) h

abbrev pub or_level : Reader Token Ex → Reader Token Ex → ℕ → Reader Token Ex
or_level and operand h = grown (is ORELSE) is_near (at_least 2) or_of and (skip (is ORELSE) operand) h

abbrev pub match_read : Reader Token Ru → Reader Token (List Ru)
match_read rule = ready_read (is BAR) before_bar rule

abbrev pub handle_level : Reader Token Ex → Reader Token Ru → ℕ → Reader Token Ex
handle_level or rule h = grown_once (is HANDLE) is_near (at_least 3) handle_of or (skip (is HANDLE) (match_read rule)) h

abbrev pub far_level : Reader Token Ex → Reader Token Ru → ℕ → Reader Token Ex
far_level exp rule h =
    else_by (is RAISE) 2 (mapped raise_of (both (token_by (the RAISE)) exp))
    (else_by (is IF) 2 (mapped if_of (both (token_by (the IF)) (both exp (both (skip (is THEN) exp) (skip (is ELSE) exp)))))
    (else_by (is WHILE) 2 (mapped while_of (both (token_by (the WHILE)) (both exp (skip (is DO) exp))))
    (else_by (is CASE) 3 (mapped case_of (both (token_by (the CASE)) (both exp (skip (is OF) (match_read rule)))))
    (only (is FN) 3 (mapped fn_of (both (token_by (the FN)) (match_read rule))) h) h) h) h) h

-- an expression of a level, or one that reaches far
abbrev pub or_far : Settings → Reader Token Ex → Reader Token Ex → ℕ → Reader Token Ex
or_far fix level far h = else_by (begins_at fix) 1 level far h

abbrev pub rule_level : Settings → Reader Token Pt → Reader Token Ex → ℕ → Reader Token Ru
rule_level fix pat exp h = only (begins_pat fix) 2 (mapped arm_of (both pat (skip (is DARROW) exp))) h
