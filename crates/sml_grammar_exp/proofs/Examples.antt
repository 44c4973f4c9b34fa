-- What the definitions say of some tokens.
use Rattle.std.proofs.Common.{◌≡◌, ℕ, true, false, [], ◌∷◌, ◌++◌, List, Some, None, Ok, Err, map, refl, ap, ◌∙◌}
use Rattle.std.specs.Prelude.{codes}
use Rattle.readers.specs.declared.code.Code.TheVariants.{Grammar, Depth, FixityClash}
use Rattle.readers.specs.Reader.{steps_by, row_by}
use Rattle.tl_text.specs.declared.place.Place.{Place}
use Rattle.sml_lex.specs.declared.token.Token.{Token}
use Rattle.sml_lex.specs.declared.token.Kind.TheVariants as kind
use Rattle.sml_fix.specs.declared.fixities.Side.TheVariants.{Left as ToLeft, Right as ToRight}
use Rattle.sml_fix.specs.Fixities.{start}
use Rattle.sml_ast.specs.declared.exp.AtExp.{out-AtExp, roll-AtExp}
use Rattle.sml_ast.specs.declared.exp.Exp.{out-Exp, roll-Exp}
use Rattle.sml_ast.specs.declared.exp.Dec.{Dec, out-Dec, roll-Dec}
use Rattle.sml_ast.specs.declared.exp.AtExp.TheOpen.{Dec-F}
use Rattle.sml_ast.specs.declared.exp.AtExp.TheFolds.{fold-roll-Dec}
use Rattle.sml_ast.specs.declared.pat.AtPat.{out-AtPat, roll-AtPat}
use Rattle.sml_ast.specs.declared.pat.Pat.{out-Pat, roll-Pat}
use Rattle.sml_grammar.specs.Words.{ANDALSO, BAR, CASE, CLOSE_PAREN, DARROW, DATATYPE, END, EQUALS, FUN, IN, INFIX, LOCAL, NONFIX, OF, OPEN_PAREN, RAISE, VAL, WILDCARD}
use Rattle.sml_grammar.specs.Types.{Ident}
use Rattle.sml_grammar.specs.Pats.{Ap, Pt, Operand, bare_of, id_of as pat_id, operand_of}
use Rattle.sml_grammar.specs.ReadTypes.{con_read, tuple_read, ty_read}
use Rattle.sml_grammar.specs.ReadPats.{name_read, other_read, at_read, field_read, row_read as pat_row_read, typed_read as pat_typed_read, pat_read}
use Rattle.sml_grammar.proofs.Shapes.{nowhere, some_token, word_token}
use Rattle.sml_grammar_exp.specs.Exps.{At, Ex, De, id_of, apply_of, infix_of, and_of, raise_of, case_of, arm_of}
use Rattle.sml_grammar_exp.specs.Decs.{Changes, Data, fixed, started, changes, changes_step, all_of, after, data_of, fix_of, nonfix_of, local_of}
use Rattle.sml_grammar_exp.specs.Clauses.{Head}
use Rattle.sml_grammar_exp.specs.ReadClauses.{head_read}
use Rattle.sml_grammar_exp.specs.ReadBinds.{cons_read, exbind_read}
use Rattle.sml_grammar_exp.specs.ReadLevels.{at_exp_read, row_read, typed_read, behind_and_read, and_read, behind_or_read, or_read, exp_read, rule_read, clause_read, dec_read}

-- the directives of the start give the fixities of the start
started_is : fixed started ≡ start
started_is = refl

abbrev name : List ℕ → Token
name v = some_token (kind.Id (v ∷ []))

abbrev ident : List ℕ → Ident
ident v = (nowhere, v)

abbrev the : List ℕ → Ex
the v = apply_of (id_of (bare_of (nowhere, v ∷ [])), [])

-- `a + b * c`
tighter : exp_read 9 false started (name (codes "a") ∷ name (codes "+") ∷ name (codes "b") ∷ name (codes "*") ∷ name (codes "c") ∷ [])
    ≡ Ok (infix_of (the (codes "a")) (ident (codes "+")) (infix_of (the (codes "b")) (ident (codes "*")) (the (codes "c"))), [])
unfolding at_exp_read row_read typed_read behind_and_read and_read behind_or_read or_read exp_read rule_read clause_read dec_read con_read tuple_read ty_read steps_by row_by out-AtExp roll-AtExp out-Exp roll-Exp denote.Hole.Carrier.out denote.Hole.Carrier.roll
tighter = refl

-- `raise a andalso b`
reaches_far : exp_read 9 false started (word_token RAISE ∷ name (codes "a") ∷ word_token ANDALSO ∷ name (codes "b") ∷ []) ≡ Ok (raise_of (nowhere, and_of (the (codes "a")) (the (codes "b"))), [])
unfolding at_exp_read row_read typed_read behind_and_read and_read behind_or_read or_read exp_read rule_read clause_read dec_read con_read tuple_read ty_read steps_by row_by out-AtExp roll-AtExp out-Exp roll-Exp denote.Hole.Carrier.out denote.Hole.Carrier.roll
reaches_far = refl

abbrev a : Token
a = name (codes "a")

abbrev b : Token
b = name (codes "b")

abbrev c : Token
c = name (codes "c")

abbrev plus : Token
plus = name (codes "++")

-- `++` groups to the left, `--` as tight to the right
abbrev two : Changes
two = (codes "++", Some (5, ToLeft)) ∷ (codes "--", Some (5, ToRight)) ∷ []

abbrev at_pat : List ℕ → Ap
at_pat v = pat_id (bare_of (nowhere, v ∷ []))

abbrev pat : List ℕ → Pt
pat v = operand_of (Operand.Con (bare_of (nowhere, v ∷ []), None))

abbrev atom : List ℕ → At
atom v = id_of (bare_of (nowhere, v ∷ []))

abbrev left : De
left = local_of (nowhere, (fix_of false (nowhere, (None, ident (codes "a") ∷ [])) ∷ [], nonfix_of (nowhere, ident (codes "--") ∷ []) ∷ []))

-- `case a of b => case c of a => b | c => a`: both rules belong to the inner match
nearest : exp_read 9 false [] (word_token CASE ∷ a ∷ word_token OF ∷ b ∷ word_token DARROW ∷ word_token CASE ∷ c ∷ word_token OF ∷ a ∷ word_token DARROW ∷ b ∷ word_token BAR ∷ c ∷ word_token DARROW ∷ a ∷ [])
    ≡ Ok (case_of (nowhere, (the (codes "a"), arm_of (pat (codes "b"), case_of (nowhere, (the (codes "c"), arm_of (pat (codes "a"), the (codes "b")) ∷ arm_of (pat (codes "c"), the (codes "a")) ∷ []))) ∷ [])), [])
unfolding at_exp_read row_read typed_read behind_and_read and_read behind_or_read or_read exp_read rule_read clause_read dec_read cons_read exbind_read con_read tuple_read ty_read name_read other_read at_read field_read pat_row_read pat_typed_read pat_read steps_by row_by out-AtExp roll-AtExp out-Exp roll-Exp out-AtPat roll-AtPat out-Pat roll-Pat out-Dec roll-Dec denote.Hole.Carrier.out denote.Hole.Carrier.roll
nearest = refl

-- `a ++ b -- c`
clash : exp_read 9 false two (a ∷ plus ∷ b ∷ name (codes "--") ∷ c ∷ []) ≡ Err (FixityClash, name (codes "--") ∷ c ∷ [])
unfolding at_exp_read row_read typed_read behind_and_read and_read behind_or_read or_read exp_read rule_read clause_read dec_read cons_read exbind_read con_read tuple_read ty_read name_read other_read at_read field_read pat_row_read pat_typed_read pat_read steps_by row_by out-AtExp roll-AtExp out-Exp roll-Exp out-AtPat roll-AtPat out-Pat roll-Pat out-Dec roll-Dec denote.Hole.Carrier.out denote.Hole.Carrier.roll
clash = refl

-- `a ++ b`, where `++` is an operator and where it is none
operated : exp_read 9 false two (a ∷ plus ∷ b ∷ []) ≡ Ok (infix_of (the (codes "a")) (ident (codes "++")) (the (codes "b")), [])
unfolding at_exp_read row_read typed_read behind_and_read and_read behind_or_read or_read exp_read rule_read clause_read dec_read cons_read exbind_read con_read tuple_read ty_read name_read other_read at_read field_read pat_row_read pat_typed_read pat_read steps_by row_by out-AtExp roll-AtExp out-Exp roll-Exp out-AtPat roll-AtPat out-Pat roll-Pat out-Dec roll-Dec denote.Hole.Carrier.out denote.Hole.Carrier.roll
operated = refl

applied : exp_read 9 false [] (a ∷ plus ∷ b ∷ []) ≡ Ok (apply_of (atom (codes "a"), atom (codes "++") ∷ atom (codes "b") ∷ []), [])
unfolding at_exp_read row_read typed_read behind_and_read and_read behind_or_read or_read exp_read rule_read clause_read dec_read cons_read exbind_read con_read tuple_read ty_read name_read other_read at_read field_read pat_row_read pat_typed_read pat_read steps_by row_by out-AtExp roll-AtExp out-Exp roll-Exp out-AtPat roll-AtPat out-Pat roll-Pat out-Dec roll-Dec denote.Hole.Carrier.out denote.Hole.Carrier.roll
applied = refl

-- `(a ++ b) c =`: the front of a clause in parentheses, where patterns inside have a height of one at most
in_parentheses : head_read true 1 false (fixed two) (word_token OPEN_PAREN ∷ a ∷ plus ∷ b ∷ word_token CLOSE_PAREN ∷ c ∷ word_token EQUALS ∷ [])
    ≡ Ok (Head.MidMore ((nowhere, (at_pat (codes "a"), (ident (codes "++"), at_pat (codes "b")))), at_pat (codes "c") ∷ []), word_token EQUALS ∷ [])
unfolding at_exp_read row_read typed_read behind_and_read and_read behind_or_read or_read exp_read rule_read clause_read dec_read cons_read exbind_read con_read tuple_read ty_read name_read other_read at_read field_read pat_row_read pat_typed_read pat_read steps_by row_by out-AtExp roll-AtExp out-Exp roll-Exp out-AtPat roll-AtPat out-Pat roll-Pat out-Dec roll-Dec denote.Hole.Carrier.out denote.Hole.Carrier.roll
in_parentheses = refl

-- `(a ++ b) ++ c =`: a pattern before an operator, which needs four
before_operator : head_read true 3 false (fixed two) (word_token OPEN_PAREN ∷ a ∷ plus ∷ b ∷ word_token CLOSE_PAREN ∷ plus ∷ c ∷ word_token EQUALS ∷ []) ≡ Err (Depth, plus ∷ c ∷ word_token EQUALS ∷ [])
unfolding at_exp_read row_read typed_read behind_and_read and_read behind_or_read or_read exp_read rule_read clause_read dec_read cons_read exbind_read con_read tuple_read ty_read name_read other_read at_read field_read pat_row_read pat_typed_read pat_read steps_by row_by out-AtExp roll-AtExp out-Exp roll-Exp out-AtPat roll-AtPat out-Pat roll-Pat out-Dec roll-Dec denote.Hole.Carrier.out denote.Hole.Carrier.roll
before_operator = refl

-- `(a ++ b ++`: no front in parentheses goes on so, and for a pattern there is no room
third : head_read true 2 false (fixed two) (word_token OPEN_PAREN ∷ a ∷ plus ∷ b ∷ plus ∷ []) ≡ Err (Depth, plus ∷ [])
unfolding at_exp_read row_read typed_read behind_and_read and_read behind_or_read or_read exp_read rule_read clause_read dec_read cons_read exbind_read con_read tuple_read ty_read name_read other_read at_read field_read pat_row_read pat_typed_read pat_read steps_by row_by out-AtExp roll-AtExp out-Exp roll-Exp out-AtPat roll-AtPat out-Pat roll-Pat out-Dec roll-Dec denote.Hole.Carrier.out denote.Hole.Carrier.roll
third = refl

-- `_ a`, where no identifier is an operator: no clause begins so
no_operators : dec_read 9 false [] (word_token FUN ∷ word_token WILDCARD ∷ []) ≡ Err (Grammar, word_token WILDCARD ∷ [])
unfolding at_exp_read row_read typed_read behind_and_read and_read behind_or_read or_read exp_read rule_read clause_read dec_read cons_read exbind_read con_read tuple_read ty_read name_read other_read at_read field_read pat_row_read pat_typed_read pat_read steps_by row_by out-AtExp roll-AtExp out-Exp roll-Exp out-AtPat roll-AtPat out-Pat roll-Pat out-Dec roll-Dec denote.Hole.Carrier.out denote.Hole.Carrier.roll
no_operators = refl

-- `val ('a b`: behind the type variable the sequence goes on
type_variables : dec_read 9 false started (word_token VAL ∷ word_token OPEN_PAREN ∷ some_token (kind.Tyvar (codes "'a")) ∷ b ∷ []) ≡ Err (Grammar, b ∷ [])
unfolding at_exp_read row_read typed_read behind_and_read and_read behind_or_read or_read exp_read rule_read clause_read dec_read cons_read exbind_read con_read tuple_read ty_read name_read other_read at_read field_read pat_row_read pat_typed_read pat_read steps_by row_by out-AtExp roll-AtExp out-Exp roll-Exp out-AtPat roll-AtPat out-Pat roll-Pat out-Dec roll-Dec denote.Hole.Carrier.out denote.Hole.Carrier.roll
type_variables = refl

-- `datatype a = datatype b` has a height of one, `datatype a = b` has more
copies : dec_read 1 false started (word_token DATATYPE ∷ a ∷ word_token EQUALS ∷ word_token DATATYPE ∷ b ∷ []) ≡ Ok (data_of (nowhere, Data.Copied (ident (codes "a"), (nowhere, codes "b" ∷ []))), [])
unfolding at_exp_read row_read typed_read behind_and_read and_read behind_or_read or_read exp_read rule_read clause_read dec_read cons_read exbind_read con_read tuple_read ty_read name_read other_read at_read field_read pat_row_read pat_typed_read pat_read steps_by row_by out-AtExp roll-AtExp out-Exp roll-Exp out-AtPat roll-AtPat out-Pat roll-Pat out-Dec roll-Dec denote.Hole.Carrier.out denote.Hole.Carrier.roll
copies = refl

constructs : dec_read 1 false started (word_token DATATYPE ∷ a ∷ word_token EQUALS ∷ b ∷ []) ≡ Err (Depth, b ∷ [])
unfolding at_exp_read row_read typed_read behind_and_read and_read behind_or_read or_read exp_read rule_read clause_read dec_read cons_read exbind_read con_read tuple_read ty_read name_read other_read at_read field_read pat_row_read pat_typed_read pat_read steps_by row_by out-AtExp roll-AtExp out-Exp roll-Exp out-AtPat roll-AtPat out-Pat roll-Pat out-Dec roll-Dec denote.Hole.Carrier.out denote.Hole.Carrier.roll
constructs = refl

-- `local infix ++ in nonfix -- end` leaves `--` alone without status
left_behind : dec_read 9 false two (word_token LOCAL ∷ word_token INFIX ∷ a ∷ word_token IN ∷ word_token NONFIX ∷ name (codes "--") ∷ word_token END ∷ [])
    ≡ Ok (left, [])
unfolding at_exp_read row_read typed_read behind_and_read and_read behind_or_read or_read exp_read rule_read clause_read dec_read cons_read exbind_read con_read tuple_read ty_read name_read other_read at_read field_read pat_row_read pat_typed_read pat_read steps_by row_by out-AtExp roll-AtExp out-Exp roll-Exp out-AtPat roll-AtPat out-Pat roll-Pat out-Dec roll-Dec denote.Hole.Carrier.out denote.Hole.Carrier.roll
left_behind = refl

changes_nonfix : (p : Place) (xs : List Ident) → changes (roll-Dec (Dec-F.Nonfix p xs)) ≡ map (λ x. (x.1, None)) xs
changes_nonfix p xs = fold-roll-Dec (Unit {0}) (Unit {0}) Changes (Unit {0}) (Unit {0}) (λ a. tt) (λ c. tt) changes_step (λ e. tt) (λ r. tt) (Dec-F.Nonfix p xs)

changes_local : (p : Place) (ds es : List Dec) → changes (roll-Dec (Dec-F.Local p ds es)) ≡ all_of (map changes es)
changes_local p ds es = fold-roll-Dec (Unit {0}) (Unit {0}) Changes (Unit {0}) (Unit {0}) (λ a. tt) (λ c. tt) changes_step (λ e. tt) (λ r. tt) (Dec-F.Local p ds es)

leaves : after two left ≡ two ++ (codes "--", None) ∷ []
leaves = ap (λ (x : Changes). two ++ x) (changes_local nowhere _ _ ∙ ap (λ (x : Changes). x ++ []) (changes_nonfix nowhere (ident (codes "--") ∷ [])))
