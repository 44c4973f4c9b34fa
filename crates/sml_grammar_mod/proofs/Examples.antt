-- What the definitions say of some tokens.
use Rattle.std.proofs.Common.{◌≡◌, ℕ, false, [], ◌∷◌, ◌++◌, List, Some, None, Ok, Err, map, refl, ap, ◌∙◌}
use Rattle.std.proofs.lemmas.List.{append-nil}
use Rattle.std.specs.Prelude.{codes}
use Rattle.readers.specs.declared.code.Code.TheVariants.{Grammar, Depth}
use Rattle.readers.specs.Reader.{steps_by, row_by}
use Rattle.tl_text.specs.declared.place.Place.{Place}
use Rattle.sml_fix.specs.declared.fixities.Side.TheVariants.{Left as ToLeft}
use Rattle.sml_lex.specs.declared.token.Token.{Token}
use Rattle.sml_lex.specs.declared.token.Kind.TheVariants as kind
use Rattle.sml_ast.specs.declared.sig.SigExp.{out-SigExp, roll-SigExp}
use Rattle.sml_ast.specs.declared.sig.Spec.{out-Spec, roll-Spec}
use Rattle.sml_ast.specs.declared.exp.AtExp.{out-AtExp, roll-AtExp}
use Rattle.sml_ast.specs.declared.exp.Exp.{out-Exp, roll-Exp}
use Rattle.sml_ast.specs.declared.exp.Dec.{Dec, out-Dec, roll-Dec}
use Rattle.sml_ast.specs.declared.exp.AtExp.TheOpen.{Dec-F}
use Rattle.sml_ast.specs.declared.exp.AtExp.TheFolds.{fold-roll-Dec}
use Rattle.sml_ast.specs.declared.program.StrBind.{StrBind, roll-StrBind}
use Rattle.sml_ast.specs.declared.program.StrBind.TheOpen.{StrDec-F}
use Rattle.sml_ast.specs.declared.program.StrBind.TheFolds.{fold-roll-StrDec}
use Rattle.sml_ast.specs.declared.program.StrDec.{StrDec, out-StrDec, roll-StrDec}
use Rattle.sml_ast.specs.declared.program.StrExp.{out-StrExp, roll-StrExp}
use Rattle.sml_grammar.specs.Words.{AND, COLON, CLOSE_PAREN, END, EQTYPE, EQUALS, FUNCTOR, IN, LET, LOCAL, OPEN, OPEN_PAREN, SEAL, SEMICOLON, SIGNATURE, STRUCTURE, TYPE, WHERE}
use Rattle.sml_grammar.specs.Types.{Ident, con_of}
use Rattle.sml_grammar.specs.Pats.{bare_of}
use Rattle.sml_grammar.specs.ReadTypes.{con_read, tuple_read, ty_read}
use Rattle.sml_grammar.proofs.Shapes.{nowhere, some_token, word_token}
use Rattle.sml_grammar_exp.specs.Exps.{Ex, De, id_of, apply_of}
use Rattle.sml_grammar_exp.specs.Decs.{Changes, all_of, changes, changes_step, fix_of, local_of, opens_of}
use Rattle.sml_grammar_exp.specs.ReadLevels.{at_exp_read, row_read, typed_read, behind_and_read, and_read, behind_or_read, or_read, exp_read, rule_read, clause_read, dec_read}
use Rattle.sml_grammar_sig.specs.Descs.{Re, real_bind_of}
use Rattle.sml_grammar_sig.specs.Sigs.{Sx, sig_at, real_of, eqtypes_of}
use Rattle.sml_grammar_sig.specs.ReadDescs.{cons_read, real_bind_read}
use Rattle.sml_grammar_sig.specs.ReadSigs.{body_read, head_read, spec_read}
use Rattle.sml_grammar_mod.specs.Strs.{strdec_changes_step, strdec_changes, str_after, St, Sd, at_of, body_of, call_of, call_body_of, let_str_of, seal_of, clear_of, opaque_of, core_of, structs_of, local_str_of, strbind_of, sigbind_of, funbind_of, Param}
use Rattle.sml_grammar_mod.specs.ReadStrs.{sigbinds_read, funbinds_read, base_read, str_read, strbinds_read, strdec_read}
use Rattle.sml_grammar_mod.specs.Programs.{left_by, program_of, strs_of, sigs_of, funs_of, run_of}
use Rattle.sml_grammar_mod.specs.ReadPrograms.{top_read, run_read, program_read}

abbrev name : List ℕ → Token
name v = some_token (kind.Id (v ∷ []))

abbrev ident : List ℕ → Ident
ident v = (nowhere, v)

abbrev the_end : Token
the_end = some_token kind.End

-- a structure expression that is an identifier, and a signature
abbrev at : List ℕ → St
at v = at_of (nowhere, v ∷ [])

abbrev sig : List ℕ → Sx
sig v = sig_at (ident v)

abbrev the : List ℕ → Ex
the v = apply_of (id_of (bare_of (nowhere, v ∷ [])), [])

-- `t = u` behind `where type`
abbrev bind : List ℕ → List ℕ → Re
bind t u = real_bind_of (None, ((nowhere, t ∷ []), con_of (nowhere, u ∷ [])))

abbrev structure_of : List ℕ → St → Sd
structure_of v e = structs_of (nowhere, strbind_of ((ident v, None), e) ∷ [])

abbrev opened : List ℕ → De
opened v = opens_of (nowhere, (nowhere, v ∷ []) ∷ [])

-- `structure S = A : G where type t = u and type v = w :> H and T = B`: behind `and` the next token decides
sealed_twice : strdec_read 9 false [] (word_token STRUCTURE ∷ name (codes "S") ∷ word_token EQUALS ∷ name (codes "A") ∷ word_token COLON ∷ name (codes "G") ∷ word_token WHERE ∷ word_token TYPE ∷ name (codes "t") ∷ word_token EQUALS ∷ name (codes "u") ∷ word_token AND ∷ word_token TYPE ∷ name (codes "v") ∷ word_token EQUALS ∷ name (codes "w") ∷ word_token SEAL ∷ name (codes "H") ∷ word_token AND ∷ name (codes "T") ∷ word_token EQUALS ∷ name (codes "B") ∷ [])
    ≡ Ok (structs_of (nowhere, strbind_of ((ident (codes "S"), None), seal_of (seal_of (at (codes "A"), clear_of (nowhere, real_of (real_of (sig (codes "G")) (nowhere, bind (codes "t") (codes "u"))) (nowhere, bind (codes "v") (codes "w")))), opaque_of (nowhere, sig (codes "H")))) ∷ strbind_of ((ident (codes "T"), None), at (codes "B")) ∷ []), [])
unfolding base_read strbinds_read strdec_read sigbinds_read funbinds_read top_read run_read program_read at_exp_read row_read typed_read behind_and_read and_read behind_or_read or_read exp_read rule_read clause_read dec_read body_read head_read spec_read cons_read real_bind_read con_read tuple_read ty_read steps_by row_by out-StrExp roll-StrExp out-StrDec roll-StrDec roll-StrBind out-SigExp roll-SigExp out-Spec roll-Spec out-AtExp roll-AtExp out-Exp roll-Exp out-Dec roll-Dec denote.Hole.Carrier.out denote.Hole.Carrier.roll
sealed_twice = refl

-- `structure S = A : G where type t = u and type v = w and T = B`
next_binding : strdec_read 9 false [] (word_token STRUCTURE ∷ name (codes "S") ∷ word_token EQUALS ∷ name (codes "A") ∷ word_token COLON ∷ name (codes "G") ∷ word_token WHERE ∷ word_token TYPE ∷ name (codes "t") ∷ word_token EQUALS ∷ name (codes "u") ∷ word_token AND ∷ word_token TYPE ∷ name (codes "v") ∷ word_token EQUALS ∷ name (codes "w") ∷ word_token AND ∷ name (codes "T") ∷ word_token EQUALS ∷ name (codes "B") ∷ [])
    ≡ Ok (structs_of (nowhere, strbind_of ((ident (codes "S"), None), seal_of (at (codes "A"), clear_of (nowhere, real_of (real_of (sig (codes "G")) (nowhere, bind (codes "t") (codes "u"))) (nowhere, bind (codes "v") (codes "w"))))) ∷ strbind_of ((ident (codes "T"), None), at (codes "B")) ∷ []), [])
unfolding base_read strbinds_read strdec_read sigbinds_read funbinds_read top_read run_read program_read at_exp_read row_read typed_read behind_and_read and_read behind_or_read or_read exp_read rule_read clause_read dec_read body_read head_read spec_read cons_read real_bind_read con_read tuple_read ty_read steps_by row_by out-StrExp roll-StrExp out-StrDec roll-StrDec roll-StrBind out-SigExp roll-SigExp out-Spec roll-Spec out-AtExp roll-AtExp out-Exp roll-Exp out-Dec roll-Dec denote.Hole.Carrier.out denote.Hole.Carrier.roll
next_binding = refl

-- `structure S = A : G and type`: behind an identifier no type goes on
no_type : strdec_read 9 false [] (word_token STRUCTURE ∷ name (codes "S") ∷ word_token EQUALS ∷ name (codes "A") ∷ word_token COLON ∷ name (codes "G") ∷ word_token AND ∷ word_token TYPE ∷ [])
    ≡ Err (Grammar, word_token TYPE ∷ [])
unfolding base_read strbinds_read strdec_read sigbinds_read funbinds_read top_read run_read program_read at_exp_read row_read typed_read behind_and_read and_read behind_or_read or_read exp_read rule_read clause_read dec_read body_read head_read spec_read cons_read real_bind_read con_read tuple_read ty_read steps_by row_by out-StrExp roll-StrExp out-StrDec roll-StrDec roll-StrBind out-SigExp roll-SigExp out-Spec roll-Spec out-AtExp roll-AtExp out-Exp roll-Exp out-Dec roll-Dec denote.Hole.Carrier.out denote.Hole.Carrier.roll
no_type = refl

-- `A : G` has a height of three
no_room : str_read 2 false [] (name (codes "A") ∷ word_token COLON ∷ name (codes "G") ∷ [])
    ≡ Err (Depth, word_token COLON ∷ name (codes "G") ∷ [])
unfolding base_read strbinds_read strdec_read sigbinds_read funbinds_read top_read run_read program_read at_exp_read row_read typed_read behind_and_read and_read behind_or_read or_read exp_read rule_read clause_read dec_read body_read head_read spec_read cons_read real_bind_read con_read tuple_read ty_read steps_by row_by out-StrExp roll-StrExp out-StrDec roll-StrDec roll-StrBind out-SigExp roll-SigExp out-Spec roll-Spec out-AtExp roll-AtExp out-Exp roll-Exp out-Dec roll-Dec denote.Hole.Carrier.out denote.Hole.Carrier.roll
no_room = refl

-- and there is room for it
with_room : str_read 3 false [] (name (codes "A") ∷ word_token COLON ∷ name (codes "G") ∷ [])
    ≡ Ok (seal_of (at (codes "A"), clear_of (nowhere, sig (codes "G"))), [])
unfolding base_read strbinds_read strdec_read sigbinds_read funbinds_read top_read run_read program_read at_exp_read row_read typed_read behind_and_read and_read behind_or_read or_read exp_read rule_read clause_read dec_read body_read head_read spec_read cons_read real_bind_read con_read tuple_read ty_read steps_by row_by out-StrExp roll-StrExp out-StrDec roll-StrDec roll-StrBind out-SigExp roll-SigExp out-Spec roll-Spec out-AtExp roll-AtExp out-Exp roll-Exp out-Dec roll-Dec denote.Hole.Carrier.out denote.Hole.Carrier.roll
with_room = refl

-- `F ( A )`: a structure
argument : str_read 9 false [] (name (codes "F") ∷ word_token OPEN_PAREN ∷ name (codes "A") ∷ word_token CLOSE_PAREN ∷ [])
    ≡ Ok (call_of (ident (codes "F"), at (codes "A")), [])
unfolding base_read strbinds_read strdec_read sigbinds_read funbinds_read top_read run_read program_read at_exp_read row_read typed_read behind_and_read and_read behind_or_read or_read exp_read rule_read clause_read dec_read body_read head_read spec_read cons_read real_bind_read con_read tuple_read ty_read steps_by row_by out-StrExp roll-StrExp out-StrDec roll-StrDec roll-StrBind out-SigExp roll-SigExp out-Spec roll-Spec out-AtExp roll-AtExp out-Exp roll-Exp out-Dec roll-Dec denote.Hole.Carrier.out denote.Hole.Carrier.roll
argument = refl

-- `F ( )`: no declarations
no_argument : str_read 1 false [] (name (codes "F") ∷ word_token OPEN_PAREN ∷ word_token CLOSE_PAREN ∷ [])
    ≡ Ok (call_body_of (ident (codes "F"), []), [])
unfolding base_read strbinds_read strdec_read sigbinds_read funbinds_read top_read run_read program_read at_exp_read row_read typed_read behind_and_read and_read behind_or_read or_read exp_read rule_read clause_read dec_read body_read head_read spec_read cons_read real_bind_read con_read tuple_read ty_read steps_by row_by out-StrExp roll-StrExp out-StrDec roll-StrDec roll-StrBind out-SigExp roll-SigExp out-Spec roll-Spec out-AtExp roll-AtExp out-Exp roll-Exp out-Dec roll-Dec denote.Hole.Carrier.out denote.Hole.Carrier.roll
no_argument = refl

-- `F ( structure S = A ; )`: declarations
declarations : str_read 9 false [] (name (codes "F") ∷ word_token OPEN_PAREN ∷ word_token STRUCTURE ∷ name (codes "S") ∷ word_token EQUALS ∷ name (codes "A") ∷ word_token SEMICOLON ∷ word_token CLOSE_PAREN ∷ [])
    ≡ Ok (call_body_of (ident (codes "F"), structure_of (codes "S") (at (codes "A")) ∷ []), [])
unfolding base_read strbinds_read strdec_read sigbinds_read funbinds_read top_read run_read program_read at_exp_read row_read typed_read behind_and_read and_read behind_or_read or_read exp_read rule_read clause_read dec_read body_read head_read spec_read cons_read real_bind_read con_read tuple_read ty_read steps_by row_by out-StrExp roll-StrExp out-StrDec roll-StrDec roll-StrBind out-SigExp roll-SigExp out-Spec roll-Spec out-AtExp roll-AtExp out-Exp roll-Exp out-Dec roll-Dec denote.Hole.Carrier.out denote.Hole.Carrier.roll
declarations = refl

-- `A : G where type t = u` has a height of four
type_too_high : str_read 3 false [] (name (codes "A") ∷ word_token COLON ∷ name (codes "G") ∷ word_token WHERE ∷ word_token TYPE ∷ name (codes "t") ∷ word_token EQUALS ∷ name (codes "u") ∷ [])
    ≡ Err (Depth, word_token WHERE ∷ word_token TYPE ∷ name (codes "t") ∷ word_token EQUALS ∷ name (codes "u") ∷ [])
unfolding base_read strbinds_read strdec_read sigbinds_read funbinds_read top_read run_read program_read at_exp_read row_read typed_read behind_and_read and_read behind_or_read or_read exp_read rule_read clause_read dec_read body_read head_read spec_read cons_read real_bind_read con_read tuple_read ty_read steps_by row_by out-StrExp roll-StrExp out-StrDec roll-StrDec roll-StrBind out-SigExp roll-SigExp out-Spec roll-Spec out-AtExp roll-AtExp out-Exp roll-Exp out-Dec roll-Dec denote.Hole.Carrier.out denote.Hole.Carrier.roll
type_too_high = refl

-- with a further type it has five; in a row another binding might stand behind the `and`
row_too_high : strdec_read 6 false [] (word_token STRUCTURE ∷ name (codes "S") ∷ word_token EQUALS ∷ name (codes "A") ∷ word_token COLON ∷ name (codes "G") ∷ word_token WHERE ∷ word_token TYPE ∷ name (codes "t") ∷ word_token EQUALS ∷ name (codes "u") ∷ word_token AND ∷ word_token TYPE ∷ name (codes "v") ∷ word_token EQUALS ∷ name (codes "w") ∷ [])
    ≡ Err (Depth, word_token TYPE ∷ name (codes "v") ∷ word_token EQUALS ∷ name (codes "w") ∷ [])
unfolding base_read strbinds_read strdec_read sigbinds_read funbinds_read top_read run_read program_read at_exp_read row_read typed_read behind_and_read and_read behind_or_read or_read exp_read rule_read clause_read dec_read body_read head_read spec_read cons_read real_bind_read con_read tuple_read ty_read steps_by row_by out-StrExp roll-StrExp out-StrDec roll-StrDec roll-StrBind out-SigExp roll-SigExp out-Spec roll-Spec out-AtExp roll-AtExp out-Exp roll-Exp out-Dec roll-Dec denote.Hole.Carrier.out denote.Hole.Carrier.roll
row_too_high = refl

-- and in parentheses none
argument_too_high : str_read 5 false [] (name (codes "F") ∷ word_token OPEN_PAREN ∷ name (codes "A") ∷ word_token COLON ∷ name (codes "G") ∷ word_token WHERE ∷ word_token TYPE ∷ name (codes "t") ∷ word_token EQUALS ∷ name (codes "u") ∷ word_token AND ∷ word_token TYPE ∷ name (codes "v") ∷ word_token EQUALS ∷ name (codes "w") ∷ word_token CLOSE_PAREN ∷ [])
    ≡ Err (Depth, word_token AND ∷ word_token TYPE ∷ name (codes "v") ∷ word_token EQUALS ∷ name (codes "w") ∷ word_token CLOSE_PAREN ∷ [])
unfolding base_read strbinds_read strdec_read sigbinds_read funbinds_read top_read run_read program_read at_exp_read row_read typed_read behind_and_read and_read behind_or_read or_read exp_read rule_read clause_read dec_read body_read head_read spec_read cons_read real_bind_read con_read tuple_read ty_read steps_by row_by out-StrExp roll-StrExp out-StrDec roll-StrDec roll-StrBind out-SigExp roll-SigExp out-Spec roll-Spec out-AtExp roll-AtExp out-Exp roll-Exp out-Dec roll-Dec denote.Hole.Carrier.out denote.Hole.Carrier.roll
argument_too_high = refl

-- with room for it
argument_with_types : str_read 6 false [] (name (codes "F") ∷ word_token OPEN_PAREN ∷ name (codes "A") ∷ word_token COLON ∷ name (codes "G") ∷ word_token WHERE ∷ word_token TYPE ∷ name (codes "t") ∷ word_token EQUALS ∷ name (codes "u") ∷ word_token AND ∷ word_token TYPE ∷ name (codes "v") ∷ word_token EQUALS ∷ name (codes "w") ∷ word_token CLOSE_PAREN ∷ [])
    ≡ Ok (call_of (ident (codes "F"), seal_of (at (codes "A"), clear_of (nowhere, real_of (real_of (sig (codes "G")) (nowhere, bind (codes "t") (codes "u"))) (nowhere, bind (codes "v") (codes "w"))))), [])
unfolding base_read strbinds_read strdec_read sigbinds_read funbinds_read top_read run_read program_read at_exp_read row_read typed_read behind_and_read and_read behind_or_read or_read exp_read rule_read clause_read dec_read body_read head_read spec_read cons_read real_bind_read con_read tuple_read ty_read steps_by row_by out-StrExp roll-StrExp out-StrDec roll-StrDec roll-StrBind out-SigExp roll-SigExp out-Spec roll-Spec out-AtExp roll-AtExp out-Exp roll-Exp out-Dec roll-Dec denote.Hole.Carrier.out denote.Hole.Carrier.roll
argument_with_types = refl

-- `F ( A : G and`: nothing goes on so
no_row : str_read 9 false [] (name (codes "F") ∷ word_token OPEN_PAREN ∷ name (codes "A") ∷ word_token COLON ∷ name (codes "G") ∷ word_token AND ∷ [])
    ≡ Err (Grammar, word_token AND ∷ [])
unfolding base_read strbinds_read strdec_read sigbinds_read funbinds_read top_read run_read program_read at_exp_read row_read typed_read behind_and_read and_read behind_or_read or_read exp_read rule_read clause_read dec_read body_read head_read spec_read cons_read real_bind_read con_read tuple_read ty_read steps_by row_by out-StrExp roll-StrExp out-StrDec roll-StrDec roll-StrBind out-SigExp roll-SigExp out-Spec roll-Spec out-AtExp roll-AtExp out-Exp roll-Exp out-Dec roll-Dec denote.Hole.Carrier.out denote.Hole.Carrier.roll
no_row = refl

-- `let open A in B end`
let_str : str_read 9 false [] (word_token LET ∷ word_token OPEN ∷ name (codes "A") ∷ word_token IN ∷ name (codes "B") ∷ word_token END ∷ [])
    ≡ Ok (let_str_of (nowhere, (core_of (opened (codes "A")) ∷ [], at (codes "B"))), [])
unfolding base_read strbinds_read strdec_read sigbinds_read funbinds_read top_read run_read program_read at_exp_read row_read typed_read behind_and_read and_read behind_or_read or_read exp_read rule_read clause_read dec_read body_read head_read spec_read cons_read real_bind_read con_read tuple_read ty_read steps_by row_by out-StrExp roll-StrExp out-StrDec roll-StrDec roll-StrBind out-SigExp roll-SigExp out-Spec roll-Spec out-AtExp roll-AtExp out-Exp roll-Exp out-Dec roll-Dec denote.Hole.Carrier.out denote.Hole.Carrier.roll
let_str = refl

-- `local in end` is of the core, with a height of two
empty_local : strdec_read 2 false [] (word_token LOCAL ∷ word_token IN ∷ word_token END ∷ [])
    ≡ Ok (core_of (local_of (nowhere, ([], []))), [])
unfolding base_read strbinds_read strdec_read sigbinds_read funbinds_read top_read run_read program_read at_exp_read row_read typed_read behind_and_read and_read behind_or_read or_read exp_read rule_read clause_read dec_read body_read head_read spec_read cons_read real_bind_read con_read tuple_read ty_read steps_by row_by out-StrExp roll-StrExp out-StrDec roll-StrDec roll-StrBind out-SigExp roll-SigExp out-Spec roll-Spec out-AtExp roll-AtExp out-Exp roll-Exp out-Dec roll-Dec denote.Hole.Carrier.out denote.Hole.Carrier.roll
empty_local = refl

-- so it asks for room at the word
low_local : strdec_read 1 false [] (word_token LOCAL ∷ word_token IN ∷ word_token END ∷ [])
    ≡ Err (Depth, word_token LOCAL ∷ word_token IN ∷ word_token END ∷ [])
unfolding base_read strbinds_read strdec_read sigbinds_read funbinds_read top_read run_read program_read at_exp_read row_read typed_read behind_and_read and_read behind_or_read or_read exp_read rule_read clause_read dec_read body_read head_read spec_read cons_read real_bind_read con_read tuple_read ty_read steps_by row_by out-StrExp roll-StrExp out-StrDec roll-StrDec roll-StrBind out-SigExp roll-SigExp out-Spec roll-Spec out-AtExp roll-AtExp out-Exp roll-Exp out-Dec roll-Dec denote.Hole.Carrier.out denote.Hole.Carrier.roll
low_local = refl

-- `local open A in open B end` is of the core
core_local : strdec_read 9 false [] (word_token LOCAL ∷ word_token OPEN ∷ name (codes "A") ∷ word_token IN ∷ word_token OPEN ∷ name (codes "B") ∷ word_token END ∷ [])
    ≡ Ok (core_of (local_of (nowhere, (opened (codes "A") ∷ [], opened (codes "B") ∷ []))), [])
unfolding base_read strbinds_read strdec_read sigbinds_read funbinds_read top_read run_read program_read at_exp_read row_read typed_read behind_and_read and_read behind_or_read or_read exp_read rule_read clause_read dec_read body_read head_read spec_read cons_read real_bind_read con_read tuple_read ty_read steps_by row_by out-StrExp roll-StrExp out-StrDec roll-StrDec roll-StrBind out-SigExp roll-SigExp out-Spec roll-Spec out-AtExp roll-AtExp out-Exp roll-Exp out-Dec roll-Dec denote.Hole.Carrier.out denote.Hole.Carrier.roll
core_local = refl

-- `local open A in structure S = A end` is not
str_local : strdec_read 9 false [] (word_token LOCAL ∷ word_token OPEN ∷ name (codes "A") ∷ word_token IN ∷ word_token STRUCTURE ∷ name (codes "S") ∷ word_token EQUALS ∷ name (codes "A") ∷ word_token END ∷ [])
    ≡ Ok (local_str_of (nowhere, (core_of (opened (codes "A")) ∷ [], structure_of (codes "S") (at (codes "A")) ∷ [])), [])
unfolding base_read strbinds_read strdec_read sigbinds_read funbinds_read top_read run_read program_read at_exp_read row_read typed_read behind_and_read and_read behind_or_read or_read exp_read rule_read clause_read dec_read body_read head_read spec_read cons_read real_bind_read con_read tuple_read ty_read steps_by row_by out-StrExp roll-StrExp out-StrDec roll-StrDec roll-StrBind out-SigExp roll-SigExp out-Spec roll-Spec out-AtExp roll-AtExp out-Exp roll-Exp out-Dec roll-Dec denote.Hole.Carrier.out denote.Hole.Carrier.roll
str_local = refl

-- `signature G = H where type t = u and I = J`
signatures : program_read 9 false [] (word_token SIGNATURE ∷ name (codes "G") ∷ word_token EQUALS ∷ name (codes "H") ∷ word_token WHERE ∷ word_token TYPE ∷ name (codes "t") ∷ word_token EQUALS ∷ name (codes "u") ∷ word_token AND ∷ name (codes "I") ∷ word_token EQUALS ∷ name (codes "J") ∷ the_end ∷ [])
    ≡ Ok (program_of ([], ((sigs_of (nowhere, sigbind_of (ident (codes "G"), real_of (sig (codes "H")) (nowhere, bind (codes "t") (codes "u"))) ∷ sigbind_of (ident (codes "I"), sig (codes "J")) ∷ []), []) ∷ [], nowhere)), [])
unfolding base_read strbinds_read strdec_read sigbinds_read funbinds_read top_read run_read program_read at_exp_read row_read typed_read behind_and_read and_read behind_or_read or_read exp_read rule_read clause_read dec_read body_read head_read spec_read cons_read real_bind_read con_read tuple_read ty_read steps_by row_by out-StrExp roll-StrExp out-StrDec roll-StrDec roll-StrBind out-SigExp roll-SigExp out-Spec roll-Spec out-AtExp roll-AtExp out-Exp roll-Exp out-Dec roll-Dec denote.Hole.Carrier.out denote.Hole.Carrier.roll
signatures = refl

-- `functor F ( X : G ) : H = X and K ( eqtype t ) = A`
functors : program_read 9 false [] (word_token FUNCTOR ∷ name (codes "F") ∷ word_token OPEN_PAREN ∷ name (codes "X") ∷ word_token COLON ∷ name (codes "G") ∷ word_token CLOSE_PAREN ∷ word_token COLON ∷ name (codes "H") ∷ word_token EQUALS ∷ name (codes "X") ∷ word_token AND ∷ name (codes "K") ∷ word_token OPEN_PAREN ∷ word_token EQTYPE ∷ name (codes "t") ∷ word_token CLOSE_PAREN ∷ word_token EQUALS ∷ name (codes "A") ∷ the_end ∷ [])
    ≡ Ok (program_of ([], ((funs_of (nowhere, funbind_of ((ident (codes "F"), (Param.Named (ident (codes "X"), sig (codes "G")), Some (clear_of (nowhere, sig (codes "H"))))), at (codes "X")) ∷ funbind_of ((ident (codes "K"), (Param.Opened (eqtypes_of (nowhere, ([], ident (codes "t")) ∷ []) ∷ []), None)), at (codes "A")) ∷ []), []) ∷ [], nowhere)), [])
unfolding base_read strbinds_read strdec_read sigbinds_read funbinds_read top_read run_read program_read at_exp_read row_read typed_read behind_and_read and_read behind_or_read or_read exp_read rule_read clause_read dec_read body_read head_read spec_read cons_read real_bind_read con_read tuple_read ty_read steps_by row_by out-StrExp roll-StrExp out-StrDec roll-StrDec roll-StrBind out-SigExp roll-SigExp out-Spec roll-Spec out-AtExp roll-AtExp out-Exp roll-Exp out-Dec roll-Dec denote.Hole.Carrier.out denote.Hole.Carrier.roll
functors = refl

-- a source without tokens
nothing : program_read 9 false [] (the_end ∷ [])
    ≡ Ok (program_of ([], ([], nowhere)), [])
unfolding base_read strbinds_read strdec_read sigbinds_read funbinds_read top_read run_read program_read at_exp_read row_read typed_read behind_and_read and_read behind_or_read or_read exp_read rule_read clause_read dec_read body_read head_read spec_read cons_read real_bind_read con_read tuple_read ty_read steps_by row_by out-StrExp roll-StrExp out-StrDec roll-StrDec roll-StrBind out-SigExp roll-SigExp out-Spec roll-Spec out-AtExp roll-AtExp out-Exp roll-Exp out-Dec roll-Dec denote.Hole.Carrier.out denote.Hole.Carrier.roll
nothing = refl

-- `; a ; signature G = H ; ; b`: an expression at the start, and one right behind a semicolon
expressions : program_read 9 false [] (word_token SEMICOLON ∷ name (codes "a") ∷ word_token SEMICOLON ∷ word_token SIGNATURE ∷ name (codes "G") ∷ word_token EQUALS ∷ name (codes "H") ∷ word_token SEMICOLON ∷ word_token SEMICOLON ∷ name (codes "b") ∷ the_end ∷ [])
    ≡ Ok (program_of (nowhere ∷ [], ((run_of (the (codes "a")), tt ∷ []) ∷ (sigs_of (nowhere, sigbind_of (ident (codes "G"), sig (codes "H")) ∷ []), tt ∷ tt ∷ []) ∷ (run_of (the (codes "b")), []) ∷ [], nowhere)), [])
unfolding base_read strbinds_read strdec_read sigbinds_read funbinds_read top_read run_read program_read at_exp_read row_read typed_read behind_and_read and_read behind_or_read or_read exp_read rule_read clause_read dec_read body_read head_read spec_read cons_read real_bind_read con_read tuple_read ty_read steps_by row_by out-StrExp roll-StrExp out-StrDec roll-StrDec roll-StrBind out-SigExp roll-SigExp out-Spec roll-Spec out-AtExp roll-AtExp out-Exp roll-Exp out-Dec roll-Dec denote.Hole.Carrier.out denote.Hole.Carrier.roll
expressions = refl

-- `structure S = A b`: no expression without a semicolon before it
no_semicolon : program_read 9 false [] (word_token STRUCTURE ∷ name (codes "S") ∷ word_token EQUALS ∷ name (codes "A") ∷ name (codes "b") ∷ the_end ∷ [])
    ≡ Err (Grammar, name (codes "b") ∷ the_end ∷ [])
unfolding base_read strbinds_read strdec_read sigbinds_read funbinds_read top_read run_read program_read at_exp_read row_read typed_read behind_and_read and_read behind_or_read or_read exp_read rule_read clause_read dec_read body_read head_read spec_read cons_read real_bind_read con_read tuple_read ty_read steps_by row_by out-StrExp roll-StrExp out-StrDec roll-StrDec roll-StrBind out-SigExp roll-SigExp out-Spec roll-Spec out-AtExp roll-AtExp out-Exp roll-Exp out-Dec roll-Dec denote.Hole.Carrier.out denote.Hole.Carrier.roll
no_semicolon = refl

-- `a structure S = A`: nor behind it, but at the end
no_semicolon_behind : program_read 9 false [] (name (codes "a") ∷ word_token STRUCTURE ∷ name (codes "S") ∷ word_token EQUALS ∷ name (codes "A") ∷ the_end ∷ [])
    ≡ Err (Grammar, word_token STRUCTURE ∷ name (codes "S") ∷ word_token EQUALS ∷ name (codes "A") ∷ the_end ∷ [])
unfolding base_read strbinds_read strdec_read sigbinds_read funbinds_read top_read run_read program_read at_exp_read row_read typed_read behind_and_read and_read behind_or_read or_read exp_read rule_read clause_read dec_read body_read head_read spec_read cons_read real_bind_read con_read tuple_read ty_read steps_by row_by out-StrExp roll-StrExp out-StrDec roll-StrDec roll-StrBind out-SigExp roll-SigExp out-Spec roll-Spec out-AtExp roll-AtExp out-Exp roll-Exp out-Dec roll-Dec denote.Hole.Carrier.out denote.Hole.Carrier.roll
no_semicolon_behind = refl

-- the directives of a structure end with it
changes_structs : (p : Place) (bs : List StrBind) → strdec_changes (roll-StrDec (StrDec-F.Structs p bs)) ≡ []
changes_structs p bs = fold-roll-StrDec (Unit {0}) Changes (Unit {0}) (λ b. tt) strdec_changes_step (λ e. tt) (StrDec-F.Structs p bs)

changes_core : (p : Place) (d : Dec) → strdec_changes (roll-StrDec (StrDec-F.Core p d)) ≡ changes d
changes_core p d = fold-roll-StrDec (Unit {0}) Changes (Unit {0}) (λ b. tt) strdec_changes_step (λ e. tt) (StrDec-F.Core p d)

-- those before the `in` of a `local` too
changes_local : (p : Place) (ds es : List StrDec) → strdec_changes (roll-StrDec (StrDec-F.LocalStr p ds es)) ≡ all_of (map strdec_changes es)
changes_local p ds es = fold-roll-StrDec (Unit {0}) Changes (Unit {0}) (λ b. tt) strdec_changes_step (λ e. tt) (StrDec-F.LocalStr p ds es)

-- `infix a`
abbrev infixed : De
infixed = fix_of false (nowhere, (None, ident (codes "a") ∷ []))

abbrev left : Changes
left = (codes "a", Some (0, ToLeft)) ∷ []

changes_infix : (p : Place) (vs : List Ident) → changes (roll-Dec (Dec-F.Fix p false None vs)) ≡ map (λ x. (x.1, Some (0, ToLeft))) vs
changes_infix p vs = fold-roll-Dec (Unit {0}) (Unit {0}) Changes (Unit {0}) (Unit {0}) (λ a. tt) (λ c. tt) changes_step (λ e. tt) (λ r. tt) (Dec-F.Fix p false None vs)

-- at the top it is in force in what follows
infix_goes_on : str_after [] (core_of infixed) ≡ left
infix_goes_on = changes_core _ _ ∙ changes_infix nowhere (ident (codes "a") ∷ [])

-- `structure S = struct infix a end` leaves none
infix_ends : (cs : Changes) → str_after cs (structure_of (codes "S") (body_of (nowhere, core_of infixed ∷ []))) ≡ cs ++ []
infix_ends cs = ap (λ (x : Changes). cs ++ x) (changes_structs nowhere _)

-- `infix a structure S = struct infix a end`, and what is in force in the next source
next_source : left_by [] (program_of ([], ((strs_of (core_of infixed), []) ∷ (strs_of (structure_of (codes "S") (body_of (nowhere, core_of infixed ∷ []))), tt ∷ []) ∷ [], nowhere))) ≡ left
next_source = infix_ends _ ∙ (append-nil _ ∙ infix_goes_on)
