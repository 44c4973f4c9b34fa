-- Reading top-level declarations and whole programs.
use Rattle.std.specs.Prelude.{ℕ, zero, suc, Bool, false, not, List}
use Rattle.readers.specs.Reader.{Reader, both, mapped, token_by, else_by, only, row, steps, shut}
use Rattle.readers.specs.Forms.{else_if, ended}
use Rattle.sml_lex.specs.declared.token.Token.{Token}
use Rattle.sml_fix.specs.Fixities.{Settings}
use Rattle.sml_grammar.specs.Words.{FUNCTOR, SEMICOLON, SIGNATURE}
use Rattle.sml_grammar.specs.Tokens.{Firsts, just, union, is, the, among, tokens_of}
use Rattle.sml_grammar_exp.specs.Exps.{Ex}
use Rattle.sml_grammar_exp.specs.Decs.{Changes, fixed}
use Rattle.sml_grammar_exp.specs.ReadExps.{exp_firsts, begins_exp}
use Rattle.sml_grammar_exp.specs.ReadDecs.{semis_read}
use Rattle.sml_grammar_exp.specs.ReadLevels.{exp_read}
use Rattle.sml_grammar_mod.specs.Strs.{Sd, Gb, Fb}
use Rattle.sml_grammar_mod.specs.ReadStrs.{strdec_firsts, strdec_goes, sigbinds_read, funbinds_read, strdec_read}
use Rattle.sml_grammar_mod.specs.Programs.{Tp, Pr, Item, Before, Site, after_item, strs_of, sigs_of, funs_of, run_of, program_of, ends, is_end, the_end, left_by}

abbrev pub top_firsts : Firsts
top_firsts = union (union (just SIGNATURE) (just FUNCTOR)) strdec_firsts

abbrev pub begins_top : Token → Bool
begins_top = tokens_of top_firsts

-- programs begin with these, with a semicolon, an expression or the end of the source
abbrev pub program_firsts : Firsts
program_firsts = union top_firsts (union exp_firsts (union (just SEMICOLON) ends))

abbrev pub begins_program : Settings → Token → Bool
begins_program fix = among fix program_firsts

-- ---- one level, where what stands inside may have the height

-- what no declaration may be followed by is refused at once
abbrev pub top_level : Reader Token Sd → Reader Token (List Gb) → Reader Token (List Fb) → ℕ → Reader Token Tp
top_level dec sigs funs h =
    else_by (is SIGNATURE) 2 (mapped sigs_of (ended (tokens_of strdec_goes) (both (token_by (the SIGNATURE)) sigs)))
    (else_by (is FUNCTOR) 2 (mapped funs_of (ended (tokens_of strdec_goes) (both (token_by (the FUNCTOR)) funs)))
    (mapped strs_of dec) h) h

abbrev pub run_level : Settings → Reader Token Ex → ℕ → Reader Token Tp
run_level fix exp h = only (begins_exp fix) 2 (mapped run_of (ended (tokens_of strdec_goes) exp)) h

-- what may stand here: nothing behind an expression without a semicolon
abbrev pub here_read : Reader Token Tp → Reader Token Tp → Before → Reader Token Tp
here_read top run Before.Fresh = else_if begins_top top run
here_read top run Before.Declared = top
here_read top run Before.Evaluated = shut (λ c. false)

abbrev pub item_read : (Changes → Reader Token Tp) → (Changes → Reader Token Tp) → Site → Reader Token Item
item_read top run x = both (here_read (top x.0) (run x.0) x.1) semis_read

abbrev pub going_on : Token → Bool
going_on c = not (is_end c)

-- up to the end of the source
abbrev pub program_level : (Changes → Reader Token Tp) → (Changes → Reader Token Tp) → Changes → Reader Token Pr
program_level top run cs =
    mapped program_of (both (row (is SEMICOLON) (token_by (the SEMICOLON))) (both (steps going_on after_item (item_read top run) (cs, Before.Fresh)) (token_by the_end)))

-- ---- all heights

unfoldable pub top_read : ℕ → Bool → Changes → Reader Token Tp
top_read zero b cs s = shut begins_top s
top_read (suc h) b cs s = top_level (strdec_read h b cs) (sigbinds_read h) (funbinds_read h b cs) h s

unfoldable pub run_read : ℕ → Bool → Changes → Reader Token Tp
run_read zero b cs s = shut (begins_exp (fixed cs)) s
run_read (suc h) b cs s = run_level (fixed cs) (exp_read h b cs) h s

-- a program of at most this height
unfoldable pub program_read : ℕ → Bool → Changes → Reader Token Pr
program_read zero b cs s = shut (begins_program (fixed cs)) s
program_read (suc h) b cs s = program_level (top_read h b) (run_read h b) cs s

-- the same, with the directives in force behind it
abbrev pub source_read : ℕ → Bool → Changes → Reader Token (Pr × Changes)
source_read h b cs = mapped (λ t. (t, left_by cs t)) (program_read h b cs)
