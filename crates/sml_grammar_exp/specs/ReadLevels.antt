-- Reading expressions and declarations, with their heights.
use Rattle.std.specs.Prelude.{ℕ, zero, suc, Bool, false, ◌||◌, is_some, [], ◌∷◌}
use Rattle.readers.specs.declared.floor.Floor.{Floor}
use Rattle.readers.specs.Reader.{Reader, shut}
use Rattle.readers.specs.Infix.{ground}
use Rattle.sml_lex.specs.declared.token.Token.{Token}
use Rattle.sml_fix.specs.Fixities.{Settings}
use Rattle.sml_grammar.specs.ReadTypes.{ty_read}
use Rattle.sml_grammar.specs.ReadPats.{pat_read, begins_at as begins_pat}
use Rattle.sml_grammar_exp.specs.Exps.{At, Ex, Ru, De}
use Rattle.sml_grammar_exp.specs.ReadExps.{begins_at, begins_exp, at_level, row_level, typed_level, and_level, or_level, handle_level, far_level, or_far, rule_level}
use Rattle.sml_grammar_exp.specs.ReadBinds.{cons_read, exbind_read}
use Rattle.sml_grammar_exp.specs.ReadClauses.{begins_head, head_read}
use Rattle.sml_grammar_exp.specs.Decs.{Cl, Changes, fixed, afters}
use Rattle.sml_grammar_exp.specs.ReadDecs.{begins_dec, clause_level, dec_level, decs_level}

-- whether some identifier of these is an operator under the fixities
abbrev pub some_listed : Settings → Changes → Bool
some_listed fix [] = false
some_listed fix (c ∷ cs) = is_some (fix c.0) || some_listed fix cs

-- whether some identifier is an operator where these directives are in force
abbrev pub some_operator : Changes → Bool
some_operator cs = some_listed (fixed cs) cs

unfoldable mutual
  pub at_exp_read : ℕ → Bool → Changes → Reader Token At
  at_exp_read zero b cs s = shut (begins_at (fixed cs)) s
  at_exp_read (suc h) b cs s = at_level (fixed cs) (decs_level (dec_read h b) cs) (exp_read h b cs) (λ ds. exp_read h b (afters cs ds)) h s

  -- a row on a floor
  pub row_read : ℕ → Bool → Floor → Changes → Reader Token Ex
  row_read zero b n cs s = shut (begins_at (fixed cs)) s
  row_read (suc h) b n cs s = row_level (fixed cs) b (at_exp_read h b cs) (λ m. row_read h b m cs) h n s

  pub typed_read : ℕ → Bool → Changes → Reader Token Ex
  typed_read zero b cs s = shut (begins_at (fixed cs)) s
  typed_read (suc h) b cs s = typed_level (row_level (fixed cs) b (at_exp_read h b cs) (λ m. row_read h b m cs) h ground) (ty_read h) h s

  pub behind_and_read : ℕ → Bool → Changes → Reader Token Ex
  behind_and_read zero b cs s = shut (begins_exp (fixed cs)) s
  behind_and_read (suc h) b cs s =
      or_far (fixed cs) (typed_level (row_level (fixed cs) b (at_exp_read h b cs) (λ m. row_read h b m cs) h ground) (ty_read h) h) (far_level (exp_read h b cs) (rule_read h b cs) h) h s

  pub and_read : ℕ → Bool → Changes → Reader Token Ex
  and_read zero b cs s = shut (begins_at (fixed cs)) s
  and_read (suc h) b cs s =
      and_level (typed_level (row_level (fixed cs) b (at_exp_read h b cs) (λ m. row_read h b m cs) h ground) (ty_read h) h) (behind_and_read h b cs) h s

  pub behind_or_read : ℕ → Bool → Changes → Reader Token Ex
  behind_or_read zero b cs s = shut (begins_exp (fixed cs)) s
  behind_or_read (suc h) b cs s =
      or_far (fixed cs) (and_level (typed_level (row_level (fixed cs) b (at_exp_read h b cs) (λ m. row_read h b m cs) h ground) (ty_read h) h) (behind_and_read h b cs) h)
      (far_level (exp_read h b cs) (rule_read h b cs) h) h s

  pub or_read : ℕ → Bool → Changes → Reader Token Ex
  or_read zero b cs s = shut (begins_at (fixed cs)) s
  or_read (suc h) b cs s =
      or_level (and_level (typed_level (row_level (fixed cs) b (at_exp_read h b cs) (λ m. row_read h b m cs) h ground) (ty_read h) h) (behind_and_read h b cs) h)
      (behind_or_read h b cs) h s

  -- an expression of at most this height
  pub exp_read : ℕ → Bool → Changes → Reader Token Ex
  exp_read zero b cs s = shut (begins_exp (fixed cs)) s
  exp_read (suc h) b cs s =
      or_far (fixed cs)
      (handle_level (or_level (and_level (typed_level (row_level (fixed cs) b (at_exp_read h b cs) (λ m. row_read h b m cs) h ground) (ty_read h) h) (behind_and_read h b cs) h)
      (behind_or_read h b cs) h) (rule_read h b cs) h)
      (far_level (exp_read h b cs) (rule_read h b cs) h) h s

  pub rule_read : ℕ → Bool → Changes → Reader Token Ru
  rule_read zero b cs s = shut (begins_pat (fixed cs)) s
  rule_read (suc h) b cs s = rule_level (fixed cs) (pat_read h b (fixed cs)) (exp_read h b cs) h s

  pub clause_read : ℕ → Bool → Changes → Reader Token Cl
  clause_read zero b cs s = shut (begins_head (some_operator cs) (fixed cs)) s
  clause_read (suc h) b cs s = clause_level (some_operator cs) (fixed cs) (head_read (some_operator cs) h b (fixed cs)) (ty_read h) (exp_read h b cs) h s

  -- a declaration of at most this height
  pub dec_read : ℕ → Bool → Changes → Reader Token De
  dec_read zero b cs s = shut begins_dec s
  dec_read (suc h) b cs s =
      dec_level (some_operator cs) (fixed cs) (decs_level (dec_read h b) cs) (λ ds. decs_level (dec_read h b) (afters cs ds)) (ty_read h) (cons_read h (fixed cs)) (exbind_read h (fixed cs)) (pat_read h b (fixed cs))
      (exp_read h b cs) (clause_read h b cs) h s
