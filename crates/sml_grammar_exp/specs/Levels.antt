-- Expressions and declarations of all heights (the Definition, figures 4, 15 and 17).
use Rattle.std.specs.Prelude.{ℕ, zero, suc, Bool, List}
use Rattle.readers.specs.Language.{Or}
use Rattle.readers.specs.Room.{Room, at_height}
use Rattle.sml_lex.specs.declared.token.Token.{Token}
use Rattle.sml_grammar.specs.Types.{ty_on}
use Rattle.sml_grammar.specs.Pats.{pat_on}
use Rattle.sml_grammar_exp.specs.Exps.{At, Ex, Ru, De, at_form, row_form, typed_form, and_form, or_form, handle_form, far_form, rule_form}
use Rattle.sml_grammar_exp.specs.Binds.{cons_on, exbind_on}
use Rattle.sml_grammar_exp.specs.Clauses.{HeadR}
use Rattle.sml_grammar_exp.specs.Decs.{Cl, ClauseD, Changes, fixed, afters, dec_form, decs_form}

-- a tree of this height, which is at most the first, derives the tokens; the Boolean tells whether operators may clash
unfoldable mutual
  pub at_on : ℕ → Bool → Changes → At → List Token → Type 0
  at_on zero b cs t w = ⊥
  at_on (suc h) b cs t w = at_form (fixed cs) (decs_form (dec_on h b) cs) (exp_on h b cs) (λ ds. exp_on h b (afters cs ds)) t w

  -- rows of operators
  pub row_on : ℕ → Bool → Changes → Ex → List Token → Type 0
  row_on zero b cs t w = ⊥
  row_on (suc h) b cs t w = row_form b (fixed cs) (at_on h b cs) (row_on h b cs) t w

  -- rows with types
  pub typed_on : ℕ → Bool → Changes → Ex → List Token → Type 0
  typed_on zero b cs t w = ⊥
  typed_on (suc h) b cs t w = typed_form (row_form b (fixed cs) (at_on h b cs) (row_on h b cs)) (ty_on h) (typed_on h b cs) t w

  -- what stands behind `andalso`: the same, or what reaches far
  pub behind_and_on : ℕ → Bool → Changes → Ex → List Token → Type 0
  behind_and_on zero b cs t w = ⊥
  behind_and_on (suc h) b cs t w =
      Or (typed_form (row_form b (fixed cs) (at_on h b cs) (row_on h b cs)) (ty_on h) (typed_on h b cs)) (far_form (exp_on h b cs) (rule_on h b cs)) t w

  pub and_on : ℕ → Bool → Changes → Ex → List Token → Type 0
  and_on zero b cs t w = ⊥
  and_on (suc h) b cs t w =
      and_form (typed_form (row_form b (fixed cs) (at_on h b cs) (row_on h b cs)) (ty_on h) (typed_on h b cs)) (behind_and_on h b cs) (and_on h b cs) t w

  -- what stands behind `orelse`
  pub behind_or_on : ℕ → Bool → Changes → Ex → List Token → Type 0
  behind_or_on zero b cs t w = ⊥
  behind_or_on (suc h) b cs t w =
      Or (and_form (typed_form (row_form b (fixed cs) (at_on h b cs) (row_on h b cs)) (ty_on h) (typed_on h b cs)) (behind_and_on h b cs) (and_on h b cs)) (far_form (exp_on h b cs) (rule_on h b cs)) t w

  pub or_on : ℕ → Bool → Changes → Ex → List Token → Type 0
  or_on zero b cs t w = ⊥
  or_on (suc h) b cs t w =
      or_form (and_form (typed_form (row_form b (fixed cs) (at_on h b cs) (row_on h b cs)) (ty_on h) (typed_on h b cs)) (behind_and_on h b cs) (and_on h b cs)) (behind_or_on h b cs) (or_on h b cs) t w

  pub exp_on : ℕ → Bool → Changes → Ex → List Token → Type 0
  exp_on zero b cs t w = ⊥
  exp_on (suc h) b cs t w =
      Or (handle_form (or_form (and_form (typed_form (row_form b (fixed cs) (at_on h b cs) (row_on h b cs)) (ty_on h) (typed_on h b cs)) (behind_and_on h b cs) (and_on h b cs)) (behind_or_on h b cs) (or_on h b cs)) (rule_on h b cs) (or_on h b cs))
      (far_form (exp_on h b cs) (rule_on h b cs)) t w

  pub rule_on : ℕ → Bool → Changes → Ru → List Token → Type 0
  rule_on zero b cs t w = ⊥
  rule_on (suc h) b cs t w = rule_form (pat_on h b (fixed cs)) (exp_on h b cs) t w

  pub clause_on : ℕ → Bool → Changes → Cl → List Token → Type 0
  clause_on zero b cs t w = ⊥
  clause_on (suc h) b cs t w = ClauseD (HeadR (fixed cs) (at_height h b)) (ty_on h) (exp_on h b cs) t w

  pub dec_on : ℕ → Bool → Changes → De → List Token → Type 0
  dec_on zero b cs t w = ⊥
  dec_on (suc h) b cs t w =
      dec_form (decs_form (dec_on h b) cs) (λ ds. decs_form (dec_on h b) (afters cs ds)) (ty_on h) (cons_on h (fixed cs)) (exbind_on h (fixed cs)) (pat_on h b (fixed cs)) (exp_on h b cs) (clause_on h b cs) t w

-- the same in a room
abbrev pub AtR : Changes → Room → At → List Token → Type 0
AtR cs r = at_on r.height r.clashes cs

abbrev pub RowR : Changes → Room → Ex → List Token → Type 0
RowR cs r = row_on r.height r.clashes cs

abbrev pub TypedR : Changes → Room → Ex → List Token → Type 0
TypedR cs r = typed_on r.height r.clashes cs

abbrev pub BehindAndR : Changes → Room → Ex → List Token → Type 0
BehindAndR cs r = behind_and_on r.height r.clashes cs

abbrev pub AndR : Changes → Room → Ex → List Token → Type 0
AndR cs r = and_on r.height r.clashes cs

abbrev pub BehindOrR : Changes → Room → Ex → List Token → Type 0
BehindOrR cs r = behind_or_on r.height r.clashes cs

abbrev pub OrR : Changes → Room → Ex → List Token → Type 0
OrR cs r = or_on r.height r.clashes cs

abbrev pub ExpR : Changes → Room → Ex → List Token → Type 0
ExpR cs r = exp_on r.height r.clashes cs

abbrev pub RuleR : Changes → Room → Ru → List Token → Type 0
RuleR cs r = rule_on r.height r.clashes cs

abbrev pub ClauseR : Changes → Room → Cl → List Token → Type 0
ClauseR cs r = clause_on r.height r.clashes cs

abbrev pub DecR : Changes → Room → De → List Token → Type 0
DecR cs r = dec_on r.height r.clashes cs

-- a row of declarations
abbrev pub DecsR : Changes → Room → List De → List Token → Type 0
DecsR cs r = decs_form (λ c. DecR c r) cs
