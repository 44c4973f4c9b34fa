-- Expressions and declarations of all heights are read exactly, where the fronts of clauses are.
use Rattle.std.proofs.Common.{◌≡◌, ℕ, zero, suc, Bool, false, List, ◌++◌, refl}
use Rattle.readers.specs.declared.floor.Floor.{Floor}
use Rattle.readers.specs.Reader.{Reader}
use Rattle.readers.specs.Language.{Or}
use Rattle.readers.specs.Room.{Room}
use Rattle.readers.specs.Infix.{ground}
use Rattle.readers.specs.Exact.{always}
use Rattle.readers.specs.Forms.{height_of, at_least, Seps, Ready}
use Rattle.readers.proofs.Bundle.{Known, Phrase}
use Rattle.readers.proofs.Operators.{Standing, Level}
use Rattle.readers.proofs.Levels.{Knot, Tower, all_of, lifted, lowest_sizes, lowest_readings, lowest_refusals}
use Rattle.sml_lex.specs.declared.token.Token.{Token}
use Rattle.sml_grammar.specs.Words.{AND, BAR}
use Rattle.sml_grammar.specs.Types.{TyR}
use Rattle.sml_grammar.specs.ReadTypes.{ty_in}
use Rattle.sml_grammar.specs.Pats.{tight, right, PatR}
use Rattle.sml_grammar.specs.ReadPats.{begins_at as begins_pat}
use Rattle.sml_grammar.specs.Tokens.{is, operator}
use Rattle.sml_grammar.proofs.Shapes.{stops}
use Rattle.sml_grammar.proofs.Types.{ty_exact}
use Rattle.sml_grammar.proofs.Pats.{pat_exact, pat_in}
use Rattle.sml_grammar_exp.specs.Exps.{At, Ex, Ru, De, apply_of, infix_of, top, at_form, ApplyD, row_form, typed_form, and_form, or_form, handle_form, far_form, rule_form}
use Rattle.sml_grammar_exp.specs.ReadExps.{begins_at, begins_exp, at_level, row_level, typed_level, and_level, or_level, handle_level, far_level, or_far, rule_level}
use Rattle.sml_grammar_exp.specs.Binds.{ConsR, ExBindR}
use Rattle.sml_grammar_exp.specs.Clauses.{Head, head_height, HeadR}
use Rattle.sml_grammar_exp.specs.ReadClauses.{begins_head, head_goes, head_read}
use Rattle.sml_grammar_exp.specs.Decs.{Changes, fixed, afters, Cl, ClauseD, clause_bar, dec_form}
use Rattle.sml_grammar_exp.specs.ReadDecs.{row_goes, begins_dec, vars_next, clause_level, dec_level, decs_level}
use Rattle.sml_grammar_exp.specs.Levels.{at_on, row_on, typed_on, behind_and_on, and_on, behind_or_on, or_on, exp_on, rule_on, clause_on, dec_on, AtR, RowR, TypedR, BehindAndR, AndR, BehindOrR, OrR, ExpR, RuleR, ClauseR, DecR, DecsR}
use Rattle.sml_grammar_exp.specs.ReadLevels.{some_operator, at_exp_read, row_read, typed_read, behind_and_read, and_read, behind_or_read, or_read, exp_read, rule_read, clause_read, dec_read}
use Rattle.sml_grammar_exp.proofs.Stops.{typed_stop, and_stop, or_stop, exp_stop, rule_stop, colon_stop, andalso_stop}
use Rattle.sml_grammar_exp.proofs.Atoms.{at_now}
use Rattle.sml_grammar_exp.proofs.Rows.{ends_row, base, row_now, typed_now, and_now, or_now, handle_now, far_now, or_far_now, exp_now, rule_now}
use Rattle.sml_grammar_exp.proofs.Binds.{cons_in, exbind_in, cons_exact, exbind_exact}
use Rattle.sml_grammar_exp.proofs.Decs.{dec_stop, clause_stop, clause_now, dec_now, decs_now}
use Rattle.sml_grammar_exp.proofs.Views.{vbs_plain, clause_plain, clauses_plain}

-- the readers in a room
abbrev pub at_in : Changes → Room → Reader Token At
at_in cs r = at_exp_read r.height r.clashes cs

abbrev pub row_in : Changes → Room → Floor → Reader Token Ex
row_in cs r m = row_read r.height r.clashes m cs

abbrev pub typed_in : Changes → Room → Reader Token Ex
typed_in cs r = typed_read r.height r.clashes cs

abbrev pub behind_and_in : Changes → Room → Reader Token Ex
behind_and_in cs r = behind_and_read r.height r.clashes cs

abbrev pub and_in : Changes → Room → Reader Token Ex
and_in cs r = and_read r.height r.clashes cs

abbrev pub behind_or_in : Changes → Room → Reader Token Ex
behind_or_in cs r = behind_or_read r.height r.clashes cs

abbrev pub or_in : Changes → Room → Reader Token Ex
or_in cs r = or_read r.height r.clashes cs

abbrev pub exp_in : Changes → Room → Reader Token Ex
exp_in cs r = exp_read r.height r.clashes cs

abbrev pub rule_in : Changes → Room → Reader Token Ru
rule_in cs r = rule_read r.height r.clashes cs

abbrev pub head_in : Changes → Room → Reader Token Head
head_in cs r = head_read (some_operator cs) r.height r.clashes (fixed cs)

abbrev pub clause_in : Changes → Room → Reader Token Cl
clause_in cs r = clause_read r.height r.clashes cs

abbrev pub dec_in : Changes → Room → Reader Token De
dec_in cs r = dec_read r.height r.clashes cs

module _ (cs : Changes) where
  abbrev pub AtP : Known → ℕ → Type 0
  AtP s n = Phrase s n 0 (AtR cs) (at_in cs) always height_of 1 0 (begins_at (fixed cs)) 3

  abbrev pub RowP : Known → ℕ → Type 0
  RowP s n = (m : Floor) → Phrase s n 0 (Standing (tight (fixed cs)) (right (fixed cs)) (operator (fixed cs)) top (at_least 2) apply_of infix_of (RowR cs) m) (λ k. row_in cs k m) (λ t. ends_row (fixed cs) m) height_of 2 0 (begins_at (fixed cs)) 4

  abbrev pub TypedP : Known → ℕ → Type 0
  TypedP s n = Phrase s n 0 (TypedR cs) (typed_in cs) typed_stop height_of 2 0 (begins_at (fixed cs)) 4

  abbrev pub BehindAndP : Known → ℕ → Type 0
  BehindAndP s n = Phrase s n 0 (BehindAndR cs) (behind_and_in cs) typed_stop height_of 2 0 (begins_exp (fixed cs)) 4

  abbrev pub AndP : Known → ℕ → Type 0
  AndP s n = Phrase s n 0 (AndR cs) (and_in cs) and_stop height_of 2 0 (begins_at (fixed cs)) 4

  abbrev pub BehindOrP : Known → ℕ → Type 0
  BehindOrP s n = Phrase s n 0 (BehindOrR cs) (behind_or_in cs) and_stop height_of 2 0 (begins_exp (fixed cs)) 4

  abbrev pub OrP : Known → ℕ → Type 0
  OrP s n = Phrase s n 0 (OrR cs) (or_in cs) or_stop height_of 2 0 (begins_at (fixed cs)) 4

  abbrev pub ExpP : Known → ℕ → Type 0
  ExpP s n = Phrase s n 0 (ExpR cs) (exp_in cs) exp_stop height_of 2 0 (begins_exp (fixed cs)) 4

  abbrev pub RuleP : Known → ℕ → Type 0
  RuleP s n = Phrase s n 0 (RuleR cs) (rule_in cs) rule_stop height_of 3 0 (begins_pat (fixed cs)) 3

  abbrev pub HeadP : Known → ℕ → Type 0
  HeadP s n = Phrase s n 0 (HeadR (fixed cs)) (head_in cs) (λ t. stops head_goes) head_height 1 0 (begins_head (some_operator cs) (fixed cs)) 1

  abbrev pub ClauseP : Known → ℕ → Type 0
  ClauseP s n = Phrase s n 0 (ClauseR cs) (clause_in cs) clause_stop height_of 3 0 (begins_head (some_operator cs) (fixed cs)) 3

  abbrev pub DecP : Known → ℕ → Type 0
  DecP s n = Phrase s n 0 (DecR cs) (dec_in cs) dec_stop height_of 1 0 begins_dec 4

  -- ---- one level

  abbrev row_level_on : Room → Ex → List Token → Type 0
  row_level_on k = row_form k.clashes (fixed cs) (AtR cs k) (RowR cs k)

  abbrev row_level_in : Room → Reader Token Ex
  row_level_in k = row_level (fixed cs) k.clashes (at_in cs k) (row_in cs k) k.height ground

  abbrev typed_level_on : Room → Ex → List Token → Type 0
  typed_level_on k = typed_form (row_level_on k) (TyR k) (TypedR cs k)

  abbrev typed_level_in : Room → Reader Token Ex
  typed_level_in k = typed_level (row_level_in k) (ty_in k) k.height

  abbrev far_level_on : Room → Ex → List Token → Type 0
  far_level_on k = far_form (ExpR cs k) (RuleR cs k)

  abbrev far_level_in : Room → Reader Token Ex
  far_level_in k = far_level (exp_in cs k) (rule_in cs k) k.height

  abbrev and_level_on : Room → Ex → List Token → Type 0
  and_level_on k = and_form (typed_level_on k) (BehindAndR cs k) (AndR cs k)

  abbrev and_level_in : Room → Reader Token Ex
  and_level_in k = and_level (typed_level_in k) (behind_and_in cs k) k.height

  abbrev or_level_on : Room → Ex → List Token → Type 0
  or_level_on k = or_form (and_level_on k) (BehindOrR cs k) (OrR cs k)

  abbrev or_level_in : Room → Reader Token Ex
  or_level_in k = or_level (and_level_in k) (behind_or_in cs k) k.height

  abbrev handle_level_on : Room → Ex → List Token → Type 0
  handle_level_on k = handle_form (or_level_on k) (RuleR cs k) (OrR cs k)

  abbrev handle_level_in : Room → Reader Token Ex
  handle_level_in k = handle_level (or_level_in k) (rule_in cs k) k.height

  module _ {s : Known} {n : ℕ} (A : AtP s n) (R : RowP s n) (Y : TypedP s n) where
    row_base : Phrase s n 1 row_level_on row_level_in (λ t. stops row_goes) height_of 1 0 (begins_at (fixed cs)) 3
    unfolding row_on
    row_base = base (fixed cs) A (λ b t w d. d) (λ h b t w d. d) (λ h b t w d. d) R

    row_level_now : (m : Floor) → Phrase s n 1 (Level (tight (fixed cs)) (right (fixed cs)) (operator (fixed cs)) top (at_least 2) apply_of infix_of (λ k. ApplyD (AtR cs k)) (RowR cs) m) (λ k. row_level (fixed cs) k.clashes (at_in cs k) (row_in cs k) k.height m)
        (λ t. ends_row (fixed cs) m) height_of 1 0 (begins_at (fixed cs)) 3
    unfolding row_on
    row_level_now m = row_now (fixed cs) A (λ b t w d. d) (λ h b t w d. d) (λ h b t w d. d) R m

    typed_level_now : Phrase s n 1 typed_level_on typed_level_in typed_stop height_of 1 0 (begins_at (fixed cs)) 3
    unfolding typed_on
    typed_level_now = typed_now (fixed cs) (AtR cs) (RowR cs) row_base (ty_exact s n) (λ b t w d. d) (λ h b t w d. d) (λ h b t w d. d) Y

    module _ (Z : BehindAndP s n) (N : AndP s n) where
      and_level_now : Phrase s n 1 and_level_on and_level_in and_stop height_of 1 0 (begins_at (fixed cs)) 3
      unfolding and_on
      and_level_now = and_now (fixed cs) (λ b t w d. d) typed_level_now Z (λ h b t w d. d) (λ h b t w d. d) N

      module _ (V : BehindOrP s n) (O : OrP s n) where
        or_level_now : Phrase s n 1 or_level_on or_level_in or_stop height_of 1 0 (begins_at (fixed cs)) 3
        unfolding or_on
        or_level_now = or_now (fixed cs) (λ b t w d. d) and_level_now V (λ h b t w d. d) (λ h b t w d. d) O

        module _ (U : RuleP s n) where
          handle_level_now : Phrase s n 1 handle_level_on handle_level_in exp_stop height_of 1 0 (begins_at (fixed cs)) 3
          unfolding or_on
          handle_level_now = handle_now U (fixed cs) or_level_now O (λ b t w d. d) (λ h b t w d. d) (λ h b t w d. d)

  -- ---- what ties the levels

  at_knot : Knot (AtR cs) (λ k. at_form (fixed cs) (DecsR cs k) (ExpR cs k) (λ ds. ExpR (afters cs ds) k)) (at_in cs) (λ k. at_level (fixed cs) (decs_level (λ c. dec_in c k) cs) (exp_in cs k) (λ ds. exp_in (afters cs ds) k) k.height) (begins_at (fixed cs))
  unfolding at_on at_exp_read
  at_knot = record { none = λ b t w d. d; out = λ h b t w d. d; into = λ h b t w d. d; empty = λ b v. refl; next = λ h b v. refl }

  row_knot : (m : Floor) → Knot (Standing (tight (fixed cs)) (right (fixed cs)) (operator (fixed cs)) top (at_least 2) apply_of infix_of (RowR cs) m)
      (Level (tight (fixed cs)) (right (fixed cs)) (operator (fixed cs)) top (at_least 2) apply_of infix_of (λ k. ApplyD (AtR cs k)) (RowR cs) m) (λ k. row_in cs k m) (λ k. row_level (fixed cs) k.clashes (at_in cs k) (row_in cs k) k.height m) (begins_at (fixed cs))
  unfolding row_on row_read
  row_knot m = record { none = λ b t w d. d.1; out = λ h b t w d. d; into = λ h b t w d. d; empty = λ b v. refl; next = λ h b v. refl }

  typed_knot : Knot (TypedR cs) typed_level_on (typed_in cs) typed_level_in (begins_at (fixed cs))
  unfolding typed_on typed_read
  typed_knot = record { none = λ b t w d. d; out = λ h b t w d. d; into = λ h b t w d. d; empty = λ b v. refl; next = λ h b v. refl }

  behind_and_knot : Knot (BehindAndR cs) (λ k. Or (typed_level_on k) (far_level_on k)) (behind_and_in cs) (λ k. or_far (fixed cs) (typed_level_in k) (far_level_in k) k.height) (begins_exp (fixed cs))
  unfolding behind_and_on behind_and_read
  behind_and_knot = record { none = λ b t w d. d; out = λ h b t w d. d; into = λ h b t w d. d; empty = λ b v. refl; next = λ h b v. refl }

  and_knot : Knot (AndR cs) and_level_on (and_in cs) and_level_in (begins_at (fixed cs))
  unfolding and_on and_read
  and_knot = record { none = λ b t w d. d; out = λ h b t w d. d; into = λ h b t w d. d; empty = λ b v. refl; next = λ h b v. refl }

  behind_or_knot : Knot (BehindOrR cs) (λ k. Or (and_level_on k) (far_level_on k)) (behind_or_in cs) (λ k. or_far (fixed cs) (and_level_in k) (far_level_in k) k.height) (begins_exp (fixed cs))
  unfolding behind_or_on behind_or_read
  behind_or_knot = record { none = λ b t w d. d; out = λ h b t w d. d; into = λ h b t w d. d; empty = λ b v. refl; next = λ h b v. refl }

  or_knot : Knot (OrR cs) or_level_on (or_in cs) or_level_in (begins_at (fixed cs))
  unfolding or_on or_read
  or_knot = record { none = λ b t w d. d; out = λ h b t w d. d; into = λ h b t w d. d; empty = λ b v. refl; next = λ h b v. refl }

  exp_knot : Knot (ExpR cs) (λ k. Or (handle_level_on k) (far_level_on k)) (exp_in cs) (λ k. or_far (fixed cs) (handle_level_in k) (far_level_in k) k.height) (begins_exp (fixed cs))
  unfolding exp_on exp_read
  exp_knot = record { none = λ b t w d. d; out = λ h b t w d. d; into = λ h b t w d. d; empty = λ b v. refl; next = λ h b v. refl }

  rule_knot : Knot (RuleR cs) (λ k. rule_form (PatR (fixed cs) k) (ExpR cs k)) (rule_in cs) (λ k. rule_level (fixed cs) (pat_in (fixed cs) k) (exp_in cs k) k.height) (begins_pat (fixed cs))
  unfolding rule_on rule_read
  rule_knot = record { none = λ b t w d. d; out = λ h b t w d. d; into = λ h b t w d. d; empty = λ b v. refl; next = λ h b v. refl }

  clause_knot : Knot (ClauseR cs) (λ k. ClauseD (HeadR (fixed cs) k) (TyR k) (ExpR cs k)) (clause_in cs) (λ k. clause_level (some_operator cs) (fixed cs) (head_in cs k) (ty_in k) (exp_in cs k) k.height) (begins_head (some_operator cs) (fixed cs))
  unfolding clause_on clause_read
  clause_knot = record { none = λ b t w d. d; out = λ h b t w d. d; into = λ h b t w d. d; empty = λ b v. refl; next = λ h b v. refl }

  dec_knot : Knot (DecR cs) (λ k. dec_form (DecsR cs k) (λ ds. DecsR (afters cs ds) k) (TyR k) (ConsR (fixed cs) k) (ExBindR (fixed cs) k) (PatR (fixed cs) k) (ExpR cs k) (ClauseR cs k)) (dec_in cs)
      (λ k. dec_level (some_operator cs) (fixed cs) (decs_level (λ c. dec_in c k) cs) (λ ds. decs_level (λ c. dec_in c k) (afters cs ds)) (ty_in k) (cons_in (fixed cs) k) (exbind_in (fixed cs) k) (pat_in (fixed cs) k) (exp_in cs k) (clause_in cs k) k.height) begins_dec
  unfolding dec_on dec_read
  dec_knot = record { none = λ b t w d. d; out = λ h b t w d. d; into = λ h b t w d. d; empty = λ b v. refl; next = λ h b v. refl }

  one_view : (h : ℕ) (b : Bool) (c : Cl) (w r : List Token) → clause_on h b cs c w → vars_next (w ++ r) ≡ false
  unfolding clause_on
  one_view zero b c w r d = absurd d
  one_view (suc h) b c w r d = clause_plain (fixed cs) h b _ _ c w r d

  clauses_view : (k : Room) (x : List (List Cl)) (w r : List Token) → Seps (is AND) (Ready (is BAR) clause_bar (ClauseR cs k)) x w → vars_next (w ++ r) ≡ false
  clauses_view k x w r d = clauses_plain (fixed cs) (ClauseR cs k) (λ c. one_view k.height k.clashes c) x w r d

-- ---- all levels

-- what is known of all phrases up to a height, under all fixities
pub record All (s : Known) (n : ℕ) : Type 0 where
  pub at : (cs : Changes) → AtP cs s n
  pub row : (cs : Changes) → RowP cs s n
  pub typed : (cs : Changes) → TypedP cs s n
  pub behind_and : (cs : Changes) → BehindAndP cs s n
  pub and_also : (cs : Changes) → AndP cs s n
  pub behind_or : (cs : Changes) → BehindOrP cs s n
  pub or_else : (cs : Changes) → OrP cs s n
  pub exp : (cs : Changes) → ExpP cs s n
  pub rule : (cs : Changes) → RuleP cs s n
  pub clause : (cs : Changes) → ClauseP cs s n
  pub dec : (cs : Changes) → DecP cs s n

module _ (H : (cs : Changes) (s : Known) (n : ℕ) → HeadP cs s n) where
  step : (s : Known) (n : ℕ) → All s n → All s (suc n)
  step s n a = record {
    at = λ cs. lifted (at_knot cs) (at_now (fixed cs) (a.exp cs) (λ ds. fixed (afters cs ds)) (λ ds. a.exp (afters cs ds)) (decs_now a.dec cs));
    row = λ cs m. lifted (row_knot cs m) (row_level_now cs (a.at cs) (a.row cs) (a.typed cs) m);
    typed = λ cs. lifted (typed_knot cs) (typed_level_now cs (a.at cs) (a.row cs) (a.typed cs));
    behind_and = λ cs. lifted (behind_and_knot cs) (or_far_now (fixed cs) (ExpR cs) (RuleR cs) colon_stop (far_now (a.rule cs) (fixed cs) (a.exp cs)) (typed_level_now cs (a.at cs) (a.row cs) (a.typed cs)));
    and_also = λ cs. lifted (and_knot cs) (and_level_now cs (a.at cs) (a.row cs) (a.typed cs) (a.behind_and cs) (a.and_also cs));
    behind_or = λ cs. lifted (behind_or_knot cs) (or_far_now (fixed cs) (ExpR cs) (RuleR cs) andalso_stop (far_now (a.rule cs) (fixed cs) (a.exp cs)) (and_level_now cs (a.at cs) (a.row cs) (a.typed cs) (a.behind_and cs) (a.and_also cs)));
    or_else = λ cs. lifted (or_knot cs) (or_level_now cs (a.at cs) (a.row cs) (a.typed cs) (a.behind_and cs) (a.and_also cs) (a.behind_or cs) (a.or_else cs));
    exp = λ cs. lifted (exp_knot cs) (exp_now (fixed cs) (ExpR cs) (RuleR cs) colon_stop (far_now (a.rule cs) (fixed cs) (a.exp cs)) (handle_level_now cs (a.at cs) (a.row cs) (a.typed cs) (a.behind_and cs) (a.and_also cs) (a.behind_or cs) (a.or_else cs) (a.rule cs)));
    rule = λ cs. lifted (rule_knot cs) (rule_now (fixed cs) (pat_exact (fixed cs) s n) (a.exp cs));
    clause = λ cs. lifted (clause_knot cs) (clause_now (fixed cs) (some_operator cs) (H cs s n) (ty_exact s n) (a.exp cs));
    dec = λ cs. lifted (dec_knot cs)
        (dec_now (fixed cs) (some_operator cs) (ty_exact s n) (cons_exact (fixed cs) s n) (exbind_exact (fixed cs) s n) (decs_now a.dec cs) (λ ds. decs_now a.dec (afters cs ds)) (pat_exact (fixed cs) s n) (a.exp cs) (a.clause cs)
        (λ k x w r i d e. vbs_plain (fixed cs) k.height k.clashes _ x w r d) (λ k x w r i d e. clauses_view cs k x w r d));
  }

  tower : Tower All
  tower = record {
    sizes = record {
      at = λ cs. lowest_sizes (at_knot cs);
      row = λ cs m. lowest_sizes (row_knot cs m);
      typed = λ cs. lowest_sizes (typed_knot cs);
      behind_and = λ cs. lowest_sizes (behind_and_knot cs);
      and_also = λ cs. lowest_sizes (and_knot cs);
      behind_or = λ cs. lowest_sizes (behind_or_knot cs);
      or_else = λ cs. lowest_sizes (or_knot cs);
      exp = λ cs. lowest_sizes (exp_knot cs);
      rule = λ cs. lowest_sizes (rule_knot cs);
      clause = λ cs. lowest_sizes (clause_knot cs);
      dec = λ cs. lowest_sizes (dec_knot cs);
    };
    readings = λ f. record {
      at = λ cs. lowest_readings (at_knot cs) (λ m. let a = f m in a.at cs);
      row = λ cs l. lowest_readings (row_knot cs l) (λ m. let a = f m in a.row cs l);
      typed = λ cs. lowest_readings (typed_knot cs) (λ m. let a = f m in a.typed cs);
      behind_and = λ cs. lowest_readings (behind_and_knot cs) (λ m. let a = f m in a.behind_and cs);
      and_also = λ cs. lowest_readings (and_knot cs) (λ m. let a = f m in a.and_also cs);
      behind_or = λ cs. lowest_readings (behind_or_knot cs) (λ m. let a = f m in a.behind_or cs);
      or_else = λ cs. lowest_readings (or_knot cs) (λ m. let a = f m in a.or_else cs);
      exp = λ cs. lowest_readings (exp_knot cs) (λ m. let a = f m in a.exp cs);
      rule = λ cs. lowest_readings (rule_knot cs) (λ m. let a = f m in a.rule cs);
      clause = λ cs. lowest_readings (clause_knot cs) (λ m. let a = f m in a.clause cs);
      dec = λ cs. lowest_readings (dec_knot cs) (λ m. let a = f m in a.dec cs);
    };
    refusals = λ f. record {
      at = λ cs. lowest_refusals (at_knot cs) (λ m. let a = f m in a.at cs);
      row = λ cs l. lowest_refusals (row_knot cs l) (λ m. let a = f m in a.row cs l);
      typed = λ cs. lowest_refusals (typed_knot cs) (λ m. let a = f m in a.typed cs);
      behind_and = λ cs. lowest_refusals (behind_and_knot cs) (λ m. let a = f m in a.behind_and cs);
      and_also = λ cs. lowest_refusals (and_knot cs) (λ m. let a = f m in a.and_also cs);
      behind_or = λ cs. lowest_refusals (behind_or_knot cs) (λ m. let a = f m in a.behind_or cs);
      or_else = λ cs. lowest_refusals (or_knot cs) (λ m. let a = f m in a.or_else cs);
      exp = λ cs. lowest_refusals (exp_knot cs) (λ m. let a = f m in a.exp cs);
      rule = λ cs. lowest_refusals (rule_knot cs) (λ m. let a = f m in a.rule cs);
      clause = λ cs. lowest_refusals (clause_knot cs) (λ m. let a = f m in a.clause cs);
      dec = λ cs. lowest_refusals (dec_knot cs) (λ m. let a = f m in a.dec cs);
    };
    next = step;
  }

  pub all_exact : (s : Known) (n : ℕ) → All s n
  all_exact s n = all_of All tower s n
