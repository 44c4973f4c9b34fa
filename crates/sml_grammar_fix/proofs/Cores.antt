-- Expressions and declarations under directives that leave the same fixities.
use Rattle.std.proofs.Common.{◌≡◌, ℕ, zero, suc, Bool, List, [], ◌∷◌, refl}
use Rattle.readers.specs.Language.{Both, As, Or}
use Rattle.readers.specs.Room.{at_height}
use Rattle.sml_lex.specs.declared.token.Token.{Token}
use Rattle.sml_grammar.specs.Types.{ty_on}
use Rattle.sml_grammar.specs.Pats.{pat_on}
use Rattle.sml_grammar_exp.specs.Exps.{De, Ex, at_form, row_form, typed_form, and_form, or_form, handle_form, far_form, rule_form}
use Rattle.sml_grammar_exp.specs.Binds.{cons_on, exbind_on}
use Rattle.sml_grammar_exp.specs.Clauses.{HeadR}
use Rattle.sml_grammar_exp.specs.Decs.{ClauseD, Changes, changes, after, afters, dec_form, decs_form, decs_alone, ItemD, SemisD, fixed}
use Rattle.sml_grammar_exp.specs.Levels.{at_on, row_on, typed_on, behind_and_on, and_on, behind_or_on, or_on, exp_on, rule_on, clause_on, dec_on}
use Rattle.sml_grammar_fix.proofs.Rows.{Alike, alike_more, steps_same}

pub afters_alike : (us : List De) (cs ds : Changes) → Alike cs ds → Alike (afters cs us) (afters ds us)
afters_alike [] cs ds e = e
afters_alike (u ∷ us) cs ds e = afters_alike us (after cs u) (after ds u) (alike_more cs ds (changes u.0) e)

-- a language under directives is the same under those that leave the same fixities
abbrev pub ByFixities : {T : Type 0} → (Changes → T → List Token → Type 0) → Type 1
ByFixities D = (cs ds : Changes) → Alike cs ds → D cs ≡ D ds

decs_same : (D : Changes → De → List Token → Type 0) → ByFixities D → ByFixities (decs_form D)
decs_same D same cs ds e = λ i. As decs_alone (Both SemisD (steps_same Alike after (λ c. ItemD (D c)) (λ x y u a. alike_more x y (changes u.0) a) (λ x y a j. ItemD (same x y a j)) cs ds e i))

-- all languages of one height
pub record Level (h : ℕ) (b : Bool) : Type 1 where
  pub at : ByFixities (at_on h b)
  pub row : ByFixities (row_on h b)
  pub typed : ByFixities (typed_on h b)
  pub behind_and : ByFixities (behind_and_on h b)
  pub and : ByFixities (and_on h b)
  pub behind_or : ByFixities (behind_or_on h b)
  pub or : ByFixities (or_on h b)
  pub exp : ByFixities (exp_on h b)
  pub rule : ByFixities (rule_on h b)
  pub clause : ByFixities (clause_on h b)
  pub dec : ByFixities (dec_on h b)

lowest : (b : Bool) → Level zero b
unfolding at_on row_on typed_on behind_and_on and_on behind_or_on or_on exp_on rule_on clause_on dec_on
lowest b = record {
  at = λ cs ds e. refl;
  row = λ cs ds e. refl;
  typed = λ cs ds e. refl;
  behind_and = λ cs ds e. refl;
  and = λ cs ds e. refl;
  behind_or = λ cs ds e. refl;
  or = λ cs ds e. refl;
  exp = λ cs ds e. refl;
  rule = λ cs ds e. refl;
  clause = λ cs ds e. refl;
  dec = λ cs ds e. refl;
}

module _ (h : ℕ) (b : Bool) (L : Level h b) where
  rows : (cs ds : Changes) → Alike cs ds → row_form b (fixed cs) (at_on h b cs) (row_on h b cs) ≡ row_form b (fixed ds) (at_on h b ds) (row_on h b ds)
  rows cs ds e = λ i. row_form b (e i) (L.at cs ds e i) (L.row cs ds e i)

  abbrev Typed : Changes → Ex → List Token → Type 0
  Typed cs = typed_form (row_form b (fixed cs) (at_on h b cs) (row_on h b cs)) (ty_on h) (typed_on h b cs)

  types : ByFixities Typed
  types cs ds e = λ i. typed_form (rows cs ds e i) (ty_on h) (L.typed cs ds e i)

  abbrev Far : Changes → Ex → List Token → Type 0
  Far cs = far_form (exp_on h b cs) (rule_on h b cs)

  fars : ByFixities Far
  fars cs ds e = λ i. far_form (L.exp cs ds e i) (L.rule cs ds e i)

  abbrev Ands : Changes → Ex → List Token → Type 0
  Ands cs = and_form (Typed cs) (behind_and_on h b cs) (and_on h b cs)

  ands : ByFixities Ands
  ands cs ds e = λ i. and_form (types cs ds e i) (L.behind_and cs ds e i) (L.and cs ds e i)

  abbrev Ors : Changes → Ex → List Token → Type 0
  Ors cs = or_form (Ands cs) (behind_or_on h b cs) (or_on h b cs)

  ors : ByFixities Ors
  ors cs ds e = λ i. or_form (ands cs ds e i) (L.behind_or cs ds e i) (L.or cs ds e i)

  decs : ByFixities (decs_form (dec_on h b))
  decs = decs_same (dec_on h b) L.dec

  higher : Level (suc h) b
  unfolding at_on row_on typed_on behind_and_on and_on behind_or_on or_on exp_on rule_on clause_on dec_on
  higher = record {
    at = λ cs ds e i t w. at_form (e i) (decs cs ds e i) (L.exp cs ds e i) (λ us. L.exp (afters cs us) (afters ds us) (afters_alike us cs ds e) i) t w;
    row = λ cs ds e i t w. rows cs ds e i t w;
    typed = λ cs ds e i t w. types cs ds e i t w;
    behind_and = λ cs ds e i t w. Or (types cs ds e i) (fars cs ds e i) t w;
    and = λ cs ds e i t w. ands cs ds e i t w;
    behind_or = λ cs ds e i t w. Or (ands cs ds e i) (fars cs ds e i) t w;
    or = λ cs ds e i t w. ors cs ds e i t w;
    exp = λ cs ds e i t w. Or (handle_form (ors cs ds e i) (L.rule cs ds e i) (L.or cs ds e i)) (fars cs ds e i) t w;
    rule = λ cs ds e i t w. rule_form (pat_on h b (e i)) (L.exp cs ds e i) t w;
    clause = λ cs ds e i t w. ClauseD (HeadR (e i) (at_height h b)) (ty_on h) (L.exp cs ds e i) t w;
    dec = λ cs ds e i t w. dec_form (decs cs ds e i) (λ us. decs (afters cs us) (afters ds us) (afters_alike us cs ds e) i) (ty_on h) (cons_on h (e i)) (exbind_on h (e i)) (pat_on h b (e i)) (L.exp cs ds e i) (L.clause cs ds e i) t w;
  }

-- the grammar of the core of each height
pub core_levels : (h : ℕ) (b : Bool) → Level h b
core_levels zero b = lowest b
core_levels (suc h) b = higher h b (core_levels h b)
