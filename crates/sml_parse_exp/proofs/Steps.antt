-- The readers as the code goes through them: each takes a token, and behind the test of the room there is a level.
use Rattle.std.proofs.Common.{◌≡◌, ℕ, zero, suc, ◌-◌, ◌<◌, false, List, length, refl, ap, ◌∙◌, arith}
use Rattle.readers.specs.declared.floor.Floor.{Floor}
use Rattle.readers.specs.Reader.{Reader, both, bound, mapped, one, skip, steps, token_by}
use Rattle.readers.specs.Forms.{cons_of, ended, further, latest}
use Rattle.readers.specs.Room.{at_height}
use Rattle.readers.proofs.Bundle.{Known}
use Rattle.readers.proofs.RowLoop.{Shortens}
use Rattle.sml_lex.specs.declared.token.Token.{Token}
use Rattle.sml_scan.proofs.Shorter.{kept, token_shorter, one_shorter, both_shorter, bound_shorter, mapped_shorter, row_kept, steps_keeps}
use Rattle.sml_grammar.specs.Words.{ANDALSO, BAR, COLON, EQUALS, ORELSE, SEMICOLON}
use Rattle.sml_grammar.specs.Tokens.{is, lab, tokens_of}
use Rattle.sml_grammar.specs.ReadTypes.{ty_read}
use Rattle.sml_grammar.specs.ReadPats.{pat_read}
use Rattle.sml_grammar_exp.specs.Decs.{Changes, fixed, clause_bar, dec_alone}
use Rattle.sml_grammar_exp.specs.Exps.{De}
use Rattle.sml_grammar_exp.specs.ReadExps.{field_read}
use Rattle.sml_grammar_exp.specs.ReadDecs.{item_read, item_goes, semis_read}
use Rattle.sml_grammar_exp.specs.ReadLevels.{at_exp_read, row_read, exp_read, behind_and_read, behind_or_read, rule_read, clause_read, dec_read}
use Rattle.sml_grammar_exp.proofs.Whole.{every}
use Rattle.sml_parse_ty.proofs.Steps.{ty_less}
use Rattle.sml_parse_pat.proofs.Steps.{pat_less}
use Rattle.sml_parse_pat.proofs.Ready.{further_less}
use Rattle.sml_parse_bind.proofs.Steps.{phrase_less, word_less, ended_shorter}
use Rattle.sml_parse_exp.specs.Levels as levels

-- ---- each reader takes a token

module _ (cs : Changes) (h : ℕ) where
  pub exp_less : Shortens (exp_read h false cs)
  exp_less = let a = every Known.Readings h in phrase_less (a.exp cs) (at_height h false) (omega arith)

  pub at_less : Shortens (at_exp_read h false cs)
  at_less = let a = every Known.Readings h in phrase_less (a.at cs) (at_height h false) (omega arith)

  pub row_less : (n : Floor) → Shortens (row_read h false n cs)
  row_less n = let a = every Known.Readings h in phrase_less (a.row cs n) (at_height h false) (omega arith)

  pub behind_and_less : Shortens (behind_and_read h false cs)
  behind_and_less = let a = every Known.Readings h in phrase_less (a.behind_and cs) (at_height h false) (omega arith)

  pub behind_or_less : Shortens (behind_or_read h false cs)
  behind_or_less = let a = every Known.Readings h in phrase_less (a.behind_or cs) (at_height h false) (omega arith)

  pub rule_less : Shortens (rule_read h false cs)
  rule_less = let a = every Known.Readings h in phrase_less (a.rule cs) (at_height h false) (omega arith)

  pub clause_less : Shortens (clause_read h false cs)
  clause_less = let a = every Known.Readings h in phrase_less (a.clause cs) (at_height h false) (omega arith)

  pub dec_less : Shortens (dec_read h false cs)
  dec_less = let a = every Known.Readings h in phrase_less (a.dec cs) (at_height h false) (omega arith)

  -- behind a word
  pub word_exp_less : (k : ℕ) → Shortens (skip (is k) (levels.exp cs h))
  word_exp_less k = word_less k (levels.exp cs h) exp_less

  pub field_less : Shortens (field_read (levels.exp cs h))
  field_less = both_shorter (token_by lab) (skip (is EQUALS) (levels.exp cs h)) (token_shorter lab) (kept (skip (is EQUALS) (levels.exp cs h)) (word_exp_less EQUALS))

  pub word_field_less : (k : ℕ) → Shortens (skip (is k) (field_read (levels.exp cs h)))
  word_field_less k = word_less k (field_read (levels.exp cs h)) field_less

  pub and_suffix_less : Shortens (levels.and_suffix cs h)
  and_suffix_less = word_less ANDALSO (behind_and_read h false cs) behind_and_less

  pub or_suffix_less : Shortens (levels.or_suffix cs h)
  or_suffix_less = word_less ORELSE (behind_or_read h false cs) behind_or_less

  pub word_rule_less : (k : ℕ) → Shortens (skip (is k) (rule_read h false cs))
  word_rule_less k = word_less k (rule_read h false cs) rule_less

  pub word_clause_less : (k : ℕ) → Shortens (skip (is k) (clause_read h false cs))
  word_clause_less k = word_less k (clause_read h false cs) clause_less

  pub binding_less : Shortens (levels.binding cs h)
  binding_less = both_shorter (pat_read h false (fixed cs)) (skip (is EQUALS) (levels.exp cs h)) (pat_less (fixed cs) h) (kept (skip (is EQUALS) (levels.exp cs h)) (word_exp_less EQUALS))

  -- the clauses of a function
  pub clauses_less : Shortens (levels.clauses cs h)
  clauses_less = mapped_shorter cons_of (bound (clause_read h false cs) (steps (is BAR) latest (further (is BAR) clause_bar (clause_read h false cs)))) (bound_shorter (clause_read h false cs) (steps (is BAR) latest (further (is BAR) clause_bar (clause_read h false cs))) clause_less
      (λ a s z e. steps_keeps (is BAR) latest (further (is BAR) clause_bar (clause_read h false cs)) (further_less (is BAR) clause_bar (clause_read h false cs) (word_clause_less BAR)) (length s) a s z e))

  pub word_binding_less : (k : ℕ) → Shortens (skip (is k) (levels.binding cs h))
  word_binding_less k = word_less k (levels.binding cs h) binding_less

-- a declaration and its semicolons
pub item_less : (h : ℕ) (cs : Changes) → Shortens (item_read (dec_read h false cs))
item_less h cs =
    let all : Reader Token (De × List (Unit {0})) = both (dec_read h false cs) semis_read in
    mapped_shorter dec_alone (ended (tokens_of item_goes) all) (ended_shorter (tokens_of item_goes) all
    (both_shorter (dec_read h false cs) semis_read (dec_less cs h) (row_kept (is SEMICOLON) (one (is SEMICOLON)) (one_shorter (is SEMICOLON)))))

pub annotation_less : (h : ℕ) → Shortens (levels.annotation h)
annotation_less h = word_less COLON (ty_read h) (ty_less h)

-- ---- behind the test of the room

module _ (cs : Changes) where
  at_suc : (h : ℕ) (s : List Token) → at_exp_read (suc h) false cs s ≡ levels.at_level cs h s
  unfolding at_exp_read
  at_suc h s = refl

  pub at_is : (h : ℕ) (s : List Token) → 0 < h → at_exp_read h false cs s ≡ levels.at_level cs (h - 1) s
  at_is h s lt = let same : h ≡ suc (h - 1) = omega arith in ap (λ (k : ℕ). at_exp_read k false cs s) same ∙ at_suc (h - 1) s

  rule_suc : (h : ℕ) (s : List Token) → rule_read (suc h) false cs s ≡ levels.rule_level cs h s
  unfolding rule_read
  rule_suc h s = refl

  pub rule_is : (h : ℕ) (s : List Token) → 0 < h → rule_read h false cs s ≡ levels.rule_level cs (h - 1) s
  rule_is h s lt = let same : h ≡ suc (h - 1) = omega arith in ap (λ (k : ℕ). rule_read k false cs s) same ∙ rule_suc (h - 1) s

  clause_suc : (h : ℕ) (s : List Token) → clause_read (suc h) false cs s ≡ levels.clause_level cs h s
  unfolding clause_read
  clause_suc h s = refl

  pub clause_is : (h : ℕ) (s : List Token) → 0 < h → clause_read h false cs s ≡ levels.clause_level cs (h - 1) s
  clause_is h s lt = let same : h ≡ suc (h - 1) = omega arith in ap (λ (k : ℕ). clause_read k false cs s) same ∙ clause_suc (h - 1) s

  exp_suc : (h : ℕ) (s : List Token) → exp_read (suc h) false cs s ≡ levels.whole cs h s
  unfolding exp_read
  exp_suc h s = refl

  pub exp_is : (h : ℕ) (s : List Token) → 0 < h → exp_read h false cs s ≡ levels.whole cs (h - 1) s
  exp_is h s lt = let same : h ≡ suc (h - 1) = omega arith in ap (λ (k : ℕ). exp_read k false cs s) same ∙ exp_suc (h - 1) s

  behind_and_suc : (h : ℕ) (s : List Token) → behind_and_read (suc h) false cs s ≡ levels.and_operand cs h s
  unfolding behind_and_read
  behind_and_suc h s = refl

  pub behind_and_is : (h : ℕ) (s : List Token) → 0 < h → behind_and_read h false cs s ≡ levels.and_operand cs (h - 1) s
  behind_and_is h s lt = let same : h ≡ suc (h - 1) = omega arith in ap (λ (k : ℕ). behind_and_read k false cs s) same ∙ behind_and_suc (h - 1) s

  behind_or_suc : (h : ℕ) (s : List Token) → behind_or_read (suc h) false cs s ≡ levels.or_operand cs h s
  unfolding behind_or_read
  behind_or_suc h s = refl

  pub behind_or_is : (h : ℕ) (s : List Token) → 0 < h → behind_or_read h false cs s ≡ levels.or_operand cs (h - 1) s
  behind_or_is h s lt = let same : h ≡ suc (h - 1) = omega arith in ap (λ (k : ℕ). behind_or_read k false cs s) same ∙ behind_or_suc (h - 1) s

  row_suc : (h : ℕ) (n : Floor) (s : List Token) → row_read (suc h) false n cs s ≡ levels.row cs h n s
  unfolding row_read
  row_suc h n s = refl

  pub row_is : (h : ℕ) (n : Floor) (s : List Token) → 0 < h → row_read h false n cs s ≡ levels.row cs (h - 1) n s
  row_is h n s lt = let same : h ≡ suc (h - 1) = omega arith in ap (λ (k : ℕ). row_read k false n cs s) same ∙ row_suc (h - 1) n s

  dec_suc : (h : ℕ) (s : List Token) → dec_read (suc h) false cs s ≡ levels.declaration cs h s
  unfolding dec_read
  dec_suc h s = refl

  pub dec_is : (h : ℕ) (s : List Token) → 0 < h → dec_read h false cs s ≡ levels.declaration cs (h - 1) s
  dec_is h s lt = let same : h ≡ suc (h - 1) = omega arith in ap (λ (k : ℕ). dec_read k false cs s) same ∙ dec_suc (h - 1) s
