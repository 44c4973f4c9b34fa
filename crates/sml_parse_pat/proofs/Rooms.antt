-- The readers behind the test of the room.
use Rattle.std.proofs.Common.{◌≡◌, ℕ, suc, ◌-◌, ◌<◌, false, List, refl, ap, ◌∙◌, arith}
use Rattle.readers.specs.declared.floor.Floor.{Floor}
use Rattle.sml_lex.specs.declared.token.Token.{Token}
use Rattle.sml_fix.specs.Fixities.{Settings}
use Rattle.sml_grammar.specs.ReadPats as read
use Rattle.sml_grammar.specs.ReadPats.{name_read, other_read, at_read, field_read, row_read, pat_read}
use Rattle.sml_parse_pat.specs.Levels as levels

module _ (fix : Settings) where
  name_suc : (h : ℕ) (s : List Token) → name_read (suc h) fix s ≡ read.name_level fix s
  unfolding name_read
  name_suc h s = refl

  pub name_is : (h : ℕ) (s : List Token) → 0 < h → name_read h fix s ≡ read.name_level fix s
  name_is h s lt = let same : h ≡ suc (h - 1) = omega arith in ap (λ (k : ℕ). name_read k fix s) same ∙ name_suc (h - 1) s

  other_suc : (h : ℕ) (s : List Token) → other_read (suc h) false fix s ≡ levels.other_level fix h s
  unfolding other_read
  other_suc h s = refl

  pub other_is : (h : ℕ) (s : List Token) → 0 < h → other_read h false fix s ≡ levels.other_level fix (h - 1) s
  other_is h s lt = let same : h ≡ suc (h - 1) = omega arith in ap (λ (k : ℕ). other_read k false fix s) same ∙ other_suc (h - 1) s

  at_suc : (h : ℕ) (s : List Token) → at_read (suc h) false fix s ≡ levels.at_level fix h s
  unfolding at_read
  at_suc h s = refl

  pub at_is : (h : ℕ) (s : List Token) → 0 < h → at_read h false fix s ≡ levels.at_level fix (h - 1) s
  at_is h s lt = let same : h ≡ suc (h - 1) = omega arith in ap (λ (k : ℕ). at_read k false fix s) same ∙ at_suc (h - 1) s

  field_suc : (h : ℕ) (s : List Token) → field_read (suc h) false fix s ≡ levels.field_level fix h s
  unfolding field_read
  field_suc h s = refl

  pub field_is : (h : ℕ) (s : List Token) → 0 < h → field_read h false fix s ≡ levels.field_level fix (h - 1) s
  field_is h s lt = let same : h ≡ suc (h - 1) = omega arith in ap (λ (k : ℕ). field_read k false fix s) same ∙ field_suc (h - 1) s

  row_suc : (h : ℕ) (n : Floor) (s : List Token) → row_read (suc h) false n fix s ≡ levels.row_level fix h n s
  unfolding row_read
  row_suc h n s = refl

  pub row_is : (h : ℕ) (n : Floor) (s : List Token) → 0 < h → row_read h false n fix s ≡ levels.row_level fix (h - 1) n s
  row_is h n s lt = let same : h ≡ suc (h - 1) = omega arith in ap (λ (k : ℕ). row_read k false n fix s) same ∙ row_suc (h - 1) n s

  pat_suc : (h : ℕ) (s : List Token) → pat_read (suc h) false fix s ≡ levels.pat_level fix h s
  unfolding pat_read
  pat_suc h s = refl

  pub pat_is : (h : ℕ) (s : List Token) → 0 < h → pat_read h false fix s ≡ levels.pat_level fix (h - 1) s
  pat_is h s lt = let same : h ≡ suc (h - 1) = omega arith in ap (λ (k : ℕ). pat_read k false fix s) same ∙ pat_suc (h - 1) s
