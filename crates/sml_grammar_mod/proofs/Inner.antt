-- What stands one level lower is read exactly where it is read exactly.
use Rattle.std.proofs.Common.{ℕ, zero, suc, Bool, List, refl, arith}
use Rattle.std.specs.Prelude.{Option}
use Rattle.readers.specs.Reader.{Reader}
use Rattle.readers.specs.Room.{Room, at_height}
use Rattle.readers.proofs.Bundle.{Known, Phrase}
use Rattle.readers.proofs.Levels.{Knot, Tower, all_of, lifted, lowest_sizes, lowest_readings, lowest_refusals}
use Rattle.sml_lex.specs.declared.token.Token.{Token}
use Rattle.sml_grammar_mod.specs.ReadStrs.{inner}

abbrev pub inner_on : {T : Type 0} → (Room → T → List Token → Type 0) → ℕ → Bool → T → List Token → Type 0
inner_on D zero b t w = ⊥
inner_on D (suc h) b t w = D (at_height h b) t w

-- the trees of one level lower
abbrev pub Inner : {T : Type 0} → (Room → T → List Token → Type 0) → Room → T → List Token → Type 0
Inner D k = inner_on D k.height k.clashes

module _ {T : Type 0} (D : Room → T → List Token → Type 0) (p : ℕ → Reader Token T) {st : T → Option Token → Bool} {td : T → ℕ} {low enough : ℕ} {test : Token → Bool}
    (P : (s : Known) (n : ℕ) → Phrase s n 0 D (λ k. p k.height) st td low 0 test enough) where
  -- seen from one level higher
  one_more : (s : Known) (n : ℕ) → Phrase s n 1 D (λ k. p k.height) st (λ t. suc (td t)) low 0 test enough
  one_more s n =
      let Q = P s n in
      record {
        part = record {
          above = λ k t w i d. omega arith;
          least = λ k t w i d. let a = Q.part.least k t w i d in omega (arith, a);
          lowest = Q.part.lowest;
          fits = λ h k t w i b l d. Q.part.fits h k t w i b (omega (arith, l)) d;
          some = Q.part.some;
          reads = Q.part.reads;
          refuses = Q.part.refuses;
        };
        opening = Q.opening;
      }

  knot : Knot (Inner D) D (λ k. inner test p k.height) (λ k. p k.height) test
  knot = record { none = λ b t w d. d; out = λ h b t w d. d; into = λ h b t w d. d; empty = λ b v. refl; next = λ h b v. refl }

  abbrev pub InnerP : Known → ℕ → Type 0
  InnerP s n = Phrase s n 0 (Inner D) (λ k. inner test p k.height) st (λ t. suc (td t)) (suc low) 0 test (suc enough)

  tower : Tower InnerP
  tower = record {
    sizes = lowest_sizes knot;
    readings = λ f. lowest_readings knot f;
    refusals = λ f. lowest_refusals knot f;
    next = λ s n a. lifted knot (one_more s n);
  }

  pub inner_exact : (s : Known) (n : ℕ) → InnerP s n
  inner_exact = all_of InnerP tower
