-- What is promised of all tokens of a source, from what the reader gives.
use Rattle.std.proofs.Common.{◌≡◌, ℕ, false, List, [], ◌∷◌, Option, Some, None, Ok, Err, refl, sym, ap, subst, ◌∙◌, arith, inl, inr}
use Rattle.tl_text.specs.declared.fault.Fault.{Fault}
use Rattle.tl_text.specs.declared.fault.Fault.TheVariants as fault
use Rattle.tl_text.specs.declared.fault.Refusal.{Refusal as Place}
use Rattle.readers.specs.declared.code.Code.{Code as Cause}
use Rattle.readers.specs.declared.code.Code.TheVariants.{Grammar}
use Rattle.readers.specs.declared.fault.ReadError.{ReadError}
use Rattle.readers.specs.declared.fault.ReadError.TheVariants as errors
use Rattle.readers.specs.Given.{Fails}
use Rattle.readers.specs.Reader.{Answer, ◌>>=◌, no_more}
use Rattle.readers.specs.Room.{at_height}
use Rattle.readers.proofs.Bundle.{Known}
use Rattle.readers.proofs.Outcome.{ok_is, not_both}
use Rattle.sml_lex.specs.declared.token.Token.{Token}
use Rattle.sml_ast.specs.declared.program.Program.{Program}
use Rattle.sml_fix.specs.Fixities.{Settings, settings}
use Rattle.sml_fix.specs.declared.fixities.Fixities.{Fixities}
use Rattle.sml_scan.specs.Faults.{RefusesAs, fault_at, FaultOf}
use Rattle.sml_grammar.specs.Promise as grammar
use Rattle.sml_grammar.proofs.Whole.{exactly}
use Rattle.sml_grammar_exp.specs.Decs.{Changes, fixed}
use Rattle.sml_grammar_mod.specs.Programs.{Pr, ProgramR, left_by, left_in}
use Rattle.sml_grammar_mod.specs.ReadPrograms.{program_read}
use Rattle.sml_grammar_mod.proofs.Whole.{program_exact}
use Rattle.sml_parse_mod.specs.Levels as levels
use Rattle.sml_parse_mod.specs.Late.{unsupported}
use Rattle.sml_parse_mod.specs.Promise.{Derives, IsProgram, GivesProgram, Refusal}

module _ (cs : Changes) (tokens : List Token) where
  exact : grammar.Exactly (ProgramR cs) 1000 tokens (program_read 1000 false cs tokens)
  exact = exactly (λ n. program_exact cs Known.Refusals n) (λ t. refl) 1000 tokens (omega arith)

  abbrev all_of : Answer Token Pr → Answer Token Program
  all_of r = r >>= λ x. no_more x.1 >>= λ u. Ok (x.0.0, u.1)

  -- the program of the tokens is read
  pub whole_is : (p : Program) (h : ℕ) → grammar.Derives (ProgramR cs) 1000 tokens (p, h) → levels.whole cs tokens ≡ Ok (p, [])
  whole_is p h d = go (program_read 1000 false cs tokens) exact
    where
      go : (r : Answer Token Pr) → grammar.Exactly (ProgramR cs) 1000 tokens r → all_of r ≡ Ok (p, [])
      go (Ok (x, [])) e = ap (λ (y : Pr). Ok (y.0, [])) (sym (e.1 (p, h) d))
      go (Ok (x, c ∷ rest)) e = absurd (e.0 (p, h) d)
      go (Err f) e = absurd (e.0 (p, h) d)

  -- what is read is a program of the tokens
  pub whole_ok : (p : Program) (rest : List Token) → levels.whole cs tokens ≡ Ok (p, rest) → (h : ℕ) × grammar.Derives (ProgramR cs) 1000 tokens (p, h)
  whole_ok p rest i = go (program_read 1000 false cs tokens) exact i
    where
      go : (r : Answer Token Pr) → grammar.Exactly (ProgramR cs) 1000 tokens r → all_of r ≡ Ok (p, rest) → (h : ℕ) × grammar.Derives (ProgramR cs) 1000 tokens (p, h)
      go (Ok (x, [])) e j =
          let same : x.0 ≡ p = ap (λ (y : Program × List Token). y.0) (ok_is (x.0, []) (p, rest) j) in
          let D : Program → Type 0 = λ q. grammar.Derives (ProgramR cs) 1000 tokens (q, x.1) in
          (x.1, subst D same e.0)
      go (Ok (x, c ∷ s)) e j = absurd cc
      go (Err f) e j = absurd cc

  abbrev At : Cause × List Token → Type 0
  At e = grammar.Refusal (ProgramR cs) 1000 tokens e.0 e.1

  -- what is refused is no program
  pub whole_err : (c : Cause) (rest : List Token) → levels.whole cs tokens ≡ Err (c, rest) → grammar.Refusal (ProgramR cs) 1000 tokens c rest
  whole_err c rest i = go (program_read 1000 false cs tokens) exact i
    where
      go : (r : Answer Token Pr) → grammar.Exactly (ProgramR cs) 1000 tokens r → all_of r ≡ Err (c, rest) → grammar.Refusal (ProgramR cs) 1000 tokens c rest
      go (Ok (x, [])) e j = absurd cc
      go (Ok (x, d ∷ s)) e j = let same : (Grammar, d ∷ s) ≡ (c, rest) = cc in subst At same e
      go (Err f) e j = let same : f ≡ (c, rest) = cc in subst At same e

  -- ---- the clauses

  module _ (p : Program) (i : levels.whole cs tokens ≡ Ok (p, [])) where
    derived : (changes : Changes) → changes ≡ left_in cs p → Derives cs tokens p (fixed changes)
    derived changes m =
        let d = whole_ok p [] i in
        record { height = d.0; changes = changes; parses = (d.1, m); leaves = refl }

    pub found_program : (changes : Changes) (left : Settings) → changes ≡ left_in cs p → left ≡ fixed changes → unsupported tokens p ≡ None → IsProgram cs tokens p left
    found_program changes left m l n =
        let D : Settings → Type 0 = λ f. Derives cs tokens p f in
        record { derives = subst D (sym l) (derived changes m); supported = n }

    same_program : (q : Program) (left : Settings) → IsProgram cs tokens q left → p ≡ q
    same_program q left d = ap (λ (y : Program × List Token). y.0) (ok_is (p, []) (q, []) (sym i ∙ whole_is q d.derives.height d.derives.parses.0))

    pub only_program : (f : Fixities) (changes : Changes) → changes ≡ left_in cs p → settings f ≡ fixed changes → (q : Program) (left : Settings) → IsProgram cs tokens q left → GivesProgram (Ok (p, f)) q left
    only_program f changes m l q left d =
        let same : p ≡ q = same_program q left d in
        (same, l ∙ (ap fixed (m ∙ (ap (left_in cs) same ∙ sym d.derives.parses.1)) ∙ sym d.derives.leaves))

    pub unsupported_only : (r : Place) → unsupported tokens p ≡ Some r → (q : Program) (left : Settings) → IsProgram cs tokens q left → GivesProgram (Err (fault.Refused r)) q left
    unsupported_only r j q left d =
        let some : Some r ≡ None = sym j ∙ (ap (unsupported tokens) (same_program q left d) ∙ d.supported) in
        absurd cc

    pub unsupported_right : (changes : Changes) (r : Place) → changes ≡ left_in cs p → unsupported tokens p ≡ Some r → Refusal cs tokens r.place r.code
    unsupported_right changes r m j = inr (record { program = p; left = fixed changes; derives = derived changes m; phrase = j })

  pub fault_only : (e : ReadError Token) (f : Fault) → FaultOf e f → Fails e (levels.whole cs tokens) → (q : Program) (left : Settings) → IsProgram cs tokens q left → GivesProgram (Err f) q left
  fault_only errors.NoMemory f i r q left d = rw i tt
  fault_only (errors.Refused c rest) f i r q left d = not_both (q, []) (c, rest.now) (sym (whole_is q d.derives.height d.derives.parses.0) ∙ r)

  pub fault_right : (e : ReadError Token) (f : Fault) → FaultOf e f → Fails e (levels.whole cs tokens) → RefusesAs {T = Program × Fixities} (Refusal cs tokens) (Err f)
  fault_right errors.NoMemory f i r = rw i tt
  fault_right (errors.Refused c rest) f i r = rw i (go rest.now r)
    where
      go : (s : List Token) → levels.whole cs tokens ≡ Err (c, s) → RefusesAs {T = Program × Fixities} (Refusal cs tokens) (Err (fault_at c s))
      go [] r = tt
      go (t ∷ s) r = inl (record { cause = c; next = t; rest = s; refused = whole_err c (t ∷ s) r; stands = refl; why = refl })
