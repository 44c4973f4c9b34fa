-- What is promised of the bytes of a source, from what the steps promise.
use Rattle.std.proofs.Common.{◌≡◌, ℕ, ◌⊎◌, List, [], Some, None, Result, Ok, Err, refl, sym, ap, subst, ◌∙◌, inl, inr}
use Rattle.tl_text.specs.declared.place.Place.{Place}
use Rattle.tl_text.specs.declared.code.Code.{Code}
use Rattle.tl_text.specs.declared.fault.Fault.{Fault}
use Rattle.tl_text.specs.declared.fault.Fault.TheVariants as fault
use Rattle.tl_text.specs.declared.fault.Refusal.{Refusal as Refused}
use Rattle.readers.proofs.Bundle.{Known}
use Rattle.sml_lex.specs.declared.token.Token.{Token}
use Rattle.sml_lex.specs.Texts.{Lexes, Refuses, RefusesRightly, IsOrNoMemory}
use Rattle.sml_ast.specs.declared.program.Program.{Program}
use Rattle.sml_ast.specs.declared.bare_program.BareProgram.{BareProgram}
use Rattle.sml_fix.specs.Fixities.{Settings}
use Rattle.sml_fix.specs.declared.fixities.Fixities.{Fixities}
use Rattle.sml_scan.specs.Faults.{RefusesAs, named}
use Rattle.sml_grammar.proofs.Whole.{same_tree}
use Rattle.sml_grammar_exp.specs.Decs.{Changes, fixed}
use Rattle.sml_grammar_mod.specs.Programs.{Pr, ProgramR}
use Rattle.sml_grammar_mod.proofs.Whole.{program_exact}
use Rattle.sml_grammar_fix.proofs.Refusals.{one_refused}
use Rattle.sml_parse_mod.specs.Promise as grammar
use Rattle.sml_parse_mod.specs.Promise.{Derives, IsProgram, GivesProgram}
use Rattle.sml_parse_mod.specs.Late.{refusal, unsupported}
use Rattle.sml_restrict.specs.Programs.{Breaks, breaches}
use Rattle.sml_restrict_core.specs.Breaches.{breach, first}
use Rattle.sml_derive.specs.Programs.{Derived}
use Rattle.sml_front.specs.Sources.{FoundUnder, GivesRefusal, GivesSource, IsSourceUnder, Refusal, RefusedUnder}
use Rattle.sml_front.proofs.Moves.{source_under, refusal_under}

-- tokens are refused by the grammar in one way alone
module _ (cs : Changes) (ts : List Token) where
  same_program : (p q : Program) (left more : Settings) → Derives cs ts p left → Derives cs ts q more → p ≡ q
  same_program p q left more d e =
      ap (λ (t : Pr). t.0) (same_tree (λ n. program_exact cs Known.Refusals n) (λ t. refl) 1000 ts (p, d.height) (q, e.height) d.parses.0 e.parses.0)

  same_refusal : (a b : Place) (c d : Code) → grammar.Refusal cs ts a c → grammar.Refusal cs ts b d → refusal a c ≡ refusal b d
  same_refusal a b c d (inl r) (inl q) =
      let same = one_refused (ProgramR cs) 1000 ts r.cause q.cause r.next q.next r.rest q.rest r.refused.1 q.refused.1 in
      let next : r.next ≡ q.next = let tokens = same.1 in cc in
      let place : a ≡ b = sym r.stands ∙ (ap (λ (t : Token). t.place) next ∙ q.stands) in
      let code : c ≡ d = sym r.why ∙ (ap named same.0 ∙ q.why) in
      λ i. refusal (place i) (code i)
  same_refusal a b c d (inl r) (inr q) = absurd (r.refused.0 (q.program, q.derives.height) q.derives.parses.0)
  same_refusal a b c d (inr r) (inl q) = absurd (q.refused.0 (r.program, r.derives.height) r.derives.parses.0)
  same_refusal a b c d (inr r) (inr q) =
      let same : Some (refusal a c) ≡ Some (refusal b d) = sym r.phrase ∙ (ap (unsupported ts) (same_program r.program q.program r.left q.left r.derives q.derives) ∙ q.phrase) in
      cc

  -- and not where they are a program
  program_not_refused : (p : Program) (left : Settings) (a : Place) (c : Code) → IsProgram cs ts p left → grammar.Refusal cs ts a c → ⊥
  program_not_refused p left a c d (inl r) = r.refused.0 (p, d.derives.height) d.derives.parses.0
  program_not_refused p left a c d (inr r) =
      let same : None ≡ Some (refusal a c) = sym d.supported ∙ (ap (unsupported ts) (same_program p r.program left r.left d.derives r.derives) ∙ r.phrase) in
      absurd cc

module _ (number : ℕ) (cs : Changes) (bytes : List ℕ) (fix : Settings) (leaves : fixed cs ≡ fix) where
  -- the bytes are no other tokens, and no tokens where they are refused
  abbrev Alone : Result (List Token) Fault → Type 0
  Alone r = (us : List Token) → Lexes number bytes us → IsOrNoMemory r (Ok us)

  abbrev Right : Result (List Token) Fault → Type 0
  Right r = (f : Refused) → Refuses number bytes f → IsOrNoMemory r (Err (fault.Refused f))

  -- what is refused, as the answer says it
  abbrev RightlyRefused : Fault → Type 0
  RightlyRefused e = RefusesAs {T = BareProgram × Fixities} (RefusedUnder number fix bytes) (Err e)

  -- ---- the bytes are no tokens

  pub lex_only : (e : Fault) → Alone (Err e) → (q : Program) (left : Settings) → IsSourceUnder number fix bytes q left → GivesSource (Err e) q left
  lex_only (fault.NoMemory n) alone q left s = tt
  lex_only (fault.Refused f) alone q left s = let t = s.source in let wrong : Err (fault.Refused f) ≡ Ok t.tokens = alone t.tokens t.lexes in absurd cc

  pub lex_refused : (e : Fault) → RefusesRightly number bytes e → RightlyRefused e
  lex_refused (fault.NoMemory n) r = tt
  lex_refused (fault.Refused f) r = (cs, leaves, inl r)

  pub lex_refuses : (e : Fault) → Alone (Err e) → Right (Err e) → (a : Place) (c : Code) → RefusedUnder number fix bytes a c → GivesRefusal (Err e) a c
  lex_refuses (fault.NoMemory n) alone right a c r = tt
  lex_refuses (fault.Refused f) alone right a c r = go r.2
    where
      go : Refusal number r.0 bytes a c → f ≡ refusal a c
      go (inl q) = let same : Err (fault.Refused f) ≡ Err (fault.Refused (refusal a c)) = right (refusal a c) q in cc
      go (inr (inl q)) = let wrong : Err (fault.Refused f) ≡ Ok q.tokens = alone q.tokens q.lexes in absurd cc
      go (inr (inr q)) = let wrong : Err (fault.Refused f) ≡ Ok q.tokens = alone q.tokens q.lexes in absurd cc

  -- ---- they are these tokens

  module _ (ts : List Token) (lexes : Lexes number bytes ts) (alone : Alone (Ok ts)) (right : Right (Ok ts)) where
    these : (us : List Token) → Lexes number bytes us → us ≡ ts
    these us l = let same : Ok ts ≡ Ok us = alone us l in cc

    -- so a lawful program of the bytes is one of these tokens
    of_these : (q : Program) (left : Settings) → IsSourceUnder number fix bytes q left → IsProgram cs ts q left
    of_these q left s =
        let t = source_under number cs bytes fix leaves q left s in
        subst (λ (us : List Token). IsProgram cs us q left) (these t.tokens t.lexes) t.parses

    -- a program of these tokens breaks a rule there first
    abbrev Broken : Place → Code → Type 0
    Broken a c = (q : Program) × (left : Settings) × IsProgram cs ts q left × Breaks q a c

    -- and what is refused are these tokens, or such a program
    refused_these : (a : Place) (c : Code) → RefusedUnder number fix bytes a c → grammar.Refusal cs ts a c ⊎ Broken a c
    refused_these a c r = go (refusal_under number cs bytes fix leaves a c r)
      where
        go : Refusal number cs bytes a c → grammar.Refusal cs ts a c ⊎ Broken a c
        go (inl q) = let wrong : Ok ts ≡ Err (fault.Refused (refusal a c)) = right (refusal a c) q in absurd cc
        go (inr (inl q)) = inl (subst (λ (us : List Token). grammar.Refusal cs us a c) (these q.tokens q.lexes) q.refused)
        go (inr (inr q)) = inr (q.program, q.left, subst (λ (us : List Token). IsProgram cs us q.program q.left) (these q.tokens q.lexes) q.parses, q.breaks)

    -- ---- the tokens are no program, or one with a phrase that is not supported

    abbrev ByGrammar : Fault → Type 0
    ByGrammar e = RefusesAs {T = Program × Fixities} (grammar.Refusal cs ts) (Err e)

    pub parse_only : (e : Fault) → ((q : Program) (left : Settings) → IsProgram cs ts q left → GivesProgram (Err e) q left) → (q : Program) (left : Settings) → IsSourceUnder number fix bytes q left → GivesSource (Err e) q left
    parse_only (fault.NoMemory n) only q left s = tt
    parse_only (fault.Refused f) only q left s = only q left (of_these q left s)

    pub parse_refused : (e : Fault) → ByGrammar e → RightlyRefused e
    parse_refused (fault.NoMemory n) r = tt
    parse_refused (fault.Refused f) r = (cs, leaves, inr (inl (record { tokens = ts; lexes = lexes; refused = r })))

    pub parse_refuses : (e : Fault) → ByGrammar e → (a : Place) (c : Code) → RefusedUnder number fix bytes a c → GivesRefusal (Err e) a c
    parse_refuses (fault.NoMemory n) g a c r = tt
    parse_refuses (fault.Refused f) g a c r = go (refused_these a c r)
      where
        go : grammar.Refusal cs ts a c ⊎ Broken a c → f ≡ refusal a c
        go (inl q) = same_refusal cs ts f.place a f.code c g q
        go (inr q) = absurd (program_not_refused cs ts q.0 q.1 f.place f.code q.2 g)

    -- ---- they are this program

    module _ (p : Program) (f : Fixities) (behind : Settings) (parses : IsProgram cs ts p behind) where
      this_program : (q : Program) (left : Settings) → IsProgram cs ts q left → p ≡ q
      this_program q left d = same_program cs ts p q behind left parses.derives d.derives

      -- which breaks a rule
      module _ (r : Refused) (breaks : Breaks p r.place r.code) where
        pub break_only : (q : Program) (left : Settings) → IsSourceUnder number fix bytes q left → GivesSource (Err (fault.Refused r)) q left
        break_only q left s =
            let t = source_under number cs bytes fix leaves q left s in
            let none : first (breaches p) ≡ None = ap first (ap breaches (this_program q left (of_these q left s)) ∙ t.lawful) in
            let some : None ≡ Some (breach r.code r.place) = sym none ∙ breaks in
            absurd cc

        pub break_refused : RefusedUnder number fix bytes r.place r.code
        break_refused = (cs, leaves, inr (inr (record { tokens = ts; program = p; left = behind; lexes = lexes; parses = parses; breaks = breaks })))

        pub break_refuses : (a : Place) (c : Code) → RefusedUnder number fix bytes a c → GivesRefusal (Err (fault.Refused r)) a c
        break_refuses a c u = go (refused_these a c u)
          where
            go : grammar.Refusal cs ts a c ⊎ Broken a c → r ≡ refusal a c
            go (inl q) = absurd (program_not_refused cs ts p behind a c parses q)
            go (inr q) =
                let same : Some (breach r.code r.place) ≡ Some (breach c a) = sym breaks ∙ (ap (λ x. first (breaches x)) (this_program q.0 q.1 q.2) ∙ q.3) in
                cc

      -- which breaks none
      module _ (lawful : breaches p ≡ []) where
        pub source_refuses : (a : Place) (c : Code) → RefusedUnder number fix bytes a c → ⊥
        source_refuses a c u = go (refused_these a c u)
          where
            go : grammar.Refusal cs ts a c ⊎ Broken a c → ⊥
            go (inl q) = program_not_refused cs ts p behind a c parses q
            go (inr q) =
                let none : first (breaches p) ≡ None = ap first lawful in
                let wrong : None ≡ Some (breach c a) = sym none ∙ (ap (λ x. first (breaches x)) (this_program q.0 q.1 q.2) ∙ q.3) in
                absurd cc

        module _ (bare : BareProgram) (derived : bare ≡ Derived p) where
          pub source_found : FoundUnder number fix bytes bare behind
          source_found = record {
            program = p;
            source = record { before = cs; leaves = leaves; source = record { tokens = ts; lexes = lexes; parses = parses; lawful = lawful } };
            derived = derived;
          }

          pub source_only : ((q : Program) (left : Settings) → IsProgram cs ts q left → GivesProgram (Ok (p, f)) q left) → (q : Program) (left : Settings) → IsSourceUnder number fix bytes q left → GivesSource (Ok (bare, f)) q left
          source_only single q left s =
              let given = single q left (of_these q left s) in
              (derived ∙ ap Derived given.0, given.1)
