-- Declarations in a row as the code reads them: behind the semicolons before them, and between two words.
use Rattle.std.proofs.Common.{◌≡◌, ℕ, true, false, List, Ok, Err, ap, ◌∙◌}
use Rattle.readers.specs.declared.code.Code.TheVariants.{Grammar}
use Rattle.readers.specs.declared.fault.ReadError.{ReadError}
use Rattle.readers.specs.declared.fault.ReadError.TheVariants as errors
use Rattle.readers.specs.Given.{Fails}
use Rattle.readers.specs.Reader.{first, head_is, Answer, Reader, ◌>>=◌, mapped, both, one, skip, close}
use Rattle.readers.specs.Forms.{ended}
use Rattle.readers.proofs.Choice.{remade}
use Rattle.readers.proofs.Outcome.{ok_of, ok_is}
use Rattle.sml_lex.specs.declared.token.Token.{Token}
use Rattle.sml_ast.specs.declared.exp.Dec.{Dec}
use Rattle.sml_grammar.specs.Words.{END}
use Rattle.sml_grammar.specs.Tokens.{is, tokens_of}
use Rattle.sml_grammar_exp.specs.Exps.{De}
use Rattle.sml_grammar_exp.specs.Decs.{Changes, decs_alone}
use Rattle.sml_grammar_exp.specs.ReadDecs.{decs_goes, semis_read}
use Rattle.sml_parse_bind.proofs.Nodes.{past}
use Rattle.sml_parse_bind.proofs.Steps.{behind_ended, mapped_mapped, ended_gives, ended_bars, ended_fails}
use Rattle.sml_parse_exp.specs.Levels as levels
use Rattle.sml_parse_exp.specs.Trees.{decs_of}
use Rattle.sml_parse_exp.proofs.Parts.{fails_as}

abbrev gave : {T : Type 0} → T → List Token → Answer Token T
gave x s = Ok (x, s)

module _ (cs : Changes) (h : ℕ) (s r : List Token) (e : mapped levels.no_tree semis_read s ≡ Ok (tt, r)) where
  row_behind : mapped decs_of (levels.decs cs h) s ≡ mapped decs_of (ended (tokens_of decs_goes) (levels.row_of_decs cs h)) r
  row_behind =
      let a = ok_of (semis_read s) (λ y. gave (levels.no_tree y.0) y.1) (tt, r) e in
      let rest : a.0.1 ≡ r = ap (λ (y : Unit {0} × List Token). y.1) (ok_is (levels.no_tree a.0.0, a.0.1) (tt, r) a.2) in
      mapped_mapped decs_alone decs_of (ended (tokens_of decs_goes) (both semis_read (levels.row_of_decs cs h))) s
      ∙ (behind_ended (λ x. decs_of (decs_alone x)) (tokens_of decs_goes) semis_read (levels.row_of_decs cs h) s a.0.1 a.0.0 a.1
      ∙ ap (λ (t : List Token). mapped decs_of (ended (tokens_of decs_goes) (levels.row_of_decs cs h)) t) rest)

  pub decs_fail : (k : ReadError Token) → Fails k (mapped decs_of (levels.row_of_decs cs h) r) → Fails k (mapped decs_of (levels.decs cs h) s)
  decs_fail k i = fails_as k _ _ row_behind (ended_fails decs_of (tokens_of decs_goes) (levels.row_of_decs cs h) k r i)

  module _ (x : List Dec × ℕ) (t : List Token) (i : mapped decs_of (levels.row_of_decs cs h) r ≡ Ok (x, t)) where
    pub decs_barred : head_is (tokens_of decs_goes) (first t) ≡ true → mapped decs_of (levels.decs cs h) s ≡ Err (Grammar, t)
    decs_barred g = row_behind ∙ ended_bars decs_of (tokens_of decs_goes) (levels.row_of_decs cs h) r (x, t) i g

    pub decs_read : head_is (tokens_of decs_goes) (first t) ≡ false → mapped decs_of (levels.decs cs h) s ≡ Ok (x, t)
    decs_read g = row_behind ∙ ended_gives decs_of (tokens_of decs_goes) (levels.row_of_decs cs h) r (x, t) i g

-- declarations between a word and `end`, where no `end` is
module _ (p : Reader Token (List De)) where
  end_fails : (k : ReadError Token) (r t : List Token) (x : List Dec × ℕ) → mapped decs_of p r ≡ Ok (x, t) → Fails k (one (is END) t) → Fails k (mapped decs_of (close p (is END)) r)
  end_fails errors.NoMemory r t x e i = tt
  end_fails (errors.Refused code rest) r t x e i =
      let a = ok_of (p r) (λ y. gave (decs_of y.0) y.1) (x, t) e in
      let same : a.0.1 ≡ t = ap (λ (y : (List Dec × ℕ) × List Token). y.1) (ok_is (decs_of a.0.0, a.0.1) (x, t) a.2) in
      ap (λ (z : Answer Token (List De)). remade decs_of (z >>= λ y. one (is END) y.1 >>= λ w. gave y.0 w.1)) a.1
      ∙ (ap (λ (q : List Token). remade decs_of (one (is END) q >>= λ w. gave a.0.0 w.1)) same
      ∙ ap (λ (z : Answer Token (Unit {0})). remade decs_of (z >>= λ w. gave a.0.0 w.1)) i)

  pub word_end_fails : (n : ℕ) (s r t : List Token) (x : List Dec × ℕ) → one (is n) s ≡ Ok (tt, r) → mapped decs_of p r ≡ Ok (x, t) → (k : ReadError Token) → Fails k (one (is END) t)
      → Fails k (mapped decs_of (skip (is n) (close p (is END))) s)
  word_end_fails n s r t x word e k i = fails_as k _ _ (ap (remade decs_of) (past (is n) (close p (is END)) s r word)) (end_fails k r t x e i)
