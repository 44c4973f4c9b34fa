-- Declarations in a row as the code reads them: behind the semicolons before them, and before the word that closes them.
use Rattle.std.proofs.Common.{◌≡◌, ℕ, true, false, List, Ok, Err, ap, ◌∙◌}
use Rattle.readers.specs.declared.code.Code.TheVariants.{Grammar}
use Rattle.readers.specs.declared.fault.ReadError.{ReadError}
use Rattle.readers.specs.declared.fault.ReadError.TheVariants as errors
use Rattle.readers.specs.Given.{Fails}
use Rattle.readers.specs.Reader.{first, head_is, Answer, Reader, ◌>>=◌, mapped, both, one, close}
use Rattle.readers.specs.Forms.{ended}
use Rattle.readers.proofs.Choice.{remade}
use Rattle.readers.proofs.Outcome.{ok_of, ok_is}
use Rattle.sml_lex.specs.declared.token.Token.{Token}
use Rattle.sml_ast.specs.declared.program.StrDec.{StrDec}
use Rattle.sml_grammar.specs.Tokens.{is, tokens_of}
use Rattle.sml_grammar_exp.specs.Decs.{Changes}
use Rattle.sml_grammar_exp.specs.ReadDecs.{semis_read}
use Rattle.sml_grammar_mod.specs.Strs.{Sd, strdecs_alone}
use Rattle.sml_grammar_mod.specs.ReadStrs.{strdecs_goes}
use Rattle.sml_parse_bind.proofs.Steps.{behind_ended, mapped_mapped, ended_gives, ended_bars, ended_fails}
use Rattle.sml_parse_exp.proofs.Parts.{fails_as}
use Rattle.sml_parse_mod.specs.Levels as levels
use Rattle.sml_parse_mod.specs.Trees.{strdecs}

abbrev gave : {T : Type 0} → T → List Token → Answer Token T
gave x s = Ok (x, s)

module _ (cs : Changes) (h : ℕ) (s r : List Token) (e : mapped levels.no_tree semis_read s ≡ Ok (tt, r)) where
  row_behind : mapped strdecs (levels.decs cs h) s ≡ mapped strdecs (ended (tokens_of strdecs_goes) (levels.row_of_decs cs h)) r
  row_behind =
      let a = ok_of (semis_read s) (λ y. gave (levels.no_tree y.0) y.1) (tt, r) e in
      let rest : a.0.1 ≡ r = ap (λ (y : Unit {0} × List Token). y.1) (ok_is (levels.no_tree a.0.0, a.0.1) (tt, r) a.2) in
      mapped_mapped strdecs_alone strdecs (ended (tokens_of strdecs_goes) (both semis_read (levels.row_of_decs cs h))) s
      ∙ (behind_ended (λ x. strdecs (strdecs_alone x)) (tokens_of strdecs_goes) semis_read (levels.row_of_decs cs h) s a.0.1 a.0.0 a.1
      ∙ ap (λ (t : List Token). mapped strdecs (ended (tokens_of strdecs_goes) (levels.row_of_decs cs h)) t) rest)

  pub decs_fail : (k : ReadError Token) → Fails k (mapped strdecs (levels.row_of_decs cs h) r) → Fails k (mapped strdecs (levels.decs cs h) s)
  decs_fail k i = fails_as k _ _ row_behind (ended_fails strdecs (tokens_of strdecs_goes) (levels.row_of_decs cs h) k r i)

  module _ (x : List StrDec × ℕ) (t : List Token) (i : mapped strdecs (levels.row_of_decs cs h) r ≡ Ok (x, t)) where
    pub decs_barred : head_is (tokens_of strdecs_goes) (first t) ≡ true → mapped strdecs (levels.decs cs h) s ≡ Err (Grammar, t)
    decs_barred g = row_behind ∙ ended_bars strdecs (tokens_of strdecs_goes) (levels.row_of_decs cs h) r (x, t) i g

    pub decs_read : head_is (tokens_of strdecs_goes) (first t) ≡ false → mapped strdecs (levels.decs cs h) s ≡ Ok (x, t)
    decs_read g = row_behind ∙ ended_gives strdecs (tokens_of strdecs_goes) (levels.row_of_decs cs h) r (x, t) i g

-- declarations and a word, where the word is not next
module _ (p : Reader Token (List Sd)) (n : ℕ) where
  pub closing_fails : (k : ReadError Token) (r t : List Token) (x : List StrDec × ℕ) → mapped strdecs p r ≡ Ok (x, t) → Fails k (one (is n) t) → Fails k (mapped strdecs (close p (is n)) r)
  closing_fails errors.NoMemory r t x e i = tt
  closing_fails (errors.Refused code rest) r t x e i =
      let a = ok_of (p r) (λ y. gave (strdecs y.0) y.1) (x, t) e in
      let same : a.0.1 ≡ t = ap (λ (y : (List StrDec × ℕ) × List Token). y.1) (ok_is (strdecs a.0.0, a.0.1) (x, t) a.2) in
      ap (λ (z : Answer Token (List Sd)). remade strdecs (z >>= λ y. one (is n) y.1 >>= λ w. gave y.0 w.1)) a.1
      ∙ (ap (λ (q : List Token). remade strdecs (one (is n) q >>= λ w. gave a.0.0 w.1)) same
      ∙ ap (λ (z : Answer Token (Unit {0})). remade strdecs (z >>= λ w. gave a.0.0 w.1)) i)
