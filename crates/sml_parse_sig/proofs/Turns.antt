-- Identifiers with their signatures, as a loop reads them: what is done, and the last one, which may still grow.
use Rattle.std.proofs.Common.{◌≡◌, ℕ, ◌<◌, Bool, true, false, List, [], ◌∷◌, ◌++◌, length, Ok, Err, refl, sym, ap, ◌∙◌, append_assoc, arith}
use Rattle.readers.specs.declared.fault.ReadError.{ReadError}
use Rattle.readers.specs.Given.{Fails}
use Rattle.readers.specs.Infix.{ups}
use Rattle.readers.specs.Reader.{first, Answer, Reader, ◌>>=◌, head_is, both, token_by, skip, guard, steps}
use Rattle.readers.specs.Room.{at_height}
use Rattle.readers.specs.Forms.{else_if, growth}
use Rattle.readers.proofs.Bundle.{Known}
use Rattle.readers.proofs.Choice.{remade}
use Rattle.readers.proofs.RowLoop.{Shortens}
use Rattle.readers.proofs.StepLoop.{ended}
use Rattle.sml_lex.specs.declared.token.Token.{Token}
use Rattle.sml_scan.proofs.Shorter.{kept, token_shorter, mapped_shorter, both_shorter, skip_shorter, else_if_shorter, guard_shorter}
use Rattle.sml_grammar.specs.Words.{AND, TYPE, WHERE}
use Rattle.sml_grammar.specs.Tokens.{is, the, tokens_of, alphas, strid}
use Rattle.sml_grammar_sig.specs.ReadDescs.{real_bind_read}
use Rattle.sml_grammar_sig.specs.Sigs.{Ss, is_real}
use Rattle.sml_grammar_sig.specs.ReadSigs.{Suffix, Turn, at_and, at_where, below, gathered, gathered_from, goes_on, head_read, more_read, next_read, str_read, strs_level, there_read, turn_by, turn_read, turned, where_read}
use Rattle.sml_grammar_sig.proofs.Descs.{real_bind_exact}
use Rattle.sml_grammar_sig.proofs.Levels.{head_exact}
use Rattle.sml_parse_bind.proofs.Steps.{phrase_less}
use Rattle.sml_parse_sig.specs.Rows as rows
use Rattle.sml_parse_sig.proofs.Tracked.{tracked, run_turn, run_end, run_fails}

-- ---- what the loop keeps

abbrev pub Kept : Type 0
Kept = List Ss × Ss

abbrev latest : Kept → Ss
latest y = y.1

same : (y : Kept) (u : Turn) → latest (rows.with_turn y u) ≡ turned (latest y) u
same y (Turn.More u) = refl
same y (Turn.Next t) = refl

abbrev done : Kept → List Ss
done y = y.0 ++ y.1 ∷ []

all_kept : (y : Kept) (us : List Turn) → done (ups rows.with_turn y us) ≡ y.0 ++ gathered_from y.1 us
all_kept y [] = refl
all_kept y (Turn.More u ∷ us) = all_kept (rows.with_turn y (Turn.More u)) us
all_kept y (Turn.Next t ∷ us) = all_kept (rows.with_turn y (Turn.Next t)) us ∙ append_assoc y.0 (y.1 ∷ []) (gathered_from t us)

abbrev pub finished : Answer Token Kept → Answer Token (List Ss)
finished r = r >>= λ x. Ok (done x.0, x.1)

-- ---- each reader takes a token

module _ (word h : ℕ) where
  head_less : Shortens (head_read h)
  head_less = phrase_less (head_exact Known.Readings h) (at_height h false) (omega arith)

  real_less : Shortens (real_bind_read h)
  real_less = phrase_less (real_bind_exact Known.Readings h) (at_height h false) (omega arith)

  str_less : Shortens (str_read word (head_read h))
  str_less = both_shorter (token_by strid) (skip (is word) (head_read h)) (token_shorter strid) (kept (skip (is word) (head_read h)) (skip_shorter (is word) (head_read h) (kept (head_read h) head_less)))

  next_less : Shortens (next_read word (head_read h))
  next_less = mapped_shorter Turn.Next (str_read word (head_read h)) str_less

  more_less : (n : ℕ) → Shortens (more_read (real_bind_read h) n h)
  more_less n =
      let p : Reader Token _ = skip (is TYPE) (real_bind_read h) in
      mapped_shorter (λ b. Turn.More (at_and b)) (guard (growth (is TYPE) true n h) p) (guard_shorter (growth (is TYPE) true n h) p (skip_shorter (is TYPE) (real_bind_read h) (kept (real_bind_read h) real_less)))

  there_less : (n : ℕ) → Shortens (there_read (real_bind_read h) n h)
  there_less n =
      let p : Reader Token _ = skip (is TYPE) (real_bind_read h) in
      let q : Reader Token Suffix = where_read (real_bind_read h) in
      mapped_shorter Turn.More (guard (growth (is WHERE) true n h) q) (guard_shorter (growth (is WHERE) true n h) q
      (mapped_shorter at_where (both (token_by (the WHERE)) p) (both_shorter (token_by (the WHERE)) p (token_shorter (the WHERE)) (kept p (skip_shorter (is TYPE) (real_bind_read h) (kept (real_bind_read h) real_less))))))

  turn_less : (r : Bool) (n : ℕ) → Shortens (turn_by r word (head_read h) (real_bind_read h) n h)
  turn_less true n =
      let p : Reader Token Turn = else_if (tokens_of alphas) (next_read word (head_read h)) (more_read (real_bind_read h) n h) in
      else_if_shorter (is AND) (skip (is AND) p) (there_read (real_bind_read h) n h)
      (skip_shorter (is AND) p (kept p (else_if_shorter (tokens_of alphas) (next_read word (head_read h)) (more_read (real_bind_read h) n h) next_less (more_less n)))) (there_less n)
  turn_less false n =
      else_if_shorter (is AND) (skip (is AND) (next_read word (head_read h))) (there_read (real_bind_read h) n h)
      (skip_shorter (is AND) (next_read word (head_read h)) (kept (next_read word (head_read h)) next_less)) (there_less n)

  abbrev pub turns : Ss → Reader Token Turn
  turns = turn_read word (head_read h) (real_bind_read h) h

  abbrev pub row : Kept → List Token → Answer Token (List Ss)
  row y s = finished (ended rows.with_turn y (steps goes_on rows.with_turn (λ y. turns (latest y)) y s))

  abbrev paired : Ss → List Turn → List Token → Answer Token (Ss × List Turn)
  paired x us s = Ok ((x, us), s)

  pub row_start : (s : List Token) (z : Ss × List Token) → str_read word (head_read h) s ≡ Ok z → strs_level word (head_read h) (real_bind_read h) h s ≡ row ([], z.0) z.1
  row_start s z e =
      rw e (go (steps goes_on turned turns z.0 z.1))
      ∙ ap (λ (r : Answer Token (List Turn)). finished (ended rows.with_turn ([], z.0) r)) (sym (tracked latest goes_on turned rows.with_turn turns same ([], z.0) z.1))
    where
      go : (r : Answer Token (List Turn)) → remade gathered (r >>= λ y. paired z.0 y.0 y.1) ≡ finished (ended rows.with_turn ([], z.0) r)
      go (Ok y) = ap (λ (l : List Ss). Ok (l, y.1)) (sym (all_kept ([], z.0) y.0))
      go (Err e) = refl

  pub row_turn : (y : Kept) (s : List Token) (z : Turn × List Token) (all : Answer Token (List Ss)) → all ≡ row y s → head_is goes_on (first s) ≡ true → turns y.1 s ≡ Ok z → all ≡ row (rows.with_turn y z.0) z.1
  row_turn y s z all inv i e = run_turn goes_on rows.with_turn (λ y. turns (latest y)) (λ y. turn_less (is_real y.1.1) (below y.1.1)) finished (λ e. refl) y s z all inv i e

  pub row_end : (y : Kept) (s : List Token) (all : Answer Token (List Ss)) → all ≡ row y s → head_is goes_on (first s) ≡ false → all ≡ Ok (done y, s)
  row_end y s all inv i = run_end goes_on rows.with_turn (λ y. turns (latest y)) (λ y. turn_less (is_real y.1.1) (below y.1.1)) finished (λ e. refl) y s all inv i

  pub row_fails : (f : ReadError Token) (y : Kept) (s : List Token) (all : Answer Token (List Ss)) → all ≡ row y s → head_is goes_on (first s) ≡ true → Fails f (turns y.1 s) → Fails f all
  row_fails f y s all inv i e = run_fails goes_on rows.with_turn (λ y. turns (latest y)) (λ y. turn_less (is_real y.1.1) (below y.1.1)) finished (λ e. refl) f y s all inv i e

  pub row_smaller : (y : Kept) (s : List Token) (z : Turn × List Token) → turns y.1 s ≡ Ok z → length z.1 < length s
  row_smaller y s z e = turn_less (is_real y.1.1) (below y.1.1) s z e
