-- A structure expression and its ascriptions, as a loop reads them.
use Rattle.std.proofs.Common.{◌≡◌, ℕ, ◌<◌, Bool, true, false, List, length, Ok, Err, refl, sym, ap, ◌∙◌}
use Rattle.readers.specs.declared.fault.ReadError.{ReadError}
use Rattle.readers.specs.Given.{Fails}
use Rattle.readers.specs.Reader.{first, Answer, ◌>>=◌, head_is, steps}
use Rattle.readers.proofs.StepLoop.{ended}
use Rattle.sml_lex.specs.declared.token.Token.{Token}
use Rattle.sml_grammar_mod.specs.Strs.{St}
use Rattle.sml_grammar_mod.specs.ReadStrs.{Grow, Growing, all_grown, begins_grow, grow_read, grown_by, grown_str}
use Rattle.sml_parse_sig.proofs.Tracked.{run_turn, run_end, run_fails}
use Rattle.sml_parse_mod.specs.Levels as levels
use Rattle.sml_parse_mod.proofs.Steps.{grow_less}

abbrev pub finished : Answer Token Growing → Answer Token St
finished r = r >>= λ x. Ok (grown_str x.0, x.1)

abbrev paired : Growing → List Grow → List Token → Answer Token (Growing × List Grow)
paired g us s = Ok ((g, us), s)

module _ (h : ℕ) where
  abbrev pub growth : Growing → List Token → Answer Token St
  growth g s = finished (ended grown_by g (steps begins_grow grown_by (grow_read h) g s))

  pub growth_start : (e : St) (s : List Token) → levels.all_grown h e s ≡ growth (Growing.Whole e) s
  growth_start e s = go (steps begins_grow grown_by (grow_read h) (Growing.Whole e) s)
    where
      go : (r : Answer Token (List Grow)) → ((r >>= λ y. paired (Growing.Whole e) y.0 y.1) >>= λ x. Ok (all_grown x.0, x.1)) ≡ finished (ended grown_by (Growing.Whole e) r)
      go (Ok y) = refl
      go (Err d) = refl

  pub growth_turn : (g : Growing) (s : List Token) (z : Grow × List Token) (all : Answer Token St) → all ≡ growth g s → head_is begins_grow (first s) ≡ true → grow_read h g s ≡ Ok z → all ≡ growth (grown_by g z.0) z.1
  growth_turn g s z all inv i e = run_turn begins_grow grown_by (grow_read h) (grow_less h) finished (λ e. refl) g s z all inv i e

  pub growth_end : (g : Growing) (s : List Token) (all : Answer Token St) → all ≡ growth g s → head_is begins_grow (first s) ≡ false → (e : St) → e ≡ grown_str g → all ≡ Ok (e, s)
  growth_end g s all inv i e j =
      run_end begins_grow grown_by (grow_read h) (grow_less h) finished (λ e. refl) g s all inv i
      ∙ ap (λ (k : St). Ok (k, s)) (sym j)

  pub growth_fails : (f : ReadError Token) (g : Growing) (s : List Token) (all : Answer Token St) → all ≡ growth g s → head_is begins_grow (first s) ≡ true → Fails f (grow_read h g s) → Fails f all
  growth_fails f g s all inv i e = run_fails begins_grow grown_by (grow_read h) (grow_less h) finished (λ e. refl) f g s all inv i e
