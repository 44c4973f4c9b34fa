-- The rules of a match as the loop of the code reads them, with the end of the last one.
use Rattle.std.proofs.Common.{◌≡◌, ℕ, ◌<◌, Bool, true, false, not, max, map, List, [], ◌∷◌, ◌++◌, length, Ok, Err, refl, sym, ap, ◌∙◌, append_assoc, arith}
use Rattle.std.proofs.lemmas.List.{append-nil}
use Rattle.readers.specs.declared.code.Code.TheVariants.{Grammar}
use Rattle.readers.specs.declared.fault.ReadError.{ReadError}
use Rattle.readers.specs.declared.fault.ReadError.TheVariants as errors
use Rattle.readers.specs.Given.{Fails}
use Rattle.readers.specs.Reader.{first, Answer, Reader, ◌>>=◌, head_is, one, skip, mapped, steps, with_front}
use Rattle.readers.specs.Forms.{highest, height_of, latest, further, cons_of}
use Rattle.readers.proofs.RowLoop.{Shortens}
use Rattle.readers.proofs.StepLoop.{steps_more, steps_done, steps_fail}
use Rattle.sml_lex.specs.declared.token.Token.{Token}
use Rattle.sml_ast.specs.declared.exp.Rule.{Rule}
use Rattle.sml_grammar.specs.Words.{BAR}
use Rattle.sml_grammar.specs.Tokens.{is}
use Rattle.sml_grammar_exp.specs.Exps.{Ru, Ends, before_bar, takes_bar, match_end, rule_trees}
use Rattle.sml_grammar_exp.specs.ReadExps.{match_read}
use Rattle.sml_parse_exp.specs.Trees.{rules_of}
use Rattle.sml_parse_pat.proofs.Ready.{behind_item, further_less}

abbrev Rules : Type 0
Rules = (List Rule × Ends) × ℕ

abbrev gave : List Rule → Ends → ℕ → List Token → Answer Token Rules
gave ts e n s = Ok (((ts, e), n), s)

-- what was found, the last rule of it, and what is still to come
abbrev pub gathered : List Rule → ℕ → Ru → Answer Token (List Ru) → Answer Token Rules
gathered found n y r = r >>= λ z. gave (found ++ rule_trees z.0) (match_end (y ∷ z.0)) (max n (highest height_of z.0)) z.1

front : (found : List Rule) (n : ℕ) (y z : Ru) (r : Answer Token (List Ru)) → gathered found n y (with_front (z ∷ []) r) ≡ gathered (found ++ z.0.0 ∷ []) (max n z.1) z r
front found n y z (Ok w) =
    let same : max n (max z.1 (highest height_of w.0)) ≡ max (max n z.1) (highest height_of w.0) = omega arith in
    ap (λ (l : List Rule). gave l (match_end (z ∷ w.0)) (max n (max z.1 (highest height_of w.0))) w.1) (sym (append_assoc found (z.0.0 ∷ []) (rule_trees w.0)))
    ∙ ap (λ (m : ℕ). gave ((found ++ z.0.0 ∷ []) ++ rule_trees w.0) (match_end (z ∷ w.0)) m w.1) same
front found n y z (Err e) = refl

none : (found : List Rule) (n : ℕ) (y : Ru) (s : List Token) → gathered found n y (Ok ([], s)) ≡ gave found y.0.1 n s
none found n y s =
    let same : max n 0 ≡ n = omega arith in
    ap (λ (l : List Rule). gave l y.0.1 (max n 0) s) (append-nil found) ∙ ap (λ (m : ℕ). gave found y.0.1 m s) same

-- the rule that was read last, its end, and what is still to come
pub record Reading (p : Reader Token Ru) (found : List Rule) (e : Ends) (n : ℕ) (s : List Token) (all : Answer Token Rules) : Type 0 where
  pub last : Ru
  pub ending : last.0.1 ≡ e
  pub whole : all ≡ gathered found n last (behind_item (is BAR) before_bar p last s)

abbrev pair_of : Ru × List Ru → List Token → Answer Token (Ru × List Ru)
pair_of x t = Ok (x, t)

abbrev row_of : List Ru → List Token → Answer Token (List Ru)
row_of x t = Ok (x, t)

module _ (p : Reader Token Ru) where
  pub rules_first : (s : List Token) (z : Ru × List Token) (e : Ends) → p s ≡ Ok z → z.0.0.1 ≡ e → Reading p (z.0.0.0 ∷ []) e z.0.1 z.1 (mapped rules_of (match_read p) s)
  rules_first s z e i j = record { last = z.0; ending = j; whole = rw i (go (behind_item (is BAR) before_bar p z.0 z.1)) }
    where
      go : (r : Answer Token (List Ru))
          → (((r >>= λ y. pair_of (z.0, y.0) y.1) >>= λ x. row_of (cons_of x.0) x.1) >>= λ x. gave (rule_trees x.0) (match_end x.0) (highest height_of x.0) x.1) ≡ gathered (z.0.0.0 ∷ []) z.0.1 z.0 r
      go (Ok y) = refl
      go (Err e) = refl

  pub rules_first_fails : (f : ReadError Token) (s : List Token) → Fails f (p s) → Fails f (mapped rules_of (match_read p) s)
  rules_first_fails errors.NoMemory s e = tt
  rules_first_fails (errors.Refused code rest) s e = rw e refl

  module _ (less : Shortens (skip (is BAR) p)) where
    abbrev item_less : (y : Ru) → Shortens (further (is BAR) before_bar p y)
    item_less y = further_less (is BAR) before_bar p less y

    opened : (y : Ru) (s after : List Token) → before_bar y ≡ true → one (is BAR) s ≡ Ok (tt, after) → further (is BAR) before_bar p y s ≡ p after
    opened y [] after i o = absurd cc
    opened y (c ∷ s) after i o = rw i (rw o refl)

    -- a bar may follow
    free : (y : Ru) (e : Ends) → y.0.1 ≡ e → takes_bar e.reach ≡ false → before_bar y ≡ true
    free y e i j = ap (λ (d : Ends). not (takes_bar d.reach)) i ∙ ap not j

    module _ (found : List Rule) (e : Ends) (n : ℕ) (s : List Token) (all : Answer Token Rules) (r : Reading p found e n s all) (h : head_is (is BAR) (first s) ≡ true) where
      pub rules_turn : (after : List Token) (z : Ru × List Token) (d : Ends) → takes_bar e.reach ≡ false → one (is BAR) s ≡ Ok (tt, after) → p after ≡ Ok z → z.0.0.1 ≡ d → Reading p (found ++ z.0.0.0 ∷ []) d (max n z.0.1) z.1 all
      rules_turn after z d i o k j = record {
        last = z.0;
        ending = j;
        whole = r.whole ∙ (ap (gathered found n r.last) (steps_more (is BAR) latest (further (is BAR) before_bar p) item_less r.last s z h (opened r.last s after (free r.last e r.ending i) o ∙ k)) ∙ front found n r.last z.0 (behind_item (is BAR) before_bar p z.0 z.1));
      }

      pub rules_barred : takes_bar e.reach ≡ true → all ≡ Err (Grammar, s)
      rules_barred i = r.whole ∙ ap (gathered found n r.last) (steps_fail (is BAR) latest (further (is BAR) before_bar p) item_less r.last s (Grammar, s) h (shut s h))
        where
          shut : (s : List Token) → head_is (is BAR) (first s) ≡ true → further (is BAR) before_bar p r.last s ≡ Err (Grammar, s)
          shut [] h = absurd cc
          shut (c ∷ s) h = let k : before_bar r.last ≡ false = ap (λ (d : Ends). not (takes_bar d.reach)) r.ending ∙ ap not i in rw k refl

      pub rules_item_fails : (f : ReadError Token) (after : List Token) → takes_bar e.reach ≡ false → one (is BAR) s ≡ Ok (tt, after) → Fails f (p after) → Fails f all
      rules_item_fails errors.NoMemory after i o k = tt
      rules_item_fails (errors.Refused code rest) after i o k =
          r.whole ∙ ap (gathered found n r.last) (steps_fail (is BAR) latest (further (is BAR) before_bar p) item_less r.last s (code, rest.now) h (opened r.last s after (free r.last e r.ending i) o ∙ k))

    pub rules_end : (found : List Rule) (e : Ends) (n : ℕ) (s : List Token) (all : Answer Token Rules) → Reading p found e n s all → head_is (is BAR) (first s) ≡ false → all ≡ Ok (((found, e), n), s)
    rules_end found e n s all r h =
        r.whole ∙ (ap (gathered found n r.last) (steps_done (is BAR) latest (further (is BAR) before_bar p) item_less r.last s h) ∙ (none found n r.last s ∙ ap (λ (d : Ends). gave found d n s) r.ending))
