-- Specifications and semicolons up to a word, as a loop reads them.
use Rattle.std.proofs.Common.{◌≡◌, ℕ, ◌<◌, Bool, true, false, max, map, List, [], ◌∷◌, ◌++◌, length, Option, Some, None, Ok, Err, refl, sym, ap, ◌∙◌, append_assoc, arith}
use Rattle.std.proofs.lemmas.List.{append-nil}
use Rattle.readers.specs.declared.fault.ReadError.{ReadError}
use Rattle.readers.specs.Given.{Fails}
use Rattle.readers.specs.Infix.{ups}
use Rattle.readers.specs.Reader.{first, Answer, ◌>>=◌, head_is, mapped, one, steps}
use Rattle.readers.specs.Room.{at_height}
use Rattle.readers.specs.Forms.{growth, highest, height_of}
use Rattle.readers.proofs.Bundle.{Known}
use Rattle.readers.proofs.Choice.{remade}
use Rattle.readers.proofs.RowLoop.{Shortens}
use Rattle.readers.proofs.StepLoop.{ended}
use Rattle.sml_lex.specs.declared.token.Token.{Token}
use Rattle.sml_ast.specs.declared.sig.Spec.{Spec}
use Rattle.sml_scan.proofs.Shorter.{mapped_shorter, one_shorter, else_if_shorter, guard_shorter}
use Rattle.sml_grammar.specs.Words.{SEMICOLON}
use Rattle.sml_grammar.specs.Tokens.{is}
use Rattle.sml_grammar_sig.specs.Sigs.{Sp, no_spec, some_spec, present}
use Rattle.sml_grammar_sig.specs.ReadSigs.{begins_item, item_lone, item_read, lone_next, spec_read}
use Rattle.sml_grammar_sig.proofs.Levels.{spec_exact}
use Rattle.sml_parse_bind.proofs.Steps.{phrase_less}
use Rattle.sml_parse_sig.specs.Levels as levels
use Rattle.sml_parse_sig.specs.Rows as rows
use Rattle.sml_parse_sig.proofs.Tracked.{tracked, run_turn, run_end, run_fails}

spec_less : (h : ℕ) → Shortens (spec_read h)
spec_less h = phrase_less (spec_exact Known.Readings h) (at_height h false) (omega arith)

item_shorter : (h : ℕ) → Shortens (item_read (spec_read h))
item_shorter h = else_if_shorter (is SEMICOLON) (mapped no_spec (one (is SEMICOLON))) (mapped some_spec (spec_read h)) (mapped_shorter no_spec (one (is SEMICOLON)) (one_shorter (is SEMICOLON))) (mapped_shorter some_spec (spec_read h) (spec_less h))

item_less : (h : ℕ) (p : Bool) → Shortens (levels.item h p)
item_less h true = guard_shorter (growth begins_item true 2 h) (item_read (spec_read h)) (item_shorter h)
item_less h false = item_shorter h

-- ---- what the loop keeps: whether one identifier was included last, the specifications, and the height of the highest

abbrev pub Kept : Type 0
Kept = Bool × (List Spec × ℕ)

abbrev lone : Kept → Bool
lone y = y.0

abbrev whole : Bool → List Spec → ℕ → List Sp → Kept
whole p xs n ts = (p, (xs ++ map rows.spec_tree ts, max n (highest height_of ts)))

all_kept : (p : Bool) (xs : List Spec) (n : ℕ) (us : List (Option Sp)) → ups rows.with_item (p, (xs, n)) us ≡ whole (ups lone_next p us) xs n (present us)
all_kept p xs n [] =
    let same : max n 0 ≡ n = omega arith in
    sym (ap (λ (l : List Spec). (p, (l, max n 0))) (append-nil xs) ∙ ap (λ (m : ℕ). (p, (xs, m))) same)
all_kept p xs n (None ∷ us) = all_kept false xs n us
all_kept p xs n (Some t ∷ us) =
    let q : Bool = ups lone_next (item_lone (Some t)) us in
    let same : max (max n t.1) (highest height_of (present us)) ≡ max n (max t.1 (highest height_of (present us))) = omega arith in
    all_kept (item_lone (Some t)) (xs ++ t.0 ∷ []) (max n t.1) us
    ∙ (ap (λ (l : List Spec). (q, (l, max (max n t.1) (highest height_of (present us))))) (append_assoc xs (t.0 ∷ []) (map rows.spec_tree (present us)))
    ∙ ap (λ (m : ℕ). (q, (xs ++ t.0 ∷ map rows.spec_tree (present us), m))) same)

module _ (word h : ℕ) where
  abbrev pub closed : Answer Token Kept → Answer Token (List Spec × ℕ)
  closed r = r >>= λ x. levels.closing word x.0.0 h x.1 >>= λ y. Ok (x.0.1, y.1)

  abbrev pub row : Kept → List Token → Answer Token (List Spec × ℕ)
  row y s = closed (ended rows.with_item y (steps begins_item rows.with_item (λ y. levels.item h (lone y)) y s))

  abbrev gave : List (Option Sp) → Unit {0} → List Token → Answer Token (List (Option Sp) × Unit {0})
  gave us y s = Ok ((us, y), s)

  abbrev given : List Spec × ℕ → List Token → Answer Token (List Spec × ℕ)
  given x s = Ok (x, s)

  pub row_start : (s : List Token) → mapped rows.specs (levels.specs_to word h) s ≡ row (false, ([], 0)) s
  row_start s =
      go (steps begins_item lone_next (levels.item h) false s)
      ∙ ap (λ (r : Answer Token (List (Option Sp))). closed (ended rows.with_item (false, ([], 0)) r)) (sym (tracked lone begins_item lone_next rows.with_item (levels.item h) (λ y u. refl) (false, ([], 0)) s))
    where
      last : (us : List (Option Sp)) (r : Answer Token (Unit {0})) → remade rows.specs (remade (λ x. present x.0) (r >>= λ y. gave us y.0 y.1)) ≡ (r >>= λ y. given ([] ++ map rows.spec_tree (present us), max 0 (highest height_of (present us))) y.1)
      last us (Ok y) =
          let same : highest height_of (present us) ≡ max 0 (highest height_of (present us)) = omega arith in
          ap (λ (n : ℕ). given (map rows.spec_tree (present us), n) y.1) same
      last us (Err e) = refl

      next : (us : List (Option Sp)) (t : List Token)
          → (levels.closing word (ups lone_next false us) h t >>= λ y. given ([] ++ map rows.spec_tree (present us), max 0 (highest height_of (present us))) y.1)
          ≡ (levels.closing word (ups rows.with_item (false, ([], 0)) us).0 h t >>= λ y. given (ups rows.with_item (false, ([], 0)) us).1 y.1)
      next us t = ap (λ (k : Kept). levels.closing word k.0 h t >>= λ y. given k.1 y.1) (sym (all_kept false [] 0 us))

      go : (r : Answer Token (List (Option Sp))) → remade rows.specs (remade (λ x. present x.0) (r >>= λ x. levels.closing word (ups lone_next false x.0) h x.1 >>= λ y. gave x.0 y.0 y.1)) ≡ closed (ended rows.with_item (false, ([], 0)) r)
      go (Ok x) = last x.0 (levels.closing word (ups lone_next false x.0) h x.1) ∙ next x.0 x.1
      go (Err e) = refl

  pub row_turn : (y : Kept) (s : List Token) (z : Option Sp × List Token) (all : Answer Token (List Spec × ℕ)) → all ≡ row y s → head_is begins_item (first s) ≡ true → levels.item h y.0 s ≡ Ok z → all ≡ row (rows.with_item y z.0) z.1
  row_turn y s z all inv i e = run_turn begins_item rows.with_item (λ y. levels.item h (lone y)) (λ y. item_less h y.0) closed (λ e. refl) y s z all inv i e

  pub row_end : (y : Kept) (s : List Token) (all : Answer Token (List Spec × ℕ)) → all ≡ row y s → head_is begins_item (first s) ≡ false → all ≡ closed (Ok (y, s))
  row_end y s all inv i = run_end begins_item rows.with_item (λ y. levels.item h (lone y)) (λ y. item_less h y.0) closed (λ e. refl) y s all inv i

  pub row_fails : (f : ReadError Token) (y : Kept) (s : List Token) (all : Answer Token (List Spec × ℕ)) → all ≡ row y s → head_is begins_item (first s) ≡ true → Fails f (levels.item h y.0 s) → Fails f all
  row_fails f y s all inv i e = run_fails begins_item rows.with_item (λ y. levels.item h (lone y)) (λ y. item_less h y.0) closed (λ e. refl) f y s all inv i e

  pub row_smaller : (y : Kept) (s : List Token) (z : Option Sp × List Token) → levels.item h y.0 s ≡ Ok z → length z.1 < length s
  row_smaller y s z e = item_less h y.0 s z e
