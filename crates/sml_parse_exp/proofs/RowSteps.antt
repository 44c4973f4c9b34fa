-- A row of operators as the loop of the code reads it.
use Rattle.std.proofs.Common.{◌≡◌, ℕ, ◌<◌, max, Bool, true, false, List, [], ◌∷◌, length, Option, Some, None, Ok, Err, refl, sym, ap, ◌∙◌}
use Rattle.std.specs.Option.{option_map}
use Rattle.readers.specs.declared.code.Code.{Code}
use Rattle.readers.specs.declared.floor.Fixity.{Fixity}
use Rattle.readers.specs.declared.floor.Floor.{Floor}
use Rattle.readers.specs.declared.fault.ReadError.{ReadError}
use Rattle.readers.specs.declared.fault.ReadError.TheVariants as errors
use Rattle.readers.specs.Reader.{first, head_is, Answer, ◌>>=◌, token_by, seen, steps, unless}
use Rattle.readers.specs.Room.{Room, at_height}
use Rattle.readers.specs.Given.{Fails}
use Rattle.readers.specs.Forms.{at_least}
use Rattle.readers.specs.Infix as rows_of
use Rattle.readers.proofs.RowLoop.{Shortens}
use Rattle.readers.proofs.StepLoop.{ended, state_turn, state_end, state_fails}
use Rattle.sml_lex.specs.declared.token.Token.{Token}
use Rattle.sml_fix.specs.Fixities.{Settings}
use Rattle.sml_grammar.specs.Tokens.{operator}
use Rattle.sml_grammar.specs.Types.{Ident}
use Rattle.sml_grammar.specs.Pats.{tight, right}
use Rattle.sml_grammar_exp.specs.Exps.{Ex, top, apply_of, infix_of}
use Rattle.sml_grammar_exp.specs.Decs.{Changes, fixed}
use Rattle.sml_grammar_exp.specs.ReadExps.{apply_read}
use Rattle.sml_grammar_exp.specs.ReadLevels.{at_exp_read, row_read}
use Rattle.sml_scan.specs.Fixed.{fixity_at}
use Rattle.sml_scan.proofs.Infix as infix_rows
use Rattle.sml_scan.proofs.Shorter.{Keeps, kept}
use Rattle.sml_parse_exp.specs.Levels as levels
use Rattle.sml_parse_exp.specs.Trees.{top_fixity}
use Rattle.sml_parse_exp.proofs.Steps.{row_less as right_less}

-- how an operator binds, as the code has it
abbrev judged_at : ℕ → Floor → Option Fixity → ℕ → Fixity → Option Code
judged_at h n o m f = rows_of.judge (λ (v : Fixity). v.tight) (λ (v : Fixity). v.right) (at_height h false) n o m f

judge_same : (fix : Settings) (h : ℕ) (n : Floor) (o : Option Ident) (m : ℕ) (v : Ident)
    → rows_of.judge (tight fix) (right fix) (at_height h false) n o m v ≡ judged_at h n (option_map (λ (u : Ident). fixity_at fix u.1) o) m (fixity_at fix v.1)
judge_same fix h n None m v = refl
judge_same fix h n (Some u) m v = refl

pub judged : (fix : Settings) (h : ℕ) (n : Floor) (x : Ex) (v : Ident) (f : Fixity) (o : Option Fixity) (m : ℕ) (r : Option Code) → f ≡ fixity_at fix v.1 → o ≡ top_fixity fix x.0.0 → m ≡ max 2 x.1
    → r ≡ rows_of.judge (λ (v : Fixity). v.tight) (λ (v : Fixity). v.right) (at_height h false) n o m f → rows_of.judge (tight fix) (right fix) (at_height h false) n (top x) (at_least 2 x) v ≡ r
judged fix h n x v f o m r e i j k =
    judge_same fix h n (top x) (at_least 2 x) v
    ∙ (ap (λ (f : Fixity). judged_at h n (top_fixity fix x.0.0) (max 2 x.1) f) (sym e)
    ∙ (ap (λ (o : Option Fixity). judged_at h n o (max 2 x.1) f) (sym i)
    ∙ (ap (λ (m : ℕ). judged_at h n o m f) (sym j) ∙ sym k)))

-- the floor of what stands on its right
pub floor_is : (fix : Settings) (v : Ident) (f : Fixity) (m : Floor) → f ≡ fixity_at fix v.1 → m ≡ rows_of.floor_of (λ (v : Fixity). v.tight) (λ (v : Fixity). v.right) f → m ≡ rows_of.floor_of (tight fix) (right fix) v
floor_is fix v f m e i = i ∙ ap (rows_of.floor_of (λ (v : Fixity). v.tight) (λ (v : Fixity). v.right)) e

module _ (cs : Changes) (h : ℕ) (n : Floor) where
  abbrev fix : Settings
  fix = fixed cs

  -- rows on the right of an operator
  abbrev inner : Floor → List Token → Answer Token Ex
  inner m = row_read h false m cs

  keeps : (m : Floor) → Keeps (inner m)
  keeps m = kept (inner m) (right_less cs h m)

  -- what is read of a row with this expression so far
  abbrev joined : Ex → Ident × Ex → Ex
  joined = infix_rows.joined (tight fix) (right fix) (operator fix) top (at_least 2) apply_of infix_of inner (at_height h false) n

  abbrev pub row_rest : Ex → List Token → Answer Token Ex
  row_rest x s = ended joined x (steps (levels.taken fix n) joined (levels.operation cs h n) x s)

  pub row_first : (s r : List Token) (x : Ex) → levels.operand cs h s ≡ Ok (x, r) → levels.row cs h n s ≡ row_rest x r
  row_first s r x e = infix_rows.row_first (tight fix) (right fix) (operator fix) top (at_least 2) apply_of infix_of inner (at_height h false) n (apply_read fix (at_exp_read h false cs)) s r x e

  pub first_fails : (f : ReadError Token) (s : List Token) → Fails f (levels.operand cs h s) → Fails f (levels.row cs h n s)
  first_fails f s e = infix_rows.first_fails (tight fix) (right fix) (operator fix) top (at_least 2) apply_of infix_of inner (at_height h false) n (apply_read fix (at_exp_read h false cs)) f s e

  -- ---- an operator, and the row on its right

  module _ (x : Ex) (s r : List Token) (v : Ident) (e : token_by (operator fix) s ≡ Ok (v, r)) where
    suffix_is : (o : Option Code) → rows_of.judge (tight fix) (right fix) (at_height h false) n (top x) (at_least 2 x) v ≡ o
        → levels.operation cs h n x s ≡ unless o s (inner (rows_of.floor_of (tight fix) (right fix) v) r >>= λ t. Ok ((v, t.0), t.1))
    suffix_is o j = infix_rows.suffix_is (tight fix) (right fix) (operator fix) top (at_least 2) apply_of infix_of inner (at_height h false) n x s r v o e j

    pub operation_barred : (code : Code) → rows_of.judge (tight fix) (right fix) (at_height h false) n (top x) (at_least 2 x) v ≡ Some code → levels.operation cs h n x s ≡ Err (code, s)
    operation_barred code j = suffix_is (Some code) j

    module _ (m : Floor) (j : rows_of.judge (tight fix) (right fix) (at_height h false) n (top x) (at_least 2 x) v ≡ None) (l : m ≡ rows_of.floor_of (tight fix) (right fix) v) where
      behind : levels.operation cs h n x s ≡ (inner m r >>= λ t. Ok ((v, t.0), t.1))
      behind = suffix_is None j ∙ ap (λ (m : Floor). inner m r >>= λ t. Ok ((v, t.0), t.1)) (sym l)

      pub operation_gives : (t : Ex) (z : List Token) → inner m r ≡ Ok (t, z) → levels.operation cs h n x s ≡ Ok ((v, t), z)
      operation_gives t z i = behind ∙ rw i refl

      pub operation_fails : (f : ReadError Token) → Fails f (inner m r) → Fails f (levels.operation cs h n x s)
      operation_fails errors.NoMemory i = tt
      operation_fails (errors.Refused code rest) i = behind ∙ rw i refl

  -- the token that was to be an operator is one
  pub no_operator : (f : ReadError Token) (x : Ex) (s : List Token) → head_is (levels.taken fix n) (first s) ≡ true → Fails f (token_by (operator fix) s) → Fails f (levels.operation cs h n x s)
  no_operator errors.NoMemory x s next e = tt
  no_operator (errors.Refused code rest) x [] next e = absurd cc
  no_operator (errors.Refused code rest) x (c ∷ s) next e = absurd (go (operator fix c) next e)
    where
      go : (o : Option Ident) → rows_of.seen_by (tight fix) (right fix) (operator fix) top (at_least 2) apply_of infix_of (rows_of.reaches (tight fix) (right fix) n) o ≡ true
          → seen o c s ≡ Err (code, rest.now) → ⊥
      go None i e = absurd cc
      go (Some u) i e = absurd cc

  operation_less : (x : Ex) → Shortens (levels.operation cs h n x)
  operation_less x = infix_rows.suffix_less (tight fix) (right fix) (operator fix) top (at_least 2) apply_of infix_of inner (at_height h false) n keeps x

  -- ---- the loop over them

  module _ (all : Answer Token Ex) (x : Ex) (s : List Token) (inv : all ≡ row_rest x s) where
    pub row_turn : (z : (Ident × Ex) × List Token) → head_is (levels.taken fix n) (first s) ≡ true → levels.operation cs h n x s ≡ Ok z → all ≡ row_rest (infix_of x z.0.0 z.0.1) z.1
    row_turn z next e = state_turn (levels.taken fix n) joined (levels.operation cs h n) operation_less x s z all inv next e

    pub row_fails : (f : ReadError Token) → head_is (levels.taken fix n) (first s) ≡ true → Fails f (levels.operation cs h n x s) → Fails f all
    row_fails errors.NoMemory next e = tt
    row_fails (errors.Refused code rest) next e = state_fails (levels.taken fix n) joined (levels.operation cs h n) operation_less x s (code, rest.now) all inv next e

    pub row_end : head_is (levels.taken fix n) (first s) ≡ false → all ≡ Ok (x, s)
    row_end next = state_end (levels.taken fix n) joined (levels.operation cs h n) operation_less x s all inv next

  pub row_less : (x : Ex) (s : List Token) (z : (Ident × Ex) × List Token) → levels.operation cs h n x s ≡ Ok z → length z.1 < length s
  row_less x s z e = operation_less x s z e
