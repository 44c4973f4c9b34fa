-- A row of operators as the loop of the code reads it.
use Rattle.std.proofs.Common.{◌≡◌, ℕ, ◌<◌, max, true, false, List, [], ◌∷◌, length, Option, Some, None, Ok, Err, refl, sym, ap, ◌∙◌}
use Rattle.std.specs.Option.{option_map}
use Rattle.readers.specs.declared.code.Code.{Code}
use Rattle.readers.specs.declared.floor.Fixity.{Fixity}
use Rattle.readers.specs.declared.floor.Floor.{Floor}
use Rattle.readers.specs.declared.fault.ReadError.{ReadError}
use Rattle.readers.specs.declared.fault.ReadError.TheVariants as errors
use Rattle.readers.specs.Reader.{first, head_is, Answer, ◌>>=◌, token_by, seen, steps, unless}
use Rattle.readers.specs.Room.{at_height}
use Rattle.readers.specs.Given.{Fails}
use Rattle.readers.specs.Forms.{at_least}
use Rattle.readers.specs.Infix as rows_of
use Rattle.readers.proofs.RowLoop.{Shortens}
use Rattle.readers.proofs.StepLoop.{ended, state_turn, state_end, state_fails}
use Rattle.sml_lex.specs.declared.token.Token.{Token}
use Rattle.sml_fix.specs.Fixities.{Settings}
use Rattle.sml_grammar.specs.Tokens.{infix_vid}
use Rattle.sml_grammar.specs.Types.{Ident}
use Rattle.sml_grammar.specs.Pats.{Pt, tight, right, top, operand_of, infix_of}
use Rattle.sml_scan.specs.Fixed.{fixity_at}
use Rattle.sml_scan.proofs.Infix as infix_rows
use Rattle.sml_parse_pat.specs.Levels as levels
use Rattle.sml_parse_pat.specs.Rows.{top_fixity}
use Rattle.sml_parse_pat.proofs.Steps.{inner, keeps}

-- the pattern so far, with one operator more
abbrev pub joined : Settings → ℕ → Floor → Pt → Ident × Pt → Pt
joined fix h n = infix_rows.joined (tight fix) (right fix) (infix_vid fix) top (at_least 2) operand_of infix_of (inner fix h) (at_height h false) n

-- what is read of a row with this pattern so far
abbrev pub row_rest : Settings → ℕ → Floor → Pt → List Token → Answer Token Pt
row_rest fix h n x s = ended (joined fix h n) x (steps (levels.taken fix n) (joined fix h n) (levels.suffix fix h n) x s)

-- how an operator binds, as the code has it
abbrev judged_at : ℕ → Floor → Option Fixity → ℕ → Fixity → Option Code
judged_at h n o m f = rows_of.judge (λ (v : Fixity). v.tight) (λ (v : Fixity). v.right) (at_height h false) n o m f

judge_same : (fix : Settings) (h : ℕ) (n : Floor) (o : Option Ident) (m : ℕ) (v : Ident)
    → rows_of.judge (tight fix) (right fix) (at_height h false) n o m v ≡ judged_at h n (option_map (λ (u : Ident). fixity_at fix u.1) o) m (fixity_at fix v.1)
judge_same fix h n None m v = refl
judge_same fix h n (Some u) m v = refl

pub judged : (fix : Settings) (h : ℕ) (n : Floor) (x : Pt) (v : Ident) (f : Fixity) (o : Option Fixity) (m : ℕ) (r : Option Code) → f ≡ fixity_at fix v.1 → o ≡ top_fixity fix x.0 → m ≡ max 2 x.1
    → r ≡ rows_of.judge (λ (v : Fixity). v.tight) (λ (v : Fixity). v.right) (at_height h false) n o m f → rows_of.judge (tight fix) (right fix) (at_height h false) n (top x) (at_least 2 x) v ≡ r
judged fix h n x v f o m r e i j k =
    judge_same fix h n (top x) (at_least 2 x) v
    ∙ (ap (λ (f : Fixity). judged_at h n (top_fixity fix x.0) (max 2 x.1) f) (sym e)
    ∙ (ap (λ (o : Option Fixity). judged_at h n o (max 2 x.1) f) (sym i)
    ∙ (ap (λ (m : ℕ). judged_at h n o m f) (sym j) ∙ sym k)))

-- the floor of what stands on its right
pub floor_is : (fix : Settings) (v : Ident) (f : Fixity) (m : Floor) → f ≡ fixity_at fix v.1 → m ≡ rows_of.floor_of (λ (v : Fixity). v.tight) (λ (v : Fixity). v.right) f → m ≡ rows_of.floor_of (tight fix) (right fix) v
floor_is fix v f m e i = i ∙ ap (rows_of.floor_of (λ (v : Fixity). v.tight) (λ (v : Fixity). v.right)) e

module _ (fix : Settings) (h : ℕ) (n : Floor) where
  pub row_first : (s r : List Token) (x : Pt) → levels.operand fix h s ≡ Ok (x, r) → levels.row_level fix h n s ≡ row_rest fix h n x r
  row_first s r x e = infix_rows.row_first (tight fix) (right fix) (infix_vid fix) top (at_least 2) operand_of infix_of (inner fix h) (at_height h false) n (levels.operand_read fix h) s r x e

  pub first_fails : (f : ReadError Token) (s : List Token) → Fails f (levels.operand fix h s) → Fails f (levels.row_level fix h n s)
  first_fails f s e = infix_rows.first_fails (tight fix) (right fix) (infix_vid fix) top (at_least 2) operand_of infix_of (inner fix h) (at_height h false) n (levels.operand_read fix h) f s e

  -- ---- an operator, and the row on its right

  module _ (x : Pt) (s r : List Token) (v : Ident) (e : token_by (infix_vid fix) s ≡ Ok (v, r)) where
    suffix_is : (o : Option Code) → rows_of.judge (tight fix) (right fix) (at_height h false) n (top x) (at_least 2 x) v ≡ o
        → levels.suffix fix h n x s ≡ unless o s (inner fix h (rows_of.floor_of (tight fix) (right fix) v) r >>= λ t. Ok ((v, t.0), t.1))
    suffix_is o j = infix_rows.suffix_is (tight fix) (right fix) (infix_vid fix) top (at_least 2) operand_of infix_of (inner fix h) (at_height h false) n x s r v o e j

    pub suffix_barred : (code : Code) → rows_of.judge (tight fix) (right fix) (at_height h false) n (top x) (at_least 2 x) v ≡ Some code → levels.suffix fix h n x s ≡ Err (code, s)
    suffix_barred code j = suffix_is (Some code) j

    module _ (m : Floor) (j : rows_of.judge (tight fix) (right fix) (at_height h false) n (top x) (at_least 2 x) v ≡ None) (l : m ≡ rows_of.floor_of (tight fix) (right fix) v) where
      behind : levels.suffix fix h n x s ≡ (inner fix h m r >>= λ t. Ok ((v, t.0), t.1))
      behind = suffix_is None j ∙ ap (λ (m : Floor). inner fix h m r >>= λ t. Ok ((v, t.0), t.1)) (sym l)

      pub suffix_gives : (t : Pt) (z : List Token) → inner fix h m r ≡ Ok (t, z) → levels.suffix fix h n x s ≡ Ok ((v, t), z)
      suffix_gives t z i = behind ∙ rw i refl

      pub suffix_fails : (f : ReadError Token) → Fails f (inner fix h m r) → Fails f (levels.suffix fix h n x s)
      suffix_fails errors.NoMemory i = tt
      suffix_fails (errors.Refused code rest) i = behind ∙ rw i refl

  -- the token that was to be an operator is one
  pub no_operator : (f : ReadError Token) (x : Pt) (s : List Token) → head_is (levels.taken fix n) (first s) ≡ true → Fails f (token_by (infix_vid fix) s) → Fails f (levels.suffix fix h n x s)
  no_operator errors.NoMemory x s next e = tt
  no_operator (errors.Refused code rest) x [] next e = absurd cc
  no_operator (errors.Refused code rest) x (c ∷ s) next e = absurd (go (infix_vid fix c) next e)
    where
      go : (o : Option Ident) → rows_of.seen_by (tight fix) (right fix) (infix_vid fix) top (at_least 2) operand_of infix_of (rows_of.reaches (tight fix) (right fix) n) o ≡ true
          → seen o c s ≡ Err (code, rest.now) → ⊥
      go None i e = absurd cc
      go (Some u) i e = absurd cc

  suffix_less : (x : Pt) → Shortens (levels.suffix fix h n x)
  suffix_less x = infix_rows.suffix_less (tight fix) (right fix) (infix_vid fix) top (at_least 2) operand_of infix_of (inner fix h) (at_height h false) n (keeps fix h) x

  -- ---- the loop over them

  module _ (all : Answer Token Pt) (x : Pt) (s : List Token) (inv : all ≡ row_rest fix h n x s) where
    pub row_turn : (z : (Ident × Pt) × List Token) → head_is (levels.taken fix n) (first s) ≡ true → levels.suffix fix h n x s ≡ Ok z → all ≡ row_rest fix h n (infix_of x z.0.0 z.0.1) z.1
    row_turn z next e = state_turn (levels.taken fix n) (joined fix h n) (levels.suffix fix h n) suffix_less x s z all inv next e

    pub row_fails : (f : ReadError Token) → head_is (levels.taken fix n) (first s) ≡ true → Fails f (levels.suffix fix h n x s) → Fails f all
    row_fails errors.NoMemory next e = tt
    row_fails (errors.Refused code rest) next e = state_fails (levels.taken fix n) (joined fix h n) (levels.suffix fix h n) suffix_less x s (code, rest.now) all inv next e

    pub row_end : head_is (levels.taken fix n) (first s) ≡ false → all ≡ Ok (x, s)
    row_end next = state_end (levels.taken fix n) (joined fix h n) (levels.suffix fix h n) suffix_less x s all inv next

  pub row_less : (x : Pt) (s : List Token) (z : (Ident × Pt) × List Token) → levels.suffix fix h n x s ≡ Ok z → length z.1 < length s
  row_less x s z e = suffix_less x s z e
