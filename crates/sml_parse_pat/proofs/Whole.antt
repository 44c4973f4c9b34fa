-- What is promised of the pattern at a place.
use Rattle.std.proofs.Common.{◌≡◌, ℕ, ◌-◌, ◌≤◌, true, false, List, [], ◌∷◌, ◌++◌, length, drop, Ok, Err, refl, sym, ap, subst, ◌∙◌, arith}
use Rattle.tl_text.specs.declared.fault.Fault.{Fault}
use Rattle.readers.specs.declared.fault.ReadError.{ReadError}
use Rattle.readers.specs.declared.fault.ReadError.TheVariants as errors
use Rattle.readers.specs.Reader.{first}
use Rattle.readers.specs.Room.{at_height}
use Rattle.readers.specs.Given.{Fails}
use Rattle.readers.proofs.Bundle.{Known}
use Rattle.readers.proofs.Outcome.{ok_is, not_both}
use Rattle.sml_lex.specs.declared.token.Token.{Token}
use Rattle.sml_ast.specs.declared.pat.Pat.{Pat}
use Rattle.sml_fix.specs.Fixities.{Settings}
use Rattle.sml_grammar.specs.Promise.{Front}
use Rattle.sml_grammar.specs.Pats.{Pt, PatR}
use Rattle.sml_grammar.specs.Tokens.{plain_fix}
use Rattle.sml_grammar.specs.ReadPats.{pat_read, pat_goes}
use Rattle.sml_grammar.proofs.Joined.{narrow}
use Rattle.sml_grammar.proofs.Whole.{front}
use Rattle.sml_grammar.proofs.Pats.{pat_exact}
use Rattle.sml_scan.specs.Faults.{RefusesAs, fault_at, FaultOf}
use Rattle.sml_scan.proofs.Places.{behind, count_is, next_is}
use Rattle.sml_parse_pat.specs.Promise.{Derives, IsPat, goes, ends, GivesPat, Refusal}

-- the longest front of the tokens that is a pattern, or the refusal at the first token with which none goes on
pub front_of : (fix : Settings) (h : ℕ) (s : List Token) → 2 ≤ h → Front (PatR fix) h s (pat_read h false fix s)
front_of fix h s le = front (λ n. pat_exact fix Known.Refusals n) (λ t. refl) h s le

module _ (fix : Settings) (room : ℕ) (tokens : List Token) (at : ℕ) where
  pub found_pat : (pat : Pat) (h : ℕ) (rest : List Token) → 2 ≤ room → at ≤ length tokens → pat_read room false fix (drop at tokens) ≡ Ok ((pat, h), rest)
      → IsPat fix room tokens at pat (length tokens - length rest)
  found_pat pat h rest enough le e =
      let f : Front (PatR fix) room (drop at tokens) (Ok ((pat, h), rest)) = subst (Front (PatR fix) room (drop at tokens)) e (front_of fix room (drop at tokens) enough) in
      let left : drop (length tokens - length rest) tokens ≡ rest = behind tokens f.read rest at f.parts in
      record {
        it = record { height = h; read = f.read; parts = f.parts ∙ ap (λ (z : List Token). f.read ++ z) (sym left); counts = count_is tokens f.read rest at le f.parts; derives = f.derives };
        longest = λ k c is v. f.longest k c (ap first (sym left) ∙ is) v;
      }

  read_pat : (p : Pat) (next : ℕ) (d : Derives fix room tokens at p next) → ends (first (drop next tokens)) ≡ true → pat_read room false fix (drop at tokens) ≡ Ok ((p, d.height), drop next tokens)
  read_pat p next d st =
      let P = pat_exact fix Known.Readings room in
      ap (pat_read room false fix) d.parts ∙ (P.part.reads (at_height room false) (omega arith)).complete (p, d.height) d.read (drop next tokens) d.derives (narrow plain_fix pat_goes goes refl (first (drop next tokens)) st)

  pub only_pat : (pat : Pat) (h : ℕ) (rest : List Token) → at ≤ length tokens → pat_read room false fix (drop at tokens) ≡ Ok ((pat, h), rest)
      → (p : Pat) (next : ℕ) → Derives fix room tokens at p next → ends (first (drop next tokens)) ≡ true → (let x : Pat × ℕ = (pat, length tokens - length rest) in x) ≡ (p, next)
  only_pat pat h rest le e p next d st =
      let same = ok_is ((pat, h), rest) ((p, d.height), drop next tokens) (sym e ∙ read_pat p next d st) in
      let trees : pat ≡ p = ap (λ (z : Pt × List Token). z.0.0) same in
      let left : rest ≡ drop next tokens = ap (λ (z : Pt × List Token). z.1) same in
      let counts : length tokens - length rest ≡ next = next_is tokens d.read rest at next le left d.parts d.counts in
      let pair : Pat → ℕ → Pat × ℕ = λ a b. (a, b) in
      ap (λ (a : Pat). pair a (length tokens - length rest)) trees ∙ ap (pair p) counts

  pub fault_only : (e : ReadError Token) (f : Fault) → FaultOf e f → Fails e (pat_read room false fix (drop at tokens))
      → (p : Pat) (next : ℕ) → Derives fix room tokens at p next → ends (first (drop next tokens)) ≡ true → GivesPat (Err f) p next
  fault_only errors.NoMemory f i r p next d st = rw i tt
  fault_only (errors.Refused c rest) f i r p next d st = not_both ((p, d.height), drop next tokens) (c, rest.now) (sym (read_pat p next d st) ∙ r)

  pub fault_right : (e : ReadError Token) (f : Fault) → 2 ≤ room → FaultOf e f → Fails e (pat_read room false fix (drop at tokens))
      → RefusesAs {T = Pat × ℕ} (Refusal fix room tokens at) (Err f)
  fault_right errors.NoMemory f enough i r = rw i tt
  fault_right (errors.Refused c rest) f enough i r = rw i (go rest.now r)
    where
      go : (s : List Token) → pat_read room false fix (drop at tokens) ≡ Err (c, s) → RefusesAs {T = Pat × ℕ} (Refusal fix room tokens at) (Err (fault_at c s))
      go [] r = tt
      go (t ∷ s) r = record {
        cause = c;
        next = t;
        rest = s;
        refused = subst (Front (PatR fix) room (drop at tokens)) r (front_of fix room (drop at tokens) enough);
        stands = refl;
        why = refl;
      }
