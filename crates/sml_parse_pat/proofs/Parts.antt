-- The readers of parts, where the code hands on what another method gives.
use Rattle.std.proofs.Common.{◌≡◌, ℕ, suc, ◌-◌, ◌<◌, ◌≤◌, Bool, true, false, ltb, max, List, Option, Some, None, Ok, Err, refl, ap, ◌∙◌, arith}
use Rattle.std.proofs.lemmas.Bool.{le-ltb}
use Rattle.tl_text.specs.declared.place.Place.{Place}
use Rattle.readers.specs.declared.code.Code.TheVariants.{Grammar}
use Rattle.readers.specs.declared.fault.ReadError.{ReadError}
use Rattle.readers.specs.declared.fault.ReadError.TheVariants as errors
use Rattle.readers.specs.Given.{Fails}
use Rattle.readers.specs.Reader.{first, head_is, Reader, mapped, token_by}
use Rattle.readers.specs.Forms.{ended, enclosed, maybe}
use Rattle.readers.proofs.Choice.{remade}
use Rattle.sml_lex.specs.declared.token.Token.{Token}
use Rattle.sml_ast.specs.declared.pat.Pat.{Pat}
use Rattle.sml_ast.specs.declared.pat.AtPat.{AtPat, roll-AtPat}
use Rattle.sml_ast.specs.declared.pat.AtPat.TheOpen.{AtPat-F}
use Rattle.sml_fix.specs.Fixities.{Settings}
use Rattle.sml_grammar.specs.Words.{OPEN_PAREN, CLOSE_PAREN, OPEN_BRACKET, CLOSE_BRACKET, OPEN_BRACE, COMMA, COLON, DOTS, WILDCARD}
use Rattle.sml_grammar.specs.Tokens.{is, the, tokens_of, literals}
use Rattle.sml_grammar.specs.Types.{Ident, Label}
use Rattle.sml_grammar.specs.Pats.{Pt, Ap, Inside, Tail, Operand, fields_of, items_of, paren_of, vid_field_of, operand_of, vid_or_lab}
use Rattle.sml_grammar.specs.ReadPats as read
use Rattle.sml_parse_pat.specs.Levels as levels
use Rattle.sml_parse_pat.specs.Rows.{some_pats, closed, typed_field}
use Rattle.sml_parse_pat.proofs.Steps.{ended_mapped, mapped_mapped, seen_by, behind_first}
use Rattle.sml_parse_pat.proofs.Rooms.{name_is, other_is}

-- ---- what may not follow

module _ {K T : Type 0} (test : K → Bool) (p : Reader K T) where
  pub held : (s : List K) (z : T × List K) → p s ≡ Ok z → head_is test (first z.1) ≡ false → ended test p s ≡ Ok z
  held s z e i = rw e (rw i refl)

  pub barred : (s : List K) (z : T × List K) → p s ≡ Ok z → head_is test (first z.1) ≡ true → ended test p s ≡ Err (Grammar, z.1)
  barred s z e i = rw e (rw i refl)

  pub lost : (g : ReadError K) (s : List K) → Fails g (p s) → Fails g (ended test p s)
  lost errors.NoMemory s e = tt
  lost (errors.Refused code rest) s e = rw e refl

module _ {K S T : Type 0} (f : S → T) (test : K → Bool) (p : Reader K S) where
  pub ended_gives : (s : List K) (z : T × List K) → mapped f p s ≡ Ok z → head_is test (first z.1) ≡ false → mapped f (ended test p) s ≡ Ok z
  ended_gives s z e i = ended_mapped f test p s ∙ held test (mapped f p) s z e i

  pub ended_bars : (s : List K) (z : T × List K) → mapped f p s ≡ Ok z → head_is test (first z.1) ≡ true → mapped f (ended test p) s ≡ Err (Grammar, z.1)
  ended_bars s z e i = ended_mapped f test p s ∙ barred test (mapped f p) s z e i

  pub ended_fails : (g : ReadError K) (s : List K) → Fails g (mapped f p s) → Fails g (mapped f (ended test p) s)
  ended_fails errors.NoMemory s e = tt
  ended_fails (errors.Refused code rest) s e = ended_mapped f test p s ∙ lost test (mapped f p) (errors.Refused code rest) s e

-- ---- what may be missing

module _ {K S T : Type 0} (f : Option S → T) (test : K → Bool) (low : ℕ) (p : Reader K S) (h : ℕ) where
  -- it is there, and the height is enough
  pub maybe_some : (s : List K) → head_is test (first s) ≡ true → low ≤ h → mapped f (maybe test low p h) s ≡ mapped (λ t. f (Some t)) p s
  maybe_some s i le =
      let enough : ltb h low ≡ false = le-ltb h low le in
      rw i (rw enough (mapped_mapped (λ t. Some t) f p s))

-- ---- what is in parentheses

abbrev of_height : AtPat → ℕ → Ap
of_height a n = (a, suc n)

closed_is : (place : Place) (x : Pt) (y : Option (List Pt)) → paren_of (place, Inside.Parts (x, y)) ≡ closed place x (some_pats y)
closed_is place x None =
    let same : max x.1 0 ≡ x.1 = omega arith in
    ap (λ (n : ℕ). of_height (roll-AtPat (AtPat-F.PParen place x.0)) n) same
closed_is place x (Some qs) = refl

module _ (fix : Settings) (h : ℕ) where
  -- ---- operands

  pub operand_named : (s : List Token) → head_is (read.begins_name fix) (first s) ≡ true → 0 < h → levels.open_operand fix h s ≡ levels.construction fix h s
  operand_named s i lt =
      let none : ltb h 1 ≡ false = le-ltb h 1 (omega arith) in
      rw i (rw none (rw (name_is fix h s lt) refl))

  pub operand_other : (s : List Token) → head_is (read.begins_name fix) (first s) ≡ false → head_is read.begins_other (first s) ≡ true → 0 < h
      → levels.open_operand fix h s ≡ mapped operand_of (mapped Operand.Atom (levels.other_level fix (h - 1))) s
  operand_other s i j lt =
      let none : ltb h 1 ≡ false = le-ltb h 1 (omega arith) in
      rw i (rw j (rw none (rw (other_is fix h s lt) refl)))

  -- ---- atoms

  pub parts_in : (place : Place) (s : List Token) → head_is (is CLOSE_PAREN) (first s) ≡ false → head_is (read.begins_at fix) (first s) ≡ true → 2 ≤ h
      → mapped (λ x. paren_of (place, x)) (read.inside_read fix (levels.pat fix h) h) s ≡ mapped (λ x. paren_of (place, Inside.Parts x)) (levels.parts fix h) s
  parts_in place s i j le =
      let none : ltb h 2 ≡ false = le-ltb h 2 le in
      rw i (rw j (rw none (mapped_mapped Inside.Parts (λ x. paren_of (place, x)) (levels.parts fix h) s)))

  module _ (place : Place) (s rest : List Token) (x : Pt) (e : levels.pat fix h s ≡ Ok (x, rest)) where
    split : mapped (λ x. paren_of (place, Inside.Parts x)) (levels.parts fix h) s ≡ mapped (closed place x) (mapped some_pats (levels.behind_first fix h)) rest
    split =
        behind_first (λ x. paren_of (place, Inside.Parts x)) (levels.pat fix h) (levels.behind_first fix h) s rest x e
        ∙ seen_by (λ y. paren_of (place, Inside.Parts (x, y))) some_pats (closed place x) (closed_is place x) (levels.behind_first fix h) rest

    pub parts_give : (z : Option (List Pat × ℕ) × List Token) → mapped some_pats (levels.behind_first fix h) rest ≡ Ok z → mapped (λ x. paren_of (place, Inside.Parts x)) (levels.parts fix h) s ≡ Ok (closed place x z.0, z.1)
    parts_give z i = split ∙ ap (remade (closed place x)) i

    pub parts_fail : (f : ReadError Token) → Fails f (mapped some_pats (levels.behind_first fix h) rest) → Fails f (mapped (λ x. paren_of (place, Inside.Parts x)) (levels.parts fix h) s)
    parts_fail errors.NoMemory i = tt
    parts_fail (errors.Refused code end) i = split ∙ ap (remade (closed place x)) i

  module _ (s rest : List Token) (place : Place) where
    none : ltb h 0 ≡ false
    none = le-ltb h 0 (omega arith)

    pub paren_in : head_is (is OPEN_PAREN) (first s) ≡ true → token_by (the OPEN_PAREN) s ≡ Ok (place, rest)
        → levels.parenthesised fix h s ≡ mapped (λ x. paren_of (place, x)) (read.inside_read fix (levels.pat fix h) h) rest
    paren_in i e = rw i (rw none (behind_first paren_of (token_by (the OPEN_PAREN)) (read.inside_read fix (levels.pat fix h) h) s rest place e))

    pub items_in : head_is (is OPEN_BRACKET) (first s) ≡ true → token_by (the OPEN_BRACKET) s ≡ Ok (place, rest)
        → levels.bracketed fix h s ≡ mapped (λ x. items_of (place, x)) (enclosed (read.begins_at fix) 2 (is COMMA) (levels.pat fix h) (is CLOSE_BRACKET) h) rest
    items_in i e = rw i (rw none (behind_first items_of (token_by (the OPEN_BRACKET)) (enclosed (read.begins_at fix) 2 (is COMMA) (levels.pat fix h) (is CLOSE_BRACKET) h) s rest place e))

    pub record_in : head_is (is WILDCARD) (first s) ≡ false → head_is (tokens_of literals) (first s) ≡ false → head_is (is OPEN_BRACE) (first s) ≡ true → token_by (the OPEN_BRACE) s ≡ Ok (place, rest)
        → levels.other_level fix h s ≡ mapped (λ x. fields_of (place, x)) (read.fields_read fix (levels.field fix h) h) rest
    record_in i j k e = rw i (rw j (rw k (rw none (behind_first fields_of (token_by (the OPEN_BRACE)) (read.fields_read fix (levels.field fix h) h) s rest place e))))

  -- ---- fields

  module _ (names : Label × Ident) where
    pub typed_in : (s : List Token) → head_is (is COLON) (first s) ≡ true → 0 < h
        → mapped (λ t. vid_field_of (names, Some t)) (levels.tail fix h) s ≡ mapped (λ x. typed_field names.1 x.0 x.1) (levels.typed_tail fix h) s
    typed_in s i lt =
        let low : ltb h 1 ≡ false = le-ltb h 1 (omega arith) in
        rw i (rw low (mapped_mapped Tail.Typed (λ t. vid_field_of (names, Some t)) (levels.typed_tail fix h) s))

    pub tail_in : (s : List Token) → head_is read.begins_tail (first s) ≡ true → 0 < h
        → mapped (λ t. vid_field_of (names, t)) (levels.open_tail fix h) s ≡ mapped (λ t. vid_field_of (names, Some t)) (levels.tail fix h) s
    tail_in s i lt = maybe_some (λ t. vid_field_of (names, t)) read.begins_tail 1 (levels.tail fix h) h s i (omega arith)

    pub tail_none : (s : List Token) → head_is read.begins_tail (first s) ≡ false → mapped (λ t. vid_field_of (names, t)) (levels.open_tail fix h) s ≡ Ok (vid_field_of (names, None), s)
    tail_none s i = rw i refl

    pub vid_in : (s rest : List Token) → head_is (is DOTS) (first s) ≡ false → token_by (vid_or_lab fix) s ≡ Ok (names, rest)
        → levels.vid_field fix h s ≡ mapped (λ t. vid_field_of (names, t)) (levels.closed_tail fix h) rest
    vid_in s rest i e = rw i (behind_first vid_field_of (token_by (vid_or_lab fix)) (levels.closed_tail fix h) s rest names e)
