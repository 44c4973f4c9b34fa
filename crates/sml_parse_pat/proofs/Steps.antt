-- The readers as the code goes through them.
use Rattle.std.proofs.Common.{◌≡◌, ℕ, zero, suc, Bool, true, false, if◌then◌else◌, List, [], length, Option, Some, None, Ok, Err, refl, ap, ◌∙◌, arith, inl, inr}
use Rattle.readers.specs.declared.code.Code.TheVariants.{Grammar}
use Rattle.readers.specs.declared.floor.Floor.{Floor}
use Rattle.readers.specs.Reader.{first, head_is, Answer, Reader, ◌>>=◌, both, bound, mapped, token_by, one, skip, close, roomy, only, else_by, steps}
use Rattle.readers.specs.Forms.{ended, optional, at_least, seps, maybe, enclosed, cons_of, latest, further, ready_read}
use Rattle.readers.specs.Room.{at_height}
use Rattle.readers.specs.Infix as rows_of
use Rattle.readers.specs.Exact.{always}
use Rattle.readers.proofs.Bundle.{Known}
use Rattle.readers.proofs.Choice.{remade, roomy_ok}
use Rattle.sml_parse_pat.proofs.Ready.{further_less}
use Rattle.readers.proofs.Outcome.{ok_of, ok_is, chosen}
use Rattle.readers.proofs.RowLoop.{Shortens, shortens}
use Rattle.sml_lex.specs.declared.token.Token.{Token}
use Rattle.sml_fix.specs.Fixities.{Settings}
use Rattle.sml_scan.proofs.Shorter.{Keeps, kept, token_shorter, one_shorter, mapped_shorter, both_shorter, bound_shorter, skip_shorter, close_shorter, shut_shorter, only_shorter, else_by_shorter, else_if_shorter, seps_shorter, steps_keeps}
use Rattle.tl_text.specs.declared.place.Place.{Place}
use Rattle.sml_grammar.specs.Words.{OP, OPEN_PAREN, CLOSE_PAREN, OPEN_BRACKET, CLOSE_BRACKET, OPEN_BRACE, CLOSE_BRACE, COMMA, COLON, EQUALS, DOTS, WILDCARD, AS}
use Rattle.sml_grammar.specs.Types.{Ident, LongIdent, Label}
use Rattle.sml_grammar.specs.Tokens.{is, the, tokens_of, among, literals, scon, infix_vid, long_vid, op_long_vid, plain_long_names}
use Rattle.sml_grammar.specs.Pats as grammar
use Rattle.sml_grammar.specs.Pats.{PatR, AtR, Pt, Fp, Ap, Name, Inside, Tail, Operand, tight, right, top, any_of, lit_of, fields_of, items_of, paren_of, bare_of, op_of, rest_of, vid_field_of, named_of, operand_of, infix_of, vid_or_lab, other_lab, other_labels}
use Rattle.sml_grammar.specs.ReadTypes.{ty_read}
use Rattle.sml_grammar.specs.ReadPats as read
use Rattle.sml_grammar.specs.ReadPats.{pat_read, field_read, row_read, at_read, other_read, name_read, begins_at, begins_name, begins_other}
use Rattle.sml_grammar.proofs.Pats.{pat_exact, at_exact}
use Rattle.sml_grammar.proofs.Shapes.{stops}
use Rattle.sml_scan.proofs.Infix.{joined, suffix, suffix_less}
use Rattle.sml_parse_ty.proofs.Steps.{ty_less}
use Rattle.sml_parse_pat.specs.Levels as levels

-- ---- readers that take a token

abbrev shut_by : {K T : Type 0} → Bool → T × List K → Answer K T
shut_by b x = if b then Err (Grammar, x.1) else Ok x

abbrev gave : {K T : Type 0} → T × List K → Answer K T
gave z = Ok z

ended_ok : {K T : Type 0} (test : K → Bool) (p : Reader K T) (s : List K) (z : T × List K) → ended test p s ≡ Ok z → p s ≡ Ok z
ended_ok {K} {T} test p s z e =
    let a = ok_of (p s) (λ x. shut_by (head_is test (first x.1)) x) z e in
    a.1 ∙ open_one a.0 (head_is test (first a.0.1)) a.2
  where
    open_one : (x : T × List K) (b : Bool) → shut_by b x ≡ Ok z → gave x ≡ gave z
    open_one x true i = absurd cc
    open_one x false i = i

ended_shorter : {K T : Type 0} (test : K → Bool) (p : Reader K T) → Shortens p → Shortens (ended test p)
ended_shorter test p P s z e = P s z (ended_ok test p s z e)

ended_keeps : {K T : Type 0} (test : K → Bool) (p : Reader K T) → Keeps p → Keeps (ended test p)
ended_keeps test p P s z e = P s z (ended_ok test p s z e)

pub pat_less : (fix : Settings) (h : ℕ) → Shortens (levels.pat fix h)
pat_less fix h =
    let P = pat_exact fix Known.Readings h in
    shortens (begins_at fix) (PatR fix (at_height h false)) (λ t. stops read.pat_goes) (levels.pat fix h) (λ t w d. P.opening.begins (at_height h false) t w tt d) (P.part.reads (at_height h false) (omega arith))

pub comma_pat_less : (fix : Settings) (h : ℕ) → Shortens (skip (is COMMA) (levels.pat fix h))
comma_pat_less fix h = skip_shorter (is COMMA) (levels.pat fix h) (kept (levels.pat fix h) (pat_less fix h))

pub annotation_less : (h : ℕ) → Shortens (levels.annotation h)
annotation_less h = ended_shorter (tokens_of read.inner_goes) (skip (is COLON) (ty_read h)) (skip_shorter (is COLON) (ty_read h) (kept (ty_read h) (ty_less h)))

-- ---- seen as another tree

-- what may not follow, before or after it is seen so
pub ended_mapped : {K S T : Type 0} (f : S → T) (test : K → Bool) (p : Reader K S) (s : List K) → mapped f (ended test p) s ≡ ended test (mapped f p) s
ended_mapped {K} {S} {T} f test p s = go (p s)
  where
    step : (x : S × List K) (b : Bool) → remade f (shut_by b x) ≡ shut_by b (f x.0, x.1)
    step x true = refl
    step x false = refl

    go : (r : Answer K S) → remade f (r >>= λ x. shut_by (head_is test (first x.1)) x) ≡ (remade f r >>= λ x. shut_by (head_is test (first x.1)) x)
    go (Ok x) = step x (head_is test (first x.1))
    go (Err e) = refl

pub mapped_mapped : {K S T U : Type 0} (f : S → T) (g : T → U) (p : Reader K S) (s : List K) → mapped g (mapped f p) s ≡ mapped (λ x. g (f x)) p s
mapped_mapped {K} {S} {T} {U} f g p s = go (p s)
  where
    go : (r : Answer K S) → remade g (remade f r) ≡ remade (λ x. g (f x)) r
    go (Ok x) = refl
    go (Err e) = refl

pub seen_by : {K S T U : Type 0} (f : S → U) (k : S → T) (g : T → U) → ((x : S) → f x ≡ g (k x)) → (p : Reader K S) (s : List K) → mapped f p s ≡ mapped g (mapped k p) s
seen_by {K} {S} {T} {U} f k g same p s = go (p s)
  where
    done : U → List K → Answer K U
    done u t = Ok (u, t)

    go : (r : Answer K S) → remade f r ≡ remade g (remade k r)
    go (Ok x) = ap (λ (u : U). done u x.1) (same x.0)
    go (Err e) = refl

abbrev paired : {K S T : Type 0} → S → T → List K → Answer K (S × T)
paired x y s = Ok ((x, y), s)

-- behind the first part
pub behind_first : {K S T U : Type 0} (f : S × T → U) (p : Reader K S) (q : Reader K T) (s rest : List K) (x : S) → p s ≡ Ok (x, rest) → mapped f (both p q) s ≡ mapped (λ y. f (x, y)) q rest
behind_first {K} {S} {T} {U} f p q s rest x e = rw e (go (q rest))
  where
    go : (r : Answer K T) → remade f (r >>= λ y. paired x y.0 y.1) ≡ remade (λ y. f (x, y)) r
    go (Ok y) = refl
    go (Err e) = refl

-- ---- readers that may take none, and fields, atoms, rows

maybe_keeps : {K T : Type 0} (test : K → Bool) (low : ℕ) (p : Reader K T) (h : ℕ) → Shortens p → Keeps (maybe test low p h)
maybe_keeps {K} {T} test low p h P s z e =
    elim (chosen (head_is test (first s)) (roomy low (mapped (λ x. Some x) p) h s) (Ok (None, s)) (Ok z) e) [
      | inl a ↦ kept (mapped (λ x. Some x) p) (mapped_shorter (λ x. Some x) p P) s z (roomy_ok low h (mapped (λ x. Some x) p) s z a.1)
      | inr a ↦ let l = ap (λ (y : Option T × List K). length y.1) (ok_is (None, s) z a.1) in omega arith
    ]

optional_keeps : {K T : Type 0} (test : K → Bool) (p : Reader K T) → Shortens p → Keeps (optional test p)
optional_keeps {K} {T} test p P s z e =
    elim (chosen (head_is test (first s)) (mapped (λ x. Some x) p s) (Ok (None, s)) (Ok z) e) [
      | inl a ↦ kept (mapped (λ x. Some x) p) (mapped_shorter (λ x. Some x) p P) s z a.1
      | inr a ↦ let l = ap (λ (y : Option T × List K). length y.1) (ok_is (None, s) z a.1) in omega arith
    ]

ready_shorter : {K T : Type 0} (sep : K → Bool) (ready : T → Bool) (p : Reader K T) → Shortens p → Shortens (ready_read sep ready p)
ready_shorter sep ready p P = mapped_shorter cons_of (bound p (steps sep latest (further sep ready p))) (bound_shorter p (steps sep latest (further sep ready p)) P
    (λ a s z e. steps_keeps sep latest (further sep ready p) (further_less sep ready p (skip_shorter sep p (kept p P))) (length s) a s z e))

module _ (fix : Settings) where
  word_pat_less : (k h : ℕ) → Shortens (skip (is k) (levels.pat fix h))
  word_pat_less k h = skip_shorter (is k) (levels.pat fix h) (kept (levels.pat fix h) (pat_less fix h))

  tail_less : (h : ℕ) → Shortens (levels.tail fix h)
  tail_less h =
      let typed : Reader Token Tail = mapped Tail.Typed (levels.typed_tail fix h) in
      let named : Reader Token Tail = mapped Tail.Named (skip (is EQUALS) (levels.pat fix h)) in
      let layer : Reader Token Tail = mapped Tail.Layered (skip (is AS) (levels.pat fix h)) in
      else_by_shorter (is COLON) 1 typed (else_by (is EQUALS) 2 named (only (is AS) 2 layer h) h) h
      (mapped_shorter Tail.Typed (levels.typed_tail fix h) (both_shorter (skip (is COLON) (ty_read h)) (maybe (is AS) 2 (skip (is AS) (levels.pat fix h)) h) (skip_shorter (is COLON) (ty_read h) (kept (ty_read h) (ty_less h)))
      (maybe_keeps (is AS) 2 (skip (is AS) (levels.pat fix h)) h (word_pat_less AS h))))
      (else_by_shorter (is EQUALS) 2 named (only (is AS) 2 layer h) h (mapped_shorter Tail.Named (skip (is EQUALS) (levels.pat fix h)) (word_pat_less EQUALS h))
      (only_shorter (is AS) 2 layer h (mapped_shorter Tail.Layered (skip (is AS) (levels.pat fix h)) (word_pat_less AS h))))

  vid_field_less : (h : ℕ) → Shortens (levels.vid_field fix h)
  vid_field_less h =
      let some : Reader Token ((Label × Ident) × Option Tail) = both (token_by (vid_or_lab fix)) (levels.closed_tail fix h) in
      else_if_shorter (is DOTS) levels.dots (mapped vid_field_of some)
      (mapped_shorter rest_of (ended (tokens_of read.field_goes) (token_by (the DOTS))) (ended_shorter (tokens_of read.field_goes) (token_by (the DOTS)) (token_shorter (the DOTS))))
      (mapped_shorter vid_field_of some (both_shorter (token_by (vid_or_lab fix)) (levels.closed_tail fix h) (token_shorter (vid_or_lab fix)) (ended_keeps (tokens_of read.field_goes) (levels.open_tail fix h) (maybe_keeps read.begins_tail 1 (levels.tail fix h) h (tail_less h)))))

  field_level_less : (h : ℕ) → Shortens (levels.field_level fix h)
  field_level_less h =
      let named : Reader Token (Label × Pt) = both (token_by (other_lab fix)) (levels.value fix h) in
      else_by_shorter (among fix read.vid_firsts) 0 (levels.vid_field fix h) (only (among fix other_labels) 2 (mapped named_of named) h) h (vid_field_less h)
      (only_shorter (among fix other_labels) 2 (mapped named_of named) h (mapped_shorter named_of named (both_shorter (token_by (other_lab fix)) (levels.value fix h) (token_shorter (other_lab fix))
      (kept (levels.value fix h) (ended_shorter (tokens_of read.field_goes) (skip (is EQUALS) (levels.pat fix h)) (word_pat_less EQUALS h))))))

  pub field_less : (h : ℕ) → Shortens (levels.field fix h)
  unfolding field_read
  field_less zero s z e = shut_shorter (read.begins_field fix) s z e
  field_less (suc h) s z e = field_level_less h s z e

  pub comma_field_less : (h : ℕ) → Shortens (skip (is COMMA) (levels.field fix h))
  comma_field_less h = skip_shorter (is COMMA) (levels.field fix h) (kept (levels.field fix h) (field_less h))

  inside_less : (h : ℕ) → Shortens (read.inside_read fix (levels.pat fix h) h)
  inside_less h =
      let empty : Reader Token Inside = mapped (λ u. Inside.Empty) (one (is CLOSE_PAREN)) in
      let one_only : Reader Token (Option (List Pt)) = mapped (λ u. None) (one (is CLOSE_PAREN)) in
      let rows : Reader Token (List Pt) = close (seps (is COMMA) (levels.pat fix h)) (is CLOSE_PAREN) in
      let parts : Reader Token Inside = mapped Inside.Parts (levels.parts fix h) in
      else_if_shorter (is CLOSE_PAREN) empty (only (begins_at fix) 2 parts h) (mapped_shorter (λ u. Inside.Empty) (one (is CLOSE_PAREN)) (one_shorter (is CLOSE_PAREN)))
      (only_shorter (begins_at fix) 2 parts h (mapped_shorter Inside.Parts (levels.parts fix h) (both_shorter (levels.pat fix h) (levels.behind_first fix h) (pat_less fix h) (kept (levels.behind_first fix h)
      (else_if_shorter (is CLOSE_PAREN) one_only (mapped (λ x. Some x) (skip (is COMMA) rows)) (mapped_shorter (λ u. None) (one (is CLOSE_PAREN)) (one_shorter (is CLOSE_PAREN)))
      (mapped_shorter (λ x. Some x) (skip (is COMMA) rows) (skip_shorter (is COMMA) rows (kept rows (close_shorter (seps (is COMMA) (levels.pat fix h)) (is CLOSE_PAREN) (kept (seps (is COMMA) (levels.pat fix h)) (seps_shorter (is COMMA) (levels.pat fix h) (pat_less fix h))))))))))))

  fields_less : (h : ℕ) → Shortens (read.fields_read fix (levels.field fix h) h)
  fields_less h =
      let none : Reader Token (List Fp) = mapped (λ u. []) (one (is CLOSE_BRACE)) in
      let row : Reader Token (List Fp) = ready_read (is COMMA) grammar.goes_on (levels.field fix h) in
      let some : Reader Token (List Fp) = close row (is CLOSE_BRACE) in
      else_if_shorter (is CLOSE_BRACE) none (only (read.begins_field fix) 1 some h) (mapped_shorter (λ u. []) (one (is CLOSE_BRACE)) (one_shorter (is CLOSE_BRACE)))
      (only_shorter (read.begins_field fix) 1 some h (close_shorter row (is CLOSE_BRACE) (kept row (ready_shorter (is COMMA) grammar.goes_on (levels.field fix h) (field_less h)))))

  items_less : (h : ℕ) → Shortens (enclosed (begins_at fix) 2 (is COMMA) (levels.pat fix h) (is CLOSE_BRACKET) h)
  items_less h =
      let none : Reader Token (List Pt) = mapped (λ u. []) (one (is CLOSE_BRACKET)) in
      let row : Reader Token (List Pt) = seps (is COMMA) (levels.pat fix h) in
      let some : Reader Token (List Pt) = close row (is CLOSE_BRACKET) in
      else_if_shorter (is CLOSE_BRACKET) none (only (begins_at fix) 2 some h) (mapped_shorter (λ u. []) (one (is CLOSE_BRACKET)) (one_shorter (is CLOSE_BRACKET)))
      (only_shorter (begins_at fix) 2 some h (close_shorter row (is CLOSE_BRACKET) (kept row (seps_shorter (is COMMA) (levels.pat fix h) (pat_less fix h)))))

  -- a node behind its first word
  node_less : {S : Type 0} (k : ℕ) (f : Place × S → Ap) (q : Reader Token S) → Shortens q → Shortens (mapped f (both (token_by (the k)) q))
  node_less k f q Q = mapped_shorter f (both (token_by (the k)) q) (both_shorter (token_by (the k)) q (token_shorter (the k)) (kept q Q))

  other_level_less : (h : ℕ) → Shortens (levels.other_level fix h)
  other_level_less h =
      let record_node : Reader Token Ap = mapped fields_of (both (token_by (the OPEN_BRACE)) (read.fields_read fix (levels.field fix h) h)) in
      let items_node : Reader Token Ap = mapped items_of (both (token_by (the OPEN_BRACKET)) (enclosed (begins_at fix) 2 (is COMMA) (levels.pat fix h) (is CLOSE_BRACKET) h)) in
      let paren_node : Reader Token Ap = mapped paren_of (both (token_by (the OPEN_PAREN)) (read.inside_read fix (levels.pat fix h) h)) in
      let third : Reader Token Ap = else_by (is OPEN_BRACE) 0 record_node (levels.bracketed fix h) h in
      let second : Reader Token Ap = else_by (tokens_of literals) 0 (mapped lit_of (token_by scon)) third h in
      else_by_shorter (is WILDCARD) 0 (mapped any_of (token_by (the WILDCARD))) second h (mapped_shorter any_of (token_by (the WILDCARD)) (token_shorter (the WILDCARD)))
      (else_by_shorter (tokens_of literals) 0 (mapped lit_of (token_by scon)) third h (mapped_shorter lit_of (token_by scon) (token_shorter scon))
      (else_by_shorter (is OPEN_BRACE) 0 record_node (levels.bracketed fix h) h (node_less OPEN_BRACE fields_of (read.fields_read fix (levels.field fix h) h) (fields_less h))
      (else_by_shorter (is OPEN_BRACKET) 0 items_node (levels.parenthesised fix h) h (node_less OPEN_BRACKET items_of (enclosed (begins_at fix) 2 (is COMMA) (levels.pat fix h) (is CLOSE_BRACKET) h) (items_less h))
      (only_shorter (is OPEN_PAREN) 0 paren_node h (node_less OPEN_PAREN paren_of (read.inside_read fix (levels.pat fix h) h) (inside_less h))))))

  other_less : (h : ℕ) → Shortens (other_read h false fix)
  unfolding other_read
  other_less zero s z e = shut_shorter begins_other s z e
  other_less (suc h) s z e = other_level_less h s z e

  name_level_less : Shortens (read.name_level fix)
  name_level_less =
      let behind_op : Reader Token (Place × LongIdent) = both (token_by (the OP)) (token_by op_long_vid) in
      else_if_shorter (among fix plain_long_names) (mapped bare_of (token_by (long_vid fix))) (mapped op_of behind_op) (mapped_shorter bare_of (token_by (long_vid fix)) (token_shorter (long_vid fix)))
      (mapped_shorter op_of behind_op (both_shorter (token_by (the OP)) (token_by op_long_vid) (token_shorter (the OP)) (kept (token_by op_long_vid) (token_shorter op_long_vid))))

  name_less : (h : ℕ) → Shortens (name_read h fix)
  unfolding name_read
  name_less zero s z e = shut_shorter (begins_name fix) s z e
  name_less (suc h) s z e = name_level_less s z e

  at_less : (h : ℕ) → Shortens (at_read h false fix)
  at_less h =
      let P = at_exact fix Known.Readings h in
      shortens (begins_at fix) (AtR fix (at_height h false)) always (at_read h false fix) (λ t w d. P.opening.begins (at_height h false) t w tt d) (P.part.reads (at_height h false) (omega arith))

  operand_less : (h : ℕ) → Shortens (levels.operand_read fix h)
  operand_less h =
      let con : Reader Token (Name × Option Ap) = both (name_read h fix) (levels.arg fix h) in
      let atom : Reader Token Operand = mapped Operand.Atom (other_read h false fix) in
      let all : Reader Token Operand = else_by (begins_name fix) 1 (mapped Operand.Con con) (only begins_other 1 atom h) h in
      ended_shorter (begins_at fix) all
      (else_by_shorter (begins_name fix) 1 (mapped Operand.Con con) (only begins_other 1 atom h) h (mapped_shorter Operand.Con con (both_shorter (name_read h fix) (levels.arg fix h) (name_less h) (optional_keeps (begins_at fix) (at_read h false fix) (at_less h))))
      (only_shorter begins_other 1 atom h (mapped_shorter Operand.Atom (other_read h false fix) (other_less h))))

  -- rows on the right of an operator
  abbrev pub inner : ℕ → Floor → Reader Token Pt
  inner h m = row_read h false m fix

  row_less : (h : ℕ) (n : Floor) → Shortens (inner h n)
  unfolding row_read
  row_less zero n s z e = shut_shorter (begins_at fix) s z e
  row_less (suc h) n s z e =
      let more : Pt → Reader Token (Ident × Pt) = suffix (tight fix) (right fix) (infix_vid fix) top (at_least 2) operand_of infix_of (inner h) (at_height h false) n in
      let test : Token → Bool = levels.taken fix n in
      let step : Pt → Ident × Pt → Pt = joined (tight fix) (right fix) (infix_vid fix) top (at_least 2) operand_of infix_of (inner h) (at_height h false) n in
      let all : Reader Token (Operand × List (Ident × Pt)) = bound (levels.operand_read fix h) (λ a. steps test step more (operand_of a)) in
      mapped_shorter (rows_of.chain operand_of step) all (bound_shorter (levels.operand_read fix h) (λ a. steps test step more (operand_of a)) (operand_less h)
      (λ a s z e. steps_keeps test step more (λ x. suffix_less (tight fix) (right fix) (infix_vid fix) top (at_least 2) operand_of infix_of (inner h) (at_height h false) n (λ m. kept (inner h m) (row_less h m)) x) (length s) (operand_of a) s z e)) s z e

  pub keeps : (h : ℕ) (m : Floor) → Keeps (inner h m)
  keeps h m = kept (inner h m) (row_less h m)
