-- Patterns are read exactly.
use Rattle.std.proofs.Common.{◌≡◌, if◌then◌else◌, ◌⊎◌, ℕ, zero, suc, ◌+◌, ◌≤◌, max, Bool, true, false, not, ◌&&◌, ◌||◌, List, [], ◌∷◌, ◌++◌, Option, Some, None, refl, sym, ap, subst, ◌∙◌, arith, inl, inr}
use Rattle.readers.specs.declared.floor.Floor.{Floor}
use Rattle.readers.specs.Reader.{first, head_is, Reader, both, mapped, token_by, one, skip, close, only}
use Rattle.readers.specs.Language.{Both, That, Shows, As, Or, Skip, Close}
use Rattle.readers.specs.Room.{Room, at_height}
use Rattle.readers.specs.Infix.{ground, takes, seen_by, reaches}
use Rattle.readers.specs.Exact.{always, row_stop}
use Rattle.readers.specs.Forms.{highest, height_of, at_least, any_tree, Ready, ready_read, Maybe, maybe, ended}
use Rattle.readers.proofs.Bundle.{Known, Fitting, Part, Phrase}
use Rattle.readers.proofs.Combine.{token, phrase, pair, pair_then, pair_opens, made_phrase, node, shown_test, not_shown}
use Rattle.readers.proofs.First.{shows_begins}
use Rattle.readers.proofs.Outcome.{head-append}
use Rattle.readers.proofs.Repeat.{ready_phrase}
use Rattle.readers.proofs.Choose.{last, retested, choice_if, closed_phrase, perhaps, option, ends, ends_phrase, maybe_stop, maybe_tall}
use Rattle.readers.proofs.Grow.{growing, two_are}
use Rattle.readers.proofs.Beside.{standing}
use Rattle.readers.proofs.Operators.{Standing, Level, ends_on, operators, grounded}
use Rattle.readers.proofs.Row.{not_false, not_true}
use Rattle.readers.proofs.Levels.{Knot, Tower, all_of, lifted, lowest_sizes, lowest_readings, lowest_refusals}
use Rattle.sml_lex.specs.declared.token.Token.{Token}
use Rattle.sml_lex.specs.declared.token.Kind.TheVariants as kind
use Rattle.tl_text.specs.declared.lit.Lit.TheVariants as lit
use Rattle.std.specs.Prelude.{pos, codes}
use Rattle.sml_fix.specs.Fixities.{Settings}
use Rattle.sml_ast.specs.declared.pat.Pat.{out-roll-Pat}
use Rattle.sml_grammar.specs.Words.{AS, OP, OPEN_PAREN, CLOSE_PAREN, OPEN_BRACKET, CLOSE_BRACKET, OPEN_BRACE, CLOSE_BRACE, COMMA, COLON, DOTS, WILDCARD, EQUALS}
use Rattle.sml_grammar.specs.Tokens.{Firsts, just, union, is, the, place, among, plain_fix, tokens_of, label, literals, literal, ident, long_ident, plain_long_names, plain_names, op_long_names, infix_names, infix_vid}
use Rattle.sml_grammar.specs.Types.{Tx, TyR, Ident, Label}
use Rattle.sml_grammar.specs.ReadTypes.{ty_in}
use Rattle.sml_grammar.specs.Pats.{tight, right, Ap, Fp, Pt, Name, Inside, Tail, Operand, opt_height, more_height, inside_height, tail_height, tails_height, operand_height, bare_of, op_of, id_of, any_of, lit_of, fields_of, items_of, paren_of, rest_of, vid_field_of, named_of, goes_on, operand_of, infix_of, top, top_in, typed_of, is_bare, layer_of, both_names, vid_or_lab, other_lab, other_labels, NameD, InsideD, TailD, other_form, at_form, field_form, OperandD, row_form, typed_form, pat_form, name_on, other_on, at_on, field_on, row_on, typed_on, pat_on, NameR, OtherR, AtR, FieldR, RowR, TypedR, PatR}
use Rattle.sml_grammar.specs.ReadPats.{name_firsts, other_firsts, at_firsts, field_firsts, begins_name, begins_other, begins_at, begins_field, begins_tail, vid_firsts, vids_read, inner_goes, typed_goes, pat_goes, field_goes, name_level, inside_read, fields_read, other_level, at_level, tail_read, field_level, operand_read, row_level, typed_level, pat_level, name_read, other_read, at_read, field_read, row_read, typed_read, pat_read}
use Rattle.sml_grammar.proofs.Sets.{is_just, apart_is, apart_here_is, among_union, pick, pick_if}
use Rattle.sml_grammar.proofs.Shapes.{some_token, word_token, name_token, word_is, stops, halts, word_halts, stops_with, the_word, a_word, past_word, to_word, rows_of, bracketed}
use Rattle.sml_grammar.proofs.Joined.{made_level, after_stop, pair_maybe, row_halts, steady, narrow, scant, beside_scant}
use Rattle.sml_grammar.proofs.Types.{TyP, ty_exact, ty_goes}

opt_is : {T : Type 0} (x : Option (T × ℕ)) → opt_height x ≡ maybe_tall height_of x
opt_is None = refl
opt_is (Some x) = refl

more_is : (x : Option (List Pt)) → more_height x ≡ maybe_tall (highest height_of) x
more_is None = refl
more_is (Some x) = refl

tails_is : (x : Option Tail) → tails_height x ≡ maybe_tall tail_height x
tails_is None = refl
tails_is (Some x) = refl

-- the readers in a room
abbrev pub name_in : Settings → Room → Reader Token Name
name_in fix r = name_read r.height fix

abbrev pub other_in : Settings → Room → Reader Token Ap
other_in fix r = other_read r.height r.clashes fix

abbrev pub at_in : Settings → Room → Reader Token Ap
at_in fix r = at_read r.height r.clashes fix

abbrev pub field_at : Settings → Room → Reader Token Fp
field_at fix r = field_read r.height r.clashes fix

abbrev pub row_in : Settings → Room → Floor → Reader Token Pt
row_in fix r m = row_read r.height r.clashes m fix

abbrev pub typed_in : Settings → Room → Reader Token Pt
typed_in fix r = typed_read r.height r.clashes fix

abbrev pub pat_in : Settings → Room → Reader Token Pt
pat_in fix r = pat_read r.height r.clashes fix

-- what cannot follow an operand
abbrev operand_stop : Settings → Operand → Option Token → Bool
operand_stop fix (Operand.Con x) o = maybe_stop (begins_at fix) always x.1 o
operand_stop fix (Operand.Atom a) o = true

abbrev atom_stop : Settings → Option Token → Bool
atom_stop fix o = not (head_is (begins_at fix) o)

abbrev tail_stop : Tail → Option Token → Bool
tail_stop (Tail.Typed x) o = after_stop (stops ty_goes) (is AS) (λ (q : Pt). stops pat_goes) x.1 o
tail_stop (Tail.Named q) o = stops pat_goes o
tail_stop (Tail.Layered q) o = stops pat_goes o

module _ (fix : Settings) where
  abbrev pub NameP : Known → ℕ → Type 0
  NameP s n = Phrase s n 0 (NameR fix) (name_in fix) always height_of 1 0 (begins_name fix) 1

  abbrev pub OtherP : Known → ℕ → Type 0
  OtherP s n = Phrase s n 0 (OtherR fix) (other_in fix) always height_of 1 0 begins_other 1

  abbrev pub AtP : Known → ℕ → Type 0
  AtP s n = Phrase s n 0 (AtR fix) (at_in fix) always height_of 1 0 (begins_at fix) 1

  abbrev pub FieldP : Known → ℕ → Type 0
  FieldP s n = Phrase s n 0 (FieldR fix) (field_at fix) (λ t. stops field_goes) height_of 1 0 (begins_field fix) 3

  abbrev row_ends : Floor → Option Token → Bool
  row_ends m = ends_on (tight fix) (right fix) (infix_vid fix) top (at_least 2) operand_of infix_of (atom_stop fix) m

  abbrev pub RowP : Known → ℕ → Type 0
  RowP s n = (m : Floor) → Phrase s n 0 (Standing (tight fix) (right fix) (infix_vid fix) top (at_least 2) operand_of infix_of (RowR fix) m) (λ k. row_in fix k m) (λ t. row_ends m) height_of 2 0 (begins_at fix) 2

  abbrev pub TypedP : Known → ℕ → Type 0
  TypedP s n = Phrase s n 0 (TypedR fix) (typed_in fix) (λ t. stops typed_goes) height_of 2 0 (begins_at fix) 2

  abbrev pub PatP : Known → ℕ → Type 0
  PatP s n = Phrase s n 0 (PatR fix) (pat_in fix) (λ t. stops pat_goes) height_of 2 0 (begins_at fix) 2

  operator_stops : (c : Token) (v : Ident) → infix_vid fix c ≡ Some v → atom_stop fix (Some c) ≡ true
  operator_stops c v e = not_false (begins_at fix c) (apart_here_is fix infix_names at_firsts refl c (shown_test (among fix infix_names) ident c v e))

  -- what ends a row on the ground
  row_over : (o : Option Token) → stops inner_goes o ≡ true → row_ends ground o ≡ true
  row_over None e = refl
  row_over (Some c) e = two_are (atom_stop fix (Some c)) _ (narrow fix at_firsts inner_goes refl (Some c) e) (not_false _ (no_operator (among fix infix_names c) (not_true (among fix infix_names c) (narrow fix infix_names inner_goes refl (Some c) e))))
    where
      no_operator : (b : Bool) → b ≡ false → seen_by (tight fix) (right fix) (infix_vid fix) top (at_least 2) operand_of infix_of (reaches (tight fix) (right fix) ground) (if b then Some (ident c) else None) ≡ false
      no_operator true e = absurd cc
      no_operator false e = refl

  -- ---- one level

  name_now : {s : Known} {n : ℕ} → Phrase s n 1 (λ k. NameD fix) (λ k. name_level fix) always height_of 0 0 (begins_name fix) 0
  name_now = pick_if fix plain_long_names (just OP) (λ c. refl) (is_just fix OP)
      (node bare_of height_of always (token (among fix plain_long_names) long_ident (some_token (kind.Id (codes "A" ∷ codes "x" ∷ []))) refl) (λ x. refl) (λ x o. refl))
      (node op_of height_of always (phrase (the_word OP) (token (tokens_of op_long_names) long_ident name_token refl).part) (λ x. omega arith) (λ x o. refl))
      (omega arith) refl

  module _ {s : Known} {n : ℕ} (T : TyP s n) (F : FieldP s n) (P : PatP s n) where
    inside : Part s n 0 (λ k. InsideD (PatR fix k)) (λ k. inside_read fix (pat_in fix k) k.height) always inside_height 0 0
    inside =
        let rest = pick_if plain_fix (just CLOSE_PAREN) (just COMMA) (is_just plain_fix CLOSE_PAREN) (is_just plain_fix COMMA)
        (made_phrase (λ (u : Unit {0}). None) more_height always (a_word CLOSE_PAREN) (λ u. refl) (λ u o. refl))
        (made_phrase (λ x. Some x) more_height always (past_word COMMA (to_word (union pat_goes (just COMMA)) CLOSE_PAREN refl (rows_of pat_goes COMMA refl P).part)) (λ x. refl) (λ x o. refl))
        (omega arith) refl in
        let parts : Phrase s n 0 _ _ always inside_height 2 2 (begins_at fix) 2 = made_phrase Inside.Parts inside_height always
        (record { part = pair_then P.part rest (λ t c e. halts plain_fix (union (just CLOSE_PAREN) (just COMMA)) pat_goes (tokens_of (union (just CLOSE_PAREN) (just COMMA))) (λ c. refl) refl c e); opening = pair_opens P.opening rest.part })
        (λ x. refl) (λ x o. refl) in
        let all = choice_if (made_phrase (λ (u : Unit {0}). Inside.Empty) inside_height always (a_word CLOSE_PAREN) (λ u. refl) (λ u o. refl)) (last parts (omega arith)) (omega arith)
        (λ c e. is_just fix CLOSE_PAREN c ∙ apart_is fix fix at_firsts (just CLOSE_PAREN) refl c e) in
        all.part

    fields : Part s n 0 (λ k. Or (As (λ u. []) (λ (u : Unit {0}). That (is CLOSE_BRACE))) (Close (Ready (is COMMA) goes_on (FieldR fix k)) (is CLOSE_BRACE))) (λ k. fields_read fix (field_at fix k) k.height) always (highest height_of) 0 0
    fields =
        let none = made_phrase (λ (u : Unit {0}). []) (highest height_of) always (a_word CLOSE_BRACE) (λ u. refl) (λ u o. refl) in
        let row = ready_phrase (is COMMA) (word_token COMMA) (word_is COMMA) goes_on F (λ t c r e. word_halts COMMA field_goes refl c e) in
        let some = last (closed_phrase (is CLOSE_BRACE) (word_token CLOSE_BRACE) (word_is CLOSE_BRACE) row (λ t c e. row_halts COMMA CLOSE_BRACE field_goes refl refl t c e)) (omega arith) in
        let all = choice_if none some (omega arith) (λ c e. is_just fix CLOSE_BRACE c ∙ apart_is fix fix field_firsts (just CLOSE_BRACE) refl c e) in
        all.part

    other_now : Phrase s n 1 (λ k. other_form (FieldR fix k) (PatR fix k)) (λ k. other_level fix (field_at fix k) (pat_in fix k) k.height) always height_of 0 0 begins_other 0
    other_now =
        pick plain_fix (just WILDCARD) (union literals (union (just OPEN_BRACE) (union (just OPEN_BRACKET) (just OPEN_PAREN)))) (is_just plain_fix WILDCARD) (λ c. refl)
        (node any_of height_of always (the_word WILDCARD) (λ x. refl) (λ x o. refl))
        (pick plain_fix literals (union (just OPEN_BRACE) (union (just OPEN_BRACKET) (just OPEN_PAREN))) (λ c. refl) (λ c. refl)
        (node lit_of height_of always (token (tokens_of literals) literal (some_token (kind.Lit (lit.Int (pos 0)))) refl) (λ x. refl) (λ x o. refl))
        (pick plain_fix (just OPEN_BRACE) (union (just OPEN_BRACKET) (just OPEN_PAREN)) (is_just plain_fix OPEN_BRACE) (λ c. refl)
        (node fields_of height_of always (phrase (the_word OPEN_BRACE) fields) (λ x. omega arith) (λ x o. refl))
        (pick plain_fix (just OPEN_BRACKET) (just OPEN_PAREN) (is_just plain_fix OPEN_BRACKET) (is_just plain_fix OPEN_PAREN)
        (node items_of height_of always (phrase (the_word OPEN_BRACKET) (bracketed pat_goes fix at_firsts COMMA CLOSE_BRACKET (λ c. refl) (omega arith) refl refl refl refl P)) (λ x. omega arith) (λ x o. refl))
        (last (node paren_of height_of always (phrase (the_word OPEN_PAREN) inside) (λ x. omega arith) (λ x o. refl)) (omega arith))
        (omega arith) (omega arith) refl)
        (omega arith) (omega arith) refl)
        (omega arith) (omega arith) refl)
        (omega arith) (omega arith) refl

    at_now : Phrase s n 1 (λ k. at_form fix (FieldR fix k) (PatR fix k)) (λ k. at_level fix (field_at fix k) (pat_in fix k) k.height) always height_of 0 0 (begins_at fix) 0
    at_now = pick fix name_firsts other_firsts (λ c. refl) (steady plain_fix fix other_firsts refl refl refl)
        (made_level id_of height_of always name_now (λ x. refl) (λ x o. refl)) other_now (omega arith) (omega arith) refl

    tail : Phrase s n 0 (λ k. TailD (TyR k) (PatR fix k)) (λ k. tail_read (ty_in k) (pat_in fix k) k.height) tail_stop tail_height 1 0 begins_tail 2
    tail =
        let as_pat = past_word AS P.part in
        let typed = past_word COLON T.part in
        let may = perhaps as_pat (omega arith) in
        let both : Phrase s n 0 _ _ (λ x. after_stop (stops ty_goes) (is AS) (λ (q : Pt). stops pat_goes) x.1) (λ x. max (height_of x.0) (maybe_tall height_of x.1)) 1 1 (is COLON) 1 =
        record { part = pair_maybe typed.part (λ k y w i d. as_pat.opening.begins k y w i d) may (λ c e. word_halts AS ty_goes refl c e); opening = pair_opens typed.opening may } in
        pick plain_fix (just COLON) (union (just EQUALS) (just AS)) (is_just plain_fix COLON) (λ c. refl)
        (made_phrase Tail.Typed tail_height tail_stop both (λ x. ap (λ (m : ℕ). max x.0.1 m) (opt_is x.1)) (λ x o. refl))
        (pick plain_fix (just EQUALS) (just AS) (is_just plain_fix EQUALS) (is_just plain_fix AS)
        (made_phrase Tail.Named tail_height tail_stop (past_word EQUALS P.part) (λ x. refl) (λ x o. refl))
        (last (made_phrase Tail.Layered tail_height tail_stop as_pat (λ x. refl) (λ x o. refl)) (omega arith))
        (omega arith) (omega arith) refl)
        (omega arith) (omega arith) refl

    tail_over : (t : Option Tail) (o : Option Token) → stops field_goes o ≡ true → maybe_stop begins_tail tail_stop t o ≡ true
    tail_over None o e = narrow plain_fix (union (just COLON) (union (just EQUALS) (just AS))) field_goes refl o e
    tail_over (Some (Tail.Typed (t, None))) o e = two_are (stops ty_goes o) _ (narrow plain_fix ty_goes field_goes refl o e) (as_over o e)
      where
        as_over : (o : Option Token) → stops field_goes o ≡ true → not (head_is (is AS) o) ≡ true
        as_over None e = refl
        as_over (Some c) e = ap not (is_just plain_fix AS c) ∙ narrow plain_fix (just AS) field_goes refl (Some c) e
    tail_over (Some (Tail.Typed (t, Some q))) o e = narrow plain_fix pat_goes field_goes refl o e
    tail_over (Some (Tail.Named q)) o e = narrow plain_fix pat_goes field_goes refl o e
    tail_over (Some (Tail.Layered q)) o e = narrow plain_fix pat_goes field_goes refl o e

    -- a field that begins with an identifier without infix status
    abbrev VidFieldD : Room → Fp → List Token → Type 0
    VidFieldD k = As vid_field_of (Both (Shows (vid_or_lab fix)) (Maybe (TailD (TyR k) (PatR fix k))))

    vid_field : (c : Token) × (among fix plain_names c ≡ true)
        → Phrase s n 1 VidFieldD (λ k. mapped vid_field_of (both (token_by (vid_or_lab fix)) (ended (tokens_of field_goes) (maybe begins_tail 1 (tail_read (ty_in k) (pat_in fix k) k.height) k.height)))) (λ t. stops field_goes) height_of 0 0 (among fix plain_names) 0
    vid_field c = node vid_field_of height_of (λ t. stops field_goes) (phrase (token (among fix plain_names) both_names c.0 c.1) (ends (tokens_of field_goes) (perhaps tail (omega arith)) (λ k t w o i d e. tail_over t o e)))
        (λ x. let a = tails_is x.1 in omega arith) (λ x o. refl)

    field_now : Phrase s n 1 (λ k. field_form fix (TyR k) (PatR fix k)) (λ k. field_level fix (ty_in k) (pat_in fix k) k.height) (λ t. stops field_goes) height_of 0 0 (begins_field fix) 2
    field_now =
        pick fix vid_firsts other_labels (λ c. refl) (λ c. refl) vids
        (last (node named_of height_of (λ t. stops field_goes) (phrase (token (among fix other_labels) label (some_token (kind.Lit (lit.Int (pos 1)))) refl)
        (ends (tokens_of field_goes) (past_word EQUALS P.part).part (λ k t w o i d e. narrow plain_fix pat_goes field_goes refl o e))) (λ x. omega arith) (λ x o. refl)) (omega arith))
        (omega arith) (omega arith) refl
      where
        rest : Phrase s n 1 (λ k. As rest_of (Shows (the DOTS))) (λ k. mapped rest_of (ended (tokens_of field_goes) (token_by (the DOTS)))) (λ t. stops field_goes) height_of 0 0 (is DOTS) 0
        rest = node rest_of height_of (λ t. stops field_goes) (ends_phrase (tokens_of field_goes) (the_word DOTS) (λ k t w o i d e. refl)) (λ x. refl) (λ x o. refl)

        vids : Phrase s n 1 (λ k. Or (As rest_of (Shows (the DOTS))) (VidFieldD k)) (λ k. vids_read fix (ty_in k) (pat_in fix k) k.height) (λ t. stops field_goes) height_of 0 0 (among fix vid_firsts) 0
        vids = retested (among fix vid_firsts)
            (beside_scant rest
            (scant (λ c e. (c, e)) vid_field
            (λ k t w d. let j = d.2 in subst (λ (z : List Token). head_is (among fix plain_names) (first z) ≡ true) (sym j.whole) (head-append (among fix plain_names) j.front j.back (shows_begins (vid_or_lab fix) (among fix plain_names) (shown_test (among fix plain_names) both_names) d.0.0 j.front j.left)))
            (λ k v e. rw (not_shown (among fix plain_names) both_names v e) refl))
            (omega arith) (λ c e. is_just fix DOTS c ∙ apart_here_is fix plain_names (just DOTS) refl c e))
            (λ c. ap (λ (x : Bool). x || among fix plain_names c) (is_just fix DOTS c) ∙ sym (among_union fix (just DOTS) plain_names c))

module _ (fix : Settings) {s : Known} {n : ℕ} (N : NameP fix s n) (A : AtP fix s n) (O : OtherP fix s n) where
  operand : Phrase s n 0 (λ k. OperandD (NameR fix k) (AtR fix k) (OtherR fix k)) (λ k. operand_read fix (name_in fix k) (at_in fix k) (other_in fix k) k.height) (λ a. atom_stop fix) operand_height 1 0 (begins_at fix) 1
  operand = ends_phrase (begins_at fix)
      (pick fix name_firsts other_firsts (λ c. refl) (steady plain_fix fix other_firsts refl refl refl)
      (made_phrase Operand.Con operand_height (operand_stop fix) (phrase N (option A)) (λ x. ap (λ (m : ℕ). max x.0.1 m) (opt_is x.1)) (λ x o. refl))
      (last (made_phrase Operand.Atom operand_height (operand_stop fix) O (λ x. refl) (λ x o. refl)) (omega arith))
      (omega arith) (omega arith) refl)
      (λ k t w o i d e. over t o e)
    where
      over : (t : Operand) (o : Option Token) → atom_stop fix o ≡ true → operand_stop fix t o ≡ true
      over (Operand.Con (x, None)) o e = e
      over (Operand.Con (x, Some a)) o e = refl
      over (Operand.Atom a) o e = refl

  module _ (R : RowP fix s n) where
    row_now : (m : Floor) → Phrase s n 1 (Level (tight fix) (right fix) (infix_vid fix) top (at_least 2) operand_of infix_of (λ k. OperandD (NameR fix k) (AtR fix k) (OtherR fix k)) (RowR fix) m)
        (λ k. row_level fix k.clashes (operand_read fix (name_in fix k) (at_in fix k) (other_in fix k) k.height) (row_in fix k) k.height m) (λ t. row_ends fix m) height_of 1 0 (begins_at fix) 1
    unfolding row_on
    row_now = operators (tight fix) (right fix) (infix_vid fix) top (at_least 2) operand_of infix_of (atom_stop fix) (operator_stops fix) (record {
      none = λ b t w d. d;
      out = λ h b t w d. d;
      into = λ h b t w d. d;
      top_leaf = λ a. leaf_top a;
      top_node = λ l v r. ap top_in (out-roll-Pat _);
      leaf_high = λ a. refl;
      node_high = λ l v r. refl;
      over = λ t. omega arith;
      at_least = λ t. omega arith;
      at_most = λ k t a b. omega (arith, a, b);
    }) operand R
      where
        leaf_top : (a : Operand) → top (operand_of a) ≡ None
        leaf_top (Operand.Con (x, None)) = ap top_in (out-roll-Pat _)
        leaf_top (Operand.Con (x, Some a)) = ap top_in (out-roll-Pat _)
        leaf_top (Operand.Atom a) = ap top_in (out-roll-Pat _)

    abbrev row_base : Room → Pt → List Token → Type 0
    row_base k = row_form k.clashes fix (NameR fix k) (AtR fix k) (OtherR fix k) (RowR fix k)

    abbrev row_base_read : Room → Reader Token Pt
    row_base_read k = row_level fix k.clashes (operand_read fix (name_in fix k) (at_in fix k) (other_in fix k) k.height) (row_in fix k) k.height ground

    base : Phrase s n 1 row_base (λ k. ended (tokens_of inner_goes) (row_base_read k)) (λ t. stops inner_goes) height_of 1 0 (begins_at fix) 1
    base = ends_phrase (tokens_of inner_goes) (grounded (tight fix) (right fix) top (row_now ground) (λ t. row_ends fix ground) (λ t o. refl)) (λ k t w o i d e. row_over fix o e)

    module _ (T : TyP s n) (Q : TypedP fix s n) where
      typed_now : Phrase s n 1 (λ k. typed_form (row_base k) (TyR k) (TypedR fix k)) (λ k. typed_level (row_base_read k) (ty_in k) k.height) (λ t. stops typed_goes) height_of 1 0 (begins_at fix) 1
      unfolding typed_on
      typed_now = growing base (ends_phrase (tokens_of inner_goes) (past_word COLON T.part) (λ k t w o i d e. narrow plain_fix ty_goes inner_goes refl o e)) Q any_tree (at_least 2) typed_of (record {
        none = λ b t w d. d;
        out = λ h b t w d. d;
        into = λ h b t w d. d;
        high = λ x u. refl;
        tall_is = λ k x w i d. let a = Q.part.least k x w i d in let b = Q.part.lowest k x w i d in omega arith;
        over = λ x. omega arith;
        room = λ x. omega arith;
        low = omega arith;
        base_stop = λ k t w o d. stops_with inner_goes (just COLON) (is COLON) (is_just plain_fix COLON) o;
        step_stop = λ x u o. stops_with inner_goes (just COLON) (is COLON) (is_just plain_fix COLON) o;
        base_next = λ x c r e. word_halts COLON inner_goes refl c e;
        step_next = λ x u c r e. word_halts COLON inner_goes refl c e;
      })

      pat_now : PatP fix s n → Phrase s n 1 (λ k. pat_form (typed_form (row_base k) (TyR k) (TypedR fix k)) (PatR fix k)) (λ k. pat_level (typed_level (row_base_read k) (ty_in k) k.height) (pat_in fix k) k.height) (λ t. stops pat_goes) height_of 1 0 (begins_at fix) 1
      pat_now P = standing typed_now (past_word AS P.part) is_bare 2 layer_of (record {
        high = λ x u. refl;
        enough = omega arith;
        room = omega arith;
        base_stop = λ k t w o d. stops_with typed_goes (just AS) (is AS) (is_just plain_fix AS) o;
        step_stop = λ x u o. refl;
        base_next = λ x c r e. word_halts AS typed_goes refl c e;
      })

-- ---- all levels

module _ (fix : Settings) where
  name_knot : Knot (NameR fix) (λ k. NameD fix) (name_in fix) (λ k. name_level fix) (begins_name fix)
  unfolding name_on name_read
  name_knot = record { none = λ b t w d. d; out = λ h b t w d. d; into = λ h b t w d. d; empty = λ b v. refl; next = λ h b v. refl }

  other_knot : Knot (OtherR fix) (λ k. other_form (FieldR fix k) (PatR fix k)) (other_in fix) (λ k. other_level fix (field_at fix k) (pat_in fix k) k.height) begins_other
  unfolding other_on other_read
  other_knot = record { none = λ b t w d. d; out = λ h b t w d. d; into = λ h b t w d. d; empty = λ b v. refl; next = λ h b v. refl }

  at_knot : Knot (AtR fix) (λ k. at_form fix (FieldR fix k) (PatR fix k)) (at_in fix) (λ k. at_level fix (field_at fix k) (pat_in fix k) k.height) (begins_at fix)
  unfolding at_on at_read
  at_knot = record { none = λ b t w d. d; out = λ h b t w d. d; into = λ h b t w d. d; empty = λ b v. refl; next = λ h b v. refl }

  field_knot : Knot (FieldR fix) (λ k. field_form fix (TyR k) (PatR fix k)) (field_at fix) (λ k. field_level fix (ty_in k) (pat_in fix k) k.height) (begins_field fix)
  unfolding field_on field_read
  field_knot = record { none = λ b t w d. d; out = λ h b t w d. d; into = λ h b t w d. d; empty = λ b v. refl; next = λ h b v. refl }

  row_knot : (m : Floor) → Knot (Standing (tight fix) (right fix) (infix_vid fix) top (at_least 2) operand_of infix_of (RowR fix) m)
      (Level (tight fix) (right fix) (infix_vid fix) top (at_least 2) operand_of infix_of (λ k. OperandD (NameR fix k) (AtR fix k) (OtherR fix k)) (RowR fix) m) (λ k. row_in fix k m)
      (λ k. row_level fix k.clashes (operand_read fix (name_in fix k) (at_in fix k) (other_in fix k) k.height) (row_in fix k) k.height m) (begins_at fix)
  unfolding row_on row_read
  row_knot m = record { none = λ b t w d. d.1; out = λ h b t w d. d; into = λ h b t w d. d; empty = λ b v. refl; next = λ h b v. refl }

  typed_knot : Knot (TypedR fix) (λ k. typed_form (row_form k.clashes fix (NameR fix k) (AtR fix k) (OtherR fix k) (RowR fix k)) (TyR k) (TypedR fix k)) (typed_in fix)
      (λ k. typed_level (row_level fix k.clashes (operand_read fix (name_in fix k) (at_in fix k) (other_in fix k) k.height) (row_in fix k) k.height ground) (ty_in k) k.height) (begins_at fix)
  unfolding typed_on typed_read
  typed_knot = record { none = λ b t w d. d; out = λ h b t w d. d; into = λ h b t w d. d; empty = λ b v. refl; next = λ h b v. refl }

  pat_knot : Knot (PatR fix) (λ k. pat_form (typed_form (row_form k.clashes fix (NameR fix k) (AtR fix k) (OtherR fix k) (RowR fix k)) (TyR k) (TypedR fix k)) (PatR fix k)) (pat_in fix)
      (λ k. pat_level (typed_level (row_level fix k.clashes (operand_read fix (name_in fix k) (at_in fix k) (other_in fix k) k.height) (row_in fix k) k.height ground) (ty_in k) k.height) (pat_in fix k) k.height) (begins_at fix)
  unfolding pat_on pat_read
  pat_knot = record { none = λ b t w d. d; out = λ h b t w d. d; into = λ h b t w d. d; empty = λ b v. refl; next = λ h b v. refl }

  abbrev All : Known → ℕ → Type 0
  All s n = NameP fix s n × OtherP fix s n × AtP fix s n × FieldP fix s n × RowP fix s n × TypedP fix s n × PatP fix s n

  tower : Tower All
  tower = record {
    sizes = (lowest_sizes name_knot, lowest_sizes other_knot, lowest_sizes at_knot, lowest_sizes field_knot, λ m. lowest_sizes (row_knot m), lowest_sizes typed_knot, lowest_sizes pat_knot);
    readings = λ f. (
      lowest_readings name_knot (λ m. (f m).0),
      lowest_readings other_knot (λ m. (f m).1),
      lowest_readings at_knot (λ m. (f m).2),
      lowest_readings field_knot (λ m. (f m).3),
      λ l. lowest_readings (row_knot l) (λ m. (f m).4 l),
      lowest_readings typed_knot (λ m. (f m).5),
      lowest_readings pat_knot (λ m. (f m).6),
    );
    refusals = λ f. (
      lowest_refusals name_knot (λ m. (f m).0),
      lowest_refusals other_knot (λ m. (f m).1),
      lowest_refusals at_knot (λ m. (f m).2),
      lowest_refusals field_knot (λ m. (f m).3),
      λ l. lowest_refusals (row_knot l) (λ m. (f m).4 l),
      lowest_refusals typed_knot (λ m. (f m).5),
      lowest_refusals pat_knot (λ m. (f m).6),
    );
    next = λ s n a. (
      lifted name_knot (name_now fix),
      lifted other_knot (other_now fix (ty_exact s n) a.3 a.6),
      lifted at_knot (at_now fix (ty_exact s n) a.3 a.6),
      lifted field_knot (field_now fix (ty_exact s n) a.3 a.6),
      λ l. lifted (row_knot l) (row_now fix a.0 a.2 a.1 a.4 l),
      lifted typed_knot (typed_now fix a.0 a.2 a.1 a.4 (ty_exact s n) a.5),
      lifted pat_knot (pat_now fix a.0 a.2 a.1 a.4 (ty_exact s n) a.5 a.6),
    );
  }

  -- patterns, and atomic ones, are read exactly
  pub pat_exact : (s : Known) (n : ℕ) → PatP fix s n
  pat_exact s n = (all_of All tower s n).6

  pub at_exact : (s : Known) (n : ℕ) → AtP fix s n
  at_exact s n = (all_of All tower s n).2
