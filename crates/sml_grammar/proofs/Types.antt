-- Types are read exactly.
use Rattle.std.proofs.Common.{◌≡◌, ◌⊎◌, ℕ, zero, suc, ◌+◌, ◌≤◌, max, Bool, true, false, not, ◌&&◌, List, [], ◌∷◌, ◌++◌, Option, Some, None, refl, sym, ap, ◌∙◌, arith, inl, inr}
use Rattle.readers.specs.Reader.{first, head_is, Reader, both, mapped, token_by, one, skip, close, only}
use Rattle.readers.specs.Language.{Both, That, Shows, As, Or, Skip, Close}
use Rattle.readers.specs.Room.{Room, at_height}
use Rattle.readers.specs.Exact.{always}
use Rattle.readers.specs.Forms.{Seps, seps, highest, height_of, at_least, any_tree}
use Rattle.readers.proofs.Bundle.{Known, Fitting, Part, Phrase}
use Rattle.readers.proofs.Combine.{token, skipped, phrase, pair, pair_then, made_phrase, node, sized_phrase}
use Rattle.readers.proofs.Repeat.{apart_phrase}
use Rattle.readers.proofs.Choose.{last, restopped, seps_alike}
use Rattle.readers.proofs.Grow.{growing}
use Rattle.readers.proofs.Once.{growing_once}
use Rattle.readers.proofs.Levels.{Knot, Tower, all_of, lifted, lowest_sizes, lowest_readings, lowest_refusals}
use Rattle.sml_lex.specs.declared.token.Token.{Token}
use Rattle.sml_lex.specs.declared.token.Kind.TheVariants as kind
use Rattle.sml_grammar.specs.Words.{OPEN_PAREN, CLOSE_PAREN, OPEN_BRACE, CLOSE_BRACE, COMMA, COLON, ARROW}
use Rattle.sml_grammar.specs.Tokens.{Firsts, just, union, is, the, place, among, plain_fix, tokens_of, tyvar, tyvars, tyvar_ident, lab, labels, label, long_tycon, long_tycons, long_ident, is_times, stars}
use Rattle.sml_grammar.specs.Types.{Tx, Field, Behind, behind_height, field_height, tyvar_of, con_of, fields_of, paren_of, applied, tupled, mapped_to, FieldD, BehindD, atom_form, con_form, tuple_form, ty_form, con_on, tuple_on, ty_on, ConR, TupleR, TyR}
use Rattle.sml_grammar.specs.ReadTypes.{ty_firsts, begins_ty, field_read, behind_read, atom_level, con_level, tuple_level, ty_level, con_read, tuple_read, ty_read, con_in, tuple_in, ty_in}
use Rattle.sml_grammar.proofs.Sets.{is_just, pick, pick_if}
use Rattle.sml_grammar.proofs.Shapes.{some_token, word_token, name_token, star_token, stops, halts, word_halts, stops_with, the_word, a_word, past_word, to_word, rows_of, bracketed}

-- ---- what types go on with

abbrev pub tuple_goes : Firsts
tuple_goes = union long_tycons stars

abbrev pub ty_goes : Firsts
ty_goes = union tuple_goes (just ARROW)

abbrev pub TyP : Known → ℕ → Type 0
TyP s n = Phrase s n 0 TyR ty_in (λ t. stops ty_goes) height_of 1 0 begins_ty 2

abbrev pub TupleP : Known → ℕ → Type 0
TupleP s n = Phrase s n 0 TupleR tuple_in (λ t. stops tuple_goes) height_of 1 0 begins_ty 2

abbrev pub ConP : Known → ℕ → Type 0
ConP s n = Phrase s n 0 ConR con_in (λ t. stops long_tycons) height_of 1 0 begins_ty 2

-- ---- one level

module _ {s : Known} {n : ℕ} (T : TyP s n) where
  field : Phrase s n 0 (λ k. FieldD (TyR k)) (λ k. field_read (ty_in k)) (λ x. stops ty_goes) field_height 1 1 (tokens_of labels) 1
  field = sized_phrase field_height (phrase (token (tokens_of labels) label name_token refl) (past_word COLON T.part).part) (λ x. omega arith)

  behind : Phrase s n 0 (λ k. BehindD (TyR k)) (λ k. behind_read (ty_in k)) always behind_height 0 1 (tokens_of (union (just CLOSE_PAREN) (just COMMA))) 1
  behind = pick_if plain_fix (just CLOSE_PAREN) (just COMMA) (is_just plain_fix CLOSE_PAREN) (is_just plain_fix COMMA)
      (made_phrase (λ (u : Unit {0}). Behind.Closed) behind_height always (a_word CLOSE_PAREN) (λ u. refl) (λ u o. refl))
      (made_phrase Behind.Args behind_height always
      (past_word COMMA (pair (to_word (union ty_goes (just COMMA)) CLOSE_PAREN refl (rows_of ty_goes COMMA refl T).part) (token (tokens_of long_tycons) long_ident name_token refl).part)) (λ x. omega arith) (λ x o. refl))
      (omega arith) refl

  atom : Phrase s n 1 (λ k. atom_form (TyR k)) (λ k. atom_level (ty_in k) k.height) always height_of 0 0 begins_ty 1
  atom =
      pick plain_fix tyvars (union long_tycons (union (just OPEN_BRACE) (just OPEN_PAREN))) (λ c. refl) (λ c. refl)
      (node tyvar_of height_of always (token (tokens_of tyvars) tyvar_ident (some_token (kind.Tyvar [])) refl) (λ x. refl) (λ x o. refl))
      (pick plain_fix long_tycons (union (just OPEN_BRACE) (just OPEN_PAREN)) (λ c. refl) (λ c. refl)
      (node con_of height_of always (token (tokens_of long_tycons) long_ident name_token refl) (λ x. refl) (λ x o. refl))
      (pick plain_fix (just OPEN_BRACE) (just OPEN_PAREN) (is_just plain_fix OPEN_BRACE) (is_just plain_fix OPEN_PAREN)
      (node fields_of height_of always (phrase (the_word OPEN_BRACE) (bracketed ty_goes plain_fix labels COMMA CLOSE_BRACE (λ c. refl) (omega arith) refl refl refl refl field)) (λ x. omega arith) (λ x o. refl))
      (last (node paren_of height_of always (phrase (the_word OPEN_PAREN) (pair_then T.part behind (λ t c e. behind_halts c e))) (λ x. omega arith) (λ x o. refl)) (omega arith))
      (omega arith) (omega arith) refl)
      (omega arith) (omega arith) refl)
      (omega arith) (omega arith) refl
    where
      behind_halts : (c : Token) → tokens_of (union (just CLOSE_PAREN) (just COMMA)) c ≡ true → stops ty_goes (Some c) ≡ true
      behind_halts c e = halts plain_fix (union (just CLOSE_PAREN) (just COMMA)) ty_goes (tokens_of (union (just CLOSE_PAREN) (just COMMA))) (λ c. refl) refl c e

  module _ (C : ConP s n) where
    con_now : Phrase s n 1 (λ k. con_form (TyR k) (ConR k)) (λ k. con_level (ty_in k) k.height) (λ t. stops long_tycons) height_of 0 0 begins_ty 1
    unfolding con_on
    con_now = growing atom (token (tokens_of long_tycons) long_ident name_token refl) C any_tree height_of applied (record {
      none = λ b t w d. d;
      out = λ h b t w d. d;
      into = λ h b t w d. d;
      high = λ x u. omega arith;
      tall_is = λ k x w i d. let a = C.part.least k x w i d in omega arith;
      over = λ x. omega arith;
      room = λ x. omega arith;
      low = omega arith;
      base_stop = λ k t w o d. refl;
      step_stop = λ x u o. refl;
      base_next = λ x c r e. refl;
      step_next = λ x u c r e. refl;
    })

    times : Phrase s n 0 (λ k. Skip is_times (Seps is_times (ConR k))) (λ k. skip is_times (seps is_times (con_in k))) (λ t. stops tuple_goes) (highest height_of) 1 1 is_times 1
    times =
        let all = apart_phrase is_times star_token refl C (λ t c i. halts plain_fix stars long_tycons is_times (λ c. refl) refl c i) in
        skipped is_times star_token refl (restopped (λ t. stops tuple_goes) all.part
        (λ k t w o d. seps_alike is_times (stops long_tycons) (ConR k) t w o d ∙ sym (stops_with long_tycons stars is_times (λ c. refl) o)))

    tuple_now : Phrase s n 1 (λ k. tuple_form (TyR k) (ConR k)) (λ k. tuple_level (ty_in k) (con_in k) k.height) (λ t. stops tuple_goes) height_of 0 0 begins_ty 1
    unfolding con_on
    tuple_now = growing_once con_now times C any_tree (at_least 1) tupled (record {
      none = λ b t w d. d;
      out = λ h b t w d. d;
      into = λ h b t w d. d;
      high = λ x u. omega arith;
      tall_is = λ k x w i d. let a = C.part.least k x w i d in let b = C.part.lowest k x w i d in omega arith;
      over = λ x. omega arith;
      room = λ x. omega arith;
      low = omega arith;
      base_stop = λ k t w o d. stops_with long_tycons stars is_times (λ c. refl) o;
      step_stop = λ x u o. refl;
      base_next = λ x c r e. halts plain_fix stars long_tycons is_times (λ c. refl) refl c e;
    })

    ty_now : TupleP s n → Phrase s n 1 (λ k. ty_form (TyR k) (ConR k) (TupleR k)) (λ k. ty_level (ty_in k) (con_in k) k.height) (λ t. stops ty_goes) height_of 0 0 begins_ty 1
    unfolding con_on tuple_on
    ty_now U = growing_once tuple_now (past_word ARROW T.part) U any_tree (at_least 1) mapped_to (record {
      none = λ b t w d. d;
      out = λ h b t w d. d;
      into = λ h b t w d. d;
      high = λ x u. refl;
      tall_is = λ k x w i d. let a = U.part.least k x w i d in let b = U.part.lowest k x w i d in omega arith;
      over = λ x. omega arith;
      room = λ x. omega arith;
      low = omega arith;
      base_stop = λ k t w o d. stops_with tuple_goes (just ARROW) (is ARROW) (is_just plain_fix ARROW) o;
      step_stop = λ x u o. refl;
      base_next = λ x c r e. word_halts ARROW tuple_goes refl c e;
    })

-- ---- all levels

con_knot : Knot ConR (λ k. con_form (TyR k) (ConR k)) con_in (λ k. con_level (ty_in k) k.height) begins_ty
unfolding con_on con_read
con_knot = record { none = λ b t w d. d; out = λ h b t w d. d; into = λ h b t w d. d; empty = λ b v. refl; next = λ h b v. refl }

tuple_knot : Knot TupleR (λ k. tuple_form (TyR k) (ConR k)) tuple_in (λ k. tuple_level (ty_in k) (con_in k) k.height) begins_ty
unfolding tuple_on tuple_read
tuple_knot = record { none = λ b t w d. d; out = λ h b t w d. d; into = λ h b t w d. d; empty = λ b v. refl; next = λ h b v. refl }

ty_knot : Knot TyR (λ k. ty_form (TyR k) (ConR k) (TupleR k)) ty_in (λ k. ty_level (ty_in k) (con_in k) k.height) begins_ty
unfolding ty_on ty_read
ty_knot = record { none = λ b t w d. d; out = λ h b t w d. d; into = λ h b t w d. d; empty = λ b v. refl; next = λ h b v. refl }

abbrev All : Known → ℕ → Type 0
All s n = ConP s n × TupleP s n × TyP s n

tower : Tower All
tower = record {
  sizes = (lowest_sizes con_knot, lowest_sizes tuple_knot, lowest_sizes ty_knot);
  readings = λ f. (lowest_readings con_knot (λ m. (f m).0), lowest_readings tuple_knot (λ m. (f m).1), lowest_readings ty_knot (λ m. (f m).2));
  refusals = λ f. (lowest_refusals con_knot (λ m. (f m).0), lowest_refusals tuple_knot (λ m. (f m).1), lowest_refusals ty_knot (λ m. (f m).2));
  next = λ s n a. (lifted con_knot (con_now a.2 a.0), lifted tuple_knot (tuple_now a.2 a.0), lifted ty_knot (ty_now a.2 a.0 a.1));
}

-- types are read exactly
pub ty_exact : (s : Known) (n : ℕ) → TyP s n
ty_exact s n = (all_of All tower s n).2
