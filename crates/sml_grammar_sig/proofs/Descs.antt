-- Descriptions of types, datatypes and exceptions are read exactly.
use Rattle.std.proofs.Common.{◌≡◌, ℕ, max, Bool, true, not, ◌&&◌, List, Option, Some, None, refl, ap, ◌∙◌, arith}
use Rattle.readers.specs.Reader.{head_is, Reader, token_by, skip}
use Rattle.readers.specs.Language.{Shows, Skip, Both, Or, As, Row}
use Rattle.readers.specs.Room.{Room}
use Rattle.readers.specs.Exact.{always}
use Rattle.readers.specs.Forms.{highest, height_of, ended}
use Rattle.readers.specs.Forms.{cons_of as joined}
use Rattle.readers.proofs.Bundle.{Known, Phrase}
use Rattle.readers.proofs.Combine.{token, phrase, pair, pair_opens, made, made_opens, made_phrase, node}
use Rattle.readers.proofs.Repeat.{rows}
use Rattle.readers.proofs.Choose.{last, perhaps, ends_phrase, maybe_stop}
use Rattle.readers.proofs.Grow.{two_are}
use Rattle.readers.proofs.Levels.{Knot, Tower, all_of, lifted, lowest_sizes, lowest_readings, lowest_refusals}
use Rattle.sml_lex.specs.declared.token.Token.{Token}
use Rattle.sml_grammar.specs.Words.{AND, BAR, DATATYPE, EQUALS, OF}
use Rattle.sml_grammar.specs.Tokens.{Firsts, just, union, is, plain_fix, tokens_of, ident, long_ident, names, long_tycon, long_tycons, tycon, tycons}
use Rattle.sml_grammar.specs.Types.{Ident, Tx, TyR}
use Rattle.sml_grammar.specs.ReadTypes.{ty_in}
use Rattle.sml_grammar.proofs.Sets.{is_just, pick}
use Rattle.sml_grammar.proofs.Shapes.{name_token, stops, word_halts, past_word, rows_of}
use Rattle.sml_grammar.proofs.Joined.{narrow, within}
use Rattle.sml_grammar.proofs.Types.{TyP, ty_exact, ty_goes}
use Rattle.sml_grammar_sig.specs.Descs.{VarsD, NamedD, named_of, Re, RealBindD, real_bind_of, real_bind_on, RealBindR, ConD, con_of, Cs, ConsD, cons_of, cons_on, ConsR, DescD, desc_of, Many}
use Rattle.sml_grammar_sig.specs.ReadDescs.{con_goes, begins_con, vars_begin, many_read, named_read, begins_real, real_bind_level, con_read, cons_level, desc_read, descs_read, right_read, data_read, cons_read, real_bind_read, Descs, descs_height, Data, data_height, Right, right_height, right_of, vars_data}
use Rattle.sml_grammar_exp.proofs.Parts.{numbered, numbered_phrase, pair_row}
pub use Rattle.sml_grammar_exp.proofs.Binds.{flat, all_flat, tybind}
use Rattle.sml_grammar_exp.proofs.Binds.{opt_is, behind_vars, under}

-- ---- one or more

module _ {T : Type 0} {s : Known} {n : ℕ} {D : Room → T → List Token → Type 0} {p : Room → Reader Token T} {td : T → ℕ} {ld nd ed : ℕ} {test : Token → Bool} (P : Phrase s n 0 D p always td ld nd test ed) where
  pub many : Phrase s n 0 (λ k. Many (D k)) (λ k. many_read test (p k)) (λ t o. not (head_is test o)) (highest td) (max ld 0) (max nd (max nd 0)) test (max ed 0)
  many = record { part = made joined (highest td) (λ t o. not (head_is test o)) (pair_row P.part P (λ c e. refl)) (λ x. refl) (λ x o. refl); opening = made_opens joined (pair_opens P.opening (rows P (λ t c e. refl))) }

-- ---- names of types

abbrev pub named_firsts : Firsts
named_firsts = union vars_begin tycons

pub a_tycon : {s : Known} {n : ℕ} → Phrase s n 0 (λ k. Shows tycon) (λ k. token_by tycon) always flat 0 0 (tokens_of tycons) 0
a_tycon = token (tokens_of tycons) ident name_token refl

pub named : {s : Known} {n : ℕ} → Phrase s n 0 (λ k. NamedD) (λ k. named_read) always flat 0 0 (tokens_of named_firsts) 0
named = made_phrase named_of flat always (under plain_fix tycons (λ c. refl) refl a_tycon) (λ x. refl) (λ x o. refl)

module _ {s : Known} {n : ℕ} (T : TyP s n) where
  real_now : Phrase s n 1 (λ k. RealBindD (TyR k)) (λ k. real_bind_level (ty_in k) k.height) (λ t. stops ty_goes) height_of 1 0 begins_real 1
  real_now = last (node real_bind_of height_of (λ t. stops ty_goes)
      (under plain_fix long_tycons (λ c. refl) refl (phrase (token (tokens_of long_tycons) long_ident name_token refl) (past_word EQUALS T.part).part)) (λ x. omega arith) (λ x o. refl)) (omega arith)

  -- ---- constructors and exceptions

  pub con : Phrase s n 0 (λ k. ConD (TyR k)) (λ k. con_read (ty_in k) k.height) (λ t. stops con_goes) height_of 0 0 begins_con 0
  con = made_phrase con_of height_of (λ t. stops con_goes)
      (ends_phrase (tokens_of con_goes) (phrase (token (tokens_of names) ident name_token refl) (perhaps (past_word OF T.part) (omega arith))) (λ k t w o i d e. over t.1 o e))
      (λ x. let a = opt_is x.1 in omega arith) (λ x o. refl)
    where
      over : (t : Option Tx) (o : Option Token) → stops con_goes o ≡ true → maybe_stop (is OF) (λ (t : Tx). stops ty_goes) t o ≡ true
      over None None e = refl
      over None (Some c) e = ap not (is_just plain_fix OF c) ∙ narrow plain_fix (just OF) con_goes refl (Some c) e
      over (Some t) o e = narrow plain_fix ty_goes con_goes refl o e

  cons_now : Phrase s n 1 (λ k. ConsD (TyR k)) (λ k. cons_level (ty_in k) k.height) (λ t. stops (union con_goes (just BAR))) height_of 0 0 begins_con 0
  cons_now = numbered_phrase 0 0 0 (node cons_of height_of (λ t. stops (union con_goes (just BAR))) (rows_of con_goes BAR refl con) (λ x. refl) (λ x o. refl)) (omega arith) (omega arith) (omega arith) (omega arith)

-- ---- all heights

abbrev pub cons_goes : Firsts
cons_goes = union con_goes (just BAR)

-- the readers in a room
abbrev pub cons_in : Room → Reader Token Cs
cons_in r = cons_read r.height

abbrev pub real_bind_in : Room → Reader Token Re
real_bind_in r = real_bind_read r.height

abbrev pub ConsP : Known → ℕ → Type 0
ConsP s n = Phrase s n 0 ConsR cons_in (λ t. stops cons_goes) height_of 1 0 begins_con 1

abbrev pub RealBindP : Known → ℕ → Type 0
RealBindP s n = Phrase s n 0 RealBindR real_bind_in (λ t. stops ty_goes) height_of 2 0 begins_real 2

cons_knot : Knot ConsR (λ k. ConsD (TyR k)) cons_in (λ k. cons_level (ty_in k) k.height) begins_con
unfolding cons_on cons_read
cons_knot = record { none = λ b t w d. d; out = λ h b t w d. d; into = λ h b t w d. d; empty = λ b v. refl; next = λ h b v. refl }

real_knot : Knot RealBindR (λ k. RealBindD (TyR k)) real_bind_in (λ k. real_bind_level (ty_in k) k.height) begins_real
unfolding real_bind_on real_bind_read
real_knot = record { none = λ b t w d. d; out = λ h b t w d. d; into = λ h b t w d. d; empty = λ b v. refl; next = λ h b v. refl }

abbrev All : Known → ℕ → Type 0
All s n = ConsP s n × RealBindP s n

tower : Tower All
tower = record {
  sizes = (lowest_sizes cons_knot, lowest_sizes real_knot);
  readings = λ f. (lowest_readings cons_knot (λ m. (f m).0), lowest_readings real_knot (λ m. (f m).1));
  refusals = λ f. (lowest_refusals cons_knot (λ m. (f m).0), lowest_refusals real_knot (λ m. (f m).1));
  next = λ s n a. (lifted cons_knot (cons_now (ty_exact s n)), lifted real_knot (real_now (ty_exact s n)));
}

pub cons_exact : (s : Known) (n : ℕ) → ConsP s n
cons_exact s n = (all_of All tower s n).0

pub real_bind_exact : (s : Known) (n : ℕ) → RealBindP s n
real_bind_exact s n = (all_of All tower s n).1

-- ---- datatypes

-- {and DatDesc} behind the first description
abbrev pub DescsD : (Cs → List Token → Type 0) → Descs Cs → List Token → Type 0
DescsD C = Both C (Row (Skip (is AND) (DescD C)))

-- datatype longtycon  |  {vid [of Ty]}/| {and DatDesc}
abbrev pub RightD : (Cs → List Token → Type 0) → Right → List Token → Type 0
RightD C = Or (As Right.Copies (Skip (is DATATYPE) (Shows long_tycon))) (As Right.Cons (DescsD C))

-- tycon = and one of these  |  tyvarseq tycon = and the second
abbrev pub DataD : (Cs → List Token → Type 0) → Data → List Token → Type 0
DataD C =
    Or (As right_of (Both (Shows tycon) (Skip (is EQUALS) (RightD C))))
    (As vars_data (VarsD (Both (Shows tycon) (Skip (is EQUALS) (DescsD C)))))

-- what stops a phrase that may go on with the tokens of a set
abbrev pub open_stop : {T : Type 0} → Firsts → T → Option Token → Bool
open_stop goes t = stops goes

module _ {s : Known} {n : ℕ} (goes : Firsts) (wide : within cons_goes goes ≡ true) (ands : within (just AND) goes ≡ true) (C : ConsP s n) where
  desc : Phrase s n 0 (λ k. DescD (ConsR k)) (λ k. desc_read (cons_in k)) (λ t. stops cons_goes) height_of 1 1 (tokens_of named_firsts) 1
  desc = made_phrase desc_of height_of (λ t. stops cons_goes) (under plain_fix tycons (λ c. refl) refl (phrase a_tycon (past_word EQUALS C.part).part)) (λ x. omega arith) (λ x o. refl)

  further : Phrase s n 0 (λ k. Skip (is AND) (DescD (ConsR k))) (λ k. skip (is AND) (desc_read (cons_in k))) (λ t. stops cons_goes) height_of 1 1 (is AND) 1
  further = past_word AND desc.part

  descs : Phrase s n 0 (λ k. DescsD (ConsR k)) (λ k. descs_read (cons_in k)) (λ x o. stops cons_goes o && not (head_is (is AND) o)) descs_height 1 1 begins_con 1
  descs = record {
    part = numbered 1 1 (pair_row C.part further (λ c e. word_halts AND cons_goes refl c e)) (omega arith) (omega arith) (omega arith);
    opening = pair_opens C.opening (rows further (λ t c e. word_halts AND cons_goes refl c e));
  }

  all_descs : Phrase s n 0 (λ k. DescsD (ConsR k)) (λ k. ended (tokens_of goes) (descs_read (cons_in k))) (open_stop goes) descs_height 1 1 begins_con 1
  all_descs = ends_phrase (tokens_of goes) descs (λ k t w o i d e. two_are _ _ (narrow plain_fix cons_goes goes wide o e) (no_and o e))
    where
      no_and : (o : Option Token) → stops goes o ≡ true → not (head_is (is AND) o) ≡ true
      no_and None e = refl
      no_and (Some c) e = ap not (is_just plain_fix AND c) ∙ narrow plain_fix (just AND) goes ands (Some c) e

  right_now : Phrase s n 0 (λ k. RightD (ConsR k)) (λ k. right_read goes (cons_in k) k.height) (open_stop goes) right_height 0 0 (tokens_of (union (just DATATYPE) names)) 1
  right_now = pick plain_fix (just DATATYPE) names (is_just plain_fix DATATYPE) (λ c. refl)
      (made_phrase Right.Copies right_height (open_stop goes) (ends_phrase (tokens_of goes) (past_word DATATYPE copied.part) (λ k t w o i d e. refl)) (λ x. refl) (λ x o. refl))
      (last (made_phrase Right.Cons right_height (open_stop goes) all_descs (λ x. refl) (λ x o. refl)) (omega arith))
      (omega arith) (omega arith) refl
    where
      copied : Phrase s n 0 (λ k. Shows long_tycon) (λ k. token_by long_tycon) always flat 0 0 (tokens_of long_tycons) 0
      copied = token (tokens_of long_tycons) long_ident name_token refl

  data_tall : (t : Ident) (x : Right) → data_height (right_of (t, x)) ≡ right_height x
  data_tall t (Right.Copies c) = refl
  data_tall t (Right.Cons x) = refl

  pub data_now : Phrase s n 0 (λ k. DataD (ConsR k)) (λ k. data_read goes (cons_in k) k.height) (open_stop goes) data_height 0 0 (tokens_of (union tycons vars_begin)) 1
  data_now = pick plain_fix tycons vars_begin (λ c. refl) (λ c. refl)
      (made_phrase right_of data_height (open_stop goes) (phrase a_tycon (past_word EQUALS right_now.part).part) (λ x. let a = data_tall x.0 x.1 in omega arith) (λ x o. refl))
      (last (made_phrase vars_data data_height (open_stop goes) (behind_vars (pair a_tycon.part (past_word EQUALS all_descs.part).part)) (λ x. omega arith) (λ x o. refl)) (omega arith))
      (omega arith) (omega arith) refl
