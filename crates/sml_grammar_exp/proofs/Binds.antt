-- Bindings of types, datatypes and exceptions are read exactly.
use Rattle.std.proofs.Common.{◌≡◌, ℕ, max, Bool, true, not, ◌||◌, List, [], ◌∷◌, Option, Some, None, refl, sym, ap, ◌∙◌, arith}
use Rattle.readers.specs.Reader.{Reader, mapped, token_by, close}
use Rattle.readers.specs.Language.{Shows, As, Close}
use Rattle.readers.specs.Room.{Room}
use Rattle.readers.specs.Exact.{always, row_stop}
use Rattle.readers.specs.Forms.{highest, height_of, Seps, seps}
use Rattle.readers.proofs.Bundle.{Known, Part, Phrase}
use Rattle.readers.proofs.Combine.{token, phrase, pair, made_phrase, node, sized_phrase, shown_test, not_shown}
use Rattle.readers.proofs.First.{shows_begins}
use Rattle.readers.proofs.Repeat.{apart_phrase}
use Rattle.readers.proofs.Choose.{last, retested, closed_phrase, perhaps, option, ends_phrase, maybe_stop, maybe_tall}
use Rattle.readers.proofs.Row.{not_false, row_stop_alone}
use Rattle.readers.proofs.Levels.{Knot, Tower, all_of, lifted, lowest_sizes, lowest_readings, lowest_refusals}
use Rattle.sml_lex.specs.declared.token.Token.{Token}
use Rattle.sml_lex.specs.declared.token.Kind.TheVariants as kind
use Rattle.sml_fix.specs.Fixities.{Settings}
use Rattle.sml_grammar.specs.Words.{BAR, CLOSE_PAREN, COMMA, EQUALS, OF, OP, OPEN_PAREN}
use Rattle.sml_grammar.specs.Tokens.{Firsts, just, union, is, among, plain_fix, tokens_of, ident, tyvar, tyvars, tyvar_ident, tycons, vid, op_names, plain_names, plain_long_names, op_long_names, long_ident}
use Rattle.sml_grammar.specs.Types.{Tx, TyR}
use Rattle.sml_grammar.specs.ReadTypes.{ty_in}
use Rattle.sml_grammar.specs.Pats.{NameD, bare_of, op_of as op_long, opt_height}
use Rattle.sml_grammar.specs.ReadPats.{begins_name, name_level}
use Rattle.std.specs.Prelude.{codes}
use Rattle.sml_grammar.proofs.Sets.{is_just, apart_is, apart_here, apart_here_is, among_union, pick_if}
use Rattle.sml_grammar.proofs.Shapes.{some_token, word_token, name_token, word_is, stops, the_word, past_word, rows_of}
use Rattle.sml_grammar.proofs.Joined.{narrow, steady, scant, beside_scant}
use Rattle.sml_grammar.proofs.Types.{TyP, ty_exact, ty_goes}
use Rattle.sml_grammar_exp.specs.Binds.{VarsD, UnderD, some_vars, one_var, with_vars, no_vars, under_height, TyBindD, tybind_of, VidD, plain_of, op_of, ConD, con_of, Cs, ConsD, cons_of, cons_on, ConsR, DatBindD, datbind_of, Given, GivenD, given_height, Xb, ExBindD, exbind_of, exbind_on, ExBindR}
use Rattle.sml_grammar_exp.specs.ReadBinds.{con_goes, exn_goes, begins_vid, vars_read, vars_begin, begins_vars, under_read, tybind_read, vid_read, con_read, cons_level, datbind_read, given_read, begins_given, exbind_level, cons_read, exbind_read}
use Rattle.sml_grammar_exp.proofs.Parts.{numbered_phrase}

pub opt_is : {T : Type 0} (x : Option (T × ℕ)) → opt_height x ≡ maybe_tall height_of x
opt_is None = refl
opt_is (Some x) = refl

-- ---- type variables

abbrev pub flat : {T : Type 0} → T → ℕ
flat x = 0

pub all_flat : {T : Type 0} (xs : List T) → highest flat xs ≡ 0
all_flat [] = refl
all_flat (x ∷ xs) = let e = all_flat xs in omega arith

alone_halts : {T : Type 0} (ts : List T) (c : Token) → is CLOSE_PAREN c ≡ true → row_stop (is COMMA) always ts (Some c) ≡ true
alone_halts ts c i = row_stop_alone (is COMMA) ts (Some c) ∙ not_false (is COMMA c) (is_just plain_fix COMMA c ∙ apart_is plain_fix plain_fix (just CLOSE_PAREN) (just COMMA) refl c (sym (is_just plain_fix CLOSE_PAREN c) ∙ i))

pub a_tyvar : {s : Known} {n : ℕ} → Phrase s n 0 (λ k. Shows tyvar) (λ k. token_by tyvar) always flat 0 0 (tokens_of tyvars) 0
a_tyvar = token (tokens_of tyvars) tyvar_ident (some_token (kind.Tyvar [])) refl

pub listed_vars : {s : Known} {n : ℕ} → Phrase s n 0 (λ k. Close (Seps (is COMMA) (Shows tyvar)) (is CLOSE_PAREN)) (λ k. close (seps (is COMMA) (token_by tyvar)) (is CLOSE_PAREN)) always flat 0 0 (tokens_of tyvars) 0
listed_vars =
    let all = closed_phrase (is CLOSE_PAREN) (word_token CLOSE_PAREN) (word_is CLOSE_PAREN) (apart_phrase (is COMMA) (word_token COMMA) (word_is COMMA) a_tyvar (λ t c i. refl)) (λ t c i. alone_halts t c i) in
    numbered_phrase 0 0 0 (sized_phrase flat all (λ t. all_flat t)) (omega arith) (omega arith) (omega arith) (omega arith)

module _ {X : Type 0} {s : Known} {n : ℕ} {D : Room → X → List Token → Type 0} {p : Room → Reader Token X} {sd : X → Option Token → Bool} {td : X → ℕ} {ld nd : ℕ} (P : Part s n 0 D p sd td ld nd) where
  -- what follows type variables
  pub behind_vars : Phrase s n 0 (λ k. VarsD (D k)) (λ k. vars_read (p k)) (λ x. sd x.1) (λ x. td x.1) ld (max ld nd) begins_vars ld
  behind_vars = numbered_phrase ld (max ld nd) ld
      (pick_if plain_fix (just OPEN_PAREN) tyvars (is_just plain_fix OPEN_PAREN) (λ c. refl)
      (made_phrase some_vars (λ x. td x.1) (λ x. sd x.1) (phrase (the_word OPEN_PAREN) (pair listed_vars.part P)) (λ x. omega arith) (λ x o. refl))
      (made_phrase one_var (λ x. td x.1) (λ x. sd x.1) (phrase a_tyvar P) (λ x. omega arith) (λ x o. refl))
      (omega arith) refl) (omega arith) (omega arith) (omega arith) (omega arith)

-- what type variables may stand before, which does not begin as they do
module _ {X : Type 0} {s : Known} {n : ℕ} {D : Room → X → List Token → Type 0} {p : Room → Reader Token X} {sd : X → Option Token → Bool} {td : X → ℕ} {ld nd : ℕ} (fix : Settings) (set : Firsts) {test : Token → Bool} {ed : ℕ}
    (same : (c : Token) → test c ≡ among fix set c) (other : apart_here set vars_begin ≡ true) (P : Phrase s n 0 D p sd td ld nd test ed) where
  pub under : Phrase s n 0 (λ k. UnderD (D k)) (λ k. under_read (p k)) (λ x. sd x.1) (under_height td) ld (max ld nd) (among fix (union vars_begin set)) (max ld ed)
  under = numbered_phrase ld (max ld nd) (max ld ed)
      (pick_if fix vars_begin set (steady plain_fix fix vars_begin refl refl refl) same
      (made_phrase with_vars (under_height td) (λ x. sd x.1) (behind_vars P.part) (λ x. refl) (λ x o. refl))
      (made_phrase no_vars (under_height td) (λ x. sd x.1) P (λ x. refl) (λ x o. refl))
      (omega arith) other) (omega arith) (omega arith) (omega arith) (omega arith)

-- ---- what follows the name of an exception

abbrev given_stop : Given → Option Token → Bool
given_stop (Given.Of t) o = stops ty_goes o
given_stop (Given.Same x) o = true

abbrev given_tall : Given → ℕ
given_tall (Given.Of t) = t.1
given_tall (Given.Same x) = 0

given_is : (x : Option Given) → given_height x ≡ maybe_tall given_tall x
given_is None = refl
given_is (Some (Given.Of t)) = refl
given_is (Some (Given.Same x)) = refl

-- ---- types

module _ {s : Known} {n : ℕ} (T : TyP s n) where
  pub tybind : Phrase s n 0 (λ k. TyBindD (TyR k)) (λ k. tybind_read (ty_in k)) (λ t. stops ty_goes) height_of 1 1 (tokens_of (union vars_begin tycons)) 1
  tybind = made_phrase tybind_of height_of (λ t. stops ty_goes)
      (under plain_fix tycons (λ c. refl) refl (phrase (token (tokens_of tycons) ident name_token refl) (past_word EQUALS T.part).part)) (λ x. omega arith) (λ x o. refl)

-- ---- names of constructors and exceptions

module _ (fix : Settings) {s : Known} {n : ℕ} where
  plain_vid : (c : Token) × (among fix plain_names c ≡ true) → Phrase s n 0 (λ k. As plain_of (Shows (vid fix))) (λ k. mapped plain_of (token_by (vid fix))) always flat 0 0 (among fix plain_names) 0
  plain_vid c = made_phrase plain_of flat always (token (among fix plain_names) ident c.0 c.1) (λ x. refl) (λ x o. refl)

  pub vids : Phrase s n 0 (λ k. VidD fix) (λ k. vid_read fix) always flat 0 0 (begins_vid fix) 0
  vids = retested (begins_vid fix)
      (beside_scant (made_phrase op_of flat always (phrase (the_word OP) (token (tokens_of op_names) ident name_token refl).part) (λ x. omega arith) (λ x o. refl))
      (scant (λ c e. (c, e)) plain_vid
      (λ k t w d. shows_begins (vid fix) (among fix plain_names) (shown_test (among fix plain_names) ident) d.0 w d.2)
      (λ k v e. rw (not_shown (among fix plain_names) ident v e) refl))
      (omega arith) (λ c e. is_just fix OP c ∙ apart_here_is fix plain_names (just OP) refl c e))
      (λ c. ap (λ (x : Bool). x || among fix plain_names c) (is_just fix OP c) ∙ sym (among_union fix (just OP) plain_names c))

  -- ---- constructors

  con : TyP s n → Phrase s n 0 (λ k. ConD fix (TyR k)) (λ k. con_read fix (ty_in k) k.height) (λ t. stops con_goes) height_of 0 0 (begins_vid fix) 0
  con T = made_phrase con_of height_of (λ t. stops con_goes)
      (ends_phrase (tokens_of con_goes) (phrase vids (perhaps (past_word OF T.part) (omega arith))) (λ k t w o i d e. over t.1 o e))
      (λ x. let a = opt_is x.1 in omega arith) (λ x o. refl)
    where
      over : (t : Option Tx) (o : Option Token) → stops con_goes o ≡ true → maybe_stop (is OF) (λ (t : Tx). stops ty_goes) t o ≡ true
      over None None e = refl
      over None (Some c) e = ap not (is_just plain_fix OF c) ∙ narrow plain_fix (just OF) con_goes refl (Some c) e
      over (Some t) o e = narrow plain_fix ty_goes con_goes refl o e

  cons_now : TyP s n → Phrase s n 1 (λ k. ConsD fix (TyR k)) (λ k. cons_level fix (ty_in k) k.height) (λ t. stops (union con_goes (just BAR))) height_of 0 0 (begins_vid fix) 0
  cons_now T = numbered_phrase 0 0 0 (node cons_of height_of (λ t. stops (union con_goes (just BAR))) (rows_of con_goes BAR refl (con T)) (λ x. refl) (λ x o. refl)) (omega arith) (omega arith) (omega arith) (omega arith)

  -- ---- exceptions

  named : Phrase s n 0 (λ k. NameD fix) (λ k. name_level fix) always flat 0 0 (begins_name fix) 0
  named = pick_if fix plain_long_names (just OP) (λ c. refl) (is_just fix OP)
      (made_phrase bare_of flat always (token (among fix plain_long_names) long_ident (some_token (kind.Id (codes "A" ∷ codes "x" ∷ []))) refl) (λ x. refl) (λ x o. refl))
      (made_phrase op_long flat always (phrase (the_word OP) (token (tokens_of op_long_names) long_ident name_token refl).part) (λ x. omega arith) (λ x o. refl))
      (omega arith) refl

  given : TyP s n → Phrase s n 0 (λ k. GivenD fix (TyR k)) (λ k. given_read fix (ty_in k) k.height) given_stop given_tall 0 0 begins_given 1
  given T = numbered_phrase 0 0 1
      (pick_if plain_fix (just EQUALS) (just OF) (is_just plain_fix EQUALS) (is_just plain_fix OF)
      (made_phrase Given.Same given_tall given_stop (past_word EQUALS named.part) (λ x. refl) (λ x o. refl))
      (last (made_phrase Given.Of given_tall given_stop (past_word OF T.part) (λ x. refl) (λ x o. refl)) (omega arith))
      (omega arith) refl) (omega arith) (omega arith) (omega arith) (omega arith)

  exbind_now : TyP s n → Phrase s n 1 (λ k. ExBindD fix (TyR k)) (λ k. exbind_level fix (ty_in k) k.height) (λ t. stops exn_goes) height_of 0 0 (begins_vid fix) 0
  exbind_now T = node exbind_of height_of (λ t. stops exn_goes)
      (ends_phrase (tokens_of exn_goes) (phrase vids (option (given T))) (λ k t w o i d e. over t.1 o e))
      (λ x. let a = given_is x.1 in omega arith) (λ x o. refl)
    where
      over : (t : Option Given) (o : Option Token) → stops exn_goes o ≡ true → maybe_stop begins_given given_stop t o ≡ true
      over None o e = narrow plain_fix (union (just EQUALS) (just OF)) exn_goes refl o e
      over (Some (Given.Same x)) o e = refl
      over (Some (Given.Of t)) o e = narrow plain_fix ty_goes exn_goes refl o e

-- ---- all heights

abbrev pub cons_goes : Firsts
cons_goes = union con_goes (just BAR)

-- the readers in a room
abbrev pub cons_in : Settings → Room → Reader Token Cs
cons_in fix r = cons_read r.height fix

abbrev pub exbind_in : Settings → Room → Reader Token Xb
exbind_in fix r = exbind_read r.height fix

module _ (fix : Settings) where
  abbrev pub ConsP : Known → ℕ → Type 0
  ConsP s n = Phrase s n 0 (ConsR fix) (cons_in fix) (λ t. stops cons_goes) height_of 1 0 (begins_vid fix) 1

  abbrev pub ExBindP : Known → ℕ → Type 0
  ExBindP s n = Phrase s n 0 (ExBindR fix) (exbind_in fix) (λ t. stops exn_goes) height_of 1 0 (begins_vid fix) 1

  cons_knot : Knot (ConsR fix) (λ k. ConsD fix (TyR k)) (cons_in fix) (λ k. cons_level fix (ty_in k) k.height) (begins_vid fix)
  unfolding cons_on cons_read
  cons_knot = record { none = λ b t w d. d; out = λ h b t w d. d; into = λ h b t w d. d; empty = λ b v. refl; next = λ h b v. refl }

  exbind_knot : Knot (ExBindR fix) (λ k. ExBindD fix (TyR k)) (exbind_in fix) (λ k. exbind_level fix (ty_in k) k.height) (begins_vid fix)
  unfolding exbind_on exbind_read
  exbind_knot = record { none = λ b t w d. d; out = λ h b t w d. d; into = λ h b t w d. d; empty = λ b v. refl; next = λ h b v. refl }

  abbrev All : Known → ℕ → Type 0
  All s n = ConsP s n × ExBindP s n

  tower : Tower All
  tower = record {
    sizes = (lowest_sizes cons_knot, lowest_sizes exbind_knot);
    readings = λ f. (lowest_readings cons_knot (λ m. (f m).0), lowest_readings exbind_knot (λ m. (f m).1));
    refusals = λ f. (lowest_refusals cons_knot (λ m. (f m).0), lowest_refusals exbind_knot (λ m. (f m).1));
    next = λ s n a. (lifted cons_knot (cons_now fix (ty_exact s n)), lifted exbind_knot (exbind_now fix (ty_exact s n)));
  }

  pub cons_exact : (s : Known) (n : ℕ) → ConsP s n
  cons_exact s n = (all_of All tower s n).0

  pub exbind_exact : (s : Known) (n : ℕ) → ExBindP s n
  exbind_exact s n = (all_of All tower s n).1

  pub datbind : {s : Known} {n : ℕ} → ConsP s n → Phrase s n 0 (λ k. DatBindD (ConsR fix k)) (λ k. datbind_read (cons_in fix k)) (λ t. stops cons_goes) height_of 1 1 (tokens_of (union vars_begin tycons)) 1
  datbind C = made_phrase datbind_of height_of (λ t. stops cons_goes)
      (under plain_fix tycons (λ c. refl) refl (phrase (token (tokens_of tycons) ident name_token refl) (past_word EQUALS C.part).part)) (λ x. omega arith) (λ x o. refl)
