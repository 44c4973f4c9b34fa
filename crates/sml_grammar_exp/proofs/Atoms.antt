-- Atomic expressions are read exactly, where what stands inside is.
use Rattle.std.proofs.Common.{◌≡◌, ℕ, max, Bool, true, false, not, List, [], ◌∷◌, ◌++◌, Option, Some, refl, sym, ap, ◌∙◌, arith}
use Rattle.std.specs.Prelude.{pos, codes}
use Rattle.readers.specs.Reader.{first, Reader, skip, close}
use Rattle.readers.specs.Language.{Skip, Close}
use Rattle.readers.specs.Room.{Room}
use Rattle.readers.specs.Exact.{always, row_stop}
use Rattle.readers.specs.Forms.{highest, height_of, Seps, seps, Enclosed, enclosed}
use Rattle.readers.proofs.Bundle.{Known, Part, Phrase}
use Rattle.readers.proofs.Combine.{token, phrase, pair_then, pair_opens, made_phrase, node, sized_phrase}
use Rattle.readers.proofs.Repeat.{apart_phrase, bind_by}
use Rattle.readers.proofs.Choose.{last, choice_if, closed_phrase, enclosing}
use Rattle.readers.proofs.Outcome.{head_some, head-append}
use Rattle.readers.proofs.Grow.{two_are}
use Rattle.readers.proofs.Row.{not_false}
use Rattle.tl_text.specs.declared.lit.Lit.TheVariants as lit
use Rattle.sml_lex.specs.declared.token.Token.{Token}
use Rattle.sml_lex.specs.declared.token.Kind.TheVariants as kind
use Rattle.sml_fix.specs.Fixities.{Settings}
use Rattle.sml_grammar.specs.Words.{END, IN, LET, OP, OPEN_PAREN, CLOSE_PAREN, OPEN_BRACKET, CLOSE_BRACKET, OPEN_BRACE, CLOSE_BRACE, COMMA, SEMICOLON, EQUALS, HASH}
use Rattle.sml_grammar.specs.Tokens.{Firsts, just, union, is, among, plain_fix, tokens_of, label, labels, literals, literal, long_ident, plain_long_names, op_long_names}
use Rattle.sml_grammar.specs.Pats.{NameD, bare_of, op_of}
use Rattle.sml_grammar.specs.ReadPats.{name_firsts, begins_name, name_level}
use Rattle.sml_grammar.proofs.Sets.{is_just, apart, apart_is, pick, pick_if}
use Rattle.sml_grammar.proofs.Shapes.{some_token, word_token, name_token, word_is, stops, word_halts, the_word, a_word, past_word}
use Rattle.sml_grammar.proofs.Joined.{made_level, steady}
use Rattle.sml_grammar_exp.specs.Exps.{Ex, De, Behind, Inside, field_height, behind_height, inside_height, lit_of, id_of, fields_of, pick_of, items_of, paren_of, let_of, FieldD, BehindD, InsideD, LetD, at_form}
use Rattle.sml_grammar_exp.specs.ReadExps.{begins_at, exp_firsts, begins_exp, field_read, behind_read, inside_read, let_read, at_level}
use Rattle.sml_grammar_exp.specs.ReadDecs.{decs_goes}
use Rattle.sml_grammar_exp.proofs.Stops.{exp_stop, exp_halts, set_halts}

-- an identifier, or one behind `op`
pub name_now : (fix : Settings) {s : Known} {n : ℕ} → Phrase s n 1 (λ k. NameD fix) (λ k. name_level fix) always height_of 0 0 (begins_name fix) 0
name_now fix = pick_if fix plain_long_names (just OP) (λ c. refl) (is_just fix OP)
    (node bare_of height_of always (token (among fix plain_long_names) long_ident (some_token (kind.Id (codes "A" ∷ codes "x" ∷ []))) refl) (λ x. refl) (λ x o. refl))
    (node op_of height_of always (phrase (the_word OP) (token (tokens_of op_long_names) long_ident name_token refl).part) (λ x. omega arith) (λ x o. refl))
    (omega arith) refl

list_halts : {T : Type 0} (sep : Token → Bool) (stop : T → Option Token → Bool) (c : Token) → sep c ≡ false → ((t : T) → stop t (Some c) ≡ true) → (ts : List T) → row_stop sep stop ts (Some c) ≡ true
list_halts sep stop c e f [] = not_false (sep c) e
list_halts sep stop c e f (t ∷ []) = two_are (stop t (Some c)) (not (sep c)) (f t) (not_false (sep c) e)
list_halts sep stop c e f (t ∷ u ∷ ts) = list_halts sep stop c e f (u ∷ ts)

other_is : (k j : ℕ) → apart (just k) (just j) ≡ true → (c : Token) → is k c ≡ true → is j c ≡ false
other_is k j e c i = is_just plain_fix j c ∙ apart_is plain_fix plain_fix (just k) (just j) e c (sym (is_just plain_fix k c) ∙ i)

-- what closes a phrase or goes on with the next one in brackets
abbrev behind_goes : Firsts
behind_goes = union (just CLOSE_PAREN) (union (just COMMA) (just SEMICOLON))

module _ (fix : Settings) {s : Known} {n : ℕ} {E : Room → Ex → List Token → Type 0} {e : Room → Reader Token Ex} (X : Phrase s n 0 E e exp_stop height_of 2 0 (begins_exp fix) 4) where
  field : Phrase s n 0 (λ k. FieldD (E k)) (λ k. field_read (e k)) (λ x. exp_stop x.1) field_height 2 2 (tokens_of labels) 2
  field = sized_phrase field_height (phrase (token (tokens_of labels) label name_token refl) (past_word EQUALS X.part).part) (λ x. omega arith)

  -- a row with a word between, and the word that closes it
  closed_row : (k end : ℕ) → ((x : Ex) (c : Token) → is k c ≡ true → exp_stop x (Some c) ≡ true) → ((x : Ex) (c : Token) → is end c ≡ true → exp_stop x (Some c) ≡ true) → apart (just end) (just k) ≡ true
      → Part s n 0 (λ r. Close (Seps (is k) (E r)) (is end)) (λ r. close (seps (is k) (e r)) (is end)) always (highest height_of) 2 2
  closed_row k end f g a =
      let all = closed_phrase (is end) (word_token end) (word_is end) (apart_phrase (is k) (word_token k) (word_is k) X f) (λ t c i. list_halts (is k) exp_stop c (other_is end k a c i) (λ t. g t c i) t) in
      all.part

  behind : Phrase s n 0 (λ k. BehindD (E k)) (λ k. behind_read (e k)) always behind_height 0 2 (tokens_of behind_goes) 2
  behind =
      pick_if plain_fix (just CLOSE_PAREN) (union (just COMMA) (just SEMICOLON)) (is_just plain_fix CLOSE_PAREN) (λ c. refl)
      (made_phrase (λ (u : Unit {0}). Behind.Closed) behind_height always (a_word CLOSE_PAREN) (λ u. refl) (λ u o. refl))
      (pick_if plain_fix (just COMMA) (just SEMICOLON) (is_just plain_fix COMMA) (is_just plain_fix SEMICOLON)
      (made_phrase Behind.Commas behind_height always (past_word COMMA (closed_row COMMA CLOSE_PAREN (exp_halts COMMA refl) (exp_halts CLOSE_PAREN refl) refl)) (λ x. refl) (λ x o. refl))
      (made_phrase Behind.Semis behind_height always (past_word SEMICOLON (closed_row SEMICOLON CLOSE_PAREN (exp_halts SEMICOLON refl) (exp_halts CLOSE_PAREN refl) refl)) (λ x. refl) (λ x o. refl))
      (omega arith) refl)
      (omega arith) refl

  behind_halts : (x : Ex) (c : Token) → tokens_of behind_goes c ≡ true → exp_stop x (Some c) ≡ true
  behind_halts x c i = set_halts behind_goes refl x.0.1.typed x.0.1.reach c i

  inside : Part s n 0 (λ k. InsideD (E k)) (λ k. inside_read fix (e k) k.height) always inside_height 0 0
  inside =
      let parts : Phrase s n 0 _ _ always inside_height 2 2 (begins_exp fix) 4 = made_phrase Inside.Parts inside_height always (record { part = pair_then X.part behind behind_halts; opening = pair_opens X.opening behind.part }) (λ x. refl) (λ x o. refl) in
      let all = choice_if (made_phrase (λ (u : Unit {0}). Inside.Empty) inside_height always (a_word CLOSE_PAREN) (λ u. refl) (λ u o. refl)) (last parts (omega arith)) (omega arith)
      (λ c i. is_just fix CLOSE_PAREN c ∙ apart_is fix fix exp_firsts (just CLOSE_PAREN) refl c i) in
      all.part

  bracketed_exps : Part s n 0 (λ k. Enclosed (is COMMA) (E k) (is CLOSE_BRACKET)) (λ k. enclosed (begins_exp fix) 2 (is COMMA) (e k) (is CLOSE_BRACKET) k.height) always (highest height_of) 0 0
  bracketed_exps = enclosing (is COMMA) (is CLOSE_BRACKET) (word_token COMMA) (word_token CLOSE_BRACKET) (word_is COMMA) (word_is CLOSE_BRACKET) X (omega arith) (exp_halts COMMA refl) (exp_halts CLOSE_BRACKET refl)
      (other_is CLOSE_BRACKET COMMA refl) (λ c i. is_just fix CLOSE_BRACKET c ∙ apart_is fix fix exp_firsts (just CLOSE_BRACKET) refl c i)

  braced : Part s n 0 (λ k. Enclosed (is COMMA) (FieldD (E k)) (is CLOSE_BRACE)) (λ k. enclosed (tokens_of labels) 2 (is COMMA) (field_read (e k)) (is CLOSE_BRACE) k.height) always (highest field_height) 0 0
  braced = enclosing (is COMMA) (is CLOSE_BRACE) (word_token COMMA) (word_token CLOSE_BRACE) (word_is COMMA) (word_is CLOSE_BRACE) field (omega arith) (λ t c i. exp_halts COMMA refl t.1 c i) (λ t c i. exp_halts CLOSE_BRACE refl t.1 c i)
      (other_is CLOSE_BRACE COMMA refl) (λ c i. is_just plain_fix CLOSE_BRACE c ∙ apart_is plain_fix plain_fix labels (just CLOSE_BRACE) refl c i)

module _ (fix : Settings) {s : Known} {n : ℕ} {E : Room → Ex → List Token → Type 0} {e : Room → Reader Token Ex} (X : Phrase s n 0 E e exp_stop height_of 2 0 (begins_exp fix) 4)
    {F : Room → List De → Ex → List Token → Type 0} {f : Room → List De → Reader Token Ex} (behind_fix : List De → Settings) (Y : (ds : List De) → Phrase s n 0 (λ k. F k ds) (λ k. f k ds) exp_stop height_of 2 0 (begins_exp (behind_fix ds)) 4)
    {D : Room → List De → List Token → Type 0} {d : Room → Reader Token (List De)} (R : Part s n 0 D d (λ t. stops decs_goes) (highest height_of) 0 0) where
  body : (ds : List De) → Phrase s n 0 (λ k. Skip (is IN) (Close (Seps (is SEMICOLON) (F k ds)) (is END))) (λ k. skip (is IN) (close (seps (is SEMICOLON) (f k ds)) (is END))) always (highest height_of) 2 2 (is IN) 2
  body ds = past_word IN (closed_row (behind_fix ds) (Y ds) SEMICOLON END (exp_halts SEMICOLON refl) (exp_halts END refl) refl)

  lets : Part s n 0 (λ k. LetD (D k) (F k)) (λ k. let_read (d k) (f k)) always (λ x. max (highest height_of x.0) (highest height_of x.1)) 2 2
  lets = bind_by R (λ x. let B = body x in B.part) (λ x o. true)
      (λ k x y v r i j st.
      let B = body x in
      let g = head_some (is IN) (first (v ++ r)) (head-append (is IN) v r (B.opening.begins k y v i j)) in
      (ap (stops decs_goes) g.1 ∙ word_halts IN decs_goes refl g.0 g.2, refl))
      (λ k x y v r i j a b. refl)

  pub at_now : Phrase s n 1 (λ k. at_form fix (D k) (E k) (F k)) (λ k. at_level fix (d k) (e k) (f k) k.height) always height_of 0 0 (begins_at fix) 2
  at_now =
      pick fix literals (union (just HASH) (union (just OPEN_BRACE) (union (just OPEN_BRACKET) (union (just OPEN_PAREN) (union name_firsts (just LET)))))) (steady plain_fix fix literals refl refl refl) (λ c. refl)
      (node lit_of height_of always (token (tokens_of literals) literal (some_token (kind.Lit (lit.Int (pos 0)))) refl) (λ x. refl) (λ x o. refl))
      (pick fix (just HASH) (union (just OPEN_BRACE) (union (just OPEN_BRACKET) (union (just OPEN_PAREN) (union name_firsts (just LET))))) (is_just fix HASH) (λ c. refl)
      (node pick_of height_of always (phrase (the_word HASH) (token (tokens_of labels) label name_token refl).part) (λ x. omega arith) (λ x o. refl))
      (pick fix (just OPEN_BRACE) (union (just OPEN_BRACKET) (union (just OPEN_PAREN) (union name_firsts (just LET)))) (is_just fix OPEN_BRACE) (λ c. refl)
      (node fields_of height_of always (phrase (the_word OPEN_BRACE) (braced fix X)) (λ x. omega arith) (λ x o. refl))
      (pick fix (just OPEN_BRACKET) (union (just OPEN_PAREN) (union name_firsts (just LET))) (is_just fix OPEN_BRACKET) (λ c. refl)
      (node items_of height_of always (phrase (the_word OPEN_BRACKET) (bracketed_exps fix X)) (λ x. omega arith) (λ x o. refl))
      (pick fix (just OPEN_PAREN) (union name_firsts (just LET)) (is_just fix OPEN_PAREN) (λ c. refl)
      (node paren_of height_of always (phrase (the_word OPEN_PAREN) (inside fix X)) (λ x. omega arith) (λ x o. refl))
      (pick fix name_firsts (just LET) (λ c. refl) (is_just fix LET)
      (made_level id_of height_of always (name_now fix) (λ x. refl) (λ x o. refl))
      (last (node let_of height_of always (phrase (the_word LET) lets) (λ x. omega arith) (λ x o. refl)) (omega arith))
      (omega arith) (omega arith) refl)
      (omega arith) (omega arith) refl)
      (omega arith) (omega arith) refl)
      (omega arith) (omega arith) refl)
      (omega arith) (omega arith) refl)
      (omega arith) (omega arith) refl
