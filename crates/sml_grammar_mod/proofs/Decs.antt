-- Rows of declarations at structure level are read exactly, where declarations are.
use Rattle.std.proofs.Common.{◌≡◌, ℕ, Bool, true, false, not, ◌&&◌, List, [], ◌∷◌, ◌++◌, Option, refl, sym, ap, subst, ◌∙◌, arith, append_assoc}
use Rattle.readers.specs.Reader.{first, head_is, Reader, steps}
use Rattle.readers.specs.Language.{Steps, Close}
use Rattle.readers.specs.Room.{Room}
use Rattle.readers.specs.Exact.{always, row_stop}
use Rattle.readers.specs.Forms.{highest, height_of}
use Rattle.readers.proofs.Bundle.{Known, Fitting, Part, Phrase}
use Rattle.readers.proofs.Combine.{pair_by, pair_opens, made, made_phrase}
use Rattle.readers.proofs.Repeat.{rows, turns, stepped}
use Rattle.readers.proofs.Choose.{ends, ends_phrase, row_alike}
use Rattle.readers.proofs.First.{head_other}
use Rattle.readers.proofs.Outcome.{head_some, head-append}
use Rattle.readers.proofs.Grow.{two_are}
use Rattle.readers.proofs.Row.{not_false, not_true, both_true, row_stop_if, row_stop_alone}
use Rattle.sml_lex.specs.declared.token.Token.{Token}
use Rattle.sml_grammar.specs.Words.{SEMICOLON}
use Rattle.sml_grammar.specs.Tokens.{Firsts, just, is, plain_fix, tokens_of, listed}
use Rattle.sml_grammar.proofs.Sets.{is_just, apart, apart_is}
use Rattle.sml_grammar.proofs.Shapes.{stops, halts, word_halts, a_word}
use Rattle.sml_grammar.proofs.Joined.{narrow}
use Rattle.sml_grammar_exp.specs.Decs.{Changes, SemisD}
use Rattle.sml_grammar_exp.specs.ReadDecs.{semis_read}
use Rattle.sml_grammar_exp.proofs.Binds.{flat, all_flat}
use Rattle.sml_grammar_exp.proofs.Decs.{not_word, word_in}
use Rattle.sml_grammar_exp.proofs.Parts.{numbered_phrase, numbered}
use Rattle.sml_grammar_mod.specs.Strs.{Sd, str_after, strdec_alone, strdecs_alone, StrItemD, StrDecR, StrDecsR}
use Rattle.sml_grammar_mod.specs.ReadStrs.{strdec_firsts, begins_strdec, strdec_goes, str_item_goes, strdecs_goes, str_item_read, strdecs_level, strdec_read}

-- what stops a declaration
abbrev pub strdec_stop : {T : Type 0} → T → Option Token → Bool
strdec_stop t = stops strdec_goes

abbrev pub strdec_in : Room → Changes → Reader Token Sd
strdec_in k cs = strdec_read k.height k.clashes cs

abbrev pub StrDecP : Changes → Known → ℕ → Type 0
StrDecP cs s n = Phrase s n 0 (StrDecR cs) (λ k. strdec_in k cs) strdec_stop height_of 2 0 begins_strdec 5

pub semis_now : {s : Known} {n : ℕ} → Part s n 0 (λ k. SemisD) (λ k. semis_read) (row_stop (is SEMICOLON) always) (highest flat) 0 0
semis_now = rows (a_word SEMICOLON) (λ t c e. refl)

pub semi_off : (o : Option Token) → (a : Firsts) → listed SEMICOLON a.words ≡ true → stops a o ≡ true → not (head_is (is SEMICOLON) o) ≡ true
semi_off o a f e = not_word SEMICOLON a (word_in plain_fix SEMICOLON a f) o e

pub semi_first : (u : Unit {0}) (us : List (Unit {0})) (v : List Token) → SemisD (u ∷ us) v → head_is (is SEMICOLON) (first v) ≡ true
semi_first u us v x = subst (λ (z : List Token). head_is (is SEMICOLON) (first z) ≡ true) (sym (x.whole ∙ ap (λ (z : List Token). z ++ x.back) x.left.whole)) x.left.fits

-- what stops one that these tokens go on with, with the semicolons behind it
abbrev pub closed_stop : {T : Type 0} → T × List (Unit {0}) → Option Token → Bool
closed_stop (t, []) o = stops strdec_goes o && not (head_is (is SEMICOLON) o)
closed_stop (t, u ∷ us) o = row_stop (is SEMICOLON) always (u ∷ us) o

module _ {T : Type 0} where
  pub closed_split : (x : T) (us : List (Unit {0})) (v r : List Token) → SemisD us v → closed_stop (x, us) (first r) ≡ true → (stops strdec_goes (first (v ++ r)) ≡ true) × (row_stop (is SEMICOLON) always us (first r) ≡ true)
  closed_split x [] v r y e =
      let two = both_true (stops strdec_goes (first r)) (not (head_is (is SEMICOLON) (first r))) e in
      (subst (λ (v : List Token). stops strdec_goes (first (v ++ r)) ≡ true) (sym y) two.0, two.1)
  closed_split x (u ∷ us) v r y e =
      let g = head_some (is SEMICOLON) (first (v ++ r)) (head-append (is SEMICOLON) v r (semi_first u us v y)) in
      (ap (stops strdec_goes) g.1 ∙ word_halts SEMICOLON strdec_goes refl g.0 g.2, e)

  pub closed_join : (x : T) (us : List (Unit {0})) (v r : List Token) → SemisD us v → stops strdec_goes (first (v ++ r)) ≡ true → row_stop (is SEMICOLON) always us (first r) ≡ true → closed_stop (x, us) (first r) ≡ true
  closed_join x [] v r y a e = two_are (stops strdec_goes (first r)) _ (subst (λ (v : List Token). stops strdec_goes (first (v ++ r)) ≡ true) y a) e
  closed_join x (u ∷ us) v r y a e = e

module _ {s : Known} {n : ℕ} (cs : Changes) (P : StrDecP cs s n) where
  item : Phrase s n 0 (λ k. StrItemD (StrDecR cs k)) (λ k. str_item_read (strdec_in k cs)) (λ t. stops str_item_goes) height_of 2 0 begins_strdec 5
  item = numbered_phrase 2 0 5 (made_phrase strdec_alone height_of (λ t. stops str_item_goes)
      (ends_phrase (tokens_of str_item_goes) (record {
        part = numbered 2 0 (pair_by P.part semis_now closed_stop (λ k x y v r i d e. closed_split x y v r d e) (λ k x y v r i d a b. closed_join x y v r d a b)) (omega arith) (omega arith) (omega arith);
        opening = pair_opens P.opening semis_now;
      }) (λ k t w o i d e. over t.0 t.1 o e))
      (λ x. let a = all_flat x.1 in omega (arith, a)) (λ x o. refl)) (omega arith) (omega arith) (omega arith) (omega arith)
    where
      over : (x : Sd) (us : List (Unit {0})) (o : Option Token) → stops str_item_goes o ≡ true → closed_stop (x, us) o ≡ true
      over x [] o e = two_are _ _ (narrow plain_fix strdec_goes str_item_goes refl o e) (semi_off o str_item_goes refl e)
      over x (u ∷ us) o e = row_stop_alone (is SEMICOLON) (u ∷ us) o ∙ semi_off o str_item_goes refl e

module _ {s : Known} {n : ℕ} (P : (cs : Changes) → StrDecP cs s n) where
  all_items : (c : Changes) → Part s n 0 (λ k. Steps str_after (λ x. StrItemD (StrDecR x k)) c) (λ k. steps begins_strdec str_after (λ x. str_item_read (strdec_in k x)) c) (row_stop begins_strdec (λ t. stops str_item_goes)) (highest height_of) 0 0
  all_items = stepped str_after (turns (λ x. item x (P x)))
      (λ k x u v w r i y.
      let I = item (str_after x u) (P (str_after x u)) in
      let g = head_some begins_strdec (first (w ++ r)) (head-append begins_strdec w r (I.opening.begins k v w i y)) in
      ap (stops str_item_goes) g.1 ∙ halts plain_fix strdec_firsts str_item_goes begins_strdec (λ c. refl) refl g.0 g.2)

  abbrev row_over_stop : List Sd → Option Token → Bool
  row_over_stop ds o = not (head_is (is SEMICOLON) o) && row_stop begins_strdec (λ (t : Sd). stops str_item_goes) ds o

  pub dec_first : (c : Changes) (k : Room) (x : Sd) (xs : List Sd) (v : List Token) → Fitting s n k → Steps str_after (λ x. StrItemD (StrDecR x k)) c (x ∷ xs) v → head_is begins_strdec (first v) ≡ true
  dec_first c k x xs v i y = let I = item c (P c) in subst (λ (z : List Token). head_is begins_strdec (first z) ≡ true) (sym y.whole) (head-append begins_strdec y.front y.back (I.opening.begins k x y.front i y.left))

  -- a row of declarations, with semicolons before, between and behind them
  pub strdecs_now : (c : Changes) → Part s n 0 (StrDecsR c) (λ k. strdecs_level (strdec_in k) c) (λ t. stops strdecs_goes) (highest height_of) 0 0
  strdecs_now c = made strdecs_alone (highest height_of) (λ t. stops strdecs_goes)
      (ends (tokens_of strdecs_goes) (pair_by semis_now (all_items c) (λ x. row_over_stop x.1) split join) (λ k t w o i y e. over t.1 o e))
      (λ x. let a = all_flat x.0 in omega (arith, a)) (λ x o. refl)
    where
      split : (k : Room) (us : List (Unit {0})) (xs : List Sd) (v r : List Token) → Fitting s n k → Steps str_after (λ x. StrItemD (StrDecR x k)) c xs v → row_over_stop xs (first r) ≡ true
          → (row_stop (is SEMICOLON) always us (first (v ++ r)) ≡ true) × (row_stop begins_strdec (λ (t : Sd). stops str_item_goes) xs (first r) ≡ true)
      split k us [] v r i y e =
          let two = both_true (not (head_is (is SEMICOLON) (first r))) _ e in
          (subst (λ (v : List Token). row_stop (is SEMICOLON) always us (first (v ++ r)) ≡ true) (sym y) (row_stop_alone (is SEMICOLON) us (first r) ∙ two.0), two.1)
      split k us (x ∷ xs) v r i y e =
          let two = both_true (not (head_is (is SEMICOLON) (first r))) _ e in
          let g = head_some begins_strdec (first (v ++ r)) (head-append begins_strdec v r (dec_first c k x xs v i y)) in
          (row_stop_alone (is SEMICOLON) us (first (v ++ r)) ∙ (ap (λ (o : Option Token). not (head_is (is SEMICOLON) o)) g.1 ∙ not_false (is SEMICOLON g.0) (is_just plain_fix SEMICOLON g.0 ∙ apart_is plain_fix plain_fix strdec_firsts (just SEMICOLON) refl g.0 g.2)), two.1)

      join : (k : Room) (us : List (Unit {0})) (xs : List Sd) (v r : List Token) → Fitting s n k → Steps str_after (λ x. StrItemD (StrDecR x k)) c xs v → row_stop (is SEMICOLON) always us (first (v ++ r)) ≡ true
          → row_stop begins_strdec (λ (t : Sd). stops str_item_goes) xs (first r) ≡ true → row_over_stop xs (first r) ≡ true
      join k us [] v r i y a e = two_are _ _ (sym (row_stop_alone (is SEMICOLON) us (first r)) ∙ subst (λ (v : List Token). row_stop (is SEMICOLON) always us (first (v ++ r)) ≡ true) y a) e
      join k us (x ∷ xs) v r i y a e = two_are _ _ (semi_off (first r) str_item_goes refl (both_true (stops str_item_goes (first r)) _ (sym (row_alike begins_strdec (stops str_item_goes) x xs (first r)) ∙ e)).0) e

      over : (xs : List Sd) (o : Option Token) → stops strdecs_goes o ≡ true → row_over_stop xs o ≡ true
      over xs o e = two_are _ _ (semi_off o strdecs_goes refl e)
          (row_stop_if begins_strdec (λ (t : Sd). stops str_item_goes) xs o (not_true (head_is begins_strdec o) (narrow plain_fix strdec_firsts strdecs_goes refl o e)) (λ t. narrow plain_fix str_item_goes strdecs_goes refl o e))

  -- a row that a word closes does not begin with what begins neither a declaration nor a semicolon
  pub row_other : (word : ℕ) (other : Firsts) → apart (just word) other ≡ true → apart (just SEMICOLON) other ≡ true → apart strdec_firsts other ≡ true
      → (c : Changes) (k : Room) (ds : List Sd) (v r : List Token) → Fitting s n k → Close (StrDecsR c k) (is word) ds v → head_is (tokens_of other) (first (v ++ r)) ≡ false
  row_other word other ew es ed c k ds v r i d =
      subst (λ (z : List Token). head_is (tokens_of other) (first z) ≡ false) (sym whole) (semis d.left.0.0 d.left.0.1 d.left.2.front d.left.2.back d.left.2.left d.left.2.right)
    where
      whole : v ++ r ≡ d.left.2.front ++ (d.left.2.back ++ (d.back ++ r))
      whole = ap (λ (z : List Token). z ++ r) d.whole ∙ (append_assoc d.front d.back r ∙ (ap (λ (z : List Token). z ++ (d.back ++ r)) d.left.2.whole ∙ append_assoc d.left.2.front d.left.2.back (d.back ++ r)))

      closing : head_is (tokens_of other) (first (d.back ++ r)) ≡ false
      closing = head_other (is word) (tokens_of other) (λ c x. apart_is plain_fix plain_fix (just word) other ew c (sym (is_just plain_fix word c) ∙ x)) (first (d.back ++ r)) (head-append (is word) d.back r (subst (λ (z : List Token). head_is (is word) (first z) ≡ true) (sym d.right.whole) d.right.fits))

      items : (xs : List Sd) (b : List Token) → Steps str_after (λ x. StrItemD (StrDecR x k)) c xs b → head_is (tokens_of other) (first (b ++ (d.back ++ r))) ≡ false
      items [] b y = subst (λ (b : List Token). head_is (tokens_of other) (first (b ++ (d.back ++ r))) ≡ false) (sym y) closing
      items (x ∷ xs) b y = head_other begins_strdec (tokens_of other) (λ c x. apart_is plain_fix plain_fix strdec_firsts other ed c x) (first (b ++ (d.back ++ r))) (head-append begins_strdec b (d.back ++ r) (dec_first c k x xs b i y))

      semis : (us : List (Unit {0})) (xs : List Sd) (a b : List Token) → SemisD us a → Steps str_after (λ x. StrItemD (StrDecR x k)) c xs b → head_is (tokens_of other) (first (a ++ (b ++ (d.back ++ r)))) ≡ false
      semis [] xs a b x y = subst (λ (a : List Token). head_is (tokens_of other) (first (a ++ (b ++ (d.back ++ r)))) ≡ false) (sym x) (items xs b y)
      semis (u ∷ us) xs a b x y = head_other (is SEMICOLON) (tokens_of other) (λ c x. apart_is plain_fix plain_fix (just SEMICOLON) other es c (sym (is_just plain_fix SEMICOLON c) ∙ x)) (first (a ++ (b ++ (d.back ++ r)))) (head-append (is SEMICOLON) a (b ++ (d.back ++ r)) (semi_first u us a x))
