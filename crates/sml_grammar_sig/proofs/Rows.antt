-- Rows of specifications up to a word are read exactly.
use Rattle.std.proofs.Common.{◌≡◌, ℕ, ◌≤◌, max, Bool, true, false, List, [], ◌∷◌, ◌++◌, Option, Some, None, refl, sym, ap, subst, ◌∙◌, arith, append_assoc, inl, inr}
use Rattle.std.proofs.lemmas.List.{append-nil}
use Rattle.readers.specs.Reader.{Reader, one}
use Rattle.readers.specs.Language.{Bound, Viable, Passing, Close, Steps, That, Row}
use Rattle.readers.specs.Room.{Room}
use Rattle.readers.specs.Infix.{ups}
use Rattle.readers.specs.Exact.{always}
use Rattle.readers.specs.Forms.{growth, highest, height_of}
use Rattle.readers.proofs.Bundle.{Known, Fitting, Part, Phrase}
use Rattle.readers.proofs.Combine.{made_phrase}
use Rattle.readers.proofs.Grow.{after_first, after_in}
use Rattle.sml_lex.specs.declared.token.Token.{Token}
use Rattle.sml_grammar.specs.Words.{SEMICOLON}
use Rattle.sml_grammar.specs.Tokens.{just, is, plain_fix}
use Rattle.sml_grammar.proofs.Sets.{is_just, apart, apart_is, pick_if}
use Rattle.sml_grammar.proofs.Shapes.{name_token, word_token, word_is, stops, halts, word_halts, a_word}
use Rattle.sml_grammar_sig.specs.Sigs.{Sp, some_spec, no_spec, present, ItemD, SpecR, SpecsR}
use Rattle.sml_grammar_sig.specs.ReadSigs.{spec_goes, spec_firsts, item_firsts, begins_item, is_lone, item_lone, lone_next, item_read, roomy_by, specs_to, spec_in}
use Rattle.sml_grammar_exp.proofs.Parts.{numbered_phrase}
use Rattle.sml_grammar_sig.proofs.Descs.{flat}
use Rattle.sml_grammar_sig.proofs.Chain.{guarded}
use Rattle.sml_grammar_sig.proofs.Closing.{closed_part}
use Rattle.sml_grammar_sig.proofs.Specs.{spec_tall, tall_by, SpecLeanR, SpecLeanP, true_lean, lean_true, lone_high, one_more}

-- ---- where there must be room for a signature

abbrev RoomyD : {T : Type 0} → Bool → (Token → Bool) → (T → List Token → Type 0) → ℕ → T → List Token → Type 0
RoomyD true test D h = Passing (growth test true 2 h) D
RoomyD false test D h = D

abbrev low_by : Bool → ℕ
low_by true = 2
low_by false = 0

abbrev roomy_tall : {T : Type 0} → Bool → (T → ℕ) → T → ℕ
roomy_tall true td t = max 2 (td t)
roomy_tall false td t = td t

module _ {T : Type 0} {s : Known} {n : ℕ} {D : Room → T → List Token → Type 0} {q : Room → Reader Token T} {sd : T → Option Token → Bool} {td : T → ℕ} {test : Token → Bool} {ed : ℕ} (P : Phrase s n 0 D q sd td 0 0 test ed) where
  roomy : (b : Bool) → Phrase s n 0 (λ k. RoomyD b test (D k) k.height) (λ k. roomy_by b test (q k) k.height) sd (roomy_tall b td) (low_by b) 0 test (max 2 ed)
  roomy true = guarded P 2 (omega arith) (omega arith)
  roomy false = numbered_phrase 0 0 (max 2 ed) P (omega arith) (omega arith) (omega arith) (omega arith)

  roomy_in : (b : Bool) (k : Room) (t : T) (w : List Token) → Fitting s n k → (b ≡ true → 2 ≤ k.height) → D k t w → RoomyD b test (D k) k.height t w
  roomy_in true k t w i f d = after_in P true 2 k t w i refl (f refl) d
  roomy_in false k t w i f d = d

  roomy_out : (b : Bool) (k : Room) (t : T) (w : List Token) → Fitting s n k → RoomyD b test (D k) k.height t w → (b ≡ true → 2 ≤ k.height) × D k t w
  roomy_out true k t w i d = let c = after_first P true 2 k t w i d in (λ e. c.4, d.1)
  roomy_out false k t w i d = (λ e. absurd cc, d)

-- ---- items

abbrev item_stop : Option Sp → Option Token → Bool
item_stop None o = true
item_stop (Some t) o = stops spec_goes o

abbrev item_tall : Option Sp → ℕ
item_tall None = 0
item_tall (Some t) = spec_tall t

abbrev true_height : Option Sp → ℕ
true_height None = 0
true_height (Some t) = t.1

present_height : (xs : List (Option Sp)) → highest height_of (present xs) ≡ highest true_height xs
present_height [] = refl
present_height (None ∷ xs) = let e = present_height xs in omega arith
present_height (Some t ∷ xs) = let e = present_height xs in omega arith

module _ {s : Known} {n : ℕ} (P : SpecLeanP s n) where
  item_now : Phrase s n 0 (λ k. ItemD (SpecLeanR k)) (λ k. item_read (spec_in k)) item_stop item_tall 0 0 begins_item 2
  item_now = numbered_phrase 0 0 2
      (pick_if plain_fix (just SEMICOLON) spec_firsts (is_just plain_fix SEMICOLON) (λ c. refl)
      (made_phrase no_spec item_tall item_stop (a_word SEMICOLON) (λ u. refl) (λ u o. refl))
      (made_phrase some_spec item_tall item_stop P (λ x. refl) (λ x o. refl))
      (omega arith) refl) (omega arith) (omega arith) (omega arith) (omega arith)

  -- ---- what holds of all specifications

  spec_least : (k : Room) (t : Sp) (w : List Token) → Fitting s n k → SpecR k t w → t.1 ≤ k.height
  spec_least k t w i d = go (is_lone t.0) refl
    where
      go : (b : Bool) → is_lone t.0 ≡ b → t.1 ≤ k.height
      go true e = let l = lone_high k.height t w d e in let a = l.0 in let b = l.1 in omega (arith, a, b)
      go false e = let a = P.part.least k t w i (true_lean k.height t w d) in let b = ap (λ (b : Bool). tall_by b t.1) e in omega (arith, a, b)

  spec_fits : (h k : Room) (t : Sp) (w : List Token) → Fitting s n h → (h.clashes ≡ true → k.clashes ≡ true) → t.1 ≤ k.height → SpecR h t w → SpecR k t w
  spec_fits h k t w i f le d = go (is_lone t.0) refl
    where
      go : (b : Bool) → is_lone t.0 ≡ b → SpecR k t w
      go true e =
          let l = lone_high h.height t w d e in
          let a = l.1 in
          let b = ap (λ (b : Bool). tall_by b t.1) e in
          lean_true k.height t w (λ x. omega (arith, a, le)) (P.part.fits h k t w i f (omega (arith, a, b, le)) (true_lean h.height t w d))
      go false e =
          let b = ap (λ (b : Bool). tall_by b t.1) e in
          lean_true k.height t w (λ x. let no : false ≡ true = sym e ∙ x in absurd cc) (P.part.fits h k t w i f (omega (arith, b, le)) (true_lean h.height t w d))

  row_least : (k : Room) (us : List (Option Sp)) (w : List Token) → Fitting s n k → Row (ItemD (SpecR k)) us w → highest true_height us ≤ k.height
  row_least k [] w i d = omega arith
  row_least k (u ∷ us) w i d = let a = one_least u d.front d.left in let b = row_least k us d.back i d.right in omega (arith, a, b)
    where
      one_least : (u : Option Sp) (w : List Token) → ItemD (SpecR k) u w → true_height u ≤ k.height
      one_least u w (inl e) = let a = ap true_height e.1 in omega (arith, a)
      one_least u w (inr e) = let a = ap true_height e.1 in let b = spec_least k e.0 w i e.2 in omega (arith, a, b)

  row_fits : (h k : Room) (us : List (Option Sp)) (w : List Token) → Fitting s n h → (h.clashes ≡ true → k.clashes ≡ true) → highest true_height us ≤ k.height → Row (ItemD (SpecR h)) us w → Row (ItemD (SpecR k)) us w
  row_fits h k [] w i f le d = d
  row_fits h k (u ∷ us) w i f le d = record { front = d.front; back = d.back; left = one_fits u d.front (omega (arith, le)) d.left; right = row_fits h k us d.back i f (omega (arith, le)) d.right; whole = d.whole }
    where
      one_fits : (u : Option Sp) (w : List Token) → true_height u ≤ k.height → ItemD (SpecR h) u w → ItemD (SpecR k) u w
      one_fits u w le (inl e) = inl e
      one_fits u w le (inr e) = let a = ap true_height e.1 in inr (e.0, e.1, spec_fits h k e.0 w i f (omega (arith, a, le)) e.2)

  -- ---- items in the lean form and in the true one

  item_lean : (k : Room) (u : Option Sp) (w : List Token) → ItemD (SpecR k) u w → ItemD (SpecLeanR k) u w
  item_lean k u w (inl d) = inl d
  item_lean k u w (inr d) = inr (d.0, d.1, true_lean k.height d.0 w d.2)

  item_true : (k : Room) (u : Option Sp) (w : List Token) → (item_lone u ≡ true → 2 ≤ k.height) → ItemD (SpecLeanR k) u w → ItemD (SpecR k) u w
  item_true k u w f (inl d) = inl d
  item_true k u w f (inr d) = inr (d.0, d.1, lean_true k.height d.0 w (λ e. f (ap item_lone (sym d.1) ∙ e)) d.2)

  lone_room : (k : Room) (u : Option Sp) (w : List Token) → ItemD (SpecR k) u w → item_lone u ≡ true → 2 ≤ k.height
  lone_room k u w (inl d) e = let no : false ≡ true = ap item_lone d.1 ∙ e in absurd cc
  lone_room k u w (inr d) e = let l = lone_high k.height d.0 w d.2 (ap item_lone d.1 ∙ e) in l.0

  abbrev TurnR : Room → Bool → Option Sp → List Token → Type 0
  TurnR k p = RoomyD p begins_item (ItemD (SpecLeanR k)) k.height

  items_lean : (k : Room) (p : Bool) (us : List (Option Sp)) (w : List Token) → Fitting s n k → (p ≡ true → 2 ≤ k.height) → Row (ItemD (SpecR k)) us w → Steps lone_next (TurnR k) p us w
  items_lean k p [] w i f d = d
  items_lean k p (u ∷ us) w i f d = record {
    front = d.front;
    back = d.back;
    left = roomy_in item_now p k u d.front i f (item_lean k u d.front d.left);
    right = items_lean k (item_lone u) us d.back i (λ e. lone_room k u d.front d.left e) d.right;
    whole = d.whole;
  }

  -- the room that the last item has, where it needs it
  last_room : (k : Room) (p : Bool) (us : List (Option Sp)) (w : List Token) → (p ≡ true → 2 ≤ k.height) → Row (ItemD (SpecR k)) us w → ups lone_next p us ≡ true → 2 ≤ k.height
  last_room k p [] w f d e = f e
  last_room k p (u ∷ us) w f d e = last_room k (item_lone u) us d.back (λ x. lone_room k u d.front d.left x) d.right e

  next_room : (k : Room) (p : Bool) (us : List (Option Sp)) (w : List Token) → Fitting s n k → (ups lone_next p us ≡ true → 2 ≤ k.height) → Steps lone_next (TurnR k) p us w → p ≡ true → 2 ≤ k.height
  next_room k p [] w i f d e = f e
  next_room k p (u ∷ us) w i f d e = let c = roomy_out item_now p k u d.front i d.left in c.0 e

  items_true : (k : Room) (p : Bool) (us : List (Option Sp)) (w : List Token) → Fitting s n k → (ups lone_next p us ≡ true → 2 ≤ k.height) → Steps lone_next (TurnR k) p us w → Row (ItemD (SpecR k)) us w
  items_true k p [] w i f d = d
  items_true k p (u ∷ us) w i f d =
      let c = roomy_out item_now p k u d.front i d.left in
      record {
        front = d.front;
        back = d.back;
        left = item_true k u d.front (λ e. next_room k (item_lone u) us d.back i f d.right e) c.1;
        right = items_true k (item_lone u) us d.back i f d.right;
        whole = d.whole;
      }

  -- ---- a row that does not end with one identifier behind `include`

  abbrev More : Room → Bool → List Token → Type 0
  More k p w = (us : List (Option Sp)) × Steps lone_next (TurnR k) p us (w ++ name_token ∷ []) × (ups lone_next p us ≡ false)

  more_items : (k : Room) (p : Bool) (u : Option Sp) (us : List (Option Sp)) (w : List Token) → Fitting s n k → Steps lone_next (TurnR k) p (u ∷ us) w → ups lone_next p (u ∷ us) ≡ true → More k p w
  more_items k p u [] w i d e =
      let c = roomy_out item_now p k u d.front i d.left in
      let same : d.front ≡ w = sym (d.whole ∙ (ap (λ (z : List Token). d.front ++ z) d.right ∙ append-nil d.front)) in
      subst (λ (z : List Token). More k p z) same (one c.0 c.1)
    where
      one : (p ≡ true → 2 ≤ k.height) → ItemD (SpecLeanR k) u d.front → More k p d.front
      one f (inl a) = let no : false ≡ true = ap item_lone a.1 ∙ e in absurd cc
      one f (inr a) =
          let m = one_more k.height a.0 d.front a.2 (ap item_lone a.1 ∙ e) in (
            Some m.0 ∷ [],
            record { front = d.front ++ name_token ∷ []; back = []; left = roomy_in item_now p k (Some m.0) (d.front ++ name_token ∷ []) i f (inr (m.0, refl, m.2)); right = refl; whole = sym (append-nil (d.front ++ name_token ∷ [])) },
            m.1,
          )
  more_items k p u (v ∷ vs) w i d e =
      let r = more_items k (item_lone u) v vs d.back i d.right e in
      (u ∷ r.0, record { front = d.front; back = d.back ++ name_token ∷ []; left = d.left; right = r.1; whole = ap (λ (z : List Token). z ++ name_token ∷ []) d.whole ∙ append_assoc d.front d.back (name_token ∷ []) }, r.2)

  -- ---- rows up to a word

  module _ (word : ℕ) (off : apart (just word) spec_goes ≡ true) (other : apart (just word) item_firsts ≡ true) where
    abbrev EndR : Room → Bool → Unit {0} → List Token → Type 0
    EndR k p = RoomyD p (is word) (λ u. That (is word)) k.height

    word_now : Phrase s n 0 (λ k (u : Unit {0}). That (is word)) (λ k. one (is word)) always flat 0 0 (is word) 0
    word_now = a_word word

    abbrev ParsR : Room → List (Option Sp) × Unit {0} → List Token → Type 0
    ParsR k = Bound (Steps lone_next (TurnR k) false) (λ us. EndR k (ups lone_next false us))

    rows_to : (k : Room) (us : List (Option Sp)) (w : List Token) → Fitting s n k → ParsR k (us, tt) w → Close (SpecsR k) (is word) (present us) w
    rows_to k us w i a =
        let c = roomy_out word_now (ups lone_next false us) k tt a.back i a.right in
        record { front = a.front; back = a.back; left = (us, refl, items_true k false us a.front i c.0 a.left); right = c.1; whole = a.whole }

    rows_from : (k : Room) (t : List Sp) (w : List Token) → Fitting s n k → Close (SpecsR k) (is word) t w → (x : List (Option Sp) × Unit {0}) × (present x.0 ≡ t) × ParsR k x w
    rows_from k t w i d =
        let us = d.left.0 in (
          (us, tt),
          d.left.1,
          record {
            front = d.front;
            back = d.back;
            left = items_lean k false us d.front i (λ e. absurd cc) d.left.2;
            right = roomy_in word_now (ups lone_next false us) k tt d.back i (λ e. last_room k false us d.front (λ x. absurd cc) d.left.2 e) d.right;
            whole = d.whole;
          },
        )

    -- some word closes each row
    rows_full : (k : Room) (u : List Token) → Fitting s n k → Viable (Steps lone_next (TurnR k) false) u → Viable (ParsR k) u
    rows_full k u i v = go (ups lone_next false v.tree) refl
      where
        closed_by : (us : List (Option Sp)) (more : List Token) → ups lone_next false us ≡ false → Steps lone_next (TurnR k) false us (u ++ more) → Viable (ParsR k) u
        closed_by us more e d = record {
          tree = (us, tt);
          more = more ++ word_token word ∷ [];
          derives = record {
            front = u ++ more;
            back = word_token word ∷ [];
            left = d;
            right = roomy_in word_now (ups lone_next false us) k tt (word_token word ∷ []) i (λ x. let no : false ≡ true = sym e ∙ x in absurd cc) (record { token = word_token word; fits = word_is word; whole = refl });
            whole = sym (append_assoc u more (word_token word ∷ []));
          };
        }

        open_row : (us : List (Option Sp)) → Steps lone_next (TurnR k) false us (u ++ v.more) → ups lone_next false us ≡ true → Viable (ParsR k) u
        open_row [] d e = absurd cc
        open_row (x ∷ xs) d e = let r = more_items k false x xs (u ++ v.more) i d e in closed_by r.0 (v.more ++ name_token ∷ []) r.2 (subst (λ (z : List Token). Steps lone_next (TurnR k) false r.0 z) (append_assoc u v.more (name_token ∷ [])) r.1)

        go : (b : Bool) → ups lone_next false v.tree ≡ b → Viable (ParsR k) u
        go false e = closed_by v.tree v.more e v.derives
        go true e = open_row v.tree v.derives e

    pub specs_now : Part s n 0 (λ k. Close (SpecsR k) (is word)) (λ k. specs_to word (spec_in k) k.height) always (highest height_of) 0 0
    specs_now = closed_part false lone_next begins_item (is word) (λ p. roomy item_now p) (λ p. roomy word_now p) (λ x. present x.0) (λ k. Close (SpecsR k) (is word)) (highest height_of) (record {
      made = λ fit k. record { to = λ x w a. rows_to k x.0 w (fit k) a; from = λ t w d. rows_from k t w (fit k) d };
      full = λ k u i v. rows_full k u i v;
      least = λ k t w i d. let e = ap (highest height_of) d.left.1 in let p = present_height d.left.0 in let a = row_least k d.left.0 d.front i d.left.2 in omega (arith, e, p, a);
      fits = λ h k t w i f l d. let e = ap (highest height_of) d.left.1 in let p = present_height d.left.0 in record {
        front = d.front;
        back = d.back;
        left = (d.left.0, d.left.1, row_fits h k d.left.0 d.front i f (omega (arith, e, p, l)) d.left.2);
        right = d.right;
        whole = d.whole;
      };
      some = λ k. record { tree = []; more = word_token word ∷ []; derives = record { front = []; back = word_token word ∷ []; left = ([], refl, refl); right = record { token = word_token word; fits = word_is word; whole = refl }; whole = refl } };
      item_next = λ u c e. next u c e;
      item_ends = λ u c e. last u c e;
      other = λ c e. apart_is plain_fix plain_fix (just word) item_firsts other c (sym (is_just plain_fix word c) ∙ e);
    })
      where
        next : (t : Option Sp) (c : Token) → begins_item c ≡ true → item_stop t (Some c) ≡ true
        next None c e = refl
        next (Some t) c e = halts plain_fix item_firsts spec_goes begins_item (λ c. refl) refl c e

        last : (t : Option Sp) (c : Token) → is word c ≡ true → item_stop t (Some c) ≡ true
        last None c e = refl
        last (Some t) c e = word_halts word spec_goes off c e
