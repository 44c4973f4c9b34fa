-- Programs are read exactly.
use Rattle.std.proofs.Common.{◌≡◌, ◌⊎◌, ℕ, ◌≤◌, max, Bool, true, false, not, ◌||◌, List, [], ◌∷◌, ◌++◌, Some, Ok, Err, refl, sym, ap, subst, ◌∙◌, arith, inl, inr}
use Rattle.std.proofs.lemmas.List.{append-nil}
use Rattle.readers.specs.declared.code.Code.TheVariants.{Grammar}
use Rattle.readers.specs.Reader.{first, head_is, Reader, both, token_by, row, steps, row_by, steps_by}
use Rattle.readers.specs.Language.{Viable, Both, Row, Shows, Steps}
use Rattle.readers.specs.Room.{Room}
use Rattle.readers.specs.Exact.{always, row_stop}
use Rattle.readers.specs.Forms.{highest, height_of}
use Rattle.readers.proofs.Bundle.{Known, Fitting, Reading, Part, Phrase}
use Rattle.readers.proofs.Combine.{token, made_phrase, node_part, pair_by, pair_then, shown_is, shown_test}
use Rattle.readers.proofs.First.{head_other, head_to, shows_begins}
use Rattle.readers.proofs.Levels.{Knot, Tower, all_of, lifted, lowest_sizes, lowest_readings, lowest_refusals}
use Rattle.readers.proofs.Outcome.{head-append}
use Rattle.readers.proofs.Repeat.{rows}
use Rattle.readers.proofs.Row.{not_false, row_stop_if, row_stop_alone}
use Rattle.readers.proofs.Grow.{two_are}
use Rattle.tl_text.specs.declared.place.Place.{Place}
use Rattle.sml_lex.specs.declared.token.Token.{Token}
use Rattle.sml_lex.specs.declared.token.Kind.TheVariants as kind
use Rattle.sml_fix.specs.Fixities.{Settings}
use Rattle.sml_grammar.specs.Words.{SEMICOLON}
use Rattle.sml_grammar.specs.Tokens.{just, union, is, the, place, among, plain_fix}
use Rattle.sml_grammar.proofs.Sets.{is_just, apart_is, among_union}
use Rattle.sml_grammar.proofs.Shapes.{nowhere, some_token, halts, the_word}
use Rattle.sml_grammar.proofs.Joined.{steady}
use Rattle.sml_grammar_exp.specs.Decs.{Changes, fixed}
use Rattle.sml_grammar_exp.specs.ReadExps.{exp_firsts}
use Rattle.sml_grammar_exp.proofs.Binds.{flat, all_flat}
use Rattle.sml_grammar_exp.proofs.Parts.{numbered}
use Rattle.sml_grammar_sig.proofs.Chain.{spoken}
use Rattle.sml_grammar_mod.specs.ReadStrs.{strdec_goes}
use Rattle.sml_grammar_mod.specs.Programs.{Pr, Item, Before, Site, after_item, item_height, program_of, ends, is_end, the_end, left_by, ProgramD, program_on, ProgramR, SourceR, TopR, RunR}
use Rattle.sml_grammar_mod.specs.ReadPrograms.{top_firsts, begins_program, going_on, program_level, program_read, source_read}
use Rattle.sml_grammar_mod.proofs.Tops.{top_in, run_in, begins_fresh, fresh_exact, fresh_semi, ItemR, item_in, item_stop, items_exact, items_first}

abbrev end_token : Token
end_token = some_token kind.End

the_last : {s : Known} {n : ℕ} → Phrase s n 0 (λ k. Shows the_end) (λ k. token_by the_end) always flat 0 0 is_end 0
the_last = token is_end place end_token refl

end_goes : (c : Token) → is_end c ≡ true → going_on c ≡ false
end_goes c e = ap not e

end_semi : (c : Token) → is_end c ≡ true → is SEMICOLON c ≡ false
end_semi c e = is_just plain_fix SEMICOLON c ∙ apart_is plain_fix plain_fix ends (just SEMICOLON) refl c e

-- the end of the source stops all
end_stops : (c : Token) → is_end c ≡ true → (u : Item) → item_stop u (Some c) ≡ true
end_stops c e (t, []) = two_are _ _ (halts plain_fix ends strdec_goes is_end (λ c. refl) refl c e) (not_false (is SEMICOLON c) (end_semi c e))
end_stops c e (t, u ∷ us) = row_stop_alone (is SEMICOLON) (u ∷ us) (Some c) ∙ not_false (is SEMICOLON c) (end_semi c e)

module _ (cs : Changes) where
  abbrev fix : Settings
  fix = fixed cs

  abbrev start : Site
  start = (cs, Before.Fresh)

  abbrev pub program_in : Room → Reader Token Pr
  program_in k = program_read k.height k.clashes cs

  -- the rows of a program, up to its end
  abbrev TailD : Room → List Item × Place → List Token → Type 0
  TailD k = Both (Steps after_item (ItemR k) start) (Shows the_end)

  abbrev tail_in : Room → Reader Token (List Item × Place)
  tail_in k = both (steps going_on after_item (item_in k) start) (token_by the_end)

  abbrev LevelD : Room → Pr → List Token → Type 0
  LevelD k = ProgramD (λ c. TopR c k) (λ c. RunR c k) cs

  abbrev level_in : Room → Reader Token Pr
  level_in k = program_level (λ c. top_in c k) (λ c. run_in c k) cs

  -- ---- with what programs begin

  fresh_is : (c : Token) → begins_fresh cs c ≡ (among fix top_firsts c || among fix exp_firsts c)
  fresh_is c = ap (λ (b : Bool). b || among fix exp_firsts c) (steady plain_fix fix top_firsts refl refl refl c)

  program_is : (c : Token) → begins_program fix c ≡ (among fix top_firsts c || (among fix exp_firsts c || (is SEMICOLON c || is_end c)))
  program_is c = among_union fix top_firsts (union exp_firsts (union (just SEMICOLON) ends)) c
      ∙ (ap (λ (b : Bool). among fix top_firsts c || b) (among_union fix exp_firsts (union (just SEMICOLON) ends) c
      ∙ ap (λ (b : Bool). among fix exp_firsts c || b) (among_union fix (just SEMICOLON) ends c ∙ (ap (λ (b : Bool). b || among fix ends c) (sym (is_just fix SEMICOLON c)) ∙ ap (λ (b : Bool). is SEMICOLON c || b) (steady fix plain_fix ends refl refl refl c)))))

  of_fresh : (c : Token) → begins_fresh cs c ≡ true → begins_program fix c ≡ true
  of_fresh c e = program_is c ∙ go (among fix top_firsts c) (among fix exp_firsts c) (is SEMICOLON c || is_end c) (sym (fresh_is c) ∙ e)
    where
      go : (x y z : Bool) → (x || y) ≡ true → (x || (y || z)) ≡ true
      go true y z e = refl
      go false true z e = refl
      go false false z e = absurd cc

  of_semi : (c : Token) → is SEMICOLON c ≡ true → begins_program fix c ≡ true
  of_semi c e = program_is c ∙ go (among fix top_firsts c) (among fix exp_firsts c) (is SEMICOLON c) (is_end c) e
    where
      go : (x y z u : Bool) → z ≡ true → (x || (y || (z || u))) ≡ true
      go true y z u e = refl
      go false true z u e = refl
      go false false true u e = refl
      go false false false u e = absurd cc

  of_end : (c : Token) → is_end c ≡ true → begins_program fix c ≡ true
  of_end c e = program_is c ∙ go (among fix top_firsts c) (among fix exp_firsts c) (is SEMICOLON c) (is_end c) e
    where
      go : (x y z u : Bool) → u ≡ true → (x || (y || (z || u))) ≡ true
      go true y z u e = refl
      go false true z u e = refl
      go false false true u e = refl
      go false false false true e = refl
      go false false false false e = absurd cc

  abbrev Kinds : Bool → Bool → Bool → Type 0
  Kinds f s e = (f ≡ true) ⊎ ((s ≡ true) ⊎ (e ≡ true))

  kinds : (c : Token) → begins_program fix c ≡ true → Kinds (begins_fresh cs c) (is SEMICOLON c) (is_end c)
  kinds c e = go (among fix top_firsts c) (among fix exp_firsts c) (is SEMICOLON c) (is_end c) (fresh_is c) (sym (program_is c) ∙ e)
    where
      go : (x y z u : Bool) → begins_fresh cs c ≡ (x || y) → (x || (y || (z || u))) ≡ true → Kinds (begins_fresh cs c) z u
      go true y z u f e = inl f
      go false true z u f e = inl f
      go false false true u f e = inr (inl refl)
      go false false false true f e = inr (inr refl)
      go false false false false f e = absurd cc

  none_of : (c : Token) → begins_program fix c ≡ false → (begins_fresh cs c ≡ false) × (is SEMICOLON c ≡ false) × (is_end c ≡ false)
  none_of c e = (
    off (begins_fresh cs c) (begins_program fix c) (of_fresh c) e,
    off (is SEMICOLON c) (begins_program fix c) (of_semi c) e,
    off (is_end c) (begins_program fix c) (of_end c) e,
  )
    where
      off : (x y : Bool) → (x ≡ true → y ≡ true) → y ≡ false → x ≡ false
      off true y f e = let no : true ≡ false = sym (f refl) ∙ e in absurd cc
      off false y f e = refl

  module _ (s : Known) (n : ℕ) where
    -- ---- one level

    tail_now : Part s n 0 TailD tail_in always (λ x. max (highest item_height x.0) 0) 0 0
    tail_now = pair_then (items_exact s n start) the_last
        (λ us c e. row_stop_if going_on item_stop us (Some c) (end_goes c e) (end_stops c e))

    -- a program behind its first semicolons does not begin with one
    tail_semi : (k : Room) (us : List Item) (p : Place) (v r : List Token) → Fitting s n k → TailD k (us, p) v → head_is (is SEMICOLON) (first (v ++ r)) ≡ false
    tail_semi k [] p v r i d =
        let e = shows_begins the_end is_end (shown_test is_end place) p d.back d.right in
        subst (λ (z : List Token). head_is (is SEMICOLON) (first (z ++ r)) ≡ false) (sym (d.whole ∙ ap (λ (z : List Token). z ++ d.back) d.left)) (head_other is_end (is SEMICOLON) end_semi (first (d.back ++ r)) (head-append is_end d.back r e))
    tail_semi k (u ∷ us) p v r i d =
        head_other (begins_fresh cs) (is SEMICOLON) (fresh_semi s n cs) (first (v ++ r))
        (head-append (begins_fresh cs) v r (subst (λ (z : List Token). head_is (begins_fresh cs) (first z) ≡ true) (sym d.whole) (head-append (begins_fresh cs) d.front d.back (items_first s n cs k u us d.front i d.left))))

    semis_part : Part s n 0 (λ k. Row (Shows (the SEMICOLON))) (λ k. row (is SEMICOLON) (token_by (the SEMICOLON))) (row_stop (is SEMICOLON) always) (highest flat) 0 0
    semis_part = rows (the_word SEMICOLON) (λ t c e. refl)

    level_part : Part s n 1 LevelD level_in always height_of 0 0
    level_part = node_part program_of height_of always
        (numbered 0 0 (pair_by semis_part tail_now (λ x. always x)
        (λ k ps x v r i d e. (row_stop_alone (is SEMICOLON) ps (first (v ++ r)) ∙ not_false (head_is (is SEMICOLON) (first (v ++ r))) (tail_semi k x.0 x.1 v r i d), refl))
        (λ k ps x v r i d a b. refl)) (omega arith) (omega arith) (omega arith))
        (λ x. let a = all_flat x.0 in omega (arith, a)) (λ x o. refl)

    -- ---- how it begins

    abbrev begins : Token → Bool
    begins = begins_program fix

    tail_begins : (k : Room) (us : List Item) (p : Place) (w : List Token) → Fitting s n k → TailD k (us, p) w → head_is begins (first w) ≡ true
    tail_begins k [] p w i d =
        let e = shows_begins the_end is_end (shown_test is_end place) p d.back d.right in
        subst (λ (z : List Token). head_is begins (first z) ≡ true) (sym (d.whole ∙ ap (λ (z : List Token). z ++ d.back) d.left)) (head_to is_end begins of_end (first d.back) e)
    tail_begins k (u ∷ us) p w i d = head_to (begins_fresh cs) begins of_fresh (first w) (subst (λ (z : List Token). head_is (begins_fresh cs) (first z) ≡ true) (sym d.whole) (head-append (begins_fresh cs) d.front d.back (items_first s n cs k u us d.front i d.left)))

    level_begins : (k : Room) (ps : List Place) (x : List Item × Place) (w : List Token) → Fitting s n k → Both (Row (Shows (the SEMICOLON))) (TailD k) (ps, x) w → head_is begins (first w) ≡ true
    level_begins k [] x w i d = subst (λ (z : List Token). head_is begins (first z) ≡ true) (sym (d.whole ∙ ap (λ (z : List Token). z ++ d.back) d.left)) (tail_begins k x.0 x.1 d.back i d.right)
    level_begins k (p ∷ ps) x w i d =
        let j = d.left in
        let e = shows_begins (the SEMICOLON) (is SEMICOLON) (shown_test (is SEMICOLON) place) p j.front j.left in
        head_to (is SEMICOLON) begins of_semi (first w) (subst (λ (z : List Token). head_is (is SEMICOLON) (first z) ≡ true) (sym (d.whole ∙ ap (λ (z : List Token). z ++ d.back) j.whole)) (head-append (is SEMICOLON) (j.front ++ j.back) d.back (head-append (is SEMICOLON) j.front j.back e)))

    level_starts : (h : Room) (c : Token) → Fitting s n h → 6 ≤ h.height → begins c ≡ true → Viable (LevelD h) (c ∷ [])
    level_starts h c i le e = elim (kinds c e) [
      | inl a ↦
          let P = fresh_exact cs s n in
          let v = P.opening.starts h c i le a in
          let x : Item = (v.tree, []) in
          record {
            tree = program_of ([], (x ∷ [], nowhere));
            more = v.more ++ end_token ∷ [];
            derives = (
              ([], (x ∷ [], nowhere)),
              refl,
              record {
                front = [];
                back = c ∷ (v.more ++ end_token ∷ []);
                left = refl;
                right = record {
                  front = c ∷ v.more;
                  back = end_token ∷ [];
                  left = record { front = c ∷ v.more; back = []; left = record { front = c ∷ v.more; back = []; left = v.derives; right = refl; whole = sym (append-nil (c ∷ v.more)) }; right = refl; whole = sym (append-nil (c ∷ v.more)) };
                  right = record { token = end_token; shows = shown_is is_end place end_token refl; whole = refl };
                  whole = refl;
                };
                whole = refl;
              },
            );
          }
      | inr a ↦ elim a [
        | inl b ↦ record {
          tree = program_of (place c ∷ [], ([], nowhere));
          more = end_token ∷ [];
          derives = (
            (place c ∷ [], ([], nowhere)),
            refl,
            record {
              front = c ∷ [];
              back = end_token ∷ [];
              left = record { front = c ∷ []; back = []; left = record { token = c; shows = shown_is (is SEMICOLON) place c b; whole = refl }; right = refl; whole = refl };
              right = record { front = []; back = end_token ∷ []; left = refl; right = record { token = end_token; shows = shown_is is_end place end_token refl; whole = refl }; whole = refl };
              whole = refl;
            },
          );
        }
        | inr b ↦ record {
          tree = program_of ([], ([], place c));
          more = [];
          derives = (
            ([], ([], place c)),
            refl,
            record {
              front = [];
              back = c ∷ [];
              left = refl;
              right = record { front = []; back = c ∷ []; left = refl; right = record { token = c; shows = shown_is is_end place c b; whole = refl }; whole = refl };
              whole = refl;
            },
          );
        }
      ]
    ]

    no_semis : (v : List Token) → head_is (is SEMICOLON) (first v) ≡ false → row (is SEMICOLON) (token_by (the SEMICOLON)) v ≡ Ok ([], v)
    unfolding row_by
    no_semis [] e = refl
    no_semis (c ∷ v) e = rw e refl

    no_items : (k : Room) (c : Token) (v : List Token) → Reading s n k → begins_fresh cs c ≡ false → is_end c ≡ false → steps going_on after_item (item_in k) start (c ∷ v) ≡ Err (Grammar, c ∷ v)
    unfolding steps_by
    no_items k c v i e f =
        let P = fresh_exact cs s n in
        let none : item_in k start (c ∷ v) ≡ Err (Grammar, c ∷ v) = rw (P.opening.bars k (c ∷ v) i e) refl in
        rw f (rw none refl)

    level_bars : (k : Room) (v : List Token) → Reading s n k → head_is begins (first v) ≡ false → level_in k v ≡ Err (Grammar, v)
    unfolding steps_by
    level_bars k [] i e = rw (no_semis [] refl) refl
    level_bars k (c ∷ v) i e =
        let three = none_of c e in
        rw (no_semis (c ∷ v) three.1) (rw (no_items k c v i three.0 three.2) refl)

    program_now : Phrase s n 1 LevelD level_in always height_of 0 0 begins 6
    program_now = record {
      part = level_part;
      opening = record {
        begins = λ k t w i d. level_begins k d.0.0 d.0.1 w i d.2;
        starts = λ h c i l e. level_starts h c i l e;
        bars = λ k v i e. level_bars k v i e;
      };
    }

  -- ---- all heights

  abbrev pub ProgramP : Known → ℕ → Type 0
  ProgramP s n = Phrase s n 0 (ProgramR cs) program_in always height_of 1 0 (begins_program fix) 7

  program_knot : Knot (ProgramR cs) LevelD program_in level_in (begins_program fix)
  unfolding program_on program_read
  program_knot = record { none = λ b t w d. d; out = λ h b t w d. d; into = λ h b t w d. d; empty = λ b v. refl; next = λ h b v. refl }

  tower : Tower ProgramP
  tower = record {
    sizes = lowest_sizes program_knot;
    readings = λ f. lowest_readings program_knot f;
    refusals = λ f. lowest_refusals program_knot f;
    next = λ s n a. lifted program_knot (program_now s n);
  }

  -- programs are read exactly
  pub program_exact : (s : Known) (n : ℕ) → ProgramP s n
  program_exact = all_of ProgramP tower

  -- with the directives in force behind them
  abbrev pub source_in : Room → Reader Token (Pr × Changes)
  source_in k = source_read k.height k.clashes cs

  abbrev left_with : Pr → Pr × Changes
  left_with t = (t, left_by cs t)

  pub source_exact : (s : Known) (n : ℕ) → Phrase s n 0 (SourceR cs) source_in always (λ x. x.0.1) 1 0 (begins_program fix) 7
  source_exact s n = spoken (made_phrase left_with (λ x. x.0.1) always (program_exact s n) (λ t. refl) (λ t o. refl))
      (λ k x w d. subst (λ (x : Pr × Changes). SourceR cs k x w) d.1 (d.2, refl)) (λ k x w d. (x.0, ap (λ (c : Changes). (x.0, c)) (sym d.1), d.0))
