-- Top-level declarations and expressions are read exactly, and what may stand at each place of a program.
use Rattle.std.proofs.Common.{◌≡◌, ℕ, ◌≤◌, Bool, true, false, not, ◌||◌, ◌&&◌, List, [], ◌∷◌, ◌++◌, Option, Err, refl, sym, ap, subst, ◌∙◌, arith, inl, inr}
use Rattle.readers.specs.declared.code.Code.{Code}
use Rattle.readers.specs.declared.code.Code.TheVariants.{Grammar}
use Rattle.readers.specs.Reader.{first, head_is, Reader, both, mapped, token_by, steps, shut}
use Rattle.readers.specs.Language.{Both, Shows, Steps, As, Or}
use Rattle.readers.specs.Room.{Room}
use Rattle.readers.specs.Exact.{Reads, Refuses, row_stop}
use Rattle.readers.specs.Forms.{ended, else_if, highest, height_of}
use Rattle.readers.proofs.Bundle.{Known, Fitting, Reading, Refusing, Part, Phrase}
use Rattle.readers.proofs.Combine.{phrase, node, pair_by, sized}
use Rattle.readers.proofs.Choose.{last, ends_phrase, choice_if, some_of}
use Rattle.readers.proofs.First.{head_to}
use Rattle.readers.proofs.Levels.{Knot, Tower, all_of, lifted, lowest_sizes, lowest_readings, lowest_refusals}
use Rattle.readers.proofs.Outcome.{head_some, head-append}
use Rattle.readers.proofs.Repeat.{Turns, stepped}
use Rattle.readers.proofs.Row.{not_false, row_stop_alone}
use Rattle.readers.proofs.Grow.{two_are}
use Rattle.sml_lex.specs.declared.token.Token.{Token}
use Rattle.sml_ast.specs.declared.program.Top.TheVariants as tops
use Rattle.sml_grammar.specs.Words.{FUNCTOR, SEMICOLON, SIGNATURE}
use Rattle.sml_grammar.specs.Tokens.{Firsts, just, union, is, the, among, plain_fix, tokens_of}
use Rattle.sml_grammar.proofs.Sets.{is_just, apart, apart_is, pick}
use Rattle.sml_grammar.proofs.Shapes.{stops, halts, the_word}
use Rattle.sml_grammar.proofs.Joined.{narrow}
use Rattle.sml_grammar.proofs.Types.{ty_goes}
use Rattle.sml_grammar_exp.specs.Decs.{Changes, fixed, SemisD}
use Rattle.sml_grammar_exp.specs.ReadExps.{exp_firsts, begins_exp}
use Rattle.sml_grammar_exp.specs.ReadDecs.{dec_goes, semis_read}
use Rattle.sml_grammar_exp.specs.Levels.{ExpR}
use Rattle.sml_grammar_exp.proofs.Binds.{all_flat}
use Rattle.sml_grammar_exp.proofs.Decs.{exp_over}
use Rattle.sml_grammar_exp.proofs.Knot.{exp_in}
use Rattle.sml_grammar_exp.proofs.Parts.{numbered, numbered_phrase}
use Rattle.sml_grammar_exp.proofs.Whole.{exp_exact}
use Rattle.sml_grammar_sig.specs.ReadSigs.{sig_goes}
use Rattle.sml_grammar_sig.proofs.Chain.{spoken}
use Rattle.sml_grammar_sig.proofs.Sigs.{real_stop}
use Rattle.sml_grammar_mod.specs.Strs.{StrDecR, SigBindR, FunBindR}
use Rattle.sml_grammar_mod.specs.ReadStrs.{strdec_firsts, strdec_goes}
use Rattle.sml_grammar_mod.specs.Programs.{Tp, Item, Before, Site, strs_of, sigs_of, funs_of, run_of, behind, after_item, item_height, ends, is_end, TopD, RunD, TopItemD, top_on, run_on, TopR, RunR}
use Rattle.sml_grammar_mod.specs.ReadPrograms.{top_firsts, begins_top, top_level, run_level, item_read, going_on, top_read, run_read}
use Rattle.sml_grammar_mod.proofs.Rows.{sig_end, SigBindsR, sigbinds_in, sigbinds_exact, fun_end, FunBindsR, funbinds_in}
use Rattle.sml_grammar_mod.proofs.Decs.{strdec_stop, strdec_in, semis_now, closed_stop, closed_split, closed_join}
use Rattle.sml_grammar_mod.proofs.StrDecs.{str_ends, last_over}
use Rattle.sml_grammar_mod.proofs.Knot.{strdec_exact, funbinds_exact}

-- ---- one level

sig_over : (r : Bool) (o : Option Token) → stops strdec_goes o ≡ true → real_stop r o ≡ true
sig_over true o e = two_are _ _ (narrow plain_fix ty_goes strdec_goes refl o e) (narrow plain_fix sig_goes strdec_goes refl o e)
sig_over false o e = two_are _ _ refl (narrow plain_fix sig_goes strdec_goes refl o e)

module _ (cs : Changes) where
  abbrev pub top_in : Room → Reader Token Tp
  top_in k = top_read k.height k.clashes cs

  abbrev pub run_in : Room → Reader Token Tp
  run_in k = run_read k.height k.clashes cs

  abbrev SigsD : Room → Tp → List Token → Type 0
  SigsD k = As sigs_of (Both (Shows (the SIGNATURE)) (SigBindsR k))

  abbrev FunsD : Room → Tp → List Token → Type 0
  FunsD k = As funs_of (Both (Shows (the FUNCTOR)) (FunBindsR cs k))

  abbrev top_by : Room → Reader Token Tp
  top_by k = top_level (strdec_in k cs) (sigbinds_in k) (funbinds_in cs k) k.height

  module _ (s : Known) (n : ℕ) where
    strs_now : Phrase s n 1 (λ k. As strs_of (StrDecR cs k)) (λ k. mapped strs_of (strdec_in k cs)) strdec_stop height_of 2 0 (tokens_of strdec_firsts) 5
    strs_now = node strs_of height_of strdec_stop (strdec_exact cs s n) (λ x. refl) (λ x o. refl)

    sigs_now : Phrase s n 1 SigsD (λ k. mapped sigs_of (ended (tokens_of strdec_goes) (both (token_by (the SIGNATURE)) (sigbinds_in k)))) strdec_stop height_of 2 2 (is SIGNATURE) 2
    sigs_now = let B = sigbinds_exact s n in numbered_phrase 2 2 2 (node sigs_of height_of strdec_stop
        (ends_phrase (tokens_of strdec_goes) (phrase (the_word SIGNATURE) B.part) (λ k t w o i d e. last_over sig_end o (λ b. sig_over _ o e) t.1)) (λ x. omega arith) (λ x o. refl)) (omega arith) (omega arith) (omega arith) (omega arith)

    funs_now : Phrase s n 1 FunsD (λ k. mapped funs_of (ended (tokens_of strdec_goes) (both (token_by (the FUNCTOR)) (funbinds_in cs k)))) strdec_stop height_of 2 2 (is FUNCTOR) 2
    funs_now = let B = funbinds_exact cs s n in numbered_phrase 2 2 2 (node funs_of height_of strdec_stop
        (ends_phrase (tokens_of strdec_goes) (phrase (the_word FUNCTOR) B.part) (λ k t w o i d e. last_over fun_end o (λ b. str_ends (_, 0) o e) t.1)) (λ x. omega arith) (λ x o. refl)) (omega arith) (omega arith) (omega arith) (omega arith)

    top_to : (k : Room) (t : Tp) (w : List Token) → Or (SigsD k) (Or (FunsD k) (As strs_of (StrDecR cs k))) t w → TopD (StrDecR cs k) (SigBindR k) (FunBindR cs k) t w
    top_to k t w (inl d) = inr (inl d)
    top_to k t w (inr (inl d)) = inr (inr d)
    top_to k t w (inr (inr d)) = inl d

    top_from : (k : Room) (t : Tp) (w : List Token) → TopD (StrDecR cs k) (SigBindR k) (FunBindR cs k) t w → Or (SigsD k) (Or (FunsD k) (As strs_of (StrDecR cs k))) t w
    top_from k t w (inl d) = inr (inr d)
    top_from k t w (inr (inl d)) = inl d
    top_from k t w (inr (inr d)) = inr (inl d)

    top_now : Phrase s n 1 (λ k. TopD (StrDecR cs k) (SigBindR k) (FunBindR cs k)) top_by strdec_stop height_of 2 0 begins_top 5
    top_now = spoken (numbered_phrase 2 0 5
        (pick plain_fix (just SIGNATURE) (union (just FUNCTOR) strdec_firsts) (is_just plain_fix SIGNATURE) (λ c. refl) sigs_now
        (pick plain_fix (just FUNCTOR) strdec_firsts (is_just plain_fix FUNCTOR) (λ c. refl) funs_now strs_now (omega arith) (omega arith) refl)
        (omega arith) (omega arith) refl) (omega arith) (omega arith) (omega arith) (omega arith)) top_to top_from

    run_now : Phrase s n 1 (λ k. RunD (ExpR cs k)) (λ k. run_level (fixed cs) (exp_in cs k) k.height) strdec_stop height_of 2 0 (begins_exp (fixed cs)) 4
    run_now = last (node run_of height_of strdec_stop
        (ends_phrase (tokens_of strdec_goes) (exp_exact cs s n) (λ k t w o i d e. exp_over t.0.1.typed t.0.1.reach o (narrow plain_fix dec_goes strdec_goes refl o e))) (λ x. refl) (λ x o. refl)) (omega arith)

  -- ---- all heights

  abbrev pub TopP : Known → ℕ → Type 0
  TopP s n = Phrase s n 0 (TopR cs) top_in strdec_stop height_of 3 0 begins_top 6

  abbrev pub RunP : Known → ℕ → Type 0
  RunP s n = Phrase s n 0 (RunR cs) run_in strdec_stop height_of 3 0 (begins_exp (fixed cs)) 5

  top_knot : Knot (TopR cs) (λ k. TopD (StrDecR cs k) (SigBindR k) (FunBindR cs k)) top_in top_by begins_top
  unfolding top_on top_read
  top_knot = record { none = λ b t w d. d; out = λ h b t w d. d; into = λ h b t w d. d; empty = λ b v. refl; next = λ h b v. refl }

  run_knot : Knot (RunR cs) (λ k. RunD (ExpR cs k)) run_in (λ k. run_level (fixed cs) (exp_in cs k) k.height) (begins_exp (fixed cs))
  unfolding run_on run_read
  run_knot = record { none = λ b t w d. d; out = λ h b t w d. d; into = λ h b t w d. d; empty = λ b v. refl; next = λ h b v. refl }

  top_tower : Tower TopP
  top_tower = record {
    sizes = lowest_sizes top_knot;
    readings = λ f. lowest_readings top_knot f;
    refusals = λ f. lowest_refusals top_knot f;
    next = λ s n a. lifted top_knot (top_now s n);
  }

  pub top_exact : (s : Known) (n : ℕ) → TopP s n
  top_exact = all_of TopP top_tower

  run_tower : Tower RunP
  run_tower = record {
    sizes = lowest_sizes run_knot;
    readings = λ f. lowest_readings run_knot f;
    refusals = λ f. lowest_refusals run_knot f;
    next = λ s n a. lifted run_knot (run_now s n);
  }

  pub run_exact : (s : Known) (n : ℕ) → RunP s n
  run_exact = all_of RunP run_tower

  -- ---- at the start and behind a semicolon

  abbrev pub begins_fresh : Token → Bool
  begins_fresh c = begins_top c || begins_exp (fixed cs) c

  pub fresh_exact : (s : Known) (n : ℕ) → Phrase s n 0 (λ k. Or (TopR cs k) (RunR cs k)) (λ k. else_if begins_top (top_in k) (run_in k)) strdec_stop height_of 3 0 begins_fresh 6
  fresh_exact s n = numbered_phrase 3 0 6 (choice_if (top_exact s n) (run_exact s n) (omega arith) (λ c e. apart_is (fixed cs) plain_fix exp_firsts top_firsts refl c e)) (omega arith) (omega arith) (omega arith) (omega arith)

-- ---- what may stand at a place, with the semicolons behind it

abbrev pub ItemR : Room → Site → Item → List Token → Type 0
ItemR k = TopItemD (λ c. TopR c k) (λ c. RunR c k)

abbrev pub item_in : Room → Site → Reader Token Item
item_in k = item_read (λ c. top_in c k) (λ c. run_in c k)

abbrev pub item_stop : Item → Option Token → Bool
item_stop = closed_stop

module _ {s : Known} {n : ℕ} {D : Room → Tp → List Token → Type 0} {p : Room → Reader Token Tp} {low : ℕ} (P : Part s n 0 D p strdec_stop height_of low 0) where
  with_semis : Part s n 0 (λ k. Both (D k) SemisD) (λ k. both (p k) semis_read) item_stop item_height low 0
  with_semis = sized item_height (numbered low 0 (pair_by P semis_now item_stop (λ k x y v r i d e. closed_split x y v r d e) (λ k x y v r i d a b. closed_join x y v r d a b)) (omega arith) (omega arith) (omega arith)) (λ x. let a = all_flat x.1 in omega (arith, a))

shut_is : {T : Type 0} (v : List Token) → shut {T = T} (λ (c : Token). false) v ≡ Err (Grammar, v)
shut_is [] = refl
shut_is (c ∷ v) = refl

-- nothing stands right behind an expression
abbrev Nowhere : Item → List Token → Type 0
Nowhere = Both (λ (t : Tp) (w : List Token). ⊥) SemisD

abbrev nowhere_in : Reader Token Item
nowhere_in = both (shut (λ c. false)) semis_read

nowhere_is : (v : List Token) → nowhere_in v ≡ Err (Grammar, v)
nowhere_is v = rw (shut_is {T = Tp} v) refl

item_err : (d e : Code × List Token) → mapped (λ (x : Item). x) (λ v. Err d) [] ≡ Err e → d ≡ e
item_err d e i = cc

nowhere_refuses : (h : Room) (v : List Token) (e : Code × List Token) → nowhere_in v ≡ Err e → Refuses (λ k. Nowhere) (λ k. nowhere_in) h v e
nowhere_refuses h v e j = subst (λ (e : Code × List Token). Refuses (λ k. Nowhere) (λ k. nowhere_in) h v e) (item_err (Grammar, v) e (sym (nowhere_is v) ∙ j)) (record {
  read = [];
  parts = refl;
  viable = inl refl;
  local = λ k q al o. nowhere_is q;
  deep = λ dp. absurd (dp refl);
})

not_end : (f : _) (a : Firsts) → apart a ends ≡ true → (c : Token) → among f a c ≡ true → going_on c ≡ true
not_end f a e c i = not_false (is_end c) (apart_is f plain_fix a ends e c i)

not_semi : (f : _) (a : Firsts) → apart a (just SEMICOLON) ≡ true → (c : Token) → among f a c ≡ true → is SEMICOLON c ≡ false
not_semi f a e c i = is_just plain_fix SEMICOLON c ∙ apart_is f plain_fix a (just SEMICOLON) e c i

module _ (s : Known) (n : ℕ) where
  -- with what an item begins where something may stand
  top_begins : (k : Room) (c : Changes) (u : Item) (w : List Token) → Fitting s n k → Both (TopR c k) SemisD u w → head_is begins_top (first w) ≡ true
  top_begins k c u w i d = let P = top_exact c s n in subst (λ (z : List Token). head_is begins_top (first z) ≡ true) (sym d.whole) (head-append begins_top d.front d.back (P.opening.begins k u.0 d.front i d.left))

  fresh_begins : (k : Room) (c : Changes) (u : Item) (w : List Token) → Fitting s n k → Both (Or (TopR c k) (RunR c k)) SemisD u w → head_is (begins_fresh c) (first w) ≡ true
  fresh_begins k c u w i d = let P = fresh_exact c s n in subst (λ (z : List Token). head_is (begins_fresh c) (first z) ≡ true) (sym d.whole) (head-append (begins_fresh c) d.front d.back (P.opening.begins k u.0 d.front i d.left))

  fresh_goes : (c : Changes) (t : Token) → begins_fresh c t ≡ true → going_on t ≡ true
  fresh_goes c t e = elim (some_of (begins_top t) (begins_exp (fixed c) t) e) [ inl a ↦ not_end plain_fix top_firsts refl t a | inr a ↦ not_end (fixed c) exp_firsts refl t a ]

  pub fresh_semi : (c : Changes) (t : Token) → begins_fresh c t ≡ true → is SEMICOLON t ≡ false
  fresh_semi c t e = elim (some_of (begins_top t) (begins_exp (fixed c) t) e) [ inl a ↦ not_semi plain_fix top_firsts refl t a | inr a ↦ not_semi (fixed c) exp_firsts refl t a ]

  item_begins : (k : Room) (c : Changes) (b : Before) (u : Item) (w : List Token) → Fitting s n k → ItemR k (c, b) u w → head_is going_on (first w) ≡ true
  item_begins k c Before.Fresh u w i d = head_to (begins_fresh c) going_on (fresh_goes c) (first w) (fresh_begins k c u w i d)
  item_begins k c Before.Declared u w i d = head_to begins_top going_on (λ t e. not_end plain_fix top_firsts refl t e) (first w) (top_begins k c u w i d)
  item_begins k c Before.Evaluated u w i d = absurd d.left

  fresh_part : (c : Changes) → Part s n 0 (λ k. ItemR k (c, Before.Fresh)) (λ k. item_in k (c, Before.Fresh)) item_stop item_height 3 0
  fresh_part c = let P = fresh_exact c s n in with_semis P.part

  declared_part : (c : Changes) → Part s n 0 (λ k. ItemR k (c, Before.Declared)) (λ k. item_in k (c, Before.Declared)) item_stop item_height 3 0
  declared_part c = let P = top_exact c s n in with_semis P.part

  item_least : (k : Room) (c : Changes) (b : Before) (u : Item) (w : List Token) → Fitting s n k → ItemR k (c, b) u w → item_height u ≤ k.height
  item_least k c Before.Fresh u w i d = let P = fresh_part c in let a = P.least k u w i d in omega (arith, a)
  item_least k c Before.Declared u w i d = let P = declared_part c in let a = P.least k u w i d in omega (arith, a)
  item_least k c Before.Evaluated u w i d = absurd d.left

  item_fits : (h k : Room) (c : Changes) (b : Before) (u : Item) (w : List Token) → Fitting s n h → (h.clashes ≡ true → k.clashes ≡ true) → item_height u ≤ k.height → ItemR h (c, b) u w → ItemR k (c, b) u w
  item_fits h k c Before.Fresh u w i f l d = let P = fresh_part c in P.fits h k u w i f (omega (arith, l)) d
  item_fits h k c Before.Declared u w i f l d = let P = declared_part c in P.fits h k u w i f (omega (arith, l)) d
  item_fits h k c Before.Evaluated u w i f l d = absurd d.left

  item_reads : (k : Room) (c : Changes) (b : Before) → Reading s n k → Reads (ItemR k (c, b)) item_stop (item_in k (c, b))
  item_reads k c Before.Fresh i = let P = fresh_part c in P.reads k i
  item_reads k c Before.Declared i = let P = declared_part c in P.reads k i
  item_reads k c Before.Evaluated i = record {
    complete = λ t w r d e. absurd d.left;
    sound = λ v z e. let no = sym (nowhere_is v) ∙ e in absurd cc;
  }

  item_refuses : (h : Room) (c : Changes) (b : Before) → Refusing s n h → (v : List Token) (e : Code × List Token) → item_in h (c, b) v ≡ Err e → Refuses (λ k. ItemR k (c, b)) (λ k. item_in k (c, b)) h v e
  item_refuses h c Before.Fresh i v e j = let P = fresh_part c in P.refuses h i (omega arith) v e j
  item_refuses h c Before.Declared i v e j = let P = declared_part c in P.refuses h i (omega arith) v e j
  item_refuses h c Before.Evaluated i v e j = nowhere_refuses h v e j

  item_turns : Turns s n ItemR item_in item_stop item_height 0 going_on
  item_turns = record {
    least = λ k x u w i d. item_least k x.0 x.1 u w i d;
    fits = λ h k x u w i f l d. item_fits h k x.0 x.1 u w i f l d;
    begins = λ k x u w i d. item_begins k x.0 x.1 u w i d;
    reads = λ k x i. item_reads k x.0 x.1 i;
    refuses = λ h x i l v e j. item_refuses h x.0 x.1 i v e j;
  }

  -- what follows an item stops it
  top_halts : (o : Option Token) → head_is begins_top o ≡ true → (stops strdec_goes o && not (head_is (is SEMICOLON) o)) ≡ true
  top_halts o e =
      let c = head_some begins_top o e in
      ap (λ (o : Option Token). stops strdec_goes o && not (head_is (is SEMICOLON) o)) c.1
      ∙ two_are _ _ (halts plain_fix top_firsts strdec_goes begins_top (λ c. refl) refl c.0 c.2) (not_false (is SEMICOLON c.0) (not_semi plain_fix top_firsts refl c.0 c.2))

  declared_next : (k : Room) (c : Changes) (v : Item) (w r : List Token) → Fitting s n k → ItemR k (c, Before.Declared) v w → (stops strdec_goes (first (w ++ r)) && not (head_is (is SEMICOLON) (first (w ++ r)))) ≡ true
  declared_next k c v w r i d = top_halts (first (w ++ r)) (head-append begins_top w r (top_begins k c v w i d))

  item_next : (k : Room) (c : Changes) (t : Tp) (us : List (Unit {0})) (v : Item) (w r : List Token) → Fitting s n k → ItemR k (c, behind t.0 us) v w → item_stop (t, us) (first (w ++ r)) ≡ true
  item_next k c (tops.Strs p x, h) [] v w r i d = declared_next k c v w r i d
  item_next k c (tops.Sigs p x, h) [] v w r i d = declared_next k c v w r i d
  item_next k c (tops.Funs p x, h) [] v w r i d = declared_next k c v w r i d
  item_next k c (tops.Run p x, h) [] v w r i d = absurd d.left
  item_next k c t (u ∷ us) v w r i d =
      let g = head_some (begins_fresh c) (first (w ++ r)) (head-append (begins_fresh c) w r (fresh_begins k c v w i d)) in
      row_stop_alone (is SEMICOLON) (u ∷ us) (first (w ++ r)) ∙ (ap (λ (o : Option Token). not (head_is (is SEMICOLON) o)) g.1 ∙ not_false (is SEMICOLON g.0) (fresh_semi c g.0 g.2))

  -- rows of them
  pub items_exact : (x : Site) → Part s n 0 (λ k. Steps after_item (ItemR k) x) (λ k. steps going_on after_item (item_in k) x) (row_stop going_on item_stop) (highest item_height) 0 0
  items_exact = stepped after_item item_turns (λ k x u v w r i d. item_next k (after_item x u).0 u.0 u.1 v w r i d)

  pub items_first : (c : Changes) (k : Room) (u : Item) (us : List Item) (w : List Token) → Fitting s n k → Steps after_item (ItemR k) (c, Before.Fresh) (u ∷ us) w → head_is (begins_fresh c) (first w) ≡ true
  items_first c k u us w i d = subst (λ (z : List Token). head_is (begins_fresh c) (first z) ≡ true) (sym d.whole) (head-append (begins_fresh c) d.front d.back (fresh_begins k c u d.front i d.left))
