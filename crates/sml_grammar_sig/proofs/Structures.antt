-- Rows of identifiers with their signatures are read exactly: behind `and` comes a type for the last one, or the next one.
use Rattle.std.proofs.Common.{◌≡◌, ◌⊎◌, ℕ, ◌≤◌, max, Bool, true, false, not, ◌&&◌, List, [], ◌∷◌, ◌++◌, Option, Some, refl, sym, ap, subst, ◌∙◌, arith, append_assoc, inl, inr}
use Rattle.std.proofs.lemmas.List.{append-nil}
use Rattle.readers.specs.Reader.{first, head_is, Reader, token_by, skip}
use Rattle.readers.specs.Language.{Bound, Steps, Passing, Row, As, Or, Skip, Shows}
use Rattle.readers.specs.Room.{Room}
use Rattle.readers.specs.Infix.{ups}
use Rattle.readers.specs.Exact.{always, row_stop}
use Rattle.readers.specs.Forms.{growth, height_of, highest, Seps, cons_of}
use Rattle.readers.proofs.Bundle.{Known, Fitting, Phrase}
use Rattle.readers.proofs.Combine.{token, phrase, made_phrase, shown_test, sized_phrase}
use Rattle.readers.proofs.First.{shows_begins}
use Rattle.readers.proofs.Outcome.{head-append}
use Rattle.readers.proofs.Grow.{after_first, after_in}
use Rattle.sml_lex.specs.declared.token.Token.{Token}
use Rattle.sml_grammar.specs.Words.{AND, TYPE, WHERE}
use Rattle.sml_grammar.specs.Tokens.{just, is, ident, plain_fix, tokens_of, alphas, strid}
use Rattle.sml_grammar.proofs.Sets.{is_just, pick_if}
use Rattle.sml_grammar.proofs.Shapes.{name_token, stops, past_word}
use Rattle.sml_grammar.proofs.Types.{ty_goes}
use Rattle.sml_grammar_sig.specs.Descs.{RealBindR}
use Rattle.sml_grammar_sig.specs.Sigs.{Sx, Ss, BoundD, is_real, part_height, WhereD, HeadR, SigR}
use Rattle.sml_grammar_sig.specs.ReadSigs.{Suffix, at_where, at_and, suffixed, below, goes_on, head_in, Turn, turned, gathered_from, gathered, str_read, next_read, more_read, there_read, turn_by, turn_read, strs_level}
use Rattle.sml_grammar_exp.proofs.Parts.{numbered_phrase}
use Rattle.sml_grammar_sig.proofs.Descs.{flat, RealBindP, real_bind_in}
use Rattle.sml_grammar_sig.proofs.Chain.{guarded, chained}
use Rattle.sml_grammar_sig.proofs.Sigs.{HeadP, real_stop, sig_stop, suffix_height, suffix_real, goes_halts, SuffixD, SuffixR, where_now, and_now, sig_least, sig_lowest, sig_fits, sig_alone, sig_join, sig_parts, head_plain}

module _ (word : ℕ) where
  -- ---- what may stand behind a structure

  abbrev NextD : Room → Turn → List Token → Type 0
  NextD k = As Turn.Next (BoundD word (HeadR k))

  abbrev MoreD : Room → ℕ → Turn → List Token → Type 0
  MoreD k m = As (λ b. Turn.More (at_and b)) (Passing (growth (is TYPE) true m k.height) (Skip (is TYPE) (RealBindR k)))

  abbrev ThereD : Room → ℕ → Turn → List Token → Type 0
  ThereD k m = As Turn.More (Passing (growth (is WHERE) true m k.height) (As at_where (WhereD (RealBindR k))))

  -- after a `where` a type may stand behind `and`
  abbrev TurnD : Bool → Room → ℕ → Turn → List Token → Type 0
  TurnD true k m = Or (Skip (is AND) (Or (NextD k) (MoreD k m))) (ThereD k m)
  TurnD false k m = Or (Skip (is AND) (NextD k)) (ThereD k m)

  abbrev TurnR : Room → Ss → Turn → List Token → Type 0
  TurnR k x = TurnD (is_real x.1) k (below x.1)

  abbrev turn_height : ℕ → Turn → ℕ
  turn_height m (Turn.Next t) = t.1.1
  turn_height m (Turn.More u) = max m (suffix_height u)

  abbrev turn_stop : Turn → Option Token → Bool
  turn_stop (Turn.Next t) o = true
  turn_stop (Turn.More u) o = stops ty_goes o

  abbrev pub strs_in : Room → Reader Token (List Ss)
  strs_in r = strs_level word (head_in r) (real_bind_in r) r.height

  -- {strid : SigExp}/and
  abbrev pub StrsR : Room → List Ss → List Token → Type 0
  StrsR k = Seps (is AND) (BoundD word (SigR k))

  -- what stops the last one
  abbrev pub strs_stop : List Ss → Option Token → Bool
  strs_stop [] o = true
  strs_stop (x ∷ []) o = sig_stop x.1 o
  strs_stop (x ∷ y ∷ ys) o = strs_stop (y ∷ ys) o

  abbrev pub StrsP : Known → ℕ → Type 0
  StrsP s n = Phrase s n 0 StrsR strs_in strs_stop (highest part_height) 1 1 (tokens_of alphas) 1

  more_is : (u v : Suffix) → Turn.More u ≡ Turn.More v → u ≡ v
  more_is u v e = cc

  next_is : (x y : Ss) → Turn.Next x ≡ Turn.Next y → x ≡ y
  next_is x y e = cc

  module _ {s : Known} {n : ℕ} (R : RealBindP s n) (H : HeadP s n) where
    a_strid : Phrase s n 0 (λ k. Shows strid) (λ k. token_by strid) always flat 0 0 (tokens_of alphas) 0
    a_strid = token (tokens_of alphas) ident name_token refl

    a_str : Phrase s n 0 (λ k. BoundD word (HeadR k)) (λ k. str_read word (head_in k)) always part_height 1 1 (tokens_of alphas) 1
    a_str = let B = past_word word H.part in numbered_phrase 1 1 1 (sized_phrase part_height (phrase a_strid B.part) (λ x. omega arith)) (omega arith) (omega arith) (omega arith) (omega arith)

    next_now : (m : ℕ) → Phrase s n 0 NextD (λ k. next_read word (head_in k)) turn_stop (turn_height m) 1 1 (tokens_of alphas) 1
    next_now m = made_phrase Turn.Next (turn_height m) turn_stop a_str (λ x. refl) (λ x o. refl)

    typed : Phrase s n 0 (λ k. Skip (is TYPE) (RealBindR k)) (λ k. skip (is TYPE) (real_bind_in k)) (λ b. stops ty_goes) height_of 2 2 (is TYPE) 2
    typed = past_word TYPE R.part

    more_now : (m : ℕ) → 2 ≤ m → Phrase s n 0 (λ k. MoreD k m) (λ k. more_read (real_bind_in k) m k.height) turn_stop (turn_height m) m 0 (is TYPE) (max m 2)
    more_now m le = made_phrase (λ b. Turn.More (at_and b)) (turn_height m) turn_stop (guarded typed m le le) (λ x. refl) (λ x o. refl)

    there_now : (m : ℕ) → 2 ≤ m → Phrase s n 0 (λ k. ThereD k m) (λ k. there_read (real_bind_in k) m k.height) turn_stop (turn_height m) m 0 (is WHERE) (max m 2)
    there_now m le = made_phrase Turn.More (turn_height m) turn_stop (guarded (where_now R) m le le) (λ x. refl) (λ x o. refl)

    turn_now : (r : Bool) (m : ℕ) → 2 ≤ m → Phrase s n 0 (λ k. TurnD r k m) (λ k. turn_by r word (head_in k) (real_bind_in k) m k.height) turn_stop (turn_height m) 1 1 goes_on m
    turn_now true m le = numbered_phrase 1 1 m
        (pick_if plain_fix (just AND) (just WHERE) (is_just plain_fix AND) (is_just plain_fix WHERE)
        (past_word AND (let Q = pick_if plain_fix alphas (just TYPE) (λ c. refl) (is_just plain_fix TYPE) (next_now m) (more_now m le) (omega (arith, le)) refl in Q.part))
        (there_now m le) (omega (arith, le)) refl) (omega arith) (omega arith) (omega arith) (omega (arith, le))
    turn_now false m le = numbered_phrase 1 1 m
        (pick_if plain_fix (just AND) (just WHERE) (is_just plain_fix AND) (is_just plain_fix WHERE) (past_word AND (let Q = next_now m in Q.part)) (there_now m le) (omega (arith, le)) refl)
        (omega arith) (omega arith) (omega arith) (omega (arith, le))

    item : (x : Ss) → Phrase s n 0 (λ k. TurnR k x) (λ k. turn_read word (head_in k) (real_bind_in k) k.height x) turn_stop (turn_height (below x.1)) 1 1 goes_on (below x.1)
    item x = turn_now (is_real x.1) (below x.1) (omega arith)

    -- ---- what holds of rows

    str_least : (k : Room) (x : Ss) (w : List Token) → Fitting s n k → BoundD word (SigR k) x w → x.1.1 ≤ k.height
    str_least k x w i d = sig_least R H k.height k.clashes x.1 d.right.back i d.right.right

    str_fits : (h k : Room) (x : Ss) (w : List Token) → Fitting s n h → (h.clashes ≡ true → k.clashes ≡ true) → x.1.1 ≤ k.height → BoundD word (SigR h) x w → BoundD word (SigR k) x w
    str_fits h k x w i f le d = record {
      front = d.front;
      back = d.back;
      left = d.left;
      right = record { front = d.right.front; back = d.right.back; left = d.right.left; right = sig_fits R H h.height k.height h.clashes k.clashes x.1 d.right.back i f le d.right.right; whole = d.right.whole };
      whole = d.whole;
    }

    row_least : (k : Room) (xs : List Ss) (w : List Token) → Fitting s n k → Row (Skip (is AND) (BoundD word (SigR k))) xs w → highest part_height xs ≤ k.height
    row_least k [] w i d = omega arith
    row_least k (x ∷ xs) w i d = let a = str_least k x d.left.back i d.left.right in let b = row_least k xs d.back i d.right in omega (arith, a, b)

    row_fits : (h k : Room) (xs : List Ss) (w : List Token) → Fitting s n h → (h.clashes ≡ true → k.clashes ≡ true) → highest part_height xs ≤ k.height → Row (Skip (is AND) (BoundD word (SigR h))) xs w → Row (Skip (is AND) (BoundD word (SigR k))) xs w
    row_fits h k [] w i f le d = d
    row_fits h k (x ∷ xs) w i f le d = record {
      front = d.front;
      back = d.back;
      left = record { front = d.left.front; back = d.left.back; left = d.left.left; right = str_fits h k x d.left.back i f (omega (arith, le)) d.left.right; whole = d.left.whole };
      right = row_fits h k xs d.back i f (omega (arith, le)) d.right;
      whole = d.whole;
    }

    str_up : (k : Room) (x : Ss) (w : List Token) → BoundD word (HeadR k) x w → BoundD word (SigR k) x w
    str_up k x w d = record {
      front = d.front;
      back = d.back;
      left = d.left;
      right = record { front = d.right.front; back = d.right.back; left = d.right.left; right = sig_alone R H k x.1 d.right.back d.right.right; whole = d.right.whole };
      whole = d.whole;
    }

    str_begins : (k : Room) (x : Ss) (w : List Token) → BoundD word (SigR k) x w → head_is (tokens_of alphas) (first w) ≡ true
    str_begins k x w d = subst (λ (z : List Token). head_is (tokens_of alphas) (first z) ≡ true) (sym d.whole)
        (head-append (tokens_of alphas) d.front d.back (shows_begins strid (tokens_of alphas) (shown_test (tokens_of alphas) ident) x.0 d.front d.left))

    -- ---- turns, seen as a type behind the last signature or as the next structure

    behind : (k : Room) (r : Bool) (m : ℕ) (u : Suffix) (w : List Token) → Fitting s n k → SuffixD r k m u w → TurnD r k m (Turn.More u) w
    behind k true m u w i (inl d) =
        let c = after_first (and_now R) true m k u w i d in
        let q = d.1.2 in
        let p = after_in typed true m k d.1.0 q.back i refl c.4 q.right in
        inl (record { front = q.front; back = q.back; left = q.left; right = inr (d.1.0, ap Turn.More d.1.1, p); whole = q.whole })
    behind k true m u w i (inr d) = inr (u, refl, d)
    behind k false m u w i d = inr (u, refl, d)

    follows : (k : Room) (r : Bool) (m : ℕ) (y : Ss) (w : List Token) → Skip (is AND) (BoundD word (HeadR k)) y w → TurnD r k m (Turn.Next y) w
    follows k true m y w d = inl (record { front = d.front; back = d.back; left = d.left; right = inl (y, refl, d.right); whole = d.whole })
    follows k false m y w d = inl (record { front = d.front; back = d.back; left = d.left; right = (y, refl, d.right); whole = d.whole })

    abbrev View : Room → Bool → ℕ → Turn → List Token → Type 0
    View k r m t w = ((u : Suffix) × (Turn.More u ≡ t) × SuffixD r k m u w) ⊎ ((y : Ss) × (Turn.Next y ≡ t) × Skip (is AND) (BoundD word (HeadR k)) y w)

    view : (k : Room) (r : Bool) (m : ℕ) (t : Turn) (w : List Token) → Fitting s n k → 2 ≤ m → TurnD r k m t w → View k r m t w
    view k true m t w i le (inl d) = elim d.right [
      | inl a ↦ inr (a.0, a.1, record { front = d.front; back = d.back; left = d.left; right = a.2; whole = d.whole })
      | inr a ↦
          let c = after_first typed true m k a.0 d.back i a.2 in
          inl (at_and a.0, a.1, inl (after_in (and_now R) true m k (at_and a.0) w i refl c.4 (a.0, refl, record { front = d.front; back = d.back; left = d.left; right = a.2.1; whole = d.whole })))
    ]
    view k true m t w i le (inr d) = inl (d.0, d.1, inr d.2)
    view k false m t w i le (inl d) = inr (d.right.0, d.right.1, record { front = d.front; back = d.back; left = d.left; right = d.right.2; whole = d.whole })
    view k false m t w i le (inr d) = inl (d.0, d.1, d.2)

    -- ---- rows as a first structure and turns

    -- a type more behind the signature of a structure
    str_join : (k : Room) (x : Ss) (u : Suffix) (v w : List Token) → Fitting s n k → BoundD word (SigR k) x v → SuffixR k x.1 u w → BoundD word (SigR k) (x.0, suffixed x.1 u) (v ++ w)
    str_join k x u v w i d q = record {
      front = d.front;
      back = d.back ++ w;
      left = d.left;
      right = record {
        front = d.right.front;
        back = d.right.back ++ w;
        left = d.right.left;
        right = sig_join R H k (is_real x.1) x.1 u d.right.back w i refl d.right.right q;
        whole = ap (λ (z : List Token). z ++ w) d.right.whole ∙ append_assoc d.right.front d.right.back w;
      };
      whole = ap (λ (z : List Token). z ++ w) d.whole ∙ append_assoc d.front d.back w;
    }

    -- the same for the turns behind one
    abbrev Rest : Room → List Turn → Type 0
    Rest k us = (y : Ss) (v w : List Token) → BoundD word (SigR k) y v → Steps turned (TurnR k) y us w → StrsR k (gathered_from y us) (v ++ w)

    rows_to : (k : Room) (x : Ss) (us : List Turn) (v w : List Token) → Fitting s n k → BoundD word (SigR k) x v → Steps turned (TurnR k) x us w → StrsR k (gathered_from x us) (v ++ w)
    rows_to k x [] v w i d e = ((x, []), refl, record { front = v; back = w; left = d; right = e; whole = refl })
    rows_to k x (t ∷ us) v w i d e = go t e (view k (is_real x.1) (below x.1) t e.front i (omega arith) e.left) (λ y v' w' d' e'. rows_to k y us v' w' i d' e')
      where
        typed_on : (u : Suffix) (e : Steps turned (TurnR k) x (Turn.More u ∷ us) w) → SuffixR k x.1 u e.front → Rest k us → StrsR k (gathered_from x (Turn.More u ∷ us)) (v ++ w)
        typed_on u e q rest = subst (λ (z : List Token). StrsR k (gathered_from (x.0, suffixed x.1 u) us) z) (append_assoc v e.front e.back ∙ ap (λ (z : List Token). v ++ z) (sym e.whole))
            (rest (x.0, suffixed x.1 u) (v ++ e.front) e.back (str_join k x u v e.front i d q) e.right)

        gone_on : (y : Ss) (e : Steps turned (TurnR k) x (Turn.Next y ∷ us) w) → Skip (is AND) (BoundD word (HeadR k)) y e.front → Rest k us → StrsR k (gathered_from x (Turn.Next y ∷ us)) (v ++ w)
        gone_on y e q rest =
            let r = rest y q.back e.back (str_up k y q.back q.right) e.right in
            let j = r.2 in
            let all : Row (Skip (is AND) (BoundD word (SigR k))) (cons_of r.0) (q.front ++ (q.back ++ e.back)) = record {
              front = q.front ++ j.front;
              back = j.back;
              left = record { front = q.front; back = j.front; left = q.left; right = j.left; whole = refl };
              right = j.right;
              whole = ap (λ (z : List Token). q.front ++ z) j.whole ∙ sym (append_assoc q.front j.front j.back);
            } in (
              (x, gathered_from y us),
              refl,
              record {
                front = v;
                back = q.front ++ (q.back ++ e.back);
                left = d;
                right = subst (λ (xs : List Ss). Row (Skip (is AND) (BoundD word (SigR k))) xs (q.front ++ (q.back ++ e.back))) r.1 all;
                whole = ap (λ (z : List Token). v ++ z) (e.whole ∙ (ap (λ (z : List Token). z ++ e.back) q.whole ∙ append_assoc q.front q.back e.back));
              },
            )

        go : (t : Turn) (e : Steps turned (TurnR k) x (t ∷ us) w) → View k (is_real x.1) (below x.1) t e.front → Rest k us → StrsR k (gathered_from x (t ∷ us)) (v ++ w)
        go (Turn.More u) e (inl a) rest = typed_on u e (subst (λ (u : Suffix). SuffixR k x.1 u e.front) (more_is a.0 u a.1) a.2) rest
        go (Turn.More u) e (inr a) rest = let no : Turn.Next a.0 ≡ Turn.More u = a.1 in absurd cc
        go (Turn.Next y) e (inl a) rest = let no : Turn.More a.0 ≡ Turn.Next y = a.1 in absurd cc
        go (Turn.Next y) e (inr a) rest = gone_on y e (subst (λ (y : Ss). Skip (is AND) (BoundD word (HeadR k)) y e.front) (next_is a.0 y a.1) a.2) rest

    abbrev Turns : Room → Ss × List Turn → List Token → Type 0
    Turns k = Bound (BoundD word (HeadR k)) (λ a. Steps turned (TurnR k) a)

    abbrev mores : List Suffix → List Turn
    mores [] = []
    mores (u ∷ us) = Turn.More u ∷ mores us

    -- types behind a signature, and then what may stand behind whatever structure
    attach : (k : Room) (x : Ss) (us : List Suffix) (w : List Token) (rest : List Turn) (tail : List Token) → Fitting s n k → Steps suffixed (SuffixR k) x.1 us w → ((y : Ss) → Steps turned (TurnR k) y rest tail) → Steps turned (TurnR k) x (mores us ++ rest) (w ++ tail)
    attach k x [] w rest tail i e f = subst (λ (z : List Token). Steps turned (TurnR k) x rest (z ++ tail)) (sym e) (f x)
    attach k x (u ∷ us) w rest tail i e f = record {
      front = e.front;
      back = e.back ++ tail;
      left = behind k (is_real x.1) (below x.1) u e.front i e.left;
      right = attach k (x.0, suffixed x.1 u) us e.back rest tail i e.right f;
      whole = ap (λ (z : List Token). z ++ tail) e.whole ∙ append_assoc e.front e.back tail;
    }

    gather_mores : (x : Ss) (us : List Suffix) (rest : List Turn) → gathered_from x (mores us ++ rest) ≡ gathered_from (x.0, ups suffixed x.1 us) rest
    gather_mores x [] rest = refl
    gather_mores x (u ∷ us) rest = gather_mores (x.0, suffixed x.1 u) us rest

    -- one structure, and turns that may stand behind whatever structure
    one_from : ((k : Room) → Fitting s n k) → (k : Room) (x : Ss) (v : List Token) (rest : List Turn) (tail : List Token) → BoundD word (SigR k) x v → ((y : Ss) → Steps turned (TurnR k) y rest tail) → (q : Ss × List Turn) × (gathered q ≡ gathered_from x rest) × Turns k q (v ++ tail)
    one_from fit k x v rest tail d f =
        let p = sig_parts R H fit k.height k.clashes x.1 d.right.back d.right.right in
        let j = p.2 in (
          ((x.0, p.0.0), mores p.0.1 ++ rest),
          gather_mores (x.0, p.0.0) p.0.1 rest ∙ ap (λ (y : Sx). gathered_from (x.0, y) rest) p.1,
          record {
            front = d.front ++ (d.right.front ++ j.front);
            back = j.back ++ tail;
            left = record { front = d.front; back = d.right.front ++ j.front; left = d.left; right = record { front = d.right.front; back = j.front; left = d.right.left; right = j.left; whole = refl }; whole = refl };
            right = attach k (x.0, p.0.0) p.0.1 j.back rest tail (fit k) j.right f;
            whole = ap (λ (z : List Token). z ++ tail) (d.whole ∙ ap (λ (z : List Token). d.front ++ z) (d.right.whole ∙ ap (λ (z : List Token). d.right.front ++ z) j.whole)) ∙ regroup d.front d.right.front j.front j.back tail;
          },
        )
      where
        regroup : (a b c d e : List Token) → (a ++ (b ++ (c ++ d))) ++ e ≡ (a ++ (b ++ c)) ++ (d ++ e)
        regroup a b c d e = append_assoc a (b ++ (c ++ d)) e ∙ (ap (λ (z : List Token). a ++ z) (append_assoc b (c ++ d) e ∙ (ap (λ (z : List Token). b ++ z) (append_assoc c d e) ∙ sym (append_assoc b c (d ++ e)))) ∙ sym (append_assoc a (b ++ c) (d ++ e)))

    rows_from : ((k : Room) → Fitting s n k) → (k : Room) (x : Ss) (xs : List Ss) (v w : List Token) → BoundD word (SigR k) x v → Row (Skip (is AND) (BoundD word (SigR k))) xs w → (q : Ss × List Turn) × (gathered q ≡ x ∷ xs) × Turns k q (v ++ w)
    rows_from fit k x [] v w d e = subst (λ (w : List Token). (q : Ss × List Turn) × (gathered q ≡ x ∷ []) × Turns k q (v ++ w)) (sym e) (one_from fit k x v [] [] d (λ y. refl))
    rows_from fit k x (y ∷ ys) v w d e =
        let r = rows_from fit k y ys e.left.back e.back e.left.right e.right in
        let j = r.2 in
        let b = one_from fit k x v (Turn.Next r.0.0 ∷ r.0.1) ((e.left.front ++ j.front) ++ j.back) d (λ z. record {
          front = e.left.front ++ j.front;
          back = j.back;
          left = follows k (is_real z.1) (below z.1) r.0.0 (e.left.front ++ j.front) (record { front = e.left.front; back = j.front; left = e.left.left; right = j.left; whole = refl });
          right = j.right;
          whole = refl;
        }) in
        let same : (e.left.front ++ j.front) ++ j.back ≡ w = append_assoc e.left.front j.front j.back ∙ (ap (λ (z : List Token). e.left.front ++ z) (sym j.whole) ∙ (sym (append_assoc e.left.front e.left.back e.back) ∙ (ap (λ (z : List Token). z ++ e.back) (sym e.left.whole) ∙ sym e.whole))) in
        (b.0, b.1 ∙ ap (λ (zs : List Ss). x ∷ zs) r.1, subst (λ (z : List Token). Turns k b.0 (v ++ z)) same b.2)

    -- ---- what stops a row

    row_ends : (x y : Ss) (us : List Turn) (o : Option Token) → strs_stop (x ∷ gathered_from y us) o ≡ strs_stop (gathered_from y us) o
    row_ends x y [] o = refl
    row_ends x y (Turn.More u ∷ us) o = row_ends x (y.0, suffixed y.1 u) us o
    row_ends x y (Turn.Next z ∷ us) o = refl

    -- the last turn stops it, or this stop where there is none
    abbrev last_stop : (Option Token → Bool) → List Turn → Option Token → Bool
    last_stop st [] o = st o && not (head_is goes_on o)
    last_stop st (t ∷ ts) o = last_stop (turn_stop t) ts o

    last_is : (t : Turn) (ts : List Turn) (o : Option Token) → last_stop (turn_stop t) ts o ≡ row_stop goes_on turn_stop (t ∷ ts) o
    last_is t [] o = refl
    last_is t (u ∷ us) o = last_is u us o

    next_plain : (k : Room) (x y : Ss) (w : List Token) → Fitting s n k → TurnR k x (Turn.Next y) w → is_real y.1 ≡ false
    next_plain k x y w i d = go (view k (is_real x.1) (below x.1) (Turn.Next y) w i (omega arith) d)
      where
        go : View k (is_real x.1) (below x.1) (Turn.Next y) w → is_real y.1 ≡ false
        go (inl a) = let no : Turn.More a.0 ≡ Turn.Next y = a.1 in absurd cc
        go (inr a) = ap (λ (y : Ss). is_real y.1) (sym (next_is a.0 y a.1)) ∙ head_plain R H k a.0.1 a.2.right.right.back a.2.right.right.right

    ends_by : (k : Room) (x : Ss) (us : List Turn) (w : List Token) (o : Option Token) (st : Option Token → Bool) → Fitting s n k → sig_stop x.1 o ≡ (st o && not (head_is goes_on o)) → Steps turned (TurnR k) x us w → strs_stop (gathered_from x us) o ≡ last_stop st us o
    ends_by k x [] w o st i e d = e
    ends_by k x (Turn.More u ∷ us) w o st i e d = ends_by k (x.0, suffixed x.1 u) us d.back o (turn_stop (Turn.More u)) i (ap (λ (r : Bool). real_stop r o) (suffix_real x.1 u)) d.right
    ends_by k x (Turn.Next y ∷ us) w o st i e d = row_ends x y us o ∙ ends_by k y us d.back o (turn_stop (Turn.Next y)) i (ap (λ (r : Bool). real_stop r o) (next_plain k x y d.front i d.left)) d.right

    turn_halts : (t : Turn) (c : Token) → goes_on c ≡ true → turn_stop t (Some c) ≡ true
    turn_halts (Turn.Next y) c e = refl
    turn_halts (Turn.More u) c e = goes_halts c e

    abbrev chain_ends : Ss → List Turn → Option Token → Bool
    chain_ends x [] o = true && not (head_is goes_on o)
    chain_ends x (t ∷ ts) o = row_stop goes_on turn_stop (t ∷ ts) o

    ends_at : (k : Room) (x : Ss) (us : List Turn) (w : List Token) (o : Option Token) → Fitting s n k → Turns k (x, us) w → strs_stop (gathered (x, us)) o ≡ chain_ends x us o
    ends_at k x [] w o i a = ap (λ (r : Bool). real_stop r o) (head_plain R H k x.1 a.left.right.back a.left.right.right)
    ends_at k x (t ∷ ts) w o i a = ends_by k x (t ∷ ts) a.back o (λ o. true) i (ap (λ (r : Bool). real_stop r o) (head_plain R H k x.1 a.left.right.back a.left.right.right)) a.right ∙ last_is t ts o

    -- ---- rows

    pub strs_now : StrsP s n
    strs_now = numbered_phrase 1 1 1 (chained a_str item goes_on turned gathered StrsR strs_stop (highest part_height) (record {
      made = λ fit k. record {
        to = λ p w a. subst (λ (z : List Token). StrsR k (gathered p) z) (sym a.whole) (rows_to k p.0 p.1 a.front a.back (fit k) (str_up k p.0 a.front a.left) a.right);
        from = λ t w a. let r = rows_from fit k a.0.0 a.0.1 a.2.front a.2.back a.2.left a.2.right in (r.0, r.1 ∙ a.1, subst (λ (z : List Token). Turns k r.0 z) (sym a.2.whole) r.2);
      };
      alone = λ k x w d. ((x, []), refl, record { front = w; back = []; left = str_up k x w d; right = refl; whole = sym (append-nil w) });
      least = λ k t w i d. let e = ap (highest part_height) d.1 in let a = str_least k d.0.0 d.2.front i d.2.left in let b = row_least k d.0.1 d.2.back i d.2.right in omega (arith, e, a, b);
      lowest = λ k t w i d. sig_lowest R H k.height d.0.0.1 d.2.left.right.back d.2.left.right.right;
      fits = λ h k t w i f l d. let e = ap (highest part_height) d.1 in (
        d.0,
        d.1,
        record {
          front = d.2.front;
          back = d.2.back;
          left = str_fits h k d.0.0 d.2.front i f (omega (arith, e, l)) d.2.left;
          right = row_fits h k d.0.1 d.2.back i f (omega (arith, e, l)) d.2.right;
          whole = d.2.whole;
        },
      );
      begins = λ k t w i d. subst (λ (z : List Token). head_is (tokens_of alphas) (first z) ≡ true) (sym d.2.whole) (head-append (tokens_of alphas) d.2.front d.2.back (str_begins k d.0.0 d.2.front d.2.left));
      inside = λ x c e. e;
      base_next = λ x c e. refl;
      item_next = λ u c e. turn_halts u c e;
      ends_are = λ k p w o i a. ends_at k p.0 p.1 w o i a;
    })) (omega arith) (omega arith) (omega arith) (omega arith)
