-- Rows of bindings of structure expressions are read exactly: behind `and` comes a type for the last one, or the next binding.
use Rattle.std.proofs.Common.{◌≡◌, ◌⊎◌, ℕ, suc, ◌≤◌, max, Bool, true, false, not, ◌&&◌, List, [], ◌∷◌, ◌++◌, Option, Some, map, refl, sym, ap, subst, ◌∙◌, arith, append_assoc, inl, inr}
use Rattle.std.proofs.lemmas.List.{append-nil}
use Rattle.readers.specs.Reader.{first, head_is, Reader, mapped, skip}
use Rattle.readers.specs.Language.{Both, Bound, Steps, Row, As, Or, Skip}
use Rattle.readers.specs.Room.{Room}
use Rattle.readers.specs.Infix.{ups}
use Rattle.readers.specs.Exact.{row_stop}
use Rattle.readers.specs.Forms.{highest, Seps, cons_of}
use Rattle.readers.proofs.Bundle.{Known, Fitting, Phrase}
use Rattle.readers.proofs.Combine.{made_phrase, pair_then, pair_opens, sized_phrase}
use Rattle.readers.proofs.Outcome.{head-append}
use Rattle.sml_lex.specs.declared.token.Token.{Token}
use Rattle.sml_grammar.specs.Words.{AND, EQUALS, TYPE, WHERE}
use Rattle.sml_grammar.specs.Tokens.{Firsts, just, union, is, plain_fix, tokens_of, alphas}
use Rattle.sml_grammar.proofs.Sets.{Tests, is_just, apart_here, pick_if}
use Rattle.sml_grammar.proofs.Shapes.{past_word}
use Rattle.sml_grammar.proofs.Joined.{within_is}
use Rattle.sml_grammar_exp.specs.Decs.{Changes}
use Rattle.sml_grammar_exp.proofs.Parts.{numbered_phrase}
use Rattle.sml_grammar_sig.specs.Sigs.{Sx, is_real}
use Rattle.sml_grammar_sig.specs.ReadSigs.{Suffix, below, goes_on, sig_goes}
use Rattle.sml_grammar_sig.proofs.Chain.{chained}
use Rattle.sml_grammar_mod.specs.Strs.{St, BaseR, StrR}
use Rattle.sml_grammar_mod.specs.ReadStrs.{Growing, Grow, Bind, Turn, whole, grown_str, grown_by, above, turned, gathered_from, gathered, type_turn, bind_read, next_read, there_read, turn_by, behind_read, turn_read, row_level, ascribe_firsts, grow_firsts, begins_grow}
use Rattle.sml_grammar_mod.proofs.Choices.{pick_any}
use Rattle.sml_grammar_mod.proofs.Later.{MoreR, ThereR, Split, more_exact, there_exact, split, unsplit}
use Rattle.sml_grammar_mod.proofs.Grows.{str_stop, growing_stop, bar_halts, SealsD, GrowR, grow_stop, grow_tall, seals_now, grow_next}
use Rattle.sml_grammar_mod.proofs.Strs.{base_in, BaseP, growing_height, GrownR, whole_base, str_least, str_lowest, str_fits, whole_of, grow_join, base_grown, str_parts, step_end}

-- ---- rows

module _ (cs : Changes) {F : Type 0} (FrontR : Room → F → List Token → Type 0) (front : ℕ → Reader Token F) (front_stop : F → Option Token → Bool) (front_height : F → ℕ) (low need enough : ℕ) where
  abbrev pub FrontP : Known → ℕ → Type 0
  FrontP s n = Phrase s n 0 FrontR (λ k. front k.height) front_stop front_height low need (tokens_of alphas) enough

  abbrev pub bind_height : F × St → ℕ
  bind_height x = max (front_height x.0) x.1.1

  abbrev growing_tall : Bind F → ℕ
  growing_tall x = max (front_height x.0) (growing_height cs x.1)

  -- a front, `=` and a structure expression without ascription
  abbrev pub BindD : Room → Bind F → List Token → Type 0
  BindD k = Both (FrontR k) (Skip (is EQUALS) (As whole (BaseR cs k)))

  -- a structure expression that has grown so far
  abbrev pub GrownD : Room → Bind F → List Token → Type 0
  GrownD k = Both (FrontR k) (Skip (is EQUALS) (GrownR cs k))

  abbrev pub WholeD : Room → F × St → List Token → Type 0
  WholeD k = Both (FrontR k) (Skip (is EQUALS) (StrR cs k))

  abbrev pub RowR : Room → List (F × St) → List Token → Type 0
  RowR k = Seps (is AND) (WholeD k)

  abbrev pub bind_in : Room → Reader Token (Bind F)
  bind_in k = bind_read (front k.height) (base_in cs k)

  abbrev pub row_in : Room → Reader Token (List (F × St))
  row_in k = row_level (bind_in k) k.height

  -- what stops the last one
  abbrev pub row_end : List (F × St) → Option Token → Bool
  row_end [] o = true
  row_end (x ∷ []) o = str_stop x.1 o
  row_end (x ∷ y ∷ ys) o = row_end (y ∷ ys) o

  -- ---- what may stand behind a binding

  abbrev NextD : Room → Turn F → List Token → Type 0
  NextD k = As Turn.Next (BindD k)

  abbrev TypeD : Bool → Room → Sx → Turn F → List Token → Type 0
  TypeD true k x = Or (Skip (is AND) (Or (NextD k) (As type_turn (MoreR k x)))) (As type_turn (ThereR k x))
  TypeD false k x = Or (Skip (is AND) (NextD k)) (As type_turn (ThereR k x))

  abbrev BehindD : Room → Growing → Turn F → List Token → Type 0
  BehindD k (Growing.Whole s) = Skip (is AND) (NextD k)
  BehindD k (Growing.Sealed x) = TypeD (is_real x.1.1) k x.1.1

  abbrev TurnR : Room → Bind F → Turn F → List Token → Type 0
  TurnR k x = Or (As Turn.More (SealsD k x.1)) (BehindD k x.1)

  abbrev turn_stop : Turn F → Option Token → Bool
  turn_stop (Turn.More u) o = grow_stop u o
  turn_stop (Turn.Next y) o = growing_stop y.1 o

  abbrev turn_tall : Growing → Turn F → ℕ
  turn_tall g (Turn.More u) = grow_tall g u
  turn_tall g (Turn.Next y) = growing_tall y

  abbrev behind_firsts : Growing → Firsts
  behind_firsts (Growing.Whole s) = just AND
  behind_firsts (Growing.Sealed x) = sig_goes

  abbrev behind_test : Growing → Token → Bool
  behind_test (Growing.Whole s) = is AND
  behind_test (Growing.Sealed x) = goes_on

  abbrev behind_enough : Growing → ℕ
  behind_enough (Growing.Whole s) = 1
  behind_enough (Growing.Sealed x) = max (1) (suc (suc (max (below x.1.1) 2)))

  abbrev more_of : Grow → Turn F
  more_of u = Turn.More u

  more_is : (u v : Grow) → more_of u ≡ more_of v → u ≡ v
  more_is u v e = cc

  next_is : (x y : Bind F) → Turn.Next x ≡ Turn.Next y → x ≡ y
  next_is x y e = cc

  module _ {s : Known} {n : ℕ} (small : low ≤ 1) (tight : need ≤ 1) (N : FrontP s n) (B : BaseP cs s n) (halts : (x : F) (c : Token) → is EQUALS c ≡ true → front_stop x (Some c) ≡ true) where
    a_bind : Phrase s n 0 BindD bind_in (λ x. growing_stop x.1) growing_tall 1 1 (tokens_of alphas) (max enough 1)
    a_bind =
        let W = whole_base cs B in
        let E = past_word EQUALS W.part in
        numbered_phrase 1 1 (max enough 1) (sized_phrase growing_tall (record {
          part = pair_then N.part E halts;
          opening = pair_opens N.opening E.part;
        }) (λ x. omega arith)) (omega (arith, small)) (omega (arith, small)) (omega (arith, tight)) (omega arith)

    next_now : (g : Growing) → Phrase s n 0 NextD (λ k. next_read (bind_in k)) turn_stop (turn_tall g) 1 1 (tokens_of alphas) (max enough 1)
    next_now g = made_phrase Turn.Next (turn_tall g) turn_stop a_bind (λ x. refl) (λ x o. refl)

    past_and : (g : Growing) → Phrase s n 0 (λ k. Skip (is AND) (NextD k)) (λ k. skip (is AND) (next_read (bind_in k))) turn_stop (turn_tall g) 1 1 (is AND) 1
    past_and g = let Q = next_now g in numbered_phrase 1 1 1 (past_word AND Q.part) (omega arith) (omega arith) (omega arith) (omega arith)

    there_now : (y : _ × _) → Phrase s n 0 (λ k. As type_turn (ThereR k y.1.1)) (λ k. mapped type_turn (there_read k.height y.1.1)) turn_stop (turn_tall (Growing.Sealed y)) (suc (suc (below y.1.1))) 0 (is WHERE) (suc (suc (max (below y.1.1) 2)))
    there_now y = made_phrase type_turn (turn_tall (Growing.Sealed y)) turn_stop (there_exact y.1.1 s n) (λ x. refl) (λ x o. refl)

    type_now : (r : Bool) (y : _ × _) → Phrase s n 0 (λ k. TypeD r k y.1.1) (λ k. turn_by r (bind_in k) k.height y.1.1) turn_stop (turn_tall (Growing.Sealed y)) 1 1 goes_on (behind_enough (Growing.Sealed y))
    type_now true y = numbered_phrase 1 1 (behind_enough (Growing.Sealed y))
        (pick_if plain_fix (just AND) (just WHERE) (is_just plain_fix AND) (is_just plain_fix WHERE)
        (past_word AND (let Q = pick_if plain_fix alphas (just TYPE) (λ c. refl) (is_just plain_fix TYPE) (next_now (Growing.Sealed y))
        (made_phrase type_turn (turn_tall (Growing.Sealed y)) turn_stop (more_exact y.1.1 s n) (λ x. refl) (λ x o. refl)) (omega arith) refl in Q.part))
        (there_now y) (omega arith) refl) (omega arith) (omega arith) (omega arith) (omega arith)
    type_now false y = numbered_phrase 1 1 (behind_enough (Growing.Sealed y))
        (pick_if plain_fix (just AND) (just WHERE) (is_just plain_fix AND) (is_just plain_fix WHERE) (past_and (Growing.Sealed y)) (there_now y) (omega arith) refl) (omega arith) (omega arith) (omega arith) (omega arith)

    behind_now : (g : Growing) → Phrase s n 0 (λ k. BehindD k g) (λ k. behind_read (bind_in k) k.height g) turn_stop (turn_tall g) 1 1 (behind_test g) (behind_enough g)
    behind_now (Growing.Whole t) = numbered_phrase 1 1 (behind_enough (Growing.Whole t)) (past_and (Growing.Whole t)) (omega arith) (omega arith) (omega arith) (omega arith)
    behind_now (Growing.Sealed y) = type_now (is_real y.1.1) y

    behind_tests : (g : Growing) → Tests plain_fix (behind_firsts g) (behind_test g)
    behind_tests (Growing.Whole t) c = is_just plain_fix AND c
    behind_tests (Growing.Sealed y) c = refl

    behind_off : (g : Growing) → apart_here (behind_firsts g) ascribe_firsts ≡ true
    behind_off (Growing.Whole t) = refl
    behind_off (Growing.Sealed y) = refl

    abbrev turn_test : Bind F → Token → Bool
    turn_test x = tokens_of (union ascribe_firsts (behind_firsts x.1))

    turn_item : (x : Bind F) → Phrase s n 0 (λ k. TurnR k x) (λ k. turn_read (bind_in k) k.height x) turn_stop (turn_tall x.1) 1 1 (turn_test x) (max (max (above x.1) 3) (behind_enough x.1))
    turn_item x = numbered_phrase 1 1 (max (max (above x.1) 3) (behind_enough x.1))
        (pick_any plain_fix ascribe_firsts (behind_firsts x.1) (λ c. refl) (behind_tests x.1)
        (made_phrase Turn.More (turn_tall x.1) turn_stop (seals_now x.1) (λ u. refl) (λ u o. refl)) (behind_now x.1)
        1 (omega arith, omega arith, inr (omega arith)) (behind_off x.1)) (omega arith) (omega arith) (omega arith) (omega arith)

    turn_begins : (x : Bind F) (c : Token) → turn_test x c ≡ true → begins_grow c ≡ true
    turn_begins x c e = go x.1 e
      where
        go : (g : Growing) → tokens_of (union ascribe_firsts (behind_firsts g)) c ≡ true → begins_grow c ≡ true
        go (Growing.Whole t) e = within_is plain_fix (union ascribe_firsts (just AND)) grow_firsts refl c e
        go (Growing.Sealed y) e = e

    -- ---- what holds of rows

    bind_least : (k : Room) (x : F × St) (w : List Token) → Fitting s n k → WholeD k x w → bind_height x ≤ k.height
    bind_least k x w i d = let a = N.part.least k x.0 d.front i d.left in let b = str_least cs B k.height k.clashes x.1 d.right.back i d.right.right in omega (arith, a, b)

    bind_fits : (h k : Room) (x : F × St) (w : List Token) → Fitting s n h → (h.clashes ≡ true → k.clashes ≡ true) → bind_height x ≤ k.height → WholeD h x w → WholeD k x w
    bind_fits h k x w i f le d = record {
      front = d.front;
      back = d.back;
      left = N.part.fits h k x.0 d.front i f (omega (arith, le)) d.left;
      right = record { front = d.right.front; back = d.right.back; left = d.right.left; right = str_fits cs B h.height k.height h.clashes k.clashes x.1 d.right.back i f (omega (arith, le)) d.right.right; whole = d.right.whole };
      whole = d.whole;
    }

    row_least : (k : Room) (xs : List (F × St)) (w : List Token) → Fitting s n k → Row (Skip (is AND) (WholeD k)) xs w → highest bind_height xs ≤ k.height
    row_least k [] w i d = omega arith
    row_least k (x ∷ xs) w i d = let a = bind_least k x d.left.back i d.left.right in let b = row_least k xs d.back i d.right in omega (arith, a, b)

    row_fits : (h k : Room) (xs : List (F × St)) (w : List Token) → Fitting s n h → (h.clashes ≡ true → k.clashes ≡ true) → highest bind_height xs ≤ k.height → Row (Skip (is AND) (WholeD h)) xs w → Row (Skip (is AND) (WholeD k)) xs w
    row_fits h k [] w i f le d = d
    row_fits h k (x ∷ xs) w i f le d = record {
      front = d.front;
      back = d.back;
      left = record { front = d.left.front; back = d.left.back; left = d.left.left; right = bind_fits h k x d.left.back i f (omega (arith, le)) d.left.right; whole = d.left.whole };
      right = row_fits h k xs d.back i f (omega (arith, le)) d.right;
      whole = d.whole;
    }

    behind_equals : {X Y : Type 0} (D : X → List Token → Type 0) (E : Y → List Token → Type 0) (f : F) (x : X) (y : Y) (k : Room) (w : List Token) → ((v : List Token) → D x v → E y v) → Both (FrontR k) (Skip (is EQUALS) D) (f, x) w → Both (FrontR k) (Skip (is EQUALS) E) (f, y) w
    behind_equals D E f x y k w to d = record {
      front = d.front;
      back = d.back;
      left = d.left;
      right = record { front = d.right.front; back = d.right.back; left = d.right.left; right = to d.right.back d.right.right; whole = d.right.whole };
      whole = d.whole;
    }

    bind_grown : (k : Room) (x : Bind F) (w : List Token) → BindD k x w → GrownD k x w
    bind_grown k x w d = behind_equals (As whole (BaseR cs k)) (GrownR cs k) x.0 x.1 x.1 k w (λ v e. base_grown cs B k x.1 v e) d

    grown_whole : (k : Room) (x : Bind F) (w : List Token) → GrownD k x w → WholeD k (x.0, grown_str x.1) w
    grown_whole k x w d = behind_equals (GrownR cs k) (StrR cs k) x.0 x.1 (grown_str x.1) k w (λ v e. whole_of cs B k x.1 v e) d

    bind_begins : (k : Room) (x : F × St) (w : List Token) → Fitting s n k → WholeD k x w → head_is (tokens_of alphas) (first w) ≡ true
    bind_begins k x w i d = subst (λ (z : List Token). head_is (tokens_of alphas) (first z) ≡ true) (sym d.whole) (head-append (tokens_of alphas) d.front d.back (N.opening.begins k x.0 d.front i d.left))

    -- ---- turns, seen as what stands behind the last one or as the next binding

    by_type : (k : Room) (r : Bool) (x : Sx) (u : Suffix) (w : List Token) → Split r k x u w → TypeD r k x (type_turn u) w
    by_type k true x u w (inl d) = inl (record { front = d.front; back = d.back; left = d.left; right = inr (u, refl, d.right); whole = d.whole })
    by_type k true x u w (inr d) = inr (u, refl, d)
    by_type k false x u w d = inr (u, refl, d)

    behind : (k : Room) (x : Bind F) (u : Grow) (w : List Token) → Fitting s n k → GrowR k x.1 u w → TurnR k x (Turn.More u) w
    behind k (f, Growing.Whole t) u w i d = inl (u, refl, d)
    behind k (f, Growing.Sealed y) u w i (inl d) = inl (u, refl, d)
    behind k (f, Growing.Sealed y) u w i (inr d) = inr (subst (λ (u : Grow). TypeD (is_real y.1.1) k y.1.1 (Turn.More u) w) d.1 (by_type k (is_real y.1.1) y.1.1 d.0 w (split s n k.height k.clashes (is_real y.1.1) y.1.1 d.0 w i d.2)))

    by_next : (k : Room) (r : Bool) (x : Sx) (y : Bind F) (w : List Token) → Skip (is AND) (BindD k) y w → TypeD r k x (Turn.Next y) w
    by_next k true x y w d = inl (record { front = d.front; back = d.back; left = d.left; right = inl (y, refl, d.right); whole = d.whole })
    by_next k false x y w d = inl (record { front = d.front; back = d.back; left = d.left; right = (y, refl, d.right); whole = d.whole })

    follows : (k : Room) (x y : Bind F) (w : List Token) → Skip (is AND) (BindD k) y w → TurnR k x (Turn.Next y) w
    follows k (f, Growing.Whole t) y w d = inr (record { front = d.front; back = d.back; left = d.left; right = (y, refl, d.right); whole = d.whole })
    follows k (f, Growing.Sealed z) y w d = inr (by_next k (is_real z.1.1) z.1.1 y w d)

    abbrev View : Room → Growing → Turn F → List Token → Type 0
    View k g t w = ((u : Grow) × (Turn.More u ≡ t) × GrowR k g u w) ⊎ ((y : Bind F) × (Turn.Next y ≡ t) × Skip (is AND) (BindD k) y w)

    abbrev TypeView : Bool → Room → Sx → Turn F → List Token → Type 0
    TypeView r k x t w = ((u : Suffix) × (type_turn u ≡ t) × Split r k x u w) ⊎ ((y : Bind F) × (Turn.Next y ≡ t) × Skip (is AND) (BindD k) y w)

    type_view : (r : Bool) (k : Room) (x : Sx) (t : Turn F) (w : List Token) → TypeD r k x t w → TypeView r k x t w
    type_view true k x t w (inl d) = elim d.right [
      | inl a ↦ inr (a.0, a.1, record { front = d.front; back = d.back; left = d.left; right = a.2; whole = d.whole })
      | inr a ↦ inl (a.0, a.1, inl (record { front = d.front; back = d.back; left = d.left; right = a.2; whole = d.whole }))
    ]
    type_view true k x t w (inr d) = inl (d.0, d.1, inr d.2)
    type_view false k x t w (inl d) = inr (d.right.0, d.right.1, record { front = d.front; back = d.back; left = d.left; right = d.right.2; whole = d.whole })
    type_view false k x t w (inr d) = inl (d.0, d.1, d.2)

    view : (k : Room) (g : Growing) (f : F) (t : Turn F) (w : List Token) → Fitting s n k → TurnR k (f, g) t w → View k g t w
    view k (Growing.Whole s) f t w i (inl d) = inl (d.0, d.1, d.2)
    view k (Growing.Whole s) f t w i (inr d) = inr (d.right.0, d.right.1, record { front = d.front; back = d.back; left = d.left; right = d.right.2; whole = d.whole })
    view k (Growing.Sealed y) f t w i (inl d) = inl (d.0, d.1, inl d.2)
    view k (Growing.Sealed y) f t w i (inr d) = elim (type_view (is_real y.1.1) k y.1.1 t w d) [
      | inl a ↦ inl (Grow.Types a.0, a.1, inr (a.0, refl, unsplit s n k.height k.clashes (is_real y.1.1) y.1.1 a.0 w i a.2))
      | inr a ↦ inr a
    ]

    -- ---- rows as a first binding and turns

    bind_join : (k : Room) (x : Bind F) (u : Grow) (v w : List Token) → Fitting s n k → GrownD k x v → GrowR k x.1 u w → GrownD k (x.0, grown_by x.1 u) (v ++ w)
    bind_join k x u v w i d q = record {
      front = d.front;
      back = d.back ++ w;
      left = d.left;
      right = record {
        front = d.right.front;
        back = d.right.back ++ w;
        left = d.right.left;
        right = grow_join cs B k x.1 u d.right.back w i d.right.right q;
        whole = ap (λ (z : List Token). z ++ w) d.right.whole ∙ append_assoc d.right.front d.right.back w;
      };
      whole = ap (λ (z : List Token). z ++ w) d.whole ∙ append_assoc d.front d.back w;
    }

    abbrev wholes : List (Bind F) → List (F × St)
    wholes = map (λ y. (y.0, grown_str y.1))

    -- the same for the turns behind one
    abbrev Rest : Room → List (Turn F) → Type 0
    Rest k us = (y : Bind F) (v w : List Token) → GrownD k y v → Steps turned (TurnR k) y us w → RowR k (wholes (gathered_from y us)) (v ++ w)

    rows_to : (k : Room) (x : Bind F) (us : List (Turn F)) (v w : List Token) → Fitting s n k → GrownD k x v → Steps turned (TurnR k) x us w → RowR k (wholes (gathered_from x us)) (v ++ w)
    rows_to k x [] v w i d e = (((x.0, grown_str x.1), []), refl, record { front = v; back = w; left = grown_whole k x v d; right = e; whole = refl })
    rows_to k x (t ∷ us) v w i d e = go t e (view k x.1 x.0 t e.front i e.left) (λ y v' w' d' e'. rows_to k y us v' w' i d' e')
      where
        grown_on : (u : Grow) (e : Steps turned (TurnR k) x (Turn.More u ∷ us) w) → GrowR k x.1 u e.front → Rest k us → RowR k (wholes (gathered_from x (Turn.More u ∷ us))) (v ++ w)
        grown_on u e q rest = subst (λ (z : List Token). RowR k (wholes (gathered_from (x.0, grown_by x.1 u) us)) z) (append_assoc v e.front e.back ∙ ap (λ (z : List Token). v ++ z) (sym e.whole))
            (rest (x.0, grown_by x.1 u) (v ++ e.front) e.back (bind_join k x u v e.front i d q) e.right)

        gone_on : (y : Bind F) (e : Steps turned (TurnR k) x (Turn.Next y ∷ us) w) → Skip (is AND) (BindD k) y e.front → Rest k us → RowR k (wholes (gathered_from x (Turn.Next y ∷ us))) (v ++ w)
        gone_on y e q rest =
            let r = rest y q.back e.back (bind_grown k y q.back q.right) e.right in
            let j = r.2 in
            let all : Row (Skip (is AND) (WholeD k)) (cons_of r.0) (q.front ++ (q.back ++ e.back)) = record {
              front = q.front ++ j.front;
              back = j.back;
              left = record { front = q.front; back = j.front; left = q.left; right = j.left; whole = refl };
              right = j.right;
              whole = ap (λ (z : List Token). q.front ++ z) j.whole ∙ sym (append_assoc q.front j.front j.back);
            } in (
              ((x.0, grown_str x.1), wholes (gathered_from y us)),
              refl,
              record {
                front = v;
                back = q.front ++ (q.back ++ e.back);
                left = grown_whole k x v d;
                right = subst (λ (xs : List (F × St)). Row (Skip (is AND) (WholeD k)) xs (q.front ++ (q.back ++ e.back))) r.1 all;
                whole = ap (λ (z : List Token). v ++ z) (e.whole ∙ (ap (λ (z : List Token). z ++ e.back) q.whole ∙ append_assoc q.front q.back e.back));
              },
            )

        go : (t : Turn F) (e : Steps turned (TurnR k) x (t ∷ us) w) → View k x.1 t e.front → Rest k us → RowR k (wholes (gathered_from x (t ∷ us))) (v ++ w)
        go (Turn.More u) e (inl a) rest = grown_on u e (subst (λ (u : Grow). GrowR k x.1 u e.front) (more_is a.0 u a.1) a.2) rest
        go (Turn.More u) e (inr a) rest = let no : Turn.Next a.0 ≡ Turn.More u = a.1 in absurd cc
        go (Turn.Next y) e (inl a) rest = let no : Turn.More a.0 ≡ Turn.Next y = a.1 in absurd cc
        go (Turn.Next y) e (inr a) rest = gone_on y e (subst (λ (y : Bind F). Skip (is AND) (BindD k) y e.front) (next_is a.0 y a.1) a.2) rest

    abbrev Turns : Room → Bind F × List (Turn F) → List Token → Type 0
    Turns k = Bound (BindD k) (λ a. Steps turned (TurnR k) a)

    abbrev mores : List Grow → List (Turn F)
    mores [] = []
    mores (u ∷ us) = Turn.More u ∷ mores us

    -- what stands behind a structure expression, and then what may stand behind whatever binding
    attach : (k : Room) (x : Bind F) (us : List Grow) (w : List Token) (rest : List (Turn F)) (tail : List Token) → Fitting s n k → Steps grown_by (GrowR k) x.1 us w → ((y : Bind F) → Steps turned (TurnR k) y rest tail) → Steps turned (TurnR k) x (mores us ++ rest) (w ++ tail)
    attach k x [] w rest tail i e f = subst (λ (z : List Token). Steps turned (TurnR k) x rest (z ++ tail)) (sym e) (f x)
    attach k x (u ∷ us) w rest tail i e f = record {
      front = e.front;
      back = e.back ++ tail;
      left = behind k x u e.front i e.left;
      right = attach k (x.0, grown_by x.1 u) us e.back rest tail i e.right f;
      whole = ap (λ (z : List Token). z ++ tail) e.whole ∙ append_assoc e.front e.back tail;
    }

    gather_mores : (x : Bind F) (us : List Grow) (rest : List (Turn F)) → gathered_from x (mores us ++ rest) ≡ gathered_from (x.0, ups grown_by x.1 us) rest
    gather_mores x [] rest = refl
    gather_mores x (u ∷ us) rest = gather_mores (x.0, grown_by x.1 u) us rest

    -- one binding, and turns that may stand behind whatever binding
    one_from : ((k : Room) → Fitting s n k) → (k : Room) (x : F × St) (v : List Token) (rest : List (Turn F)) (tail : List Token) → WholeD k x v → ((y : Bind F) → Steps turned (TurnR k) y rest tail)
        → (q : Bind F × List (Turn F)) × (y : Bind F) × ((y.0, grown_str y.1) ≡ x) × (gathered_from q.0 q.1 ≡ gathered_from y rest) × Turns k q (v ++ tail)
    one_from fit k x v rest tail d f =
        let p = str_parts cs B fit k.height k.clashes x.1 d.right.back d.right.right in
        let j = p.2 in (
          ((x.0, p.0.0), mores p.0.1 ++ rest),
          (x.0, ups grown_by p.0.0 p.0.1),
          ap (λ (t : St). (x.0, t)) p.1,
          gather_mores (x.0, p.0.0) p.0.1 rest,
          record {
            front = d.front ++ (d.right.front ++ j.front);
            back = j.back ++ tail;
            left = record { front = d.front; back = d.right.front ++ j.front; left = d.left; right = record { front = d.right.front; back = j.front; left = d.right.left; right = j.left; whole = refl }; whole = refl };
            right = attach k (x.0, p.0.0) p.0.1 j.back rest tail (fit k) j.right f;
            whole = ap (λ (z : List Token). z ++ tail) (d.whole ∙ ap (λ (z : List Token). d.front ++ z) (d.right.whole ∙ ap (λ (z : List Token). d.right.front ++ z) j.whole)) ∙ regroup d.front d.right.front j.front j.back tail;
          },
        )
      where
        regroup : (a b c d e : List Token) → (a ++ (b ++ (c ++ d))) ++ e ≡ (a ++ (b ++ c)) ++ (d ++ e)
        regroup a b c d e = append_assoc a (b ++ (c ++ d)) e ∙ (ap (λ (z : List Token). a ++ z) (append_assoc b (c ++ d) e ∙ (ap (λ (z : List Token). b ++ z) (append_assoc c d e) ∙ sym (append_assoc b c (d ++ e)))) ∙ sym (append_assoc a (b ++ c) (d ++ e)))

    rows_from : ((k : Room) → Fitting s n k) → (k : Room) (x : F × St) (xs : List (F × St)) (v w : List Token) → WholeD k x v → Row (Skip (is AND) (WholeD k)) xs w → (q : Bind F × List (Turn F)) × (gathered q ≡ x ∷ xs) × Turns k q (v ++ w)
    rows_from fit k x [] v w d e = subst (λ (w : List Token). (q : Bind F × List (Turn F)) × (gathered q ≡ x ∷ []) × Turns k q (v ++ w)) (sym e)
        (let b = one_from fit k x v [] [] d (λ y. refl) in (b.0, ap wholes b.3 ∙ ap (λ (y : F × St). y ∷ []) b.2, b.4))
    rows_from fit k x (y ∷ ys) v w d e =
        let r = rows_from fit k y ys e.left.back e.back e.left.right e.right in
        let j = r.2 in
        let b = one_from fit k x v (Turn.Next r.0.0 ∷ r.0.1) ((e.left.front ++ j.front) ++ j.back) d (λ z. record {
          front = e.left.front ++ j.front;
          back = j.back;
          left = follows k z r.0.0 (e.left.front ++ j.front) (record { front = e.left.front; back = j.front; left = e.left.left; right = j.left; whole = refl });
          right = j.right;
          whole = refl;
        }) in
        let same : (e.left.front ++ j.front) ++ j.back ≡ w = append_assoc e.left.front j.front j.back ∙ (ap (λ (z : List Token). e.left.front ++ z) (sym j.whole) ∙ (sym (append_assoc e.left.front e.left.back e.back) ∙ (ap (λ (z : List Token). z ++ e.back) (sym e.left.whole) ∙ sym e.whole))) in
        (b.0, ap wholes b.3 ∙ (ap (λ (z : F × St). z ∷ gathered r.0) b.2 ∙ ap (λ (zs : List (F × St)). x ∷ zs) r.1), subst (λ (z : List Token). Turns k b.0 (v ++ z)) same b.4)

    -- ---- what stops a row

    row_ends : (x : F × St) (y : Bind F) (us : List (Turn F)) (o : Option Token) → row_end (x ∷ wholes (gathered_from y us)) o ≡ row_end (wholes (gathered_from y us)) o
    row_ends x y [] o = refl
    row_ends x y (Turn.More u ∷ us) o = row_ends x (y.0, grown_by y.1 u) us o
    row_ends x y (Turn.Next z ∷ us) o = refl

    -- the last turn stops it, or this stop where there is none
    abbrev last_stop : (Option Token → Bool) → List (Turn F) → Option Token → Bool
    last_stop st [] o = st o && not (head_is begins_grow o)
    last_stop st (t ∷ ts) o = last_stop (turn_stop t) ts o

    last_is : (t : Turn F) (ts : List (Turn F)) (o : Option Token) → last_stop (turn_stop t) ts o ≡ row_stop begins_grow turn_stop (t ∷ ts) o
    last_is t [] o = refl
    last_is t (u ∷ us) o = last_is u us o

    more_end : (k : Room) (x : Bind F) (u : Grow) (w : List Token) (o : Option Token) → Fitting s n k → TurnR k x (Turn.More u) w → growing_stop (grown_by x.1 u) o ≡ grow_stop u o
    more_end k x u w o i d = go (view k x.1 x.0 (Turn.More u) w i d)
      where
        go : View k x.1 (Turn.More u) w → growing_stop (grown_by x.1 u) o ≡ grow_stop u o
        go (inl a) = subst (λ (u : Grow). growing_stop (grown_by x.1 u) o ≡ grow_stop u o) (more_is a.0 u a.1) (step_end cs B k x.1 a.0 w o a.2)
        go (inr a) = let no : Turn.Next a.0 ≡ Turn.More u = a.1 in absurd cc

    ends_by : (k : Room) (x : Bind F) (us : List (Turn F)) (w : List Token) (o : Option Token) (st : Option Token → Bool) → Fitting s n k → growing_stop x.1 o ≡ st o → Steps turned (TurnR k) x us w → row_end (wholes (gathered_from x us)) o ≡ last_stop st us o
    ends_by k x [] w o st i e d = ap (λ (b : Bool). b && not (head_is begins_grow o)) e
    ends_by k x (Turn.More u ∷ us) w o st i e d = ends_by k (x.0, grown_by x.1 u) us d.back o (turn_stop (Turn.More u)) i (more_end k x u d.front o i d.left) d.right
    ends_by k x (Turn.Next y ∷ us) w o st i e d = row_ends (x.0, grown_str x.1) y us o ∙ ends_by k y us d.back o (turn_stop (Turn.Next y)) i refl d.right

    turn_halts : (t : Turn F) (c : Token) → begins_grow c ≡ true → turn_stop t (Some c) ≡ true
    turn_halts (Turn.Next y) c e = bar_halts _ c e
    turn_halts (Turn.More u) c e = grow_next u c e

    abbrev parts_end : Bind F → List (Turn F) → Option Token → Bool
    parts_end x [] o = growing_stop x.1 o && not (head_is begins_grow o)
    parts_end x (t ∷ ts) o = row_stop begins_grow turn_stop (t ∷ ts) o

    ends_at : (k : Room) (x : Bind F) (us : List (Turn F)) (w : List Token) (o : Option Token) → Fitting s n k → Turns k (x, us) w → row_end (gathered (x, us)) o ≡ parts_end x us o
    ends_at k x [] w o i a = refl
    ends_at k x (t ∷ ts) w o i a = ends_by k x (t ∷ ts) a.back o (λ o. growing_stop x.1 o) i refl a.right ∙ last_is t ts o

    -- ---- rows

    pub row_now : Phrase s n 0 RowR row_in row_end (highest bind_height) 1 1 (tokens_of alphas) (max enough 1)
    row_now = numbered_phrase 1 1 (max enough 1) (chained a_bind turn_item begins_grow turned gathered RowR row_end (highest bind_height) (record {
      made = λ fit k. record {
        to = λ p w a. subst (λ (z : List Token). RowR k (gathered p) z) (sym a.whole) (rows_to k p.0 p.1 a.front a.back (fit k) (bind_grown k p.0 a.front a.left) a.right);
        from = λ t w a. let r = rows_from fit k a.0.0 a.0.1 a.2.front a.2.back a.2.left a.2.right in (r.0, r.1 ∙ a.1, subst (λ (z : List Token). Turns k r.0 z) (sym a.2.whole) r.2);
      };
      alone = λ k x w d. (((x.0, grown_str x.1), []), refl, record { front = w; back = []; left = grown_whole k x w (bind_grown k x w d); right = refl; whole = sym (append-nil w) });
      least = λ k t w i d. let e = ap (highest bind_height) d.1 in let a = bind_least k d.0.0 d.2.front i d.2.left in let b = row_least k d.0.1 d.2.back i d.2.right in omega (arith, e, a, b);
      lowest = λ k t w i d. str_lowest cs B k.height k.clashes d.0.0.1 d.2.left.right.back d.2.left.right.right;
      fits = λ h k t w i f l d. let e = ap (highest bind_height) d.1 in (
        d.0,
        d.1,
        record {
          front = d.2.front;
          back = d.2.back;
          left = bind_fits h k d.0.0 d.2.front i f (omega (arith, e, l)) d.2.left;
          right = row_fits h k d.0.1 d.2.back i f (omega (arith, e, l)) d.2.right;
          whole = d.2.whole;
        },
      );
      begins = λ k t w i d. subst (λ (z : List Token). head_is (tokens_of alphas) (first z) ≡ true) (sym d.2.whole) (head-append (tokens_of alphas) d.2.front d.2.back (bind_begins k d.0.0 d.2.front i d.2.left));
      inside = λ x c e. turn_begins x c e;
      base_next = λ x c e. bar_halts _ c e;
      item_next = λ u c e. turn_halts u c e;
      ends_are = λ k p w o i a. ends_at k p.0 p.1 w o i a;
    })) (omega arith) (omega arith) (omega arith) (omega arith)
