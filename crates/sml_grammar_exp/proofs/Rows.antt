-- Rows of operators, and expressions of each tightness, are read exactly, where what stands inside is.
use Rattle.std.proofs.Common.{◌≡◌, if◌then◌else◌, ℕ, suc, max, Bool, true, false, not, ◌&&◌, ◌||◌, List, [], ◌∷◌, Option, Some, None, refl, sym, ap, subst, ◌∙◌, arith, inl, inr}
use Rattle.readers.specs.declared.floor.Floor.{Floor}
use Rattle.readers.specs.Reader.{head_is, Reader, both, skip}
use Rattle.readers.specs.Language.{Both, Or, Skip}
use Rattle.readers.specs.Room.{Room, at_height}
use Rattle.readers.specs.Infix.{ground, seen_by}
use Rattle.readers.specs.Exact.{always, row_stop}
use Rattle.readers.specs.Forms.{highest, height_of, at_least, any_tree}
use Rattle.readers.proofs.Bundle.{Known, Part, Phrase}
use Rattle.readers.proofs.Combine.{phrase, pair, pair_then, pair_opens, node, shown_test}
use Rattle.readers.proofs.Repeat.{rows, ready_phrase}
use Rattle.readers.proofs.Choose.{last, restopped}
use Rattle.readers.proofs.Grow.{growing}
use Rattle.readers.proofs.Ground.{ground_seen}
use Rattle.readers.proofs.Operators.{Standing, Level, ends_on, operators, grounded}
use Rattle.readers.proofs.Row.{not_false, row_stop_alone}
use Rattle.sml_lex.specs.Bytes.{is_letter, first_is}
use Rattle.sml_lex.specs.declared.token.Token.{Token}
use Rattle.sml_lex.specs.declared.token.Kind.{Kind}
use Rattle.sml_lex.specs.declared.token.Kind.TheVariants as kind
use Rattle.sml_fix.specs.Fixities.{Settings}
use Rattle.sml_ast.specs.declared.exp.Exp.{out-roll-Exp}
use Rattle.sml_grammar.specs.Words.{ANDALSO, CASE, COLON, DARROW, DO, ELSE, FN, HANDLE, IF, OF, ORELSE, RAISE, THEN, WHILE, BAR}
use Rattle.sml_grammar.specs.Tokens.{just, union, is, among, plain_fix, tokens_of, ident, operator, operators as operator_set, listed, path_class, name_class, is_infix, is_star, kind_among, ALPHA, SYMBOL, STAR}
use Rattle.sml_grammar.specs.Types.{TyR, Ident}
use Rattle.sml_grammar.specs.Pats.{tight, right, Pt}
use Rattle.sml_grammar.specs.ReadTypes.{ty_in}
use Rattle.sml_grammar.specs.ReadPats.{pat_goes, begins_at as begins_pat}
use Rattle.sml_grammar.proofs.Sets.{is_just, apart_here_is, among_union, pick}
use Rattle.sml_grammar.proofs.Shapes.{word_token, word_is, stops, word_halts, the_word, past_word}
use Rattle.sml_grammar.proofs.Joined.{steady}
use Rattle.sml_grammar.proofs.Types.{TyP, ty_goes}
use Rattle.sml_grammar_exp.specs.Exps.{Reach, Ends, ends_in, match_ends, At, Ex, Ru, is_near, before_bar, match_end, apply_of, infix_of, top, top_in, typed_of, and_of, or_of, handle_of, raise_of, if_of, while_of, case_of, fn_of, arm_of, ApplyD, row_form, typed_form, and_form, or_form, MatchD, handle_form, far_form, rule_form}
use Rattle.sml_grammar_exp.specs.ReadExps.{at_firsts, begins_at, far_firsts, begins_far, begins_exp, apply_read, row_level, typed_level, and_level, or_level, match_read, handle_level, far_level, or_far, rule_level}
use Rattle.sml_grammar_exp.specs.ReadDecs.{row_goes}
use Rattle.sml_grammar_exp.proofs.Suffix.{growing_once}
use Rattle.sml_grammar_exp.proofs.Stops.{colon_stop, andalso_stop, orelse_stop, end_stop, level_stop, typed_stop, and_stop, or_stop, exp_stop, rule_stop, and_from, or_from, full_from, far_level as far_at_level, far_same, far_is_far, match_stops, exp_halts, near_halts, colon_halts, andalso_halts, orelse_halts, bar_next}

-- ---- what stops a row

-- the tokens that go on with a row are the same under any fixities
row_class : (fix : Settings) (p : List (List ℕ)) → listed (path_class p) (if is_infix fix p then row_goes.ops else row_goes.plain) ≡ listed (path_class p) (if is_infix plain_fix p then row_goes.ops else row_goes.plain)
row_class fix [] = refl
row_class fix (v ∷ []) = one (is_infix fix (v ∷ []))
  where
    name_case : (x y : Bool) → listed (if x then ALPHA else (if y then STAR else SYMBOL)) row_goes.ops ≡ listed (if x then ALPHA else (if y then STAR else SYMBOL)) row_goes.plain
    name_case true y = refl
    name_case false true = refl
    name_case false false = refl

    one : (i : Bool) → listed (name_class v) (if i then row_goes.ops else row_goes.plain) ≡ listed (name_class v) row_goes.plain
    one true = name_case (first_is is_letter v) (is_star v)
    one false = refl
row_class fix (v ∷ w ∷ p) = refl

row_any : (fix : Settings) (c : Token) → among fix row_goes c ≡ tokens_of row_goes c
row_any fix c = go c.kind
  where
    go : (k : Kind) → kind_among fix row_goes c.decimal k ≡ kind_among plain_fix row_goes c.decimal k
    go (kind.Word n) = refl
    go (kind.Id p) = row_class fix p
    go (kind.Tyvar v) = refl
    go (kind.Lit l) = refl
    go kind.End = refl

abbrev pub row_stop_of : Settings → Option Token → Bool
row_stop_of fix o = not (head_is (begins_at fix) o)

not_either : (x y : Bool) → (not x && not y) ≡ not (x || y)
not_either true y = refl
not_either false y = refl

module _ (fix : Settings) where
  abbrev pub ends_row : Floor → Option Token → Bool
  ends_row m = ends_on (tight fix) (right fix) (operator fix) top (at_least 2) apply_of infix_of (row_stop_of fix) m

  -- what ends a row on the ground
  row_over : (o : Option Token) → ends_row ground o ≡ stops row_goes o
  row_over None = refl
  row_over (Some c) =
      ap (λ (x : Bool). not (begins_at fix c) && not x) (ground_seen (tight fix) (right fix) (operator fix) top (at_least 2) apply_of infix_of (operator fix c) ∙ shows (among fix operator_set c))
      ∙ (not_either (begins_at fix c) (among fix operator_set c) ∙ ap not (sym (among_union fix at_firsts operator_set c) ∙ row_any fix c))
    where
      shows : (b : Bool) → seen_by (tight fix) (right fix) (operator fix) top (at_least 2) apply_of infix_of (λ v. true) (if b then Some (ident c) else None) ≡ b
      shows true = refl
      shows false = refl

  operator_stops : (c : Token) (v : Ident) → operator fix c ≡ Some v → row_stop_of fix (Some c) ≡ true
  operator_stops c v e = not_false (begins_at fix c) (apart_here_is fix operator_set at_firsts refl c (shown_test (among fix operator_set) ident c v e))

-- ---- rows

module _ (fix : Settings) {s : Known} {n : ℕ} {A : Room → At → List Token → Type 0} {a : Room → Reader Token At} (X : Phrase s n 0 A a always height_of 1 0 (begins_at fix) 3) where
  operand : Phrase s n 0 (λ k. ApplyD (A k)) (λ k. apply_read fix (a k)) (λ x. row_stop_of fix) (λ x. max (height_of x.0) (highest height_of x.1)) 1 0 (begins_at fix) 3
  operand =
      let more = rows X (λ t c e. refl) in
      record { part = restopped (λ x. row_stop_of fix) (pair X.part more) (λ k t w o d. row_stop_alone (begins_at fix) t.1 o); opening = pair_opens X.opening more }

  module _ {G : Room → Ex → List Token → Type 0} {g : Room → Floor → Reader Token Ex} {er : ℕ}
      (none : (b : Bool) (t : Ex) (w : List Token) → G (at_height 0 b) t w → ⊥)
      (out : (h : ℕ) (b : Bool) (t : Ex) (w : List Token) → G (at_height (suc h) b) t w → row_form b fix (A (at_height h b)) (G (at_height h b)) t w)
      (into : (h : ℕ) (b : Bool) (t : Ex) (w : List Token) → row_form b fix (A (at_height h b)) (G (at_height h b)) t w → G (at_height (suc h) b) t w)
      (R : (m : Floor) → Phrase s n 0 (Standing (tight fix) (right fix) (operator fix) top (at_least 2) apply_of infix_of G m) (λ k. g k m) (λ t. ends_row fix m) height_of 2 0 (begins_at fix) er) where
    -- a row on a floor
    pub row_now : (m : Floor) → Phrase s n 1 (Level (tight fix) (right fix) (operator fix) top (at_least 2) apply_of infix_of (λ k. ApplyD (A k)) G m)
        (λ k. row_level fix k.clashes (a k) (g k) k.height m) (λ t. ends_row fix m) height_of 1 0 (begins_at fix) 3
    row_now = operators (tight fix) (right fix) (operator fix) top (at_least 2) apply_of infix_of (row_stop_of fix) (operator_stops fix) (record {
      none = none;
      out = out;
      into = into;
      top_leaf = λ x. ap top_in (out-roll-Exp _);
      top_node = λ l v r. ap top_in (out-roll-Exp _);
      leaf_high = λ x. refl;
      node_high = λ l v r. refl;
      over = λ t. omega arith;
      at_least = λ t. omega arith;
      at_most = λ k t x y. omega (arith, x, y);
    }) operand R

    abbrev pub row_base : Room → Ex → List Token → Type 0
    row_base k = row_form k.clashes fix (A k) (G k)

    abbrev pub row_base_read : Room → Reader Token Ex
    row_base_read k = row_level fix k.clashes (a k) (g k) k.height ground

    pub base : Phrase s n 1 row_base row_base_read (λ t. stops row_goes) height_of 1 0 (begins_at fix) 3
    base = grounded (tight fix) (right fix) top (row_now ground) (λ t. stops row_goes) (λ t o. row_over fix o)

-- a row ends so
abbrev row_ends : Ends
row_ends = ends_in false Reach.Near

row_closed : (b : Bool) (fix : Settings) (A : At → List Token → Type 0) (G : Ex → List Token → Type 0) (t : Ex) (w : List Token) → row_form b fix A G t w → row_ends ≡ t.0.1
row_closed b fix A G t w (inl d) = ap (λ (x : Ex). x.0.1) d.1
row_closed b fix A G t w (inr d) = ap (λ (x : Ex). x.0.1) d.1

-- ---- with a type, with `andalso`, with `orelse`

module _ (fix : Settings) {s : Known} {n : ℕ} (A : Room → At → List Token → Type 0) (G : Room → Ex → List Token → Type 0) {b : Room → Reader Token Ex} {eb : ℕ}
    (B : Phrase s n 1 (λ k. row_form k.clashes fix (A k) (G k)) b (λ t. stops row_goes) height_of 1 0 (begins_at fix) eb) (T : TyP s n) where
  module _ {Y : Room → Ex → List Token → Type 0} {y : Room → Reader Token Ex} {ey : ℕ}
      (none : (b : Bool) (t : Ex) (w : List Token) → Y (at_height 0 b) t w → ⊥)
      (out : (h : ℕ) (b : Bool) (t : Ex) (w : List Token) → Y (at_height (suc h) b) t w → typed_form (row_form b fix (A (at_height h b)) (G (at_height h b))) (TyR (at_height h b)) (Y (at_height h b)) t w)
      (into : (h : ℕ) (b : Bool) (t : Ex) (w : List Token) → typed_form (row_form b fix (A (at_height h b)) (G (at_height h b))) (TyR (at_height h b)) (Y (at_height h b)) t w → Y (at_height (suc h) b) t w)
      (Q : Phrase s n 0 Y y typed_stop height_of 2 0 (begins_at fix) ey) where
    pub typed_now : Phrase s n 1 (λ k. typed_form (row_form k.clashes fix (A k) (G k)) (TyR k) (Y k)) (λ k. typed_level (b k) (ty_in k) k.height) typed_stop height_of 1 0 (begins_at fix) eb
    typed_now = growing B (past_word COLON T.part) Q any_tree (at_least 2) typed_of (record {
      none = none;
      out = out;
      into = into;
      high = λ x u. refl;
      tall_is = λ k x w i d. let a = Q.part.least k x w i d in let c = Q.part.lowest k x w i d in omega arith;
      over = λ x. omega arith;
      room = λ x. omega arith;
      low = omega arith;
      base_stop = λ k t w o d. ap (λ (e : Ends). level_stop colon_stop e.reach e.typed o) (sym (row_closed k.clashes fix (A k) (G k) t w d));
      step_stop = λ x u o. refl;
      base_next = λ x c r e. word_halts COLON row_goes refl c e;
      step_next = λ x u c r e. word_halts COLON ty_goes refl c e;
    })

-- behind a word at this level, what follows it and what reaches far
module _ (fix : Settings) {s : Known} {n : ℕ} {B Z A : Room → Ex → List Token → Type 0} {b z a : Room → Reader Token Ex} {eb ez ea : ℕ} where
  module _ (none : (b : Bool) (t : Ex) (w : List Token) → A (at_height 0 b) t w → ⊥) where
    pub and_now : (P : Phrase s n 1 B b typed_stop height_of 1 0 (begins_at fix) eb) (Q : Phrase s n 0 Z z typed_stop height_of 2 0 (begins_exp fix) ez)
        (out : (h : ℕ) (b : Bool) (t : Ex) (w : List Token) → A (at_height (suc h) b) t w → and_form (B (at_height h b)) (Z (at_height h b)) (A (at_height h b)) t w)
        (into : (h : ℕ) (b : Bool) (t : Ex) (w : List Token) → and_form (B (at_height h b)) (Z (at_height h b)) (A (at_height h b)) t w → A (at_height (suc h) b) t w)
        → Phrase s n 0 A a and_stop height_of 2 0 (begins_at fix) ea
        → Phrase s n 1 (λ k. and_form (B k) (Z k) (A k)) (λ k. and_level (b k) (z k) k.height) and_stop height_of 1 0 (begins_at fix) eb
    and_now P Q out into W = growing P (past_word ANDALSO Q.part) W is_near (at_least 2) and_of (record {
      none = none;
      out = out;
      into = into;
      high = λ x u. refl;
      tall_is = λ k x w i d. let a = W.part.least k x w i d in let c = W.part.lowest k x w i d in omega arith;
      over = λ x. omega arith;
      room = λ x. omega arith;
      low = omega arith;
      base_stop = λ k t w o d. and_from t.0.1.reach t.0.1.typed o;
      step_stop = λ x u o. and_from u.0.1.reach u.0.1.typed o;
      base_next = λ x c r e. near_halts colon_stop c (colon_halts ANDALSO refl refl refl c e) x.0.1.reach x.0.1.typed r;
      step_next = λ x u c r e. near_halts colon_stop c (colon_halts ANDALSO refl refl refl c e) u.0.1.reach u.0.1.typed r;
    })

    pub or_now : (P : Phrase s n 1 B b and_stop height_of 1 0 (begins_at fix) eb) (Q : Phrase s n 0 Z z and_stop height_of 2 0 (begins_exp fix) ez)
        (out : (h : ℕ) (b : Bool) (t : Ex) (w : List Token) → A (at_height (suc h) b) t w → or_form (B (at_height h b)) (Z (at_height h b)) (A (at_height h b)) t w)
        (into : (h : ℕ) (b : Bool) (t : Ex) (w : List Token) → or_form (B (at_height h b)) (Z (at_height h b)) (A (at_height h b)) t w → A (at_height (suc h) b) t w)
        → Phrase s n 0 A a or_stop height_of 2 0 (begins_at fix) ea
        → Phrase s n 1 (λ k. or_form (B k) (Z k) (A k)) (λ k. or_level (b k) (z k) k.height) or_stop height_of 1 0 (begins_at fix) eb
    or_now P Q out into W = growing P (past_word ORELSE Q.part) W is_near (at_least 2) or_of (record {
      none = none;
      out = out;
      into = into;
      high = λ x u. refl;
      tall_is = λ k x w i d. let a = W.part.least k x w i d in let c = W.part.lowest k x w i d in omega arith;
      over = λ x. omega arith;
      room = λ x. omega arith;
      low = omega arith;
      base_stop = λ k t w o d. or_from t.0.1.reach t.0.1.typed o;
      step_stop = λ x u o. or_from u.0.1.reach u.0.1.typed o;
      base_next = λ x c r e. near_halts andalso_stop c (andalso_halts ORELSE refl refl refl refl c e) x.0.1.reach x.0.1.typed r;
      step_next = λ x u c r e. near_halts andalso_stop c (andalso_halts ORELSE refl refl refl refl c e) u.0.1.reach u.0.1.typed r;
    })

-- ---- matches

module _ {s : Known} {n : ℕ} {R : Room → Ru → List Token → Type 0} {r : Room → Reader Token Ru} {test : Token → Bool} {er : ℕ} (P : Phrase s n 0 R r rule_stop height_of 3 0 test er) where
  matches : Part s n 0 (λ k. MatchD (R k)) (λ k. match_read (r k)) (λ rs. end_stop (match_ends (match_end rs))) (highest height_of) 3 3
  matches =
      let all = ready_phrase (is BAR) (word_token BAR) (word_is BAR) before_bar P (λ t c e i. bar_next t.0.1.typed t.0.1.reach c e i) in
      restopped (λ rs. end_stop (match_ends (match_end rs))) all.part
      (λ k t w o d. subst (λ (t : List Ru). row_stop (is BAR) rule_stop t o ≡ end_stop (match_ends (match_end t)) o) d.1 (match_stops d.0.0 d.0.1 o))

  -- ---- with `handle`

  module _ (fix : Settings) {B O : Room → Ex → List Token → Type 0} {b o : Room → Reader Token Ex} {eb eo : ℕ} where
    pub handle_now : (P : Phrase s n 1 B b or_stop height_of 1 0 (begins_at fix) eb) → (W : Phrase s n 0 O o or_stop height_of 2 0 (begins_at fix) eo)
        → (none : (b : Bool) (t : Ex) (w : List Token) → O (at_height 0 b) t w → ⊥) → (out : (h : ℕ) (b : Bool) (t : Ex) (w : List Token) → O (at_height (suc h) b) t w → B (at_height h b) t w)
        → (into : (h : ℕ) (b : Bool) (t : Ex) (w : List Token) → B (at_height h b) t w → O (at_height (suc h) b) t w)
        → Phrase s n 1 (λ k. handle_form (B k) (R k) (O k)) (λ k. handle_level (b k) (r k) k.height) exp_stop height_of 1 0 (begins_at fix) eb
    handle_now P W none out into =
        let M = past_word HANDLE matches in
        growing_once P M W is_near (at_least 3) handle_of (record {
          none = none;
          out = out;
          into = into;
          high = λ x u. refl;
          tall_is = λ k x u w v i d e. let a = W.part.least k x w i d in let c = M.part.lowest k u v i e in omega arith;
          over = λ x. omega arith;
          room = λ x. omega arith;
          low = omega arith;
          base_stop = λ k t w o d. full_from t.0.1.reach t.0.1.typed o;
          step_stop = λ x u o. refl;
          base_next = λ x c q e. near_halts orelse_stop c (orelse_halts HANDLE refl refl refl refl refl c e) x.0.1.reach x.0.1.typed q;
        })

  -- ---- the forms that reach far

  module _ (fix : Settings) {E : Room → Ex → List Token → Type 0} {e : Room → Reader Token Ex} (X : Phrase s n 0 E e exp_stop height_of 2 0 (begins_exp fix) 4) where
    pub far_now : Phrase s n 1 (λ k. far_form (E k) (R k)) (λ k. far_level (e k) (r k) k.height) exp_stop height_of 2 0 begins_far 3
    far_now =
        pick plain_fix (just RAISE) (union (just IF) (union (just WHILE) (union (just CASE) (just FN)))) (is_just plain_fix RAISE) (λ c. refl)
        (node raise_of height_of exp_stop (phrase (the_word RAISE) X.part) (λ x. omega arith) (λ x o. far_same x.1.0.1.typed x.1.0.1.reach o))
        (pick plain_fix (just IF) (union (just WHILE) (union (just CASE) (just FN))) (is_just plain_fix IF) (λ c. refl)
        (node if_of height_of exp_stop (phrase (the_word IF) (pair_then X.part (then_else THEN ELSE) (λ t c i. exp_halts THEN refl t c i))) (λ x. omega arith) (λ x o. far_same x.1.1.1.0.1.typed x.1.1.1.0.1.reach o))
        (pick plain_fix (just WHILE) (union (just CASE) (just FN)) (is_just plain_fix WHILE) (λ c. refl)
        (node while_of height_of exp_stop (phrase (the_word WHILE) (pair_then X.part (past_word DO X.part) (λ t c i. exp_halts DO refl t c i))) (λ x. omega arith) (λ x o. far_same x.1.1.0.1.typed x.1.1.0.1.reach o))
        (pick plain_fix (just CASE) (just FN) (is_just plain_fix CASE) (is_just plain_fix FN)
        (node case_of height_of exp_stop (phrase (the_word CASE) (pair_then X.part (past_word OF matches) (λ t c i. exp_halts OF refl t c i))) (λ x. omega arith) (λ x o. refl))
        (last (node fn_of height_of exp_stop (phrase (the_word FN) matches) (λ x. omega arith) (λ x o. refl)) (omega arith))
        (omega arith) (omega arith) refl)
        (omega arith) (omega arith) refl)
        (omega arith) (omega arith) refl)
        (omega arith) (omega arith) refl
      where
        then_else : (k j : ℕ) → Phrase s n 0 (λ r. Both (Skip (is THEN) (E r)) (Skip (is ELSE) (E r))) (λ r. both (skip (is THEN) (e r)) (skip (is ELSE) (e r))) (λ x. exp_stop x.1) (λ x. max (height_of x.0) (height_of x.1)) 2 2 (is THEN) 2
        then_else k j =
            let first_part = past_word THEN X.part in
            let other = past_word ELSE X.part in
            record { part = pair_then first_part.part other (λ t c i. exp_halts ELSE refl t c i); opening = pair_opens first_part.opening other.part }

-- a form that reaches far is none that is near
pub is_far : (E : Ex → List Token → Type 0) (R : Ru → List Token → Type 0) (t : Ex) (w : List Token) → far_form E R t w → is_near t ≡ false
is_far E R t w (inl d) = ap is_near (sym d.1) ∙ far_is_far d.0.1.0.1.reach
is_far E R t w (inr (inl d)) = ap is_near (sym d.1) ∙ far_is_far d.0.1.1.1.0.1.reach
is_far E R t w (inr (inr (inl d))) = ap is_near (sym d.1) ∙ far_is_far d.0.1.1.0.1.reach
is_far E R t w (inr (inr (inr (inl d)))) = ap is_near (sym d.1)
is_far E R t w (inr (inr (inr (inr d)))) = ap is_near (sym d.1)

module _ (fix : Settings) {s : Known} {n : ℕ} {B : Room → Ex → List Token → Type 0} {b : Room → Reader Token Ex} {eb : ℕ} (E : Room → Ex → List Token → Type 0) (R : Room → Ru → List Token → Type 0) {f : Room → Reader Token Ex} {ef : ℕ}
    (stop : Bool → Option Token → Bool) (F : Phrase s n 1 (λ k. far_form (E k) (R k)) f exp_stop height_of 2 0 begins_far ef) where
  -- an expression of a level, or one that reaches far
  pub or_far_now : Phrase s n 1 B b (λ x. level_stop stop x.0.1.reach x.0.1.typed) height_of 1 0 (begins_at fix) eb
      → Phrase s n 1 (λ k. Or (B k) (far_form (E k) (R k))) (λ k. or_far fix (b k) (f k) k.height) (λ x. level_stop stop x.0.1.reach x.0.1.typed) height_of 1 0 (begins_exp fix) (max (max 1 eb) (max 2 ef))
  or_far_now P = pick fix at_firsts far_firsts (λ c. refl) (steady plain_fix fix far_firsts refl refl refl) P
      (record { part = restopped (λ x. level_stop stop x.0.1.reach x.0.1.typed) F.part (λ k t w o d. far_at_level stop t.0.1.reach t.0.1.typed o (is_far (E k) (R k) t w d)); opening = F.opening })
      (omega arith) (omega arith) refl

  -- a whole expression
  pub exp_now : Phrase s n 1 B b exp_stop height_of 1 0 (begins_at fix) eb → Phrase s n 1 (λ k. Or (B k) (far_form (E k) (R k))) (λ k. or_far fix (b k) (f k) k.height) exp_stop height_of 1 0 (begins_exp fix) (max (max 1 eb) (max 2 ef))
  exp_now P = pick fix at_firsts far_firsts (λ c. refl) (steady plain_fix fix far_firsts refl refl refl) P F (omega arith) (omega arith) refl

-- ---- rules

pub rule_now : (fix : Settings) {s : Known} {n : ℕ} {P : Room → Pt → List Token → Type 0} {p : Room → Reader Token Pt} {E : Room → Ex → List Token → Type 0} {e : Room → Reader Token Ex} {ep : ℕ} {begins : Token → Bool} {ee : ℕ}
    → Phrase s n 0 P p (λ t. stops pat_goes) height_of 2 0 (begins_pat fix) ep → Phrase s n 0 E e exp_stop height_of 2 0 begins ee
    → Phrase s n 1 (λ k. rule_form (P k) (E k)) (λ k. rule_level fix (p k) (e k) k.height) rule_stop height_of 2 0 (begins_pat fix) (max ep 2)
rule_now fix Y X =
    let arrow = past_word DARROW X.part in
    last (node arm_of height_of rule_stop (record { part = pair_then Y.part arrow (λ t c i. word_halts DARROW pat_goes refl c i); opening = pair_opens Y.opening arrow.part }) (λ x. refl) (λ x o. refl)) (omega arith)
