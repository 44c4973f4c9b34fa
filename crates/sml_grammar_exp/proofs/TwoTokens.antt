-- Type variables before what may begin with a parenthesis: two tokens of view.
use Rattle.std.proofs.Common.{◌≡◌, ℕ, ◌≤◌, max, Bool, true, false, ◌&&◌, ◌||◌, List, [], ◌∷◌, ◌++◌, Option, Some, None, Ok, Err, refl, sym, ap, subst, ◌∙◌, arith, inl, inr}
use Rattle.std.proofs.lemmas.List.{append-nil}
use Rattle.readers.specs.declared.code.Code.{Code}
use Rattle.readers.specs.declared.code.Code.TheVariants.{Grammar, Depth, FixityClash}
use Rattle.readers.specs.Reader.{first, head_is, Reader, mapped}
use Rattle.readers.specs.Language.{Viable, As}
use Rattle.readers.specs.Room.{Room, Alike}
use Rattle.readers.specs.Exact.{Found, Refuses}
use Rattle.readers.proofs.Bundle.{Known, Reading, Refusing, refused_fits, refused_reads, Part, Phrase}
use Rattle.readers.proofs.Combine.{made_phrase, shown_test}
use Rattle.readers.proofs.Outcome.{head_some, head-append, chosen, not_both, under_self}
use Rattle.sml_lex.specs.declared.token.Token.{Token}
use Rattle.sml_grammar.specs.Words.{OPEN_PAREN}
use Rattle.sml_grammar.specs.Tokens.{is, just, place, plain_fix, tokens_of, tyvars, tyvar_ident}
use Rattle.sml_grammar.proofs.Sets.{is_just, among_union}
use Rattle.sml_grammar_exp.specs.Binds.{Vars, Under, VarsD, UnderD, with_vars, no_vars, under_height}
use Rattle.sml_grammar_exp.specs.ReadBinds.{vars_read, begins_vars}
use Rattle.sml_grammar_exp.specs.ReadDecs.{behind_first, vars_next, under_two}
use Rattle.sml_grammar_exp.proofs.Binds.{behind_vars, listed_vars}

pub alike_self : (c : Code) (h : Room) → Alike c h h
alike_self Grammar h = under_self h
alike_self Depth h = refl
alike_self FixityClash h = (omega arith, refl)

-- a token that begins a phrase of the room is not refused at once
pub begun : {K T : Type 0} {s : Known} {n up : ℕ} {D : Room → T → List K → Type 0} {p : Room → Reader K T} {st : T → Option K → Bool} {td : T → ℕ} {l m : ℕ} {test : K → Bool} {enough : ℕ} → Phrase s n up D p st td l m test enough → ((t : T) → st t None ≡ true)
    → (h : Room) → Refusing s n h → enough ≤ h.height → (v : List K) (e : Code × List K) → Refuses D p h v e → head_is test (first v) ≡ true → (u : List K) → v ≡ u ++ e.1 → ((k : Room) (q : List K) → Alike e.0 h k → first q ≡ first e.1 → p k (u ++ q) ≡ Err (e.0, q)) → u ≡ [] → ⊥
begun {K} {T} {s} {n} {up} {D} {p} {st} {test = test} P ends h i le v e g b u parts local empty =
    let c = head_some test (first v) b in
    let w = P.opening.starts h c.0 (refused_fits s n h h i) le c.2 in
    let r = P.part.reads h (refused_reads s n h h i) in
    let same : first (c.0 ∷ w.more) ≡ first e.1 = sym c.1 ∙ ap first (parts ∙ ap (λ (z : List K). z ++ e.1) empty) in
    let err : p h (c.0 ∷ w.more) ≡ Err (e.0, c.0 ∷ w.more) = subst (λ (z : List K). p h (z ++ c.0 ∷ w.more) ≡ Err (e.0, c.0 ∷ w.more)) empty (local h (c.0 ∷ w.more) (alike_self e.0 h) same) in
    let ok = r.complete w.tree (c.0 ∷ w.more) [] w.derives (ends w.tree) in
    not_both (w.tree, []) (e.0, c.0 ∷ w.more) (sym ok ∙ (ap (p h) (append-nil (c.0 ∷ w.more)) ∙ err))

-- ---- what two tokens show

-- behind a first token the view is settled by one more
same_view : (u q r : List Token) → first q ≡ first r → (u ≡ [] → ⊥) → vars_next (u ++ q) ≡ vars_next (u ++ r)
same_view [] q r e f = absurd (f refl)
same_view (c ∷ []) q r e f = ap (λ (o : Option Token). head_is (tokens_of tyvars) (Some c) || (head_is (is OPEN_PAREN) (Some c) && head_is (tokens_of tyvars) o)) e
same_view (c ∷ d ∷ u) q r e f = refl

or_no : (x y : Bool) → (x || y) ≡ false → x ≡ false
or_no true y h = h
or_no false y h = refl

or_yes : (x y : Bool) → x ≡ true → (x || y) ≡ true
or_yes x y h = rw h refl

second_yes : (x y : Bool) → y ≡ true → (x || y) ≡ true
second_yes true y h = refl
second_yes false y h = h

-- without a parenthesis it is settled by the first
first_view : (q r : List Token) → first q ≡ first r → vars_next r ≡ false → head_is (is OPEN_PAREN) (first r) ≡ false → vars_next q ≡ false
first_view q r e f g = go (head_is (tokens_of tyvars) (first q)) (head_is (is OPEN_PAREN) (first q)) (ap (head_is (tokens_of tyvars)) e ∙ or_no (head_is (tokens_of tyvars) (first r)) _ f) (ap (head_is (is OPEN_PAREN)) e ∙ g)
  where
    go : (x y : Bool) → x ≡ false → y ≡ false → (x || (y && head_is (tokens_of tyvars) (behind_first q))) ≡ false
    go x y h i = rw h (rw i refl)

turned : (x y z : Bool) → (y || (x && z)) ≡ true → (x || y) ≡ true
turned true y z e = refl
turned false y z e = or_alone y e
  where
    or_alone : (y : Bool) → (y || false) ≡ true → y ≡ true
    or_alone true e = refl
    or_alone false e = e

head_vars : (v : List Token) → vars_next v ≡ true → head_is begins_vars (first v) ≡ true
head_vars [] e = e
head_vars (c ∷ v) e = among_union plain_fix (just OPEN_PAREN) tyvars c ∙ (ap (λ (x : Bool). x || tokens_of tyvars c) (sym (is_just plain_fix OPEN_PAREN c)) ∙ turned (is OPEN_PAREN c) (tokens_of tyvars c) _ e)

-- type variables show themselves
shows_two : {X : Type 0} (P : X → List Token → Type 0) (x : Vars × X) (w r : List Token) → VarsD P x w → vars_next (w ++ r) ≡ true
shows_two P x w r (inl d) =
    let j = d.2 in
    let a = j.left in
    let b = j.right in
    let z : List Token = b.front ++ b.back in
    let whole : w ++ r ≡ a.token ∷ (j.back ++ r) = ap (λ (y : List Token). y ++ r) (j.whole ∙ ap (λ (y : List Token). y ++ j.back) a.whole) in
    let inside = listed_vars {s = Known.Sizes} {n = 0} in
    let second : head_is (tokens_of tyvars) (first (j.back ++ r)) ≡ true =
    head-append (tokens_of tyvars) j.back r (subst (λ (y : List Token). head_is (tokens_of tyvars) (first y) ≡ true) (sym b.whole) (head-append (tokens_of tyvars) b.front b.back
    (inside.opening.begins (record { height = 0; clashes = true }) d.0.1.0 b.front (omega arith) b.left))) in
    subst (λ (y : List Token). vars_next y ≡ true) (sym whole)
    (second_yes (head_is (tokens_of tyvars) (Some a.token)) _ (and_yes (is OPEN_PAREN a.token) _ (shown_test (is OPEN_PAREN) place a.token d.0.0 a.shows) second))
  where
    and_yes : (x y : Bool) → x ≡ true → y ≡ true → (x && y) ≡ true
    and_yes x y h i = rw h i
shows_two P x w r (inr d) =
    let j = d.2 in
    let a = j.left in
    let whole : w ++ r ≡ a.token ∷ (j.back ++ r) = ap (λ (y : List Token). y ++ r) (j.whole ∙ ap (λ (y : List Token). y ++ j.back) a.whole) in
    subst (λ (y : List Token). vars_next y ≡ true) (sym whole) (or_yes (tokens_of tyvars a.token) _ (shown_test (tokens_of tyvars) tyvar_ident a.token d.0.0 a.shows))

-- ---- the choice

module _ {X : Type 0} {s : Known} {n : ℕ} {D : Room → X → List Token → Type 0} {p : Room → Reader Token X} {sd : X → Option Token → Bool} {td : X → ℕ} {ld nd : ℕ} {test : Token → Bool} {ed : ℕ} (P : Phrase s n 0 D p sd td ld nd test ed)
    (ends : (x : X) → sd x None ≡ true) (opens : (c : Token) → is OPEN_PAREN c ≡ true → test c ≡ true)
    (never : (k : Room) (x : X) (w r : List Token) → Reading s n k → D k x w → sd x (first r) ≡ true → vars_next (w ++ r) ≡ false) where
  Q : Phrase s n 0 (λ k. As with_vars (VarsD (D k))) (λ k. mapped with_vars (vars_read (p k))) (λ x. sd x.1) (under_height td) ld (max ld nd) begins_vars ld
  Q = made_phrase with_vars (under_height td) (λ x. sd x.1) (behind_vars P.part) (λ x. refl) (λ x o. refl)

  R : Phrase s n 0 (λ k. As no_vars (D k)) (λ k. mapped no_vars (p k)) (λ x. sd x.1) (under_height td) ld nd test ed
  R = made_phrase no_vars (under_height td) (λ x. sd x.1) P (λ x. refl) (λ x o. refl)

  two_complete : (k : Room) → Reading s n k → (x : Under X) (w r : List Token) → UnderD (D k) x w → sd x.1 (first r) ≡ true → under_two (p k) (w ++ r) ≡ Ok (x, r)
  two_complete k i x w r (inl d) st = let v = shows_two (D k) d.0 w r d.2 in let full = (Q.part.reads k i).complete x w r d st in rw v full
  two_complete k i x w r (inr d) st =
      let v : vars_next (w ++ r) ≡ false = never k d.0 w r i d.2 (ap (λ (y : Under X). sd y.1 (first r)) d.1 ∙ st) in
      let full = (R.part.reads k i).complete x w r d st in rw v full

  two_sound : (k : Room) → Reading s n k → (v : List Token) (z : Under X × List Token) → under_two (p k) v ≡ Ok z → Found (UnderD (D k)) (λ x. sd x.1) v z
  two_sound k i v z e =
      elim (chosen (vars_next v) (mapped with_vars (vars_read (p k)) v) (mapped no_vars (p k) v) (Ok z) e) [
        | inl a ↦ let f = (Q.part.reads k i).sound v z a.1 in record { read = f.read; derives = inl f.derives; parts = f.parts; stops = f.stops }
        | inr a ↦ let f = (R.part.reads k i).sound v z a.1 in record { read = f.read; derives = inr f.derives; parts = f.parts; stops = f.stops }
      ]

  left_viable : (k : Room) (u : List Token) → Viable (As with_vars (VarsD (D k))) u → Viable (UnderD (D k)) u
  left_viable k u v = record { tree = v.tree; more = v.more; derives = inl v.derives }

  right_viable : (k : Room) (u : List Token) → Viable (As no_vars (D k)) u → Viable (UnderD (D k)) u
  right_viable k u v = record { tree = v.tree; more = v.more; derives = inr v.derives }

  two_refuses : (h : Room) → Refusing s n h → max (max ld nd) ed ≤ h.height → (v : List Token) (e : Code × List Token) → under_two (p h) v ≡ Err e → Refuses (λ k. UnderD (D k)) (λ k. under_two (p k)) h v e
  two_refuses h i le v e j =
      elim (chosen (vars_next v) (mapped with_vars (vars_read (p h)) v) (mapped no_vars (p h) v) (Err e) j) [
        | inl a ↦
            let g = Q.part.refuses h i (omega (arith, le)) v e a.1 in record {
              read = g.read;
              parts = g.parts;
              viable = elim g.viable [ inl z ↦ inl z | inr x ↦ inr (left_viable h g.read x) ];
              local = λ k q al o.
                  let view : vars_next (g.read ++ q) ≡ true = same_view g.read q e.1 o (begun Q (λ x. ends x.1) h i (omega (arith, le)) v e g (head_vars v a.0) g.read g.parts g.local) ∙ (ap vars_next (sym g.parts) ∙ a.0) in
                  let same = g.local k q al o in rw view same;
              deep = λ dp. let d = g.deep dp in record { room = d.room; eased = d.eased; token = d.token; is = d.is; viable = left_viable d.room (g.read ++ d.token ∷ []) d.viable };
            }
        | inr a ↦
            let g = R.part.refuses h i (omega (arith, le)) v e a.1 in record {
              read = g.read;
              parts = g.parts;
              viable = elim g.viable [ inl z ↦ inl z | inr x ↦ inr (right_viable h g.read x) ];
              local = λ k q al o. let view : vars_next (g.read ++ q) ≡ false = other_view h i le v e g a.0 q o g.read refl in let same = g.local k q al o in rw view same;
              deep = λ dp. let d = g.deep dp in record { room = d.room; eased = d.eased; token = d.token; is = d.is; viable = right_viable d.room (g.read ++ d.token ∷ []) d.viable };
            }
      ]
    where
      other_view : (h : Room) → Refusing s n h → max (max ld nd) ed ≤ h.height → (v : List Token) (e : Code × List Token) (g : Refuses (λ k. As no_vars (D k)) (λ k. mapped no_vars (p k)) h v e) → vars_next v ≡ false
          → (q : List Token) → first q ≡ first e.1 → (u : List Token) → g.read ≡ u → vars_next (u ++ q) ≡ false
      other_view h i le v e g a q o [] z = by_first (head_is (is OPEN_PAREN) (first v)) refl
        where
          same : v ≡ e.1
          same = g.parts ∙ ap (λ (y : List Token). y ++ e.1) z

          by_first : (b : Bool) → head_is (is OPEN_PAREN) (first v) ≡ b → vars_next q ≡ false
          by_first false y = first_view q v (o ∙ ap first (sym same)) a y
          by_first true y =
              let c = head_some (is OPEN_PAREN) (first v) y in
              absurd (begun R (λ x. ends x.1) h i (omega (arith, le)) v e g (ap (head_is test) c.1 ∙ opens c.0 c.2) g.read g.parts g.local z)
      other_view h i le v e g a q o (c ∷ u) z = same_view (c ∷ u) q e.1 o (λ (y : c ∷ u ≡ []). absurd cc) ∙ (ap vars_next (ap (λ (y : List Token). y ++ e.1) (sym z) ∙ sym g.parts) ∙ a)

  -- type variables, or what begins otherwise
  pub with_two : Part s n 0 (λ k. UnderD (D k)) (λ k. under_two (p k)) (λ x. sd x.1) (under_height td) ld (max (max ld nd) ed)
  with_two = record {
    above = λ k t w i d. omega arith;
    least = λ k t w i d. elim d [ inl a ↦ Q.part.least k t w i a | inr a ↦ R.part.least k t w i a ];
    lowest = λ k t w i d. elim d [ inl a ↦ Q.part.lowest k t w i a | inr a ↦ R.part.lowest k t w i a ];
    fits = λ h k t w i b l d. elim d [ inl a ↦ inl (Q.part.fits h k t w i b l a) | inr a ↦ inr (R.part.fits h k t w i b l a) ];
    some = λ h i l. right_viable h [] (R.part.some h i l);
    reads = λ k i. record { complete = two_complete k i; sound = two_sound k i };
    refuses = λ h i l v e j. two_refuses h i l v e j;
  }
