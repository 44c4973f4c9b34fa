-- No binding of values and no clause shows type variables in its first two tokens.
use Rattle.std.proofs.Common.{◌≡◌, ℕ, zero, suc, Bool, true, false, ◌&&◌, ◌||◌, List, ◌∷◌, ◌++◌, Option, Some, None, refl, sym, ap, subst, ◌∙◌, append_assoc, inl, inr}
use Rattle.readers.specs.Reader.{first, head_is}
use Rattle.readers.specs.Language.{Joined, That, Shows}
use Rattle.readers.specs.Room.{at_height}
use Rattle.readers.specs.Forms.{shown, Seps, Ready}
use Rattle.readers.proofs.Bundle.{Known}
use Rattle.readers.proofs.Combine.{shown_test}
use Rattle.readers.proofs.Outcome.{head-append}
use Rattle.tl_text.specs.declared.place.Place.{Place}
use Rattle.sml_lex.specs.declared.token.Token.{Token}
use Rattle.sml_fix.specs.Fixities.{Settings}
use Rattle.sml_grammar.specs.Words.{AND, BAR, CLOSE_PAREN, OPEN_PAREN, OPEN_BRACE, OPEN_BRACKET, OP, REC, WILDCARD}
use Rattle.sml_grammar.specs.Tokens.{Firsts, just, is, the, place, among, plain_fix, tokens_of, tyvars, ident, long_ident, literal, literals, plain_names, plain_long_names}
use Rattle.sml_grammar.specs.Types.{Tx}
use Rattle.sml_grammar.specs.Pats.{Ap, Fp, Pt, Name, Inside, NameD, InsideD, other_form, at_form, row_form, typed_form, name_on, other_on, at_on, row_on, typed_on, pat_on}
use Rattle.sml_grammar.specs.ReadPats.{at_firsts as pat_firsts, begins_at as begins_pat}
use Rattle.sml_grammar.proofs.Sets.{is_just, apart, apart_is}
use Rattle.sml_grammar.proofs.Pats.{pat_exact, at_exact}
use Rattle.sml_grammar_exp.specs.Exps.{Ex}
use Rattle.sml_grammar_exp.specs.Binds.{Vid, VidD}
use Rattle.sml_grammar_exp.specs.Clauses.{Head, HeadR}
use Rattle.sml_grammar_exp.specs.Decs.{Vbs, VbsD, Cl, ClauseD, clause_bar}
use Rattle.sml_grammar_exp.specs.ReadDecs.{vars_next}

-- two tokens that show none
two_none : (c : Token) (s : List Token) → tokens_of tyvars c ≡ false → (is OPEN_PAREN c ≡ true → head_is (tokens_of tyvars) (first s) ≡ false) → vars_next (c ∷ s) ≡ false
two_none c s e f = go (tokens_of tyvars c) (is OPEN_PAREN c) e f
  where
    go : (x y : Bool) → x ≡ false → (y ≡ true → head_is (tokens_of tyvars) (first s) ≡ false) → (x || (y && head_is (tokens_of tyvars) (first s))) ≡ false
    go true y e f = let no : true ≡ false = e in absurd cc
    go false true e f = f refl
    go false false e f = refl

-- a token that is no parenthesis
one_none : (c : Token) (s : List Token) → tokens_of tyvars c ≡ false → is OPEN_PAREN c ≡ false → vars_next (c ∷ s) ≡ false
one_none c s e f = two_none c s e (λ i. let no : true ≡ false = sym i ∙ f in absurd cc)

-- a token of a set that has neither
set_none : (fix : Settings) (a : Firsts) → apart a tyvars ≡ true → apart a (just OPEN_PAREN) ≡ true → (c : Token) (s : List Token) → among fix a c ≡ true → vars_next (c ∷ s) ≡ false
set_none fix a x y c s i = one_none c s (apart_is fix plain_fix a tyvars x c i) (is_just plain_fix OPEN_PAREN c ∙ apart_is fix plain_fix a (just OPEN_PAREN) y c i)

word_none : (k : ℕ) → apart (just k) tyvars ≡ true → apart (just k) (just OPEN_PAREN) ≡ true → (c : Token) (s : List Token) → is k c ≡ true → vars_next (c ∷ s) ≡ false
word_none k x y c s i = set_none plain_fix (just k) x y c s (sym (is_just plain_fix k c) ∙ i)

-- phrases that show none, whatever follows
abbrev pub Plain : (List Token → Type 0) → Type 0
Plain P = (w r : List Token) → P w → vars_next (w ++ r) ≡ false

front_plain : (P Q : List Token → Type 0) → Plain P → Plain (Joined P Q)
front_plain P Q f w r j = subst (λ (z : List Token). vars_next z ≡ false) (sym (ap (λ (z : List Token). z ++ r) j.whole ∙ append_assoc j.front j.back r)) (f j.front (j.back ++ r) j.left)

shows_plain : {A : Type 0} (fix : Settings) (a : Firsts) (view : Token → A) (x : A) → apart a tyvars ≡ true → apart a (just OPEN_PAREN) ≡ true → Plain (Shows (shown (among fix a) view) x)
shows_plain fix a view x e f w r d = subst (λ (z : List Token). vars_next (z ++ r) ≡ false) (sym d.whole) (set_none fix a e f d.token r (shown_test (among fix a) view d.token x d.shows))

the_plain : (k : ℕ) (p : Place) → apart (just k) tyvars ≡ true → apart (just k) (just OPEN_PAREN) ≡ true → Plain (Shows (the k) p)
the_plain k p e f w r d = subst (λ (z : List Token). vars_next (z ++ r) ≡ false) (sym d.whole) (word_none k e f d.token r (shown_test (is k) place d.token p d.shows))

that_plain : (k : ℕ) → apart (just k) tyvars ≡ true → apart (just k) (just OPEN_PAREN) ≡ true → Plain (That (is k))
that_plain k e f w r d = subst (λ (z : List Token). vars_next (z ++ r) ≡ false) (sym d.whole) (word_none k e f d.token r d.fits)

-- a parenthesis, and what begins with no type variable
paren_plain : (p : Place) (Q : List Token → Type 0) → ((w r : List Token) → Q w → head_is (tokens_of tyvars) (first (w ++ r)) ≡ false) → Plain (Joined (Shows (the OPEN_PAREN) p) Q)
paren_plain p Q f w r j =
    let whole : w ++ r ≡ j.left.token ∷ (j.back ++ r) = ap (λ (z : List Token). z ++ r) (j.whole ∙ ap (λ (z : List Token). z ++ j.back) j.left.whole) in
    subst (λ (z : List Token). vars_next z ≡ false) (sym whole)
    (two_none j.left.token (j.back ++ r) (apart_is plain_fix plain_fix (just OPEN_PAREN) tyvars refl j.left.token (sym (is_just plain_fix OPEN_PAREN j.left.token) ∙ shown_test (is OPEN_PAREN) place j.left.token p j.left.shows)) (λ i. f j.back r j.right))

name_plain : (fix : Settings) (n : Name) → Plain (NameD fix n)
name_plain fix n w r (inl d) = shows_plain fix plain_long_names long_ident d.0 refl refl w r d.2
name_plain fix n w r (inr d) = front_plain _ _ (the_plain OP d.0.0 refl refl) w r d.2

vid_plain : (fix : Settings) (v : Vid) → Plain (VidD fix v)
vid_plain fix v w r (inl d) = front_plain _ _ (the_plain OP d.0.0 refl refl) w r d.2
vid_plain fix v w r (inr d) = shows_plain fix plain_names ident d.0 refl refl w r d.2

-- what begins a pattern is no type variable
pat_first : (fix : Settings) (o : Option Token) → head_is (begins_pat fix) o ≡ true → head_is (tokens_of tyvars) o ≡ false
pat_first fix None e = refl
pat_first fix (Some c) e = apart_is fix plain_fix pat_firsts tyvars refl c e

module _ (fix : Settings) (h : ℕ) (b : Bool) where
  pat_starts : (t : Pt) (w r : List Token) → pat_on h b fix t w → head_is (tokens_of tyvars) (first (w ++ r)) ≡ false
  pat_starts t w r d = let P = pat_exact fix Known.Refusals h in pat_first fix (first (w ++ r)) (head-append (begins_pat fix) w r (P.opening.begins (at_height h b) t w tt d))

  at_starts : (t : Ap) (w r : List Token) → at_on h b fix t w → head_is (tokens_of tyvars) (first (w ++ r)) ≡ false
  at_starts t w r d = let P = at_exact fix Known.Refusals h in pat_first fix (first (w ++ r)) (head-append (begins_pat fix) w r (P.opening.begins (at_height h b) t w tt d))

  inside_starts : (x : Inside) (w r : List Token) → InsideD (pat_on h b fix) x w → head_is (tokens_of tyvars) (first (w ++ r)) ≡ false
  inside_starts x w r (inl d) =
      let c = d.2 in
      subst (λ (z : List Token). head_is (tokens_of tyvars) (first (z ++ r)) ≡ false) (sym c.whole) (apart_is plain_fix plain_fix (just CLOSE_PAREN) tyvars refl c.token (sym (is_just plain_fix CLOSE_PAREN c.token) ∙ c.fits))
  inside_starts x w r (inr d) =
      let j = d.2 in
      subst (λ (z : List Token). head_is (tokens_of tyvars) (first z) ≡ false) (sym (ap (λ (z : List Token). z ++ r) j.whole ∙ append_assoc j.front j.back r)) (pat_starts d.0.0 j.front (j.back ++ r) j.left)

  other_form_plain : (F : Fp → List Token → Type 0) (t : Ap) → Plain (other_form F (pat_on h b fix) t)
  other_form_plain F t w r (inl d) = the_plain WILDCARD d.0 refl refl w r d.2
  other_form_plain F t w r (inr (inl d)) = shows_plain plain_fix literals literal d.0 refl refl w r d.2
  other_form_plain F t w r (inr (inr (inl d))) = front_plain _ _ (the_plain OPEN_BRACE d.0.0 refl refl) w r d.2
  other_form_plain F t w r (inr (inr (inr (inl d)))) = front_plain _ _ (the_plain OPEN_BRACKET d.0.0 refl refl) w r d.2
  other_form_plain F t w r (inr (inr (inr (inr d)))) = paren_plain d.0.0 (InsideD (pat_on h b fix) d.0.1) (λ w r x. inside_starts d.0.1 w r x) w r d.2

  at_form_plain : (F : Fp → List Token → Type 0) (t : Ap) → Plain (at_form fix F (pat_on h b fix) t)
  at_form_plain F t w r (inl d) = name_plain fix d.0 w r d.2
  at_form_plain F t w r (inr d) = other_form_plain F t w r d

module _ (fix : Settings) where
  pub at_plain : (h : ℕ) (b : Bool) (t : Ap) → Plain (at_on h b fix t)
  unfolding at_on
  at_plain zero b t w r d = absurd d
  at_plain (suc h) b t w r d = at_form_plain fix h b _ t w r d

  other_plain : (h : ℕ) (b : Bool) (t : Ap) → Plain (other_on h b fix t)
  unfolding other_on
  other_plain zero b t w r d = absurd d
  other_plain (suc h) b t w r d = other_form_plain fix h b _ t w r d

  names_plain : (h : ℕ) (n : Name) → Plain (name_on h fix n)
  unfolding name_on
  names_plain zero n w r d = absurd d
  names_plain (suc h) n w r d = name_plain fix n w r d

  row_form_plain : (h : ℕ) (b : Bool) (R : Pt → List Token → Type 0) → ((t : Pt) → Plain (R t)) → (t : Pt) → Plain (row_form b fix (name_on h fix) (at_on h b fix) (other_on h b fix) R t)
  row_form_plain h b R f t w r (inl (x, e, inl d)) = front_plain _ _ (names_plain h d.0.0) w r d.2
  row_form_plain h b R f t w r (inl (x, e, inr d)) = other_plain h b d.0 w r d.2
  row_form_plain h b R f t w r (inr d) = front_plain _ _ (f d.0.0) w r d.2.2

  row_plain : (h : ℕ) (b : Bool) (t : Pt) → Plain (row_on h b fix t)
  unfolding row_on
  row_plain zero b t w r d = absurd d
  row_plain (suc h) b t w r d = row_form_plain h b (row_on h b fix) (row_plain h b) t w r d

  typed_form_plain : (h : ℕ) (b : Bool) (T : Tx → List Token → Type 0) (Q : Pt → List Token → Type 0) → ((t : Pt) → Plain (Q t)) → (t : Pt) → Plain (typed_form (row_form b fix (name_on h fix) (at_on h b fix) (other_on h b fix) (row_on h b fix)) T Q t)
  typed_form_plain h b T Q f t w r (inl d) = row_form_plain h b (row_on h b fix) (row_plain h b) t w r d
  typed_form_plain h b T Q f t w r (inr d) = front_plain _ _ (f d.0.0) w r d.2.1

  typed_plain : (h : ℕ) (b : Bool) (t : Pt) → Plain (typed_on h b fix t)
  unfolding typed_on
  typed_plain zero b t w r d = absurd d
  typed_plain (suc h) b t w r d = typed_form_plain h b _ (typed_on h b fix) (typed_plain h b) t w r d

  pub pat_plain : (h : ℕ) (b : Bool) (t : Pt) → Plain (pat_on h b fix t)
  unfolding pat_on
  pat_plain zero b t w r d = absurd d
  pat_plain (suc h) b t w r (inl d) = typed_form_plain h b _ (typed_on h b fix) (typed_plain h b) t w r d
  pat_plain (suc h) b t w r (inr d) = front_plain _ _ (typed_form_plain h b _ (typed_on h b fix) (typed_plain h b) d.0.0) w r d.2.1

  -- ---- bindings and clauses

  pub vbs_plain : (h : ℕ) (b : Bool) (E : Ex → List Token → Type 0) (x : Vbs) → Plain (VbsD (pat_on h b fix) E x)
  vbs_plain h b E x w r (inl d) = front_plain _ _ (that_plain REC refl refl) w r d.2
  vbs_plain h b E x w r (inr (bs, e, (y, i, d))) = front_plain _ _ (front_plain _ _ (pat_plain h b y.0.0)) w r d

  pub head_plain : (h : ℕ) (b : Bool) (t : Head) → Plain (HeadR fix (at_height h b) t)
  head_plain h b t w r (inl d) = front_plain _ _ (vid_plain fix d.0.0) w r d.2
  head_plain h b t w r (inr (inl d)) = front_plain _ _ (at_plain h b d.0.0) w r d.2
  head_plain h b t w r (inr (inr d)) = front_plain _ _ (paren_plain d.0.0.0 _ (λ w r x. let a = x.left in starts h b d.0.0.1.0 w r x)) w r d.2
    where
      starts : (h : ℕ) (b : Bool) (t : Ap) {P Q : List Token → Type 0} (w r : List Token) → Joined (Joined (at_on h b fix t) P) Q w → head_is (tokens_of tyvars) (first (w ++ r)) ≡ false
      starts h b t w r x =
          let a = x.left in
          subst (λ (z : List Token). head_is (tokens_of tyvars) (first z) ≡ false)
          (sym (ap (λ (z : List Token). z ++ r) (x.whole ∙ ap (λ (z : List Token). z ++ x.back) a.whole) ∙ (append_assoc (a.front ++ a.back) x.back r ∙ append_assoc a.front a.back (x.back ++ r))))
          (at_starts fix h b t a.front (a.back ++ (x.back ++ r)) a.left)

  pub clause_plain : (h : ℕ) (b : Bool) (T : Tx → List Token → Type 0) (E : Ex → List Token → Type 0) (x : Cl) → Plain (ClauseD (HeadR fix (at_height h b)) T E x)
  clause_plain h b T E x w r d = front_plain _ _ (front_plain _ _ (head_plain h b d.0.0.0)) w r d.2

  pub clauses_plain : (C : Cl → List Token → Type 0) → ((x : Cl) → Plain (C x)) → (x : List (List Cl)) → Plain (Seps (is AND) (Ready (is BAR) clause_bar C) x)
  clauses_plain C f x w r d = front_plain _ _ (λ w r y. front_plain _ _ (f y.0.0) w r y.2) w r d.2
