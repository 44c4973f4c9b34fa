-- Structure expressions without ascription are read exactly, where what stands inside is.
use Rattle.std.proofs.Common.{◌≡◌, ◌⊎◌, ℕ, suc, max, if◌then◌else◌, Bool, true, false, not, ◌||◌, List, [], ◌∷◌, ◌++◌, Option, Some, None, refl, sym, ap, subst, ◌∙◌, arith, inl, inr}
use Rattle.std.proofs.lemmas.List.{append-nil}
use Rattle.std.specs.Prelude.{codes}
use Rattle.readers.specs.Reader.{first, Reader, both, bound, mapped, token_by, skip, close}
use Rattle.readers.specs.Language.{Joined, Both, Shows, As, Or, Skip, Close}
use Rattle.readers.specs.Room.{Room}
use Rattle.readers.specs.Exact.{always}
use Rattle.readers.specs.Forms.{Maybe, optional, else_if, highest, height_of, shown}
use Rattle.readers.proofs.Bundle.{Known, Phrase}
use Rattle.readers.proofs.Combine.{token, phrase, made, made_phrase, node, shown_is, shown_test}
use Rattle.readers.proofs.Choose.{option, closed_phrase, maybe_stop, maybe_tall}
use Rattle.readers.proofs.Repeat.{bind_by}
use Rattle.readers.proofs.Outcome.{head_some, head-append}
use Rattle.readers.proofs.Mapped.{as_made}
use Rattle.readers.proofs.Grow.{two_are}
use Rattle.sml_lex.specs.declared.token.Token.{Token}
use Rattle.sml_lex.specs.declared.token.Kind.TheVariants as kind
use Rattle.sml_ast.specs.declared.program.StrBind.{StrBind}
use Rattle.sml_ast.specs.declared.program.StrBind.TheOpen.{StrExp-F}
use Rattle.sml_ast.specs.declared.program.StrDec.{StrDec}
use Rattle.sml_ast.specs.declared.program.StrExp.{StrExp, out-StrExp, roll-StrExp, out-roll-StrExp}
use Rattle.sml_grammar.specs.Words.{CLOSE_PAREN, END, IN, LET, OPEN_PAREN, STRUCT}
use Rattle.sml_grammar.specs.Tokens.{Firsts, just, union, either, is, the, plain_fix, tokens_of, ident, long_ident, alphas, long_alphas, op_names, op_long_names, strid, long_strid, LONG_ALPHA}
use Rattle.sml_grammar.specs.Types.{Ident, LongIdent}
use Rattle.sml_grammar.proofs.Sets.{is_just, apart, apart_is, among_union, pick_if}
use Rattle.sml_grammar.proofs.Shapes.{some_token, name_token, word_token, word_is, stops, word_halts, the_word, past_word, to_word}
use Rattle.sml_grammar.proofs.Joined.{within_is}
use Rattle.sml_grammar.proofs.Types.{ty_goes}
use Rattle.sml_grammar_exp.specs.Decs.{Changes}
use Rattle.sml_grammar_exp.proofs.Binds.{flat}
use Rattle.sml_grammar_exp.proofs.Parts.{numbered_phrase}
use Rattle.sml_grammar_exp.proofs.Short.{op_lengthened, op_shortened}
use Rattle.sml_grammar_sig.proofs.Chain.{spoken}
use Rattle.sml_grammar_mod.specs.Strs.{St, Sd, str_afters, body_of, at_of, let_str_of, BodyD, LetStrD, base_form, base_on, BaseR, StrR, StrDecsR}
use Rattle.sml_grammar_mod.specs.ReadStrs.{Argument, named_by, named_of, argument_read, base_level, base_read, begins_str, str_firsts, grow_firsts, strdecs_goes, strdecs_level}
use Rattle.sml_grammar_mod.proofs.Choices.{pick_by, reread, part_by}
use Rattle.sml_grammar_mod.proofs.Grows.{real_bar, short_bar, str_bar, ascribe_real, base_stop, str_stop}
use Rattle.sml_grammar_mod.proofs.Strs.{base_in, str_in, StrP}
use Rattle.sml_grammar_mod.proofs.Rows.{made_node}
use Rattle.sml_grammar_mod.proofs.Decs.{strdec_in, StrDecP, strdecs_now, row_other}
use Rattle.readers.proofs.Levels.{Knot}

-- ---- short names among the long ones

-- names behind structures
abbrev pub longs : Firsts
longs = either (LONG_ALPHA ∷ [])

abbrev behind_strid : Token → Option LongIdent
behind_strid = shown (tokens_of longs) long_ident

abbrev the_some : {T : Type 0} → T → Option T
the_some x = Some x

some_is : {T : Type 0} {x y : T} → the_some x ≡ the_some y → x ≡ y
some_is e = cc

shown_value : {A : Type 0} (test : Token → Bool) (f : Token → A) (c : Token) (a : A) → shown test f c ≡ Some a → f c ≡ a
shown_value test f c a e = some_is (sym (shown_is test f c (shown_test test f c a e)) ∙ e)

same_token : (c d : Token) → c ∷ [] ≡ d ∷ [] → c ≡ d
same_token c d e = cc

-- a short name is a long one of one part
short_long : (v : Ident) (w : List Token) → Shows strid v w → Shows long_strid (v.0, v.1 ∷ []) w
short_long v w d =
    let i = shown_test (tokens_of alphas) ident d.token v d.shows in
    let o = op_lengthened v w (record {
      token = d.token;
      shows = shown_is (tokens_of op_names) ident d.token (within_is plain_fix alphas op_names refl d.token i) ∙ ap (λ (x : Ident). Some x) (shown_value (tokens_of alphas) ident d.token v d.shows);
      whole = d.whole;
    }) in
    let same = same_token o.token d.token (sym o.whole ∙ d.whole) in
    let value : long_ident d.token ≡ (v.0, v.1 ∷ []) = ap long_ident (sym same) ∙ shown_value (tokens_of op_long_names) long_ident o.token (v.0, v.1 ∷ []) o.shows in
    record { token = d.token; shows = shown_is (tokens_of long_alphas) long_ident d.token (within_is plain_fix alphas long_alphas refl d.token i) ∙ ap (λ (x : LongIdent). Some x) value; whole = d.whole }

-- a long name is a short one, or one behind structures
long_cases : (x : LongIdent) (w : List Token) → Shows long_strid x w → ((v : Ident) × ((v.0, v.1 ∷ []) ≡ x) × Shows strid v w) ⊎ Shows behind_strid x w
long_cases x w d = go (tokens_of alphas d.token) refl
  where
    go : (b : Bool) → tokens_of alphas d.token ≡ b → ((v : Ident) × ((v.0, v.1 ∷ []) ≡ x) × Shows strid v w) ⊎ Shows behind_strid x w
    go true e =
        let v : Ident = ident d.token in
        let short : Shows strid v w = record { token = d.token; shows = shown_is (tokens_of alphas) ident d.token e; whole = d.whole } in
        let l = short_long v w short in
        let same = same_token l.token d.token (sym l.whole ∙ d.whole) in
        let value : (v.0, v.1 ∷ []) ≡ x = sym (shown_value (tokens_of long_alphas) long_ident l.token (v.0, v.1 ∷ []) l.shows) ∙ (ap long_ident same ∙ shown_value (tokens_of long_alphas) long_ident d.token x d.shows) in
        inl (v, value, short)
    go false e =
        let i = shown_test (tokens_of long_alphas) long_ident d.token x d.shows in
        let j : tokens_of longs d.token ≡ true = sym (ap (λ (b : Bool). b || tokens_of longs d.token) e) ∙ (sym (among_union plain_fix alphas longs d.token) ∙ i) in
        inr (record { token = d.token; shows = shown_is (tokens_of longs) long_ident d.token j ∙ ap (λ (x : LongIdent). Some x) (shown_value (tokens_of long_alphas) long_ident d.token x d.shows); whole = d.whole })

long_up : (x : LongIdent) (w : List Token) → Shows behind_strid x w → Shows long_strid x w
long_up x w d =
    let i = shown_test (tokens_of longs) long_ident d.token x d.shows in
    record {
      token = d.token;
      shows = shown_is (tokens_of long_alphas) long_ident d.token (within_is plain_fix longs long_alphas refl d.token i) ∙ ap (λ (x : LongIdent). Some x) (shown_value (tokens_of longs) long_ident d.token x d.shows);
      whole = d.whole;
    }

-- one behind structures has several parts, so no parenthesis goes on with it
long_open : (x : LongIdent) (w : List Token) (o : Option Token) → Shows behind_strid x w → true ≡ short_bar x.1 o
long_open x w o d = go x.1 refl
  where
    go : (p : List (List ℕ)) → x.1 ≡ p → true ≡ short_bar p o
    go [] e = refl
    go (v ∷ []) e =
        let i = shown_test (tokens_of longs) long_ident d.token x d.shows in
        let value : long_ident d.token ≡ (x.0, v ∷ []) = shown_value (tokens_of longs) long_ident d.token x d.shows ∙ ap (λ (p : List (List ℕ)). (x.0, p)) e in
        let s = op_shortened (x.0, v) w (record {
          token = d.token;
          shows = shown_is (tokens_of op_long_names) long_ident d.token (within_is plain_fix longs op_long_names refl d.token i) ∙ ap (λ (x : LongIdent). Some x) value;
          whole = d.whole;
        }) in
        let same = same_token s.token d.token (sym s.whole ∙ d.whole) in
        let k = shown_test (tokens_of op_names) ident s.token (x.0, v) s.shows in
        let no : tokens_of longs d.token ≡ false = ap (tokens_of longs) (sym same) ∙ apart_is plain_fix plain_fix op_names longs refl s.token k in
        let bad : true ≡ false = sym i ∙ no in
        absurd cc
    go (v ∷ u ∷ p) e = refl

abbrev long_token : Token
long_token = some_token (kind.Id (codes "A" ∷ codes "x" ∷ []))

-- where the token is no short name, both say the same
name_reads : (p : Reader Token St) (v : List Token) → else_if (tokens_of alphas) p (mapped at_of (token_by behind_strid)) v ≡ else_if (tokens_of alphas) p (mapped at_of (token_by long_strid)) v
name_reads p [] = refl
name_reads p (c ∷ v) = go (tokens_of alphas c) (among_union plain_fix alphas longs c)
  where
    go : (b : Bool) → tokens_of long_alphas c ≡ (b || tokens_of longs c) → (if b then p (c ∷ v) else mapped at_of (token_by behind_strid) (c ∷ v)) ≡ (if b then p (c ∷ v) else mapped at_of (token_by long_strid) (c ∷ v))
    go true e = refl
    go false e = rw e refl

-- ---- what closes a structure expression

module _ (k : ℕ) (ty_off : apart (just k) ty_goes ≡ true) (grow_off : apart (just k) grow_firsts ≡ true) (open_off : apart (just k) (just OPEN_PAREN) ≡ true) where
  bar_word : (t : StrExp-F StrBind StrDec StrExp) (c : Token) → is k c ≡ true → str_bar t (Some c) ≡ true
  bar_word (StrExp-F.Body p ds) c e = refl
  bar_word (StrExp-F.At p x) c e = go x.1
    where
      go : (v : List (List ℕ)) → short_bar v (Some c) ≡ true
      go [] = refl
      go (v ∷ []) = ap not (is_just plain_fix OPEN_PAREN c) ∙ word_halts k (just OPEN_PAREN) open_off c e
      go (v ∷ w ∷ p) = refl
  bar_word (StrExp-F.Seal p s a) c e = go (ascribe_real a)
    where
      go : (r : Bool) → real_bar r (Some c) ≡ true
      go true = word_halts k ty_goes ty_off c e
      go false = refl
  bar_word (StrExp-F.Call p f s) c e = refl
  bar_word (StrExp-F.CallBody p f ds) c e = refl
  bar_word (StrExp-F.LetStr p ds s) c e = refl

  str_word : (t : St) (c : Token) → is k c ≡ true → str_stop t (Some c) ≡ true
  str_word t c e = two_are _ _ (bar_word (out-StrExp t.0) c e) (word_halts k grow_firsts grow_off c e)

bar_is : (x : StrExp-F StrBind StrDec StrExp) (h : ℕ) (o : Option Token) → str_bar x o ≡ base_stop (roll-StrExp x, h) o
bar_is x h o = ap (λ y. str_bar y o) (sym (out-roll-StrExp x))

-- ---- one level

abbrev arg_height : Argument → ℕ
arg_height (Argument.Given e) = e.1
arg_height (Argument.Body ds) = highest height_of ds

module _ (cs : Changes) where
  abbrev GivenD : Room → Argument → List Token → Type 0
  GivenD k = As Argument.Given (Close (StrR cs k) (is CLOSE_PAREN))

  abbrev InsideD : Room → Argument → List Token → Type 0
  InsideD k = As Argument.Body (Close (StrDecsR cs k) (is CLOSE_PAREN))

  abbrev ArgumentD : Room → Argument → List Token → Type 0
  ArgumentD k = Skip (is OPEN_PAREN) (Or (GivenD k) (InsideD k))

  abbrev NamedD : Room → St → List Token → Type 0
  NamedD k = As named_of (Both (Shows strid) (Maybe (ArgumentD k)))

  abbrev LongD : St → List Token → Type 0
  LongD = As at_of (Shows behind_strid)

  abbrev LetD : Room → St → List Token → Type 0
  LetD k = LetStrD (StrDecsR cs k) (λ ds. StrR (str_afters cs ds) k)

  abbrev pub BaseD : Room → St → List Token → Type 0
  BaseD k = base_form (StrDecsR cs k) (StrR cs k) (λ ds. StrR (str_afters cs ds) k)

  abbrev ReadD : Room → St → List Token → Type 0
  ReadD k = Or (BodyD (StrDecsR cs k)) (Or (LetD k) (Or (NamedD k) LongD))

  abbrev decs_in : Room → Reader Token (List Sd)
  decs_in k = strdecs_level (strdec_in k) cs

  abbrev after_in : Room → List Sd → Reader Token St
  after_in k ds = str_in (str_afters cs ds) k

  abbrev pub base_by : Room → Reader Token St
  base_by k = base_level (decs_in k) (str_in cs k) (after_in k) k.height

  -- ---- as the grammar and as it is read

  some_of : {T : Type 0} (D : T → List Token → Type 0) (x : T) (w : List Token) → Maybe D (Some x) w → D x w
  some_of D x w (inl d) = subst (λ y. D y w) (let same : Some d.0 ≡ Some x = d.1 in cc) d.2
  some_of D x w (inr d) = let no : None ≡ Some x = d.0 in absurd cc

  none_of : {T : Type 0} (D : T → List Token → Type 0) (w : List Token) → Maybe D None w → w ≡ []
  none_of D w (inl d) = let no : Some d.0 ≡ None = d.1 in absurd cc
  none_of D w (inr d) = d.1

  named_to : (k : Room) (t : St) (v : Ident) (a : Option Argument) (w : List Token) → named_by v a ≡ t → Joined (Shows strid v) (Maybe (ArgumentD k) a) w → BaseD k t w
  named_to k t v None w e j =
      let same : w ≡ j.front = j.whole ∙ (ap (λ (z : List Token). j.front ++ z) (none_of (ArgumentD k) j.back j.right) ∙ append-nil j.front) in
      inr (inl ((v.0, v.1 ∷ []), e, subst (λ (z : List Token). Shows long_strid (v.0, v.1 ∷ []) z) (sym same) (short_long v j.front j.left)))
  named_to k t v (Some (Argument.Given x)) w e j = go (some_of (ArgumentD k) (Argument.Given x) j.back j.right)
    where
      go : ArgumentD k (Argument.Given x) j.back → BaseD k t w
      go q = elim q.right [
        | inl a ↦ inr (inr (inl (
          (v, x),
          e,
          record {
            front = j.front;
            back = j.back;
            left = j.left;
            right = record { front = q.front; back = q.back; left = q.left; right = subst (λ x. Close (StrR cs k) (is CLOSE_PAREN) x q.back) (let same : Argument.Given a.0 ≡ Argument.Given x = a.1 in cc) a.2; whole = q.whole };
            whole = j.whole;
          },
        )))
        | inr a ↦ let no : Argument.Body a.0 ≡ Argument.Given x = a.1 in absurd cc
      ]
  named_to k t v (Some (Argument.Body ds)) w e j = go (some_of (ArgumentD k) (Argument.Body ds) j.back j.right)
    where
      go : ArgumentD k (Argument.Body ds) j.back → BaseD k t w
      go q = elim q.right [
        | inl a ↦ let no : Argument.Given a.0 ≡ Argument.Body ds = a.1 in absurd cc
        | inr a ↦ inr (inr (inr (inl (
          (v, ds),
          e,
          record {
            front = j.front;
            back = j.back;
            left = j.left;
            right = record { front = q.front; back = q.back; left = q.left; right = subst (λ x. Close (StrDecsR cs k) (is CLOSE_PAREN) x q.back) (let same : Argument.Body a.0 ≡ Argument.Body ds = a.1 in cc) a.2; whole = q.whole };
            whole = j.whole;
          },
        ))))
      ]

  base_to : (k : Room) (t : St) (w : List Token) → ReadD k t w → BaseD k t w
  base_to k t w (inl d) = inl d
  base_to k t w (inr (inl d)) = inr (inr (inr (inr d)))
  base_to k t w (inr (inr (inl d))) = named_to k t d.0.0 d.0.1 w d.1 d.2
  base_to k t w (inr (inr (inr d))) = inr (inl (d.0, d.1, long_up d.0 w d.2))

  base_from : (k : Room) (t : St) (w : List Token) → BaseD k t w → ReadD k t w
  base_from k t w (inl d) = inl d
  base_from k t w (inr (inl d)) = elim (long_cases d.0 w d.2) [
    | inl a ↦ inr (inr (inl ((a.0, None), ap at_of a.1 ∙ d.1, record { front = w; back = []; left = a.2; right = inr (refl, refl); whole = sym (append-nil w) })))
    | inr a ↦ inr (inr (inr (d.0, d.1, a)))
  ]
  base_from k t w (inr (inr (inl d))) =
      let j = d.2 in
      let q = j.right in
      inr (inr (inl (
        (d.0.0, Some (Argument.Given d.0.1)),
        d.1,
        record {
          front = j.front;
          back = j.back;
          left = j.left;
          right = inl (Argument.Given d.0.1, refl, record { front = q.front; back = q.back; left = q.left; right = inl (d.0.1, refl, q.right); whole = q.whole });
          whole = j.whole;
        },
      )))
  base_from k t w (inr (inr (inr (inl d)))) =
      let j = d.2 in
      let q = j.right in
      inr (inr (inl (
        (d.0.0, Some (Argument.Body d.0.1)),
        d.1,
        record {
          front = j.front;
          back = j.back;
          left = j.left;
          right = inl (Argument.Body d.0.1, refl, record { front = q.front; back = q.back; left = q.left; right = inr (d.0.1, refl, q.right); whole = q.whole });
          whole = j.whole;
        },
      )))
  base_from k t w (inr (inr (inr (inr d)))) = inr (inl d)

  -- ---- the alternatives

  module _ {s : Known} {n : ℕ} (P : (c : Changes) → StrDecP c s n) (S : (c : Changes) → StrP c s n) where
    body_now : Phrase s n 1 (λ k. BodyD (StrDecsR cs k)) (λ k. mapped body_of (both (token_by (the STRUCT)) (close (decs_in k) (is END)))) base_stop height_of 0 0 (is STRUCT) 0
    body_now = node body_of height_of base_stop (phrase (the_word STRUCT) (to_word strdecs_goes END refl (strdecs_now P cs))) (λ x. omega arith) (λ x o. bar_is _ 0 o)

    behind_in : (ds : List Sd) → Phrase s n 0 (λ k. Skip (is IN) (Close (StrR (str_afters cs ds) k) (is END))) (λ k. skip (is IN) (close (after_in k ds) (is END))) always height_of 1 1 (is IN) 1
    behind_in ds =
        let X = S (str_afters cs ds) in
        let C = closed_phrase (is END) (word_token END) (word_is END) X (λ t c e. str_word END refl refl refl t c e) in
        numbered_phrase 1 1 1 (past_word IN C.part) (omega arith) (omega arith) (omega arith) (omega arith)

    let_now : Phrase s n 1 LetD (λ k. mapped let_str_of (both (token_by (the LET)) (bound (decs_in k) (λ ds. skip (is IN) (close (after_in k ds) (is END)))))) base_stop height_of 1 1 (is LET) 1
    let_now = numbered_phrase 1 1 1 (node let_str_of height_of base_stop (phrase (the_word LET) (bind_by (strdecs_now P cs) (λ ds. let B = behind_in ds in B.part) (λ x o. true)
        (λ k x y v r i j st.
        let B = behind_in x in
        let g = head_some (is IN) (first (v ++ r)) (head-append (is IN) v r (B.opening.begins k y v i j)) in
        (ap (stops strdecs_goes) g.1 ∙ word_halts IN strdecs_goes refl g.0 g.2, refl))
        (λ k x y v r i j a b. refl))) (λ x. omega arith) (λ x o. bar_is _ 0 o)) (omega arith) (omega arith) (omega arith) (omega arith)

    argument_now : Phrase s n 0 ArgumentD (λ k. argument_read (decs_in k) (str_in cs k) k.height) always arg_height 0 0 (is OPEN_PAREN) 0
    argument_now = past_word OPEN_PAREN (part_by
        (made_phrase Argument.Given arg_height always (closed_phrase (is CLOSE_PAREN) (word_token CLOSE_PAREN) (word_is CLOSE_PAREN) (S cs) (λ t c e. str_word CLOSE_PAREN refl refl refl t c e)) (λ x. refl) (λ x o. refl))
        (made Argument.Body arg_height always (to_word strdecs_goes CLOSE_PAREN refl (strdecs_now P cs)) (λ x. refl) (λ x o. refl))
        (λ k t v r i d. row_other P CLOSE_PAREN str_firsts refl refl refl cs k d.0 v r i d.2) (omega arith) (omega arith))

    named_now : Phrase s n 1 NamedD (λ k. mapped named_of (both (token_by strid) (optional (is OPEN_PAREN) (argument_read (decs_in k) (str_in cs k) k.height)))) base_stop height_of 0 0 (tokens_of alphas) 0
    named_now = node named_of height_of base_stop (phrase a_strid (option argument_now)) (λ x. tall x.0 x.1) (λ x o. end x.0 x.1 o)
      where
        a_strid : Phrase s n 0 (λ k. Shows strid) (λ k. token_by strid) always flat 0 0 (tokens_of alphas) 0
        a_strid = token (tokens_of alphas) ident name_token refl

        tall : (v : Ident) (a : Option Argument) → height_of (named_by v a) ≡ suc (max 0 (maybe_tall arg_height a))
        tall v None = refl
        tall v (Some (Argument.Given e)) = omega arith
        tall v (Some (Argument.Body ds)) = omega arith

        end : (v : Ident) (a : Option Argument) (o : Option Token) → maybe_stop (is OPEN_PAREN) always a o ≡ base_stop (named_by v a) o
        end v None o = bar_is (StrExp-F.At v.0 (v.0, v.1 ∷ [])) 1 o
        end v (Some (Argument.Given e)) o = bar_is (StrExp-F.Call v.0 v e.0) 1 o
        end v (Some (Argument.Body ds)) o = bar_is (StrExp-F.CallBody v.0 v _) 1 o

    long_now : Phrase s n 1 (λ k. LongD) (λ k. mapped at_of (token_by behind_strid)) base_stop height_of 0 0 (tokens_of longs) 0
    long_now = made_node at_of height_of base_stop (λ k. LongD) (token (tokens_of longs) long_ident long_token refl) (λ k. as_made at_of (Shows behind_strid)) (λ k x w d. refl) (λ k x w o d. long_open x w o d ∙ bar_is (StrExp-F.At x.0 x) 1 o)

    abbrev name_read : Room → Reader Token St
    name_read k = mapped named_of (both (token_by strid) (optional (is OPEN_PAREN) (argument_read (decs_in k) (str_in cs k) k.height)))

    names_now : Phrase s n 1 (λ k. Or (NamedD k) LongD) (λ k. else_if (tokens_of alphas) (name_read k) (mapped at_of (token_by long_strid))) base_stop height_of 0 0 (tokens_of (union alphas longs)) 0
    names_now = reread (λ k. else_if (tokens_of alphas) (name_read k) (mapped at_of (token_by long_strid)))
        (pick_if plain_fix alphas longs (λ c. refl) (λ c. refl) named_now long_now (omega arith) refl) (λ k v. name_reads (name_read k) v)

    -- without ascription
    pub base_now : Phrase s n 1 BaseD base_by base_stop height_of 0 0 begins_str 1
    base_now = spoken (numbered_phrase 0 0 1
        (pick_by plain_fix (just STRUCT) (union (just LET) (union alphas longs)) (is_just plain_fix STRUCT) (λ c. refl) body_now
        (pick_by plain_fix (just LET) (union alphas longs) (is_just plain_fix LET) (λ c. refl) let_now names_now
        0 (omega arith, omega arith, inr (omega arith)) (omega arith) refl)
        0 (omega arith, omega arith, inl (omega arith)) (omega arith) refl)
        (omega arith) (omega arith) (omega arith) (omega arith)) base_to base_from

  pub base_knot : Knot (BaseR cs) BaseD (base_in cs) base_by begins_str
  unfolding base_on base_read
  base_knot = record { none = λ b t w d. d; out = λ h b t w d. d; into = λ h b t w d. d; empty = λ b v. refl; next = λ h b v. refl }
