-- Declarations are read exactly, where what stands inside is.
use Rattle.std.proofs.Common.{◌≡◌, ℕ, max, Bool, true, false, not, ◌&&◌, List, [], ◌∷◌, ◌++◌, Option, Some, None, refl, sym, ap, subst, ◌∙◌, arith}
use Rattle.std.specs.Prelude.{pos}
use Rattle.std.proofs.lemmas.Bool.{eqb-true}
use Rattle.readers.specs.Reader.{first, head_is, Reader, both, bound, mapped, token_by, skip, close, steps}
use Rattle.readers.specs.Language.{Both, Bound, Shows, Steps, Skip, Close}
use Rattle.readers.specs.Room.{Room}
use Rattle.readers.specs.Exact.{always, row_stop}
use Rattle.readers.specs.Forms.{highest, height_of, Seps, seps, Maybe, maybe, Ready, ready_read, cons_of, ended}
use Rattle.readers.proofs.Bundle.{Known, Fitting, Reading, Part, Phrase}
use Rattle.readers.proofs.Combine.{token, phrase, pair, pair_then, pair_by, pair_opens, made, made_phrase, made_opens, node, sized}
use Rattle.readers.proofs.Repeat.{apart_phrase, rows, bind_by, ready_phrase, turns, stepped}
use Rattle.readers.proofs.Choose.{last, perhaps, option, ends, ends_phrase, maybe_stop, maybe_tall, row_alike}
use Rattle.readers.proofs.Outcome.{head_some, head-append}
use Rattle.readers.proofs.Grow.{two_are}
use Rattle.readers.proofs.Row.{not_false, not_true, both_true, row_stop_if, row_stop_alone}
use Rattle.tl_text.specs.declared.lit.Lit.TheVariants as lit
use Rattle.sml_lex.specs.declared.token.Token.{Token}
use Rattle.sml_lex.specs.declared.token.Kind.{Kind}
use Rattle.sml_lex.specs.declared.token.Kind.TheVariants as kind
use Rattle.sml_fix.specs.Fixities.{Settings}
use Rattle.sml_grammar.specs.Words.{ABSTYPE, AND, ANDALSO, BAR, COLON, DATATYPE, END, EQUALS, EXCEPTION, FUN, HANDLE, IN, INFIX, INFIXR, LOCAL, NONFIX, OPEN, OPEN_PAREN, ORELSE, REC, SEMICOLON, TYPE, VAL, WITH, WITHTYPE}
use Rattle.sml_grammar.specs.Tokens.{Firsts, just, union, is, the, among, plain_fix, tokens_of, ident, long_ident, any_vid, names, digits, number, long_strid, long_alphas, long_tycon, long_tycons, tycon, tycons, listed, kind_among, kind_is}
use Rattle.sml_grammar.specs.Types.{Ident, Tx, TyR}
use Rattle.sml_grammar.specs.ReadTypes.{ty_in}
use Rattle.sml_grammar.specs.Pats.{Pt}
use Rattle.sml_grammar.specs.ReadPats.{pat_goes, at_firsts as pat_firsts, begins_at as begins_pat}
use Rattle.sml_grammar.proofs.Sets.{is_just, apart_is, pick, pick_if}
use Rattle.sml_grammar.proofs.Shapes.{some_token, word_token, name_token, word_is, stops, halts, word_halts, the_word, a_word, past_word, to_word, rows_of}
use Rattle.sml_grammar.proofs.Joined.{after_stop, pair_maybe, narrow}
use Rattle.sml_grammar.proofs.Types.{TyP, ty_goes}
use Rattle.sml_grammar_exp.specs.Exps.{Reach, Ex, De}
use Rattle.sml_grammar_exp.specs.ReadExps.{begins_exp}
use Rattle.sml_grammar_exp.specs.Binds.{UnderD, under_height, Tb, TyBindD, ConsR, DatBindD, ExBindR}
use Rattle.sml_grammar_exp.specs.ReadBinds.{exn_goes, vid_begins, begins_vid, vars_begin, tybind_read, datbind_read}
use Rattle.sml_grammar_exp.specs.Clauses.{Head, head_height, Many}
use Rattle.sml_grammar_exp.specs.ReadClauses.{begins_head, head_goes, many_read}
use Rattle.sml_grammar_exp.specs.Decs.{Changes, after, Vb, VbD, vb_height, Vbs, VbsD, vbs_of, vbs_height, vals_of, ValsD, Cl, ClauseD, clause_of, clause_bar, clauses_height, funs_of, FunsD, types_of, TypesD, with_height, WithD, binds_height, BindsD, data_height, data_of, DataD, DatasD, Right, right_height, right_of, RightD, vars_data, abs_of, AbsD, exns_of, ExnsD, local_of, LocalD, opens_of, OpensD, fix_of, FixD, nonfix_of, NonfixD, dec_form, SemisD, ItemD, dec_alone, decs_alone, decs_form}
use Rattle.sml_grammar_exp.specs.ReadDecs.{row_goes, dec_goes, dec_firsts, begins_dec, item_goes, decs_goes, vars_next, under_two, under_by, clause_level, vb_read, vbs_read, clauses_read, with_read, binds_read, right_read, data_read, fix_read, abs_read, local_read, dec_level, semis_read, item_read, decs_level}
use Rattle.sml_grammar_exp.proofs.Stops.{inner_stop, bar_stop, full_stop, end_stop, exp_stop, exp_halts, exp_none, no_word, set_halts, bar_next}
use Rattle.sml_grammar_exp.proofs.Parts.{numbered, pair_row}
use Rattle.sml_grammar_exp.proofs.Binds.{opt_is, flat, all_flat, cons_goes, cons_in, exbind_in, ConsP, ExBindP, tybind, datbind, behind_vars, under}
use Rattle.sml_grammar_exp.proofs.TwoTokens.{with_two}

-- ---- what ends a declaration ends what stands at its end

pub not_word : (k : ℕ) (a : Firsts) → (apart_in : (c : Token) → is k c ≡ true → tokens_of a c ≡ true) → (o : Option Token) → stops a o ≡ true → no_word k o ≡ true
not_word k a f None e = refl
not_word k a f (Some c) e = go (is k c) (λ i. f c i)
  where
    go : (b : Bool) → (b ≡ true → tokens_of a c ≡ true) → not b ≡ true
    go true g = let no : not (tokens_of a c) ≡ false = ap not (g refl) in let yes : true ≡ false = sym e ∙ no in absurd cc
    go false g = refl

-- a word of a set
pub word_in : (fix : Settings) (k : ℕ) (a : Firsts) → listed k a.words ≡ true → (c : Token) → is k c ≡ true → among fix a c ≡ true
word_in fix k a e c i = go c.kind i
  where
    go : (q : Kind) → kind_is k q ≡ true → kind_among fix a c.decimal q ≡ true
    go (kind.Word m) i = ap (λ (x : ℕ). listed x a.words) (eqb-true m k i) ∙ e
    go (kind.Id p) i = absurd cc
    go (kind.Tyvar v) i = absurd cc
    go (kind.Lit l) i = absurd cc
    go kind.End i = absurd cc

pub exp_over : (t : Bool) (r : Reach) (o : Option Token) → stops dec_goes o ≡ true → full_stop t r o ≡ true
exp_over t r o e = two_are _ _ (two_are _ _ (two_are _ _ (two_are _ _ (two_are _ _ (inner t) (word COLON refl)) (word ANDALSO refl)) (word ORELSE refl)) (word HANDLE refl)) (bars r)
  where
    word : (k : ℕ) → listed k dec_goes.words ≡ true → no_word k o ≡ true
    word k f = not_word k dec_goes (word_in plain_fix k dec_goes f) o e

    inner : (t : Bool) → inner_stop t o ≡ true
    inner true = narrow plain_fix ty_goes dec_goes refl o e
    inner false = narrow plain_fix row_goes dec_goes refl o e

    bars : (r : Reach) → bar_stop r o ≡ true
    bars Reach.Near = refl
    bars Reach.Far = refl
    bars Reach.Match = word BAR refl

no_and : (o : Option Token) → stops dec_goes o ≡ true → head_is (is AND) o ≡ false
no_and o e = not_true (head_is (is AND) o) (not_word AND dec_goes (word_in plain_fix AND dec_goes refl) o e)

-- ---- one or more names

module _ {T : Type 0} {s : Known} {n : ℕ} {D : Room → T → List Token → Type 0} {p : Room → Reader Token T} {td : T → ℕ} {ld nd ed : ℕ} {test : Token → Bool} (P : Phrase s n 0 D p always td ld nd test ed) where
  pub many : Phrase s n 0 (λ k. Many (D k)) (λ k. many_read test (p k)) (λ t o. not (head_is test o)) (highest td) (max ld 0) (max nd (max nd 0)) test (max ed 0)
  many = record { part = made cons_of (highest td) (λ t o. not (head_is test o)) (pair_row P.part P (λ c e. refl)) (λ x. refl) (λ x o. refl); opening = made_opens cons_of (pair_opens P.opening (rows P (λ t c e. refl))) }

many_names : {s : Known} {n : ℕ} → Phrase s n 0 (λ k. Many (Shows any_vid)) (λ k. many_read (tokens_of names) (token_by any_vid)) (λ t. stops names) (highest flat) 0 0 (tokens_of names) 0
many_names = many (token (tokens_of names) ident name_token refl)

many_strids : {s : Known} {n : ℕ} → Phrase s n 0 (λ k. Many (Shows long_strid)) (λ k. many_read (tokens_of long_alphas) (token_by long_strid)) (λ t. stops long_alphas) (highest flat) 0 0 (tokens_of long_alphas) 0
many_strids = many (token (tokens_of long_alphas) long_ident name_token refl)

-- what stops a declaration
abbrev pub dec_stop : {T : Type 0} → T → Option Token → Bool
dec_stop t = stops dec_goes

opens_now : {s : Known} {n : ℕ} → Phrase s n 1 (λ k. OpensD) (λ k. mapped opens_of (ended (tokens_of dec_goes) (both (token_by (the OPEN)) (many_read (tokens_of long_alphas) (token_by long_strid))))) dec_stop height_of 0 0 (is OPEN) 0
opens_now = node opens_of height_of dec_stop (ends_phrase (tokens_of dec_goes) (phrase (the_word OPEN) many_strids.part) (λ k t w o i d e. narrow plain_fix long_alphas dec_goes refl o e)) (λ x. let a = all_flat x.1 in omega arith) (λ x o. refl)

nonfix_now : {s : Known} {n : ℕ} → Phrase s n 1 (λ k. NonfixD) (λ k. mapped nonfix_of (ended (tokens_of dec_goes) (both (token_by (the NONFIX)) (many_read (tokens_of names) (token_by any_vid))))) dec_stop height_of 0 0 (is NONFIX) 0
nonfix_now = node nonfix_of height_of dec_stop (ends_phrase (tokens_of dec_goes) (phrase (the_word NONFIX) many_names.part) (λ k t w o i d e. narrow plain_fix names dec_goes refl o e)) (λ x. let a = all_flat x.1 in omega arith) (λ x o. refl)

fix_now : (word : ℕ) (to_right : Bool) {s : Known} {n : ℕ} → Phrase s n 1 (λ k. FixD word to_right) (λ k. fix_read word to_right) dec_stop height_of 0 0 (is word) 0
fix_now word to_right = node (fix_of to_right) height_of dec_stop
    (ends_phrase (tokens_of dec_goes) (phrase (the_word word) (pair_then (option (token (tokens_of digits) number (some_token (kind.Lit (lit.Int (pos 0)))) refl)) many_names halted)) (λ k t w o i d e. narrow plain_fix names dec_goes refl o e))
    (λ x. let a = all_flat x.1.1 in let b = no_height x.1.0 in omega arith) (λ x o. refl)
  where
    halted : (x : Option ℕ) (c : Token) → tokens_of names c ≡ true → maybe_stop (tokens_of digits) always x (Some c) ≡ true
    halted None c i = halts plain_fix names digits (tokens_of names) (λ c. refl) refl c i
    halted (Some x) c i = refl

    no_height : (x : Option ℕ) → maybe_tall flat x ≡ 0
    no_height None = refl
    no_height (Some x) = refl

-- ---- scopes

module _ {s : Known} {n : ℕ} {D : Room → List De → List Token → Type 0} {d : Room → Reader Token (List De)} (R : Part s n 0 D d (λ t. stops decs_goes) (highest height_of) 0 0) where
  module _ {F : Room → List De → List De → List Token → Type 0} {f : Room → List De → Reader Token (List De)} (Y : (ds : List De) → Part s n 0 (λ k. F k ds) (λ k. f k ds) (λ t. stops decs_goes) (highest height_of) 0 0) where
    behind_in : (ds : List De) → Phrase s n 0 (λ k. Skip (is IN) (Close (F k ds) (is END))) (λ k. skip (is IN) (close (f k ds) (is END))) always (highest height_of) 0 0 (is IN) 0
    behind_in ds = past_word IN (to_word decs_goes END refl (Y ds))

    scoped : Part s n 0 (λ k. Bound (D k) (λ ds. Skip (is IN) (Close (F k ds) (is END)))) (λ k. bound (d k) (λ ds. skip (is IN) (close (f k ds) (is END)))) always (λ x. max (highest height_of x.0) (highest height_of x.1)) 0 0
    scoped = bind_by R (λ x. let B = behind_in x in B.part) (λ x o. true)
        (λ k x y v r i j st.
        let B = behind_in x in
        let g = head_some (is IN) (first (v ++ r)) (head-append (is IN) v r (B.opening.begins k y v i j)) in
        (ap (stops decs_goes) g.1 ∙ word_halts IN decs_goes refl g.0 g.2, refl))
        (λ k x y v r i j a b. refl)

    local_now : Phrase s n 1 (λ k. LocalD (D k) (F k)) (λ k. local_read (d k) (f k)) dec_stop height_of 0 0 (is LOCAL) 0
    local_now = node local_of height_of dec_stop (ends_phrase (tokens_of dec_goes) (phrase (the_word LOCAL) scoped) (λ k t w o i d e. refl)) (λ x. omega arith) (λ x o. refl)

-- ---- datatypes

with_is : (x : Option (List Tb)) → with_height x ≡ maybe_tall (highest height_of) x
with_is None = refl
with_is (Some x) = refl

module _ (fix : Settings) {s : Known} {n : ℕ} (T : TyP s n) (C : ConsP fix s n) where
  tybinds : Phrase s n 0 (λ k. Seps (is AND) (TyBindD (TyR k))) (λ k. seps (is AND) (tybind_read (ty_in k))) (λ t. stops (union ty_goes (just AND))) (highest height_of) 1 1 (tokens_of (union vars_begin tycons)) 1
  tybinds = rows_of ty_goes AND refl (tybind T)

  withs : Phrase s n 0 (λ k. Skip (is WITHTYPE) (Seps (is AND) (TyBindD (TyR k)))) (λ k. skip (is WITHTYPE) (seps (is AND) (tybind_read (ty_in k)))) (λ t. stops (union ty_goes (just AND))) (highest height_of) 1 1 (is WITHTYPE) 1
  withs = past_word WITHTYPE tybinds.part

  more : Phrase s n 0 (λ k. Skip (is AND) (DatBindD (ConsR fix k))) (λ k. skip (is AND) (datbind_read (cons_in fix k))) (λ t. stops cons_goes) height_of 1 1 (is AND) 1
  more = let B = datbind fix C in past_word AND B.part

  -- behind a first binding, the same ones and those of `withtype`
  binds : Phrase s n 0 (λ k. BindsD (ConsR fix k) (ConsR fix k) (TyR k)) (λ k. binds_read (cons_in fix k) (ty_in k) k.height) (λ x. after_stop (λ o. stops cons_goes o && not (head_is (is AND) o)) (is WITHTYPE) (λ (t : List Tb). stops (union ty_goes (just AND))) x.1) binds_height 1 1 (begins_vid fix) 1
  binds = record {
    part = numbered 1 1
        (sized binds_height
        (pair_maybe (pair_row C.part more (λ c e. word_halts AND cons_goes refl c e)) (λ k y w i d. withs.opening.begins k y w i d) (perhaps withs (omega arith))
        (λ c e. two_are _ _ (word_halts WITHTYPE cons_goes refl c e) (not_false (is AND c) (is_just plain_fix AND c ∙ apart_is plain_fix plain_fix (just WITHTYPE) (just AND) refl c (sym (is_just plain_fix WITHTYPE c) ∙ e)))))
        (λ x. let a = with_is x.1 in omega arith)) (omega arith) (omega arith) (omega arith);
    opening = pair_opens (pair_opens C.opening (rows more (λ t c e. word_halts AND cons_goes refl c e))) (perhaps withs (omega arith));
  }

  binds_over : (x : Option (List Tb)) (o : Option Token) → stops dec_goes o ≡ true → after_stop (λ o. stops cons_goes o && not (head_is (is AND) o)) (is WITHTYPE) (λ (t : List Tb). stops (union ty_goes (just AND))) x o ≡ true
  binds_over None o e = two_are _ _ (two_are _ _ (narrow plain_fix cons_goes dec_goes refl o e) (not_false (head_is (is AND) o) (no_and o e))) (not_word WITHTYPE dec_goes (word_in plain_fix WITHTYPE dec_goes refl) o e)
  binds_over (Some ts) o e = narrow plain_fix (union ty_goes (just AND)) dec_goes refl o e

  all_binds : Phrase s n 0 (λ k. BindsD (ConsR fix k) (ConsR fix k) (TyR k)) (λ k. ended (tokens_of dec_goes) (binds_read (cons_in fix k) (ty_in k) k.height)) dec_stop binds_height 1 1 (begins_vid fix) 1
  all_binds = ends_phrase (tokens_of dec_goes) binds (λ k t w o i d e. binds_over t.1 o e)

  right_now : Phrase s n 0 (λ k. RightD (ConsR fix k) (TyR k)) (λ k. right_read fix (cons_in fix k) (ty_in k) k.height) dec_stop right_height 0 0 (among fix (union (just DATATYPE) vid_begins)) 1
  right_now = pick fix (just DATATYPE) vid_begins (is_just fix DATATYPE) (λ c. refl)
      (made_phrase Right.Copies right_height dec_stop (ends_phrase (tokens_of dec_goes) (past_word DATATYPE copied.part) (λ k t w o i d e. refl)) (λ x. refl) (λ x o. refl))
      (last (made_phrase Right.Cons right_height dec_stop all_binds (λ x. refl) (λ x o. refl)) (omega arith))
      (omega arith) (omega arith) refl
    where
      copied : Phrase s n 0 (λ k. Shows long_tycon) (λ k. token_by long_tycon) always flat 0 0 (tokens_of long_tycons) 0
      copied = token (tokens_of long_tycons) long_ident name_token refl

  data_tall : (t : Ident) (x : Right) → data_height (right_of (t, x)) ≡ right_height x
  data_tall t (Right.Copies c) = refl
  data_tall t (Right.Cons x) = refl

  data_now : Phrase s n 0 (λ k. DataD (ConsR fix k) (TyR k)) (λ k. data_read fix (cons_in fix k) (ty_in k) k.height) dec_stop data_height 0 0 (tokens_of (union tycons vars_begin)) 1
  data_now = pick plain_fix tycons vars_begin (λ c. refl) (λ c. refl)
      (made_phrase right_of data_height dec_stop (phrase (token (tokens_of tycons) ident name_token refl) (past_word EQUALS right_now.part).part) (λ x. let a = data_tall x.0 x.1 in omega arith) (λ x o. refl))
      (last (made_phrase vars_data data_height dec_stop (behind_vars (pair named.part (past_word EQUALS all_binds.part).part)) (λ x. omega arith) (λ x o. refl)) (omega arith))
      (omega arith) (omega arith) refl
    where
      named : Phrase s n 0 (λ k. Shows tycon) (λ k. token_by tycon) always flat 0 0 (tokens_of tycons) 0
      named = token (tokens_of tycons) ident name_token refl

  datas_now : Phrase s n 1 (λ k. DatasD (ConsR fix k) (TyR k)) (λ k. mapped data_of (both (token_by (the DATATYPE)) (data_read fix (cons_in fix k) (ty_in k) k.height))) dec_stop height_of 0 0 (is DATATYPE) 0
  datas_now = node data_of height_of dec_stop (phrase (the_word DATATYPE) data_now.part) (λ x. omega arith) (λ x o. refl)

  types_now : Phrase s n 1 (λ k. TypesD (TyR k)) (λ k. mapped types_of (ended (tokens_of dec_goes) (both (token_by (the TYPE)) (seps (is AND) (tybind_read (ty_in k)))))) dec_stop height_of 1 1 (is TYPE) 1
  types_now = node types_of height_of dec_stop (ends_phrase (tokens_of dec_goes) (phrase (the_word TYPE) tybinds.part) (λ k t w o i d e. narrow plain_fix (union ty_goes (just AND)) dec_goes refl o e)) (λ x. omega arith) (λ x o. refl)

  exns_now : ExBindP fix s n → Phrase s n 1 (λ k. ExnsD (ExBindR fix k)) (λ k. mapped exns_of (ended (tokens_of dec_goes) (both (token_by (the EXCEPTION)) (seps (is AND) (exbind_in fix k))))) dec_stop height_of 1 1 (is EXCEPTION) 1
  exns_now X = let all = rows_of exn_goes AND refl X in
      node exns_of height_of dec_stop (ends_phrase (tokens_of dec_goes) (phrase (the_word EXCEPTION) all.part) (λ k t w o i d e. narrow plain_fix (union exn_goes (just AND)) dec_goes refl o e)) (λ x. omega arith) (λ x o. refl)

  module _ {D : Room → List De → List Token → Type 0} {d : Room → Reader Token (List De)} (R : Part s n 0 D d (λ t. stops decs_goes) (highest height_of) 0 0) where
    abs_now : Phrase s n 1 (λ k. AbsD (ConsR fix k) (TyR k) (D k)) (λ k. abs_read (cons_in fix k) (ty_in k) (d k) k.height) dec_stop height_of 1 1 (is ABSTYPE) 1
    abs_now = node abs_of height_of dec_stop
        (ends_phrase (tokens_of dec_goes) (phrase (the_word ABSTYPE) (pair_then bound_types (past_word WITH (to_word decs_goes END refl R)) (λ x c i. with_halts x.1 c i))) (λ k t w o i d e. refl))
        (λ x. let a = with_is x.1.0.1 in omega arith) (λ x o. refl)
      where
        firsts_then : Phrase s n 0 (λ k. Seps (is AND) (DatBindD (ConsR fix k))) (λ k. seps (is AND) (datbind_read (cons_in fix k))) (λ t. stops (union cons_goes (just AND))) (highest height_of) 1 1 (tokens_of (union vars_begin tycons)) 1
        firsts_then = rows_of cons_goes AND refl (datbind fix C)

        bound_types : Part s n 0 (λ k. Both (Seps (is AND) (DatBindD (ConsR fix k))) (WithD (TyR k))) (λ k. both (seps (is AND) (datbind_read (cons_in fix k))) (with_read (ty_in k) k.height))
            (λ x. after_stop (stops (union cons_goes (just AND))) (is WITHTYPE) (λ (t : List Tb). stops (union ty_goes (just AND))) x.1) (λ x. max (highest height_of x.0) (maybe_tall (highest height_of) x.1)) 1 1
        bound_types = pair_maybe firsts_then.part (λ k y w i d. withs.opening.begins k y w i d) (perhaps withs (omega arith)) (λ c e. word_halts WITHTYPE (union cons_goes (just AND)) refl c e)

        with_halts : (x : Option (List Tb)) (c : Token) → is WITH c ≡ true → after_stop (stops (union cons_goes (just AND))) (is WITHTYPE) (λ (t : List Tb). stops (union ty_goes (just AND))) x (Some c) ≡ true
        with_halts None c i = two_are _ _ (word_halts WITH (union cons_goes (just AND)) refl c i) (not_false (is WITHTYPE c) (is_just plain_fix WITHTYPE c ∙ apart_is plain_fix plain_fix (just WITH) (just WITHTYPE) refl c (sym (is_just plain_fix WITH c) ∙ i)))
        with_halts (Some ts) c i = word_halts WITH (union ty_goes (just AND)) refl c i

-- ---- values

abbrev pub vb_stop : Vb → Option Token → Bool
vb_stop b o = exp_stop b.1 o

abbrev pub vbs_stop : Vbs → Option Token → Bool
vbs_stop x o = row_stop (is AND) vb_stop x.1 o

module _ (fix : Settings) {s : Known} {n : ℕ} {P : Room → Pt → List Token → Type 0} {p : Room → Reader Token Pt} (Y : Phrase s n 0 P p (λ t. stops pat_goes) height_of 2 0 (begins_pat fix) 2)
    {E : Room → Ex → List Token → Type 0} {e : Room → Reader Token Ex} (X : Phrase s n 0 E e exp_stop height_of 2 0 (begins_exp fix) 4) where
  vb : Phrase s n 0 (λ k. VbD (P k) (E k)) (λ k. vb_read (p k) (e k)) vb_stop vb_height 2 2 (begins_pat fix) 2
  vb = let right = past_word EQUALS X.part in record { part = pair_then Y.part right (λ t c i. word_halts EQUALS pat_goes refl c i); opening = pair_opens Y.opening right.part }

  all_vbs : Phrase s n 0 (λ k. Seps (is AND) (VbD (P k) (E k))) (λ k. seps (is AND) (vb_read (p k) (e k))) (row_stop (is AND) vb_stop) (highest vb_height) 2 2 (begins_pat fix) 2
  all_vbs = apart_phrase (is AND) (word_token AND) (word_is AND) vb (λ t c i. exp_halts AND refl t.1 c i)

  vbs : Phrase s n 0 (λ k. VbsD (P k) (E k)) (λ k. vbs_read (p k) (e k)) vbs_stop vbs_height 2 2 (among fix (union (just REC) pat_firsts)) 2
  vbs = pick_if fix (just REC) pat_firsts (is_just fix REC) (λ c. refl)
      (made_phrase (vbs_of true) vbs_height vbs_stop (past_word REC all_vbs.part) (λ x. refl) (λ x o. refl))
      (made_phrase (vbs_of false) vbs_height vbs_stop all_vbs (λ x. refl) (λ x o. refl))
      (omega arith) refl

  vals_now : ((k : Room) (x : Vbs) (w r : List Token) → Reading s n k → VbsD (P k) (E k) x w → vbs_stop x (first r) ≡ true → vars_next (w ++ r) ≡ false)
      → Phrase s n 1 (λ k. ValsD (P k) (E k)) (λ k. mapped vals_of (ended (tokens_of dec_goes) (both (token_by (the VAL)) (under_two (vbs_read (p k) (e k)))))) dec_stop height_of 2 2 (is VAL) 2
  vals_now never = node vals_of height_of dec_stop
      (ends_phrase (tokens_of dec_goes) (phrase (the_word VAL) (with_two vbs (λ x. row_stop_if (is AND) vb_stop x.1 None refl (λ b. exp_none b.1.0.1.typed b.1.0.1.reach)) (λ c i. word_in fix OPEN_PAREN (union (just REC) pat_firsts) refl c i) never))
      (λ k t w o i d e. row_stop_if (is AND) vb_stop t.1.1.1 o (no_and o e) (λ b. exp_over b.1.0.1.typed b.1.0.1.reach o e)))
      (λ x. omega arith) (λ x o. refl)

-- ---- functions

abbrev pub clause_stop : Cl → Option Token → Bool
clause_stop x o = end_stop x.0.1 o

abbrev pub clauses_stop : List (List Cl) → Option Token → Bool
clauses_stop = row_stop (is AND) (row_stop (is BAR) clause_stop)

module _ (fix : Settings) {s : Known} {n : ℕ} {H : Room → Head → List Token → Type 0} {hd : Room → Reader Token Head} (ops : Bool) (N : Phrase s n 0 H hd (λ t. stops head_goes) head_height 1 0 (begins_head ops fix) 1) (T : TyP s n)
    {E : Room → Ex → List Token → Type 0} {e : Room → Reader Token Ex} (X : Phrase s n 0 E e exp_stop height_of 2 0 (begins_exp fix) 4) where
  pub clause_now : Phrase s n 1 (λ k. ClauseD (H k) (TyR k) (E k)) (λ k. clause_level ops fix (hd k) (ty_in k) (e k) k.height) clause_stop height_of 2 0 (begins_head ops fix) 2
  clause_now =
      last (node clause_of height_of clause_stop (record { part = pair_then typed equals (λ x c i. equals_halts x.1 c i); opening = pair_opens (pair_opens N.opening (perhaps of_type (omega arith))) equals.part })
      (λ x. let a = opt_is x.0.1 in omega arith) (λ x o. refl)) (omega arith)
    where
      of_type : Phrase s n 0 (λ k. Skip (is COLON) (TyR k)) (λ k. skip (is COLON) (ty_in k)) (λ t. stops ty_goes) height_of 1 1 (is COLON) 1
      of_type = past_word COLON T.part

      equals : Phrase s n 0 (λ k. Skip (is EQUALS) (E k)) (λ k. skip (is EQUALS) (e k)) exp_stop height_of 2 2 (is EQUALS) 2
      equals = past_word EQUALS X.part

      typed : Part s n 0 (λ k. Both (H k) (Maybe (Skip (is COLON) (TyR k)))) (λ k. both (hd k) (maybe (is COLON) 1 (skip (is COLON) (ty_in k)) k.height)) (λ x. after_stop (stops head_goes) (is COLON) (λ (t : Tx). stops ty_goes) x.1)
          (λ x. max (head_height x.0) (maybe_tall height_of x.1)) 1 0
      typed = pair_maybe N.part (λ k y w i d. of_type.opening.begins k y w i d) (perhaps of_type (omega arith)) (λ c e. word_halts COLON head_goes refl c e)

      equals_halts : (x : Option Tx) (c : Token) → is EQUALS c ≡ true → after_stop (stops head_goes) (is COLON) (λ (t : Tx). stops ty_goes) x (Some c) ≡ true
      equals_halts None c i = two_are _ _ (word_halts EQUALS head_goes refl c i) (not_false (is COLON c) (is_just plain_fix COLON c ∙ apart_is plain_fix plain_fix (just EQUALS) (just COLON) refl c (sym (is_just plain_fix EQUALS c) ∙ i)))
      equals_halts (Some t) c i = word_halts EQUALS ty_goes refl c i

module _ (fix : Settings) {s : Known} {n : ℕ} (ops : Bool) {F : Room → Cl → List Token → Type 0} {f : Room → Reader Token Cl} (K : Phrase s n 0 F f clause_stop height_of 3 0 (begins_head ops fix) 3)
    (never : (k : Room) (x : List (List Cl)) (w r : List Token) → Reading s n k → Seps (is AND) (Ready (is BAR) clause_bar (F k)) x w → clauses_stop x (first r) ≡ true → vars_next (w ++ r) ≡ false) where
  one_fun : Phrase s n 0 (λ k. Ready (is BAR) clause_bar (F k)) (λ k. ready_read (is BAR) clause_bar (f k)) (row_stop (is BAR) clause_stop) clauses_height 3 3 (begins_head ops fix) 3
  one_fun = ready_phrase (is BAR) (word_token BAR) (word_is BAR) clause_bar K (λ t c e i. bar_next t.0.1.typed t.0.1.reach c e i)

  all_funs : Phrase s n 0 (λ k. Seps (is AND) (Ready (is BAR) clause_bar (F k))) (λ k. clauses_read (f k)) clauses_stop (highest clauses_height) 3 3 (begins_head ops fix) 3
  all_funs = apart_phrase (is AND) (word_token AND) (word_is AND) one_fun (λ t c i. fun_halts t c i)
    where
      fun_halts : (t : List Cl) (c : Token) → is AND c ≡ true → row_stop (is BAR) clause_stop t (Some c) ≡ true
      fun_halts t c i = row_stop_if (is BAR) clause_stop t (Some c) (is_just plain_fix BAR c ∙ apart_is plain_fix plain_fix (just AND) (just BAR) refl c (sym (is_just plain_fix AND c) ∙ i))
          (λ x. set_halts (just AND) refl x.0.1.typed x.0.1.reach c (sym (is_just plain_fix AND c) ∙ i))

  funs_none : (x : List (List Cl)) → clauses_stop x None ≡ true
  funs_none x = row_stop_if (is AND) (row_stop (is BAR) clause_stop) x None refl (λ t. row_stop_if (is BAR) clause_stop t None refl (λ c. exp_none c.0.1.typed c.0.1.reach))

  funs_over : (x : List (List Cl)) (o : Option Token) → stops dec_goes o ≡ true → clauses_stop x o ≡ true
  funs_over x o e = row_stop_if (is AND) (row_stop (is BAR) clause_stop) x o (no_and o e)
      (λ t. row_stop_if (is BAR) clause_stop t o (not_true (head_is (is BAR) o) (not_word BAR dec_goes (word_in plain_fix BAR dec_goes refl) o e)) (λ c. exp_over c.0.1.typed c.0.1.reach o e))

  under_funs : Part s n 0 (λ k. UnderD (Seps (is AND) (Ready (is BAR) clause_bar (F k)))) (λ k. under_by ops (clauses_read (f k))) (λ x. clauses_stop x.1) (under_height (highest clauses_height)) 3 3
  under_funs = go ops refl
    where
      go : (b : Bool) → ops ≡ b → Part s n 0 (λ k. UnderD (Seps (is AND) (Ready (is BAR) clause_bar (F k)))) (λ k. under_by ops (clauses_read (f k))) (λ x. clauses_stop x.1) (under_height (highest clauses_height)) 3 3
      go true i = subst (λ (b : Bool). Part s n 0 (λ k. UnderD (Seps (is AND) (Ready (is BAR) clause_bar (F k)))) (λ k. under_by b (clauses_read (f k))) (λ x. clauses_stop x.1) (under_height (highest clauses_height)) 3 3) (sym i)
          (with_two all_funs funs_none (λ c j. ap (λ (b : Bool). begins_head b fix c) i ∙ word_in fix OPEN_PAREN pat_firsts refl c j) never)
      go false i = subst (λ (b : Bool). Part s n 0 (λ k. UnderD (Seps (is AND) (Ready (is BAR) clause_bar (F k)))) (λ k. under_by b (clauses_read (f k))) (λ x. clauses_stop x.1) (under_height (highest clauses_height)) 3 3) (sym i)
          (let U = under fix vid_begins (λ c. ap (λ (b : Bool). begins_head b fix c) i) refl all_funs in U.part)

  funs_now : Phrase s n 1 (λ k. FunsD (F k)) (λ k. mapped funs_of (ended (tokens_of dec_goes) (both (token_by (the FUN)) (under_by ops (clauses_read (f k)))))) dec_stop height_of 3 3 (is FUN) 3
  funs_now = node funs_of height_of dec_stop (ends_phrase (tokens_of dec_goes) (phrase (the_word FUN) under_funs) (λ k t w o i d e. funs_over t.1.1 o e)) (λ x. omega arith) (λ x o. refl)

-- ---- declarations

abbrev from_val : Firsts
from_val = union (just VAL) (just FUN)

abbrev from_abs : Firsts
from_abs = union (just ABSTYPE) from_val

abbrev from_exn : Firsts
from_exn = union (just EXCEPTION) from_abs

abbrev from_type : Firsts
from_type = union (just TYPE) from_exn

abbrev from_data : Firsts
from_data = union (just DATATYPE) from_type

abbrev from_local : Firsts
from_local = union (just LOCAL) from_data

abbrev from_nonfix : Firsts
from_nonfix = union (just NONFIX) from_local

abbrev from_infixr : Firsts
from_infixr = union (just INFIXR) from_nonfix

abbrev from_infix : Firsts
from_infix = union (just INFIX) from_infixr

module _ (fix : Settings) {s : Known} {n : ℕ} (ops : Bool) (T : TyP s n) (C : ConsP fix s n) (N : ExBindP fix s n)
    {D : Room → List De → List Token → Type 0} {d : Room → Reader Token (List De)} (R : Part s n 0 D d (λ t. stops decs_goes) (highest height_of) 0 0)
    {S : Room → List De → List De → List Token → Type 0} {q : Room → List De → Reader Token (List De)} (Z : (ds : List De) → Part s n 0 (λ k. S k ds) (λ k. q k ds) (λ t. stops decs_goes) (highest height_of) 0 0)
    {P : Room → Pt → List Token → Type 0} {p : Room → Reader Token Pt} (Y : Phrase s n 0 P p (λ t. stops pat_goes) height_of 2 0 (begins_pat fix) 2)
    {E : Room → Ex → List Token → Type 0} {e : Room → Reader Token Ex} (X : Phrase s n 0 E e exp_stop height_of 2 0 (begins_exp fix) 4)
    {F : Room → Cl → List Token → Type 0} {f : Room → Reader Token Cl} (K : Phrase s n 0 F f clause_stop height_of 3 0 (begins_head ops fix) 3)
    (no_vars : (k : Room) (x : Vbs) (w r : List Token) → Reading s n k → VbsD (P k) (E k) x w → vbs_stop x (first r) ≡ true → vars_next (w ++ r) ≡ false)
    (no_params : (k : Room) (x : List (List Cl)) (w r : List Token) → Reading s n k → Seps (is AND) (Ready (is BAR) clause_bar (F k)) x w → clauses_stop x (first r) ≡ true → vars_next (w ++ r) ≡ false) where
  pub dec_now : Phrase s n 1 (λ k. dec_form (D k) (S k) (TyR k) (ConsR fix k) (ExBindR fix k) (P k) (E k) (F k)) (λ k. dec_level ops fix (d k) (q k) (ty_in k) (cons_in fix k) (exbind_in fix k) (p k) (e k) (f k) k.height) dec_stop height_of 0 0 begins_dec 3
  dec_now =
      pick plain_fix (just OPEN) from_infix (is_just plain_fix OPEN) (λ c. refl) opens_now
      (pick plain_fix (just INFIX) from_infixr (is_just plain_fix INFIX) (λ c. refl) (fix_now INFIX false)
      (pick plain_fix (just INFIXR) from_nonfix (is_just plain_fix INFIXR) (λ c. refl) (fix_now INFIXR true)
      (pick plain_fix (just NONFIX) from_local (is_just plain_fix NONFIX) (λ c. refl) nonfix_now
      (pick plain_fix (just LOCAL) from_data (is_just plain_fix LOCAL) (λ c. refl) (local_now R Z)
      (pick plain_fix (just DATATYPE) from_type (is_just plain_fix DATATYPE) (λ c. refl) (datas_now fix T C)
      (pick plain_fix (just TYPE) from_exn (is_just plain_fix TYPE) (λ c. refl) (types_now fix T C)
      (pick plain_fix (just EXCEPTION) from_abs (is_just plain_fix EXCEPTION) (λ c. refl) (exns_now fix T C N)
      (pick plain_fix (just ABSTYPE) from_val (is_just plain_fix ABSTYPE) (λ c. refl) (abs_now fix T C R)
      (pick plain_fix (just VAL) (just FUN) (is_just plain_fix VAL) (is_just plain_fix FUN) (vals_now fix Y X no_vars)
      (last (funs_now fix ops K no_params) (omega arith))
      (omega arith) (omega arith) refl)
      (omega arith) (omega arith) refl)
      (omega arith) (omega arith) refl)
      (omega arith) (omega arith) refl)
      (omega arith) (omega arith) refl)
      (omega arith) (omega arith) refl)
      (omega arith) (omega arith) refl)
      (omega arith) (omega arith) refl)
      (omega arith) (omega arith) refl)
      (omega arith) (omega arith) refl

-- ---- rows of declarations

semis_now : {s : Known} {n : ℕ} → Part s n 0 (λ k. SemisD) (λ k. semis_read) (row_stop (is SEMICOLON) always) (highest flat) 0 0
semis_now = rows (a_word SEMICOLON) (λ t c e. refl)

semi_off : (o : Option Token) → (a : Firsts) → listed SEMICOLON a.words ≡ true → stops a o ≡ true → not (head_is (is SEMICOLON) o) ≡ true
semi_off o a f e = not_word SEMICOLON a (word_in plain_fix SEMICOLON a f) o e

module _ {s : Known} {n : ℕ} {D : Room → De → List Token → Type 0} {d : Room → Reader Token De} {ed : ℕ} (P : Phrase s n 0 D d dec_stop height_of 1 0 begins_dec ed) where
  -- what stops a declaration with the semicolons behind it
  abbrev closed_stop : De × List (Unit {0}) → Option Token → Bool
  closed_stop (t, []) o = stops dec_goes o && not (head_is (is SEMICOLON) o)
  closed_stop (t, u ∷ us) o = row_stop (is SEMICOLON) always (u ∷ us) o

  item : Phrase s n 0 (λ k. ItemD (D k)) (λ k. item_read (d k)) (λ t. stops item_goes) height_of 1 0 begins_dec (max ed 0)
  item = made_phrase dec_alone height_of (λ t. stops item_goes)
      (ends_phrase (tokens_of item_goes) (record { part = numbered 1 0 (pair_by P.part semis_now closed_stop split join) (omega arith) (omega arith) (omega arith); opening = pair_opens P.opening semis_now }) (λ k t w o i d e. over t.0 t.1 o e))
      (λ x. let a = all_flat x.1 in omega arith) (λ x o. refl)
    where
      semi_first : (u : Unit {0}) (us : List (Unit {0})) (v : List Token) → SemisD (u ∷ us) v → head_is (is SEMICOLON) (first v) ≡ true
      semi_first u us v x = subst (λ (z : List Token). head_is (is SEMICOLON) (first z) ≡ true) (sym (x.whole ∙ ap (λ (z : List Token). z ++ x.back) x.left.whole)) x.left.fits

      split : (k : Room) (x : De) (us : List (Unit {0})) (v r : List Token) → Fitting s n k → SemisD us v → closed_stop (x, us) (first r) ≡ true → (stops dec_goes (first (v ++ r)) ≡ true) × (row_stop (is SEMICOLON) always us (first r) ≡ true)
      split k x [] v r i y e =
          let two = both_true (stops dec_goes (first r)) (not (head_is (is SEMICOLON) (first r))) e in
          (subst (λ (v : List Token). stops dec_goes (first (v ++ r)) ≡ true) (sym y) two.0, two.1)
      split k x (u ∷ us) v r i y e =
          let g = head_some (is SEMICOLON) (first (v ++ r)) (head-append (is SEMICOLON) v r (semi_first u us v y)) in
          (ap (stops dec_goes) g.1 ∙ word_halts SEMICOLON dec_goes refl g.0 g.2, e)

      join : (k : Room) (x : De) (us : List (Unit {0})) (v r : List Token) → Fitting s n k → SemisD us v → stops dec_goes (first (v ++ r)) ≡ true → row_stop (is SEMICOLON) always us (first r) ≡ true → closed_stop (x, us) (first r) ≡ true
      join k x [] v r i y a e = two_are (stops dec_goes (first r)) _ (subst (λ (v : List Token). stops dec_goes (first (v ++ r)) ≡ true) y a) e
      join k x (u ∷ us) v r i y a e = e

      over : (x : De) (us : List (Unit {0})) (o : Option Token) → stops item_goes o ≡ true → closed_stop (x, us) o ≡ true
      over x [] o e = two_are _ _ (narrow plain_fix dec_goes item_goes refl o e) (semi_off o item_goes refl e)
      over x (u ∷ us) o e = row_stop_alone (is SEMICOLON) (u ∷ us) o ∙ semi_off o item_goes refl e

module _ {s : Known} {n : ℕ} {D : Room → Changes → De → List Token → Type 0} {d : Room → Changes → Reader Token De} {ed : ℕ} (P : (c : Changes) → Phrase s n 0 (λ k. D k c) (λ k. d k c) dec_stop height_of 1 0 begins_dec ed) where
  all_items : (c : Changes) → Part s n 0 (λ k. Steps after (λ x. ItemD (D k x)) c) (λ k. steps begins_dec after (λ x. item_read (d k x)) c) (row_stop begins_dec (λ t. stops item_goes)) (highest height_of) 0 0
  all_items = stepped after (turns (λ x. item (P x)))
      (λ k x u v w r i y.
      let I = item (P (after x u)) in
      let g = head_some begins_dec (first (w ++ r)) (head-append begins_dec w r (I.opening.begins k v w i y)) in
      ap (stops item_goes) g.1 ∙ halts plain_fix dec_firsts item_goes begins_dec (λ c. refl) refl g.0 g.2)

  abbrev row_over_stop : List De → Option Token → Bool
  row_over_stop ds o = not (head_is (is SEMICOLON) o) && row_stop begins_dec (λ (t : De). stops item_goes) ds o

  -- a row of declarations, with semicolons before, between and behind them
  pub decs_now : (c : Changes) → Part s n 0 (λ k. decs_form (D k) c) (λ k. decs_level (d k) c) (λ t. stops decs_goes) (highest height_of) 0 0
  decs_now c = made decs_alone (highest height_of) (λ t. stops decs_goes)
      (ends (tokens_of decs_goes) (pair_by semis_now (all_items c) (λ x. row_over_stop x.1) split join) (λ k t w o i y e. over t.1 o e))
      (λ x. let a = all_flat x.0 in omega arith) (λ x o. refl)
    where
      dec_first : (k : Room) (x : De) (xs : List De) (v : List Token) → Fitting s n k → Steps after (λ x. ItemD (D k x)) c (x ∷ xs) v → head_is begins_dec (first v) ≡ true
      dec_first k x xs v i y = let I = item (P c) in subst (λ (z : List Token). head_is begins_dec (first z) ≡ true) (sym y.whole) (head-append begins_dec y.front y.back (I.opening.begins k x y.front i y.left))

      split : (k : Room) (us : List (Unit {0})) (xs : List De) (v r : List Token) → Fitting s n k → Steps after (λ x. ItemD (D k x)) c xs v → row_over_stop xs (first r) ≡ true
          → (row_stop (is SEMICOLON) always us (first (v ++ r)) ≡ true) × (row_stop begins_dec (λ (t : De). stops item_goes) xs (first r) ≡ true)
      split k us [] v r i y e =
          let two = both_true (not (head_is (is SEMICOLON) (first r))) _ e in
          (subst (λ (v : List Token). row_stop (is SEMICOLON) always us (first (v ++ r)) ≡ true) (sym y) (row_stop_alone (is SEMICOLON) us (first r) ∙ two.0), two.1)
      split k us (x ∷ xs) v r i y e =
          let two = both_true (not (head_is (is SEMICOLON) (first r))) _ e in
          let g = head_some begins_dec (first (v ++ r)) (head-append begins_dec v r (dec_first k x xs v i y)) in
          (row_stop_alone (is SEMICOLON) us (first (v ++ r)) ∙ (ap (λ (o : Option Token). not (head_is (is SEMICOLON) o)) g.1 ∙ not_false (is SEMICOLON g.0) (is_just plain_fix SEMICOLON g.0 ∙ apart_is plain_fix plain_fix dec_firsts (just SEMICOLON) refl g.0 g.2)), two.1)

      join : (k : Room) (us : List (Unit {0})) (xs : List De) (v r : List Token) → Fitting s n k → Steps after (λ x. ItemD (D k x)) c xs v → row_stop (is SEMICOLON) always us (first (v ++ r)) ≡ true
          → row_stop begins_dec (λ (t : De). stops item_goes) xs (first r) ≡ true → row_over_stop xs (first r) ≡ true
      join k us [] v r i y a e = two_are _ _ (sym (row_stop_alone (is SEMICOLON) us (first r)) ∙ subst (λ (v : List Token). row_stop (is SEMICOLON) always us (first (v ++ r)) ≡ true) y a) e
      join k us (x ∷ xs) v r i y a e = two_are _ _ (semi_off (first r) item_goes refl (both_true (stops item_goes (first r)) _ (sym (row_alike begins_dec (stops item_goes) x xs (first r)) ∙ e)).0) e

      over : (xs : List De) (o : Option Token) → stops decs_goes o ≡ true → row_over_stop xs o ≡ true
      over xs o e = two_are _ _ (semi_off o decs_goes refl e)
          (row_stop_if begins_dec (λ (t : De). stops item_goes) xs o (not_true (head_is begins_dec o) (narrow plain_fix dec_firsts decs_goes refl o e)) (λ t. narrow plain_fix item_goes decs_goes refl o e))
