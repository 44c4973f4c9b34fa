-- Specifications are read exactly, where the signatures in them are.
use Rattle.std.proofs.Common.{◌≡◌, ℕ, zero, suc, ◌≤◌, Bool, true, false, not, ◌&&◌, List, [], ◌∷◌, ◌++◌, Option, Some, None, Ok, refl, sym, ap, subst, ◌∙◌, arith, append_assoc, inl, inr}
use Rattle.std.specs.Prelude.{is_some}
use Rattle.std.proofs.lemmas.List.{append-nil}
use Rattle.tl_text.specs.declared.place.Place.{Place}
use Rattle.readers.specs.Reader.{first, head_is, Reader, both, bound, mapped, token_by, skip}
use Rattle.readers.specs.Language.{Both, Bound, Shows, As, Or, Skip}
use Rattle.readers.specs.Room.{Room}
use Rattle.readers.specs.Exact.{always, row_stop, Found}
use Rattle.readers.specs.Forms.{highest, height_of, seps, Maybe, maybe, nothing, Nothing, ended}
use Rattle.readers.proofs.Bundle.{Known, Fitting, Part, Phrase}
use Rattle.readers.proofs.Combine.{token, phrase, pair, pair_opens, made_phrase, node, sized, sized_phrase, shown_test}
use Rattle.readers.proofs.First.{shows_begins}
use Rattle.readers.proofs.Repeat.{apart_phrase, rows, bind_by}
use Rattle.readers.proofs.Choose.{last, perhaps, option, ends, ends_phrase, restopped, maybe_stop, maybe_tall}
use Rattle.readers.proofs.Row.{both_true, row_stop_alone}
use Rattle.readers.proofs.Grow.{two_are}
use Rattle.readers.proofs.Outcome.{ok_is, head_some, head-append}
use Rattle.sml_ast.specs.declared.sig.SigExp.{SigExp, out-SigExp, out-roll-SigExp}
use Rattle.sml_ast.specs.declared.sig.SigExp.TheOpen.{SigExp-F, Spec-F}
use Rattle.sml_ast.specs.declared.sig.Spec.{Spec, roll-Spec, out-roll-Spec}
use Rattle.sml_lex.specs.declared.token.Token.{Token}
use Rattle.sml_grammar.specs.Words.{AND, COLON, DATATYPE, EQTYPE, EQUALS, EXCEPTION, INCLUDE, SHARING, STRUCTURE, TYPE, VAL}
use Rattle.sml_grammar.specs.Tokens.{Firsts, just, union, is, the, plain_fix, tokens_of, ident, long_ident, alphas, names, strid, long_strid, long_alphas, long_tycon, long_tycons}
use Rattle.sml_grammar.specs.Types.{Ident, LongIdent, Tx, TyR, ty_on}
use Rattle.sml_grammar.specs.ReadTypes.{ty_in}
use Rattle.sml_grammar.proofs.Sets.{is_just, pick, pick_if}
use Rattle.sml_grammar.proofs.Shapes.{word_token, name_token, word_is, stops, halts, word_halts, the_word, past_word, rows_of}
use Rattle.sml_grammar.proofs.Joined.{narrow, within}
use Rattle.sml_grammar.proofs.Types.{TyP, ty_goes}
use Rattle.sml_grammar_sig.specs.Descs.{NamedD, TyBindD, Cs, ConsR, cons_on, Many}
use Rattle.sml_grammar_sig.specs.ReadDescs.{con_goes, named_read, tybind_read, many_read, con_read, data_read}
use Rattle.sml_grammar_sig.specs.Sigs.{Sx, Sp, Ss, is_real, where_in, ends_with_where, sig_at, sharing_in, incl_of, incls_of, other_form, sig_on, spec_on, ValD, vals_of, ValsD, part_height, eqtypes_of, EqTypesD, exns_of, ExnsD, strs_of, StrsD, EqualD, Shared, sharing_of, SharingD, spec_form, SigR, TysD, SynsD, CopyD, DatasD}
use Rattle.sml_grammar_sig.specs.ReadSigs.{name_in, bare_name, lean_by, lean_height, names_in, included, included_of, include_read, is_lone, lone_in, other_firsts, other_level, spec_in, spec_goes, from_val, from_exn, from_data, from_type, from_sharing, begins_spec, sig_goes, equal_read, sharing_read, behind_read, begins_behind, val_read, further_read, spec_level, Behind, behind_height, opt_behind_height, types_of, data_of}
use Rattle.sml_grammar_sig.proofs.Tables.{BehindD, types_to, types_from, datas_to, datas_from}
use Rattle.sml_grammar_exp.proofs.Parts.{numbered, numbered_phrase, pair_row}
use Rattle.sml_grammar_sig.proofs.Descs.{flat, all_flat, many, named, tybind, con, ConsP, cons_in, data_now}
use Rattle.sml_grammar_sig.proofs.Sigs.{real_stop, sig_stop}
use Rattle.sml_grammar_sig.proofs.Structures.{strs_in, strs_stop, StrsP}
use Rattle.sml_grammar_sig.proofs.Chain.{resized, spoken}
use Rattle.sml_grammar_sig.proofs.Lean.{BareD, LeanR, LeanP, lean_in, bare_is}

-- what stops a specification
abbrev pub spec_stop : {T : Type 0} → T → Option Token → Bool
spec_stop t = stops spec_goes

-- a word of a set
pub word_off : (k : ℕ) (set : Firsts) → within (just k) set ≡ true → (o : Option Token) → stops set o ≡ true → not (head_is (is k) o) ≡ true
word_off k set i None e = refl
word_off k set i (Some c) e = ap not (is_just plain_fix k c) ∙ narrow plain_fix (just k) set i (Some c) e

sig_over : (r : Bool) (o : Option Token) → stops spec_goes o ≡ true → real_stop r o ≡ true
sig_over true o e = two_are _ _ (narrow plain_fix ty_goes spec_goes refl o e) (narrow plain_fix sig_goes spec_goes refl o e)
sig_over false o e = two_are _ _ refl (narrow plain_fix sig_goes spec_goes refl o e)

-- ---- names of types

eqtypes_now : {s : Known} {n : ℕ} → Phrase s n 1 (λ k. EqTypesD) (λ k. mapped eqtypes_of (ended (tokens_of spec_goes) (both (token_by (the EQTYPE)) (seps (is AND) named_read)))) spec_stop height_of 0 0 (is EQTYPE) 0
eqtypes_now = node eqtypes_of height_of spec_stop
    (ends_phrase (tokens_of spec_goes) (phrase (the_word EQTYPE) (let A = apart_phrase (is AND) (word_token AND) (word_is AND) named (λ t c i. refl) in A.part))
    (λ k t w o i d e. row_stop_alone (is AND) t.1 o ∙ word_off AND spec_goes refl o e)) (λ x. let a = all_flat x.1 in omega arith) (λ x o. refl)

-- ---- sharing

abbrev equal_stop : LongIdent × List LongIdent → Option Token → Bool
equal_stop x o = row_stop (is EQUALS) always x.1 o

abbrev shared_stop : Shared → Option Token → Bool
shared_stop (Shared.OfTypes x) o = equal_stop x o
shared_stop (Shared.OfStructures x) o = equal_stop x o

module _ {s : Known} {n : ℕ} {D : Room → LongIdent → List Token → Type 0} {p : Room → Reader Token LongIdent} {test : Token → Bool} (P : Phrase s n 0 D p always flat 0 0 test 0) where
  equal_now : Phrase s n 0 (λ k. EqualD (D k)) (λ k. equal_read (p k)) equal_stop flat 0 0 test 0
  equal_now =
      let all = apart_phrase (is EQUALS) (word_token EQUALS) (word_is EQUALS) P (λ t c i. refl) in
      let behind = past_word EQUALS all.part in
      numbered_phrase 0 0 0 (sized_phrase flat (phrase P behind.part) (λ x. let a = all_flat x.1 in omega arith)) (omega arith) (omega arith) (omega arith) (omega arith)

a_long_tycon : {s : Known} {n : ℕ} → Phrase s n 0 (λ k. Shows long_tycon) (λ k. token_by long_tycon) always flat 0 0 (tokens_of long_tycons) 0
a_long_tycon = token (tokens_of long_tycons) long_ident name_token refl

a_long_strid : {s : Known} {n : ℕ} → Phrase s n 0 (λ k. Shows long_strid) (λ k. token_by long_strid) always flat 0 0 (tokens_of long_alphas) 0
a_long_strid = token (tokens_of long_alphas) long_ident name_token refl

sharing_now : {s : Known} {n : ℕ} → Phrase s n 1 (λ k. SharingD) (λ k. sharing_read) spec_stop height_of 0 0 (is SHARING) 0
sharing_now = node sharing_of height_of spec_stop
    (ends_phrase (tokens_of spec_goes) (phrase (the_word SHARING)
    (let Q = pick_if plain_fix (just TYPE) long_alphas (is_just plain_fix TYPE) (λ c. refl)
    (made_phrase Shared.OfTypes flat shared_stop (past_word TYPE (let E = equal_now a_long_tycon in E.part)) (λ x. refl) (λ x o. refl))
    (made_phrase Shared.OfStructures flat shared_stop (equal_now a_long_strid) (λ x. refl) (λ x o. refl)) (omega arith) refl in Q.part)) (λ k t w o i d e. over t.1 o e)) (λ x. omega arith) (λ x o. refl)
  where
    over : (x : Shared) (o : Option Token) → stops spec_goes o ≡ true → shared_stop x o ≡ true
    over (Shared.OfTypes x) o e = row_stop_alone (is EQUALS) x.1 o ∙ word_off EQUALS spec_goes refl o e
    over (Shared.OfStructures x) o e = row_stop_alone (is EQUALS) x.1 o ∙ word_off EQUALS spec_goes refl o e

-- ---- types

abbrev behind_stop : Behind → Option Token → Bool
behind_stop (Behind.Names xs) o = not (head_is (is AND) o)
behind_stop (Behind.Equal x) o = stops ty_goes o && not (head_is (is AND) o)

opt_is : (x : Option Behind) → opt_behind_height x ≡ maybe_tall behind_height x
opt_is None = refl
opt_is (Some x) = refl

module _ {s : Known} {n : ℕ} (T : TyP s n) where
  names_now : Phrase s n 0 (λ k. As Behind.Names (Many (Skip (is AND) NamedD))) (λ k. mapped Behind.Names (many_read (is AND) (skip (is AND) named_read))) behind_stop behind_height 0 0 (is AND) 0
  names_now = made_phrase Behind.Names behind_height behind_stop (many (past_word AND (let N = named in N.part))) (λ x. sym (all_flat x)) (λ x o. refl)

  right_side : Phrase s n 0 (λ k. Skip (is EQUALS) (TyR k)) (λ k. skip (is EQUALS) (ty_in k)) (λ t. stops ty_goes) height_of 1 1 (is EQUALS) 1
  right_side = past_word EQUALS T.part

  further_binds : Phrase s n 0 (λ k. Skip (is AND) (TyBindD (TyR k))) (λ k. skip (is AND) (tybind_read (ty_in k))) (λ t. stops ty_goes) height_of 1 1 (is AND) 1
  further_binds = let B = tybind T in past_word AND B.part

  behind_now : Phrase s n 0 (λ k. BehindD (TyR k)) (λ k. behind_read (ty_in k) k.height) behind_stop behind_height 0 0 begins_behind 1
  behind_now = pick plain_fix (just AND) (just EQUALS) (is_just plain_fix AND) (is_just plain_fix EQUALS) names_now
      (last (made_phrase Behind.Equal behind_height behind_stop (record {
        part = numbered 1 1 (pair_row right_side.part further_binds (λ c e. word_halts AND ty_goes refl c e)) (omega arith) (omega arith) (omega arith);
        opening = pair_opens right_side.opening (rows further_binds (λ t c e. word_halts AND ty_goes refl c e));
      }) (λ x. refl) (λ x o. refl)) (omega arith))
      (omega arith) (omega arith) refl

  types_now : Phrase s n 1 (λ k. Or TysD (SynsD (TyR k))) (λ k. mapped types_of (ended (tokens_of spec_goes) (both (token_by (the TYPE)) (both named_read (maybe begins_behind 0 (behind_read (ty_in k) k.height) k.height))))) spec_stop height_of 0 0 (is TYPE) 0
  types_now = spoken (node types_of height_of spec_stop
      (ends_phrase (tokens_of spec_goes) (phrase (the_word TYPE) (pair (let N = named in N.part) (perhaps behind_now (omega arith)))) (λ k t w o i d e. over t.1.1 o e))
      (λ x. let a = opt_is x.1.1 in omega arith) (λ x o. refl)) (λ k t w d. types_to (TyR k) t w d) (λ k t w d. types_from (TyR k) t w d)
    where
      over : (x : Option Behind) (o : Option Token) → stops spec_goes o ≡ true → maybe_stop begins_behind behind_stop x o ≡ true
      over None o e = narrow plain_fix (union (just AND) (just EQUALS)) spec_goes refl o e
      over (Some (Behind.Names xs)) o e = word_off AND spec_goes refl o e
      over (Some (Behind.Equal x)) o e = two_are _ _ (narrow plain_fix ty_goes spec_goes refl o e) (word_off AND spec_goes refl o e)

  -- ---- values and exceptions

  val : Phrase s n 0 (λ k. ValD (TyR k)) (λ k. val_read (ty_in k)) (λ t. stops ty_goes) part_height 1 1 (tokens_of names) 1
  val = sized_phrase part_height (phrase (token (tokens_of names) ident name_token refl) (past_word COLON T.part).part) (λ x. omega arith)

  vals_now : Phrase s n 1 (λ k. ValsD (TyR k)) (λ k. mapped vals_of (ended (tokens_of spec_goes) (both (token_by (the VAL)) (seps (is AND) (val_read (ty_in k)))))) spec_stop height_of 1 1 (is VAL) 1
  vals_now = node vals_of height_of spec_stop
      (ends_phrase (tokens_of spec_goes) (phrase (the_word VAL) (let A = rows_of ty_goes AND refl val in A.part)) (λ k t w o i d e. narrow plain_fix (union ty_goes (just AND)) spec_goes refl o e)) (λ x. omega arith) (λ x o. refl)

  exns_now : Phrase s n 1 (λ k. ExnsD (TyR k)) (λ k. mapped exns_of (ended (tokens_of spec_goes) (both (token_by (the EXCEPTION)) (seps (is AND) (con_read (ty_in k) k.height))))) spec_stop height_of 0 0 (is EXCEPTION) 0
  exns_now = node exns_of height_of spec_stop
      (ends_phrase (tokens_of spec_goes) (phrase (the_word EXCEPTION) (let A = rows_of con_goes AND refl (con T) in A.part)) (λ k t w o i d e. narrow plain_fix (union con_goes (just AND)) spec_goes refl o e)) (λ x. omega arith) (λ x o. refl)

datas_now : {s : Known} {n : ℕ} → ConsP s n → Phrase s n 1 (λ k. Or CopyD (DatasD (ConsR k))) (λ k. mapped data_of (both (token_by (the DATATYPE)) (data_read spec_goes (cons_in k) k.height))) spec_stop height_of 0 0 (is DATATYPE) 0
datas_now C = spoken (node data_of height_of spec_stop (phrase (the_word DATATYPE) (let D = data_now spec_goes refl refl C in D.part)) (λ x. omega arith) (λ x o. refl)) (λ k t w d. datas_to (ConsR k) t w d) (λ k t w d. datas_from (ConsR k) t w d)

-- ---- structures

module _ {s : Known} {n : ℕ} (Q : StrsP COLON s n) where
  strs_over : (xs : List Ss) (o : Option Token) → stops spec_goes o ≡ true → strs_stop COLON xs o ≡ true
  strs_over [] o e = refl
  strs_over (x ∷ []) o e = sig_over _ o e
  strs_over (x ∷ y ∷ ys) o e = strs_over (y ∷ ys) o e

  structures_now : Phrase s n 1 (λ k. StrsD (SigR k)) (λ k. mapped strs_of (ended (tokens_of spec_goes) (both (token_by (the STRUCTURE)) (strs_in COLON k)))) spec_stop height_of 1 1 (is STRUCTURE) 1
  structures_now = node strs_of height_of spec_stop (ends_phrase (tokens_of spec_goes) (phrase (the_word STRUCTURE) Q.part) (λ k t w o i d e. strs_over t.1 o e)) (λ x. omega arith) (λ x o. refl)

-- ---- inclusions

nothing_part : {K T : Type 0} {s : Known} {n : ℕ} (x : T) → Part {K = K} {T = T} s n 0 (λ k. Nothing x) (λ k. nothing x) always flat 0 0
nothing_part {K} {T} x = record {
  above = λ k t w i d. omega arith;
  least = λ k t w i d. omega arith;
  lowest = λ k t w i d. omega arith;
  fits = λ h k t w i b l d. d;
  some = λ h i l. record { tree = x; more = []; derives = (refl, refl) };
  reads = λ k i. record {
    complete = λ t w r d st. subst (λ (w : List K). nothing x (w ++ r) ≡ Ok (t, r)) (sym d.1) (ap (λ (y : T). Ok (y, r)) d.0);
    sound = λ v z e. let same = ok_is (x, v) z e in subst (λ (z : T × List K). Found (Nothing x) always v z) same (record { read = []; derives = (refl, refl); parts = refl; stops = refl });
  };
  refuses = λ h i l v e j. absurd cc;
}

-- behind one identifier there may be further ones
abbrev pub FurtherD : Option Ident → Option (List Ident) → List Token → Type 0
FurtherD None = Nothing None
FurtherD (Some v) = Maybe (Many (Shows strid))

further_now : {s : Known} {n : ℕ} (v : Option Ident) → Part s n 0 (λ k. FurtherD v) (λ k. further_read v) (λ t o. not (head_is (tokens_of alphas) o)) flat 0 0
further_now None = ends (tokens_of alphas) (nothing_part None) (λ k t w o i d e. refl)
further_now (Some v) = sized flat
    (restopped (λ t o. not (head_is (tokens_of alphas) o)) (option (many (token (tokens_of alphas) ident name_token refl))) (λ k t w o d. same t o)) (λ t. none_high t)
  where
    same : (t : Option (List Ident)) (o : Option Token) → maybe_stop (tokens_of alphas) (λ (t : List Ident) o. not (head_is (tokens_of alphas) o)) t o ≡ not (head_is (tokens_of alphas) o)
    same None o = refl
    same (Some t) o = refl

    none_high : (t : Option (List Ident)) → maybe_tall (highest flat) t ≡ 0
    none_high None = refl
    none_high (Some t) = all_flat t

-- what is one identifier does not end with `where`
bare_plain : (y : SigExp-F SigExp Spec) (v : Ident) → name_in y ≡ Some v → ends_with_where (where_in y) ≡ false
bare_plain (SigExp-F.Specs p specs) v e = refl
bare_plain (SigExp-F.SigAt p x) v e = refl
bare_plain (SigExp-F.Real p q s vs c t) v e = absurd cc

none_empty : (n : Option Ident) (v : List Token) → FurtherD n None v → v ≡ []
none_empty None v d = d.1
none_empty (Some x) v (inl d) = let no : Some d.0 ≡ None = d.1 in absurd cc
none_empty (Some x) v (inr d) = d.1

some_first : (n : Option Ident) (vs : List Ident) (v : List Token) → FurtherD n (Some vs) v → (x : Ident) × (n ≡ Some x) × (head_is (tokens_of alphas) (first v) ≡ true)
some_first None vs v d = let no : None ≡ Some vs = d.0 in absurd cc
some_first (Some x) vs v (inr d) = let no : None ≡ Some vs = d.0 in absurd cc
some_first (Some x) vs v (inl d) =
    let j = d.2.2 in
    (x, refl, subst (λ (z : List Token). head_is (tokens_of alphas) (first z) ≡ true) (sym j.whole) (head-append (tokens_of alphas) j.front j.back (shows_begins strid (tokens_of alphas) (shown_test (tokens_of alphas) ident) d.2.0.0 j.front j.left)))

abbrev included_stop : Sx → Option (List Ident) → Option Token → Bool
included_stop x None o = sig_stop x o && not (head_is (tokens_of alphas) o)
included_stop x (Some vs) o = not (head_is (tokens_of alphas) o)

-- the height of a specification, where `include` with one identifier counts as with several
abbrev pub tall_by : Bool → ℕ → ℕ
tall_by true n = 1
tall_by false n = n

abbrev pub spec_tall : Sp → ℕ
spec_tall t = tall_by (is_lone t.0) t.1

included_tall : (p : Place) (x : Sx) (y : Option (List Ident)) → spec_tall (included p x y) ≡ suc (lean_height x)
included_tall p x None = ap (λ y. tall_by (lone_in y) (suc x.1)) (out-roll-Spec _) ∙ go (bare_name x)
  where
    go : (n : Option Ident) → tall_by (is_some n) (suc x.1) ≡ suc (lean_by n x.1)
    go None = refl
    go (Some v) = refl
included_tall p x (Some vs) = ap (λ y. tall_by (lone_in y) (suc (lean_height x))) (out-roll-Spec _)

module _ {s : Known} {n : ℕ} (S : LeanP s n) where
  included_now : Part s n 0 (λ k. Bound (LeanR k) (λ s. FurtherD (bare_name s))) (λ k. bound (lean_in k) (λ s. further_read (bare_name s))) (λ x o. included_stop x.0 x.1 o) (λ x. lean_height x.0) 0 0
  included_now = numbered 0 0 (sized (λ x. lean_height x.0) (bind_by S.part (λ x. further_now (bare_name x)) (λ x o. included_stop x.0 x.1 o) split join) (λ x. omega arith)) (omega arith) (omega arith) (omega arith)
    where
      split : (k : Room) (x : Sx) (y : Option (List Ident)) (v r : List Token) → Fitting s n k → FurtherD (bare_name x) y v → included_stop x y (first r) ≡ true → (sig_stop x (first (v ++ r)) ≡ true) × (not (head_is (tokens_of alphas) (first r)) ≡ true)
      split k x None v r i d e =
          let two = both_true (sig_stop x (first r)) (not (head_is (tokens_of alphas) (first r))) e in
          (subst (λ (v : List Token). sig_stop x (first (v ++ r)) ≡ true) (sym (none_empty (bare_name x) v d)) two.0, two.1)
      split k x (Some vs) v r i d e =
          let b = some_first (bare_name x) vs v d in
          let g = head_some (tokens_of alphas) (first (v ++ r)) (head-append (tokens_of alphas) v r b.2) in
          (ap (λ (z : Bool). real_stop z (first (v ++ r))) (bare_plain (out-SigExp x.0) b.0 b.1) ∙ (ap (real_stop false) g.1 ∙ halts plain_fix alphas sig_goes (tokens_of alphas) (λ c. refl) refl g.0 g.2), e)

      join : (k : Room) (x : Sx) (y : Option (List Ident)) (v r : List Token) → Fitting s n k → FurtherD (bare_name x) y v → sig_stop x (first (v ++ r)) ≡ true → not (head_is (tokens_of alphas) (first r)) ≡ true → included_stop x y (first r) ≡ true
      join k x None v r i d a e = two_are _ _ (subst (λ (v : List Token). sig_stop x (first (v ++ r)) ≡ true) (none_empty (bare_name x) v d) a) e
      join k x (Some vs) v r i d a e = e

  includes_now : Phrase s n 1 (λ k. As included_of (Both (Shows (the INCLUDE)) (Bound (LeanR k) (λ s. FurtherD (bare_name s))))) (λ k. include_read (lean_in k)) spec_stop spec_tall 0 0 (is INCLUDE) 0
  includes_now = node included_of spec_tall spec_stop (ends_phrase (tokens_of spec_goes) (phrase (the_word INCLUDE) included_now) (λ k t w o i d e. over t.1.0 t.1.1 o e)) (λ x. let a = included_tall x.0 x.1.0 x.1.1 in omega arith) (λ x o. refl)
    where
      over : (x : Sx) (y : Option (List Ident)) (o : Option Token) → stops spec_goes o ≡ true → included_stop x y o ≡ true
      over x None o e = two_are _ _ (sig_over (is_real x) o e) (narrow plain_fix alphas spec_goes refl o e)
      over x (Some vs) o e = narrow plain_fix alphas spec_goes refl o e

-- ---- the others are no inclusions

other_plain : (T : Tx → List Token → Type 0) (C : Cs → List Token → Type 0) (S : Sx → List Token → Type 0) (t : Sp) (w : List Token) → other_form T C S t w → is_lone t.0 ≡ false
other_plain T C S t w (inl d) = ap (λ (x : Sp). is_lone x.0) (sym d.1) ∙ ap lone_in (out-roll-Spec _)
other_plain T C S t w (inr (inl d)) = ap (λ (x : Sp). is_lone x.0) (sym d.1) ∙ go d.0.0 d.0.1
  where
    go : (p : Place) (x : Shared) → is_lone (sharing_in p x) ≡ false
    go p (Shared.OfTypes x) = ap lone_in (out-roll-Spec _)
    go p (Shared.OfStructures x) = ap lone_in (out-roll-Spec _)
other_plain T C S t w (inr (inr (inl (inl d)))) = ap (λ (x : Sp). is_lone x.0) (sym d.1) ∙ ap lone_in (out-roll-Spec _)
other_plain T C S t w (inr (inr (inl (inr d)))) = ap (λ (x : Sp). is_lone x.0) (sym d.1) ∙ ap lone_in (out-roll-Spec _)
other_plain T C S t w (inr (inr (inr (inl (inl d))))) = ap (λ (x : Sp). is_lone x.0) (sym d.1) ∙ ap lone_in (out-roll-Spec _)
other_plain T C S t w (inr (inr (inr (inl (inr d))))) = ap (λ (x : Sp). is_lone x.0) (sym d.1) ∙ ap lone_in (out-roll-Spec _)
other_plain T C S t w (inr (inr (inr (inr (inl d))))) = ap (λ (x : Sp). is_lone x.0) (sym d.1) ∙ ap lone_in (out-roll-Spec _)
other_plain T C S t w (inr (inr (inr (inr (inr (inl d)))))) = ap (λ (x : Sp). is_lone x.0) (sym d.1) ∙ ap lone_in (out-roll-Spec _)
other_plain T C S t w (inr (inr (inr (inr (inr (inr d)))))) = ap (λ (x : Sp). is_lone x.0) (sym d.1) ∙ ap lone_in (out-roll-Spec _)

others_now : {s : Known} {n : ℕ} → TyP s n → ConsP s n → StrsP COLON s n
    → Phrase s n 1 (λ k. other_form (TyR k) (ConsR k) (SigR k)) (λ k. other_level (ty_in k) (cons_in k) (strs_in COLON k) k.height) spec_stop height_of 0 0 (tokens_of other_firsts) 1
others_now T C Q =
    pick plain_fix (just EQTYPE) from_sharing (is_just plain_fix EQTYPE) (λ c. refl) eqtypes_now
    (pick plain_fix (just SHARING) from_type (is_just plain_fix SHARING) (λ c. refl) sharing_now
    (pick plain_fix (just TYPE) from_data (is_just plain_fix TYPE) (λ c. refl) (types_now T)
    (pick plain_fix (just DATATYPE) from_exn (is_just plain_fix DATATYPE) (λ c. refl) (datas_now C)
    (pick plain_fix (just EXCEPTION) from_val (is_just plain_fix EXCEPTION) (λ c. refl) (exns_now T)
    (pick plain_fix (just VAL) (just STRUCTURE) (is_just plain_fix VAL) (is_just plain_fix STRUCTURE) (vals_now T)
    (last (structures_now Q) (omega arith))
    (omega arith) (omega arith) refl)
    (omega arith) (omega arith) refl)
    (omega arith) (omega arith) refl)
    (omega arith) (omega arith) refl)
    (omega arith) (omega arith) refl)
    (omega arith) (omega arith) refl

-- ---- specifications, where `include` with one identifier takes no more room than with several

abbrev pub lean_form : (Tx → List Token → Type 0) → (Cs → List Token → Type 0) → (Sx → List Token → Type 0) → Sp → List Token → Type 0
lean_form T C S = Or (As included_of (Both (Shows (the INCLUDE)) (Bound (Or BareD S) (λ s. FurtherD (bare_name s))))) (other_form T C S)

unfoldable pub spec_lean_on : ℕ → Sp → List Token → Type 0
spec_lean_on zero t w = ⊥
spec_lean_on (suc h) t w = lean_form (ty_on h) (cons_on h) (sig_on h) t w

abbrev pub SpecLeanR : Room → Sp → List Token → Type 0
SpecLeanR r = spec_lean_on r.height

abbrev pub SpecLeanP : Known → ℕ → Type 0
SpecLeanP s n = Phrase s n 0 SpecLeanR spec_in spec_stop spec_tall 1 0 begins_spec 2

pub spec_now : {s : Known} {n : ℕ} → TyP s n → ConsP s n → LeanP s n → StrsP COLON s n
    → Phrase s n 1 (λ k. lean_form (TyR k) (ConsR k) (SigR k)) (λ k. spec_level (ty_in k) (cons_in k) (lean_in k) (strs_in COLON k) k.height) spec_stop spec_tall 0 0 begins_spec 1
spec_now T C S Q = pick_if plain_fix (just INCLUDE) other_firsts (is_just plain_fix INCLUDE) (λ c. refl) (includes_now S)
    (resized spec_tall (others_now T C Q) (λ k t w i d. ap (λ (b : Bool). tall_by b t.1) (sym (other_plain (TyR k) (ConsR k) (SigR k) t w d))))
    (omega arith) refl

-- ---- the same as all specifications, where there is room for a signature behind `include`

bare_at : (v : Ident) → bare_name (sig_at v) ≡ Some v
bare_at v = ap name_in (out-roll-SigExp _)

no_further : (n : Option Ident) → FurtherD n None []
no_further None = (refl, refl)
no_further (Some v) = inr (refl, refl)

some_included : (p : Place) (v : Ident) (vs : List Ident) → included p (sig_at v) (Some vs) ≡ incls_of (p, (v, vs))
some_included p v vs = ap (λ (n : Option Ident). (roll-Spec (Spec-F.Incls p (names_in n vs)), suc (lean_by n 1))) (bare_at v)

lone_incl : (p : Place) (x : Sx) → is_lone (incl_of (p, x)).0 ≡ is_some (bare_name x)
lone_incl p x = ap lone_in (out-roll-Spec _)

incls_plain : (x : Place × (Ident × List Ident)) → is_lone (incls_of x).0 ≡ false
incls_plain x = ap lone_in (out-roll-Spec _)

pub true_lean : (h : ℕ) (t : Sp) (w : List Token) → spec_on h t w → spec_lean_on h t w
unfolding spec_on spec_lean_on
true_lean zero t w d = d
true_lean (suc h) t w (inl (inl d)) =
    let j = d.2 in
    inl ((d.0.0, (d.0.1, None)), d.1, record { front = j.front; back = j.back; left = j.left; right = record { front = j.back; back = []; left = inr j.right; right = no_further (bare_name d.0.1); whole = sym (append-nil j.back) }; whole = j.whole })
true_lean (suc h) t w (inl (inr d)) =
    let j = d.2 in
    let q = j.right in
    let v : Ident = d.0.1.0 in
    let vs : List Ident = d.0.1.1 in
    let f : FurtherD (bare_name (sig_at v)) (Some vs) q.back = subst (λ (n : Option Ident). FurtherD n (Some vs) q.back) (sym (bare_at v)) (inl (vs, refl, q.right)) in
    inl ((d.0.0, (sig_at v, Some vs)), some_included d.0.0 v vs ∙ d.1, record { front = j.front; back = j.back; left = j.left; right = record { front = q.front; back = q.back; left = inl (v, refl, q.left); right = f; whole = q.whole }; whole = j.whole })
true_lean (suc h) t w (inr d) = inr d

bare_here : (h : ℕ) (x : Sx) (w : List Token) → 1 ≤ h → BareD x w → sig_on h x w
unfolding sig_on
bare_here zero x w le d = absurd (omega (arith, le))
bare_here (suc h) x w le d = inl (inr d)

bare_some : (x : Sx) (w : List Token) → BareD x w → is_some (bare_name x) ≡ true
bare_some x w d = ap (λ (x : Sx). is_some (bare_name x)) (sym d.1) ∙ ap (λ (n : Option Ident). is_some n) (bare_at d.0)

either_bare : (h : ℕ) (x : Sx) (w : List Token) (v : Ident) → bare_name x ≡ Some v → Or BareD (sig_on h) x w → BareD x w
either_bare h x w v e (inl d) = d
either_bare h x w v e (inr d) = bare_is h x w v e d

pub lean_true : (h : ℕ) (t : Sp) (w : List Token) → (is_lone t.0 ≡ true → 2 ≤ h) → spec_lean_on h t w → spec_on h t w
unfolding spec_on spec_lean_on
lean_true zero t w f d = d
lean_true (suc h) t w f (inr d) = inr d
lean_true (suc h) t w f (inl d) = go d.0.0 d.0.1.0 d.0.1.1 d.1 d.2
  where
    one : (p : Place) (x : Sx) → incl_of (p, x) ≡ t → (v : List Token) → Or BareD (sig_on h) x v → sig_on h x v
    one p x e v (inl a) = let l = f (ap (λ (y : Sp). is_lone y.0) (sym e) ∙ (lone_incl p x ∙ bare_some x v a)) in bare_here h x v (omega (arith, l)) a
    one p x e v (inr a) = a

    go : (p : Place) (x : Sx) (y : Option (List Ident)) → included p x y ≡ t → Both (Shows (the INCLUDE)) (Bound (Or BareD (sig_on h)) (λ s. FurtherD (bare_name s))) (p, (x, y)) w → spec_form (ty_on h) (cons_on h) (sig_on h) t w
    go p x None e j =
        let q = j.right in
        let z : j.back ≡ q.front = q.whole ∙ (ap (λ (z : List Token). q.front ++ z) (none_empty (bare_name x) q.back q.right) ∙ append-nil q.front) in
        inl (inl ((p, x), e, record { front = j.front; back = q.front; left = j.left; right = one p x e q.front q.left; whole = j.whole ∙ ap (λ (z : List Token). j.front ++ z) z }))
    go p x (Some vs) e j = let b = some_first (bare_name x) vs j.right.back j.right.right in several p x vs b.0 b.1 e j (either_bare h x j.right.front b.0 b.1 j.right.left)
      where
        many_is : (n : Option Ident) (vs : List Ident) (v : List Token) → FurtherD n (Some vs) v → Many (Shows strid) vs v
        many_is None vs v d = let no : None ≡ Some vs = d.0 in absurd cc
        many_is (Some x) vs v (inl d) = subst (λ (vs : List Ident). Many (Shows strid) vs v) (let same : Some d.0 ≡ Some vs = d.1 in cc) d.2
        many_is (Some x) vs v (inr d) = let no : None ≡ Some vs = d.0 in absurd cc

        several : (p : Place) (x : Sx) (vs : List Ident) (v : Ident) → bare_name x ≡ Some v → included p x (Some vs) ≡ t → (j : Both (Shows (the INCLUDE)) (Bound (Or BareD (sig_on h)) (λ s. FurtherD (bare_name s))) (p, (x, Some vs)) w) → BareD x j.right.front → spec_form (ty_on h) (cons_on h) (sig_on h) t w
        several p x vs v b e j a =
            let q = j.right in
            let same : incls_of (p, (a.0, vs)) ≡ t = sym (some_included p a.0 vs) ∙ (ap (λ (x : Sx). included p x (Some vs)) a.1 ∙ e) in
            inl (inr ((p, (a.0, vs)), same, record { front = j.front; back = j.back; left = j.left; right = record { front = q.front; back = q.back; left = a.2; right = many_is (bare_name x) vs q.back q.right; whole = q.whole }; whole = j.whole }))

sig_room : (h : ℕ) (x : Sx) (w : List Token) → sig_on h x w → 1 ≤ h
unfolding sig_on
sig_room zero x w d = absurd d
sig_room (suc h) x w d = omega arith

pub lone_high : (h : ℕ) (t : Sp) (w : List Token) → spec_on h t w → is_lone t.0 ≡ true → (2 ≤ h) × (t.1 ≡ 2)
unfolding spec_on
lone_high zero t w d e = absurd d
lone_high (suc h) t w (inl (inl d)) e = go (bare_name d.0.1) refl
  where
    lone : is_some (bare_name d.0.1) ≡ true
    lone = sym (lone_incl d.0.0 d.0.1) ∙ (ap (λ (y : Sp). is_lone y.0) d.1 ∙ e)

    go : (n : Option Ident) → bare_name d.0.1 ≡ n → (2 ≤ suc h) × (t.1 ≡ 2)
    go None b = let no : false ≡ true = ap (λ (n : Option Ident). is_some n) (sym b) ∙ lone in absurd cc
    go (Some v) b =
        let l = sig_room h d.0.1 d.2.back d.2.right in
        let a = bare_is h d.0.1 d.2.back v b d.2.right in
        let one : 1 ≡ d.0.1.1 = ap (λ (x : Sx). x.1) a.1 in
        let two : suc d.0.1.1 ≡ t.1 = ap (λ (x : Sp). x.1) d.1 in
        (omega (arith, l), omega (arith, one, two))
lone_high (suc h) t w (inl (inr d)) e = let no : false ≡ true = sym (incls_plain d.0) ∙ (ap (λ (x : Sp). is_lone x.0) d.1 ∙ e) in absurd cc
lone_high (suc h) t w (inr d) e = let no : false ≡ true = sym (other_plain (ty_on h) (cons_on h) (sig_on h) t w d) ∙ e in absurd cc

-- behind `include` with one identifier there may stand a further one
pub one_more : (h : ℕ) (t : Sp) (w : List Token) → spec_lean_on h t w → is_lone t.0 ≡ true → (u : Sp) × (is_lone u.0 ≡ false) × spec_lean_on h u (w ++ name_token ∷ [])
unfolding spec_lean_on
one_more zero t w d e = absurd d
one_more (suc h) t w (inr d) e = let no : false ≡ true = sym (other_plain (ty_on h) (cons_on h) (sig_on h) t w d) ∙ e in absurd cc
one_more (suc h) t w (inl d) e = go d.0.0 d.0.1.0 d.0.1.1 d.1 d.2
  where
    vs : List Ident
    vs = ident name_token ∷ []

    named_further : (n : Option Ident) → is_some n ≡ true → FurtherD n (Some vs) (name_token ∷ [])
    named_further None e = absurd cc
    named_further (Some v) e = inl (vs, refl, ((ident name_token, []), refl, record { front = name_token ∷ []; back = []; left = record { token = name_token; shows = refl; whole = refl }; right = refl; whole = refl }))

    go : (p : Place) (x : Sx) (y : Option (List Ident)) → included p x y ≡ t → Both (Shows (the INCLUDE)) (Bound (Or BareD (sig_on h)) (λ s. FurtherD (bare_name s))) (p, (x, y)) w
        → (u : Sp) × (is_lone u.0 ≡ false) × lean_form (ty_on h) (cons_on h) (sig_on h) u (w ++ name_token ∷ [])
    go p x None i j =
        let q = j.right in
        let f = named_further (bare_name x) (sym (lone_incl p x) ∙ (ap (λ (y : Sp). is_lone y.0) i ∙ e)) in
        let z : j.back ++ name_token ∷ [] ≡ q.front ++ name_token ∷ [] = ap (λ (z : List Token). z ++ name_token ∷ []) (q.whole ∙ (ap (λ (z : List Token). q.front ++ z) (none_empty (bare_name x) q.back q.right) ∙ append-nil q.front)) in (
          included p x (Some vs),
          ap lone_in (out-roll-Spec _),
          inl (
            (p, (x, Some vs)),
            refl,
            record {
              front = j.front;
              back = q.front ++ name_token ∷ [];
              left = j.left;
              right = record { front = q.front; back = name_token ∷ []; left = q.left; right = f; whole = refl };
              whole = ap (λ (z : List Token). z ++ name_token ∷ []) j.whole ∙ (append_assoc j.front j.back (name_token ∷ []) ∙ ap (λ (z : List Token). j.front ++ z) z);
            },
          ),
        )
    go p x (Some ws) i j = let no : false ≡ true = sym (ap lone_in (out-roll-Spec _)) ∙ (ap (λ (y : Sp). is_lone y.0) i ∙ e) in absurd cc
