-- Rows of bindings, seen as the trees of the grammar: structures, signatures and functors.
use Rattle.std.proofs.Common.{◌≡◌, ℕ, suc, max, Bool, true, false, List, [], ◌∷◌, ◌++◌, Option, Some, None, map, refl, sym, ap, subst, ◌∙◌, arith, append_assoc, inl, inr}
use Rattle.readers.specs.Reader.{first, head_is, Reader, both, mapped, token_by, skip, close}
use Rattle.readers.specs.Language.{Both, Row, Shows, As, Or, Skip, Close}
use Rattle.readers.specs.Room.{Room}
use Rattle.readers.specs.Exact.{always}
use Rattle.readers.specs.Forms.{Maybe, Seps, highest, height_of}
use Rattle.readers.proofs.Bundle.{Known, Fitting, Phrase}
use Rattle.readers.proofs.Combine.{token, phrase, made, made_phrase, sized_phrase}
use Rattle.readers.proofs.Choose.{last, perhaps, closed_phrase, maybe_stop, maybe_tall}
use Rattle.readers.proofs.First.{head_other, head_to}
use Rattle.readers.proofs.Outcome.{head-append}
use Rattle.readers.proofs.Grow.{two_are}
use Rattle.readers.proofs.Mapped.{Made, viable_made, mapped_reads_by, mapped_refuses}
use Rattle.readers.proofs.Levels.{Knot, Tower, all_of, lifted, lowest_sizes, lowest_readings, lowest_refusals}
use Rattle.sml_lex.specs.declared.token.Token.{Token}
use Rattle.sml_ast.specs.declared.sig.Ascribe.TheVariants as ascribe
use Rattle.sml_ast.specs.declared.sig.SigExp.{SigExp}
use Rattle.sml_ast.specs.declared.program.StrBind.TheOpen.{StrBind-F}
use Rattle.sml_ast.specs.declared.program.StrBind.{StrBind, out-StrBind, out-roll-StrBind}
use Rattle.sml_ast.specs.declared.program.StrDec.{StrDec}
use Rattle.sml_ast.specs.declared.program.StrExp.{StrExp}
use Rattle.sml_ast.specs.declared.program.FunBind.{FunBind}
use Rattle.sml_ast.specs.declared.program.FunBind.TheVariants as fun_bind
use Rattle.sml_ast.specs.declared.program.SigBind.{SigBind}
use Rattle.sml_ast.specs.declared.program.SigBind.TheVariants as sig_bind
use Rattle.sml_grammar.specs.Words.{AND, CLOSE_PAREN, COLON, EQUALS, OPEN_PAREN, SEMICOLON}
use Rattle.sml_grammar.specs.Tokens.{just, is, ident, plain_fix, tokens_of, alphas, strid}
use Rattle.sml_grammar.specs.Types.{Ident}
use Rattle.sml_grammar.specs.Pats.{opt_height}
use Rattle.sml_grammar.proofs.Sets.{is_just, apart_is}
use Rattle.sml_grammar.proofs.Shapes.{name_token, word_token, word_is, word_halts, past_word}
use Rattle.sml_grammar.proofs.Types.{ty_goes}
use Rattle.sml_grammar_exp.specs.Decs.{Changes}
use Rattle.sml_grammar_exp.proofs.Parts.{numbered_phrase}
use Rattle.sml_grammar_sig.specs.Sigs.{Sx, Ss, Sp, is_real, part_height, ItemD, SigR, SpecR, SpecsR}
use Rattle.sml_grammar_sig.specs.ReadDescs.{real_bind_read}
use Rattle.sml_grammar.proofs.Joined.{within_is}
use Rattle.sml_grammar_sig.specs.ReadSigs.{head_read, sig_in, spec_firsts, begins_spec, item_firsts, sig_goes}
use Rattle.sml_grammar_sig.proofs.Descs.{flat, real_bind_exact}
use Rattle.sml_grammar_sig.proofs.Chain.{spoken}
use Rattle.sml_grammar_sig.proofs.Sigs.{real_stop, sig_stop}
use Rattle.sml_grammar_sig.proofs.Specs.{true_lean}
use Rattle.sml_grammar_sig.proofs.Rows.{specs_now}
use Rattle.sml_grammar_sig.proofs.Structures.{strs_stop, strs_now}
use Rattle.sml_grammar_sig.proofs.Levels.{sig_exact, head_exact, spec_exact}
use Rattle.sml_grammar_mod.specs.Strs.{St, Sb, Gb, Fb, Ax, Param, param_height, strbind_of, sigbind_of, funbind_in, funbind_of, StrBindD, SigBindD, FunBindD, ParamD, AscribeR, StrR, StrBindR, SigBindR, FunBindR, strbind_on, sigbind_on, funbind_on}
use Rattle.sml_grammar_mod.specs.ReadStrs.{begins_ascribe, ascribe_firsts, ascription_read, strbinds_level, sigbinds_level, funbinds_level, sigbinds_read, funbinds_read, strbinds_read, param_read}
use Rattle.sml_grammar_mod.proofs.Choices.{part_if}
use Rattle.sml_grammar_mod.proofs.Ascriptions.{ascribe_stop, ascribe_exact}
use Rattle.sml_grammar_mod.proofs.Grows.{str_stop}
use Rattle.sml_grammar_mod.proofs.Strs.{base_in, BaseP}
use Rattle.sml_grammar_mod.proofs.Binds.{row_end, row_now}

-- ---- trees of one level made from what is read

module _ {K S T : Type 0} {s : Known} {n : ℕ} {D : Room → S → List K → Type 0} {p : Room → Reader K S} {sd : S → Option K → Bool} {td : S → ℕ} {ld nd : ℕ} {test : K → Bool} {ed : ℕ} (f : S → T) (tf : T → ℕ) (sf : T → Option K → Bool) (E : Room → T → List K → Type 0) where
  pub made_node : Phrase s n 0 D p sd td ld nd test ed → ((k : Room) → Made f (D k) (E k)) → ((k : Room) (x : S) (w : List K) → D k x w → tf (f x) ≡ suc (td x)) → ((k : Room) (x : S) (w : List K) (o : Option K) → D k x w → sd x o ≡ sf (f x) o)
      → Phrase s n 1 E (λ k. mapped f (p k)) sf tf ld nd test ed
  made_node P m grows same = record {
    part = record {
      above = λ k t w i d. let x = (m k).from t w d in let g = grows k x.0 w x.2 in let e = ap tf x.1 in omega (arith, g, e);
      least = λ k t w i d. let x = (m k).from t w d in let g = grows k x.0 w x.2 in let e = ap tf x.1 in let a = P.part.least k x.0 w i x.2 in omega (arith, g, e, a);
      lowest = λ k t w i d. let x = (m k).from t w d in P.part.lowest k x.0 w i x.2;
      fits = λ h k t w i b l d. let x = (m h).from t w d in let g = grows h x.0 w x.2 in let e = ap tf x.1 in subst (λ (t : T). E k t w) x.1 ((m k).to x.0 w (P.part.fits h k x.0 w i b (omega (arith, g, e, l)) x.2));
      some = λ h i l. viable_made f (D h) (E h) (m h) [] (P.part.some h i l);
      reads = λ k i. mapped_reads_by f (D k) (E k) (m k) sd sf (p k) (λ x w o d e. same k x w o d ∙ e) (λ x w o d e. sym (same k x w o d) ∙ e) (P.part.reads k i);
      refuses = λ h i l v e j. mapped_refuses f D E p m h v e (P.part.refuses h i l v e) j;
    };
    opening = record {
      begins = λ k t w i d. let x = (m k).from t w d in P.opening.begins k x.0 w i x.2;
      starts = λ h c i l e. viable_made f (D h) (E h) (m h) (c ∷ []) (P.opening.starts h c i l e);
      bars = λ k v i e. rw (P.opening.bars k v i e) refl;
    };
  }

-- ---- rows of trees made from others

module _ {S T : Type 0} (f : S → T) (sep : Token → Bool) (D : S → List Token → Type 0) where
  row_to : (xs : List S) (w : List Token) → Row (Skip sep D) xs w → Row (Skip sep (As f D)) (map f xs) w
  row_to [] w d = d
  row_to (x ∷ xs) w d = record {
    front = d.front;
    back = d.back;
    left = record { front = d.left.front; back = d.left.back; left = d.left.left; right = (x, refl, d.left.right); whole = d.left.whole };
    right = row_to xs d.back d.right;
    whole = d.whole;
  }

  row_from : (ts : List T) (w : List Token) → Row (Skip sep (As f D)) ts w → (xs : List S) × (map f xs ≡ ts) × Row (Skip sep D) xs w
  row_from [] w d = ([], refl, d)
  row_from (t ∷ ts) w d =
      let x = d.left.right in
      let r = row_from ts d.back d.right in (
        x.0 ∷ r.0,
        ap (λ (t : T). t ∷ map f r.0) x.1 ∙ ap (λ (ts : List T). t ∷ ts) r.1,
        record {
          front = d.front;
          back = d.back;
          left = record { front = d.left.front; back = d.left.back; left = d.left.left; right = x.2; whole = d.left.whole };
          right = r.2;
          whole = d.whole;
        },
      )

  pub seps_made : Made (map f) (Seps sep D) (Seps sep (As f D))
  seps_made = record {
    to = λ xs w d. ((f d.0.0, map f d.0.1), ap (map f) d.1, record { front = d.2.front; back = d.2.back; left = (d.0.0, refl, d.2.left); right = row_to d.0.1 d.2.back d.2.right; whole = d.2.whole });
    from = λ ts w d.
        let x = d.2.left in
        let r = row_from d.0.1 d.2.back d.2.right in
        (x.0 ∷ r.0, ap (λ (t : T). t ∷ map f r.0) x.1 ∙ (ap (λ (ts : List T). d.0.0 ∷ ts) r.1 ∙ d.1), ((x.0, r.0), refl, record { front = d.2.front; back = d.2.back; left = x.2; right = r.2; whole = d.2.whole }));
  }

  module _ (tf : T → ℕ) (td : S → ℕ) (one : (x : S) → tf (f x) ≡ suc (td x)) where
    all_high : (x : S) (xs : List S) → highest tf (map f (x ∷ xs)) ≡ suc (highest td (x ∷ xs))
    all_high x [] = let a = one x in omega (arith, a)
    all_high x (y ∷ ys) = let a = one x in let b = all_high y ys in omega (arith, a, b)

    pub seps_high : (xs : List S) (w : List Token) → Seps sep D xs w → highest tf (map f xs) ≡ suc (highest td xs)
    seps_high xs w d = subst (λ (xs : List S). highest tf (map f xs) ≡ suc (highest td xs)) d.1 (all_high d.0.0 d.0.1)

-- ---- the front of a binding

a_strid : {s : Known} {n : ℕ} → Phrase s n 0 (λ k. Shows strid) (λ k. token_by strid) always flat 0 0 (tokens_of alphas) 0
a_strid = token (tokens_of alphas) ident name_token refl

opt_is : (x : Option Ax) → maybe_tall height_of x ≡ opt_height x
opt_is None = refl
opt_is (Some x) = refl

-- `=` stands behind an ascription or its absence
equals_stops : (x : Option Ax) (c : Token) → is EQUALS c ≡ true → maybe_stop begins_ascribe ascribe_stop x (Some c) ≡ true
equals_stops None c e = word_halts EQUALS ascribe_firsts refl c e
equals_stops (Some (a, h)) c e = go a
  where
    sig_end : (r : Bool) → real_stop r (Some c) ≡ true
    sig_end true = two_are _ _ (word_halts EQUALS ty_goes refl c e) (word_halts EQUALS sig_goes refl c e)
    sig_end false = two_are _ _ refl (word_halts EQUALS sig_goes refl c e)

    go : (a : _) → ascribe_stop (a, h) (Some c) ≡ true
    go (ascribe.Clear p s) = sig_end _
    go (ascribe.Opaque p s) = sig_end _

-- strid [Ascribe]
abbrev StrFrontR : Room → Ident × Option Ax → List Token → Type 0
StrFrontR k = Both (Shows strid) (Maybe (AscribeR k))

abbrev str_front : ℕ → Reader Token (Ident × Option Ax)
str_front h = both (token_by strid) (ascription_read h)

abbrev str_front_stop : Ident × Option Ax → Option Token → Bool
str_front_stop x o = maybe_stop begins_ascribe ascribe_stop x.1 o

abbrev str_front_height : Ident × Option Ax → ℕ
str_front_height x = opt_height x.1

str_front_now : {s : Known} {n : ℕ} → Phrase s n 0 StrFrontR (λ k. str_front k.height) str_front_stop str_front_height 0 0 (tokens_of alphas) 0
str_front_now {s = s} {n = n} = numbered_phrase 0 0 0 (sized_phrase str_front_height (phrase a_strid (perhaps (ascribe_exact s n) (omega arith))) (λ x. let a = opt_is x.1 in omega (arith, a))) (omega arith) (omega arith) (omega arith) (omega arith)

-- ---- bindings of structures

abbrev bind_exp : StrBind-F StrBind StrDec StrExp → StrExp
bind_exp (StrBind-F.Bind p v a e) = e

abbrev pub bind_end : Sb → Option Token → Bool
bind_end b o = str_stop (bind_exp (out-StrBind b.0), 0) o

abbrev pub last_end : {T : Type 0} → (T → Option Token → Bool) → List T → Option Token → Bool
last_end st [] o = true
last_end st (x ∷ []) o = st x o
last_end st (x ∷ y ∷ ys) o = last_end st (y ∷ ys) o

module _ (cs : Changes) where
  -- {StrBind}/and
  abbrev pub StrBindsR : Room → List Sb → List Token → Type 0
  StrBindsR k = Seps (is AND) (StrBindR cs k)

  abbrev pub strbinds_in : Room → Reader Token (List Sb)
  strbinds_in k = strbinds_read k.height k.clashes cs

  abbrev pub StrBindsP : Known → ℕ → Type 0
  StrBindsP s n = Phrase s n 0 StrBindsR strbinds_in (last_end bind_end) (highest height_of) 2 0 (tokens_of alphas) 2

  strbinds_end : (xs : List ((Ident × Option Ax) × St)) (o : Option Token) → row_end cs StrFrontR str_front str_front_stop str_front_height 0 0 0 xs o ≡ last_end bind_end (map strbind_of xs) o
  strbinds_end [] o = refl
  strbinds_end (x ∷ []) o = ap (λ y. str_stop (bind_exp y, 0) o) (sym (out-roll-StrBind _))
  strbinds_end (x ∷ y ∷ ys) o = strbinds_end (y ∷ ys) o

  pub strbinds_now : {s : Known} {n : ℕ} → BaseP cs s n → Phrase s n 1 (λ k. Seps (is AND) (StrBindD (AscribeR k) (StrR cs k))) (λ k. strbinds_level (base_in cs k) k.height) (last_end bind_end) (highest height_of) 1 0 (tokens_of alphas) 1
  strbinds_now B = last (made_node (map strbind_of) (highest height_of) (last_end bind_end) (λ k. Seps (is AND) (StrBindD (AscribeR k) (StrR cs k)))
      (row_now cs StrFrontR str_front str_front_stop str_front_height 0 0 0 (omega arith) (omega arith) str_front_now B (λ x c e. equals_stops x.1 c e))
      (λ k. seps_made strbind_of (is AND) (Both (StrFrontR k) (Skip (is EQUALS) (StrR cs k))))
      (λ k xs w d. seps_high strbind_of (is AND) (Both (StrFrontR k) (Skip (is EQUALS) (StrR cs k))) height_of (λ x. max (str_front_height x.0) x.1.1) (λ x. omega arith) xs w d)
      (λ k xs w o d. strbinds_end xs o)) (omega arith)

  pub strbinds_knot : Knot StrBindsR (λ k. Seps (is AND) (StrBindD (AscribeR k) (StrR cs k))) strbinds_in (λ k. strbinds_level (base_in cs k) k.height) (tokens_of alphas)
  unfolding strbind_on strbinds_read
  strbinds_knot = record { none = λ b t w d. d.2.left; out = λ h b t w d. d; into = λ h b t w d. d; empty = λ b v. refl; next = λ h b v. refl }

-- ---- bindings of signatures

abbrev sig_in_bind : SigBind → SigExp
sig_in_bind (sig_bind.SigAs p v s) = s

abbrev pub sig_end : Gb → Option Token → Bool
sig_end b o = sig_stop (sig_in_bind b.0, 0) o

-- {SigBind}/and
abbrev pub SigBindsR : Room → List Gb → List Token → Type 0
SigBindsR k = Seps (is AND) (SigBindR k)

abbrev pub sigbinds_in : Room → Reader Token (List Gb)
sigbinds_in k = sigbinds_read k.height

abbrev pub SigBindsP : Known → ℕ → Type 0
SigBindsP s n = Phrase s n 0 SigBindsR sigbinds_in (last_end sig_end) (highest height_of) 2 0 (tokens_of alphas) 2

sigbinds_end : (xs : List Ss) (o : Option Token) → strs_stop EQUALS xs o ≡ last_end sig_end (map sigbind_of xs) o
sigbinds_end [] o = refl
sigbinds_end (x ∷ []) o = refl
sigbinds_end (x ∷ y ∷ ys) o = sigbinds_end (y ∷ ys) o

abbrev sigbinds_by : Room → Reader Token (List Gb)
sigbinds_by k = sigbinds_level (head_read k.height) (real_bind_read k.height) k.height

sigbinds_now : {s : Known} {n : ℕ} → Phrase s n 1 (λ k. Seps (is AND) (SigBindD (SigR k))) sigbinds_by (last_end sig_end) (highest height_of) 1 0 (tokens_of alphas) 1
sigbinds_now {s = s} {n = n} = last (made_node (map sigbind_of) (highest height_of) (last_end sig_end) (λ k. Seps (is AND) (SigBindD (SigR k)))
    (numbered_phrase 1 1 1 (strs_now EQUALS (real_bind_exact s n) (head_exact s n)) (omega arith) (omega arith) (omega arith) (omega arith))
    (λ k. seps_made sigbind_of (is AND) (Both (Shows strid) (Skip (is EQUALS) (SigR k))))
    (λ k xs w d. seps_high sigbind_of (is AND) (Both (Shows strid) (Skip (is EQUALS) (SigR k))) height_of part_height (λ x. refl) xs w d)
    (λ k xs w o d. sigbinds_end xs o)) (omega arith)

sigbinds_knot : Knot SigBindsR (λ k. Seps (is AND) (SigBindD (SigR k))) sigbinds_in sigbinds_by (tokens_of alphas)
unfolding sigbind_on sigbinds_read
sigbinds_knot = record { none = λ b t w d. d.2.left; out = λ h b t w d. d; into = λ h b t w d. d; empty = λ b v. refl; next = λ h b v. refl }

sigbinds_tower : Tower SigBindsP
sigbinds_tower = record {
  sizes = lowest_sizes sigbinds_knot;
  readings = λ f. lowest_readings sigbinds_knot f;
  refusals = λ f. lowest_refusals sigbinds_knot f;
  next = λ s n a. lifted sigbinds_knot sigbinds_now;
}

pub sigbinds_exact : (s : Known) (n : ℕ) → SigBindsP s n
sigbinds_exact = all_of SigBindsP sigbinds_tower

-- ---- what stands in the parentheses of a functor

abbrev NamedD : Room → Param → List Token → Type 0
NamedD k = As Param.Named (Close (Both (Shows strid) (Skip (is COLON) (SigR k))) (is CLOSE_PAREN))

abbrev OpenedD : Room → Param → List Token → Type 0
OpenedD k = As Param.Opened (Close (SpecsR k) (is CLOSE_PAREN))

module _ (s : Known) (n : ℕ) where
  sig_closes : (x : Sx) (c : Token) → is CLOSE_PAREN c ≡ true → sig_stop x (Some c) ≡ true
  sig_closes x c e = go (is_real x)
    where
      go : (r : Bool) → real_stop r (Some c) ≡ true
      go true = two_are _ _ (word_halts CLOSE_PAREN ty_goes refl c e) (word_halts CLOSE_PAREN sig_goes refl c e)
      go false = two_are _ _ refl (word_halts CLOSE_PAREN sig_goes refl c e)

  named_now : Phrase s n 0 NamedD (λ k. mapped Param.Named (close (both (token_by strid) (skip (is COLON) (sig_in k))) (is CLOSE_PAREN))) always param_height 1 1 (tokens_of alphas) 1
  named_now =
      let S = sig_exact s n in
      let C = past_word COLON S.part in
      numbered_phrase 1 1 1 (made_phrase Param.Named param_height always
      (closed_phrase (is CLOSE_PAREN) (word_token CLOSE_PAREN) (word_is CLOSE_PAREN) (phrase a_strid C.part) (λ x c e. sig_closes x.1 c e)) (λ x. omega arith) (λ x o. refl)) (omega arith) (omega arith) (omega arith) (omega arith)

  row_first : (k : Room) (us : List (Option Sp)) (v w : List Token) → Fitting s n k → Row (ItemD (SpecR k)) us v → head_is (is CLOSE_PAREN) (first w) ≡ true → head_is (tokens_of alphas) (first (v ++ w)) ≡ false
  row_first k [] v w i d e = subst (λ (v : List Token). head_is (tokens_of alphas) (first (v ++ w)) ≡ false) (sym d) (head_other (is CLOSE_PAREN) (tokens_of alphas) (λ c x. apart_is plain_fix plain_fix (just CLOSE_PAREN) alphas refl c (sym (is_just plain_fix CLOSE_PAREN c) ∙ x)) (first w) e)
  row_first k (u ∷ us) v w i d e =
      head_other (tokens_of item_firsts) (tokens_of alphas) (λ c x. apart_is plain_fix plain_fix item_firsts alphas refl c x) (first (v ++ w))
      (head-append (tokens_of item_firsts) v w (subst (λ (z : List Token). head_is (tokens_of item_firsts) (first z) ≡ true) (sym d.whole) (head-append (tokens_of item_firsts) d.front d.back (one u d.front d.left))))
    where
      one : (u : Option Sp) (w : List Token) → ItemD (SpecR k) u w → head_is (tokens_of item_firsts) (first w) ≡ true
      one u w (inl a) = head_to (is SEMICOLON) (tokens_of item_firsts) (λ c x. within_is plain_fix (just SEMICOLON) item_firsts refl c (sym (is_just plain_fix SEMICOLON c) ∙ x)) (first w) (subst (λ (z : List Token). head_is (is SEMICOLON) (first z) ≡ true) (sym a.2.whole) a.2.fits)
      one u w (inr a) = let P = spec_exact s n in head_to begins_spec (tokens_of item_firsts) (λ c x. within_is plain_fix spec_firsts item_firsts refl c x) (first w) (P.opening.begins k a.0 w i (true_lean k.height a.0 w a.2))

  opened_other : (k : Room) (t : Param) (v r : List Token) → Fitting s n k → OpenedD k t v → head_is (tokens_of alphas) (first (v ++ r)) ≡ false
  opened_other k t v r i d =
      let j = d.2 in
      subst (λ (z : List Token). head_is (tokens_of alphas) (first z) ≡ false) (sym (ap (λ (z : List Token). z ++ r) j.whole ∙ append_assoc j.front j.back r))
      (row_first k j.left.0 j.front (j.back ++ r) i j.left.2 (head-append (is CLOSE_PAREN) j.back r (subst (λ (z : List Token). head_is (is CLOSE_PAREN) (first z) ≡ true) (sym j.right.whole) j.right.fits)))

  param_to : (k : Room) (t : Param) (w : List Token) → Skip (is OPEN_PAREN) (Or (NamedD k) (OpenedD k)) t w → ParamD (SigR k) (SpecR k) t w
  param_to k t w d = elim d.right [
    | inl a ↦ inl (a.0, a.1, record { front = d.front; back = d.back; left = d.left; right = a.2; whole = d.whole })
    | inr a ↦ inr (a.0, a.1, record { front = d.front; back = d.back; left = d.left; right = a.2; whole = d.whole })
  ]

  param_from : (k : Room) (t : Param) (w : List Token) → ParamD (SigR k) (SpecR k) t w → Skip (is OPEN_PAREN) (Or (NamedD k) (OpenedD k)) t w
  param_from k t w (inl d) = let j = d.2 in record { front = j.front; back = j.back; left = j.left; right = inl (d.0, d.1, j.right); whole = j.whole }
  param_from k t w (inr d) = let j = d.2 in record { front = j.front; back = j.back; left = j.left; right = inr (d.0, d.1, j.right); whole = j.whole }

  pub param_now : Phrase s n 0 (λ k. ParamD (SigR k) (SpecR k)) (λ k. param_read k.height) always param_height 0 1 (is OPEN_PAREN) 0
  param_now = spoken (numbered_phrase 0 1 0 (past_word OPEN_PAREN (part_if named_now
      (made Param.Opened param_height always (specs_now (spec_exact s n) CLOSE_PAREN refl refl) (λ x. refl) (λ x o. refl)) opened_other (omega arith))) (omega arith) (omega arith) (omega arith) (omega arith)) param_to param_from

-- ---- bindings of functors

abbrev fun_exp : FunBind → StrExp
fun_exp (fun_bind.FunOf p f x s a e) = e
fun_exp (fun_bind.FunSpecs p f ss a e) = e

abbrev pub fun_end : Fb → Option Token → Bool
fun_end b o = str_stop (fun_exp b.0, 0) o

-- funid Param [Ascribe]
abbrev FunFrontR : Room → Ident × (Param × Option Ax) → List Token → Type 0
FunFrontR k = Both (Shows strid) (Both (ParamD (SigR k) (SpecR k)) (Maybe (AscribeR k)))

abbrev fun_front : ℕ → Reader Token (Ident × (Param × Option Ax))
fun_front h = both (token_by strid) (both (param_read h) (ascription_read h))

abbrev fun_front_stop : Ident × (Param × Option Ax) → Option Token → Bool
fun_front_stop x o = maybe_stop begins_ascribe ascribe_stop x.1.1 o

abbrev fun_front_height : Ident × (Param × Option Ax) → ℕ
fun_front_height x = max (param_height x.1.0) (opt_height x.1.1)

fun_front_now : {s : Known} {n : ℕ} → Phrase s n 0 FunFrontR (λ k. fun_front k.height) fun_front_stop fun_front_height 0 1 (tokens_of alphas) 0
fun_front_now {s = s} {n = n} =
    let Q = phrase (param_now s n) (perhaps (ascribe_exact s n) (omega arith)) in
    numbered_phrase 0 1 0 (sized_phrase fun_front_height (phrase a_strid Q.part) (λ x. let a = opt_is x.1.1 in omega (arith, a))) (omega arith) (omega arith) (omega arith) (omega arith)

module _ (cs : Changes) where
  -- {FunBind}/and
  abbrev pub FunBindsR : Room → List Fb → List Token → Type 0
  FunBindsR k = Seps (is AND) (FunBindR cs k)

  abbrev pub funbinds_in : Room → Reader Token (List Fb)
  funbinds_in k = funbinds_read k.height k.clashes cs

  abbrev pub FunBindsP : Known → ℕ → Type 0
  FunBindsP s n = Phrase s n 0 FunBindsR funbinds_in (last_end fun_end) (highest height_of) 2 0 (tokens_of alphas) 2

  fun_is : (f : Ident) (p : Param) (a : _) (e : StrExp) → fun_exp (funbind_in f p a e) ≡ e
  fun_is f (Param.Named x) a e = refl
  fun_is f (Param.Opened ss) a e = refl

  funbinds_end : (xs : List ((Ident × (Param × Option Ax)) × St)) (o : Option Token) → row_end cs FunFrontR fun_front fun_front_stop fun_front_height 0 1 0 xs o ≡ last_end fun_end (map funbind_of xs) o
  funbinds_end [] o = refl
  funbinds_end (x ∷ []) o = ap (λ (e : StrExp). str_stop (e, 0) o) (sym (fun_is x.0.0 x.0.1.0 _ x.1.0))
  funbinds_end (x ∷ y ∷ ys) o = funbinds_end (y ∷ ys) o

  abbrev FunBindsD : Room → List Fb → List Token → Type 0
  FunBindsD k = Seps (is AND) (FunBindD (SigR k) (SpecR k) (AscribeR k) (StrR cs k))

  funbinds_now : {s : Known} {n : ℕ} → BaseP cs s n → Phrase s n 1 FunBindsD (λ k. funbinds_level (base_in cs k) k.height) (last_end fun_end) (highest height_of) 1 0 (tokens_of alphas) 1
  funbinds_now B = last (made_node (map funbind_of) (highest height_of) (last_end fun_end) FunBindsD
      (row_now cs FunFrontR fun_front fun_front_stop fun_front_height 0 1 0 (omega arith) (omega arith) fun_front_now B (λ x c e. equals_stops x.1.1 c e))
      (λ k. seps_made funbind_of (is AND) (Both (FunFrontR k) (Skip (is EQUALS) (StrR cs k))))
      (λ k xs w d. seps_high funbind_of (is AND) (Both (FunFrontR k) (Skip (is EQUALS) (StrR cs k))) height_of (λ x. max (fun_front_height x.0) x.1.1) (λ x. omega arith) xs w d)
      (λ k xs w o d. funbinds_end xs o)) (omega arith)

  funbinds_knot : Knot FunBindsR FunBindsD funbinds_in (λ k. funbinds_level (base_in cs k) k.height) (tokens_of alphas)
  unfolding funbind_on funbinds_read
  funbinds_knot = record { none = λ b t w d. d.2.left; out = λ h b t w d. d; into = λ h b t w d. d; empty = λ b v. refl; next = λ h b v. refl }

  module _ (bases : (s : Known) (n : ℕ) → BaseP cs s n) where
    funbinds_tower : Tower FunBindsP
    funbinds_tower = record {
      sizes = lowest_sizes funbinds_knot;
      readings = λ f. lowest_readings funbinds_knot f;
      refusals = λ f. lowest_refusals funbinds_knot f;
      next = λ s n a. lifted funbinds_knot (funbinds_now (bases s n));
    }

    pub funbinds_exact : (s : Known) (n : ℕ) → FunBindsP s n
    funbinds_exact = all_of FunBindsP funbinds_tower
