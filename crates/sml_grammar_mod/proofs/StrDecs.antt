-- Declarations at structure level are read exactly, where what stands inside is.
use Rattle.std.proofs.Common.{◌≡◌, ℕ, zero, suc, ◌≤◌, max, ltb, if◌then◌else◌, Bool, true, false, List, [], ◌∷◌, ◌++◌, Option, Some, None, Ok, Err, refl, sym, ap, subst, ◌∙◌, arith, inl, inr}
use Rattle.readers.specs.declared.code.Code.TheVariants.{Depth}
use Rattle.readers.specs.Reader.{first, head_is, Reader, ◌>>=◌, both, bound, mapped, token_by, skip, close, else_by, guard, unless}
use Rattle.readers.specs.Language.{Viable, Steps, Skip, Close}
use Rattle.readers.specs.Room.{Room}
use Rattle.readers.specs.Exact.{always}
use Rattle.readers.specs.Forms.{ended, growth, highest, height_of}
use Rattle.readers.proofs.Bundle.{Known, Phrase}
use Rattle.readers.proofs.Combine.{phrase, node, shown_is}
use Rattle.readers.proofs.Choose.{ends_phrase, retested, some_of}
use Rattle.readers.proofs.Repeat.{bind_by}
use Rattle.readers.proofs.Outcome.{head_some, head-append}
use Rattle.readers.proofs.Grow.{two_are}
use Rattle.sml_lex.specs.declared.token.Token.{Token}
use Rattle.sml_ast.specs.declared.exp.Dec.{Dec}
use Rattle.sml_ast.specs.declared.program.StrBind.{StrBind}
use Rattle.sml_ast.specs.declared.program.StrBind.TheOpen.{StrExp-F}
use Rattle.sml_ast.specs.declared.program.StrDec.{StrDec}
use Rattle.sml_ast.specs.declared.program.StrExp.{StrExp, out-StrExp}
use Rattle.sml_grammar.specs.Words.{ABSTYPE, DATATYPE, END, EXCEPTION, FUN, IN, INFIX, INFIXR, LOCAL, NONFIX, OPEN, OPEN_PAREN, STRUCTURE, TYPE, VAL}
use Rattle.sml_grammar.specs.Tokens.{Firsts, just, union, is, the, place, plain_fix, tokens_of, long_ident, long_alphas}
use Rattle.sml_grammar.proofs.Sets.{is_just, apart_is, among_union}
use Rattle.sml_grammar.proofs.Shapes.{nowhere, name_token, word_token, word_is, stops, word_halts, the_word, past_word, to_word}
use Rattle.sml_grammar.proofs.Joined.{within, within_is, narrow}
use Rattle.sml_grammar.proofs.Types.{ty_goes}
use Rattle.sml_grammar_exp.specs.Exps.{De}
use Rattle.sml_grammar_exp.specs.Decs.{Changes, opens_of}
use Rattle.sml_grammar_exp.specs.Levels.{dec_on}
use Rattle.sml_grammar_exp.specs.ReadDecs.{dec_goes, dec_firsts, begins_dec}
use Rattle.sml_grammar_exp.proofs.Decs.{not_word, word_in}
use Rattle.sml_grammar_exp.proofs.Knot.{dec_in}
use Rattle.sml_grammar_exp.proofs.Parts.{numbered_phrase}
use Rattle.sml_grammar_exp.proofs.Whole.{dec_exact}
use Rattle.sml_grammar_sig.proofs.Chain.{guarded, resized, spoken}
use Rattle.sml_grammar_mod.specs.Strs.{Sd, Sb, str_after, StrItemD, str_afters, core_of, structs_of, StructsD, strdec_on, StrDecR, StrDecsR, StrBindR}
use Rattle.sml_grammar_mod.specs.ReadStrs.{strdec_firsts, begins_strdec, strdec_goes, strdecs_goes, grow_firsts, cores, local_by, any_local_of, strdec_level, strdecs_level}
use Rattle.sml_grammar_mod.proofs.Choices.{pick_by, reread}
use Rattle.sml_grammar_mod.proofs.Except.{except, excepted}
use Rattle.sml_grammar_mod.proofs.Grows.{real_bar, short_bar, str_bar, ascribe_real, str_stop}
use Rattle.sml_grammar_mod.proofs.Rows.{last_end, bind_end, strbinds_in, StrBindsP}
use Rattle.sml_grammar_mod.proofs.Decs.{strdec_stop, strdec_in, StrDecP, strdecs_now}
use Rattle.sml_grammar_mod.proofs.Locals.{Local, PartsD, AnyD, OtherD, StrDecD, strdec_to, strdec_from}

-- ---- what ends a declaration ends a structure expression

str_over : (t : StrExp-F StrBind StrDec StrExp) (o : Option Token) → stops strdec_goes o ≡ true → str_bar t o ≡ true
str_over (StrExp-F.Body p ds) o e = refl
str_over (StrExp-F.At p x) o e = go x.1
  where
    go : (v : List (List ℕ)) → short_bar v o ≡ true
    go [] = refl
    go (v ∷ []) = not_word OPEN_PAREN strdec_goes (word_in plain_fix OPEN_PAREN strdec_goes refl) o e
    go (v ∷ w ∷ p) = refl
str_over (StrExp-F.Seal p s a) o e = go (ascribe_real a)
  where
    go : (r : Bool) → real_bar r o ≡ true
    go true = narrow plain_fix ty_goes strdec_goes refl o e
    go false = refl
str_over (StrExp-F.Call p f s) o e = refl
str_over (StrExp-F.CallBody p f ds) o e = refl
str_over (StrExp-F.LetStr p ds s) o e = refl

pub str_ends : (t : _ × ℕ) (o : Option Token) → stops strdec_goes o ≡ true → str_stop t o ≡ true
str_ends t o e = two_are _ _ (str_over (out-StrExp t.0) o e) (narrow plain_fix grow_firsts strdec_goes refl o e)

pub last_over : {T : Type 0} (st : T → Option Token → Bool) (o : Option Token) → ((t : T) → st t o ≡ true) → (ts : List T) → last_end st ts o ≡ true
last_over st o f [] = refl
last_over st o f (t ∷ []) = f t
last_over st o f (t ∷ u ∷ ts) = last_over st o f (u ∷ ts)

-- ---- the same set, otherwise said

pub same_set : (a b : Firsts) → within a b ≡ true → within b a ≡ true → (c : Token) → tokens_of a c ≡ tokens_of b c
same_set a b e f c = go (tokens_of a c) (tokens_of b c) (λ i. within_is plain_fix a b e c i) (λ i. within_is plain_fix b a f c i)
  where
    go : (x y : Bool) → (x ≡ true → y ≡ true) → (y ≡ true → x ≡ true) → x ≡ y
    go true y f g = sym (f refl)
    go false true f g = g refl
    go false false f g = refl

-- what declarations of the core but `local` begin with
abbrev other_firsts : Firsts
other_firsts = union (just OPEN) (union (just INFIX) (union (just INFIXR) (union (just NONFIX) (union (just DATATYPE) (union (just TYPE) (union (just EXCEPTION) (union (just ABSTYPE) (union (just VAL) (just FUN)))))))))

other_stays : (c : Token) → begins_dec c ≡ true → is LOCAL c ≡ false → tokens_of other_firsts c ≡ true
other_stays c e f = elim (some_of (tokens_of (just LOCAL) c) (tokens_of other_firsts c) (sym (among_union plain_fix (just LOCAL) other_firsts c) ∙ within_is plain_fix dec_firsts (union (just LOCAL) other_firsts) refl c e)) [
  | inl a ↦ let no : true ≡ false = sym (is_just plain_fix LOCAL c ∙ a) ∙ f in absurd cc
  | inr a ↦ a
]

-- ---- the reader with the tests that the proofs want

abbrev rest_by : (Reader Token De → Reader Token De) → Reader Token (List Sb) → Reader Token De → ℕ → Reader Token Sd
rest_by f binds dec h = else_by (is STRUCTURE) 2 (mapped structs_of (ended (tokens_of strdec_goes) (both (token_by (the STRUCTURE)) binds))) (mapped core_of (ended (tokens_of strdec_goes) (f dec))) h

abbrev any_by : {T : Type 0} → (T → Sd) → Reader Token T → ℕ → Reader Token Sd
any_by f p h = mapped f (guard (growth (is LOCAL) true 1 h) p)

level_reads : {T : Type 0} (f : T → Sd) (p : Reader Token T) (binds : Reader Token (List Sb)) (dec : Reader Token De) (h : ℕ) (v : List Token)
    → else_by (is LOCAL) 1 (any_by f p h) (rest_by (except (is LOCAL)) binds dec h) h v ≡ else_by (is LOCAL) 1 (mapped f p) (rest_by (λ q. q) binds dec h) h v
level_reads f p binds dec h [] = refl
level_reads {T} f p binds dec h (c ∷ v) = go (is LOCAL c) refl
  where
    room : (b : Bool) → (if b then Err (Depth, c ∷ v) else (unless (if b then Some Depth else None) (c ∷ v) (p (c ∷ v)) >>= λ x. Ok (f x.0, x.1))) ≡ (if b then Err (Depth, c ∷ v) else mapped f p (c ∷ v))
    room true = refl
    room false = refl

    go : (a : Bool) → is LOCAL c ≡ a → else_by (is LOCAL) 1 (any_by f p h) (rest_by (except (is LOCAL)) binds dec h) h (c ∷ v) ≡ else_by (is LOCAL) 1 (mapped f p) (rest_by (λ q. q) binds dec h) h (c ∷ v)
    go true e = rw e (room (ltb h 1))
    go false e = rw e refl

-- ---- heights of a `local`

abbrev within_by : Local → Option (List Dec) → Option (List Dec) → ℕ
within_by x None n = max (highest height_of x.1.0) (highest height_of x.1.1)
within_by x (Some l) None = max (highest height_of x.1.0) (highest height_of x.1.1)
within_by x (Some l) (Some m) = max 1 (max (highest height_of x.1.0) (highest height_of x.1.1))

-- the height of what stands in a `local`, where none is one of a declaration
abbrev inside_height : Local → ℕ
inside_height x = within_by x (cores x.1.0) (cores x.1.1)

any_height : (x : Local) (m n : Option (List Dec)) → height_of (local_by x m n) ≡ suc (within_by x m n)
any_height x None n = refl
any_height x (Some l) None = refl
any_height x (Some l) (Some m) = omega arith

-- a declaration at structure level has a height
strdec_high : (h : ℕ) (b : Bool) (c : Changes) (t : Sd) (w : List Token) → strdec_on h b c t w → 1 ≤ t.1
unfolding strdec_on
strdec_high zero b c t w d = absurd d
strdec_high (suc h) b c t w (inl a) = let e = ap height_of a.1 in omega (arith, e)
strdec_high (suc h) b c t w (inr (inl a)) = let e = ap height_of a.1 in omega (arith, e)
strdec_high (suc h) b c t w (inr (inr a)) = let e = ap height_of a.1 in omega (arith, e)

row_high : (k : Room) (c : Changes) (ts : List Sd) (w : List Token) → StrDecsR c k ts w → cores ts ≡ None → 1 ≤ highest height_of ts
row_high k c ts w d e = subst (λ (ts : List Sd). cores ts ≡ None → 1 ≤ highest height_of ts) d.1 (go d.0.1 d.2.back d.2.right) e
  where
    go : (xs : List Sd) (v : List Token) → Steps str_after (λ x. StrItemD (StrDecR x k)) c xs v → cores xs ≡ None → 1 ≤ highest height_of xs
    go [] v y e = absurd cc
    go (x ∷ xs) v y e = let i = y.left in let a = strdec_high k.height k.clashes c i.0.0 i.2.front i.2.left in let b = ap height_of i.1 in omega (arith, a, b)

module _ (cs : Changes) where
  inside_is : (k : Room) (x : Local) (w : List Token) → PartsD cs k x w → max 1 (max 0 (max (highest height_of x.1.0) (highest height_of x.1.1))) ≡ inside_height x
  inside_is k x w j = go (cores x.1.0) (cores x.1.1) refl refl
    where
      go : (m n : Option (List Dec)) → cores x.1.0 ≡ m → cores x.1.1 ≡ n → max 1 (max 0 (max (highest height_of x.1.0) (highest height_of x.1.1))) ≡ within_by x m n
      go None n e f = let a = row_high k cs x.1.0 j.right.front j.right.left e in omega (arith, a)
      go (Some l) None e f = let v = j.right.right.right in let a = row_high k (str_afters cs x.1.0) x.1.1 v.front v.left f in omega (arith, a)
      go (Some l) (Some m) e f = omega arith

  abbrev decs_in : Room → Reader Token (List Sd)
  decs_in k = strdecs_level (strdec_in k) cs

  abbrev behind_in : Room → List Sd → Reader Token (List Sd)
  behind_in k ds = strdecs_level (strdec_in k) (str_afters cs ds)

  abbrev parts_in : Room → Reader Token Local
  parts_in k = ended (tokens_of strdec_goes) (both (token_by (the LOCAL)) (bound (decs_in k) (λ ds. skip (is IN) (close (behind_in k ds) (is END)))))

  abbrev pub strdec_by : Room → Reader Token Sd
  strdec_by k = strdec_level (dec_in cs k) (strbinds_in cs k) (decs_in k) (behind_in k) k.height

  module _ {s : Known} {n : ℕ} (P : (c : Changes) → StrDecP c s n) (B : StrBindsP cs s n) where
    behind_now : (ds : List Sd) → Phrase s n 0 (λ k. Skip (is IN) (Close (StrDecsR (str_afters cs ds) k) (is END))) (λ k. skip (is IN) (close (behind_in k ds) (is END))) always (highest height_of) 0 0 (is IN) 0
    behind_now ds = past_word IN (to_word strdecs_goes END refl (strdecs_now P (str_afters cs ds)))

    parts_now : Phrase s n 0 (PartsD cs) parts_in strdec_stop (λ x. max 0 (max (highest height_of x.1.0) (highest height_of x.1.1))) 0 0 (is LOCAL) 0
    parts_now = ends_phrase (tokens_of strdec_goes) (phrase (the_word LOCAL) (bind_by (strdecs_now P cs) (λ ds. let X = behind_now ds in X.part) (λ x o. true)
        (λ k x y v r i j st.
        let X = behind_now x in
        let g = head_some (is IN) (first (v ++ r)) (head-append (is IN) v r (X.opening.begins k y v i j)) in
        (ap (stops strdecs_goes) g.1 ∙ word_halts IN strdecs_goes refl g.0 g.2, refl))
        (λ k x y v r i j a b. refl))) (λ k t w o i d e. refl)

    any_now : Phrase s n 1 (AnyD cs) (λ k. any_by any_local_of (parts_in k) k.height) strdec_stop height_of 1 0 (is LOCAL) 1
    any_now = node any_local_of height_of strdec_stop
        (resized inside_height (guarded parts_now 1 (omega arith) (omega arith)) (λ k t w i d. inside_is k t w d.1))
        (λ x. any_height x (cores x.1.0) (cores x.1.1)) (λ x o. refl)

    structs_now : Phrase s n 1 (λ k. StructsD (StrBindR cs k)) (λ k. mapped structs_of (ended (tokens_of strdec_goes) (both (token_by (the STRUCTURE)) (strbinds_in cs k)))) strdec_stop height_of 2 2 (is STRUCTURE) 2
    structs_now = numbered_phrase 2 2 2 (node structs_of height_of strdec_stop
        (ends_phrase (tokens_of strdec_goes) (phrase (the_word STRUCTURE) B.part) (λ k t w o i d e. last_over bind_end o (λ b. str_ends (_, 0) o e) t.1))
        (λ x. omega arith) (λ x o. refl)) (omega arith) (omega arith) (omega arith) (omega arith)

    some_other : (h : ℕ) (b : Bool) → 1 ≤ h → Viable (λ t w. (head_is (is LOCAL) (first w) ≡ false) × dec_on h b cs t w) []
    unfolding dec_on
    some_other zero b le = absurd (omega (arith, le))
    some_other (suc h) b le = record {
      tree = opens_of (nowhere, long_ident name_token ∷ []);
      more = word_token OPEN ∷ name_token ∷ [];
      derives = (
        refl,
        inl (
          (nowhere, long_ident name_token ∷ []),
          refl,
          record {
            front = word_token OPEN ∷ [];
            back = name_token ∷ [];
            left = record { token = word_token OPEN; shows = shown_is (is OPEN) place (word_token OPEN) (word_is OPEN); whole = refl };
            right = (
              (long_ident name_token, []),
              refl,
              record {
                front = name_token ∷ [];
                back = [];
                left = record { token = name_token; shows = shown_is (tokens_of long_alphas) long_ident name_token refl; whole = refl };
                right = refl;
                whole = refl;
              },
            );
            whole = refl;
          },
        ),
      );
    }

    other_now : Phrase s n 1 (OtherD cs) (λ k. mapped core_of (ended (tokens_of strdec_goes) (except (is LOCAL) (dec_in cs k)))) strdec_stop height_of 1 0 (tokens_of other_firsts) 4
    other_now = node core_of height_of strdec_stop
        (ends_phrase (tokens_of strdec_goes)
        (excepted (dec_exact cs s n) (is LOCAL) (tokens_of other_firsts) other_stays (λ c e. within_is plain_fix other_firsts dec_firsts refl c e) (λ c e. is_just plain_fix LOCAL c ∙ apart_is plain_fix plain_fix other_firsts (just LOCAL) refl c e)
        (λ h i le. some_other h.height h.clashes le))
        (λ k t w o i d e. narrow plain_fix dec_goes strdec_goes refl o e)) (λ x. refl) (λ x o. refl)

    pub strdec_now : Phrase s n 1 (StrDecD cs) strdec_by strdec_stop height_of 1 0 begins_strdec 4
    strdec_now = spoken (reread strdec_by (retested begins_strdec (numbered_phrase 1 0 4
        (pick_by plain_fix (just LOCAL) (union (just STRUCTURE) other_firsts) (is_just plain_fix LOCAL) (λ c. refl) any_now
        (pick_by plain_fix (just STRUCTURE) other_firsts (is_just plain_fix STRUCTURE) (λ c. refl) structs_now other_now 1 (omega arith, omega arith, inr (omega arith)) (omega arith) refl)
        1 (omega arith, omega arith, inl (omega arith)) (omega arith) refl)
        (omega arith) (omega arith) (omega arith) (omega arith)) (λ c. same_set (union (just LOCAL) (union (just STRUCTURE) other_firsts)) strdec_firsts refl refl c))
        (λ k v. level_reads any_local_of (parts_in k) (strbinds_in cs k) (dec_in cs k) k.height v)) (strdec_to cs) (strdec_from cs)
