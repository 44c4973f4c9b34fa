-- Signature expressions are read exactly, where those without `where` are.
use Rattle.std.proofs.Common.{◌≡◌, ℕ, zero, suc, ◌≤◌, max, Bool, true, false, not, ◌&&◌, ◌||◌, List, [], ◌∷◌, ◌++◌, Option, Some, None, refl, sym, ap, subst, ◌∙◌, arith, append_assoc, inl, inr}
use Rattle.std.proofs.lemmas.List.{append-nil}
use Rattle.readers.specs.Reader.{first, head_is}
use Rattle.readers.specs.Language.{Bound, Steps, Passing, As, Or}
use Rattle.readers.specs.Room.{Room, Under, at_height}
use Rattle.readers.specs.Infix.{ups}
use Rattle.readers.specs.Exact.{always, row_stop}
use Rattle.readers.specs.Forms.{growth, height_of}
use Rattle.readers.proofs.Bundle.{Known, Fitting, Phrase, mono}
use Rattle.readers.proofs.Combine.{phrase, made_phrase}
use Rattle.readers.proofs.Outcome.{head-append}
use Rattle.readers.proofs.Steps.{steps_map, steps_snoc, ups_snoc}
use Rattle.readers.proofs.Grow.{after_first, after_in}
use Rattle.sml_ast.specs.declared.sig.SigExp.{out-roll-SigExp}
use Rattle.sml_lex.specs.declared.token.Token.{Token}
use Rattle.sml_grammar.specs.Words.{AND, TYPE, WHERE}
use Rattle.sml_grammar.specs.Tokens.{just, is, plain_fix, tokens_of}
use Rattle.sml_grammar.proofs.Sets.{is_just, among_union, pick_if}
use Rattle.sml_grammar.proofs.Shapes.{stops, halts, the_word, past_word}
use Rattle.sml_grammar.proofs.Types.{ty_goes}
use Rattle.sml_grammar_sig.specs.Descs.{Re, RealBindR, real_bind_on}
use Rattle.sml_grammar_sig.specs.Sigs.{Sx, is_real, ends_with_where, where_in, real_of, further_of, WhereD, AndD, head_on, sig_on, HeadR, SigR}
use Rattle.sml_grammar_sig.specs.ReadSigs.{Suffix, at_where, at_and, suffixed, below, where_read, and_read, suffix_by, suffix_read, all_suffixed, sig_goes, goes_on, begins_sig, head_in, sig_in}
use Rattle.sml_grammar_exp.proofs.Parts.{numbered_phrase}
use Rattle.sml_grammar_sig.proofs.Descs.{RealBindP, real_bind_in}
use Rattle.sml_grammar_sig.proofs.Chain.{guarded, chained}

abbrev pub HeadP : Known → ℕ → Type 0
HeadP s n = Phrase s n 0 HeadR head_in always height_of 1 0 begins_sig 1

-- what stops a signature: more behind the type at its end, and what goes on
abbrev pub real_stop : Bool → Option Token → Bool
real_stop true o = stops ty_goes o && not (head_is goes_on o)
real_stop false o = true && not (head_is goes_on o)

abbrev pub sig_stop : Sx → Option Token → Bool
sig_stop x o = real_stop (is_real x) o

abbrev pub SigP : Known → ℕ → Type 0
SigP s n = Phrase s n 0 SigR sig_in sig_stop height_of 1 0 begins_sig 1

abbrev pub suffix_height : Suffix → ℕ
suffix_height u = u.1.1

pub suffix_real : (x : Sx) (u : Suffix) → is_real (suffixed x u) ≡ true
suffix_real x (Some p, b) = ap (λ y. ends_with_where (where_in y)) (out-roll-SigExp _)
suffix_real x (None, b) = ap (λ y. ends_with_where (where_in y)) (out-roll-SigExp _)

pub goes_halts : (c : Token) → goes_on c ≡ true → stops ty_goes (Some c) ≡ true
goes_halts c e = halts plain_fix sig_goes ty_goes goes_on (λ c. refl) refl c e

or_right : (x y : Bool) → y ≡ true → (x || y) ≡ true
or_right true y e = refl
or_right false y e = e

pub where_goes : (c : Token) → is WHERE c ≡ true → goes_on c ≡ true
where_goes c e = among_union plain_fix (just AND) (just WHERE) c ∙ or_right (tokens_of (just AND) c) (tokens_of (just WHERE) c) (sym (is_just plain_fix WHERE c) ∙ e)

pub and_goes : (c : Token) → is AND c ≡ true → goes_on c ≡ true
and_goes c e = let i : tokens_of (just AND) c ≡ true = sym (is_just plain_fix AND c) ∙ e in among_union plain_fix (just AND) (just WHERE) c ∙ rw i refl

-- what ends a signature and the types behind it
abbrev pub chain_ends : Sx → List Suffix → Option Token → Bool
chain_ends x [] o = true && not (head_is goes_on o)
chain_ends x (u ∷ us) o = row_stop goes_on (λ (u : Suffix). stops ty_goes) (u ∷ us) o

pub suffixes_end : (x : Sx) (u : Suffix) (us : List Suffix) (o : Option Token) → sig_stop (ups suffixed (suffixed x u) us) o ≡ row_stop goes_on (λ (u : Suffix). stops ty_goes) (u ∷ us) o
suffixes_end x u [] o = ap (λ (r : Bool). real_stop r o) (suffix_real x u)
suffixes_end x u (y ∷ ys) o = suffixes_end (suffixed x u) y ys o

pub smaller : (s : Known) (n h : ℕ) (b : Bool) → Fitting s n (at_height (suc h) b) → Fitting s n (at_height h b)
smaller Known.Sizes n h b i = omega (arith, i)
smaller Known.Readings n h b i = tt
smaller Known.Refusals n h b i = tt

-- ---- what may stand behind a signature

-- after a `where` a further `and` goes on with it
abbrev pub SuffixD : Bool → Room → ℕ → Suffix → List Token → Type 0
SuffixD true k m = Or (Passing (growth (is AND) true m k.height) (As at_and (AndD (RealBindR k)))) (Passing (growth (is WHERE) true m k.height) (As at_where (WhereD (RealBindR k))))
SuffixD false k m = Passing (growth (is WHERE) true m k.height) (As at_where (WhereD (RealBindR k)))

abbrev pub SuffixR : Room → Sx → Suffix → List Token → Type 0
SuffixR k x = SuffixD (is_real x) k (below x)

abbrev pub suffix_test : Bool → Token → Bool
suffix_test true = goes_on
suffix_test false = is WHERE

module _ {s : Known} {n : ℕ} (R : RealBindP s n) where
  pub where_now : Phrase s n 0 (λ k. As at_where (WhereD (RealBindR k))) (λ k. where_read (real_bind_in k)) (λ u. stops ty_goes) suffix_height 2 2 (is WHERE) 2
  where_now = made_phrase at_where suffix_height (λ u. stops ty_goes) (let B = past_word TYPE R.part in phrase (the_word WHERE) B.part) (λ x. omega arith) (λ x o. refl)

  pub and_now : Phrase s n 0 (λ k. As at_and (AndD (RealBindR k))) (λ k. and_read (real_bind_in k)) (λ u. stops ty_goes) suffix_height 2 2 (is AND) 2
  and_now = made_phrase at_and suffix_height (λ u. stops ty_goes) (let B = past_word TYPE R.part in past_word AND B.part) (λ x. omega arith) (λ x o. refl)

  suffix_now : (r : Bool) (m : ℕ) → 2 ≤ m → Phrase s n 0 (λ k. SuffixD r k m) (λ k. suffix_by r (real_bind_in k) m k.height) (λ u. stops ty_goes) (λ u. max m (suffix_height u)) m 0 (suffix_test r) m
  suffix_now true m le = numbered_phrase m 0 m
      (pick_if plain_fix (just AND) (just WHERE) (is_just plain_fix AND) (is_just plain_fix WHERE) (guarded and_now m le le) (guarded where_now m le le) (omega arith) refl) (omega arith) (omega arith) (omega arith) (omega (arith, le))
  suffix_now false m le = numbered_phrase m 0 m (guarded where_now m le le) (omega arith) (omega arith) (omega arith) (omega (arith, le))

  -- behind a signature
  pub suffix_item : (x : Sx) → Phrase s n 0 (λ k. SuffixR k x) (λ k. suffix_read (real_bind_in k) k.height x) (λ u. stops ty_goes) (λ u. max (below x) (suffix_height u)) (below x) 0 (suffix_test (is_real x)) (below x)
  suffix_item x = suffix_now (is_real x) (below x) (omega arith)

  -- ---- what holds of the trees

  module _ (H : HeadP s n) where
    pub sig_least : (h : ℕ) (b : Bool) (t : Sx) (w : List Token) → Fitting s n (at_height h b) → sig_on h t w → t.1 ≤ h
    unfolding sig_on head_on real_bind_on
    sig_least zero b t w i d = absurd d
    sig_least (suc h) b t w i (inl a) = let x = H.part.least (at_height (suc h) b) t w i a in omega (arith, x)
    sig_least (suc h) b t w i (inr (inl a)) =
        let j = a.2.1 in
        let x = sig_least h b a.0.0 j.front (smaller s n h b i) j.left in
        let y = R.part.least (at_height (suc h) b) a.0.1.1 j.right.right.back i j.right.right.right in
        let e = ap (λ (t : Sx). t.1) a.1 in
        omega (arith, x, y, e)
    sig_least (suc h) b t w i (inr (inr a)) =
        let j = a.2.1 in
        let x = sig_least h b a.0.0 j.front (smaller s n h b i) j.left in
        let y = R.part.least (at_height (suc h) b) a.0.1 j.right.right.back i j.right.right.right in
        let e = ap (λ (t : Sx). t.1) a.1 in
        omega (arith, x, y, e)

    pub sig_lowest : (h : ℕ) (t : Sx) (w : List Token) → sig_on h t w → 1 ≤ h
    unfolding sig_on
    sig_lowest zero t w d = absurd d
    sig_lowest (suc h) t w d = omega arith

    pub sig_fits : (h k : ℕ) (b c : Bool) (t : Sx) (w : List Token) → Fitting s n (at_height h b) → (b ≡ true → c ≡ true) → t.1 ≤ k → sig_on h t w → sig_on k t w
    unfolding sig_on head_on real_bind_on
    sig_fits zero k b c t w i f le d = absurd d
    sig_fits (suc h) zero b c t w i f le (inl a) = absurd (H.part.fits (at_height (suc h) b) (at_height zero c) t w i f (omega (arith, le)) a)
    sig_fits (suc h) zero b c t w i f le (inr (inl a)) = let e = ap (λ (t : Sx). t.1) a.1 in absurd (omega (arith, le, e))
    sig_fits (suc h) zero b c t w i f le (inr (inr a)) = let e = ap (λ (t : Sx). t.1) a.1 in absurd (omega (arith, le, e))
    sig_fits (suc h) (suc k) b c t w i f le (inl a) = inl (H.part.fits (at_height (suc h) b) (at_height (suc k) c) t w i f (omega (arith, le)) a)
    sig_fits (suc h) (suc k) b c t w i f le (inr (inl a)) =
        let j = a.2.1 in
        let q = j.right in
        let e = ap (λ (t : Sx). t.1) a.1 in
        let x = sig_fits h k b c a.0.0 j.front (smaller s n h b i) f (omega (arith, le, e)) j.left in
        let y = R.part.fits (at_height (suc h) b) (at_height (suc k) c) a.0.1.1 q.right.back i f (omega (arith, le, e)) q.right.right in
        inr (inl (a.0, a.1, (a.2.0, record { front = j.front; back = j.back; left = x; right = record { front = q.front; back = q.back; left = q.left; right = record { front = q.right.front; back = q.right.back; left = q.right.left; right = y; whole = q.right.whole }; whole = q.whole }; whole = j.whole })))
    sig_fits (suc h) (suc k) b c t w i f le (inr (inr a)) =
        let j = a.2.1 in
        let q = j.right in
        let e = ap (λ (t : Sx). t.1) a.1 in
        let x = sig_fits h k b c a.0.0 j.front (smaller s n h b i) f (omega (arith, le, e)) j.left in
        let y = R.part.fits (at_height (suc h) b) (at_height (suc k) c) a.0.1 q.right.back i f (omega (arith, le, e)) q.right.right in
        inr (inr (a.0, a.1, (a.2.0, record { front = j.front; back = j.back; left = x; right = record { front = q.front; back = q.back; left = q.left; right = record { front = q.right.front; back = q.right.back; left = q.right.left; right = y; whole = q.right.whole }; whole = q.whole }; whole = j.whole })))

    pub sig_begins : (h : ℕ) (b : Bool) (t : Sx) (w : List Token) → Fitting s n (at_height h b) → sig_on h t w → head_is begins_sig (first w) ≡ true
    unfolding sig_on head_on
    sig_begins zero b t w i d = absurd d
    sig_begins (suc h) b t w i (inl a) = H.opening.begins (at_height (suc h) b) t w i a
    sig_begins (suc h) b t w i (inr (inl a)) =
        let j = a.2.1 in
        subst (λ (z : List Token). head_is begins_sig (first z) ≡ true) (sym j.whole) (head-append begins_sig j.front j.back (sig_begins h b a.0.0 j.front (smaller s n h b i) j.left))
    sig_begins (suc h) b t w i (inr (inr a)) =
        let j = a.2.1 in
        subst (λ (z : List Token). head_is begins_sig (first z) ≡ true) (sym j.whole) (head-append begins_sig j.front j.back (sig_begins h b a.0.0 j.front (smaller s n h b i) j.left))

    pub sig_alone : (k : Room) (x : Sx) (w : List Token) → HeadR k x w → SigR k x w
    unfolding sig_on head_on
    sig_alone k x w d = go k.height d
      where
        go : (h : ℕ) → head_on h x w → sig_on h x w
        go zero d = d
        go (suc h) d = inl d

    -- ---- one more type behind a signature

    put_where : (h : ℕ) (b : Bool) (x : Sx) (y : _ × Re) (v w : List Token) → Fitting s n (at_height h b) → below x ≤ h → sig_on h x v → WhereD (RealBindR (at_height h b)) y w → sig_on h (real_of x y) (v ++ w)
    unfolding sig_on real_bind_on
    put_where zero b x y v w i le d q = absurd d
    put_where (suc h) b x y v w i le d q = inr (inl ((x, y), refl, (refl, record { front = v; back = w; left = sig_fits (suc h) h b b x v i (λ e. e) (omega (arith, le)) d; right = q; whole = refl })))

    put_and : (h : ℕ) (b : Bool) (x : Sx) (y : Re) (v w : List Token) → Fitting s n (at_height h b) → below x ≤ h → is_real x ≡ true → sig_on h x v → AndD (RealBindR (at_height h b)) y w → sig_on h (further_of x y) (v ++ w)
    unfolding sig_on real_bind_on
    put_and zero b x y v w i le r d q = absurd d
    put_and (suc h) b x y v w i le r d q = inr (inr ((x, y), refl, (r, record { front = v; back = w; left = sig_fits (suc h) h b b x v i (λ e. e) (omega (arith, le)) d; right = q; whole = refl })))

    pub sig_join : (k : Room) (r : Bool) (x : Sx) (u : Suffix) (v w : List Token) → Fitting s n k → is_real x ≡ r → SigR k x v → SuffixD r k (below x) u w → SigR k (suffixed x u) (v ++ w)
    sig_join k true x u v w i e d (inl q) =
        let c = after_first and_now true (below x) k u w i q in
        subst (λ (u : Suffix). SigR k (suffixed x u) (v ++ w)) q.1.1 (put_and k.height k.clashes x q.1.0 v w i c.4 e d q.1.2)
    sig_join k true x u v w i e d (inr q) =
        let c = after_first where_now true (below x) k u w i q in
        subst (λ (u : Suffix). SigR k (suffixed x u) (v ++ w)) q.1.1 (put_where k.height k.clashes x q.1.0 v w i c.4 d q.1.2)
    sig_join k false x u v w i e d q =
        let c = after_first where_now true (below x) k u w i q in
        subst (λ (u : Suffix). SigR k (suffixed x u) (v ++ w)) q.1.1 (put_where k.height k.clashes x q.1.0 v w i c.4 d q.1.2)

    -- ---- a signature as one without `where` and the types behind it

    abbrev pub SigParts : Room → Sx × List Suffix → List Token → Type 0
    SigParts k = Bound (HeadR k) (λ a. Steps suffixed (SuffixR k) a)

    parts_lift : (h k : Room) (p : Sx × List Suffix) (w : List Token) → Fitting s n h → Under h k → SigParts h p w → SigParts k p w
    parts_lift h k p w i un a = record {
      front = a.front;
      back = a.back;
      left = mono H.part h k p.0 a.front i un a.left;
      right = steps_map suffixed (SuffixR h) (SuffixR k) (λ x u w e. let I = suffix_item x in mono I.part h k u w i un e) p.0 p.1 a.back a.right;
      whole = a.whole;
    }

    pub sig_to : (k : Room) (x : Sx) (us : List Suffix) (v w : List Token) → Fitting s n k → SigR k x v → Steps suffixed (SuffixR k) x us w → SigR k (ups suffixed x us) (v ++ w)
    sig_to k x [] v w i a e = subst (λ (z : List Token). SigR k x z) (sym (ap (λ (z : List Token). v ++ z) e ∙ append-nil v)) a
    sig_to k x (u ∷ us) v w i a e =
        let t = sig_join k (is_real x) x u v e.front i refl a e.left in
        subst (λ (z : List Token). SigR k (ups suffixed (suffixed x u) us) z) (append_assoc v e.front e.back ∙ ap (λ (z : List Token). v ++ z) (sym e.whole)) (sig_to k (suffixed x u) us (v ++ e.front) e.back i t e.right)

    by_where : (k : Room) (r : Bool) (m : ℕ) (u : Suffix) (w : List Token) → Passing (growth (is WHERE) true m k.height) (As at_where (WhereD (RealBindR k))) u w → SuffixD r k m u w
    by_where k true m u w d = inr d
    by_where k false m u w d = d

    pub sig_parts : ((k : Room) → Fitting s n k) → (h : ℕ) (b : Bool) (t : Sx) (w : List Token) → sig_on h t w → (p : Sx × List Suffix) × (all_suffixed p ≡ t) × SigParts (at_height h b) p w
    unfolding sig_on head_on real_bind_on
    sig_parts fit zero b t w d = absurd d
    sig_parts fit (suc h) b t w (inl a) = ((t, []), refl, record { front = w; back = []; left = a; right = refl; whole = sym (append-nil w) })
    sig_parts fit (suc h) b t w (inr (inl a)) =
        let k : Room = at_height (suc h) b in
        let x : Sx = a.0.0 in
        let j = a.2.1 in
        let r = sig_parts fit h b x j.front j.left in
        let p = r.0 in
        let q = parts_lift (at_height h b) k p j.front (fit (at_height h b)) (omega arith, λ e. e) r.2 in
        let l = sig_least h b x j.front (fit (at_height h b)) j.left in
        let g = sig_lowest h x j.front j.left in
        let last = by_where k (is_real x) (below x) (at_where a.0.1) j.back (after_in where_now true (below x) k (at_where a.0.1) j.back (fit k) refl (omega (arith, l, g)) (a.0.1, refl, j.right)) in (
          (p.0, p.1 ++ at_where a.0.1 ∷ []),
          ups_snoc suffixed p.0 p.1 (at_where a.0.1) ∙ (ap (λ (x : Sx). suffixed x (at_where a.0.1)) r.1 ∙ a.1),
          record {
            front = q.front;
            back = q.back ++ j.back;
            left = q.left;
            right = steps_snoc suffixed (SuffixR k) p.0 p.1 (at_where a.0.1) q.back j.back q.right (subst (λ (x : Sx). SuffixR k x (at_where a.0.1) j.back) (sym r.1) last);
            whole = j.whole ∙ (ap (λ (z : List Token). z ++ j.back) q.whole ∙ append_assoc q.front q.back j.back);
          },
        )
    sig_parts fit (suc h) b t w (inr (inr a)) =
        let k : Room = at_height (suc h) b in
        let x : Sx = a.0.0 in
        let j = a.2.1 in
        let r = sig_parts fit h b x j.front j.left in
        let p = r.0 in
        let q = parts_lift (at_height h b) k p j.front (fit (at_height h b)) (omega arith, λ e. e) r.2 in
        let l = sig_least h b x j.front (fit (at_height h b)) j.left in
        let g = sig_lowest h x j.front j.left in
        let last = subst (λ (r : Bool). SuffixD r k (below x) (at_and a.0.1) j.back) (sym a.2.0) (inl (after_in and_now true (below x) k (at_and a.0.1) j.back (fit k) refl (omega (arith, l, g)) (a.0.1, refl, j.right))) in (
          (p.0, p.1 ++ at_and a.0.1 ∷ []),
          ups_snoc suffixed p.0 p.1 (at_and a.0.1) ∙ (ap (λ (x : Sx). suffixed x (at_and a.0.1)) r.1 ∙ a.1),
          record {
            front = q.front;
            back = q.back ++ j.back;
            left = q.left;
            right = steps_snoc suffixed (SuffixR k) p.0 p.1 (at_and a.0.1) q.back j.back q.right (subst (λ (x : Sx). SuffixR k x (at_and a.0.1) j.back) (sym r.1) last);
            whole = j.whole ∙ (ap (λ (z : List Token). z ++ j.back) q.whole ∙ append_assoc q.front q.back j.back);
          },
        )

    -- one without `where` does not end with one
    pub head_plain : (k : Room) (x : Sx) (w : List Token) → HeadR k x w → is_real x ≡ false
    unfolding head_on
    head_plain k x w d = go k.height d
      where
        go : (h : ℕ) → head_on h x w → is_real x ≡ false
        go zero d = absurd d
        go (suc h) (inl a) = ap is_real (sym a.1) ∙ ap (λ y. ends_with_where (where_in y)) (out-roll-SigExp _)
        go (suc h) (inr a) = ap is_real (sym a.1) ∙ ap (λ y. ends_with_where (where_in y)) (out-roll-SigExp _)

    -- ---- signatures

    pub sig_now : SigP s n
    sig_now = chained H suffix_item goes_on suffixed all_suffixed SigR sig_stop height_of (record {
      made = λ fit k. record {
        to = λ p w a. subst (λ (z : List Token). SigR k (all_suffixed p) z) (sym a.whole) (sig_to k p.0 p.1 a.front a.back (fit k) (sig_alone k p.0 a.front a.left) a.right);
        from = λ t w a. sig_parts fit k.height k.clashes t w a;
      };
      alone = λ k x w d. sig_alone k x w d;
      least = λ k t w i d. sig_least k.height k.clashes t w i d;
      lowest = λ k t w i d. sig_lowest k.height t w d;
      fits = λ h k t w i b l d. sig_fits h.height k.height h.clashes k.clashes t w i b l d;
      begins = λ k t w i d. sig_begins k.height k.clashes t w i d;
      inside = λ x c e. inside_by (is_real x) c e;
      base_next = λ x c e. refl;
      item_next = λ u c e. goes_halts c e;
      ends_are = λ k p w o i a. ends_at k p.0 p.1 w o a;
    })
      where
        inside_by : (r : Bool) (c : Token) → suffix_test r c ≡ true → goes_on c ≡ true
        inside_by true c e = e
        inside_by false c e = where_goes c e

        ends_at : (k : Room) (x : Sx) (us : List Suffix) (w : List Token) (o : Option Token) → SigParts k (x, us) w
            → sig_stop (all_suffixed (x, us)) o ≡ chain_ends x us o
        ends_at k x [] w o a = ap (λ (r : Bool). real_stop r o) (head_plain k x a.front a.left)
        ends_at k x (u ∷ us) w o a = suffixes_end x u us o
