-- Signatures behind `include`, where an identifier takes no room, are read exactly.
use Rattle.std.proofs.Common.{◌≡◌, ℕ, zero, suc, ◌≤◌, Bool, true, false, ◌||◌, List, [], ◌∷◌, ◌++◌, Option, Some, None, refl, sym, ap, subst, ◌∙◌, arith, inl, inr}
use Rattle.std.proofs.lemmas.List.{append-nil}
use Rattle.readers.specs.Reader.{first, head_is, Reader}
use Rattle.readers.specs.Language.{Bound, Steps, Shows, As, Or, Both, Close}
use Rattle.readers.specs.Room.{Room}
use Rattle.readers.specs.Infix.{ups}
use Rattle.readers.specs.Exact.{always}
use Rattle.readers.specs.Forms.{height_of}
use Rattle.readers.proofs.Bundle.{Known, Fitting, Phrase}
use Rattle.readers.proofs.Combine.{token, made_phrase, shown_test}
use Rattle.readers.proofs.First.{shows_begins, head_to}
use Rattle.readers.proofs.Grow.{after_first}
use Rattle.sml_ast.specs.declared.sig.SigExp.{out-roll-SigExp}
use Rattle.sml_lex.specs.declared.token.Token.{Token}
use Rattle.sml_grammar.specs.Words.{END, SIG}
use Rattle.sml_grammar.specs.Tokens.{just, is, the, plain_fix, tokens_of, ident, alphas, strid}
use Rattle.sml_grammar.specs.Types.{Ident}
use Rattle.sml_grammar.proofs.Sets.{is_just, among_union, pick_if}
use Rattle.sml_grammar.proofs.Shapes.{name_token}
use Rattle.sml_grammar_sig.specs.Sigs.{Sx, is_real, ends_with_where, where_in, sig_at, specs_of, head_on, sig_on, spec_on, specs_form, HeadR, SigR}
use Rattle.sml_grammar_sig.specs.ReadSigs.{Suffix, suffixed, below, all_suffixed, goes_on, name_in, bare_name, lean_by, lean_height, begins_lean, begins_sig, lean_head, lean_level, body_in}
use Rattle.sml_grammar_sig.proofs.Descs.{RealBindP, real_bind_in}
use Rattle.sml_grammar_sig.proofs.Chain.{chained, resized}
use Rattle.sml_grammar_sig.proofs.Sigs.{HeadP, chain_ends, suffixes_end, real_stop, sig_stop, suffix_test, goes_halts, where_goes, SuffixD, SuffixR, where_now, and_now, suffix_item, sig_least, sig_fits, sig_begins, sig_alone, sig_to, sig_parts}

-- sig {Spec [;]} end
unfoldable pub body_on : ℕ → Sx → List Token → Type 0
body_on zero t w = ⊥
body_on (suc h) t w = As specs_of (Both (Shows (the SIG)) (Close (specs_form (spec_on h)) (is END))) t w

abbrev pub BodyR : Room → Sx → List Token → Type 0
BodyR r = body_on r.height

abbrev pub BodyP : Known → ℕ → Type 0
BodyP s n = Phrase s n 0 BodyR body_in always height_of 1 0 (is SIG) 1

-- sigid
abbrev pub BareD : Sx → List Token → Type 0
BareD = As sig_at (Shows strid)

abbrev LeanHeadR : Room → Sx → List Token → Type 0
LeanHeadR k = Or BareD (BodyR k)

-- an identifier, whatever the room, or a signature in the room
abbrev pub LeanR : Room → Sx → List Token → Type 0
LeanR k = Or BareD (SigR k)

abbrev pub lean_in : Room → Reader Token Sx
lean_in r = lean_level (body_in r) (real_bind_in r) r.height

abbrev pub LeanP : Known → ℕ → Type 0
LeanP s n = Phrase s n 0 LeanR lean_in sig_stop lean_height 0 0 begins_lean 1

bare_height : (v : Ident) → lean_height (sig_at v) ≡ 0
bare_height v = ap (λ y. lean_by (name_in y) 1) (out-roll-SigExp _)

name_lean : (n : Option Ident) (h : ℕ) → lean_by n h ≤ h
name_lean None h = omega arith
name_lean (Some v) h = omega arith

-- `sig .. end` is no identifier
body_lean : (k : Room) (x : Sx) (w : List Token) → BodyR k x w → bare_name x ≡ None
unfolding body_on
body_lean k x w d = go k.height d
  where
    go : (h : ℕ) → body_on h x w → bare_name x ≡ None
    go zero d = absurd d
    go (suc h) d = ap bare_name (sym d.1) ∙ ap name_in (out-roll-SigExp _)

-- a signature that is an identifier
pub bare_is : (h : ℕ) (t : Sx) (w : List Token) (v : Ident) → bare_name t ≡ Some v → sig_on h t w → BareD t w
unfolding sig_on
bare_is zero t w v e d = absurd d
bare_is (suc h) t w v e (inl (inl a)) = let no : None ≡ Some v = sym (ap bare_name (sym a.1) ∙ ap name_in (out-roll-SigExp _)) ∙ e in absurd cc
bare_is (suc h) t w v e (inl (inr a)) = a
bare_is (suc h) t w v e (inr (inl a)) = let no : None ≡ Some v = sym (ap bare_name (sym a.1) ∙ ap name_in (out-roll-SigExp _)) ∙ e in absurd cc
bare_is (suc h) t w v e (inr (inr a)) = let no : None ≡ Some v = sym (ap bare_name (sym a.1) ∙ ap name_in (out-roll-SigExp _)) ∙ e in absurd cc

body_head : (k : Room) (x : Sx) (w : List Token) → BodyR k x w → HeadR k x w
unfolding body_on head_on
body_head k x w d = go k.height d
  where
    go : (h : ℕ) → body_on h x w → head_on h x w
    go zero d = d
    go (suc h) d = inl d

bare_head : (k : Room) (x : Sx) (w : List Token) → 1 ≤ k.height → BareD x w → HeadR k x w
unfolding head_on
bare_head k x w le d = go k.height le
  where
    go : (h : ℕ) → 1 ≤ h → head_on h x w
    go zero le = absurd (omega (arith, le))
    go (suc h) le = inr d

head_lean : (k : Room) (x : Sx) (w : List Token) → HeadR k x w → LeanHeadR k x w
unfolding body_on head_on
head_lean k x w d = go k.height d
  where
    go : (h : ℕ) → head_on h x w → Or BareD (body_on h) x w
    go zero d = absurd d
    go (suc h) (inl a) = inr a
    go (suc h) (inr a) = inl a

lean_plain : (k : Room) (x : Sx) (w : List Token) → LeanHeadR k x w → is_real x ≡ false
unfolding body_on
lean_plain k x w (inl d) = ap is_real (sym d.1) ∙ ap (λ y. ends_with_where (where_in y)) (out-roll-SigExp _)
lean_plain k x w (inr d) = go k.height d
  where
    go : (h : ℕ) → body_on h x w → is_real x ≡ false
    go zero d = absurd d
    go (suc h) d = ap is_real (sym d.1) ∙ ap (λ y. ends_with_where (where_in y)) (out-roll-SigExp _)

module _ {s : Known} {n : ℕ} (R : RealBindP s n) (H : HeadP s n) (B : BodyP s n) where
  lean_head_now : Phrase s n 0 LeanHeadR (λ k. lean_head (body_in k)) always lean_height 0 0 begins_lean 1
  lean_head_now = pick_if plain_fix alphas (just SIG) (λ c. refl) (is_just plain_fix SIG)
      (made_phrase sig_at lean_height always (token (tokens_of alphas) ident name_token refl) (λ v. bare_height v) (λ v o. refl))
      (resized lean_height B (λ k t w i d. ap (λ (n : Option Ident). lean_by n t.1) (sym (body_lean k t w d))))
      (omega arith) refl

  suffix_room : (k : Room) (r : Bool) (m : ℕ) (u : Suffix) (w : List Token) → Fitting s n k → SuffixD r k m u w → m ≤ k.height
  suffix_room k true m u w i (inl d) = let c = after_first (and_now R) true m k u w i d in c.4
  suffix_room k true m u w i (inr d) = let c = after_first (where_now R) true m k u w i d in c.4
  suffix_room k false m u w i d = let c = after_first (where_now R) true m k u w i d in c.4

  abbrev LeanParts : Room → Sx × List Suffix → List Token → Type 0
  LeanParts k = Bound (LeanHeadR k) (λ a. Steps suffixed (SuffixR k) a)

  base_up : (k : Room) (x : Sx) (w : List Token) → 1 ≤ k.height → LeanHeadR k x w → SigR k x w
  base_up k x w le (inl d) = sig_alone R H k x w (bare_head k x w le d)
  base_up k x w le (inr d) = sig_alone R H k x w (body_head k x w d)

  lean_alone : (k : Room) (x : Sx) (w : List Token) → LeanHeadR k x w → LeanR k x w
  lean_alone k x w (inl d) = inl d
  lean_alone k x w (inr d) = inr (sig_alone R H k x w (body_head k x w d))

  lean_to : (k : Room) (x : Sx) (us : List Suffix) (w : List Token) → Fitting s n k → LeanParts k (x, us) w → LeanR k (ups suffixed x us) w
  lean_to k x [] w i a = lean_alone k x w (subst (λ (z : List Token). LeanHeadR k x z) (sym (a.whole ∙ (ap (λ (z : List Token). a.front ++ z) a.right ∙ append-nil a.front))) a.left)
  lean_to k x (u ∷ us) w i a =
      let m = suffix_room k (is_real x) (below x) u a.right.front i a.right.left in
      inr (subst (λ (z : List Token). SigR k (ups suffixed x (u ∷ us)) z) (sym a.whole) (sig_to R H k x (u ∷ us) a.front a.back i (base_up k x a.front (omega (arith, m)) a.left) a.right))

  lean_from : ((k : Room) → Fitting s n k) → (k : Room) (t : Sx) (w : List Token) → LeanR k t w → (p : Sx × List Suffix) × (all_suffixed p ≡ t) × LeanParts k p w
  lean_from fit k t w (inl d) = ((t, []), refl, record { front = w; back = []; left = inl d; right = refl; whole = sym (append-nil w) })
  lean_from fit k t w (inr d) =
      let p = sig_parts R H fit k.height k.clashes t w d in
      let j = p.2 in
      (p.0, p.1, record { front = j.front; back = j.back; left = head_lean k p.0.0 j.front j.left; right = j.right; whole = j.whole })

  lean_least : (k : Room) (t : Sx) (w : List Token) → Fitting s n k → LeanR k t w → lean_height t ≤ k.height
  lean_least k t w i (inl d) = let e = ap lean_height (sym d.1) ∙ bare_height d.0 in omega (arith, e)
  lean_least k t w i (inr d) = let a = sig_least R H k.height k.clashes t w i d in let b = name_lean (bare_name t) t.1 in omega (arith, a, b)

  lean_fits : (h k : Room) (t : Sx) (w : List Token) → Fitting s n h → (h.clashes ≡ true → k.clashes ≡ true) → lean_height t ≤ k.height → LeanR h t w → LeanR k t w
  lean_fits h k t w i f le (inl d) = inl d
  lean_fits h k t w i f le (inr d) = go (bare_name t) refl
    where
      go : (n : Option Ident) → bare_name t ≡ n → LeanR k t w
      go None e = let a = ap (λ (n : Option Ident). lean_by n t.1) e in inr (sig_fits R H h.height k.height h.clashes k.clashes t w i f (omega (arith, le, a)) d)
      go (Some v) e = inl (bare_is h.height t w v e d)

  sig_lean : (c : Token) → begins_sig c ≡ true → begins_lean c ≡ true
  sig_lean c e = among_union plain_fix alphas (just SIG) c ∙ swap (tokens_of alphas c) (tokens_of (just SIG) c) (sym (among_union plain_fix (just SIG) alphas c) ∙ e)
    where
      swap : (x y : Bool) → (y || x) ≡ true → (x || y) ≡ true
      swap true y e = refl
      swap false true e = refl
      swap false false e = e

  alpha_lean : (c : Token) → tokens_of alphas c ≡ true → begins_lean c ≡ true
  alpha_lean c e = among_union plain_fix alphas (just SIG) c ∙ rw e refl

  lean_begins : (k : Room) (t : Sx) (w : List Token) → Fitting s n k → LeanR k t w → head_is begins_lean (first w) ≡ true
  lean_begins k t w i (inl d) = head_to (tokens_of alphas) begins_lean alpha_lean (first w) (shows_begins strid (tokens_of alphas) (shown_test (tokens_of alphas) ident) d.0 w d.2)
  lean_begins k t w i (inr d) = head_to begins_sig begins_lean sig_lean (first w) (sig_begins R H k.height k.clashes t w i d)

  pub lean_now : LeanP s n
  lean_now = chained lean_head_now (suffix_item R) goes_on suffixed all_suffixed LeanR sig_stop lean_height (record {
    made = λ fit k. record { to = λ p w a. lean_to k p.0 p.1 w (fit k) a; from = λ t w a. lean_from fit k t w a };
    alone = λ k x w d. lean_alone k x w d;
    least = λ k t w i d. lean_least k t w i d;
    lowest = λ k t w i d. omega arith;
    fits = λ h k t w i b l d. lean_fits h k t w i b l d;
    begins = λ k t w i d. lean_begins k t w i d;
    inside = λ x c e. inside_by (is_real x) c e;
    base_next = λ x c e. refl;
    item_next = λ u c e. goes_halts c e;
    ends_are = λ k p w o i a. ends_at k p.0 p.1 w o a;
  })
    where
      inside_by : (r : Bool) (c : Token) → suffix_test r c ≡ true → goes_on c ≡ true
      inside_by true c e = e
      inside_by false c e = where_goes c e

      ends_at : (k : Room) (x : Sx) (us : List Suffix) (w : List Token) (o : Option Token) → LeanParts k (x, us) w → sig_stop (all_suffixed (x, us)) o ≡ chain_ends x us o
      ends_at k x [] w o a = ap (λ (r : Bool). real_stop r o) (lean_plain k x a.front a.left)
      ends_at k x (u ∷ us) w o a = suffixes_end x u us o
