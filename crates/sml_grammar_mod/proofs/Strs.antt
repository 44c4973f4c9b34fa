-- Structure expressions are read exactly, where those without ascription are.
use Rattle.std.proofs.Common.{◌≡◌, ℕ, zero, suc, ◌≤◌, Bool, true, false, not, ◌&&◌, List, [], ◌∷◌, ◌++◌, Option, map, refl, sym, ap, subst, ◌∙◌, arith, append_assoc, inl, inr}
use Rattle.std.proofs.lemmas.List.{append-nil}
use Rattle.tl_text.specs.declared.place.Place.{Place}
use Rattle.readers.specs.Reader.{first, head_is, Reader, mapped}
use Rattle.readers.specs.Language.{Joined, Bound, Steps, As}
use Rattle.readers.specs.Room.{Room, Under, at_height}
use Rattle.readers.specs.Infix.{ups}
use Rattle.readers.specs.Exact.{row_stop}
use Rattle.readers.specs.Forms.{height_of}
use Rattle.readers.proofs.Bundle.{Known, Fitting, Phrase, mono}
use Rattle.readers.proofs.Combine.{made_phrase}
use Rattle.readers.proofs.Outcome.{head-append}
use Rattle.readers.proofs.Steps.{steps_map}
use Rattle.readers.proofs.Grow.{after_first, after_in}
use Rattle.sml_lex.specs.declared.token.Token.{Token}
use Rattle.sml_ast.specs.declared.program.StrExp.{out-roll-StrExp}
use Rattle.sml_grammar_exp.specs.Decs.{Changes}
use Rattle.sml_grammar_sig.specs.Sigs.{Sx, is_real, HeadR, SigR}
use Rattle.sml_grammar_sig.specs.ReadSigs.{Suffix, suffixed}
use Rattle.sml_grammar_sig.proofs.Descs.{real_bind_exact}
use Rattle.sml_grammar_sig.proofs.Chain.{chained}
use Rattle.sml_grammar_sig.proofs.Sigs.{smaller, suffix_real, SuffixR, sig_alone, sig_join, sig_parts, head_plain}
use Rattle.sml_grammar_sig.proofs.Levels.{head_exact}
use Rattle.sml_grammar_mod.specs.Strs.{St, Ax, seal_of, ascribe_on, base_on, str_on, BaseR, StrR}
use Rattle.sml_grammar_mod.specs.ReadStrs.{Seal, marked, ascribed, ascribed_by, Growing, Grow, whole, grown_str, grown_by, all_grown, above, begins_grow, begins_str, base_read, str_read}
use Rattle.sml_grammar_mod.proofs.Inner.{Inner, inner_on}
use Rattle.sml_grammar_mod.proofs.Ascriptions.{ascribe_exact}
use Rattle.sml_grammar_mod.proofs.Grows.{real_bar, str_bar, ascribe_real, base_stop, str_stop, growing_stop, bar_halts, SealD, seal_exact, SealsD, GrowR, grow_stop, grow_item, grow_begins, grow_next}

-- ---- steps one after another

steps_append : {X U : Type 0} (step : X → U → X) (S : X → U → List Token → Type 0) (x : X) (us vs : List U) (v w : List Token) → Steps step S x us v → Steps step S (ups step x us) vs w → Steps step S x (us ++ vs) (v ++ w)
steps_append step S x [] vs v w d e = subst (λ (z : List Token). Steps step S x vs (z ++ w)) (sym d) e
steps_append step S x (u ∷ us) vs v w d e = record {
  front = d.front;
  back = d.back ++ w;
  left = d.left;
  right = steps_append step S (step x u) us vs d.back w d.right e;
  whole = ap (λ (z : List Token). z ++ w) d.whole ∙ append_assoc d.front d.back w;
}

ups_append : {X U : Type 0} (step : X → U → X) (x : X) (us vs : List U) → ups step x (us ++ vs) ≡ ups step (ups step x us) vs
ups_append step x [] vs = refl
ups_append step x (u ∷ us) vs = ups_append step (step x u) us vs

module _ (cs : Changes) where
  abbrev pub base_in : Room → Reader Token St
  base_in k = base_read k.height k.clashes cs

  abbrev pub str_in : Room → Reader Token St
  str_in k = str_read k.height k.clashes cs

  abbrev pub BaseP : Known → ℕ → Type 0
  BaseP s n = Phrase s n 0 (BaseR cs) base_in base_stop height_of 1 0 begins_str 2

  abbrev pub StrP : Known → ℕ → Type 0
  StrP s n = Phrase s n 0 (StrR cs) str_in str_stop height_of 1 0 begins_str 2

  abbrev pub growing_height : Growing → ℕ
  growing_height g = (grown_str g).1

  -- ---- a structure expression that has grown so far

  abbrev sealed_on : ℕ → Bool → St × Seal → List Token → Type 0
  sealed_on zero b x w = ⊥
  sealed_on (suc h) b x w = Joined (str_on h b cs x.0) (Inner (λ k. SealD (SigR k)) (at_height h b) x.1) w

  abbrev pub GrownR : Room → Growing → List Token → Type 0
  GrownR k (Growing.Whole s) w = StrR cs k s w
  GrownR k (Growing.Sealed x) w = sealed_on k.height k.clashes x w

  module _ {s : Known} {n : ℕ} (B : BaseP s n) where
    pub whole_base : Phrase s n 0 (λ k. As whole (BaseR cs k)) (λ k. mapped whole (base_in k)) growing_stop growing_height 1 0 begins_str 2
    whole_base = made_phrase whole growing_height growing_stop B (λ x. refl) (λ x o. refl)

    -- ---- what holds of the trees

    pub str_least : (h : ℕ) (b : Bool) (t : St) (w : List Token) → Fitting s n (at_height h b) → str_on h b cs t w → t.1 ≤ h
    unfolding str_on base_on
    str_least zero b t w i d = absurd d
    str_least (suc h) b t w i (inl a) = let x = B.part.least (at_height (suc h) b) t w i a in omega (arith, x)
    str_least (suc h) b t w i (inr a) =
        let j = a.2.1 in
        let x = str_least h b a.0.0 j.front (smaller s n h b i) j.left in
        let A = ascribe_exact s n in
        let y = A.part.least (at_height h b) a.0.1 j.back (smaller s n h b i) j.right in
        let e = ap (λ (t : St). t.1) a.1 in
        omega (arith, x, y, e)

    pub str_lowest : (h : ℕ) (b : Bool) (t : St) (w : List Token) → str_on h b cs t w → 1 ≤ h
    unfolding str_on
    str_lowest zero b t w d = absurd d
    str_lowest (suc h) b t w d = omega arith

    pub str_fits : (h k : ℕ) (b c : Bool) (t : St) (w : List Token) → Fitting s n (at_height h b) → (b ≡ true → c ≡ true) → t.1 ≤ k → str_on h b cs t w → str_on k c cs t w
    unfolding str_on base_on
    str_fits zero k b c t w i f le d = absurd d
    str_fits (suc h) zero b c t w i f le (inl a) = absurd (B.part.fits (at_height (suc h) b) (at_height zero c) t w i f (omega (arith, le)) a)
    str_fits (suc h) zero b c t w i f le (inr a) = let e = ap (λ (t : St). t.1) a.1 in absurd (omega (arith, le, e))
    str_fits (suc h) (suc k) b c t w i f le (inl a) = inl (B.part.fits (at_height (suc h) b) (at_height (suc k) c) t w i f (omega (arith, le)) a)
    str_fits (suc h) (suc k) b c t w i f le (inr a) =
        let j = a.2.1 in
        let e = ap (λ (t : St). t.1) a.1 in
        let x = str_fits h k b c a.0.0 j.front (smaller s n h b i) f (omega (arith, le, e)) j.left in
        let A = ascribe_exact s n in
        let y = A.part.fits (at_height h b) (at_height k c) a.0.1 j.back (smaller s n h b i) f (omega (arith, le, e)) j.right in
        inr (a.0, a.1, (a.2.0, record { front = j.front; back = j.back; left = x; right = y; whole = j.whole }))

    pub str_begins : (h : ℕ) (b : Bool) (t : St) (w : List Token) → Fitting s n (at_height h b) → str_on h b cs t w → head_is begins_str (first w) ≡ true
    unfolding str_on base_on
    str_begins zero b t w i d = absurd d
    str_begins (suc h) b t w i (inl a) = B.opening.begins (at_height (suc h) b) t w i a
    str_begins (suc h) b t w i (inr a) =
        let j = a.2.1 in
        subst (λ (z : List Token). head_is begins_str (first z) ≡ true) (sym j.whole) (head-append begins_str j.front j.back (str_begins h b a.0.0 j.front (smaller s n h b i) j.left))

    pub str_alone : (k : Room) (x : St) (w : List Token) → BaseR cs k x w → StrR cs k x w
    unfolding str_on base_on
    str_alone k x w d = go k.height d
      where
        go : (h : ℕ) → base_on h k.clashes cs x w → str_on h k.clashes cs x w
        go zero d = d
        go (suc h) d = inl d

    -- ---- one more behind it

    put_seal : (h : ℕ) (a : Seal) (w : List Token) → inner_on (λ k. SealD (SigR k)) h false a w → ascribe_on h (ascribed a) w
    unfolding ascribe_on
    put_seal zero a w d = absurd d
    put_seal (suc h) a w (inl d) = inl (d.0, ap ascribed d.1, d.2)
    put_seal (suc h) a w (inr d) = inr (d.0, ap ascribed d.1, d.2)

    any_clash : (h : ℕ) (b : Bool) (a : Seal) (w : List Token) → inner_on (λ k. SealD (SigR k)) h b a w → inner_on (λ k. SealD (SigR k)) h false a w
    any_clash zero b a w d = d
    any_clash (suc h) b a w d = d

    whole_on : (h : ℕ) (b : Bool) (x : St × Seal) (w : List Token) → sealed_on h b x w → str_on h b cs (seal_of (x.0, ascribed x.1)) w
    unfolding str_on
    whole_on zero b x w d = absurd d
    whole_on (suc h) b x w d = inr ((x.0, ascribed x.1), refl, (refl, record { front = d.front; back = d.back; left = d.left; right = put_seal h x.1 d.back (any_clash h b x.1 d.back d.right); whole = d.whole }))

    pub whole_of : (k : Room) (g : Growing) (w : List Token) → GrownR k g w → StrR cs k (grown_str g) w
    whole_of k (Growing.Whole s) w d = d
    whole_of k (Growing.Sealed x) w d = whole_on k.height k.clashes x w d

    sig_seal : (h : ℕ) (b : Bool) (a : Seal) (w : List Token) → inner_on (λ k. SealD (HeadR k)) h b a w → inner_on (λ k. SealD (SigR k)) h b a w
    sig_seal zero b a w d = d
    sig_seal (suc h) b a w (inl d) = let j = d.2 in inl (d.0, d.1, record { front = j.front; back = j.back; left = j.left; right = sig_alone (real_bind_exact s n) (head_exact s n) (at_height h b) d.0.1 j.back j.right; whole = j.whole })
    sig_seal (suc h) b a w (inr d) = let j = d.2 in inr (d.0, d.1, record { front = j.front; back = j.back; left = j.left; right = sig_alone (real_bind_exact s n) (head_exact s n) (at_height h b) d.0.1 j.back j.right; whole = j.whole })

    seal_on : (h : ℕ) (b : Bool) (g : Growing) (a : Seal) (v w : List Token) → Fitting s n (at_height h b) → above g ≤ h → str_on h b cs (grown_str g) v → inner_on (Inner (λ k. SealD (HeadR k))) h b a w → sealed_on h b (grown_str g, a) (v ++ w)
    seal_on zero b g a v w i le d q = absurd q
    seal_on (suc h) b g a v w i le d q = record { front = v; back = w; left = str_fits (suc h) h b b (grown_str g) v i (λ e. e) (omega (arith, le)) d; right = sig_seal h b a w q; whole = refl }

    join_seal : (k : Room) (g : Growing) (u : Grow) (v w : List Token) → Fitting s n k → GrownR k g v → SealsD k g u w → GrownR k (grown_by g u) (v ++ w)
    join_seal k g u v w i d q =
        let c = after_first (seal_exact s n) true (above g) k q.0 w i q.2 in
        subst (λ (u : Grow). GrownR k (grown_by g u) (v ++ w)) q.1 (seal_on k.height k.clashes g q.0 v w i c.4 (whole_of k g v d) q.2.1)

    typed_sig : (h : ℕ) (b : Bool) (opaque : Bool) (y : Place × Sx) (a : Seal) (u : Suffix) (v w : List Token) → Fitting s n (at_height h b) → marked opaque y ≡ a → SigR (at_height h b) y.1 v → SuffixR (at_height h b) a.1 u w → SigR (at_height h b) (suffixed y.1 u) (v ++ w)
    typed_sig h b opaque y a u v w i e d q = sig_join (real_bind_exact s n) (head_exact s n) (at_height h b) (is_real y.1) y.1 u v w i refl d (subst (λ (x : Sx). SuffixR (at_height h b) x u w) (sym (ap (λ (a : Seal). a.1) e)) q)

    type_seal : (h : ℕ) (b : Bool) (a : Seal) (u : Suffix) (v w : List Token) → Fitting s n (at_height h b) → inner_on (λ k. SealD (SigR k)) h b a v → inner_on (λ k. SuffixR k a.1) h b u w → inner_on (λ k. SealD (SigR k)) h b (a.0, suffixed a.1 u) (v ++ w)
    type_seal zero b a u v w i d q = absurd q
    type_seal (suc h) b a u v w i (inl d) q =
        let j = d.2 in
        inl (
          (d.0.0, suffixed d.0.1 u),
          ap (λ (a : Seal). (a.0, suffixed a.1 u)) d.1,
          record {
            front = j.front;
            back = j.back ++ w;
            left = j.left;
            right = typed_sig h b false d.0 a u j.back w (smaller s n h b i) d.1 j.right q;
            whole = ap (λ (z : List Token). z ++ w) j.whole ∙ append_assoc j.front j.back w;
          },
        )
    type_seal (suc h) b a u v w i (inr d) q =
        let j = d.2 in
        inr (
          (d.0.0, suffixed d.0.1 u),
          ap (λ (a : Seal). (a.0, suffixed a.1 u)) d.1,
          record {
            front = j.front;
            back = j.back ++ w;
            left = j.left;
            right = typed_sig h b true d.0 a u j.back w (smaller s n h b i) d.1 j.right q;
            whole = ap (λ (z : List Token). z ++ w) j.whole ∙ append_assoc j.front j.back w;
          },
        )

    type_on : (h : ℕ) (b : Bool) (x : St × Seal) (u : Suffix) (v w : List Token) → Fitting s n (at_height h b) → sealed_on h b x v → inner_on (Inner (λ k. SuffixR k x.1.1)) h b u w → sealed_on h b (x.0, (x.1.0, suffixed x.1.1 u)) (v ++ w)
    type_on zero b x u v w i d q = absurd q
    type_on (suc h) b x u v w i d q = record {
      front = d.front;
      back = d.back ++ w;
      left = d.left;
      right = type_seal h b x.1 u d.back w (smaller s n h b i) d.right q;
      whole = ap (λ (z : List Token). z ++ w) d.whole ∙ append_assoc d.front d.back w;
    }

    pub grow_join : (k : Room) (g : Growing) (u : Grow) (v w : List Token) → Fitting s n k → GrownR k g v → GrowR k g u w → GrownR k (grown_by g u) (v ++ w)
    grow_join k (Growing.Whole t) u v w i d q = join_seal k (Growing.Whole t) u v w i d q
    grow_join k (Growing.Sealed x) u v w i d (inl q) = join_seal k (Growing.Sealed x) u v w i d q
    grow_join k (Growing.Sealed x) u v w i d (inr q) = subst (λ (u : Grow). GrownR k (grown_by (Growing.Sealed x) u) (v ++ w)) q.1 (type_on k.height k.clashes x q.0 v w i d q.2)

    pub grown_all : (k : Room) (g : Growing) (us : List Grow) (v w : List Token) → Fitting s n k → GrownR k g v → Steps grown_by (GrowR k) g us w → GrownR k (ups grown_by g us) (v ++ w)
    grown_all k g [] v w i a e = subst (λ (z : List Token). GrownR k g z) (sym (ap (λ (z : List Token). v ++ z) e ∙ append-nil v)) a
    grown_all k g (u ∷ us) v w i a e =
        let t = grow_join k g u v e.front i a e.left in
        subst (λ (z : List Token). GrownR k (ups grown_by (grown_by g u) us) z) (append_assoc v e.front e.back ∙ ap (λ (z : List Token). v ++ z) (sym e.whole)) (grown_all k (grown_by g u) us (v ++ e.front) e.back i t e.right)

    pub base_grown : (k : Room) (g : Growing) (w : List Token) → As whole (BaseR cs k) g w → GrownR k g w
    base_grown k g w d = subst (λ (g : Growing). GrownR k g w) d.1 (str_alone k d.0 w d.2)

    -- ---- a structure expression as one without ascription and what is behind it

    abbrev pub StrParts : Room → Growing × List Grow → List Token → Type 0
    StrParts k = Bound (λ g. As whole (BaseR cs k) g) (λ g. Steps grown_by (GrowR k) g)

    grow_lift : (h k : Room) (g : Growing) (u : Grow) (w : List Token) → Fitting s n h → Under h k → GrowR h g u w → GrowR k g u w
    grow_lift h k g u w i un e = let I = grow_item {s = s} {n = n} g in mono I.part h k u w i un e

    parts_lift : (h k : Room) (p : Growing × List Grow) (w : List Token) → Fitting s n h → Under h k → StrParts h p w → StrParts k p w
    parts_lift h k p w i un a = record {
      front = a.front;
      back = a.back;
      left = (a.left.0, a.left.1, mono B.part h k a.left.0 a.front i un a.left.2);
      right = steps_map grown_by (GrowR h) (GrowR k) (λ g u w e. grow_lift h k g u w i un e) p.0 p.1 a.back a.right;
      whole = a.whole;
    }

    -- an ascription as one whose types are still to come, and these
    abbrev Unsealed : ℕ → Bool → Ax → List Token → Type 0
    Unsealed h b x w = (q : Seal × List Suffix) × (ascribed (q.0.0, ups suffixed q.0.1 q.1) ≡ x)
        × Joined (inner_on (λ k. SealD (HeadR k)) h b q.0) (Steps suffixed (λ y. inner_on (λ k. SuffixR k y) h b) q.0.1 q.1) w

    unseal : ((k : Room) → Fitting s n k) → (h : ℕ) (b : Bool) (x : Ax) (w : List Token) → ascribe_on h x w → Unsealed h b x w
    unfolding ascribe_on
    unseal fit zero b x w d = absurd d
    unseal fit (suc h) b x w (inl d) =
        let j = d.2 in
        let r = sig_parts (real_bind_exact s n) (head_exact s n) fit h b d.0.1 j.back j.right in
        let q = r.2 in (
          (marked false (d.0.0, r.0.0), r.0.1),
          ap (λ (s : Sx). ascribed (marked false (d.0.0, s))) r.1 ∙ d.1,
          record {
            front = j.front ++ q.front;
            back = q.back;
            left = inl ((d.0.0, r.0.0), refl, record { front = j.front; back = q.front; left = j.left; right = q.left; whole = refl });
            right = q.right;
            whole = j.whole ∙ (ap (λ (z : List Token). j.front ++ z) q.whole ∙ sym (append_assoc j.front q.front q.back));
          },
        )
    unseal fit (suc h) b x w (inr d) =
        let j = d.2 in
        let r = sig_parts (real_bind_exact s n) (head_exact s n) fit h b d.0.1 j.back j.right in
        let q = r.2 in (
          (marked true (d.0.0, r.0.0), r.0.1),
          ap (λ (s : Sx). ascribed (marked true (d.0.0, s))) r.1 ∙ d.1,
          record {
            front = j.front ++ q.front;
            back = q.back;
            left = inr ((d.0.0, r.0.0), refl, record { front = j.front; back = q.front; left = j.left; right = q.left; whole = refl });
            right = q.right;
            whole = j.whole ∙ (ap (λ (z : List Token). j.front ++ z) q.whole ∙ sym (append_assoc j.front q.front q.back));
          },
        )

    by_seal : (k : Room) (g : Growing) (u : Grow) (w : List Token) → SealsD k g u w → GrowR k g u w
    by_seal k (Growing.Whole s) u w d = d
    by_seal k (Growing.Sealed x) u w d = inl d

    types_after : (h : ℕ) (b : Bool) (e : St) (o : Bool × Place) (x : Sx) (us : List Suffix) (w : List Token) → Steps suffixed (λ y. inner_on (λ k. SuffixR k y) h b) x us w → Steps grown_by (GrowR (at_height (suc h) b)) (Growing.Sealed (e, (o, x))) (map Grow.Types us) w
    types_after h b e o x [] w d = d
    types_after h b e o x (u ∷ us) w d = record { front = d.front; back = d.back; left = inr (u, refl, d.left); right = types_after h b e o (suffixed x u) us d.back d.right; whole = d.whole }

    types_ups : (e : St) (o : Bool × Place) (x : Sx) (us : List Suffix) → ups grown_by (Growing.Sealed (e, (o, x))) (map Grow.Types us) ≡ Growing.Sealed (e, (o, ups suffixed x us))
    types_ups e o x [] = refl
    types_ups e o x (u ∷ us) = types_ups e o (suffixed x u) us

    pub str_parts : ((k : Room) → Fitting s n k) → (h : ℕ) (b : Bool) (t : St) (w : List Token) → str_on h b cs t w → (p : Growing × List Grow) × (all_grown p ≡ t) × StrParts (at_height h b) p w
    unfolding str_on base_on
    str_parts fit zero b t w d = absurd d
    str_parts fit (suc h) b t w (inl a) = ((whole t, []), refl, record { front = w; back = []; left = (t, refl, a); right = refl; whole = sym (append-nil w) })
    str_parts fit (suc h) b t w (inr a) =
        let k : Room = at_height (suc h) b in
        let e : St = a.0.0 in
        let j = a.2.1 in
        let r = str_parts fit h b e j.front j.left in
        let p = r.0 in
        let g : Growing = ups grown_by p.0 p.1 in
        let q = parts_lift (at_height h b) k p j.front (fit (at_height h b)) (omega arith, λ e. e) r.2 in
        let y = unseal fit h b a.0.1 j.back j.right in
        let x : Seal = y.0.0 in
        let us : List Suffix = y.0.1 in
        let z = y.2 in
        let S = seal_exact s n in
        let l = str_least h b e j.front (fit (at_height h b)) j.left in
        let m = S.part.lowest k x z.front (fit k) z.left in
        let tall : (grown_str g).1 ≡ e.1 = ap (λ (t : St). t.1) r.1 in
        let one : GrowR k g (Grow.Seals x) z.front = by_seal k g (Grow.Seals x) z.front (x, refl, after_in S true (above g) k x z.front (fit k) refl (omega (arith, l, m, tall)) z.left) in (
          (p.0, p.1 ++ (Grow.Seals x ∷ map Grow.Types us)),
          ap grown_str (ups_append grown_by p.0 p.1 (Grow.Seals x ∷ map Grow.Types us) ∙ types_ups (grown_str g) x.0 x.1 us) ∙ (ap (λ (v : Ax). seal_of (grown_str g, v)) y.1 ∙ (ap (λ (t : St). seal_of (t, a.0.1)) r.1 ∙ a.1)),
          record {
            front = q.front;
            back = q.back ++ j.back;
            left = q.left;
            right = steps_append grown_by (GrowR k) p.0 p.1 (Grow.Seals x ∷ map Grow.Types us) q.back j.back q.right (record {
              front = z.front;
              back = z.back;
              left = one;
              right = types_after h b (grown_str g) x.0 x.1 us z.back z.right;
              whole = z.whole;
            });
            whole = j.whole ∙ (ap (λ (z : List Token). z ++ j.back) q.whole ∙ append_assoc q.front q.back j.back);
          },
        )

    -- ---- what stops it

    sealed_bar : (e : St) (a : Seal) (o : Option Token) → base_stop (seal_of (e, ascribed a)) o ≡ real_bar (is_real a.1) o
    sealed_bar e a o = ap (λ y. str_bar y o) (out-roll-StrExp _) ∙ go a.0.0
      where
        go : (b : Bool) → real_bar (ascribe_real (ascribed_by b a.0.1 a.1).0) o ≡ real_bar (is_real a.1) o
        go false = refl
        go true = refl

    seal_plain : (h : ℕ) (b : Bool) (a : Seal) (w : List Token) → inner_on (Inner (λ k. SealD (HeadR k))) h b a w → is_real a.1 ≡ false
    seal_plain zero b a w d = absurd d
    seal_plain (suc zero) b a w d = absurd d
    seal_plain (suc (suc h)) b a w (inl d) = ap (λ (a : Seal). is_real a.1) (sym d.1) ∙ head_plain (real_bind_exact s n) (head_exact s n) (at_height h b) d.0.1 d.2.back d.2.right
    seal_plain (suc (suc h)) b a w (inr d) = ap (λ (a : Seal). is_real a.1) (sym d.1) ∙ head_plain (real_bind_exact s n) (head_exact s n) (at_height h b) d.0.1 d.2.back d.2.right

    pub seal_end : (k : Room) (g : Growing) (u : Grow) (w : List Token) (o : Option Token) → SealsD k g u w → growing_stop (grown_by g u) o ≡ grow_stop u o
    seal_end k g u w o d = subst (λ (u : Grow). growing_stop (grown_by g u) o ≡ grow_stop u o) d.1 (sealed_bar (grown_str g) d.0 o ∙ ap (λ (r : Bool). real_bar r o) (seal_plain k.height k.clashes d.0 w d.2.1))

    -- what stops the last one stops the whole
    pub step_end : (k : Room) (g : Growing) (u : Grow) (w : List Token) (o : Option Token) → GrowR k g u w → growing_stop (grown_by g u) o ≡ grow_stop u o
    step_end k (Growing.Whole t) u w o d = seal_end k (Growing.Whole t) u w o d
    step_end k (Growing.Sealed x) u w o (inl d) = seal_end k (Growing.Sealed x) u w o d
    step_end k (Growing.Sealed x) u w o (inr d) =
        subst (λ (u : Grow). growing_stop (grown_by (Growing.Sealed x) u) o ≡ grow_stop u o) d.1 (sealed_bar x.0 (x.1.0, suffixed x.1.1 d.0) o ∙ ap (λ (r : Bool). real_bar r o) (suffix_real x.1.1 d.0))

    steps_end : (k : Room) (g : Growing) (u : Grow) (us : List Grow) (w : List Token) (o : Option Token) → Steps grown_by (GrowR k) g (u ∷ us) w → str_stop (grown_str (ups grown_by (grown_by g u) us)) o ≡ row_stop begins_grow grow_stop (u ∷ us) o
    steps_end k g u [] w o d = ap (λ (b : Bool). b && not (head_is begins_grow o)) (step_end k g u d.front o d.left)
    steps_end k g u (y ∷ ys) w o d = steps_end k (grown_by g u) y ys d.back o d.right

    abbrev parts_end : Growing → List Grow → Option Token → Bool
    parts_end g [] o = growing_stop g o && not (head_is begins_grow o)
    parts_end g (u ∷ us) o = row_stop begins_grow grow_stop (u ∷ us) o

    ends_at : (k : Room) (g : Growing) (us : List Grow) (w : List Token) (o : Option Token) → StrParts k (g, us) w → str_stop (all_grown (g, us)) o ≡ parts_end g us o
    ends_at k g [] w o a = refl
    ends_at k g (u ∷ us) w o a = steps_end k g u us a.back o a.right

    -- ---- structure expressions

    pub str_now : StrP s n
    str_now = chained whole_base grow_item begins_grow grown_by all_grown (StrR cs) str_stop height_of (record {
      made = λ fit k. record {
        to = λ p w a. subst (λ (z : List Token). StrR cs k (all_grown p) z) (sym a.whole) (whole_of k (ups grown_by p.0 p.1) (a.front ++ a.back) (grown_all k p.0 p.1 a.front a.back (fit k) (base_grown k p.0 a.front a.left) a.right));
        from = λ t w a. str_parts fit k.height k.clashes t w a;
      };
      alone = λ k x w d. whole_of k x w (base_grown k x w d);
      least = λ k t w i d. str_least k.height k.clashes t w i d;
      lowest = λ k t w i d. str_lowest k.height k.clashes t w d;
      fits = λ h k t w i b l d. str_fits h.height k.height h.clashes k.clashes t w i b l d;
      begins = λ k t w i d. str_begins k.height k.clashes t w i d;
      inside = λ x c e. grow_begins x c e;
      base_next = λ x c e. bar_halts _ c e;
      item_next = λ u c e. grow_next u c e;
      ends_are = λ k p w o i a. ends_at k p.0 p.1 w o a;
    })
