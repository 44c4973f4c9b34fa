-- What stands between quotes is read in one way.
use Rattle.std.proofs.Common.{◌≡◌, ℕ, ◌≤◌, inl, inr, Bool, true, false, not, ◌&&◌, List, [], ◌∷◌, ◌++◌, Some, None, refl, sym, ap, subst, ◌∙◌, arith, append_assoc}
use Rattle.std.specs.Prelude.{nat_eq}
use Rattle.oc_rules.specs.Bytes.{between, is_digit, every}
use Rattle.oc_rules.specs.Token.{escaped, is_plain, Writes, WritesAll, Quoted}
use Rattle.oc_rules.proofs.Tests.{both_ways, and_true, not_true, unequal, between_is}

off : (e k : ℕ) → is_digit e ≡ true → (48 ≤ k → k ≤ 57 → ⊥) → nat_eq e k ≡ false
off e k d out = let h = between_is 48 57 e d in unequal e k (λ same. out (let a = h.0 in omega (arith, a, same)) (let b = h.1 in omega (arith, b, same)))

-- a digit is no letter escape
digit_no_escape : (q e : ℕ) → is_digit e ≡ true → escaped q e ≡ None
digit_no_escape q e d =
    let a : nat_eq e 92 ≡ false = off e 92 d (λ x y. omega arith) in
    let b : nat_eq e 34 ≡ false = off e 34 d (λ x y. omega arith) in
    let c : nat_eq e 39 ≡ false = off e 39 d (λ x y. omega arith) in
    let f : nat_eq e 110 ≡ false = off e 110 d (λ x y. omega arith) in
    let g : nat_eq e 116 ≡ false = off e 116 d (λ x y. omega arith) in
    let h : nat_eq e 114 ≡ false = off e 114 d (λ x y. omega arith) in
    let i : nat_eq e 98 ≡ false = off e 98 d (λ x y. omega arith) in
    rw a (rw b (rw c (rw f (rw g (rw h (rw i refl))))))

plain_no_backslash : (q c : ℕ) → is_plain q c ≡ true → c ≡ 92 → ⊥
plain_no_backslash q c p e =
    let h = and_true (between 32 126 c) (not (nat_eq c 92) && not (nat_eq c q)) p in
    let k = and_true (not (nat_eq c 92)) (not (nat_eq c q)) h.1 in
    both_ways (nat_eq c 92) (rw e refl) (not_true (nat_eq c 92) k.0)

-- the run of one byte ends where it ends
pub one_unit : (q c d : ℕ) (x y b r : List ℕ) → Writes q c x → Writes q d y → x ++ b ≡ y ++ r → (c ≡ d) × (x ≡ y) × (b ≡ r)
one_unit q c d x y b r (inl (p, f)) (inl (s, g)) e =
    let w : c ∷ b ≡ d ∷ r = subst (λ (z : List ℕ). z ++ b ≡ d ∷ r) f (subst (λ (z : List ℕ). x ++ b ≡ z ++ r) g e) in
    let a : c ≡ d = cc in
    (a, f ∙ (ap (λ (z : ℕ). z ∷ []) a ∙ sym g), cc)
one_unit q c d x y b r (inl (p, f)) (inr (inl (k, s, g))) e =
    let w : c ∷ b ≡ 92 ∷ k ∷ r = subst (λ (z : List ℕ). z ++ b ≡ 92 ∷ k ∷ r) f (subst (λ (z : List ℕ). x ++ b ≡ z ++ r) g e) in
    absurd (plain_no_backslash q c p cc)
one_unit q c d x y b r (inl (p, f)) (inr (inr n)) e =
    let w : c ∷ b ≡ 92 ∷ n.hundreds ∷ n.tens ∷ n.ones ∷ r = subst (λ (z : List ℕ). z ++ b ≡ 92 ∷ n.hundreds ∷ n.tens ∷ n.ones ∷ r) f (subst (λ (z : List ℕ). x ++ b ≡ z ++ r) n.run_is e) in
    absurd (plain_no_backslash q c p cc)
one_unit q c d x y b r (inr (inl (k, s, g))) (inl (p, f)) e =
    let w : 92 ∷ k ∷ b ≡ d ∷ r = subst (λ (z : List ℕ). z ++ b ≡ d ∷ r) g (subst (λ (z : List ℕ). x ++ b ≡ z ++ r) f e) in
    absurd (plain_no_backslash q d p cc)
one_unit q c d x y b r (inr (inr n)) (inl (p, f)) e =
    let w : 92 ∷ n.hundreds ∷ n.tens ∷ n.ones ∷ b ≡ d ∷ r = subst (λ (z : List ℕ). z ++ b ≡ d ∷ r) n.run_is (subst (λ (z : List ℕ). x ++ b ≡ z ++ r) f e) in
    absurd (plain_no_backslash q d p cc)
one_unit q c d x y b r (inr (inl (k, s, g))) (inr (inl (m, t, h))) e =
    let w : 92 ∷ k ∷ b ≡ 92 ∷ m ∷ r = subst (λ (z : List ℕ). z ++ b ≡ 92 ∷ m ∷ r) g (subst (λ (z : List ℕ). x ++ b ≡ z ++ r) h e) in
    let a : k ≡ m = cc in
    let both : Some c ≡ Some d = sym s ∙ (ap (escaped q) a ∙ t) in
    (cc, g ∙ (ap (λ (z : ℕ). 92 ∷ z ∷ []) a ∙ sym h), cc)
one_unit q c d x y b r (inr (inl (k, s, g))) (inr (inr n)) e =
    let w : 92 ∷ k ∷ b ≡ 92 ∷ n.hundreds ∷ n.tens ∷ n.ones ∷ r = subst (λ (z : List ℕ). z ++ b ≡ 92 ∷ n.hundreds ∷ n.tens ∷ n.ones ∷ r) g (subst (λ (z : List ℕ). x ++ b ≡ z ++ r) n.run_is e) in
    let a : k ≡ n.hundreds = cc in
    let dig : is_digit n.hundreds ≡ true = (and_true (is_digit n.hundreds) (every is_digit (n.tens ∷ n.ones ∷ [])) n.digits).0 in
    let clash : Some c ≡ None = sym s ∙ (ap (escaped q) a ∙ digit_no_escape q n.hundreds dig) in
    absurd cc
one_unit q c d x y b r (inr (inr n)) (inr (inl (k, s, g))) e =
    let w : 92 ∷ n.hundreds ∷ n.tens ∷ n.ones ∷ b ≡ 92 ∷ k ∷ r = subst (λ (z : List ℕ). z ++ b ≡ 92 ∷ k ∷ r) n.run_is (subst (λ (z : List ℕ). x ++ b ≡ z ++ r) g e) in
    let a : k ≡ n.hundreds = cc in
    let dig : is_digit n.hundreds ≡ true = (and_true (is_digit n.hundreds) (every is_digit (n.tens ∷ n.ones ∷ [])) n.digits).0 in
    let clash : Some d ≡ None = sym s ∙ (ap (escaped q) a ∙ digit_no_escape q n.hundreds dig) in
    absurd cc
one_unit q c d x y b r (inr (inr n)) (inr (inr m)) e =
    let w : 92 ∷ n.hundreds ∷ n.tens ∷ n.ones ∷ b ≡ 92 ∷ m.hundreds ∷ m.tens ∷ m.ones ∷ r = subst (λ (z : List ℕ). z ++ b ≡ 92 ∷ m.hundreds ∷ m.tens ∷ m.ones ∷ r) n.run_is (subst (λ (z : List ℕ). x ++ b ≡ z ++ r) m.run_is e) in
    let h : n.hundreds ≡ m.hundreds = cc in
    let t : n.tens ≡ m.tens = cc in
    let o : n.ones ≡ m.ones = cc in
    let nv = n.value_is in
    let mv = m.value_is in
    let nr = n.run_is in
    let mr = m.run_is in
    (cc, cc, cc)

-- no run of a byte begins with the closing quote
no_quote : (q c : ℕ) (x : List ℕ) → (q ≡ 92 → ⊥) → Writes q c x → (z : ℕ) × (zs : List ℕ) × (x ≡ z ∷ zs) × (z ≡ q → ⊥)
no_quote q c x slash (inl (p, f)) =
    let h = and_true (between 32 126 c) (not (nat_eq c 92) && not (nat_eq c q)) p in
    let k = and_true (not (nat_eq c 92)) (not (nat_eq c q)) h.1 in
    (c, [], f, λ e. both_ways (nat_eq c q) (rw e (eq_self q)) (not_true (nat_eq c q) k.1))
  where
    eq_self : (n : ℕ) → nat_eq n n ≡ true
    eq_self n = go (nat_eq n n) refl
      where
        go : (b : Bool) → nat_eq n n ≡ b → b ≡ true
        go true e = refl
        go false e = grind (arith, e)
no_quote q c x slash (inr (inl (k, s, g))) = (92, k ∷ [], g, λ e. slash (sym e))
no_quote q c x slash (inr (inr n)) = (92, n.hundreds ∷ n.tens ∷ n.ones ∷ [], n.run_is, λ e. slash (sym e))

-- the closing quote is the first one that no escape has
pub one_body : (q : ℕ) → (q ≡ 92 → ⊥) → (s t x y b r : List ℕ) → WritesAll q s x → WritesAll q t y → x ++ (q ∷ b) ≡ y ++ (q ∷ r) → (s ≡ t) × (x ≡ y) × (b ≡ r)
one_body q slash [] [] x y b r f g e =
    let w : q ∷ b ≡ q ∷ r = subst (λ (z : List ℕ). z ++ (q ∷ b) ≡ q ∷ r) f (subst (λ (z : List ℕ). x ++ (q ∷ b) ≡ z ++ (q ∷ r)) g e) in
    (refl, f ∙ sym g, cc)
one_body q slash [] (d ∷ t) x y b r f (front, back, g, u, v) e =
    let n = no_quote q d front slash u in
    let long : y ≡ n.0 ∷ (n.1 ++ back) = g ∙ ap (λ (z : List ℕ). z ++ back) n.2 in
    let w : q ∷ b ≡ n.0 ∷ ((n.1 ++ back) ++ (q ∷ r)) = subst (λ (z : List ℕ). z ++ (q ∷ b) ≡ n.0 ∷ ((n.1 ++ back) ++ (q ∷ r))) f (subst (λ (z : List ℕ). x ++ (q ∷ b) ≡ z ++ (q ∷ r)) long e) in
    absurd (n.3 cc)
one_body q slash (c ∷ s) [] x y b r (front, back, f, u, v) g e =
    let n = no_quote q c front slash u in
    let long : x ≡ n.0 ∷ (n.1 ++ back) = f ∙ ap (λ (z : List ℕ). z ++ back) n.2 in
    let w : n.0 ∷ ((n.1 ++ back) ++ (q ∷ b)) ≡ q ∷ r = subst (λ (z : List ℕ). z ++ (q ∷ b) ≡ q ∷ r) long (subst (λ (z : List ℕ). x ++ (q ∷ b) ≡ z ++ (q ∷ r)) g e) in
    absurd (n.3 cc)
one_body q slash (c ∷ s) (d ∷ t) x y b r (xa, xb, f, u, v) (ya, yb, g, m, n) e =
    let w : (xa ++ xb) ++ (q ∷ b) ≡ (ya ++ yb) ++ (q ∷ r) = subst (λ (z : List ℕ). z ++ (q ∷ b) ≡ (ya ++ yb) ++ (q ∷ r)) f (subst (λ (z : List ℕ). x ++ (q ∷ b) ≡ z ++ (q ∷ r)) g e) in
    let k : xa ++ (xb ++ (q ∷ b)) ≡ ya ++ (yb ++ (q ∷ r)) = sym (append_assoc xa xb (q ∷ b)) ∙ (w ∙ append_assoc ya yb (q ∷ r)) in
    let one = one_unit q c d xa ya (xb ++ (q ∷ b)) (yb ++ (q ∷ r)) u m k in
    let more = one_body q slash s t xb yb b r v n one.2 in
    let a = one.0 in
    let h = more.0 in
    let i = one.1 in
    let j = more.1 in
    (cc, f ∙ (ap (λ (z : List ℕ). z ++ xb) i ∙ (ap (λ (z : List ℕ). ya ++ z) j ∙ sym g)), more.2)

-- two quoted runs at one place are one
pub one_quoted : (q : ℕ) → (q ≡ 92 → ⊥) → (s t run other rest behind : List ℕ) → Quoted q s run → Quoted q t other → other ++ behind ≡ run ++ rest → (s ≡ t) × (other ≡ run)
one_quoted q slash s t run other rest behind (x, f, u) (y, g, v) e =
    let w : q ∷ ((y ++ (q ∷ [])) ++ behind) ≡ q ∷ ((x ++ (q ∷ [])) ++ rest) = subst (λ (z : List ℕ). z ++ behind ≡ (q ∷ (x ++ (q ∷ []))) ++ rest) g (subst (λ (z : List ℕ). other ++ behind ≡ z ++ rest) f e) in
    let t1 : (y ++ (q ∷ [])) ++ behind ≡ (x ++ (q ∷ [])) ++ rest = cc in
    let k : y ++ (q ∷ behind) ≡ x ++ (q ∷ rest) = sym (append_assoc y (q ∷ []) behind) ∙ (t1 ∙ append_assoc x (q ∷ []) rest) in
    let one = one_body q slash t s y x behind rest v u k in
    (sym one.0, g ∙ (ap (λ (z : List ℕ). q ∷ (z ++ (q ∷ []))) one.1 ∙ sym f))
