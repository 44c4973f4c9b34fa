-- Tokens are refused at one token alone, with one code.
use Rattle.std.proofs.Common.{◌≡◌, ℕ, true, false, List, [], ◌∷◌, ◌++◌, refl, sym, ap, subst, ◌∙◌}
use Rattle.std.proofs.lemmas.List.{append_assoc}
use Rattle.readers.specs.declared.code.Code.{Code}
use Rattle.readers.specs.declared.code.Code.TheVariants.{Grammar, Depth, FixityClash}
use Rattle.readers.specs.Reader.{first}
use Rattle.readers.specs.Language.{Viable}
use Rattle.readers.specs.Room.{Room, at_height}
use Rattle.readers.specs.WholeText.{RefusedAt}

-- of two fronts of one list, each with the token behind it: they are the same, or one goes on with the token behind the other
data Fronts {K : Type 0} (u v : List K) (a b : K) (r q : List K) : Type 0 where
  same : u ≡ v → a ∷ r ≡ b ∷ q → Fronts u v a b r q
  first_goes_on : (m : List K) → u ≡ v ++ b ∷ m → Fronts u v a b r q
  second_goes_on : (m : List K) → v ≡ u ++ a ∷ m → Fronts u v a b r q

module _ {K : Type 0} where
  behind : (x y : K) (u v : List K) (a b : K) (r q : List K) → x ≡ y → Fronts u v a b r q → Fronts (x ∷ u) (y ∷ v) a b r q
  behind x y u v a b r q e (Fronts.same i j) = let whole : x ∷ u ≡ y ∷ v = cc in Fronts.same whole j
  behind x y u v a b r q e (Fronts.first_goes_on m i) = Fronts.first_goes_on m cc
  behind x y u v a b r q e (Fronts.second_goes_on m i) = Fronts.second_goes_on m cc

  fronts : (u v : List K) (a b : K) (r q : List K) → u ++ a ∷ r ≡ v ++ b ∷ q → Fronts u v a b r q
  fronts [] [] a b r q e = Fronts.same refl e
  fronts [] (y ∷ v) a b r q e = let head : a ≡ y = cc in Fronts.second_goes_on v (ap (λ z. z ∷ v) (sym head))
  fronts (x ∷ u) [] a b r q e = let head : x ≡ b = cc in Fronts.first_goes_on u (ap (λ z. z ∷ u) head)
  fronts (x ∷ u) (y ∷ v) a b r q e =
      let head : x ≡ y = cc in
      let tail : u ++ a ∷ r ≡ v ++ b ∷ q = cc in
      behind x y u v a b r q head (fronts u v a b r q tail)

module _ {K T : Type 0} (D : Room → T → List K → Type 0) (h : ℕ) (s : List K) where
  -- what begins a phrase begins one at each front
  viable_before : (k : Room) (u v : List K) → Viable (D k) (u ++ v) → Viable (D k) u
  viable_before k u v w = record { tree = w.tree; more = v ++ w.more; derives = subst (λ z. D k w.tree z) (append_assoc u v w.more) w.derives }

  next_viable : (u v : List K) (a : K) (m : List K) → v ≡ u ++ a ∷ m → Viable (D (at_height h false)) v → Viable (D (at_height h false)) (u ++ a ∷ [])
  next_viable u v a m e w = viable_before (at_height h false) (u ++ a ∷ []) m (subst (λ z. Viable (D (at_height h false)) z) (e ∙ sym (append_assoc u (a ∷ []) m)) w)

  -- no two codes say of one token why it is refused
  module _ (r q : List K) (e : r ≡ q) where
    lower : (A : RefusedAt D h s Grammar r) (B : RefusedAt D h s Depth q) → A.read ≡ B.read → ⊥
    lower A B i = let w = B.depth refl in A.grammar refl (at_height w.0 false) w.1 (ap first e ∙ w.2) (subst (λ z. Viable (D (at_height w.0 false)) (z ++ w.1 ∷ [])) (sym i) w.3)

    plain : (A : RefusedAt D h s Grammar r) (B : RefusedAt D h s FixityClash q) → A.read ≡ B.read → ⊥
    plain A B i = let w = B.clashing refl in A.grammar refl (at_height w.0 true) w.1 (ap first e ∙ w.2) (subst (λ z. Viable (D (at_height w.0 true)) (z ++ w.1 ∷ [])) (sym i) w.3)

    high : (A : RefusedAt D h s Depth r) (B : RefusedAt D h s FixityClash q) → A.read ≡ B.read → ⊥
    high A B i = let w = A.depth refl in B.clash refl w.1 (ap first (sym e) ∙ w.2) w.0 (subst (λ z. Viable (D (at_height w.0 false)) (z ++ w.1 ∷ [])) i w.3)

  one_code : (r q : List K) → r ≡ q → (c d : Code) (A : RefusedAt D h s c r) (B : RefusedAt D h s d q) → A.read ≡ B.read → c ≡ d
  one_code r q e Grammar Grammar A B i = refl
  one_code r q e Grammar Depth A B i = absurd (lower r q e A B i)
  one_code r q e Grammar FixityClash A B i = absurd (plain r q e A B i)
  one_code r q e Depth Grammar A B i = absurd (lower q r (sym e) B A (sym i))
  one_code r q e Depth Depth A B i = refl
  one_code r q e Depth FixityClash A B i = absurd (high r q e A B i)
  one_code r q e FixityClash Grammar A B i = absurd (plain q r (sym e) B A (sym i))
  one_code r q e FixityClash Depth A B i = absurd (high q r (sym e) B A (sym i))
  one_code r q e FixityClash FixityClash A B i = refl

  -- the token at which they are refused, what is behind it, and the code
  pub one_refused : (c d : Code) (a b : K) (r q : List K) → RefusedAt D h s c (a ∷ r) → RefusedAt D h s d (b ∷ q) → (c ≡ d) × (a ∷ r ≡ b ∷ q)
  one_refused c d a b r q A B = go (fronts A.read B.read a b r q (sym A.parts ∙ B.parts))
    where
      go : Fronts A.read B.read a b r q → (c ≡ d) × (a ∷ r ≡ b ∷ q)
      go (Fronts.same i e) = (one_code (a ∷ r) (b ∷ q) e c d A B i, e)
      go (Fronts.first_goes_on m e) = absurd (B.least b refl (next_viable B.read A.read b m e A.viable))
      go (Fronts.second_goes_on m e) = absurd (A.least a refl (next_viable A.read B.read a m e B.viable))
