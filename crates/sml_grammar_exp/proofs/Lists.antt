-- Two ways to cut one list.
use Rattle.std.proofs.Common.{◌≡◌, ◌⊎◌, List, [], ◌∷◌, ◌++◌, refl, sym, ap, ◌∙◌, inl, inr}

-- the first cut comes before the second, at this item
pub record Before {K : Type 0} (u r w t : List K) : Type 0 where
  pub item : K
  pub rest : List K
  pub longer : w ≡ u ++ item ∷ rest
  pub tail : r ≡ item ∷ (rest ++ t)

-- it does not
pub record Behind {K : Type 0} (u r w t : List K) : Type 0 where
  pub rest : List K
  pub longer : u ≡ w ++ rest
  pub tail : t ≡ rest ++ r

tail_is : {K : Type 0} {a b : K} {s t : List K} → a ∷ s ≡ b ∷ t → s ≡ t
tail_is e = cc

head_is_same : {K : Type 0} {a b : K} {s t : List K} → a ∷ s ≡ b ∷ t → a ≡ b
head_is_same e = cc

pub cut : {K : Type 0} (u r w t : List K) → u ++ r ≡ w ++ t → Before u r w t ⊎ Behind u r w t
cut [] r [] t e = inr (record { rest = []; longer = refl; tail = sym e })
cut [] r (c ∷ w) t e = inl (record { item = c; rest = w; longer = refl; tail = e })
cut (c ∷ u) r [] t e = inr (record { rest = c ∷ u; longer = refl; tail = sym e })
cut {K} (c ∷ u) r (d ∷ w) t e = go (cut u r w t (tail_is e))
  where
    same : c ≡ d
    same = head_is_same e

    go : Before u r w t ⊎ Behind u r w t → Before (c ∷ u) r (d ∷ w) t ⊎ Behind (c ∷ u) r (d ∷ w) t
    go (inl b) = inl (record { item = b.item; rest = b.rest; longer = ap (λ (x : K). x ∷ w) (sym same) ∙ ap (λ (z : List K). c ∷ z) b.longer; tail = b.tail })
    go (inr b) = inr (record { rest = b.rest; longer = ap (λ (x : K). x ∷ u) same ∙ ap (λ (z : List K). d ∷ z) b.longer; tail = b.tail })
