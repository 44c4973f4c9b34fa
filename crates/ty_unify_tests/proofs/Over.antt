-- Types over two nodes may be built where those are nodes.
use Rattle.std.proofs.Common.{◌≡◌, ℕ, ◌==◌, ◌&&◌, ◌||◌, List, [], ◌∷◌, map, Bool, true, false, IsTrue, refl, sym, ◌∙◌, subst, inl, inr, ◌⊎◌, arith}
use Rattle.std.proofs.lemmas.Bool.Decides.{nat_tests}
use Rattle.std.specs.List.{list_any, list_all}
use Rattle.tl_text.specs.Pairs.{map_second, seconds}
use Rattle.sml_static.specs.declared.ty.Label.{Label}
use Rattle.sml_static.specs.declared.ty.Ty.{Ty}
use Rattle.sml_static.specs.declared.ty.Ty.TheOpen.{Ty-F}
use Rattle.sml_static.specs.declared.ty.Ty.TheFolds.{fold-roll-Ty, ind-Ty, map-Ty}
use Rattle.ty_unify.specs.Stores.{Known, HasNode}
use Rattle.ty_unify.specs.Building.{has_free, has_free_step, is_closed, closed_step}
use Rattle.ty_unify_tests.specs.Over.{is_over, over_step}

and_both : (x y : Bool) → IsTrue (x && y) → IsTrue x × IsTrue y
and_both true y h = (refl, h)
and_both false y h = absurd (cc)

either : (x y : Bool) → IsTrue (x || y) → IsTrue x ⊎ IsTrue y
either true y h = inl refl
either false y h = inr h

both : (x y : Bool) → IsTrue x → IsTrue y → IsTrue (x && y)
both true y h k = k
both false y h k = absurd (cc)

same : (x y : ℕ) → IsTrue (x == y) → x ≡ y
same x y h = grind (arith, nat_tests)

module _ (a b : ℕ) where
  abbrev Among : ℕ → Type 0
  Among n = (n ≡ a) ⊎ (n ≡ b)

  abbrev Fits : Ty → Type 0
  Fits t = IsTrue (is_over a b t) → IsTrue (is_closed t) × ((n : ℕ) → IsTrue (has_free n t) → Among n)

  abbrev Part : Type 0
  Part = (t : Ty) × Fits t

  abbrev whole : Part → Ty
  whole e = e.0

  row_fits : (ts : List Part) → IsTrue (list_all (λ t. t) (map (is_over a b) (map whole ts))) → IsTrue (list_all (λ t. t) (map is_closed (map whole ts))) × ((n : ℕ) → IsTrue (list_any (λ t. t) (map (has_free n) (map whole ts))) → Among n)
  row_fits [] h = (refl, λ n k. absurd (cc))
  row_fits (x ∷ ts) h =
      let d = and_both (is_over a b x.0) (list_all (λ t. t) (map (is_over a b) (map whole ts))) h in
      let f = x.1 d.0 in
      let r = row_fits ts d.1 in (
        both (is_closed x.0) (list_all (λ t. t) (map is_closed (map whole ts))) f.0 r.0,
        λ n k. elim (either (has_free n x.0) (list_any (λ t. t) (map (has_free n) (map whole ts))) k) [ inl p ↦ f.1 n p | inr p ↦ r.1 n p ],
      )

  fields_fit : (fs : List (Label × Part)) → IsTrue (list_all (λ t. t) (seconds (map_second (is_over a b) (map_second whole fs))))
      → IsTrue (list_all (λ t. t) (seconds (map_second is_closed (map_second whole fs)))) × ((n : ℕ) → IsTrue (list_any (λ t. t) (seconds (map_second (has_free n) (map_second whole fs)))) → Among n)
  fields_fit [] h = (refl, λ n k. absurd (cc))
  fields_fit (x ∷ fs) h =
      let d = and_both (is_over a b x.1.0) (list_all (λ t. t) (seconds (map_second (is_over a b) (map_second whole fs)))) h in
      let f = x.1.1 d.0 in
      let r = fields_fit fs d.1 in (
        both (is_closed x.1.0) (list_all (λ t. t) (seconds (map_second is_closed (map_second whole fs)))) f.0 r.0,
        λ n k. elim (either (has_free n x.1.0) (list_any (λ t. t) (seconds (map_second (has_free n) (map_second whole fs)))) k) [ inl p ↦ f.1 n p | inr p ↦ r.1 n p ],
      )

  level_fits : (y : Ty-F Part) → IsTrue (over_step a b (map-Ty Ty Bool (is_over a b) (map-Ty Part Ty whole y)))
      → IsTrue (closed_step (map-Ty Ty Bool is_closed (map-Ty Part Ty whole y))) × ((n : ℕ) → IsTrue (has_free_step n (map-Ty Ty Bool (has_free n) (map-Ty Part Ty whole y))) → Among n)
  level_fits (Ty-F.Free m) h = (refl, λ n k. elim (either (m == a) (m == b) h) [ inl p ↦ inl (sym (same m n k) ∙ same m a p) | inr p ↦ inr (sym (same m n k) ∙ same m b p) ])
  level_fits (Ty-F.Bound i) h = absurd (cc)
  level_fits (Ty-F.Fields fs) h = fields_fit fs h
  level_fits (Ty-F.Arrow s t) h =
      let d = and_both (is_over a b s.0) (is_over a b t.0) h in
      let f = s.1 d.0 in
      let g = t.1 d.1 in
      (both (is_closed s.0) (is_closed t.0) f.0 g.0, λ n k. elim (either (has_free n s.0) (has_free n t.0) k) [ inl p ↦ f.1 n p | inr p ↦ g.1 n p ])
  level_fits (Ty-F.Con name ts) h = row_fits ts h

  pub over_fits : (t : Ty) → Fits t
  over_fits = ind-Ty Fits (λ x y is. λ h.
      let Here = λ (z : Ty-F Ty). IsTrue (over_step a b (map-Ty Ty Bool (is_over a b) z)) → IsTrue (closed_step (map-Ty Ty Bool is_closed z)) × ((n : ℕ) → IsTrue (has_free_step n (map-Ty Ty Bool (has_free n) z)) → Among n) in
      let e = subst Here is (level_fits y) (subst IsTrue (fold-roll-Ty Bool (over_step a b) x) h) in (
        subst IsTrue (sym (fold-roll-Ty Bool closed_step x)) e.0,
        λ n k. e.1 n (subst IsTrue (fold-roll-Ty Bool (has_free_step n) x) k),
      ))

  -- what `build` needs
  pub over_nodes : (k : Known) (t : Ty) → HasNode k a → HasNode k b → IsTrue (is_over a b t) → (n : ℕ) → IsTrue (has_free n t) → HasNode k n
  over_nodes k t ha hb h n p = elim ((over_fits t h).1 n p) [ inl e ↦ subst (λ m. HasNode k m) (sym e) ha | inr e ↦ subst (λ m. HasNode k m) (sym e) hb ]
