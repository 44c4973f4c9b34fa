-- A type that admits equality by some names admits it by more.
use Rattle.std.proofs.Common.{◌==◌, ◌&&◌, ◌||◌, ℕ, Bool, true, false, IsTrue, List, [], ◌∷◌, map, refl, sym, subst, inl, inr, ◌⊎◌}
use Rattle.std.specs.List.{list_all}
use Rattle.tl_text.specs.Pairs.{map_second, seconds}
use Rattle.sml_static.specs.declared.ty.Label.{Label}
use Rattle.sml_static.specs.declared.ty.Ty.{Ty}
use Rattle.sml_static.specs.declared.ty.Ty.TheOpen.{Ty-F}
use Rattle.sml_static.specs.declared.ty.Ty.TheFolds.{fold-roll-Ty, ind-Ty, map-Ty}
use Rattle.sml_static.specs.declared.ty.TyName.{TyName}
use Rattle.sml_static.specs.Equality.{ref_number}
use Rattle.eq_types.specs.Premises.{admits_by, admits_by_step}

either : (a b : Bool) → IsTrue (a || b) → IsTrue a ⊎ IsTrue b
either true b h = inl refl
either false b h = inr h

first_holds : (a b : Bool) → IsTrue a → IsTrue (a || b)
first_holds true b h = refl
first_holds false b h = absurd (cc)

second_holds : (a b : Bool) → IsTrue b → IsTrue (a || b)
second_holds true b h = refl
second_holds false b h = h

pub both : (a b : Bool) → IsTrue a → IsTrue b → IsTrue (a && b)
both true b h k = k
both false b h k = absurd (cc)

pub both_hold : (a b : Bool) → IsTrue (a && b) → IsTrue a × IsTrue b
both_hold true b h = (refl, h)
both_hold false b h = absurd (cc)

-- a type that admits equality by the names of f does so by those of g
abbrev Widens : (ℕ → Bool) → (ℕ → Bool) → (ℕ → Bool) → Ty → Type 0
Widens v f g t = IsTrue (admits_by v f t) → IsTrue (admits_by v g t)

module _ (v f g : ℕ → Bool) (wider : (n : ℕ) → IsTrue (f n) → IsTrue (g n)) where
  fields_widen : (fs : List (Label × ((t : Ty) × Widens v f g t))) → IsTrue (list_all (λ b. b) (seconds (map_second (admits_by v f) (map_second (λ e. e.0) fs)))) → IsTrue (list_all (λ b. b) (seconds (map_second (admits_by v g) (map_second (λ e. e.0) fs))))
  fields_widen [] p = p
  fields_widen (x ∷ fs) p =
      let q = both_hold (admits_by v f x.1.0) (list_all (λ b. b) (seconds (map_second (admits_by v f) (map_second (λ e. e.0) fs)))) p in
      both (admits_by v g x.1.0) (list_all (λ b. b) (seconds (map_second (admits_by v g) (map_second (λ e. e.0) fs)))) (x.1.1 q.0) (fields_widen fs q.1)

  args_widen : (ts : List ((t : Ty) × Widens v f g t)) → IsTrue (list_all (λ b. b) (map (admits_by v f) (map (λ e. e.0) ts))) → IsTrue (list_all (λ b. b) (map (admits_by v g) (map (λ e. e.0) ts)))
  args_widen [] p = p
  args_widen (x ∷ ts) p =
      let q = both_hold (admits_by v f x.0) (list_all (λ b. b) (map (admits_by v f) (map (λ e. e.0) ts))) p in
      both (admits_by v g x.0) (list_all (λ b. b) (map (admits_by v g) (map (λ e. e.0) ts))) (x.1 q.0) (args_widen ts q.1)

  name_widens : (name : TyName) (ts : List ((t : Ty) × Widens v f g t)) → IsTrue ((name.id == ref_number) || ((name.equality || f name.id) && list_all (λ b. b) (map (admits_by v f) (map (λ e. e.0) ts))))
      → IsTrue ((name.id == ref_number) || ((name.equality || g name.id) && list_all (λ b. b) (map (admits_by v g) (map (λ e. e.0) ts))))
  name_widens name ts p =
      let af = list_all (λ b. b) (map (admits_by v f) (map (λ e. e.0) ts)) in
      let ag = list_all (λ b. b) (map (admits_by v g) (map (λ e. e.0) ts)) in
      elim (either (name.id == ref_number) ((name.equality || f name.id) && af) p) [
        | inl r ↦ first_holds (name.id == ref_number) ((name.equality || g name.id) && ag) r
        | inr q ↦ second_holds (name.id == ref_number) ((name.equality || g name.id) && ag)
            (let k = both_hold (name.equality || f name.id) af q in
            both (name.equality || g name.id) ag
            (elim (either name.equality (f name.id) k.0) [
              | inl e ↦ first_holds name.equality (g name.id) e
              | inr e ↦ second_holds name.equality (g name.id) (wider name.id e)
            ])
            (args_widen ts k.1))
      ]

  level_widens : (y : Ty-F ((t : Ty) × Widens v f g t)) → IsTrue (admits_by_step v f (map-Ty Ty Bool (admits_by v f) (map-Ty ((t : Ty) × Widens v f g t) Ty (λ e. e.0) y)))
      → IsTrue (admits_by_step v g (map-Ty Ty Bool (admits_by v g) (map-Ty ((t : Ty) × Widens v f g t) Ty (λ e. e.0) y)))
  level_widens (Ty-F.Free n) p = p
  level_widens (Ty-F.Bound i) p = p
  level_widens (Ty-F.Fields fs) p = fields_widen fs p
  level_widens (Ty-F.Arrow a b) p = p
  level_widens (Ty-F.Con name ts) p = name_widens name ts p

  pub widens : (t : Ty) → Widens v f g t
  widens = ind-Ty (Widens v f g) (λ x y is. λ p.
      let before = subst (λ z. IsTrue (admits_by_step v f (map-Ty Ty Bool (admits_by v f) z))) (sym is) (subst IsTrue (fold-roll-Ty Bool (admits_by_step v f) x) p) in
      let after = subst (λ z. IsTrue (admits_by_step v g (map-Ty Ty Bool (admits_by v g) z))) is (level_widens y before) in
      subst IsTrue (sym (fold-roll-Ty Bool (admits_by_step v g) x)) after)
