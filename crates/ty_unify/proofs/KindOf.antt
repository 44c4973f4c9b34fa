-- The kind of a variable is that of the root to which its node leads.
use Rattle.std.proofs.Common.{◌≡◌, ℕ, ◌==◌, ◌<◌, List, length, Bool, true, false, cond, refl, sym, ap, ◌∙◌, subst, inl, inr, arith}
use Rattle.std.proofs.lemmas.Bool.{cases_eq}
use Rattle.std.proofs.lemmas.Bool.Decides.{nat_tests}
use Rattle.sml_static.specs.declared.ty.Label.{Label}
use Rattle.ty_unify.specs.declared.cell.Cell.{Cell}
use Rattle.ty_unify.specs.declared.cell.Shape.{Shape}
use Rattle.ty_unify.specs.declared.cell.Shape.TheVariants.{Open, Same, Const, Pair}
use Rattle.ty_unify.specs.Trees.{Tree, Rigid, Atom, Fork, Admits}
use Rattle.ty_unify.specs.Cells.{cell_at, head_of, ShapeHolds, BoundBy, Shaped, IsRoot}
use Rattle.ty_unify.specs.Stores.{Sound, KindIs, kind_of}
use Rattle.ty_unify.proofs.Turns.{shaped_of}
use Rattle.ty_unify.proofs.Sounds.{solvable}

-- one variable, and another for all else
abbrev pick : ℕ → ℕ → Tree
pick r i = cond (i == r) (Rigid true 0) (Rigid true 1)

pick_here : (r : ℕ) → pick r r ≡ Rigid true 0
pick_here r = grind (arith, nat_tests)

pick_other : (r i : ℕ) → (i ≡ r → ⊥) → pick r i ≡ Rigid true 1
pick_other r i ne = grind (arith, nat_tests)

both_admit : (b : Bool) → Admits (cond b (Rigid true 0) (Rigid true 1))
both_admit true = refl
both_admit false = refl

bound_of : (e : Bool) (t : Tree) → Admits t → BoundBy Admits e t
bound_of true t a = a
bound_of false t a = tt

number_of : Tree → ℕ
number_of (Rigid e n) = n
number_of (Atom h) = 0
number_of (Fork h t u) = 0

rigid_differ : Rigid true 0 ≡ Rigid true 1 → ⊥
unfolding number_of
rigid_differ q = let z = ap number_of q in omega (arith, z)

root_is : (labels : List Label) (s : Shape) (θ : ℕ → Tree) (at r : ℕ) → IsRoot s → ShapeHolds labels s at θ → (s ≡ Open → θ at ≡ pick r at) → θ at ≡ Rigid true 0 → at ≡ r
root_is labels Open θ at r o h p e =
    elim (cases_eq at r) [ inl d ↦ d | inr ne ↦ absurd (rigid_differ (sym e ∙ p refl ∙ pick_other r at ne)) ]
root_is labels (Same j k) θ at r o h p e = absurd o
root_is labels (Const t) θ at r o h p e = absurd (let q : Rigid true 0 ≡ Atom (head_of labels t) = sym e ∙ h in cc)
root_is labels (Pair t a b) θ at r o h p e = absurd (let q : Rigid true 0 ≡ Fork (head_of labels t) (θ a) (θ b) = sym e ∙ h in cc)

pub kind_is : (labels : List Label) (cells seen : List Cell) (node at : ℕ) (e : Bool) → Sound labels cells → seen ≡ cells → at < length seen → IsRoot (cell_at seen at).shape
    → ((labels : List Label) (θ : ℕ → Tree) → Shaped labels seen θ → θ node ≡ θ at) → (cell_at cells at).equal ≡ e → KindIs (kind_of e) (record { cells = cells; labels = labels }) node
kind_is labels cells seen node at e s v lt root same here r opened equal =
    let rt : IsRoot (cell_at cells at).shape = subst (λ l. IsRoot (cell_at l at).shape) v root in
    let la : at < length cells = subst (λ l. at < length l) v lt in
    let sol = solvable labels cells s (pick r) (λ i o. bound_of (cell_at cells i).equal (pick r i) (both_admit (i == r))) in
    let θ = sol.0 in
    let up : θ node ≡ θ at = same labels θ (subst (λ l. Shaped labels l θ) (sym v) (shaped_of labels cells θ sol.1)) in
    let there : θ at ≡ Rigid true 0 = sym up ∙ equal θ sol.1 ∙ sol.2 r opened ∙ pick_here r in
    let d = root_is labels (cell_at cells at).shape θ at r rt (sol.1.holds at).0 (λ o. sol.2 at (la, o)) there in
    ap kind_of (sym here) ∙ ap (λ j. kind_of (cell_at cells j).equal) d
