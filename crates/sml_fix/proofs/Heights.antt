-- The height beside a group is its own, and a group fits wherever its height does.
use Rattle.std.proofs.Common.{◌≡◌, ℕ, zero, suc, ◌≤◌, Bool, true, List, refl, ap, ◌∙◌, arith, inl, inr}
use Rattle.readers.specs.Room.{Room, Under}
use Rattle.readers.specs.Infix.{floor_of}
use Rattle.readers.proofs.Precedence.{top_mono, left_mono}
use Rattle.readers.proofs.InfixRow.{Rows}
use Rattle.sml_fix.specs.declared.row.Cell.{Cell}
use Rattle.sml_fix.specs.declared.row.Grown.{Grown}
use Rattle.sml_fix.specs.Grouping.{tight, right, operator, top, tall, apply_of, infix_of, infixed, Atoms, grouped_on}

height_of : (x y : Grown) → x ≡ y → x.height ≡ y.height
height_of x y e = ap (λ (z : Grown). z.height) e

pub least_on : (h : ℕ) (b : Bool) (t : Grown) (w : List Cell) → grouped_on h b t w → tall t ≤ h
unfolding grouped_on
least_on zero b t w d = absurd d
least_on (suc h) b t w (inl d) = let e = height_of (apply_of d.0) t d.1 in omega arith
least_on (suc h) b t w (inr d) =
    let e = height_of (infixed d.0) t d.1 in
    let j = d.2.2 in
    let i = least_on h b d.0.0 j.front j.left in
    let k = least_on h b d.0.1.1 j.right.back j.right.right in
    omega arith

pub fits_on : (h k : ℕ) (b c : Bool) → (b ≡ true → c ≡ true) → (t : Grown) (w : List Cell) → tall t ≤ k → grouped_on h b t w → grouped_on k c t w
unfolding grouped_on
fits_on zero k b c bc t w le d = absurd d
fits_on (suc h) zero b c bc t w le d = absurd (omega (arith, le))
fits_on (suc zero) (suc k) b c bc t w le (inr d) = absurd d.2.2.left
fits_on (suc (suc h)) (suc zero) b c bc t w le (inr d) =
    let e = height_of (infixed d.0) t d.1 in
    let i = least_on (suc h) b d.0.0 d.2.2.front d.2.2.left in
    absurd (two d.0.0.height (suc h) b d.0.0 refl d.2.2.front d.2.2.left (omega (arith, le)))
  where
    two : (n h : ℕ) (b : Bool) (x : Grown) → n ≡ x.height → (w : List Cell) → grouped_on h b x w → x.height ≤ 0 → ⊥
    two n zero b x s w d le = absurd d
    two n (suc h) b x s w (inl d) le = let e = height_of (apply_of d.0) x d.1 in omega (arith, le)
    two n (suc h) b x s w (inr d) le = let e = height_of (infixed d.0) x d.1 in omega (arith, le)
fits_on (suc h) (suc k) b c bc t w le (inl d) = inl d
fits_on (suc h) (suc (suc k)) b c bc t w le (inr d) =
    let e = height_of (infixed d.0) t d.1 in
    let j = d.2.2 in
    let l = j.right in
    inr (
      d.0,
      d.1,
      (
        left_mono tight right b c (top d.0.0) d.0.1.0 bc d.2.0,
        top_mono tight right b c (floor_of tight right d.0.1.0) (top d.0.1.1) bc d.2.1,
        record {
          front = j.front;
          back = j.back;
          left = fits_on h (suc k) b c bc d.0.0 j.front (omega (arith, le)) j.left;
          right = record { front = l.front; back = l.back; left = l.left; right = fits_on h (suc k) b c bc d.0.1.1 l.back (omega (arith, le)) l.right; whole = l.whole };
          whole = j.whole;
        },
      ),
    )

-- ---- rows of atoms and operators are those of the theory

abbrev pub group_on : Room → Grown → List Cell → Type 0
group_on r t w = grouped_on r.height r.clashes t w

abbrev pub atoms_on : Room → ℕ × List ℕ → List Cell → Type 0
atoms_on r = below r.height
  where
    below : ℕ → ℕ × List ℕ → List Cell → Type 0
    below zero x w = ⊥
    below (suc h) x w = Atoms x w

pub group_mono : (h k : Room) (t : Grown) (w : List Cell) → Under h k → group_on h t w → group_on k t w
group_mono h k t w u d = let a = least_on h.height h.clashes t w d in let le = u.0 in fits_on h.height k.height h.clashes k.clashes u.1 t w (omega arith) d

pub rows : Rows tight right operator top tall apply_of infix_of atoms_on group_on
unfolding grouped_on
rows = record {
  top_leaf = λ a. refl;
  top_node = λ l v r. refl;
  in_leaf = λ h a w d. inl (a, refl, d);
  in_node = λ h l v r w x y d. inr ((l, (v, r)), refl, (x, y, d));
  out = λ h t w d. elim d [ inl e ↦ inl e | inr e ↦ inr (e.0.0, e.0.1.0, e.0.1.1, e.1, e.2.0, e.2.1, e.2.2) ];
  none = λ b t w d. d;
  least = λ h t w d. least_on h.height h.clashes t w d;
  fits = λ h k t w d le same. fits_on h.height k.height h.clashes k.clashes (λ e. same ∙ e) t w le d;
  mono = group_mono;
  operand_mono = λ h k a w u d. atoms_up h.height k.height a w u.0 d;
}
  where
    atoms_up : (h k : ℕ) (a : ℕ × List ℕ) (w : List Cell) → h ≤ k → atoms_on (record { height = h; clashes = true }) a w → atoms_on (record { height = k; clashes = true }) a w
    atoms_up zero k a w le d = absurd d
    atoms_up (suc h) zero a w le d = absurd (omega (arith, le))
    atoms_up (suc h) (suc k) a w le d = d
