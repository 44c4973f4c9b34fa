-- The marks of a walk, and the nodes that were seen.
use Rattle.std.proofs.Common.{◌≡◌, ℕ, ◌<◌, ◌≤◌, zero, suc, List, [], ◌∷◌, ◌++◌, length, refl, sym, ap, ◌∙◌, subst, inl, inr, arith, get_or-set_same, get_or-set_other, length-set, length-append}
use Rattle.std.specs.Prelude.{slice_set}
use Rattle.std.proofs.Math.ListN.{get_or-eq_default}
use Rattle.std.proofs.lemmas.Bool.{cases_eq}
use Rattle.ty_unify.specs.declared.walk.Stage.{Stage}
use Rattle.ty_unify.specs.declared.walk.Stage.TheVariants.{New, Busy, Done}
use Rattle.ty_unify.specs.Walking.{mark_at, Finished, IsIn, Tracked, Rested}
use Rattle.ty_unify.proofs.Walks.{in_last, in_more, in_here}

-- a node is marked, and stands behind those that were seen
pub tracked_begun : (n : ℕ) (marks : List Stage) (seen : List ℕ) (node : ℕ) (m : Stage) → Tracked n marks seen → Tracked n (slice_set marks node m) (seen ++ node ∷ [])
tracked_begun n marks seen node m t = record {
  full = length-set marks node m ∙ t.full;
  met = λ i h. elim (cases_eq i node) [
    | inl e ↦ subst (λ k. IsIn k (seen ++ node ∷ [])) (sym e) (in_here node seen)
    | inr ne ↦ in_more i node seen (t.met i (λ q. h (get_or-set_other marks node i m New ne ∙ q)))
  ];
}

-- a busy node is numbered
pub tracked_finished : (m : Stage) (n : ℕ) (marks new : List Stage) (seen : List ℕ) (next after node : ℕ) → mark_at marks node ≡ m → Finished m marks new next after node → Tracked n marks seen → Tracked n new seen
tracked_finished New n marks new seen next after node e f t = subst (λ l. Tracked n l seen) (sym f.0) t
tracked_finished (Done r) n marks new seen next after node e f t = subst (λ l. Tracked n l seen) (sym f.0) t
tracked_finished Busy n marks new seen next after node e f t =
    subst (λ l. Tracked n l seen) (sym f.0) (record {
      full = length-set marks node (Done next) ∙ t.full;
      met = λ i h. elim (cases_eq i node) [
        | inl d ↦ t.met i (λ q. let b : mark_at marks i ≡ Busy = ap (λ j. mark_at marks j) d ∙ e in let z : New ≡ Busy = sym q ∙ b in cc)
        | inr ne ↦ t.met i (λ q. h (get_or-set_other marks node i (Done next) New ne ∙ q))
      ];
    })

-- one more mark
fresh_push : (marks : List Stage) → ((i : ℕ) → mark_at marks i ≡ New) → (i : ℕ) → mark_at (marks ++ New ∷ []) i ≡ New
fresh_push [] h zero = refl
fresh_push [] h (suc i) = refl
fresh_push (m ∷ marks) h zero = h 0
fresh_push (m ∷ marks) h (suc i) = fresh_push marks (λ j. h (suc j)) i

pub rested_push : (n : ℕ) (marks : List Stage) → Rested n marks → length marks < n → Rested n (marks ++ New ∷ [])
rested_push n marks r lt = record {
  within = omega (arith, length-append marks (New ∷ []));
  fresh = fresh_push marks r.fresh;
}

-- the last of the nodes that were seen is new again
pub tracked_cleared : (n : ℕ) (marks : List Stage) (all seen : List ℕ) (node : ℕ) → all ≡ seen ++ node ∷ [] → node < length marks → Tracked n marks all → Tracked n (slice_set marks node New) seen
tracked_cleared n marks all seen node e lt t = record {
  full = length-set marks node New ∙ t.full;
  met = λ i h. elim (cases_eq i node) [
    | inl d ↦ absurd (h (ap (λ j. mark_at (slice_set marks node New) j) d ∙ get_or-set_same marks node New New lt))
    | inr ne ↦ elim (in_last i node seen (subst (λ l. IsIn i l) e (t.met i (λ q. h (get_or-set_other marks node i New New ne ∙ q))))) [
      | inl p ↦ p
      | inr d ↦ absurd (ne d)
    ]
  ];
}

-- a node past the marks
pub tracked_past : (n : ℕ) (marks : List Stage) (all seen : List ℕ) (node : ℕ) → all ≡ seen ++ node ∷ [] → length marks ≤ node → Tracked n marks all → Tracked n marks seen
tracked_past n marks all seen node e le t = record {
  full = t.full;
  met = λ i h. elim (in_last i node seen (subst (λ l. IsIn i l) e (t.met i h))) [
    | inl p ↦ p
    | inr d ↦ absurd (h (get_or-eq_default marks New (subst (λ k. length marks ≤ k) (sym d) le)))
  ];
}

-- no node is left that was seen
pub rested_of : (n : ℕ) (marks : List Stage) (seen : List ℕ) → seen ≡ [] → Tracked n marks seen → Rested n marks
rested_of n marks seen e t = record {
  within = let f = t.full in omega arith;
  fresh = λ i. is_new (mark_at marks i) (λ h. subst (λ l. IsIn i l) e (t.met i h));
}
  where
    is_new : (m : Stage) → ((m ≡ New → ⊥) → ⊥) → m ≡ New
    is_new New h = refl
    is_new Busy h = absurd (h (λ e. cc))
    is_new (Done r) h = absurd (h (λ e. cc))

pub tracked_none : (n : ℕ) (marks : List Stage) (seen : List ℕ) → Rested n marks → length marks ≡ n → Tracked n marks seen
tracked_none n marks seen r e = record { full = e; met = λ i h. absurd (h (r.fresh i)) }

pub rested_more : (n m : ℕ) (marks : List Stage) → n ≤ m → Rested n marks → Rested m marks
rested_more n m marks l r = record { within = let w = r.within in omega arith; fresh = r.fresh }

pub rested_put : {X : Type 0} (cells new : List X) (marks : List Stage) (x : X) → new ≡ cells ++ x ∷ [] → Rested (length cells) marks → Rested (length new) marks
rested_put cells new marks x e r =
    let l : length cells ≤ length new = subst (λ y. length cells ≤ length y) (sym e) (omega (arith, length-append cells (x ∷ []))) in
    rested_more (length cells) (length new) marks l r

pub rested_start : (n : ℕ) (marks : List Stage) → marks ≡ [] → Rested n marks
rested_start n marks e = subst (λ l. Rested n l) (sym e) (record { within = omega arith; fresh = λ i. refl })
