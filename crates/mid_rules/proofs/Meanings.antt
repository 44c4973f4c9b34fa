-- The meaning of units goes on, agrees through others, and is that of one unit after another.
use Rattle.std.proofs.Common.{◌≡◌, ◌⊎◌, inl, inr, ℕ, List, [], ◌∷◌, ◌++◌, Option, Some, None, refl, sym, ap, ◌∙◌, subst}
use Rattle.beh.specs.Agree.{Agree, GoesOn, Match}
use Rattle.beh.specs.Behaviour.{Behaviour}
use Rattle.beh.proofs.Matching.{agree_over}
use Rattle.mid_rules.specs.Core.{Items}
use Rattle.mid_rules.specs.Basis.{basis_scope, basis_state}
use Rattle.mid_rules.specs.Mid.{IsStill, Meaning, PlacedMeaning}
use Rattle.mid_rules.specs.Units.{items_tree, placed_tree, units_tree}
use Rattle.runs.specs.Env.{close}
use Rattle.runs.specs.Items.{after}
use Rattle.runs.specs.Meaning.{Done, Go, Wrong, ev_items, known, mean, then_do}
use Rattle.runs.specs.Names.{Part}
use Rattle.runs.specs.Ordered.{Still}
use Rattle.runs.specs.Primitives.{St}
use Rattle.runs.specs.Scope.{Scope}
use Rattle.runs.specs.Seen.{Config, ConfigStep, seen_config}
use Rattle.runs.specs.Tree.{Exp, Struct, Val}
use Rattle.runs.proofs.After.{after_after, ev_after}
use Rattle.runs.proofs.Grow.{rows_go_on}
use Rattle.runs.proofs.Rows.{still_ev}
use Rattle.runs.proofs.Still.{result}

pub units_go_on : (units : List Items) → GoesOn (Meaning units)
units_go_on units = rows_go_on basis_scope (units_tree units) basis_state

pub placed_go_on : (units : List (Part × Items)) → GoesOn (PlacedMeaning units)
placed_go_on units = rows_go_on basis_scope (placed_tree units) basis_state

pub through_units : (p : ℕ → Behaviour) (units : List Items) (start : Config) → Match p (Meaning units) → Agree (Meaning units) ConfigStep seen_config start → Agree p ConfigStep seen_config start
through_units p units start m a = agree_over p (Meaning units) ConfigStep seen_config start m a

pub through_placed : (p : ℕ → Behaviour) (units : List (Part × Items)) (start : Config) → Match p (PlacedMeaning units) → Agree (PlacedMeaning units) ConfigStep seen_config start → Agree p ConfigStep seen_config start
through_placed p units start m a = agree_over p (PlacedMeaning units) ConfigStep seen_config start m a

-- ---- one unit after another

units-append : (us vs : List Items) → units_tree (us ++ vs) ≡ after (units_tree us) (units_tree vs)
units-append [] vs = refl
units-append (u ∷ us) vs = ap (after (items_tree u)) (units-append us vs) ∙ sym (after_after (items_tree u) (units_tree us) (units_tree vs))

pub units_after : (go : Go) (us vs : List Items) (c : Scope) (s : St) → ev_items go c (units_tree (us ++ vs)) s ≡ then_do (ev_items go c (units_tree us) s) (λ d t. ev_items go d (units_tree vs) t)
units_after go us vs c s = ap (λ e. ev_items go c e s) (units-append us vs) ∙ ev_after go (units_tree us) (units_tree vs) c s

placed-append : (us vs : List (Part × Items)) → placed_tree (us ++ vs) ≡ after (placed_tree us) (placed_tree vs)
placed-append [] vs = refl
placed-append (u ∷ us) vs = ap (Struct u.0 (items_tree u.1)) (placed-append us vs)

pub placed_after : (go : Go) (us vs : List (Part × Items)) (c : Scope) (s : St) → ev_items go c (placed_tree (us ++ vs)) s ≡ then_do (ev_items go c (placed_tree us) s) (λ d t. ev_items go d (placed_tree vs) t)
placed_after go us vs c s = ap (λ e. ev_items go c e s) (placed-append us vs) ∙ ev_after go (placed_tree us) (placed_tree vs) c s

-- ---- what is still by its form is still

known_or : (o : Option Val) (s : St) → ((v : Val) × (known o s ≡ Done v s)) ⊎ (known o s ≡ Wrong s)
known_or None s = inr refl
known_or (Some v) s = inl (v, refl)

pub still_is_still : (e : Exp) → Still e → IsStill e
still_is_still e h n env s =
    let w = still_ev (mean n) env e s h in
    subst (λ r. ((v : Val) × (r ≡ Done v s)) ⊎ (r ≡ Wrong s)) (sym w) (known_or (result (close env e)) s)
