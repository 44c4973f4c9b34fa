-- The meaning and the runs agree, both ways.
use Rattle.std.proofs.Common.{◌≡◌, ℕ, zero, suc, ◌≤◌, ◌⊎◌, inl, inr, refl, sym, ap, ap₂, ◌∙◌, subst, subst₂, arith}
use Rattle.beh.proofs.Matching.{begins_same, extends_equal}
use Rattle.runs.proofs.Close.{close_empty}
use Rattle.runs.proofs.Inevitable.{Ahead, CanOf, Passed, RunOf, inev_split}
use Rattle.runs.proofs.Keep.{empty_ordered}
use Rattle.runs.proofs.Machines.{Follows, FollowsOf, GoalOf, Machine, trees, works}
use Rattle.runs.proofs.Runs.{run_out, stays, step_out, work_out}
use Rattle.runs.specs.Env.{empty}
use Rattle.runs.specs.ItemSteps.{Lost, Rest, Whole, Work, WorkStep}
use Rattle.runs.specs.Items.{Scope, mean_items, held}
use Rattle.runs.proofs.Followed.{follows_mean, items_follow}
use Rattle.runs.specs.Ordered.{Ordered, OrderedItems, OrderedMem, OrderedScope}
use Rattle.runs.specs.Primitives.{Next, St, tree}
use Rattle.runs.specs.Seen.{Config, ConfigStep, Place, PlaceStep, at_start, behaviour, exn_name, seen_config, seen_place, seen_tree, seen_work, shown}
use Rattle.runs.specs.Steps.{Step}
use Rattle.runs.specs.Tree.{Exp, Fail, Is, Items, Val}
use Rattle.runs.specs.Meaning as mean_is
use Rattle.runs.specs.Meaning.{Res, Done, Wrong, Right, mean}
use Rattle.beh.specs.Behaviour.{Behaviour, Raised, Begins, IsOver, Extends}
use Rattle.beh.specs.Agree.{Run, CanStep, Agree}

-- what is seen of the places of a machine: their output, which only grows; and what is over takes no step
pub record Sight {A T : Type 0} (M : Machine A T) (seen : T → St → Behaviour) : Type 0 where
  pub shows : (t : T) (s : St) → (seen t s).output ≡ s.out
  pub stuck : (t : T) (s : St) → IsOver (seen t s).ending → CanOf M.step t s → ⊥
  pub fin : (a : A) (s : St) → seen (M.fin a) s ≡ behaviour (Done a s)
  pub lost : (v : Val) (s : St) → seen (M.lost v) s ≡ shown s (Raised (exn_name s.exns v))
  pub out : (e : T) (s : St) (t : T) (s1 : St) → M.step e s t s1 → Begins s1.out s.out
  pub fin_stays : (a : A) (s : St) (t : T) (s1 : St) → M.step (M.fin a) s t s1 → ⊥
  pub lost_stays : (v : Val) (s : St) (t : T) (s1 : St) → M.step (M.lost v) s t s1 → ⊥

goal_out : {A T : Type 0} (M : Machine A T) (n k0 : ℕ) (r : Res A) (k : ℕ) (u : T) (s : St) → Right r → GoalOf M n k0 r k u s → (behaviour r).output ≡ s.out
goal_out M n k0 (Done v s0) k u s w g = ap (λ (x : St). x.out) (sym g.1)
goal_out M n k0 (mean_is.Raised v s0) k u s w g = ap (λ (x : St). x.out) (sym g.1)
goal_out M n k0 (mean_is.More s0) k u s w g = ap (λ (x : St). x.out) (sym g.0)
goal_out M n k0 (Wrong s0) k u s w g = absurd w

-- a run past the end stays there
end_done : {A T : Type 0} (M : Machine A T) (seen : T → St → Behaviour) → Sight M seen → (a : A) (s0 : St) (r : ℕ) (u : T) (s2 : St) (t : T) (s1 : St) → u ≡ M.fin a → s2 ≡ s0 → RunOf M.step r u s2 t s1 → seen t s1 ≡ behaviour (Done a s0)
end_done M seen g a s0 r u s2 t s1 q w run =
    let e = stays M.step (M.fin a) s0 (λ t2 s3 st. g.fin_stays a s0 t2 s3 st) r t s1 (subst₂ (λ x y. RunOf M.step r x y t s1) q w run) in
    ap₂ seen e.0 e.1 ∙ g.fin a s0

end_raised : {A T : Type 0} (M : Machine A T) (seen : T → St → Behaviour) → Sight M seen → (v : Val) (s0 : St) (r : ℕ) (u : T) (s2 : St) (t : T) (s1 : St) → u ≡ M.lost v → s2 ≡ s0 → RunOf M.step r u s2 t s1 → seen t s1 ≡ shown s0 (Raised (exn_name s0.exns v))
end_raised M seen g v s0 r u s2 t s1 q w run =
    let e = stays M.step (M.lost v) s0 (λ t2 s3 st. g.lost_stays v s0 t2 s3 st) r t s1 (subst₂ (λ x y. RunOf M.step r x y t s1) q w run) in
    ap₂ seen e.0 e.1 ∙ g.lost v s0

passed : {A T : Type 0} (M : Machine A T) (seen : T → St → Behaviour) → Sight M seen → (n j : ℕ) (r : Res A) (t : T) (s1 : St) → Right r → Passed M.step (GoalOf M n 0 r) 0 j t s1 → Extends (seen t s1) (behaviour r)
passed M seen g n j (Done v s0) t s1 w p = extends_equal _ _ (end_done M seen g v s0 p.r p.u p.s2 t s1 p.at.0 p.at.1 p.rest)
passed M seen g n j (mean_is.Raised v s0) t s1 w p = extends_equal _ _ (end_raised M seen g v s0 p.r p.u p.s2 t s1 p.at.0 p.at.1 p.rest)
passed M seen g n j (mean_is.More s0) t s1 w p =
    record {
      begins = subst₂ (λ a b. Begins a b) (sym (g.shows t s1)) (ap (λ (x : St). x.out) p.at.0) (run_out M.step g.out p.r p.u p.s2 t s1 p.rest);
      over = λ h. absurd h;
    }
passed M seen g n j (Wrong s0) t s1 w p = absurd w

reach : {A T : Type 0} (M : Machine A T) (seen : T → St → Behaviour) → Sight M seen → (n j bound : ℕ) (r : Res A) (t : T) (s1 : St) → Right r → Passed M.step (GoalOf M n 0 r) 0 j t s1 ⊎ Ahead M.step (GoalOf M n 0 r) bound j t s1 → (bound ≤ j) ⊎ IsOver (seen t s1).ending → Extends (seen t s1) (behaviour r)
reach M seen g n j bound r t s1 w (inl p) h = passed M seen g n j r t s1 w p
reach M seen g n j bound r t s1 w (inr a) (inl le) = absurd (omega (arith, a.short))
reach M seen g n j bound r t s1 w (inr a) (inr o) = absurd (g.stuck t s1 o a.can)

abbrev Covered : {A T : Type 0} → Machine A T → (T → St → Behaviour) → Res A → T → St → Type 0
Covered M seen r t s1 = Begins (behaviour r).output (seen t s1).output × ((CanOf M.step t s1 → ⊥) → IsOver (seen t s1).ending × (behaviour r ≡ seen t s1))

cover_end : {A T : Type 0} (M : Machine A T) (seen : T → St → Behaviour) (r : Res A) (t : T) (s1 : St) → IsOver (behaviour r).ending → seen t s1 ≡ behaviour r → Covered M seen r t s1
cover_end M seen r t s1 o q = (
  subst (λ a. Begins (behaviour r).output a) (sym (ap (λ (b : Behaviour). b.output) q)) (begins_same (behaviour r).output),
  λ h. (subst (λ (b : Behaviour). IsOver b.ending) (sym q) o, sym q),
)

cover : {A T : Type 0} (M : Machine A T) (seen : T → St → Behaviour) → Sight M seen → (j bound : ℕ) (r : Res A) (t : T) (s1 : St) → Right r → Passed M.step (GoalOf M (suc j) 0 r) 0 j t s1 ⊎ Ahead M.step (GoalOf M (suc j) 0 r) bound j t s1 → Covered M seen r t s1
cover M seen g j bound (Done v s0) t s1 w (inl p) = cover_end M seen (Done v s0) t s1 tt (end_done M seen g v s0 p.r p.u p.s2 t s1 p.at.0 p.at.1 p.rest)
cover M seen g j bound (mean_is.Raised v s0) t s1 w (inl p) = cover_end M seen (mean_is.Raised v s0) t s1 tt (end_raised M seen g v s0 p.r p.u p.s2 t s1 p.at.0 p.at.1 p.rest)
cover M seen g j bound (mean_is.More s0) t s1 w (inl p) = absurd (omega (arith, p.at.1, p.count))
cover M seen g j bound (Wrong s0) t s1 w (inl p) = absurd w
cover M seen g j bound r t s1 w (inr a) =
    let c = a.comes in
    (subst₂ (λ x y. Begins x y) (sym (goal_out M (suc j) 0 r c.k c.u c.s2 w c.at)) (sym (g.shows t s1)) (run_out M.step g.out c.r t s1 c.u c.s2 c.run), λ h. absurd (h a.can))

-- a meaning that the runs from a place follow at each n agrees with them, where C is a type of places with a step for each step of the machine
pub both : {A T C : Type 0} (M : Machine A T) (seen : T → St → Behaviour) → Sight M seen → (p : ℕ → Res A) (e : T) (s : St) → ((n : ℕ) → Right (p n)) → ((n : ℕ) → FollowsOf M n (p n) e s)
    → (Next : C → C → Type 0) (tree : C → T) (st : C → St) (c0 : C) → ((c d : C) → Next c d → M.step (tree c) (st c) (tree d) (st d)) → ((c : C) → CanOf M.step (tree c) (st c) → CanStep Next c)
    → ((j : ℕ) (c : C) → Run Next j c0 c → RunOf M.step j e s (tree c) (st c)) → Agree (λ n. behaviour (p n)) Next (λ c. seen (tree c) (st c)) c0
both M seen g p e s w f Next tree st c0 to from runs =
    record {
      reaches = λ n. let h = f n in
          (h.bound, λ j c run over. reach M seen g n j h.bound (p n) (tree c) (st c) (w n) (inev_split (h.comes 0) j (tree c) (st c) (runs j c run)) over);
      covers = λ j c run. let h = f (suc j) in
          let r = cover M seen g j h.bound (p (suc j)) (tree c) (st c) (w (suc j)) (inev_split (h.comes 0) j (tree c) (st c) (runs j c run)) in
          (suc j, r.0, λ stuck. r.1 (λ can. stuck (from c can)));
    }

-- trees
tree_stuck : (t : Exp) (s : St) → IsOver (seen_tree t s).ending → CanOf Step t s → ⊥
tree_stuck (Is v) s h c = c.2
tree_stuck (Fail v) s h c = c.2
tree_stuck _ s h c = absurd h

tree_shows : (t : Exp) (s : St) → (seen_tree t s).output ≡ s.out
tree_shows (Is v) s = refl
tree_shows (Fail v) s = refl
tree_shows _ s = refl

tree_sight : Sight trees seen_tree
tree_sight = record { shows = tree_shows; stuck = tree_stuck; fin = λ a s. refl; lost = λ v s. refl; out = step_out; fin_stays = λ a s t s1 h. h; lost_stays = λ v s t s1 h. h }

place_runs : (j : ℕ) (c d : Place) → Run PlaceStep j c d → RunOf Step j c.tree c.st d.tree d.st
place_runs zero c d r = (ap (λ (x : Place). x.tree) r, ap (λ (x : Place). x.st) r)
place_runs (suc j) c d r = (r.0.tree, r.0.st, r.1, place_runs j r.0 d r.2)

pub tree_agrees : (e : Exp) (s : St) → Ordered e → OrderedMem s.mem → ((n : ℕ) → Right (mean n empty e s)) → Agree (λ n. behaviour (mean n empty e s)) PlaceStep seen_place (record { tree = e; st = s })
tree_agrees e s h m w =
    let c : Place = record { tree = e; st = s } in
    both trees seen_tree tree_sight (λ n. mean n empty e s) e s w (λ n. subst (λ x. Follows n (mean n empty e s) x s) (close_empty e) (follows_mean n empty e s empty_ordered h m))
    PlaceStep (λ (x : Place). x.tree) (λ (x : Place). x.st) c (λ x y st. st) (λ x can. (record { tree = can.0; st = can.1 }, can.2)) (λ j x run. place_runs j c x run)

-- rows of items
work_stuck : (t : Work) (s : St) → IsOver (seen_work t s).ending → CanOf WorkStep t s → ⊥
work_stuck (Whole c) s h can = can.2
work_stuck (Lost v) s h can = can.2
work_stuck _ s h can = absurd h

work_shows : (t : Work) (s : St) → (seen_work t s).output ≡ s.out
work_shows (Whole c) s = refl
work_shows (Lost v) s = refl
work_shows _ s = refl

work_sight : Sight works seen_work
work_sight = record { shows = work_shows; stuck = work_stuck; fin = λ a s. refl; lost = λ v s. refl; out = work_out; fin_stays = λ a s t s1 h. h; lost_stays = λ v s t s1 h. h }

config_runs : (j : ℕ) (c d : Config) → Run ConfigStep j c d → RunOf WorkStep j c.work c.st d.work d.st
config_runs zero c d r = (ap (λ (x : Config). x.work) r, ap (λ (x : Config). x.st) r)
config_runs (suc j) c d r = (r.0.work, r.0.st, r.1, config_runs j r.0 d r.2)

pub rows_agree : (c : Scope) (is : Items) (s : St) → OrderedScope c → OrderedItems is → OrderedMem s.mem → ((n : ℕ) → Right (mean_items n c is s)) → Agree (λ n. behaviour (mean_items n c is s)) ConfigStep seen_config (at_start c is s)
rows_agree c is s hc h m w =
    both works seen_work work_sight (λ n. mean_items n c is s) (Rest (held c) is) s w (λ n. items_follow n c is s hc h m)
    ConfigStep (λ (x : Config). x.work) (λ (x : Config). x.st) (at_start c is s) (λ x y st. st) (λ x can. (record { work = can.0; st = can.1 }, can.2)) (λ j x run. config_runs j (at_start c is s) x run)
