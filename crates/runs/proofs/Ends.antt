-- A row that comes to its end at some n: so it never goes wrong, and each run of it ends so.
use Rattle.std.proofs.Common.{◌≡◌, ℕ, zero, suc, ◌+◌, ◌≤◌, sym, ap, ◌∙◌, subst, arith}
use Rattle.beh.specs.Behaviour as beh
use Rattle.beh.specs.Behaviour.{Behaviour, Extends, IsOver}
use Rattle.beh.specs.Agree.{Agree, Match}
use Rattle.beh.proofs.Matching.{extends_equal, larger, agree_over}
use Rattle.runs.specs.Tree.{Val, Items}
use Rattle.runs.specs.Primitives.{St}
use Rattle.runs.specs.Meaning.{Res, Done, Raised, More, Wrong, Right}
use Rattle.runs.specs.Items.{Scope, mean_items}
use Rattle.runs.specs.Ordered.{OrderedScope, OrderedItems, OrderedMem}
use Rattle.runs.specs.Seen.{ConfigStep, at_start, behaviour, exn_name, seen_config, shown}
use Rattle.runs.proofs.Grow.{Up, rows_up, rows_go_on}
use Rattle.runs.proofs.Both.{rows_agree}

-- an evaluation with an end: a value or an exception
abbrev pub Ends : {A : Type 0} → Res A → Type 0
Ends (Done a s) = Unit {0}
Ends (Raised v s) = Unit {0}
Ends _ = ⊥

ends_right : {A : Type 0} (r : Res A) → Ends r → Right r
ends_right (Done a s) h = tt
ends_right (Raised v s) h = tt
ends_right (More s) h = tt
ends_right (Wrong s) h = h

right_up : {A : Type 0} (q r : Res A) → Up q r → Right r → Right q
right_up (Done a s) r u h = tt
right_up (Raised v s) r u h = tt
right_up (More s) r u h = tt
right_up (Wrong s) r u h = subst Right u h

ends_up : {A : Type 0} (q r : Res A) → Up q r → Ends q → r ≡ q
ends_up (Done a s) r u h = u
ends_up (Raised v s) r u h = u
ends_up (More s) r u h = absurd h
ends_up (Wrong s) r u h = absurd h

-- an end that is reached stays
pub end_stays : (n k : ℕ) (c : Scope) (is : Items) (s : St) (r : Res Scope) → Ends r → mean_items n c is s ≡ r → mean_items (k + n) c is s ≡ r
end_stays n zero c is s r w h =
    let e : n ≡ zero + n = omega arith in
    subst (λ i. mean_items i c is s ≡ r) e h
end_stays n (suc k) c is s r w h =
    let i = end_stays n k c is s r w h in
    let e : suc (k + n) ≡ suc k + n = omega arith in
    subst (λ j. mean_items j c is s ≡ r) e (ends_up (mean_items (k + n) c is s) (mean_items (suc (k + n)) c is s) (rows_up (k + n) c is s) (subst Ends (sym i) w) ∙ i)

-- what is right at a larger n is right at a smaller one
right_below : (k m : ℕ) (c : Scope) (is : Items) (s : St) → Right (mean_items (k + m) c is s) → Right (mean_items m c is s)
right_below zero m c is s h =
    let e : zero + m ≡ m = omega arith in
    subst (λ i. Right (mean_items i c is s)) e h
right_below (suc k) m c is s h =
    let e : suc k + m ≡ k + suc m = omega arith in
    right_up (mean_items m c is s) (mean_items (suc m) c is s) (rows_up m c is s) (right_below k (suc m) c is s (subst (λ i. Right (mean_items i c is s)) e h))

pub end_right : (n : ℕ) (c : Scope) (is : Items) (s : St) (r : Res Scope) → Ends r → mean_items n c is s ≡ r → (m : ℕ) → Right (mean_items m c is s)
end_right n c is s r w h m =
    let i = end_stays n m c is s r w h in
    let e : m + n ≡ n + m = omega arith in
    right_below n m c is s (subst (λ j. Right (mean_items j c is s)) e (subst Right (sym i) (ends_right r w)))

end_match : (n : ℕ) (c : Scope) (is : Items) (s : St) (r : Res Scope) → Ends r → mean_items n c is s ≡ r → Match (λ m. behaviour r) (λ m. behaviour (mean_items m c is s))
end_match n c is s r w h =
    record {
      there = λ m. (n, extends_equal (behaviour r) (behaviour (mean_items n c is s)) (ap behaviour h));
      back = λ m. (
        0,
        let i = end_stays n m c is s r w h in
            let le : m ≤ m + n = omega arith in
            subst (λ b. Extends b (behaviour (mean_items m c is s))) (ap behaviour i) (larger (λ j. behaviour (mean_items j c is s)) m (m + n) (rows_go_on c is s) le),
      );
    }

-- so its runs agree with the end
pub end_agrees : (c : Scope) (is : Items) (s : St) (r : Res Scope) (n : ℕ) → OrderedScope c → OrderedItems is → OrderedMem s.mem → Ends r → mean_items n c is s ≡ r → Agree (λ m. behaviour r) ConfigStep seen_config (at_start c is s)
end_agrees c is s r n hc hi hm w h =
    agree_over (λ m. behaviour r) (λ m. behaviour (mean_items m c is s)) ConfigStep seen_config (at_start c is s) (end_match n c is s r w h)
    (rows_agree c is s hc hi hm (end_right n c is s r w h))

pub done_agrees : (c d : Scope) (is : Items) (s t : St) (n : ℕ) → OrderedScope c → OrderedItems is → OrderedMem s.mem → mean_items n c is s ≡ Done d t → Agree (λ m. shown t beh.Ended) ConfigStep seen_config (at_start c is s)
done_agrees c d is s t n hc hi hm h = end_agrees c is s (Done d t) n hc hi hm tt h

pub raised_agrees : (c : Scope) (is : Items) (s : St) (v : Val) (t : St) (n : ℕ) → OrderedScope c → OrderedItems is → OrderedMem s.mem → mean_items n c is s ≡ Raised v t → Agree (λ m. shown t (beh.Raised (exn_name t.exns v))) ConfigStep seen_config (at_start c is s)
raised_agrees c is s v t n hc hi hm h = end_agrees c is s (Raised v t) n hc hi hm tt h
