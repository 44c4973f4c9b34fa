-- How behaviours go on from one another, and how agreement follows.
use Rattle.std.proofs.Common.{◌≡◌, ℕ, zero, suc, ◌+◌, ◌-◌, ◌≤◌, List, [], ◌++◌, refl, sym, ap, ◌∙◌, subst, append_assoc, append-nil, arith}
use Rattle.beh.specs.Behaviour.{Ending, Ended, Raised, More, Behaviour, Begins, IsOver, Extends, end_renamed, renamed}
use Rattle.beh.specs.Agree.{Agree, Match, GoesOn}

pub begins_same : (a : List ℕ) → Begins a a
begins_same a = ([], sym (append-nil a))

pub begins_trans : (a b c : List ℕ) → Begins a b → Begins b c → Begins a c
begins_trans a b c p q = (q.0 ++ p.0, p.1 ∙ ap (λ l. l ++ p.0) q.1 ∙ append_assoc c q.0 p.0)

pub extends_equal : (a b : Behaviour) → b ≡ a → Extends b a
extends_equal a b q = record { begins = subst (λ (x : Behaviour). Begins x.output a.output) (sym q) (begins_same a.output); over = λ h. q }

pub extends_same : (a : Behaviour) → Extends a a
extends_same a = extends_equal a a refl

pub extends_trans : (a b c : Behaviour) → Extends a b → Extends b c → Extends a c
extends_trans a b c p q =
    record {
      begins = begins_trans a.output b.output c.output p.begins q.begins;
      over = λ h. let e = q.over h in p.over (subst (λ (x : Behaviour). IsOver x.ending) (sym e) h) ∙ e;
    }

pub match_same : (p : ℕ → Behaviour) → Match p p
match_same p = record { there = λ n. (n, extends_same (p n)); back = λ n. (n, extends_same (p n)) }

pub match_trans : (p q r : ℕ → Behaviour) → Match p q → Match q r → Match p r
match_trans p q r a b =
    record {
      there = λ n. let i = a.there n in let j = b.there i.0 in (j.0, extends_trans (r j.0) (q i.0) (p n) j.1 i.1);
      back = λ m. let j = b.back m in let i = a.back j.0 in (i.0, extends_trans (p i.0) (q j.0) (r m) i.1 j.1);
    }

-- where q m goes on from the run and p goes on from q m, and the run is over, p is as it
over_end : (a b c : Behaviour) → Extends c b → IsOver a.ending × (b ≡ a) → IsOver a.ending × (c ≡ a)
over_end a b c e h = (h.0, e.over (subst (λ (x : Behaviour). IsOver x.ending) (sym h.1) h.0) ∙ h.1)

pub agree_over : {C : Type 0} (p q : ℕ → Behaviour) (Step : C → C → Type 0) (seen : C → Behaviour) (start : C) → Match p q → Agree q Step seen start → Agree p Step seen start
agree_over p q Step seen start h a =
    record {
      reaches = λ n. let i = h.there n in let r = a.reaches i.0 in (r.0, λ j c run e. extends_trans (seen c) (q i.0) (p n) (r.1 j c run e) i.1);
      covers = λ j c run. let r = a.covers j c run in let i = h.back r.0 in
          (i.0, begins_trans (p i.0).output (q r.0).output (seen c).output i.1.begins r.1, λ stuck. over_end (seen c) (q r.0) (p i.0) i.1 (r.2 stuck));
    }

steps_on : (p : ℕ → Behaviour) (k n : ℕ) → GoesOn p → Extends (p (k + n)) (p n)
steps_on p zero n g = subst (λ i. Extends (p i) (p n)) (omega arith) (extends_same (p n))
steps_on p (suc k) n g = subst (λ i. Extends (p i) (p n)) (omega arith) (extends_trans (p (suc (k + n))) (p (k + n)) (p n) (g (k + n)) (steps_on p k n g))

pub larger : (p : ℕ → Behaviour) (m n : ℕ) → GoesOn p → m ≤ n → Extends (p n) (p m)
larger p m n g le = subst (λ i. Extends (p i) (p m)) (omega arith) (steps_on p (n - m) m g)

pub match_shifted : (p q : ℕ → Behaviour) (k : ℕ) → GoesOn q → ((n : ℕ) → q (n + k) ≡ p n) → Match p q
match_shifted p q k g e =
    record {
      there = λ n. (n + k, extends_equal (p n) (q (n + k)) (e n));
      back = λ m. (m, subst (λ b. Extends b (q m)) (e m) (larger q m (m + k) g (omega arith)));
    }

over_renamed : (f : List ℕ → List ℕ) (e : Ending) → IsOver (end_renamed f e) → IsOver e
over_renamed f Ended h = tt
over_renamed f (Raised name) h = tt
over_renamed f More h = h

pub extends_renamed : (f : List ℕ → List ℕ) (b a : Behaviour) → Extends b a → Extends (renamed f b) (renamed f a)
extends_renamed f b a e = record { begins = e.begins; over = λ h. ap (renamed f) (e.over (over_renamed f a.ending h)) }

pub match_renamed : (f : List ℕ → List ℕ) (p q : ℕ → Behaviour) → Match p q → Match (λ n. renamed f (p n)) (λ n. renamed f (q n))
match_renamed f p q h =
    record {
      there = λ n. let i = h.there n in (i.0, extends_renamed f (q i.0) (p n) i.1);
      back = λ m. let i = h.back m in (i.0, extends_renamed f (p i.0) (q m) i.1);
    }
