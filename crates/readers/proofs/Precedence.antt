-- Which operators may stand where.
use Rattle.std.proofs.Common.{◌≡◌, ℕ, suc, ◌≤◌, ◌<◌, ◌⊎◌, Bool, true, false, not, ◌&&◌, ◌||◌, cond, ltb, eqb, Option, Some, None, refl, subst, arith, inl, inr}
use Rattle.std.proofs.lemmas.Bool.{ltb-true, ltb-false, lt-ltb, le-ltb, eqb-true, ne_eqb}
use Rattle.readers.specs.declared.code.Code.{Code}
use Rattle.readers.specs.declared.code.Code.TheVariants.{Grammar, Depth, FixityClash}
use Rattle.readers.specs.Room.{Room, Under}
use Rattle.readers.specs.declared.floor.Floor.{Floor}
use Rattle.readers.specs.Infix.{from, verdict, floor_of, reaches, sided, before, agrees, Above, AboveTop, Left, judge}
use Rattle.readers.proofs.Row.{both_true, not_true}

-- ---- tests

pub or_true : (a b : Bool) → (a || b) ≡ true → (a ≡ true) ⊎ ((a ≡ false) × (b ≡ true))
or_true true b e = inl refl
or_true false b e = inr (refl, e)

pub or_first : (a b : Bool) → a ≡ true → (a || b) ≡ true
or_first a b e = rw e refl

pub or_second : (a b : Bool) → b ≡ true → (a || b) ≡ true
or_second true b e = refl
or_second false b e = e

pub both_are : (a b : Bool) → a ≡ true → b ≡ true → (a && b) ≡ true
both_are a b i j = rw i j

pub and_no : (a b : Bool) → b ≡ false → (a && b) ≡ false
and_no true b e = e
and_no false b e = refl

pub verdict_none : (a b e c d f : Bool) → verdict a b e c d f ≡ None → (a ≡ true) × (b ≡ true) × ((e || c) ≡ true) × ((e || d) ≡ true) × (f ≡ false)
verdict_none false b e c d f i = absurd cc
verdict_none true false e c d f i = absurd cc
verdict_none true true true c d false i = (refl, refl, refl, refl, refl)
verdict_none true true true c d true i = absurd cc
verdict_none true true false true true false i = (refl, refl, refl, refl, refl)
verdict_none true true false true true true i = absurd cc
verdict_none true true false true false f i = absurd cc
verdict_none true true false false d f i = absurd cc

pub verdict_is : (a b e c d f : Bool) → a ≡ true → b ≡ true → (e || c) ≡ true → (e || d) ≡ true → f ≡ false → verdict a b e c d f ≡ None
verdict_is a b e c d f i j k l m = rw i (rw j (rw m (go e c d k l)))
  where
    go : (e c d : Bool) → (e || c) ≡ true → (e || d) ≡ true → verdict true true e c d false ≡ None
    go true c d k l = refl
    go false true true k l = refl
    go false true false k l = absurd cc
    go false false d k l = absurd cc

pub verdict_some : (a b e c d f : Bool) (code : Code) → verdict a b e c d f ≡ Some code
    → ((code ≡ Grammar) × ((a && b) ≡ false)) ⊎ (((code ≡ FixityClash) × ((a && b) ≡ true) × (e ≡ false) × ((c && d) ≡ false)) ⊎ ((code ≡ Depth) × ((a && b) ≡ true) × ((e || (c && d)) ≡ true) × (f ≡ true)))
verdict_some false b e c d f code i = inl (cc, refl)
verdict_some true false e c d f code i = inl (cc, refl)
verdict_some true true true c d true code i = inr (inr (cc, refl, refl, refl))
verdict_some true true true c d false code i = absurd cc
verdict_some true true false true true true code i = inr (inr (cc, refl, refl, refl))
verdict_some true true false true true false code i = absurd cc
verdict_some true true false true false f code i = inr (inl (cc, refl, refl, refl))
verdict_some true true false false d f code i = inr (inl (cc, refl, refl, refl))

pub verdict_low : (a b e c d f : Bool) → (a && b) ≡ false → verdict a b e c d f ≡ Some Grammar
verdict_low a b e c d f i = rw i refl

pub verdict_clash : (a b e c d f : Bool) → (a && b) ≡ true → e ≡ false → (c && d) ≡ false → verdict a b e c d f ≡ Some FixityClash
verdict_clash a b e c d f i j k = rw i (rw j (rw k refl))

-- ---- with numbers

module _ (b st ru rv : Bool) (least tu tv : ℕ) where
  pub above_left : not (ltb tv least) ≡ true → (b || not (st && (eqb tv least && not rv))) ≡ true → (ltb tv tu || (eqb tu tv && not ru)) ≡ true → (b || not (eqb tu tv && rv)) ≡ true
      → (not (ltb tu least) ≡ true) × ((b || not (st && (eqb tu least && not ru))) ≡ true)
  above_left i j k l =
      let low : least ≤ tv = ltb-false tv least (not_true (ltb tv least) i) in
      elim (or_true (ltb tv tu) (eqb tu tv && not ru) k) [
        | inl a ↦
            let lt : tv < tu = ltb-true tv tu a in
            let no : eqb tu least ≡ false = ne_eqb tu least (λ (e : tu ≡ least). omega arith) in
            (rw (le-ltb tu least (omega arith)) refl, or_second b (not (st && (eqb tu least && not ru))) (rw no (rw (and_no st false refl) refl)))
        | inr a ↦
            let two = both_true (eqb tu tv) (not ru) a.1 in
            let same : tu ≡ tv = eqb-true tu tv two.0 in
            let left : ru ≡ false = not_true ru two.1 in (
              rw same i,
              elim (or_true b (not (eqb tu tv && rv)) l) [
                | inl c ↦ or_first b (not (st && (eqb tu least && not ru))) c
                | inr c ↦
                    let none : not rv ≡ true = subst (λ (x : Bool). not (x && rv) ≡ true) two.0 c.1 in
                    let side : rv ≡ false = not_true rv none in
                    rw same (rw left (subst (λ (x : Bool). (b || not (st && (eqb tv least && not x))) ≡ true) side j))
              ],
            )
      ]

module _ {V : Type 0} (tight : V → ℕ) (right : V → Bool) where
  pub above_under : (b : Bool) (n : Floor) (u v : V) → Above tight right b n v → Left tight right b (Some u) v → Above tight right b n u
  above_under b n u v a l = above_left b n.strict (right u) (right v) n.least (tight u) (tight v) a.0 a.1 l.0 l.1

  floor_least : (b : Bool) (m : ℕ) → (m ≤ (cond b (from m true) (from (suc m) false)).least) × ((cond b (from m true) (from (suc m) false)).least ≤ suc m)
  floor_least true m = (omega arith, omega arith)
  floor_least false m = (omega arith, omega arith)

  -- what comes after an operand of v is no operator of that operand
  next_by : (b : Bool) (m k : ℕ) → (ltb k m || (eqb m k && not b)) ≡ true → not (ltb k (cond b (from m true) (from (suc m) false)).least) ≡ false
  next_by true m k e =
      elim (or_true (ltb k m) (eqb m k && false) e) [
        | inl a ↦ rw a refl
        | inr a ↦ let none : (eqb m k && false) ≡ false = and_no (eqb m k) false refl in absurd cc
      ]
  next_by false m k e =
      elim (or_true (ltb k m) (eqb m k && true) e) [
        | inl a ↦ let lt = ltb-true k m a in rw (lt-ltb k (suc m) (omega arith)) refl
        | inr a ↦ let same = eqb-true m k (both_true (eqb m k) true a.1).0 in rw (lt-ltb k (suc m) (omega arith)) refl
      ]

  pub next_stops : (u v : V) → before tight right (Some u) v ≡ true → reaches tight right (floor_of tight right u) v ≡ false
  next_stops u v e = next_by (right u) (tight u) (tight v) e

  -- what stops at a floor stops at the floor of an operator above it
  pub floor_stops : (n : Floor) (v w : V) → reaches tight right n v ≡ true → reaches tight right n w ≡ false → reaches tight right (floor_of tight right v) w ≡ false
  floor_stops n v w i j =
      let low : n.least ≤ tight v = ltb-false (tight v) n.least (not_true (ltb (tight v) n.least) i) in
      let lt : tight w < n.least = ltb-true (tight w) n.least (is_true (ltb (tight w) n.least) j) in
      let f = (floor_least (right v) (tight v)).0 in
      rw (lt-ltb (tight w) (floor_of tight right v).least (omega arith)) refl
    where
      is_true : (x : Bool) → not x ≡ false → x ≡ true
      is_true true e = refl
      is_true false e = absurd cc

  pub judged : (h : Room) (n : Floor) (top : Option V) (m : ℕ) (v : V) → judge tight right h n top m v ≡ None → Above tight right h.clashes n v × Left tight right h.clashes top v × (m ≤ h.height)
  judged h n top m v e =
      let a = verdict_none (reaches tight right n v) (before tight right top v) h.clashes (sided tight right n v) (agrees tight right top v) (ltb h.height m) e in
      ((a.0, a.2), (a.1, a.3), ltb-false h.height m a.4)

  pub judges : (h : Room) (n : Floor) (top : Option V) (m : ℕ) (v : V) → Above tight right h.clashes n v → Left tight right h.clashes top v → m ≤ h.height → judge tight right h n top m v ≡ None
  judges h n top m v a l le = verdict_is (reaches tight right n v) (before tight right top v) h.clashes (sided tight right n v) (agrees tight right top v) (ltb h.height m) a.0 l.0 a.1 l.1 (le-ltb h.height m le)

  more_or : (b c x : Bool) → (b ≡ true → c ≡ true) → (b || x) ≡ true → (c || x) ≡ true
  more_or b c x f e = elim (or_true b x e) [ inl i ↦ or_first c x (f i) | inr i ↦ or_second c x i.1 ]

  pub above_mono : (b c : Bool) (n : Floor) (v : V) → (b ≡ true → c ≡ true) → Above tight right b n v → Above tight right c n v
  above_mono b c n v f a = (a.0, more_or b c (sided tight right n v) f a.1)

  pub top_mono : (b c : Bool) (n : Floor) (o : Option V) → (b ≡ true → c ≡ true) → AboveTop tight right b n o → AboveTop tight right c n o
  top_mono b c n None f a = a
  top_mono b c n (Some v) f a = above_mono b c n v f a

  pub left_mono : (b c : Bool) (o : Option V) (v : V) → (b ≡ true → c ≡ true) → Left tight right b o v → Left tight right c o v
  left_mono b c o v f a = (a.0, more_or b c (agrees tight right o v) f a.1)

  pub judge_mono : (h k : Room) (n : Floor) (top : Option V) (m : ℕ) (v : V) → Under h k → judge tight right h n top m v ≡ None → judge tight right k n top m v ≡ None
  judge_mono h k n top m v u e =
      let a = judged h n top m v e in
      let le = a.2 in
      let up = u.0 in
      judges k n top m v (above_mono h.clashes k.clashes n v u.1 a.0) (left_mono h.clashes k.clashes top v u.1 a.1) (omega arith)
