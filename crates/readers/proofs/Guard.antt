-- A test of the next token before a phrase, which may answer any code.
use Rattle.std.proofs.Common.{◌≡◌, ◌⊎◌, Bool, List, [], ◌∷◌, ◌++◌, Option, Some, None, Ok, Err, refl, sym, ap, subst, ◌∙◌, inl, inr}
use Rattle.readers.specs.declared.code.Code.{Code}
use Rattle.readers.specs.declared.code.Code.TheVariants.{Grammar}
use Rattle.readers.specs.Reader.{first, Answer, Reader, barred, unless, guard}
use Rattle.readers.specs.Language.{Viable, Passing}
use Rattle.readers.specs.Room.{Room, Under, Eased, Alike}
use Rattle.readers.specs.Exact.{Reads, Refuses}
use Rattle.readers.proofs.Outcome.{first-append, alike_le}

pub unless_ok : {K T : Type 0} (o : Option Code) (s : List K) (r : Answer K T) (z : T × List K) → unless o s r ≡ Ok z → (o ≡ None) × (r ≡ Ok z)
unless_ok None s r z e = (refl, e)
unless_ok (Some c) s r z e = absurd cc

pub unless_err : {K T : Type 0} (o : Option Code) (s : List K) (r : Answer K T) (e : Code × List K) → unless o s r ≡ Err e → ((o ≡ None) × (r ≡ Err e)) ⊎ ((c : Code) × (o ≡ Some c) × ((c, s) ≡ e))
unless_err None s r e i = inl (refl, i)
unless_err (Some c) s r e i = inr (c, refl, cc)

module _ {K T : Type 0} (bar : K → Option Code) (D : T → List K → Type 0) (stop : T → Option K → Bool) (p : Reader K T) (never : (t : T) → D t [] → ⊥) where
  same_first : (t : T) (w r : List K) → D t w → first (w ++ r) ≡ first w
  same_first t [] r d = absurd (never t d)
  same_first t (c ∷ w) r d = refl

  read_first : (t : T) (w s r : List K) → D t w → s ≡ w ++ r → barred bar (first s) ≡ None → barred bar (first w) ≡ None
  read_first t w s r d e b = ap (barred bar) (sym (ap first e ∙ same_first t w r d)) ∙ b

  pub guard_reads : Reads D stop p → Reads (Passing bar D) stop (guard bar p)
  guard_reads P = record {
    complete = λ t w r d st. rw (ap (barred bar) (same_first t w r d.1) ∙ d.0) (P.complete t w r d.1 st);
    sound = λ s z e.
        let a = unless_ok (barred bar (first s)) s (p s) z e in
        let f = P.sound s z a.1 in
        record { read = f.read; derives = (read_first z.0 f.read s z.1 f.derives f.parts a.0, f.derives); parts = f.parts; stops = f.stops };
  }

-- what a test answers in other rooms
pub record Bars {K T : Type 0} (bar : Room → K → Option Code) (D : Room → T → List K → Type 0) : Type 0 where
  pub passes : (h k : Room) (c : K) → Under h k → bar h c ≡ None → bar k c ≡ None
  pub same : (h k : Room) (c : K) (code : Code) → Alike code h k → bar h c ≡ Some code → bar k c ≡ Some code
  -- a token that is barred for want of room, or for a clash, goes on where there is more
  pub opens : (h : Room) (c : K) (code : Code) → bar h c ≡ Some code → (code ≡ Grammar → ⊥) → (k : Room) × Eased code h k × (bar k c ≡ None) × Viable (D k) (c ∷ [])

module _ {K T : Type 0} (bar : Room → K → Option Code) (D : Room → T → List K → Type 0) (p : Room → Reader K T) (b : Bars bar D) (never : (h : Room) (t : T) → D h t [] → ⊥) where
  bar_same : (h k : Room) (o : Option K) (code : Code) → Alike code h k → barred (bar h) o ≡ Some code → barred (bar k) o ≡ Some code
  bar_same h k None code al e = e
  bar_same h k (Some c) code al e = b.same h k c code al e

  bar_passes : (h k : Room) (o : Option K) → Under h k → barred (bar h) o ≡ None → barred (bar k) o ≡ None
  bar_passes h k None u e = e
  bar_passes h k (Some c) u e = b.passes h k c u e

  bar_some : (h : Room) (o : Option K) (code : Code) → (code ≡ Grammar → ⊥) → barred (bar h) o ≡ Some code → (c : K) × (o ≡ Some c) × (bar h c ≡ Some code)
  bar_some h None code nz e = absurd (nz cc)
  bar_some h (Some c) code nz e = (c, refl, e)

  -- a front that is not empty passes as the whole did
  lifted : (h : Room) (s u r : List K) → s ≡ u ++ r → barred (bar h) (first s) ≡ None → Viable (D h) u → (u ≡ []) ⊎ Viable (Passing (bar h) (D h)) u
  lifted h s [] r e n v = inl refl
  lifted h s (c ∷ u) r e n v = inr (record { tree = v.tree; more = v.more; derives = (ap (λ (z : List K). barred (bar h) (first z)) (sym e) ∙ n, v.derives) })

  raised : (h k : Room) (s u r : List K) (c : K) → Under h k → s ≡ u ++ r → first r ≡ Some c → barred (bar h) (first s) ≡ None → Viable (D k) (u ++ c ∷ []) → Viable (Passing (bar k) (D k)) (u ++ c ∷ [])
  raised h k s [] r c un e i n v = record { tree = v.tree; more = v.more; derives = (bar_passes h k (Some c) un (ap (barred (bar h)) (sym (ap first e ∙ i)) ∙ n), v.derives) }
  raised h k s (d ∷ u) r c un e i n v = record { tree = v.tree; more = v.more; derives = (bar_passes h k (Some d) un (ap (λ (z : List K). barred (bar h) (first z)) (sym e) ∙ n), v.derives) }

  pub guard_refuses : (under : (c : Code) (h k : Room) → Eased c h k → Under h k) → (h : Room)
      → ((s : List K) (e : Code × List K) → barred (bar h) (first s) ≡ None → p h s ≡ Err e → Refuses D p h s e)
      → (s : List K) (e : Code × List K) → guard (bar h) (p h) s ≡ Err e → Refuses (λ k. Passing (bar k) (D k)) (λ k. guard (bar k) (p k)) h s e
  guard_refuses under h fp s e i =
      elim (unless_err (barred (bar h) (first s)) s (p h s) e i) [
        | inl a ↦
            let g = fp s e a.0 a.1 in
            record {
              read = g.read;
              parts = g.parts;
              viable = elim g.viable [ inl z ↦ inl z | inr v ↦ lifted h s g.read e.1 g.parts a.0 v ];
              local = λ k r al o.
                  let at : barred (bar k) (first (g.read ++ r)) ≡ None = bar_passes h k (first (g.read ++ r)) (alike_le e.0 h k al) (ap (barred (bar h)) (first-append g.read r e.1 o ∙ ap first (sym g.parts)) ∙ a.0) in
                  rw at (g.local k r al o);
              deep = λ dp. let d = g.deep dp in record {
                room = d.room;
                eased = d.eased;
                token = d.token;
                is = d.is;
                viable = raised h d.room s g.read e.1 d.token (under e.0 h d.room d.eased) g.parts d.is a.0 d.viable;
              };
            }
        | inr a ↦
            subst (λ (e : Code × List K). Refuses (λ k. Passing (bar k) (D k)) (λ k. guard (bar k) (p k)) h s e) a.2 (record {
              read = [];
              parts = refl;
              viable = inl refl;
              local = λ k r al o. rw (bar_same h k (first r) a.0 al (ap (barred (bar h)) o ∙ a.1)) refl;
              deep = λ dp.
                  let c = bar_some h (first s) a.0 dp a.1 in
                  let k = b.opens h c.0 a.0 c.2 dp in
                  let v = k.3 in
                  record { room = k.0; eased = k.1; token = c.0; is = c.1; viable = record { tree = v.tree; more = v.more; derives = (k.2, v.derives) } };
            })
      ]
