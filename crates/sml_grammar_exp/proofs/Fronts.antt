-- A phrase with an operator behind it, or one of others whose tokens are those of such a phrase in more room: read exactly.
use Rattle.std.proofs.Common.{◌≡◌, ◌⊎◌, suc, ◌+◌, ◌≤◌, Bool, true, false, ltb, List, [], ◌∷◌, ◌++◌, length, Option, Ok, Err, refl, sym, ap, subst, ◌∙◌, arith, append_assoc, inl, inr}
use Rattle.std.proofs.lemmas.List.{append-nil}
use Rattle.std.proofs.lemmas.Bool.{lt-ltb, le-ltb}
use Rattle.std.proofs.Math.ListN.{length-append}
use Rattle.readers.specs.declared.code.Code.{Code}
use Rattle.readers.specs.declared.code.Code.TheVariants.{Grammar, Depth, FixityClash}
use Rattle.readers.specs.Reader.{first, head_is, Answer, Reader, mapped}
use Rattle.readers.specs.Language.{Both, Bound, Viable, As, Or}
use Rattle.readers.specs.Room.{Room, at_height, Under, Alike}
use Rattle.readers.specs.Exact.{Found, Reads, Refuses, always}
use Rattle.readers.proofs.Outcome.{first-append, head_some, head-append, ok_is, not_both, alike_le, eased_under, chosen, viable_or, err_of, ok_of}
use Rattle.sml_lex.specs.declared.token.Token.{Token}
use Rattle.sml_grammar_exp.specs.ReadClauses.{plain_front, settled, low_front, head_by, either_read}
use Rattle.sml_grammar_exp.proofs.TwoTokens.{alike_self}
use Rattle.sml_grammar_exp.proofs.Lists.{Before, Behind, cut}

-- with three levels more
abbrev pub up : Room → Room
up k = at_height (suc (suc (suc k.height))) k.clashes

-- all that is asked of the phrases, of what may follow them, and of those of the same tokens
pub record Fronts {A X N Y : Type 0} (op : Token → Bool) (stop : Option Token → Bool) (Q : Room → A → List Token → Type 0) (q : Room → Reader Token A) (K : Room → X → List Token → Type 0) (k : Room → Reader Token X)
    (M : Room → N → List Token → Type 0) (m : Room → Reader Token N) (G : Room → X → Y → List Token → Type 0) (g : Room → X → Reader Token Y) (emb : X → A) : Type 0 where
  pub q_reads : (r : Room) → Reads (Q r) always (q r)
  pub q_mono : (r s : Room) (a : A) (w : List Token) → Under r s → Q r a w → Q s a w
  pub q_refuses : (r : Room) (v : List Token) (e : Code × List Token) → q r v ≡ Err e → Refuses Q q r v e
  pub k_reads : (r : Room) → Reads (K r) always (k r)
  pub k_mono : (r s : Room) (x : X) (w : List Token) → Under r s → K r x w → K s x w
  pub k_refuses : (r : Room) (v : List Token) (e : Code × List Token) → 1 ≤ r.height → k r v ≡ Err e → Refuses K k r v e
  pub m_reads : (r : Room) → Reads (M r) (λ y. stop) (m r)
  pub m_mono : (r s : Room) (y : N) (w : List Token) → Under r s → M r y w → M s y w
  pub m_refuses : (r : Room) (v : List Token) (e : Code × List Token) → 1 ≤ r.height → m r v ≡ Err e → Refuses M m r v e
  pub m_begins : (r : Room) (y : N) (w : List Token) → M r y w → head_is op (first w) ≡ true
  pub m_some : (r : Room) → 1 ≤ r.height → Viable (M r) []
  pub m_starts : (r : Room) (c : Token) → 1 ≤ r.height → op c ≡ true → Viable (M r) (c ∷ [])
  pub g_reads : (r : Room) (x : X) → Reads (G r x) (λ y. stop) (g r x)
  pub g_mono : (r s : Room) (x : X) (y : Y) (w : List Token) → Under r s → G r x y w → G s x y w
  pub g_refuses : (r : Room) (x : X) (v : List Token) (e : Code × List Token) → 1 ≤ r.height → g r x v ≡ Err e → Refuses (λ s. G s x) (λ s. g s x) r v e
  pub g_some : (r : Room) (x : X) → 1 ≤ r.height → Viable (G r x) []
  pub g_quiet : (r : Room) (x : X) (y : Y) (w t : List Token) → G r x y w → stop (first t) ≡ true → head_is op (first (w ++ t)) ≡ false
  pub embeds : (r : Room) (x : X) (w : List Token) → K r x w → Q (up r) (emb x) w
  pub inverse : (r : Room) (x : X) (w : List Token) → Q r (emb x) w → (y : X) × K r y w

module _ {A X N Y H : Type 0} {op : Token → Bool} {stop : Option Token → Bool} {Q : Room → A → List Token → Type 0} {q : Room → Reader Token A} {K : Room → X → List Token → Type 0} {k : Room → Reader Token X}
    {M : Room → N → List Token → Type 0} {m : Room → Reader Token N} {G : Room → X → Y → List Token → Type 0} {g : Room → X → Reader Token Y} {emb : X → A} (F : Fronts op stop Q q K k M m G g emb) (mid : A × N → H) (of : X × Y → H) where
  -- the phrases, and their reader
  abbrev pub Lang : Room → H → List Token → Type 0
  Lang r = Or (As mid (Both (Q r) (M r))) (As of (Bound (K r) (G r)))

  abbrev pub mids : Room → A → Reader Token H
  mids r a = mapped (λ y. mid (a, y)) (m r)

  abbrev pub behinds : Room → X → Reader Token H
  behinds r x = mapped (λ y. of (x, y)) (g r x)

  abbrev pub read_in : Room → Reader Token H
  read_in r = either_read op (mids r) (behinds r) (q r) (q (up r)) (k r)

  -- ---- phrases of the same tokens are one

  pub one_atom : (r : Room) (a b : A) (u v s t : List Token) → Q r a u → Q r b v → u ++ s ≡ v ++ t → (a ≡ b) × (s ≡ t)
  one_atom r a b u v s t d e i =
      let R = F.q_reads r in
      let same = ok_is (a, s) (b, t) (sym (R.complete a u s d refl) ∙ (ap (q r) i ∙ R.complete b v t e refl)) in
      (ap (λ (z : A × List Token). z.0) same, ap (λ (z : A × List Token). z.1) same)

  -- a room above both, where operators may clash
  abbrev pub above : Room → Room → Room
  above r s = at_height (r.height + s.height) true

  to_left : (r s : Room) (a : A) (w : List Token) → Q r a w → Q (above r s) a w
  to_left r s a w d = F.q_mono r (above r s) a w (omega arith, λ e. refl) d

  to_right : (r s : Room) (a : A) (w : List Token) → Q s a w → Q (above r s) a w
  to_right r s a w d = F.q_mono s (above r s) a w (omega arith, λ e. refl) d

  -- no phrase goes on behind another
  pub no_longer : (r s : Room) (a b : A) (u : List Token) (c : Token) (z : List Token) → Q r a u → Q s b (u ++ c ∷ z) → ⊥
  no_longer r s a b u c z d e =
      let two = one_atom (above r s) a b u (u ++ c ∷ z) (c ∷ z) [] (to_left r s a u d) (to_right r s b (u ++ c ∷ z) e) (sym (append-nil (u ++ c ∷ z))) in
      let no : c ∷ z ≡ [] = two.1 in absurd cc

  -- where the other phrase was read, this one is refused for want of room alone
  for_depth : (r : Room) (x : X) (w t : List Token) (c : Code) (s : List Token) → K r x w → q r (w ++ t) ≡ Err (c, s) → c ≡ Depth
  for_depth r x w t c s d e = go c e
    where
      none : (c : Code) → Alike c r (up r) → q r (w ++ t) ≡ Err (c, s) → ⊥
      none c al e =
          let f = F.q_refuses r (w ++ t) (c, s) e in
          let R = F.q_reads (up r) in
          not_both (emb x, t) (c, s) (sym (R.complete (emb x) w t (F.embeds r x w d) refl) ∙ (ap (q (up r)) f.parts ∙ f.local (up r) s al refl))

      go : (c : Code) → q r (w ++ t) ≡ Err (c, s) → c ≡ Depth
      go Grammar e = absurd (none Grammar (omega arith, λ i. i) e)
      go Depth e = refl
      go FixityClash e = absurd (none FixityClash (omega arith, refl) e)

  -- ---- what is read

  pub any_mid : (r : Room) (a : A) (s t : List Token) → q r s ≡ Ok (a, t) → head_is op (first t) ≡ true → read_in r s ≡ mids r a t
  any_mid r a s t e i = rw e (rw i refl)

  -- where the other phrase stands and no operator follows, what may follow it is read
  pub through : (r : Room) (x : X) (w t : List Token) → K r x w → head_is op (first t) ≡ false → read_in r (w ++ t) ≡ behinds r x t
  through r x w t d i = go (q r (w ++ t)) refl
    where
      full : k r (w ++ t) ≡ Ok (x, t)
      full = let R = F.k_reads r in R.complete x w t d refl

      go : (a : Answer Token A) → q r (w ++ t) ≡ a → read_in r (w ++ t) ≡ behinds r x t
      go (Ok (a, s)) e =
          let R = F.q_reads r in
          let f = R.sound (w ++ t) (a, s) e in
          let two = one_atom (up r) (emb x) a w f.read t s (F.embeds r x w d) (F.q_mono r (up r) a f.read (omega arith, λ i. i) f.derives) f.parts in
          let quiet : head_is op (first s) ≡ false = ap (λ (z : List Token). head_is op (first z)) (sym two.1) ∙ i in
          rw e (rw quiet (rw full refl))
      go (Err (c, s)) e =
          let deep = for_depth r x w t c s d e in
          let e' : q r (w ++ t) ≡ Err (Depth, s) = e ∙ ap (λ (c : Code). Err (c, s)) deep in
          rw e' (rw full (rw i refl))

  lang_complete : (r : Room) (t : H) (w s : List Token) → Lang r t w → stop (first s) ≡ true → read_in r (w ++ s) ≡ Ok (t, s)
  lang_complete r t w s (inl d) st =
      let j = d.2 in
      let R = F.q_reads r in
      let S = F.m_reads r in
      let whole : w ++ s ≡ j.front ++ (j.back ++ s) = ap (λ (z : List Token). z ++ s) j.whole ∙ append_assoc j.front j.back s in
      let atom : q r (w ++ s) ≡ Ok (d.0.0, j.back ++ s) = ap (q r) whole ∙ R.complete d.0.0 j.front (j.back ++ s) j.left refl in
      let next : head_is op (first (j.back ++ s)) ≡ true = head-append op j.back s (F.m_begins r d.0.1 j.back j.right) in
      any_mid r d.0.0 (w ++ s) (j.back ++ s) atom next ∙ (rw (S.complete d.0.1 j.back s j.right st) refl ∙ ap (λ (t : H). Ok (t, s)) d.1)
  lang_complete r t w s (inr d) st =
      let j = d.2 in
      let S = F.g_reads r d.0.0 in
      let whole : w ++ s ≡ j.front ++ (j.back ++ s) = ap (λ (z : List Token). z ++ s) j.whole ∙ append_assoc j.front j.back s in
      ap (read_in r) whole ∙ (through r d.0.0 j.front (j.back ++ s) j.left (F.g_quiet r d.0.0 d.0.1 j.back s j.right st) ∙ (rw (S.complete d.0.1 j.back s j.right st) refl ∙ ap (λ (t : H). Ok (t, s)) d.1))

  mid_found : (r : Room) (v : List Token) (a : A) (t : List Token) (z : H × List Token) → q r v ≡ Ok (a, t) → mids r a t ≡ Ok z → Found (Lang r) (λ t. stop) v z
  mid_found r v a t z e i =
      let R = F.q_reads r in
      let S = F.m_reads r in
      let f = R.sound v (a, t) e in
      let y = ok_of (m r t) (λ y. Ok (mid (a, y.0), y.1)) z i in
      let h = S.sound t y.0 y.1 in
      let same = ok_is (mid (a, y.0.0), y.0.1) z y.2 in
      subst (λ (z : H × List Token). Found (Lang r) (λ t. stop) v z) same (record {
        read = f.read ++ h.read;
        derives = inl ((a, y.0.0), refl, record { front = f.read; back = h.read; left = f.derives; right = h.derives; whole = refl });
        parts = f.parts ∙ (ap (λ (x : List Token). f.read ++ x) h.parts ∙ sym (append_assoc f.read h.read y.0.1));
        stops = h.stops;
      })

  behind_found : (r : Room) (v : List Token) (x : X) (t : List Token) (z : H × List Token) → k r v ≡ Ok (x, t) → behinds r x t ≡ Ok z → Found (Lang r) (λ t. stop) v z
  behind_found r v x t z e i =
      let R = F.k_reads r in
      let S = F.g_reads r x in
      let f = R.sound v (x, t) e in
      let y = ok_of (g r x t) (λ y. Ok (of (x, y.0), y.1)) z i in
      let h = S.sound t y.0 y.1 in
      let same = ok_is (of (x, y.0.0), y.0.1) z y.2 in
      subst (λ (z : H × List Token). Found (Lang r) (λ t. stop) v z) same (record {
        read = f.read ++ h.read;
        derives = inr ((x, y.0.0), refl, record { front = f.read; back = h.read; left = f.derives; right = h.derives; whole = refl });
        parts = f.parts ∙ (ap (λ (x : List Token). f.read ++ x) h.parts ∙ sym (append_assoc f.read h.read y.0.1));
        stops = h.stops;
      })

  -- how an answer comes about
  pub data Course (r : Room) (v : List Token) (e : Answer Token H) : Type 0 where
    InMid : (a : A) (t : List Token) → q r v ≡ Ok (a, t) → head_is op (first t) ≡ true → mids r a t ≡ e → Course r v e
    InBehind : (x : X) (t : List Token) → k r v ≡ Ok (x, t) → head_is op (first t) ≡ false → behinds r x t ≡ e → Course r v e
    NoFront : (a : A) (t : List Token) (d : Code × List Token) → q r v ≡ Ok (a, t) → head_is op (first t) ≡ false → k r v ≡ Err d → Err (Grammar, t) ≡ e → Course r v e
    Refused : (c : Code) (t : List Token) → q r v ≡ Err (c, t) → (c ≡ Depth → ⊥) → Err (c, t) ≡ e → Course r v e
    NoRoom : (t : List Token) (x : X) (s : List Token) → q r v ≡ Err (Depth, t) → k r v ≡ Ok (x, s) → head_is op (first s) ≡ true → Err (Depth, s) ≡ e → Course r v e
    Near : (t : List Token) (d : Code × List Token) → q r v ≡ Err (Depth, t) → k r v ≡ Err d → ltb (length d.1) (length t) ≡ false → Err (Depth, t) ≡ e → Course r v e
    Farther : (t : List Token) (d : Code × List Token) → q r v ≡ Err (Depth, t) → k r v ≡ Err d → ltb (length d.1) (length t) ≡ true → Err (settled op (mids r) (behinds r) (q (up r) v) d.1, d.1) ≡ e → Course r v e

  pub course : (r : Room) (v : List Token) (e : Answer Token H) → read_in r v ≡ e → Course r v e
  course r v e i = atom (q r v) refl
    where
      front_ok : (a : A) (t : List Token) → q r v ≡ Ok (a, t) → head_is op (first t) ≡ false → (f : Answer Token X) → k r v ≡ f → plain_front op (mids r) (behinds r) f t ≡ e → Course r v e
      front_ok a t j n (Ok (x, s)) l o =
          let R = F.q_reads r in
          let S = F.k_reads r in
          let fa = R.sound v (a, t) j in
          let fx = S.sound v (x, s) l in
          let two = one_atom (up r) a (emb x) fa.read fx.read t s (F.q_mono r (up r) a fa.read (omega arith, λ i. i) fa.derives) (F.embeds r x fx.read fx.derives) (sym fa.parts ∙ fx.parts) in
          InBehind x s l (ap (λ (z : List Token). head_is op (first z)) (sym two.1) ∙ n) o
      front_ok a t j n (Err d) l o = NoFront a t d j n l o

      low : (t : List Token) → q r v ≡ Err (Depth, t) → (f : Answer Token X) → k r v ≡ f → low_front op (mids r) (behinds r) (q (up r) v) f t ≡ e → Course r v e
      low t j (Ok (x, s)) l o =
          elim (chosen (head_is op (first s)) (Err (Depth, s)) (behinds r x s) e o) [
            | inl a ↦ NoRoom t x s j l a.0 a.1
            | inr a ↦ InBehind x s l a.0 a.1
          ]
      low t j (Err d) l o =
          elim (chosen (ltb (length d.1) (length t)) (Err (settled op (mids r) (behinds r) (q (up r) v) d.1, d.1)) (Err (Depth, t)) e o) [
            | inl a ↦ Farther t d j l a.0 a.1
            | inr a ↦ Near t d j l a.0 a.1
          ]

      atom : (a : Answer Token A) → q r v ≡ a → Course r v e
      atom (Ok (a, t)) j =
          let o : head_by op (mids r) (behinds r) (Ok (a, t)) (q (up r) v) (k r v) ≡ e = ap (λ (x : Answer Token A). head_by op (mids r) (behinds r) x (q (up r) v) (k r v)) (sym j) ∙ i in
          elim (chosen (head_is op (first t)) (mids r a t) (plain_front op (mids r) (behinds r) (k r v) t) e o) [
            | inl b ↦ InMid a t j b.0 b.1
            | inr b ↦ front_ok a t j b.0 (k r v) refl b.1
          ]
      atom (Err (Grammar, t)) j = Refused Grammar t j (λ (x : Grammar ≡ Depth). absurd cc) (ap (λ (x : Answer Token A). head_by op (mids r) (behinds r) x (q (up r) v) (k r v)) (sym j) ∙ i)
      atom (Err (Depth, t)) j = low t j (k r v) refl (ap (λ (x : Answer Token A). head_by op (mids r) (behinds r) x (q (up r) v) (k r v)) (sym j) ∙ i)
      atom (Err (FixityClash, t)) j = Refused FixityClash t j (λ (x : FixityClash ≡ Depth). absurd cc) (ap (λ (x : Answer Token A). head_by op (mids r) (behinds r) x (q (up r) v) (k r v)) (sym j) ∙ i)

  lang_sound : (r : Room) (v : List Token) (z : H × List Token) → read_in r v ≡ Ok z → Found (Lang r) (λ t. stop) v z
  lang_sound r v z i = go (course r v (Ok z) i)
    where
      go : Course r v (Ok z) → Found (Lang r) (λ t. stop) v z
      go (InMid a t e n o) = mid_found r v a t z e o
      go (InBehind x t e n o) = behind_found r v x t z e o
      go (NoFront a t d e n l o) = not_both z (Grammar, t) (sym o)
      go (Refused c t e n o) = not_both z (c, t) (sym o)
      go (NoRoom t x s e l n o) = not_both z (Depth, s) (sym o)
      go (Near t d e l n o) = not_both z (Depth, t) (sym o)
      go (Farther t d e l n o) = not_both z (settled op (mids r) (behinds r) (q (up r) v) d.1, d.1) (sym o)

  pub lang_reads : (r : Room) → Reads (Lang r) (λ t. stop) (read_in r)
  lang_reads r = record { complete = lang_complete r; sound = lang_sound r }

  -- ---- fronts of phrases

  atom_then : (r : Room) (a : A) (w u : List Token) → Q r a w → Viable (M r) u → Viable (Lang r) (w ++ u)
  atom_then r a w u d v = record { tree = mid (a, v.tree); more = v.more; derives = inl ((a, v.tree), refl, record { front = w; back = u ++ v.more; left = d; right = v.derives; whole = append_assoc w u v.more }) }

  front_then : (r : Room) (x : X) (w u : List Token) → K r x w → Viable (G r x) u → Viable (Lang r) (w ++ u)
  front_then r x w u d v = record { tree = of (x, v.tree); more = v.more; derives = inr ((x, v.tree), refl, record { front = w; back = u ++ v.more; left = d; right = v.derives; whole = append_assoc w u v.more }) }

  pub atom_front : (r : Room) (u : List Token) → 1 ≤ r.height → Viable (Q r) u → Viable (Lang r) u
  atom_front r u le v =
      let n = F.m_some r le in
      record { tree = mid (v.tree, n.tree); more = v.more ++ n.more; derives = inl ((v.tree, n.tree), refl, record { front = u ++ v.more; back = n.more; left = v.derives; right = n.derives; whole = sym (append_assoc u v.more n.more) }) }

  pub other_front : (r : Room) (u : List Token) → 1 ≤ r.height → Viable (K r) u → Viable (Lang r) u
  other_front r u le v =
      let n = F.g_some r v.tree le in
      record { tree = of (v.tree, n.tree); more = v.more ++ n.more; derives = inr ((v.tree, n.tree), refl, record { front = u ++ v.more; back = n.more; left = v.derives; right = n.derives; whole = sym (append_assoc u v.more n.more) }) }

  mids_err : (r : Room) (a : A) (t : List Token) (e : Code × List Token) → m r t ≡ Err e → mids r a t ≡ Err e
  mids_err r a t e i = rw i refl

  err_mids : (r : Room) (a : A) (t : List Token) (e : Code × List Token) → mids r a t ≡ Err e → m r t ≡ Err e
  err_mids r a t e i = elim (err_of (m r t) (λ y. Ok (mid (a, y.0), y.1)) e i) [ inl z ↦ z | inr z ↦ not_both (mid (a, z.0.0), z.0.1) e z.2 ]

  behinds_err : (r : Room) (x : X) (t : List Token) (e : Code × List Token) → g r x t ≡ Err e → behinds r x t ≡ Err e
  behinds_err r x t e i = rw i refl

  err_behinds : (r : Room) (x : X) (t : List Token) (e : Code × List Token) → behinds r x t ≡ Err e → g r x t ≡ Err e
  err_behinds r x t e i = elim (err_of (g r x t) (λ y. Ok (of (x, y.0), y.1)) e i) [ inl z ↦ z | inr z ↦ not_both (of (x, z.0.0), z.0.1) e z.2 ]

  -- behind the operator
  pub refused_mid : (r : Room) (v : List Token) (e : Code × List Token) → 1 ≤ r.height → (a : A) (t : List Token) → q r v ≡ Ok (a, t) → head_is op (first t) ≡ true → mids r a t ≡ Err e → Refuses Lang read_in r v e
  refused_mid r v e le a t i n j =
      let R = F.q_reads r in
      let f = R.sound v (a, t) i in
      let o = F.m_refuses r t e le (err_mids r a t e j) in
      record {
        read = f.read ++ o.read;
        parts = f.parts ∙ (ap (λ (x : List Token). f.read ++ x) o.parts ∙ sym (append_assoc f.read o.read e.1));
        viable = inr (atom_then r a f.read o.read f.derives (viable_or (M r) o.read (F.m_some r le) o.viable));
        local = λ s p al b.
            let S = F.q_reads s in
            let whole : (f.read ++ o.read) ++ p ≡ f.read ++ (o.read ++ p) = append_assoc f.read o.read p in
            let atom = S.complete a f.read (o.read ++ p) (F.q_mono r s a f.read (alike_le e.0 r s al) f.derives) refl in
            let next : head_is op (first (o.read ++ p)) ≡ true = ap (head_is op) (first-append o.read p e.1 b ∙ ap first (sym o.parts)) ∙ n in
            ap (read_in s) whole ∙ (any_mid s a (f.read ++ (o.read ++ p)) (o.read ++ p) atom next ∙ mids_err s a (o.read ++ p) (e.0, p) (o.local s p al b));
        deep = λ dp. let d = o.deep dp in record {
          room = d.room;
          eased = d.eased;
          token = d.token;
          is = d.is;
          viable = subst (Viable (Lang d.room)) (sym (append_assoc f.read o.read (d.token ∷ []))) (atom_then d.room a f.read (o.read ++ d.token ∷ []) (F.q_mono r d.room a f.read (eased_under e.0 r d.room d.eased) f.derives) d.viable);
        };
      }

  -- behind the other phrase
  pub refused_behind : (r : Room) (v : List Token) (e : Code × List Token) → 1 ≤ r.height → (x : X) (t : List Token) → k r v ≡ Ok (x, t) → head_is op (first t) ≡ false → behinds r x t ≡ Err e → Refuses Lang read_in r v e
  refused_behind r v e le x t i n j =
      let R = F.k_reads r in
      let f = R.sound v (x, t) i in
      let o = F.g_refuses r x t e le (err_behinds r x t e j) in
      record {
        read = f.read ++ o.read;
        parts = f.parts ∙ (ap (λ (x : List Token). f.read ++ x) o.parts ∙ sym (append_assoc f.read o.read e.1));
        viable = inr (front_then r x f.read o.read f.derives (viable_or (G r x) o.read (F.g_some r x le) o.viable));
        local = λ s p al b.
            let whole : (f.read ++ o.read) ++ p ≡ f.read ++ (o.read ++ p) = append_assoc f.read o.read p in
            let next : head_is op (first (o.read ++ p)) ≡ false = ap (head_is op) (first-append o.read p e.1 b ∙ ap first (sym o.parts)) ∙ n in
            ap (read_in s) whole ∙ (through s x f.read (o.read ++ p) (F.k_mono r s x f.read (alike_le e.0 r s al) f.derives) next ∙ behinds_err s x (o.read ++ p) (e.0, p) (o.local s p al b));
        deep = λ dp. let d = o.deep dp in record {
          room = d.room;
          eased = d.eased;
          token = d.token;
          is = d.is;
          viable = subst (Viable (Lang d.room)) (sym (append_assoc f.read o.read (d.token ∷ []))) (front_then d.room x f.read (o.read ++ d.token ∷ []) (F.k_mono r d.room x f.read (eased_under e.0 r d.room d.eased) f.derives) d.viable);
        };
      }

  -- the phrase is there, but no operator, and nothing else has its tokens
  pub refused_plain : (r : Room) (v : List Token) (a : A) (t : List Token) (d : Code × List Token) → 1 ≤ r.height → q r v ≡ Ok (a, t) → head_is op (first t) ≡ false → k r v ≡ Err d → Refuses Lang read_in r v (Grammar, t)
  refused_plain r v a t d le i n j =
      let R = F.q_reads r in
      let f = R.sound v (a, t) i in
      record {
        read = f.read;
        parts = f.parts;
        viable = inr (atom_front r f.read le (record { tree = a; more = []; derives = subst (Q r a) (sym (append-nil f.read)) f.derives }));
        local = λ s p al b. go s p al b (k s (f.read ++ p)) refl;
        deep = λ dp. absurd (dp refl);
      }
    where
      go : (s : Room) (p : List Token) → Under r s → first p ≡ first t → (c : Answer Token X)
          → (let R = F.q_reads r in let f = R.sound v (a, t) i in k s (f.read ++ p) ≡ c → read_in s (f.read ++ p) ≡ Err (Grammar, p))
      go s p al b (Ok (x, u)) l =
          let R = F.q_reads r in
          let f = R.sound v (a, t) i in
          let S = F.k_reads s in
          let h = S.sound (f.read ++ p) (x, u) l in
          let two = one_atom (up s) a (emb x) f.read h.read p u (F.q_mono r (up s) a f.read (let y = al.0 in omega arith, al.1) f.derives) (F.embeds s x h.read h.derives) h.parts in
          let y = F.inverse r x f.read (subst (λ (z : A). Q r z f.read) two.0 f.derives) in
          let T = F.k_reads r in
          let full = T.complete y.0 f.read t y.1 refl in
          not_both (y.0, t) d (sym full ∙ (ap (k r) (sym f.parts) ∙ j))
      go s p al b (Err c) l =
          let R = F.q_reads r in
          let f = R.sound v (a, t) i in
          let S = F.q_reads s in
          let atom = S.complete a f.read p (F.q_mono r s a f.read al f.derives) refl in
          let quiet : head_is op (first p) ≡ false = ap (head_is op) b ∙ n in
          rw atom (rw quiet (rw l refl))

  -- the phrase is refused, and not for want of room
  pub refused_first : (r : Room) (v : List Token) (c : Code) (t : List Token) → 1 ≤ r.height → q r v ≡ Err (c, t) → (c ≡ Depth → ⊥) → Refuses Lang read_in r v (c, t)
  refused_first r v c t le i n =
      let f = F.q_refuses r v (c, t) i in
      record {
        read = f.read;
        parts = f.parts;
        viable = elim f.viable [ inl z ↦ inl z | inr x ↦ inr (atom_front r f.read le x) ];
        local = λ s p al b. go s c n (f.read ++ p) p (f.local s p al b);
        deep = λ dp. let d = f.deep dp in record { room = d.room; eased = d.eased; token = d.token; is = d.is; viable = atom_front d.room (f.read ++ d.token ∷ []) (let y = eased_under c r d.room d.eased in let z = y.0 in omega arith) d.viable };
      }
    where
      go : (s : Room) (c : Code) → (c ≡ Depth → ⊥) → (u p : List Token) → q s u ≡ Err (c, p) → read_in s u ≡ Err (c, p)
      go s Grammar n u p i = rw i refl
      go s Depth n u p i = absurd (n refl)
      go s FixityClash n u p i = rw i refl

  -- ---- the phrase is refused for want of room

  -- a front that goes on behind a front
  pub shorter : (r : Room) (u : List Token) (c : Token) (z : List Token) → Viable (Q r) (u ++ c ∷ z) → Viable (Q r) (u ++ c ∷ [])
  shorter r u c z v = record { tree = v.tree; more = z ++ v.more; derives = subst (Q r v.tree) (append_assoc u (c ∷ z) v.more ∙ sym (append_assoc u (c ∷ []) (z ++ v.more))) v.derives }

  pub not_behind : (r s : Room) (x : X) (w : List Token) (c : Token) (z : List Token) → K r x w → Viable (Q s) (w ++ c ∷ z) → ⊥
  not_behind r s x w c z d v = no_longer (up r) s (emb x) v.tree w c (z ++ v.more) (F.embeds r x w d) (subst (Q s v.tree) (append_assoc w (c ∷ z) v.more) v.derives)

  pub no_nil : (u : List Token) (c : Token) (z : List Token) → u ++ c ∷ z ≡ [] → ⊥
  no_nil [] c z e = absurd cc
  no_nil (d ∷ u) c z e = absurd cc

  -- the other phrase was read, and an operator follows
  pub refused_there : (r : Room) (v : List Token) (t : List Token) (x : X) (s : List Token) → 1 ≤ r.height → q r v ≡ Err (Depth, t) → k r v ≡ Ok (x, s) → head_is op (first s) ≡ true → Refuses Lang read_in r v (Depth, s)
  refused_there r v t x s le i j n =
      record {
        read = h.read;
        parts = h.parts;
        viable = inr (other_front r h.read le (record { tree = x; more = []; derives = subst (K r x) (sym (append-nil h.read)) h.derives }));
        local = λ y p al b. subst (λ (y : Room). read_in y (h.read ++ p) ≡ Err (Depth, p)) (sym al) (here p b);
        deep = λ dp.
            let c = head_some op (first s) n in
            record { room = up r; eased = (omega arith, refl); token = c.0; is = c.1; viable = atom_then (up r) (emb x) h.read (c.0 ∷ []) (F.embeds r x h.read h.derives) (F.m_starts (up r) c.0 (omega arith) c.2) };
      }
    where
      f : Refuses Q q r v (Depth, t)
      f = F.q_refuses r v (Depth, t) i

      h : Found (K r) always v (x, s)
      h = let R = F.k_reads r in R.sound v (x, s) j

      before : Before f.read t h.read s
      before = go (cut f.read t h.read s (sym f.parts ∙ h.parts))
        where
          go : Before f.read t h.read s ⊎ Behind f.read t h.read s → Before f.read t h.read s
          go (inl b) = b
          go (inr b) = longer b.rest b.longer b.tail
            where
              longer : (z : List Token) → f.read ≡ h.read ++ z → s ≡ z ++ t → Before f.read t h.read s
              longer [] e l =
                  let d = f.deep (λ (x : Depth ≡ Grammar). absurd cc) in
                  absurd (not_behind r d.room x h.read d.token [] h.derives (subst (λ (z : List Token). Viable (Q d.room) (z ++ d.token ∷ [])) (e ∙ append-nil h.read) d.viable))
              longer (c ∷ z) e l = elim f.viable [
                | inl o ↦ absurd (no_nil h.read c z (sym e ∙ o))
                | inr o ↦ absurd (not_behind r r x h.read c z h.derives (subst (Viable (Q r)) e o))
              ]

      here : (p : List Token) → first p ≡ first s → read_in r (h.read ++ p) ≡ Err (Depth, p)
      here p b =
          let rest : List Token = before.item ∷ (before.rest ++ p) in
          let whole : h.read ++ p ≡ f.read ++ rest = ap (λ (z : List Token). z ++ p) before.longer ∙ append_assoc f.read (before.item ∷ before.rest) p in
          let atom : q r (h.read ++ p) ≡ Err (Depth, rest) = ap (q r) whole ∙ f.local r rest refl (sym (ap first before.tail)) in
          let R = F.k_reads r in
          let front : k r (h.read ++ p) ≡ Ok (x, p) = R.complete x h.read p h.derives refl in
          let next : head_is op (first p) ≡ true = ap (head_is op) b ∙ n in
          rw atom (rw front (rw next refl))

  pub longer_by : (z s : List Token) → length (z ++ s) ≡ length z + length s
  longer_by z s = length-append z s

  -- the other phrase was refused no later
  pub refused_near : (r : Room) (v : List Token) (t : List Token) (d : Code × List Token) → 1 ≤ r.height → q r v ≡ Err (Depth, t) → k r v ≡ Err d → ltb (length d.1) (length t) ≡ false → Refuses Lang read_in r v (Depth, t)
  refused_near r v t d le i j n =
      record {
        read = f.read;
        parts = f.parts;
        viable = elim f.viable [ inl z ↦ inl z | inr x ↦ inr (atom_front r f.read le x) ];
        local = λ y p al b. subst (λ (y : Room). read_in y (f.read ++ p) ≡ Err (Depth, p)) (sym al) (here p b (cut o.read d.1 f.read t (sym o.parts ∙ f.parts)));
        deep = λ dp. let g = f.deep dp in record { room = g.room; eased = g.eased; token = g.token; is = g.is; viable = atom_front g.room (f.read ++ g.token ∷ []) (let y = g.eased in let z = y.0 in omega arith) g.viable };
      }
    where
      f : Refuses Q q r v (Depth, t)
      f = F.q_refuses r v (Depth, t) i

      o : Refuses K k r v d
      o = F.k_refuses r v d le j

      finish : (p : List Token) (c : Code) (s : List Token) → first p ≡ first t → k r (f.read ++ p) ≡ Err (c, s) → ltb (length s) (length p) ≡ false → read_in r (f.read ++ p) ≡ Err (Depth, p)
      finish p c s b e l = let atom = f.local r p refl b in rw atom (rw e (rw l refl))

      here : (p : List Token) → first p ≡ first t → Before o.read d.1 f.read t ⊎ Behind o.read d.1 f.read t → read_in r (f.read ++ p) ≡ Err (Depth, p)
      here p b (inl x) =
          let s : List Token = x.item ∷ (x.rest ++ p) in
          let whole : f.read ++ p ≡ o.read ++ s = ap (λ (z : List Token). z ++ p) x.longer ∙ append_assoc o.read (x.item ∷ x.rest) p in
          finish p d.0 s b (ap (k r) whole ∙ o.local r s (alike_self d.0 r) (sym (ap first x.tail))) (le-ltb (length s) (length p) (let y = longer_by x.rest p in omega arith))
      here p b (inr x) = same x.rest x.longer x.tail
        where
          same : (z : List Token) → o.read ≡ f.read ++ z → t ≡ z ++ d.1 → read_in r (f.read ++ p) ≡ Err (Depth, p)
          same [] e l =
              let read : o.read ≡ f.read = e ∙ append-nil f.read in
              finish p d.0 p b (ap (λ (z : List Token). k r (z ++ p)) (sym read) ∙ o.local r p (alike_self d.0 r) (b ∙ ap first l)) (le-ltb (length p) (length p) (omega arith))
          same (c ∷ z) e l =
              let far : ltb (length d.1) (length t) ≡ true = ap (λ (y : List Token). ltb (length d.1) (length y)) l ∙ lt-ltb (length d.1) (length (c ∷ (z ++ d.1))) (let y = longer_by z d.1 in omega arith) in
              let no : true ≡ false = sym far ∙ n in absurd cc
