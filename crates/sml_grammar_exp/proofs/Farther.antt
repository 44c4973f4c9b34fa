-- The last case of `Fronts`: there is no room for the phrase, and the other one was refused behind that place.
use Rattle.std.proofs.Common.{◌≡◌, ◌⊎◌, if◌then◌else◌, suc, ◌+◌, ◌≤◌, ◌<◌, Bool, true, false, ltb, eqb, List, [], ◌∷◌, ◌++◌, length, Option, Some, Ok, Err, refl, sym, ap, subst, ◌∙◌, arith, append_assoc, inl, inr}
use Rattle.std.proofs.lemmas.List.{append-nil}
use Rattle.std.proofs.lemmas.Bool.{ltb-true, lt-ltb, eqb-true, eq-eqb}
use Rattle.readers.specs.declared.code.Code.{Code}
use Rattle.readers.specs.declared.code.Code.TheVariants.{Grammar, Depth, FixityClash}
use Rattle.readers.specs.Reader.{first, Answer, Reader}
use Rattle.readers.specs.Language.{Viable}
use Rattle.readers.specs.Room.{Room, at_height, Under, Higher, Alike, Eased}
use Rattle.readers.specs.Exact.{Found, Refuses, Goes, always}
use Rattle.readers.proofs.Once.{err_is, the_err as an_err}
use Rattle.readers.proofs.Outcome.{not_both}
use Rattle.sml_lex.specs.declared.token.Token.{Token}
use Rattle.sml_grammar_exp.specs.ReadClauses.{settled}
use Rattle.sml_grammar_exp.proofs.TwoTokens.{alike_self}
use Rattle.sml_grammar_exp.proofs.Lists.{Before, Behind, cut}
use Rattle.sml_grammar_exp.proofs.Fronts.{Fronts, up, Lang, read_in, mids, behinds, above, no_longer, shorter, no_nil, longer_by, atom_front, other_front, Course, course, refused_mid, refused_behind, refused_plain, refused_first, refused_there, refused_near}

module _ {A X N Y H : Type 0} {op : Token → Bool} {stop : Option Token → Bool} {Q : Room → A → List Token → Type 0} {q : Room → Reader Token A} {K : Room → X → List Token → Type 0} {k : Room → Reader Token X}
    {M : Room → N → List Token → Type 0} {m : Room → Reader Token N} {G : Room → X → Y → List Token → Type 0} {g : Room → X → Reader Token Y} {emb : X → A} (F : Fronts op stop Q q K k M m G g emb) (mid : A × N → H) (of : X × Y → H) where
  -- both refusals, and that the second stands farther
  record Ahead (r : Room) (v : List Token) (d : Code × List Token) : Type 0 where
    back : List Token
    item : Token
    rest : List Token
    read : List Token
    parts : v ≡ read ++ d.1
    longer : read ≡ back ++ item ∷ rest
    q_local : (p : List Token) → first p ≡ Some item → q r (back ++ p) ≡ Err (Depth, p)
    k_local : (s : Room) (p : List Token) → Alike d.0 r s → first p ≡ first d.1 → k s (read ++ p) ≡ Err (d.0, p)
    k_deep : (d.0 ≡ Grammar → ⊥) → Goes K d.0 r read d.1
    viable : Viable (K r) read
    -- the phrase that begins so in more room
    tree : A
    next : Token
    others : List Token
    big : Q (up r) tree (read ++ next ∷ others)

  ahead : (r : Room) (v : List Token) (t : List Token) (d : Code × List Token) → 1 ≤ r.height → q r v ≡ Err (Depth, t) → k r v ≡ Err d → ltb (length d.1) (length t) ≡ true → Ahead r v d
  ahead r v t d le i j far = go (cut o.read d.1 f.read t (sym o.parts ∙ f.parts))
    where
      f : Refuses Q q r v (Depth, t)
      f = F.q_refuses r v (Depth, t) i

      o : Refuses K k r v d
      o = F.k_refuses r v d le j

      less : length d.1 < length t
      less = ltb-true (length d.1) (length t) far

      whole : Viable (K r) o.read → (x : X) × (c : Token) × (z : List Token) × K r x (o.read ++ c ∷ z)
      whole y = by_more y.more y.derives
        where
          by_more : (z : List Token) → K r y.tree (o.read ++ z) → (x : X) × (c : Token) × (z : List Token) × K r x (o.read ++ c ∷ z)
          by_more [] e =
              let R = F.k_reads r in
              let full = R.complete y.tree o.read d.1 (subst (K r y.tree) (append-nil o.read) e) refl in
              not_both (y.tree, d.1) d (sym full ∙ (ap (k r) (sym o.parts) ∙ j))
          by_more (c ∷ z) e = (y.tree, c, z, e)

      build : (c : Token) (z : List Token) → o.read ≡ f.read ++ c ∷ z → t ≡ c ∷ (z ++ d.1) → Viable (K r) o.read → Ahead r v d
      build c z e l y =
          let w = whole y in
          record {
            back = f.read;
            item = c;
            rest = z;
            read = o.read;
            parts = o.parts;
            longer = e;
            q_local = λ p b. f.local r p refl (b ∙ sym (ap first l));
            k_local = o.local;
            k_deep = o.deep;
            viable = y;
            tree = emb w.0;
            next = w.1;
            others = w.2;
            big = F.embeds r w.0 (o.read ++ w.1 ∷ w.2) w.3;
          }

      go : Before o.read d.1 f.read t ⊎ Behind o.read d.1 f.read t → Ahead r v d
      go (inl b) = let e = ap length b.tail in let l = longer_by F mid of b.rest t in absurd (omega (arith, e, l, less))
      go (inr b) = by_rest b.rest b.longer b.tail
        where
          by_rest : (z : List Token) → o.read ≡ f.read ++ z → t ≡ z ++ d.1 → Ahead r v d
          by_rest [] e l = let x = ap length l in absurd (omega (arith, x, less))
          by_rest (c ∷ z) e l = elim o.viable [
            | inl y ↦ absurd (no_nil F mid of f.read c z (sym e ∙ y))
            | inr y ↦ build c z e l y
          ]

  module _ (r : Room) (v : List Token) (d : Code × List Token) (le : 1 ≤ r.height) (a : Ahead r v d) where
    -- no phrase of the room goes on there
    abbrev Dead : Room → Type 0
    Dead s = (c : Token) → first d.1 ≡ Some c → Viable (Q s) (a.read ++ c ∷ []) → ⊥

    -- rooms as high, of these clashes
    abbrev with_all : Room → Room
    with_all s = at_height (s.height + suc (suc (suc r.height))) s.clashes

    big_in : (s : Room) → (r.clashes ≡ true → s.clashes ≡ true) → Q (with_all s) a.tree (a.read ++ a.next ∷ a.others)
    big_in s c = F.q_mono (up r) (with_all s) a.tree (a.read ++ a.next ∷ a.others) (omega arith, c) a.big

    -- a refusal before that place is for want of room
    early : (s : Room) (p : List Token) (c : Code) (t : List Token) → (r.clashes ≡ true → s.clashes ≡ true) → (f : Refuses Q q s (a.read ++ p) (c, t)) → Before f.read t a.read p → c ≡ Depth
    early s p c t cl f b = go c f b
      where
        none : (c : Code) (f : Refuses Q q s (a.read ++ p) (c, t)) → Before f.read t a.read p → Alike c s (with_all s) → ⊥
        none c f b al =
            let z : List Token = a.next ∷ a.others in
            let R = F.q_reads (with_all s) in
            let full = R.complete a.tree (a.read ++ z) [] (big_in s cl) refl in
            let cuts : (a.read ++ z) ++ [] ≡ f.read ++ (b.item ∷ (b.rest ++ z)) = append-nil (a.read ++ z) ∙ (ap (λ (y : List Token). y ++ z) b.longer ∙ append_assoc f.read (b.item ∷ b.rest) z) in
            not_both (a.tree, []) (c, b.item ∷ (b.rest ++ z)) (sym full ∙ (ap (q (with_all s)) cuts ∙ f.local (with_all s) (b.item ∷ (b.rest ++ z)) al (sym (ap first b.tail))))

        go : (c : Code) (f : Refuses Q q s (a.read ++ p) (c, t)) → Before f.read t a.read p → c ≡ Depth
        go Grammar f b = absurd (none Grammar f b (omega arith, λ e. e))
        go Depth f b = refl
        go FixityClash f b = absurd (none FixityClash f b (omega arith, refl))

    -- nor is a phrase read there
    unread : (s : Room) (p : List Token) (x : A) (t : List Token) → Dead s → first p ≡ first d.1 → q s (a.read ++ p) ≡ Ok (x, t) → ⊥
    unread s p x t dead b i = go (cut f.read t a.read p (sym f.parts))
      where
        f : Found (Q s) always (a.read ++ p) (x, t)
        f = let R = F.q_reads s in R.sound (a.read ++ p) (x, t) i

        go : Before f.read t a.read p ⊎ Behind f.read t a.read p → ⊥
        go (inl y) = no_longer F mid of s (up r) x a.tree f.read y.item (y.rest ++ a.next ∷ a.others) f.derives
            (subst (Q (up r) a.tree) (ap (λ (z : List Token). z ++ a.next ∷ a.others) y.longer ∙ append_assoc f.read (y.item ∷ y.rest) (a.next ∷ a.others)) a.big)
        go (inr y) = by_rest y.rest y.longer y.tail
          where
            by_rest : (z : List Token) → f.read ≡ a.read ++ z → p ≡ z ++ t → ⊥
            by_rest [] e l = no_longer F mid of s (up r) x a.tree a.read a.next a.others (subst (Q s x) (e ∙ append-nil a.read) f.derives) a.big
            by_rest (c ∷ z) e l = dead c (sym b ∙ ap first l) (shorter F mid of s a.read c z (record { tree = x; more = []; derives = subst (Q s x) (e ∙ sym (append-nil (a.read ++ c ∷ z))) f.derives }))

    -- where the answer is settled by the phrase in more room
    settles : (s : Room) (p : List Token) (c : Code) (dk : Code) → (c ≡ Depth → ⊥) → (r.clashes ≡ true → s.clashes ≡ true) → Dead s → first p ≡ first d.1 → q (up s) (a.read ++ p) ≡ Err (c, p) → k s (a.read ++ p) ≡ Err (dk, p)
        → ((c' : Code) (f : Refuses Q q s (a.read ++ p) (c', p)) → f.read ≡ a.read → c' ≡ c) → read_in F mid of s (a.read ++ p) ≡ Err (c, p)
    settles s p c dk nd cl dead b hi kl own = atom (q s (a.read ++ p)) refl
      where
        exact : (c' : Code) → c' ≡ c → q s (a.read ++ p) ≡ Err (c', p) → read_in F mid of s (a.read ++ p) ≡ Err (c, p)
        exact c' same i = by_code c nd (i ∙ ap (λ (x : Code). Err (x, p)) same)
          where
            by_code : (c : Code) → (c ≡ Depth → ⊥) → q s (a.read ++ p) ≡ Err (c, p) → read_in F mid of s (a.read ++ p) ≡ Err (c, p)
            by_code Grammar n i = rw i refl
            by_code Depth n i = absurd (n refl)
            by_code FixityClash n i = rw i refl

        low : (t : List Token) → q s (a.read ++ p) ≡ Err (Depth, t) → length p < length t → read_in F mid of s (a.read ++ p) ≡ Err (c, p)
        low t i l =
            let far : ltb (length p) (length t) ≡ true = lt-ltb (length p) (length t) l in
            let same : eqb (length p) (length p) ≡ true = eq-eqb (length p) (length p) refl in
            rw i (rw kl (rw far (rw hi (rw same refl))))

        atom : (y : Answer Token A) → q s (a.read ++ p) ≡ y → read_in F mid of s (a.read ++ p) ≡ Err (c, p)
        atom (Ok (x, t)) i = absurd (unread s p x t dead b i)
        atom (Err (c', t)) i = by_cut (cut f.read t a.read p (sym f.parts))
          where
            f : Refuses Q q s (a.read ++ p) (c', t)
            f = F.q_refuses s (a.read ++ p) (c', t) i

            by_cut : Before f.read t a.read p ⊎ Behind f.read t a.read p → read_in F mid of s (a.read ++ p) ≡ Err (c, p)
            by_cut (inl y) =
                let deep = early s p c' t cl f y in
                let e = ap length y.tail in
                let l = longer_by F mid of y.rest p in
                low t (i ∙ ap (λ (x : Code). Err (x, t)) deep) (omega (arith, e, l))
            by_cut (inr y) = by_rest y.rest y.longer y.tail
              where
                by_rest : (z : List Token) → f.read ≡ a.read ++ z → p ≡ z ++ t → read_in F mid of s (a.read ++ p) ≡ Err (c, p)
                by_rest [] e l =
                    let i' : q s (a.read ++ p) ≡ Err (c', p) = i ∙ ap (λ (x : List Token). Err (c', x)) (sym l) in
                    let f' = F.q_refuses s (a.read ++ p) (c', p) i' in
                    exact c' (at_place f' (cut f'.read p a.read p (sym f'.parts))) i'
                  where
                    at_place : (f' : Refuses Q q s (a.read ++ p) (c', p)) → Before f'.read p a.read p ⊎ Behind f'.read p a.read p → c' ≡ c
                    at_place f' (inl y) = let e = ap length y.tail in let l = longer_by F mid of y.rest p in absurd (omega (arith, e, l))
                    at_place f' (inr y) = own c' f' (y.longer ∙ (ap (λ (z : List Token). a.read ++ z) (nothing_more y.rest y.tail) ∙ append-nil a.read))
                      where
                        nothing_more : (z : List Token) → p ≡ z ++ p → z ≡ []
                        nothing_more [] e = refl
                        nothing_more (c ∷ z) e = let x = ap length e in let l = longer_by F mid of z p in absurd (omega (arith, x, l))
                by_rest (c ∷ z) e l = elim f.viable [
                  | inl o ↦ absurd (no_nil F mid of a.read c z (sym e ∙ o))
                  | inr o ↦ absurd (dead c (sym b ∙ ap first l) (shorter F mid of s a.read c z (subst (Viable (Q s)) e o)))
                ]

    -- ---- where no room lets the phrase go on

    module _ (hi : Refuses Q q (up r) v (Grammar, d.1)) (place : hi.read ≡ a.read) where
      at_all : (s : Room) (p : List Token) → Under (up r) s → first p ≡ first d.1 → q s (a.read ++ p) ≡ Err (Grammar, p)
      at_all s p al b = ap (λ (z : List Token). q s (z ++ p)) (sym place) ∙ hi.local s p al b

      dead_all : (s : Room) → Dead s
      dead_all s c e y =
          let j : Room = above F mid of (up r) s in
          let R = F.q_reads j in
          let full = R.complete y.tree ((a.read ++ c ∷ []) ++ y.more) [] (F.q_mono s j y.tree ((a.read ++ c ∷ []) ++ y.more) (omega arith, λ i. refl) y.derives) refl in
          let cuts : ((a.read ++ c ∷ []) ++ y.more) ++ [] ≡ a.read ++ (c ∷ y.more) = append-nil ((a.read ++ c ∷ []) ++ y.more) ∙ append_assoc a.read (c ∷ []) y.more in
          not_both (y.tree, []) (Grammar, c ∷ y.more) (sym full ∙ (ap (q j) cuts ∙ at_all j (c ∷ y.more) (omega arith, λ i. refl) (sym e)))

      grammar_far : (s : Room) (p : List Token) → Under r s → first p ≡ first d.1 → read_in F mid of s (a.read ++ p) ≡ Err (Grammar, p)
      grammar_far s p al b = settles s p Grammar d.0 (λ (x : Grammar ≡ Depth). absurd cc) al.1 (dead_all s) b (at_all (up s) p (let y = al.0 in omega arith, al.1) b) (other d refl) own
        where
          other : (e : Code × List Token) → d ≡ e → k s (a.read ++ p) ≡ Err (d.0, p)
          other (Grammar, t) i = a.k_local s p (subst (λ (c : Code). Alike c r s) (sym (ap (λ (e : Code × List Token). e.0) i)) al) b
          other (Depth, t) i = go_on (λ (x : d.0 ≡ Grammar). let y : Depth ≡ Grammar = sym (ap (λ (e : Code × List Token). e.0) i) ∙ x in absurd cc)
            where
              go_on : (d.0 ≡ Grammar → ⊥) → k s (a.read ++ p) ≡ Err (d.0, p)
              go_on n = let w = a.k_deep n in let y = w.viable in absurd (dead_all (up w.room) w.token w.is (record { tree = emb y.tree; more = y.more; derives = F.embeds w.room y.tree ((a.read ++ w.token ∷ []) ++ y.more) y.derives }))
          other (FixityClash, t) i = go_on (λ (x : d.0 ≡ Grammar). let y : FixityClash ≡ Grammar = sym (ap (λ (e : Code × List Token). e.0) i) ∙ x in absurd cc)
            where
              go_on : (d.0 ≡ Grammar → ⊥) → k s (a.read ++ p) ≡ Err (d.0, p)
              go_on n = let w = a.k_deep n in let y = w.viable in absurd (dead_all (up w.room) w.token w.is (record { tree = emb y.tree; more = y.more; derives = F.embeds w.room y.tree ((a.read ++ w.token ∷ []) ++ y.more) y.derives }))

          own : (c' : Code) (f : Refuses Q q s (a.read ++ p) (c', p)) → f.read ≡ a.read → c' ≡ Grammar
          own Grammar f e = refl
          own Depth f e = let w = f.deep (λ (x : Depth ≡ Grammar). absurd cc) in absurd (dead_all w.room w.token (sym b ∙ w.is) (subst (λ (z : List Token). Viable (Q w.room) (z ++ w.token ∷ [])) e w.viable))
          own FixityClash f e = let w = f.deep (λ (x : FixityClash ≡ Grammar). absurd cc) in absurd (dead_all w.room w.token (sym b ∙ w.is) (subst (λ (z : List Token). Viable (Q w.room) (z ++ w.token ∷ [])) e w.viable))

    -- ---- where it goes on if operators may clash

    module _ (hi : Refuses Q q (up r) v (FixityClash, d.1)) (place : hi.read ≡ a.read) where
      at_higher : (s : Room) (p : List Token) → Higher (up r) s → first p ≡ first d.1 → q s (a.read ++ p) ≡ Err (FixityClash, p)
      at_higher s p al b = ap (λ (z : List Token). q s (z ++ p)) (sym place) ∙ hi.local s p al b

      dead_alike : (s : Room) → s.clashes ≡ r.clashes → Dead s
      dead_alike s same c e y =
          let j : Room = at_height (s.height + suc (suc (suc r.height))) r.clashes in
          let R = F.q_reads j in
          let full = R.complete y.tree ((a.read ++ c ∷ []) ++ y.more) [] (F.q_mono s j y.tree ((a.read ++ c ∷ []) ++ y.more) (omega arith, λ i. sym same ∙ i) y.derives) refl in
          let cuts : ((a.read ++ c ∷ []) ++ y.more) ++ [] ≡ a.read ++ (c ∷ y.more) = append-nil ((a.read ++ c ∷ []) ++ y.more) ∙ append_assoc a.read (c ∷ []) y.more in
          not_both (y.tree, []) (FixityClash, c ∷ y.more) (sym full ∙ (ap (q j) cuts ∙ at_higher j (c ∷ y.more) (omega arith, refl) (sym e)))

      clash_far : (s : Room) (p : List Token) → Higher r s → first p ≡ first d.1 → read_in F mid of s (a.read ++ p) ≡ Err (FixityClash, p)
      clash_far s p al b = settles s p FixityClash d.0 (λ (x : FixityClash ≡ Depth). absurd cc) (λ i. al.1 ∙ i) (dead_alike s al.1) b (at_higher (up s) p (let y = al.0 in omega arith, al.1) b) (other d refl) own
        where
          other : (e : Code × List Token) → d ≡ e → k s (a.read ++ p) ≡ Err (d.0, p)
          other (Grammar, t) i = a.k_local s p (subst (λ (c : Code). Alike c r s) (sym (ap (λ (e : Code × List Token). e.0) i)) (al.0, λ x. al.1 ∙ x)) b
          other (FixityClash, t) i = a.k_local s p (subst (λ (c : Code). Alike c r s) (sym (ap (λ (e : Code × List Token). e.0) i)) al) b
          other (Depth, t) i =
              let w = a.k_deep (λ (x : d.0 ≡ Grammar). let y : Depth ≡ Grammar = sym (ap (λ (e : Code × List Token). e.0) i) ∙ x in absurd cc) in
              let y = w.viable in
              let ease : Eased Depth r w.room = subst (λ (c : Code). Eased c r w.room) (ap (λ (e : Code × List Token). e.0) i) w.eased in
              absurd (dead_alike (up w.room) ease.1 w.token w.is (record { tree = emb y.tree; more = y.more; derives = F.embeds w.room y.tree ((a.read ++ w.token ∷ []) ++ y.more) y.derives }))

          own : (c' : Code) (f : Refuses Q q s (a.read ++ p) (c', p)) → f.read ≡ a.read → c' ≡ FixityClash
          own FixityClash f e = refl
          own Depth f e = let w = f.deep (λ (x : Depth ≡ Grammar). absurd cc) in let ease = w.eased in absurd (dead_alike w.room (ease.1 ∙ al.1) w.token (sym b ∙ w.is) (subst (λ (z : List Token). Viable (Q w.room) (z ++ w.token ∷ [])) e w.viable))
          own Grammar f e =
              let w = hi.deep (λ (x : FixityClash ≡ Grammar). absurd cc) in
              let y = w.viable in
              let j : Room = above F mid of s w.room in
              let R = F.q_reads j in
              let u : List Token = (a.read ++ w.token ∷ []) ++ y.more in
              let full = R.complete y.tree u [] (F.q_mono w.room j y.tree u (omega arith, λ i. refl) (subst (λ (z : List Token). Q w.room y.tree ((z ++ w.token ∷ []) ++ y.more)) place y.derives)) refl in
              let cuts : u ++ [] ≡ f.read ++ (w.token ∷ y.more) = append-nil u ∙ (append_assoc a.read (w.token ∷ []) y.more ∙ ap (λ (z : List Token). z ++ w.token ∷ y.more) (sym e)) in
              not_both (y.tree, []) (Grammar, w.token ∷ y.more) (sym full ∙ (ap (q j) cuts ∙ f.local j (w.token ∷ y.more) (omega arith, λ i. refl) (sym (b ∙ w.is))))

    -- ---- where it goes on in more room

    abbrev answer : List Token → Code
    answer p = settled op (mids F mid of r) (behinds F mid of r) (q (up r) (a.read ++ p)) p

    module _ (low : answer d.1 ≡ Depth) where
      still_low : (p : List Token) → first p ≡ first d.1 → answer p ≡ Depth
      still_low p b = go (q (up r) (a.read ++ p)) refl
        where
          go : (y : Answer Token A) → q (up r) (a.read ++ p) ≡ y → settled op (mids F mid of r) (behinds F mid of r) y p ≡ Depth
          go (Ok x) i = refl
          go (Err (c, t)) i = by_length (eqb (length t) (length p)) refl
            where
              by_length : (l : Bool) → eqb (length t) (length p) ≡ l → (if l then c else Depth) ≡ Depth
              by_length false l = refl
              by_length true l = at_place (cut f.read t a.read p (sym f.parts))
                where
                  f : Refuses Q q (up r) (a.read ++ p) (c, t)
                  f = F.q_refuses (up r) (a.read ++ p) (c, t) i

                  same : length t ≡ length p
                  same = eqb-true (length t) (length p) l

                  at_place : Before f.read t a.read p ⊎ Behind f.read t a.read p → c ≡ Depth
                  at_place (inl y) = let e = ap length y.tail in let x = longer_by F mid of y.rest p in absurd (omega (arith, e, x, same))
                  at_place (inr y) = by_rest y.rest y.longer y.tail
                    where
                      by_rest : (z : List Token) → f.read ≡ a.read ++ z → p ≡ z ++ t → c ≡ Depth
                      by_rest [] e x =
                          let read : a.read ≡ f.read = sym (e ∙ append-nil a.read) in
                          let here : q (up r) (a.read ++ d.1) ≡ Err (c, d.1) = ap (λ (z : List Token). q (up r) (z ++ d.1)) read ∙ f.local (up r) d.1 (alike_self c (up r)) (sym b ∙ ap first x) in
                          let yes : eqb (length d.1) (length d.1) ≡ true = eq-eqb (length d.1) (length d.1) refl in
                          let is : answer d.1 ≡ c = rw here (rw yes refl) in
                          sym is ∙ low
                      by_rest (o ∷ z) e x = let y = ap length x in let u = longer_by F mid of z t in absurd (omega (arith, y, u, same))

      depth_far : (p : List Token) → first p ≡ first d.1 → k r (a.read ++ p) ≡ Err (d.0, p) → read_in F mid of r (a.read ++ p) ≡ Err (Depth, p)
      depth_far p b kl =
          let rest : List Token = a.item ∷ (a.rest ++ p) in
          let whole : a.read ++ p ≡ a.back ++ rest = ap (λ (z : List Token). z ++ p) a.longer ∙ append_assoc a.back (a.item ∷ a.rest) p in
          let atom : q r (a.read ++ p) ≡ Err (Depth, rest) = ap (q r) whole ∙ a.q_local rest refl in
          let far : ltb (length p) (length rest) ≡ true = lt-ltb (length p) (length rest) (let l = longer_by F mid of a.rest p in omega arith) in
          let last = still_low p b in
          rw atom (rw kl (rw far (ap (λ (c : Code). Err (c, p)) last)))

      goes_on : Goes (Lang F mid of) Depth r a.read d.1
      goes_on = go (q (up r) (a.read ++ d.1)) refl
        where
          here : (c : Token) → first d.1 ≡ Some c → Viable (Q (up r)) (a.read ++ c ∷ []) → Goes (Lang F mid of) Depth r a.read d.1
          here c e y = record { room = up r; eased = (omega arith, refl); token = c; is = e; viable = atom_front F mid of (up r) (a.read ++ c ∷ []) (omega arith) y }

          go : (y : Answer Token A) → q (up r) (a.read ++ d.1) ≡ y → Goes (Lang F mid of) Depth r a.read d.1
          go (Ok (x, t)) i = by_cut (cut f.read t a.read d.1 (sym f.parts))
            where
              f : Found (Q (up r)) always (a.read ++ d.1) (x, t)
              f = let R = F.q_reads (up r) in R.sound (a.read ++ d.1) (x, t) i

              by_cut : Before f.read t a.read d.1 ⊎ Behind f.read t a.read d.1 → Goes (Lang F mid of) Depth r a.read d.1
              by_cut (inl y) = absurd (no_longer F mid of (up r) (up r) x a.tree f.read y.item (y.rest ++ a.next ∷ a.others) f.derives
                  (subst (Q (up r) a.tree) (ap (λ (z : List Token). z ++ a.next ∷ a.others) y.longer ∙ append_assoc f.read (y.item ∷ y.rest) (a.next ∷ a.others)) a.big))
              by_cut (inr y) = by_rest y.rest y.longer y.tail
                where
                  by_rest : (z : List Token) → f.read ≡ a.read ++ z → d.1 ≡ z ++ t → Goes (Lang F mid of) Depth r a.read d.1
                  by_rest [] e l = absurd (no_longer F mid of (up r) (up r) x a.tree a.read a.next a.others (subst (Q (up r) x) (e ∙ append-nil a.read) f.derives) a.big)
                  by_rest (c ∷ z) e l = here c (ap first l) (shorter F mid of (up r) a.read c z (record { tree = x; more = []; derives = subst (Q (up r) x) (e ∙ sym (append-nil (a.read ++ c ∷ z))) f.derives }))
          go (Err (c, t)) i = by_cut (cut f.read t a.read d.1 (sym f.parts))
            where
              f : Refuses Q q (up r) (a.read ++ d.1) (c, t)
              f = F.q_refuses (up r) (a.read ++ d.1) (c, t) i

              by_cut : Before f.read t a.read d.1 ⊎ Behind f.read t a.read d.1 → Goes (Lang F mid of) Depth r a.read d.1
              by_cut (inl y) =
                  let z : List Token = a.next ∷ a.others in
                  let R = F.q_reads (up r) in
                  let full = R.complete a.tree (a.read ++ z) [] a.big refl in
                  let cuts : (a.read ++ z) ++ [] ≡ f.read ++ (y.item ∷ (y.rest ++ z)) = append-nil (a.read ++ z) ∙ (ap (λ (x : List Token). x ++ z) y.longer ∙ append_assoc f.read (y.item ∷ y.rest) z) in
                  not_both (a.tree, []) (c, y.item ∷ (y.rest ++ z)) (sym full ∙ (ap (q (up r)) cuts ∙ f.local (up r) (y.item ∷ (y.rest ++ z)) (alike_self c (up r)) (sym (ap first y.tail))))
              by_cut (inr y) = by_rest y.rest y.longer y.tail
                where
                  by_rest : (z : List Token) → f.read ≡ a.read ++ z → d.1 ≡ z ++ t → Goes (Lang F mid of) Depth r a.read d.1
                  by_rest (o ∷ z) e l = elim f.viable [
                    | inl x ↦ absurd (no_nil F mid of a.read o z (sym e ∙ x))
                    | inr x ↦ here o (ap first l) (shorter F mid of (up r) a.read o z (subst (Viable (Q (up r))) e x))
                  ]
                  by_rest [] e l =
                      let here' : q (up r) (a.read ++ d.1) ≡ Err (c, d.1) = i ∙ ap (λ (x : List Token). Err (c, x)) (sym l) in
                      let yes : eqb (length d.1) (length d.1) ≡ true = eq-eqb (length d.1) (length d.1) refl in
                      let is : answer d.1 ≡ c = rw here' (rw yes refl) in
                      let deep : c ≡ Depth = sym is ∙ low in
                      let w = f.deep (λ (x : c ≡ Grammar). let no : Depth ≡ Grammar = sym deep ∙ x in absurd cc) in
                      let ease : Eased Depth (up r) w.room = subst (λ (c : Code). Eased c (up r) w.room) deep w.eased in
                      let high = ease.0 in
                      record {
                        room = w.room;
                        eased = (omega arith, ease.1);
                        token = w.token;
                        is = ap first l ∙ w.is;
                        viable = atom_front F mid of w.room (a.read ++ w.token ∷ []) (omega arith) (subst (λ (z : List Token). Viable (Q w.room) (z ++ w.token ∷ [])) (e ∙ append-nil a.read) w.viable);
                      }

    -- ---- the three together

    settled_at : (c : Code) → (c ≡ Depth → ⊥) → settled op (mids F mid of r) (behinds F mid of r) (q (up r) v) d.1 ≡ c → (f : Refuses Q q (up r) v (c, d.1)) × (f.read ≡ a.read)
    settled_at c n low = go (q (up r) v) refl low
      where
        at_place : (w t : List Token) → w ++ t ≡ a.read ++ d.1 → length t ≡ length d.1 → (w ≡ a.read) × (t ≡ d.1)
        at_place w t e same = by_cut (cut w t a.read d.1 e)
          where
            by_rest : (z : List Token) → w ≡ a.read ++ z → d.1 ≡ z ++ t → (w ≡ a.read) × (t ≡ d.1)
            by_rest [] e l = (e ∙ append-nil a.read, sym l)
            by_rest (o ∷ z) e l = let x = ap length l in let u = longer_by F mid of z t in absurd (omega (arith, x, u, same))

            by_cut : Before w t a.read d.1 ⊎ Behind w t a.read d.1 → (w ≡ a.read) × (t ≡ d.1)
            by_cut (inl y) = let x = ap length y.tail in let u = longer_by F mid of y.rest d.1 in absurd (omega (arith, x, u, same))
            by_cut (inr y) = by_rest y.rest y.longer y.tail

        go : (y : Answer Token A) → q (up r) v ≡ y → settled op (mids F mid of r) (behinds F mid of r) y d.1 ≡ c → (f : Refuses Q q (up r) v (c, d.1)) × (f.read ≡ a.read)
        go (Ok x) i e = absurd (n (sym e))
        go (Err (c', t)) i e = by_length (eqb (length t) (length d.1)) refl e
          where
            by_length : (l : Bool) → eqb (length t) (length d.1) ≡ l → (if l then c' else Depth) ≡ c → (f : Refuses Q q (up r) v (c, d.1)) × (f.read ≡ a.read)
            by_length false l e = absurd (n (sym e))
            by_length true l e =
                let f = F.q_refuses (up r) v (c', t) i in
                let here = at_place f.read t (sym f.parts ∙ a.parts) (eqb-true (length t) (length d.1) l) in
                let i' : q (up r) v ≡ Err (c, d.1) = i ∙ (ap (λ (x : Code). Err (x, t)) e ∙ ap (λ (x : List Token). Err (c, x)) here.1) in
                let f' = F.q_refuses (up r) v (c, d.1) i' in
                let there = at_place f'.read d.1 (sym f'.parts ∙ a.parts) refl in
                (f', there.0)

    far_refused : (c : Code) → settled op (mids F mid of r) (behinds F mid of r) (q (up r) v) d.1 ≡ c → Refuses (Lang F mid of) (read_in F mid of) r v (c, d.1)
    far_refused Grammar e =
        let hi = settled_at Grammar (λ (x : Grammar ≡ Depth). absurd cc) e in
        record {
          read = a.read;
          parts = a.parts;
          viable = inr (other_front F mid of r a.read le a.viable);
          local = λ s p al b. grammar_far hi.0 hi.1 s p al b;
          deep = λ dp. absurd (dp refl);
        }
    far_refused Depth e =
        let low : answer d.1 ≡ Depth = ap (λ (z : List Token). settled op (mids F mid of r) (behinds F mid of r) (q (up r) z) d.1) (sym a.parts) ∙ e in
        record {
          read = a.read;
          parts = a.parts;
          viable = inr (other_front F mid of r a.read le a.viable);
          local = λ s p al b. subst (λ (s : Room). read_in F mid of s (a.read ++ p) ≡ Err (Depth, p)) (sym al) (depth_far low p b (a.k_local r p (alike_self d.0 r) b));
          deep = λ dp. goes_on low;
        }
    far_refused FixityClash e =
        let hi = settled_at FixityClash (λ (x : FixityClash ≡ Depth). absurd cc) e in
        let w = hi.0.deep (λ (x : FixityClash ≡ Grammar). absurd cc) in
        let ease = w.eased in
        let high = ease.0 in
        record {
          read = a.read;
          parts = a.parts;
          viable = inr (other_front F mid of r a.read le a.viable);
          local = λ s p al b. clash_far hi.0 hi.1 s p al b;
          deep = λ dp. record {
            room = w.room;
            eased = (omega arith, ease.1);
            token = w.token;
            is = w.is;
            viable = atom_front F mid of w.room (a.read ++ w.token ∷ []) (omega arith) (subst (λ (z : List Token). Viable (Q w.room) (z ++ w.token ∷ [])) hi.1 w.viable);
          };
        }

  pub lang_refuses : (r : Room) (v : List Token) (e : Code × List Token) → 1 ≤ r.height → read_in F mid of r v ≡ Err e → Refuses (Lang F mid of) (read_in F mid of) r v e
  lang_refuses r v e le i = go (course F mid of r v (Err e) i)
    where
      the_err : (d : Code × List Token) → an_err {A = H × List Token} d ≡ an_err e → Refuses (Lang F mid of) (read_in F mid of) r v d → Refuses (Lang F mid of) (read_in F mid of) r v e
      the_err d o x = subst (λ (e : Code × List Token). Refuses (Lang F mid of) (read_in F mid of) r v e) (err_is {A = H × List Token} o) x

      go : Course F mid of r v (Err e) → Refuses (Lang F mid of) (read_in F mid of) r v e
      go (Course.InMid a t j n o) = refused_mid F mid of r v e le a t j n o
      go (Course.InBehind x t j n o) = refused_behind F mid of r v e le x t j n o
      go (Course.NoFront a t d j n l o) = the_err (Grammar, t) o (refused_plain F mid of r v a t d le j n l)
      go (Course.Refused c t j n o) = the_err (c, t) o (refused_first F mid of r v c t le j n)
      go (Course.NoRoom t x s j l n o) = the_err (Depth, s) o (refused_there F mid of r v t x s le j l n)
      go (Course.Near t d j l n o) = the_err (Depth, t) o (refused_near F mid of r v t d le j l n)
      go (Course.Farther t d j l n o) = the_err (settled op (mids F mid of r) (behinds F mid of r) (q (up r) v) d.1, d.1) o (far_refused r v d le (ahead r v t d le j l n) (settled op (mids F mid of r) (behinds F mid of r) (q (up r) v) d.1) refl)
