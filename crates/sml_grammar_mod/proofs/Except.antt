-- Phrases that do not begin with some tokens are read exactly, where all are.
use Rattle.std.proofs.Common.{◌≡◌, ◌⊎◌, ℕ, ◌≤◌, if◌then◌else◌, Bool, true, false, List, [], ◌∷◌, ◌++◌, Option, Some, None, Result, Ok, Err, refl, sym, ap, subst, ◌∙◌, append_assoc, inl, inr}
use Rattle.readers.specs.declared.code.Code.{Code}
use Rattle.readers.specs.declared.code.Code.TheVariants.{Grammar}
use Rattle.readers.specs.Reader.{first, head_is, Reader}
use Rattle.readers.specs.Language.{Viable}
use Rattle.readers.specs.Room.{Room}
use Rattle.readers.specs.Exact.{Found, Refuses}
use Rattle.readers.proofs.Bundle.{Known, Fitting, Reading, Refusing, read_fits, Phrase}
use Rattle.readers.proofs.Outcome.{head-append, first-append, chosen}
use Rattle.readers.proofs.First.{head_other}

first_front : {K : Type 0} (test : K → Bool) (u r : List K) → head_is test (first u) ≡ true → first (u ++ r) ≡ first u
first_front test [] r e = absurd cc
first_front test (c ∷ u) r e = refl

abbrev the_answer : {K : Type 0} (T : Type 0) → Code × List K → Result (T × List K) (Code × List K)
the_answer T e = Err e

err_is : {K : Type 0} (T : Type 0) (d e : Code × List K) → the_answer T d ≡ the_answer T e → d ≡ e
err_is T d e i = cc

-- the phrases that do not begin so
abbrev pub Except : {K T : Type 0} → (K → Bool) → (Room → T → List K → Type 0) → Room → T → List K → Type 0
Except off D k t w = (head_is off (first w) ≡ false) × D k t w

abbrev pub except : {K T : Type 0} → (K → Bool) → Reader K T → Reader K T
except off p v = if head_is off (first v) then Err (Grammar, v) else p v

module _ {K T : Type 0} {s : Known} {n up : ℕ} {D : Room → T → List K → Type 0} {p : Room → Reader K T} {st : T → Option K → Bool} {td : T → ℕ} {ld nd : ℕ} {test : K → Bool} {ed : ℕ} (P : Phrase s n up D p st td ld nd test ed) (off rest : K → Bool)
    (stay : (c : K) → test c ≡ true → off c ≡ false → rest c ≡ true) (inside : (c : K) → rest c ≡ true → test c ≡ true) (apart : (c : K) → rest c ≡ true → off c ≡ false) where
  stays : (o : Option K) → head_is test o ≡ true → head_is off o ≡ false → head_is rest o ≡ true
  stays None e f = e
  stays (Some c) e f = stay c e f

  ahead : (k : Room) (t : T) (w r : List K) → Fitting s n k → Except off D k t w → head_is off (first (w ++ r)) ≡ false
  ahead k t w r i d = head_other rest off apart (first (w ++ r)) (head-append rest w r (stays (first w) (P.opening.begins k t w i d.1) d.0))

  sound_by : (k : Room) → Reading s n k → (v : List K) (z : T × List K) → except off (p k) v ≡ Ok z → Found (Except off D k) st v z
  sound_by k i v z e =
      elim (chosen (head_is off (first v)) (Err (Grammar, v)) (p k v) (Ok z) e) [
        | inl a ↦ absurd cc
        | inr a ↦
            let r = P.part.reads k i in
            let f = r.sound v z a.1 in
            let b = P.opening.begins k z.0 f.read (read_fits s n k k i) f.derives in
            record {
              read = f.read;
              derives = (ap (head_is off) (sym (first_front test f.read z.1 b) ∙ ap first (sym f.parts)) ∙ a.0, f.derives);
              parts = f.parts;
              stops = f.stops;
            }
      ]

  refuses_by : (h : Room) → Refusing s n h → nd ≤ h.height → (v : List K) (e : Code × List K) → except off (p h) v ≡ Err e → Refuses (Except off D) (λ k. except off (p k)) h v e
  refuses_by h i l v e j =
      elim (chosen (head_is off (first v)) (Err (Grammar, v)) (p h v) (Err e) j) [
        | inl a ↦ subst (λ (e : Code × List K). Refuses (Except off D) (λ k. except off (p k)) h v e) (err_is T (Grammar, v) e a.1) (record {
          read = [];
          parts = refl;
          viable = inl refl;
          local = λ k q al o. rw (ap (head_is off) o ∙ a.0) refl;
          deep = λ dp. absurd (dp refl);
        })
        | inr a ↦
            let g = P.part.refuses h i l v e a.1 in
            let same : (q : List K) → first q ≡ first e.1 → head_is off (first (g.read ++ q)) ≡ false = λ q o. ap (head_is off) (first-append g.read q e.1 o ∙ ap first (sym g.parts)) ∙ a.0 in
            record {
              read = g.read;
              parts = g.parts;
              viable = elim g.viable [ inl z ↦ inl z | inr x ↦ front g.read x (ap (λ (z : List K). head_is off (first z)) (sym g.parts) ∙ a.0) ];
              local = λ k q al o. rw (same q o) (g.local k q al o);
              deep = λ dp. let d = g.deep dp in let x = d.viable in record {
                room = d.room;
                eased = d.eased;
                token = d.token;
                is = d.is;
                viable = record {
                  tree = x.tree;
                  more = x.more;
                  derives = (ap (λ (z : List K). head_is off (first z)) (append_assoc g.read (d.token ∷ []) x.more) ∙ same (d.token ∷ x.more) (sym d.is), x.derives);
                };
              };
            }
      ]
    where
      front : (u : List K) → Viable (D h) u → head_is off (first (u ++ e.1)) ≡ false → (u ≡ []) ⊎ Viable (Except off D h) u
      front [] x f = inl refl
      front (c ∷ u) x f = inr (record { tree = x.tree; more = x.more; derives = (f, x.derives) })

  bars_by : (k : Room) (v : List K) → Reading s n k → head_is rest (first v) ≡ false → except off (p k) v ≡ Err (Grammar, v)
  bars_by k v i e = go (head_is off (first v)) (head_is test (first v)) (λ a b. stays (first v) a b) (λ a. P.opening.bars k v i a)
    where
      go : (a b : Bool) → (b ≡ true → a ≡ false → head_is rest (first v) ≡ true) → (b ≡ false → p k v ≡ Err (Grammar, v)) → (if a then Err (Grammar, v) else p k v) ≡ Err (Grammar, v)
      go true b f g = refl
      go false false f g = g refl
      go false true f g = let no : true ≡ false = sym (f refl refl) ∙ e in absurd cc

  pub excepted : ((h : Room) → Fitting s n h → ld ≤ h.height → Viable (Except off D h) []) → Phrase s n up (Except off D) (λ k. except off (p k)) st td ld nd rest ed
  excepted some = record {
    part = record {
      above = λ k t w i d. P.part.above k t w i d.1;
      least = λ k t w i d. P.part.least k t w i d.1;
      lowest = λ k t w i d. P.part.lowest k t w i d.1;
      fits = λ h k t w i b l d. (d.0, P.part.fits h k t w i b l d.1);
      some = some;
      reads = λ k i. record {
        complete = λ t w q d e. let r = P.part.reads k i in rw (ahead k t w q (read_fits s n k k i) d) (r.complete t w q d.1 e);
        sound = λ v z e. sound_by k i v z e;
      };
      refuses = λ h i l v e j. refuses_by h i l v e j;
    };
    opening = record {
      begins = λ k t w i d. stays (first w) (P.opening.begins k t w i d.1) d.0;
      starts = λ h c i l e. let v = P.opening.starts h c i l (inside c e) in record { tree = v.tree; more = v.more; derives = (apart c e, v.derives) };
      bars = λ k v i e. bars_by k v i e;
    };
  }
