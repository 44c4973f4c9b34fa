-- Accepted sources and their texts are a translation.
use Rattle.std.proofs.Common.{◌≡◌, ℕ, zero, suc, ◌+◌, ◌<◌, ◌≤◌, ◌^◌, ◌⊎◌, List, [], ◌∷◌, ◌++◌, length, take, drop, refl, sym, ◌∙◌, ap, subst, arith, inl, inr, append_assoc, append-nil}
use Rattle.std.proofs.Math.Seq.{take-length}
use Rattle.std.proofs.Common.{length-append}
use Rattle.std.specs.List.{flat_map}
use Rattle.std.proofs.lemmas.List.{take-append-drop}
use Rattle.tl_text.specs.declared.code.Code.{Code}
use Rattle.tl_text.specs.declared.place.Place.{Place}
use Rattle.sml_derive.specs.Programs.{Derived}
use Rattle.sml_fix.specs.Fixities.{Settings, start}
use Rattle.built_items.specs.declared.item.SourceItem.{SourceItem}
use Rattle.oc_layout.specs.Layout.{Layout}
use Rattle.oc_rules.specs.Reads.{Reads}
use Rattle.oc_rules.specs.Lexes.{Done}
use Rattle.oc_mirror.proofs.OneText.{one_text}
use Rattle.oc_ast.specs.Plain.{PItems, NoItems, MoreItems}
use Rattle.tl_session.specs.Written.{base_of, unit_tree, rt_tree, join}
use Rattle.tl_session.proofs.Lawful.{unit_allowed, rt_allowed}
use Rattle.tl_session.proofs.Reading.{reads_joined}
use Rattle.tl_session.specs.Kept.{Source, unit_of}
use Rattle.tl_session.specs.OcTypes as oc
use Rattle.tl_session.specs.Program.{Dec, decs_of}
use Rattle.tl_session.specs.Refused.{Fails, Accepted}
use Rattle.tl_session.specs.Runs.{Agrees}
use Rattle.tl_session.specs.Faithful.{IsItems, AreRead, texts_from, joined, whole, bytes_of, Faithful, Standing, with_source, IsTranslation}
use Rattle.tl_session.proofs.Typed.{items_env, units_env, whole_env, whole_types}
use Rattle.tl_session.proofs.Keeps.{whole_kept}
use Rattle.tl_session.proofs.Texts.{AllLeavePrint}
use Rattle.tl_session.proofs.AgreesAll.{probe_agrees}
use Rattle.tl_session.proofs.LawfulItems.{LawfulItems}
use Rattle.tl_session.proofs.BuiltItems.{front_leaves, items_lawful}
use Rattle.tl_session.proofs.Forces.{read_force}
use Rattle.tl_session.specs.Sessions.{AreInForce}

-- sources that are accepted, with their programs
pub record Given (ss : List Source) (ps : List (List SourceItem)) : Type 0 where
  pub same : length ps ≡ length ss
  pub low : suc (length ss) < 2 ^ 64
  pub accepted : Accepted ss
  pub left : Settings
  pub read : AreRead 1 start ss ps left

-- what a source is built to is lawful
pub is_lawful : (k : ℕ) (fix left : Settings) (bytes : List ℕ) (p : List SourceItem) → IsItems k fix bytes p left → LawfulItems p
is_lawful k fix left bytes p is = items_lawful (Derived is.program) p is.built

leave_print : (k : ℕ) (fix left : Settings) (ss : List Source) (ps : List (List SourceItem)) → AreRead k fix ss ps left → AllLeavePrint ps
leave_print k fix left [] [] h = tt
leave_print k fix left [] (p ∷ ps) h = absurd h
leave_print k fix left (s ∷ ss) [] h = absurd h
leave_print k fix left (s ∷ ss) (p ∷ ps) h = (front_leaves p (is_lawful k fix h.0 s.bytes p h.1), leave_print (suc k) h.0 left ss ps h.2)

units_read : (k : ℕ) (fix left : Settings) (ss : List Source) (ps : List (List SourceItem)) → AreRead k fix ss ps left
    → Reads (flat_map Layout (texts_from k ss ps)) (joined (texts_from k ss ps))
units_read k fix left [] ps h = (tt, Done [] [] refl refl)
units_read k fix left (s ∷ ss) [] h = absurd h
units_read k fix left (s ∷ ss) (p ∷ ps) h =
    reads_joined (unit_tree k (base_of s.name) p) (joined (texts_from (suc k) ss ps)) (flat_map Layout (texts_from (suc k) ss ps))
    (unit_allowed k s.name p (is_lawful k fix h.0 s.bytes p h.1)) (units_read (suc k) h.0 left ss ps h.2)

whole_read : (left : Settings) (ss : List Source) (ps : List (List SourceItem)) → AreRead 1 start ss ps left → Reads (bytes_of (texts_from 1 ss ps)) (whole (texts_from 1 ss ps))
whole_read left ss ps h = reads_joined rt_tree (joined (texts_from 1 ss ps)) (flat_map Layout (texts_from 1 ss ps)) rt_allowed (units_read 1 start left ss ps h)

join-none : (a : PItems) → join a NoItems ≡ a
join-none NoItems = refl
join-none (MoreItems i rest) = ap (MoreItems i) (join-none rest)

-- the whole of accepted sources is faithful
pub all_faithful : (ss : List Source) (ps : List (List SourceItem)) → Given ss ps → Faithful ss ps (texts_from 1 ss ps) (whole_env ss ps)
all_faithful ss ps g =
    let leave : AllLeavePrint ps = leave_print 1 start g.left ss ps g.read in
    record {
      accepted = g.accepted;
      left = g.left;
      read = g.read;
      reads = whole_read g.left ss ps g.read;
      alone = λ other r. one_text (bytes_of (texts_from 1 ss ps)) other (whole (texts_from 1 ss ps)) r (whole_read g.left ss ps g.read);
      types = whole_types ss ps g.low;
      kept = whole_kept ss ps g.low leave;
      agrees =
          (let P : List Dec → Type 0 = λ ds. Agrees ds (whole (texts_from 1 ss ps)) in
          let Q : PItems → Type 0 = λ t. Agrees (decs_of ps ++ []) t in
          subst P (append-nil (decs_of ps)) (subst Q (join-none (whole (texts_from 1 ss ps))) (probe_agrees ss ps [] g.same g.low leave tt)));
      probed = λ probe is. probe_agrees ss ps probe g.same g.low leave is;
    }

-- the first sources are their items, and leave some fixities
read_take : (i k : ℕ) (fix left : Settings) (ss : List Source) (ps : List (List SourceItem)) → AreRead k fix ss ps left
    → (mid : Settings) × AreRead k fix (take i ss) (take i ps) mid
read_take zero k fix left ss ps h = (fix, refl)
read_take (suc i) k fix left [] [] h = (left, h)
read_take (suc i) k fix left [] (p ∷ ps) h = absurd h
read_take (suc i) k fix left (s ∷ ss) [] h = absurd h
read_take (suc i) k fix left (s ∷ ss) (p ∷ ps) h =
    let r : (mid : Settings) × AreRead (suc k) h.0 (take i ss) (take i ps) mid = read_take i (suc k) h.0 left ss ps h.2 in
    (r.0, (h.0, h.1, r.1))

texts_take : (i k : ℕ) (fix left : Settings) (ss : List Source) (ps : List (List SourceItem)) → AreRead k fix ss ps left
    → take i (texts_from k ss ps) ≡ texts_from k (take i ss) (take i ps)
texts_take zero k fix left ss ps h = refl
texts_take (suc i) k fix left [] [] h = refl
texts_take (suc i) k fix left [] (p ∷ ps) h = absurd h
texts_take (suc i) k fix left (s ∷ ss) [] h = absurd h
texts_take (suc i) k fix left (s ∷ ss) (p ∷ ps) h = ap (λ ts. unit_tree k (base_of s.name) p ∷ ts) (texts_take i (suc k) h.0 left ss ps h.2)

same_read : (k : ℕ) (fix left : Settings) (ss : List Source) (ps : List (List SourceItem)) → AreRead k fix ss ps left → length ps ≡ length ss
same_read k fix left [] [] h = refl
same_read k fix left [] (p ∷ ps) h = absurd h
same_read k fix left (s ∷ ss) [] h = absurd h
same_read k fix left (s ∷ ss) (p ∷ ps) h = ap suc (same_read (suc k) h.0 left ss ps h.2)

accepted_take : (i : ℕ) (ss : List Source) → Accepted ss → Accepted (take i ss)
accepted_take i ss accepted before after source place c is fails =
    accepted before (after ++ drop i ss) source place c
    (sym (take-append-drop i ss) ∙ ap (λ l. l ++ drop i ss) is ∙ append_assoc before (source ∷ after) (drop i ss)) fails

length_take_le : (i : ℕ) (ss : List Source) → length (take i ss) ≤ length ss
length_take_le zero ss = omega arith
length_take_le (suc i) [] = omega arith
length_take_le (suc i) (s ∷ ss) = omega (arith, length_take_le i ss)

given_take : (i : ℕ) (ss : List Source) (ps : List (List SourceItem)) → Given ss ps → Given (take i ss) (take i ps)
given_take i ss ps g =
    let r : (mid : Settings) × AreRead 1 start (take i ss) (take i ps) mid = read_take i 1 start g.left ss ps g.read in
    record {
      same = same_read 1 start r.0 (take i ss) (take i ps) r.1;
      low = omega (arith, length_take_le i ss, g.low);
      accepted = accepted_take i ss g.accepted;
      left = r.0;
      read = r.1;
    }

-- what one unit more binds
units_grow : (i k : ℕ) (fix left : Settings) (ss : List Source) (ps : List (List SourceItem)) (base : oc.Env) → AreRead k fix ss ps left → i < length ss
    → (d : oc.Env) × (units_env k (take (suc i) ss) (take (suc i) ps) base ≡ oc.over d (units_env k (take i ss) (take i ps) base))
units_grow i k fix left [] ps base h low = absurd (omega arith)
units_grow i k fix left (s ∷ ss) [] base h low = absurd h
units_grow zero k fix left (s ∷ ss) (p ∷ ps) base h low = (oc.AddMod (unit_of k s) (items_env p oc.Empty) oc.Empty, refl)
units_grow (suc i) k fix left (s ∷ ss) (p ∷ ps) base h low =
    units_grow i (suc k) h.0 left ss ps (oc.AddMod (unit_of k s) (items_env p oc.Empty) base) h.2 (omega arith)

-- accepted sources and their texts are a translation
pub is_translation : (ss : List Source) (ps : List (List SourceItem)) → Given ss ps → IsTranslation (record { sources = ss; programs = ps })
is_translation ss ps g = record {
  each_program = g.same;
  envs = λ i. whole_env (take i ss) (take i ps);
  faithful = λ i low.
      let P : List PItems → Type 0 = λ ts. Faithful (take i ss) (take i ps) ts (whole_env (take i ss) (take i ps)) in
      subst P (sym (texts_take i 1 start g.left ss ps g.read)) (all_faithful (take i ss) (take i ps) (given_take i ss ps g));
  grows = λ i low. units_grow i 1 start g.left ss ps _ g.read low;
}

-- what a translation tells of its sources
pub translation_given : (s : Standing) → suc (length s.sources) < 2 ^ 64 → IsTranslation s → Given s.sources s.programs
translation_given s low t =
    let f : _ = t.faithful (length s.sources) (omega arith) in
    let all_sources : take (length s.sources) s.sources ≡ s.sources = take-length s.sources in
    let all_programs : take (length s.sources) s.programs ≡ s.programs = ap (λ n. take n s.programs) (sym t.each_program) ∙ take-length s.programs in
    let P : List Source → Type 0 = λ l. Accepted l in
    let Q : List Source → List (List SourceItem) → Type 0 = λ l m. AreRead 1 start l m f.left in
    record {
      same = t.each_program;
      low = low;
      accepted = subst P all_sources f.accepted;
      left = f.left;
      read = subst (Q s.sources) all_programs (let R : List Source → Type 0 = λ l. Q l (take (length s.sources) s.programs) in subst R all_sources f.read);
    }

cc_pair : {A : Type 0} {x y : A} {xs ys : List A} → x ≡ y → xs ≡ ys → x ∷ xs ≡ y ∷ ys
cc_pair h t = cc

-- a row that ends in one more is split within it, or before that one
last_or_before : (ss before after : List Source) (s source : Source) → ss ++ (s ∷ []) ≡ before ++ (source ∷ after)
    → ((ss ≡ before) × (s ≡ source)) ⊎ ((rest : List Source) × (ss ≡ before ++ (source ∷ rest)))
last_or_before [] [] after s source e = inl (refl, cc)
last_or_before [] (b ∷ before) after s source e =
    let t : [] ≡ before ++ (source ∷ after) = cc in
    let n : 0 ≡ length (before ++ (source ∷ after)) = ap (λ (l : List Source). length l) t in
    absurd (omega (arith, n, length-append before (source ∷ after)))
last_or_before (t ∷ ss) [] after s source e = let h : t ≡ source = cc in inr (ss, ap (λ z. z ∷ ss) h)
last_or_before (t ∷ ss) (b ∷ before) after s source e =
    let h : t ≡ b = cc in
    let r : ss ++ (s ∷ []) ≡ before ++ (source ∷ after) = cc in
    by h (last_or_before ss before after s source r) where
      by : t ≡ b → ((ss ≡ before) × (s ≡ source)) ⊎ ((rest : List Source) × (ss ≡ before ++ (source ∷ rest)))
          → ((t ∷ ss ≡ b ∷ before) × (s ≡ source)) ⊎ ((rest : List Source) × (t ∷ ss ≡ (b ∷ before) ++ (source ∷ rest)))
      by h (inl p) = inl (cc_pair h p.0, p.1)
      by h (inr q) = inr (q.0, cc_pair h q.1)

-- a further source that does not fail is accepted
accepted_more : (ss : List Source) (s : Source) → Accepted ss → ((place : Place) (c : Code) → Fails ss s place c → ⊥) → Accepted (ss ++ s ∷ [])
accepted_more ss s accepted passes before after source place c is fails = by (last_or_before ss before after s source is) where
  by : ((ss ≡ before) × (s ≡ source)) ⊎ ((rest : List Source) × (ss ≡ before ++ (source ∷ rest))) → ⊥
  by (inl p) =
      let P : List Source → Type 0 = λ l. Fails l s place c in
      let Q : Source → Type 0 = λ w. Fails before w place c in
      passes place c (subst P (sym p.0) (subst Q (sym p.1) fails))
  by (inr q) = accepted before q.0 source place c q.1 fails

-- items of another number, under other fixities
items_at : (k n : ℕ) (fix mid : Settings) (bytes : List ℕ) (p : List SourceItem) (left : Settings) → n ≡ k → mid ≡ fix → IsItems n mid bytes p left → IsItems k fix bytes p left
items_at k n fix mid bytes p left same_number same_fix is =
    subst (λ m. IsItems m fix bytes p left) same_number (subst (λ f. IsItems n f bytes p left) same_fix is)

read_more : (k n : ℕ) (fix mid left : Settings) (ss : List Source) (ps : List (List SourceItem)) (s : Source) (p : List SourceItem) → n ≡ k + length ss
    → AreRead k fix ss ps mid → IsItems n mid s.bytes p left → AreRead k fix (ss ++ s ∷ []) (ps ++ p ∷ []) left
read_more k n fix mid left [] [] s p number h is = (left, items_at k n fix mid s.bytes p left (omega arith) h is, refl)
read_more k n fix mid left [] (q ∷ ps) s p number h is = absurd h
read_more k n fix mid left (t ∷ ss) [] s p number h is = absurd h
read_more k n fix mid left (t ∷ ss) (q ∷ ps) s p number h is = (h.0, h.1, read_more (suc k) n h.0 mid left ss ps s p (omega arith) h.2 is)

-- a translation goes on with each source that does not fail
pub translation_more : (st : Standing) (s : Source) (p : List SourceItem) (fix left : Settings) → length st.sources < 65536 → IsTranslation st
    → ((place : Place) (c : Code) → Fails st.sources s place c → ⊥) → AreInForce st.sources fix → IsItems (suc (length st.sources)) fix s.bytes p left
    → IsTranslation (with_source st s p)
translation_more st s p fix left low t passes in_force is =
    let g : Given st.sources st.programs = translation_given st (omega arith) t in
    let same_fix : g.left ≡ fix = in_force.only g.left (read_force 1 start g.left st.sources st.programs g.read) in
    let n : ℕ = suc (length st.sources) in
    let r : AreRead 1 start (st.sources ++ s ∷ []) (st.programs ++ p ∷ []) left =
    read_more 1 n start g.left left st.sources st.programs s p (omega arith) g.read (items_at n n g.left fix s.bytes p left refl (sym same_fix) is)
    in
    is_translation (st.sources ++ s ∷ []) (st.programs ++ p ∷ []) (record {
      same = same_read 1 start left (st.sources ++ s ∷ []) (st.programs ++ p ∷ []) r;
      low = omega (arith, length-append st.sources (s ∷ []));
      accepted = accepted_more st.sources s g.accepted passes;
      left = left;
      read = r;
    })

-- no sources are a translation
pub translation_none : IsTranslation (record { sources = []; programs = [] })
translation_none = is_translation [] [] (record {
  same = refl;
  low = omega arith;
  accepted = none;
  left = start;
  read = refl;
}) where
  none : Accepted []
  none before after source place c is fails =
      let n : 0 ≡ length (before ++ (source ∷ after)) = ap (λ (l : List Source). length l) is in
      omega (arith, n, length-append before (source ∷ after))
