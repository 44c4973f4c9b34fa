-- What a session keeps when a source is added.
use Rattle.std.proofs.Common.{◌≡◌, ℕ, ◌+◌, ◌<◌, ◌≤◌, List, [], ◌∷◌, ◌++◌, map, length, sym, ◌∙◌, ap, subst, arith}
use Rattle.std.proofs.Math.ListN.{length-map}
use Rattle.std.proofs.lemmas.List.{map-append}
use Rattle.std.proofs.lemmas.List.Sums.{sum_by_push}
use Rattle.tl_text.specs.declared.code.Code.{Code}
use Rattle.tl_text.specs.declared.place.Place.{Place}
use Rattle.tl_text.specs.declared.fault.Fault.{Fault}
use Rattle.tl_text.specs.declared.fault.Fault.TheVariants as fault
use Rattle.sml_fix.specs.Fixities.{Settings}
use Rattle.built_items.specs.declared.item.SourceItem.{SourceItem}
use Rattle.built_items.specs.Built.{IfRefused}
use Rattle.std.specs.List.{flat_map}
use Rattle.std.proofs.Common.{suc, append_assoc, append-nil}
use Rattle.oc_layout.specs.Layout.{Layout}
use Rattle.tl_session.specs.Written.{rt_tree, unit_tree, base_of}
use Rattle.tl_session.specs.Answers.{IsFailure, IsTaken, next_text}
use Rattle.tl_session.specs.Faithful.{Standing, IsItems, with_source, texts_from, texts_of, bytes_of, IsTranslation}
use Rattle.tl_session.specs.Kept.{Source}
use Rattle.tl_session.specs.Refused.{Fails, FailsUnder, LeavesOnly, source_limit, total_limit, total_bytes}
use Rattle.tl_session.specs.Sessions.{source_of, standing_of, AreInForce, IsKept}
use Rattle.tl_session.specs.declared.session.Accepted.{Accepted}
use Rattle.tl_session.proofs.Forces.{are_in_force_more, fails_by, fails_under}
use Rattle.tl_session.proofs.Translation.{translation_more}

-- with one more source at the end
pub standing_of-push : (accepted : List Accepted) (a : Accepted) → standing_of (accepted ++ a ∷ []) ≡ with_source (standing_of accepted) (source_of a) a.program
standing_of-push accepted a = λ i. record {
  sources = map-append source_of accepted (a ∷ []) i;
  programs = map-append (λ (b : Accepted). b.program) accepted (a ∷ []) i;
}

-- the count of a session is that of its sources
counted : (accepted : List Accepted) (st : Standing) (total more : ℕ) → standing_of accepted ≡ st → total ≡ total_bytes (map source_of accepted)
    → total + more ≤ total_limit → total_bytes st.sources + more ≤ total_limit
counted accepted st total more is count low =
    let e : total_bytes (map source_of accepted) ≡ total_bytes st.sources = ap (λ (s : Standing). total_bytes s.sources) is in
    omega arith

-- the number of a further source
pub number_is : (accepted items : List Accepted) (st : Standing) → standing_of accepted ≡ st → items ≡ accepted → length items + 1 ≡ suc (length st.sources)
number_is accepted items st is same =
    let n : length items ≡ length accepted = ap (λ (l : List Accepted). length l) same in
    let m : length (map source_of accepted) ≡ length accepted = length-map accepted source_of in
    let s : length (map source_of accepted) ≡ length st.sources = ap (λ (s : Standing). length s.sources) is in
    omega arith

-- A further source of a session: what is accepted, as the code reads it too, the standing that it is seen as, and the fixities
-- behind it; the source is within the limits.
pub record IsNext (accepted items : List Accepted) (st : Standing) (fix : Settings) (source : Source) : Type 0 where
  pub view : standing_of accepted ≡ st
  pub same : items ≡ accepted
  pub force : AreInForce (map source_of accepted) fix
  pub small : length source.bytes ≤ source_limit
  pub few : total_bytes st.sources + length source.bytes ≤ total_limit

-- such a source, from what the session keeps and the tests of its size
pub is_next : (accepted items : List Accepted) (st : Standing) (fix : Settings) (source : Source) (total : ℕ) → standing_of accepted ≡ st → items ≡ accepted
    → IsKept accepted total fix → length source.bytes ≤ source_limit → total + length source.bytes ≤ total_limit → IsNext accepted items st fix source
is_next accepted items st fix source total view same held small few = record {
  view = view;
  same = same;
  force = held.force;
  small = small;
  few = counted accepted st total (length source.bytes) view held.counted.0 few;
}

module _ (accepted items : List Accepted) (st : Standing) (fix : Settings) (source : Source) (next : IsNext accepted items st fix source) where
  -- the fixities are those behind the sources
  force_here : AreInForce st.sources fix
  force_here = subst (λ (s : Standing). AreInForce s.sources fix) next.view next.force

  -- and the number is that of the source
  number_here : length items + 1 ≡ suc (length st.sources)
  number_here = number_is accepted items st next.view next.same

  fails_here : (place : Place) (c : Code) → FailsUnder (length items + 1) fix source.bytes place c → FailsUnder (suc (length st.sources)) fix source.bytes place c
  fails_here place c under = subst (λ n. FailsUnder n fix source.bytes place c) number_here under

  fails_there : (place : Place) (c : Code) → FailsUnder (suc (length st.sources)) fix source.bytes place c → FailsUnder (length items + 1) fix source.bytes place c
  fails_there place c under = subst (λ n. FailsUnder n fix source.bytes place c) (sym number_here) under

  -- what refuses its items refuses it
  pub next_refused : (e : Fault) → IfRefused e (λ r. FailsUnder (length items + 1) fix source.bytes r.place r.code) → IfRefused e (IsFailure st source)
  next_refused (fault.NoMemory n) h = tt
  next_refused (fault.Refused r) h = fails_under st.sources source fix force_here next.small next.few r.place r.code (fails_here r.place r.code h)

  -- and it fails in no other way
  pub next_fails : (P : Place → Code → Type 0) → ((place : Place) (c : Code) → FailsUnder (length items + 1) fix source.bytes place c → P place c)
      → (place : Place) (c : Code) → Fails st.sources source place c → P place c
  next_fails P by place c fails =
      fails_by {P = P place c} st.sources source fix force_here next.small next.few place c (λ under. by place c (fails_there place c under)) fails

module _ (accepted items after : List Accepted) (st : Standing) (fix left : Settings) (source : Source) (a : Accepted) (program : List SourceItem)
    (next : IsNext accepted items st fix source) (read : IsItems (length items + 1) fix source.bytes program left) (named : source_of a ≡ source)
    (kept : a.program ≡ program) (pushed : after ≡ accepted ++ a ∷ []) where
  -- the source is its items under the fixities in force
  read_here : IsItems (suc (length st.sources)) fix source.bytes program left
  read_here = subst (λ n. IsItems n fix source.bytes program left) (number_here accepted items st fix source next) read

  -- the standing after it
  standing_after : standing_of after ≡ with_source st source program
  standing_after =
      ap standing_of pushed ∙ standing_of-push accepted a ∙ ap (λ (s : Standing). with_source s (source_of a) a.program) next.view
      ∙ ap (λ (s : Source). with_source st s a.program) named ∙ ap (λ (p : List SourceItem). with_source st source p) kept

  -- the session holds the count and the fixities of one source more
  pub kept_after : (total : ℕ) → IsKept accepted total fix → total + length source.bytes ≤ total_limit → LeavesOnly (length items + 1) fix source.bytes left
      → IsKept after (total + length source.bytes) left
  kept_after total held low only =
      let sources : map source_of after ≡ st.sources ++ source ∷ [] = ap (λ (s : Standing). s.sources) standing_after in
      let before : total_bytes (map source_of accepted) ≡ total_bytes st.sources = ap (λ (s : Standing). total_bytes s.sources) next.view in
      let count : total_bytes (map source_of after) ≡ total_bytes st.sources + length source.bytes =
      ap total_bytes sources ∙ sum_by_push (λ (s : Source). length s.bytes) st.sources source
      in
      let only_here : LeavesOnly (suc (length st.sources)) fix source.bytes left =
      subst (λ n. LeavesOnly n fix source.bytes left) (number_here accepted items st fix source next) only
      in
      let force : AreInForce (st.sources ++ source ∷ []) left =
      are_in_force_more st.sources source fix left read_here.program (force_here accepted items st fix source next) read_here.source only_here
      in
      record {
        counted = (let e : total ≡ total_bytes (map source_of accepted) = held.counted.0 in omega arith, low);
        force = subst (λ ss. AreInForce ss left) (sym sources) force;
      }

  -- the source is taken
  pub taken_after : (text notes : List ℕ) → text ≡ Layout (unit_tree (length items + 1) (base_of source.name) program) → notes ≡ []
      → IsTaken st source (standing_of after) text notes
  taken_after text notes text_is no_notes = record {
    program = program;
    fix = fix;
    left = left;
    force = (force_here accepted items st fix source next).force;
    read = read_here;
    standing = standing_after;
    text_is = text_is ∙ ap (λ n. Layout (unit_tree n (base_of source.name) program)) (number_here accepted items st fix source next);
    no_notes = no_notes;
  }

  -- the session is a translation where it was one
  pub translation_after : ((place : Place) (c : Code) → FailsUnder (length items + 1) fix source.bytes place c → ⊥)
      → length st.sources < 65536 → IsTranslation st → IsTranslation (standing_of after)
  translation_after passes low t =
      subst (λ (s : Standing). IsTranslation s) (sym standing_after)
      (translation_more st source program fix left low t (next_fails accepted items st fix source next (λ place c. ⊥) passes)
      (force_here accepted items st fix source next) read_here)

texts_from-more : (k : ℕ) (ss : List Source) (ps : List (List SourceItem)) (s : Source) (p : List SourceItem) → length ps ≡ length ss
    → flat_map Layout (texts_from k (ss ++ s ∷ []) (ps ++ p ∷ [])) ≡ flat_map Layout (texts_from k ss ps) ++ Layout (unit_tree (k + length ss) (base_of s.name) p)
texts_from-more k [] [] s p same =
    append-nil (Layout (unit_tree k (base_of s.name) p)) ∙ ap (λ n. Layout (unit_tree n (base_of s.name) p)) (let e : k ≡ k + 0 = omega arith in e)
texts_from-more k [] (q ∷ ps) s p same = absurd (omega arith)
texts_from-more k (t ∷ ss) [] s p same = absurd (omega arith)
texts_from-more k (t ∷ ss) (q ∷ ps) s p same =
    let first : List ℕ = Layout (unit_tree k (base_of t.name) q) in
    ap (λ l. first ++ l) (texts_from-more (suc k) ss ps s p (omega arith))
    ∙ sym (append_assoc first (flat_map Layout (texts_from (suc k) ss ps)) (Layout (unit_tree (suc k + length ss) (base_of s.name) p)))
    ∙ ap (λ n. (first ++ flat_map Layout (texts_from (suc k) ss ps)) ++ Layout (unit_tree n (base_of s.name) p)) (let e : suc k + length ss ≡ k + suc (length ss) = omega arith in e)

-- the bytes with one source more
pub bytes_more : (st : Standing) (s : Source) (p : List SourceItem) → length st.programs ≡ length st.sources
    → bytes_of (texts_of (with_source st s p)) ≡ bytes_of (texts_of st) ++ Layout (next_text st s p)
bytes_more st s p same =
    ap (λ l. Layout rt_tree ++ l) (texts_from-more 1 st.sources st.programs s p same)
    ∙ sym (append_assoc (Layout rt_tree) (flat_map Layout (texts_of st)) (Layout (unit_tree (1 + length st.sources) (base_of s.name) p)))
    ∙ ap (λ n. (Layout rt_tree ++ flat_map Layout (texts_of st)) ++ Layout (unit_tree n (base_of s.name) p)) (let e : 1 + length st.sources ≡ suc (length st.sources) = omega arith in e)
