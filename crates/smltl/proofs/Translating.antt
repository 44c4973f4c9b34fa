-- How a translation ends, from what its calls ensure.
use Rattle.std.proofs.Common.{◌≡◌, ℕ, zero, suc, ◌+◌, ◌<◌, List, [], ◌∷◌, ◌++◌, length, take, drop, Option, Some, None, refl, sym, ◌∙◌, ap, subst, arith, inl, append_assoc, append-nil, length-append, Bor, map, get_or}
use Rattle.std.specs.Prelude.{slice_get, Result, Ok, Err, OnOk}
use Rattle.std.proofs.lemmas.List.{take-append-drop}
use Rattle.beh.specs.Behaviour.{Begins}
use Rattle.tl_text.specs.declared.fault.Refusal.{Refusal}
use Rattle.src_io.specs.Holding.{Holding, Lacks}
use Rattle.src_io.specs.Reading.{IsRead, SameFiles}
use Rattle.src_io.specs.Written.{Appends, AppendsFront}
use Rattle.oc_layout.specs.Layout.{Layout}
use Rattle.tl_session.specs.Written.{rt_tree}
use Rattle.tl_session.specs.Answers.{IsTaken, IsFailure}
use Rattle.tl_session.specs.Faithful.{Standing, no_sources, IsTranslation}
use Rattle.tl_session.specs.Kept.{Source}
use Rattle.tl_session.specs.Refused.{source_limit}
use Rattle.tl_session.proofs.SessionLemmas.{bytes_more}
use Rattle.tl_session.proofs.Translation.{translation_none, translation_given}
use Rattle.smltl.specs.declared.translate.Stop.TheVariants as stop
use Rattle.smltl.specs.Translating.{Translated, StoppedAt}
use Rattle.smltl.specs.Outcome.{AreSources, written_for}

-- nothing was appended
pub appends_none : (o : Option (List ℕ)) → Appends o o []
appends_none None = refl
appends_none (Some b) = ap Some (sym (append-nil b))

-- one text after another
pub appends_both : (a b c : Option (List ℕ)) (x y : List ℕ) → Appends a b x → Appends b c y → Appends a c (x ++ y)
appends_both None b c x y h k = let P : Option (List ℕ) → Type 0 = λ o. Appends o c y in subst P h k
appends_both (Some a) b c x y h k =
    let P : Option (List ℕ) → Type 0 = λ o. Appends o c y in
    let t : c ≡ Some ((a ++ x) ++ y) = subst P h k in
    t ∙ ap Some (append_assoc a x y)

-- a front of a text
pub begins_front : (n : ℕ) (bytes : List ℕ) → Begins bytes (take n bytes)
begins_front n bytes = (drop n bytes, sym (take-append-drop n bytes))

-- a front of what comes after a text
pub begins_after : (x y z : List ℕ) → Begins y z → Begins (x ++ y) (x ++ z)
begins_after x y z h = (h.0, ap (λ l. x ++ l) h.1 ∙ sym (append_assoc x z h.0))

-- what is told now was told before
pub lacks_before : (before now : Option Holding) (name : List ℕ) → SameFiles before now → Lacks name now → Lacks name before
lacks_before None now name same h = tt
lacks_before (Some b) now name same h =
    let P : Option Holding → Type 0 = λ o. Lacks name o in
    let t : same.0.files name ≡ None = subst P same.1 h in
    ap (λ (f : List ℕ → Option (List ℕ)). f name) (sym same.2) ∙ t

pub read_before : (before now : Option Holding) (name : List ℕ) (limit : ℕ) (bytes : List ℕ) → SameFiles before now → IsRead name limit now bytes → IsRead name limit before bytes
read_before None now name limit bytes same h = let P : Option Holding → Type 0 = λ o. IsRead name limit o bytes in subst P same h
read_before (Some b) now name limit bytes same h =
    let P : Option Holding → Type 0 = λ o. IsRead name limit o bytes in
    let t : IsRead name limit (Some same.0) bytes = subst P same.1 h in
    (t.0, ap (λ (f : List ℕ → Option (List ℕ)). f name) (sym same.2) ∙ t.1, t.2)

pub same_files : (a b c : Option Holding) → SameFiles a b → SameFiles b c → SameFiles a c
same_files None b c h k = let P : Option Holding → Type 0 = λ o. SameFiles o c in subst P h k
same_files (Some a) b c h k =
    let P : Option Holding → Type 0 = λ o. SameFiles o c in
    let t : SameFiles (Some h.0) c = subst P h.1 k in
    (t.0, t.1, t.2 ∙ h.2)

no_name : (x : List ℕ) → ◌≡◌ {A = Option (List ℕ)} None (Some x) → ⊥
no_name x h = cc

-- the next source
pub sources_more : (told : Option Holding) (names : List (List ℕ)) (sources : List Source) (s : Source) → slice_get names (length sources) ≡ Some s.name
    → IsRead s.name source_limit told s.bytes → AreSources told names sources → AreSources told names (sources ++ s ∷ [])
sources_more told [] [] s here read h = absurd (no_name s.name here)
sources_more told [] (t ∷ sources) s here read h = absurd h
sources_more told (name ∷ names) [] s here read h =
    let e : name ≡ s.name = cc in
    let P : List ℕ → Type 0 = λ n. IsRead n source_limit told s.bytes in
    (sym e, subst P (sym e) read, tt)
sources_more told (name ∷ names) (t ∷ sources) s here read h = (h.0, h.1, sources_more told names sources s here read h.2)

-- before any source there is Rt alone
written_none : written_for no_sources ≡ Layout rt_tree
written_none = append-nil (Layout rt_tree)

pub stopped_at_first : (told : Option Holding) (names : List (List ℕ)) (old : Option (List ℕ))
    → (x : List ℕ) × Translated told names (Err stop.Memory) x × Appends old old x
stopped_at_first told names old = ([], record { standing = no_sources; translation = translation_none; sources = tt; ending = inl refl }, appends_none old)

pub rt_not_written : (told : Option Holding) (names : List (List ℕ)) (old now : Option (List ℕ)) (text : List ℕ) → text ≡ Layout rt_tree → AppendsFront old now text
    → (x : List ℕ) × Translated told names (Err stop.Writing) x × Appends old now x
rt_not_written told names old now text is front =
    let P : List ℕ → Type 0 = λ l. Begins l (take front.0 text) in (
      take front.0 text,
      record {
        standing = no_sources;
        translation = translation_none;
        sources = tt;
        ending = subst P (is ∙ sym written_none) (begins_front front.0 text);
      },
      front.2,
    )

pub rt_written : (old now : Option (List ℕ)) (text : List ℕ) → text ≡ Layout rt_tree → Appends old now text → Appends old now (written_for no_sources)
rt_written old now text is h = let P : List ℕ → Type 0 = λ l. Appends old now l in subst P (is ∙ sym written_none) h

-- what is written with one source more
pub written_more : (s after : Standing) (source : Source) (text notes : List ℕ) → length s.programs ≡ length s.sources → IsTaken s source after text notes
    → written_for after ≡ written_for s ++ text
written_more s after source text notes same t =
    ap (λ (z : Standing). written_for z) t.standing ∙ bytes_more s source t.program same ∙ ap (λ l. written_for s ++ l) (sym t.text_is)

pub unit_not_written : (told : Option Holding) (names : List (List ℕ)) (s after : Standing) (source : Source) (text notes : List ℕ) (old mid now : Option (List ℕ))
    → IsTranslation s → IsTranslation after → AreSources told names after.sources → IsTaken s source after text notes → Appends old mid (written_for s) → AppendsFront mid now text
    → (x : List ℕ) × Translated told names (Err stop.Writing) x × Appends old now x
unit_not_written told names s after source text notes old mid now t u sources taken before front =
    let P : List ℕ → Type 0 = λ l. Begins l (written_for s ++ take front.0 text) in (
      written_for s ++ take front.0 text,
      record {
        standing = after;
        translation = u;
        sources = sources;
        ending = subst P (sym (written_more s after source text notes t.each_program taken)) (begins_after (written_for s) text (take front.0 text) (begins_front front.0 text));
      },
      appends_both old mid now (written_for s) (take front.0 text) before front.2,
    )

pub unit_written : (s after : Standing) (source : Source) (text notes : List ℕ) (old mid now : Option (List ℕ)) → IsTranslation s → IsTaken s source after text notes
    → Appends old mid (written_for s) → Appends mid now text → Appends old now (written_for after)
unit_written s after source text notes old mid now t taken before h =
    let P : List ℕ → Type 0 = λ l. Appends old now l in
    subst P (sym (written_more s after source text notes t.each_program taken)) (appends_both old mid now (written_for s) text before h)

-- the sources with one more, as the session has them
pub sources_taken : (told : Option Holding) (names : List (List ℕ)) (s after : Standing) (source : Source) (text notes : List ℕ) → slice_get names (length s.sources) ≡ Some source.name
    → IsRead source.name source_limit told source.bytes → IsTaken s source after text notes → AreSources told names s.sources → AreSources told names after.sources
sources_taken told names s after source text notes here read taken h =
    let P : Standing → Type 0 = λ z. AreSources told names z.sources in
    subst P (sym taken.standing) (sources_more told names s.sources source here read h)

pub count_taken : (s after : Standing) (source : Source) (text notes : List ℕ) → IsTaken s source after text notes → length after.sources ≡ length s.sources + 1
count_taken s after source text notes taken =
    ap (λ (z : Standing). length z.sources) taken.standing ∙ length-append s.sources (source ∷ [])

-- what holds on Ok, where the answer is no error
pub not_error : {A E P : Type 0} (r : Result A E) → ((e : E) → r ≡ Err e → ⊥) → OnOk r P → P
not_error (Ok a) no_error h = h
not_error (Err e) no_error h = absurd (no_error e refl)

-- the name at a place
pub name_at : (names : List (Bor (List ℕ))) (at : ℕ) (d : Bor (List ℕ)) → at < length names → slice_get (map (λ (n : Bor (List ℕ)). n.now) names) at ≡ Some (get_or names at d).now
name_at [] at d low = absurd (omega arith)
name_at (n ∷ names) zero d low = refl
name_at (n ∷ names) (suc at) d low = name_at names at d (omega arith)

pub missing_at : (told now : Option Holding) (names : List (List ℕ)) (s : Standing) (old written : Option (List ℕ)) (at : ℕ) (name : List ℕ) → IsTranslation s → AreSources told names s.sources
    → length s.sources ≡ at → slice_get names at ≡ Some name → SameFiles told now → Lacks name now → Appends old written (written_for s)
    → (x : List ℕ) × Translated told names (Err (stop.Missing at)) x × Appends old written x
missing_at told now names s old written at name t sources count here same lacks h =
    (written_for s, record { standing = s; translation = t; sources = sources; ending = (sym count, refl, (name, here, lacks_before told now name same lacks)) }, h)

pub refused_at : (told now : Option Holding) (names : List (List ℕ)) (s : Standing) (old written : Option (List ℕ)) (at : ℕ) (name bytes : List ℕ) (r : Refusal) → IsTranslation s → AreSources told names s.sources
    → length s.sources ≡ at → length s.sources < 65536 → slice_get names at ≡ Some name → SameFiles told now → IsRead name source_limit now bytes → IsFailure s (record { name = name; bytes = bytes }) r
    → Appends old written (written_for s) → (x : List ℕ) × Translated told names (Err (stop.Refused at r)) x × Appends old written x
refused_at told now names s old written at name bytes r t sources count low here same read fails h = (
  written_for s,
  record {
    standing = s;
    translation = t;
    sources = sources;
    ending = (
      sym count,
      refl,
      (
        name,
        here,
        bytes,
        read_before told now name source_limit bytes same read,
        (s.sources, record { name = name; bytes = bytes }, refl, (translation_given s (omega arith) t).accepted, fails),
      ),
    );
  },
  h,
)

pub all_translated : (told : Option Holding) (names : List (List ℕ)) (s : Standing) (old written : Option (List ℕ)) (at : ℕ) → IsTranslation s → AreSources told names s.sources
    → length s.sources ≡ at → at ≡ length names → Appends old written (written_for s) → (x : List ℕ) × Translated told names (Ok tt) x × Appends old written x
all_translated told names s old written at t sources count whole h =
    (written_for s, record { standing = s; translation = t; sources = sources; ending = (count ∙ whole, refl) }, h)

pub stopped : (told : Option Holding) (names : List (List ℕ)) (s : Standing) (e : stop.the_data) (old written : Option (List ℕ)) → IsTranslation s → AreSources told names s.sources
    → StoppedAt told names s e (written_for s) → Appends old written (written_for s) → (x : List ℕ) × Translated told names (Err e) x × Appends old written x
stopped told names s e old written t sources ending h = (written_for s, record { standing = s; translation = t; sources = sources; ending = ending }, h)

pub here_at : (names : List (List ℕ)) (n at : ℕ) (name : List ℕ) → n ≡ at → slice_get names at ≡ Some name → slice_get names n ≡ Some name
here_at names n at name is here = let P : ℕ → Type 0 = λ k. slice_get names k ≡ Some name in subst P (sym is) here
