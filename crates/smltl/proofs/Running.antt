-- How a call of `run` ends, from what its calls ensure.
use Rattle.std.proofs.Common.{◌≡◌, ℕ, zero, suc, ◌+◌, ◌<◌, List, [], ◌∷◌, ◌++◌, length, Option, Some, None, refl, sym, ◌∙◌, ap, subst, arith, inl, inr, Bor, map, get_or}
use Rattle.std.specs.Prelude.{slice_get, Ok, Err}
use Rattle.std.proofs.lemmas.List.{length-map}
use Rattle.tl_text.specs.declared.fault.Refusal.{Refusal}
use Rattle.src_io.specs.Holding.{Holding, Lacks}
use Rattle.src_io.specs.Reading.{IsRead, SameFiles}
use Rattle.src_io.specs.Written.{Appends}
use Rattle.tl_session.specs.Kept.{Source}
use Rattle.tl_session.specs.Refused.{RefusedAt, source_limit}
use Rattle.smltl.specs.declared.end.End.{End}
use Rattle.smltl.specs.declared.end.End.TheVariants as end
use Rattle.smltl.specs.declared.translate.Stop.{Stop}
use Rattle.smltl.specs.declared.translate.Stop.TheVariants as stop
use Rattle.smltl.specs.Command.{IsCommand}
use Rattle.smltl.specs.Lines.{usage_line, bad_list_line, missing_line, error_line, reading_failed, out_of_memory}
use Rattle.smltl.specs.Listing.{Listed, BadLine, list_limit}
use Rattle.smltl.specs.Outcome.{Says, AreSources, AtNames, AtList, Outcome, Counts}
use Rattle.smltl.specs.Telling.{Tells, TellsAtBest}
use Rattle.smltl.specs.Translating.{Translated}
use Rattle.smltl.proofs.Translating.{appends_none, lacks_before, read_before, name_at}

-- the end of a call, with what it wrote
abbrev pub Ends : List (List ℕ) → Option Holding → End → Option (List ℕ) → Option (List ℕ) → Option (List ℕ) → Option (List ℕ) → Type 0
Ends words told a o o2 n n2 = (x : List ℕ) × (y : List ℕ) × Outcome words told a x y × Appends o o2 x × Appends n n2 y

-- a line that was told
abbrev pub Told : End → List ℕ → End → Option (List ℕ) → Option (List ℕ) → ℕ → ℕ → Type 0
Told e line a n n2 b k = (y : List ℕ) × Tells e line a y b k × Appends n n2 y

abbrev pub ToldAtBest : End → List ℕ → End → Option (List ℕ) → Option (List ℕ) → ℕ → ℕ → Type 0
ToldAtBest e line a n n2 b k = (y : List ℕ) × TellsAtBest e line a y b k × Appends n n2 y

tells_says : (e : End) (line : List ℕ) (a : End) (y : List ℕ) (b k : ℕ) → Tells e line a y b k → Says e line a y
tells_says e line a y b k (inl h) = inl (h.0, h.1)
tells_says e line a y b k (inr h) = inr (h.0, h.1)

pub bad_words : (words : List (List ℕ)) (told : Option Holding) (a : End) (o n n2 : Option (List ℕ)) (b k : ℕ) → ((list : List ℕ) → IsCommand words list → ⊥)
    → Told end.BadWords usage_line a n n2 b k → Ends words told a o o n n2
bad_words words told a o n n2 b k none h = ([], h.0, inl (none, refl, tells_says _ _ _ _ _ _ h.1), appends_none o, h.2)

at_list : (words : List (List ℕ)) (told : Option Holding) (list : List ℕ) (a : End) (o n n2 : Option (List ℕ)) (y : List ℕ) → IsCommand words list → AtList told list a y → Appends n n2 y
    → Ends words told a o o n n2
at_list words told list a o n n2 y command h said = ([], y, inr (list, command, inl (refl, h)), appends_none o, said)

pub no_list : (words : List (List ℕ)) (told : Option Holding) (list : List ℕ) (a : End) (o n n2 : Option (List ℕ)) (b k : ℕ) → IsCommand words list → Lacks list told
    → ToldAtBest (end.Missing 0) (missing_line list) a n n2 b k → Ends words told a o o n n2
no_list words told list a o n n2 b k command lacks (y, inl h, said) = at_list words told list a o n n2 y command (inl (lacks, tells_says _ _ _ _ _ _ h)) said
no_list words told list a o n n2 b k command lacks (y, inr h, said) = at_list words told list a o n n2 y command (inr (inr (inr (tells_says _ _ _ _ _ _ h)))) said

pub list_unread : (words : List (List ℕ)) (told : Option Holding) (list : List ℕ) (a : End) (o n n2 : Option (List ℕ)) (b k : ℕ) → IsCommand words list
    → Told end.ReadFault reading_failed a n n2 b k → Ends words told a o o n n2
list_unread words told list a o n n2 b k command (y, h, said) = at_list words told list a o n n2 y command (inr (inr (inl (tells_says _ _ _ _ _ _ h)))) said

pub list_no_memory : (words : List (List ℕ)) (told : Option Holding) (list : List ℕ) (a : End) (o n n2 : Option (List ℕ)) (b k : ℕ) → IsCommand words list
    → Told end.NoMemory out_of_memory a n n2 b k → Ends words told a o o n n2
list_no_memory words told list a o n n2 b k command (y, h, said) = at_list words told list a o n n2 y command (inr (inr (inr (tells_says _ _ _ _ _ _ h)))) said

pub bad_list : (words : List (List ℕ)) (told : Option Holding) (list bytes : List ℕ) (line : ℕ) (a : End) (o n n2 : Option (List ℕ)) (b k : ℕ) → IsCommand words list
    → IsRead list list_limit told bytes → BadLine bytes line → ToldAtBest (end.BadList line) (bad_list_line list line) a n n2 b k → Ends words told a o o n n2
bad_list words told list bytes line a o n n2 b k command read bad (y, inl h, said) =
    at_list words told list a o n n2 y command (inr (inl (bytes, line, read, bad, tells_says _ _ _ _ _ _ h))) said
bad_list words told list bytes line a o n n2 b k command read bad (y, inr h, said) =
    at_list words told list a o n n2 y command (inr (inr (inr (tells_says _ _ _ _ _ _ h)))) said

at_names : (words : List (List ℕ)) (told : Option Holding) (list bytes : List ℕ) (names : List (List ℕ)) (a : End) (o o2 n n2 : Option (List ℕ)) (x y : List ℕ) → IsCommand words list
    → IsRead list list_limit told bytes → Listed bytes names → AtNames told names a x y → Appends o o2 x → Appends n n2 y → Ends words told a o o2 n n2
at_names words told list bytes names a o o2 n n2 x y command read listed h out said = (x, y, inr (list, command, inr (bytes, names, read, listed, h)), out, said)

-- what is told now was told before
sources_before : (told now : Option Holding) (names : List (List ℕ)) (sources : List Source) → SameFiles told now → AreSources now names sources → AreSources told names sources
sources_before told now names [] same h = tt
sources_before told now [] (s ∷ sources) same h = absurd h
sources_before told now (name ∷ names) (s ∷ sources) same h =
    (h.0, read_before told now name source_limit s.bytes same h.1, sources_before told now names sources same h.2)

same_some : (x y : List ℕ) → ◌≡◌ {A = Option (List ℕ)} (Some x) (Some y) → x ≡ y
same_some x y h = cc

no_some : (x : List ℕ) → ◌≡◌ {A = Option (List ℕ)} None (Some x) → ⊥
no_some x h = cc

some_low : (l : List (List ℕ)) (i : ℕ) (x : List ℕ) → slice_get l i ≡ Some x → i < length l
some_low [] i x h = absurd (no_some x h)
some_low (y ∷ l) zero x h = omega arith
some_low (y ∷ l) (suc i) x h = let low = some_low l i x h in omega arith

-- the place of a name that is missing, or whose source is refused, is that of a name
pub missing_low : (now : Option Holding) (names : List (List ℕ)) (e : Stop) (at : ℕ) (o o2 : Option (List ℕ)) → e ≡ stop.Missing at
    → ((x : List ℕ) × Translated now names (Err e) x × Appends o o2 x) → at < length names
missing_low now names e at o o2 is h =
    let P : Stop → Type 0 = λ s. Translated now names (Err s) h.0 in
    let t : Translated now names (Err (stop.Missing at)) h.0 = subst P is h.1 in
    some_low names at t.ending.2.0 t.ending.2.1

pub refused_low : (now : Option Holding) (names : List (List ℕ)) (e : Stop) (at : ℕ) (r : Refusal) (o o2 : Option (List ℕ)) → e ≡ stop.Refused at r
    → ((x : List ℕ) × Translated now names (Err e) x × Appends o o2 x) → at < length names
refused_low now names e at r o o2 is h =
    let P : Stop → Type 0 = λ s. Translated now names (Err s) h.0 in
    let t : Translated now names (Err (stop.Refused at r)) h.0 = subst P is h.1 in
    some_low names at t.ending.2.0 t.ending.2.1

-- the name that was taken from a place
pub named_at : (names : List (Bor (List ℕ))) (at : ℕ) (name : Bor (List ℕ)) → at < length names → name ≡ get_or names at name
    → slice_get (map (λ (n : Bor (List ℕ)). n.now) names) at ≡ Some name.now
named_at names at name low is = name_at names at name low ∙ ap (λ (n : Bor (List ℕ)). Some n.now) (sym is)

at_missing : (told now : Option Holding) (names : List (List ℕ)) (at : ℕ) (a : End) (name x y : List ℕ) (b k : ℕ) → SameFiles told now → Translated now names (Err (stop.Missing at)) x
    → slice_get names at ≡ Some name → TellsAtBest (end.Missing (suc at)) (missing_line name) a y b k → AtNames told names a x y
at_missing told now names at a name x y b k same t here (inl h) =
    let P : ℕ → Type 0 = λ n. slice_get names n ≡ Some name in
    let Q : List ℕ → Type 0 = λ n. Lacks n told in
    let R : ℕ → Type 0 = λ n. Says (end.Missing (suc n)) (missing_line name) a y in
    let named : t.ending.2.0 ≡ name = same_some _ _ (sym t.ending.2.1 ∙ here) in
    let lacks : Lacks name told = subst Q named (lacks_before told now t.ending.2.0 same t.ending.2.2) in
    record {
      standing = t.standing;
      translation = t.translation;
      sources = sources_before told now names t.standing.sources same t.sources;
      ending = inr (inl (name, subst P t.ending.0 here, t.ending.1, inl (lacks, subst R t.ending.0 (tells_says _ _ _ _ _ _ h))));
    }
at_missing told now names at a name x y b k same t here (inr h) = record {
  standing = t.standing;
  translation = t.translation;
  sources = sources_before told now names t.standing.sources same t.sources;
  ending = inr (inr (inr (inl (inr t.ending.1, tells_says _ _ _ _ _ _ h))));
}

at_refused : (told now : Option Holding) (names : List (List ℕ)) (at : ℕ) (r : Refusal) (a : End) (name x y : List ℕ) (b k : ℕ) → SameFiles told now
    → Translated now names (Err (stop.Refused at r)) x → slice_get names at ≡ Some name → TellsAtBest (end.Refused r) (error_line name r) a y b k → AtNames told names a x y
at_refused told now names at r a name x y b k same t here (inl h) =
    let P : ℕ → Type 0 = λ n. slice_get names n ≡ Some name in
    let Q : List ℕ → Type 0 = λ n. (bytes : List ℕ) × IsRead n source_limit now bytes × RefusedAt (t.standing.sources ++ record { name = n; bytes = bytes } ∷ []) r.place r.code in
    let named : t.ending.2.0 ≡ name = same_some _ _ (sym t.ending.2.1 ∙ here) in
    let refused : Q name = subst Q named (t.ending.2.2, t.ending.2.3, t.ending.2.4) in
    record {
      standing = t.standing;
      translation = t.translation;
      sources = sources_before told now names t.standing.sources same t.sources;
      ending = inr (inl (
        name,
        subst P t.ending.0 here,
        t.ending.1,
        inr (refused.0, r, read_before told now name source_limit refused.0 same refused.1, refused.2, tells_says _ _ _ _ _ _ h),
      ));
    }
at_refused told now names at r a name x y b k same t here (inr h) = record {
  standing = t.standing;
  translation = t.translation;
  sources = sources_before told now names t.standing.sources same t.sources;
  ending = inr (inr (inr (inl (inr t.ending.1, tells_says _ _ _ _ _ _ h))));
}

pub name_missing : (words : List (List ℕ)) (told now : Option Holding) (list bytes : List ℕ) (names : List (List ℕ)) (e : Stop) (at : ℕ) (a : End) (name : List ℕ) (o o2 n n2 : Option (List ℕ)) (b k : ℕ)
    → IsCommand words list → IsRead list list_limit told bytes → Listed bytes names → SameFiles told now → e ≡ stop.Missing at
    → ((x : List ℕ) × Translated now names (Err e) x × Appends o o2 x) → slice_get names at ≡ Some name
    → ToldAtBest (end.Missing (at + 1)) (missing_line name) a n n2 b k → Ends words told a o o2 n n2
name_missing words told now list bytes names e at a name o o2 n n2 b k command read listed same is h here said =
    let P : Stop → Type 0 = λ s. Translated now names (Err s) h.0 in
    let Q : ℕ → Type 0 = λ number. TellsAtBest (end.Missing number) (missing_line name) a said.0 b k in
    let next : at + 1 ≡ suc at = omega arith in
    at_names words told list bytes names a o o2 n n2 h.0 said.0 command read listed (at_missing told now names at a name h.0 said.0 b k same (subst P is h.1) here (subst Q next said.1)) h.2 said.2

pub source_refused : (words : List (List ℕ)) (told now : Option Holding) (list bytes : List ℕ) (names : List (List ℕ)) (e : Stop) (at : ℕ) (r : Refusal) (a : End) (name : List ℕ) (o o2 n n2 : Option (List ℕ)) (b k : ℕ)
    → IsCommand words list → IsRead list list_limit told bytes → Listed bytes names → SameFiles told now → e ≡ stop.Refused at r
    → ((x : List ℕ) × Translated now names (Err e) x × Appends o o2 x) → slice_get names at ≡ Some name
    → ToldAtBest (end.Refused r) (error_line name r) a n n2 b k → Ends words told a o o2 n n2
source_refused words told now list bytes names e at r a name o o2 n n2 b k command read listed same is h here said =
    let P : Stop → Type 0 = λ s. Translated now names (Err s) h.0 in
    at_names words told list bytes names a o o2 n n2 h.0 said.0 command read listed (at_refused told now names at r a name h.0 said.0 b k same (subst P is h.1) here said.1) h.2 said.2

pub source_unread : (words : List (List ℕ)) (told now : Option Holding) (list bytes : List ℕ) (names : List (List ℕ)) (e : Stop) (a : End) (o o2 n n2 : Option (List ℕ)) (b k : ℕ)
    → IsCommand words list → IsRead list list_limit told bytes → Listed bytes names → SameFiles told now → e ≡ stop.Reading
    → ((x : List ℕ) × Translated now names (Err e) x × Appends o o2 x) → Told end.ReadFault reading_failed a n n2 b k → Ends words told a o o2 n n2
source_unread words told now list bytes names e a o o2 n n2 b k command read listed same is h said =
    let P : Stop → Type 0 = λ s. Translated now names (Err s) h.0 in
    let t : Translated now names (Err stop.Reading) h.0 = subst P is h.1 in
    at_names words told list bytes names a o o2 n n2 h.0 said.0 command read listed (record {
      standing = t.standing;
      translation = t.translation;
      sources = sources_before told now names t.standing.sources same t.sources;
      ending = inr (inr (inl (t.ending, tells_says _ _ _ _ _ _ said.1)));
    }) h.2 said.2

pub names_no_memory : (words : List (List ℕ)) (told now : Option Holding) (list bytes : List ℕ) (names : List (List ℕ)) (e : Stop) (a : End) (o o2 n n2 : Option (List ℕ)) (b k : ℕ)
    → IsCommand words list → IsRead list list_limit told bytes → Listed bytes names → SameFiles told now → e ≡ stop.Memory
    → ((x : List ℕ) × Translated now names (Err e) x × Appends o o2 x) → Told end.NoMemory out_of_memory a n n2 b k → Ends words told a o o2 n n2
names_no_memory words told now list bytes names e a o o2 n n2 b k command read listed same is h said =
    let P : Stop → Type 0 = λ s. Translated now names (Err s) h.0 in
    let t : Translated now names (Err stop.Memory) h.0 = subst P is h.1 in
    at_names words told list bytes names a o o2 n n2 h.0 said.0 command read listed (record {
      standing = t.standing;
      translation = t.translation;
      sources = sources_before told now names t.standing.sources same t.sources;
      ending = inr (inr (inr (inl (t.ending, tells_says _ _ _ _ _ _ said.1))));
    }) h.2 said.2

pub unit_unwritten : (words : List (List ℕ)) (told now : Option Holding) (list bytes : List ℕ) (names : List (List ℕ)) (e : Stop) (o o2 n : Option (List ℕ))
    → IsCommand words list → IsRead list list_limit told bytes → Listed bytes names → SameFiles told now → e ≡ stop.Writing
    → ((x : List ℕ) × Translated now names (Err e) x × Appends o o2 x) → Ends words told end.WriteFault o o2 n n
unit_unwritten words told now list bytes names e o o2 n command read listed same is h =
    let P : Stop → Type 0 = λ s. Translated now names (Err s) h.0 in
    let t : Translated now names (Err stop.Writing) h.0 = subst P is h.1 in
    at_names words told list bytes names end.WriteFault o o2 n n h.0 [] command read listed (record {
      standing = t.standing;
      translation = t.translation;
      sources = sources_before told now names t.standing.sources same t.sources;
      ending = inr (inr (inr (inr (t.ending, refl, refl))));
    }) h.2 (appends_none n)

pub all_done : (words : List (List ℕ)) (told now : Option Holding) (list bytes : List ℕ) (names : List (List ℕ)) (u : Unit {0}) (o o2 n : Option (List ℕ))
    → IsCommand words list → IsRead list list_limit told bytes → Listed bytes names → SameFiles told now
    → ((x : List ℕ) × Translated now names (Ok u) x × Appends o o2 x) → Ends words told end.Done o o2 n n
all_done words told now list bytes names u o o2 n command read listed same h =
    let t = h.1 in
    at_names words told list bytes names end.Done o o2 n n h.0 [] command read listed (record {
      standing = t.standing;
      translation = t.translation;
      sources = sources_before told now names t.standing.sources same t.sources;
      ending = inl (t.ending.0, refl, t.ending.1, refl);
    }) h.2 (appends_none n)

write_no_read : end.WriteFault ≡ end.ReadFault → ⊥
write_no_read h = cc

-- the counts after a line was told, where none rose before
told_counts : (e : End) (line : List ℕ) (a : End) (y : List ℕ) (b k src src2 out : ℕ) → Tells e line a y b k → (e ≡ end.WriteFault → ⊥) → (e ≡ end.ReadFault → ⊥) → src2 ≡ src
    → Counts a src src2 out out b k
told_counts e line a y b k src src2 out (inl h) no_write no_read same = record {
  write = λ is. absurd (no_write (sym h.0 ∙ is));
  written = λ _. (refl, h.2);
  read = λ is. absurd (no_read (sym h.0 ∙ is));
  all_read = λ _ _. same;
}
told_counts e line a y b k src src2 out (inr h) no_write no_read same = record {
  write = λ _. inr h.2;
  written = λ no. absurd (no h.0);
  read = λ is. absurd (write_no_read (sym h.0 ∙ is));
  all_read = λ no _. absurd (no h.0);
}

bad_no_write : (line : ℕ) → end.BadList line ≡ end.WriteFault → ⊥
bad_no_write line h = cc

bad_no_read : (line : ℕ) → end.BadList line ≡ end.ReadFault → ⊥
bad_no_read line h = cc

memory_no_write : end.NoMemory ≡ end.WriteFault → ⊥
memory_no_write h = cc

memory_no_read : end.NoMemory ≡ end.ReadFault → ⊥
memory_no_read h = cc

pub bad_list_counts : (line : ℕ) (text : List ℕ) (a : End) (n n2 : Option (List ℕ)) (b k src src2 out : ℕ) → src2 ≡ src → ToldAtBest (end.BadList line) text a n n2 b k
    → Counts a src src2 out out b k
bad_list_counts line text a n n2 b k src src2 out same (y, inl h, said) = told_counts _ _ a y b k src src2 out h (bad_no_write line) (bad_no_read line) same
bad_list_counts line text a n n2 b k src src2 out same (y, inr h, said) = told_counts _ _ a y b k src src2 out h memory_no_write memory_no_read same

-- what was seen through a reference is what stands there
pub read_seen : (name : List ℕ) (told : Option Holding) (bytes seen : List ℕ) → seen ≡ bytes → IsRead name list_limit told bytes → IsRead name list_limit told seen
read_seen name told bytes seen same h = let P : List ℕ → Type 0 = λ l. IsRead name list_limit told l in subst P (sym same) h

pub listed_seen : (bytes : List ℕ) (names seen : List (Bor (List ℕ))) → seen ≡ names → Listed bytes (map (λ (n : Bor (List ℕ)). n.now) names)
    → Listed bytes (map (λ (n : Bor (List ℕ)). n.now) seen)
listed_seen bytes names seen same h = let P : List (Bor (List ℕ)) → Type 0 = λ l. Listed bytes (map (λ (n : Bor (List ℕ)). n.now) l) in subst P (sym same) h

-- a place among the names that were seen
pub low_seen : (names seen : List (Bor (List ℕ))) (at : ℕ) → seen ≡ names → at < length (map (λ (n : Bor (List ℕ)). n.now) seen) → at < length names
low_seen names seen at same low =
    let e : length (map (λ (n : Bor (List ℕ)). n.now) seen) ≡ length names = length-map seen (λ (n : Bor (List ℕ)). n.now) ∙ ap length same in
    omega arith

pub place_seen : (seen : List (Bor (List ℕ))) (at : ℕ) → at < length (map (λ (n : Bor (List ℕ)). n.now) seen) → at < length seen
place_seen seen at low = let e = length-map seen (λ (n : Bor (List ℕ)). n.now) in omega arith

pub named_seen : (names seen : List (Bor (List ℕ))) (at : ℕ) (name : Bor (List ℕ)) → seen ≡ names → at < length names → name ≡ get_or names at name
    → slice_get (map (λ (n : Bor (List ℕ)). n.now) seen) at ≡ Some name.now
named_seen names seen at name same low is =
    ap (λ (l : List (Bor (List ℕ))). slice_get (map (λ (n : Bor (List ℕ)). n.now) l) at) same ∙ named_at names at name low is
