-- What has to succeed does, or there is no memory.
use Rattle.std.proofs.Common.{◌≡◌, ◌⊎◌, ℕ, List, [], ◌∷◌, ◌++◌, length, Option, Some, None, refl, sym, ◌∙◌, ap, subst, arith, ap, inl, inr, take, ◌+◌, append_assoc}
use Rattle.std.specs.Prelude.{slice_get}
use Rattle.beh.specs.Behaviour.{Begins}
use Rattle.tl_text.specs.declared.fault.Refusal.{Refusal}
use Rattle.src_io.specs.Faults.{Rose}
use Rattle.src_io.specs.Holding.{Holding, Lacks}
use Rattle.src_io.specs.Reading.{IsRead}
use Rattle.tl_session.specs.Faithful.{Standing}
use Rattle.tl_session.specs.Kept.{Source}
use Rattle.tl_session.specs.Refused.{Accepted, RefusedAt, source_limit}
use Rattle.smltl.specs.declared.end.End.{End}
use Rattle.smltl.specs.declared.end.End.TheVariants as end
use Rattle.smltl.specs.Command.{IsCommand}
use Rattle.smltl.specs.Complete.{IsGood}
use Rattle.smltl.specs.Lines.{reading_failed, out_of_memory}
use Rattle.smltl.specs.Listing.{Listed, IsBadAt, list_limit, lines_of, names_among}
use Rattle.smltl.specs.Outcome.{Says, AreSources, AtNames, AtList, StopsAt, Outcome, Counts, written_for}

no_some : (x : List ℕ) → ◌≡◌ {A = Option (List ℕ)} None (Some x) → ⊥
no_some x h = cc

same_some : (x y : List ℕ) → ◌≡◌ {A = Option (List ℕ)} (Some x) (Some y) → x ≡ y
same_some x y h = cc

same_second : (p q a b : List ℕ) → p ∷ a ∷ [] ≡ q ∷ b ∷ [] → a ≡ b
same_second p q a b h = cc

same_command : (words : List (List ℕ)) (a b : List ℕ) → IsCommand words a → IsCommand words b → a ≡ b
same_command words a b h k = same_second h.0 k.0 a b (sym h.1 ∙ k.1)

-- what is held under a name is one thing
same_bytes : (h : Holding) (name : List ℕ) (limit : ℕ) (x y : List ℕ) → IsRead name limit (Some h) x → IsRead name limit (Some h) y → x ≡ y
same_bytes h name limit x y a b =
    let e : a.0 ≡ b.0 = same_some a.0 b.0 (sym a.1 ∙ b.1) in
    let P : List ℕ → Type 0 = λ held. x ≡ take (limit + 1) held in
    subst P e a.2 ∙ sym b.2

read_lacks : (h : Holding) (name : List ℕ) (limit : ℕ) (x : List ℕ) → IsRead name limit (Some h) x → Lacks name (Some h) → ⊥
read_lacks h name limit x a lacks = no_some a.0 (sym lacks ∙ a.1)

neither : {A B : Type 0} → A ⊎ B → (A → ⊥) → (B → ⊥) → ⊥
neither (inl a) no_a no_b = no_a a
neither (inr b) no_a no_b = no_b b

same_source : (t s : Source) → t.name ≡ s.name → t.bytes ≡ s.bytes → t ≡ s
same_source t s p q = λ i. record { name = p i; bytes = q i }

-- the next of all sources, where some first ones are given
next_source : (h : Holding) (names : List (List ℕ)) (first all : List Source) (name : List ℕ) → AreSources (Some h) names first → AreSources (Some h) names all → length all ≡ length names
    → slice_get names (length first) ≡ Some name
    → (s : Source) × (after : List Source) × (all ≡ first ++ (s ∷ after)) × (s.name ≡ name) × IsRead name source_limit (Some h) s.bytes
next_source h [] [] all name f a same here = absurd (no_some name here)
next_source h [] (s ∷ first) all name f a same here = absurd f
next_source h (n ∷ names) [] [] name f a same here = absurd (omega arith)
next_source h (n ∷ names) [] (t ∷ all) name f a same here =
    let e : n ≡ name = same_some n name here in
    let P : List ℕ → Type 0 = λ m. IsRead m source_limit (Some h) t.bytes in
    (t, all, refl, a.0 ∙ e, subst P e a.1)
next_source h (n ∷ names) (s ∷ first) [] name f a same here = absurd (omega arith)
next_source h (n ∷ names) (s ∷ first) (t ∷ all) name f a same here =
    let r = next_source h names first all name f.2 a.2 (omega arith) here in
    let e : t ≡ s = same_source t s (a.0 ∙ sym f.0) (same_bytes h n source_limit t.bytes s.bytes a.1 f.1) in
    (r.0, r.1, ap (λ l. t ∷ l) r.2 ∙ ap (λ u. u ∷ (first ++ (r.0 ∷ r.1))) e, r.3, r.4)

-- no further source stops what is good
no_stop : (h : Holding) (names : List (List ℕ)) (first all : List Source) (name : List ℕ) → AreSources (Some h) names first → AreSources (Some h) names all → length all ≡ length names
    → Accepted all → slice_get names (length first) ≡ Some name → (bytes : List ℕ) → IsRead name source_limit (Some h) bytes → (r : Refusal)
    → RefusedAt (first ++ record { name = name; bytes = bytes } ∷ []) r.place r.code → ⊥
no_stop h names first all name f a same accepted here bytes read r (before, source, is, good, fails) =
    let n = next_source h names first all name f a same here in
    let x : Source = record { name = name; bytes = bytes } in
    let e : n.0 ≡ x = same_source n.0 x n.3 (same_bytes h name source_limit n.0.bytes bytes n.4 read) in
    let whole : all ≡ before ++ (source ∷ n.1) =
    n.2 ∙ ap (λ u. first ++ (u ∷ n.1)) e ∙ sym (append_assoc first (x ∷ []) n.1) ∙ ap (λ l. l ++ n.1) is ∙ append_assoc before (source ∷ []) n.1 in
    accepted before n.1 source r.place r.code whole fails

-- what is answered where nothing failed in writing
said : (e : End) (line : List ℕ) (answer : End) (notes : List ℕ) → Says e line answer notes → (answer ≡ end.WriteFault → ⊥) → answer ≡ e
said e line answer notes (inl h) no_write = h.0
said e line answer notes (inr h) no_write = absurd (no_write h.0)

-- the next source stops nothing that is good
no_stops : (h : Holding) (names : List (List ℕ)) (all : List Source) (answer : End) (notes name : List ℕ) (s : Standing) → AreSources (Some h) names s.sources → AreSources (Some h) names all
    → length all ≡ length names → Accepted all → slice_get names (length s.sources) ≡ Some name → StopsAt (Some h) s name answer notes → ⊥
no_stops h names all answer notes name s f a same accepted here (inl stops) =
    let n = next_source h names s.sources all name f a same here in
    read_lacks h name source_limit n.0.bytes n.4 stops.0
no_stops h names all answer notes name s f a same accepted here (inr (bytes, refusal, read, refused, says)) =
    no_stop h names s.sources all name f a same accepted here bytes read refusal refused

-- how the translation of what is good ends
abbrev Ending : Option Holding → List (List ℕ) → Standing → End → List ℕ → List ℕ → Type 0
Ending told names standing answer out notes =
    ((length standing.sources ≡ length names) × (answer ≡ end.Done) × (out ≡ written_for standing) × (notes ≡ []))
    ⊎ (((name : List ℕ) × (slice_get names (length standing.sources) ≡ Some name) × (out ≡ written_for standing) × StopsAt told standing name answer notes)
    ⊎ (((out ≡ written_for standing) × Says end.ReadFault reading_failed answer notes)
    ⊎ ((((out ≡ []) ⊎ (out ≡ written_for standing)) × Says end.NoMemory out_of_memory answer notes)
    ⊎ (Begins (written_for standing) out × (answer ≡ end.WriteFault) × (notes ≡ [])))))

good_ending : (h : Holding) (names : List (List ℕ)) (all : List Source) (answer : End) (out notes : List ℕ) (s : Standing) → AreSources (Some h) names s.sources → AreSources (Some h) names all
    → length all ≡ length names → Accepted all → (answer ≡ end.WriteFault → ⊥) → (answer ≡ end.ReadFault → ⊥) → Ending (Some h) names s answer out notes
    → (answer ≡ end.Done) ⊎ (answer ≡ end.NoMemory)
good_ending h names all answer out notes s f a same accepted no_write no_read (inl done) = inl done.1
good_ending h names all answer out notes s f a same accepted no_write no_read (inr (inl stops)) =
    absurd (no_stops h names all answer notes stops.0 s f a same accepted stops.1 stops.3)
good_ending h names all answer out notes s f a same accepted no_write no_read (inr (inr (inl reading))) = absurd (no_read (said _ _ _ _ reading.1 no_write))
good_ending h names all answer out notes s f a same accepted no_write no_read (inr (inr (inr (inl memory)))) = inr (said _ _ _ _ memory.1 no_write)
good_ending h names all answer out notes s f a same accepted no_write no_read (inr (inr (inr (inr writing)))) = absurd (no_write writing.1)

good_list : (h : Holding) (list bytes : List ℕ) (names : List (List ℕ)) (answer : End) (notes : List ℕ) → IsRead list list_limit (Some h) bytes → Listed bytes names
    → (answer ≡ end.WriteFault → ⊥) → (answer ≡ end.ReadFault → ⊥) → AtList (Some h) list answer notes → (answer ≡ end.Done) ⊎ (answer ≡ end.NoMemory)
good_list h list bytes names answer notes read listed no_write no_read (inl missing) = absurd (read_lacks h list list_limit bytes read missing.0)
good_list h list bytes names answer notes read listed no_write no_read (inr (inl (seen, line, seen_read, (i, line_is, bad, first), says))) =
    let P : List ℕ → Type 0 = λ b. IsBadAt b i in
    absurd (listed.good i (subst P (same_bytes h list list_limit seen bytes seen_read read) bad))
good_list h list bytes names answer notes read listed no_write no_read (inr (inr (inl reading))) = absurd (no_read (said _ _ _ _ reading no_write))
good_list h list bytes names answer notes read listed no_write no_read (inr (inr (inr memory))) = inr (said _ _ _ _ memory no_write)

-- what a list names is one thing
same_names : (a b : List ℕ) (x y : List (List ℕ)) → a ≡ b → Listed a x → Listed b y → x ≡ y
same_names a b x y is h k = h.listed ∙ ap (λ l. names_among (lines_of l)) is ∙ sym k.listed

good_end : (words : List (List ℕ)) (h : Holding) (answer : End) (out notes : List ℕ) → IsGood words h → (answer ≡ end.WriteFault → ⊥) → (answer ≡ end.ReadFault → ⊥)
    → Outcome words (Some h) answer out notes → (answer ≡ end.Done) ⊎ (answer ≡ end.NoMemory)
good_end words h answer out notes g no_write no_read (inl none) = absurd (none.0 g.list g.command)
good_end words h answer out notes g no_write no_read (inr (list, command, inl at)) =
    let P : List ℕ → Type 0 = λ l. AtList (Some h) l answer notes in
    good_list h g.list g.bytes g.names answer notes g.read g.listed no_write no_read (subst P (same_command words list g.list command g.command) at.1)
good_end words h answer out notes g no_write no_read (inr (list, command, inr (bytes, names, read, listed, at))) =
    let P : List ℕ → Type 0 = λ l. IsRead l list_limit (Some h) bytes in
    let Q : List (List ℕ) → Type 0 = λ ns. AtNames (Some h) ns answer out notes in
    let here : IsRead g.list list_limit (Some h) bytes = subst P (same_command words list g.list command g.command) read in
    let same : bytes ≡ g.bytes = same_bytes h g.list list_limit bytes g.bytes here g.read in
    let t : AtNames (Some h) g.names answer out notes = subst Q (same_names bytes g.bytes names g.names same listed g.listed) at in
    good_ending h g.names g.sources answer out notes t.standing t.sources g.held g.all g.accepted no_write no_read t.ending

no_writing : (answer : End) (src src2 out out2 notes notes2 : ℕ) → Counts answer src src2 out out2 notes notes2 → (Rose out out2 → ⊥) → (Rose notes notes2 → ⊥) → answer ≡ end.WriteFault → ⊥
no_writing answer src src2 out out2 notes notes2 c no_out no_notes is = neither (c.write is) no_out no_notes

pub complete : (words : List (List ℕ)) (h : Holding) (answer : End) (grown said : List ℕ) (src src2 out out2 notes notes2 : ℕ) → IsGood words h → Outcome words (Some h) answer grown said
    → Counts answer src src2 out out2 notes notes2 → (Rose src src2 → ⊥) → (Rose out out2 → ⊥) → (Rose notes notes2 → ⊥) → (answer ≡ end.Done) ⊎ (answer ≡ end.NoMemory)
complete words h answer grown said src src2 out out2 notes notes2 g o c no_src no_out no_notes =
    good_end words h answer grown said g (no_writing answer src src2 out out2 notes notes2 c no_out no_notes) (λ is. no_src (c.read is)) o
