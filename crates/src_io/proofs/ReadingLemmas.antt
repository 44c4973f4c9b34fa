-- A reading on its way.
use Rattle.std.proofs.Common.{◌≡◌, ℕ, ◌+◌, ◌-◌, ◌≤◌, ◌<◌, inl, inr, zero, suc, List, [], ◌++◌, Option, Some, None, IsSome, refl, take, drop, length, min, ap, subst, sym, ◌∙◌, arith, length-drop}
use Rattle.std.proofs.lemmas.List.{take_all, take-take, length-take}
use Rattle.std.proofs.lemmas.Bool.{cases_lt}
use Rattle.std.proofs.Math.Seq.{take-add}
use Rattle.src_io.specs.Holding.{Holding, Opens, Reads}
use Rattle.src_io.specs.Reading.{IsRead, SameFiles}

-- These bytes were read under the name so far, one more than the limit at most kept.
abbrev pub IsReading : List ℕ → ℕ → Option Holding → Option Holding → List ℕ → Type 0
IsReading name limit None now bytes = now ≡ None
IsReading name limit (Some h) now bytes =
    (content : List ℕ) × (place : ℕ) × (h.files name ≡ Some content) × (place ≤ length content)
    × (now ≡ Some (record h { opened = Some name; place = place })) × (bytes ≡ take (limit + 1) (take place content))

some_value : (o : Option (List ℕ)) → IsSome o → (x : List ℕ) × (o ≡ Some x)
some_value (Some x) _ = (x, refl)
some_value None h = cc

-- at the opening nothing was read
pub IsReading-opened : (name : List ℕ) (limit : ℕ) (before now : Option Holding)
    → Opens name before now → IsReading name limit before now []
IsReading-opened name limit None now opens = opens
IsReading-opened name limit (Some h) now opens =
    let held = some_value (h.files name) opens.0 in
    (held.0, 0, held.1, omega arith, opens.1, sym (take_all (limit + 1) [] (omega arith)))

-- a front of a front is the front of the shorter length
take-short : (i n : ℕ) (xs : List ℕ) → n ≤ i → take i (take n xs) ≡ take n xs
take-short i n xs h = take_all i (take n xs) (omega (arith, length-take n xs))

-- what is kept of a front, by its length
kept_last : (content : List ℕ) (limit place n m : ℕ) → place ≤ limit → m ≡ min n (limit + 1 - place)
    → take (place + m) content ≡ take (limit + 1) (take (place + n) content)
kept_last content limit place n m few fits =
    elim (cases_lt (place + n) (limit + 1)) as (λ _. take (place + m) content ≡ take (limit + 1) (take (place + n) content)) [
      | inl h ↦ let e : m ≡ n = omega arith in ap (λ k. take (place + k) content) e ∙ sym (take-short (limit + 1) (place + n) content (omega arith))
      | inr h ↦ let e : place + m ≡ limit + 1 = omega arith in ap (λ k. take k content) e ∙ sym (take-take (limit + 1) (place + n) content h)
    ]

-- the fronts that are kept grow by what was read, up to the limit
kept_more : (content bytes buffer : List ℕ) (limit place n m : ℕ) → place ≤ length content
    → bytes ≡ take (limit + 1) (take place content) → length bytes ≤ limit
    → take n buffer ≡ take n (drop place content) → m ≡ min n (limit + 1 - length bytes)
    → bytes ++ take m buffer ≡ take (limit + 1) (take (place + n) content)
kept_more content bytes buffer limit place n m within is few same fits =
    let count : length bytes ≡ min (limit + 1) (length (take place content)) = ap length is ∙ length-take (limit + 1) (take place content) in
    let near : place ≡ length bytes = omega (arith, length-take place content) in
    let front : bytes ≡ take place content = is ∙ take-short (limit + 1) place content (omega arith) in
    let within_read : m ≤ n = omega arith in
    let part : take m buffer ≡ take m (drop place content) =
    sym (take-take m n buffer within_read) ∙ ap (take m) same ∙ take-take m n (drop place content) within_read in
    let whole : bytes ++ take m buffer ≡ take (place + m) content =
    ap (λ x. x ++ take m buffer) front ∙ ap (λ x. take place content ++ x) part ∙ sym (take-add place m content) in
    whole ∙ kept_last content limit place n m (omega arith) (omega arith)

-- after a read the bytes are those so far and what it gave
pub IsReading-more : (name : List ℕ) (limit : ℕ) (before middle now : Option Holding) (bytes buffer : List ℕ) (n m : ℕ)
    → length bytes ≤ limit → IsReading name limit before middle bytes → Reads n buffer middle now
    → m ≡ min n (limit + 1 - length bytes) → IsReading name limit before now (bytes ++ take m buffer)
IsReading-more name limit None middle now bytes buffer n m few so_far reads fits =
    let P : Option Holding → Type 0 = λ h. Reads n buffer h now in subst P so_far reads
IsReading-more name limit (Some h) middle now bytes buffer n m few so_far reads fits =
    let content = so_far.0 in
    let place = so_far.1 in
    let P : Option Holding → Type 0 = λ h. Reads n buffer h now in
    let read = subst P so_far.4 reads in
    let counted : n ≤ length (drop place content) = rw so_far.2 at read.0 in
    let same : take n buffer ≡ take n (drop place content) = rw so_far.2 at read.1 in (
      content,
      place + n,
      so_far.2,
      omega (arith, length-drop place content),
      read.3,
      kept_more content bytes buffer limit place n m so_far.3 so_far.5 few same fits,
    )

-- what cannot be positive is none
none_left : (k : ℕ) → (0 < k → 0 < 0) → k ≤ 0
none_left zero some = omega arith
none_left (suc k) some = absurd (omega (arith, some (omega arith)))

-- a read that gives nothing where there is room is the end
pub IsReading-ended : (name : List ℕ) (limit : ℕ) (before middle now : Option Holding) (bytes buffer : List ℕ)
    → length bytes ≤ limit + 1 → 0 < length buffer → IsReading name limit before middle bytes → Reads 0 buffer middle now
    → IsRead name limit before bytes
IsReading-ended name limit None middle now bytes buffer few room so_far reads = few
IsReading-ended name limit (Some h) middle now bytes buffer few room so_far reads =
    let content = so_far.0 in
    let place = so_far.1 in
    let P : Option Holding → Type 0 = λ h. Reads 0 buffer h now in
    let read = subst P so_far.4 reads in
    let some : 0 < length (drop place content) → 0 < 0 = rw so_far.2 at read.2 room in
    let all : take place content ≡ content = take_all place content (omega (arith, length-drop place content, none_left (length (drop place content)) some)) in
    (content, so_far.2, rw all at so_far.5)

-- more than the limit is enough
pub IsReading-full : (name : List ℕ) (limit : ℕ) (before now : Option Holding) (bytes : List ℕ)
    → length bytes ≤ limit + 1 → limit < length bytes → IsReading name limit before now bytes
    → IsRead name limit before bytes
IsReading-full name limit None now bytes few full so_far = few
IsReading-full name limit (Some h) now bytes few full so_far =
    let content = so_far.0 in
    let place = so_far.1 in
    let count : length bytes ≡ min (limit + 1) (length (take place content)) = ap length so_far.5 ∙ length-take (limit + 1) (take place content) in
    let far : limit + 1 ≤ place = omega (arith, length-take place content) in
    (content, so_far.2, so_far.5 ∙ take-take (limit + 1) place content far)

-- a reading changes no file
pub IsReading-same : (name : List ℕ) (limit : ℕ) (before now : Option Holding) (bytes : List ℕ)
    → IsReading name limit before now bytes → SameFiles before now
IsReading-same name limit None now bytes so_far = so_far
IsReading-same name limit (Some h) now bytes so_far = (_, so_far.4, refl)

-- nor does what changes nothing
pub SameFiles-same : (before now : Option Holding) → now ≡ before → SameFiles before now
SameFiles-same None now e = e
SameFiles-same (Some h) now e = (h, e, refl)

-- nor does a read
pub SameFiles-read : (before middle now : Option Holding) (buffer : List ℕ) (n : ℕ)
    → SameFiles before middle → Reads n buffer middle now → SameFiles before now
SameFiles-read None middle now buffer n same reads =
    let P : Option Holding → Type 0 = λ h. Reads n buffer h now in subst P same reads
SameFiles-read (Some h) middle now buffer n same reads =
    let P : Option Holding → Type 0 = λ h. Reads n buffer h now in
    let read = subst P same.1 reads in
    (_, read.3, same.2)
