-- Pairs of names and bytes, by the first with a name.
use Rattle.std.proofs.Common.{◌≡◌, ℕ, ◌+◌, ◌-◌, ◌<◌, List, [], ◌∷◌, Option, Some, None, true, refl, take, drop, length, get_or, ap, subst, sym, ◌∙◌}
use Rattle.std.proofs.lemmas.List.{drop_more, get_or_read, take_rest}
use Rattle.std.proofs.lemmas.Slice.Eq.{bytes_eq-Decides}
use Rattle.std.specs.Str.{bytes_eq}
use Rattle.src_io.specs.Holding.{content_of, bytes_or_none}
use Rattle.src_io.specs.Memory.{Pairs, first_named, name_at, bytes_at, opened_name, IsWithin}

-- where none before has the name, and the pair at an index has it, that pair counts
pub found_at : (held : Pairs) (i : ℕ) (pair : List ℕ × List ℕ) (name : List ℕ)
    → i < length held → pair ≡ get_or held i pair → bytes_eq pair.0 name ≡ true
    → first_named (drop i held) name ≡ first_named held name
    → (i < length held) × (name_at held i ≡ name) × (first_named held name ≡ Some (bytes_at held i))
found_at held i pair name h e named before =
    let at : pair ≡ get_or held i ([], []) = get_or_read held i pair h e ([], []) in
    let called : pair.0 ≡ name = (bytes_eq-Decides pair.0 name).0 named in
    let front : drop i held ≡ pair ∷ drop (i + 1) held = drop_more held i pair h ∙ ap (λ p. p ∷ drop (i + 1) held) (sym e) in
    let counts : first_named (pair ∷ drop (i + 1) held) name ≡ Some pair.1 = rw named refl in (
      h,
      sym (ap (λ p. p.0) at) ∙ called,
      sym before ∙ ap (λ pairs. first_named pairs name) front ∙ counts ∙ ap (λ p. Some p.1) at,
    )

-- the bytes of the open name are those of the open pair
pub content_at : (held : Pairs) (current : Option ℕ) (place at : ℕ) → current ≡ Some at → IsWithin held current place
    → content_of (first_named held) (opened_name held current) ≡ bytes_at held at
content_at held None place at e within = cc
content_at held (Some k) place at e within =
    let same : k ≡ at = cc in ap bytes_or_none within.1 ∙ ap (bytes_at held) same

-- what is left of the pair that is read is what is left of the open name
pub left_at : (held : Pairs) (current : Option ℕ) (place at : ℕ) (pairs : Pairs) (pair : List ℕ × List ℕ) (content : List ℕ)
    → IsWithin held current place → current ≡ Some at → pairs ≡ held → pair ≡ get_or pairs at pair → content ≡ (get_or pairs at pair).1
    → take (length content - place) (drop place content) ≡ drop place (content_of (first_named held) (opened_name held current))
left_at held current place at pairs pair content within e p i is =
    let Q : Option ℕ → Type 0 = λ o. IsWithin held o place in
    let found : IsWithin held (Some at) place = subst Q e within in
    let here : pair ≡ get_or held at pair = rw p at i in
    let there : pair ≡ get_or held at ([], []) = get_or_read held at pair found.0 here ([], []) in
    let whole : content ≡ bytes_at held at = is ∙ ap (λ q. q.1) (sym i) ∙ ap (λ q. q.1) there in
    take_rest content place ∙ ap (drop place) (whole ∙ sym (content_at held current place at e within))
