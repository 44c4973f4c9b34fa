-- The directives behind a `local`, whose hidden ones end with it.
use Rattle.std.proofs.Common.{◌≡◌, ℕ, ◌≤◌, ◌++◌, length, take, drop, ap, ◌∙◌}
use Rattle.std.proofs.lemmas.List.{take-append-le}
use Rattle.sml_grammar_exp.specs.Decs.{Changes}
use Rattle.sml_parse_exp.proofs.Scopes.{dropped_front, taken_front}

-- behind the row that is shown
pub shown_left : (mid ys all new : Changes) (outer inner : ℕ) → outer ≤ length mid → all ≡ mid ++ ys → inner ≡ length mid → new ≡ take outer all ++ drop inner all → new ≡ take outer mid ++ ys
shown_left mid ys all new outer inner le a n e =
    let front : take outer all ≡ take outer mid = ap (take outer) a ∙ take-append-le outer mid ys le in
    let back : drop inner all ≡ ys = ap (λ (k : ℕ). drop k all) n ∙ (ap (drop (length mid)) a ∙ dropped_front mid ys) in
    e ∙ (ap (λ (z : Changes). z ++ drop inner all) front ∙ ap (λ (z : Changes). take outer mid ++ z) back)

-- behind all of it
pub hidden_left : (cs xs ys mid new : Changes) (outer : ℕ) → mid ≡ cs ++ xs → outer ≡ length cs → new ≡ take outer mid ++ ys → new ≡ cs ++ ys
hidden_left cs xs ys mid new outer i n e =
    let front : take outer mid ≡ cs = ap (λ (k : ℕ). take k mid) n ∙ (ap (take (length cs)) i ∙ taken_front cs xs) in
    e ∙ ap (λ (z : Changes). z ++ ys) front
