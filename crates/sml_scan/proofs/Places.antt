-- Places in a list of tokens, by what is left of it.
use Rattle.std.proofs.Common.{◌≡◌, ℕ, ◌+◌, ◌-◌, ◌≤◌, List, ◌++◌, length, take, drop, sym, ap, ◌∙◌, append_assoc, arith}
use Rattle.std.proofs.lemmas.List.{length-append, length-drop, take-append-drop}
use Rattle.std.proofs.Math.Seq.{drop-append_seam, take-length}
use Rattle.sml_lex.specs.declared.token.Token.{Token}

-- the tokens from a place on, as a slice to the end has them
pub slice_is : (tokens : List Token) (at : ℕ) → take (length tokens - at) (drop at tokens) ≡ drop at tokens
slice_is tokens at = ap (λ (n : ℕ). take n (drop at tokens)) (sym (length-drop at tokens)) ∙ take-length (drop at tokens)

cut : (tokens front rest : List Token) → tokens ≡ front ++ rest → drop (length tokens - length rest) tokens ≡ rest
cut tokens front rest whole =
    let count : length tokens - length rest ≡ length front = omega (arith, ap length whole, length-append front rest) in
    ap (λ (n : ℕ). drop n tokens) count ∙ (ap (λ (z : List Token). drop (length front) z) whole ∙ drop-append_seam front rest)

-- what is left of a list that was read up to there
pub behind : (tokens read rest : List Token) (at : ℕ) → drop at tokens ≡ read ++ rest → drop (length tokens - length rest) tokens ≡ rest
behind tokens read rest at e =
    cut tokens (take at tokens ++ read) rest (sym (take-append-drop at tokens) ∙ (ap (λ (z : List Token). take at tokens ++ z) e ∙ sym (append_assoc (take at tokens) read rest)))

pub count_is : (tokens read rest : List Token) (at : ℕ) → at ≤ length tokens → drop at tokens ≡ read ++ rest → at + length read ≡ length tokens - length rest
count_is tokens read rest at le e =
    omega (arith, length-drop at tokens, ap length e, length-append read rest)

-- the place behind what was read
pub next_is : (tokens read rest : List Token) (at next : ℕ) → at ≤ length tokens → rest ≡ drop next tokens → drop at tokens ≡ read ++ drop next tokens → at + length read ≡ next → length tokens - length rest ≡ next
next_is tokens read rest at next le left parts counts =
    omega (arith, counts, ap length left, length-drop next tokens, length-drop at tokens, ap length parts, length-append read (drop next tokens))
