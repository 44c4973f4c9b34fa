-- The parts of a long identifier.
use Rattle.std.proofs.Common.{◌≡◌, ℕ, ◌<◌, Bool, true, false, cond, not, ◌&&◌, ◌||◌, List, [], ◌∷◌, ◌++◌, length, take, refl, sym, ap, subst, ◌∙◌, arith, ◌==◌, eqb, append_assoc}
use Rattle.std.specs.List.{prefix_len}
use Rattle.std.proofs.lemmas.Bool.Decides.{nat_tests}
use Rattle.std.proofs.lemmas.Bool.{eqb-true}
use Rattle.std.proofs.Math.Seq.{take-append_seam}
use Rattle.sml_lex.specs.Bytes.{is_letter, is_name_byte, is_symbol, first_is, all_are}
use Rattle.sml_lex.specs.Names.{with_first, parts_of, is_free, is_alphanumeric, is_symbolic, is_identifier, is_last, is_long, whole_run, free_run}
use Rattle.sml_lex.proofs.Lists.{first_true, second_true}
use Rattle.sml_lex.proofs.Runs.{run_is, first_append, some_first}

abbrev pub no_dot : ℕ → Bool
no_dot c = not (c == 46)

pub name_no_dot : (c : ℕ) → is_name_byte c ≡ true → no_dot c ≡ true
name_no_dot c e = grind (arith, nat_tests)

symbol_no_dot_by : (c : ℕ) (b : Bool) → eqb c 46 ≡ b → is_symbol c ≡ true → no_dot c ≡ true
symbol_no_dot_by c true f e = absurd (let wrong : is_symbol 46 ≡ true = subst (λ d. is_symbol d ≡ true) (eqb-true c 46 f) e in cc)
symbol_no_dot_by c false f e = rw f refl

pub symbol_no_dot : (c : ℕ) → is_symbol c ≡ true → no_dot c ≡ true
symbol_no_dot c e = symbol_no_dot_by c (eqb c 46) refl e

-- ---- parting at dots

-- a run without dots is its one part
pub one_part : (p : List ℕ) → all_are no_dot p ≡ true → parts_of p ≡ p ∷ []
one_part [] e = refl
one_part (c ∷ p) e = by (one_part p (second_true (no_dot c) (all_are no_dot p) e)) (eqb c 46) refl
  where
    dots : no_dot c ≡ true
    dots = first_true (no_dot c) (all_are no_dot p) e

    by : parts_of p ≡ p ∷ [] → (b : Bool) → eqb c 46 ≡ b → cond (eqb c 46) ([] ∷ parts_of p) (with_first c (parts_of p)) ≡ (c ∷ p) ∷ []
    by rest true f = absurd (let wrong : not true ≡ true = subst (λ b. not b ≡ true) f dots in cc)
    by rest false f = rw (f, rest) refl

-- what is no part alone is a part, a dot and further parts
pub data Split (w : List ℕ) : Type 0 where
  alone : parts_of w ≡ w ∷ [] → Split w
  dotted : (p v : List ℕ) → w ≡ p ++ 46 ∷ v → parts_of w ≡ p ∷ parts_of v → Split w

pub split : (w : List ℕ) → Split w
split [] = alone refl
split (c ∷ w) = by (eqb c 46) refl (split w)
  where
    by : (b : Bool) → eqb c 46 ≡ b → Split w → Split (c ∷ w)
    by true f s = dotted [] w (ap (λ d. d ∷ w) (eqb-true c 46 f)) (rw f refl)
    by false f (alone e) = alone (rw (f, e) refl)
    by false f (dotted p v e g) = dotted (c ∷ p) v (ap (λ l. c ∷ l) e) (rw (f, g) refl)

-- parts of what stands before a dot, and behind it
pub parts_append : (w v : List ℕ) → parts_of (w ++ 46 ∷ v) ≡ parts_of w ++ parts_of v
parts_append [] v = refl
parts_append (c ∷ w) v = by (eqb c 46) refl (split w) (parts_append w v)
  where
    by : (b : Bool) → eqb c 46 ≡ b → Split w → parts_of (w ++ 46 ∷ v) ≡ parts_of w ++ parts_of v
        → cond (eqb c 46) ([] ∷ parts_of (w ++ 46 ∷ v)) (with_first c (parts_of (w ++ 46 ∷ v))) ≡ cond (eqb c 46) ([] ∷ parts_of w) (with_first c (parts_of w)) ++ parts_of v
    by true f s ih = rw (f, ih) refl
    by false f (alone e) ih = rw (f, ih, e) refl
    by false f (dotted p u e g) ih = rw (f, ih, g) refl

pub not_last : (w : List ℕ) → is_last (parts_of w) ≡ false
not_last w = by (split w)
  where
    by : Split w → is_last (parts_of w) ≡ false
    by (alone e) = rw e refl
    by (dotted p v e g) = rw g refl

-- ---- identifiers are whole runs

pub letter_no_symbol : (c : ℕ) → is_symbol c ≡ true → is_letter c ≡ false
letter_no_symbol c e = by (is_letter c) refl
  where
    by : (b : Bool) → is_letter c ≡ b → b ≡ false
    by true f = grind (arith, nat_tests)
    by false f = refl

-- the run at the front, by what an identifier is
pub data PartFront (t w v : List ℕ) : Type 0 where
  last : length w ≡ free_run t → 0 < length w → PartFront t w v
  more : (p u : List ℕ) → w ≡ p ++ 46 ∷ u → length p ≡ free_run t → 0 < length p → first_is is_letter t ≡ true → is_long (parts_of u) v ≡ true → PartFront t w v

run_at : (p v : List ℕ) (n : ℕ) → whole_run (p ++ v) ≡ length p → is_free p ≡ true → free_run (p ++ v) ≡ length p
run_at p v n e f =
    let front : take (whole_run (p ++ v)) (p ++ v) ≡ p = ap (λ k. take k (p ++ v)) e ∙ take-append_seam p v in
    ap (λ l. cond (is_free l) (whole_run (p ++ v)) 0) front ∙ ap (λ b. cond b (whole_run (p ++ v)) 0) f ∙ e

alphanumeric_run : (p v : List ℕ) → is_alphanumeric p ≡ true → first_is is_name_byte v ≡ false → whole_run (p ++ v) ≡ length p
alphanumeric_run p v e f =
    let letter : first_is is_letter (p ++ v) ≡ true = first_append is_letter p v (first_true (first_is is_letter p) (all_are is_name_byte p) e) in
    ap (λ b. cond b (prefix_len is_name_byte (p ++ v)) (prefix_len is_symbol (p ++ v))) letter ∙ run_is is_name_byte p v (second_true (first_is is_letter p) (all_are is_name_byte p) e) f

symbolic_run : (p v : List ℕ) → is_symbolic p ≡ true → first_is is_symbol v ≡ false → whole_run (p ++ v) ≡ length p
symbolic_run [] v e f = cc
symbolic_run (c ∷ p) v e f =
    let letter : is_letter c ≡ false = letter_no_symbol c (first_true (is_symbol c) (all_are is_symbol p) e) in
    ap (λ b. cond b (prefix_len is_name_byte (c ∷ (p ++ v))) (prefix_len is_symbol (c ∷ (p ++ v)))) letter ∙ run_is is_symbol (c ∷ p) v e f

pub first_some : (p : ℕ → Bool) (w : List ℕ) → first_is p w ≡ true → 0 < length w
first_some p [] e = cc
first_some p (c ∷ w) e = omega arith

pub not_true : (b : Bool) → not b ≡ true → b ≡ false
not_true true e = cc
not_true false e = refl

-- an identifier, by its two shapes
pub data Shape (p v : List ℕ) : Type 0 where
  letters : is_alphanumeric p ≡ true → first_is is_name_byte v ≡ false → Shape p v
  symbols : is_symbolic p ≡ true → first_is is_symbol v ≡ false → Shape p v

pub shape : (p v : List ℕ) → is_identifier p v ≡ true → Shape p v
shape p v e = by (is_alphanumeric p && not (first_is is_name_byte v)) refl (second_true (is_free p) _ e)
  where
    by : (b : Bool) → (is_alphanumeric p && not (first_is is_name_byte v)) ≡ b
        → ((is_alphanumeric p && not (first_is is_name_byte v)) || (is_symbolic p && not (first_is is_symbol v))) ≡ true → Shape p v
    by true f g = letters (first_true (is_alphanumeric p) (not (first_is is_name_byte v)) f) (not_true _ (second_true (is_alphanumeric p) (not (first_is is_name_byte v)) f))
    by false f g =
        let symbolic : (is_symbolic p && not (first_is is_symbol v)) ≡ true = subst (λ b. (b || (is_symbolic p && not (first_is is_symbol v))) ≡ true) f g in
        symbols (first_true (is_symbolic p) (not (first_is is_symbol v)) symbolic) (not_true _ (second_true (is_symbolic p) (not (first_is is_symbol v)) symbolic))

last_front : (w v : List ℕ) → is_free w ≡ true → Shape w v → PartFront (w ++ v) w v
last_front w v free (letters e f) = last (sym (run_at w v 0 (alphanumeric_run w v e f) free)) (first_some is_letter w (first_true (first_is is_letter w) (all_are is_name_byte w) e))
last_front w v free (symbols e f) = last (sym (run_at w v 0 (symbolic_run w v e f) free)) (first_some is_symbol w (some_first is_symbol w e))

-- what a long identifier's first part is
pub part_front : (t w v : List ℕ) → t ≡ w ++ v → is_long (parts_of w) v ≡ true → PartFront t w v
part_front t w v whole long = subst (λ l. PartFront l w v) (sym whole) (by (split w))
  where
    by : Split w → PartFront (w ++ v) w v
    by (alone e) =
        let all : is_identifier w v ≡ true = subst (λ ps. is_long ps v ≡ true) e long in
        last_front w v (first_true (is_free w) ((is_alphanumeric w && not (first_is is_name_byte v)) || (is_symbolic w && not (first_is is_symbol v))) all) (shape w v all)
    by (dotted p u e g) =
        let all : cond (is_last (parts_of u)) (is_identifier p v) (is_free p && is_alphanumeric p && is_long (parts_of u) v) ≡ true = subst (λ ps. is_long ps v ≡ true) g long in
        let rest : (is_free p && is_alphanumeric p && is_long (parts_of u) v) ≡ true = subst (λ b. cond b (is_identifier p v) (is_free p && is_alphanumeric p && is_long (parts_of u) v) ≡ true) (not_last u) all in
        let part : (is_free p && is_alphanumeric p) ≡ true = first_true (is_free p && is_alphanumeric p) (is_long (parts_of u) v) rest in
        let free : is_free p ≡ true = first_true (is_free p) (is_alphanumeric p) part in
        let letters : is_alphanumeric p ≡ true = second_true (is_free p) (is_alphanumeric p) part in
        let same : w ++ v ≡ p ++ (46 ∷ (u ++ v)) = ap (λ l. l ++ v) e ∙ append_assoc p (46 ∷ u) v in
        let letter : first_is is_letter p ≡ true = first_true (first_is is_letter p) (all_are is_name_byte p) letters in
        more p u e
        (sym (ap free_run same ∙ run_at p (46 ∷ (u ++ v)) 0 (alphanumeric_run p (46 ∷ (u ++ v)) letters refl) free))
        (first_some is_letter p letter)
        (ap (first_is is_letter) same ∙ first_append is_letter p (46 ∷ (u ++ v)) letter)
        (second_true (is_free p && is_alphanumeric p) (is_long (parts_of u) v) rest)
