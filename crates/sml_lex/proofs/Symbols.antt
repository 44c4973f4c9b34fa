-- The longest symbolic run or mark at the front.
use Rattle.std.proofs.Common.{◌≡◌, ℕ, suc, ◌<◌, ◌≤◌, Bool, true, false, cond, not, ◌&&◌, ◌||◌, List, [], ◌∷◌, ◌++◌, length, take, drop, Option, Some, None, refl, sym, ap, subst, ◌∙◌, arith, ◌==◌, eqb, take-append-drop, length-take-le}
use Rattle.std.specs.Prelude.{codes}
use Rattle.std.specs.List.{prefix_len}
use Rattle.std.specs.Str.{bytes_eq}
use Rattle.std.proofs.lemmas.Bool.{eqb-true}
use Rattle.std.proofs.lemmas.Slice.Eq.{bytes_eq-Decides}
use Rattle.std.proofs.Math.Seq.{take-append_seam}
use Rattle.tl_cases.specs.Rows.{value_at}
use Rattle.tl_cases.specs.Words.{sml_rows}
use Rattle.sml_lex.specs.declared.token.Kind.{Kind}
use Rattle.sml_lex.specs.declared.token.Kind.TheVariants.{Word, Id}
use Rattle.sml_lex.specs.declared.step.Step.TheVariants.{Take, Fail}
use Rattle.tl_text.specs.declared.code.Code.TheVariants.{BadToken}
use Rattle.sml_lex.specs.Bytes.{is_digit, is_letter, is_symbol, first_is, all_are}
use Rattle.sml_lex.specs.Numbers.{Reading, Token, number_reading}
use Rattle.sml_lex.specs.Steps.{reading, name_reading, symbol_reading, tyvar_reading, word_or, begins_number, Begins, RunStep, longest, nothing, is_mark_first, mark_length}
use Rattle.sml_lex.proofs.Lists.{first_true, second_true}
use Rattle.sml_lex.proofs.Runs.{run_bound, run_passes, run_stops, run_some}
use Rattle.sml_lex.proofs.Parts.{letter_no_symbol, not_true}
use Rattle.sml_lex.proofs.Words.{mark_word, Mark, one, dots, is_one}
use Rattle.sml_lex.proofs.Ids.{begins_first, run_front}

fourth : {X : Type 0} (a b c d : Bool) (p q r s t : X) → a ≡ false → b ≡ false → c ≡ false → d ≡ true → cond a p (cond b q (cond c r (cond d s t))) ≡ s
fourth a b c d p q r s t e f g h = ap (λ a. cond a p (cond b q (cond c r (cond d s t)))) e ∙ ap (λ b. cond b q (cond c r (cond d s t))) f ∙ ap (λ c. cond c r (cond d s t)) g ∙ ap (λ d. cond d s t) h

fifth : {X : Type 0} (a b c d : Bool) (p q r s t : X) → a ≡ false → b ≡ false → c ≡ false → d ≡ false → cond a p (cond b q (cond c r (cond d s t))) ≡ t
fifth a b c d p q r s t e f g h = ap (λ a. cond a p (cond b q (cond c r (cond d s t)))) e ∙ ap (λ b. cond b q (cond c r (cond d s t))) f ∙ ap (λ c. cond c r (cond d s t)) g ∙ ap (λ d. cond d s t) h

or_first : (a b : Bool) → (a || b) ≡ false → a ≡ false
or_first true b e = e
or_first false b e = refl

and_false : (a : Bool) → (a && false) ≡ false
and_false true = refl
and_false false = refl

-- a part of the text at the front begins no number where the text begins none
begins_front : (c : ℕ) (u v : List ℕ) → begins_number (c ∷ (u ++ v)) ≡ false → begins_number (c ∷ u) ≡ false
begins_front c [] v e = ap (λ b. b || (c == 126 && false)) (or_first (is_digit c) (c == 126 && first_is is_digit v) e) ∙ and_false (c == 126)
begins_front c (d ∷ u) v e = e

symbol_no_prime : (c : ℕ) → is_symbol c ≡ true → eqb c 39 ≡ false
symbol_no_prime c e = by (eqb c 39) refl
  where
    by : (b : Bool) → eqb c 39 ≡ b → b ≡ false
    by true f = absurd (let wrong : is_symbol 39 ≡ true = subst (λ d. is_symbol d ≡ true) (eqb-true c 39 f) e in cc)
    by false f = refl

symbol_read : (c : ℕ) (u v : List ℕ) → is_symbol c ≡ true → begins_number (c ∷ (u ++ v)) ≡ false → reading (c ∷ u) v ≡ symbol_reading (c ∷ u) v
symbol_read c u v e f = fourth (is_letter c) (eqb c 39) (begins_number (c ∷ u)) (is_symbol c) (name_reading (c ∷ u) v) (tyvar_reading (c ∷ u) v) (number_reading (c ∷ u)) (symbol_reading (c ∷ u) v) (word_or (value_at (c ∷ u) sml_rows) None)
    (letter_no_symbol c e) (symbol_no_prime c e) (begins_front c u v f) e

symbol_form : (u v : List ℕ) (y : Reading) → symbol_reading u v ≡ Some y → all_are is_symbol u ≡ true
symbol_form u v y r = by (all_are is_symbol u && not (first_is is_symbol v)) refl r
  where
    by : (b : Bool) → (all_are is_symbol u && not (first_is is_symbol v)) ≡ b → cond (all_are is_symbol u && not (first_is is_symbol v)) (word_or (value_at u sml_rows) (Some (Token (Id (u ∷ []))))) None ≡ Some y → all_are is_symbol u ≡ true
    by true f g = first_true (all_are is_symbol u) (not (first_is is_symbol v)) f
    by false f g = absurd (let none : None ≡ Some y = subst (λ b. cond b (word_or (value_at u sml_rows) (Some (Token (Id (u ∷ []))))) None ≡ Some y) f g in cc)

symbol_bound : (s u v : List ℕ) (y : Reading) → first_is is_symbol s ≡ true → begins_number s ≡ false → Begins s u v y → length u ≤ prefix_len is_symbol s
symbol_bound s [] v y e f b = omega arith
symbol_bound s (c ∷ u) v y e f b =
    let symbol : is_symbol c ≡ true = begins_first is_symbol s (c ∷ u) v y b ∙ e in
    let number : begins_number (c ∷ (u ++ v)) ≡ false = sym (ap begins_number b.whole) ∙ f in
    let all : all_are is_symbol (c ∷ u) ≡ true = symbol_form (c ∷ u) v y (sym (symbol_read c u v symbol number) ∙ b.reads) in
    subst (λ l. suc (length u) ≤ prefix_len is_symbol l) (sym b.whole) (run_bound is_symbol (c ∷ u) v all)

-- the reading of a part of the text, by that of its first byte
symbol_whole : (s u v : List ℕ) → first_is is_symbol s ≡ true → begins_number s ≡ false → s ≡ u ++ v → 0 < length u → reading u v ≡ symbol_reading u v
symbol_whole s [] v e f whole lt = absurd (omega arith)
symbol_whole s (c ∷ u) v e f whole lt = symbol_read c u v (sym (ap (first_is is_symbol) whole) ∙ e) (sym (ap begins_number whole) ∙ f)

pub symbol_longest : (s : List ℕ) (kind : Kind) → first_is is_symbol s ≡ true → begins_number s ≡ false
    → word_or (value_at (take (prefix_len is_symbol s) s) sml_rows) (Some (Token (Id (take (prefix_len is_symbol s) s ∷ [])))) ≡ Some (Token kind) → RunStep s (Take kind (prefix_len is_symbol s))
symbol_longest s kind e f found =
    let n = prefix_len is_symbol s in
    let whole : s ≡ take n s ++ drop n s = sym (take-append-drop n s) in
    let some : 0 < n = run_some is_symbol s e in
    let passes : (all_are is_symbol (take n s) && not (first_is is_symbol (drop n s))) ≡ true = rw (run_passes is_symbol s, run_stops is_symbol s) refl in
    longest (take n s) (drop n s) (Token kind)
    (record {
      begins = record {
        whole = whole;
        reads = symbol_whole s (take n s) (drop n s) e f whole (omega (arith, run_front is_symbol s))
            ∙ ap (λ b. cond b (word_or (value_at (take n s) sml_rows) (Some (Token (Id (take n s ∷ []))))) None) passes ∙ found;
      };
      most = λ u v y b. omega (arith, symbol_bound s u v y e f b, run_front is_symbol s);
    })
    (ap (Take kind) (sym (run_front is_symbol s)))

pub symbol_word : (s : List ℕ) (k : ℕ) → first_is is_symbol s ≡ true → begins_number s ≡ false → value_at (take (prefix_len is_symbol s) s) sml_rows ≡ Some k → RunStep s (Take (Word k) (prefix_len is_symbol s))
symbol_word s k e f found = symbol_longest s (Word k) e f (ap (λ o. word_or o (Some (Token (Id (take (prefix_len is_symbol s) s ∷ []))))) found)

pub symbol_id : (s : List ℕ) → first_is is_symbol s ≡ true → begins_number s ≡ false → value_at (take (prefix_len is_symbol s) s) sml_rows ≡ None → RunStep s (Take (Id (take (prefix_len is_symbol s) s ∷ [])) (prefix_len is_symbol s))
symbol_id s e f none = symbol_longest s (Id (take (prefix_len is_symbol s) s ∷ [])) e f (ap (λ o. word_or o (Some (Token (Id (take (prefix_len is_symbol s) s ∷ []))))) none)

-- ---- marks

mark_read : (c : ℕ) (u v : List ℕ) → is_mark_first (c ∷ (u ++ v)) ≡ true → reading (c ∷ u) v ≡ word_or (value_at (c ∷ u) sml_rows) None
mark_read c u v e =
    let three : (not (is_letter c) && not (c == 39) && not (begins_number (c ∷ (u ++ v)))) ≡ true = first_true (not (is_letter c) && not (c == 39) && not (begins_number (c ∷ (u ++ v)))) (not (is_symbol c)) e in
    let two : (not (is_letter c) && not (c == 39)) ≡ true = first_true (not (is_letter c) && not (c == 39)) (not (begins_number (c ∷ (u ++ v)))) three in
    fifth (is_letter c) (eqb c 39) (begins_number (c ∷ u)) (is_symbol c) (name_reading (c ∷ u) v) (tyvar_reading (c ∷ u) v) (number_reading (c ∷ u)) (symbol_reading (c ∷ u) v) (word_or (value_at (c ∷ u) sml_rows) None)
    (not_true _ (first_true (not (is_letter c)) (not (c == 39)) two))
    (not_true _ (second_true (not (is_letter c)) (not (c == 39)) two))
    (begins_front c u v (not_true _ (second_true (not (is_letter c) && not (c == 39)) (not (begins_number (c ∷ (u ++ v)))) three)))
    (not_true _ (second_true (not (is_letter c) && not (c == 39) && not (begins_number (c ∷ (u ++ v)))) (not (is_symbol c)) e))

mark_no_letter : (s : List ℕ) → is_mark_first s ≡ true → first_is is_letter s ≡ false
mark_no_letter [] e = refl
mark_no_letter (c ∷ t) e =
    let three = first_true (not (is_letter c) && not (c == 39) && not (begins_number (c ∷ t))) (not (is_symbol c)) e in
    let two : (not (is_letter c) && not (c == 39)) ≡ true = first_true (not (is_letter c) && not (c == 39)) (not (begins_number (c ∷ t))) three in
    not_true _ (first_true (not (is_letter c)) (not (c == 39)) two)

mark_no_symbol : (s : List ℕ) → is_mark_first s ≡ true → first_is is_symbol s ≡ false
mark_no_symbol [] e = refl
mark_no_symbol (c ∷ t) e = not_true _ (second_true (not (is_letter c) && not (c == 39) && not (begins_number (c ∷ t))) (not (is_symbol c)) e)

mark_whole : (s u v : List ℕ) → is_mark_first s ≡ true → s ≡ u ++ v → 0 < length u → reading u v ≡ word_or (value_at u sml_rows) None
mark_whole s [] v e whole lt = absurd (omega arith)
mark_whole s (c ∷ u) v e whole lt = mark_read c u v (sym (ap is_mark_first whole) ∙ e)

word_is : (o : Option ℕ) (y : Reading) → word_or o None ≡ Some y → (k : ℕ) × (o ≡ Some k)
word_is None y e = absurd cc
word_is (Some k) y e = (k, refl)

-- a run that is something: one byte, or three dots
record MarkBegins (s u v : List ℕ) : Type 0 where
  number : ℕ
  found : value_at u sml_rows ≡ Some number
  mark : Mark u

mark_begins : (s u v : List ℕ) (y : Reading) → is_mark_first s ≡ true → Begins s u v y → MarkBegins s u v
mark_begins s [] v y e b = absurd (let r = b.reads in cc)
mark_begins s (c ∷ u) v y e b =
    let w = word_is (value_at (c ∷ u) sml_rows) y (sym (mark_whole s (c ∷ u) v e b.whole (omega arith)) ∙ b.reads) in
    record {
      number = w.0;
      found = w.1;
      mark = mark_word (c ∷ u) w.0 w.1 (begins_first is_letter s (c ∷ u) v y b ∙ mark_no_letter s e) (begins_first is_symbol s (c ∷ u) v y b ∙ mark_no_symbol s e);
    }

one_length : (u : List ℕ) → is_one u ≡ true → length u ≡ 1
one_length [] e = cc
one_length (c ∷ []) e = omega arith
one_length (c ∷ d ∷ u) e = cc

dots_length : (s u v : List ℕ) → s ≡ u ++ v → u ≡ codes "..." → mark_length s ≡ 3
dots_length s u v whole is =
    let front : take 3 s ≡ codes "..." = ap (take 3) whole ∙ ap (λ w. take 3 (w ++ v)) is in
    ap (λ b. cond b 3 1) ((bytes_eq-Decides (take 3 s) (codes "...")).1 front)

some_byte : (s : List ℕ) → is_mark_first s ≡ true → 0 < length s
some_byte [] e = cc
some_byte (c ∷ s) e = omega arith

mark_taken : (s : List ℕ) → is_mark_first s ≡ true → length (take (mark_length s) s) ≡ mark_length s
mark_taken s e = by (bytes_eq (take 3 s) (codes "...")) refl
  where
    by : (b : Bool) → bytes_eq (take 3 s) (codes "...") ≡ b → length (take (cond (bytes_eq (take 3 s) (codes "...")) 3 1) s) ≡ cond (bytes_eq (take 3 s) (codes "...")) 3 1
    by true f = ap (λ b. length (take (cond b 3 1) s)) f ∙ ap length ((bytes_eq-Decides (take 3 s) (codes "...")).0 f) ∙ sym (ap (λ b. cond b 3 1) f)
    by false f = ap (λ b. length (take (cond b 3 1) s)) f ∙ length-take-le 1 s (some_byte s e) ∙ sym (ap (λ b. cond b 3 1) f)

mark_some : (s : List ℕ) → 0 < mark_length s
mark_some s = by (bytes_eq (take 3 s) (codes "..."))
  where
    by : (b : Bool) → 0 < cond b 3 1
    by true = omega arith
    by false = omega arith

pub mark_longest : (s : List ℕ) (k : ℕ) → is_mark_first s ≡ true → value_at (take (mark_length s) s) sml_rows ≡ Some k → RunStep s (Take (Word k) (mark_length s))
mark_longest s k e found =
    let n = mark_length s in
    let whole : s ≡ take n s ++ drop n s = sym (take-append-drop n s) in
    let size : length (take n s) ≡ n = mark_taken s e in
    let some : 0 < n = mark_some s in
    longest (take n s) (drop n s) (Token (Word k))
    (record {
      begins = record { whole = whole; reads = mark_whole s (take n s) (drop n s) e whole (omega arith) ∙ ap (λ o. word_or o None) found };
      most = λ u v y b. elim (mark_begins s u v y e b).mark [
        | one f ↦ omega (arith, one_length u f, size, some)
        | dots f ↦ omega (arith, dots_length s u v b.whole f, ap length f, size)
      ];
    })
    (ap (Take (Word k)) (sym size))

dots_word : value_at (codes "...") sml_rows ≡ Some 50
dots_word = refl

not_some : (k : ℕ) → Some k ≡ None → ⊥
not_some k e = cc

-- where the mark at the front is no word, none begins
mark_apart : (s u v : List ℕ) (k : ℕ) → s ≡ u ++ v → value_at u sml_rows ≡ Some k → Mark u → value_at (take (mark_length s) s) sml_rows ≡ None → ⊥
mark_apart s u v k whole found (dots f) none =
    let front : take 3 s ≡ u = ap (take 3) whole ∙ ap (λ w. take 3 (w ++ v)) f ∙ sym f in
    not_some k (sym found ∙ ap (λ w. value_at w sml_rows) (sym front) ∙ ap (λ n. value_at (take n s) sml_rows) (sym (dots_length s u v whole f)) ∙ none)
mark_apart s u v k whole found (one f) none = by (bytes_eq (take 3 s) (codes "...")) refl
  where
    by : (b : Bool) → bytes_eq (take 3 s) (codes "...") ≡ b → ⊥
    by true g =
        let n : mark_length s ≡ 3 = ap (λ b. cond b 3 1) g in
        not_some 50 (sym dots_word ∙ ap (λ w. value_at w sml_rows) (sym ((bytes_eq-Decides (take 3 s) (codes "...")).0 g)) ∙ ap (λ n. value_at (take n s) sml_rows) (sym n) ∙ none)
    by false g =
        let n : mark_length s ≡ 1 = ap (λ b. cond b 3 1) g in
        let front : take 1 s ≡ u = ap (take 1) whole ∙ ap (λ m. take m (u ++ v)) (sym (one_length u f)) ∙ take-append_seam u v in
        not_some k (sym found ∙ ap (λ w. value_at w sml_rows) (sym front) ∙ ap (λ n. value_at (take n s) sml_rows) (sym n) ∙ none)

pub mark_nothing : (s : List ℕ) → is_mark_first s ≡ true → value_at (take (mark_length s) s) sml_rows ≡ None → RunStep s (Fail 0 BadToken)
mark_nothing s e none = nothing (λ u v y b. let m = mark_begins s u v y e b in mark_apart s u v m.number b.whole m.found m.mark none) refl
