-- The longest long identifier, word, type variable, symbolic identifier or mark at the front.
use Rattle.std.proofs.Common.{◌≡◌, ℕ, zero, suc, ◌+◌, ◌<◌, ◌≤◌, Bool, true, false, cond, not, ◌&&◌, ◌||◌, List, [], ◌∷◌, ◌++◌, length, take, drop, Option, Some, None, is_some, refl, sym, ap, subst, ◌∙◌, arith, ◌==◌, eqb, length-append, append_assoc, length-take-le, take-append-drop}
use Rattle.std.specs.List.{prefix_len}
use Rattle.std.proofs.lemmas.Bool.{eqb-true}
use Rattle.std.proofs.lemmas.List.Sums.{prefix_len-le-length}
use Rattle.tl_cases.specs.Rows.{value_at}
use Rattle.tl_cases.specs.Words.{sml_rows}
use Rattle.sml_lex.specs.declared.token.Kind.TheVariants.{Word, Id, Tyvar}
use Rattle.sml_lex.specs.declared.step.Step.TheVariants.{Take}
use Rattle.sml_lex.specs.Bytes.{is_letter, is_name_byte, is_symbol, first_is, all_are}
use Rattle.sml_lex.specs.Names.{parts_of, is_free, is_alphanumeric, is_symbolic, is_identifier, is_last, is_long, whole_run, free_run, next_part}
use Rattle.sml_lex.specs.Numbers.{Reading, Token}
use Rattle.sml_lex.specs.Steps.{reading, name_reading, tyvar_reading, word_or, Begins, RunStep, longest}
use Rattle.sml_lex.proofs.Lists.{first_true, second_true, both_true}
use Rattle.sml_lex.proofs.Runs.{run_bound, run_passes, run_stops, run_some, some_is, first_append, all_weaker, same_back}
use Rattle.sml_lex.proofs.Parts.{no_dot, name_no_dot, symbol_no_dot, one_part, parts_append, not_last, last, more, part_front}
use Rattle.sml_lex.proofs.Words.{letter_word}

-- ---- candidates behind a letter

letter_reading : (u v : List ℕ) → first_is is_letter u ≡ true → reading u v ≡ name_reading u v
letter_reading [] v e = cc
letter_reading (c ∷ u) v e = rw e refl

-- a run at the front that is something begins as the text does
pub begins_first : (p : ℕ → Bool) (s u v : List ℕ) (y : Reading) → Begins s u v y → first_is p u ≡ first_is p s
begins_first p s [] v y b = absurd (let r = b.reads in cc)
begins_first p s (c ∷ u) v y b = sym (ap (first_is p) b.whole)

data NameForm (u v : List ℕ) : Type 0 where
  long : is_long (parts_of u) v ≡ true → NameForm u v
  word : (k : ℕ) → value_at u sml_rows ≡ Some k → NameForm u v

word_is : (o : Option ℕ) (y : Reading) → word_or o None ≡ Some y → (k : ℕ) × (o ≡ Some k)
word_is None y e = absurd cc
word_is (Some k) y e = (k, refl)

name_form : (s u v : List ℕ) (y : Reading) → first_is is_letter s ≡ true → Begins s u v y → NameForm u v
name_form s u v y e b = by (is_long (parts_of u) v) refl (first_is is_name_byte v) (sym (letter_reading u v (begins_first is_letter s u v y b ∙ e)) ∙ b.reads)
  where
    rest : (t : Bool) → cond t None (word_or (value_at u sml_rows) None) ≡ Some y → NameForm u v
    rest true f = absurd cc
    rest false f = let w = word_is (value_at u sml_rows) y f in word w.0 w.1

    by : (t : Bool) → is_long (parts_of u) v ≡ t → (n : Bool) → cond (is_long (parts_of u) v) (Some (Token (Id (parts_of u)))) (cond (first_is is_name_byte v) None (word_or (value_at u sml_rows) None)) ≡ Some y → NameForm u v
    by true f n g = long f
    by false f n g = rest (first_is is_name_byte v) (subst (λ t. cond t (Some (Token (Id (parts_of u)))) (cond (first_is is_name_byte v) None (word_or (value_at u sml_rows) None)) ≡ Some y) f g)

-- a word behind a letter is within the first run
word_bound : (s u v : List ℕ) (y : Reading) (k : ℕ) → first_is is_letter s ≡ true → Begins s u v y → value_at u sml_rows ≡ Some k → length u ≤ prefix_len is_name_byte s
word_bound s u v y k e b w =
    let letters : all_are is_name_byte u ≡ true = letter_word u k w (begins_first is_letter s u v y b ∙ e) in
    subst (λ l. length u ≤ prefix_len is_name_byte l) (sym b.whole) (run_bound is_name_byte u v letters)

-- the run at the front, and what follows
pub run_front : (p : ℕ → Bool) (s : List ℕ) → length (take (prefix_len p s) s) ≡ prefix_len p s
run_front p s = length-take-le (prefix_len p s) s (prefix_len-le-length p s)

pub first_take : (p : ℕ → Bool) (n : ℕ) (t : List ℕ) → 0 < n → first_is p (take n t) ≡ first_is p t
first_take p zero t lt = absurd (omega arith)
first_take p (suc n) [] lt = refl
first_take p (suc n) (c ∷ t) lt = refl

free_none : (w : List ℕ) (k : ℕ) → value_at w sml_rows ≡ Some k → is_free w ≡ false
free_none w k e = ap (λ o. not (is_some o)) e

letter_run : (s : List ℕ) → first_is is_letter s ≡ true → whole_run s ≡ prefix_len is_name_byte s
letter_run s e = ap (λ b. cond b (prefix_len is_name_byte s) (prefix_len is_symbol s)) e

-- a letter is a byte of names
letter_name : (c : ℕ) → is_letter c ≡ true → is_name_byte c ≡ true
letter_name c e = rw e refl

letter_first : (s : List ℕ) → first_is is_letter s ≡ true → first_is is_name_byte s ≡ true
letter_first [] e = e
letter_first (c ∷ s) e = letter_name c e

-- ---- a reserved word behind a letter

pub name_word : (s : List ℕ) (k : ℕ) → first_is is_letter s ≡ true → value_at (take (prefix_len is_name_byte s) s) sml_rows ≡ Some k → RunStep s (Take (Word k) (prefix_len is_name_byte s))
name_word s k e found =
    let n = prefix_len is_name_byte s in
    let some : 0 < n = run_some is_name_byte s (letter_first s e) in
    let taken : is_free (take n s) ≡ false = free_none (take n s) k found in
    let none : free_run s ≡ 0 =
    ap (λ m. cond (is_free (take m s)) m 0) (letter_run s e) ∙ ap (λ b. cond b n 0) taken in
    let parts : parts_of (take n s) ≡ take n s ∷ [] = one_part (take n s) (all_weaker is_name_byte no_dot name_no_dot (take n s) (run_passes is_name_byte s)) in
    let short : is_long (parts_of (take n s)) (drop n s) ≡ false = ap (λ ps. is_long ps (drop n s)) parts
    ∙ ap (λ b. b && ((is_alphanumeric (take n s) && not (first_is is_name_byte (drop n s))) || (is_symbolic (take n s) && not (first_is is_symbol (drop n s))))) taken in
    let reads : reading (take n s) (drop n s) ≡ Some (Token (Word k)) =
    letter_reading (take n s) (drop n s) (first_take is_letter n s some ∙ e)
    ∙ ap (λ b. cond b (Some (Token (Id (parts_of (take n s))))) (cond (first_is is_name_byte (drop n s)) None (word_or (value_at (take n s) sml_rows) None))) short
    ∙ ap (λ b. cond b None (word_or (value_at (take n s) sml_rows) None)) (run_stops is_name_byte s)
    ∙ ap (λ o. word_or o None) found in
    longest (take n s) (drop n s) (Token (Word k))
    (record {
      begins = record { whole = sym (take-append-drop n s); reads = reads };
      most = λ u v y b. elim (name_form s u v y e b) [
        | long l ↦ elim (part_front s u v b.whole l) [
          | last size some ↦ absurd (omega (arith, size, some, none))
          | more p w is size some letter rest ↦ absurd (omega (arith, size, some, none))
        ]
        | word j w ↦ subst (λ m. length u ≤ m) (sym (run_front is_name_byte s)) (word_bound s u v y j e b w)
      ];
    })
    (ap (Take (Word k)) (sym (run_front is_name_byte s)))

-- ---- part by part

abbrev pub is_good : List ℕ → Bool
is_good p = is_free p && is_alphanumeric p

abbrev pub all_good : List (List ℕ) → Bool
all_good [] = true
all_good (p ∷ ps) = is_good p && all_good ps

-- a longer identifier goes on behind a dot
pub data Further (at : ℕ) (rest w v : List ℕ) : Type 0 where
  within : length w ≤ at → Further at rest w v
  further : (u : List ℕ) → rest ≡ 46 ∷ (u ++ v) → is_long (parts_of u) v ≡ true → length w ≡ suc at + length u → Further at rest w v

-- the parts so far, alphanumeric ones, and how the text may go on
pub record IdRead (s : List ℕ) (ps : List (List ℕ)) (rest : List ℕ) (at : ℕ) : Type 0 where
  pub front : List ℕ
  pub whole : s ≡ front ++ rest
  pub size : length front ≡ at
  pub parts : parts_of front ≡ ps
  pub good : all_good ps ≡ true
  pub letter : first_is is_letter front ≡ true
  pub ends : first_is is_name_byte rest ≡ false
  pub first : prefix_len is_name_byte s ≤ at
  pub most : (w v : List ℕ) → s ≡ w ++ v → is_long (parts_of w) v ≡ true → Further at rest w v

-- a run that is free
free_is : (s : List ℕ) → 0 < free_run s → (free_run s ≡ whole_run s) × (is_free (take (free_run s) s) ≡ true)
free_is s lt = by (is_free (take (whole_run s) s)) refl
  where
    by : (b : Bool) → is_free (take (whole_run s) s) ≡ b → (free_run s ≡ whole_run s) × (is_free (take (free_run s) s) ≡ true)
    by true e = (ap (λ b. cond b (whole_run s) 0) e, ap (λ n. is_free (take n s)) (ap (λ b. cond b (whole_run s) 0) e) ∙ e)
    by false e = absurd (let none : free_run s ≡ 0 = ap (λ b. cond b (whole_run s) 0) e in omega arith)

-- a run behind a letter is alphanumeric
letters_good : (s : List ℕ) → first_is is_letter s ≡ true → 0 < free_run s
    → (free_run s ≡ prefix_len is_name_byte s) × (is_good (take (free_run s) s) ≡ true) × (parts_of (take (free_run s) s) ≡ take (free_run s) s ∷ []) × (first_is is_name_byte (drop (free_run s) s) ≡ false)
letters_good s e lt =
    let free = free_is s lt in
    let size : free_run s ≡ prefix_len is_name_byte s = free.0 ∙ letter_run s e in
    let passes : all_are is_name_byte (take (free_run s) s) ≡ true = subst (λ n. all_are is_name_byte (take n s) ≡ true) (sym size) (run_passes is_name_byte s) in
    let letters : is_alphanumeric (take (free_run s) s) ≡ true = both_true (first_is is_letter (take (free_run s) s)) (all_are is_name_byte (take (free_run s) s)) (first_take is_letter (free_run s) s lt ∙ e) passes in (
      size,
      both_true (is_free (take (free_run s) s)) (is_alphanumeric (take (free_run s) s)) free.1 letters,
      one_part (take (free_run s) s) (all_weaker is_name_byte no_dot name_no_dot (take (free_run s) s) passes),
      subst (λ n. first_is is_name_byte (drop n s) ≡ false) (sym size) (run_stops is_name_byte s),
    )

whole_within : (s : List ℕ) → whole_run s ≤ length s
whole_within s = by (first_is is_letter s)
  where
    by : (b : Bool) → cond b (prefix_len is_name_byte s) (prefix_len is_symbol s) ≤ length s
    by true = prefix_len-le-length is_name_byte s
    by false = prefix_len-le-length is_symbol s

pub free_within : (s : List ℕ) → free_run s ≤ length s
free_within s = by (is_free (take (whole_run s) s))
  where
    by : (b : Bool) → cond b (whole_run s) 0 ≤ length s
    by true = whole_within s
    by false = omega arith

free_length : (s : List ℕ) → length (take (free_run s) s) ≡ free_run s
free_length s = length-take-le (free_run s) s (free_within s)

pub id_start : (s : List ℕ) → first_is is_letter s ≡ true → 0 < free_run s → IdRead s (take (free_run s) s ∷ []) (drop (free_run s) s) (free_run s)
id_start s e lt =
    let n = free_run s in
    let good = letters_good s e lt in
    record {
      front = take n s;
      whole = sym (take-append-drop n s);
      size = free_length s;
      parts = good.2;
      good = both_true (is_good (take n s)) true good.1 refl;
      letter = first_take is_letter n s lt ∙ e;
      ends = good.3;
      first = omega (arith, good.0);
      most = λ w v whole l. elim (part_front s w v whole l) [
        | last size some ↦ within (omega arith)
        | more p u is size some letter rest ↦
            let split : s ≡ p ++ (46 ∷ (u ++ v)) = whole ∙ ap (λ l. l ++ v) is ∙ append_assoc p (46 ∷ u) v in
            let back : drop n s ≡ 46 ∷ (u ++ v) = same_back (take n s) (drop n s) p (46 ∷ (u ++ v)) (take-append-drop n s ∙ split) (free_length s ∙ sym size) in
            further u back rest (omega (arith, ap length is, length-append p (46 ∷ u), size))
      ];
    }

good_append : (ps : List (List ℕ)) (q : List ℕ) → all_good ps ≡ true → is_good q ≡ true → all_good (ps ++ q ∷ []) ≡ true
good_append [] q e f = both_true (is_good q) true f refl
good_append (p ∷ ps) q e f = both_true (is_good p) (all_good (ps ++ q ∷ [])) (first_true (is_good p) (all_good ps) e) (good_append ps q (second_true (is_good p) (all_good ps) e) f)

-- one more part
pub id_more : (s : List ℕ) (ps : List (List ℕ)) (t : List ℕ) (at : ℕ) → IdRead s ps (46 ∷ t) at → first_is is_letter t ≡ true → 0 < free_run t
    → IdRead s (ps ++ take (free_run t) t ∷ []) (drop (free_run t) t) (at + (1 + free_run t))
id_more s ps t at r e lt =
    let n = free_run t in
    let good = letters_good t e lt in
    let split : t ≡ take n t ++ drop n t = sym (take-append-drop n t) in
    record {
      front = r.front ++ 46 ∷ take n t;
      whole = r.whole ∙ ap (λ l. r.front ++ 46 ∷ l) split ∙ sym (append_assoc r.front (46 ∷ take n t) (drop n t));
      size = omega (arith, length-append r.front (46 ∷ take n t), r.size, free_length t);
      parts = parts_append r.front (take n t) ∙ ap (λ l. l ++ parts_of (take n t)) r.parts ∙ ap (λ l. ps ++ l) good.2;
      good = good_append ps (take n t) r.good good.1;
      letter = first_append is_letter r.front (46 ∷ take n t) r.letter;
      ends = good.3;
      first = omega (arith, r.first);
      most = λ w v whole l. elim (r.most w v whole l) [
        | within le ↦ within (omega arith)
        | further u is goes size ↦
            let tail : t ≡ u ++ v = cc in
            elim (part_front t u v tail goes) [
              | last short some ↦ within (omega (arith, size, short))
              | more p x back short some letter rest ↦
                  let both : t ≡ p ++ (46 ∷ (x ++ v)) = tail ∙ ap (λ l. l ++ v) back ∙ append_assoc p (46 ∷ x) v in
                  let follows : drop n t ≡ 46 ∷ (x ++ v) = same_back (take n t) (drop n t) p (46 ∷ (x ++ v)) (take-append-drop n t ∙ both) (free_length t ∙ sym short) in
                  further x follows rest (omega (arith, size, ap length back, length-append p (46 ∷ x), short))
            ]
      ];
    }

-- ---- the end of a long identifier

good_long : (ps : List (List ℕ)) (r : List ℕ) → all_good ps ≡ true → is_last ps ≡ false → first_is is_name_byte r ≡ false → is_long ps r ≡ true
good_long [] r e f g = cc
good_long (p ∷ []) r e f g =
    let good = first_true (is_good p) true e in
    let free : is_free p ≡ true = first_true (is_free p) (is_alphanumeric p) good in
    let letters : is_alphanumeric p ≡ true = second_true (is_free p) (is_alphanumeric p) good in
    rw (free, letters, g) refl
good_long (p ∷ q ∷ ps) r e f g = both_true (is_good p) (is_long (q ∷ ps) r) (first_true (is_good p) (all_good (q ∷ ps)) e) (good_long (q ∷ ps) r (second_true (is_good p) (all_good (q ∷ ps)) e) refl g)

last_long : (ps : List (List ℕ)) (q r : List ℕ) → all_good ps ≡ true → is_identifier q r ≡ true → is_long (ps ++ q ∷ []) r ≡ true
last_long [] q r e f = f
last_long (p ∷ []) q r e f = both_true (is_good p) (is_identifier q r) (first_true (is_good p) true e) f
last_long (p ∷ x ∷ ps) q r e f = both_true (is_good p) (is_long ((x ∷ ps) ++ q ∷ []) r) (first_true (is_good p) (all_good (x ∷ ps)) e) (last_long (x ∷ ps) q r (second_true (is_good p) (all_good (x ∷ ps)) e) f)

-- a long identifier that no longer one begins with
id_longest : (s front rest : List ℕ) (ps : List (List ℕ)) (at : ℕ) → first_is is_letter s ≡ true → s ≡ front ++ rest → length front ≡ at → first_is is_letter front ≡ true → parts_of front ≡ ps
    → is_long ps rest ≡ true → prefix_len is_name_byte s ≤ at → ((w v : List ℕ) → s ≡ w ++ v → is_long (parts_of w) v ≡ true → length w ≤ at) → RunStep s (Take (Id ps) at)
id_longest s front rest ps at e whole size letter parts isl first most =
    longest front rest (Token (Id ps))
    (record {
      begins = record {
        whole = whole;
        reads = letter_reading front rest letter
            ∙ ap (λ b. cond b (Some (Token (Id (parts_of front)))) (cond (first_is is_name_byte rest) None (word_or (value_at front sml_rows) None))) (ap (λ l. is_long l rest) parts ∙ isl)
            ∙ ap (λ l. Some (Token (Id l))) parts;
      };
      most = λ u v y b. elim (name_form s u v y e b) [
        | long l ↦ omega (arith, most u v b.whole l, size)
        | word k w ↦ omega (arith, word_bound s u v y k e b w, first, size)
      ];
    })
    (ap (Take (Id ps)) (sym size))

next_none : (rest u v : List ℕ) → next_part rest ≡ 0 → rest ≡ 46 ∷ (u ++ v) → is_long (parts_of u) v ≡ true → ⊥
next_none rest u v e whole l =
    let none : free_run (u ++ v) ≡ 0 = sym (ap next_part whole) ∙ e in
    elim (part_front (u ++ v) u v refl l) [
      | last size some ↦ omega (arith, size, some, none)
      | more p x is size some letter rest ↦ omega (arith, size, some, none)
    ]

pub id_end : (s : List ℕ) (ps : List (List ℕ)) (rest : List ℕ) (at : ℕ) → first_is is_letter s ≡ true → IdRead s ps rest at → next_part rest ≡ 0 → RunStep s (Take (Id ps) at)
id_end s ps rest at e r none =
    id_longest s r.front rest ps at e r.whole r.size r.letter r.parts
    (good_long ps rest r.good (sym (ap is_last r.parts) ∙ not_last r.front) r.ends) r.first
    (λ w v whole l. elim (r.most w v whole l) [ within le ↦ le | further u is goes size ↦ absurd (next_none rest u v none is goes) ])

pub id_symbol_end : (s : List ℕ) (ps : List (List ℕ)) (t : List ℕ) (at : ℕ) → first_is is_letter s ≡ true → IdRead s ps (46 ∷ t) at → first_is is_letter t ≡ false → 0 < free_run t
    → RunStep s (Take (Id (ps ++ take (free_run t) t ∷ [])) (at + (1 + free_run t)))
id_symbol_end s ps t at e r f lt =
    let n = free_run t in
    let free = free_is t lt in
    let size : free_run t ≡ prefix_len is_symbol t = free.0 ∙ ap (λ b. cond b (prefix_len is_name_byte t) (prefix_len is_symbol t)) f in
    let passes : all_are is_symbol (take n t) ≡ true = subst (λ k. all_are is_symbol (take k t) ≡ true) (sym size) (run_passes is_symbol t) in
    let some : is_symbolic (take n t) ≡ true = some_is is_symbol (take n t) passes (omega (arith, free_length t)) in
    let stops : first_is is_symbol (drop n t) ≡ false = subst (λ k. first_is is_symbol (drop k t) ≡ false) (sym size) (run_stops is_symbol t) in
    let symbols : (is_symbolic (take n t) && not (first_is is_symbol (drop n t))) ≡ true = both_true (is_symbolic (take n t)) (not (first_is is_symbol (drop n t))) some (ap not stops) in
    let identifier : is_identifier (take n t) (drop n t) ≡ true = both_true (is_free (take n t)) _ free.1 (or_right (is_alphanumeric (take n t) && not (first_is is_name_byte (drop n t))) _ symbols) in
    let split : t ≡ take n t ++ drop n t = sym (take-append-drop n t) in
    id_longest s (r.front ++ 46 ∷ take n t) (drop n t) (ps ++ take n t ∷ []) (at + (1 + n)) e
    (r.whole ∙ ap (λ l. r.front ++ 46 ∷ l) split ∙ sym (append_assoc r.front (46 ∷ take n t) (drop n t)))
    (omega (arith, length-append r.front (46 ∷ take n t), r.size, free_length t))
    (first_append is_letter r.front (46 ∷ take n t) r.letter)
    (parts_append r.front (take n t) ∙ ap (λ l. l ++ parts_of (take n t)) r.parts ∙ ap (λ l. ps ++ l) (one_part (take n t) (all_weaker is_symbol no_dot symbol_no_dot (take n t) passes)))
    (last_long ps (take n t) (drop n t) r.good identifier)
    (omega (arith, r.first))
    (λ w v whole l. elim (r.most w v whole l) [
      | within le ↦ omega arith
      | further u is goes size ↦
          let tail : t ≡ u ++ v = cc in
          elim (part_front t u v tail goes) [
            | last short some ↦ omega (arith, size, short)
            | more p x back short some letter rest ↦ absurd (let wrong : false ≡ true = sym f ∙ letter in cc)
          ]
    ])
  where
    or_right : (a b : Bool) → b ≡ true → (a || b) ≡ true
    or_right true b e = refl
    or_right false b e = e

-- a part behind a dot
dot_is : (rest : List ℕ) → 0 < next_part rest → rest ≡ 46 ∷ drop 1 rest
dot_is [] lt = absurd (omega arith)
dot_is (c ∷ t) lt = by (eqb c 46) refl
  where
    by : (b : Bool) → eqb c 46 ≡ b → c ∷ t ≡ 46 ∷ t
    by true e = ap (λ d. d ∷ t) (eqb-true c 46 e)
    by false e = absurd (let none : next_part (c ∷ t) ≡ 0 = ap (λ b. cond b (free_run t) 0) e in omega arith)

-- one more part, as the code has it
pub record IdNext (s : List ℕ) (path : List (List ℕ)) (part next : List ℕ) (at : ℕ) : Type 0 where
  pub letters : first_is is_letter part ≡ true → IdRead s path next at
  pub symbols : first_is is_letter part ≡ false → RunStep s (Take (Id path) at)

pub id_next : (s : List ℕ) (ps : List (List ℕ)) (rest : List ℕ) (at n : ℕ) (part next : List ℕ) (path : List (List ℕ)) → first_is is_letter s ≡ true → IdRead s ps rest at → n ≡ next_part rest → 0 < n
    → part ≡ take n (drop 1 rest) → next ≡ drop n (drop 1 rest) → path ≡ ps ++ part ∷ [] → IdNext s path part next (at + (1 + n))
id_next s ps rest at n part next path e r is lt front back paths =
    let t = drop 1 rest in
    let dot : rest ≡ 46 ∷ t = dot_is rest (subst (λ k. 0 < k) is lt) in
    let free : n ≡ free_run t = is ∙ ap next_part dot in
    let some : 0 < free_run t = subst (λ k. 0 < k) free lt in
    let read : IdRead s ps (46 ∷ t) at = subst (λ l. IdRead s ps l at) dot r in
    let parts : path ≡ ps ++ take (free_run t) t ∷ [] = paths ∙ ap (λ q. ps ++ q ∷ []) (front ∙ ap (λ k. take k t) free) in
    let first : first_is is_letter part ≡ first_is is_letter t = ap (first_is is_letter) front ∙ first_take is_letter n t lt in
    record {
      letters = λ f. subst (λ l. IdRead s l next (at + (1 + n))) (sym parts)
          (subst (λ l. IdRead s (ps ++ take (free_run t) t ∷ []) l (at + (1 + n))) (sym (back ∙ ap (λ k. drop k t) free))
          (subst (λ k. IdRead s (ps ++ take (free_run t) t ∷ []) (drop (free_run t) t) (at + (1 + k))) (sym free) (id_more s ps t at read (sym first ∙ f) some)));
      symbols = λ f. subst (λ l. RunStep s (Take (Id l) (at + (1 + n)))) (sym parts)
          (subst (λ k. RunStep s (Take (Id (ps ++ take (free_run t) t ∷ [])) (at + (1 + k)))) (sym free) (id_symbol_end s ps t at e read (sym first ∙ f) some));
    }

-- ---- the other runs

pub tyvar_longest : (s : List ℕ) → first_is (λ c. c == 39) s ≡ true → RunStep s (Take (Tyvar (take (prefix_len is_name_byte s) s)) (prefix_len is_name_byte s))
tyvar_longest [] e = cc
tyvar_longest (c ∷ t) e = subst (λ d. RunStep (d ∷ t) (Take (Tyvar (take (prefix_len is_name_byte (d ∷ t)) (d ∷ t))) (prefix_len is_name_byte (d ∷ t)))) (sym (eqb-true c 39 e)) (prime t)
  where
    prime_reading : (u v : List ℕ) → reading (39 ∷ u) v ≡ tyvar_reading (39 ∷ u) v
    prime_reading u v = refl

    form : (u v : List ℕ) (y : Reading) → reading (39 ∷ u) v ≡ Some y → all_are is_name_byte (39 ∷ u) ≡ true
    form u v y r = by (all_are is_name_byte (39 ∷ u) && not (first_is is_name_byte v)) refl r
      where
        by : (b : Bool) → (all_are is_name_byte (39 ∷ u) && not (first_is is_name_byte v)) ≡ b → cond (all_are is_name_byte (39 ∷ u) && not (first_is is_name_byte v)) (Some (Token (Tyvar (39 ∷ u)))) None ≡ Some y → all_are is_name_byte (39 ∷ u) ≡ true
        by true f g = first_true (all_are is_name_byte (39 ∷ u)) (not (first_is is_name_byte v)) f
        by false f g = absurd (let none : None ≡ Some y = subst (λ b. cond b (Some (Token (Tyvar (39 ∷ u)))) None ≡ Some y) f g in cc)

    bound : (t u v : List ℕ) (y : Reading) → Begins (39 ∷ t) u v y → length u ≤ prefix_len is_name_byte (39 ∷ t)
    bound t [] v y b = omega arith
    bound t (d ∷ u) v y b =
        let same : 39 ≡ d = let whole = b.whole in cc in
        let reads : reading (39 ∷ u) v ≡ Some y = subst (λ x. reading (x ∷ u) v ≡ Some y) (sym same) b.reads in
        let tail : t ≡ u ++ v = let whole = b.whole in cc in
        subst (λ l. suc (length u) ≤ prefix_len is_name_byte (39 ∷ l)) (sym tail) (run_bound is_name_byte (39 ∷ u) v (form u v y reads))

    prime : (t : List ℕ) → RunStep (39 ∷ t) (Take (Tyvar (take (prefix_len is_name_byte (39 ∷ t)) (39 ∷ t))) (prefix_len is_name_byte (39 ∷ t)))
    prime t =
        let n : ℕ = prefix_len is_name_byte t in
        let one : 1 + n ≡ suc n = omega arith in
        subst (λ m. RunStep (39 ∷ t) (Take (Tyvar (take m (39 ∷ t))) m)) (sym one)
        (longest (39 ∷ take n t) (drop n t) (Token (Tyvar (39 ∷ take n t)))
        (record {
          begins = record { whole = ap (λ l. 39 ∷ l) (sym (take-append-drop n t)); reads = rw (run_passes is_name_byte t, run_stops is_name_byte t) refl };
          most = λ u v y b. omega (arith, bound t u v y b, run_front is_name_byte t);
        })
        (ap (λ m. Take (Tyvar (39 ∷ take n t)) (suc m)) (sym (run_front is_name_byte t))))
