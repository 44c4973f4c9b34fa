-- Runs at the front of a text, and the longest run that is something.
use Rattle.std.proofs.Common.{◌≡◌, ℕ, zero, suc, ◌+◌, ◌<◌, ◌≤◌, Bool, true, false, cond, List, [], ◌∷◌, ◌++◌, length, take, drop, Option, Some, None, refl, sym, ap, subst, ◌∙◌, arith, nat_le, length-append, take-append-drop, length-take-le}
use Rattle.std.proofs.Math.Seq.{take-append_seam, drop-append_seam}
use Rattle.std.proofs.lemmas.Bool.{leb-true, leb-false}
use Rattle.std.specs.List.{prefix_len}
use Rattle.sml_lex.specs.Bytes.{all_are, some_are, first_is}
use Rattle.sml_lex.specs.Numbers.{Reading}
use Rattle.sml_lex.specs.Steps.{reading, Begins, Longest}
use Rattle.sml_lex.proofs.Lists.{first_true, second_true, both_true}

-- bytes at the front that all pass are part of the run
pub run_bound : (p : ℕ → Bool) (w v : List ℕ) → all_are p w ≡ true → length w ≤ prefix_len p (w ++ v)
run_bound p [] v e = omega arith
run_bound p (c ∷ w) v e = rw (first_true (p c) _ e) (omega (arith, run_bound p w v (second_true (p c) _ e)))

-- the run itself passes
pub run_passes : (p : ℕ → Bool) (s : List ℕ) → all_are p (take (prefix_len p s) s) ≡ true
run_passes p [] = refl
run_passes p (c ∷ s) = by (run_passes p s) (p c) refl
  where
    by : all_are p (take (prefix_len p s) s) ≡ true → (b : Bool) → p c ≡ b → all_are p (take (cond b (1 + prefix_len p s) 0) (c ∷ s)) ≡ true
    by ih true e =
        let more : 1 + prefix_len p s ≡ suc (prefix_len p s) = omega arith in
        subst (λ n. all_are p (take n (c ∷ s)) ≡ true) (sym more) (both_true (p c) _ e ih)
    by ih false e = refl

-- what follows the run does not
pub run_stops : (p : ℕ → Bool) (s : List ℕ) → first_is p (drop (prefix_len p s) s) ≡ false
run_stops p [] = refl
run_stops p (c ∷ s) = by (run_stops p s) (p c) refl
  where
    by : first_is p (drop (prefix_len p s) s) ≡ false → (b : Bool) → p c ≡ b → first_is p (drop (cond b (1 + prefix_len p s) 0) (c ∷ s)) ≡ false
    by ih true e =
        let more : 1 + prefix_len p s ≡ suc (prefix_len p s) = omega arith in
        subst (λ n. first_is p (drop n (c ∷ s)) ≡ false) (sym more) ih
    by ih false e = e

-- bytes that all pass, where what follows does not, are the run
pub run_is : (p : ℕ → Bool) (w v : List ℕ) → all_are p w ≡ true → first_is p v ≡ false → prefix_len p (w ++ v) ≡ length w
run_is p [] [] e f = refl
run_is p [] (c ∷ v) e f = rw f refl
run_is p (c ∷ w) v e f = rw (first_true (p c) _ e) (omega (arith, run_is p w v (second_true (p c) _ e) f))

pub all_weaker : (p q : ℕ → Bool) → ((c : ℕ) → p c ≡ true → q c ≡ true) → (s : List ℕ) → all_are p s ≡ true → all_are q s ≡ true
all_weaker p q f [] e = refl
all_weaker p q f (c ∷ s) e = both_true (q c) _ (f c (first_true (p c) _ e)) (all_weaker p q f s (second_true (p c) _ e))

-- at least one of the bytes that all pass
pub some_is : (p : ℕ → Bool) (s : List ℕ) → all_are p s ≡ true → 0 < length s → some_are p s ≡ true
some_is p [] e lt = absurd (omega arith)
some_is p (c ∷ s) e lt = e

pub some_all : (p : ℕ → Bool) (s : List ℕ) → some_are p s ≡ true → all_are p s ≡ true
some_all p [] e = refl
some_all p (c ∷ s) e = e

pub some_first : (p : ℕ → Bool) (s : List ℕ) → some_are p s ≡ true → first_is p s ≡ true
some_first p [] e = e
some_first p (c ∷ s) e = first_true (p c) _ e

pub some_length : (p : ℕ → Bool) (s : List ℕ) → some_are p s ≡ true → 0 < length s
some_length p [] e = cc
some_length p (c ∷ s) e = omega arith

pub first_append : (p : ℕ → Bool) (w v : List ℕ) → first_is p w ≡ true → first_is p (w ++ v) ≡ true
first_append p [] v e = cc
first_append p (c ∷ w) v e = e

-- a text of which the first byte passes has a run
pub run_some : (p : ℕ → Bool) (s : List ℕ) → first_is p s ≡ true → 0 < prefix_len p s
run_some p [] e = cc
run_some p (c ∷ s) e = rw e (omega arith)

pub run_none : (p : ℕ → Bool) (s : List ℕ) → first_is p s ≡ false → prefix_len p s ≡ 0
run_none p [] e = refl
run_none p (c ∷ s) e = rw e refl

-- two ways to part one text at places that are as far
pub same_front : (u v w x : List ℕ) → u ++ v ≡ w ++ x → length u ≡ length w → u ≡ w
same_front u v w x e l = sym (take-append_seam u v) ∙ ap (take (length u)) e ∙ ap (λ n. take n (w ++ x)) l ∙ take-append_seam w x

pub same_back : (u v w x : List ℕ) → u ++ v ≡ w ++ x → length u ≡ length w → v ≡ x
same_back u v w x e l = sym (drop-append_seam u v) ∙ ap (drop (length u)) e ∙ ap (λ n. drop n (w ++ x)) l ∙ drop-append_seam w x

-- where some run is something, some run is the longest
pub record Most (s : List ℕ) : Type 0 where
  pub run : List ℕ
  pub next : List ℕ
  pub reading : Reading
  pub longest : Longest s run next reading

-- a text parted at a length
parted : (s w r : List ℕ) (m : ℕ) → s ≡ w ++ r → length w ≡ m → reading w r ≡ reading (take m s) (drop m s)
parted s w r m e l =
    let front : w ≡ take m s = sym (take-append_seam w r) ∙ ap (take (length w)) (sym e) ∙ ap (λ n. take n s) l in
    let back : r ≡ drop m s = sym (drop-append_seam w r) ∙ ap (drop (length w)) (sym e) ∙ ap (λ n. drop n s) l in
    ap (λ x. reading x r) front ∙ ap (reading (take m s)) back

AtMost : List ℕ → ℕ → Type 0
AtMost s n = (w r : List ℕ) (y : Reading) → Begins s w r y → length w ≤ n

lower : (s : List ℕ) (n : ℕ) → AtMost s (suc n) → reading (take (suc n) s) (drop (suc n) s) ≡ None → AtMost s n
unfolding AtMost
lower s n bound none w r y b = by (nat_le (length w) n) refl
  where
    by : (t : Bool) → nat_le (length w) n ≡ t → length w ≤ n
    by true e = leb-true _ _ e
    by false e =
        let size : length w ≡ suc n = omega (arith, leb-false _ _ e, bound w r y b) in
        let no : Some y ≡ None = sym b.reads ∙ parted s w r (suc n) b.whole size ∙ none in
        absurd cc

search_down : (s : List ℕ) (u v : List ℕ) (x : Reading) → Begins s u v x → (n : ℕ) → n ≤ length s → AtMost s n → Most s
unfolding AtMost
search_down s u v x b zero le bound = record { run = u; next = v; reading = x; longest = record { begins = b; most = λ w r y c. omega (arith, bound w r y c) } }
search_down s u v x b (suc n) le bound = by (reading (take (suc n) s) (drop (suc n) s)) refl (search_down s u v x b n (omega arith))
  where
    by : (o : Option Reading) → reading (take (suc n) s) (drop (suc n) s) ≡ o → (AtMost s n → Most s) → Most s
    by None e down = down (lower s n bound e)
    by (Some y) e down =
        let size : length (take (suc n) s) ≡ suc n = length-take-le (suc n) s le in
        record {
          run = take (suc n) s;
          next = drop (suc n) s;
          reading = y;
          longest = record {
            begins = record { whole = sym (take-append-drop (suc n) s); reads = e };
            most = λ w r z c. omega (arith, bound w r z c, size);
          };
        }

pub most_exists : (s : List ℕ) (u v : List ℕ) (x : Reading) → Begins s u v x → Most s
unfolding AtMost
most_exists s u v x b = search_down s u v x b (length s) (omega arith) (λ w r y c. omega (arith, ap length c.whole, length-append w r))
