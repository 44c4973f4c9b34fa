-- A token that is followed by no byte that clings to it is the longest at its place, and a run is one token at most.
use Rattle.std.proofs.Common.{◌≡◌, ℕ, suc, ◌+◌, ◌≤◌, inl, inr, Bool, true, false, not, ◌&&◌, ◌||◌, List, [], ◌∷◌, ◌++◌, length, refl, sym, ap, subst, ◌∙◌, arith, append_assoc}
use Rattle.std.specs.Prelude.{nat_eq}
use Rattle.std.proofs.lemmas.List.{length-append}
use Rattle.oc_rules.specs.Bytes.{is_small, is_digit, is_word_byte, is_part, every, heads, same}
use Rattle.oc_rules.specs.Token.{Token, Name, Tyvar, Sign, Lit, Quoted, Writes}
use Rattle.oc_rules.proofs.Tests.{never, both_ways, and_true, and_of, or_false, not_true, between_is, digit_part, word_part, every_more, heads_less, prefix}
use Rattle.oc_rules.proofs.Literals.{one_quoted}
use Rattle.oc_rules.proofs.RunKinds.{class, is_second, fits, Kind, KName, KDec, KVar, KChar, KText, KSign, KNeg, tag}

-- bytes that may not stand right behind a sign
abbrev pub sign_cling : List ℕ → ℕ → Bool
sign_cling s c = is_second c || (nat_eq c 45 || (is_part c && same s (95 ∷ [])))

abbrev pub cling : {run : List ℕ} → Kind run → ℕ → Bool
cling (KName c s e l a) = is_part
cling (KDec c s e l a) = is_part
cling (KVar x more e l a) = is_part
cling (KChar c q) = is_part
cling (KText s q) = is_part
cling {run} (KSign e) = sign_cling run
cling (KNeg ds e a) = is_part

-- bytes that may not stand right behind a token
abbrev pub clings : Token → ℕ → Bool
clings (Name n) = is_part
clings (Tyvar v) = is_part
clings (Sign s) = sign_cling s
clings (Lit l) = is_part

small_word : (c : ℕ) → is_small c ≡ true → is_word_byte c ≡ true
small_word c e = rw e refl

small_not : (c k : ℕ) → is_small c ≡ true → (97 ≤ k → k ≤ 122 → ⊥) → c ≡ k → ⊥
small_not c k s out e = let h = between_is 97 122 c s in let a = h.0 in let b = h.1 in out (omega (arith, a, e)) (omega (arith, b, e))

part_digit : (s : List ℕ) → heads is_part s ≡ false → heads is_digit s ≡ false
part_digit s e = heads_less is_digit is_part digit_part s e

part_word : (s : List ℕ) → heads is_part s ≡ false → heads is_word_byte s ≡ false
part_word s e = heads_less is_word_byte is_part word_part s e

-- a type variable that begins where a character stands is no longer
var_in_char : (run other rest behind : List ℕ) (c x : ℕ) (more : List ℕ) → Quoted 39 (c ∷ []) run → other ≡ 39 ∷ x ∷ more → is_small x ≡ true → every is_word_byte more ≡ true
    → other ++ behind ≡ run ++ rest → length other ≤ length run
var_in_char run other rest behind c x more (body, f, (front, back, g, u, v)) h s a e = go u
  where
    go : Writes 39 c front → length other ≤ length run
    go (inl (p, w)) =
        let body_is : body ≡ c ∷ [] = g ∙ (ap (λ (z : List ℕ). z ++ back) w ∙ ap (λ (z : List ℕ). c ∷ z) v) in
        let run_is : run ≡ 39 ∷ c ∷ 39 ∷ [] = f ∙ ap (λ (z : List ℕ). 39 ∷ (z ++ (39 ∷ []))) body_is in
        let k : 39 ∷ x ∷ (more ++ behind) ≡ 39 ∷ c ∷ 39 ∷ rest = subst (λ (z : List ℕ). z ++ behind ≡ 39 ∷ c ∷ 39 ∷ rest) h (subst (λ (z : List ℕ). other ++ behind ≡ z ++ rest) run_is e) in
        let m : more ++ behind ≡ [] ++ (39 ∷ rest) = cc in
        let less : length more ≤ length {A = ℕ} [] = prefix is_word_byte [] (39 ∷ rest) more behind m a refl in
        let la : length other ≡ suc (suc (length more)) = ap length h in
        let lb : length run ≡ 3 = ap length run_is in
        omega (arith, less, la, lb)
    go (inr (inl (k, t, w))) =
        let first : 39 ∷ x ∷ (more ++ behind) ≡ 39 ∷ 92 ∷ k ∷ ((back ++ (39 ∷ [])) ++ rest) = subst (λ (z : List ℕ). z ++ behind ≡ 39 ∷ 92 ∷ k ∷ ((back ++ (39 ∷ [])) ++ rest)) h (subst (λ (z : List ℕ). other ++ behind ≡ z ++ rest) (f ∙ ap (λ (z : List ℕ). 39 ∷ (z ++ (39 ∷ []))) (g ∙ ap (λ (z : List ℕ). z ++ back) w)) e) in
        absurd (small_not x 92 s (λ p q. omega arith) cc)
    go (inr (inr n)) =
        let first : 39 ∷ x ∷ (more ++ behind) ≡ 39 ∷ 92 ∷ n.hundreds ∷ n.tens ∷ n.ones ∷ ((back ++ (39 ∷ [])) ++ rest) = subst (λ (z : List ℕ). z ++ behind ≡ 39 ∷ 92 ∷ n.hundreds ∷ n.tens ∷ n.ones ∷ ((back ++ (39 ∷ [])) ++ rest)) h (subst (λ (z : List ℕ). other ++ behind ≡ z ++ rest) (f ∙ ap (λ (z : List ℕ). 39 ∷ (z ++ (39 ∷ []))) (g ∙ ap (λ (z : List ℕ). z ++ back) n.run_is)) e) in
        absurd (small_not x 92 s (λ p q. omega arith) cc)

-- no character begins where a type variable stands, unless a quote follows it
char_in_var : {A : Type 0} (run other rest behind : List ℕ) (c x : ℕ) (more : List ℕ) → Quoted 39 (c ∷ []) other → run ≡ 39 ∷ x ∷ more → is_small x ≡ true → every is_word_byte more ≡ true
    → other ++ behind ≡ run ++ rest → heads is_part rest ≡ false → A
char_in_var {A} run other rest behind c x more (body, f, (front, back, g, u, v)) h s a e r = go u
  where
    quote : (m : List ℕ) → every is_word_byte m ≡ true → 39 ∷ behind ≡ m ++ rest → A
    quote [] w y = both_ways true refl (subst (λ (z : List ℕ). heads is_part z ≡ false) (sym y) r)
    quote (d ∷ m) w y = let same : 39 ≡ d = cc in both_ways (is_word_byte d) (and_true (is_word_byte d) (every is_word_byte m) w).0 (subst (λ (z : ℕ). is_word_byte z ≡ false) same refl)

    go : Writes 39 c front → A
    go (inl (p, w)) =
        let body_is : body ≡ c ∷ [] = g ∙ (ap (λ (z : List ℕ). z ++ back) w ∙ ap (λ (z : List ℕ). c ∷ z) v) in
        let other_is : other ≡ 39 ∷ c ∷ 39 ∷ [] = f ∙ ap (λ (z : List ℕ). 39 ∷ (z ++ (39 ∷ []))) body_is in
        let k : 39 ∷ c ∷ 39 ∷ behind ≡ 39 ∷ x ∷ (more ++ rest) = subst (λ (z : List ℕ). z ++ behind ≡ 39 ∷ x ∷ (more ++ rest)) other_is (subst (λ (z : List ℕ). other ++ behind ≡ z ++ rest) h e) in
        quote more a cc
    go (inr (inl (k, t, w))) =
        let first : 39 ∷ 92 ∷ k ∷ ((back ++ (39 ∷ [])) ++ behind) ≡ 39 ∷ x ∷ (more ++ rest) = subst (λ (z : List ℕ). z ++ behind ≡ 39 ∷ x ∷ (more ++ rest)) (f ∙ ap (λ (z : List ℕ). 39 ∷ (z ++ (39 ∷ []))) (g ∙ ap (λ (z : List ℕ). z ++ back) w)) (subst (λ (z : List ℕ). other ++ behind ≡ z ++ rest) h e) in
        absurd (small_not x 92 s (λ p q. omega arith) cc)
    go (inr (inr n)) =
        let first : 39 ∷ 92 ∷ n.hundreds ∷ n.tens ∷ n.ones ∷ ((back ++ (39 ∷ [])) ++ behind) ≡ 39 ∷ x ∷ (more ++ rest) = subst (λ (z : List ℕ). z ++ behind ≡ 39 ∷ x ∷ (more ++ rest)) (f ∙ ap (λ (z : List ℕ). 39 ∷ (z ++ (39 ∷ []))) (g ∙ ap (λ (z : List ℕ). z ++ back) n.run_is)) (subst (λ (z : List ℕ). other ++ behind ≡ z ++ rest) h e) in
        absurd (small_not x 92 s (λ p q. omega arith) cc)

signs_length : (s : List ℕ) → fits s ≡ true → (1 ≤ length s) × (length s ≤ 2)
signs_length [] e = absurd cc
signs_length (a ∷ []) e = (omega arith, omega arith)
signs_length (a ∷ b ∷ []) e = (omega arith, omega arith)
signs_length (a ∷ b ∷ c ∷ s) e = absurd cc

sign_in_sign : (run other rest behind : List ℕ) → fits run ≡ true → fits other ≡ true → other ++ behind ≡ run ++ rest → heads (sign_cling run) rest ≡ false → length other ≤ length run
sign_in_sign [] other rest behind f g e h = absurd cc
sign_in_sign (a ∷ []) [] rest behind f g e h = omega arith
sign_in_sign (a ∷ []) (x ∷ []) rest behind f g e h = omega arith
sign_in_sign (a ∷ []) (x ∷ y ∷ []) [] behind f g e h = absurd cc
sign_in_sign (a ∷ []) (x ∷ y ∷ []) (d ∷ rest) behind f g e h =
    let s : y ≡ d = cc in
    let k = and_true (nat_eq (class x) 4) (not (nat_eq x 40) && is_second y) g in
    let second = (and_true (not (nat_eq x 40)) (is_second y) k.1).1 in
    both_ways (is_second d) (subst (λ (z : ℕ). is_second z ≡ true) s second) (or_false (is_second d) (nat_eq d 45 || (is_part d && same (a ∷ []) (95 ∷ []))) h).0
sign_in_sign (a ∷ []) (x ∷ y ∷ z ∷ o) rest behind f g e h = absurd cc
sign_in_sign (a ∷ b ∷ r) other rest behind f g e h = let k = (signs_length other g).1 in omega (arith, k)

neg_in_sign : {A : Type 0} (run other rest behind ds : List ℕ) → fits run ≡ true → other ≡ 40 ∷ 45 ∷ (ds ++ 41 ∷ []) → other ++ behind ≡ run ++ rest → heads (sign_cling run) rest ≡ false → A
neg_in_sign [] other rest behind ds f g e h = absurd cc
neg_in_sign (a ∷ []) other [] behind ds f g e h =
    let w : 40 ∷ 45 ∷ ((ds ++ (41 ∷ [])) ++ behind) ≡ a ∷ [] = subst (λ (z : List ℕ). z ++ behind ≡ a ∷ []) g e in
    absurd cc
neg_in_sign (a ∷ []) other (d ∷ rest) behind ds f g e h =
    let w : 40 ∷ 45 ∷ ((ds ++ (41 ∷ [])) ++ behind) ≡ a ∷ d ∷ rest = subst (λ (z : List ℕ). z ++ behind ≡ a ∷ d ∷ rest) g e in
    let s : 45 ≡ d = cc in
    let k = or_false (is_second d) (nat_eq d 45 || (is_part d && same (a ∷ []) (95 ∷ []))) h in
    both_ways (nat_eq d 45) (subst (λ (z : ℕ). nat_eq z 45 ≡ true) s refl) (or_false (nat_eq d 45) (is_part d && same (a ∷ []) (95 ∷ [])) k.1).0
neg_in_sign (a ∷ b ∷ []) other rest behind ds f g e h =
    let w : 40 ∷ 45 ∷ ((ds ++ (41 ∷ [])) ++ behind) ≡ a ∷ b ∷ rest = subst (λ (z : List ℕ). z ++ behind ≡ a ∷ b ∷ rest) g e in
    let s : 40 ≡ a = cc in
    let k = and_true (nat_eq (class a) 4) (not (nat_eq a 40) && is_second b) f in
    both_ways (nat_eq a 40) (subst (λ (z : ℕ). nat_eq z 40 ≡ true) s refl) (not_true (nat_eq a 40) (and_true (not (nat_eq a 40)) (is_second b) k.1).0)
neg_in_sign (a ∷ b ∷ c ∷ r) other rest behind ds f g e h = absurd cc

neg_in_neg : (run other rest behind ds es : List ℕ) → run ≡ 40 ∷ 45 ∷ (ds ++ 41 ∷ []) → other ≡ 40 ∷ 45 ∷ (es ++ 41 ∷ []) → every is_digit es ≡ true → other ++ behind ≡ run ++ rest → length other ≤ length run
neg_in_neg run other rest behind ds es f g a e =
    let w : 40 ∷ 45 ∷ ((es ++ (41 ∷ [])) ++ behind) ≡ 40 ∷ 45 ∷ ((ds ++ (41 ∷ [])) ++ rest) = subst (λ (z : List ℕ). z ++ behind ≡ 40 ∷ 45 ∷ ((ds ++ (41 ∷ [])) ++ rest)) g (subst (λ (z : List ℕ). other ++ behind ≡ z ++ rest) f e) in
    let t : (es ++ (41 ∷ [])) ++ behind ≡ (ds ++ (41 ∷ [])) ++ rest = cc in
    let k : es ++ (41 ∷ behind) ≡ ds ++ (41 ∷ rest) = sym (append_assoc es (41 ∷ []) behind) ∙ (t ∙ append_assoc ds (41 ∷ []) rest) in
    let less : length es ≤ length ds = prefix is_digit ds (41 ∷ rest) es (41 ∷ behind) k a refl in
    let la : length other ≡ suc (suc (length es + 1)) = ap length g ∙ ap (λ (n : ℕ). suc (suc n)) (length-append es (41 ∷ [])) in
    let lb : length run ≡ suc (suc (length ds + 1)) = ap length f ∙ ap (λ (n : ℕ). suc (suc n)) (length-append ds (41 ∷ [])) in
    omega (arith, less, la, lb)

var_parts : (x : ℕ) (more other : List ℕ) → other ≡ 39 ∷ x ∷ more → is_small x ≡ true → every is_word_byte more ≡ true → every is_part other ≡ true
var_parts x more other e s a = subst (λ (z : List ℕ). every is_part z ≡ true) (sym e) (and_of (is_part x) (every is_part more) (word_part x (small_word x s)) (every_more is_word_byte is_part word_part more a))

same_length : (run other : List ℕ) → other ≡ run → length other ≤ length run
same_length run other e = let h : length other ≡ length run = ap length e in omega (arith, h)

-- a run at the place of one that no clinging byte follows is no longer
pub longer : {run other : List ℕ} (rest behind : List ℕ) → other ++ behind ≡ run ++ rest → (k : Kind run) → (j : Kind other) → heads (cling k) rest ≡ false → nat_eq (tag k) (tag j) ≡ true → length other ≤ length run
longer {run} {other} rest behind e (KName c s f l a) (KName d t g m b) h n = prefix is_part run rest other behind e b h
longer {run} {other} rest behind e (KDec c s f l a) (KDec d t g m b) h n = prefix is_digit run rest other behind e b (part_digit rest h)
longer {run} {other} rest behind e (KVar x more f l a) (KVar y less g m b) h n = prefix is_part run rest other behind e (var_parts y less other g m b) h
longer {run} {other} rest behind e (KVar x more f l a) (KChar c q) h n = char_in_var run other rest behind c x more q f l a e h
longer {run} {other} rest behind e (KChar c q) (KVar x more f l a) h n = var_in_char run other rest behind c x more q f l a e
longer {run} {other} rest behind e (KChar c q) (KChar d p) h n = same_length run other (one_quoted 39 (λ z. omega (arith, z)) (c ∷ []) (d ∷ []) run other rest behind q p e).1
longer {run} {other} rest behind e (KText s q) (KText t p) h n = same_length run other (one_quoted 34 (λ z. omega (arith, z)) s t run other rest behind q p e).1
longer {run} {other} rest behind e (KSign f) (KSign g) h n = sign_in_sign run other rest behind f g e h
longer {run} {other} rest behind e (KSign f) (KNeg ds g b) h n = neg_in_sign run other rest behind ds f g e h
longer {run} {other} rest behind e (KNeg ds f a) (KSign g) h n =
    let k = (signs_length other g).1 in
    let lb : length run ≡ suc (suc (length ds + 1)) = ap length f ∙ ap (λ (n : ℕ). suc (suc n)) (length-append ds (41 ∷ [])) in
    omega (arith, k, lb)
longer {run} {other} rest behind e (KNeg ds f a) (KNeg es g b) h n = neg_in_neg run other rest behind ds es f g b e
longer rest behind e k j h n = absurd (never n)
