-- Rows as a loop reads them, one item after another.
use Rattle.std.proofs.Common.{◌≡◌, ℕ, zero, suc, ◌≤◌, ◌<◌, Bool, true, false, cond, List, [], ◌∷◌, ◌++◌, length, Option, Ok, Err, refl, sym, ap, ◌∙◌, append_assoc, arith}
use Rattle.std.proofs.lemmas.List.{append-nil, length-append}
use Rattle.readers.specs.declared.code.Code.{Code}
use Rattle.readers.specs.Reader.{first, Answer, Reader, ◌>>=◌, head_is, both, mapped, row_by, row, with_front}
use Rattle.readers.specs.Exact.{Reads}

-- each phrase takes a token
abbrev pub Shortens : {K T : Type 0} → Reader K T → Type 0
Shortens {K} {T} p = (s : List K) (z : T × List K) → p s ≡ Ok z → length z.1 < length s

nonempty : {K : Type 0} (test : K → Bool) (u : List K) → head_is test (first u) ≡ true → 0 < length u
nonempty test [] e = absurd cc
nonempty test (c ∷ u) e = omega arith

pub shortens : {K T : Type 0} (test : K → Bool) (D : T → List K → Type 0) (stop : T → Option K → Bool) (p : Reader K T) → ((t : T) (w : List K) → D t w → head_is test (first w) ≡ true) → Reads D stop p → Shortens p
shortens test D stop p begins P s z e =
    let f = P.sound s z e in
    let some = nonempty test f.read (begins z.0 f.read f.derives) in
    omega (arith, ap length f.parts, length-append f.read z.1)

module _ {K T : Type 0} (test : K → Bool) (p : Reader K T) (less : Shortens p) where
  -- the bound does not matter, where it is enough
  row_fuel : (n m : ℕ) (s : List K) → length s ≤ n → length s ≤ m → row_by test p n s ≡ row_by test p m s
  unfolding row_by
  row_fuel zero zero s a b = refl
  row_fuel zero (suc m) [] a b = refl
  row_fuel zero (suc m) (c ∷ s) a b = absurd (omega arith)
  row_fuel (suc n) zero [] a b = refl
  row_fuel (suc n) zero (c ∷ s) a b = absurd (omega arith)
  row_fuel (suc n) (suc m) s a b =
      ap (λ (r : Answer K (List T)). cond (head_is test (first s)) r (Ok ([], s)))
      (go (p s) (λ z e. row_fuel n m z.1 (let l = less s z e in omega arith) (let l = less s z e in omega arith)))
    where
      go : (r : Answer K T) → ((z : T × List K) → r ≡ Ok z → row_by test p n z.1 ≡ row_by test p m z.1)
          → (r >>= (λ x. with_front (x.0 ∷ []) (row_by test p n x.1))) ≡ (r >>= (λ x. with_front (x.0 ∷ []) (row_by test p m x.1)))
      go (Ok z) f = ap (with_front (z.0 ∷ [])) (f z refl)
      go (Err e) f = refl

  pub row_more : (s : List K) (z : T × List K) → head_is test (first s) ≡ true → p s ≡ Ok z → row test p s ≡ with_front (z.0 ∷ []) (row test p z.1)
  unfolding row_by
  row_more [] z h e = absurd cc
  row_more (c ∷ s) z h e =
      let l = less (c ∷ s) z e in
      rw h (rw e (ap (with_front (z.0 ∷ [])) (row_fuel (length s) (length z.1) z.1 (omega arith) (omega arith))))

  pub row_done : (s : List K) → head_is test (first s) ≡ false → row test p s ≡ Ok ([], s)
  unfolding row_by
  row_done [] h = refl
  row_done (c ∷ s) h = rw h refl

  pub row_fails : (s : List K) (e : Code × List K) → head_is test (first s) ≡ true → p s ≡ Err e → row test p s ≡ Err e
  unfolding row_by
  row_fails [] e h i = absurd cc
  row_fails (c ∷ s) e h i = rw h (rw i refl)

abbrev pair_of : {K S T : Type 0} → S × T → List K → Answer K (S × T)
pair_of x s = Ok (x, s)

fronts : {K T : Type 0} (xs ys : List T) (r : Answer K (List T)) → with_front xs (with_front ys r) ≡ with_front (xs ++ ys) r
fronts xs ys (Ok y) = ap (λ (l : List _). Ok (l, y.1)) (sym (append_assoc xs ys y.0))
fronts xs ys (Err e) = refl

module _ {K T : Type 0} (test : K → Bool) (p : Reader K T) (less : Shortens p) where
  -- one turn of the loop
  pub turn : (found : List T) (s : List K) (z : T × List K) (all : Answer K (List T)) → all ≡ with_front found (row test p s) → head_is test (first s) ≡ true → p s ≡ Ok z → all ≡ with_front (found ++ z.0 ∷ []) (row test p z.1)
  turn found s z all inv h e = inv ∙ ap (with_front found) (row_more test p less s z h e) ∙ fronts found (z.0 ∷ []) (row test p z.1)

  -- its end
  pub turned : (found : List T) (s : List K) (all : Answer K (List T)) → all ≡ with_front found (row test p s) → head_is test (first s) ≡ false → all ≡ Ok (found, s)
  turned found s all inv h = inv ∙ ap (with_front found) (row_done test p less s h) ∙ ap (λ (l : List T). Ok (l, s)) (append-nil found)

  -- a turn that fails
  pub turn_fails : (found : List T) (s : List K) (e : Code × List K) (all : Answer K (List T)) → all ≡ with_front found (row test p s) → head_is test (first s) ≡ true → p s ≡ Err e → all ≡ Err e
  turn_fails found s e all inv h i = inv ∙ ap (with_front found) (row_fails test p less s e h i)

  -- the first of one or more
  pub first_turn : (s : List K) (z : T × List K) → p s ≡ Ok z → mapped (λ x. x.0 ∷ x.1) (both p (row test p)) s ≡ with_front (z.0 ∷ []) (row test p z.1)
  first_turn s z e = rw e (go (row test p z.1))
    where
      go : (r : Answer K (List T)) → ((r >>= λ y. pair_of (z.0, y.0) y.1) >>= λ x. Ok (x.0.0 ∷ x.0.1, x.1)) ≡ with_front (z.0 ∷ []) r
      go (Ok y) = refl
      go (Err e) = refl
