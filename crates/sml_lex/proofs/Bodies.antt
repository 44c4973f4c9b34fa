-- A literal that is read item by item.
use Rattle.std.proofs.Common.{◌≡◌, ℕ, ◌+◌, List, [], ◌∷◌, ◌++◌, drop, sym, subst, arith, append_assoc, append-nil, add-zero}
use Rattle.tl_text.specs.declared.code.Code.{Code}
use Rattle.sml_lex.specs.declared.literal.Item.TheVariants.{Close, Char, Gap, Fails}
use Rattle.sml_lex.specs.Literals.{item_at, Body, BodyFails, closes, adds, skips, here, behind, later}

-- what is said of the rest holds of all, with these characters and so many bytes before
pub record ReadTo (s text rest : List ℕ) (at : ℕ) : Type 0 where
  pub reads : (vs : List ℕ) (m : ℕ) → Body rest vs m → Body s (text ++ vs) (at + m)
  pub fails : (m : ℕ) (code : Code) → BodyFails rest m code → BodyFails s (at + m) code

pub char_read : (s text rest : List ℕ) (at v n : ℕ) → ReadTo s text rest at → item_at rest ≡ Char v n → ReadTo s (text ++ v ∷ []) (drop n rest) (at + n)
char_read s text rest at v n r e = record {
  reads = λ vs m b.
      let all : Body s (text ++ (v ∷ vs)) (at + (n + m)) = r.reads (v ∷ vs) (n + m) (adds v n e b) in
      let size : at + (n + m) ≡ (at + n) + m = omega arith in
      subst (λ k. Body s ((text ++ v ∷ []) ++ vs) k) size (subst (λ l. Body s l (at + (n + m))) (sym (append_assoc text (v ∷ []) vs)) all);
  fails = λ m code b.
      let size : at + (n + m) ≡ (at + n) + m = omega arith in
      subst (λ k. BodyFails s k code) size (r.fails (n + m) code (behind v n e b));
}

pub gap_read : (s text rest : List ℕ) (at n : ℕ) → ReadTo s text rest at → item_at rest ≡ Gap n → ReadTo s text (drop n rest) (at + n)
gap_read s text rest at n r e = record {
  reads = λ vs m b.
      let size : at + (n + m) ≡ (at + n) + m = omega arith in
      subst (λ k. Body s (text ++ vs) k) size (r.reads vs (n + m) (skips n e b));
  fails = λ m code b.
      let size : at + (n + m) ≡ (at + n) + m = omega arith in
      subst (λ k. BodyFails s k code) size (r.fails (n + m) code (later n e b));
}

-- the closing quote
pub close_read : (s text rest : List ℕ) (at : ℕ) → ReadTo s text rest at → item_at rest ≡ Close → Body s text (at + 1)
close_read s text rest at r e = subst (λ l. Body s l (at + 1)) (append-nil text) (r.reads [] 1 (closes e))

pub fail_read : (s text rest : List ℕ) (at : ℕ) (code : Code) → ReadTo s text rest at → item_at rest ≡ Fails code → BodyFails s at code
fail_read s text rest at code r e = subst (λ k. BodyFails s k code) (add-zero at) (r.fails 0 code (here e))
