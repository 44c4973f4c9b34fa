-- Laws of answers and of first tokens.
use Rattle.std.proofs.Common.{◌≡◌, ◌⊎◌, Bool, true, false, cond, List, [], ◌∷◌, ◌++◌, Option, Some, None, Result, Ok, Err, refl, sym, subst, ◌∙◌, arith, inl, inr}
use Rattle.readers.specs.declared.code.Code.{Code}
use Rattle.readers.specs.declared.code.Code.TheVariants.{Grammar, Depth, FixityClash}
use Rattle.readers.specs.Reader.{first, ◌>>=◌, Reader, head_is}
use Rattle.readers.specs.Language.{Viable}
use Rattle.readers.specs.Room.{Room, Under, Eased, Alike}
use Rattle.readers.specs.Exact.{Reads, Refuses}

pub first-append : {K : Type 0} (u : List K) (r q : List K) → first r ≡ first q → first (u ++ r) ≡ first (u ++ q)
first-append [] r q h = h
first-append (c ∷ u) r q h = refl

pub ok_of : {E A B : Type 0} (r : Result A E) (f : A → Result B E) (y : B) → (r >>= f) ≡ Ok y → (x : A) × (r ≡ Ok x) × (f x ≡ Ok y)
ok_of (Ok x) f y e = (x, refl, e)
ok_of (Err d) f y e = absurd cc

pub err_of : {E A B : Type 0} (r : Result A E) (f : A → Result B E) (d : E) → (r >>= f) ≡ Err d → (r ≡ Err d) ⊎ ((x : A) × (r ≡ Ok x) × (f x ≡ Err d))
err_of (Ok x) f d e = inr (x, refl, e)
err_of {B = B} (Err c) f d e = inl cc

abbrev pub the_ok : {A E : Type 0} → A → Result A E
the_ok x = Ok x

pub ok_is : {A E : Type 0} (x y : A) → the_ok {E = E} x ≡ the_ok y → x ≡ y
ok_is x y e = cc

pub not_both : {A E : Type 0} {P : Type 0} (x : A) (d : E) → the_ok {E = E} x ≡ Err d → P
not_both x d e = absurd cc

pub alike_le : (c : Code) (h k : Room) → Alike c h k → Under h k
alike_le Grammar h k a = a
alike_le Depth h k a = subst (λ (k : Room). Under h k) (sym a) (omega arith, λ e. e)
alike_le FixityClash h k a = (a.0, λ e. a.1 ∙ e)

pub eased_under : (c : Code) (h k : Room) → Eased c h k → Under h k
eased_under Grammar h k a = absurd a
eased_under Depth h k a = (a.0, λ e. a.1 ∙ e)
eased_under FixityClash h k a = a

pub under_trans : (h k m : Room) → Under h k → Under k m → Under h m
under_trans h k m a b = (let x = a.0 in let y = b.0 in omega arith, λ e. b.1 (a.1 e))

pub under_self : (h : Room) → Under h h
under_self h = (omega arith, λ e. e)

-- the front that was read is one of a phrase, where there is a phrase at all
pub viable_or : {K T : Type 0} (D : T → List K → Type 0) (u : List K) → Viable D [] → (u ≡ []) ⊎ Viable D u → Viable D u
viable_or D u some (inl z) = subst (Viable D) (sym z) some
viable_or D u some (inr v) = v

-- ---- tests

pub chosen : {A : Type 0} (b : Bool) (x y z : A) → cond b x y ≡ z → ((b ≡ true) × (x ≡ z)) ⊎ ((b ≡ false) × (y ≡ z))
chosen true x y z e = inl (refl, e)
chosen false x y z e = inr (refl, e)

pub head_some : {K : Type 0} (test : K → Bool) (o : Option K) → head_is test o ≡ true → (c : K) × (o ≡ Some c) × (test c ≡ true)
head_some test None e = absurd cc
head_some test (Some c) e = (c, refl, e)

pub head-append : {K : Type 0} (test : K → Bool) (w r : List K) → head_is test (first w) ≡ true → head_is test (first (w ++ r)) ≡ true
head-append test [] r e = absurd cc
head-append test (c ∷ w) r e = e

-- the same reader
pub reads_same : {K T : Type 0} (D : T → List K → Type 0) (stop : T → Option K → Bool) (p q : Reader K T) → ((s : List K) → p s ≡ q s) → Reads D stop p → Reads D stop q
reads_same D stop p q same P = record {
  complete = λ t w r d st. sym (same (w ++ r)) ∙ P.complete t w r d st;
  sound = λ s z e. P.sound s z (same s ∙ e);
}

pub refuses_same : {K T : Type 0} (D : Room → T → List K → Type 0) (p q : Room → Reader K T) → ((k : Room) (s : List K) → p k s ≡ q k s) → (h : Room) (s : List K) (e : Code × List K) → Refuses D p h s e → Refuses D q h s e
refuses_same D p q same h s e g = record {
  read = g.read;
  parts = g.parts;
  viable = g.viable;
  deep = g.deep;
  local = λ k r al b. sym (same k (g.read ++ r)) ∙ g.local k r al b;
}

pub bind_bind : {E A B C : Type 0} (r : Result A E) (f : A → Result B E) (g : B → Result C E) → ((r >>= f) >>= g) ≡ (r >>= λ x. (f x >>= g))
bind_bind (Ok x) f g = refl
bind_bind (Err e) f g = refl
