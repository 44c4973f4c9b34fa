-- The shapes that most phrases have: a word before or behind, rows with a word between.
use Rattle.std.proofs.Common.{◌≡◌, ◌⊎◌, ℕ, zero, suc, ◌+◌, ◌≤◌, max, Bool, true, false, not, ◌&&◌, ◌||◌, eqb, List, [], ◌∷◌, ◌++◌, Option, Some, None, refl, sym, ap, ◌∙◌, arith, inl, inr}
use Rattle.std.proofs.lemmas.Bool.{eq-eqb}
use Rattle.std.specs.Prelude.{codes}
use Rattle.readers.specs.Reader.{first, head_is, Reader, both, mapped, token_by, one, skip, close}
use Rattle.readers.specs.Language.{Both, That, Shows, As, Or, Skip, Close}
use Rattle.readers.specs.Room.{Room}
use Rattle.readers.specs.Exact.{always}
use Rattle.readers.specs.Forms.{highest, Seps, seps, Enclosed, enclosed, shown}
use Rattle.readers.proofs.Bundle.{Known, Part, Phrase}
use Rattle.readers.proofs.Combine.{token, word, skipped, closed, made_phrase}
use Rattle.readers.proofs.Repeat.{apart_phrase}
use Rattle.readers.proofs.Choose.{closed_phrase, enclosing, restopped, seps_alike}
use Rattle.readers.proofs.Row.{not_false}
use Rattle.tl_text.specs.declared.place.Place.{Place}
use Rattle.sml_lex.specs.declared.token.Token.{Token}
use Rattle.sml_lex.specs.declared.token.Kind.{Kind}
use Rattle.sml_lex.specs.declared.token.Kind.TheVariants as kind
use Rattle.sml_fix.specs.Fixities.{Settings}
use Rattle.sml_grammar.specs.Tokens.{Firsts, just, union, is, the, place, among, plain_fix, tokens_of}
use Rattle.sml_grammar.proofs.Sets.{Tests, is_just, apart, apart_is, among_union}

-- ---- some tokens

abbrev pub nowhere : Place
nowhere = record { source = 0; line = 0; col = 0; byte = 0 }

abbrev pub some_token : Kind → Token
some_token k = record { kind = k; place = nowhere; len = 0; decimal = true }

abbrev pub word_token : ℕ → Token
word_token k = some_token (kind.Word k)

abbrev pub name_token : Token
name_token = some_token (kind.Id (codes "x" ∷ []))

abbrev pub star_token : Token
star_token = some_token (kind.Id (codes "*" ∷ []))

pub word_is : (k : ℕ) → is k (word_token k) ≡ true
word_is k = eq-eqb k k refl

-- ---- what a set stops

-- phrases that go on with the tokens of a set
abbrev pub stops : Firsts → Option Token → Bool
stops set o = not (head_is (tokens_of set) o)

-- a token of another set is one that they do not go on with
pub halts : (f : Settings) (a set : Firsts) (test : Token → Bool) → Tests f a test → apart a set ≡ true → (c : Token) → test c ≡ true → stops set (Some c) ≡ true
halts f a set test same e c i = not_false (tokens_of set c) (apart_is f plain_fix a set e c (sym (same c) ∙ i))

pub word_halts : (k : ℕ) (set : Firsts) → apart (just k) set ≡ true → (c : Token) → is k c ≡ true → stops set (Some c) ≡ true
word_halts k set e c i = halts plain_fix (just k) set (is k) (is_just plain_fix k) e c i

neither : (x y : Bool) → not (x || y) ≡ (not x && not y)
neither true y = refl
neither false y = refl

pub stops_with : (a b : Firsts) (test : Token → Bool) → Tests plain_fix b test → (o : Option Token) → stops (union a b) o ≡ (stops a o && not (head_is test o))
stops_with a b test same None = refl
stops_with a b test same (Some c) = ap not (among_union plain_fix a b c) ∙ (neither (tokens_of a c) (tokens_of b c) ∙ ap (λ (x : Bool). not (tokens_of a c) && not x) (sym (same c)))

-- ---- words

pub the_word : {s : Known} {n : ℕ} (k : ℕ) → Phrase s n 0 (λ r. Shows (the k)) (λ r. token_by (the k)) always (λ x. 0) 0 0 (is k) 0
the_word k = token (is k) place (word_token k) (word_is k)

pub a_word : {s : Known} {n : ℕ} (k : ℕ) → Phrase s n 0 (λ r (u : Unit {0}). That (is k)) (λ r. one (is k)) always (λ x. 0) 0 0 (is k) 0
a_word k = word (is k) (word_token k) (word_is k)

pub past_word : {T : Type 0} {s : Known} {n : ℕ} {D : Room → T → List Token → Type 0} {p : Room → Reader Token T} {sd : T → Option Token → Bool} {td : T → ℕ} {ld nd : ℕ} (k : ℕ)
    → Part s n 0 D p sd td ld nd → Phrase s n 0 (λ r. Skip (is k) (D r)) (λ r. skip (is k) (p r)) sd td ld (max ld nd) (is k) ld
past_word k P = skipped (is k) (word_token k) (word_is k) P

module _ {T : Type 0} {s : Known} {n : ℕ} {D : Room → T → List Token → Type 0} {p : Room → Reader Token T} {td : T → ℕ} {ld nd : ℕ} (goes : Firsts) where
  pub to_word : (k : ℕ) → apart (just k) goes ≡ true → Part s n 0 D p (λ t. stops goes) td ld nd → Part s n 0 (λ r. Close (D r) (is k)) (λ r. close (p r) (is k)) always td ld nd
  to_word k e P = closed (is k) (word_token k) (word_is k) P (λ t c i. word_halts k goes e c i)

  pub from_to_word : {test : Token → Bool} {ed : ℕ} (k : ℕ) → apart (just k) goes ≡ true → Phrase s n 0 D p (λ t. stops goes) td ld nd test ed → Phrase s n 0 (λ r. Close (D r) (is k)) (λ r. close (p r) (is k)) always td ld nd test (max ed 0)
  from_to_word k e P = closed_phrase (is k) (word_token k) (word_is k) P (λ t c i. word_halts k goes e c i)

  -- phrases with a word between
  pub rows_of : {test : Token → Bool} {ed : ℕ} (k : ℕ) → apart (just k) goes ≡ true → Phrase s n 0 D p (λ t. stops goes) td ld nd test ed
      → Phrase s n 0 (λ r. Seps (is k) (D r)) (λ r. seps (is k) (p r)) (λ t. stops (union goes (just k))) (highest td) (max ld 0) (max nd (max (max ld nd) 0)) test (max ed 0)
  rows_of k e P =
      let all = apart_phrase (is k) (word_token k) (word_is k) P (λ t c i. word_halts k goes e c i) in
      record {
        part = restopped (λ t. stops (union goes (just k))) all.part (λ r t w o d. seps_alike (is k) (stops goes) (D r) t w o d ∙ sym (stops_with goes (just k) (is k) (is_just plain_fix k) o));
        opening = all.opening;
      }

  -- the same in brackets, or none
  pub bracketed : {test : Token → Bool} {ed : ℕ} (f : Settings) (a : Firsts) (k end : ℕ) → Tests f a test → (nd ≤ ld) → apart (just k) goes ≡ true → apart (just end) goes ≡ true → apart (just end) (just k) ≡ true → apart a (just end) ≡ true
      → Phrase s n 0 D p (λ t. stops goes) td ld nd test ed → Part s n 0 (λ r. Enclosed (is k) (D r) (is end)) (λ r. enclosed test (max ld 0) (is k) (p r) (is end) r.height) always (highest td) 0 0
  bracketed f a k end ta small e g i j P = enclosing (is k) (is end) (word_token k) (word_token end) (word_is k) (word_is end) P small (λ t c i. word_halts k goes e c i) (λ t c i. word_halts end goes g c i)
      (λ c x. is_just plain_fix k c ∙ apart_is plain_fix plain_fix (just end) (just k) i c (sym (is_just plain_fix end c) ∙ x))
      (λ c x. is_just plain_fix end c ∙ apart_is f plain_fix a (just end) j c (sym (ta c) ∙ x))
