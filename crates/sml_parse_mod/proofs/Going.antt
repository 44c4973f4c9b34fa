-- A reader that goes on with what another one read, alternative by alternative.
use Rattle.std.proofs.Common.{◌≡◌, Bool, true, false, if◌then◌else◌, List, Ok, Err, refl, sym}
use Rattle.readers.specs.Reader.{first, head_is, Answer, Reader, ◌>>=◌, mapped, one, skip}
use Rattle.readers.specs.Forms.{else_if}

module _ {K S T : Type 0} (f : S → Reader K T) where
  abbrev pub going : Answer K S → Answer K T
  going r = r >>= λ y. f y.0 y.1

  pub going_if : (test : K → Bool) (p q : Reader K S) (a b : Reader K T) (s : List K) → a s ≡ going (p s) → b s ≡ going (q s) → else_if test a b s ≡ going (else_if test p q s)
  going_if test p q a b s i j = go (head_is test (first s))
    where
      go : (c : Bool) → (if c then a s else b s) ≡ going (if c then p s else q s)
      go true = i
      go false = j

  pub going_skip : (test : K → Bool) (p : Reader K S) (a : Reader K T) (s : List K) → ((r : List K) → a r ≡ going (p r)) → skip test a s ≡ going (skip test p s)
  going_skip test p a s i = go (one test s)
    where
      go : (r : Answer K (Unit {0})) → (r >>= λ x. a x.1) ≡ going (r >>= λ x. p x.1)
      go (Ok x) = i x.1
      go (Err e) = refl

  pub going_mapped : {U : Type 0} (g : U → S) (h : U → T) (p : Reader K U) (s : List K) → ((u : U) (r : List K) → f (g u) r ≡ Ok (h u, r)) → mapped h p s ≡ going (mapped g p s)
  going_mapped {U} g h p s i = go (p s)
    where
      back : {A B : Type 0} → (A → B) → Answer K A → Answer K B
      back k r = r >>= λ x. Ok (k x.0, x.1)

      go : (r : Answer K U) → back h r ≡ going (back g r)
      go (Ok x) = sym (i x.0 x.1)
      go (Err e) = refl
