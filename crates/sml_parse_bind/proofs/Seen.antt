-- What a function gives of a tree that another one gave in another form.
use Rattle.std.proofs.Common.{◌≡◌, Bool, true, false, List, Ok, Err, refl, sym, ◌∙◌}
use Rattle.readers.specs.declared.code.Code.TheVariants.{Grammar}
use Rattle.readers.specs.declared.fault.ReadError.{ReadError}
use Rattle.readers.specs.declared.fault.ReadError.TheVariants as errors
use Rattle.readers.specs.Given.{Fails}
use Rattle.readers.specs.Reader.{first, head_is, Answer, Reader, ◌>>=◌, both, mapped}
use Rattle.readers.specs.Forms.{ended}
use Rattle.readers.proofs.Choice.{remade}
use Rattle.sml_parse_bind.proofs.Steps.{mapped_mapped, ended_gives, ended_bars, ended_fails}

-- two ways to see it
module _ {K S T : Type 0} (f g : S → T) (same : (x : S) → f x ≡ g x) where
  pub mapped_same : (p : Reader K S) (s : List K) → mapped f p s ≡ mapped g p s
  mapped_same p s = go (p s)
    where
      go : (r : Answer K S) → remade f r ≡ remade g r
      go (Ok x) = rw (same x.0) refl
      go (Err e) = refl

-- ---- one reader

module _ {K S T U : Type 0} (f : S → T) (g : T → U) (p : Reader K S) where
  pub seen_gives : (s : List K) (z : T × List K) → mapped f p s ≡ Ok z → mapped (λ x. g (f x)) p s ≡ Ok (g z.0, z.1)
  seen_gives s z e = sym (mapped_mapped f g p s) ∙ rw e refl

  pub seen_fails : (d : ReadError K) (s : List K) → Fails d (mapped f p s) → Fails d (mapped (λ x. g (f x)) p s)
  seen_fails errors.NoMemory s e = tt
  seen_fails (errors.Refused code rest) s e = sym (mapped_mapped f g p s) ∙ rw e refl

  -- which nothing of the test may follow
  module _ (test : K → Bool) where
    pub closed_gives : (s : List K) (z : T × List K) → mapped f p s ≡ Ok z → head_is test (first z.1) ≡ false → mapped (λ x. g (f x)) (ended test p) s ≡ Ok (g z.0, z.1)
    closed_gives s z e i = ended_gives (λ x. g (f x)) test p s (g z.0, z.1) (seen_gives s z e) i

    pub closed_bars : (s : List K) (z : T × List K) → mapped f p s ≡ Ok z → head_is test (first z.1) ≡ true → mapped (λ x. g (f x)) (ended test p) s ≡ Err (Grammar, z.1)
    closed_bars s z e i = ended_bars (λ x. g (f x)) test p s (g z.0, z.1) (seen_gives s z e) i

    pub closed_fails : (d : ReadError K) (s : List K) → Fails d (mapped f p s) → Fails d (mapped (λ x. g (f x)) (ended test p) s)
    closed_fails d s e = ended_fails (λ x. g (f x)) test p d s (seen_fails d s e)

-- ---- two readers, one after the other

module _ {K A B S T U : Type 0} (f : A → S) (g : B → T) (k : S → T → U) (p : Reader K A) (q : Reader K B) where
  abbrev joined : A × B → U
  joined y = k (f y.0) (g y.1)

  abbrev apart : S × T → U
  apart y = k y.0 y.1

  both_seen : (s : List K) → mapped joined (both p q) s ≡ mapped apart (both (mapped f p) (mapped g q)) s
  both_seen s = go (p s)
    where
      last : (x : A) (r : Answer K B) → remade joined (r >>= λ y. Ok ((x, y.0), y.1)) ≡ remade apart (remade g r >>= λ y. Ok ((f x, y.0), y.1))
      last x (Ok y) = refl
      last x (Err e) = refl

      go : (r : Answer K A) → remade joined (r >>= λ x. q x.1 >>= λ y. Ok ((x.0, y.0), y.1)) ≡ remade apart (remade f r >>= λ x. remade g (q x.1) >>= λ y. Ok ((x.0, y.0), y.1))
      go (Ok x) = last x.0 (q x.1)
      go (Err e) = refl

  pub pair_gives : (s r : List K) (x : S) (z : T × List K) → mapped f p s ≡ Ok (x, r) → mapped g q r ≡ Ok z → mapped joined (both p q) s ≡ Ok (k x z.0, z.1)
  pair_gives s r x z e i = both_seen s ∙ rw e (rw i refl)

  pub pair_first : (d : ReadError K) (s : List K) → Fails d (mapped f p s) → Fails d (mapped joined (both p q) s)
  pair_first errors.NoMemory s e = tt
  pair_first (errors.Refused code rest) s e = both_seen s ∙ rw e refl

  pub pair_second : (d : ReadError K) (s r : List K) (x : S) → mapped f p s ≡ Ok (x, r) → Fails d (mapped g q r) → Fails d (mapped joined (both p q) s)
  pair_second errors.NoMemory s r x e i = tt
  pair_second (errors.Refused code rest) s r x e i = both_seen s ∙ rw e (rw i refl)
