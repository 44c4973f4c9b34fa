-- All that is known of a language and its reader in one record, so that what holds of a form follows from its parts.
use Rattle.std.proofs.Common.{◌≡◌, ℕ, zero, suc, ◌+◌, ◌≤◌, Bool, true, false, List, [], ◌∷◌, Option, Err, arith}
use Rattle.readers.specs.declared.code.Code.{Code}
use Rattle.readers.specs.declared.code.Code.TheVariants.{Grammar}
use Rattle.readers.specs.Reader.{first, head_is, Reader}
use Rattle.readers.specs.Language.{Viable}
use Rattle.readers.specs.Room.{Room, Under}
use Rattle.readers.specs.Exact.{Reads, Refuses}

-- what is known up to some height: that trees fit, what is read, what is refused. What comes before is known at all heights
pub data Known : Type 0 where
  Sizes : Known
  Readings : Known
  Refusals : Known

abbrev pub Fitting : Known → ℕ → Room → Type 0
Fitting Known.Sizes n k = k.height ≤ n
Fitting Known.Readings n k = Unit {0}
Fitting Known.Refusals n k = Unit {0}

abbrev pub Reading : Known → ℕ → Room → Type 0
Reading Known.Sizes n k = ⊥
Reading Known.Readings n k = k.height ≤ n
Reading Known.Refusals n k = Unit {0}

abbrev pub Refusing : Known → ℕ → Room → Type 0
Refusing Known.Sizes n k = ⊥
Refusing Known.Readings n k = ⊥
Refusing Known.Refusals n k = k.height ≤ n

pub read_fits : (s : Known) (n : ℕ) (h k : Room) → Reading s n h → Fitting s n k
read_fits Known.Sizes n h k a = absurd a
read_fits Known.Readings n h k a = tt
read_fits Known.Refusals n h k a = tt

pub refused_fits : (s : Known) (n : ℕ) (h k : Room) → Refusing s n h → Fitting s n k
refused_fits Known.Sizes n h k a = absurd a
refused_fits Known.Readings n h k a = absurd a
refused_fits Known.Refusals n h k a = tt

pub refused_reads : (s : Known) (n : ℕ) (h k : Room) → Refusing s n h → Reading s n k
refused_reads Known.Sizes n h k a = absurd a
refused_reads Known.Readings n h k a = absurd a
refused_reads Known.Refusals n h k a = tt

-- phrases and their reader. Trees have these heights, and `up` more than what stands inside; there are some from the height `low`
-- on and none below, and refusals are right from `need` on
pub record Part {K T : Type 0} (s : Known) (n up : ℕ) (D : Room → T → List K → Type 0) (p : Room → Reader K T) (stop : T → Option K → Bool) (tall : T → ℕ) (low need : ℕ) : Type 0 where
  pub above : (k : Room) (t : T) (w : List K) → Fitting s n k → D k t w → up ≤ tall t
  pub least : (k : Room) (t : T) (w : List K) → Fitting s n k → D k t w → tall t ≤ up + k.height
  pub lowest : (k : Room) (t : T) (w : List K) → Fitting s n k → D k t w → low ≤ k.height
  pub fits : (h k : Room) (t : T) (w : List K) → Fitting s n h → (h.clashes ≡ true → k.clashes ≡ true) → tall t ≤ up + k.height → D h t w → D k t w
  pub some : (h : Room) → Fitting s n h → low ≤ h.height → Viable (D h) []
  pub reads : (k : Room) → Reading s n k → Reads (D k) stop (p k)
  pub refuses : (h : Room) → Refusing s n h → need ≤ h.height → (v : List K) (e : Code × List K) → p h v ≡ Err e → Refuses D p h v e

-- how they begin: with a token of the test, and from the height `enough` on each such token begins one
pub record Opening {K T : Type 0} (s : Known) (n : ℕ) (D : Room → T → List K → Type 0) (p : Room → Reader K T) (test : K → Bool) (enough : ℕ) : Type 0 where
  pub begins : (k : Room) (t : T) (w : List K) → Fitting s n k → D k t w → head_is test (first w) ≡ true
  pub starts : (h : Room) (c : K) → Fitting s n h → enough ≤ h.height → test c ≡ true → Viable (D h) (c ∷ [])
  pub bars : (k : Room) (v : List K) → Reading s n k → head_is test (first v) ≡ false → p k v ≡ Err (Grammar, v)

pub record Phrase {K T : Type 0} (s : Known) (n up : ℕ) (D : Room → T → List K → Type 0) (p : Room → Reader K T) (stop : T → Option K → Bool) (tall : T → ℕ) (low need : ℕ) (test : K → Bool) (enough : ℕ) : Type 0 where
  pub part : Part s n up D p stop tall low need
  pub opening : Opening s n D p test enough

-- phrases of a room are phrases where there is more
pub mono : {K T : Type 0} {s : Known} {n up : ℕ} {D : Room → T → List K → Type 0} {p : Room → Reader K T} {stop : T → Option K → Bool} {tall : T → ℕ} {low need : ℕ}
    → Part s n up D p stop tall low need → (h k : Room) (t : T) (w : List K) → Fitting s n h → Under h k → D h t w → D k t w
mono {tall = tall} P h k t w f u d = let a = P.least h t w f d in let b = u.0 in P.fits h k t w f u.1 (omega arith) d
