-- From what holds of one level of trees to what holds of all.
use Rattle.std.proofs.Common.{◌≡◌, ◌⊎◌, ℕ, zero, suc, ◌+◌, ◌≤◌, max, Bool, true, false, List, [], ◌∷◌, ◌++◌, Option, Some, None, Result, Ok, Err, refl, sym, ap, subst, ◌∙◌, arith, inl, inr}
use Rattle.readers.specs.declared.code.Code.{Code}
use Rattle.readers.specs.declared.code.Code.TheVariants.{Grammar}
use Rattle.readers.specs.Reader.{first, head_is, Reader, shut}
use Rattle.readers.specs.Language.{Viable}
use Rattle.readers.specs.Room.{Room, Under, at_height}
use Rattle.readers.specs.Exact.{Found, Reads, Refuses}
use Rattle.readers.proofs.Bundle.{Known, Fitting, Reading, Refusing, read_fits, refused_fits, refused_reads, Part, Opening, Phrase, mono}
use Rattle.readers.proofs.Outcome.{reads_same}
use Rattle.readers.proofs.Mapped.{more, raised_refuses}
use Rattle.readers.proofs.Choice.{shut_sound, shut_refuses}

fits_down : (s : Known) (n h : ℕ) (b : Bool) → Fitting s (suc n) (at_height (suc h) b) → Fitting s n (at_height h b)
fits_down Known.Sizes n h b i = omega (arith, i)
fits_down Known.Readings n h b i = tt
fits_down Known.Refusals n h b i = tt

reads_down : (s : Known) (n h : ℕ) (b : Bool) → Reading s (suc n) (at_height (suc h) b) → Reading s n (at_height h b)
reads_down Known.Sizes n h b i = absurd i
reads_down Known.Readings n h b i = omega (arith, i)
reads_down Known.Refusals n h b i = tt

refused_down : (s : Known) (n h : ℕ) (b : Bool) → Refusing s (suc n) (at_height (suc h) b) → Refusing s n (at_height h b)
refused_down Known.Sizes n h b i = absurd i
refused_down Known.Readings n h b i = absurd i
refused_down Known.Refusals n h b i = omega (arith, i)

-- the trees of D are those of one level more; at height 0 there is none, and the reader tells by the test whether there would be
pub record Knot {K T : Type 0} (D L : Room → T → List K → Type 0) (p l : Room → Reader K T) (test : K → Bool) : Type 0 where
  pub none : (b : Bool) (t : T) (w : List K) → D (at_height 0 b) t w → ⊥
  pub out : (h : ℕ) (b : Bool) (t : T) (w : List K) → D (at_height (suc h) b) t w → L (at_height h b) t w
  pub into : (h : ℕ) (b : Bool) (t : T) (w : List K) → L (at_height h b) t w → D (at_height (suc h) b) t w
  pub empty : (b : Bool) (v : List K) → p (at_height 0 b) v ≡ shut test v
  pub next : (h : ℕ) (b : Bool) (v : List K) → p (at_height (suc h) b) v ≡ l (at_height h b) v

shut_bars : {K T : Type 0} (test : K → Bool) (v : List K) → head_is test (first v) ≡ false → shut {T = T} test v ≡ Err (Grammar, v)
shut_bars test v e = rw e refl

module _ {K T : Type 0} {D L : Room → T → List K → Type 0} {p l : Room → Reader K T} {test : K → Bool} (k : Knot D L p l test) where
  read_none : {stop : T → Option K → Bool} (b : Bool) → Reads (D (at_height 0 b)) stop (p (at_height 0 b))
  read_none {stop = stop} b = reads_same (D (at_height 0 b)) stop (shut test) (p (at_height 0 b)) (λ v. sym (k.empty b v)) (shut_sound (D (at_height 0 b)) stop test (λ t w d. k.none b t w d))

  none_by : {P : Type 0} (h : ℕ) (b : Bool) (t : T) (w : List K) → h ≤ 0 → D (at_height h b) t w → P
  none_by zero b t w i d = absurd (k.none b t w d)
  none_by (suc h) b t w i d = absurd (omega (arith, i))

  read_low : {stop : T → Option K → Bool} (h : ℕ) (b : Bool) → h ≤ 0 → Reads (D (at_height h b)) stop (p (at_height h b))
  read_low zero b i = read_none b
  read_low (suc h) b i = absurd (omega (arith, i))

  bars_low : (h : ℕ) (b : Bool) (v : List K) → h ≤ 0 → head_is test (first v) ≡ false → p (at_height h b) v ≡ Err (Grammar, v)
  bars_low zero b v i e = k.empty b v ∙ shut_bars test v e
  bars_low (suc h) b v i e = absurd (omega (arith, i))

module _ {K T : Type 0} {D L : Room → T → List K → Type 0} {p l : Room → Reader K T} {stop : T → Option K → Bool} {tall : T → ℕ} {low : ℕ} {test : K → Bool} {enough : ℕ} (k : Knot D L p l test) where
  module _ {s : Known} {n : ℕ} (P : Phrase s n 1 L l stop tall low 0 test enough) where
    above_by : (h : ℕ) (b : Bool) (t : T) (w : List K) → Fitting s (suc n) (at_height h b) → D (at_height h b) t w → tall t ≤ 0 + h
    above_by zero b t w i d = absurd (k.none b t w d)
    above_by (suc h) b t w i d = let a = P.part.least (at_height h b) t w (fits_down s n h b i) (k.out h b t w d) in omega (arith, a)

    lowest_by : (h : ℕ) (b : Bool) (t : T) (w : List K) → Fitting s (suc n) (at_height h b) → D (at_height h b) t w → suc low ≤ h
    lowest_by zero b t w i d = absurd (k.none b t w d)
    lowest_by (suc h) b t w i d = let a = P.part.lowest (at_height h b) t w (fits_down s n h b i) (k.out h b t w d) in omega (arith, a)

    fits_by : (h j : ℕ) (b c : Bool) (t : T) (w : List K) → Fitting s (suc n) (at_height h b) → (b ≡ true → c ≡ true) → tall t ≤ 0 + j → D (at_height h b) t w → D (at_height j c) t w
    fits_by zero j b c t w i f le d = absurd (k.none b t w d)
    fits_by (suc h) zero b c t w i f le d = let a = P.part.above (at_height h b) t w (fits_down s n h b i) (k.out h b t w d) in absurd (omega (arith, a, le))
    fits_by (suc h) (suc j) b c t w i f le d = k.into j c t w (P.part.fits (at_height h b) (at_height j c) t w (fits_down s n h b i) f (omega (arith, le)) (k.out h b t w d))

    raised : (h : ℕ) (b : Bool) (u : List K) → Viable (L (at_height h b)) u → Viable (D (at_height (suc h) b)) u
    raised h b u v = record { tree = v.tree; more = v.more; derives = k.into h b v.tree (u ++ v.more) v.derives }

    some_by : (h : ℕ) (b : Bool) → Fitting s (suc n) (at_height h b) → suc low ≤ h → Viable (D (at_height h b)) []
    some_by zero b i le = absurd (omega (arith, le))
    some_by (suc h) b i le = raised h b [] (P.part.some (at_height h b) (fits_down s n h b i) (omega (arith, le)))

    starts_by : (h : ℕ) (b : Bool) (c : K) → Fitting s (suc n) (at_height h b) → suc enough ≤ h → test c ≡ true → Viable (D (at_height h b)) (c ∷ [])
    starts_by zero b c i le e = absurd (omega (arith, le))
    starts_by (suc h) b c i le e = raised h b (c ∷ []) (P.opening.starts (at_height h b) c (fits_down s n h b i) (omega (arith, le)) e)

    begins_by : (h : ℕ) (b : Bool) (t : T) (w : List K) → Fitting s (suc n) (at_height h b) → D (at_height h b) t w → head_is test (first w) ≡ true
    begins_by zero b t w i d = absurd (k.none b t w d)
    begins_by (suc h) b t w i d = P.opening.begins (at_height h b) t w (fits_down s n h b i) (k.out h b t w d)

    reads_by : (h : ℕ) (b : Bool) → Reading s (suc n) (at_height h b) → Reads (D (at_height h b)) stop (p (at_height h b))
    reads_by zero b i = read_none k b
    reads_by (suc h) b i =
        let r = P.part.reads (at_height h b) (reads_down s n h b i) in
        reads_same (D (at_height (suc h) b)) stop (l (at_height h b)) (p (at_height (suc h) b)) (λ v. sym (k.next h b v)) (record {
          complete = λ t w q d st. r.complete t w q (k.out h b t w d) st;
          sound = λ v z e. let f = r.sound v z e in record { read = f.read; derives = k.into h b z.0 f.read f.derives; parts = f.parts; stops = f.stops };
        })

    bars_by : (h : ℕ) (b : Bool) (v : List K) → Reading s (suc n) (at_height h b) → head_is test (first v) ≡ false → p (at_height h b) v ≡ Err (Grammar, v)
    bars_by zero b v i e = k.empty b v ∙ shut_bars test v e
    bars_by (suc h) b v i e = k.next h b v ∙ P.opening.bars (at_height h b) v (reads_down s n h b i) e

    refuses_by : (h : ℕ) (b : Bool) → Refusing s (suc n) (at_height h b) → (v : List K) (e : Code × List K) → p (at_height h b) v ≡ Err e → Refuses D p (at_height h b) v e
    refuses_by zero b i v e j = shut_refuses D p test k.empty
        (λ c t b'. (suc enough, raised enough b' (c ∷ []) (P.opening.starts (at_height enough b') c (fits_down s n enough b' (refused_fits s (suc n) (at_height zero b) (at_height (suc enough) b') i)) (omega arith) t)))
        (λ m v x. bars_by m.height m.clashes v (refused_reads s (suc n) (at_height zero b) m i) x) b v e j
    refuses_by (suc h) b i v e j = raised_refuses L D l p (λ m v. k.next m.height m.clashes v) (λ m t w d. k.into m.height m.clashes t w d) (at_height h b) v e
        (P.part.refuses (at_height h b) (refused_down s n h b i) (omega arith) v e (sym (k.next h b v) ∙ j))

    -- one level more
    pub lifted : Phrase s (suc n) 0 D p stop tall (suc low) 0 test (suc enough)
    lifted = record {
      part = record {
        above = λ m t w i d. omega arith;
        least = λ m t w i d. above_by m.height m.clashes t w i d;
        lowest = λ m t w i d. lowest_by m.height m.clashes t w i d;
        fits = λ h m t w i b le d. fits_by h.height m.height h.clashes m.clashes t w i b le d;
        some = λ h i le. some_by h.height h.clashes i le;
        reads = λ m i. reads_by m.height m.clashes i;
        refuses = λ h i le v e j. refuses_by h.height h.clashes i v e j;
      };
      opening = record {
        begins = λ m t w i d. begins_by m.height m.clashes t w i d;
        starts = λ h c i le e. starts_by h.height h.clashes c i le e;
        bars = λ m v i e. bars_by m.height m.clashes v i e;
      };
    }

  -- trees of height 0
  pub lowest_sizes : Phrase Known.Sizes 0 0 D p stop tall (suc low) 0 test (suc enough)
  lowest_sizes = record {
    part = record {
      above = λ m t w i d. omega arith;
      least = λ m t w i d. none_by k m.height m.clashes t w i d;
      lowest = λ m t w i d. none_by k m.height m.clashes t w i d;
      fits = λ h m t w i b le d. none_by k h.height h.clashes t w i d;
      some = λ h i le. absurd (omega (arith, i, le));
      reads = λ m i. absurd i;
      refuses = λ h i le v e j. absurd i;
    };
    opening = record {
      begins = λ m t w i d. none_by k m.height m.clashes t w i d;
      starts = λ h c i le e. absurd (omega (arith, i, le));
      bars = λ m v i e. absurd i;
    };
  }

  -- from trees of each height to what is read of height 0
  pub lowest_readings : ((m : ℕ) → Phrase Known.Sizes m 0 D p stop tall (suc low) 0 test (suc enough)) → Phrase Known.Readings 0 0 D p stop tall (suc low) 0 test (suc enough)
  lowest_readings f = record {
    part = record {
      above = λ m t w i d. omega arith;
      least = λ m t w i d. let P = f m.height in P.part.least m t w (omega arith) d;
      lowest = λ m t w i d. let P = f m.height in P.part.lowest m t w (omega arith) d;
      fits = λ h m t w i b le d. let P = f h.height in P.part.fits h m t w (omega arith) b le d;
      some = λ h i le. let P = f h.height in P.part.some h (omega arith) le;
      reads = λ m i. read_low k m.height m.clashes i;
      refuses = λ h i le v e j. absurd i;
    };
    opening = record {
      begins = λ m t w i d. let P = f m.height in P.opening.begins m t w (omega arith) d;
      starts = λ h c i le e. let P = f h.height in P.opening.starts h c (omega arith) le e;
      bars = λ m v i e. bars_low k m.height m.clashes v i e;
    };
  }

  -- from what is read of each height to what is refused at height 0
  pub lowest_refusals : ((m : ℕ) → Phrase Known.Readings m 0 D p stop tall (suc low) 0 test (suc enough)) → Phrase Known.Refusals 0 0 D p stop tall (suc low) 0 test (suc enough)
  lowest_refusals f =
      let P = f 0 in
      record {
        part = record {
          above = λ m t w i d. omega arith;
          least = λ m t w i d. P.part.least m t w tt d;
          lowest = λ m t w i d. P.part.lowest m t w tt d;
          fits = λ h m t w i b le d. P.part.fits h m t w tt b le d;
          some = λ h i le. P.part.some h tt le;
          reads = λ m i. let Q = f m.height in Q.part.reads m (omega arith);
          refuses = λ h i le v e j. refused_low h.height h.clashes i v e j;
        };
        opening = record {
          begins = λ m t w i d. P.opening.begins m t w tt d;
          starts = λ h c i le e. P.opening.starts h c tt le e;
          bars = λ m v i e. let Q = f m.height in Q.opening.bars m v (omega arith) e;
        };
      }
    where
      refused_low : (h : ℕ) (b : Bool) → h ≤ 0 → (v : List K) (e : Code × List K) → p (at_height h b) v ≡ Err e → Refuses D p (at_height h b) v e
      refused_low zero b i v e j = shut_refuses D p test k.empty
          (λ c t b'. let P = f 0 in (suc enough, P.opening.starts (at_height (suc enough) b') c tt (omega arith) t))
          (λ m v x. let Q = f m.height in Q.opening.bars m v (omega arith) x) b v e j
      refused_low (suc h) b i v e j = absurd (omega (arith, i))

-- ---- all heights, for phrases that need each other

pub record Tower (F : Known → ℕ → Type 0) : Type 0 where
  pub sizes : F Known.Sizes 0
  pub readings : ((m : ℕ) → F Known.Sizes m) → F Known.Readings 0
  pub refusals : ((m : ℕ) → F Known.Readings m) → F Known.Refusals 0
  pub next : (s : Known) (n : ℕ) → F s n → F s (suc n)

pub all_of : (F : Known → ℕ → Type 0) → Tower F → (s : Known) (n : ℕ) → F s n
all_of F t s n = go s n
  where
    small : (n : ℕ) → F Known.Sizes n
    small zero = t.sizes
    small (suc n) = t.next Known.Sizes n (small n)

    read : (n : ℕ) → F Known.Readings n
    read zero = t.readings small
    read (suc n) = t.next Known.Readings n (read n)

    refused : (n : ℕ) → F Known.Refusals n
    refused zero = t.refusals read
    refused (suc n) = t.next Known.Refusals n (refused n)

    go : (s : Known) (n : ℕ) → F s n
    go Known.Sizes n = small n
    go Known.Readings n = read n
    go Known.Refusals n = refused n
