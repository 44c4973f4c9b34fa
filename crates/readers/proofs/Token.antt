-- One token, alone, before and behind a phrase.
use Rattle.std.proofs.Common.{◌≡◌, Bool, true, false, List, [], ◌∷◌, ◌++◌, Option, Some, None, Ok, Err, refl, sym, ap, subst, ◌∙◌, inl}
use Rattle.readers.specs.declared.code.Code.{Code}
use Rattle.readers.specs.declared.code.Code.TheVariants.{Grammar}
use Rattle.readers.specs.Reader.{first, Answer, Reader, ◌>>=◌, both, mapped, seen, token_by, passed, one, skip, close}
use Rattle.readers.specs.Language.{Both, Viable, That, Shows, Skip, Close}
use Rattle.readers.specs.Room.{Room, Under}
use Rattle.readers.specs.Exact.{Found, Reads, Refuses, always}
use Rattle.readers.proofs.Outcome.{ok_is, reads_same, refuses_same}
use Rattle.readers.proofs.Mapped.{Made, mapped_reads, mapped_refuses}
use Rattle.readers.proofs.Pair.{both_reads, both_refuses}

module _ {K A : Type 0} (view : K → Option A) where
  seen_sound : (c : K) (s : List K) (o : Option A) (z : A × List K) → view c ≡ o → seen o c s ≡ Ok z → Found (Shows view) always (c ∷ s) z
  seen_sound c s (Some a) z v e = subst (λ (z : A × List K). Found (Shows view) always (c ∷ s) z) (ok_is (a, s) z e) (record { read = c ∷ []; derives = record { token = c; shows = v; whole = refl }; parts = refl; stops = refl })
  seen_sound c s None z v e = absurd cc

  token_sound : (s : List K) (z : A × List K) → token_by view s ≡ Ok z → Found (Shows view) always s z
  token_sound [] z e = absurd cc
  token_sound (c ∷ s) z e = seen_sound c s (view c) z refl e

  pub token_reads : Reads (Shows view) always (token_by view)
  token_reads = record {
    complete = λ t w r d st. subst (λ (w : List K). token_by view (w ++ r) ≡ Ok (t, r)) (sym d.whole) (rw d.shows refl);
    sound = token_sound;
  }

  seen_err : (c : K) (s : List K) (o : Option A) (e : Code × List K) → view c ≡ o → seen o c s ≡ Err e → (e ≡ (Grammar, c ∷ s)) × (view c ≡ None)
  seen_err c s (Some a) e v i = absurd cc
  seen_err c s None e v i = (cc, v)

  token_local : (c : K) (s q : List K) → view c ≡ None → first q ≡ Some c → token_by view q ≡ Err (Grammar, q)
  token_local c s [] v b = absurd cc
  token_local c s (d ∷ q) v b = let same : d ≡ c = cc in rw (ap view same ∙ v) refl

  token_empty : (q : List K) → first q ≡ None → token_by view q ≡ Err (Grammar, q)
  token_empty [] b = refl
  token_empty (d ∷ q) b = absurd cc

  pub token_refuses : (h : Room) (s : List K) (e : Code × List K) → token_by view s ≡ Err e → Refuses (λ k. Shows view) (λ k. token_by view) h s e
  token_refuses h [] e i =
      let same : (Grammar, []) ≡ e = cc in
      subst (λ (e : Code × List K). Refuses (λ k. Shows view) (λ k. token_by view) h [] e) same
      (record { read = []; parts = refl; viable = inl refl; local = λ k q al b. token_empty q b; deep = λ dp. absurd (dp refl) })
  token_refuses h (c ∷ s) e i =
      let r = seen_err c s (view c) e refl i in
      subst (λ (e : Code × List K). Refuses (λ k. Shows view) (λ k. token_by view) h (c ∷ s) e) (sym r.0)
      (record { read = []; parts = refl; viable = inl refl; local = λ k q al b. token_local c s q r.1 b; deep = λ dp. absurd (dp refl) })

-- ---- one token that a test lets through

module _ {K : Type 0} (test : K → Bool) where
  abbrev That' : Unit {0} → List K → Type 0
  That' u = That test

  passed_sound : (c : K) (s : List K) (o : Bool) (z : Unit {0} × List K) → test c ≡ o → passed o c s ≡ Ok z → Found That' always (c ∷ s) z
  passed_sound c s true z v e = subst (λ (z : Unit {0} × List K). Found That' always (c ∷ s) z) (ok_is (tt, s) z e) (record { read = c ∷ []; derives = record { token = c; fits = v; whole = refl }; parts = refl; stops = refl })
  passed_sound c s false z v e = absurd cc

  one_sound : (s : List K) (z : Unit {0} × List K) → one test s ≡ Ok z → Found That' always s z
  one_sound [] z e = absurd cc
  one_sound (c ∷ s) z e = passed_sound c s (test c) z refl e

  pub one_reads : Reads (λ (u : Unit {0}). That test) always (one test)
  one_reads = record {
    complete = λ t w r d st. subst (λ (w : List K). one test (w ++ r) ≡ Ok (t, r)) (sym d.whole) (rw d.fits refl);
    sound = one_sound;
  }

  passed_err : (c : K) (s : List K) (o : Bool) (e : Code × List K) → test c ≡ o → passed o c s ≡ Err e → (e ≡ (Grammar, c ∷ s)) × (test c ≡ false)
  passed_err c s true e v i = absurd cc
  passed_err c s false e v i = (cc, v)

  one_local : (c : K) (q : List K) → test c ≡ false → first q ≡ Some c → one test q ≡ Err (Grammar, q)
  one_local c [] v b = absurd cc
  one_local c (d ∷ q) v b = let same : d ≡ c = cc in rw (ap test same ∙ v) refl

  one_empty : (q : List K) → first q ≡ None → one test q ≡ Err (Grammar, q)
  one_empty [] b = refl
  one_empty (d ∷ q) b = absurd cc

  pub one_refuses : (h : Room) (s : List K) (e : Code × List K) → one test s ≡ Err e → Refuses (λ k (u : Unit {0}). That test) (λ k. one test) h s e
  one_refuses h [] e i =
      let same : (Grammar, []) ≡ e = cc in
      subst (λ (e : Code × List K). Refuses (λ k (u : Unit {0}). That test) (λ k. one test) h [] e) same
      (record { read = []; parts = refl; viable = inl refl; local = λ k q al b. one_empty q b; deep = λ dp. absurd (dp refl) })
  one_refuses h (c ∷ s) e i =
      let r = passed_err c s (test c) e refl i in
      subst (λ (e : Code × List K). Refuses (λ k (u : Unit {0}). That test) (λ k. one test) h (c ∷ s) e) (sym r.0)
      (record { read = []; parts = refl; viable = inl refl; local = λ k q al b. one_local c q r.1 b; deep = λ dp. absurd (dp refl) })

-- ---- a token before a phrase, and one behind it

abbrev done : {K T : Type 0} → T × List K → Answer K T
done x = Ok x

skip_second : {K T : Type 0} (r : Answer K T) → ((r >>= λ y. done {T = Unit {0} × T} ((tt, y.0), y.1)) >>= λ z. Ok (z.0.1, z.1)) ≡ r
skip_second (Ok y) = refl
skip_second (Err e) = refl

skip_first : {K T : Type 0} (p : Reader K T) (r : Answer K (Unit {0})) → ((r >>= λ x. p x.1 >>= λ y. done {T = Unit {0} × T} ((x.0, y.0), y.1)) >>= λ z. Ok (z.0.1, z.1)) ≡ (r >>= λ x. p x.1)
skip_first p (Ok x) = skip_second (p x.1)
skip_first p (Err e) = refl

pub skip_is : {K T : Type 0} (test : K → Bool) (p : Reader K T) (s : List K) → mapped (λ (x : Unit {0} × T). x.1) (both (one test) p) s ≡ skip test p s
skip_is test p s = skip_first p (one test s)

close_second : {K T : Type 0} (t : T) (r : Answer K (Unit {0})) → ((r >>= λ y. done {T = T × Unit {0}} ((t, y.0), y.1)) >>= λ z. done {T = T} (z.0.0, z.1)) ≡ (r >>= λ y. done {T = T} (t, y.1))
close_second t (Ok y) = refl
close_second t (Err e) = refl

close_first : {K T : Type 0} (test : K → Bool) (r : Answer K T) → ((r >>= λ x. one test x.1 >>= λ y. done {T = T × Unit {0}} ((x.0, y.0), y.1)) >>= λ z. done {T = T} (z.0.0, z.1)) ≡ (r >>= λ x. one test x.1 >>= λ y. done {T = T} (x.0, y.1))
close_first test (Ok x) = close_second x.0 (one test x.1)
close_first test (Err e) = refl

pub close_is : {K T : Type 0} (p : Reader K T) (test : K → Bool) (s : List K) → mapped (λ (x : T × Unit {0}). x.0) (both p (one test)) s ≡ close p test s
close_is p test s = close_first test (p s)

module _ {K T : Type 0} (test : K → Bool) (D : T → List K → Type 0) (sd : T → Option K → Bool) (p : Reader K T) where
  skip_made : Made (λ (x : Unit {0} × T). x.1) (Both (λ u. That test) D) (Skip test D)
  skip_made = record { to = λ x w d. d; from = λ t w d. ((tt, t), refl, d) }

  pub skip_reads : Reads D sd p → Reads (Skip test D) sd (skip test p)
  skip_reads P = reads_same (Skip test D) sd _ _ (skip_is test p)
      (mapped_reads (λ (x : Unit {0} × T). x.1) (Both (λ u. That test) D) (Skip test D) skip_made (λ x. sd x.1) sd (both (one test) p) (λ x o. refl)
      (both_reads (λ u. That test) D always sd (one test) p (one_reads test) P (λ x y v r d e. refl)))

  close_made : Made (λ (x : T × Unit {0}). x.0) (Both D (λ u. That test)) (Close D test)
  close_made = record { to = λ x w d. d; from = λ t w d. ((t, tt), refl, d) }

  -- the token that closes a phrase must be one that stops it
  pub close_reads : Reads D sd p → ((t : T) (c : K) → test c ≡ true → sd t (Some c) ≡ true) → Reads (Close D test) always (close p test)
  close_reads P stops = reads_same (Close D test) always _ _ (close_is p test)
      (mapped_reads (λ (x : T × Unit {0}). x.0) (Both D (λ u. That test)) (Close D test) close_made (λ x. always x.1) always (both p (one test)) (λ x o. refl)
      (both_reads D (λ u. That test) sd always p (one test) P (one_reads test)
      (λ x y v r d e. rw d.whole (stops x d.token d.fits))))

module _ {K T : Type 0} (test : K → Bool) (D : Room → T → List K → Type 0) (p : Room → Reader K T) where
  pub skip_refuses : (mono : (h k : Room) (x : T) (w : List K) → Under h k → D h x w → D k x w) → (h : Room) → Viable (D h) []
      → ((s : List K) (e : Code × List K) → p h s ≡ Err e → Refuses D p h s e)
      → (s : List K) (e : Code × List K) → skip test (p h) s ≡ Err e → Refuses (λ k. Skip test (D k)) (λ k. skip test (p k)) h s e
  skip_refuses mono h some fp s e i =
      refuses_same (λ k. Skip test (D k)) (λ k. mapped (λ (x : Unit {0} × T). x.1) (both (one test) (p k))) (λ k. skip test (p k)) (λ k s. skip_is test (p k) s) h s e
      (mapped_refuses (λ (x : Unit {0} × T). x.1) (λ k. Both (λ (u : Unit {0}). That test) (D k)) (λ k. Skip test (D k)) (λ k. both (one test) (p k))
      (λ k. record { to = λ x w d. d; from = λ t w d. ((tt, t), refl, d) }) h s e
      (both_refuses (λ k (u : Unit {0}). That test) D always (λ k. one test) p (λ k. one_reads test) (λ h k x w le d. d) mono h some (one_refuses test h) fp s e)
      (skip_is test (p h) s ∙ i))

  pub close_refuses : (sd : T → Option K → Bool) → ((k : Room) → Reads (D k) sd (p k)) → (mono : (h k : Room) (x : T) (w : List K) → Under h k → D h x w → D k x w) → (c : K) → test c ≡ true → (h : Room)
      → ((s : List K) (e : Code × List K) → p h s ≡ Err e → Refuses D p h s e)
      → (s : List K) (e : Code × List K) → close (p h) test s ≡ Err e → Refuses (λ k. Close (D k) test) (λ k. close (p k) test) h s e
  close_refuses sd P mono c ct h fp s e i =
      refuses_same (λ k. Close (D k) test) (λ k. mapped (λ (x : T × Unit {0}). x.0) (both (p k) (one test))) (λ k. close (p k) test) (λ k s. close_is (p k) test s) h s e
      (mapped_refuses (λ (x : T × Unit {0}). x.0) (λ k. Both (D k) (λ (u : Unit {0}). That test)) (λ k. Close (D k) test) (λ k. both (p k) (one test))
      (λ k. record { to = λ x w d. d; from = λ t w d. ((t, tt), refl, d) }) h s e
      (both_refuses D (λ k (u : Unit {0}). That test) sd p (λ k. one test) P mono (λ h k x w le d. d) h
      (record { tree = tt; more = c ∷ []; derives = record { token = c; fits = ct; whole = refl } }) fp (one_refuses test h) s e)
      (close_is (p h) test s ∙ i))
