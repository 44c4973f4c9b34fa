-- Rows of bindings as a loop reads them: what is done, and the last binding, which may still grow.
use Rattle.std.proofs.Common.{◌≡◌, ℕ, ◌<◌, Bool, true, false, max, map, List, [], ◌∷◌, ◌++◌, length, Option, Some, None, Ok, Err, refl, sym, ap, ◌∙◌, append_assoc, arith}
use Rattle.readers.specs.declared.fault.ReadError.{ReadError}
use Rattle.readers.specs.declared.fault.ReadError.TheVariants as errors
use Rattle.readers.specs.Given.{Fails}
use Rattle.readers.specs.Infix.{ups}
use Rattle.readers.specs.Reader.{first, Answer, Reader, ◌>>=◌, bound, head_is, mapped, one, skip, steps}
use Rattle.readers.specs.Forms.{else_if, highest, height_of, nothing}
use Rattle.readers.proofs.Choice.{remade}
use Rattle.readers.proofs.RowLoop.{Shortens}
use Rattle.readers.proofs.StepLoop.{ended}
use Rattle.sml_lex.specs.declared.token.Token.{Token}
use Rattle.sml_scan.specs.Rows.{summed}
use Rattle.sml_grammar.specs.Words.{AND}
use Rattle.sml_grammar.specs.Tokens.{is, tokens_of, alphas}
use Rattle.sml_grammar_exp.specs.Decs.{Changes}
use Rattle.sml_grammar_sig.specs.Sigs.{Sx, is_real}
use Rattle.sml_grammar_sig.specs.ReadSigs.{Suffix}
use Rattle.sml_grammar_mod.specs.Strs.{St}
use Rattle.sml_grammar_mod.specs.ReadStrs.{Bind, Grow, Growing, Seal, Turn, begins_ascribe, begins_grow, behind_read, gathered, grown_by, grown_str, more_read, next_read, row_level, seals_read, there_read, turn_by, turn_read, turned, type_turn}
use Rattle.sml_parse_sig.proofs.Tracked.{tracked, run_turn, run_end, run_fails}
use Rattle.sml_parse_mod.specs.Levels as levels
use Rattle.sml_parse_mod.specs.Trees.{Turned, added, goes_on, step, with_done}
use Rattle.sml_parse_mod.proofs.Going.{going, going_if, going_skip, going_mapped}
use Rattle.sml_parse_mod.proofs.Scopes.{mapped_fails, other_gives}
use Rattle.sml_parse_mod.proofs.Steps.{turn_less}

abbrev first_of : {S : Type 0} → S × ℕ → S
first_of x = x.0

never : {A : Type 0} → false ≡ true → A
never k = absurd cc

-- what is told of a turn: whether something is answered, whether the binding goes on, and what stands then
abbrev answered : {F : Type 0} → Answer Token (Bool × Bind F) → Bool
answered (Ok x) = true
answered (Err e) = false

abbrev flag : {F : Type 0} → Answer Token (Bool × Bind F) → Bool
flag (Ok x) = x.0.0
flag (Err e) = false

abbrev found : {F : Type 0} → Bind F × List Token → Answer Token (Bool × Bind F) → Bind F × List Token
found z (Ok x) = (x.0.1, x.1)
found z (Err e) = z

module _ {F : Type 0} (bind : Reader Token (Bind F)) (h : ℕ) where
  -- ---- a turn in two parts: what comes, and the next binding

  abbrev pub then_bind : Turned → Reader Token (Turn F)
  then_bind (Turned.More u) s = Ok (Turn.More u, s)
  then_bind Turned.Next s = next_read bind s

  typed : (p : Reader Token Suffix) (s : List Token) → mapped type_turn p s ≡ going then_bind (mapped (λ u. Turned.More (Grow.Types u)) p s)
  typed p s = going_mapped then_bind (λ u. Turned.More (Grow.Types u)) type_turn p s (λ u r. refl)

  signed : (q : Bool) (x : Sx) (s : List Token) → turn_by q bind h x s ≡ going then_bind (else_if (is AND) (skip (is AND) (levels.after_and q h x)) (levels.there h x) s)
  signed true x s =
      let p : Reader Token (Turn F) = else_if (tokens_of alphas) (next_read bind) (mapped type_turn (more_read h x)) in
      going_if then_bind (is AND) (skip (is AND) (levels.after_and true h x)) (levels.there h x) (skip (is AND) p) (mapped type_turn (there_read h x)) s
      (going_skip then_bind (is AND) (levels.after_and true h x) p s
      (λ r. going_if then_bind (tokens_of alphas) (nothing Turned.Next) (levels.more h x) (next_read bind) (mapped type_turn (more_read h x)) r refl (typed (more_read h x) r)))
      (typed (there_read h x) s)
  signed false x s =
      going_if then_bind (is AND) (skip (is AND) (levels.after_and false h x)) (levels.there h x) (skip (is AND) (next_read bind)) (mapped type_turn (there_read h x)) s
      (going_skip then_bind (is AND) (levels.after_and false h x) (next_read bind) s (λ r. refl))
      (typed (there_read h x) s)

  behind : (g : Growing) (s : List Token) → behind_read bind h g s ≡ going then_bind (levels.behind h g s)
  behind (Growing.Whole x) s = go (one (is AND) s)
    where
      go : (r : Answer Token (Unit {0})) → (r >>= λ x. next_read bind x.1) ≡ going then_bind (r >>= λ x. Ok (Turned.Next, x.1))
      go (Ok x) = refl
      go (Err e) = refl
  behind (Growing.Sealed x) s = signed (is_real x.1.1) x.1.1 s

  sealed : (g : Growing) (s : List Token) → mapped Turn.More (seals_read h g) s ≡ going then_bind (mapped (λ a. Turned.More (Grow.Seals a)) (levels.seals h g) s)
  sealed g s = go (levels.seals h g s)
    where
      go : (r : Answer Token Seal) → remade Turn.More (remade Grow.Seals r) ≡ going then_bind (remade (λ a. Turned.More (Grow.Seals a)) r)
      go (Ok x) = refl
      go (Err e) = refl

  pub turn_parts : (x : Bind F) (s : List Token) → turn_read bind h x s ≡ going then_bind (levels.turn h x.1 s)
  turn_parts x s = going_if then_bind begins_ascribe (mapped (λ a. Turned.More (Grow.Seals a)) (levels.seals h x.1)) (levels.behind h x.1) (mapped Turn.More (seals_read h x.1)) (behind_read bind h x.1) s (sealed x.1 s) (behind x.1 s)

  -- ---- one turn, from its parts

  module _ {B : Type 0} (make : F × St → B) (x : Bind F) (s : List Token) where
    abbrev all : Answer Token (Option B × Bind F)
    all = mapped (step make x) (turn_read bind h x) s

    abbrev next_all : Bind F → Reader Token (Option B × Bind F)
    next_all y = mapped (λ z. (Some (make (y.0, grown_str y.1)), z)) bind

    module _ (q : Bool) (y : Bind F) (r : List Token) where
      pub step_more : mapped (goes_on x) (levels.turn h x.1) s ≡ Ok ((q, y), r) → q ≡ true → all ≡ Ok ((None, y), r)
      step_more e i = ap (remade (step make x)) (turn_parts x s) ∙ go (levels.turn h x.1 s) e
        where
          go : (a : Answer Token Turned) → remade (goes_on x) a ≡ Ok ((q, y), r) → remade (step make x) (going then_bind a) ≡ Ok ((None, y), r)
          go (Ok (Turned.More u, t)) j = ap (λ (z : Bind F × List Token). Ok ((None, z.0), z.1)) (ap (found (y, r)) j)
          go (Ok (Turned.Next, t)) j = never (ap flag j ∙ i)
          go (Err d) j = never (ap answered j)

      pub step_next : mapped (goes_on x) (levels.turn h x.1) s ≡ Ok ((q, y), r) → q ≡ false → all ≡ next_all y r
      step_next e i = ap (remade (step make x)) (turn_parts x s) ∙ go (levels.turn h x.1 s) e
        where
          next : (a : Answer Token (Bind F)) → remade (step make x) (remade Turn.Next a) ≡ remade (λ z. (Some (make (x.0, grown_str x.1)), z)) a
          next (Ok z) = refl
          next (Err d) = refl

          go : (a : Answer Token Turned) → remade (goes_on x) a ≡ Ok ((q, y), r) → remade (step make x) (going then_bind a) ≡ next_all y r
          go (Ok (Turned.More u, t)) j = never (sym (ap flag j ∙ i))
          go (Ok (Turned.Next, t)) j = next (bind t) ∙ ap (λ (z : Bind F × List Token). next_all z.0 z.1) (ap (found (y, r)) j)
          go (Err d) j = never (ap answered j)

    pub step_fails : (f : ReadError Token) → Fails f (mapped (goes_on x) (levels.turn h x.1) s) → Fails f all
    step_fails f e =
        let t : Fails f (levels.turn h x.1 s) = mapped_fails (goes_on x) (levels.turn h x.1) s f e in
        onward f t
      where
        onward : (f : ReadError Token) → Fails f (levels.turn h x.1 s) → Fails f all
        onward errors.NoMemory t = tt
        onward (errors.Refused c rest) t = ap (remade (step make x)) (turn_parts x s ∙ ap (going then_bind) t)

  -- ---- the loop

  module _ {S : Type 0} (make : F × St → S × ℕ) (less : Shortens bind) where
    abbrev pub Kept : Type 0
    Kept = (List S × ℕ) × Bind F

    abbrev pub made : Bind F → S × ℕ
    made x = make (x.0, grown_str x.1)

    abbrev pub keeping : Kept → Turn F → Kept
    keeping y u = (with_done y.0 (step make y.1 u).0, (step make y.1 u).1)

    abbrev latest : Kept → Bind F
    latest y = y.1

    same : (y : Kept) (u : Turn F) → latest (keeping y u) ≡ turned (latest y) u
    same y (Turn.More u) = refl
    same y (Turn.Next x) = refl

    abbrev pub done : Kept → List S × ℕ
    done y = added y.0 (made y.1)

    abbrev all_made : Bind F → List (Turn F) → List (S × ℕ)
    all_made x us = map make (gathered (x, us))

    abbrev joined : List S × ℕ → List (S × ℕ) → List S × ℕ
    joined x ys = (x.0 ++ map first_of ys, max x.1 (highest height_of ys))

    all_kept : (y : Kept) (us : List (Turn F)) → done (ups keeping y us) ≡ joined y.0 (all_made y.1 us)
    all_kept y [] =
        let m : S × ℕ = made y.1 in
        let n : max y.0.1 m.1 ≡ max y.0.1 (max m.1 0) = omega arith in
        ap (λ (k : ℕ). (y.0.0 ++ m.0 ∷ [], k)) n
    all_kept y (Turn.More u ∷ us) = all_kept (keeping y (Turn.More u)) us
    all_kept y (Turn.Next x ∷ us) =
        let m : S × ℕ = made y.1 in
        let ms : List (S × ℕ) = all_made x us in
        let n : max (max y.0.1 m.1) (highest height_of ms) ≡ max y.0.1 (max m.1 (highest height_of ms)) = omega arith in
        all_kept (keeping y (Turn.Next x)) us
        ∙ (ap (λ (l : List S). (l, max (max y.0.1 m.1) (highest height_of ms))) (append_assoc y.0.0 (m.0 ∷ []) (map first_of ms))
        ∙ ap (λ (k : ℕ). (y.0.0 ++ m.0 ∷ map first_of ms, k)) n)

    abbrev pub finished : Answer Token Kept → Answer Token (List S × ℕ)
    finished r = r >>= λ x. Ok (done x.0, x.1)

    abbrev pub turns : Kept → Reader Token (Turn F)
    turns y = turn_read bind h (latest y)

    abbrev pub row : Kept → List Token → Answer Token (List S × ℕ)
    row y s = finished (ended keeping y (steps begins_grow keeping turns y s))

    abbrev paired : Bind F → List (Turn F) → List Token → Answer Token (Bind F × List (Turn F))
    paired x us s = Ok ((x, us), s)

    pub row_begins : (x : Bind F) (s : List Token) → mapped (summed first_of height_of) (mapped (map make) (mapped gathered (bound (nothing x) (steps begins_grow turned (turn_read bind h))))) s ≡ row (([], 0), x) s
    row_begins x s =
        go (steps begins_grow turned (turn_read bind h) x s)
        ∙ ap (λ (r : Answer Token (List (Turn F))). finished (ended keeping (([], 0), x) r)) (sym (tracked latest begins_grow turned keeping (turn_read bind h) same (([], 0), x) s))
      where
        go : (r : Answer Token (List (Turn F))) → remade (summed first_of height_of) (remade (map make) (remade gathered (r >>= λ y. paired x y.0 y.1))) ≡ finished (ended keeping (([], 0), x) r)
        go (Ok y) =
            let ms : List (S × ℕ) = all_made x y.0 in
            let n : highest height_of ms ≡ max 0 (highest height_of ms) = omega arith in
            ap (λ (k : ℕ). Ok ((map first_of ms, k), y.1)) n ∙ ap (λ (k : List S × ℕ). Ok (k, y.1)) (sym (all_kept (([], 0), x) y.0))
        go (Err d) = refl

    pub row_start : (s : List Token) (z : Bind F × List Token) → bind s ≡ Ok z → mapped (summed first_of height_of) (mapped (map make) (row_level bind h)) s ≡ row (([], 0), z.0) z.1
    row_start s z e = rw e (row_begins z.0 z.1)

    pub row_first : (s : List Token) (z : Bind F × List Token) → bind s ≡ Ok z → mapped (summed first_of height_of) (mapped (map make) (row_level bind h)) s ≡ mapped (summed first_of height_of) (mapped (map make) (mapped gathered (bound (nothing z.0) (steps begins_grow turned (turn_read bind h))))) z.1
    row_first s z e = row_start s z e ∙ sym (row_begins z.0 z.1)

    pub row_first_fails : (f : ReadError Token) (s : List Token) → Fails f (bind s) → Fails f (mapped (summed first_of height_of) (mapped (map make) (row_level bind h)) s)
    row_first_fails errors.NoMemory s e = tt
    row_first_fails (errors.Refused c rest) s e = rw e refl

    abbrev taken : (y : Kept) → Shortens (turns y)
    taken y = turn_less bind h less (latest y)

    module _ (y : Kept) (s : List Token) where
      abbrev now : Answer Token (Option (S × ℕ) × Bind F)
      now = mapped (step make y.1) (turn_read bind h y.1) s

      pub row_smaller : (z : Option (S × ℕ) × Bind F) (r : List Token) → now ≡ Ok (z, r) → length r < length s
      row_smaller z r e = let a = other_gives (step make y.1) (turn_read bind h y.1) s z r e in taken y s (a.0, r) a.1

      module _ (all : Answer Token (List S × ℕ)) (inv : all ≡ row y s) where
        pub row_end : head_is begins_grow (first s) ≡ false → (d : S × ℕ) → d ≡ made y.1 → all ≡ Ok (added y.0 d, s)
        row_end i d e = run_end begins_grow keeping turns taken finished (λ e. refl) y s all inv i ∙ ap (λ (k : S × ℕ). Ok (added y.0 k, s)) (sym e)

        pub row_turn : head_is begins_grow (first s) ≡ true → (o : Option (S × ℕ)) (b : Bind F) (r : List Token) → now ≡ Ok ((o, b), r) → all ≡ row (with_done y.0 o, b) r
        row_turn i o b r e =
            let a = other_gives (step make y.1) (turn_read bind h y.1) s (o, b) r e in
            run_turn begins_grow keeping turns taken finished (λ e. refl) y s (a.0, r) all inv i a.1
            ∙ ap (λ (z : Option (S × ℕ) × Bind F). row (with_done y.0 z.0, z.1) r) a.2

        pub row_fails : head_is begins_grow (first s) ≡ true → (f : ReadError Token) → Fails f now → Fails f all
        row_fails i f e = run_fails begins_grow keeping turns taken finished (λ e. refl) f y s all inv i (mapped_fails (step make y.1) (turn_read bind h y.1) s f e)

-- ---- the directives in force stay

module _ {F B : Type 0} (bind : Changes → Reader Token (Bind F)) (h : ℕ) (make : F × St → B) (x : Bind F) (s : List Token) (now cs : Changes) (same : now ≡ cs) where
  abbrev under : Changes → Answer Token (Option B × Bind F)
  under k = mapped (step make x) (turn_read (bind k) h x) s

  pub still_gives : (a : Answer Token (Option B × Bind F)) → under now ≡ a → under cs ≡ a
  still_gives a i = ap under (sym same) ∙ i

  pub still_fails : (f : ReadError Token) → Fails f (under now) → Fails f (under cs)
  still_fails errors.NoMemory i = tt
  still_fails (errors.Refused c rest) i = ap under (sym same) ∙ i
