-- Top-level declarations as a loop reads them, and a whole program.
use Rattle.std.proofs.Common.{◌≡◌, ℕ, zero, suc, ◌<◌, Bool, true, false, max, map, List, [], ◌∷◌, ◌++◌, length, Option, Some, None, Ok, Err, refl, sym, ap, ◌∙◌, arith}
use Rattle.tl_text.specs.declared.place.Place.{Place}
use Rattle.readers.specs.declared.code.Code.{Code}
use Rattle.readers.specs.declared.fault.ReadError.{ReadError}
use Rattle.readers.specs.declared.fault.ReadError.TheVariants as errors
use Rattle.readers.specs.Given.{Fails}
use Rattle.readers.specs.Reader.{first, head_is, Answer, Reader, ◌>>=◌, both, mapped, one, row, row_by, steps, token_by, with_front}
use Rattle.readers.specs.Forms.{highest}
use Rattle.readers.proofs.Choice.{remade}
use Rattle.readers.proofs.Outcome.{ok_is}
use Rattle.readers.proofs.RowLoop.{row_more, row_done}
use Rattle.sml_lex.specs.declared.token.Token.{Token}
use Rattle.sml_ast.specs.declared.program.Top.{Top}
use Rattle.sml_ast.specs.declared.program.Program.TheVariants as made
use Rattle.sml_scan.specs.Rows.{summed}
use Rattle.sml_scan.proofs.Rows.{gathered}
use Rattle.sml_scan.proofs.Shorter.{token_shorter}
use Rattle.sml_grammar.specs.Words.{SEMICOLON}
use Rattle.sml_grammar.specs.Tokens.{is, the}
use Rattle.sml_grammar_exp.specs.Decs.{Changes}
use Rattle.sml_grammar_exp.specs.ReadDecs.{semis_read}
use Rattle.sml_grammar_mod.specs.Programs as programs
use Rattle.sml_grammar_mod.specs.Programs.{Before, Item, Site, Tp, Pr, after_item, item_height, item_trees, left_by_tops, program_of, the_end, top_changes}
use Rattle.sml_grammar_mod.specs.ReadPrograms.{going_on, item_read, run_read, top_read}
use Rattle.sml_parse_bind.proofs.Steps.{behind_first}
use Rattle.sml_parse_exp.proofs.StepRows.{steps_turn, steps_end, steps_item_fails}
use Rattle.sml_parse_mod.specs.Levels as levels
use Rattle.sml_parse_mod.specs.Trees as trees
use Rattle.sml_parse_mod.proofs.Scopes.{fails_mapped, mapped_fails, other_gives}
use Rattle.sml_parse_mod.proofs.Steps.{item_less}

-- one more top-level declaration
pub tops_more : (cs : Changes) (ts : List Top) (t : Top) → left_by_tops cs (ts ++ t ∷ []) ≡ left_by_tops cs ts ++ top_changes t
tops_more cs [] t = refl
tops_more cs (u ∷ ts) t = tops_more (cs ++ top_changes u) ts t

-- ---- the loop

abbrev gave : {S : Type 0} → List S → ℕ → List Token → Answer Token (List S × ℕ)
gave xs n s = Ok ((xs, n), s)

-- before the first item
pub gathered_start : {T S : Type 0} (tree : T → S) (tall : T → ℕ) (r : Answer Token (List T)) → remade (summed tree tall) r ≡ gathered tree tall [] 0 r
gathered_start tree tall (Ok y) = let n : highest tall y.0 ≡ max 0 (highest tall y.0) = omega arith in ap (λ (k : ℕ). gave (map tree y.0) k y.1) n
gathered_start tree tall (Err e) = refl

abbrev top_of : Item → Top
top_of u = u.0.0

module _ (h : ℕ) where
  abbrev next : Site → Reader Token Item
  next = item_read (top_read h false) (run_read h false)

  abbrev pub to_come : List Top → ℕ → Site → List Token → Answer Token (List Top × ℕ)
  to_come found n x s = gathered top_of item_height found n (steps going_on after_item next x s)

  pub items_start : (cs : Changes) (s : List Token) → mapped trees.tops (levels.items cs h) s ≡ to_come [] 0 (cs, Before.Fresh) s
  items_start cs s = gathered_start top_of item_height (levels.items cs h s)

  module _ (found : List Top) (n : ℕ) (x : Site) (s : List Token) (all : Answer Token (List Top × ℕ)) (inv : all ≡ to_come found n x s) where
    pub items_end : head_is going_on (first s) ≡ false → all ≡ Ok ((found, n), s)
    items_end i = steps_end going_on after_item next (item_less h) top_of item_height found n x s all inv i

    pub items_fail : (f : ReadError Token) → head_is going_on (first s) ≡ true → Fails f (mapped trees.item_seen (levels.item x.0 h x.1) s) → Fails f all
    items_fail f i e = steps_item_fails going_on after_item next (item_less h) top_of item_height found n x s all inv f i (mapped_fails trees.item_seen (levels.item x.0 h x.1) s f e)

    pub items_turn : head_is going_on (first s) ≡ true → (t : Tp) (b : Before) (r : List Token) (cs : Changes) → mapped trees.item_seen (levels.item x.0 h x.1) s ≡ Ok ((t, b), r) → cs ≡ x.0 ++ top_changes t.0
        → all ≡ to_come (found ++ t.0 ∷ []) (max n t.1) (cs, b) r
    items_turn i t b r cs e m =
        let a = other_gives trees.item_seen (levels.item x.0 h x.1) s (t, b) r e in
        steps_turn going_on after_item next (item_less h) top_of item_height found n x s all inv (a.0, r) i a.1
        ∙ (ap (λ (y : Tp × Before). to_come (found ++ y.0.0 ∷ []) (max n y.0.1) (x.0 ++ top_changes y.0.0, y.1) r) a.2
        ∙ ap (λ (c : Changes). to_come (found ++ t.0 ∷ []) (max n t.1) (c, b) r) (sym m))

  pub items_smaller : (x : Site) (s : List Token) (y : Tp × Before) (r : List Token) → mapped trees.item_seen (levels.item x.0 h x.1) s ≡ Ok (y, r) → length r < length s
  items_smaller x s y r e =
      let a = other_gives trees.item_seen (levels.item x.0 h x.1) s y r e in
      item_less h x s (a.0, r) a.1

-- ---- semicolons at the start

abbrev semi : Token → Bool
semi = is SEMICOLON

abbrev tails : {T : Type 0} → Answer Token T → Answer Token (Unit {0})
tails r = r >>= λ x. Ok (tt, x.1)

strip : {S T : Type 0} (f : S → T) (r : Answer Token S) → tails (r >>= λ y. Ok (f y.0, y.1)) ≡ tails r
strip f (Ok y) = refl
strip f (Err e) = refl

-- their places, and nothing of them
places_semis : (n : ℕ) (s : List Token) → tails (row_by semi (token_by (the SEMICOLON)) n s) ≡ tails (row_by semi (one semi) n s)
unfolding row_by
places_semis zero s = refl
places_semis (suc n) [] = refl
places_semis (suc n) (c ∷ s) = go (semi c) refl (places_semis n s)
  where
    places : Answer Token (List Place)
    places = row_by semi (token_by (the SEMICOLON)) n s

    nothings : Answer Token (List (Unit {0}))
    nothings = row_by semi (one semi) n s

    go : (b : Bool) → semi c ≡ b → tails places ≡ tails nothings → tails (row_by semi (token_by (the SEMICOLON)) (suc n) (c ∷ s)) ≡ tails (row_by semi (one semi) (suc n) (c ∷ s))
    go true e f = rw e (strip (λ ps. c.place ∷ ps) places ∙ (f ∙ sym (strip (λ us. tt ∷ us) nothings)))
    go false e f = rw e refl

pub opening_some : (s : List Token) (place : Place) (r t : List Token) → head_is semi (first s) ≡ true → token_by (the SEMICOLON) s ≡ Ok (place, r) → mapped levels.no_tree semis_read r ≡ Ok (tt, t)
    → mapped trees.first_place levels.opening s ≡ Ok (Some place, t)
opening_some s place r t i e j =
    ap (remade trees.first_place) (row_more semi (token_by (the SEMICOLON)) (token_shorter (the SEMICOLON)) s (place, r) i e)
    ∙ go (row semi (token_by (the SEMICOLON)) r) (places_semis (length r) r ∙ j)
  where
    some : List Token → Answer Token (Option Place)
    some l = Ok (Some place, l)

    go : (a : Answer Token (List Place)) → tails a ≡ Ok (tt, t) → remade trees.first_place (with_front (place ∷ []) a) ≡ some t
    go (Ok y) k = let same = ok_is (tt, y.1) (tt, t) k in ap (λ (z : Unit {0} × List Token). some z.1) same
    go (Err d) k = absurd cc

pub opening_fails : (f : ReadError Token) (s : List Token) (place : Place) (r : List Token) → head_is semi (first s) ≡ true → token_by (the SEMICOLON) s ≡ Ok (place, r) → Fails f (mapped levels.no_tree semis_read r)
    → Fails f (mapped trees.first_place levels.opening s)
opening_fails errors.NoMemory s place r i e j = tt
opening_fails (errors.Refused c rest) s place r i e j =
    ap (remade trees.first_place) (row_more semi (token_by (the SEMICOLON)) (token_shorter (the SEMICOLON)) s (place, r) i e)
    ∙ go (row semi (token_by (the SEMICOLON)) r) (places_semis (length r) r ∙ j)
  where
    none : Code × List Token → Answer Token (Option Place)
    none d = Err d

    go : (a : Answer Token (List Place)) → tails a ≡ Err (c, rest.now) → remade trees.first_place (with_front (place ∷ []) a) ≡ none (c, rest.now)
    go (Ok y) k = absurd cc
    go (Err d) k = let same : d ≡ (c, rest.now) = cc in ap none same

pub opening_none : (s : List Token) → head_is semi (first s) ≡ false → mapped trees.first_place levels.opening s ≡ Ok (None, s)
opening_none s i = ap (remade trees.first_place) (row_done semi (token_by (the SEMICOLON)) (token_shorter (the SEMICOLON)) s i)

-- ---- a whole program

place_is : (ps : List Place) (us : List Item) (e : Place) → programs.program_place ps us e ≡ trees.program_place (trees.first_place ps) (item_trees us) e
place_is (p ∷ ps) us e = refl
place_is [] (u ∷ us) e = refl
place_is [] [] e = refl

module _ (cs : Changes) (h : ℕ) (s : List Token) where
  abbrev inner : Reader Token (List Item × Place)
  inner = both (levels.items cs h) (token_by the_end)

  pub program_fails : (f : ReadError Token) → Fails f (mapped trees.first_place levels.opening s) → Fails f (levels.program cs h s)
  program_fails errors.NoMemory e = tt
  program_fails (errors.Refused c rest) e = ap (λ (a : Answer Token (List Place)). remade program_of (a >>= λ x. inner x.1 >>= λ y. Ok ((x.0, y.0), y.1))) (mapped_fails trees.first_place levels.opening s (errors.Refused c rest) e)

  module _ (o : Option Place) (r : List Token) (i : mapped trees.first_place levels.opening s ≡ Ok (o, r)) where
    abbrev ps : List Place
    ps = (other_gives trees.first_place levels.opening s o r i).0

    behind_opening : levels.program cs h s ≡ mapped (λ y. program_of (ps, y)) inner r
    behind_opening = let a = other_gives trees.first_place levels.opening s o r i in behind_first program_of levels.opening inner s r a.0 a.1

    pub program_items_fail : (f : ReadError Token) → Fails f (mapped trees.tops (levels.items cs h) r) → Fails f (levels.program cs h s)
    program_items_fail errors.NoMemory e = tt
    program_items_fail (errors.Refused c rest) e =
        behind_opening
        ∙ ap (λ (a : Answer Token (List Item)). remade (λ y. program_of (ps, y)) (a >>= λ x. token_by the_end x.1 >>= λ y. Ok ((x.0, y.0), y.1))) (mapped_fails trees.tops (levels.items cs h) r (errors.Refused c rest) e)

    module _ (ts : List Top) (n : ℕ) (t : List Token) (j : mapped trees.tops (levels.items cs h) r ≡ Ok ((ts, n), t)) where
      abbrev us : List Item
      us = (other_gives trees.tops (levels.items cs h) r (ts, n) t j).0

      behind_items : levels.program cs h s ≡ mapped (λ e. program_of (ps, (us, e))) (token_by the_end) t
      behind_items =
          let b = other_gives trees.tops (levels.items cs h) r (ts, n) t j in
          behind_opening ∙ behind_first (λ y. program_of (ps, y)) (levels.items cs h) (token_by the_end) r t b.0 b.1

      pub program_end_fails : (f : ReadError Token) → Fails f (token_by the_end t) → Fails f (levels.program cs h s)
      program_end_fails errors.NoMemory e = tt
      program_end_fails (errors.Refused c rest) e = behind_items ∙ ap (remade (λ e. program_of (ps, (us, e)))) e

      pub program_gives : (e : Place) (rest : List Token) → token_by the_end t ≡ Ok (e, rest) → levels.program cs h s ≡ Ok ((made.Tops (trees.program_place o ts e) ts, suc n), rest)
      program_gives e rest k =
          let a = other_gives trees.first_place levels.opening s o r i in
          let b = other_gives trees.tops (levels.items cs h) r (ts, n) t j in
          behind_items
          ∙ (ap (remade (λ e. program_of (ps, (us, e)))) k
          ∙ (ap (λ (p : Place). Ok ((made.Tops p (item_trees us), suc (highest item_height us)), rest)) (place_is ps us e ∙ ap (λ (q : Option Place). trees.program_place q (item_trees us) e) a.2)
          ∙ ap (λ (x : List Top × ℕ). Ok ((made.Tops (trees.program_place o x.0 e) x.0, suc x.1), rest)) b.2))
