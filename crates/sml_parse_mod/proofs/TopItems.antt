-- What a top-level item gives: a declaration that nothing goes on with, the semicolons behind it, and the directives that it leaves.
use Rattle.std.proofs.Common.{◌≡◌, ℕ, zero, suc, ◌≤◌, ◌<◌, ◌-◌, Bool, true, false, ltb, map, List, [], ◌∷◌, ◌++◌, Ok, Err, refl, sym, ap, ◌∙◌, arith}
use Rattle.std.specs.Prelude.{OnOk}
use Rattle.std.proofs.lemmas.List.{append-nil}
use Rattle.std.proofs.lemmas.Bool.{le-ltb}
use Rattle.tl_text.specs.declared.place.Place.{Place}
use Rattle.readers.specs.declared.code.Code.TheVariants.{Grammar, Depth}
use Rattle.readers.specs.declared.fault.ReadError.{ReadError}
use Rattle.readers.specs.declared.fault.ReadError.TheVariants as errors
use Rattle.readers.specs.Given.{Fails, Gives}
use Rattle.readers.specs.Reader.{first, head_is, Answer, Reader, ◌>>=◌, mapped, one, row, shut, with_front}
use Rattle.readers.specs.Forms.{ended}
use Rattle.readers.proofs.Choice.{remade}
use Rattle.readers.proofs.Outcome.{ok_is}
use Rattle.readers.proofs.RowLoop.{row_more, row_done}
use Rattle.sml_lex.specs.declared.token.Token.{Token}
use Rattle.sml_ast.specs.declared.program.FunBind.{FunBind}
use Rattle.sml_ast.specs.declared.program.SigBind.{SigBind}
use Rattle.sml_ast.specs.declared.program.Top.{Top}
use Rattle.sml_ast.specs.declared.program.Top.TheVariants as tops
use Rattle.sml_scan.proofs.Shorter.{one_shorter}
use Rattle.sml_grammar.specs.Words.{EQUALS, SEMICOLON}
use Rattle.sml_grammar.specs.Tokens.{alphas, is, tokens_of}
use Rattle.sml_grammar_exp.specs.Decs.{Changes}
use Rattle.sml_grammar_exp.specs.ReadDecs.{semis_read}
use Rattle.sml_grammar_sig.specs.Sigs.{Ss}
use Rattle.sml_grammar_sig.specs.ReadDescs.{real_bind_read}
use Rattle.sml_grammar_sig.specs.ReadSigs.{head_read, strs_level}
use Rattle.sml_grammar_mod.specs.Strs.{sigbind_of}
use Rattle.sml_grammar_mod.specs.ReadStrs.{funbinds_read, sigbinds_read, strdec_goes}
use Rattle.sml_grammar_mod.specs.Programs.{Before, Tp, behind, behind_top, funs_of, sigs_of, top_changes}
use Rattle.sml_parse_bind.proofs.Steps.{behind_first, ended_bars, ended_fails, ended_gives, mapped_mapped}
use Rattle.sml_parse_mod.specs.Levels as levels
use Rattle.sml_parse_mod.specs.Nested.{MovesTop, Read}
use Rattle.sml_parse_mod.specs.Trees as trees
use Rattle.sml_parse_mod.proofs.Scopes.{fails_mapped, mapped_fails, other_gives}
use Rattle.sml_parse_mod.proofs.Steps.{sigbinds_is}

abbrev goes : Token → Bool
goes = tokens_of strdec_goes

abbrev gave : {T : Type 0} → T → List Token → Answer Token T
gave x s = Ok (x, s)

-- ---- bindings of signatures

abbrev named : Token → Bool
named = tokens_of alphas

pub sigbinds_other : (h : ℕ) (s : List Token) → head_is named (first s) ≡ false → sigbinds_read h s ≡ Err (Grammar, s)
unfolding sigbinds_read
sigbinds_other zero s i = rw i refl
sigbinds_other (suc h) s i = rw i refl

pub sigbinds_low : (h : ℕ) (s : List Token) → head_is named (first s) ≡ true → h < 2 → sigbinds_read h s ≡ Err (Depth, s)
unfolding sigbinds_read
sigbinds_low zero s i lt = rw i refl
sigbinds_low (suc zero) s i lt = rw i refl
sigbinds_low (suc (suc h)) s i lt = absurd (omega arith)

module _ (h : ℕ) (s : List Token) (i : head_is named (first s) ≡ true) (le : 2 ≤ h) where
  abbrev signatures : Reader Token (List Ss)
  signatures = strs_level EQUALS (head_read (h - 1)) (real_bind_read (h - 1)) (h - 1)

  sigbinds_in : mapped trees.sigbinds (sigbinds_read h) s ≡ mapped trees.sigbinds_of signatures s
  sigbinds_in =
      let none : ltb (h - 1) 1 ≡ false = le-ltb (h - 1) 1 (omega arith) in
      ap (remade trees.sigbinds) (sigbinds_is h s (omega arith) ∙ rw i (rw none refl)) ∙ mapped_mapped (map sigbind_of) trees.sigbinds signatures s

  pub sigbinds_fail : (e : ReadError Token) → Fails e (signatures s) → Fails e (mapped trees.sigbinds (sigbinds_read h) s)
  sigbinds_fail errors.NoMemory j = tt
  sigbinds_fail (errors.Refused c rest) j = sigbinds_in ∙ ap (remade trees.sigbinds_of) j

  pub sigbinds_give : (xs : List Ss) (r : List Token) → signatures s ≡ Ok (xs, r) → mapped trees.sigbinds (sigbinds_read h) s ≡ Ok (trees.sigbinds_of xs, r)
  sigbinds_give xs r j = sigbinds_in ∙ ap (remade trees.sigbinds_of) j

-- ---- what nothing goes on with

module _ {X Y : Type 0} (view : X → Y) (node : Y → Tp) (p : Reader Token X) (s : List Token) where
  abbrev made : X → Tp
  made x = node (view x)

  closed_fails : (e : ReadError Token) → Fails e (mapped view p s) → Fails e (mapped made (ended goes p) s)
  closed_fails e i = ended_fails made goes p e s (fails_mapped made p s e (mapped_fails view p s e i))

  made_gives : (y : Y) (r : List Token) → mapped view p s ≡ Ok (y, r) → mapped made p s ≡ Ok (node y, r)
  made_gives y r i = let a = other_gives view p s y r i in ap (remade made) a.1 ∙ ap (λ (z : Y). gave (node z) r) a.2

  closed_bars : (y : Y) (r : List Token) → mapped view p s ≡ Ok (y, r) → head_is goes (first r) ≡ true → mapped made (ended goes p) s ≡ Err (Grammar, r)
  closed_bars y r i k = ended_bars made goes p s (node y, r) (made_gives y r i) k

  closed_gives : (y : Y) (r : List Token) → mapped view p s ≡ Ok (y, r) → head_is goes (first r) ≡ false → mapped made (ended goes p) s ≡ Ok (node y, r)
  closed_gives y r i k = ended_gives made goes p s (node y, r) (made_gives y r i) k

module _ (h : ℕ) (place : Place) (s : List Token) where
  abbrev sigs : List SigBind × ℕ → Tp
  sigs x = (tops.Sigs place x.0, suc x.1)

  pub sigs_fail : (e : ReadError Token) → Fails e (mapped trees.sigbinds (sigbinds_read h) s) → Fails e (mapped (λ x. sigs_of (place, x)) (levels.sigs h) s)
  sigs_fail = closed_fails trees.sigbinds sigs (sigbinds_read h) s

  module _ (x : List SigBind × ℕ) (r : List Token) (i : mapped trees.sigbinds (sigbinds_read h) s ≡ Ok (x, r)) where
    pub sigs_bar : head_is goes (first r) ≡ true → mapped (λ x. sigs_of (place, x)) (levels.sigs h) s ≡ Err (Grammar, r)
    sigs_bar = closed_bars trees.sigbinds sigs (sigbinds_read h) s x r i

    pub sigs_give : head_is goes (first r) ≡ false → mapped (λ x. sigs_of (place, x)) (levels.sigs h) s ≡ Ok ((tops.Sigs place x.0, suc x.1), r)
    sigs_give = closed_gives trees.sigbinds sigs (sigbinds_read h) s x r i

  -- they leave no directive
  pub sigs_move : (cs : Changes) (r : Read (Top × ℕ)) → Gives (λ x. (x.0, x.1.now)) r (mapped (λ x. sigs_of (place, x)) (levels.sigs h) s) → MovesTop cs cs r
  sigs_move cs (Ok x) i =
      let a = other_gives (λ x. sigs_of (place, x)) (levels.sigs h) s x.0 x.1.now i in
      sym (append-nil cs) ∙ ap (λ (t : Tp). cs ++ top_changes t.0) a.2
  sigs_move cs (Err e) i = tt

module _ (cs : Changes) (h : ℕ) (place : Place) (s : List Token) where
  abbrev funs : List FunBind × ℕ → Tp
  funs x = (tops.Funs place x.0, suc x.1)

  pub funs_fail : (e : ReadError Token) → Fails e (mapped trees.funbinds (funbinds_read h false cs) s) → Fails e (mapped (λ x. funs_of (place, x)) (levels.funs cs h) s)
  funs_fail = closed_fails trees.funbinds funs (funbinds_read h false cs) s

  module _ (x : List FunBind × ℕ) (r : List Token) (i : mapped trees.funbinds (funbinds_read h false cs) s ≡ Ok (x, r)) where
    pub funs_bar : head_is goes (first r) ≡ true → mapped (λ x. funs_of (place, x)) (levels.funs cs h) s ≡ Err (Grammar, r)
    funs_bar = closed_bars trees.funbinds funs (funbinds_read h false cs) s x r i

    pub funs_give : head_is goes (first r) ≡ false → mapped (λ x. funs_of (place, x)) (levels.funs cs h) s ≡ Ok ((tops.Funs place x.0, suc x.1), r)
    funs_give = closed_gives trees.funbinds funs (funbinds_read h false cs) s x r i

  -- they leave no directive
  pub funs_move : (new : Changes) (r : Read (Top × ℕ)) → Gives (λ x. (x.0, x.1.now)) r (mapped (λ x. funs_of (place, x)) (levels.funs cs h) s) → OnOk r (new ≡ cs) → MovesTop cs new r
  funs_move new (Ok x) i same =
      let a = other_gives (λ x. funs_of (place, x)) (levels.funs cs h) s x.0 x.1.now i in
      same ∙ (sym (append-nil cs) ∙ ap (λ (t : Tp). cs ++ top_changes t.0) a.2)
  funs_move new (Err e) i same = tt

-- ---- right behind an expression

nothing_fits : {T : Type 0} (s : List Token) → shut {T = T} (λ c. false) s ≡ Err (Grammar, s)
nothing_fits [] = refl
nothing_fits (c ∷ s) = refl

pub here_none : (cs : Changes) (h : ℕ) (s : List Token) → levels.here cs h Before.Evaluated s ≡ Err (Grammar, s)
here_none cs h s = nothing_fits s

-- ---- semicolons

abbrev semi : Token → Bool
semi = is SEMICOLON

some_semis : (t : Top) (s : List Token) (us : List (Unit {0})) (r : List Token) → head_is semi (first s) ≡ true → semis_read s ≡ Ok (us, r) → behind t us ≡ Before.Fresh
some_semis t [] us r k e = absurd cc
some_semis t (c ∷ s) us r k e = go (row semi (one semi) s) (sym (row_more semi (one semi) (one_shorter semi) (c ∷ s) (tt, s) k (rw k refl)) ∙ e)
  where
    go : (a : Answer Token (List (Unit {0}))) → with_front (tt ∷ []) a ≡ Ok (us, r) → behind t us ≡ Before.Fresh
    go (Ok y) j = let same = ok_is (tt ∷ y.0, y.1) (us, r) j in ap (λ (z : List (Unit {0}) × List Token). behind t z.0) (sym same)
    go (Err d) j = absurd cc

module _ (cs : Changes) (h : ℕ) (b : Before) (s : List Token) where
  pub item_fails : (e : ReadError Token) → Fails e (levels.here cs h b s) → Fails e (mapped trees.item_seen (levels.item cs h b) s)
  item_fails errors.NoMemory i = tt
  item_fails (errors.Refused c rest) i = ap (λ (a : Answer Token Tp). remade trees.item_seen (a >>= λ x. semis_read x.1 >>= λ y. Ok ((x.0, y.0), y.1))) i

  module _ (t : Tp) (r : List Token) (i : levels.here cs h b s ≡ Ok (t, r)) where
    abbrev with_semis : List (Unit {0}) → Tp × Before
    with_semis us = (t, behind t.0 us)

    behind_here : mapped trees.item_seen (levels.item cs h b) s ≡ mapped with_semis semis_read r
    behind_here = behind_first trees.item_seen (levels.here cs h b) semis_read s r t i

    pub item_alone : head_is semi (first r) ≡ false → mapped trees.item_seen (levels.item cs h b) s ≡ Ok ((t, behind_top t.0), r)
    item_alone k = behind_here ∙ ap (remade with_semis) (row_done semi (one semi) (one_shorter semi) r k)

    pub item_semis_fail : (e : ReadError Token) → Fails e (mapped levels.no_tree semis_read r) → Fails e (mapped trees.item_seen (levels.item cs h b) s)
    item_semis_fail errors.NoMemory j = tt
    item_semis_fail (errors.Refused c rest) j = behind_here ∙ ap (remade with_semis) (mapped_fails levels.no_tree semis_read r (errors.Refused c rest) j)

    pub item_semis : (l : List Token) → head_is semi (first r) ≡ true → mapped levels.no_tree semis_read r ≡ Ok (tt, l) → mapped trees.item_seen (levels.item cs h b) s ≡ Ok ((t, Before.Fresh), l)
    item_semis l k j =
        let a = other_gives levels.no_tree semis_read r tt l j in
        behind_here ∙ (ap (remade with_semis) a.1 ∙ ap (λ (x : Before). gave (t, x) l) (some_semis t.0 r a.0 l k a.1))
