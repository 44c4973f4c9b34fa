-- The readers of alternatives, where the code hands on what another function gives.
use Rattle.std.proofs.Common.{◌≡◌, ℕ, ◌≤◌, Bool, true, false, ltb, List, Option, Some, None, Ok, refl, ap, ◌∙◌, arith}
use Rattle.std.proofs.lemmas.Bool.{le-ltb}
use Rattle.tl_text.specs.declared.place.Place.{Place}
use Rattle.readers.specs.Reader.{first, head_is, Reader, bound, both, close, else_by, mapped, one, skip, token_by}
use Rattle.readers.specs.Forms.{else_if, ended, optional}
use Rattle.readers.proofs.Choice.{remade}
use Rattle.sml_lex.specs.declared.token.Token.{Token}
use Rattle.sml_grammar.specs.Words.{CLOSE_PAREN, END, FUNCTOR, LET, LOCAL, OPEN_PAREN, SIGNATURE, STRUCT, STRUCTURE}
use Rattle.sml_grammar.specs.Tokens.{alphas, is, long_strid, strid, the, tokens_of}
use Rattle.sml_grammar.specs.Types.{Ident}
use Rattle.sml_grammar_exp.specs.Decs.{Changes}
use Rattle.sml_grammar_mod.specs.Strs.{Sd, St, at_of, body_of, let_str_of, str_afters, structs_of}
use Rattle.sml_grammar_mod.specs.ReadStrs.{Argument, any_local_of, argument_read, begins_str, funbinds_read, named_of, sigbinds_read, str_read, strbinds_read, strdec_goes, strdec_read}
use Rattle.sml_grammar_mod.specs.Programs.{Tp, funs_of, sigs_of, strs_of}
use Rattle.sml_parse_bind.proofs.Nodes.{else_closed, else_node, else_skip}
use Rattle.sml_parse_bind.proofs.Steps.{behind_first, mapped_mapped}
use Rattle.sml_parse_mod.specs.Levels as levels

-- an alternative that the next token begins
else_in : {T : Type 0} (test : Token → Bool) (low : ℕ) (p q : Reader Token T) (h : ℕ) (s : List Token) → head_is test (first s) ≡ true → low ≤ h → else_by test low p q h s ≡ p s
else_in test low p q h s i le = let none : ltb h low ≡ false = le-ltb h low le in rw i (rw none refl)

-- behind a word
past : {T : Type 0} (test : Token → Bool) (p : Reader Token T) (s rest : List Token) → one test s ≡ Ok (tt, rest) → skip test p s ≡ p rest
past test p s rest e = rw e refl

abbrev goes : Token → Bool
goes = tokens_of strdec_goes

module _ (cs : Changes) (h : ℕ) (s : List Token) where
  -- ---- declarations

  abbrev core_or_structs : Reader Token Sd
  core_or_structs = else_by (is STRUCTURE) 2 (mapped structs_of (ended goes (both (token_by (the STRUCTURE)) (strbinds_read h false cs)))) (levels.core cs h) h

  beyond : head_is (is LOCAL) (first s) ≡ false → levels.declaration cs h s ≡ core_or_structs s
  beyond i = else_skip (is LOCAL) 1 (mapped any_local_of (ended goes (both (token_by (the LOCAL)) (bound (levels.decs cs h) (λ ds. levels.shown_decs (str_afters cs ds) h))))) core_or_structs h s i

  pub core_in : head_is (is LOCAL) (first s) ≡ false → head_is (is STRUCTURE) (first s) ≡ false → levels.declaration cs h s ≡ levels.core cs h s
  core_in i j = beyond i ∙ else_skip (is STRUCTURE) 2 (mapped structs_of (ended goes (both (token_by (the STRUCTURE)) (strbinds_read h false cs)))) (levels.core cs h) h s j

  module _ (place : Place) (rest : List Token) where
    pub local_in : head_is (is LOCAL) (first s) ≡ true → 1 ≤ h → token_by (the LOCAL) s ≡ Ok (place, rest) → levels.declaration cs h s ≡ mapped (λ x. any_local_of (place, x)) (levels.local cs h) rest
    local_in i le e = else_closed LOCAL 1 any_local_of (bound (levels.decs cs h) (λ ds. levels.shown_decs (str_afters cs ds) h)) h s rest place i le e goes core_or_structs

    pub structs_in : head_is (is LOCAL) (first s) ≡ false → head_is (is STRUCTURE) (first s) ≡ true → 2 ≤ h → token_by (the STRUCTURE) s ≡ Ok (place, rest)
        → levels.declaration cs h s ≡ mapped (λ x. structs_of (place, x)) (levels.structs cs h) rest
    structs_in i j le e = beyond i ∙ else_closed STRUCTURE 2 structs_of (strbinds_read h false cs) h s rest place j le e goes (levels.core cs h)

  -- ---- structure expressions

  abbrev names : Reader Token St
  names = else_if (tokens_of alphas) (levels.named cs h) (mapped at_of (token_by long_strid))

  abbrev lets : Reader Token (List Sd × St)
  lets = bound (levels.decs cs h) (λ ds. levels.shown_str (str_afters cs ds) h)

  abbrev lets_or_names : Reader Token St
  lets_or_names = else_by (is LET) 1 (mapped let_str_of (both (token_by (the LET)) lets)) names h

  abbrev bodies : Reader Token St
  bodies = mapped body_of (both (token_by (the STRUCT)) (levels.closed_decs END cs h))

  no_body : head_is (is STRUCT) (first s) ≡ false → levels.base cs h s ≡ lets_or_names s
  no_body i = else_skip (is STRUCT) 0 bodies lets_or_names h s i

  no_let : head_is (is STRUCT) (first s) ≡ false → head_is (is LET) (first s) ≡ false → levels.base cs h s ≡ names s
  no_let i j = no_body i ∙ else_skip (is LET) 1 (mapped let_str_of (both (token_by (the LET)) lets)) names h s j

  pub named_in : head_is (is STRUCT) (first s) ≡ false → head_is (is LET) (first s) ≡ false → head_is (tokens_of alphas) (first s) ≡ true → levels.base cs h s ≡ levels.named cs h s
  named_in i j k = no_let i j ∙ rw k refl

  pub long_in : head_is (is STRUCT) (first s) ≡ false → head_is (is LET) (first s) ≡ false → head_is (tokens_of alphas) (first s) ≡ false → levels.base cs h s ≡ mapped at_of (token_by long_strid) s
  long_in i j k = no_let i j ∙ rw k refl

  module _ (place : Place) (rest : List Token) where
    pub body_in : head_is (is STRUCT) (first s) ≡ true → token_by (the STRUCT) s ≡ Ok (place, rest) → levels.base cs h s ≡ mapped (λ ds. body_of (place, ds)) (levels.closed_decs END cs h) rest
    body_in i e = else_node STRUCT 0 body_of (levels.closed_decs END cs h) h s rest place i (omega arith) e lets_or_names

    pub let_in : head_is (is STRUCT) (first s) ≡ false → head_is (is LET) (first s) ≡ true → 1 ≤ h → token_by (the LET) s ≡ Ok (place, rest) → levels.base cs h s ≡ mapped (λ x. let_str_of (place, x)) (levels.let_str cs h) rest
    let_in i j le e = no_body i ∙ else_node LET 1 let_str_of lets h s rest place j le e names

  -- an argument behind a name
  pub argument_in : (name : Ident) (r t : List Token) → token_by strid s ≡ Ok (name, r) → head_is (is OPEN_PAREN) (first r) ≡ true → one (is OPEN_PAREN) r ≡ Ok (tt, t)
      → levels.named cs h s ≡ mapped (λ a. named_of (name, Some a)) (levels.argument cs h) t
  argument_in name r t e i o =
      let some : Argument → Option Argument = λ a. Some a in
      let inside : Reader Token Argument = argument_read (levels.decs cs h) (str_read h false cs) h in
      behind_first named_of (token_by strid) (optional (is OPEN_PAREN) inside) s r name e
      ∙ (rw i (mapped_mapped some (λ o. named_of (name, o)) inside r) ∙ ap (remade (λ a. named_of (name, Some a))) (past (is OPEN_PAREN) (levels.argument cs h) r t o))

  pub given_in : (name : Ident) → head_is begins_str (first s) ≡ true → 1 ≤ h → mapped (λ a. named_of (name, Some a)) (levels.argument cs h) s ≡ mapped (λ e. named_of (name, Some (Argument.Given e))) (levels.given cs h) s
  given_in name i le =
      let bodies : Reader Token Argument = mapped Argument.Body (levels.closed_decs CLOSE_PAREN cs h) in
      ap (remade (λ a. named_of (name, Some a))) (else_in begins_str 1 (mapped Argument.Given (levels.given cs h)) bodies h s i le)
      ∙ mapped_mapped Argument.Given (λ a. named_of (name, Some a)) (levels.given cs h) s

  -- ---- top-level declarations

  abbrev strs : Reader Token Tp
  strs = mapped strs_of (strdec_read h false cs)

  abbrev funs_or_strs : Reader Token Tp
  funs_or_strs = else_by (is FUNCTOR) 2 (mapped funs_of (ended goes (both (token_by (the FUNCTOR)) (funbinds_read h false cs)))) strs h

  no_sigs : head_is (is SIGNATURE) (first s) ≡ false → levels.top_level cs h s ≡ funs_or_strs s
  no_sigs i = else_skip (is SIGNATURE) 2 (mapped sigs_of (ended goes (both (token_by (the SIGNATURE)) (sigbinds_read h)))) funs_or_strs h s i

  pub strs_in : head_is (is SIGNATURE) (first s) ≡ false → head_is (is FUNCTOR) (first s) ≡ false → levels.top_level cs h s ≡ strs s
  strs_in i j = no_sigs i ∙ else_skip (is FUNCTOR) 2 (mapped funs_of (ended goes (both (token_by (the FUNCTOR)) (funbinds_read h false cs)))) strs h s j

  module _ (place : Place) (rest : List Token) where
    pub sigs_in : head_is (is SIGNATURE) (first s) ≡ true → 2 ≤ h → token_by (the SIGNATURE) s ≡ Ok (place, rest) → levels.top_level cs h s ≡ mapped (λ x. sigs_of (place, x)) (levels.sigs h) rest
    sigs_in i le e = else_closed SIGNATURE 2 sigs_of (sigbinds_read h) h s rest place i le e goes funs_or_strs

    pub funs_in : head_is (is SIGNATURE) (first s) ≡ false → head_is (is FUNCTOR) (first s) ≡ true → 2 ≤ h → token_by (the FUNCTOR) s ≡ Ok (place, rest) → levels.top_level cs h s ≡ mapped (λ x. funs_of (place, x)) (levels.funs cs h) rest
    funs_in i j le e = no_sigs i ∙ else_closed FUNCTOR 2 funs_of (funbinds_read h false cs) h s rest place j le e goes strs
