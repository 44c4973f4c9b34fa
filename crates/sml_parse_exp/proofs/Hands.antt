-- The readers of parts, where the code hands on what another method gives.
use Rattle.std.proofs.Common.{◌≡◌, ℕ, suc, ◌+◌, ◌≤◌, Bool, true, false, ltb, max, List, Ok, Err, refl, ap, ◌∙◌, arith}
use Rattle.std.proofs.lemmas.Bool.{le-ltb}
use Rattle.tl_text.specs.declared.place.Place.{Place}
use Rattle.readers.specs.declared.fault.ReadError.{ReadError}
use Rattle.readers.specs.Given.{Fails}
use Rattle.readers.specs.Reader.{first, head_is, Reader, mapped, both, token_by, only, else_by}
use Rattle.readers.specs.Forms.{ended, enclosed, seps, highest, height_of}
use Rattle.readers.proofs.Choice.{remade}
use Rattle.sml_lex.specs.declared.token.Token.{Token}
use Rattle.sml_ast.specs.declared.exp.AtExp.{AtExp}
use Rattle.sml_ast.specs.declared.exp.AtExp.TheVariants as at
use Rattle.sml_grammar.specs.Words.{ABSTYPE, AND, CLOSE_BRACE, CLOSE_BRACKET, CLOSE_PAREN, COMMA, DATATYPE, EXCEPTION, FUN, HASH, INFIX, INFIXR, LOCAL, NONFIX, OPEN, OPEN_BRACE, OPEN_BRACKET, OPEN_PAREN, TYPE, VAL}
use Rattle.sml_grammar.specs.Tokens.{is, the, tokens_of, labels, literals, long_alphas, long_strid}
use Rattle.sml_grammar.specs.ReadTypes.{ty_read}
use Rattle.sml_grammar_exp.specs.Exps.{At, De, Ex, Behind, Inside, exp_trees, fields_of, items_of, paren_of}
use Rattle.sml_grammar_exp.specs.Decs.{Changes, fixed, abs_of, data_of, exns_of, fix_of, funs_of, local_of, nonfix_of, opens_of, types_of, vals_of}
use Rattle.sml_grammar_exp.specs.ReadExps.{begins_exp, behind_read, field_read, inside_read}
use Rattle.sml_grammar_exp.specs.ReadBinds.{cons_read, exbind_read, tybind_read}
use Rattle.sml_grammar_exp.specs.ReadClauses.{many_read}
use Rattle.sml_grammar_exp.specs.ReadDecs.{clauses_read, data_read, dec_goes, under_by, under_two}
use Rattle.sml_grammar_exp.specs.ReadLevels.{clause_read, some_operator}
use Rattle.sml_parse_pat.proofs.Steps.{seen_by}
use Rattle.sml_parse_bind.proofs.Nodes.{else_node, else_closed}
use Rattle.sml_parse_bind.proofs.Steps.{behind_first, behind_ended, mapped_mapped}
use Rattle.sml_parse_exp.specs.Levels as levels
use Rattle.sml_parse_exp.specs.Trees as trees
use Rattle.sml_parse_exp.specs.declared.tree.Behind.{Behind as Others}
use Rattle.sml_parse_exp.proofs.Pairs.{node_fails}

-- ---- parentheses

one_more : (n : ℕ) → suc n ≡ n + 1
one_more n = omega arith

abbrev sized : AtExp → ℕ → At
sized t n = (t, n)

closed_is : (place : Place) (x : Ex) (b : Behind) → paren_of (place, Inside.Parts (x, b)) ≡ trees.closed place x (trees.behind_of b)
unfolding Rattle.sml_ast.specs.declared.exp.AtExp.TheViews.roll-AtExp denote.Hole.Carrier.roll
closed_is place x Behind.Closed = refl
closed_is place x (Behind.Commas es) = ap (λ (n : ℕ). sized (at.Tuple place x.0.0 (exp_trees es)) n) (one_more (max x.1 (highest height_of es)))
closed_is place x (Behind.Semis es) = ap (λ (n : ℕ). sized (at.Seq place x.0.0 (exp_trees es)) n) (one_more (max x.1 (highest height_of es)))

module _ (cs : Changes) (h : ℕ) where
  low0 : ltb h 0 ≡ false
  low0 = le-ltb h 0 (omega arith)

  -- ---- atoms

  pub parts_in : (place : Place) (s : List Token) → head_is (is CLOSE_PAREN) (first s) ≡ false → head_is (begins_exp (fixed cs)) (first s) ≡ true → 2 ≤ h
      → mapped (λ x. paren_of (place, x)) (inside_read (fixed cs) (levels.exp cs h) h) s ≡ mapped (λ x. paren_of (place, Inside.Parts x)) (levels.parts cs h) s
  parts_in place s i j le =
      let none : ltb h 2 ≡ false = le-ltb h 2 le in
      rw i (rw j (rw none (mapped_mapped Inside.Parts (λ x. paren_of (place, x)) (levels.parts cs h) s)))

  module _ (place : Place) (s rest : List Token) (x : Ex) (e : levels.exp cs h s ≡ Ok (x, rest)) where
    split : mapped (λ x. paren_of (place, Inside.Parts x)) (levels.parts cs h) s ≡ mapped (trees.closed place x) (mapped trees.behind_of (behind_read (levels.exp cs h))) rest
    split =
        behind_first (λ x. paren_of (place, Inside.Parts x)) (levels.exp cs h) (behind_read (levels.exp cs h)) s rest x e
        ∙ seen_by (λ b. paren_of (place, Inside.Parts (x, b))) trees.behind_of (trees.closed place x) (closed_is place x) (behind_read (levels.exp cs h)) rest

    pub parts_give : (z : Others × List Token) → mapped trees.behind_of (behind_read (levels.exp cs h)) rest ≡ Ok z → mapped (λ x. paren_of (place, Inside.Parts x)) (levels.parts cs h) s ≡ Ok (trees.closed place x z.0, z.1)
    parts_give z i = split ∙ ap (remade (trees.closed place x)) i

    pub parts_fail : (f : ReadError Token) → Fails f (mapped trees.behind_of (behind_read (levels.exp cs h)) rest) → Fails f (mapped (λ x. paren_of (place, Inside.Parts x)) (levels.parts cs h) s)
    parts_fail f i = node_fails (trees.closed place x) f (mapped trees.behind_of (behind_read (levels.exp cs h)) rest) _ split i

  -- what follows the first alternative
  abbrev from_types : Reader Token De
  from_types =
      else_by (is TYPE) 1 (mapped types_of (ended (tokens_of dec_goes) (both (token_by (the TYPE)) (seps (is AND) (tybind_read (ty_read h))))))
      (else_by (is EXCEPTION) 1 (mapped exns_of (ended (tokens_of dec_goes) (both (token_by (the EXCEPTION)) (seps (is AND) (exbind_read h (fixed cs))))))
      (levels.with_values cs h) h) h

  abbrev from_vals : Reader Token De
  from_vals =
      else_by (is VAL) 2 (mapped vals_of (ended (tokens_of dec_goes) (both (token_by (the VAL)) (under_two (levels.values cs h)))))
      (only (is FUN) 3 (mapped funs_of (ended (tokens_of dec_goes) (both (token_by (the FUN)) (under_by (some_operator cs) (clauses_read (clause_read h false cs)))))) h) h

  module _ (s rest : List Token) (place : Place) where
    pub items_in : head_is (is OPEN_BRACKET) (first s) ≡ true → token_by (the OPEN_BRACKET) s ≡ Ok (place, rest)
        → levels.enclosed_at cs h s ≡ mapped (λ x. items_of (place, x)) (enclosed (begins_exp (fixed cs)) 2 (is COMMA) (levels.exp cs h) (is CLOSE_BRACKET) h) rest
    items_in i e = rw i (rw low0 (behind_first items_of (token_by (the OPEN_BRACKET)) (enclosed (begins_exp (fixed cs)) 2 (is COMMA) (levels.exp cs h) (is CLOSE_BRACKET) h) s rest place e))

    pub paren_in : head_is (is OPEN_BRACKET) (first s) ≡ false → head_is (is OPEN_PAREN) (first s) ≡ true → token_by (the OPEN_PAREN) s ≡ Ok (place, rest)
        → levels.enclosed_at cs h s ≡ mapped (λ x. paren_of (place, x)) (inside_read (fixed cs) (levels.exp cs h) h) rest
    paren_in i j e = rw i (rw j (rw low0 (behind_first paren_of (token_by (the OPEN_PAREN)) (inside_read (fixed cs) (levels.exp cs h) h) s rest place e)))

    pub record_in : head_is (tokens_of literals) (first s) ≡ false → head_is (is HASH) (first s) ≡ false → head_is (is OPEN_BRACE) (first s) ≡ true → token_by (the OPEN_BRACE) s ≡ Ok (place, rest)
        → levels.at_level cs h s ≡ mapped (λ x. fields_of (place, x)) (enclosed (tokens_of labels) 2 (is COMMA) (field_read (levels.exp cs h)) (is CLOSE_BRACE) h) rest
    record_in i j k e =
        rw i (rw j (rw k (rw low0 (behind_first fields_of (token_by (the OPEN_BRACE)) (enclosed (tokens_of labels) 2 (is COMMA) (field_read (levels.exp cs h)) (is CLOSE_BRACE) h) s rest place e))))

    -- ---- declarations

    pub opens_in : head_is (is OPEN) (first s) ≡ true → token_by (the OPEN) s ≡ Ok (place, rest)
        → levels.declaration cs h s ≡ mapped (λ x. opens_of (place, x)) (ended (tokens_of dec_goes) (many_read (tokens_of long_alphas) (token_by long_strid))) rest
    opens_in i e = rw i (rw low0 (behind_ended opens_of (tokens_of dec_goes) (token_by (the OPEN)) (many_read (tokens_of long_alphas) (token_by long_strid)) s rest place e))

    pub infix_in : head_is (is OPEN) (first s) ≡ false → head_is (is INFIX) (first s) ≡ true → token_by (the INFIX) s ≡ Ok (place, rest)
        → levels.declaration cs h s ≡ mapped (λ x. fix_of false (place, x)) levels.directive rest
    infix_in i j e = rw i (rw j (rw low0 (behind_ended (fix_of false) (tokens_of dec_goes) (token_by (the INFIX)) levels.digit_names s rest place e)))

    pub infixr_in : head_is (is INFIXR) (first s) ≡ true → token_by (the INFIXR) s ≡ Ok (place, rest)
        → levels.with_scopes cs h s ≡ mapped (λ x. fix_of true (place, x)) levels.directive rest
    infixr_in i e = rw i (rw low0 (behind_ended (fix_of true) (tokens_of dec_goes) (token_by (the INFIXR)) levels.digit_names s rest place e))

    pub nonfix_in : head_is (is INFIXR) (first s) ≡ false → head_is (is NONFIX) (first s) ≡ true → token_by (the NONFIX) s ≡ Ok (place, rest)
        → levels.with_scopes cs h s ≡ mapped (λ x. nonfix_of (place, x)) levels.plain_directive rest
    nonfix_in i j e = rw i (rw j (rw low0 (behind_ended nonfix_of (tokens_of dec_goes) (token_by (the NONFIX)) levels.only_names s rest place e)))

    pub local_in : head_is (is INFIXR) (first s) ≡ false → head_is (is NONFIX) (first s) ≡ false → head_is (is LOCAL) (first s) ≡ true → token_by (the LOCAL) s ≡ Ok (place, rest)
        → levels.with_scopes cs h s ≡ mapped (λ x. local_of (place, x)) (levels.local_dec cs h) rest
    local_in i j k e = rw i (rw j (rw k (rw low0 (behind_ended local_of (tokens_of dec_goes) (token_by (the LOCAL)) (levels.local_parts cs h) s rest place e))))

    pub datatype_in : head_is (is DATATYPE) (first s) ≡ true → token_by (the DATATYPE) s ≡ Ok (place, rest)
        → levels.with_types cs h s ≡ mapped (λ x. data_of (place, x)) (data_read (fixed cs) (cons_read h (fixed cs)) (ty_read h) h) rest
    datatype_in i e = else_node DATATYPE 0 data_of (data_read (fixed cs) (cons_read h (fixed cs)) (ty_read h) h) h s rest place i (omega arith) e from_types

    pub types_in : head_is (is DATATYPE) (first s) ≡ false → head_is (is TYPE) (first s) ≡ true → 1 ≤ h → token_by (the TYPE) s ≡ Ok (place, rest)
        → levels.with_types cs h s ≡ mapped (λ x. types_of (place, x)) (ended (tokens_of dec_goes) (seps (is AND) (tybind_read (ty_read h)))) rest
    types_in i j le e =
        let none : ltb h 1 ≡ false = le-ltb h 1 le in
        rw i (rw j (rw none (behind_ended types_of (tokens_of dec_goes) (token_by (the TYPE)) (seps (is AND) (tybind_read (ty_read h))) s rest place e)))

    pub exceptions_in : head_is (is DATATYPE) (first s) ≡ false → head_is (is TYPE) (first s) ≡ false → head_is (is EXCEPTION) (first s) ≡ true → 1 ≤ h → token_by (the EXCEPTION) s ≡ Ok (place, rest)
        → levels.with_types cs h s ≡ mapped (λ x. exns_of (place, x)) (ended (tokens_of dec_goes) (seps (is AND) (exbind_read h (fixed cs)))) rest
    exceptions_in i j k le e =
        let none : ltb h 1 ≡ false = le-ltb h 1 le in
        rw i (rw j (rw k (rw none (behind_ended exns_of (tokens_of dec_goes) (token_by (the EXCEPTION)) (seps (is AND) (exbind_read h (fixed cs))) s rest place e))))

    pub abstype_in : head_is (is ABSTYPE) (first s) ≡ true → 1 ≤ h → token_by (the ABSTYPE) s ≡ Ok (place, rest)
        → levels.with_values cs h s ≡ mapped (λ x. abs_of (place, x)) (levels.abstype cs h) rest
    abstype_in i le e = else_closed ABSTYPE 1 abs_of (levels.abstype_parts cs h) h s rest place i le e (tokens_of dec_goes) from_vals

    pub vals_in : head_is (is ABSTYPE) (first s) ≡ false → head_is (is VAL) (first s) ≡ true → 2 ≤ h → token_by (the VAL) s ≡ Ok (place, rest)
        → levels.with_values cs h s ≡ mapped (λ x. vals_of (place, x)) (levels.vals cs h) rest
    vals_in i j le e =
        let none : ltb h 2 ≡ false = le-ltb h 2 le in
        rw i (rw j (rw none (behind_ended vals_of (tokens_of dec_goes) (token_by (the VAL)) (under_two (levels.values cs h)) s rest place e)))

    pub funs_in : head_is (is ABSTYPE) (first s) ≡ false → head_is (is VAL) (first s) ≡ false → head_is (is FUN) (first s) ≡ true → 3 ≤ h → token_by (the FUN) s ≡ Ok (place, rest)
        → levels.with_values cs h s ≡ mapped (λ x. funs_of (place, x)) (levels.funs cs h) rest
    funs_in i j k le e =
        let none : ltb h 3 ≡ false = le-ltb h 3 le in
        rw i (rw j (rw k (rw none (behind_ended funs_of (tokens_of dec_goes) (token_by (the FUN)) (under_by (some_operator cs) (clauses_read (clause_read h false cs))) s rest place e))))
