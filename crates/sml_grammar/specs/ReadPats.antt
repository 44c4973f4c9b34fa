-- Reading patterns, with one token of view.
use Rattle.std.specs.Prelude.{ℕ, zero, suc, Bool, List, [], ◌∷◌, Option, Some, None}
use Rattle.readers.specs.declared.floor.Floor.{Floor}
use Rattle.readers.specs.Reader.{Reader, both, mapped, one, token_by, skip, close, only, else_by, shut}
use Rattle.readers.specs.Room.{Room, at_height}
use Rattle.readers.specs.Infix.{ground, infix_read}
use Rattle.readers.specs.Forms.{maybe, optional, seps, ready_read, enclosed, else_if, ended, grown, beside, any_tree, at_least}
use Rattle.sml_lex.specs.declared.token.Token.{Token}
use Rattle.sml_fix.specs.Fixities.{Settings}
use Rattle.sml_grammar.specs.Words.{AS, OP, OPEN_PAREN, CLOSE_PAREN, OPEN_BRACKET, CLOSE_BRACKET, OPEN_BRACE, CLOSE_BRACE, COMMA, COLON, DOTS, WILDCARD, EQUALS, ARROW}
use Rattle.sml_grammar.specs.Tokens.{Firsts, firsts, just, union, is, the, among, tokens_of, scon, literals, long_vid, plain_long_names, plain_names, op_long_vid, infix_vid, long_tycons, stars, ALPHA, SYMBOL, STAR, LONG_ALPHA, LONG_SYMBOL, LONG_STAR, ZERO, DIGIT, NUMBER, LITERAL}
use Rattle.sml_grammar.specs.Types.{Tx}
use Rattle.sml_grammar.specs.ReadTypes.{ty_read}
use Rattle.sml_grammar.specs.Pats.{tight, right, Ap, Fp, Pt, Name, Inside, Tail, Operand, bare_of, op_of, id_of, any_of, lit_of, fields_of, items_of, paren_of, rest_of, vid_field_of, named_of, goes_on, operand_of, infix_of, top, typed_of, is_bare, layer_of, vid_or_lab, other_lab, other_labels}

-- ---- what they begin with, and what they may go on with

abbrev pub name_firsts : Firsts
name_firsts = union plain_long_names (just OP)

abbrev pub other_firsts : Firsts
other_firsts = union (just WILDCARD) (union literals (union (just OPEN_BRACE) (union (just OPEN_BRACKET) (just OPEN_PAREN))))

abbrev pub at_firsts : Firsts
at_firsts = union name_firsts other_firsts

abbrev pub begins_name : Settings → Token → Bool
begins_name fix = among fix name_firsts

abbrev pub begins_other : Token → Bool
begins_other = tokens_of other_firsts

abbrev pub begins_at : Settings → Token → Bool
begins_at fix = among fix at_firsts

abbrev pub vid_firsts : Firsts
vid_firsts = union (just DOTS) plain_names

abbrev pub field_firsts : Firsts
field_firsts = union vid_firsts other_labels

abbrev pub begins_field : Settings → Token → Bool
begins_field fix = among fix field_firsts

-- with a row or a type before it: atoms, identifiers of any status, and what types go on with
abbrev pub inner_goes : Firsts
inner_goes = firsts (OP ∷ WILDCARD ∷ OPEN_BRACE ∷ OPEN_BRACKET ∷ OPEN_PAREN ∷ ARROW ∷ [])
    (ALPHA ∷ SYMBOL ∷ STAR ∷ LONG_ALPHA ∷ LONG_SYMBOL ∷ LONG_STAR ∷ ZERO ∷ DIGIT ∷ NUMBER ∷ LITERAL ∷ []) (ALPHA ∷ SYMBOL ∷ STAR ∷ LONG_ALPHA ∷ LONG_SYMBOL ∷ LONG_STAR ∷ ZERO ∷ DIGIT ∷ NUMBER ∷ LITERAL ∷ [])

abbrev pub typed_goes : Firsts
typed_goes = union inner_goes (just COLON)

abbrev pub pat_goes : Firsts
pat_goes = union typed_goes (just AS)

abbrev pub field_goes : Firsts
field_goes = union pat_goes (just EQUALS)

-- ---- one level

abbrev pub name_level : Settings → Reader Token Name
name_level fix = else_if (among fix plain_long_names) (mapped bare_of (token_by (long_vid fix))) (mapped op_of (both (token_by (the OP)) (token_by op_long_vid)))

abbrev pub inside_read : Settings → Reader Token Pt → ℕ → Reader Token Inside
inside_read fix pat h =
    else_if (is CLOSE_PAREN) (mapped (λ u. Inside.Empty) (one (is CLOSE_PAREN)))
    (only (begins_at fix) 2 (mapped Inside.Parts (both pat (else_if (is CLOSE_PAREN) (mapped (λ u. None) (one (is CLOSE_PAREN))) (mapped (λ x. Some x) (skip (is COMMA) (close (seps (is COMMA) pat) (is CLOSE_PAREN))))))) h)

abbrev pub fields_read : Settings → Reader Token Fp → ℕ → Reader Token (List Fp)
fields_read fix field h =
    else_if (is CLOSE_BRACE) (mapped (λ u. []) (one (is CLOSE_BRACE)))
    (only (begins_field fix) 1 (close (ready_read (is COMMA) goes_on field) (is CLOSE_BRACE)) h)

abbrev pub other_level : Settings → Reader Token Fp → Reader Token Pt → ℕ → Reader Token Ap
other_level fix field pat h =
    else_by (is WILDCARD) 0 (mapped any_of (token_by (the WILDCARD)))
    (else_by (tokens_of literals) 0 (mapped lit_of (token_by scon))
    (else_by (is OPEN_BRACE) 0 (mapped fields_of (both (token_by (the OPEN_BRACE)) (fields_read fix field h)))
    (else_by (is OPEN_BRACKET) 0 (mapped items_of (both (token_by (the OPEN_BRACKET)) (enclosed (begins_at fix) 2 (is COMMA) pat (is CLOSE_BRACKET) h)))
    (only (is OPEN_PAREN) 0 (mapped paren_of (both (token_by (the OPEN_PAREN)) (inside_read fix pat h))) h) h) h) h) h

abbrev pub at_level : Settings → Reader Token Fp → Reader Token Pt → ℕ → Reader Token Ap
at_level fix field pat h = else_by (begins_name fix) 0 (mapped id_of (name_level fix)) (other_level fix field pat h) h

abbrev pub tail_read : Reader Token Tx → Reader Token Pt → ℕ → Reader Token Tail
tail_read ty pat h =
    else_by (is COLON) 1 (mapped Tail.Typed (both (skip (is COLON) ty) (maybe (is AS) 2 (skip (is AS) pat) h)))
    (else_by (is EQUALS) 2 (mapped Tail.Named (skip (is EQUALS) pat)) (only (is AS) 2 (mapped Tail.Layered (skip (is AS) pat)) h) h) h

abbrev pub begins_tail : Token → Bool
begins_tail = tokens_of (union (just COLON) (union (just EQUALS) (just AS)))

abbrev pub vids_read : Settings → Reader Token Tx → Reader Token Pt → ℕ → Reader Token Fp
vids_read fix ty pat h =
    else_if (is DOTS) (mapped rest_of (ended (tokens_of field_goes) (token_by (the DOTS))))
    (mapped vid_field_of (both (token_by (vid_or_lab fix)) (ended (tokens_of field_goes) (maybe begins_tail 1 (tail_read ty pat h) h))))

abbrev pub field_level : Settings → Reader Token Tx → Reader Token Pt → ℕ → Reader Token Fp
field_level fix ty pat h =
    else_by (among fix vid_firsts) 0 (vids_read fix ty pat h)
    (only (among fix other_labels) 2 (mapped named_of (both (token_by (other_lab fix)) (ended (tokens_of field_goes) (skip (is EQUALS) pat)))) h) h

abbrev pub operand_read : Settings → Reader Token Name → Reader Token Ap → Reader Token Ap → ℕ → Reader Token Operand
operand_read fix name at other h =
    ended (begins_at fix) (else_by (begins_name fix) 1 (mapped Operand.Con (both name (optional (begins_at fix) at))) (only begins_other 1 (mapped Operand.Atom other) h) h)

abbrev pub row_level : Settings → Bool → Reader Token Operand → (Floor → Reader Token Pt) → ℕ → Floor → Reader Token Pt
row_level fix b operand inner h n = infix_read (tight fix) (right fix) (infix_vid fix) top (at_least 2) operand_of infix_of operand inner (at_height h b) n

-- a row, and a type that is behind it; what neither may be followed by is refused at once
abbrev pub typed_level : Reader Token Pt → Reader Token Tx → ℕ → Reader Token Pt
typed_level row ty h = grown (is COLON) any_tree (at_least 2) typed_of (ended (tokens_of inner_goes) row) (ended (tokens_of inner_goes) (skip (is COLON) ty)) h

abbrev pub pat_level : Reader Token Pt → Reader Token Pt → ℕ → Reader Token Pt
pat_level typed pat h = beside (is AS) is_bare 2 layer_of typed (skip (is AS) pat) h

unfoldable mutual
  pub name_read : ℕ → Settings → Reader Token Name
  name_read zero fix s = shut (begins_name fix) s
  name_read (suc h) fix s = name_level fix s

  pub other_read : ℕ → Bool → Settings → Reader Token Ap
  other_read zero b fix s = shut begins_other s
  other_read (suc h) b fix s = other_level fix (field_read h b fix) (pat_read h b fix) h s

  pub at_read : ℕ → Bool → Settings → Reader Token Ap
  at_read zero b fix s = shut (begins_at fix) s
  at_read (suc h) b fix s = at_level fix (field_read h b fix) (pat_read h b fix) h s

  pub field_read : ℕ → Bool → Settings → Reader Token Fp
  field_read zero b fix s = shut (begins_field fix) s
  field_read (suc h) b fix s = field_level fix (ty_read h) (pat_read h b fix) h s

  -- a row on a floor
  pub row_read : ℕ → Bool → Floor → Settings → Reader Token Pt
  row_read zero b n fix s = shut (begins_at fix) s
  row_read (suc h) b n fix s = row_level fix b (operand_read fix (name_read h fix) (at_read h b fix) (other_read h b fix) h) (λ m. row_read h b m fix) h n s

  pub typed_read : ℕ → Bool → Settings → Reader Token Pt
  typed_read zero b fix s = shut (begins_at fix) s
  typed_read (suc h) b fix s =
      typed_level (row_level fix b (operand_read fix (name_read h fix) (at_read h b fix) (other_read h b fix) h) (λ m. row_read h b m fix) h ground) (ty_read h) h s

  -- a pattern of at most this height
  pub pat_read : ℕ → Bool → Settings → Reader Token Pt
  pat_read zero b fix s = shut (begins_at fix) s
  pat_read (suc h) b fix s =
      pat_level (typed_level (row_level fix b (operand_read fix (name_read h fix) (at_read h b fix) (other_read h b fix) h) (λ m. row_read h b m fix) h ground) (ty_read h) h) (pat_read h b fix) h s
