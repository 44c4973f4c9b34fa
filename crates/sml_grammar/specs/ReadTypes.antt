-- Reading types, with one token of view.
use Rattle.std.specs.Prelude.{ℕ, zero, suc, Bool, List}
use Rattle.readers.specs.Reader.{Reader, both, mapped, one, token_by, skip, close, only, else_by, shut}
use Rattle.readers.specs.Room.{Room}
use Rattle.readers.specs.Forms.{seps, enclosed, else_if, grown, grown_once, any_tree, height_of, at_least}
use Rattle.sml_lex.specs.declared.token.Token.{Token}
use Rattle.sml_grammar.specs.Words.{OPEN_PAREN, CLOSE_PAREN, OPEN_BRACE, CLOSE_BRACE, COMMA, COLON, ARROW}
use Rattle.sml_grammar.specs.Tokens.{Firsts, just, union, is, the, tokens_of, tyvar, tyvars, lab, labels, long_tycon, long_tycons, is_times}
use Rattle.sml_grammar.specs.Types.{Tx, Field, Behind, tyvar_of, con_of, fields_of, paren_of, applied, tupled, mapped_to}

-- what a type begins with
abbrev pub ty_firsts : Firsts
ty_firsts = union tyvars (union long_tycons (union (just OPEN_BRACE) (just OPEN_PAREN)))

abbrev pub begins_ty : Token → Bool
begins_ty = tokens_of ty_firsts

abbrev pub field_read : Reader Token Tx → Reader Token Field
field_read ty = both (token_by lab) (skip (is COLON) ty)

abbrev pub behind_read : Reader Token Tx → Reader Token Behind
behind_read ty = else_if (is CLOSE_PAREN) (mapped (λ u. Behind.Closed) (one (is CLOSE_PAREN)))
    (mapped Behind.Args (skip (is COMMA) (both (close (seps (is COMMA) ty) (is CLOSE_PAREN)) (token_by long_tycon))))

-- where a type inside may have the height
abbrev pub atom_level : Reader Token Tx → ℕ → Reader Token Tx
atom_level ty h =
    else_by (tokens_of tyvars) 0 (mapped tyvar_of (token_by tyvar))
    (else_by (tokens_of long_tycons) 0 (mapped con_of (token_by long_tycon))
    (else_by (is OPEN_BRACE) 0 (mapped fields_of (both (token_by (the OPEN_BRACE)) (enclosed (tokens_of labels) 1 (is COMMA) (field_read ty) (is CLOSE_BRACE) h)))
    (only (is OPEN_PAREN) 1 (mapped paren_of (both (token_by (the OPEN_PAREN)) (both ty (behind_read ty)))) h) h) h) h

abbrev pub con_level : Reader Token Tx → ℕ → Reader Token Tx
con_level ty h = grown (tokens_of long_tycons) any_tree height_of applied (atom_level ty h) (token_by long_tycon) h

abbrev pub tuple_level : Reader Token Tx → Reader Token Tx → ℕ → Reader Token Tx
tuple_level ty con h = grown_once is_times any_tree (at_least 1) tupled (con_level ty h) (skip is_times (seps is_times con)) h

abbrev pub ty_level : Reader Token Tx → Reader Token Tx → ℕ → Reader Token Tx
ty_level ty con h = grown_once (is ARROW) any_tree (at_least 1) mapped_to (tuple_level ty con h) (skip (is ARROW) ty) h

unfoldable mutual
  pub con_read : ℕ → Reader Token Tx
  con_read zero s = shut begins_ty s
  con_read (suc h) s = con_level (ty_read h) h s

  pub tuple_read : ℕ → Reader Token Tx
  tuple_read zero s = shut begins_ty s
  tuple_read (suc h) s = tuple_level (ty_read h) (con_read h) h s

  -- a type of at most this height
  pub ty_read : ℕ → Reader Token Tx
  ty_read zero s = shut begins_ty s
  ty_read (suc h) s = ty_level (ty_read h) (con_read h) h s

-- the same in a room
abbrev pub con_in : Room → Reader Token Tx
con_in r = con_read r.height

abbrev pub tuple_in : Room → Reader Token Tx
tuple_in r = tuple_read r.height

abbrev pub ty_in : Room → Reader Token Tx
ty_in r = ty_read r.height
