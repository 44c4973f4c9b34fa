-- The readers as the code goes through them.
use Rattle.std.proofs.Common.{◌≡◌, ℕ, zero, suc, ◌-◌, ◌<◌, true, false, ltb, List, [], Ok, Err, refl, ap, ◌∙◌, arith}
use Rattle.std.proofs.lemmas.Bool.{le-ltb}
use Rattle.tl_text.specs.declared.place.Place.{Place}
use Rattle.readers.specs.Reader.{first, head_is, Answer, Reader, ◌>>=◌, both, mapped, token_by, one, skip, close, only, else_by}
use Rattle.readers.specs.Forms.{height_of, at_least, seps, enclosed}
use Rattle.readers.proofs.Choice.{remade}
use Rattle.readers.proofs.RowLoop.{Shortens}
use Rattle.sml_lex.specs.declared.token.Token.{Token}
use Rattle.sml_scan.proofs.Shorter.{kept, token_shorter, one_shorter, mapped_shorter, both_shorter, skip_shorter, close_shorter, shut_shorter, only_shorter, else_by_shorter, else_if_shorter, seps_shorter, grown_shorter, once_shorter}
use Rattle.sml_grammar.specs.Words.{OPEN_PAREN, CLOSE_PAREN, OPEN_BRACE, CLOSE_BRACE, COMMA, COLON, ARROW}
use Rattle.sml_grammar.specs.Tokens.{is, the, tokens_of, tyvar, tyvars, lab, labels, long_tycon, long_tycons, is_times}
use Rattle.sml_grammar.specs.Types.{Tx, Field, Behind, LongIdent, tyvar_of, con_of, fields_of, paren_of, applied, tupled, mapped_to}
use Rattle.sml_grammar.specs.ReadTypes.{begins_ty, field_read, behind_read, atom_level, con_level, tuple_level, ty_level, con_read, tuple_read, ty_read}

-- ---- each reader takes a token

field_shorter : (ty : Reader Token Tx) → Shortens ty → Shortens (field_read ty)
field_shorter ty T = both_shorter (token_by lab) (skip (is COLON) ty) (token_shorter lab) (kept (skip (is COLON) ty) (skip_shorter (is COLON) ty (kept ty T)))

abbrev pub fields_read : Reader Token Tx → ℕ → Reader Token (List Field)
fields_read ty h = enclosed (tokens_of labels) 1 (is COMMA) (field_read ty) (is CLOSE_BRACE) h

abbrev record_read : Reader Token Tx → ℕ → Reader Token (Place × List Field)
record_read ty h = both (token_by (the OPEN_BRACE)) (fields_read ty h)

record_shorter : (ty : Reader Token Tx) → Shortens ty → (h : ℕ) → Shortens (record_read ty h)
record_shorter ty T h =
    let inner : Reader Token (List Field) = close (seps (is COMMA) (field_read ty)) (is CLOSE_BRACE) in
    let none : Reader Token (List Field) = mapped (λ u. []) (one (is CLOSE_BRACE)) in
    both_shorter (token_by (the OPEN_BRACE)) (fields_read ty h) (token_shorter (the OPEN_BRACE))
    (kept (fields_read ty h)
    (else_if_shorter (is CLOSE_BRACE) none (only (tokens_of labels) 1 inner h) (mapped_shorter (λ u. []) (one (is CLOSE_BRACE)) (one_shorter (is CLOSE_BRACE)))
    (only_shorter (tokens_of labels) 1 inner h
    (close_shorter (seps (is COMMA) (field_read ty)) (is CLOSE_BRACE) (kept (seps (is COMMA) (field_read ty)) (seps_shorter (is COMMA) (field_read ty) (field_shorter ty T)))))))

abbrev args_read : Reader Token Tx → Reader Token (List Tx)
args_read ty = close (seps (is COMMA) ty) (is CLOSE_PAREN)

behind_shorter : (ty : Reader Token Tx) → Shortens ty → Shortens (behind_read ty)
behind_shorter ty T =
    let closed : Reader Token Behind = mapped (λ u. Behind.Closed) (one (is CLOSE_PAREN)) in
    let more : Reader Token (List Tx × LongIdent) = both (args_read ty) (token_by long_tycon) in
    else_if_shorter (is CLOSE_PAREN) closed (mapped Behind.Args (skip (is COMMA) more)) (mapped_shorter (λ u. Behind.Closed) (one (is CLOSE_PAREN)) (one_shorter (is CLOSE_PAREN)))
    (mapped_shorter Behind.Args (skip (is COMMA) more) (skip_shorter (is COMMA) more (kept more
    (both_shorter (args_read ty) (token_by long_tycon) (close_shorter (seps (is COMMA) ty) (is CLOSE_PAREN) (kept (seps (is COMMA) ty) (seps_shorter (is COMMA) ty T))) (kept (token_by long_tycon) (token_shorter long_tycon))))))

abbrev paren_read : Reader Token Tx → Reader Token (Place × (Tx × Behind))
paren_read ty = both (token_by (the OPEN_PAREN)) (both ty (behind_read ty))

atom_shorter : (ty : Reader Token Tx) → Shortens ty → (h : ℕ) → Shortens (atom_level ty h)
atom_shorter ty T h =
    let last : Reader Token Tx = only (is OPEN_PAREN) 1 (mapped paren_of (paren_read ty)) h in
    let third : Reader Token Tx = else_by (is OPEN_BRACE) 0 (mapped fields_of (record_read ty h)) last h in
    let second : Reader Token Tx = else_by (tokens_of long_tycons) 0 (mapped con_of (token_by long_tycon)) third h in
    else_by_shorter (tokens_of tyvars) 0 (mapped tyvar_of (token_by tyvar)) second h (mapped_shorter tyvar_of (token_by tyvar) (token_shorter tyvar))
    (else_by_shorter (tokens_of long_tycons) 0 (mapped con_of (token_by long_tycon)) third h (mapped_shorter con_of (token_by long_tycon) (token_shorter long_tycon))
    (else_by_shorter (is OPEN_BRACE) 0 (mapped fields_of (record_read ty h)) last h (mapped_shorter fields_of (record_read ty h) (record_shorter ty T h))
    (only_shorter (is OPEN_PAREN) 1 (mapped paren_of (paren_read ty)) h (mapped_shorter paren_of (paren_read ty)
    (both_shorter (token_by (the OPEN_PAREN)) (both ty (behind_read ty)) (token_shorter (the OPEN_PAREN)) (kept (both ty (behind_read ty)) (both_shorter ty (behind_read ty) T (kept (behind_read ty) (behind_shorter ty T)))))))))

con_level_shorter : (ty : Reader Token Tx) → Shortens ty → (h : ℕ) → Shortens (con_level ty h)
con_level_shorter ty T h = grown_shorter (tokens_of long_tycons) height_of applied (atom_level ty h) (token_by long_tycon) h (atom_shorter ty T h) (token_shorter long_tycon)

abbrev factors : Reader Token Tx → Reader Token (List Tx)
factors con = skip is_times (seps is_times con)

factors_shorter : (con : Reader Token Tx) → Shortens con → Shortens (factors con)
factors_shorter con C = skip_shorter is_times (seps is_times con) (kept (seps is_times con) (seps_shorter is_times con C))

ty_level_shorter : (ty con : Reader Token Tx) → Shortens ty → Shortens con → (h : ℕ) → Shortens (ty_level ty con h)
ty_level_shorter ty con T C h =
    once_shorter (is ARROW) (at_least 1) mapped_to (tuple_level ty con h) (skip (is ARROW) ty) h
    (once_shorter is_times (at_least 1) tupled (con_level ty h) (factors con) h (con_level_shorter ty T h) (factors_shorter con C))
    (skip_shorter (is ARROW) ty (kept ty T))

mutual
  unfolding con_read tuple_read ty_read

  pub con_less : (h : ℕ) → Shortens (con_read h)
  con_less zero s z e = shut_shorter begins_ty s z e
  con_less (suc h) s z e = con_level_shorter (ty_read h) (ty_less h) h s z e

  pub ty_less : (h : ℕ) → Shortens (ty_read h)
  ty_less zero s z e = shut_shorter begins_ty s z e
  ty_less (suc h) s z e = ty_level_shorter (ty_read h) (con_read h) (ty_less h) (con_less h) h s z e

pub comma_ty_less : (h : ℕ) → Shortens (skip (is COMMA) (ty_read h))
comma_ty_less h = skip_shorter (is COMMA) (ty_read h) (kept (ty_read h) (ty_less h))

pub comma_field_less : (h : ℕ) → Shortens (skip (is COMMA) (field_read (ty_read h)))
comma_field_less h = skip_shorter (is COMMA) (field_read (ty_read h)) (kept (field_read (ty_read h)) (field_shorter (ty_read h) (ty_less h)))

pub star_con_less : (h : ℕ) → Shortens (skip is_times (con_read h))
star_con_less h = skip_shorter is_times (con_read h) (kept (con_read h) (con_less h))

-- ---- behind the test of the room

con_suc : (h : ℕ) (s : List Token) → con_read (suc h) s ≡ con_level (ty_read h) h s
unfolding con_read
con_suc h s = refl

pub con_is : (h : ℕ) (s : List Token) → 0 < h → con_read h s ≡ con_level (ty_read (h - 1)) (h - 1) s
con_is h s lt =
    let same : h ≡ suc (h - 1) = omega arith in
    ap (λ (k : ℕ). con_read k s) same ∙ con_suc (h - 1) s

ty_suc : (h : ℕ) (s : List Token) → ty_read (suc h) s ≡ ty_level (ty_read h) (con_read h) h s
unfolding ty_read
ty_suc h s = refl

pub ty_is : (h : ℕ) (s : List Token) → 0 < h → ty_read h s ≡ ty_level (ty_read (h - 1)) (con_read (h - 1)) (h - 1) s
ty_is h s lt =
    let same : h ≡ suc (h - 1) = omega arith in
    ap (λ (k : ℕ). ty_read k s) same ∙ ty_suc (h - 1) s

-- ---- alternatives

-- behind the first part
behind_first : {K S T U : Type 0} (f : S × T → U) (p : Reader K S) (q : Reader K T) (s rest : List K) (x : S) → p s ≡ Ok (x, rest) → mapped f (both p q) s ≡ mapped (λ y. f (x, y)) q rest
behind_first {K} {S} {T} {U} f p q s rest x e = rw e (go (q rest))
  where
    paired : T → List K → Answer K (S × T)
    paired y r = Ok ((x, y), r)

    go : (r : Answer K T) → remade f (r >>= λ y. paired y.0 y.1) ≡ remade (λ y. f (x, y)) r
    go (Ok y) = refl
    go (Err e) = refl

module _ (ty : Reader Token Tx) (h : ℕ) (s rest : List Token) (place : Place) (i : head_is (tokens_of tyvars) (first s) ≡ false) (j : head_is (tokens_of long_tycons) (first s) ≡ false) where
  pub atom_brace : head_is (is OPEN_BRACE) (first s) ≡ true → token_by (the OPEN_BRACE) s ≡ Ok (place, rest)
      → atom_level ty h s ≡ mapped (λ x. fields_of (place, x)) (fields_read ty h) rest
  atom_brace k e =
      let none : ltb h 0 ≡ false = le-ltb h 0 (omega arith) in
      rw i (rw j (rw k (rw none (behind_first fields_of (token_by (the OPEN_BRACE)) (fields_read ty h) s rest place e))))
