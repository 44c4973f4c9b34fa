-- The readers as the code goes through them: each takes a token, and type variables are read by themselves.
use Rattle.std.proofs.Common.{◌≡◌, ℕ, suc, ◌-◌, ◌<◌, false, List, refl, ap, ◌∙◌, arith}
use Rattle.readers.specs.Reader.{Reader, both, token_by, skip, close, mapped}
use Rattle.readers.specs.Forms.{seps, ended}
use Rattle.readers.specs.Room.{at_height}
use Rattle.readers.proofs.Bundle.{Known}
use Rattle.readers.proofs.Choice.{remade}
use Rattle.readers.proofs.RowLoop.{Shortens}
use Rattle.tl_text.specs.declared.place.Place.{Place}
use Rattle.sml_lex.specs.declared.token.Token.{Token}
use Rattle.sml_scan.proofs.Shorter.{kept, token_shorter, mapped_shorter, both_shorter, skip_shorter, close_shorter, else_if_shorter, seps_shorter}
use Rattle.sml_grammar.specs.Words.{AND, CLOSE_PAREN, COLON, COMMA, END, EQUALS, OPEN_PAREN}
use Rattle.sml_grammar.specs.Tokens.{is, the, tokens_of, any_vid, long_strid, long_tycon, tycon, tyvar}
use Rattle.sml_grammar.specs.ReadTypes.{ty_read}
use Rattle.sml_grammar.proofs.Types.{ty_exact}
use Rattle.sml_grammar_exp.specs.Binds.{some_vars, one_var, with_vars, no_vars}
use Rattle.sml_grammar_sig.specs.Descs.{named_of, real_bind_of, desc_of}
use Rattle.sml_grammar_sig.specs.ReadDescs.{begins_vars, con_read, cons_level, cons_read, desc_read, descs_read, vars_data, named_read, real_bind_level, real_bind_read, under_read, vars_read}
use Rattle.sml_grammar_sig.specs.Sigs.{Sx}
use Rattle.sml_grammar_sig.specs.ReadSigs.{body_level, body_read, data_of, head_level, head_read, spec_goes, spec_read, suffix_read, val_read}
use Rattle.sml_grammar_sig.proofs.Descs.{con, cons_exact, real_bind_exact}
use Rattle.sml_grammar_sig.proofs.Sigs.{suffix_item}
use Rattle.sml_parse_ty.proofs.Steps.{ty_less}
use Rattle.sml_parse_bind.proofs.Steps.{phrase_less, word_less, under_is, vars_are}
use Rattle.sml_parse_sig.specs.Levels as levels

-- ---- each reader takes a token

vars_shorter : {X : Type 0} (p : Reader Token X) → Shortens p → Shortens (vars_read p)
vars_shorter p P =
    let inner : Reader Token (List _) = close (seps (is COMMA) (token_by tyvar)) (is CLOSE_PAREN) in
    else_if_shorter (is OPEN_PAREN) (mapped some_vars (both (token_by (the OPEN_PAREN)) (both inner p))) (mapped one_var (both (token_by tyvar) p))
    (mapped_shorter some_vars (both (token_by (the OPEN_PAREN)) (both inner p)) (both_shorter (token_by (the OPEN_PAREN)) (both inner p) (token_shorter (the OPEN_PAREN))
    (kept (both inner p) (both_shorter inner p (close_shorter (seps (is COMMA) (token_by tyvar)) (is CLOSE_PAREN) (kept (seps (is COMMA) (token_by tyvar)) (seps_shorter (is COMMA) (token_by tyvar) (token_shorter tyvar)))) (kept p P)))))
    (mapped_shorter one_var (both (token_by tyvar) p) (both_shorter (token_by tyvar) p (token_shorter tyvar) (kept p P)))

under_shorter : {X : Type 0} (p : Reader Token X) → Shortens p → Shortens (under_read p)
under_shorter p P = else_if_shorter begins_vars (mapped with_vars (vars_read p)) (mapped no_vars p) (mapped_shorter with_vars (vars_read p) (vars_shorter p P)) (mapped_shorter no_vars p P)

named_less : Shortens named_read
named_less = mapped_shorter named_of (under_read (token_by tycon)) (under_shorter (token_by tycon) (token_shorter tycon))

pub and_named_less : Shortens (skip (is AND) named_read)
and_named_less = word_less AND named_read named_less

pub and_con_less : (word h : ℕ) → Shortens (skip (is word) (con_read (ty_read h) h))
and_con_less word h = word_less word (con_read (ty_read h) h) (phrase_less (con (ty_exact Known.Readings h)) (at_height h false) (omega arith))

cons_less : (h : ℕ) → Shortens (cons_read h)
cons_less h = phrase_less (cons_exact Known.Readings h) (at_height h false) (omega arith)

pub and_desc_less : (h : ℕ) → Shortens (skip (is AND) (desc_read (cons_read h)))
and_desc_less h =
    let right : Reader Token _ = skip (is EQUALS) (cons_read h) in
    let all : Reader Token _ = both (token_by tycon) right in
    word_less AND (desc_read (cons_read h)) (mapped_shorter desc_of (under_read all)
    (under_shorter all (both_shorter (token_by tycon) right (token_shorter tycon) (kept right (skip_shorter (is EQUALS) (cons_read h) (kept (cons_read h) (cons_less h)))))))

pub and_val_less : (h : ℕ) → Shortens (skip (is AND) (val_read (ty_read h)))
and_val_less h =
    let right : Reader Token _ = skip (is COLON) (ty_read h) in
    word_less AND (val_read (ty_read h)) (both_shorter (token_by any_vid) right (token_shorter any_vid) (kept right (skip_shorter (is COLON) (ty_read h) (kept (ty_read h) (ty_less h)))))

pub equal_tycon_less : Shortens (skip (is EQUALS) (token_by long_tycon))
equal_tycon_less = word_less EQUALS (token_by long_tycon) (token_shorter long_tycon)

pub equal_strid_less : Shortens (skip (is EQUALS) (token_by long_strid))
equal_strid_less = word_less EQUALS (token_by long_strid) (token_shorter long_strid)

pub suffix_less : (h : ℕ) (x : Sx) → Shortens (suffix_read (real_bind_read h) h x)
suffix_less h x = phrase_less (suffix_item (real_bind_exact Known.Readings h) x) (at_height h false) (omega arith)

-- ---- type variables by themselves

pub named_is : (s : List Token) → named_read s ≡ levels.named_parts s
named_is s = ap (remade named_of) (under_is (token_by tycon) s)

pub desc_is : (h : ℕ) (s : List Token) → desc_read (cons_read h) s ≡ levels.desc_parts h s
desc_is h s = ap (remade desc_of) (under_is (both (token_by tycon) (skip (is EQUALS) (cons_read h))) s)

pub vars_is : (place : Place) (h : ℕ) (s : List Token) → mapped (λ x. data_of (place, vars_data x)) (levels.datatypes_under h) s ≡ mapped (λ x. data_of (place, vars_data x)) (levels.datatypes_parts h) s
vars_is place h s = ap (remade (λ x. data_of (place, vars_data x))) (vars_are (both (token_by tycon) (skip (is EQUALS) (ended (tokens_of spec_goes) (descs_read (cons_read h))))) s)

pub real_is : (h : ℕ) (s : List Token) → mapped real_bind_of (under_read (both (token_by long_tycon) (skip (is EQUALS) (ty_read h)))) s ≡ levels.real_parts h s
real_is h s = ap (remade real_bind_of) (under_is (both (token_by long_tycon) (skip (is EQUALS) (ty_read h))) s)

-- ---- behind the test of the room

cons_suc : (h : ℕ) (s : List Token) → cons_read (suc h) s ≡ cons_level (ty_read h) h s
unfolding cons_read
cons_suc h s = refl

pub cons_is : (h : ℕ) (s : List Token) → 0 < h → cons_read h s ≡ cons_level (ty_read (h - 1)) (h - 1) s
cons_is h s lt =
    let same : h ≡ suc (h - 1) = omega arith in
    ap (λ (k : ℕ). cons_read k s) same ∙ cons_suc (h - 1) s

real_suc : (h : ℕ) (s : List Token) → real_bind_read (suc h) s ≡ real_bind_level (ty_read h) h s
unfolding real_bind_read
real_suc h s = refl

pub real_bind_is : (h : ℕ) (s : List Token) → 0 < h → real_bind_read h s ≡ real_bind_level (ty_read (h - 1)) (h - 1) s
real_bind_is h s lt =
    let same : h ≡ suc (h - 1) = omega arith in
    ap (λ (k : ℕ). real_bind_read k s) same ∙ real_suc (h - 1) s

body_suc : (h : ℕ) (s : List Token) → body_read (suc h) s ≡ body_level (levels.specs_to END h) s
unfolding body_read
body_suc h s = refl

pub body_read_is : (h : ℕ) (s : List Token) → 0 < h → body_read h s ≡ body_level (levels.specs_to END (h - 1)) s
body_read_is h s lt =
    let same : h ≡ suc (h - 1) = omega arith in
    ap (λ (k : ℕ). body_read k s) same ∙ body_suc (h - 1) s

head_suc : (h : ℕ) (s : List Token) → head_read (suc h) s ≡ head_level (levels.specs_to END h) s
unfolding head_read
head_suc h s = refl

pub head_read_is : (h : ℕ) (s : List Token) → 0 < h → head_read h s ≡ head_level (levels.specs_to END (h - 1)) s
head_read_is h s lt =
    let same : h ≡ suc (h - 1) = omega arith in
    ap (λ (k : ℕ). head_read k s) same ∙ head_suc (h - 1) s

spec_suc : (h : ℕ) (s : List Token) → spec_read (suc h) s ≡ levels.spec h s
unfolding spec_read
spec_suc h s = refl

pub spec_is : (h : ℕ) (s : List Token) → 0 < h → spec_read h s ≡ levels.spec (h - 1) s
spec_is h s lt =
    let same : h ≡ suc (h - 1) = omega arith in
    ap (λ (k : ℕ). spec_read k s) same ∙ spec_suc (h - 1) s
