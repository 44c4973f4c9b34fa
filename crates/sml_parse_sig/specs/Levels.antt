-- The readers of the grammar part by part, by the height that stands inside: what the functions of the code give. Type variables
-- are read by themselves, and then what they stand before.
use Rattle.std.specs.Prelude.{ℕ, Bool, true, false, List, Option}
use Rattle.readers.specs.Reader.{Reader, both, bound, mapped, token_by, skip, one, only, else_by, row, steps}
use Rattle.readers.specs.Infix.{ups}
use Rattle.readers.specs.Forms.{ended, else_if, maybe}
use Rattle.sml_lex.specs.declared.token.Token.{Token}
use Rattle.sml_grammar.specs.Words.{AND, COLON, DATATYPE, EQUALS, EXCEPTION, STRUCTURE, TYPE, VAL}
use Rattle.sml_grammar.specs.Tokens.{is, the, tokens_of, alphas, long_strid, long_tycon, tycon}
use Rattle.sml_grammar.specs.Types.{Ident}
use Rattle.sml_grammar.specs.ReadTypes.{ty_read}
use Rattle.sml_grammar_sig.specs.Descs.{Vars, Named, named_of, Re, real_bind_of, Cs, Dd, desc_of}
use Rattle.sml_grammar_sig.specs.ReadDescs.{Descs, Data, Right, con_read, cons_read, data_read, descs_read, named_read, real_bind_read, right_read, tybind_read, vars_read}
use Rattle.sml_grammar_sig.specs.Sigs.{Sx, Sp, Ss, Shared, exns_of, is_real, strs_of, vals_of}
use Rattle.sml_grammar_sig.specs.ReadSigs as read
use Rattle.sml_grammar_sig.specs.ReadSigs.{Behind, Turn, begins_item, behind_read, begins_behind, body_read, bare_name, data_of, equal_read, further_read, goes_on, head_read, item_read, lean_head, lean_level, lone_next, more_read, next_read, other_level, roomy_by, spec_goes, spec_level, spec_read, strs_level, suffix_read, suffixed, turn_by, types_of, val_read}
use Rattle.readers.specs.Forms.{seps}
use Rattle.sml_parse_bind.specs.Levels as binds

-- ---- behind type variables

abbrev pub named_parts : Reader Token Named
named_parts = mapped named_of (both binds.under (token_by tycon))

abbrev pub real_parts : ℕ → Reader Token Re
real_parts h = mapped real_bind_of (both binds.under (both (token_by long_tycon) (skip (is EQUALS) (ty_read h))))

abbrev pub desc_parts : ℕ → Reader Token Dd
desc_parts h = mapped desc_of (both binds.under (both (token_by tycon) (skip (is EQUALS) (cons_read h))))

-- ---- datatypes

abbrev pub right : ℕ → Reader Token Right
right h = right_read spec_goes (cons_read h) h

-- behind `datatype`, where type variables begin
abbrev pub datatypes_under : ℕ → Reader Token (Vars × (Ident × Descs Cs))
datatypes_under h = vars_read (both (token_by tycon) (skip (is EQUALS) (ended (tokens_of spec_goes) (descs_read (cons_read h)))))

-- the same in two parts
abbrev pub datatypes_parts : ℕ → Reader Token (Vars × (Ident × Descs Cs))
datatypes_parts h = both binds.vars (both (token_by tycon) (skip (is EQUALS) (ended (tokens_of spec_goes) (descs_read (cons_read h)))))

abbrev pub datas : ℕ → Reader Token Data
datas h = data_read spec_goes (cons_read h) h

-- ---- what is made equal, and types

abbrev pub shared : Reader Token Shared
shared = else_if (is TYPE) (mapped Shared.OfTypes (skip (is TYPE) (equal_read (token_by long_tycon)))) (mapped Shared.OfStructures (equal_read (token_by long_strid)))

-- `=` and a type, and further bindings
abbrev pub equal : ℕ → Reader Token Behind
equal h = only (is EQUALS) 1 (mapped Behind.Equal (both (skip (is EQUALS) (ty_read h)) (row (is AND) (skip (is AND) (tybind_read (ty_read h)))))) h

abbrev pub behind_name : ℕ → Reader Token (Option Behind)
behind_name h = maybe begins_behind 0 (behind_read (ty_read h) h) h

abbrev pub types : ℕ → Reader Token (Named × Option Behind)
types h = ended (tokens_of spec_goes) (both named_read (maybe begins_behind 0 (behind_read (ty_read h) h) h))

-- ---- rows of specifications

abbrev pub item : ℕ → Bool → Reader Token (Option Sp)
item h p = roomy_by p begins_item (item_read (spec_read h)) h

abbrev pub closing : ℕ → Bool → ℕ → Reader Token (Unit {0})
closing word p h = roomy_by p (is word) (one (is word)) h

abbrev pub specs_to : ℕ → ℕ → Reader Token (List Sp)
specs_to word h = read.specs_to word (spec_read h) h

-- ---- signatures

-- with the types behind it
abbrev pub grown : ℕ → Sx → Reader Token Sx
grown h s = mapped (ups suffixed s) (steps goes_on suffixed (suffix_read (real_bind_read h) h) s)

abbrev pub further : ℕ → Bool → ℕ → ℕ → Reader Token Turn
further word true n h = else_if (tokens_of alphas) (next_read word (head_read h)) (more_read (real_bind_read h) n h)
further word false n h = next_read word (head_read h)

abbrev pub turn : ℕ → ℕ → Sx → Reader Token Turn
turn word h s = turn_by (is_real s) word (head_read h) (real_bind_read h) (read.below s) h

abbrev pub structures : ℕ → Reader Token (List Ss)
structures h = ended (tokens_of spec_goes) (strs_level COLON (head_read h) (real_bind_read h) h)

abbrev pub lean : ℕ → Reader Token Sx
lean h = lean_level (body_read h) (real_bind_read h) h

abbrev pub include : ℕ → Reader Token (Sx × Option (List Ident))
include h = ended (tokens_of spec_goes) (bound (lean h) (λ s. further_read (bare_name s)))

-- ---- specifications

abbrev pub with_signatures : ℕ → Reader Token Sp
with_signatures h =
    else_by (is VAL) 1 (mapped vals_of (ended (tokens_of spec_goes) (both (token_by (the VAL)) (seps (is AND) (val_read (ty_read h))))))
    (only (is STRUCTURE) 1 (mapped strs_of (ended (tokens_of spec_goes) (both (token_by (the STRUCTURE)) (strs_level COLON (head_read h) (real_bind_read h) h)))) h) h

abbrev pub with_types : ℕ → Reader Token Sp
with_types h =
    else_by (is TYPE) 0 (mapped types_of (ended (tokens_of spec_goes) (both (token_by (the TYPE)) (both named_read (maybe begins_behind 0 (behind_read (ty_read h) h) h)))))
    (else_by (is DATATYPE) 0 (mapped data_of (both (token_by (the DATATYPE)) (datas h)))
    (else_by (is EXCEPTION) 0 (mapped exns_of (ended (tokens_of spec_goes) (both (token_by (the EXCEPTION)) (seps (is AND) (con_read (ty_read h) h)))))
    (with_signatures h) h) h) h

abbrev pub others : ℕ → Reader Token Sp
others h = other_level (ty_read h) (cons_read h) (strs_level COLON (head_read h) (real_bind_read h) h) h

abbrev pub spec : ℕ → Reader Token Sp
spec h = spec_level (ty_read h) (cons_read h) (lean h) (strs_level COLON (head_read h) (real_bind_read h) h) h
