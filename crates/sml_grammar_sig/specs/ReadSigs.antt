-- Reading signature expressions and specifications: one token of view, and behind `and` a second one.
use Rattle.std.specs.Prelude.{ℕ, zero, suc, Bool, true, false, List, [], ◌∷◌, Option, Some, None, max, is_some}
use Rattle.tl_text.specs.declared.place.Place.{Place}
use Rattle.readers.specs.Reader.{Reader, both, bound, mapped, one, token_by, skip, only, else_by, row, steps, guard, shut}
use Rattle.readers.specs.Room.{Room}
use Rattle.readers.specs.Infix.{ups}
use Rattle.readers.specs.Forms.{maybe, nothing, optional, seps, else_if, ended, growth, highest, height_of}
use Rattle.sml_ast.specs.declared.sig.SigExp.{SigExp, out-SigExp}
use Rattle.sml_ast.specs.declared.sig.SigExp.TheOpen.{SigExp-F, Spec-F}
use Rattle.sml_ast.specs.declared.sig.Spec.{Spec, out-Spec, roll-Spec}
use Rattle.sml_lex.specs.declared.token.Token.{Token}
use Rattle.sml_grammar.specs.Words.{AND, BAR, CLOSE_PAREN, COLON, DATATYPE, END, EQTYPE, EQUALS, EXCEPTION, INCLUDE, OPEN_PAREN, SEMICOLON, SHARING, SIG, STRUCTURE, TYPE, VAL, WHERE}
use Rattle.sml_grammar.specs.Tokens.{Firsts, just, union, is, the, tokens_of, any_vid, alphas, long_strid, long_tycon, strid}
use Rattle.sml_grammar.specs.Types.{Ident, LongIdent, Tx, trees}
use Rattle.sml_grammar.specs.ReadTypes.{ty_read}
use Rattle.sml_grammar_sig.specs.Descs.{Named, Tb, Re, Cs}
use Rattle.sml_grammar_sig.specs.ReadDescs.{con_goes, many_read, named_read, tybind_read, con_read, data_read, cons_read, real_bind_read, Data, data_height}
use Rattle.sml_grammar_sig.specs.Sigs.{Sx, Sp, is_real, incl_of, specs_of, sig_at, real_of, further_of, Vs, Ss, vals_of, eqtypes_of, exns_of, strs_of, Shared, sharing_of, some_spec, no_spec, present}

-- ---- what they go on with, and what they begin with

abbrev pub goes_words : Firsts
goes_words = union (just BAR) (union (just AND) (union (just EQUALS) (just WHERE)))

-- with which some specification goes on
abbrev pub spec_goes : Firsts
spec_goes = union con_goes goes_words

abbrev pub from_val : Firsts
from_val = union (just VAL) (just STRUCTURE)

abbrev pub from_exn : Firsts
from_exn = union (just EXCEPTION) from_val

abbrev pub from_data : Firsts
from_data = union (just DATATYPE) from_exn

abbrev pub from_type : Firsts
from_type = union (just TYPE) from_data

abbrev pub from_sharing : Firsts
from_sharing = union (just SHARING) from_type

abbrev pub other_firsts : Firsts
other_firsts = union (just EQTYPE) from_sharing

abbrev pub spec_firsts : Firsts
spec_firsts = union (just INCLUDE) other_firsts

abbrev pub begins_spec : Token → Bool
begins_spec = tokens_of spec_firsts

-- a specification or a semicolon
abbrev pub item_firsts : Firsts
item_firsts = union (just SEMICOLON) spec_firsts

abbrev pub begins_item : Token → Bool
begins_item = tokens_of item_firsts

abbrev pub specs_goes : Firsts
specs_goes = union spec_goes item_firsts

abbrev pub head_firsts : Firsts
head_firsts = union (just SIG) alphas

abbrev pub begins_sig : Token → Bool
begins_sig = tokens_of head_firsts

-- with which a signature goes on
abbrev pub sig_goes : Firsts
sig_goes = union (just AND) (just WHERE)

abbrev pub goes_on : Token → Bool
goes_on = tokens_of sig_goes

-- ---- types behind a signature, one after another

-- the type behind a `where` or, with no place, behind a further `and`
abbrev pub Suffix : Type 0
Suffix = Option Place × Re

abbrev pub at_where : Place × Re → Suffix
at_where x = (Some x.0, x.1)

abbrev pub at_and : Re → Suffix
at_and b = (None, b)

abbrev pub suffixed : Sx → Suffix → Sx
suffixed s (None, b) = further_of s b
suffixed s (Some p, b) = real_of s (p, b)

-- the least room in which one more may stand behind it
abbrev pub below : Sx → ℕ
below s = suc (max 1 s.1)

abbrev pub where_read : Reader Token Re → Reader Token Suffix
where_read real = mapped at_where (both (token_by (the WHERE)) (skip (is TYPE) real))

abbrev pub and_read : Reader Token Re → Reader Token Suffix
and_read real = mapped at_and (skip (is AND) (skip (is TYPE) real))

-- `and` goes on where there is a `where`
abbrev pub suffix_by : Bool → Reader Token Re → ℕ → ℕ → Reader Token Suffix
suffix_by true real n h = else_if (is AND) (guard (growth (is AND) true n h) (and_read real)) (guard (growth (is WHERE) true n h) (where_read real))
suffix_by false real n h = guard (growth (is WHERE) true n h) (where_read real)

abbrev pub suffix_read : Reader Token Re → ℕ → Sx → Reader Token Suffix
suffix_read real h s = suffix_by (is_real s) real (below s) h

abbrev pub all_suffixed : Sx × List Suffix → Sx
all_suffixed x = ups suffixed x.0 x.1

-- where no `and` of another row may follow
abbrev pub sig_level : Reader Token Sx → Reader Token Re → ℕ → Reader Token Sx
sig_level head real h = mapped all_suffixed (bound head (steps goes_on suffixed (suffix_read real h)))

-- ---- rows of identifiers with signatures: behind `and` comes a type for the last signature, or the next identifier

pub data Turn : Type 0 where
  More : Suffix → Turn
  Next : Ss → Turn

abbrev pub turned : Ss → Turn → Ss
turned s (Turn.More u) = (s.0, suffixed s.1 u)
turned s (Turn.Next t) = t

abbrev pub gathered_from : Ss → List Turn → List Ss
gathered_from s [] = s ∷ []
gathered_from s (Turn.More u ∷ us) = gathered_from (s.0, suffixed s.1 u) us
gathered_from s (Turn.Next t ∷ us) = s ∷ gathered_from t us

abbrev pub gathered : Ss × List Turn → List Ss
gathered x = gathered_from x.0 x.1

-- an identifier, the word between, and a signature as far as its first `where`
abbrev pub str_read : ℕ → Reader Token Sx → Reader Token Ss
str_read word head = both (token_by strid) (skip (is word) head)

-- the next one
abbrev pub next_read : ℕ → Reader Token Sx → Reader Token Turn
next_read word head = mapped Turn.Next (str_read word head)

-- a type behind `and`, which stands behind what has this height at least
abbrev pub more_read : Reader Token Re → ℕ → ℕ → Reader Token Turn
more_read real n h = mapped (λ b. Turn.More (at_and b)) (guard (growth (is TYPE) true n h) (skip (is TYPE) real))

-- a type behind `where`
abbrev pub there_read : Reader Token Re → ℕ → ℕ → Reader Token Turn
there_read real n h = mapped Turn.More (guard (growth (is WHERE) true n h) (where_read real))

-- a type stands behind `and` where there is a `where` before
abbrev pub turn_by : Bool → ℕ → Reader Token Sx → Reader Token Re → ℕ → ℕ → Reader Token Turn
turn_by true word head real n h = else_if (is AND) (skip (is AND) (else_if (tokens_of alphas) (next_read word head) (more_read real n h))) (there_read real n h)
turn_by false word head real n h = else_if (is AND) (skip (is AND) (next_read word head)) (there_read real n h)

abbrev pub turn_read : ℕ → Reader Token Sx → Reader Token Re → ℕ → Ss → Reader Token Turn
turn_read word head real h s = turn_by (is_real s.1) word head real (below s.1) h

abbrev pub strs_level : ℕ → Reader Token Sx → Reader Token Re → ℕ → Reader Token (List Ss)
strs_level word head real h = mapped gathered (bound (str_read word head) (steps goes_on turned (turn_read word head real h)))

-- ---- what `include` stands before

abbrev pub name_in : SigExp-F SigExp Spec → Option Ident
name_in (SigExp-F.SigAt p v) = Some v
name_in _ = None

-- the identifier that a signature is, if it is no more
abbrev pub bare_name : Sx → Option Ident
bare_name s = name_in (out-SigExp s.0)

-- before further identifiers such a one takes no room
abbrev pub lean_by : Option Ident → ℕ → ℕ
lean_by None n = n
lean_by (Some v) n = 0

abbrev pub lean_height : Sx → ℕ
lean_height s = lean_by (bare_name s) s.1

abbrev pub names_in : Option Ident → List Ident → List Ident
names_in None vs = vs
names_in (Some v) vs = v ∷ vs

abbrev pub included : Place → Sx → Option (List Ident) → Sp
included p s None = incl_of (p, s)
included p s (Some vs) = (roll-Spec (Spec-F.Incls p (names_in (bare_name s) vs)), suc (lean_height s))

abbrev pub included_of : Place × (Sx × Option (List Ident)) → Sp
included_of x = included x.0 x.1.0 x.1.1

-- behind one identifier there may be further ones
abbrev pub further_read : Option Ident → Reader Token (Option (List Ident))
further_read None = ended (tokens_of alphas) (nothing None)
further_read (Some v) = optional (tokens_of alphas) (many_read (tokens_of alphas) (token_by strid))

abbrev pub lean_firsts : Firsts
lean_firsts = union alphas (just SIG)

abbrev pub begins_lean : Token → Bool
begins_lean = tokens_of lean_firsts

-- an identifier, whatever the room, or `sig .. end`
abbrev pub lean_head : Reader Token Sx → Reader Token Sx
lean_head body = else_if (tokens_of alphas) (mapped sig_at (token_by strid)) body

abbrev pub lean_level : Reader Token Sx → Reader Token Re → ℕ → Reader Token Sx
lean_level body real h = mapped all_suffixed (bound (lean_head body) (steps goes_on suffixed (suffix_read real h)))

abbrev pub include_read : Reader Token Sx → Reader Token Sp
include_read lean = mapped included_of (ended (tokens_of spec_goes) (both (token_by (the INCLUDE)) (bound lean (λ s. further_read (bare_name s)))))

-- ---- one level, where what stands inside may have the height

abbrev pub body_level : Reader Token (List Sp) → Reader Token Sx
body_level specs = mapped specs_of (both (token_by (the SIG)) specs)

abbrev pub head_level : Reader Token (List Sp) → Reader Token Sx
head_level specs = else_if (is SIG) (body_level specs) (mapped sig_at (token_by strid))

-- what follows the first name behind `type`: further names, or its right side and further ones with theirs
pub data Behind : Type 0 where
  Names : List Named → Behind
  Equal : Tx × List Tb → Behind

abbrev pub behind_height : Behind → ℕ
behind_height (Behind.Names xs) = 0
behind_height (Behind.Equal x) = max x.0.1 (highest height_of x.1)

abbrev pub opt_behind_height : Option Behind → ℕ
opt_behind_height None = 0
opt_behind_height (Some x) = behind_height x

abbrev pub types_in : Place → Named → Option Behind → Spec
types_in p x None = roll-Spec (Spec-F.TySpec p (x ∷ []))
types_in p x (Some (Behind.Names xs)) = roll-Spec (Spec-F.TySpec p (x ∷ xs))
types_in p x (Some (Behind.Equal y)) = roll-Spec (Spec-F.SynSpec p ((x.0, x.1, y.0.0) ∷ trees y.1))

abbrev pub types_of : Place × (Named × Option Behind) → Sp
types_of x = (types_in x.0 x.1.0 x.1.1, suc (opt_behind_height x.1.1))

abbrev pub data_in : Place → Data → Spec
data_in p (Data.Copied x) = roll-Spec (Spec-F.CopySpec p x.0 x.1)
data_in p (Data.Described x) = roll-Spec (Spec-F.DataSpec p (x.0.0 ∷ trees x.1))

abbrev pub data_of : Place × Data → Sp
data_of x = (data_in x.0 x.1, suc (data_height x.1))

abbrev pub equal_read : Reader Token LongIdent → Reader Token (LongIdent × List LongIdent)
equal_read p = both p (skip (is EQUALS) (seps (is EQUALS) p))

abbrev pub sharing_read : Reader Token Sp
sharing_read = mapped sharing_of (ended (tokens_of spec_goes) (both (token_by (the SHARING))
    (else_if (is TYPE) (mapped Shared.OfTypes (skip (is TYPE) (equal_read (token_by long_tycon)))) (mapped Shared.OfStructures (equal_read (token_by long_strid))))))

abbrev pub behind_read : Reader Token Tx → ℕ → Reader Token Behind
behind_read ty h =
    else_by (is AND) 0 (mapped Behind.Names (many_read (is AND) (skip (is AND) named_read)))
    (only (is EQUALS) 1 (mapped Behind.Equal (both (skip (is EQUALS) ty) (row (is AND) (skip (is AND) (tybind_read ty))))) h) h

abbrev pub begins_behind : Token → Bool
begins_behind = tokens_of (union (just AND) (just EQUALS))

abbrev pub val_read : Reader Token Tx → Reader Token Vs
val_read ty = both (token_by any_vid) (skip (is COLON) ty)

-- what no specification may be followed by is refused at once
abbrev pub other_level : Reader Token Tx → Reader Token Cs → Reader Token (List Ss) → ℕ → Reader Token Sp
other_level ty cons strs h =
    else_by (is EQTYPE) 0 (mapped eqtypes_of (ended (tokens_of spec_goes) (both (token_by (the EQTYPE)) (seps (is AND) named_read))))
    (else_by (is SHARING) 0 sharing_read
    (else_by (is TYPE) 0 (mapped types_of (ended (tokens_of spec_goes) (both (token_by (the TYPE)) (both named_read (maybe begins_behind 0 (behind_read ty h) h)))))
    (else_by (is DATATYPE) 0 (mapped data_of (both (token_by (the DATATYPE)) (data_read spec_goes cons h)))
    (else_by (is EXCEPTION) 0 (mapped exns_of (ended (tokens_of spec_goes) (both (token_by (the EXCEPTION)) (seps (is AND) (con_read ty h)))))
    (else_by (is VAL) 1 (mapped vals_of (ended (tokens_of spec_goes) (both (token_by (the VAL)) (seps (is AND) (val_read ty)))))
    (only (is STRUCTURE) 1 (mapped strs_of (ended (tokens_of spec_goes) (both (token_by (the STRUCTURE)) strs))) h) h) h) h) h) h) h

abbrev pub spec_level : Reader Token Tx → Reader Token Cs → Reader Token Sx → Reader Token (List Ss) → ℕ → Reader Token Sp
spec_level ty cons lean strs h = else_if (is INCLUDE) (include_read lean) (other_level ty cons strs h)

-- ---- rows of specifications up to a word

abbrev pub lone_in : Spec-F SigExp Spec → Bool
lone_in (Spec-F.Incl p s) = is_some (name_in (out-SigExp s))
lone_in _ = false

-- `include` with one identifier: where there is little room, more must follow
abbrev pub is_lone : Spec → Bool
is_lone t = lone_in (out-Spec t)

abbrev pub item_lone : Option Sp → Bool
item_lone None = false
item_lone (Some t) = is_lone t.0

abbrev pub lone_next : Bool → Option Sp → Bool
lone_next p u = item_lone u

abbrev pub item_read : Reader Token Sp → Reader Token (Option Sp)
item_read spec = else_if (is SEMICOLON) (mapped no_spec (one (is SEMICOLON))) (mapped some_spec spec)

-- behind one identifier there must be room for a signature
abbrev pub roomy_by : {T : Type 0} → Bool → (Token → Bool) → Reader Token T → ℕ → Reader Token T
roomy_by true test p h = guard (growth test true 2 h) p
roomy_by false test p h = p

abbrev pub specs_to : ℕ → Reader Token Sp → ℕ → Reader Token (List Sp)
specs_to word spec h = mapped (λ x. present x.0)
    (bound (steps begins_item lone_next (λ p. roomy_by p begins_item (item_read spec) h) false) (λ us. roomy_by (ups lone_next false us) (is word) (one (is word)) h))

-- ---- all heights

unfoldable mutual
  pub body_read : ℕ → Reader Token Sx
  body_read zero s = shut (is SIG) s
  body_read (suc h) s = body_level (specs_to END (spec_read h) h) s

  pub head_read : ℕ → Reader Token Sx
  head_read zero s = shut begins_sig s
  head_read (suc h) s = head_level (specs_to END (spec_read h) h) s

  pub spec_read : ℕ → Reader Token Sp
  spec_read zero s = shut begins_spec s
  spec_read (suc h) s = spec_level (ty_read h) (cons_read h) (lean_level (body_read h) (real_bind_read h) h) (strs_level COLON (head_read h) (real_bind_read h) h) h s

-- a signature expression of at most this height
abbrev pub sig_read : ℕ → Reader Token Sx
sig_read h = sig_level (head_read h) (real_bind_read h) h

-- the same in a room
abbrev pub body_in : Room → Reader Token Sx
body_in r = body_read r.height

abbrev pub head_in : Room → Reader Token Sx
head_in r = head_read r.height

abbrev pub sig_in : Room → Reader Token Sx
sig_in r = sig_read r.height

abbrev pub spec_in : Room → Reader Token Sp
spec_in r = spec_read r.height

-- a row of specifications of at most this height in parentheses
abbrev pub enclosed_read : ℕ → Reader Token (Place × List Sp)
enclosed_read h = both (token_by (the OPEN_PAREN)) (specs_to CLOSE_PAREN (spec_read h) h)

abbrev pub enclosed_in : Room → Reader Token (Place × List Sp)
enclosed_in r = enclosed_read r.height
