-- Reading structure expressions, declarations at structure level and bindings: one token of view, and behind `and` a second one.
use Rattle.std.specs.Prelude.{ℕ, zero, suc, Bool, true, false, List, [], ◌∷◌, Option, Some, None, max, map}
use Rattle.tl_text.specs.declared.place.Place.{Place}
use Rattle.readers.specs.Reader.{Reader, both, bound, mapped, token_by, skip, close, else_by, only, steps, guard, shut}
use Rattle.readers.specs.Infix.{ups}
use Rattle.readers.specs.Forms.{maybe, optional, else_if, ended, growth, highest, height_of, at_least}
use Rattle.sml_lex.specs.declared.token.Token.{Token}
use Rattle.sml_ast.specs.declared.exp.AtExp.TheOpen.{Dec-F}
use Rattle.sml_ast.specs.declared.exp.Dec.{Dec, roll-Dec}
use Rattle.sml_ast.specs.declared.program.StrBind.TheOpen.{StrDec-F}
use Rattle.sml_ast.specs.declared.program.StrDec.{roll-StrDec}
use Rattle.sml_grammar.specs.Words.{AND, CLOSE_PAREN, COLON, END, EQUALS, IN, LET, LOCAL, OPEN_PAREN, SEAL, SEMICOLON, STRUCT, STRUCTURE, TYPE, WHERE}
use Rattle.sml_grammar.specs.Tokens.{Firsts, just, union, is, the, tokens_of, alphas, long_alphas, long_strid, strid}
use Rattle.sml_grammar.specs.Types.{Ident}
use Rattle.sml_grammar_exp.specs.Exps.{De}
use Rattle.sml_grammar_exp.specs.Decs.{Changes}
use Rattle.sml_grammar_exp.specs.ReadDecs.{dec_goes, dec_firsts, semis_read}
use Rattle.sml_grammar_exp.specs.ReadLevels.{dec_read}
use Rattle.sml_grammar_sig.specs.Descs.{Re}
use Rattle.sml_grammar_sig.specs.ReadDescs.{real_bind_read}
use Rattle.sml_grammar_sig.specs.Sigs.{Sx, is_real}
use Rattle.sml_grammar_sig.specs.ReadSigs.{Suffix, at_and, suffixed, below, where_read, suffix_read, head_read, sig_read, spec_read, specs_to, strs_level, goes_on, sig_goes}
use Rattle.sml_grammar_mod.specs.Strs.{St, Sd, Sb, Ax, Gb, Fb, Param, str_after, str_afters, clear_of, opaque_of, body_of, at_of, call_of, call_body_of, let_str_of, seal_of, core_of, core_dec, structs_of, local_str_of, strbind_of, sigbind_of, funbind_of, strdec_alone, strdecs_alone}

-- ---- what they begin with, and what they go on with

abbrev pub ascribe_firsts : Firsts
ascribe_firsts = union (just COLON) (just SEAL)

abbrev pub begins_ascribe : Token → Bool
begins_ascribe = tokens_of ascribe_firsts

abbrev pub str_firsts : Firsts
str_firsts = union long_alphas (union (just STRUCT) (just LET))

abbrev pub begins_str : Token → Bool
begins_str = tokens_of str_firsts

-- ascriptions and what goes on with the last one
abbrev pub grow_firsts : Firsts
grow_firsts = union ascribe_firsts sig_goes

abbrev pub begins_grow : Token → Bool
begins_grow = tokens_of grow_firsts

abbrev pub strdec_firsts : Firsts
strdec_firsts = union (just STRUCTURE) dec_firsts

abbrev pub begins_strdec : Token → Bool
begins_strdec = tokens_of strdec_firsts

-- with which some declaration at structure level goes on
abbrev pub strdec_goes : Firsts
strdec_goes = union dec_goes grow_firsts

abbrev pub str_item_goes : Firsts
str_item_goes = union strdec_goes (just SEMICOLON)

abbrev pub strdecs_goes : Firsts
strdecs_goes = union str_item_goes strdec_firsts

-- what stands one level lower; where there is none, the test tells whether it could begin
abbrev pub inner : {T : Type 0} → (Token → Bool) → (ℕ → Reader Token T) → ℕ → Reader Token T
inner test p zero = shut test
inner test p (suc h) = p h

-- ---- ascriptions

abbrev pub ascribe_level : Reader Token Sx → ℕ → Reader Token Ax
ascribe_level sig h = only begins_ascribe 1 (else_if (is COLON) (mapped clear_of (both (token_by (the COLON)) sig)) (mapped opaque_of (both (token_by (the SEAL)) sig))) h

-- an ascription of at most this height
abbrev pub ascribe_read : ℕ → Reader Token Ax
ascribe_read = inner begins_ascribe (λ h. ascribe_level (sig_read h) h)

-- ---- structure expressions that grow by ascriptions, the last of which grows by types

-- whether it is opaque, its place, and its signature so far
abbrev pub Seal : Type 0
Seal = (Bool × Place) × Sx

abbrev pub marked : Bool → Place × Sx → Seal
marked opaque x = ((opaque, x.0), x.1)

abbrev pub ascribed_by : Bool → Place → Sx → Ax
ascribed_by false p s = clear_of (p, s)
ascribed_by true p s = opaque_of (p, s)

abbrev pub ascribed : Seal → Ax
ascribed a = ascribed_by a.0.0 a.0.1 a.1

-- one that ends with no ascription, or with this one
pub data Growing : Type 0 where
  Whole : St → Growing
  Sealed : St × Seal → Growing

abbrev pub whole : St → Growing
whole s = Growing.Whole s

abbrev pub grown_str : Growing → St
grown_str (Growing.Whole s) = s
grown_str (Growing.Sealed x) = seal_of (x.0, ascribed x.1)

-- a further ascription, or a type for the last one
pub data Grow : Type 0 where
  Seals : Seal → Grow
  Types : Suffix → Grow

abbrev pub typed_by : Growing → Suffix → Growing
typed_by (Growing.Whole s) u = Growing.Whole s
typed_by (Growing.Sealed x) u = Growing.Sealed (x.0, (x.1.0, suffixed x.1.1 u))

abbrev pub grown_by : Growing → Grow → Growing
grown_by g (Grow.Seals a) = Growing.Sealed (grown_str g, a)
grown_by g (Grow.Types u) = typed_by g u

abbrev pub all_grown : Growing × List Grow → St
all_grown x = grown_str (ups grown_by x.0 x.1)

-- the least height with an ascription behind it, which has one of two itself
abbrev pub above : Growing → ℕ
above g = suc (at_least 2 (grown_str g))

abbrev pub seal_level : Reader Token Sx → ℕ → Reader Token Seal
seal_level head h = only begins_ascribe 1 (else_if (is COLON) (mapped (marked false) (both (token_by (the COLON)) head)) (mapped (marked true) (both (token_by (the SEAL)) head))) h

-- what a structure expression of at most this height goes on with: an ascription whose types are still to come
abbrev pub seal_read : ℕ → Reader Token Seal
seal_read = inner begins_ascribe (inner begins_ascribe (λ h. seal_level (head_read h) h))

abbrev pub seals_read : ℕ → Growing → Reader Token Grow
seals_read h g = mapped Grow.Seals (guard (growth begins_ascribe true (above g) h) (seal_read h))

-- with what a signature goes on, by whether it ends with `where`
abbrev pub suffix_begins : Bool → Token → Bool
suffix_begins true = goes_on
suffix_begins false = is WHERE

-- a type behind its last signature, where no `and` of a row may follow
abbrev pub types_read : ℕ → Sx → Reader Token Suffix
types_read h s = inner (suffix_begins (is_real s)) (inner (suffix_begins (is_real s)) (λ k. suffix_read (real_bind_read k) k s)) h

abbrev pub grow_read : ℕ → Growing → Reader Token Grow
grow_read h (Growing.Whole s) = seals_read h (Growing.Whole s)
grow_read h (Growing.Sealed x) = else_if begins_ascribe (seals_read h (Growing.Sealed x)) (mapped Grow.Types (types_read h x.1.1))

-- of at most this height, as what it begins with
abbrev pub str_level : Reader Token St → ℕ → Reader Token St
str_level base h = mapped all_grown (bound (mapped whole base) (steps begins_grow grown_by (grow_read h)))

-- ---- rows of bindings: behind `and` comes a type for the last ascription, or the next binding

-- the front of a binding, up to its `=`, and the structure expression behind it
abbrev pub Bind : Type 0 → Type 0
Bind F = F × Growing

pub data Turn (F : Type 0) : Type 0 where
  More : Grow → Turn F
  Next : F × Growing → Turn F

abbrev pub turned : {F : Type 0} → Bind F → Turn F → Bind F
turned x (Turn.More u) = (x.0, grown_by x.1 u)
turned x (Turn.Next y) = y

abbrev pub gathered_from : {F : Type 0} → Bind F → List (Turn F) → List (Bind F)
gathered_from x [] = x ∷ []
gathered_from x (Turn.More u ∷ us) = gathered_from (x.0, grown_by x.1 u) us
gathered_from x (Turn.Next y ∷ us) = x ∷ gathered_from y us

-- each front with its structure expression
abbrev pub gathered : {F : Type 0} → Bind F × List (Turn F) → List (F × St)
gathered x = map (λ y. (y.0, grown_str y.1)) (gathered_from x.0 x.1)

abbrev pub bind_read : {F : Type 0} → Reader Token F → Reader Token St → Reader Token (Bind F)
bind_read front base = both front (skip (is EQUALS) (mapped whole base))

abbrev pub next_read : {F : Type 0} → Reader Token (Bind F) → Reader Token (Turn F)
next_read bind = mapped Turn.Next bind

-- a type behind this signature, of a structure expression of at most this height: after `and`, and with its `where`
abbrev pub more_read : ℕ → Sx → Reader Token Suffix
more_read h s = mapped at_and (inner (is TYPE) (inner (is TYPE) (λ k. guard (growth (is TYPE) true (below s) k) (skip (is TYPE) (real_bind_read k)))) h)

abbrev pub there_read : ℕ → Sx → Reader Token Suffix
there_read h s = inner (is WHERE) (inner (is WHERE) (λ k. guard (growth (is WHERE) true (below s) k) (where_read (real_bind_read k)))) h

abbrev pub type_turn : {F : Type 0} → Suffix → Turn F
type_turn u = Turn.More (Grow.Types u)

-- behind a signature that ends with `where`, and behind another one
abbrev pub turn_by : {F : Type 0} → Bool → Reader Token (Bind F) → ℕ → Sx → Reader Token (Turn F)
turn_by true bind h s = else_if (is AND) (skip (is AND) (else_if (tokens_of alphas) (next_read bind) (mapped type_turn (more_read h s)))) (mapped type_turn (there_read h s))
turn_by false bind h s = else_if (is AND) (skip (is AND) (next_read bind)) (mapped type_turn (there_read h s))

abbrev pub behind_read : {F : Type 0} → Reader Token (Bind F) → ℕ → Growing → Reader Token (Turn F)
behind_read bind h (Growing.Whole s) = skip (is AND) (next_read bind)
behind_read bind h (Growing.Sealed x) = turn_by (is_real x.1.1) bind h x.1.1

abbrev pub turn_read : {F : Type 0} → Reader Token (Bind F) → ℕ → Bind F → Reader Token (Turn F)
turn_read bind h x = else_if begins_ascribe (mapped Turn.More (seals_read h x.1)) (behind_read bind h x.1)

-- bindings whose structure expressions have at most this height
abbrev pub row_level : {F : Type 0} → Reader Token (Bind F) → ℕ → Reader Token (List (F × St))
row_level bind h = mapped gathered (bound bind (λ x. steps begins_grow turned (turn_read bind h) x))

abbrev pub ascription_read : ℕ → Reader Token (Option Ax)
ascription_read h = maybe begins_ascribe 2 (ascribe_read h) h

abbrev pub strbinds_level : Reader Token St → ℕ → Reader Token (List Sb)
strbinds_level base h = only (tokens_of alphas) 1 (mapped (map strbind_of) (row_level (bind_read (both (token_by strid) (ascription_read h)) base) h)) h

-- ---- rows of bindings of signatures

abbrev pub sigbinds_level : Reader Token Sx → Reader Token Re → ℕ → Reader Token (List Gb)
sigbinds_level head real h = only (tokens_of alphas) 1 (mapped (map sigbind_of) (strs_level EQUALS head real h)) h

unfoldable pub sigbinds_read : ℕ → Reader Token (List Gb)
sigbinds_read zero s = shut (tokens_of alphas) s
sigbinds_read (suc h) s = sigbinds_level (head_read h) (real_bind_read h) h s

-- ---- one level, where what stands inside may have the height

-- what stands in the parentheses behind the name of a functor
pub data Argument : Type 0 where
  Given : St → Argument
  Body : List Sd → Argument

abbrev pub named_by : Ident → Option Argument → St
named_by v None = at_of (v.0, v.1 ∷ [])
named_by v (Some (Argument.Given e)) = call_of (v, e)
named_by v (Some (Argument.Body ds)) = call_body_of (v, ds)

-- a structure, or a functor with its argument
abbrev pub named_of : Ident × Option Argument → St
named_of x = named_by x.0 x.1

abbrev pub argument_read : Reader Token (List Sd) → Reader Token St → ℕ → Reader Token Argument
argument_read decs str h = skip (is OPEN_PAREN) (else_by begins_str 1 (mapped Argument.Given (close str (is CLOSE_PAREN))) (mapped Argument.Body (close decs (is CLOSE_PAREN))) h)

abbrev pub base_level : Reader Token (List Sd) → Reader Token St → (List Sd → Reader Token St) → ℕ → Reader Token St
base_level decs str after h =
    else_by (is STRUCT) 0 (mapped body_of (both (token_by (the STRUCT)) (close decs (is END))))
    (else_by (is LET) 1 (mapped let_str_of (both (token_by (the LET)) (bound decs (λ ds. skip (is IN) (close (after ds) (is END))))))
    (else_if (tokens_of alphas) (mapped named_of (both (token_by strid) (optional (is OPEN_PAREN) (argument_read decs str h))))
    (mapped at_of (token_by long_strid))) h) h

abbrev pub core_with : Option Dec → Option (List Dec) → Option (List Dec)
core_with None ds = None
core_with (Some d) None = None
core_with (Some d) (Some ds) = Some (d ∷ ds)

-- the declarations of the core that they are, if they all are
abbrev pub cores : List Sd → Option (List Dec)
cores [] = Some []
cores (d ∷ ds) = core_with (core_dec d.0) (cores ds)

-- a `local` of the core where all members are, with its least height
abbrev pub local_by : Place × (List Sd × List Sd) → Option (List Dec) → Option (List Dec) → Sd
local_by x None es = local_str_of x
local_by x (Some ds) None = local_str_of x
local_by x (Some ds) (Some es) =
    (roll-StrDec (StrDec-F.Core x.0 (roll-Dec (Dec-F.Local x.0 ds es))), max 2 (suc (max (highest height_of x.1.0) (highest height_of x.1.1))))

abbrev pub any_local_of : Place × (List Sd × List Sd) → Sd
any_local_of x = local_by x (cores x.1.0) (cores x.1.1)

abbrev pub local_read : Reader Token (List Sd) → (List Sd → Reader Token (List Sd)) → Reader Token Sd
local_read decs after = mapped any_local_of (ended (tokens_of strdec_goes) (both (token_by (the LOCAL)) (bound decs (λ ds. skip (is IN) (close (after ds) (is END))))))

-- what no declaration may be followed by is refused at once
abbrev pub strdec_level : Reader Token De → Reader Token (List Sb) → Reader Token (List Sd) → (List Sd → Reader Token (List Sd)) → ℕ → Reader Token Sd
strdec_level dec binds decs after h =
    else_by (is LOCAL) 1 (local_read decs after)
    (else_by (is STRUCTURE) 2 (mapped structs_of (ended (tokens_of strdec_goes) (both (token_by (the STRUCTURE)) binds)))
    (mapped core_of (ended (tokens_of strdec_goes) dec)) h) h

abbrev pub str_item_read : Reader Token Sd → Reader Token Sd
str_item_read dec = mapped strdec_alone (ended (tokens_of str_item_goes) (both dec semis_read))

abbrev pub strdecs_level : (Changes → Reader Token Sd) → Changes → Reader Token (List Sd)
strdecs_level dec cs = mapped strdecs_alone (ended (tokens_of strdecs_goes) (both semis_read (steps begins_strdec str_after (λ c. str_item_read (dec c)) cs)))

abbrev pub param_read : ℕ → Reader Token Param
param_read h =
    skip (is OPEN_PAREN)
    (else_if (tokens_of alphas) (mapped Param.Named (close (both (token_by strid) (skip (is COLON) (sig_read h))) (is CLOSE_PAREN)))
    (mapped Param.Opened (specs_to CLOSE_PAREN (spec_read h) h)))

abbrev pub funbinds_level : Reader Token St → ℕ → Reader Token (List Fb)
funbinds_level base h = only (tokens_of alphas) 1 (mapped (map funbind_of) (row_level (bind_read (both (token_by strid) (both (param_read h) (ascription_read h))) base) h)) h

-- ---- all heights

unfoldable mutual
  -- without ascription
  pub base_read : ℕ → Bool → Changes → Reader Token St
  base_read zero b cs s = shut begins_str s
  base_read (suc h) b cs s =
      base_level (strdecs_level (strdec_read h b) cs) (str_level (base_read h b cs) h) (λ ds. str_level (base_read h b (str_afters cs ds)) h) h s

  -- bindings of at most this height with `and` between
  pub strbinds_read : ℕ → Bool → Changes → Reader Token (List Sb)
  strbinds_read zero b cs s = shut (tokens_of alphas) s
  strbinds_read (suc h) b cs s = strbinds_level (base_read h b cs) h s

  -- a declaration of at most this height
  pub strdec_read : ℕ → Bool → Changes → Reader Token Sd
  strdec_read zero b cs s = shut begins_strdec s
  strdec_read (suc h) b cs s =
      strdec_level (dec_read h b cs) (strbinds_read h b cs) (strdecs_level (strdec_read h b) cs) (λ ds. strdecs_level (strdec_read h b) (str_afters cs ds)) h s

-- a structure expression of at most this height, where no `and` of a row may follow
abbrev pub str_read : ℕ → Bool → Changes → Reader Token St
str_read h b cs = str_level (base_read h b cs) h

unfoldable pub funbinds_read : ℕ → Bool → Changes → Reader Token (List Fb)
funbinds_read zero b cs s = shut (tokens_of alphas) s
funbinds_read (suc h) b cs s = funbinds_level (base_read h b cs) h s
