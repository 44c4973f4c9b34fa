-- The readers of the grammar part by part, by the directives in force and the height that stands inside: what the functions of
-- the code give.
use Rattle.std.specs.Prelude.{ℕ, Bool, true, false, List, Option, map, Ok}
use Rattle.tl_text.specs.declared.place.Place.{Place}
use Rattle.readers.specs.Reader.{Reader, ◌>>=◌, both, bound, mapped, token_by, skip, close, one, else_by, row, steps, guard, no_more}
use Rattle.readers.specs.Forms.{ended, else_if, growth, nothing, optional}
use Rattle.sml_lex.specs.declared.token.Token.{Token}
use Rattle.sml_ast.specs.declared.program.Program.{Program}
use Rattle.sml_grammar.specs.Words.{AND, CLOSE_PAREN, COLON, END, EQUALS, IN, OPEN_PAREN, SEAL, SEMICOLON}
use Rattle.sml_grammar.specs.Tokens.{is, the, tokens_of, alphas, strid}
use Rattle.sml_grammar.specs.Types.{Ident}
use Rattle.sml_grammar_exp.specs.Decs.{Changes, fixed}
use Rattle.sml_grammar_exp.specs.ReadLevels.{dec_read, exp_read}
use Rattle.sml_grammar_sig.specs.Sigs.{Sx, is_real}
use Rattle.sml_grammar_sig.specs.ReadDescs.{real_bind_read}
use Rattle.sml_grammar_sig.specs.ReadSigs.{head_read, sig_read, strs_level}
use Rattle.sml_grammar_mod.specs.Strs.{St, Sd, Sb, Ax, Gb, Fb, Param, clear_of, opaque_of, core_of, str_after, str_afters, strbind_of, sigbind_of, funbind_of}
use Rattle.sml_grammar_mod.specs.ReadStrs as read
use Rattle.sml_grammar_mod.specs.ReadStrs.{Argument, Bind, Growing, Seal, ascription_read, argument_read, base_level, base_read, begins_ascribe, begins_strdec, bind_read, funbinds_read, named_of, param_read, row_level, sigbinds_read, str_item_read, str_read, strbinds_read, strdec_goes, strdec_level, strdec_read, strdecs_level}
use Rattle.sml_grammar_mod.specs.Programs.{Tp, Pr, Item, Before, after_item}
use Rattle.sml_grammar_mod.specs.ReadPrograms as tops
use Rattle.sml_grammar_mod.specs.ReadPrograms.{going_on, here_read, item_read, program_level, program_read, run_read, top_read}
use Rattle.sml_parse_mod.specs.declared.functors.Param.{Param as Parameter}
use Rattle.sml_parse_mod.specs.Trees as trees
use Rattle.sml_parse_mod.specs.Trees.{Turned}

abbrev pub no_tree : List (Unit {0}) → Unit {0}
no_tree us = tt

-- ---- ascriptions

abbrev pub clear : ℕ → Reader Token Ax
clear h = mapped clear_of (both (token_by (the COLON)) (sig_read h))

abbrev pub opaque : ℕ → Reader Token Ax
opaque h = mapped opaque_of (both (token_by (the SEAL)) (sig_read h))

-- an ascription whose types are still to come, where the signature may have this height
abbrev pub seal_level : ℕ → Reader Token Seal
seal_level h = else_if (is COLON) (mapped (read.marked false) (both (token_by (the COLON)) (head_read h))) (mapped (read.marked true) (both (token_by (the SEAL)) (head_read h)))

-- the same behind a structure expression
abbrev pub seals : ℕ → Growing → Reader Token Seal
seals h g = guard (growth begins_ascribe true (read.above g) h) (read.seal_read h)

-- ---- a structure expression that grows by ascriptions, as far as they go

abbrev pub all_grown : ℕ → St → Reader Token St
all_grown h e = mapped read.all_grown (bound (nothing (Growing.Whole e)) (steps read.begins_grow read.grown_by (read.grow_read h)))

-- ---- what follows a binding

abbrev pub more : ℕ → Sx → Reader Token Turned
more h s = mapped (λ u. Turned.More (read.Grow.Types u)) (read.more_read h s)

abbrev pub there : ℕ → Sx → Reader Token Turned
there h s = mapped (λ u. Turned.More (read.Grow.Types u)) (read.there_read h s)

abbrev pub after_and : Bool → ℕ → Sx → Reader Token Turned
after_and true h s = else_if (tokens_of alphas) (nothing Turned.Next) (more h s)
after_and false h s = nothing Turned.Next

abbrev pub behind_signature : ℕ → Sx → Reader Token Turned
behind_signature h s = else_if (is AND) (skip (is AND) (after_and (is_real s) h s)) (there h s)

abbrev pub behind : ℕ → Growing → Reader Token Turned
behind h (Growing.Whole s) = mapped (λ u. Turned.Next) (one (is AND))
behind h (Growing.Sealed x) = behind_signature h x.1.1

abbrev pub turn : ℕ → Growing → Reader Token Turned
turn h g = else_if begins_ascribe (mapped (λ a. Turned.More (read.Grow.Seals a)) (seals h g)) (behind h g)

-- ---- declarations in rows

abbrev pub row_of_decs : Changes → ℕ → Reader Token (List Sd)
row_of_decs cs h = steps begins_strdec str_after (λ c. str_item_read (strdec_read h false c)) cs

abbrev pub decs : Changes → ℕ → Reader Token (List Sd)
decs cs h = strdecs_level (strdec_read h false) cs

abbrev pub closed_decs : ℕ → Changes → ℕ → Reader Token (List Sd)
closed_decs word cs h = close (decs cs h) (is word)

abbrev pub shown_decs : Changes → ℕ → Reader Token (List Sd)
shown_decs cs h = skip (is IN) (closed_decs END cs h)

-- ---- structure expressions

abbrev pub shown_str : Changes → ℕ → Reader Token St
shown_str cs h = skip (is IN) (close (str_read h false cs) (is END))

abbrev pub let_str : Changes → ℕ → Reader Token (List Sd × St)
let_str cs h = bound (decs cs h) (λ ds. shown_str (str_afters cs ds) h)

abbrev pub given : Changes → ℕ → Reader Token St
given cs h = close (str_read h false cs) (is CLOSE_PAREN)

-- behind an opening parenthesis
abbrev pub argument : Changes → ℕ → Reader Token Argument
argument cs h = else_by read.begins_str 1 (mapped Argument.Given (given cs h)) (mapped Argument.Body (closed_decs CLOSE_PAREN cs h)) h

abbrev pub named : Changes → ℕ → Reader Token St
named cs h = mapped named_of (both (token_by strid) (optional (is OPEN_PAREN) (argument_read (decs cs h) (str_read h false cs) h)))

abbrev pub base : Changes → ℕ → Reader Token St
base cs h = base_level (decs cs h) (str_read h false cs) (λ ds. str_read h false (str_afters cs ds)) h

-- ---- bindings

abbrev pub front : ℕ → Reader Token (Ident × Option Ax)
front h = both (token_by strid) (ascription_read h)

-- as far as the first ascription
abbrev pub value : Changes → ℕ → Reader Token Growing
value cs h = skip (is EQUALS) (mapped read.whole (base_read h false cs))

abbrev pub bind : Changes → ℕ → Reader Token (Bind (Ident × Option Ax))
bind cs h = bind_read (front h) (base_read h false cs)

abbrev pub binds : Changes → ℕ → Reader Token (List Sb)
binds cs h = mapped (map strbind_of) (row_level (bind cs h) h)

-- the same behind the first binding
abbrev pub binds_behind : Changes → ℕ → Bind (Ident × Option Ax) → Reader Token (List Sb)
binds_behind cs h x = mapped (map strbind_of) (mapped read.gathered (bound (nothing x) (steps read.begins_grow read.turned (read.turn_read (bind cs h) h))))

-- ---- declarations

abbrev pub local : Changes → ℕ → Reader Token (List Sd × List Sd)
local cs h = ended (tokens_of strdec_goes) (bound (decs cs h) (λ ds. shown_decs (str_afters cs ds) h))

abbrev pub structs : Changes → ℕ → Reader Token (List Sb)
structs cs h = ended (tokens_of strdec_goes) (strbinds_read h false cs)

abbrev pub core : Changes → ℕ → Reader Token Sd
core cs h = mapped core_of (ended (tokens_of strdec_goes) (dec_read h false cs))

abbrev pub declaration : Changes → ℕ → Reader Token Sd
declaration cs h = strdec_level (dec_read h false cs) (strbinds_read h false cs) (decs cs h) (λ ds. decs (str_afters cs ds) h) h

-- ---- signatures and functors

abbrev pub sigbinds : ℕ → Reader Token (List Gb)
sigbinds h = mapped (map sigbind_of) (strs_level EQUALS (head_read h) (real_bind_read h) h)

abbrev pub sigs : ℕ → Reader Token (List Gb)
sigs h = ended (tokens_of strdec_goes) (sigbinds_read h)

-- behind an opening parenthesis
abbrev pub param_named : ℕ → Reader Token (Ident × Sx)
param_named h = close (both (token_by strid) (skip (is COLON) (sig_read h))) (is CLOSE_PAREN)

abbrev pub functor_front : ℕ → Reader Token (Ident × (Param × Option Ax))
functor_front h = both (token_by strid) (both (param_read h) (ascription_read h))

abbrev pub functor_bind : Changes → ℕ → Reader Token (Bind (Ident × (Param × Option Ax)))
functor_bind cs h = bind_read (functor_front h) (base_read h false cs)

-- the same with what stands in the parentheses as the code has it
abbrev pub functor : Changes → ℕ → Reader Token (Bind (Ident × (Parameter × Option Ax)))
functor cs h = mapped trees.bind_front (functor_bind cs h)

abbrev pub functors : Changes → ℕ → Reader Token (List Fb)
functors cs h = mapped (map funbind_of) (row_level (functor_bind cs h) h)

abbrev pub funs : Changes → ℕ → Reader Token (List Fb)
funs cs h = ended (tokens_of strdec_goes) (funbinds_read h false cs)

-- ---- programs

abbrev pub top_level : Changes → ℕ → Reader Token Tp
top_level cs h = tops.top_level (strdec_read h false cs) (sigbinds_read h) (funbinds_read h false cs) h

abbrev pub run_level : Changes → ℕ → Reader Token Tp
run_level cs h = tops.run_level (fixed cs) (exp_read h false cs) h

abbrev pub here : Changes → ℕ → Before → Reader Token Tp
here cs h b = here_read (top_read h false cs) (run_read h false cs) b

abbrev pub item : Changes → ℕ → Before → Reader Token Item
item cs h b = item_read (top_read h false) (run_read h false) (cs, b)

abbrev pub items : Changes → ℕ → Reader Token (List Item)
items cs h = steps going_on after_item (item_read (top_read h false) (run_read h false)) (cs, Before.Fresh)

abbrev pub opening : Reader Token (List Place)
opening = row (is SEMICOLON) (token_by (the SEMICOLON))

abbrev pub program : Changes → ℕ → Reader Token Pr
program cs h = program_level (top_read h false) (run_read h false) cs

-- a program that is all of the tokens
abbrev pub whole : Changes → Reader Token Program
whole cs s = program_read 1000 false cs s >>= λ x. no_more x.1 >>= λ u. Ok (x.0.0, u.1)
